-- The steps that read a call. Each gives what it read and what follows, or how much of the line is left where a part does not fit. Assumes nothing.
use Rattle.std.specs.Prelude.{◌≡◌, ℕ, ◌-◌, ◌≤◌, cond, List, [], ◌∷◌, length, Some, None, Ok, Err, Option, Result, ◌==◌, nat_le}
use Rattle.std.specs.Option.{option_map}
use Rattle.std.specs.Result.{result_ok, result_map_both}
use Rattle.std.specs.Str.{bytes_eq}
use Rattle.commands.specs.declared.call.Verb.{Verb}
use Rattle.commands.specs.declared.call.Verb.TheVariants.{Make, Write, Read, Flush, Seal, Poll, Checkpoint, Clean, Reap, Cut, Mount}
use Rattle.commands.specs.declared.call.StoreKind.{StoreKind}
use Rattle.commands.specs.declared.call.StoreKind.TheVariants.{Paged, Packed}
use Rattle.commands.specs.declared.call.DriveKind.{DriveKind}
use Rattle.commands.specs.declared.call.DriveKind.TheVariants.{Buffered, Direct}
use Rattle.commands.specs.declared.call.Fate.{Fate}
use Rattle.commands.specs.declared.call.Fate.TheVariants.{Kept, Lost}
use Rattle.commands.specs.Grammar.{Part, opening, closing, gap, word, number, bytes}
use Rattle.commands.specs.Tokens.{cut}
use Rattle.commands.specs.declared.call.Call.{Call}
use Rattle.commands.specs.declared.call.Bad.{Bad}
use Rattle.commands.specs.declared.token.reader.Misfit.{Misfit}
use Rattle.commands.specs.declared.token.reader.Mark.{Mark}
use Rattle.commands.specs.declared.token.reader.Mark.TheVariants.{Open, Close, Space}
use Rattle.commands.specs.Calls.{asked, items, written, AllFit, Asks, verb_word, store_word, drive_word, fate_word, Asked, make, write, read, flush, seal, poll, checkpoint, clean, reap, cut_kept, cut_lost, mount}

-- One step after another.
abbrev pub chain : {A B : Type 0} → Result A ℕ → (A → Result B ℕ) → Result B ℕ
chain (Ok x) f = f x
chain (Err e) f = Err e

-- What was read, turned into something else; or how much is left where a part does not fit.
abbrev pub turned : {A B : Type 0} → (A → B) → Result A Misfit → Result B ℕ
turned f r = result_map_both f (λ e. e.left) r

-- The word that is meant, of those listed.
abbrev pub named : {V : Type 0} → (V → List ℕ) → List V → List ℕ → Option V
named spell [] w = None
named spell (v ∷ vs) w = cond (bytes_eq w (spell v)) (Some v) (named spell vs w)

-- What a part is, if it is of the kind that is wanted.
abbrev pub the_opening : Part → Option (Unit {0})
the_opening opening = Some tt
the_opening p = None

abbrev pub the_closing : Part → Option (Unit {0})
the_closing closing = Some tt
the_closing p = None

abbrev pub the_gap : Part → Option (Unit {0})
the_gap gap = Some tt
the_gap p = None

abbrev pub the_mark : Mark → Part → Option (Unit {0})
the_mark Open = the_opening
the_mark Close = the_closing
the_mark Space = the_gap

abbrev pub the_number : Part → Option ℕ
the_number (number n) = Some n
the_number p = None

abbrev pub the_bytes : Part → Option (List ℕ)
the_bytes (bytes bs) = Some bs
the_bytes p = None

abbrev pub the_word : {V : Type 0} → (V → List ℕ) → List V → Part → Option V
the_word spell vs (word w) = named spell vs w
the_word spell vs p = None

-- All verbs, kinds and fates.
abbrev pub verbs : List Verb
verbs = Make ∷ Write ∷ Read ∷ Flush ∷ Seal ∷ Poll ∷ Checkpoint ∷ Clean ∷ Reap ∷ Cut ∷ Mount ∷ []

abbrev pub stores : List StoreKind
stores = Paged ∷ Packed ∷ []

abbrev pub drives : List DriveKind
drives = Buffered ∷ Direct ∷ []

abbrev pub fates : List Fate
fates = Kept ∷ Lost ∷ []

abbrev pub the_verb : Part → Option Verb
the_verb = the_word verb_word verbs

abbrev pub the_store : Part → Option StoreKind
the_store = the_word store_word stores

abbrev pub the_drive : Part → Option DriveKind
the_drive = the_word drive_word drives

abbrev pub the_fate : Part → Option Fate
the_fate = the_word fate_word fates

-- The part that was cut off, if it is of the kind that is wanted; else what was left before it.
abbrev pub picked : {A : Type 0} → ℕ → Option A → List ℕ → Result (A × List ℕ) ℕ
picked left None rest = Err left
picked left (Some x) rest = Ok (x, rest)

abbrev pub wanted : {A : Type 0} → (Part → Option A) → ℕ → Option (Part × List ℕ) → Result (A × List ℕ) ℕ
wanted kind left None = Err left
wanted kind left (Some x) = picked left (kind x.0) x.1

-- A part of the kind that is wanted, at the front of the line.
abbrev pub at : {A : Type 0} → (Part → Option A) → List ℕ → Result (A × List ℕ) ℕ
at kind line = wanted kind (length line) (cut line)

-- An item of the kind that is wanted, after one space.
abbrev pub item : {A : Type 0} → (Part → Option A) → List ℕ → Result (A × List ℕ) ℕ
item kind line = chain (at the_gap line) (λ x. at kind x.1)

-- What the cut leaves of the drive, and its numbers.
abbrev pub cut_items : Fate → List ℕ → Result (Asked × List ℕ) ℕ
cut_items Kept line = chain (item the_number line) (λ s. chain (item the_number s.1) (λ d. Ok (cut_kept s.0 d.0, d.1)))
cut_items Lost line = chain (item the_number line) (λ s. Ok (cut_lost s.0, s.1))

-- The items that follow a word.
abbrev pub items_of : Verb → List ℕ → Result (Asked × List ℕ) ℕ
items_of Make line = chain (item the_number line) (λ b. chain (item the_number b.1) (λ n. chain (item the_store n.1) (λ s. chain (item the_drive s.1) (λ d. Ok (make b.0 n.0 s.0 d.0, d.1)))))
items_of Write line = chain (item the_number line) (λ a. chain (item the_bytes a.1) (λ l. Ok (write a.0 l.0, l.1)))
items_of Read line = chain (item the_number line) (λ a. chain (item the_number a.1) (λ n. Ok (read a.0 n.0, n.1)))
items_of Flush line = Ok (flush, line)
items_of Seal line = Ok (seal, line)
items_of Poll line = Ok (poll, line)
items_of Checkpoint line = Ok (checkpoint, line)
items_of Clean line = chain (item the_number line) (λ o. Ok (clean o.0, o.1))
items_of Reap line = Ok (reap, line)
items_of Cut line = chain (item the_fate line) (λ f. cut_items f.0 f.1)
items_of Mount line = Ok (mount, line)

-- Nothing follows.
abbrev pub ended : Asked → List ℕ → Result Asked ℕ
ended a rest = cond (length rest == 0) (Ok a) (Err (length rest))

-- A whole line.
abbrev pub reading : List ℕ → Result Asked ℕ
reading line =
    chain (at the_opening line) (λ o.
    chain (at the_verb o.1) (λ v.
    chain (items_of v.0 v.1) (λ c.
    chain (at the_closing c.1) (λ z. ended c.0 z.1))))

-- How much was left where a part did not fit.
abbrev pub left_of : Result Asked ℕ → ℕ
left_of (Ok a) = 0
left_of (Err n) = n

-- Where the first part stands that does not fit its place; of a line of more than 255 bytes, where these end.
abbrev pub misfit : List ℕ → ℕ
misfit line = cond (nat_le (length line) 255) (length line - left_of (reading line)) 255

-- What is read from a line of any length: the call that is written so, or none, and how much is left where a part does not fit.
abbrev pub Found : List ℕ → Result Call Misfit → Type 0
Found line (Ok c) = (line ≡ written (asked c)) × AllFit (items (asked c))
Found line (Err e) = ((a : Asked) → line ≡ written a → AllFit (items a) → ⊥) × (e.left ≡ left_of (reading line))

-- What is read from a line: the call that the line asks for; or none, exactly where it asks for none, and where the first part stands that does not fit.
abbrev pub Parsed : List ℕ → Result Call Bad → Type 0
Parsed line (Ok c) = Asks line (asked c)
Parsed line (Err b) = ((a : Asked) → Asks line a → ⊥) × (b.at ≡ misfit line)

-- A call that is written in at most 255 bytes is read from them, whatever reads lines as it should.
abbrev pub ReadsBack : Type 0
ReadsBack = (a : Asked) → AllFit (items a) → length (written a) ≤ 255 → (r : Result Call Bad) → Parsed (written a) r → option_map asked (result_ok r) ≡ Some a
