-- The table of calls: the word and the items of each, and how it is written. Assumes nothing.
use Rattle.std.specs.Prelude.{◌≡◌, ℕ, ◌≤◌, List, [], ◌∷◌, ◌++◌, map, length, codes}
use Rattle.commands.specs.declared.call.Verb.{Verb}
use Rattle.commands.specs.declared.call.Verb.TheVariants.{Make, Write, Read, Flush, Seal, Poll, Checkpoint, Clean, Reap, Cut, Mount}
use Rattle.commands.specs.declared.call.StoreKind.{StoreKind}
use Rattle.commands.specs.declared.call.StoreKind.TheVariants.{Paged, Packed}
use Rattle.commands.specs.declared.call.DriveKind.{DriveKind}
use Rattle.commands.specs.declared.call.DriveKind.TheVariants.{Buffered, Direct}
use Rattle.commands.specs.declared.call.Fate.{Fate}
use Rattle.commands.specs.declared.call.Fate.TheVariants.{Kept, Lost}
use Rattle.commands.specs.declared.call.Call.{Call}
use Rattle.commands.specs.declared.call.Call.TheVariants as call
use Rattle.commands.specs.Grammar.{spaced, Part, word, number, bytes, spelt, Fit}
use Rattle.commands.specs.Values.{values}

-- The words.
abbrev pub verb_word : Verb → List ℕ
verb_word Make = codes "make"
verb_word Write = codes "write"
verb_word Read = codes "read"
verb_word Flush = codes "flush"
verb_word Seal = codes "seal"
verb_word Poll = codes "poll"
verb_word Checkpoint = codes "checkpoint"
verb_word Clean = codes "clean"
verb_word Reap = codes "reap"
verb_word Cut = codes "cut"
verb_word Mount = codes "mount"

abbrev pub store_word : StoreKind → List ℕ
store_word Paged = codes "paged"
store_word Packed = codes "packed"

abbrev pub drive_word : DriveKind → List ℕ
drive_word Buffered = codes "buffered"
drive_word Direct = codes "direct"

abbrev pub fate_word : Fate → List ℕ
fate_word Kept = codes "kept"
fate_word Lost = codes "lost"

-- What a line asks for, in plain values.
pub data Asked : Type 0 where
  make : ℕ → ℕ → StoreKind → DriveKind → Asked
  write : ℕ → List ℕ → Asked
  read : ℕ → ℕ → Asked
  flush : Asked
  seal : Asked
  poll : Asked
  checkpoint : Asked
  clean : ℕ → Asked
  reap : Asked
  cut_kept : ℕ → ℕ → Asked
  cut_lost : ℕ → Asked
  mount : Asked

-- What a call asks for.
abbrev pub asked : Call → Asked
asked (call.Make b n s d) = make b n s d
asked (call.Write a fill) = write a (values fill.text.now)
asked (call.Read a n) = read a n
asked call.Flush = flush
asked call.Seal = seal
asked call.Poll = poll
asked call.Checkpoint = checkpoint
asked (call.Clean o) = clean o
asked call.Reap = reap
asked (call.CutKept s d) = cut_kept s d
asked (call.CutLost s) = cut_lost s
asked call.Mount = mount

-- The table: the word of a call, and its items.
abbrev pub verb : Asked → Verb
verb (make b n s d) = Make
verb (write a bs) = Write
verb (read a n) = Read
verb flush = Flush
verb seal = Seal
verb poll = Poll
verb checkpoint = Checkpoint
verb (clean o) = Clean
verb reap = Reap
verb (cut_kept s d) = Cut
verb (cut_lost s) = Cut
verb mount = Mount

abbrev pub items : Asked → List Part
items (make b n s d) = number b ∷ number n ∷ word (store_word s) ∷ word (drive_word d) ∷ []
items (write a bs) = number a ∷ bytes bs ∷ []
items (read a n) = number a ∷ number n ∷ []
items (clean o) = number o ∷ []
items (cut_kept s d) = word (fate_word Kept) ∷ number s ∷ number d ∷ []
items (cut_lost s) = word (fate_word Lost) ∷ number s ∷ []
items a = []

-- A call is written as its word and its items in brackets, one space before each item.
abbrev pub written : Asked → List ℕ
written a = 40 ∷ (verb_word (verb a) ++ spaced (map spelt (items a)) (41 ∷ []))

-- Each part fits.
abbrev pub AllFit : List Part → Type 0
AllFit [] = Unit {0}
AllFit (p ∷ ps) = Fit p × AllFit ps

-- The line asks for a: it has at most 255 bytes, a is written so, and its numbers are in range.
pub record Asks (line : List ℕ) (a : Asked) : Type 0 where
  pub short : length line ≤ 255
  pub is : line ≡ written a
  pub fit : AllFit (items a)

-- No line asks for two calls.
abbrev pub OneMeaning : Type 0
OneMeaning = (line : List ℕ) (a b : Asked) → Asks line a → Asks line b → a ≡ b
