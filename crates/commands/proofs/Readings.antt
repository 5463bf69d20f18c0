-- Reading a line finds the call that is written so. Assumes nothing.
use Rattle.std.proofs.Common.{◌≡◌, ℕ, ◌^◌, ◌<◌, Bool, true, false, cond, eqb, List, [], ◌∷◌, ◌++◌, map, length, get_or, Some, None, Ok, Err, codes, decimal, Option, Result, sym, refl, ap, ◌∙◌, subst, append_assoc, lit<}
use Rattle.std.specs.Str.{bytes_eq}
use Rattle.std.proofs.lemmas.Slice.Eq.{bytes_eq-Decides}
use Rattle.std.proofs.lemmas.List.{nil_from_length}
use Rattle.std.proofs.lemmas.Bool.{eqb-true}
use Rattle.commands.specs.declared.call.Verb.{Verb}
use Rattle.commands.specs.declared.call.Verb.TheVariants.{Make, Write, Read, Flush, Seal, Poll, Checkpoint, Clean, Reap, Cut, Mount}
use Rattle.commands.specs.declared.call.StoreKind.{StoreKind}
use Rattle.commands.specs.declared.call.StoreKind.TheVariants.{Paged, Packed}
use Rattle.commands.specs.declared.call.DriveKind.{DriveKind}
use Rattle.commands.specs.declared.call.DriveKind.TheVariants.{Buffered, Direct}
use Rattle.commands.specs.declared.call.Fate.{Fate}
use Rattle.commands.specs.declared.call.Fate.TheVariants.{Kept, Lost}
use Rattle.commands.specs.declared.call.Call.{Call}
use Rattle.commands.specs.declared.token.reader.Misfit.{Misfit}
use Rattle.commands.proofs.Listings.{listed_end}
use Rattle.commands.specs.Numbers.{digit}
use Rattle.commands.specs.Grammar.{spaced, listed, letter, Part, opening, closing, gap, word, number, bytes, spelt, Fit, Ends, Begins}
use Rattle.commands.specs.Tokens.{cut}
use Rattle.commands.specs.Calls.{verb_word, store_word, drive_word, fate_word, Asked, make, write, read, flush, seal, poll, checkpoint, clean, reap, cut_kept, cut_lost, mount, verb, items, written, AllFit, asked, OneMeaning}
use Rattle.commands.specs.Reading.{chain, named, the_opening, the_closing, the_gap, the_number, the_bytes, the_word, verbs, stores, drives, fates, the_verb, the_store, the_drive, the_fate, picked, wanted, at, item, cut_items, items_of, ended, reading, turned, left_of, Found, ReadsBack}
use Rattle.commands.proofs.Cuts.{cut_is, cut_back}

ok_same : {A B : Type 0} (a b : A) (x y : B) → ◌≡◌ {A = Result (A × B) ℕ} (Ok (a, x)) (Ok (b, y)) → (a ≡ b) × (x ≡ y)
ok_same {A} {B} a b x y e = let z : ◌≡◌ {A = A × B} (a, x) (b, y) = cc in (ap (λ p. p.0) z, ap (λ p. p.1) z)

chain_is : {A B : Type 0} (o : Result A ℕ) (f : A → Result B ℕ) (y : B) → chain o f ≡ Ok y → (x : A) × (o ≡ Ok x) × (f x ≡ Ok y)
chain_is (Ok x) f y e = (x, refl, e)
chain_is (Err n) f y e = cc

chain_ok : {A B : Type 0} (o : Result A ℕ) (f : A → Result B ℕ) (x : A) (y : Result B ℕ) → o ≡ Ok x → f x ≡ y → chain o f ≡ y
chain_ok o f x y e h = ap (λ p. chain p f) e ∙ h

-- a part of the kind that is wanted
record Met {A : Type 0} (kind : Part → Option A) (line : List ℕ) (x : A) (r : List ℕ) : Type 0 where
  part : Part
  begins : Begins line part r
  kept : kind part ≡ Some x

at_is : {A : Type 0} (kind : Part → Option A) (line : List ℕ) (x : A) (r : List ℕ) → at kind line ≡ Ok (x, r) → Met kind line x r
at_is {A} kind line x r e = go (cut line) refl e where
  pick : (p : Part) (s : List ℕ) → cut line ≡ Some (p, s) → (o : Option A) → kind p ≡ o → picked (length line) o s ≡ Ok (x, r) → Met kind line x r
  pick p s q None k f = cc
  pick p s q (Some y) k f =
      let z = ok_same y x s r f in
      record { part = p; begins = subst (λ l. Begins line p l) z.1 (cut_is line p s q); kept = k ∙ ap Some z.0 }

  go : (o : Option (Part × List ℕ)) → cut line ≡ o → wanted kind (length line) o ≡ Ok (x, r) → Met kind line x r
  go None q f = cc
  go (Some p) q f = pick p.0 p.1 q (kind p.0) refl f

at_back : {A : Type 0} (kind : Part → Option A) (p : Part) (x : A) (r : List ℕ) → Fit p → Ends p r → kind p ≡ Some x → at kind (spelt p ++ r) ≡ Ok (x, r)
at_back kind p x r f e k =
    ap (wanted kind (length (spelt p ++ r))) (cut_back (spelt p ++ r) p r (record { is = refl; fit = f; ends = e }))
    ∙ ap (λ o. picked (length (spelt p ++ r)) o r) k

-- what part a kind wants
is_opening : (p : Part) (x : Unit {0}) → the_opening p ≡ Some x → p ≡ opening
is_opening opening x e = refl
is_opening p x e = cc

is_closing : (p : Part) (x : Unit {0}) → the_closing p ≡ Some x → p ≡ closing
is_closing closing x e = refl
is_closing p x e = cc

is_gap : (p : Part) (x : Unit {0}) → the_gap p ≡ Some x → p ≡ gap
is_gap gap x e = refl
is_gap p x e = cc

is_number : (p : Part) (x : ℕ) → the_number p ≡ Some x → p ≡ number x
is_number (number n) x e = cc
is_number p x e = cc

is_bytes : (p : Part) (x : List ℕ) → the_bytes p ≡ Some x → p ≡ bytes x
is_bytes (bytes bs) x e = cc
is_bytes p x e = cc

named_is : {V : Type 0} (spell : V → List ℕ) (vs : List V) (w : List ℕ) (v : V) → named spell vs w ≡ Some v → w ≡ spell v
named_is spell [] w v e = cc
named_is {V} spell (u ∷ us) w v e = go (bytes_eq w (spell u)) refl (named_is spell us w v) e where
  go : (b : Bool) → bytes_eq w (spell u) ≡ b → (named spell us w ≡ Some v → w ≡ spell v) → cond b (Some u) (named spell us w) ≡ Some v → w ≡ spell v
  go true h rec f = let z : u ≡ v = cc in (bytes_eq-Decides w (spell u)).0 h ∙ ap spell z
  go false h rec f = rec f

is_word : {V : Type 0} (spell : V → List ℕ) (vs : List V) (p : Part) (v : V) → the_word spell vs p ≡ Some v → p ≡ word (spell v)
is_word spell vs (word w) v e = ap word (named_is spell vs w v e)
is_word spell vs p v e = cc

-- the part that stands at the front of a line
met_is : {A : Type 0} (kind : Part → Option A) (form : A → Part) → ((p : Part) (x : A) → kind p ≡ Some x → p ≡ form x) → (line : List ℕ) (x : A) (r : List ℕ) → at kind line ≡ Ok (x, r) → Begins line (form x) r
met_is kind form inv line x r e = let m = at_is kind line x r e in subst (λ p. Begins line p r) (inv m.part x m.kept) m.begins

-- the item that stands after one space
item_is : {A : Type 0} (kind : Part → Option A) (form : A → Part) → ((p : Part) (x : A) → kind p ≡ Some x → p ≡ form x) → (line : List ℕ) (x : A) (r : List ℕ) → item kind line ≡ Ok (x, r) → (line ≡ 32 ∷ (spelt (form x) ++ r)) × Fit (form x)
item_is kind form inv line x r e =
    let w = chain_is (at the_gap line) (λ y. at kind y.1) (x, r) e in
    let g = met_is the_gap (λ _. gap) is_gap line w.0.0 w.0.1 w.1 in
    let m = met_is kind form inv w.0.1 x r w.2 in
    (g.is ∙ ap (λ l. 32 ∷ l) m.is, m.fit)

item_back : {A : Type 0} (kind : Part → Option A) (p : Part) (x : A) (r : List ℕ) → Fit p → Ends p r → kind p ≡ Some x → item kind (32 ∷ (spelt p ++ r)) ≡ Ok (x, r)
item_back kind p x r f e k = at_back kind p x r f e k

number_item : (line : List ℕ) (x : ℕ) (r : List ℕ) → item the_number line ≡ Ok (x, r) → (line ≡ 32 ∷ (decimal x ++ r)) × (x < 2 ^ 32)
number_item line x r e = item_is the_number number is_number line x r e

number_back : (n : ℕ) (r : List ℕ) → n < 2 ^ 32 → digit (get_or r 0 0) ≡ false → item the_number (32 ∷ (decimal n ++ r)) ≡ Ok (n, r)
number_back n r h e = item_back the_number (number n) n r h e refl

-- what the items of a word are
record Listed (v : Verb) (line : List ℕ) (a : Asked) (r : List ℕ) : Type 0 where
  verb_is : verb a ≡ v
  is : line ≡ spaced (map spelt (items a)) r
  fit : AllFit (items a)

by_same : (v : Verb) (line : List ℕ) (b a : Asked) (s r : List ℕ) → ◌≡◌ {A = Result (Asked × List ℕ) ℕ} (Ok (b, s)) (Ok (a, r)) → Listed v line b s → Listed v line a r
by_same v line b a s r e l = let z = ok_same b a s r e in subst (λ t. Listed v line a t) z.1 (subst (λ c. Listed v line c s) z.0 l)

cut_is_read : (f : Fate) (line : List ℕ) (a : Asked) (r : List ℕ) → cut_items f line ≡ Ok (a, r) → Listed Cut (32 ∷ (fate_word f ++ line)) a r
cut_is_read Kept line a r e =
    let u = chain_is (item the_number line) (λ s. chain (item the_number s.1) (λ d. Ok (cut_kept s.0 d.0, d.1))) (a, r) e in
    let v = chain_is (item the_number u.0.1) (λ d. Ok (cut_kept u.0.0 d.0, d.1)) (a, r) u.2 in
    let p = number_item line u.0.0 u.0.1 u.1 in
    let q = number_item u.0.1 v.0.0 v.0.1 v.1 in
    by_same Cut _ (cut_kept u.0.0 v.0.0) a v.0.1 r v.2 (record {
      verb_is = refl;
      is = ap (λ l. 32 ∷ (fate_word Kept ++ l)) (p.0 ∙ ap (λ l. 32 ∷ (decimal u.0.0 ++ l)) q.0);
      fit = ((lit< tt, refl), (p.1, (q.1, tt)));
    })
cut_is_read Lost line a r e =
    let u = chain_is (item the_number line) (λ s. Ok (cut_lost s.0, s.1)) (a, r) e in
    let p = number_item line u.0.0 u.0.1 u.1 in
    by_same Cut _ (cut_lost u.0.0) a u.0.1 r u.2 (record {
      verb_is = refl;
      is = ap (λ l. 32 ∷ (fate_word Lost ++ l)) p.0;
      fit = ((lit< tt, refl), (p.1, tt));
    })

items_is : (v : Verb) (line : List ℕ) (a : Asked) (r : List ℕ) → items_of v line ≡ Ok (a, r) → Listed v line a r
items_is Make line a r e =
    let u = chain_is (item the_number line) (λ b. chain (item the_number b.1) (λ n. chain (item the_store n.1) (λ s. chain (item the_drive s.1) (λ d. Ok (make b.0 n.0 s.0 d.0, d.1))))) (a, r) e in
    let v = chain_is (item the_number u.0.1) (λ n. chain (item the_store n.1) (λ s. chain (item the_drive s.1) (λ d. Ok (make u.0.0 n.0 s.0 d.0, d.1)))) (a, r) u.2 in
    let w = chain_is (item the_store v.0.1) (λ s. chain (item the_drive s.1) (λ d. Ok (make u.0.0 v.0.0 s.0 d.0, d.1))) (a, r) v.2 in
    let x = chain_is (item the_drive w.0.1) (λ d. Ok (make u.0.0 v.0.0 w.0.0 d.0, d.1)) (a, r) w.2 in
    let p = number_item line u.0.0 u.0.1 u.1 in
    let q = number_item u.0.1 v.0.0 v.0.1 v.1 in
    let s = item_is the_store (λ k. word (store_word k)) (is_word store_word stores) v.0.1 w.0.0 w.0.1 w.1 in
    let d = item_is the_drive (λ k. word (drive_word k)) (is_word drive_word drives) w.0.1 x.0.0 x.0.1 x.1 in
    by_same Make _ (make u.0.0 v.0.0 w.0.0 x.0.0) a x.0.1 r x.2 (record {
      verb_is = refl;
      is = p.0 ∙ ap (λ l. 32 ∷ (decimal u.0.0 ++ l)) (q.0 ∙ ap (λ l. 32 ∷ (decimal v.0.0 ++ l)) (s.0 ∙ ap (λ l. 32 ∷ (store_word w.0.0 ++ l)) d.0));
      fit = (p.1, (q.1, (s.1, (d.1, tt))));
    })
items_is Write line a r e =
    let u = chain_is (item the_number line) (λ b. chain (item the_bytes b.1) (λ l. Ok (write b.0 l.0, l.1))) (a, r) e in
    let v = chain_is (item the_bytes u.0.1) (λ l. Ok (write u.0.0 l.0, l.1)) (a, r) u.2 in
    let p = number_item line u.0.0 u.0.1 u.1 in
    let q = item_is the_bytes bytes is_bytes u.0.1 v.0.0 v.0.1 v.1 in
    by_same Write _ (write u.0.0 v.0.0) a v.0.1 r v.2 (record {
      verb_is = refl;
      is = p.0 ∙ ap (λ l. 32 ∷ (decimal u.0.0 ++ l)) q.0;
      fit = (p.1, (q.1, tt));
    })
items_is Read line a r e =
    let u = chain_is (item the_number line) (λ b. chain (item the_number b.1) (λ n. Ok (read b.0 n.0, n.1))) (a, r) e in
    let v = chain_is (item the_number u.0.1) (λ n. Ok (read u.0.0 n.0, n.1)) (a, r) u.2 in
    let p = number_item line u.0.0 u.0.1 u.1 in
    let q = number_item u.0.1 v.0.0 v.0.1 v.1 in
    by_same Read _ (read u.0.0 v.0.0) a v.0.1 r v.2 (record {
      verb_is = refl;
      is = p.0 ∙ ap (λ l. 32 ∷ (decimal u.0.0 ++ l)) q.0;
      fit = (p.1, (q.1, tt));
    })
items_is Flush line a r e = by_same Flush line flush a line r e (record { verb_is = refl; is = refl; fit = tt })
items_is Seal line a r e = by_same Seal line seal a line r e (record { verb_is = refl; is = refl; fit = tt })
items_is Poll line a r e = by_same Poll line poll a line r e (record { verb_is = refl; is = refl; fit = tt })
items_is Checkpoint line a r e = by_same Checkpoint line checkpoint a line r e (record { verb_is = refl; is = refl; fit = tt })
items_is Clean line a r e =
    let u = chain_is (item the_number line) (λ o. Ok (clean o.0, o.1)) (a, r) e in
    let p = number_item line u.0.0 u.0.1 u.1 in
    by_same Clean _ (clean u.0.0) a u.0.1 r u.2 (record { verb_is = refl; is = p.0; fit = (p.1, tt) })
items_is Reap line a r e = by_same Reap line reap a line r e (record { verb_is = refl; is = refl; fit = tt })
items_is Cut line a r e =
    let u = chain_is (item the_fate line) (λ f. cut_items f.0 f.1) (a, r) e in
    let s = item_is the_fate (λ k. word (fate_word k)) (is_word fate_word fates) line u.0.0 u.0.1 u.1 in
    subst (λ l. Listed Cut l a r) (sym s.0) (cut_is_read u.0.0 u.0.1 a r u.2)
items_is Mount line a r e = by_same Mount line mount a line r e (record { verb_is = refl; is = refl; fit = tt })

-- what is read as a call is its writing
pub reading_is : (line : List ℕ) (a : Asked) → reading line ≡ Ok a → (line ≡ written a) × AllFit (items a)
reading_is line a e =
    let o = chain_is (at the_opening line) (λ o. chain (at the_verb o.1) (λ v. chain (items_of v.0 v.1) (λ c. chain (at the_closing c.1) (λ z. ended c.0 z.1)))) a e in
    let v = chain_is (at the_verb o.0.1) (λ v. chain (items_of v.0 v.1) (λ c. chain (at the_closing c.1) (λ z. ended c.0 z.1))) a o.2 in
    let c = chain_is (items_of v.0.0 v.0.1) (λ c. chain (at the_closing c.1) (λ z. ended c.0 z.1)) a v.2 in
    let z = chain_is (at the_closing c.0.1) (λ z. ended c.0.0 z.1) a c.2 in
    let end = over c.0.0 z.0.1 z.2 in
    let opens = met_is the_opening (λ _. opening) is_opening line o.0.0 o.0.1 o.1 in
    let verbs = met_is the_verb (λ w. word (verb_word w)) (is_word verb_word verbs) o.0.1 v.0.0 v.0.1 v.1 in
    let l = items_is v.0.0 v.0.1 c.0.0 c.0.1 c.1 in
    let closes = met_is the_closing (λ _. closing) is_closing c.0.1 z.0.0 z.0.1 z.1 in
    let here : line ≡ written c.0.0 =
    opens.is ∙ ap (λ t. 40 ∷ t) (verbs.is ∙ ap (λ w. verb_word w ++ v.0.1) (sym l.verb_is) ∙ ap (λ t. verb_word (verb c.0.0) ++ t) (l.is ∙ ap (spaced (map spelt (items c.0.0))) (closes.is ∙ ap (λ t. 41 ∷ t) end.1))) in
    (here ∙ ap written end.0, subst (λ b. AllFit (items b)) end.0 l.fit)
  where
    over : (b : Asked) (s : List ℕ) → ended b s ≡ Ok a → (b ≡ a) × (s ≡ [])
    over b s f = go (eqb (length s) 0) refl f where
      go : (x : Bool) → eqb (length s) 0 ≡ x → cond x (Ok b) (Err (length s)) ≡ Ok a → (b ≡ a) × (s ≡ [])
      go true h g = (cc, nil_from_length s (eqb-true _ _ h))
      go false h g = cc

-- a call's writing is read as the call
module _ (z : List ℕ) where
  store_back : (s : StoreKind) (r : List ℕ) → letter (get_or r 0 0) ≡ false → item the_store (32 ∷ (store_word s ++ r)) ≡ Ok (s, r)
  store_back Paged r e = item_back the_store (word (store_word Paged)) Paged r (lit< tt, refl) e refl
  store_back Packed r e = item_back the_store (word (store_word Packed)) Packed r (lit< tt, refl) e refl

  drive_back : (s : DriveKind) (r : List ℕ) → letter (get_or r 0 0) ≡ false → item the_drive (32 ∷ (drive_word s ++ r)) ≡ Ok (s, r)
  drive_back Buffered r e = item_back the_drive (word (drive_word Buffered)) Buffered r (lit< tt, refl) e refl
  drive_back Direct r e = item_back the_drive (word (drive_word Direct)) Direct r (lit< tt, refl) e refl

  items_back : (a : Asked) → AllFit (items a) → items_of (verb a) (spaced (map spelt (items a)) (41 ∷ z)) ≡ Ok (a, 41 ∷ z)
  items_back (make b n s d) f =
      chain_ok _ (λ b. chain (item the_number b.1) (λ n. chain (item the_store n.1) (λ s. chain (item the_drive s.1) (λ d. Ok (make b.0 n.0 s.0 d.0, d.1))))) (b, _) _ (number_back b _ f.0 refl)
      (chain_ok _ (λ n. chain (item the_store n.1) (λ s. chain (item the_drive s.1) (λ d. Ok (make b n.0 s.0 d.0, d.1)))) (n, _) _ (number_back n _ f.1.0 refl)
      (chain_ok _ (λ s. chain (item the_drive s.1) (λ d. Ok (make b n s.0 d.0, d.1))) (s, _) _ (store_back s _ refl)
      (chain_ok _ (λ d. Ok (make b n s d.0, d.1)) (d, _) _ (drive_back d _ refl) refl)))
  items_back (write a bs) f =
      chain_ok _ (λ b. chain (item the_bytes b.1) (λ l. Ok (write b.0 l.0, l.1))) (a, _) _ (number_back a _ f.0 refl)
      (chain_ok _ (λ l. Ok (write a l.0, l.1)) (bs, _) _ (item_back the_bytes (bytes bs) bs (41 ∷ z) f.1.0 tt refl) refl)
  items_back (read a n) f =
      chain_ok _ (λ b. chain (item the_number b.1) (λ n. Ok (read b.0 n.0, n.1))) (a, _) _ (number_back a _ f.0 refl)
      (chain_ok _ (λ n. Ok (read a n.0, n.1)) (n, _) _ (number_back n _ f.1.0 refl) refl)
  items_back (clean o) f = chain_ok _ (λ o. Ok (clean o.0, o.1)) (o, _) _ (number_back o _ f.0 refl) refl
  items_back (cut_kept s d) f =
      chain_ok _ (λ f. cut_items f.0 f.1) (Kept, 32 ∷ (decimal s ++ (32 ∷ (decimal d ++ 41 ∷ z)))) _ (item_back the_fate (word (fate_word Kept)) Kept (32 ∷ (decimal s ++ (32 ∷ (decimal d ++ 41 ∷ z)))) (lit< tt, refl) refl refl)
      (chain_ok _ (λ s. chain (item the_number s.1) (λ d. Ok (cut_kept s.0 d.0, d.1))) (s, 32 ∷ (decimal d ++ 41 ∷ z)) _ (number_back s (32 ∷ (decimal d ++ 41 ∷ z)) f.1.0 refl)
      (chain_ok _ (λ d. Ok (cut_kept s d.0, d.1)) (d, _) _ (number_back d _ f.1.1.0 refl) refl))
  items_back (cut_lost s) f =
      chain_ok _ (λ f. cut_items f.0 f.1) (Lost, 32 ∷ (decimal s ++ 41 ∷ z)) _ (item_back the_fate (word (fate_word Lost)) Lost (32 ∷ (decimal s ++ 41 ∷ z)) (lit< tt, refl) refl refl)
      (chain_ok _ (λ s. Ok (cut_lost s.0, s.1)) (s, _) _ (number_back s _ f.1.0 refl) refl)
  items_back a f = refl

-- the rest of a line, after its first word
abbrev tail : Verb → List ℕ → Result Asked ℕ
tail v line = chain (items_of v line) (λ c. chain (at the_closing c.1) (λ z. ended c.0 z.1))

begun : (a : Asked) → reading (written a) ≡ tail (verb a) (spaced (map spelt (items a)) (41 ∷ []))
begun (make b n s d) = refl
begun a = refl

pub reading_back : (a : Asked) → AllFit (items a) → reading (written a) ≡ Ok a
reading_back a f = begun a ∙ chain_ok _ (λ c. chain (at the_closing c.1) (λ z. ended c.0 z.1)) (a, 41 ∷ []) (Ok a) (items_back [] a f) refl

-- what a reading says of the calls that are written so
pub found_from : (line : List ℕ) (r : Result Call Misfit) → turned asked r ≡ reading line → Found line r
found_from line (Ok c) e = reading_is line (asked c) (sym e)
found_from line (Err n) e = ((λ a is fit. cc (e ∙ ap reading is ∙ reading_back a fit)), ap left_of e)

-- no line asks for two calls
pub one_meaning : OneMeaning
one_meaning line a b p q =
    let e : Ok a ≡ Ok b = sym (ap reading p.is ∙ reading_back a p.fit) ∙ (ap reading q.is ∙ reading_back b q.fit) in
    cc

-- a written call is read back
pub reads_back : ReadsBack
reads_back a f h (Ok c) p = ap Some (one_meaning (written a) (asked c) a p (record { short = h; is = refl; fit = f }))
reads_back a f h (Err b) p = absurd (p.0 a (record { short = h; is = refl; fit = f }))

-- how a write with its list is written, part by part
pub written_write : (a : ℕ) (vs : List ℕ) → codes "(write " ++ (decimal a ++ (codes " (" ++ (listed vs [] ++ codes "))"))) ≡ written (write a vs)
written_write a vs =
    ap (λ t. codes "(write " ++ (decimal a ++ (codes " (" ++ t))) (sym (append_assoc (listed vs []) (41 ∷ []) (41 ∷ [])) ∙ ap (λ t. t ++ 41 ∷ []) (sym (listed_end vs (41 ∷ []))))
