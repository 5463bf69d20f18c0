-- A store over any space: its directory, its space and its two sums.
use Rattle.std.proofs.Common.{◌≡◌, ℕ, suc, ◌+◌, ◌-◌, ◌*◌, ◌<◌, ◌≤◌, Bool, true, false, ◌||◌, eqb, leb, List, [], ◌∷◌, ◌++◌, length, take, drop, Some, None, vec_items, sym, refl, ap, ◌∙◌, subst, ⊎_elim, arith}
use Rattle.std.proofs.Math.Nat.{mul-le-mul_left}
use Rattle.std.specs.List.{remove, sum_by}
use Rattle.std.proofs.lemmas.Bool.Decides.{nat_tests}
use Rattle.std.proofs.lemmas.Bool.{and_parts, leb-true, cases_lt}
use Rattle.std.proofs.lemmas.List.{drop-drop}
use Rattle.std.proofs.lemmas.List.Recursion.{is_sum_by}
use Rattle.store.specs.declared.directory.Entry.{Entry}
use Rattle.store.specs.declared.directory.objects.ObjectStore.{ObjectStore}
use Rattle.store.specs.declared.fault.StoreFault.TheVariants.{Taken, Crowded, Full}
use Rattle.store.specs.Calls.{put_refusal, putting, Lands, deleting, vanishing}
use Rattle.store.specs.Items.{view}
use Rattle.store.specs.Entries.{items, total, waits, named, tidy, due, IsNext, Listed}
use Rattle.store.proofs.Entered.{total_append, waits_items}
use Rattle.store.proofs.Tidy.{tidy_parts}
use Rattle.store.proofs.Changes.{here, with_risen, total_split, lands_at, Closes, deletes_at, vanishes_at}
use Rattle.store.proofs.Moves.{put_move}
use Rattle.store.proofs.Admission.{Admitted, admitted, due_is}

-- a sum over entries, in the library's word
pub total_is : (f : ℕ → ℕ) (es : List Entry) → total f es ≡ sum_by (λ e. f e.length) es
total_is f es = is_sum_by (total f) (λ (e : Entry). f e.length) refl (λ _ _. refl) es

-- what is known of a space and what lies in it
pub record Holds (room weight : ℕ → ℕ) (c : ℕ) (a : List ℕ) (es : List Entry) (waiting used load : ℕ) : Type 0 where
  pub roomy : (n : ℕ) → n ≤ room n
  pub heavy : (n : ℕ) → 1 ≤ n → (1 ≤ weight 1) × (weight 1 ≤ weight n)
  pub covered : (fs : List Entry) → total weight fs ≤ c → total room fs ≤ length a
  pub listed : Listed es waiting
  pub used_is : used ≡ total room es
  pub load_is : load ≡ total weight es
  pub within : load ≤ c

pub holds : {D : _} {m : _} (s : ObjectStore D m) → ((n : ℕ) → n ≤ m.room n) → ((n : ℕ) → 1 ≤ n → (1 ≤ m.weight 1) × (m.weight 1 ≤ m.weight n)) → ((fs : List Entry) → total m.weight fs ≤ m.capacity s.space → total m.room fs ≤ length (m.bytes s.space))
    → Holds m.room m.weight (m.capacity s.space) (m.bytes s.space) (vec_items s.directory.entries) s.directory.waiting s.used s.load
holds s r h c = record { roomy = r; heavy = h; covered = c; listed = s.directory.listed; used_is = s.used_is; load_is = s.load_is; within = s.within }

module _ {room weight : ℕ → ℕ} {c : ℕ} {a : List ℕ} {es : List Entry} {waiting used load : ℕ} (h : Holds room weight c a es waiting used load) where
  pub inside : total room es ≤ length a
  inside = let l = h.load_is in let w = h.within in h.covered es (omega arith)

  -- the refusal by the sums is the refusal by the meaning
  pub refusal_is : (n : ℕ) (bs : List ℕ) → due es waiting n (length bs) (leb (load + weight (length bs)) c) ≡ put_refusal (view weight c (items room es a)) n bs
  refusal_is n bs = ap (λ z. due es waiting n (length bs) (leb (z + weight (length bs)) c)) h.load_is ∙ due_is room h.roomy weight c es a waiting n bs h.listed.1 inside

  -- what a granted put finds
  pub record Granted (n : ℕ) (bs : List ℕ) (cap : ℕ) : Type 0 where
    pub admits : Admitted es waiting n (length bs) true
    pub light : load + weight (length bs) ≤ c
    pub fits : used + room (length bs) ≤ length a
    pub free : length es < cap

  lighter : (fs : List Entry) → tidy fs ≡ true → weight 1 * length fs ≤ total weight fs
  lighter [] t = omega arith
  lighter (e ∷ fs) t =
      let p = tidy_parts e fs t in
      let l : 1 ≤ e.length = leb-true 1 e.length (and_parts (leb 1 e.length) (leb e.length 16664) p.1).0 in
      let w = (h.heavy e.length l).1 in
      let ih = lighter fs p.3 in
      omega arith

  pub granted : (n : ℕ) (bs : List ℕ) (cap : ℕ) → c < weight 1 * (cap + 1) → put_refusal (view weight c (items room es a)) n bs ≡ None → Granted n bs cap
  granted n bs cap roomy r =
      let m = admitted es waiting n (length bs) (leb (load + weight (length bs)) c) (refusal_is n bs ∙ r) in
      let light : load + weight (length bs) ≤ c = leb-true _ _ m.room in
      let k : 1 ≤ length bs = leb-true 1 (length bs) (and_parts (leb 1 (length bs)) (leb (length bs) 16664) m.lawful).0 in
      let e : Entry = record { number = n; length = length bs; landed = false } in
      let tw : total weight (es ++ e ∷ []) ≡ total weight es + (weight (length bs) + 0) = total_append weight es (e ∷ []) in
      let tr : total room (es ++ e ∷ []) ≡ total room es + (room (length bs) + 0) = total_append room es (e ∷ []) in
      let l = h.load_is in
      let u = h.used_is in
      let f = h.covered (es ++ e ∷ []) (omega arith) in
      let o = lighter es h.listed.0 in
      let w = (h.heavy (length bs) k).1 in
      let many : cap ≤ length es → ⊥ = λ x. let y = mul-le-mul_left (weight 1) x in omega arith in
      record {
        admits = record { lawful = m.lawful; some = m.some; new = m.new; few = m.few; room = refl };
        light = light;
        fits = omega arith;
        free = ⊎_elim (λ x. x) (λ x. absurd (many x)) (cases_lt (length es) cap);
      }

  -- where the object of entry i lies
  pub record Lies (i start : ℕ) : Type 0 where
    pub front : start ≡ total room (take i es)
    pub back : used ≡ start + room (here es i).length + total room (drop (suc i) es)
    pub weighs : weight (here es i).length ≤ load
    pub within : used ≤ length a

  pub lies : (i start : ℕ) → i < length es → start ≡ total room (take i es) → Lies i start
  lies i start l e =
      let t = total_split room es i l in
      let v = total_split weight es i l in
      let u = h.used_is in
      let w = h.load_is in
      let k = inside in
      record { front = e; back = omega arith; weighs = omega arith; within = omega arith }

  -- a space that has closed up over the object of entry i
  pub closes : (i start : ℕ) (e : Entry) (b : List ℕ) → i < length es → start ≡ total room (take i es) → e ≡ here es i
      → take start b ≡ take start a → take (used - (start + room e.length)) (drop start b) ≡ take (used - (start + room e.length)) (drop (start + room e.length) a)
      → Closes room h.roomy weight c es i a b
  closes i start e b l s q x y =
      let k = lies i start l s in
      let f = k.front in
      let g = k.back in
      let z : room e.length ≡ room (here es i).length = ap (λ r. room r.length) q in
      let m : used - (start + room e.length) ≡ total room (drop (suc i) es) = omega arith in
      let d : drop (start + room e.length) a ≡ drop (room (here es i).length) (drop (total room (take i es)) a) = ap (λ r. drop r a) (ap (λ r. start + r) z ∙ ap (λ r. r + room (here es i).length) f) ∙ sym (drop-drop (room (here es i).length) (total room (take i es)) a) in
      record {
        front = ap (λ p. take p b) (sym f) ∙ x ∙ ap (λ p. take p a) f;
        back = ap (λ p. take p (drop (total room (take i es)) b)) (sym m) ∙ ap (λ p. take (used - (start + room e.length)) (drop p b)) (sym f) ∙ y ∙ ap (λ p. take p (drop (start + room e.length) a)) m ∙ ap (take (total room (drop (suc i) es))) d;
      }

  -- an object behind the others
  pub puts : (fs : List Entry) (e : Entry) (b bs : List ℕ) (c' : ℕ) → fs ≡ es ++ e ∷ [] → e.landed ≡ false → c' ≡ c → take used b ≡ take used a → take e.length (drop used b) ≡ bs
      → view weight c' (items room fs b) ≡ putting (view weight c (items room es a)) e.number bs
  puts fs e b bs c' q f k x y =
      ap (λ z. view weight z (items room fs b)) k ∙ ap (λ z. view weight c (items room z b)) q
      ∙ put_move room h.roomy weight c es e a b bs f (ap (λ z. take z b) (sym h.used_is) ∙ x ∙ ap (λ z. take z a) h.used_is) (ap (λ z. take e.length (drop z b)) (sym h.used_is) ∙ y)

  -- entry i has landed
  pub lands : (i n : ℕ) (fs : List Entry) → i < length es → (here es i).landed ≡ false → fs ≡ with_risen es i → n ≡ (here es i).number → Lands (view weight c (items room es a)) (waits (take i es)) n (view weight c (items room fs a))
  lands i n fs l f q e = lands_at room h.roomy weight c es fs i n a l f q e h.listed.0

  -- the entry that is next lands on its turn
  pub lands_next : (turn : ℕ → ℕ) (i n : ℕ) (fs : List Entry) → IsNext turn es (Some i) → fs ≡ with_risen es i → n ≡ (here es i).number
      → Lands (view weight c (items room es a)) (turn (length (view weight c (items room es a)).pending)) n (view weight c (items room fs a))
  lands_next turn i n fs o q e =
      let w : waits (take i es) ≡ turn (length (view weight c (items room es a)).pending) = o.2 ∙ ap turn (sym (waits_items room es a)) in
      subst (λ z. Lands (view weight c (items room es a)) z n (view weight c (items room fs a))) w (lands i n fs o.0 o.1 q e)

  -- the object of entry i is gone
  pub deletes : (i c' : ℕ) (fs : List Entry) (b : List ℕ) → i < length es → (here es i).landed ≡ true → fs ≡ remove es i → c' ≡ c → Closes room h.roomy weight c es i a b → view weight c' (items room fs b) ≡ deleting (view weight c (items room es a)) (here es i).number
  deletes i c' fs b l f q e k = ap (λ z. view weight z (items room fs b)) e ∙ deletes_at room h.roomy weight c es fs i a b l f q h.listed.0 k

  pub vanishes : (i c' : ℕ) (fs : List Entry) (b : List ℕ) → i < length es → (here es i).landed ≡ false → fs ≡ remove es i → c' ≡ c → Closes room h.roomy weight c es i a b → view weight c' (items room fs b) ≡ vanishing (view weight c (items room es a)) (waits (take i es))
  vanishes i c' fs b l f q e k = ap (λ z. view weight z (items room fs b)) e ∙ vanishes_at room h.roomy weight c es fs i a b l f q k

-- the refusals of a put, one after another
pub due_taken : (es : List Entry) (waiting n long : ℕ) (fits : Bool) → 1 ≤ long → long ≤ 16664 → (eqb n 0 || named es n) ≡ true → due es waiting n long fits ≡ Some Taken
due_taken es waiting n long fits l m t = grind (arith, nat_tests)

pub due_crowded : (es : List Entry) (waiting n long : ℕ) (fits : Bool) → 1 ≤ long → long ≤ 16664 → (eqb n 0 || named es n) ≡ false → 8 ≤ waiting → due es waiting n long fits ≡ Some Crowded
due_crowded es waiting n long fits l m t w = grind (arith, nat_tests)

pub due_full : (es : List Entry) (waiting n long : ℕ) (fits : Bool) → 1 ≤ long → long ≤ 16664 → (eqb n 0 || named es n) ≡ false → waiting < 8 → fits ≡ false → due es waiting n long fits ≡ Some Full
due_full es waiting n long fits l m t w f = grind (arith, nat_tests)

pub due_none : (es : List Entry) (waiting n long : ℕ) (fits : Bool) → 1 ≤ long → long ≤ 16664 → (eqb n 0 || named es n) ≡ false → waiting < 8 → fits ≡ true → due es waiting n long fits ≡ None
due_none es waiting n long fits l m t w f = grind (arith, nat_tests)
