-- What a walk through a directory answers.
use Rattle.std.proofs.Common.{◌≡◌, ℕ, suc, ◌+◌, ◌<◌, ◌≤◌, min, Bool, true, false, cond, not, ◌&&◌, ◌||◌, eqb, leb, List, [], ◌∷◌, map, length, take, drop, Some, None, Option, Result, sym, refl, ap, ◌∙◌, subst, arith}
use Rattle.std.specs.Int.{from_bool}
use Rattle.std.specs.List.{list_any, All, filter, fold, reduce, AllWithin, HoldsAt}
use Rattle.std.specs.Option.{MatchOption, ok_or}
use Rattle.std.proofs.lemmas.Bool.Decides.{nat_tests}
use Rattle.std.proofs.lemmas.List.{take-append-drop, get_or-take, get_or-drop, length-take, length-drop}
use Rattle.std.proofs.lemmas.List.Recursion.{same_from_clauses, or_from_places}
use Rattle.store.specs.declared.directory.Entry.{Entry}
use Rattle.store.specs.declared.fault.StoreFault.{StoreFault}
use Rattle.store.specs.declared.fault.StoreFault.TheVariants.{Absent}
use Rattle.store.specs.Calls.{oldest_turn, newest_turn}
use Rattle.store.specs.Entries.{blank, total, waits, named, stored, lowest, Found, IsNext}
use Rattle.store.specs.Views.{lower}
use Rattle.store.proofs.Entered.{total_append}
use Rattle.store.proofs.Changes.{here, waits_split}

-- an entry has the number where some entry does
pub named_is : (es : List Entry) (n : ℕ) → list_any (λ e. eqb e.number n) es ≡ named es n
named_is es n = same_from_clauses (list_any (λ (e : Entry). eqb e.number n)) (λ xs. named xs n) (λ e b. eqb e.number n || b) refl (λ _ _. refl) (λ _ _. refl) es

-- the first landed entry with the number
pub found_is : (es : List Entry) (n : ℕ) (r : Option ℕ) (q : Result ℕ StoreFault)
    → MatchOption r (AllWithin (λ e. (e.landed && eqb e.number n) ≡ false) es 0 (length es)) (λ i. (i < length es) × HoldsAt (λ e. (e.landed ≡ true) × (e.number ≡ n)) es i × AllWithin (λ e. (e.landed && eqb e.number n) ≡ false) es 0 i)
    → q ≡ ok_or r Absent → Found es n q
found_is es n None q h e = subst (Found es n) (sym e) (refl, or_from_places (λ xs. stored xs n) (λ e. e.landed && eqb e.number n) refl (λ _ _. refl) es blank (λ i l. h i blank (omega arith) l))
found_is es n (Some i) q h e = subst (Found es n) (sym e) (h.0, (h.1 blank).1, (h.1 blank).0)

-- entries that have all landed wait for nothing
pub none_wait : (es : List Entry) → ((k : ℕ) → k < length es → (here es k).landed ≡ true) → waits es ≡ 0
none_wait [] h = refl
none_wait (e ∷ es) h =
    let ih = none_wait es (λ k l. h (suc k) (omega arith)) in
    let f : cond {A = ℕ} e.landed 0 1 ≡ 0 = ap (λ z. cond {A = ℕ} z 0 1) (h 0 (omega arith)) in
    omega arith

-- the first pending entry
pub first_is : (es : List Entry) (r : Option ℕ)
    → MatchOption r (AllWithin (λ e. e.landed ≡ true) es 0 (length es)) (λ i. (i < length es) × HoldsAt (λ e. e.landed ≡ false) es i × AllWithin (λ e. e.landed ≡ true) es 0 i)
    → IsNext oldest_turn es r
first_is es None h = none_wait es (λ k l. h k blank (omega arith) l)
first_is es (Some i) h =
    (h.0, h.1 blank, none_wait (take i es) (λ k l. let b : k < i = omega (arith, length-take i es) in ap (λ e. e.landed) (get_or-take i es k blank b) ∙ h.2 k blank (omega arith) b))

-- the last pending entry
pub last_is : (es : List Entry) (r : Option ℕ)
    → MatchOption r (All (λ e. e.landed ≡ true) es) (λ i. (i < length es) × ((here es i).landed ≡ false) × ((k : ℕ) → i < k → k < length es → (here es k).landed ≡ true))
    → IsNext newest_turn es r
last_is es None h = none_wait es (λ k l. h k blank l)
last_is es (Some i) h =
    let behind : waits (drop (suc i) es) ≡ 0 = none_wait (drop (suc i) es) (λ k l. ap (λ e. e.landed) (get_or-drop (suc i) es k blank) ∙ h.2 (suc i + k) (omega arith) (omega (arith, length-drop (suc i) es))) in
    let p : cond {A = ℕ} (here es i).landed 0 1 ≡ 1 = ap (λ z. cond {A = ℕ} z 0 1) h.1 in
    let w = waits_split es i h.0 in
    (h.0, h.1, omega arith)

-- the lowest of several numbers
min_fold : (x y : ℕ) (ys : List ℕ) → fold min (min x y) ys ≡ min x (fold min y ys)
min_fold x y [] = refl
min_fold x y (z ∷ zs) =
    let a : min (min x y) z ≡ min x (min y z) = omega arith in
    ap (λ w. fold min w zs) a ∙ min_fold x (min y z) zs

lower_reduce : (x : ℕ) (xs : List ℕ) → lower (Some x) (reduce min xs) ≡ reduce min (x ∷ xs)
lower_reduce x [] = refl
lower_reduce x (y ∷ ys) =
    let m : cond (leb x (fold min y ys)) x (fold min y ys) ≡ min x (fold min y ys) = grind (arith, nat_tests) in
    ap Some (m ∙ sym (min_fold x y ys))

pub lowest_is : (es : List Entry) (n : ℕ) → reduce min (map (λ e. e.number) (filter (λ e. e.landed && leb n e.number) es)) ≡ lowest es n
lowest_is [] n = refl
lowest_is (e ∷ es) n = go (e.landed && leb n e.number) (lowest_is es n)
  where
    go : (b : Bool) → reduce min (map (λ (x : Entry). x.number) (filter (λ x. x.landed && leb n x.number) es)) ≡ lowest es n
        → reduce min (map (λ (x : Entry). x.number) (cond b (e ∷ filter (λ x. x.landed && leb n x.number) es) (filter (λ x. x.landed && leb n x.number) es))) ≡ lower (cond b (Some e.number) None) (lowest es n)
    go true ih = sym (lower_reduce e.number _) ∙ ap (lower (Some e.number)) ih
    go false ih = ih

-- whether an entry waits, as a number
pub one_waits : (e : Entry) → from_bool (not e.landed) ≡ waits (e ∷ [])
one_waits e = go e.landed
  where
    go : (b : Bool) → from_bool (not b) ≡ cond {A = ℕ} b 0 1 + 0
    go true = refl
    go false = refl

-- a sum over the first entries
pub total_part : (f : ℕ → ℕ) (xs : List Entry) (i : ℕ) → total f (take i xs) ≤ total f xs
total_part f xs i = let a : total f xs ≡ total f (take i xs) + total f (drop i xs) = ap (total f) (sym (take-append-drop i xs)) ∙ total_append f (take i xs) (drop i xs) in omega arith
