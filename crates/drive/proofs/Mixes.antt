-- Slots taken from one list or another.
use Rattle.std.proofs.Common.{◌≡◌, ℕ, zero, suc, ◌+◌, ◌/◌, ◌%◌, ◌^◌, ◌<◌, ◌≤◌, Bool, true, false, cond, eqb, List, [], ◌∷◌, ◌++◌, length, get_or, take, drop, set, sym, refl, ap, ◌∙◌, append_assoc, append-nil, div-one, arith}
use native.Mathlib.Nat.{pow-succ', div-div-eq-div-mul}
use Rattle.std.proofs.lemmas.List.{drop_more, drop_all, take_all, take_more, take_more_set, drop-set-lt}
use Rattle.std.proofs.lemmas.Bool.{eq-eqb, ne_eqb}
use Rattle.drive.specs.Views.{Slot, mixed, bit}

-- the same choice at every place gives the same mix
pub mixed_same : (f g : ℕ → Bool) (xs ys : List Slot) → ((k : ℕ) → f k ≡ g k) → mixed f xs ys ≡ mixed g xs ys
mixed_same f g [] ys e = refl
mixed_same f g (x ∷ xs) [] e = refl
mixed_same f g (x ∷ xs) (y ∷ ys) e =
    let a = e 0 in
    let b = mixed_same (λ k. f (suc k)) (λ k. g (suc k)) xs ys (λ k. e (suc k)) in
    cc

-- the next bit is the lowest of the half
pub bit_next : (d k : ℕ) → bit d (suc k) ≡ bit (d / 2) k
bit_next d k = ap (λ n. eqb (n % 2) 1) (ap (λ m. d / m) (pow-succ' 2 k) ∙ sym (div-div-eq-div-mul d 2 (2 ^ k)))

pub bit_low : (d : ℕ) → bit d 0 ≡ eqb (d % 2) 1
bit_low d = ap (λ n. eqb (n % 2) 1) (div-one d)

-- one slot more of a mix
mixed_more : (d : ℕ) (x y : Slot) (xs ys : List Slot) → mixed (bit d) (x ∷ xs) (y ∷ ys) ≡ cond (eqb (d % 2) 1) x y ∷ mixed (bit (d / 2)) xs ys
mixed_more d x y xs ys =
    let a = bit_low d in
    let b = mixed_same (λ k. bit d (suc k)) (bit (d / 2)) xs ys (bit_next d) in
    cc

module _ (d i : ℕ) (from to : List Slot) (within : i < length from) (even : length to ≡ length from) where
  -- what is left of a mix, slot i first
  rest : mixed (bit d) (drop i from) (drop i to) ≡ cond (eqb (d % 2) 1) (get_or from i []) (get_or to i []) ∷ mixed (bit (d / 2)) (drop (i + 1) from) (drop (i + 1) to)
  rest =
      let a = drop_more from i [] within in
      let b = drop_more to i [] (omega arith) in
      let c = mixed_more d (get_or from i []) (get_or to i []) (drop (i + 1) from) (drop (i + 1) to) in
      cc

  -- slot i is taken over
  pub mix_taken : (after whole : List Slot) → after ≡ set to i (get_or from i []) → d % 2 ≡ 1
      → take i to ++ mixed (bit d) (drop i from) (drop i to) ≡ whole
      → take (i + 1) after ++ mixed (bit (d / 2)) (drop (i + 1) from) (drop (i + 1) after) ≡ whole
  mix_taken after whole is odd before =
      let x = get_or from i [] in
      let a = take_more_set to i x (omega arith) in
      let b = drop-set-lt (i + 1) to i x (omega arith) in
      let c = eq-eqb (d % 2) 1 odd in
      let e = append_assoc (take i to) (x ∷ []) (mixed (bit (d / 2)) (drop (i + 1) from) (drop (i + 1) to)) in
      let r = rest in
      cc

  -- slot i stays
  pub mix_left : (after whole : List Slot) → after ≡ to → (d % 2 ≡ 1 → ⊥)
      → take i to ++ mixed (bit d) (drop i from) (drop i to) ≡ whole
      → take (i + 1) after ++ mixed (bit (d / 2)) (drop (i + 1) from) (drop (i + 1) after) ≡ whole
  mix_left after whole is low before =
      let x = get_or to i [] in
      let a = take_more to i [] (omega arith) in
      let c = ne_eqb (d % 2) 1 low in
      let e = append_assoc (take i to) (x ∷ []) (mixed (bit (d / 2)) (drop (i + 1) from) (drop (i + 1) to)) in
      let r = rest in
      cc

-- nothing is left
pub mix_done : (d i : ℕ) (from to : List Slot) → length from ≤ i → length to ≡ length from
    → take i to ++ mixed (bit d) (drop i from) (drop i to) ≡ to
mix_done d i from to past even =
    let a = drop_all i from past in
    let b = take_all i to (omega arith) in
    let c = append-nil to in
    cc

-- a choice between equals
pub cond_same : {X : Type 0} (b : Bool) (x : X) → x ≡ cond b x x
cond_same true x = refl
cond_same false x = refl

-- each slot of a mix, by its choice
pub get_or_mixed : (f : ℕ → Bool) (xs ys : List Slot) (k : ℕ) (d : Slot) → length ys ≡ length xs → get_or (mixed f xs ys) k d ≡ cond (f k) (get_or xs k d) (get_or ys k d)
get_or_mixed f [] [] k d e = cond_same (f k) d
get_or_mixed f [] (y ∷ ys) k d e = absurd (omega arith)
get_or_mixed f (x ∷ xs) [] k d e = absurd (omega arith)
get_or_mixed f (x ∷ xs) (y ∷ ys) zero d e = refl
get_or_mixed f (x ∷ xs) (y ∷ ys) (suc k) d e = get_or_mixed (λ j. f (suc j)) xs ys k d (omega arith)
