-- Slots kept in memory.
use Rattle.std.proofs.Common.{◌≡◌, ℕ, zero, suc, ◌+◌, ◌^◌, ◌<◌, ◌≤◌, Bool, List, [], ◌∷◌, ◌++◌, length, get_or, take, drop, replicate, sym, refl, ap, ◌∙◌, subst, ⊎_elim, arith, lit<}
use borrow.Rule.Slice.PartMut.{put_mid}
use Rattle.std.proofs.lemmas.Bool.{cond_both, cases_lt}
use Rattle.std.proofs.lemmas.List.{append-nil, get_or_past, get_or-replicate, drop_all, drop_at, drop-drop, length-drop, length-replicate, length-take-le, take_all, take-append-drop}
use Rattle.std.proofs.lemmas.List.Elements.{same_from_all_zip}
use Rattle.std.specs.Array.{AllZipBelow}
use Rattle.drive.specs.Views.{Slot, Full, Bytes, zero_slot, slot_bytes, mixed}
use Rattle.drive.specs.Areas.{Kept}

-- bytes that are copied in two parts, the rest before the front, are all copied
pub rejoined : (k m : ℕ) (to from front rest : List ℕ) → length to ≡ k + m → length from ≡ k + m → front ≡ take k from → rest ≡ take m (drop k from) → front ++ drop k (put_mid k m to rest) ≡ from
rejoined k m to from front rest l h f r =
    let a = drop_at (take k to) (rest ++ drop m (drop k to)) k (length-take-le k to (omega arith)) in
    let b = drop-drop m k to ∙ drop_all (k + m) to (omega arith) in
    let d = take_all m (drop k from) (omega (arith, length-drop k from)) in
    let e = take-append-drop k from in
    let n = append-nil rest in
    cc

-- the same slots keep the same
pub kept_same : (xs ys : List Slot) → xs ≡ ys → Kept ys → Kept xs
kept_same xs ys e h = subst Kept (sym e) h

pub zero_long : length zero_slot ≡ slot_bytes
unfolding zero_slot
zero_long = length-replicate {A = ℕ} slot_bytes 0

zero_bytes : (i : ℕ) → get_or zero_slot i 0 < 256
unfolding zero_slot
zero_bytes i = ⊎_elim (λ (h : i < slot_bytes). rw get_or-replicate (lit< tt)) (λ (h : slot_bytes ≤ i). rw (get_or_past zero_slot i 0 (omega (arith, zero_long))) (lit< tt)) (cases_lt i slot_bytes)

-- slots of zeros are whole
pub zeros_full : (n : ℕ) → Full (replicate n zero_slot)
zeros_full n k h = let below : k < n = omega (arith, length-replicate n zero_slot) in rw get_or-replicate zero_long

pub zeros_bytes : (n : ℕ) → Bytes (replicate n zero_slot)
zeros_bytes n k i =
    ⊎_elim (λ (h : k < n). rw get_or-replicate (zero_bytes i)) (λ (h : n ≤ k). rw (get_or_past (replicate n zero_slot) k [] (omega (arith, length-replicate n zero_slot))) (lit< tt))
    (cases_lt k n)

-- that many slots of zeros are such an area
pub kept_zeros : (xs : List Slot) (n : ℕ) → xs ≡ replicate n zero_slot → 0 < n → n < 2 ^ 32 → Kept xs
kept_zeros xs n e some few =
    let l = length-replicate n zero_slot in
    kept_same xs (replicate n zero_slot) e (record { some = omega arith; few = omega arith; full = zeros_full n; bytes = zeros_bytes n })

-- a clone of an array of numbers is that array
pub clone_same : (xs ys : List ℕ) (n : ℕ) → AllZipBelow (λ x y. y ≡ x) xs ys n → ys ≡ xs
clone_same xs ys n h = same_from_all_zip _ xs ys h.whole (λ x y e. e)

-- a mix of slots keeps what both lists keep
pub length_mixed : (f : ℕ → Bool) (xs ys : List Slot) → length ys ≡ length xs → length (mixed f xs ys) ≡ length xs
length_mixed f [] ys e = refl
length_mixed f (x ∷ xs) [] e = e
length_mixed f (x ∷ xs) (y ∷ ys) e = ap suc (length_mixed (λ k. f (suc k)) xs ys (omega arith))

mixed_full : (f : ℕ → Bool) (xs ys : List Slot) → Full xs → Full ys → Full (mixed f xs ys)
mixed_full f [] ys p q k h = omega arith
mixed_full f (x ∷ xs) [] p q k h = omega arith
mixed_full f (x ∷ xs) (y ∷ ys) p q zero h = cond_both (f 0) x y (λ z. length z ≡ slot_bytes) (λ _. p 0 (omega arith)) (λ _. q 0 (omega arith))
mixed_full f (x ∷ xs) (y ∷ ys) p q (suc k) h = mixed_full (λ n. f (suc n)) xs ys (λ n l. p (suc n) (omega arith)) (λ n l. q (suc n) (omega arith)) k (omega arith)

mixed_bytes : (f : ℕ → Bool) (xs ys : List Slot) → Bytes xs → Bytes ys → Bytes (mixed f xs ys)
mixed_bytes f [] ys p q k i = lit< tt
mixed_bytes f (x ∷ xs) [] p q k i = lit< tt
mixed_bytes f (x ∷ xs) (y ∷ ys) p q zero i = cond_both (f 0) x y (λ z. get_or z i 0 < 256) (λ _. p 0 i) (λ _. q 0 i)
mixed_bytes f (x ∷ xs) (y ∷ ys) p q (suc k) i = mixed_bytes (λ n. f (suc n)) xs ys (λ n. p (suc n)) (λ n. q (suc n)) k i

pub kept_mixed : (f : ℕ → Bool) (zs xs ys : List Slot) → zs ≡ mixed f xs ys → length ys ≡ length xs → Kept xs → Kept ys → Kept zs
kept_mixed f zs xs ys e even p q =
    let l = length_mixed f xs ys even in
    kept_same zs (mixed f xs ys) e (record { some = omega (arith, p.some); few = omega (arith, p.few); full = mixed_full f xs ys p.full q.full; bytes = mixed_bytes f xs ys p.bytes q.bytes })
