-- The calls of the drives in memory, as the relations of every drive.
use Rattle.std.proofs.Common.{◌≡◌, ℕ, suc, Bool, true, false, List, [], ◌∷◌, length, Ok, Err, Result, refl, ap, arith}
use Rattle.std.proofs.lemmas.List.{length-set}
use Rattle.drive.specs.Views.{Slot, DriveView, Write, Cut, mixed, bit, settled, cut_by}
use Rattle.drive.specs.Areas.{AreaWrite}
use Rattle.drive.proofs.Mixes.{cond_same}
use Rattle.drive.specs.declared.DriveFault.{DriveFault}

pub mixed_none : (xs ys : List Slot) → length ys ≡ length xs → ys ≡ mixed (λ _. false) xs ys
mixed_none [] [] e = refl
mixed_none [] (y ∷ ys) e = absurd (omega arith)
mixed_none (x ∷ xs) [] e = refl
mixed_none (x ∷ xs) (y ∷ ys) e = ap (λ zs. y ∷ zs) (mixed_none xs ys (omega arith))

pub mixed_all : (xs ys : List Slot) → length ys ≡ length xs → xs ≡ mixed (λ _. true) xs ys
mixed_all [] ys e = refl
mixed_all (x ∷ xs) [] e = absurd (omega arith)
mixed_all (x ∷ xs) (y ∷ ys) e = ap (λ zs. x ∷ zs) (mixed_all xs ys (omega arith))

pub mixed_self : (f : ℕ → Bool) (xs : List Slot) → xs ≡ mixed f xs xs
mixed_self f [] = refl
mixed_self f (x ∷ xs) = let a = mixed_self (λ k. f (suc k)) xs in let b = cond_same (f 0) x in cc

-- current slots beside safe ones
abbrev pub view : List Slot → List Slot → DriveView
view xs ys = record { current = xs; safe = ys }

-- a write that leaves the safe slots as they were
pub wrote_kept : (xs ys zs : List Slot) (k : ℕ) (bytes : Slot) (r : Result (Unit {0}) DriveFault) → length ys ≡ length xs → AreaWrite xs k bytes r zs → Write (view xs ys) k bytes r (view zs ys)
wrote_kept xs ys zs k bytes (Ok _) even (within, is) =
    let l = length-set xs k bytes in
    let m = ap length is in
    record { within = within; current = is; early = record { chosen = λ _. false; is = mixed_none zs ys (omega arith) } }
wrote_kept xs ys zs k bytes (Err e) even (past, number, is) = (record { past = past; number = number }, ap (λ us. view us ys) is)

-- a write to slots that are all safe
pub wrote_safe : (xs zs : List Slot) (k : ℕ) (bytes : Slot) (r : Result (Unit {0}) DriveFault) → AreaWrite xs k bytes r zs → Write (settled xs) k bytes r (settled zs)
wrote_safe xs zs k bytes (Ok _) (within, is) =
    let l = length-set xs k bytes in
    let m = ap length is in
    record { within = within; current = is; early = record { chosen = λ _. true; is = mixed_all zs xs (omega arith) } }
wrote_safe xs zs k bytes (Err e) (past, number, is) = (record { past = past; number = number }, ap settled is)

-- a cut of slots that are all safe changes nothing
pub cut_safe : (d : ℕ) (xs : List Slot) → settled xs ≡ cut_by (bit d) (settled xs)
cut_safe d xs = ap settled (mixed_self (bit d) xs)

pub cut_stays : (d : ℕ) (xs : List Slot) → Cut (settled xs) (settled xs)
cut_stays d xs = record { chosen = bit d; is = cut_safe d xs }
