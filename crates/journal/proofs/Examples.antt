-- The worked example of a torn log.
use Rattle.std.proofs.Common.{◌≡◌, ℕ, zero, suc, ◌+◌, ◌<◌, List, [], sym, refl, ap, ◌∙◌, arith}
use Rattle.endian.specs.Fields.{unle}
use Rattle.drive.specs.Views.{zero_slot}
use Rattle.journal.specs.Layout.{head_of, slot}
use Rattle.journal.specs.Writes.{Holds, Stands, Scan}
use Rattle.journal.specs.Fills.{nth_head}
use Rattle.journal.specs.Example.{torn_log, TornLog}
use Rattle.journal.proofs.Layouts.{head_back}

back : (w a n i : ℕ) (b : List ℕ) → w + i < 9 → a + i < 9 → i < 9 → n < 9 → head_of (slot (nth_head w a n i) b) ≡ nth_head w a n i
back w a n i b p q r s = head_back (nth_head w a n i) b record { number = omega arith; address = omega arith; index = omega arith; count = omega arith }

zero_number : (head_of zero_slot).number ≡ 0
unfolding zero_slot unle
zero_number = refl

module _ (x y z : List ℕ) where
  first_held : (i : ℕ) → i < 2 → Holds (torn_log x y z) (0 + i) (2 + i) i 2
  first_held zero h = let e = back 0 2 2 0 x (omega arith) (omega arith) (omega arith) (omega arith) in record { number = ap (λ k. k.number) e; address = ap (λ k. k.address) e; index = ap (λ k. k.index) e; count = ap (λ k. k.count) e }
  first_held (suc zero) h = let e = back 0 2 2 1 y (omega arith) (omega arith) (omega arith) (omega arith) in record { number = ap (λ k. k.number) e; address = ap (λ k. k.address) e; index = ap (λ k. k.index) e; count = ap (λ k. k.count) e }
  first_held (suc (suc i)) h = absurd (omega arith)

  first_stands : Stands (torn_log x y z) 8 0 2 2
  first_stands = record { some = omega arith; few = omega arith; inside = omega arith; each = first_held }

  -- the second half of the other write is not there
  none_at_2 : Scan (torn_log x y z) 8 2 []
  none_at_2 a n st =
      let c : 2 ≡ n = sym (ap (λ k. k.count) (back 2 5 2 0 z (omega arith) (omega arith) (omega arith) (omega arith))) ∙ (st.each 0 (omega (arith, st.some))).count in
      let third = (st.each 1 (omega arith)).number in
      omega (arith, zero_number, third)

pub torn : TornLog
torn = record { from_0 = λ x y z. (first_stands x y z, none_at_2 x y z); from_2 = none_at_2 }
