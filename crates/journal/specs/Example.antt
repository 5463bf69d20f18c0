-- A worked example of a torn log.
use Rattle.std.specs.Prelude.{ℕ, List, [], ◌∷◌}
use Rattle.drive.specs.Views.{Slot, zero_slot}
use Rattle.journal.specs.Layout.{slot}
use Rattle.journal.specs.Writes.{Scan}
use Rattle.journal.specs.Fills.{nth_head}
use Rattle.journal.specs.declared.span.Span.{Span}

-- Four slots: a write of two blocks at address 2, the first half of a write of two at address 5, and zeros.
abbrev pub torn_log : List ℕ → List ℕ → List ℕ → List Slot
torn_log x y z = slot (nth_head 0 2 2 0) x ∷ (slot (nth_head 0 2 2 1) y ∷ (slot (nth_head 2 5 2 0) z ∷ (zero_slot ∷ [])))

-- The write of two blocks at address 2.
abbrev pub whole_one : Span
whole_one = record { address = 2; count = 2 }

-- In a volume of 8 blocks the scan from record 0 takes the two records of the first write, and from record 2 none.
pub record TornLog : Type 0 where
  pub from_0 : (x y z : List ℕ) → Scan (torn_log x y z) 8 0 (whole_one ∷ [])
  pub from_2 : (x y z : List ℕ) → Scan (torn_log x y z) 8 2 []
