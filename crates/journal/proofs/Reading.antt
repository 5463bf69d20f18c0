-- Reads of slots that are there.
use Rattle.std.proofs.Common.{◌≡◌, ℕ, ◌%◌, ◌<◌, [], get_or, Ok, Err, Result, ap, ◌∙◌, arith}
use Rattle.std.proofs.lemmas.List.{get_or_default}
use Rattle.std.proofs.lemmas.Nat.{mod_below}
use Rattle.drive.specs.Views.{Slot, DriveView, Read, slot_count, zero_slot}
use Rattle.drive.specs.declared.DriveFault.{DriveFault}
use Rattle.journal.specs.Writes.{slot_at}

-- a slot that is there is read
pub read_there : (v : DriveView) (k : ℕ) (before after : Slot) (r : Result (Unit {0}) DriveFault) → Read v k before r after → k < slot_count v → after ≡ get_or v.current k zero_slot
read_there v k before after (Ok _) h within = h.1 ∙ get_or_default v.current k [] zero_slot within
read_there v k before after (Err e) h within = absurd (omega (arith, h.0.past))

-- the slot of a record is read
pub read_at : (v : DriveView) (number n : ℕ) (before after : Slot) (r : Result (Unit {0}) DriveFault) → 0 < slot_count v → n ≡ slot_count v → Read v (number % n) before r after → after ≡ slot_at v.current number
read_at v number n before after r some e h =
    let b = mod_below number n (omega arith) in
    read_there v (number % n) before after r h (omega arith) ∙ ap (λ m. get_or v.current (number % m) zero_slot) e
