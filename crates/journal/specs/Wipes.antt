-- Zeroing every slot that holds no record of a run.
use Rattle.std.specs.Prelude.{◌≡◌, ℕ, zero, suc, ◌%◌, Bool, cond, ◌&&◌, List, map, length, MatchBool, ◌==◌, nat_le, nat_lt, slice_index_or}
use Rattle.std.specs.List.{range_with_len}
use Rattle.drive.specs.Views.{Slot, DriveView, Wrote, slot_count, zero_slot}
use Rattle.journal.specs.Layout.{head_of}

-- Record r is one of the run from `from` up to `upto`, and of n slots lies in slot k.
abbrev pub belongs : ℕ → ℕ → ℕ → ℕ → ℕ → Bool
belongs n from upto k r = nat_le from r && (nat_lt r upto && r % n == k)

-- Slot k holds a record of the run.
abbrev pub holds_one : List Slot → ℕ → ℕ → ℕ → Bool
holds_one slots from upto k = belongs (length slots) from upto k (head_of (slice_index_or slots k zero_slot)).number

-- What is left of slot k.
abbrev pub left_at : List Slot → ℕ → ℕ → ℕ → Slot
left_at slots from upto k = cond (holds_one slots from upto k) (slice_index_or slots k zero_slot) zero_slot

-- The slots that hold a record of the run, and zeros for all others.
abbrev pub wiped : List Slot → ℕ → ℕ → List Slot
wiped slots from upto = map (left_at slots from upto) (range_with_len 0 (length slots))

-- A drive has been wiped up to slot k, one slot after another; at each write some slots may have become safe early.
abbrev pub Wipes : DriveView → ℕ → ℕ → ℕ → DriveView → Type 0
Wipes v from upto zero t = t ≡ v
Wipes v from upto (suc k) t = (u : DriveView) × Wipes v from upto k u × MatchBool (holds_one v.current from upto k) (t ≡ u) (Wrote u k zero_slot t)

-- All slots of the drive are wiped.
pub record Wiped (v : DriveView) (from upto : ℕ) (t : DriveView) : Type 0 where
  pub current : t.current ≡ wiped v.current from upto
  pub steps : Wipes v from upto (slot_count v) t
