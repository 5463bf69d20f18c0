-- Slots kept in memory.
use Rattle.std.specs.Prelude.{◌≡◌, ℕ, ◌^◌, ◌<◌, ◌≤◌, List, [], length, Ok, Err, Result, slice_index_or, slice_set}
use Rattle.drive.specs.Views.{Slot, Full, Bytes, fault_number}
use Rattle.drive.specs.declared.DriveFault.{DriveFault}

-- What is kept: one slot at least, no more than slot numbers can tell apart, and each of them full of bytes.
pub record Kept (slots : List Slot) : Type 0 where
  pub some : 0 < length slots
  pub few : length slots < 2 ^ 32
  pub full : Full slots
  pub bytes : Bytes slots

-- One slot is read, or there is none.
abbrev pub AreaRead : List Slot → ℕ → Slot → Result (Unit {0}) DriveFault → Slot → Type 0
AreaRead slots k before (Ok _) after = (k < length slots) × (after ≡ slice_index_or slots k [])
AreaRead slots k before (Err e) after = (length slots ≤ k) × (fault_number e ≡ 1) × (after ≡ before)

-- One slot is changed, or there is none.
abbrev pub AreaWrite : List Slot → ℕ → Slot → Result (Unit {0}) DriveFault → List Slot → Type 0
AreaWrite slots k bytes (Ok _) after = (k < length slots) × (after ≡ slice_set slots k bytes)
AreaWrite slots k bytes (Err e) after = (length slots ≤ k) × (fault_number e ≡ 1) × (after ≡ slots)
