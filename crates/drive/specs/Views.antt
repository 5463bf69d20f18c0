-- What a drive means, and what each of its calls does to that.
use Rattle.std.specs.Prelude.{◌≡◌, ℕ, suc, ◌/◌, ◌%◌, ◌^◌, ◌<◌, ◌≤◌, Bool, codes, cond, List, [], ◌∷◌, length, replicate, Ok, Err, Result, ◌==◌, slice_index, slice_index_or, slice_set}
use Rattle.drive.specs.declared.DriveFault.{DriveFault}
use Rattle.drive.specs.declared.DriveFault.TheVariants.{NoSuchSlot}
use Rattle.drive.specs.declared.MakeFault.{MakeFault}
use Rattle.drive.specs.declared.MakeFault.TheVariants.{NoSlots, NoMemory}

-- The bytes of one slot.
abbrev pub Slot : Type 0
Slot = List ℕ

-- How many bytes a slot has.
abbrev pub slot_bytes : ℕ
slot_bytes = 528

-- The slot of zeros.
unfoldable pub zero_slot : Slot
zero_slot = replicate slot_bytes 0

-- What each slot reads as now, and what it is sure to hold after a power cut.
pub record DriveView : Type 0 where
  pub current : List Slot
  pub safe : List Slot

-- How many slots a drive has.
abbrev pub slot_count : DriveView → ℕ
slot_count v = length v.current

-- Every slot of the list has the length of a slot.
abbrev pub Full : List Slot → Type 0
Full slots = (k : ℕ) → k < length slots → length (slice_index_or slots k []) ≡ slot_bytes

-- Every slot of the list holds bytes.
abbrev pub Bytes : List Slot → Type 0
Bytes slots = (k i : ℕ) → slice_index (slice_index_or slots k []) i < 256

-- What every drive owes: one slot at least, as many safe slots as current ones, and each of them full of bytes.
pub record Shaped (v : DriveView) : Type 0 where
  pub some : 0 < slot_count v
  pub even : length v.safe ≡ slot_count v
  pub current_full : Full v.current
  pub current_bytes : Bytes v.current
  pub safe_full : Full v.safe
  pub safe_bytes : Bytes v.safe

-- The slots of `new` that are chosen, by their place, and those of `old` elsewhere.
abbrev pub mixed : (ℕ → Bool) → List Slot → List Slot → List Slot
mixed chosen [] old = []
mixed chosen (x ∷ new) [] = []
mixed chosen (x ∷ new) (y ∷ old) = cond (chosen 0) x y ∷ mixed (λ k. chosen (suc k)) new old

-- Bit k of the number is 1; bit 0 is the lowest.
abbrev pub bit : ℕ → ℕ → Bool
bit d k = d / 2 ^ k % 2 == 1

-- The number that a refusal is known by.
abbrev pub fault_number : DriveFault → ℕ
fault_number NoSuchSlot = 1

-- A call for slot k is refused, with 1, exactly where there is no slot k.
pub record Refused (v : DriveView) (k : ℕ) (e : DriveFault) : Type 0 where
  pub past : slot_count v ≤ k
  pub number : fault_number e ≡ 1

-- A read answers the slot's current bytes; a refused one leaves the caller's as they were.
abbrev pub Read : DriveView → ℕ → Slot → Result (Unit {0}) DriveFault → Slot → Type 0
Read v k before (Ok _) after = (k < slot_count v) × (after ≡ slice_index_or v.current k [])
Read v k before (Err e) after = Refused v k e × (after ≡ before)

-- Some slots, whichever were chosen, have become safe with their current bytes; the other safe slots are as before.
pub record MadeSafe (current before after : List Slot) : Type 0 where
  pub chosen : ℕ → Bool
  pub is : after ≡ mixed chosen current before

-- Slot k now reads as the bytes, and no other current slot has changed; some slots may be safe early.
pub record Wrote (v : DriveView) (k : ℕ) (bytes : Slot) (w : DriveView) : Type 0 where
  pub within : k < slot_count v
  pub current : w.current ≡ slice_set v.current k bytes
  pub early : MadeSafe w.current v.safe w.safe

-- A write changes one slot, or is refused and changes nothing.
abbrev pub Write : DriveView → ℕ → Slot → Result (Unit {0}) DriveFault → DriveView → Type 0
Write v k bytes (Ok _) w = Wrote v k bytes w
Write v k bytes (Err e) w = Refused v k e × (w ≡ v)

-- The drive whose current slots are these, all of them safe.
abbrev pub settled : List Slot → DriveView
settled slots = record { current = slots; safe = slots }

-- A flush makes every current slot safe.
abbrev pub flushed : DriveView → DriveView
flushed v = settled v.current

-- What a cut leaves if the chosen slots keep their current bytes and the others fall back to their safe ones.
abbrev pub cut_by : (ℕ → Bool) → DriveView → DriveView
cut_by chosen v = settled (mixed chosen v.current v.safe)

-- After a cut each slot holds its current or its safe bytes, whichever was chosen for it, and these are safe.
pub record Cut (v w : DriveView) : Type 0 where
  pub chosen : ℕ → Bool
  pub is : w ≡ cut_by chosen v

-- A blank drive: that many slots of zeros, safely.
abbrev pub blank : ℕ → DriveView
blank n = settled (replicate n zero_slot)

-- The number that a refusal to make a drive is known by.
abbrev pub make_number : MakeFault → ℕ
make_number NoSlots = 1
make_number NoMemory = 2

-- What such a refusal is called.
abbrev pub make_text : MakeFault → List ℕ
make_text NoSlots = codes "a drive of no slots"
make_text NoMemory = codes "no memory for a drive"

-- A drive of n slots starts blank; none is made of 0 slots, and want of memory is the only other refusal.
abbrev pub Made : {D : Type 0} → ℕ → (D → DriveView) → Result D MakeFault → Type 0
Made n means (Ok d) = (0 < n) × (means d ≡ blank n)
Made n means (Err e) = make_number e ≡ cond (n == 0) 1 2

-- A write that makes nothing safe.
abbrev pub wrote_current : DriveView → ℕ → Slot → DriveView
wrote_current v k bytes = record { current = slice_set v.current k bytes; safe = v.safe }

-- A write that makes its own slot safe at once.
abbrev pub wrote_through : DriveView → ℕ → Slot → DriveView
wrote_through v k bytes = record { current = slice_set v.current k bytes; safe = slice_set v.safe k bytes }
