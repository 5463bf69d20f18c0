-- Writing a write's records into their slots.
use Rattle.std.specs.Prelude.{◌≡◌, ℕ, zero, suc, ◌+◌, ◌*◌, ◌/◌, ◌%◌, ◌^◌, ◌<◌, ◌≤◌, Bool, true, cond, not, ◌&&◌, List, length, take, drop, Ok, Err, Result, ◌==◌, ◌≢◌, nat_le, nat_lt, slice_index_or, slice_set}
use Rattle.std.specs.Simd.{first_chunks}
use Rattle.drive.specs.Views.{Slot, DriveView, Wrote, slot_count}
use Rattle.journal.specs.Layout.{block_bytes, slot}
use Rattle.journal.specs.Writes.{Stands, last_record, most_blocks, slot_at}
use Rattle.journal.specs.declared.record.Head.{Head}
use Rattle.journal.specs.declared.record.WriteFault.{WriteFault}
use Rattle.journal.specs.declared.record.WriteFault.TheVariants.{TooFar, BadLength, BadAddress, TooFewSlots}

-- The head with index i of a write of n blocks from address a on that begins at record w.
abbrev pub nth_head : ℕ → ℕ → ℕ → ℕ → Head
nth_head w a n i = record { number = w + i; address = a + i; index = i; count = n }

-- Block i of the bytes.
abbrev pub nth_block : List ℕ → ℕ → List ℕ
nth_block bytes i = take block_bytes (drop (block_bytes * i) bytes)

-- The slot of the record with index i of that write.
abbrev pub nth_slot : ℕ → ℕ → ℕ → List ℕ → ℕ → Slot
nth_slot w a n bytes i = slot (nth_head w a n i) (nth_block bytes i)

-- The slots once the first i records of the write have been put into theirs, one after another.
abbrev pub written : List Slot → ℕ → ℕ → ℕ → List ℕ → ℕ → List Slot
written slots w a n bytes zero = slots
written slots w a n bytes (suc i) = slice_set (written slots w a n bytes i) ((w + i) % length slots) (nth_slot w a n bytes i)

-- A drive has taken the first i records of the write, one after another; at each some slots may have become safe early.
abbrev pub Takes : DriveView → ℕ → ℕ → ℕ → List ℕ → ℕ → DriveView → Type 0
Takes v w a n bytes zero t = t ≡ v
Takes v w a n bytes (suc i) t = (u : DriveView) × Takes v w a n bytes i u × Wrote u ((w + i) % slot_count v) (nth_slot w a n bytes i) t

-- All n records of the write are in their slots, and no other current slot has changed.
pub record Filled (v : DriveView) (w a n : ℕ) (bytes : List ℕ) (t : DriveView) : Type 0 where
  pub current : t.current ≡ written v.current w a n bytes n
  pub steps : Takes v w a n bytes n t

-- How many blocks the bytes are.
abbrev pub blocks_in : List ℕ → ℕ
blocks_in bytes = length bytes / block_bytes

-- The bytes are 1 to 8 whole blocks.
abbrev pub whole_write : List ℕ → Bool
whole_write bytes = length bytes % block_bytes == 0 && (nat_le 1 (blocks_in bytes) && nat_le (blocks_in bytes) most_blocks)

-- The bytes are a whole write, and cut up they are these blocks.
pub record AreBlocks (bytes : List ℕ) (blocks : List (List ℕ)) : Type 0 where
  pub whole : whole_write bytes ≡ true
  pub count : length blocks ≡ blocks_in bytes
  pub is : blocks ≡ first_chunks block_bytes (blocks_in bytes) bytes

-- The number that a refused write is known by.
abbrev pub write_number : WriteFault → ℕ
write_number TooFar = 1
write_number BadLength = 2
write_number BadAddress = 3
write_number TooFewSlots = 4

-- Which refusal a write gets, the upper one first: 1 past the last record, 2 if the bytes are not 1 to 8 blocks,
-- 3 if an address would not fit its field, 4 with fewer slots than blocks, 0 for none.
abbrev pub write_refusal : ℕ → ℕ → ℕ → List ℕ → ℕ
write_refusal slots w a bytes =
    cond (nat_lt last_record w) 1 (cond (not (whole_write bytes)) 2 (cond (nat_lt (2 ^ 32) (a + blocks_in bytes)) 3 (cond (nat_lt slots (blocks_in bytes)) 4 0)))

-- A write's records are put into their slots, or it is refused and nothing changes.
abbrev pub Filling : DriveView → ℕ → ℕ → List ℕ → Result (Unit {0}) WriteFault → DriveView → Type 0
Filling v w a bytes (Ok _) t = (write_refusal (slot_count v) w a bytes ≡ 0) × Filled v w a (blocks_in bytes) bytes t
Filling v w a bytes (Err e) t = (write_refusal (slot_count v) w a bytes ≡ write_number e) × (t ≡ v)

-- What a write of n blocks leaves, given enough slots: each of its slots holds its record, the others are as they were,
-- and in a volume that has those blocks the write stands.
pub record LeftBy (slots : List Slot) (w a n : ℕ) (bytes : List ℕ) : Type 0 where
  pub long : length (written slots w a n bytes n) ≡ length slots
  pub each : (i : ℕ) → i < n → slot_at (written slots w a n bytes n) (w + i) ≡ nth_slot w a n bytes i
  pub others : (k : ℕ) (d : Slot) → ((i : ℕ) → i < n → (w + i) % length slots ≢ k) → slice_index_or (written slots w a n bytes n) k d ≡ slice_index_or slots k d
  pub stands : (blocks : ℕ) → a + n ≤ blocks → Stands (written slots w a n bytes n) blocks w a n

-- So it is for every write that is not refused.
abbrev pub WritesStand : Type 0
WritesStand = (slots : List Slot) (w a : ℕ) (bytes : List ℕ) → write_refusal (length slots) w a bytes ≡ 0 → LeftBy slots w a (blocks_in bytes) bytes
