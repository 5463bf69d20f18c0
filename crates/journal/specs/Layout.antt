-- How a record lies in a slot: number, address, index and count, each little-endian, then its block.
use Rattle.std.specs.Prelude.{◌≡◌, ℕ, ◌^◌, ◌<◌, List, ◌++◌, length, take, drop, slice_index}
use Rattle.endian.specs.Fields.{le, unle}
use Rattle.drive.specs.Views.{Slot, slot_bytes}
use Rattle.journal.specs.declared.record.Head.{Head}
use Rattle.journal.specs.declared.record.Record.{Record}

-- How many bytes a block has.
abbrev pub block_bytes : ℕ
block_bytes = 512

-- The bytes of a record's head.
abbrev pub head_bytes : Head → List ℕ
head_bytes h = ((le 8 h.number ++ le 4 h.address) ++ le 2 h.index) ++ le 2 h.count

-- The slot of a record.
abbrev pub slot : Head → List ℕ → Slot
slot h block = head_bytes h ++ block

-- The head that a slot holds, whatever its bytes are.
abbrev pub head_of : Slot → Head
head_of s = record {
  number = unle (take 8 s);
  address = unle (take 4 (drop 8 s));
  index = unle (take 2 (drop 12 s));
  count = unle (take 2 (drop 14 s));
}

-- The block that a slot holds.
abbrev pub block_of : Slot → List ℕ
block_of s = take block_bytes (drop 16 s)

-- The record that a slot holds.
abbrev pub record_of : Slot → Record
record_of s = record { head = head_of s; block = block_of s }

-- A head whose fields have their widths.
pub record FitsHead (h : Head) : Type 0 where
  pub number : h.number < 2 ^ 64
  pub address : h.address < 2 ^ 32
  pub index : h.index < 2 ^ 16
  pub count : h.count < 2 ^ 16

-- A record whose fields have their widths.
pub record FitsRecord (r : Record) : Type 0 where
  pub head : FitsHead r.head
  pub block : length r.block ≡ block_bytes

-- The slot of a record, as one value.
abbrev pub slot_of : Record → Slot
slot_of r = slot r.head r.block

-- Records and their slots: a slot is full, reads back as its record, and no two records have the same slot.
pub record SlotsStand : Type 0 where
  pub long : (r : Record) → FitsRecord r → length (slot_of r) ≡ slot_bytes
  pub back : (r : Record) → FitsRecord r → record_of (slot_of r) ≡ r
  pub unique : (r s : Record) → FitsRecord r → FitsRecord s → slot_of r ≡ slot_of s → r ≡ s
  pub every : (s : Slot) → length s ≡ slot_bytes → ((i : ℕ) → slice_index s i < 256) → slot_of (record_of s) ≡ s
