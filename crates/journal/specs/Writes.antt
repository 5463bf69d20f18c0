-- Which writes stand in the slots of a log, and what a scan of them finds.
use Rattle.std.specs.Prelude.{◌≡◌, ℕ, ◌+◌, ◌-◌, ◌%◌, ◌^◌, ◌<◌, ◌≤◌, min, cond, List, [], ◌∷◌, length, Ok, Err, Result, nat_lt, slice_index_or}
use Rattle.drive.specs.Views.{Slot, DriveView, zero_slot, slot_count}
use Rattle.journal.specs.Layout.{head_of}
use Rattle.journal.specs.declared.span.Span.{Span}
use Rattle.journal.specs.declared.span.ScanFault.{ScanFault}
use Rattle.journal.specs.declared.span.ScanFault.TheVariants.{TooFar, NoRoom}

-- The slot in which a record lies.
abbrev pub slot_at : List Slot → ℕ → Slot
slot_at slots r = slice_index_or slots (r % length slots) zero_slot

-- The slot of record r holds that record, for the block at address a, with index i in a write of n.
pub record Holds (slots : List Slot) (r a i n : ℕ) : Type 0 where
  pub number : (head_of (slot_at slots r)).number ≡ r
  pub address : (head_of (slot_at slots r)).address ≡ a
  pub index : (head_of (slot_at slots r)).index ≡ i
  pub count : (head_of (slot_at slots r)).count ≡ n

-- The most blocks that a write covers.
abbrev pub most_blocks : ℕ
most_blocks = 8

-- In a volume of that many blocks a write of n blocks from address a on stands at record w.
pub record Stands (slots : List Slot) (blocks w a n : ℕ) : Type 0 where
  pub some : 1 ≤ n
  pub few : n ≤ most_blocks
  pub inside : a + n ≤ blocks
  pub each : (i : ℕ) → i < n → Holds slots (w + i) (a + i) i n

-- The scan from record w takes one write after another, each where the one before it ended, until none stands.
abbrev pub Scan : List Slot → ℕ → ℕ → List Span → Type 0
Scan slots blocks w [] = (a n : ℕ) → Stands slots blocks w a n → ⊥
Scan slots blocks w (s ∷ ss) = Stands slots blocks w s.address s.count × Scan slots blocks (w + s.count) ss

-- The scan that takes at most that many records: it also ends before a write that would pass them.
abbrev pub ScanMost : List Slot → ℕ → ℕ → ℕ → List Span → Type 0
ScanMost slots blocks most w [] = (a n : ℕ) → Stands slots blocks w a n → most < n
ScanMost slots blocks most w (s ∷ ss) = Stands slots blocks w s.address s.count × (s.count ≤ most) × ScanMost slots blocks (most - s.count) (w + s.count) ss

-- How many records some writes have.
abbrev pub records : List Span → ℕ
records [] = 0
records (s ∷ ss) = s.count + records ss

-- What a scan takes is settled by the slots; it has no more records than there are slots; and a limit of that many is none.
pub record ScansStand : Type 0 where
  pub same : (slots : List Slot) (blocks w : ℕ) (xs ys : List Span) → Scan slots blocks w xs → Scan slots blocks w ys → xs ≡ ys
  pub same_most : (slots : List Slot) (blocks most w : ℕ) (xs ys : List Span) → ScanMost slots blocks most w xs → ScanMost slots blocks most w ys → xs ≡ ys
  pub few : (slots : List Slot) (blocks w : ℕ) (xs : List Span) → 0 < length slots → Scan slots blocks w xs → records xs ≤ length slots
  pub few_most : (slots : List Slot) (blocks most w : ℕ) (xs : List Span) → 0 < length slots → ScanMost slots blocks most w xs → records xs ≤ min (length slots) most
  pub no_limit : (slots : List Slot) (blocks most w : ℕ) (xs : List Span) → 0 < length slots → length slots ≤ most → ScanMost slots blocks most w xs → Scan slots blocks w xs

-- The writes that a scan found, and how many it has room for.
pub record FoundView : Type 0 where
  pub spans : List Span
  pub room : ℕ

-- The last record from which a scan may start.
abbrev pub last_record : ℕ
last_record = 2 ^ 41

-- The number that a refused scan is known by.
abbrev pub scan_number : ScanFault → ℕ
scan_number TooFar = 1
scan_number NoRoom = 2

-- Which refusal a scan gets, the upper one first: 1 past the last record, 2 without room for all that it could find, 0 for none.
abbrev pub scan_refusal : ℕ → ℕ → ℕ → ℕ → ℕ
scan_refusal slots w most room = cond (nat_lt last_record w) 1 (cond (nat_lt room (min slots most)) 2 0)

-- A scan finds exactly what the slots settle, and answers where it ended; a refused one leaves what was found before.
abbrev pub Scanned : DriveView → ℕ → ℕ → ℕ → FoundView → Result ℕ ScanFault → FoundView → Type 0
Scanned v blocks w most before (Ok end) after =
    (scan_refusal (slot_count v) w most before.room ≡ 0)
    × (after.room ≡ before.room)
    × ScanMost v.current blocks most w after.spans
    × (end ≡ w + records after.spans)
Scanned v blocks w most before (Err e) after =
    (scan_refusal (slot_count v) w most before.room ≡ scan_number e) × (after ≡ before)
