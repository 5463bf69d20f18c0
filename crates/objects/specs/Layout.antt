-- Objects and their bytes. Assumes nothing.
use Rattle.std.specs.Prelude.{ℕ, ◌+◌, ◌*◌, List, [], ◌∷◌, ◌++◌, length}
use Rattle.std.specs.List.{flat_map}
use Rattle.endian.specs.Fields.{le}
use Rattle.extents.specs.declared.extent.Extent.{Extent}
use Rattle.extents.specs.declared.target.Place.{Place}
use Rattle.objects.specs.declared.header.Header.{Header}
use Rattle.objects.specs.declared.entry.Entry.{Entry}
use Rattle.objects.specs.declared.entry.Carrier.{Carrier}
use Rattle.objects.specs.declared.entry.Carrier.TheVariants.{Data, Clean}
use Rattle.objects.specs.declared.kind.Kind.{Kind}
use Rattle.objects.specs.declared.kind.Kind.TheVariants.{Checkpoint, Carrier as Carrying}

-- An object: one that carries blocks, with its number, first record, entries and payload, or a checkpoint, with its number, first record, count of blocks and table.
pub data Object : Type 0 where
  carrier : Carrier → ℕ → ℕ → List Entry → List ℕ → Object
  checkpoint : ℕ → ℕ → ℕ → List (Extent Place) → Object

-- The number of each kind that carries blocks.
abbrev pub carrier_kind : Carrier → ℕ
carrier_kind Data = 1
carrier_kind Clean = 2

-- The number of each kind of object.
abbrev pub kind_number : Kind → ℕ
kind_number (Carrying c) = carrier_kind c
kind_number Checkpoint = 3

-- How many blocks the entries have together.
abbrev pub total : List Entry → ℕ
total [] = 0
total (e ∷ es) = e.count + total es

-- The number that an object has.
abbrev pub number_of : Object → ℕ
number_of (carrier c number first es payload) = number
number_of (checkpoint number first blocks table) = number

-- The first record that an object has.
abbrev pub first_of : Object → ℕ
first_of (carrier c number first es payload) = first
first_of (checkpoint number first blocks table) = first

-- What an object's header says: the tally is the count of blocks that it carries, and in a checkpoint the count of the disk's blocks.
abbrev pub header_of : Object → Header
header_of (carrier c number first es payload) = record { kind = carrier_kind c; number = number; first = first; entries = length es; tally = total es }
header_of (checkpoint number first blocks table) = record { kind = 3; number = number; first = first; entries = length table; tally = blocks }

-- The bytes of a header.
abbrev pub header_bytes : Header → List ℕ
header_bytes h = le 4 h.kind ++ (le 4 h.number ++ (le 8 h.first ++ (le 4 h.entries ++ le 4 h.tally)))

-- The bytes of an entry of an object that carries blocks.
abbrev pub entry_bytes : Entry → List ℕ
entry_bytes e = le 4 e.address ++ le 4 e.count

-- The bytes of an entry of a checkpoint.
abbrev pub extent_bytes : Extent Place → List ℕ
extent_bytes x = le 4 x.first ++ (le 4 x.length ++ (le 4 x.target.object ++ le 4 x.target.offset))

-- The bytes after an object's header.
abbrev pub body_bytes : Object → List ℕ
body_bytes (carrier c number first es payload) = flat_map entry_bytes es ++ payload
body_bytes (checkpoint number first blocks table) = flat_map extent_bytes table

-- The bytes of an object.
abbrev pub written : Object → List ℕ
written o = header_bytes (header_of o) ++ body_bytes o

-- Where the payload block lies that has so many before it.
abbrev pub payload_offset : ℕ → ℕ → ℕ
payload_offset entries before = 24 + 8 * entries + 512 * before
