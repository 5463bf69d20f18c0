-- What bytes say, read as an object. Assumes nothing.
use Rattle.std.specs.Prelude.{ℕ, zero, suc, ◌+◌, ◌*◌, ◌^◌, Bool, true, false, cond, not, ◌&&◌, List, [], ◌∷◌, length, map, take, drop, ◌==◌, nat_le, nat_lt}
use Rattle.endian.specs.Fields.{unle}
use Rattle.extents.specs.declared.extent.Extent.{Extent}
use Rattle.extents.specs.declared.target.Place.{Place}
use Rattle.extents.specs.Map.{end, goes_on}
use Rattle.extents.specs.Kinds.{place, place_advanced, place_same}
use Rattle.objects.specs.declared.entry.Carrier.{Carrier}
use Rattle.objects.specs.declared.entry.Carrier.TheVariants.{Data, Clean}
use Rattle.objects.specs.Layout.{Object, carrier, checkpoint, total}
use Rattle.objects.specs.Rules.{every, entry_fits, extent_fits, most_blocks, disk_size}
use Rattle.objects.specs.declared.header.Header.{Header}
use Rattle.objects.specs.declared.entry.Entry.{Entry}

-- The number in a field of so many bytes at a place.
abbrev pub field : ℕ → ℕ → List ℕ → ℕ
field width at bytes = unle (take width (drop at bytes))

-- The header at the front.
abbrev pub header_at : List ℕ → Header
header_at bytes = record { kind = field 4 0 bytes; number = field 4 4 bytes; first = field 8 8 bytes; entries = field 4 16 bytes; tally = field 4 20 bytes }

-- The entry of an object that carries blocks, at a place.
abbrev pub entry_at : List ℕ → ℕ → Entry
entry_at bytes at = record { address = field 4 at bytes; count = field 4 (at + 4) bytes }

-- The entry of a checkpoint, at a place.
abbrev pub extent_at : List ℕ → ℕ → Extent Place
extent_at bytes at = record { first = field 4 at bytes; length = field 4 (at + 4) bytes; target = record { object = field 4 (at + 8) bytes; offset = field 4 (at + 12) bytes } }

-- So many things from a place on, each so many bytes after the one before.
abbrev pub listed : {X : Type 0} → (ℕ → X) → ℕ → ℕ → ℕ → List X
listed thing step zero at = []
listed thing step (suc n) at = thing at ∷ listed thing step n (at + step)

-- What the bytes of each entry say, one by one.
abbrev pub entries_said : List (List ℕ) → List Entry
entries_said parts = map (λ bytes. entry_at bytes 0) parts

-- The same of the entries of a checkpoint.
abbrev pub extents_said : List (List ℕ) → List (Extent Place)
extents_said parts = map (λ bytes. extent_at bytes 0) parts

-- The object that carries blocks, as bytes say it.
abbrev pub carrier_at : Carrier → List ℕ → Object
carrier_at c bytes = carrier c (field 4 4 bytes) (field 8 8 bytes) (listed (entry_at bytes) 8 (field 4 16 bytes) 24) (drop (24 + 8 * field 4 16 bytes) bytes)

-- The checkpoint, as bytes say it.
abbrev pub checkpoint_at : List ℕ → Object
checkpoint_at bytes = checkpoint (field 4 4 bytes) (field 8 8 bytes) (field 4 20 bytes) (listed (extent_at bytes) 16 (field 4 16 bytes) 24)

-- The object of a kind, as bytes say it.
abbrev pub object_as : ℕ → List ℕ → Object
object_as kind bytes = cond (kind == 1) (carrier_at Data bytes) (cond (kind == 2) (carrier_at Clean bytes) (checkpoint_at bytes))

-- The object that bytes say.
abbrev pub object_at : List ℕ → Object
object_at bytes = object_as (field 4 0 bytes) bytes

-- Whether entries fit and have so many blocks together.
abbrev pub entries_sum : ℕ → ℕ → ℕ → List Entry → Bool
entries_sum most blocks tally es = every (entry_fits most blocks) es && total es == tally

-- Whether the counts of an object that carries blocks are in range, and so many bytes are what they ask for.
abbrev pub carrier_shape : Header → ℕ → Bool
carrier_shape h size = nat_le 1 h.entries && (nat_le h.entries 32 && (nat_le h.tally 32 && size == 24 + 8 * h.entries + 512 * h.tally))

-- Whether bytes keep the rules of an object that carries blocks.
abbrev pub carrier_sound : Carrier → ℕ → List ℕ → Bool
carrier_sound c blocks bytes =
    carrier_shape (header_at bytes) (length bytes)
    && entries_sum (most_blocks c) blocks (field 4 20 bytes) (listed (entry_at bytes) 8 (field 4 16 bytes) 24)

-- An extent that no extent with an object of 1 or more goes on from.
abbrev pub no_extent : Extent Place
no_extent = record { first = 0; length = 0; target = place 0 0 }

-- Whether an extent fits, is not empty, and may stand after another.
abbrev pub follows : ℕ → ℕ → Extent Place → Extent Place → Bool
follows number blocks last x = extent_fits number blocks x && (nat_le 1 x.length && (nat_le (end last) x.first && not (goes_on place_advanced place_same last x)))

-- Whether each extent of a list may stand after the one before.
abbrev pub chained : ℕ → ℕ → Extent Place → List (Extent Place) → Bool
chained number blocks last [] = true
chained number blocks last (x ∷ xs) = follows number blocks last x && chained number blocks x xs

-- Whether the counts and the first record of a checkpoint are in range, and so many bytes are what they ask for.
abbrev pub checkpoint_shape : Header → ℕ → ℕ → Bool
checkpoint_shape h blocks size = h.tally == blocks && (nat_le h.entries 1024 && (nat_lt h.first (2 ^ 40) && size == 24 + 16 * h.entries))

-- Whether bytes keep the rules of a checkpoint.
abbrev pub checkpoint_sound : ℕ → ℕ → List ℕ → Bool
checkpoint_sound name blocks bytes =
    checkpoint_shape (header_at bytes) blocks (length bytes)
    && chained name blocks no_extent (listed (extent_at bytes) 16 (field 4 16 bytes) 24)

-- Whether bytes keep the rules of the kind that they say.
abbrev pub kind_sound : ℕ → ℕ → ℕ → List ℕ → Bool
kind_sound kind name blocks bytes =
    cond (kind == 1) (carrier_sound Data blocks bytes) (cond (kind == 2) (carrier_sound Clean blocks bytes) (cond (kind == 3) (checkpoint_sound name blocks bytes) false))

-- Whether a disk may have so many blocks, and there are bytes enough for a header.
abbrev pub framed : ℕ → List ℕ → Bool
framed blocks bytes = disk_size blocks && nat_le 24 (length bytes)

-- Whether bytes with a header have the name and keep the rules of their kind.
abbrev pub belongs : Header → ℕ → ℕ → List ℕ → Bool
belongs h name blocks bytes = h.number == name && (nat_le 1 name && kind_sound h.kind name blocks bytes)

-- Whether bytes are an undamaged object of a name, for a disk of so many blocks.
abbrev pub sound : ℕ → ℕ → List ℕ → Bool
sound blocks name bytes = framed blocks bytes && belongs (header_at bytes) name blocks bytes
