-- Which objects keep the rules. Assumes nothing.
use Rattle.std.specs.Prelude.{◌≡◌, ℕ, ◌+◌, ◌*◌, ◌^◌, Bool, true, ◌&&◌, List, [], ◌∷◌, length, ◌==◌, nat_le, nat_lt}
use Rattle.extents.specs.declared.extent.Extent.{Extent}
use Rattle.extents.specs.declared.target.Place.{Place}
use Rattle.extents.specs.Map.{end, is_table}
use Rattle.extents.specs.Kinds.{place_advanced, place_same}
use Rattle.objects.specs.declared.entry.Entry.{Entry}
use Rattle.objects.specs.declared.entry.Carrier.{Carrier}
use Rattle.objects.specs.declared.entry.Carrier.TheVariants.{Data, Clean}
use Rattle.objects.specs.Layout.{Object, carrier, checkpoint, total, number_of, written}

-- Whether a disk may have so many blocks.
abbrev pub disk_size : ℕ → Bool
disk_size blocks = nat_le 1 blocks && nat_le blocks 1024

-- How many blocks an entry may have.
abbrev pub most_blocks : Carrier → ℕ
most_blocks Data = 8
most_blocks Clean = 32

-- Whether a test holds of every element.
abbrev pub every : {X : Type 0} → (X → Bool) → List X → Bool
every ok [] = true
every ok (x ∷ xs) = ok x && every ok xs

-- Whether an entry has a block, no more than it may have, and none past the disk's last.
abbrev pub entry_fits : ℕ → ℕ → Entry → Bool
entry_fits most blocks e = nat_le 1 e.count && (nat_le e.count most && nat_le (e.address + e.count) blocks)

-- Whether an extent ends within the disk, in an object from 1 to below the checkpoint's own number, and at offset 65,536 or before.
abbrev pub extent_fits : ℕ → ℕ → Extent Place → Bool
extent_fits number blocks x =
    nat_le (end x) blocks && (nat_le 1 x.target.object && (nat_lt x.target.object number && nat_le (x.target.offset + 512 * x.length) 65536))

-- Whether what an object holds keeps the rules of its kind on a disk of so many blocks.
abbrev pub holds_well : ℕ → Object → Bool
holds_well blocks (carrier c number first es payload) =
    nat_le 1 (length es) && (nat_le (length es) 32 && (every (entry_fits (most_blocks c) blocks) es && (nat_le (total es) 32 && (nat_lt first (2 ^ 64) && length payload == 512 * total es))))
holds_well blocks (checkpoint number first size table) =
    (size == blocks) && (nat_le (length table) 1024 && (nat_lt first (2 ^ 40) && (is_table place_advanced place_same table && every (extent_fits number blocks) table)))

-- Whether an object is valid under a name on a disk of so many blocks.
abbrev pub valid : ℕ → ℕ → Object → Bool
valid blocks name o = disk_size blocks && (number_of o == name && (nat_le 1 name && (nat_lt name (2 ^ 32) && holds_well blocks o)))

-- Two valid objects with the same bytes are equal.
abbrev pub OneObject : Type 0
OneObject = (blocks size name title : ℕ) (a b : Object) → valid blocks name a ≡ true → valid size title b ≡ true → written a ≡ written b → a ≡ b
