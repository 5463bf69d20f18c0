-- Numbers as bytes, the lowest byte first, and fields of a text of bytes. Assumes nothing.
use Rattle.std.specs.Prelude.{◌≡◌, ℕ, zero, suc, ◌+◌, ◌*◌, ◌/◌, ◌%◌, ◌^◌, ◌<◌, Bool, cond, List, [], ◌∷◌, length, nat_le, slice_index}
use borrow.Rule.Slice.PartMut.{put_mid}

-- the lowest `width` bytes of a number
unfoldable pub le : ℕ → ℕ → List ℕ
le zero value = []
le (suc width) value = value % 256 ∷ le width (value / 256)

-- the number that some bytes write
unfoldable pub unle : List ℕ → ℕ
unle [] = 0
unle (byte ∷ bytes) = byte + 256 * unle bytes

-- whether a part of `width` bytes from `at` on lies in the bytes
abbrev pub lies : ℕ → ℕ → List ℕ → Bool
lies at width bytes = nat_le (at + width) (length bytes)

-- the bytes with `part` at `at`, or as they were where it would pass their end
abbrev pub placed : ℕ → ℕ → List ℕ → List ℕ → List ℕ
placed at width part bytes = cond (lies at width bytes) (put_mid at width bytes part) bytes

-- what holds of numbers and their bytes at every width
pub record LittleEndian (width : ℕ) : Type 0 where
  pub long : (value : ℕ) → length (le width value) ≡ width
  pub in_range : (value i : ℕ) → slice_index (le width value) i < 256
  pub back : (value : ℕ) → value < 256 ^ width → unle (le width value) ≡ value
  pub unique : (a b : ℕ) → a < 256 ^ width → b < 256 ^ width → le width a ≡ le width b → a ≡ b
  pub every : (bytes : List ℕ) → length bytes ≡ width → ((i : ℕ) → slice_index bytes i < 256) → le width (unle bytes) ≡ bytes

-- the laws, at every width
abbrev pub FieldsStand : Type 0
FieldsStand = (width : ℕ) → LittleEndian width
