-- The laws of `le` at every width, and of fields in a text of bytes. Assumes nothing.
use Rattle.std.proofs.Common.{◌≡◌, ℕ, zero, suc, ◌+◌, ◌*◌, ◌/◌, ◌%◌, ◌^◌, ◌<◌, ◌≤◌, List, [], ◌∷◌, length, get_or, drop, IfSome, Some, Option, sym, refl, ap, ◌∙◌, subst, pow-suc, arith, le-leb}
use borrow.Rule.Slice.PartMut.{put_mid}
use Rattle.std.proofs.lemmas.List.{drop_more, drop_all}
use Rattle.std.specs.Int.{from_le_bytes, w64}
use Rattle.endian.specs.Fields.{le, unle, placed, FieldsStand}

-- a number has as many bytes as the width says
pub length_le : (width value : ℕ) → length (le width value) ≡ width
unfolding le
length_le zero value = refl
length_le (suc width) value = ap suc (length_le width (value / 256))

-- each of them is a byte
pub byte_le : (width value i : ℕ) → get_or (le width value) i 0 < 256
unfolding le
byte_le zero value i = omega arith
byte_le (suc width) value zero = omega arith
byte_le (suc width) value (suc i) = byte_le width (value / 256) i

-- reading what was written
pub unle_le : (width value : ℕ) → value < 256 ^ width → unle (le width value) ≡ value
unfolding le unle
unle_le zero value h = omega arith
unle_le (suc width) value h =
    let power : 256 ^ suc width ≡ 256 ^ width * 256 = pow-suc 256 width in
    let rest : unle (le width (value / 256)) ≡ value / 256 = unle_le width (value / 256) (omega arith) in
    omega arith

-- writing what was read
pub le_unle : (bytes : List ℕ) → ((i : ℕ) → get_or bytes i 0 < 256) → le (length bytes) (unle bytes) ≡ bytes
unfolding le unle
le_unle [] each = refl
le_unle (byte ∷ bytes) each =
    let first : byte < 256 = each 0 in
    let low : (byte + 256 * unle bytes) % 256 ≡ byte = omega arith in
    let high : (byte + 256 * unle bytes) / 256 ≡ unle bytes = omega arith in
    let rest = le_unle bytes (λ i. each (suc i)) in
    rw (low, high, rest)

-- one writing for each number
pub le_unique : (width a b : ℕ) → a < 256 ^ width → b < 256 ^ width → le width a ≡ le width b → a ≡ b
le_unique width a b ha hb same = sym (unle_le width a ha) ∙ ap unle same ∙ unle_le width b hb

pub stand : FieldsStand
stand width = record {
  long = length_le width;
  in_range = byte_le width;
  back = unle_le width;
  unique = le_unique width;
  every = λ bytes long each. ap (λ n. le n (unle bytes)) (sym long) ∙ le_unle bytes each;
}

-- the number in `width` bytes from `i` on, as a sum by places
abbrev pub by_places : ℕ → ℕ → List ℕ → ℕ
by_places zero i bytes = 0
by_places (suc width) i bytes = get_or bytes i 0 + 256 * by_places width (i + 1) bytes

unle_places : (width i : ℕ) (bytes : List ℕ) → length bytes ≡ i + width → unle (drop i bytes) ≡ by_places width i bytes
unfolding unle
unle_places zero i bytes h = ap unle (drop_all i bytes (omega arith))
unle_places (suc width) i bytes h =
    let rest = unle_places width (i + 1) bytes (omega arith) in
    ap unle (drop_more bytes i 0 (omega arith)) ∙ ap (λ n. get_or bytes i 0 + 256 * n) rest

-- bytes of which `value` is the sum by places are its writing
pub written : (width : ℕ) (bytes : List ℕ) (value : ℕ) → ((i : ℕ) → get_or bytes i 0 < 256) → length bytes ≡ width → value ≡ by_places width 0 bytes → le width value ≡ bytes
written width bytes value each long sums =
    let number : unle bytes ≡ value = unle_places width 0 bytes (omega arith) ∙ sym sums in
    ap (le width) (sym number) ∙ ap (λ n. le n (unle bytes)) (sym long) ∙ le_unle bytes each

-- eight bytes are the writing of the number that is read from them
pub le_8 : (bytes : List ℕ) (n : ℕ) → length bytes ≡ 8 → ((i : ℕ) → get_or bytes i 0 < 256) → n ≡ from_le_bytes w64 bytes → le 8 n ≡ bytes
le_8 bytes n long each is = written 8 bytes n each long (omega arith)

-- what a part that has room leaves
pub placed_is : (at width : ℕ) (part bytes : List ℕ) → at + width ≤ length bytes → placed at width part bytes ≡ put_mid at width bytes part
placed_is at width part bytes room = rw (le-leb (at + width) (length bytes) room)

-- what holds of the value of a field that was there
pub got : (P : ℕ → Type 0) (r : Option ℕ) (v : ℕ) → r ≡ Some v → IfSome r P → P v
got P r v is holds = subst (λ o. IfSome o P) is holds
