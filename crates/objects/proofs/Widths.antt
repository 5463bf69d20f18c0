-- Fields of a text of bytes. Assumes nothing.
use Rattle.std.proofs.Common.{◌≡◌, ℕ, zero, suc, ◌+◌, ◌*◌, ◌^◌, ◌<◌, ◌≤◌, List, [], ◌∷◌, ◌++◌, length, get_or, take, drop, sym, ap, ◌∙◌, subst, pow-suc, arith, take-add}
use Rattle.std.proofs.lemmas.List.{length-take-le, length-drop, get_or-drop, take_at, drop_at, drop-drop}
use Rattle.endian.specs.Fields.{le, unle}
use Rattle.endian.proofs.Laws.{length_le, unle_le, le_unle}
use Rattle.objects.specs.Seen.{field}

-- Every element is a byte.
abbrev pub Bytes : List ℕ → Type 0
Bytes bytes = (i : ℕ) → get_or bytes i 0 < 256

bytes_take : (n : ℕ) (xs : List ℕ) → Bytes xs → Bytes (take n xs)
bytes_take zero xs each i = omega arith
bytes_take (suc n) [] each i = omega arith
bytes_take (suc n) (x ∷ xs) each zero = each 0
bytes_take (suc n) (x ∷ xs) each (suc i) = bytes_take n xs (λ k. each (suc k)) i

bytes_drop : (n : ℕ) (xs : List ℕ) → Bytes xs → Bytes (drop n xs)
bytes_drop n xs each i = rw get_or-drop (each (n + i))

-- a field that is read is written as it stands
pub le_field : (width at : ℕ) (bytes : List ℕ) → Bytes bytes → at + width ≤ length bytes → le width (field width at bytes) ≡ take width (drop at bytes)
le_field width at bytes each room =
    let part = take width (drop at bytes) in
    let long : length part ≡ width = length-take-le width (drop at bytes) (simp length-drop (omega arith)) in
    ap (λ n. le n (unle part)) (sym long) ∙ le_unle part (bytes_take width (drop at bytes) (bytes_drop at bytes each))

-- a field that is written is read as it was
pub field_le : (width at value : ℕ) (bytes : List ℕ) → value < 256 ^ width → take width (drop at bytes) ≡ le width value → field width at bytes ≡ value
field_le width at value bytes small is = ap unle is ∙ unle_le width value small

-- two neighbouring parts are one
pub two_parts : (a b at : ℕ) (bytes : List ℕ) → take a (drop at bytes) ++ take b (drop (at + a) bytes) ≡ take (a + b) (drop at bytes)
two_parts a b at bytes = ap (λ l. take a (drop at bytes) ++ take b l) (sym (drop-drop a at bytes)) ∙ sym (take-add a b (drop at bytes))

-- what a text that goes on with a number has there, and what comes after
pub next_field : (width at value : ℕ) (bytes rest : List ℕ) → value < 256 ^ width → drop at bytes ≡ le width value ++ rest → (field width at bytes ≡ value) × (drop (at + width) bytes ≡ rest)
next_field width at value bytes rest small is = (
  field_le width at value bytes small (ap (take width) is ∙ take_at (le width value) rest width (length_le width value)),
  sym (drop-drop width at bytes) ∙ ap (drop width) is ∙ drop_at (le width value) rest width (length_le width value),
)

unle_small : (bytes : List ℕ) → Bytes bytes → unle bytes < 256 ^ length bytes
unfolding unle
unle_small [] each = omega arith
unle_small (byte ∷ bytes) each =
    let first : byte < 256 = each 0 in
    let rest : unle bytes < 256 ^ length bytes = unle_small bytes (λ i. each (suc i)) in
    let power : 256 ^ suc (length bytes) ≡ 256 ^ length bytes * 256 = pow-suc 256 (length bytes) in
    omega arith

-- a field holds a number of its width
pub field_small : (width at : ℕ) (bytes : List ℕ) → Bytes bytes → at + width ≤ length bytes → field width at bytes < 256 ^ width
field_small width at bytes each room =
    let part = take width (drop at bytes) in
    let long : length part ≡ width = length-take-le width (drop at bytes) (simp length-drop (omega arith)) in
    subst (λ n. unle part < 256 ^ n) long (unle_small part (bytes_take width (drop at bytes) (bytes_drop at bytes each)))
