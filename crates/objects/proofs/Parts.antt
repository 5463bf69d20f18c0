-- Parts of a fixed count of bytes: what their bytes say, and what a text of them is. Assumes nothing.
use Rattle.std.proofs.Common.{◌≡◌, ℕ, zero, suc, ◌+◌, ◌-◌, ◌*◌, ◌<◌, ◌≤◌, List, [], ◌∷◌, length, map, get_or, take, drop, sym, refl, ap, ◌∙◌, mul-suc, arith}
use Rattle.std.specs.Simd.{first_chunks}
use Rattle.std.proofs.lemmas.List.{take_all, take-take, drop-take, drop-drop, get_or-map, length-map}
use Rattle.endian.specs.Fields.{unle}
use Rattle.objects.specs.Layout.{entry_bytes, extent_bytes, header_bytes}
use Rattle.objects.specs.Seen.{field, entry_at, extent_at, header_at, listed, entries_said, extents_said}
use Rattle.objects.proofs.Widths.{Bytes}
use Rattle.objects.proofs.Writings.{header_back, entry_back, extent_back}

-- as many bytes as a header has are the bytes of what they say
pub header_whole : (bytes : List ℕ) → Bytes bytes → length bytes ≡ 24 → header_bytes (header_at bytes) ≡ bytes
header_whole bytes each long = header_back bytes each (omega arith) ∙ take_all 24 bytes (omega arith)

-- the same of an entry of an object that carries blocks
pub entry_whole : (bytes : List ℕ) → Bytes bytes → length bytes ≡ 8 → entry_bytes (entry_at bytes 0) ≡ bytes
entry_whole bytes each long = entry_back bytes each 0 (omega arith) ∙ take_all 8 bytes (omega arith)

-- the same of an entry of a checkpoint
pub extent_whole : (bytes : List ℕ) → Bytes bytes → length bytes ≡ 16 → extent_bytes (extent_at bytes 0) ≡ bytes
extent_whole bytes each long = extent_back bytes each 0 (omega arith) ∙ take_all 16 bytes (omega arith)

-- a field of a part is a field of the whole
field_in : (width k n at place : ℕ) (bytes : List ℕ) → k + width ≤ n → place ≡ at + k → field width k (take n (drop at bytes)) ≡ field width place bytes
field_in width k n at place bytes fits is =
    let split : k + (n - k) ≡ n = omega arith in
    ap unle (ap (λ m. take width (drop k (take m (drop at bytes)))) (sym split) ∙ ap (take width) (drop-take k (n - k) (drop at bytes)) ∙ take-take width (n - k) (drop k (drop at bytes)) (omega arith)
    ∙ ap (take width) (drop-drop k at bytes ∙ ap (λ m. drop m bytes) (sym is)))

pub header_in : (bytes : List ℕ) → header_at (take 24 bytes) ≡ header_at bytes
header_in bytes =
    let f0 = field_in 4 0 24 0 0 bytes (omega arith) refl in
    let f1 = field_in 4 4 24 0 4 bytes (omega arith) refl in
    let f2 = field_in 8 8 24 0 8 bytes (omega arith) refl in
    let f3 = field_in 4 16 24 0 16 bytes (omega arith) refl in
    let f4 = field_in 4 20 24 0 20 bytes (omega arith) refl in
    λ i. record { kind = f0 i; number = f1 i; first = f2 i; entries = f3 i; tally = f4 i }

entry_in : (bytes : List ℕ) (at : ℕ) → entry_at (take 8 (drop at bytes)) 0 ≡ entry_at bytes at
entry_in bytes at =
    let f0 = field_in 4 0 8 at at bytes (omega arith) (omega arith) in
    let f1 = field_in 4 4 8 at (at + 4) bytes (omega arith) refl in
    λ i. record { address = f0 i; count = f1 i }

extent_in : (bytes : List ℕ) (at : ℕ) → extent_at (take 16 (drop at bytes)) 0 ≡ extent_at bytes at
extent_in bytes at =
    let f0 = field_in 4 0 16 at at bytes (omega arith) (omega arith) in
    let f1 = field_in 4 4 16 at (at + 4) bytes (omega arith) refl in
    let f2 = field_in 4 8 16 at (at + 8) bytes (omega arith) refl in
    let f3 = field_in 4 12 16 at (at + 12) bytes (omega arith) refl in
    λ i. record { first = f0 i; length = f1 i; target = record { object = f2 i; offset = f3 i } }

-- the chunks of a text of parts, each read alone
chunks_read : {X : Type 0} (thing : List ℕ → ℕ → X) (step : ℕ) (bytes : List ℕ) → ((at : ℕ) → thing (take step (drop at bytes)) 0 ≡ thing bytes at)
    → (n at : ℕ) → map (λ part. thing part 0) (first_chunks step n (drop at bytes)) ≡ listed (thing bytes) step n at
chunks_read thing step bytes each zero at = refl
chunks_read thing step bytes each (suc n) at =
    ap (λ x. x ∷ map (λ part. thing part 0) (first_chunks step n (drop step (drop at bytes)))) (each at)
    ∙ ap (λ l. thing bytes at ∷ map (λ part. thing part 0) (first_chunks step n l)) (drop-drop step at bytes)
    ∙ ap (λ l. thing bytes at ∷ l) (chunks_read thing step bytes each n (at + step))

pub entries_are : (n : ℕ) (bytes : List ℕ) → entries_said (first_chunks 8 n (drop 24 bytes)) ≡ listed (entry_at bytes) 8 n 24
entries_are n bytes = chunks_read entry_at 8 bytes (entry_in bytes) n 24

pub extents_are : (n : ℕ) (bytes : List ℕ) → extents_said (first_chunks 16 n (drop 24 bytes)) ≡ listed (extent_at bytes) 16 n 24
extents_are n bytes = chunks_read extent_at 16 bytes (extent_in bytes) n 24

-- the chunks that cover a text are those of any longer one
pub chunks_front : (step n : ℕ) (xs : List ℕ) → first_chunks step n (take (step * n) xs) ≡ first_chunks step n xs
chunks_front step zero xs = refl
chunks_front step (suc n) xs =
    let p : step * suc n ≡ step + step * n = mul-suc step n ∙ omega arith in
    ap (λ m. take step (take m xs) ∷ first_chunks step n (drop step (take m xs))) p
    ∙ ap (λ l. l ∷ first_chunks step n (drop step (take (step + step * n) xs))) (take-take step (step + step * n) xs (omega arith))
    ∙ ap (λ l. take step xs ∷ first_chunks step n l) (drop-take step (step * n) xs)
    ∙ ap (λ l. take step xs ∷ l) (chunks_front step n (drop step xs))

pub length_chunks : (step n : ℕ) (xs : List ℕ) → length (first_chunks step n xs) ≡ n
length_chunks step zero xs = refl
length_chunks step (suc n) xs = ap suc (length_chunks step n (drop step xs))

-- one of a list that is read one by one
pub one_said : {X : Type 0} (said : List ℕ → X) (parts : List (List ℕ)) (i : ℕ) (x : X) → i < length parts → x ≡ said (get_or parts i []) → (i < length (map said parts)) × (get_or (map said parts) i x ≡ x)
one_said said parts i x h is = (omega (arith, length-map parts said), get_or-map said parts i [] x h ∙ sym is)
