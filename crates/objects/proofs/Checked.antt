-- The tests of the bytes of an object, with the header that was read. Assumes nothing.
use Rattle.std.proofs.Common.{◌≡◌, ℕ, ◌+◌, ◌-◌, ◌*◌, ◌<◌, ◌≤◌, ◌/◌, Bool, true, ◌&&◌, leb, List, length, take, drop, sym, ap, ◌∙◌, subst, arith}
use Rattle.std.specs.Simd.{first_chunks}
use Rattle.std.proofs.lemmas.Bool.{and_parts, leb-true}
use Rattle.std.proofs.lemmas.List.{length-take-le, length-drop}
use Rattle.std.proofs.Math.Nat.{mul-div_cancel_left}
use Rattle.objects.specs.declared.header.Header.{Header}
use Rattle.objects.specs.declared.entry.Carrier.{Carrier}
use Rattle.objects.specs.Rules.{most_blocks}
use Rattle.objects.specs.Seen.{header_at, entry_at, extent_at, listed, carrier_shape, entries_sum, carrier_sound, no_extent, chained, checkpoint_shape, checkpoint_sound}
use Rattle.objects.specs.Seen.{entries_said, extents_said}
use Rattle.objects.proofs.Parts.{entries_are, extents_are, chunks_front, length_chunks}

-- the chunks of the bytes after the header, up to an end that so many of them reach
pub chunks_to : (step n : ℕ) (bytes : List ℕ) → 0 < step → 24 + step * n ≤ length bytes
    → first_chunks step (length (take (24 + step * n - 24) (drop 24 bytes)) / step) (take (24 + step * n - 24) (drop 24 bytes)) ≡ first_chunks step n (drop 24 bytes)
chunks_to step n bytes some room =
    let size : 24 + step * n - 24 ≡ step * n = omega arith in
    let long : length (take (step * n) (drop 24 bytes)) ≡ step * n = length-take-le (step * n) (drop 24 bytes) (simp length-drop (omega arith)) in
    let count : length (take (step * n) (drop 24 bytes)) / step ≡ n = ap (λ m. m / step) long ∙ mul-div_cancel_left n some in
    ap (λ m. first_chunks step (length (take m (drop 24 bytes)) / step) (take m (drop 24 bytes))) size
    ∙ ap (λ m. first_chunks step m (take (step * n) (drop 24 bytes))) count ∙ chunks_front step n (drop 24 bytes)

-- an object that carries blocks has few entries
pub few_entries : (h : Header) (size : ℕ) (bytes : List ℕ) (parts : List (List ℕ)) → carrier_shape h size ≡ true → parts ≡ first_chunks 8 h.entries (drop 24 bytes) → length parts ≤ 32
few_entries h size bytes parts shape are =
    let p = and_parts (leb 1 h.entries) _ shape in
    let q = and_parts (leb h.entries 32) _ p.1 in
    let few = leb-true h.entries 32 q.0 in
    let count = ap length are ∙ length_chunks 8 h.entries (drop 24 bytes) in
    omega arith

pub carrier_checked : (c : Carrier) (blocks : ℕ) (h : Header) (bytes : List ℕ) (parts : List (List ℕ)) (r : Bool) → h ≡ header_at bytes → carrier_shape h (length bytes) ≡ true
    → parts ≡ first_chunks 8 h.entries (drop 24 bytes) → r ≡ entries_sum (most_blocks c) blocks h.tally (entries_said parts) → r ≡ carrier_sound c blocks bytes
carrier_checked c blocks h bytes parts r is shape are sum =
    let es = ap entries_said are ∙ entries_are h.entries bytes in
    let here = sum ∙ ap (entries_sum (most_blocks c) blocks h.tally) es in
    subst (λ (x : Header). r ≡ (carrier_shape x (length bytes) && entries_sum (most_blocks c) blocks x.tally (listed (entry_at bytes) 8 x.entries 24))) is
    (here ∙ ap (λ b. b && entries_sum (most_blocks c) blocks h.tally (listed (entry_at bytes) 8 h.entries 24)) (sym shape))

pub checkpoint_checked : (name blocks : ℕ) (h : Header) (bytes : List ℕ) (parts : List (List ℕ)) (r : Bool) → h ≡ header_at bytes → checkpoint_shape h blocks (length bytes) ≡ true
    → parts ≡ first_chunks 16 h.entries (drop 24 bytes) → r ≡ chained name blocks no_extent (extents_said parts) → r ≡ checkpoint_sound name blocks bytes
checkpoint_checked name blocks h bytes parts r is shape are chain =
    let xs = ap extents_said are ∙ extents_are h.entries bytes in
    let here = chain ∙ ap (chained name blocks no_extent) xs in
    subst (λ (x : Header). r ≡ (checkpoint_shape x blocks (length bytes) && chained name blocks no_extent (listed (extent_at bytes) 16 x.entries 24))) is
    (here ∙ ap (λ b. b && chained name blocks no_extent (listed (extent_at bytes) 16 h.entries 24)) (sym shape))
