-- Lists of things that lie one after another in a text of bytes. Assumes nothing.
use Rattle.std.proofs.Common.{◌≡◌, ℕ, zero, suc, ◌+◌, ◌*◌, ◌<◌, ◌≤◌, Bool, true, List, [], ◌∷◌, ◌++◌, length, get_or, take, drop, sym, refl, ap, ◌∙◌, append_assoc, mul-zero, mul-suc, arith}
use Rattle.std.specs.List.{flat_map}
use Rattle.std.proofs.lemmas.Bool.{and_parts}
use Rattle.std.proofs.lemmas.List.{length-append}
use Rattle.objects.specs.Seen.{listed}
use Rattle.objects.specs.Rules.{every}
use Rattle.objects.proofs.Widths.{two_parts}

pub length_listed : {X : Type 0} (thing : ℕ → X) (step n at : ℕ) → length (listed thing step n at) ≡ n
length_listed thing step zero at = refl
length_listed thing step (suc n) at = ap suc (length_listed thing step n (at + step))

pub get_or_listed : {X : Type 0} (thing : ℕ → X) (step n at i : ℕ) (d : X) → i < n → get_or (listed thing step n at) i d ≡ thing (at + step * i)
get_or_listed thing step zero at i d h = absurd (omega arith)
get_or_listed thing step (suc n) at zero d h = ap thing (omega arith)
get_or_listed thing step (suc n) at (suc i) d h =
    let p : step * suc i ≡ step * i + step = mul-suc step i in
    get_or_listed thing step n (at + step) i d (omega arith) ∙ ap thing (omega arith)

-- writing what was read
pub joined_listed : {X : Type 0} (thing : ℕ → X) (enc : X → List ℕ) (bytes : List ℕ) (step : ℕ)
    → ((at : ℕ) → at + step ≤ length bytes → enc (thing at) ≡ take step (drop at bytes))
    → (n at : ℕ) → at + step * n ≤ length bytes → flat_map enc (listed thing step n at) ≡ take (step * n) (drop at bytes)
joined_listed thing enc bytes step each zero at room = ap (λ k. take k (drop at bytes)) (sym (mul-zero step))
joined_listed thing enc bytes step each (suc n) at room =
    let p : step * suc n ≡ step * n + step = mul-suc step n in
    let q : step * suc n ≡ step + step * n = omega arith in
    let rest = joined_listed thing enc bytes step each n (at + step) (omega arith) in
    ap (λ l. enc (thing at) ++ l) rest ∙ ap (λ l. l ++ take (step * n) (drop (at + step) bytes)) (each at (omega arith))
    ∙ two_parts step (step * n) at bytes ∙ ap (λ k. take k (drop at bytes)) (sym q)

-- reading what was written
pub listed_joined : {X : Type 0} (thing : ℕ → X) (enc : X → List ℕ) (ok : X → Bool) (bytes : List ℕ) (step : ℕ)
    → ((x : X) (at : ℕ) (rest : List ℕ) → ok x ≡ true → drop at bytes ≡ enc x ++ rest → (thing at ≡ x) × (drop (at + step) bytes ≡ rest))
    → (xs : List X) (at : ℕ) (rest : List ℕ) → every ok xs ≡ true → drop at bytes ≡ flat_map enc xs ++ rest
    → (listed thing step (length xs) at ≡ xs) × (drop (at + step * length xs) bytes ≡ rest)
listed_joined thing enc ok bytes step each [] at rest good is = (refl, ap (λ k. drop k bytes) (omega arith) ∙ is)
listed_joined thing enc ok bytes step each (x ∷ xs) at rest good is =
    let parts = and_parts (ok x) (every ok xs) good in
    let here = each x at (flat_map enc xs ++ rest) parts.0 (is ∙ append_assoc (enc x) (flat_map enc xs) rest) in
    let more = listed_joined thing enc ok bytes step each xs (at + step) rest parts.1 here.1 in
    let p : step * suc (length xs) ≡ step * length xs + step = mul-suc step (length xs) in (
      ap (λ y. y ∷ listed thing step (length xs) (at + step)) here.0 ∙ ap (λ l. x ∷ l) more.0,
      ap (λ k. drop k bytes) (omega arith) ∙ more.1,
    )

-- how long things of one length are together
pub length_joined : {X : Type 0} (enc : X → List ℕ) (step : ℕ) → ((x : X) → length (enc x) ≡ step) → (xs : List X) → length (flat_map enc xs) ≡ step * length xs
length_joined enc step each [] = sym (mul-zero step)
length_joined enc step each (x ∷ xs) =
    let p : step * suc (length xs) ≡ step * length xs + step = mul-suc step (length xs) in
    let here = each x in
    let rest = length_joined enc step each xs in
    length-append (enc x) (flat_map enc xs) ∙ omega arith
