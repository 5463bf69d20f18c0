-- One step of the loops that read a word and a list. Assumes nothing.
use Rattle.std.proofs.Common.{◌≡◌, ℕ, zero, suc, ◌-◌, ◌<◌, cond, eqb, List, get_or, drop, Some, None, sym, ap, ◌∙◌, arith}
use Rattle.std.specs.Option.{option_and_then}
use Rattle.std.proofs.lemmas.Bool.{eq-eqb, ne_eqb}
use Rattle.commands.specs.Numbers.{number_in}
use Rattle.commands.specs.Elements.{elements}

-- a space after a number leads to the next one
pub turn_goes : (k b : ℕ) (s t : List ℕ) → 0 < k → Some (b, t) ≡ number_in 255 s → get_or t 0 0 ≡ 32 → elements k s ≡ elements (k - 1) (drop 1 t)
turn_goes zero b s t h e f = absurd (omega arith)
turn_goes (suc k) b s t h e f =
    let less : k ≡ suc k - 1 = omega arith in
    ap (λ o. option_and_then (λ p. cond (eqb (get_or p.1 0 0) 41) (Some p.1) (cond (eqb (get_or p.1 0 0) 32) (elements k (drop 1 p.1)) None)) o) (sym e)
    ∙ ap (λ x. cond x (Some t) (cond (eqb (get_or t 0 0) 32) (elements k (drop 1 t)) None)) (ne_eqb _ _ (λ q. omega arith))
    ∙ ap (λ x. cond x (elements k (drop 1 t)) None) (eq-eqb _ _ f)
    ∙ ap (λ n. elements n (drop 1 t)) less
