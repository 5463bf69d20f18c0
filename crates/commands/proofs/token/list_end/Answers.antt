use Rattle.std.proofs.Common.{◌≡◌, ◌+◌, ◌-◌, length, get_or, drop, Some, sym, ap, ◌∙◌, arith, rules}
use Rattle.std.proofs.lemmas.List.{take_rest}
use Rattle.commands.specs.Numbers.{number_in}
use Rattle.commands.specs.Elements.{elements}
use Rattle.commands.proofs.Turns.{turn_goes}
use Rattle.commands.proofs.token.list_end.Goals as goal

pub loop-turn-preserved : goal.loop-turn-preserved
loop-turn-preserved c =
    let s = c.args.text.now in
    let t = c.in_ok-after.after.now in
    let less : length s - c.loop-turn._turn - 1 ≡ length s - (c.loop-turn._turn + 1) = omega arith in
    let e : Some (c.in_ok-after.field-0-0, t) ≡ number_in 255 c.loop-turn.rest.now = search rules in
    let f : get_or t 0 0 ≡ 32 = search rules in
    ap (elements (length s - (c.loop-turn._turn + 1))) (take_rest t 1)
    ∙ ap (λ k. elements k (drop 1 t)) (sym less)
    ∙ sym (turn_goes (length s - c.loop-turn._turn) _ c.loop-turn.rest.now t (omega arith) e f)
    ∙ c.loop-turn.invariant
