use Rattle.std.proofs.Common.{◌+◌, eqb, length, ap, ◌∙◌, arith, rules}
use Rattle.std.specs.List.{filter}
use Rattle.std.proofs.lemmas.List.{take_all}
use Rattle.commands.proofs.Listings.{spaces_listed}
use Rattle.commands.proofs.list.ByteList.len.Goals as goal

pub returns : goal.returns
returns c =
    let l = c.args.self.now in
    let whole = take_all c.loop-b.b-index l.text.now (omega arith) in
    ap (λ n. n + 1) (c.loop-b.invariant.1 ∙ ap (λ t. length (filter (λ b. eqb b 32) t)) whole) ∙ spaces_listed l.text.now l.listing l.small (search rules)
