use Rattle.std.proofs.Common.{ap, ◌∙◌, rules}
use Rattle.objects.specs.Layout.{header_bytes}
use Rattle.objects.proofs.Parts.{header_whole}
use Rattle.objects.proofs.part.HeaderPart24.of_bytes.Goals as goal

pub returns-clause-stands : goal.returns-clause-stands
returns-clause-stands c =
    let f0 = c.number_at.ensures.says (search rules) in
    let f1 = c.number_at-2.ensures.says (search rules) in
    let f2 = c.number_at-3.ensures.says (search rules) in
    let f3 = c.number_at-4.ensures.says (search rules) in
    let f4 = c.number_at-5.ensures.says (search rules) in
    ap header_bytes (λ i. record { kind = f0 i; number = f1 i; first = f2 i; entries = f3 i; tally = f4 i }) ∙ header_whole c.args.bytes (λ i. search rules) (search rules)
