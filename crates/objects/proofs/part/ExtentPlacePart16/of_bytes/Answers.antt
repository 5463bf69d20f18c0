use Rattle.std.proofs.Common.{ap, ◌∙◌, rules}
use Rattle.objects.specs.Layout.{extent_bytes}
use Rattle.objects.proofs.Parts.{extent_whole}
use Rattle.objects.proofs.part.ExtentPlacePart16.of_bytes.Goals as goal

pub returns-clause-stands : goal.returns-clause-stands
returns-clause-stands c =
    let f0 = c.number_at.ensures.says (search rules) in
    let f1 = c.number_at-2.ensures.says (search rules) in
    let f2 = c.number_at-3.ensures.says (search rules) in
    let f3 = c.number_at-4.ensures.says (search rules) in
    ap extent_bytes (λ i. record { first = f0 i; length = f1 i; target = record { object = f2 i; offset = f3 i } }) ∙ extent_whole c.args.bytes (λ i. search rules) (search rules)
