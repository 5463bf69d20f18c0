use Rattle.std.proofs.Common.{◌≡◌, ◌<◌, length, take, ◌∙◌, rules}
use Rattle.objects.specs.Seen.{header_at}
use Rattle.objects.proofs.Parts.{header_in}
use Rattle.objects.proofs.Sound.{too_short, no_kind, if_err}
use Rattle.objects.proofs.reading.Candidate.of.Goals as goal

pub returns-in_err-header-clause-none : goal.returns-in_err-header-clause-none
returns-in_err-header-clause-none c =
    let short : length c.args.bytes.now < 24 = search rules in
    if_err c.from_residual.result (too_short c.args.bytes.now short)

pub returns-in_err-kind-clause-none : goal.returns-in_err-kind-clause-none
returns-in_err-kind-clause-none c =
    let is : c.in_ok-header.header ≡ header_at (take 24 c.args.bytes.now) = search rules in
    if_err c.from_residual-in_err-kind.result (no_kind c.args.bytes.now c.in_ok-header.header (is ∙ header_in c.args.bytes.now) c.in_err-kind.ensures)

pub invariant_of-result-clause-read : goal.invariant_of-result-clause-read
invariant_of-result-clause-read c =
    let is : c.in_ok-header.header ≡ header_at (take 24 c.args.bytes.now) = search rules in
    is ∙ header_in c.args.bytes.now

pub invariant_of-result-clause-each : goal.invariant_of-result-clause-each
invariant_of-result-clause-each c = λ i. (c.type_inv.bytes i).fits
