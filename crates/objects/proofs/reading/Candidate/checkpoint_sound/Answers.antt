use Rattle.std.proofs.Common.{◌≡◌, sym, refl, ◌∙◌, rules}
use Rattle.objects.specs.Seen.{chained, no_extent}
use Rattle.objects.proofs.Chains.{at_said}
use Rattle.objects.proofs.Checked.{checkpoint_checked}
use Rattle.objects.proofs.reading.Candidate.checkpoint_sound.Goals as goal

pub returns-then-checkpoint_shape : goal.returns-then-checkpoint_shape
returns-then-checkpoint_shape c =
    let object = c.args.self.now in
    let parts = c.entries.result.now in
    let chain = at_said _ _ _ parts (λ table. c.chained.result ≡ chained c.args.name c.args.blocks no_extent table) c.chained.ensures (search rules) c.map.ensures.closure (λ x r q k. (refl, search rules)) in
    checkpoint_checked c.args.name c.args.blocks object.header object.bytes.now parts _ object.read (sym c.checkpoint_shape.ensures ∙ c.if-checkpoint_shape.true) c.entries.ensures chain
