use Rattle.std.proofs.Common.{ap, vec_len, replicate, ◌∙◌, arith}
use Rattle.drive.specs.Views.{zero_slot}
use Rattle.drive.proofs.Areas.{kept_zeros, clone_same}
use Rattle.drive.proofs.memory.Area.zero.Goals as goal

pub returns : goal.returns
unfolding zero_slot
returns c = c.fill.ensures.items (λ y h. clone_same _ y _ h) ∙ ap (λ n. replicate n zero_slot) (omega arith)

pub invariant_of-self : goal.invariant_of-self
unfolding zero_slot
invariant_of-self c =
    record { kept = kept_zeros _ (vec_len c.args.self.now.slots) (c.fill.ensures.items (λ y h. clone_same _ y _ h)) (omega arith) (omega arith) }
