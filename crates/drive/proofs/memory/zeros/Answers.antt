use Rattle.std.proofs.Common.{ap, arith}
use Rattle.drive.specs.Views.{zero_slot, settled}
use Rattle.drive.proofs.Areas.{kept_zeros, clone_same}
use Rattle.drive.proofs.memory.zeros.Goals as goal

pub returns : goal.returns
unfolding zero_slot
returns c = (omega arith, ap settled (c.in_ok-slots.ensures.items_if_clones_equal (λ y h. clone_same _ y _ h)))

pub invariant_of-result : goal.invariant_of-result
unfolding zero_slot
invariant_of-result c =
    record { kept = kept_zeros c.in_ok-slots.slots.items c.args.count (c.in_ok-slots.ensures.items_if_clones_equal (λ y h. clone_same _ y _ h)) (omega arith) (omega arith) }
