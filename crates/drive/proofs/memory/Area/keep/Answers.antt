use Rattle.std.proofs.Common.{vec_items, ◌∙◌, arith}
use Rattle.std.proofs.lemmas.List.{with_items_is}
use Rattle.drive.specs.Views.{bit}
use Rattle.drive.proofs.Areas.{kept_mixed}
use Rattle.drive.proofs.memory.Area.keep.Goals as goal

pub invariant_of-self : goal.invariant_of-self
invariant_of-self c =
    let self = c.args.self.now in
    let from = c.args.from.now in
    let taken = simp (c.deref_mut.ensures.value, c.deref.ensures.value) at c.take_over.ensures in
    record {
      kept = kept_mixed (bit c.args.kept) _ (vec_items from.slots) (vec_items self.slots)
          (with_items_is self.slots c.take_over.new.to (omega arith) ∙ taken) c.requires from.kept self.kept;
    }
