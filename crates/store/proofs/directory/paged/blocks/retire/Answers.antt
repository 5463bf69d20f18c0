use Rattle.std.proofs.Common.{refl}
use Rattle.store.proofs.PageSteps.{turned}
use Rattle.store.proofs.directory.paged.blocks.retire.Goals as goal

pub returns : goal.returns
returns c = record { items = turned _ _ _ _ _ c.args.at c.args.count _ c.args.order.now.ok.0 c.deref_mut.ensures.value c.deref_mut.ensures.len c.requires c.rotate_left.ensures.after; len = refl }
