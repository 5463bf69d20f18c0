use Rattle.std.proofs.Common.{refl}
use Rattle.store.proofs.Areas.{written}
use Rattle.store.proofs.directory.paged.blocks.write_at.Goals as goal

pub returns : goal.returns
returns c = record { items = written _ _ _ _ _ _ _ _ _ c.args.area.now.ok.0 c.deref_mut.ensures.value c.copy_from_slice.ensures.after refl refl c.requires; len = refl }
