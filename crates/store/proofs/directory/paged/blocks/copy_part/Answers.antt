use Rattle.store.proofs.PageSteps.{copied}
use Rattle.store.proofs.directory.paged.blocks.copy_part.Goals as goal

pub returns : goal.returns
returns c = copied c.args.out.now c.args.area.now c.copy_from_slice.new.self c.args.at c.args.start c.args.count c.copy_from_slice.ensures.after
