use Rattle.std.proofs.Common.{arith}
use Rattle.store.proofs.PageSteps.{sizes}
use Rattle.store.proofs.directory.paged.blocks.pages.PagesSpace.read.Goals as goal

pub read_pages-requires-clause-fits : goal.read_pages-requires-clause-fits
read_pages-requires-clause-fits c =
    let s = c.args.self.now in
    let z = (sizes _ _ _ _ s.order.ok.0 s.area.ok.0 s.bounds).laid in
    omega (arith, z, c.deref-2.ensures.len, s.order.ok.0)
