use Rattle.std.proofs.Common.{◌+◌, ◌/◌, ◌<◌, length, arith}
use Rattle.store.proofs.Laid.{below_at}
use Rattle.store.proofs.PageSteps.{read_step, read_end}
use Rattle.store.proofs.directory.paged.blocks.read_pages.Goals as goal

pub copy_part-requires : goal.copy_part-requires
copy_part-requires c =
    let i : (c.args.at + c.loop-done.done) / 1024 < length c.args.order.now = omega (arith, c.loop-done.invariant.0) in
    let b = below_at (length c.args.order.now) c.args.order.now ((c.args.at + c.loop-done.done) / 1024) c.requires.pages i in
    let e = c.from-page.ensures in
    let m = c.min-count.ensures in
    record { source = omega (arith, b, e, m); target = omega (arith, m) }

pub loop-done-preserved : goal.loop-done-preserved
loop-done-preserved c =
    let m = c.min-count.ensures in (
      omega (arith, m),
      read_step c.args.area.now c.args.order.now c.args.out.now c.loop-done.out _ c.args.at c.loop-done.done c.min-count.result c.from-page.result c.requires.pages c.requires.long c.requires.fits (omega arith) c.loop-done.auto.out
          c.loop-done.invariant.1 (omega (arith, m)) (omega (arith, m)) c.from-page.ensures c.copy_part.ensures,
    )

pub returns : goal.returns
returns c = read_end _ c.args.out.now c.loop-done.out c.args.at c.loop-done.done (omega (arith, c.loop-done.invariant.0)) c.loop-done.invariant.1
