use Rattle.std.proofs.Common.{is_some, ◌∙◌, arith, rules}
use Rattle.std.proofs.lemmas.Iterator.{YieldsList-from_range}
use Rattle.std.proofs.lemmas.Iterator.Consumers.{YieldsList-from_filter, count_from_yields_List}
use Rattle.std.proofs.lemmas.List.Sums.{length-filter}
use Rattle.extents.specs.Map.{target_at}
use Rattle.maptrace.proofs.trace.calls.mapped.Goals as goal

pub returns : goal.returns
returns g c =
    let f = target_at g.T.Target.advanced c.args.map.now.extents in
    let n = c.args.map.now.blocks in
    let range = YieldsList-from_range 0 c.blocks-2.result n c.filter.ensures.source (omega (arith, c.blocks-2.ensures)) in
    count_from_yields_List c.filter.result c.count.result c.count.ensures.ran (YieldsList-from_filter _ (λ b. is_some (f b)) range c.filter.ensures.closure (λ x b q k. search rules))
    ∙ length-filter (λ b. is_some (f b)) _
