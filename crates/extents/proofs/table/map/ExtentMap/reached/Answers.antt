use Rattle.std.proofs.Common.{ltb, ap, ◌∙◌, rules}
use Rattle.std.proofs.lemmas.List.Sorted.{IsPartitionPoint-from_clause}
use Rattle.extents.specs.Map.{end, is_table}
use Rattle.extents.specs.Steps.{reach}
use Rattle.extents.proofs.Tables.{table}
use Rattle.extents.proofs.Reach.{table_parted, parted_reach}
use Rattle.extents.proofs.table.map.ExtentMap.reached.Goals as goal

pub returns : goal.returns
returns g c =
    let xs = c.deref.result.now in
    let t = table g.T.Target.laws xs (ap (λ l. is_table g.T.Target.advanced g.T.Target.same l) c.deref.ensures.value ∙ c.self.invariant.table) in
    let p = IsPartitionPoint-from_clause (λ e. ltb (end e) c.args.x) xs c.partition_point.result c.partition_point.ensures.partitioned (table_parted g.T.Target.advanced c.args.x xs t) (λ a r f' k. search rules) in
    parted_reach g.T.Target.advanced c.args.x xs c.partition_point.result t c.partition_point.ensures.bound p ∙ ap (reach c.args.x) (c.deref.ensures.value ∙ ap (λ m. m.extents) c.self.view_is)
