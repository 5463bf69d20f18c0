use Rattle.std.proofs.Common.{[], ◌∷◌, ◌++◌, ap, ◌∙◌, rules}
use Rattle.std.proofs.lemmas.Option.{MatchOption-at_none, MatchOption-at_some}
use Rattle.extents.specs.Map.{is_table}
use Rattle.extents.proofs.Appending.{end_is}
use Rattle.extents.proofs.table.map.ExtentMap.extends.Goals as goal

pub returns : goal.returns
returns g c =
    let m = g.T.Target in
    let is = c.deref.ensures.value ∙ ap (λ v. v.extents) c.self.view_is in
    let t = ap (is_table m.advanced m.same) c.deref.ensures.value ∙ c.self.invariant.table in
    end_is m.advanced m.same c.args.e c.requires c.deref.result.now t c.last.result c.last.ensures.value c.is_none_or.result
    (λ n. MatchOption-at_none _ _ n c.is_none_or.ensures)
    (λ x q. let p = MatchOption-at_some _ _ x q c.is_none_or.ensures in search rules)
    ∙ ap (λ l. is_table m.advanced m.same (l ++ c.args.e ∷ [])) is
