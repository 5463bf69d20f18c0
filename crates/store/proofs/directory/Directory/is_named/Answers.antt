use Rattle.std.proofs.Common.{◌≡◌, eqb, vec_items, ◌∙◌, rules}
use borrow.Author.Tests.{tests}
use Rattle.std.specs.List.{list_any}
use Rattle.std.proofs.lemmas.Iterator.{YieldsList-from_slice}
use Rattle.std.proofs.lemmas.Iterator.Search.{any_from_yields_List}
use Rattle.store.proofs.Scans.{named_is}
use Rattle.store.proofs.directory.Directory.is_named.Goals as goal

pub returns : goal.returns
returns c =
    let es = vec_items c.args.self.now.entries in
    let a : c.any.result ≡ list_any (λ e. eqb e.number c.args.number) es = any_from_yields_List (λ e. eqb e.number c.args.number) _ _ c.any.result c.any.ensures.ran (YieldsList-from_slice es cc) (λ x b q k. search (rules, tests)) in
    a ∙ named_is es c.args.number
