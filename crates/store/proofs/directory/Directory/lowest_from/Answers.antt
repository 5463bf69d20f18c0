use Rattle.std.proofs.Common.{◌&&◌, leb, vec_items, sym, ap, ◌∙◌, rules}
use borrow.Author.Tests.{tests}
use Rattle.std.specs.Iterator.Adapters.{filter_callee}
use Rattle.std.proofs.lemmas.Iterator.Adapters.{option_map_id}
use Rattle.std.proofs.lemmas.Iterator.{YieldsList-from_slice, YieldsList-from_map}
use Rattle.std.proofs.lemmas.Iterator.Consumers.{YieldsList-from_filter, min_from_yields_List}
use Rattle.store.specs.declared.directory.Entry.{Entry}
use Rattle.store.proofs.Scans.{lowest_is}
use Rattle.store.proofs.directory.Directory.lowest_from.Goals as goal

pub returns : goal.returns
returns c =
    let es = vec_items c.args.self.now.entries in
    let n = c.args.from in
    sym (option_map_id c.min.result) ∙ min_from_yields_List _ c.min.result c.min.ensures.ran
    (YieldsList-from_map _ (λ (e : Entry). e.number) (YieldsList-from_filter _ (λ (e : Entry). e.landed && leb n e.number) (YieldsList-from_slice es cc) (ap filter_callee c.map.ensures.source ∙ c.filter.ensures.closure) (λ x b q k. search (rules, tests))) (cc) (λ x r q k. search (rules, tests)))
    ∙ lowest_is es n
