use Rattle.std.proofs.Common.{◌≡◌, ◌^◌, take, vec_items, sym, ◌∙◌, rules, arith}
use borrow.Author.Tests.{tests}
use Rattle.std.specs.List.{sum_by}
use Rattle.std.proofs.lemmas.Iterator.{YieldsList-from_slice, YieldsList-from_map}
use Rattle.std.proofs.lemmas.Iterator.Consumers.{sum_by_from_yields_List, fits_by_from_yields_list}
use Rattle.store.specs.declared.directory.Entry.{Entry}
use Rattle.store.specs.Entries.{total}
use Rattle.store.proofs.Scans.{total_part}
use Rattle.store.proofs.Holding.{total_is}
use Rattle.store.proofs.directory.objects.ObjectStore.start.Goals as goal

pub sum-requires-clause-fits : goal.sum-requires-clause-fits
sum-requires-clause-fits g c =
    let s = c.args.self.now in
    let es = take c.args.i (vec_items s.directory.entries) in
    let t : sum_by (λ (e : Entry). g.S.Space.room e.length) es ≡ total g.S.Space.room es = sym (total_is g.S.Space.room es) in
    let p = total_part g.S.Space.room (vec_items s.directory.entries) c.args.i in
    let i = g.met.S.Space.covered s.space (vec_items s.directory.entries) (omega (arith, s.load_is, s.within)) in
    fits_by_from_yields_list (λ (e : Entry). g.S.Space.room e.length) es c.map.result (2 ^ 64) (YieldsList-from_map _ (λ (e : Entry). g.S.Space.room e.length) (YieldsList-from_slice es cc) (cc) (λ x r q k. search (rules, tests))) (omega (arith, t, p, i, (g.met.S.Space.bounded s.space).0))

pub returns : goal.returns
returns g c =
    let s = c.args.self.now in
    let es = take c.args.i (vec_items s.directory.entries) in
    sum_by_from_yields_List (λ (e : Entry). g.S.Space.room e.length) es c.map.result c.sum.result c.sum.ensures.ran (YieldsList-from_map _ (λ (e : Entry). g.S.Space.room e.length) (YieldsList-from_slice es cc) (cc) (λ x r q k. search (rules, tests)))
    ∙ sym (total_is g.S.Space.room es)
