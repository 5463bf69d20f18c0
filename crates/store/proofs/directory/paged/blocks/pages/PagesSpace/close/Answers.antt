use Rattle.std.proofs.Common.{◌≡◌, ◌*◌, ◌/◌, take, vec_items, vec_len, true, sym, ap, ◌∙◌, arith}
use Rattle.store.specs.PagedSound.{below, laid}
use Rattle.store.proofs.PageSteps.{begins_page, sizes, moved_once, moved_below, moved_front, moved_up}
use Rattle.store.proofs.directory.paged.blocks.pages.PagesSpace.close.Goals as goal

pub retire-requires : goal.retire-requires
retire-requires c =
    let s = c.args.self.now in
    let z = (sizes _ _ _ _ s.order.ok.0 s.area.ok.0 s.bounds).laid in
    let b = begins_page c.args.at c.requires.begins in
    let w = c.weight.ensures in
    let f = c.requires.behind in
    let l = c.requires.within in
    omega (arith, z, b, w, f, l, s.order.ok.0)

pub invariant_of-self : goal.invariant_of-self
invariant_of-self c =
    let s = c.args.self.now in
    let l = c.retire.ensures.len in
    let b : below (vec_len c.retire.new.order) (vec_items c.retire.new.order) ≡ true =
    ap (λ z. below z (vec_items c.retire.new.order)) l ∙ moved_below (vec_items s.order) _ (c.args.at / 1024) c.weight.result (vec_len s.order) c.retire.ensures.items s.bounds.0 in
    record {
      once = moved_once (vec_items s.order) _ (c.args.at / 1024) c.weight.result c.retire.ensures.items s.once;
      bounds = (b, omega (arith, l, s.bounds.1), omega (arith, l, s.bounds.2), omega (arith, l, s.bounds.3));
    }

pub returns-clause-before : goal.returns-clause-before
returns-clause-before c =
    let s = c.args.self.now in
    let z = sizes _ _ _ _ s.order.ok.0 s.area.ok.0 s.bounds in
    let b = begins_page c.args.at c.requires.begins in
    let w = c.weight.ensures in
    let f = c.requires.behind in
    let l = c.requires.within in
    let m = z.laid in
    let x = moved_front (vec_items s.area) (vec_items s.order) (vec_items c.retire.new.order) _ (c.args.at / 1024) c.weight.result c.retire.ensures.items z.all z.long (omega (arith, m, b, w, f, l)) in
    ap (λ y. take y (laid (vec_items s.area) (vec_items c.retire.new.order))) (sym b) ∙ x ∙ ap (λ y. take y (laid (vec_items s.area) (vec_items s.order))) b

pub returns-clause-behind : goal.returns-clause-behind
returns-clause-behind c =
    let s = c.args.self.now in
    let z = sizes _ _ _ _ s.order.ok.0 s.area.ok.0 s.bounds in
    let b = begins_page c.args.at c.requires.begins in
    moved_up (vec_items s.area) (vec_items s.order) (vec_items c.retire.new.order) c.args.at _ c.args._end c.weight.result z c.retire.ensures.items b (ap (λ y. 1024 * y) (sym c.weight.ensures)) c.requires.behind c.requires.within
