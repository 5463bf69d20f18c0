use Rattle.std.proofs.Common.{◌≡◌, ◌≤◌, ◌++◌, length, vec_items, sym, ap, ◌∙◌, subst, arith}
use Rattle.std.specs.List.{range_with_len}
use Rattle.std.proofs.lemmas.List.{map-id}
use Rattle.std.proofs.lemmas.List.FromFn.{length-range_with_len}
use Rattle.std.proofs.lemmas.Iterator.{YieldsList-from_range, items_from_drains}
use Rattle.store.specs.PagedSound.{below, copies}
use Rattle.store.proofs.Laid.{copies_counting, below_counting}
use Rattle.store.proofs.directory.paged.blocks.all_pages.Goals as goal

pub returns : goal.returns
returns c =
    let n = c.args.count in
    let r = c.in_ok-extend.ensures.ran in
    let d = r.4 in
    let x : r.1 ≡ range_with_len 0 n = sym (map-id r.1) ∙ items_from_drains r.1 (d.1.0, d.1.1, λ _. (d.0, d.1.2)) (YieldsList-from_range 0 n n r.2 (omega arith)) in
    let i : vec_items c.extend.new.self ≡ range_with_len 0 n = r.3.0 ∙ ap (λ z. z ++ r.1) c.in_ok-order.ensures.items ∙ x in
    (c.extend.new.self.ok.0 ∙ ap length i ∙ length-range_with_len 0 n, ap (below n) i ∙ below_counting n 0 n (omega arith), λ p. subst (λ z. copies p z ≤ 1) (sym i) (copies_counting p 0 n).1)
