use Rattle.std.proofs.Common.{◌≡◌, ◌+◌, ◌*◌, ◌≤◌, min, [], ◌∷◌, ◌++◌, length, take, drop, vec_items, sym, refl, ap, ◌∙◌, ⊎_elim, arith}
use lib.Seq.{paste}
use Rattle.std.specs.Slice.Iter.{chunks_rest, iter_rest}
use Rattle.std.specs.Iterator.Adapters.{zip_first, zip_second}
use Rattle.std.proofs.lemmas.List.{length-append, length-drop, take_all, take_rest}
use Rattle.std.proofs.lemmas.List.Edits.{paste_none}
use Rattle.store.specs.PagedSound.{laid}
use Rattle.store.proofs.Laid.{below_at}
use Rattle.store.proofs.PageSteps.{part_taken, part_written}
use Rattle.store.proofs.directory.paged.blocks.write_pages.Goals as goal

pub loop-part-init : goal.loop-part-init
loop-part-init c =
    let e : c.args.first + 0 ≡ c.args.first = omega arith in
    record { size = cc; parts = cc; pages = ap (λ z. iter_rest (zip_second z)) c.into_iter-part-iterator.ensures.into_iter_gives ∙ c.zip-part-items.ensures.second.0 ∙ take_rest c.args.order.now c.args.first ∙ ap (λ z. drop z c.args.order.now) (sym e); len = refl; written = paste_none (laid (vec_items c.args.area.now) c.args.order.now) (1024 * c.args.first) [] }

pub write_at-requires : goal.write_at-requires
write_at-requires c =
    let i = c.loop-part.invariant in
    let s = c.in-Some.ensures.steps in
    let l = s.0.1.1 ∙ ap (λ z. min z (length (chunks_rest (zip_first c.loop-part.part-iterator)))) i.size in
    let z = part_taken c.args.bytes.now c.args.order.now _ _ c.in-Some.part.now _ _ c.args.first (length c.loop-part.yielded) c.in-Some.page.now i.parts i.pages s.0.1.0 l s.0.1.2 s.1 in
    let b = below_at (length c.args.order.now) c.args.order.now (c.args.first + length c.loop-part.yielded) c.requires.pages z.place in
    let p = z.page in
    let t = z.short in
    omega (arith, b, p, t, c.from.ensures, i.len)

pub loop-part-preserved : goal.loop-part-preserved
loop-part-preserved c =
    let i = c.loop-part.invariant in
    let s = c.in-Some.ensures.steps in
    let k = length c.loop-part.yielded in
    let l = s.0.1.1 ∙ ap (λ z. min z (length (chunks_rest (zip_first c.loop-part.part-iterator)))) i.size in
    let z = part_taken c.args.bytes.now c.args.order.now _ _ c.in-Some.part.now _ _ c.args.first k c.in-Some.page.now i.parts i.pages s.0.1.0 l s.0.1.2 s.1 in
    let w = part_written (vec_items c.args.area.now) (vec_items c.loop-part.area) (vec_items c.write_at.new.area) c.args.order.now c.args.bytes.now c.in-Some.part.now c.args.first k c.in-Some.page.now _ _ z
    c.requires.pages (omega (arith, c.loop-part.area.ok.0, i.len)) (omega (arith, c.args.area.now.ok.0)) c.requires.once c.requires.fits i.written
    (c.write_at.ensures.items ∙ ap (λ y. take (1024 * y) (vec_items c.loop-part.area) ++ (c.in-Some.part.now ++ drop (1024 * y + length c.in-Some.part.now) (vec_items c.loop-part.area))) c.from.ensures) in
    let n = length-append c.loop-part.yielded ((c.in-Some.part, c.in-Some.page) ∷ []) in
    record {
      size = s.0.0 ∙ i.size;
      parts = z.others ∙ ap (λ y. drop (1024 * y) c.args.bytes.now) (sym n);
      pages = z.behind ∙ ap (λ y. drop (c.args.first + y) c.args.order.now) (sym n);
      len = c.write_at.ensures.len ∙ i.len;
      written = w ∙ ap (λ y. paste (laid (vec_items c.args.area.now) c.args.order.now) (1024 * c.args.first) (take (1024 * y) c.args.bytes.now) (length (take (1024 * y) c.args.bytes.now))) (sym n);
    }

pub returns : goal.returns
returns c =
    let i = c.loop-part.invariant in
    let k = length c.loop-part.yielded in
    let f = c.requires.fits in
    let e : length c.args.bytes.now ≤ 1024 * k =
    ⊎_elim (λ u. let x = u.1.1.0 in let y = ap length i.parts ∙ length-drop (1024 * k) c.args.bytes.now in omega arith) (λ u. let x = u.1.0 in let y = ap length i.pages ∙ length-drop (c.args.first + k) c.args.order.now in omega arith) c.in-None.ensures.steps in
    let t = take_all (1024 * k) c.args.bytes.now e in
    record { after = i.written ∙ ap (λ y. paste (laid (vec_items c.args.area.now) c.args.order.now) (1024 * c.args.first) y (length y)) t; len = i.len }
