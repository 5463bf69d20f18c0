use Rattle.std.proofs.Common.{◌≡◌, ◌*◌, ◌/◌, length, take, drop, vec_items, ap, ◌∙◌, subst, arith}
use lib.Seq.{paste}
use Rattle.std.proofs.lemmas.List.{take_all}
use Rattle.store.specs.PagedSound.{laid}
use Rattle.store.proofs.Areas.{closed_front, closed_back}
use Rattle.store.proofs.PageSteps.{begins_page, sizes}
use Rattle.store.proofs.directory.paged.blocks.pages.PagesSpace.write.Goals as goal

pub write_pages-requires-clause-fits : goal.write_pages-requires-clause-fits
write_pages-requires-clause-fits c =
    let s = c.args.self.now in
    let z = (sizes _ _ _ _ s.order.ok.0 s.area.ok.0 s.bounds).laid in
    let b = begins_page c.args.at c.requires.begins in
    let f = c.requires.fits in
    omega (arith, z, b, f, c.deref.ensures.len, s.order.ok.0)

pub returns-clause-before : goal.returns-clause-before
returns-clause-before c =
    let s = c.args.self.now in
    let a = laid (vec_items s.area) (vec_items s.order) in
    let z = (sizes _ _ _ _ s.order.ok.0 s.area.ok.0 s.bounds).laid in
    let b = begins_page c.args.at c.requires.begins in
    let o = c.args.object.now in
    let f = c.requires.fits in
    let e = subst (λ y. laid (vec_items c.write_pages.new.area) y ≡ paste (laid (vec_items s.area) y) (1024 * (c.args.at / 1024)) o (length o)) c.deref.ensures.value c.write_pages.ensures.after in
    ap (take c.args.at) (e ∙ ap (λ y. paste a y o (length o)) b) ∙ closed_front a c.args.at o (length o) (omega arith)

pub returns-clause-object : goal.returns-clause-object
returns-clause-object c =
    let s = c.args.self.now in
    let a = laid (vec_items s.area) (vec_items s.order) in
    let b = begins_page c.args.at c.requires.begins in
    let o = c.args.object.now in
    let f = c.requires.fits in
    let e = subst (λ y. laid (vec_items c.write_pages.new.area) y ≡ paste (laid (vec_items s.area) y) (1024 * (c.args.at / 1024)) o (length o)) c.deref.ensures.value c.write_pages.ensures.after in
    ap (λ y. take (length o) (drop c.args.at y)) (e ∙ ap (λ y. paste a y o (length o)) b) ∙ closed_back a c.args.at o (length o) (omega arith) (omega arith) ∙ take_all (length o) o (omega arith)
