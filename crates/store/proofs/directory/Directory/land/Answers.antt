use Rattle.std.proofs.Common.{◌≡◌, length, set, vec_items, refl, ap, ◌∙◌, arith}
use Rattle.std.proofs.lemmas.List.{get_or_read_under, set_split}
use Rattle.store.specs.Entries.{blank, risen}
use Rattle.store.proofs.Changes.{here, with_risen, some_waits, listed_risen}
use Rattle.store.proofs.directory.Directory.land.Goals as goal

pub overflow_sub-self : goal.overflow_sub-self
overflow_sub-self c = some_waits _ c.args.i _ c.requires.within c.requires.pending c.args.self.now.listed

pub invariant_of-self : goal.invariant_of-self
invariant_of-self c =
    let es = vec_items c.args.self.now.entries in
    let e = get_or_read_under es c.args.i (length es) c.index-e.result.now blank c.index-e.ensures c.requires.within refl in
    let q : set es c.args.i (risen c.index-e.result.now) ≡ with_risen es c.args.i = ap (λ y. set es c.args.i (risen y)) e ∙ set_split es c.args.i (risen (here es c.args.i)) c.requires.within in
    record { listed = listed_risen es _ c.args.i _ c.requires.within c.requires.pending q c.args.self.now.listed }

pub returns-clause-items : goal.returns-clause-items
returns-clause-items c =
    let es = vec_items c.args.self.now.entries in
    let e = get_or_read_under es c.args.i (length es) c.index-e.result.now blank c.index-e.ensures c.requires.within refl in
    ap (λ y. set es c.args.i (risen y)) e ∙ set_split es c.args.i (risen (here es c.args.i)) c.requires.within

pub returns-clause-fewer : goal.returns-clause-fewer
returns-clause-fewer c = let w = some_waits _ c.args.i _ c.requires.within c.requires.pending c.args.self.now.listed in omega arith
