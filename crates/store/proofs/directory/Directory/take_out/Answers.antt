use Rattle.std.proofs.Common.{◌≡◌, ◌∷◌, [], length, vec_items, refl, ap, ◌∙◌, arith}
use Rattle.std.proofs.lemmas.List.{get_or_read_under}
use Rattle.store.specs.Entries.{blank, waits}
use Rattle.store.proofs.Admission.{waits_here}
use Rattle.store.proofs.Changes.{listed_removed}
use Rattle.store.proofs.Scans.{one_waits}
use Rattle.store.proofs.directory.Directory.take_out.Goals as goal

pub overflow_sub-self : goal.overflow_sub-self
overflow_sub-self c =
    let es = vec_items c.args.self.now.entries in
    let e = get_or_read_under es c.args.i (length es) c.remove-e.result blank c.remove-e.ensures.value c.requires refl in
    waits_here es c.args.i _ _ c.remove-e.result c.requires e c.args.self.now.listed (c.from.ensures ∙ one_waits c.remove-e.result)

pub invariant_of-self : goal.invariant_of-self
invariant_of-self c =
    let es = vec_items c.args.self.now.entries in
    let e = get_or_read_under es c.args.i (length es) c.remove-e.result blank c.remove-e.ensures.value c.requires refl in
    let w = waits_here es c.args.i _ _ c.remove-e.result c.requires e c.args.self.now.listed (c.from.ensures ∙ one_waits c.remove-e.result) in
    let z = ap (λ y. waits (y ∷ [])) e in
    let n : c.from.result ≡ waits (c.remove-e.result ∷ []) = c.from.ensures ∙ one_waits c.remove-e.result in
    record { listed = listed_removed es _ c.args.i c.args.self.now.waiting _ c.requires c.remove-e.ensures.items (omega (arith, w, z, n)) c.args.self.now.listed }

pub returns-clause-fewer : goal.returns-clause-fewer
returns-clause-fewer c =
    let es = vec_items c.args.self.now.entries in
    let e = get_or_read_under es c.args.i (length es) c.remove-e.result blank c.remove-e.ensures.value c.requires refl in
    let w = waits_here es c.args.i _ _ c.remove-e.result c.requires e c.args.self.now.listed (c.from.ensures ∙ one_waits c.remove-e.result) in
    let z = ap (λ y. waits (y ∷ [])) e in
    let n : c.from.result ≡ waits (c.remove-e.result ∷ []) = c.from.ensures ∙ one_waits c.remove-e.result in
    omega (arith, w, z, n)
