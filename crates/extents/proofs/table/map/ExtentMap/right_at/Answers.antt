use Rattle.std.proofs.Common.{◌≡◌, ◌+◌, ◌-◌, ◌^◌, ◌≤◌, true, sym, ap, ◌∙◌, arith}
use Rattle.extents.specs.Map.{end, all_in_range}
use Rattle.extents.specs.Steps.{reach}
use Rattle.extents.proofs.Rooms.{sound_widest}
use Rattle.extents.proofs.Found.{found_end, found_fits}
use Rattle.extents.proofs.table.map.ExtentMap.right_at.Goals as goal

pub from_block-requires-clause-ends : goal.from_block-requires-clause-ends
from_block-requires-clause-ends g c =
    let is = c.deref.ensures.value ∙ ap (λ v. v.extents) c.self.view_is in
    let f = c.in_ok-get.ensures.lookup in
    omega (arith, found_end g.T.Target.laws c.deref.result.now c.args.j (c.args.c + 1) (c.requires ∙ ap (reach _) (sym is)) c.in_ok-get.field-0.now f.3.0 f.1)

pub from_block-requires-clause-fits : goal.from_block-requires-clause-fits
from_block-requires-clause-fits g c =
    λ l.
    let m = g.T.Target in
    let is = c.deref.ensures.value ∙ ap (λ v. v.extents) c.self.view_is in
    let r : all_in_range m.advanced m.fits (2 ^ 32 - 1) c.deref.result.now ≡ true = ap (all_in_range m.advanced m.fits (2 ^ 32 - 1)) c.deref.ensures.value ∙ sound_widest c.self.invariant in
    let f = c.in_ok-get.ensures.lookup in
    let e = c.in_ok-get.field-0.now in
    let i = c.requires ∙ ap (reach _) (sym is) in
    let past : c.args.c + 1 ≤ end e = found_end m.laws c.deref.result.now c.args.j (c.args.c + 1) i e f.3.0 f.1 in
    found_fits m.laws c.deref.result.now c.args.j (c.args.c + 1) i e f.3.0 f.1 (2 ^ 32 - 1) (c.args.c - e.first) r (omega arith)
