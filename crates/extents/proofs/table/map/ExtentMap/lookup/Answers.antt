use Rattle.std.proofs.Common.{◌≡◌, ◌-◌, ◌^◌, ◌≤◌, true, length, sym, ap, ◌∙◌, arith}
use Rattle.extents.specs.Laws.{fitting}
use Rattle.extents.specs.Map.{target_at, is_table, all_in_range}
use Rattle.extents.specs.Steps.{reach}
use Rattle.extents.proofs.Rooms.{sound_widest}
use Rattle.extents.proofs.Found.{found_none, found_later, found_target}
use Rattle.extents.proofs.table.map.ExtentMap.lookup.Goals as goal

pub returns-in_err-e : goal.returns-in_err-e
returns-in_err-e g c =
    let is = c.deref.ensures.value ∙ ap (λ m. m.extents) c.self.view_is in
    let short : length c.args.self.now.extents ≤ c.reached.result = omega (arith, ap length is, c.in_err-e.ensures) in
    c.from_residual.ensures ∙ found_none g.T.Target.laws c.args.self.now.extents c.reached.result _ c.reached.ensures c.args.block (omega arith) short

pub returns-in_err-on : goal.returns-in_err-on
returns-in_err-on g c =
    let m = g.T.Target in
    let is = c.deref.ensures.value ∙ ap (λ v. v.extents) c.self.view_is in
    let t = ap (is_table m.advanced m.same) c.deref.ensures.value ∙ c.self.invariant.table in
    let f = c.in_ok-e.ensures.lookup in
    c.from_residual-in_err-on.ensures
    ∙ found_later m.laws c.deref.result.now c.reached.result _ (c.reached.ensures ∙ ap (reach _) (sym is)) c.args.block (omega arith) c.in_ok-e.e.now f.3.0 f.1 t (omega arith)
    ∙ ap (λ l. target_at m.advanced l c.args.block) is

pub returns : goal.returns
returns g c =
    let m = g.T.Target in
    let e = c.in_ok-e.e.now in
    let is = c.deref.ensures.value ∙ ap (λ v. v.extents) c.self.view_is in
    let r : all_in_range m.advanced m.fits (2 ^ 32 - 1) c.deref.result.now ≡ true = ap (all_in_range m.advanced m.fits (2 ^ 32 - 1)) c.deref.ensures.value ∙ sound_widest c.self.invariant in
    let f = c.in_ok-e.ensures.lookup in
    c.advance.ensures
    ∙ ap (λ k. fitting m.fits (m.advanced e.target k)) c.in_ok-on.ensures.1
    ∙ found_target m.laws c.deref.result.now c.reached.result _ (c.reached.ensures ∙ ap (reach _) (sym is)) c.args.block (omega arith) e f.3.0 f.1 (2 ^ 32 - 1) r c.in_ok-on.ensures.0
    ∙ ap (λ l. target_at m.advanced l c.args.block) is
