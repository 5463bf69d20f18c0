use Rattle.std.proofs.Common.{◌≡◌, true, [], ◌∷◌, ◌++◌, vec_items, sym, ap, ◌∙◌, arith}
use Rattle.extents.specs.Map.{is_table, all_in_range}
use Rattle.extents.specs.Faults.{extent_refusal}
use Rattle.extents.proofs.Rooms.{sound_short, taken_range}
use Rattle.extents.proofs.Appending.{range_end}
use Rattle.extents.proofs.table.map.ExtentMap.append.Goals as goal

pub push_reserved-requires : goal.push_reserved-requires
push_reserved-requires g c = omega (arith, sound_short c.self.invariant g.T.Target.laws, c.self.invariant.room, c.self.inside.entries.ok.0)

pub invariant_of-self : goal.invariant_of-self
invariant_of-self g c =
    let m = g.T.Target in
    let v = c.self.inside in
    let e = c.args.e in
    let xs = vec_items v.entries in
    let taken = ap (λ w. extent_refusal m.advanced m.fits w.blocks e) c.self.view_is ∙ c.in_ok-admit.ensures in
    let grown : is_table m.advanced m.same (xs ++ e ∷ []) ≡ true = ap (λ w. is_table m.advanced m.same (w.extents ++ e ∷ [])) c.self.view_is ∙ sym c.if-not-extends.ensures in
    let new = c.push_reserved.ensures.items in
    record {
      table = ap (is_table m.advanced m.same) new ∙ grown;
      range = ap (all_in_range m.advanced m.fits v.blocks) new ∙ range_end m.advanced m.fits v.blocks e xs c.self.invariant.range (taken_range m.advanced m.fits v.blocks e taken v.blocks (omega arith));
      width = c.self.invariant.width;
      room = omega (arith, c.self.invariant.room, c.push_reserved.ensures.capacity);
    }
