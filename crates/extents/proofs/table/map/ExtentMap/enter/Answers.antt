use Rattle.std.proofs.Common.{◌+◌, ◌-◌, ◌^◌, ◌∷◌, ◌++◌, length, vec_items, sym, ap, ◌∙◌, arith}
use Rattle.std.specs.List.{splice}
use Rattle.extents.specs.Map.{all_in_range}
use Rattle.extents.specs.Steps.{reach, listed}
use Rattle.extents.proofs.Rooms.{sound_seen, sound_widest, sound_short, taken_some, taken_ends, taken_range}
use Rattle.extents.proofs.Splice.{held_count}
use Rattle.extents.proofs.Assembly.{right_short, upto_within, middle_short, left_before, left_room, new_is, new_table, new_range, new_targets}
use Rattle.extents.proofs.table.map.ExtentMap.enter.Goals as goal

pub overflow_add-after : goal.overflow_add-after
overflow_add-after g c =
    let m = g.T.Target in
    let s = sound_seen c.self.view_is c.self.invariant in
    let t = taken_ends m.advanced m.fits c.args.self.now.blocks c.args.e c.requires in
    omega (arith, s.width)

pub join_right-middle-requires : goal.join_right-middle-requires
join_right-middle-requires g c =
    let s = sound_seen c.self.view_is c.self.invariant in
    let jr = c.reached-j.ensures ∙ ap (λ k. reach (k + 1) c.args.self.now.extents) c.from-2.ensures in
    right_short g.T.Target.laws c.args.self.now.extents c.args.e c.reached-j.result c.right_at-right.result jr c.right_at-right.ensures (sound_widest s)

pub join_left-head-requires : goal.join_left-head-requires
join_left-head-requires g c =
    let m = g.T.Target in
    let e = c.args.e in
    let s = sound_seen c.self.view_is c.self.invariant in
    let jr = c.reached-j.ensures ∙ ap (λ k. reach (k + 1) c.args.self.now.extents) c.from-2.ensures in
    middle_short m.laws c.args.self.now.extents e c.reached-j.result c.right_at-right.result jr c.right_at-right.ensures
    c.join_right-middle.result.0 c.join_right-middle.result.1 c.join_right-middle.ensures s.table (sound_widest s) (taken_some m.advanced m.fits _ e c.requires) (taken_range m.advanced m.fits _ e c.requires (2 ^ 32 - 1) (let w = s.width in omega arith))

pub replace-requires : goal.replace-requires
replace-requires g c =
    let laws = g.T.Target.laws in
    let e = c.args.e in
    let xs = c.args.self.now.extents in
    let s = sound_seen c.self.view_is c.self.invariant in
    let is = ap (λ v. length v.extents) c.self.view_is in
    let jr = c.reached-j.ensures ∙ ap (λ k. reach (k + 1) xs) c.from-2.ensures in
    let ir = c.reached-i.ensures ∙ ap (λ k. reach k xs) c.from.ensures in
    let R = c.right_at-right.result in
    let held = held_count R c.is_some.result c.from-3.result c.is_some.ensures c.from-3.ensures in
    let M = c.join_right-middle.result in
    let H = c.join_left-head.result in
    let first = left_before laws xs e c.reached-j.result R jr c.right_at-right.ensures M.0 M.1 c.join_right-middle.ensures c.reached-i.result c.left_at-left.result H.0 H.1 ir c.left_at-left.ensures c.join_left-head.ensures in
    let room = left_room laws xs e c.reached-j.result R jr c.right_at-right.ensures M.0 M.1 c.join_right-middle.ensures c.reached-i.result c.left_at-left.result H.0 H.1 ir c.left_at-left.ensures c.join_left-head.ensures in
    let inner = upto_within laws xs e c.reached-j.result R jr c.right_at-right.ensures in
    record {
      order = omega arith;
      part = omega arith;
      room = omega (arith, sound_short c.self.invariant laws, c.self.invariant.room);
      within = omega arith;
    }

pub invariant_of-self : goal.invariant_of-self
invariant_of-self g c =
    let laws = g.T.Target.laws in
    let m = g.T.Target in
    let e = c.args.e in
    let xs = c.args.self.now.extents in
    let s = sound_seen c.self.view_is c.self.invariant in
    let jr = c.reached-j.ensures ∙ ap (λ k. reach (k + 1) xs) c.from-2.ensures in
    let ir = c.reached-i.ensures ∙ ap (λ k. reach k xs) c.from.ensures in
    let R = c.right_at-right.result in
    let M = c.join_right-middle.result in
    let H = c.join_left-head.result in
    let upto = c.reached-j.result + c.from-3.result in
    let held = ap (λ k. c.reached-j.result + k) (held_count R c.is_some.result c.from-3.result c.is_some.ensures c.from-3.ensures) in
    let new = c.replace.ensures.items ∙ ap (λ v. splice v.extents c.reached-i.result upto (H.0 ∷ (listed H.1 ++ listed M.1))) c.self.view_is in
    let is = new_is laws xs e c.reached-j.result R jr c.right_at-right.ensures M.0 M.1 c.join_right-middle.ensures c.reached-i.result c.left_at-left.result H.0 H.1 ir c.left_at-left.ensures c.join_left-head.ensures upto (vec_items c.replace.new.v) held new in
    let some = taken_some m.advanced m.fits _ e c.requires in
    let n = c.self.inside.blocks in
    let same = ap (λ v. v.blocks) c.self.view_is in
    record {
      table = new_table laws xs e _ is s.table some;
      range = new_range laws xs e _ is s.table some n (taken_range m.advanced m.fits _ e c.requires n (omega arith)) (ap (λ v. all_in_range m.advanced m.fits n v.extents) (sym c.self.view_is) ∙ c.self.invariant.range);
      width = c.self.invariant.width;
      room = omega (arith, c.self.invariant.room, c.replace.ensures.capacity);
    }

pub returns : goal.returns
returns g c =
    let laws = g.T.Target.laws in
    let m = g.T.Target in
    let e = c.args.e in
    let xs = c.args.self.now.extents in
    let s = sound_seen c.self.view_is c.self.invariant in
    let jr = c.reached-j.ensures ∙ ap (λ k. reach (k + 1) xs) c.from-2.ensures in
    let ir = c.reached-i.ensures ∙ ap (λ k. reach k xs) c.from.ensures in
    let R = c.right_at-right.result in
    let M = c.join_right-middle.result in
    let H = c.join_left-head.result in
    let upto = c.reached-j.result + c.from-3.result in
    let held = ap (λ k. c.reached-j.result + k) (held_count R c.is_some.result c.from-3.result c.is_some.ensures c.from-3.ensures) in
    let new = c.replace.ensures.items ∙ ap (λ v. splice v.extents c.reached-i.result upto (H.0 ∷ (listed H.1 ++ listed M.1))) c.self.view_is in
    let is = new_is laws xs e c.reached-j.result R jr c.right_at-right.ensures M.0 M.1 c.join_right-middle.ensures c.reached-i.result c.left_at-left.result H.0 H.1 ir c.left_at-left.ensures c.join_left-head.ensures upto (vec_items c.replace.new.v) held new in
    let some = taken_some m.advanced m.fits _ e c.requires in
    record {
      blocks = ap (λ v. v.blocks) c.self.view_is;
      targets = new_targets laws xs e _ is s.table some;
      table = new_table laws xs e _ is s.table some;
    }
