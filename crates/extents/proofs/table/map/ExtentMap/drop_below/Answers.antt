use Rattle.std.proofs.Common.{◌≡◌, ℕ, ◌-◌, ◌^◌, length, take, vec_items, vec_len, ap, ◌∙◌, arith}
use Rattle.std.proofs.lemmas.List.{with_items_is}
use Rattle.extents.specs.Map.{target_at, all_in_range}
use Rattle.extents.specs.Order.{unless_below}
use Rattle.extents.specs.Steps.{sieved}
use Rattle.extents.proofs.Rooms.{sound_widest}
use Rattle.extents.proofs.Sieving.{dropped_table, dropped_range, dropped_target}
use Rattle.extents.proofs.table.map.ExtentMap.drop_below.Goals as goal

pub sieve-left-requires : goal.sieve-left-requires
sieve-left-requires g c =
    let m = g.T.Target in
    ap (all_in_range m.advanced m.fits (2 ^ 32 - 1)) c.as_mut_slice.ensures.value ∙ sound_widest c.self.invariant

pub invariant_of-self : goal.invariant_of-self
invariant_of-self g c =
    let m = g.T.Target in
    let u = c.args.limit in
    let short : g.row.T.Denot → ℕ = λ t. g.T.Ordered.short t u in
    let climbs = λ (t : g.row.T.Denot) (i : ℕ). g.met.T.Ordered.climbs t u i in
    let v = c.self.inside.entries in
    let s = c.self.invariant in
    let ws = c.sieve-left.new.s in
    let len : length ws ≡ vec_len v = c.sieve-left.auto.s ∙ c.as_mut_slice.ensures.len in
    let new : vec_items c.truncate.new.self ≡ sieved m.advanced short (vec_items v) = c.truncate.ensures.items ∙ ap (take c.sieve-left.result) (with_items_is v ws len) ∙ c.sieve-left.ensures ∙ ap (sieved m.advanced short) c.as_mut_slice.ensures.value in
    record {
      table = dropped_table m.laws short g.T.Ordered.below u climbs (vec_items v) _ new s.table;
      range = dropped_range m.laws short g.T.Ordered.below u climbs (vec_items v) _ new s.table c.self.inside.blocks s.range;
      width = s.width;
      room = omega (arith, s.room, c.truncate.ensures.capacity);
    }

pub returns : goal.returns
returns g c =
    let m = g.T.Target in
    let u = c.args.limit in
    let short : g.row.T.Denot → ℕ = λ t. g.T.Ordered.short t u in
    let climbs = λ (t : g.row.T.Denot) (i : ℕ). g.met.T.Ordered.climbs t u i in
    let v = c.self.inside.entries in
    let s = c.self.invariant in
    let ws = c.sieve-left.new.s in
    let len : length ws ≡ vec_len v = c.sieve-left.auto.s ∙ c.as_mut_slice.ensures.len in
    let new : vec_items c.truncate.new.self ≡ sieved m.advanced short (vec_items v) = c.truncate.ensures.items ∙ ap (take c.sieve-left.result) (with_items_is v ws len) ∙ c.sieve-left.ensures ∙ ap (sieved m.advanced short) c.as_mut_slice.ensures.value in (
      ap (λ v. v.blocks) c.self.view_is,
      dropped_table m.laws short g.T.Ordered.below u climbs (vec_items v) _ new s.table,
      λ b.
          dropped_target m.laws short g.T.Ordered.below u climbs (vec_items v) _ new s.table b
          ∙ ap (λ v. unless_below g.T.Ordered.below u (target_at m.advanced v.extents b)) c.self.view_is,
    )
