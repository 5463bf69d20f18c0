use Rattle.std.proofs.Common.{ℕ, ◌+◌, ◌-◌, ◌^◌, ◌++◌, take, drop, sym, ap, ◌∙◌, arith}
use Rattle.std.proofs.lemmas.List.{drop_all, append-nil}
use Rattle.extents.specs.Steps.{sieved}
use Rattle.extents.proofs.Tables.{fits_before}
use Rattle.extents.proofs.Sieving.{read_range, turn_none, turn_some}
use Rattle.extents.proofs.table.sieve.Goals as goal
use Rattle.extents.proofs.table.sieve.Goals.{in-Some, in_default}

pub from_target-requires : goal.from_target-requires
from_target-requires g c =
    let m = g.T.Target in
    let e = c.index-s-i.result in
    let r = read_range m.advanced (λ t. g.T.Ordered.short t c.args.limit) c.loop-i.s c.args.s.now c.loop-i.i c.loop-i.to e c.loop-i.auto.s c.loop-i-test.true c.loop-i.invariant.1 c.index-s-i.is m.fits (2 ^ 32 - 1) c.requires in
    record {
      ends = omega (arith, r.0);
      fits = λ l. fits_before m.laws e.target _ (e.length - 1) (omega arith) r.1;
    }

pub loop-i-preserved : goal.loop-i-preserved
loop-i-preserved g c =
    let m = g.T.Target in
    let short : g.row.T.Denot → ℕ = λ t. g.T.Ordered.short t c.args.limit in
    let s = c.loop-i.s in
    let s₀ = c.args.s.now in
    let i = c.loop-i.i in
    let to = c.loop-i.to in
    let rest = sieved m.advanced short (drop (i + 1) s₀) in
    elim c.match-from_target.branch [
      | in-Some w ↦
          let t = turn_some m.advanced short s s₀ i to c.index-s-i.result c.loop-i.auto.s c.loop-i-test.true c.loop-i.invariant.1 c.index-s-i.is c.from_target.result c.from_target.ensures c.loop-i.invariant.0 c.loop-i.invariant.2 w.in-Some.e w.in-Some.is in (
            omega (arith, w.to-is, c.loop-i.invariant.0),
            ap (drop (i + 1)) w.s-is ∙ t.0,
            ap (λ n. take n c.match-from_target.s ++ rest) w.to-is ∙ ap (λ l. take (to + 1) l ++ rest) w.s-is ∙ t.1,
          )
      | in_default w ↦
          let t = turn_none m.advanced short s s₀ i to c.index-s-i.result c.loop-i.auto.s c.loop-i-test.true c.loop-i.invariant.1 c.index-s-i.is c.from_target.result c.from_target.ensures c.loop-i.invariant.0 c.loop-i.invariant.2 w.in_default.is in (
            omega (arith, w.to-is, c.loop-i.invariant.0),
            ap (drop (i + 1)) w.s-is ∙ t.0,
            ap (λ n. take n c.match-from_target.s ++ rest) w.to-is ∙ ap (λ l. take to l ++ rest) w.s-is ∙ t.1,
          )
    ]

pub returns : goal.returns
returns g c =
    let m = g.T.Target in
    let short : g.row.T.Denot → ℕ = λ t. g.T.Ordered.short t c.args.limit in
    sym (append-nil _)
    ∙ ap (λ zs. take c.loop-i.to c.loop-i.s ++ sieved m.advanced short zs) (sym (drop_all c.loop-i.i c.args.s.now c.loop-i-test.false))
    ∙ c.loop-i.invariant.2
