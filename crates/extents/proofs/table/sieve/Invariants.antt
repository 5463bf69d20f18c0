use Rattle.std.proofs.Common.{◌≡◌, ◌≤◌, ◌++◌, take, drop}
use Rattle.extents.specs.Steps.{sieved}
use Rattle.extents.proofs.table.sieve.Given as goal

abbrev pub invariant-loop-i : goal.invariant-loop-i
invariant-loop-i g l =
    let kept = sieved g.T.Target.advanced (λ t. g.T.Ordered.short t l.limit) in
    (l.to ≤ l.i) × (drop l.i l.s ≡ drop l.i l.initial.s) × (take l.to l.s ++ kept (drop l.i l.initial.s) ≡ kept l.initial.s)
