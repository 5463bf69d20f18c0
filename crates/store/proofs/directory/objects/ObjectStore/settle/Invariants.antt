use Rattle.store.specs.Views.{StoreView}
use Rattle.store.specs.Calls.{CutBy}
use Rattle.store.specs.Held.{held}
use Rattle.store.proofs.directory.objects.ObjectStore.settle.Given as goal

-- what the rest of the cut comes to, the whole does
abbrev pub invariant-loop-i : goal.invariant-loop-i
invariant-loop-i g l = (w : StoreView) → CutBy l.bits (held l.self) w → CutBy l.survivors (held l.initial.self) w

abbrev pub decreases-loop-i : goal.decreases-loop-i
decreases-loop-i g l = l.self.directory.waiting
