use Rattle.std.proofs.Common.{List}
use Rattle.std.specs.Iterator.{AlwaysYields}
use Rattle.extents.specs.declared.extent.Extent.{Extent}
use Rattle.extents.specs.declared.target.Place.{Place}
use Rattle.objects.specs.Seen.{chained, no_extent}
use Rattle.objects.proofs.Chains.{Chains}
use Rattle.objects.proofs.chained.Given as goal

abbrev pub invariant-loop-extent : goal.invariant-loop-extent
invariant-loop-extent g l =
    (goal.iterator-loop-extent g).can_next l.extent-iterator
    × (goal.iterator-loop-extent g).is_finite l.extent-iterator
    × ((table : List (Extent Place)) → AlwaysYields g.I.Iterator.next_gives {B = Extent Place} (λ x. x) l.fn.extents table
    → Chains g.I.Iterator.next_gives l.number l.blocks l.extent-iterator l.last (chained l.number l.blocks no_extent table))
