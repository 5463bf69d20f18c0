use Rattle.std.proofs.Common.{◌≡◌, ◌-◌, ◌≤◌, ◌++◌, length, take, drop}
use Rattle.store.specs.PagedSound.{laid}
use Rattle.store.proofs.directory.paged.blocks.read_pages.Given as goal

-- so many bytes are copied
abbrev pub invariant-loop-done : goal.invariant-loop-done
invariant-loop-done l = (l.done ≤ length l.initial.out) × (l.out ≡ take l.done (drop l.at (laid l.area l.order)) ++ drop l.done l.initial.out)

abbrev pub decreases-loop-done : goal.decreases-loop-done
decreases-loop-done l = length l.initial.out - l.done
