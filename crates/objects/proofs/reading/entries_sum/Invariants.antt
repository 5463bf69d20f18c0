use Rattle.std.proofs.Common.{◌≡◌, ◌+◌, ◌*◌, ◌^◌, ◌≤◌, drop}
use Rattle.objects.specs.Layout.{total}
use Rattle.objects.specs.Rules.{every, entry_fits}
use Rattle.objects.specs.Seen.{entries_said}
use Rattle.objects.proofs.reading.entries_sum.Given as goal

abbrev pub invariant-loop-bytes : goal.invariant-loop-bytes
invariant-loop-bytes l =
    (every (entry_fits l.most l.blocks) (drop l.bytes-index (entries_said l.entries)) ≡ every (entry_fits l.most l.blocks) (entries_said l.entries))
    × (l.sum + total (drop l.bytes-index (entries_said l.entries)) ≡ total (entries_said l.entries))
    × (l.sum ≤ 2 ^ 32 * l.bytes-index)
