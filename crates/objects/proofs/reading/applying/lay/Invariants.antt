use Rattle.objects.specs.Seen.{entries_said}
use Rattle.objects.proofs.Laying.{Lays}
use Rattle.objects.proofs.reading.applying.lay.Given as goal

abbrev pub invariant-loop-bytes : goal.invariant-loop-bytes
invariant-loop-bytes l = Lays l.number l.count l.before (entries_said l.entries) l.bytes-index l.initial.map l.map
