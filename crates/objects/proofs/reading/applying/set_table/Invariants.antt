use Rattle.objects.specs.Seen.{extents_said}
use Rattle.objects.proofs.Setting.{Sets}
use Rattle.objects.proofs.reading.applying.set_table.Given as goal

abbrev pub invariant-loop-bytes : goal.invariant-loop-bytes
invariant-loop-bytes l = Sets (extents_said l.extents) l.bytes-index l.initial.map.blocks l.map
