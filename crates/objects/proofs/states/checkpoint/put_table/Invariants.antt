use Rattle.std.proofs.Common.{◌≡◌, ◌*◌, take}
use borrow.Rule.Slice.PartMut.{put_mid}
use Rattle.std.specs.List.{flat_map}
use Rattle.objects.specs.Layout.{extent_bytes}
use Rattle.objects.proofs.states.checkpoint.put_table.Given as goal

abbrev pub invariant-loop-i : goal.invariant-loop-i
invariant-loop-i l = l.buf ≡ put_mid 24 (16 * l.i) l.initial.buf (flat_map extent_bytes (take l.i l.table))
