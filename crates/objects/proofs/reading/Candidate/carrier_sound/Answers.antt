use Rattle.std.proofs.Common.{sym, ap, ◌∙◌}
use Rattle.objects.specs.Seen.{entries_sum}
use Rattle.objects.specs.Seen.{entries_said}
use Rattle.objects.proofs.Checked.{few_entries, carrier_checked}
use Rattle.objects.proofs.reading.Candidate.carrier_sound.Goals as goal

pub entries_sum-requires : goal.entries_sum-requires
entries_sum-requires c = few_entries c.args.self.now.header _ c.args.self.now.bytes.now _ (sym c.carrier_shape.ensures ∙ c.if-carrier_shape.true) c.entries.ensures

pub returns-then-carrier_shape : goal.returns-then-carrier_shape
returns-then-carrier_shape c =
    carrier_checked c.args.carrier c.args.blocks c.args.self.now.header c.args.self.now.bytes.now _ _ c.args.self.now.read (sym c.carrier_shape.ensures ∙ c.if-carrier_shape.true) c.entries.ensures
    (c.entries_sum.ensures ∙ ap (λ most. entries_sum most c.args.blocks c.args.self.now.header.tally (entries_said c.entries.result.now)) c.most_blocks.ensures)
