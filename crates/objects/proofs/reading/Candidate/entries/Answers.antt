use Rattle.std.proofs.Common.{◌∙◌}
use Rattle.objects.proofs.Checked.{chunks_to}
use Rattle.objects.proofs.reading.Candidate.entries.Goals as goal

pub returns : goal.returns
returns g c = c.as_chunks.ensures.front ∙ chunks_to g.row.N c.args.self.now.header.entries c.args.self.now.bytes.now c.requires.some c.requires.room
