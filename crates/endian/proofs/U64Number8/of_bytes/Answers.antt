use Rattle.std.proofs.Common.{rules}
use Rattle.endian.proofs.Laws.{le_8}
use Rattle.endian.proofs.U64Number8.of_bytes.Goals as goal

pub returns : goal.returns
returns c = search (rules, le_8)
