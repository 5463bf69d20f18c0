use Rattle.std.proofs.Common.{rules, arith}
use Rattle.endian.proofs.put.Goals as goal

pub to_bytes-requires : goal.to_bytes-requires
to_bytes-requires g c = let short = g.met.T.Number.short in search (rules, arith)

pub shared_whole_as_slice-put_part : goal.shared_whole_as_slice-put_part
shared_whole_as_slice-put_part g c = let short = g.met.T.Number.short in search (rules, arith)
