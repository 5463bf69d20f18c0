use Rattle.std.proofs.Common.{sym, ap, ◌∙◌}
use Rattle.std.proofs.Output.{has_written_of_eq}
use Rattle.commands.specs.Values.{values}
use Rattle.commands.specs.Calls.{asked, written}
use Rattle.commands.proofs.Readings.{written_write}
use Rattle.commands.proofs.print.CallDisplay.fmt.Goals as goal

pub returns-in-Write-clause-writes : goal.returns-in-Write-clause-writes
returns-in-Write-clause-writes g c =
    λ p e. has_written_of_eq g.W.Write.write_str_gives _ _ _ _ (written_write c.in-Write.address (values c.in-Write.fill.text.now) ∙ ap (λ k. written (asked k)) (sym c.in-Write.is)) (c.write-in-Write.ensures.writes p e)
