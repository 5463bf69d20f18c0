use Rattle.std.proofs.Common.{◌≡◌, ◌^◌, ◌<◌, length}
use Rattle.commands.specs.Numbers.{number_on, number_in}
use Rattle.commands.proofs.numeral.Given as goal

abbrev pub invariant-loop-rest : goal.invariant-loop-rest
invariant-loop-rest l = (l.n < 2 ^ 32) × (number_on l.most l.n l.rest ≡ number_in l.most l.text)

abbrev pub decreases-loop-rest : goal.decreases-loop-rest
decreases-loop-rest l = length l.rest
