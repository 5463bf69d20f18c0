use Rattle.std.proofs.Common.{◌≡◌, ◌-◌, length}
use Rattle.commands.specs.Elements.{elements}
use Rattle.commands.proofs.token.list_end.Given as goal

abbrev pub invariant-loop-turn : goal.invariant-loop-turn
invariant-loop-turn l = elements (length l.text - l._turn) l.rest ≡ elements (length l.text) l.text
