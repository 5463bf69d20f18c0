use Rattle.std.proofs.Common.{◌≡◌, ◌≤◌, eqb, length, take}
use Rattle.std.specs.List.{filter}
use Rattle.commands.proofs.list.ByteList.len.Given as goal

abbrev pub invariant-loop-b : goal.invariant-loop-b
invariant-loop-b l = (l.spaces ≤ l.b-index) × (l.spaces ≡ length (filter (λ b. eqb b 32) (take l.b-index l.self.text.now)))
