use Rattle.std.proofs.Common.{◌≡◌, ◌+◌, ◌*◌, ◌≤◌, ◌++◌, take, vec_items, vec_len, vec_capacity}
use Rattle.answers.specs.Answers.{items_text}
use Rattle.answers.proofs.text.put_items.Given as goal

abbrev pub invariant-loop-n : goal.invariant-loop-n
invariant-loop-n l = (vec_items l.out ≡ vec_items l.initial.out ++ items_text (take l.n-index l.items)) × (vec_len l.out ≤ vec_len l.initial.out + 21 * l.n-index) × (vec_capacity l.initial.out ≤ vec_capacity l.out)
