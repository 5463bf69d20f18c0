-- How a packed store lays its objects.
use Rattle.std.specs.Prelude.{ℕ, ◌+◌, ◌≤◌, List, [], ◌∷◌}
use Rattle.std.proofs.Common.{arith}
use Rattle.store.specs.declared.directory.Entry.{Entry}
use Rattle.store.specs.Entries.{total}

-- An object takes the room of its bytes.
abbrev pub packed_room : ℕ → ℕ
packed_room n = n

-- An object weighs its length and 12 more.
abbrev pub packed_weight : ℕ → ℕ
packed_weight n = n + 12

-- Objects take no more room together than they weigh.
pub packed_covered : (es : List Entry) → total packed_room es ≤ total packed_weight es
packed_covered [] = omega arith
packed_covered (e ∷ es) = let ih = packed_covered es in omega arith
