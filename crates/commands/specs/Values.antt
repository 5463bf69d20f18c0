-- The numbers that a list's text writes. Assumes nothing.
use Rattle.std.specs.Prelude.{◌≡◌, ℕ, ◌+◌, ◌-◌, ◌*◌, cond, List, [], ◌∷◌, Some, None, Option, ◌==◌}
use Rattle.commands.specs.Grammar.{listed}

-- The numbers of a text, of whose first number n is what its digits before the text write, if there are any.
abbrev pub values_on : Option ℕ → List ℕ → List ℕ
values_on None [] = []
values_on (Some n) [] = n ∷ []
values_on None (c ∷ cs) = cond (c == 32) (0 ∷ values_on None cs) (values_on (Some (10 * 0 + (c - 48))) cs)
values_on (Some n) (c ∷ cs) = cond (c == 32) (n ∷ values_on None cs) (values_on (Some (10 * n + (c - 48))) cs)

-- The numbers that a text writes, one space between.
abbrev pub values : List ℕ → List ℕ
values text = values_on None text

-- The text is what its numbers are written as, so that it has nothing else in it.
abbrev pub Listing : List ℕ → Type 0
Listing text = text ≡ listed (values text) []
