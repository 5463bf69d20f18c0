-- Digits, and the number that stands at the front of a text. Assumes nothing.
use Rattle.std.specs.Prelude.{ℕ, ◌+◌, ◌-◌, ◌*◌, Bool, cond, ◌&&◌, List, [], ◌∷◌, Some, None, Option, ◌==◌, nat_le}

-- The byte is a decimal digit.
abbrev pub digit : ℕ → Bool
digit b = nat_le 48 b && nat_le b 57

-- The number n, of which some digits were read, read on: the number and what follows it. A number over the limit is none, and 0 has no further digit.
abbrev pub number_on : ℕ → ℕ → List ℕ → Option (ℕ × List ℕ)
number_on most n [] = Some (n, [])
number_on most n (c ∷ cs) = cond (digit c) (cond (n == 0) None (cond (nat_le (10 * n + (c - 48)) most) (number_on most (10 * n + (c - 48)) cs) None)) (Some (n, c ∷ cs))

-- The number at the front of a text, at most `most`, and what follows it.
abbrev pub number_in : ℕ → List ℕ → Option (ℕ × List ℕ)
number_in most [] = None
number_in most (c ∷ cs) = cond (digit c) (number_on most (c - 48) cs) None
