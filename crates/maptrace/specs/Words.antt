-- A line's words and numbers. Assumes nothing.
use Rattle.std.specs.List.{position_or_len}
use Rattle.std.specs.Prelude.{ℕ, ◌+◌, ◌-◌, ◌*◌, ◌^◌, cond, ◌&&◌, List, [], ◌∷◌, length, take, drop, Some, None, Option, ◌==◌, nat_le, nat_lt}

-- How many bytes stand before a line's first space.
abbrev pub before_space : List ℕ → ℕ
before_space = position_or_len (λ b. b == 32)

-- A line's first word.
abbrev pub word : List ℕ → List ℕ
word s = take (before_space s) s

-- What follows a line's first space, if it has one.
abbrev pub after_space : List ℕ → Option (List ℕ)
after_space s = cond (nat_lt (before_space s) (length s)) (Some (drop (before_space s + 1) s)) None

-- What f makes of a value, if there is one.
abbrev pub then : {X Y : Type 0} → Option X → (X → Option Y) → Option Y
then None f = None
then (Some x) f = f x

-- A number with a decimal digit written after it, if the byte is one and the number stays below 2^32.
abbrev pub with_digit : ℕ → ℕ → Option ℕ
with_digit n b = cond (nat_le 48 b && nat_le b 57) (cond (nat_lt (10 * n + (b - 48)) (2 ^ 32)) (Some (10 * n + (b - 48))) None) None

-- A number with decimal digits written after it.
abbrev pub read_on : ℕ → List ℕ → Option ℕ
read_on n [] = Some n
read_on n (b ∷ bs) = then (with_digit n b) (λ m. read_on m bs)

-- The number that a word writes, if it is one: at least one digit.
abbrev pub number_of : List ℕ → Option ℕ
number_of [] = None
number_of (b ∷ bs) = read_on 0 (b ∷ bs)
