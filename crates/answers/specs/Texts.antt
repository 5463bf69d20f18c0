-- How much room answers take. Assumes nothing.
use Rattle.std.specs.Prelude.{ℕ, ◌+◌, ◌*◌}

-- The most bytes of an answer with that many items: a number has at most twenty digits, an item a space before it, and there are five more bytes.
abbrev pub longest : ℕ → ℕ
longest k = 25 + 21 * k
