-- How answers are written. Assumes nothing.
use Rattle.std.specs.Prelude.{◌≡◌, ℕ, ◌^◌, ◌<◌, List, [], ◌∷◌, ◌++◌, map, codes, decimal, Ok, Err, Result}
use Rattle.std.specs.List.{AllByRecursion}
use Rattle.std.specs.Result.{result_copied}
use Rattle.answers.specs.declared.Answer.{Answer}
use Rattle.answers.specs.declared.Numbers.{Numbers}
use Rattle.commands.specs.Grammar.{spaced}

-- What came of a call: the numbers of the answer where it was granted, and those of the refusal where it was refused.
abbrev pub Outcome : Type 0
Outcome = Result (List ℕ) (List ℕ)

-- The word of an outcome: ok where the call was granted, no where it was refused.
abbrev pub verdict : Outcome → List ℕ
verdict (Ok ns) = codes "ok"
verdict (Err ns) = codes "no"

-- The numbers of an outcome.
abbrev pub numbers : Outcome → List ℕ
numbers (Ok ns) = ns
numbers (Err ns) = ns

-- An answer in plain values: the number of its line, and what came of its call.
pub record Reply : Type 0 where
  pub line : ℕ
  pub outcome : Outcome

-- How the items of an answer are written: each in decimal, after one space.
abbrev pub items_text : List ℕ → List ℕ
items_text ns = spaced (map decimal ns) []

-- An answer is written as the line's number, the word and the items in brackets, one space between.
abbrev pub replied : Reply → List ℕ
replied x = 40 ∷ (decimal x.line ++ (32 ∷ (verdict x.outcome ++ (items_text (numbers x.outcome) ++ 41 ∷ []))))

-- The plain values of an answer.
abbrev pub outcome : Answer → Outcome
outcome x = result_copied x.outcome

abbrev pub reply : Answer → Reply
reply x = record { line = x.line; outcome = outcome x }

abbrev pub answer_text : Answer → List ℕ
answer_text x = replied (reply x)

abbrev pub numbers_text : Numbers → List ℕ
numbers_text x = items_text x.items.now

-- The numbers of an answer have 64 bits.
pub record InRange (x : Reply) : Type 0 where
  pub line : x.line < 2 ^ 64
  pub items : AllByRecursion (λ n. n < 2 ^ 64) (numbers x.outcome)

-- Two different answers never have the same line.
abbrev pub OneAnswer : Type 0
OneAnswer = (x y : Reply) → InRange x → InRange y → replied x ≡ replied y → x ≡ y
