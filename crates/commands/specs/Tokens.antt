-- What a token stands for, and the step that cuts one off. Assumes nothing.
use Rattle.std.specs.Prelude.{◌≡◌, ℕ, ◌-◌, ◌^◌, cond, List, take, drop, Some, None, Option, ◌==◌, slice_index}
use Rattle.std.specs.List.{prefix_len}
use Rattle.std.specs.Option.{option_map}
use Rattle.commands.specs.declared.token.Token.{Token}
use Rattle.commands.specs.declared.token.Token.TheVariants.{Open, Close, Space, Word, Number, List as Bytes}
use Rattle.commands.specs.Numbers.{digit, number_in}
use Rattle.commands.specs.Grammar.{Part, opening, closing, gap, word, number, bytes, letter, Begins}
use Rattle.commands.specs.Values.{values}
use Rattle.commands.specs.Elements.{list_in}

-- The part of the line that a token is.
abbrev pub part : Token → Part
part Open = opening
part Close = closing
part Space = gap
part (Word w) = word w.now
part (Number n) = number n
part (Bytes l) = bytes (values l.text.now)

-- A part is taken if the line begins with it, and the rest is left. None is taken exactly where the line begins with no part, and the line is left.
abbrev pub Taken : List ℕ → Option Part → List ℕ → Type 0
Taken line (Some p) rest = Begins line p rest
Taken line None rest = (rest ≡ line) × ((p : Part) (r : List ℕ) → Begins line p r → ⊥)

-- How many letters stand at the front.
abbrev pub run : List ℕ → ℕ
run = prefix_len letter

-- The step after an opening bracket. Inner functions cite it, and the next one.
abbrev pub cut_opened : List ℕ → Option (Part × List ℕ)
cut_opened rest = cond (letter (slice_index rest 0)) (Some (opening, rest)) (option_map (λ x. (bytes x.0, x.1)) (list_in rest))

-- The step at the front of a line.
abbrev pub cut : List ℕ → Option (Part × List ℕ)
cut line =
    cond (slice_index line 0 == 32) (Some (gap, drop 1 line))
    (cond (slice_index line 0 == 41) (Some (closing, drop 1 line))
    (cond (slice_index line 0 == 40) (cut_opened (drop 1 line))
    (cond (digit (slice_index line 0)) (option_map (λ x. (number x.0, x.1)) (number_in (2 ^ 32 - 1) line))
    (cond (letter (slice_index line 0)) (Some (word (take (run line) line), drop (run line) line)) None))))
