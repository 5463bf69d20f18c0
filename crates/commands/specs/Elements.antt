-- The steps that read a list. Only inner functions cite them. Assumes nothing.
use Rattle.std.specs.Prelude.{ℕ, zero, suc, ◌-◌, cond, List, [], length, take, drop, Some, None, Option, ◌==◌, slice_index}
use Rattle.std.specs.Option.{option_map, option_and_then}
use Rattle.commands.specs.Numbers.{number_in}
use Rattle.commands.specs.Values.{values}

-- At most k further elements of a list: the text from the closing bracket on.
abbrev pub elements : ℕ → List ℕ → Option (List ℕ)
elements zero s = None
elements (suc k) s =
    option_and_then
    (λ p. cond (slice_index p.1 0 == 41) (Some p.1) (cond (slice_index p.1 0 == 32) (elements k (drop 1 p.1)) None))
    (number_in 255 s)

-- The text of s before r, its end.
abbrev pub front : List ℕ → List ℕ → List ℕ
front s r = take (length s - length r) s

-- The values of the list that s begins with and that is closed at r, and what follows it.
abbrev pub valued : List ℕ → List ℕ → List ℕ × List ℕ
valued s r = (values (front s r), drop 1 r)

-- The list whose opening bracket was read: its values, and what follows it.
abbrev pub list_in : List ℕ → Option (List ℕ × List ℕ)
list_in s =
    cond (slice_index s 0 == 41) (Some ([], drop 1 s))
    (option_map (valued s) (elements (length s) s))
