-- What the words of a line ask for. Assumes nothing.
use Rattle.std.specs.Prelude.{ℕ, cond, List, is_some, Some, None, codes, Option}
use Rattle.std.specs.Str.{bytes_eq}
use Rattle.extents.specs.Kinds.{place, recorded}
use Rattle.extents.specs.Map.{extent}
use Rattle.maptrace.specs.declared.command.Command.{Command}
use Rattle.maptrace.specs.declared.command.Command.TheVariants.{Insert, Record, Drop, Lookup}
use Rattle.maptrace.specs.Words.{word, after_space, then, number_of}

-- The number that some text begins with, and what follows its space.
abbrev pub first_number : Option (List ℕ) → Option (ℕ × Option (List ℕ))
first_number o = then o (λ s. then (number_of (word s)) (λ n. Some (n, after_space s)))

-- The number that some text is.
abbrev pub only_number : Option (List ℕ) → Option ℕ
only_number o = then (first_number o) (λ p. cond (is_some p.1) None (Some p.0))

-- `insert` takes four numbers.
abbrev pub insert_of : Option (List ℕ) → Option Command
insert_of o =
    then (first_number o) (λ a. then (first_number a.1) (λ b. then (first_number b.1) (λ c. then (only_number c.1) (λ d. Some (Insert (extent a.0 b.0 (place c.0 d)))))))

-- `record` takes three.
abbrev pub record_of : Option (List ℕ) → Option Command
record_of o = then (first_number o) (λ a. then (first_number a.1) (λ b. then (only_number b.1) (λ c. Some (Record (extent a.0 b.0 (recorded c))))))

-- What a line asks for, by its first word.
abbrev pub asked : List ℕ → Option Command
asked line =
    cond (bytes_eq (word line) (codes "insert")) (insert_of (after_space line))
    (cond (bytes_eq (word line) (codes "record")) (record_of (after_space line))
    (cond (bytes_eq (word line) (codes "drop")) (then (only_number (after_space line)) (λ n. Some (Drop (recorded n))))
    (cond (bytes_eq (word line) (codes "lookup")) (then (only_number (after_space line)) (λ n. Some (Lookup n))) None)))
