-- How outcomes are written. Assumes nothing.
use Rattle.std.specs.Prelude.{ℕ, List, ◌++◌, Some, None, codes, decimal, Option}
use Rattle.std.specs.Fmt.{◌++?◌}
use Rattle.extents.specs.declared.target.Place.{Place}
use Rattle.extents.specs.declared.target.Record.{Record}
use Rattle.extents.specs.Texts.{place_text, record_text, extent_text}
use Rattle.maptrace.specs.declared.trace.Outcome.{Outcome}
use Rattle.maptrace.specs.declared.trace.Outcome.TheVariants.{Inserted, Recorded, Dropped, Found}

-- Which place a block has.
abbrev pub found_place : Option Place → List ℕ
found_place None = codes "no place"
found_place (Some p) = codes "place " ++ place_text p

-- Which record it has.
abbrev pub found_record : Option Record → List ℕ
found_record None = codes "no record"
found_record (Some r) = codes "record " ++ record_text r

-- What a command did is told with what it was given, and for a look-up with what it found.
abbrev pub outcome_text : Outcome → Option (List ℕ)
outcome_text (Inserted e) = Some (codes "inserted ") ++? extent_text (λ p. Some (place_text p)) e
outcome_text (Recorded e) = Some (codes "recorded ") ++? extent_text (λ r. Some (record_text r)) e
outcome_text (Dropped k) = Some (codes "dropped the records below " ++ record_text k)
outcome_text (Found b p r) = Some (codes "block " ++ (decimal b ++ (codes " has " ++ (found_place p ++ (codes " and " ++ found_record r)))))
