-- How targets and extents are written. Assumes nothing.
use Rattle.std.specs.Prelude.{ℕ, List, ◌++◌, Some, Option, codes, decimal}
use Rattle.std.specs.Fmt.{◌++?◌}
use Rattle.extents.specs.declared.extent.Extent.{Extent}
use Rattle.extents.specs.declared.target.Place.{Place}
use Rattle.extents.specs.declared.target.Record.{Record}

-- A place is written as its object, `@` and its offset.
abbrev pub place_text : Place → List ℕ
place_text p = decimal p.object ++ (codes "@" ++ decimal p.offset)

-- A record is written as its number.
abbrev pub record_text : Record → List ℕ
record_text r = decimal r.number

-- An extent is written as its first block, its length and its target, where it is known how that is written, in parentheses.
abbrev pub extent_text : {T : Type 0} → (T → Option (List ℕ)) → Extent T → Option (List ℕ)
extent_text text e = Some (codes "(" ++ (decimal e.first ++ (codes "," ++ (decimal e.length ++ codes ",")))) ++? (text e.target ++? Some (codes ")"))
