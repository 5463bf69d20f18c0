-- What a command does to the two maps. Assumes nothing.
use Rattle.std.specs.Prelude.{◌≡◌, ℕ, is_some, count_by, Ok, Err, Option, Result}
use Rattle.std.specs.List.{range_with_len}
use Rattle.extents.specs.declared.fault.MapFault.{MapFault}
use Rattle.extents.specs.Kinds.{place_advanced, place_same, place_fits, record_advanced, record_same, record_fits}
use Rattle.extents.specs.Order.{record_below}
use Rattle.extents.specs.Map.{target_at}
use Rattle.extents.specs.Answers.{Inserted as InsertedInto, Dropped as DroppedFrom}
use Rattle.maptrace.specs.declared.command.Command.{Command}
use Rattle.maptrace.specs.declared.command.Command.TheVariants.{Insert, Record, Drop, Lookup}
use Rattle.maptrace.specs.declared.trace.Outcome.{Outcome}
use Rattle.maptrace.specs.declared.trace.Outcome.TheVariants.{Inserted, Recorded, Dropped, Found}
use Rattle.maptrace.specs.declared.trace.Trace.{Trace}

-- A call of a map was granted, and its outcome is told, or it was refused, and so is the command.
abbrev pub Told : (Result (Unit {0}) MapFault → Type 0) → Outcome → Result Outcome MapFault → Type 0
Told P done (Ok out) = (out ≡ done) × P (Ok tt)
Told P done (Err f) = P (Err f)

-- An insertion changes the place map alone, a run of records and a drop the record map alone, and a look-up neither.
abbrev pub Traced : Command → Trace → Result Outcome MapFault → Trace → Type 0
Traced (Insert e) v out w = Told (λ r. InsertedInto place_advanced place_same place_fits e v.places r w.places) (Inserted e) out × (w.records ≡ v.records)
Traced (Record e) v out w = Told (λ r. InsertedInto record_advanced record_same record_fits e v.records r w.records) (Recorded e) out × (w.places ≡ v.places)
Traced (Drop k) v out w = (out ≡ Ok (Dropped k)) × DroppedFrom record_advanced record_same record_below k v.records w.records × (w.places ≡ v.places)
Traced (Lookup b) v out w = (out ≡ Ok (Found b (target_at place_advanced v.places.extents b) (target_at record_advanced v.records.extents b))) × (w ≡ v)

-- How many of the first blocks have a target.
abbrev pub mapped_below : {T : Type 0} → (ℕ → Option T) → ℕ → ℕ
mapped_below f blocks = count_by (λ b. is_some (f b)) (range_with_len 0 blocks)
