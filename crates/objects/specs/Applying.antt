-- What an object does to a map of places and to the count of records. Assumes nothing.
use Rattle.std.specs.Prelude.{◌≡◌, ℕ, ◌+◌, ◌^◌, ◌≤◌, true, List, [], ◌∷◌, length, Ok, Err, Option, Result}
use Rattle.extents.specs.declared.target.Place.{Place}
use Rattle.extents.specs.Mapped.{Mapped}
use Rattle.extents.specs.Map.{extent, target_at}
use Rattle.extents.specs.Kinds.{place, place_advanced}
use Rattle.extents.specs.Answers.{overlaid}
use Rattle.objects.specs.declared.entry.Entry.{Entry}
use Rattle.objects.specs.declared.entry.Carrier.{Carrier}
use Rattle.objects.specs.declared.entry.Carrier.TheVariants.{Data, Clean}
use Rattle.objects.specs.declared.fault.ApplyFault.{ApplyFault}
use Rattle.objects.specs.declared.fault.ApplyFault.TheVariants.{Damaged, TooManyRecords}
use Rattle.objects.specs.Layout.{Object, carrier, checkpoint, payload_offset, total, written}
use Rattle.objects.specs.Rules.{valid}
use Rattle.objects.specs.Reading.{IsDamaged}

-- The places after entries were inserted in order, each with the place of its first payload block: so many entries has the object, and so many blocks come before.
abbrev pub laid : ℕ → ℕ → ℕ → List Entry → (ℕ → Option Place) → ℕ → Option Place
laid number entries before [] old = old
laid number entries before (e ∷ es) old =
    laid number entries (before + e.count) es (overlaid place_advanced (extent e.address e.count (place number (payload_offset entries before))) old)

-- The places after an object: those of a checkpoint's table, or the old ones with the entries laid over them.
abbrev pub applied : Object → (ℕ → Option Place) → ℕ → Option Place
applied (carrier c number first es payload) old = laid number (length es) 0 es old
applied (checkpoint number first blocks table) old = target_at place_advanced table

-- The count of records after so many blocks: data adds them, and clean adds none.
abbrev pub recorded : Carrier → ℕ → ℕ → ℕ
recorded Data tally records = records + tally
recorded Clean tally records = records

-- The count of records after an object: one that carries blocks as above, and a checkpoint sets it to its first record.
abbrev pub counted : Object → ℕ → ℕ
counted (carrier c number first es payload) records = recorded c (total es) records
counted (checkpoint number first blocks table) records = first

-- The places that a map's table gives.
abbrev pub places : Mapped Place → ℕ → Option Place
places m = target_at place_advanced m.extents

-- The object of these bytes, valid under the name on the map's disk, took the map and the count of records to these.
pub record Takes (name : ℕ) (bytes : List ℕ) (records : ℕ) (m : Mapped Place) (count : ℕ) (w : Mapped Place) : Type 0 where
  pub object : Object
  pub good : valid m.blocks name object ≡ true
  pub is : written object ≡ bytes
  pub count_is : count ≡ counted object records
  pub blocks_stay : w.blocks ≡ m.blocks
  pub places_are : (b : ℕ) → places w b ≡ applied object (places m) b

-- The object of these bytes would take the count of records past 64 bits.
pub record Overflows (name : ℕ) (bytes : List ℕ) (records : ℕ) (m : Mapped Place) : Type 0 where
  pub object : Object
  pub good : valid m.blocks name object ≡ true
  pub is : written object ≡ bytes
  pub past : 2 ^ 64 ≤ counted object records

-- Why an object is not applied: the bytes are damaged, or else the count would pass its width.
abbrev pub NotApplied : ApplyFault → ℕ → List ℕ → ℕ → Mapped Place → Type 0
NotApplied Damaged name bytes records m = IsDamaged m.blocks name bytes
NotApplied TooManyRecords name bytes records m = Overflows name bytes records m

-- What applying answers and leaves: the new count with the new map, or a refusal with the map as it was.
abbrev pub Applies : ℕ → List ℕ → ℕ → Mapped Place → Result ℕ ApplyFault → Mapped Place → Type 0
Applies name bytes records m (Ok count) w = Takes name bytes records m count w
Applies name bytes records m (Err f) w = NotApplied f name bytes records m × (w ≡ m)
