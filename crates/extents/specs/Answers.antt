-- What a call does to a map, by its answer. Assumes nothing.
use Rattle.std.specs.Prelude.{◌≡◌, ℕ, ◌<◌, Bool, true, cond, [], ◌∷◌, ◌++◌, Some, None, Ok, Err, Option, Result}
use Rattle.extents.specs.declared.fault.MapFault.{MapFault}
use Rattle.extents.specs.declared.extent.Extent.{Extent}
use Rattle.extents.specs.Map.{covers, target_in, target_at, is_table}
use Rattle.extents.specs.Order.{unless_below}
use Rattle.extents.specs.Faults.{extent_refusal, append_refusal}
use Rattle.extents.specs.Mapped.{Mapped}

-- A new map of so many blocks, of which none has a target.
abbrev pub Made : {T : Type 0} → ℕ → Mapped T → Type 0
Made blocks m = (0 < blocks) × (m.blocks ≡ blocks) × (m.extents ≡ [])

-- What each block's target is after an insertion of e: e's own in e, and elsewhere what it was.
abbrev pub overlaid : {T : Type 0} → (T → ℕ → T) → Extent T → (ℕ → Option T) → ℕ → Option T
overlaid advanced e old b = cond (covers e b) (Some (target_in advanced e b)) (old b)

-- An insertion of e overlays the targets and keeps the range, or is refused and changes nothing.
abbrev pub Inserted : {T : Type 0} → (T → ℕ → T) → (T → T → Bool) → (T → Bool) → Extent T → Mapped T → Result (Unit {0}) MapFault → Mapped T → Type 0
Inserted advanced same fits e m (Ok _) w =
    (extent_refusal advanced fits m.blocks e ≡ None) × (w.blocks ≡ m.blocks) × (is_table advanced same w.extents ≡ true)
    × ((b : ℕ) → target_at advanced w.extents b ≡ overlaid advanced e (target_at advanced m.extents) b)
Inserted advanced same fits e m (Err f) w = (extent_refusal advanced fits m.blocks e ≡ Some f) × (w ≡ m)

-- An appending of e puts it at the table's end and keeps the range, or is refused and changes nothing.
abbrev pub Appended : {T : Type 0} → (T → ℕ → T) → (T → T → Bool) → (T → Bool) → Extent T → Mapped T → Result (Unit {0}) MapFault → Mapped T → Type 0
Appended advanced same fits e m (Ok _) w = (append_refusal advanced same fits m.blocks m.extents e ≡ None) × (w.blocks ≡ m.blocks) × (w.extents ≡ m.extents ++ e ∷ [])
Appended advanced same fits e m (Err f) w = (append_refusal advanced same fits m.blocks m.extents e ≡ Some f) × (w ≡ m)

-- A drop takes their target from exactly the blocks whose target is below the limit, and keeps the range.
abbrev pub Dropped : {T : Type 0} → (T → ℕ → T) → (T → T → Bool) → (T → T → Bool) → T → Mapped T → Mapped T → Type 0
Dropped advanced same below limit m w =
    (w.blocks ≡ m.blocks) × (is_table advanced same w.extents ≡ true)
    × ((b : ℕ) → target_at advanced w.extents b ≡ unless_below below limit (target_at advanced m.extents b))
