-- What reading answers. Assumes nothing.
use Rattle.std.specs.Prelude.{◌≡◌, ℕ, true, List, Ok, Err, Result, ◌≢◌}
use Rattle.objects.specs.declared.header.Header.{Header}
use Rattle.objects.specs.declared.damaged.Damaged.{Damaged}
use Rattle.objects.specs.Layout.{Object, header_of, written}
use Rattle.objects.specs.Rules.{valid}

-- Some object that is valid under the name on a disk of so many blocks has these bytes, and this header.
pub record Undamaged (blocks name : ℕ) (bytes : List ℕ) (header : Header) : Type 0 where
  pub object : Object
  pub good : valid blocks name object ≡ true
  pub is : written object ≡ bytes
  pub says : header_of object ≡ header

-- No object that is valid under the name on a disk of so many blocks has these bytes.
abbrev pub IsDamaged : ℕ → ℕ → List ℕ → Type 0
IsDamaged blocks name bytes = (o : Object) → valid blocks name o ≡ true → written o ≢ bytes

-- Reading answers the header of the object, or that the bytes are damaged.
abbrev pub Read : ℕ → ℕ → List ℕ → Result Header Damaged → Type 0
Read blocks name bytes (Ok header) = Undamaged blocks name bytes header
Read blocks name bytes (Err _) = IsDamaged blocks name bytes

-- No checkpoint that is valid under the name, on a disk of any size, has these bytes.
abbrev pub NoCheckpoint : ℕ → List ℕ → Type 0
NoCheckpoint name bytes = (blocks : ℕ) (o : Object) → valid blocks name o ≡ true → (header_of o).kind ≡ 3 → written o ≢ bytes

-- Reading a checkpoint on a disk of unknown size answers its header, which has the size, or that the bytes are no such checkpoint.
abbrev pub ReadCheckpoint : ℕ → List ℕ → Result Header Damaged → Type 0
ReadCheckpoint name bytes (Ok header) = (header.kind ≡ 3) × Undamaged header.tally name bytes header
ReadCheckpoint name bytes (Err _) = NoCheckpoint name bytes
