-- What holds of building and of writing maps. Assumes nothing.
use Rattle.std.specs.Prelude.{◌≡◌, ℕ, ◌+◌, ◌*◌, ◌^◌, ◌<◌, ◌≤◌, true, List, [], ◌∷◌, ◌++◌, length, take, drop}
use borrow.Rule.Slice.PartMut.{put_mid}
use Rattle.std.specs.List.{flat_map}
use Rattle.extents.specs.declared.extent.Extent.{Extent}
use Rattle.extents.specs.declared.target.Place.{Place}
use Rattle.extents.specs.Map.{target_at}
use Rattle.extents.specs.Kinds.{place_advanced}
use Rattle.objects.specs.declared.entry.Entry.{Entry}
use Rattle.objects.specs.declared.entry.Carrier.{Carrier}
use Rattle.objects.specs.declared.states.NumberToken.{NumberToken}
use Rattle.objects.specs.declared.states.Draft.{Draft}
use Rattle.objects.specs.declared.states.Filling.{Filling}
use Rattle.objects.specs.declared.states.Numbered.{Numbered}
use Rattle.objects.specs.Layout.{Object, carrier, checkpoint, entry_bytes, header_bytes, payload_offset, total, written}
use Rattle.objects.specs.Rules.{every, disk_size, entry_fits, most_blocks, valid}
use Rattle.objects.specs.Building.{begun, entered, filling, with_block, may_enter, may_add, may_close, draft_header, closed}

-- Of two tables that are valid in a checkpoint, those that give every block the same place have the same bytes, and those with the same bytes give every block the same place.
abbrev pub OneMap : Type 0
OneMap = (blocks name number first size : ℕ) (xs ys : List (Extent Place))
    → valid blocks name (checkpoint number first size xs) ≡ true → valid blocks name (checkpoint number first size ys) ≡ true
    → (((b : ℕ) → target_at place_advanced xs b ≡ target_at place_advanced ys b) → written (checkpoint number first size xs) ≡ written (checkpoint number first size ys))
    × (written (checkpoint number first size xs) ≡ written (checkpoint number first size ys) → (b : ℕ) → target_at place_advanced xs b ≡ target_at place_advanced ys b)

-- A draft counts these entries, which keep their rules.
pub record Counts (d : Draft) (es : List Entry) : Type 0 where
  pub count : d.entries ≡ length es
  pub sum : d.tally ≡ total es
  pub few : length es ≤ 32
  pub most : total es ≤ 32
  pub fit : every (entry_fits (most_blocks d.carrier) d.blocks) es ≡ true

-- A begun object has these entries in its buffer.
pub record HasEntries (s : Numbered Draft) (buf : List ℕ) (es : List Entry) : Type 0 where
  pub counts : Counts s.stage es
  pub bytes : take (8 * length es) (drop 24 buf) ≡ flat_map entry_bytes es

-- A filled object has these entries and this payload in its buffer.
pub record HasPayload (s : Numbered Filling) (buf : List ℕ) (es : List Entry) (payload : List ℕ) : Type 0 where
  pub counts : Counts s.stage.draft es
  pub long : length payload ≡ 512 * s.stage.added
  pub bytes : take (8 * length es + 512 * s.stage.added) (drop 24 buf) ≡ flat_map entry_bytes es ++ payload

-- The object that a filled state builds of entries and payload.
abbrev pub built_object : Numbered Filling → List Entry → List ℕ → Object
built_object s es payload = carrier s.stage.draft.carrier s.token.number s.stage.draft.first es payload

-- An object has no entries when it is begun, and each that is added; no payload when the entries end, and each block that is added; and when it is closed, its bytes are those of the object, which is valid.
pub record Building : Type 0 where
  pub begins : (t : NumberToken) (c : Carrier) (first blocks : ℕ) (buf : List ℕ) → HasEntries (begun t c first blocks) buf []
  pub enters : (s : Numbered Draft) (e : Entry) (buf : List ℕ) (es : List Entry) → HasEntries s buf es → may_enter s.stage e buf ≡ true
      → HasEntries (entered s e) (put_mid (24 + 8 * s.stage.entries) 8 buf (entry_bytes e)) (es ++ e ∷ [])
  pub fills : (s : Numbered Draft) (buf : List ℕ) (es : List Entry) → HasEntries s buf es → HasPayload (filling s) buf es []
  pub adds : (s : Numbered Filling) (block buf : List ℕ) (es : List Entry) (payload : List ℕ) → HasPayload s buf es payload → may_add s.stage.draft s.stage.added block buf ≡ true
      → HasPayload (with_block s) (put_mid (payload_offset s.stage.draft.entries s.stage.added) 512 buf block) es (payload ++ block)
  pub closes : (s : Numbered Filling) (buf : List ℕ) (es : List Entry) (payload : List ℕ) → HasPayload s buf es payload → may_close s.stage.draft s.stage.added buf ≡ true
      → take (closed s).stage.length (put_mid 0 24 buf (header_bytes (draft_header s.token.number s.stage.draft))) ≡ written (built_object s es payload)
  pub stands : (s : Numbered Filling) (buf : List ℕ) (es : List Entry) (payload : List ℕ) → HasPayload s buf es payload → may_close s.stage.draft s.stage.added buf ≡ true
      → disk_size s.stage.draft.blocks ≡ true → 1 ≤ s.token.number → s.token.number < 2 ^ 32 → s.stage.draft.first < 2 ^ 64 → valid s.stage.draft.blocks s.token.number (built_object s es payload) ≡ true
