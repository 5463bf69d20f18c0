-- The worked examples, on the definitions. Assumes nothing.
use Rattle.std.specs.Prelude.{◌≡◌, ℕ, true, false, List, [], ◌∷◌}
use Rattle.extents.specs.declared.extent.Extent.{Extent}
use Rattle.extents.specs.declared.target.Place.{Place}
use Rattle.extents.specs.Kinds.{place, place_advanced, place_same}
use Rattle.extents.specs.Map.{extent, target_at, is_table}
use Rattle.extents.specs.Answers.{overlaid}

-- An extent of places: so many blocks from a first one on, from an offset in an object on.
abbrev pub stretch : ℕ → ℕ → ℕ → ℕ → Extent Place
stretch first length object offset = extent first length (place object offset)

-- Whatever table has the targets that inserting e into xs demands, is ys; and ys is one.
abbrev pub InsertingGives : List (Extent Place) → Extent Place → List (Extent Place) → Type 0
InsertingGives xs e ys =
    (is_table place_advanced place_same ys ≡ true)
    × ((b : ℕ) → target_at place_advanced ys b ≡ overlaid place_advanced e (target_at place_advanced xs) b)
    × ((zs : List (Extent Place)) → is_table place_advanced place_same zs ≡ true → ((b : ℕ) → target_at place_advanced zs b ≡ overlaid place_advanced e (target_at place_advanced xs) b) → zs ≡ ys)

-- Two extents, one after the other, are no table; their targets' table is the one extent.
abbrev pub Join : Extent Place → Extent Place → Extent Place → Type 0
Join e x y =
    (is_table place_advanced place_same (e ∷ (x ∷ [])) ≡ false)
    × (is_table place_advanced place_same (y ∷ []) ≡ true)
    × ((b : ℕ) → target_at place_advanced (y ∷ []) b ≡ target_at place_advanced (e ∷ (x ∷ [])) b)

-- Two extents, one after the other, are a table as they stand.
abbrev pub StayApart : Extent Place → Extent Place → Type 0
StayApart e x = is_table place_advanced place_same (e ∷ (x ∷ [])) ≡ true

-- The examples hold.
pub record Examples : Type 0 where
  -- (0,8,5@24) with (3,2,6@32) inserted gives (0,3,5@24), (3,2,6@32), (5,3,5@2584)
  pub splits : InsertingGives (stretch 0 8 5 24 ∷ []) (stretch 3 2 6 32) (stretch 0 3 5 24 ∷ (stretch 3 2 6 32 ∷ (stretch 5 3 5 2584 ∷ [])))
  -- (0,2,5@24) and (2,1,5@1048) join
  pub joins : Join (stretch 0 2 5 24) (stretch 2 1 5 1048) (stretch 0 3 5 24)
  -- (2,1,7@40) and (3,1,7@1064) do not
  pub stays_apart : StayApart (stretch 2 1 7 40) (stretch 3 1 7 1064)
