-- What a map is to its callers, and what holds of each map. Assumes nothing.
use Rattle.std.specs.Prelude.{◌≡◌, ℕ, ◌+◌, ◌^◌, ◌<◌, ◌≤◌, Bool, true, List}
use Rattle.extents.specs.declared.extent.Extent.{Extent}
use Rattle.extents.specs.Map.{is_table, all_in_range}

-- How many blocks a map is for, its extents in their order, and how many of them there is room for.
pub record Mapped (T : Type 0) : Type 0 where
  pub blocks : ℕ
  pub extents : List (Extent T)
  pub room : ℕ

-- The extents are a table, lie within the blocks and fit their width, the blocks fit 32 bits, and there is room to insert another.
pub record Sound {T : Type 0} (advanced : T → ℕ → T) (same : T → T → Bool) (fits : T → Bool) (blocks : ℕ) (extents : List (Extent T)) (capacity : ℕ) : Type 0 where
  pub table : is_table advanced same extents ≡ true
  pub range : all_in_range advanced fits blocks extents ≡ true
  pub width : blocks < 2 ^ 32
  pub room : blocks + 2 ≤ capacity
