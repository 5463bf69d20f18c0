-- A directory's items in put order, and what they mean.
use Rattle.std.specs.Prelude.{ℕ, Bool, cond, List, [], ◌∷◌}
use Rattle.store.specs.Views.{Object, StoreView, place}

-- An object with whether it has landed.
pub record Item : Type 0 where
  pub object : Object
  pub landed : Bool

-- The landed ones, by number.
abbrev pub landed_of : List Item → List Object
landed_of [] = []
landed_of (x ∷ xs) = cond x.landed (place x.object (landed_of xs)) (landed_of xs)

-- The others, in their order.
abbrev pub pending_of : List Item → List Object
pending_of [] = []
pending_of (x ∷ xs) = cond x.landed (pending_of xs) (x.object ∷ pending_of xs)

-- What items mean under a weight and a capacity.
abbrev pub view : (ℕ → ℕ) → ℕ → List Item → StoreView
view w c xs = record { landed = landed_of xs; pending = pending_of xs; weight = w; capacity = c }
