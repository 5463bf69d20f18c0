-- What a store holds.
use Rattle.std.specs.Prelude.{ℕ, zero, suc, ◌+◌, ◌/◌, ◌%◌, Bool, false, cond, ◌||◌, List, [], ◌∷◌, length, Some, None, Option, ◌==◌, nat_le, nat_lt}

-- An object is a number and its bytes.
abbrev pub Object : Type 0
Object = ℕ × List ℕ

-- The object that is none.
abbrev pub nothing : Object
nothing = (0, [])

-- What a store means: the landed objects by ascending number, the pending puts in their order, the weight of each length, and the capacity.
pub record StoreView : Type 0 where
  pub landed : List Object
  pub pending : List Object
  pub weight : ℕ → ℕ
  pub capacity : ℕ

-- The same store with other objects landed and pending.
abbrev pub holding : StoreView → List Object → List Object → StoreView
holding v ls ps = record { landed = ls; pending = ps; weight = v.weight; capacity = v.capacity }

-- Whether some object has the number.
abbrev pub has : List Object → ℕ → Bool
has [] n = false
has (x ∷ xs) n = x.0 == n || has xs n

-- The bytes under a number, if any.
abbrev pub bytes_of : List Object → ℕ → Option (List ℕ)
bytes_of [] n = None
bytes_of (x ∷ xs) n = cond (x.0 == n) (Some x.1) (bytes_of xs n)

-- One object more, at its place by number.
abbrev pub place : Object → List Object → List Object
place x [] = x ∷ []
place x (y ∷ ys) = cond (nat_lt y.0 x.0) (y ∷ place x ys) (x ∷ (y ∷ ys))

-- Several objects more, each at its place.
abbrev pub place_all : List Object → List Object → List Object
place_all [] ys = ys
place_all (x ∷ xs) ys = place_all xs (place x ys)

-- All but what has the number.
abbrev pub without : List Object → ℕ → List Object
without [] n = []
without (x ∷ xs) n = cond (x.0 == n) (without xs n) (x ∷ without xs n)

-- The lower of two numbers, where there are two.
abbrev pub lower : Option ℕ → Option ℕ → Option ℕ
lower None o = o
lower (Some x) None = Some x
lower (Some x) (Some y) = Some (cond (nat_le x y) x y)

-- A number, if it is from n on.
abbrev pub from_on : ℕ → ℕ → Option ℕ
from_on n x = cond (nat_le n x) (Some x) None

-- The lowest number from n on.
abbrev pub next_from : List Object → ℕ → Option ℕ
next_from [] n = None
next_from (x ∷ xs) n = lower (from_on n x.0) (next_from xs n)

-- What objects weigh together.
abbrev pub weighed : (ℕ → ℕ) → List Object → ℕ
weighed w [] = 0
weighed w (x ∷ xs) = w (length x.1) + weighed w xs

-- What a store carries: the weights of all that is landed or pending.
abbrev pub load : StoreView → ℕ
load v = weighed v.weight v.landed + weighed v.weight v.pending

-- Whether a number can be given to no new object.
abbrev pub taken : StoreView → ℕ → Bool
taken v n = n == 0 || (has v.landed n || has v.pending n)

-- Those whose choice is true.
abbrev pub chosen : List Bool → List Object → List Object
chosen [] xs = []
chosen (c ∷ cs) [] = []
chosen (c ∷ cs) (x ∷ xs) = cond c (x ∷ chosen cs xs) (chosen cs xs)

-- The lowest n binary digits of a number, the lowest first: true for 1.
abbrev pub bits : ℕ → ℕ → List Bool
bits s zero = []
bits s (suc n) = (s % 2 == 1) ∷ bits (s / 2) n
