-- The words of the inner functions: where a block is met, joins, what lies left and right of a block. Assumes nothing.
use Rattle.std.specs.Prelude.{ℕ, suc, ◌+◌, ◌-◌, ◌^◌, ◌<◌, Bool, cond, List, [], ◌∷◌, ◌++◌, Some, None, Option, nat_le, nat_lt}
use Rattle.extents.specs.declared.extent.Extent.{Extent}
use Rattle.extents.specs.Map.{extent, end, goes_on}

-- How many extents, from the first on, end before x.
abbrev pub reach : {T : Type 0} → ℕ → List (Extent T) → ℕ
reach x [] = 0
reach x (e ∷ es) = cond (nat_lt (end e) x) (suc (reach x es)) 0

-- An extent and a list after it, whose first is joined to it where it goes on from it.
abbrev pub joined : {T : Type 0} → (T → ℕ → T) → (T → T → Bool) → Extent T → List (Extent T) → List (Extent T)
joined advanced same e [] = e ∷ []
joined advanced same e (x ∷ xs) = cond (goes_on advanced same e x) (extent e.first (e.length + x.length) e.target ∷ xs) (e ∷ (x ∷ xs))

-- An extent without its first k blocks.
abbrev pub without : {T : Type 0} → (T → ℕ → T) → ℕ → Extent T → Extent T
without advanced k e = extent (e.first + k) (e.length - k) (advanced e.target k)

-- What an extent has before the block a, if it begins before it.
abbrev pub left_of : {T : Type 0} → ℕ → Extent T → Option (Extent T)
left_of a e = cond (nat_lt e.first a) (Some (extent e.first (a - e.first) e.target)) None

-- What an extent that ends past c has from the block c on, if it begins by c.
abbrev pub right_of : {T : Type 0} → (T → ℕ → T) → ℕ → Extent T → Option (Extent T)
right_of advanced c e = cond (nat_le e.first c) (Some (without advanced (c - e.first) e)) None

-- What is asked of a list's first, if it has one.
abbrev pub at_head : {X Y : Type 0} → (X → Option Y) → List X → Option Y
at_head f [] = None
at_head f (x ∷ xs) = f x

-- An extent after another, if there is one, joined to that where it goes on from it.
abbrev pub joined_onto : {T : Type 0} → (T → ℕ → T) → (T → T → Bool) → Option (Extent T) → Extent T → List (Extent T)
joined_onto advanced same None e = e ∷ []
joined_onto advanced same (Some l) e = joined advanced same l (e ∷ [])

-- What an option holds, as a list.
abbrev pub listed : {X : Type 0} → Option X → List X
listed None = []
listed (Some x) = x ∷ []

-- What an extent has from a limit on, if anything: `short` tells how many blocks from a target on are below the limit.
abbrev pub kept_of : {T : Type 0} → (T → ℕ → T) → (T → ℕ) → Extent T → Option (Extent T)
kept_of advanced short e = cond (nat_lt (short e.target) e.length) (Some (without advanced (short e.target) e)) None

-- A table without what is below the limit.
abbrev pub sieved : {T : Type 0} → (T → ℕ → T) → (T → ℕ) → List (Extent T) → List (Extent T)
sieved advanced short [] = []
sieved advanced short (e ∷ es) = listed (kept_of advanced short e) ++ sieved advanced short es

-- What an option holds, if anything, ends by the last block number of 32 bits.
abbrev pub EndsInWidth : {T : Type 0} → Option (Extent T) → Type 0
EndsInWidth None = Unit {0}
EndsInWidth (Some e) = end e < 2 ^ 32
