-- Which extents a map refuses, and how each refusal is told. Assumes nothing.
use Rattle.std.specs.Prelude.{ℕ, ◌-◌, Bool, cond, List, [], ◌∷◌, ◌++◌, Some, None, codes, Option, ◌==◌, nat_lt}
use Rattle.extents.specs.declared.fault.MapFault.{MapFault}
use Rattle.extents.specs.declared.fault.MapFault.TheVariants.{NoBlocks, NoMemory, Empty, OutOfRange, TooWide, Disorder}
use Rattle.extents.specs.declared.extent.Extent.{Extent}
use Rattle.extents.specs.Map.{end, is_table}

-- The number of each refusal.
abbrev pub fault_number : MapFault → ℕ
fault_number NoBlocks = 1
fault_number NoMemory = 2
fault_number Empty = 3
fault_number OutOfRange = 4
fault_number TooWide = 5
fault_number Disorder = 6

-- What each refusal means.
abbrev pub fault_text : MapFault → List ℕ
fault_text NoBlocks = codes "the map has no block"
fault_text NoMemory = codes "memory is short"
fault_text Empty = codes "the length is 0"
fault_text OutOfRange = codes "it passes the last block"
fault_text TooWide = codes "its last target does not fit"
fault_text Disorder = codes "the table would be no table"

-- Why no map of so many blocks is made: it would have no block, or else memory is short.
abbrev pub room_refusal : ℕ → MapFault
room_refusal blocks = cond (blocks == 0) NoBlocks NoMemory

-- Why a map of so many blocks does not take an extent, if it does not: it is empty, it passes the last block, or its last target does not fit.
abbrev pub extent_refusal : {T : Type 0} → (T → ℕ → T) → (T → Bool) → ℕ → Extent T → Option MapFault
extent_refusal advanced fits blocks e =
    cond (e.length == 0) (Some Empty)
    (cond (nat_lt blocks (end e)) (Some OutOfRange)
    (cond (fits (advanced e.target (e.length - 1))) None (Some TooWide)))

-- The first of two reasons that there is.
abbrev pub first_of : Option MapFault → Option MapFault → Option MapFault
first_of (Some f) o = Some f
first_of None o = o

-- Why it does not take one at the table's end: the same, or else the longer list is no table.
abbrev pub append_refusal : {T : Type 0} → (T → ℕ → T) → (T → T → Bool) → (T → Bool) → ℕ → List (Extent T) → Extent T → Option MapFault
append_refusal advanced same fits blocks xs e =
    first_of (extent_refusal advanced fits blocks e) (cond (is_table advanced same (xs ++ e ∷ [])) None (Some Disorder))
