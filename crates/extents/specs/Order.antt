-- Targets that have an order. Assumes nothing.
use Rattle.std.specs.Prelude.{ℕ, ◌-◌, Bool, cond, Some, None, Option, nat_lt}
use Rattle.extents.specs.declared.target.Record.{Record}

-- A record is below another by its number.
abbrev pub record_below : Record → Record → Bool
record_below r s = nat_lt r.number s.number

-- How many records, from r on, are below s.
abbrev pub record_short : Record → Record → ℕ
record_short r s = s.number - r.number

-- A block's target, unless it is below the limit.
abbrev pub unless_below : {T : Type 0} → (T → T → Bool) → T → Option T → Option T
unless_below below limit None = None
unless_below below limit (Some t) = cond (below t limit) None (Some t)
