-- How a refusal is told. Assumes nothing.
use Rattle.std.specs.Prelude.{ℕ, List, codes}
use Rattle.objects.specs.declared.fault.ApplyFault.{ApplyFault}
use Rattle.objects.specs.declared.fault.ApplyFault.TheVariants.{Damaged, TooManyRecords}

-- The number of each refusal to apply.
abbrev pub apply_refusal : ApplyFault → ℕ
apply_refusal Damaged = 1
apply_refusal TooManyRecords = 2

-- What each refusal to apply means.
abbrev pub fault_text : ApplyFault → List ℕ
fault_text Damaged = codes "the bytes are no such object"
fault_text TooManyRecords = codes "the count of records would pass its width"
