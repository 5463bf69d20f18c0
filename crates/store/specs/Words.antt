-- Refusals in words.
use Rattle.std.specs.Prelude.{ℕ, List, codes}
use Rattle.store.specs.declared.fault.StoreFault.{StoreFault}
use Rattle.store.specs.declared.fault.StoreFault.TheVariants.{Length, Taken, Crowded, Full, Absent, PastEnd}
use Rattle.store.specs.declared.fault.MakeFault.{MakeFault}
use Rattle.store.specs.declared.fault.MakeFault.TheVariants.{Range, Memory}

-- What a refusal of a call prints.
abbrev pub fault_words : StoreFault → List ℕ
fault_words Length = codes "wrong length"
fault_words Taken = codes "number taken"
fault_words Crowded = codes "too many pending"
fault_words Full = codes "store full"
fault_words Absent = codes "no such object"
fault_words PastEnd = codes "past the end"

-- What a refusal to make a store prints.
abbrev pub make_words : MakeFault → List ℕ
make_words Range = codes "out of range"
make_words Memory = codes "no memory"
