-- A word whose bytes are read one by one. Assumes nothing.
use Rattle.std.proofs.Common.{◌≡◌, ℕ, List, length, Some, sym, ap, ◌∙◌}
use Rattle.std.proofs.lemmas.Slice.Eq.{HasBytesAt, text_from_reads}
use Rattle.commands.specs.Reading.{named}

pub named_by_bytes : {V : Type 0} (spell : V → List ℕ) (vs : List V) (v : V) → named spell vs (spell v) ≡ Some v → (w : List ℕ) → length w ≡ length (spell v) → HasBytesAt w 0 (spell v) → Some v ≡ named spell vs w
named_by_bytes spell vs v known w long here = sym (ap (named spell vs) (text_from_reads w (spell v) long here) ∙ known)
