-- What the scan asks of the slots that it reads.
use Rattle.std.specs.Prelude.{◌≡◌, ℕ, ◌+◌, ◌≤◌}
use Rattle.journal.specs.Writes.{most_blocks}
use Rattle.journal.specs.declared.record.Head.{Head}

-- The head begins a write at record w that fits the volume and the records that are left to take.
pub record Begins (h : Head) (w blocks left : ℕ) : Type 0 where
  pub number : h.number ≡ w
  pub index : h.index ≡ 0
  pub some : 1 ≤ h.count
  pub few : h.count ≤ most_blocks
  pub inside : h.address + h.count ≤ blocks
  pub fits : h.count ≤ left
