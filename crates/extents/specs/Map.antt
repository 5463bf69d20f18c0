-- What a list of extents means, and which lists are tables. Assumes nothing.
use Rattle.std.specs.Prelude.{◌≡◌, ℕ, ◌+◌, ◌-◌, Bool, true, cond, not, ◌&&◌, List, [], ◌∷◌, Some, None, Option, ◌==◌, nat_le, nat_lt}
use Rattle.extents.specs.declared.extent.Extent.{Extent}

-- The extent of so many blocks from a first one on, with the first one's target.
abbrev pub extent : {T : Type 0} → ℕ → ℕ → T → Extent T
extent f n t = record { first = f; length = n; target = t }

-- The block after an extent's last.
abbrev pub end : {T : Type 0} → Extent T → ℕ
end e = e.first + e.length

-- Whether an extent covers a block.
abbrev pub covers : {T : Type 0} → Extent T → ℕ → Bool
covers e b = nat_le e.first b && nat_lt b (end e)

-- The target that an extent gives a block of its own.
abbrev pub target_in : {T : Type 0} → (T → ℕ → T) → Extent T → ℕ → T
target_in advanced e b = advanced e.target (b - e.first)

-- The target that a list of extents gives a block: that of the first extent that covers it.
abbrev pub target_at : {T : Type 0} → (T → ℕ → T) → List (Extent T) → ℕ → Option T
target_at advanced [] b = None
target_at advanced (e ∷ es) b = cond (covers e b) (Some (target_in advanced e b)) (target_at advanced es b)

-- Whether x begins where e ends, with e's target advanced by e's length: such two are to be joined.
abbrev pub goes_on : {T : Type 0} → (T → ℕ → T) → (T → T → Bool) → Extent T → Extent T → Bool
goes_on advanced same e x = end e == x.first && same x.target (advanced e.target e.length)

-- Whether a list may stand after an extent: its first begins at the extent's end or later, and does not go on from it.
abbrev pub may_follow : {T : Type 0} → (T → ℕ → T) → (T → T → Bool) → Extent T → List (Extent T) → Bool
may_follow advanced same e [] = true
may_follow advanced same e (x ∷ xs) = nat_le (end e) x.first && not (goes_on advanced same e x)

-- Whether a list of extents is a table: of lengths of 1 or more, ascending, not overlapping, and joined.
abbrev pub is_table : {T : Type 0} → (T → ℕ → T) → (T → T → Bool) → List (Extent T) → Bool
is_table advanced same [] = true
is_table advanced same (e ∷ es) = nat_le 1 e.length && (may_follow advanced same e es && is_table advanced same es)

-- Whether an extent ends within so many blocks, and its last target, and so each before it, fits its width.
abbrev pub in_range : {T : Type 0} → (T → ℕ → T) → (T → Bool) → ℕ → Extent T → Bool
in_range advanced fits blocks e = nat_le (end e) blocks && fits (advanced e.target (e.length - 1))

-- Whether that is so of every extent of a list.
abbrev pub all_in_range : {T : Type 0} → (T → ℕ → T) → (T → Bool) → ℕ → List (Extent T) → Bool
all_in_range advanced fits blocks [] = true
all_in_range advanced fits blocks (e ∷ es) = in_range advanced fits blocks e && all_in_range advanced fits blocks es

-- Each map has one writing: two tables that give every block the same target are equal.
abbrev pub OneWriting : {T : Type 0} → (T → ℕ → T) → (T → T → Bool) → Type 0
OneWriting {T} advanced same = (xs ys : List (Extent T)) → is_table advanced same xs ≡ true → is_table advanced same ys ≡ true → ((b : ℕ) → target_at advanced xs b ≡ target_at advanced ys b) → xs ≡ ys
