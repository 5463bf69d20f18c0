-- How lines are written: numbers, words, lists of bytes, and texts one space apart. Assumes nothing.
use Rattle.std.specs.Prelude.{◌≡◌, ℕ, ◌^◌, ◌<◌, Bool, true, false, ◌&&◌, List, [], ◌∷◌, ◌++◌, map, length, decimal, nat_le, nat_lt, slice_index}
use Rattle.commands.specs.Numbers.{digit}

-- The texts, each after one space, and then the end.
abbrev pub spaced : List (List ℕ) → List ℕ → List ℕ
spaced [] end = end
spaced (t ∷ ts) end = 32 ∷ (t ++ spaced ts end)

-- Numbers in decimal, one space between, and then the end.
abbrev pub listed : List ℕ → List ℕ → List ℕ
listed [] end = end
listed (b ∷ bs) end = decimal b ++ spaced (map decimal bs) end

-- Whether each number is a byte.
abbrev pub bytes_only : List ℕ → Bool
bytes_only [] = true
bytes_only (b ∷ bs) = nat_lt b 256 && bytes_only bs

-- The byte is a small letter.
abbrev pub letter : ℕ → Bool
letter b = nat_le 97 b && nat_le b 122

-- Whether each byte is a small letter.
abbrev pub letters : List ℕ → Bool
letters [] = true
letters (b ∷ bs) = letter b && letters bs

-- A part of a line: a bracket, the space between two items, or an item.
pub data Part : Type 0 where
  opening : Part
  closing : Part
  gap : Part
  word : List ℕ → Part
  number : ℕ → Part
  bytes : List ℕ → Part

-- How a part is written.
abbrev pub spelt : Part → List ℕ
spelt opening = 40 ∷ []
spelt closing = 41 ∷ []
spelt gap = 32 ∷ []
spelt (word w) = w
spelt (number n) = decimal n
spelt (bytes bs) = 40 ∷ listed bs (41 ∷ [])

-- A word has letters, and at least one; a number has 32 bits; a list has bytes.
abbrev pub Fit : Part → Type 0
Fit (word w) = (0 < length w) × (letters w ≡ true)
Fit (number n) = n < 2 ^ 32
Fit (bytes bs) = bytes_only bs ≡ true
Fit p = Unit {0}

-- A part ends where it cannot go on: no letter follows a word, and no digit a number. A bracket that opens a call has a letter after it, for else it opens a list.
abbrev pub Ends : Part → List ℕ → Type 0
Ends opening r = letter (slice_index r 0) ≡ true
Ends (word w) r = letter (slice_index r 0) ≡ false
Ends (number n) r = digit (slice_index r 0) ≡ false
Ends p r = Unit {0}

-- The line begins with the part p, and rest follows.
pub record Begins (line : List ℕ) (p : Part) (rest : List ℕ) : Type 0 where
  pub is : line ≡ spelt p ++ rest
  pub fit : Fit p
  pub ends : Ends p rest
