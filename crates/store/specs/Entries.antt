-- A directory's entries over an area in which their objects lie one after another.
use Rattle.std.specs.Prelude.{◌≡◌, ℕ, ◌+◌, ◌<◌, ◌≤◌, Bool, true, false, cond, not, ◌&&◌, ◌||◌, ◌⊎◌, List, [], ◌∷◌, length, take, drop, Some, None, Ok, Err, Option, Result, ◌==◌, nat_le, slice_index_or}
use Rattle.store.specs.declared.directory.Entry.{Entry}
use Rattle.store.specs.Views.{lower}
use Rattle.store.specs.declared.fault.StoreFault.{StoreFault}
use Rattle.store.specs.declared.fault.StoreFault.TheVariants.{Length, Taken, Crowded, Full, Absent, PastEnd}
use Rattle.store.specs.Calls.{lawful_length}
use Rattle.store.specs.Items.{Item}

-- The item of an entry whose bytes begin an area.
abbrev pub item : Entry → List ℕ → Item
item e a = record { object = (e.number, take e.length a); landed = e.landed }

-- The items of entries whose objects lie one after another in an area, each in the room that its length takes.
abbrev pub items : (ℕ → ℕ) → List Entry → List ℕ → List Item
items room [] a = []
items room (e ∷ es) a = item e a ∷ items room es (drop (room e.length) a)

-- A measure of the lengths, summed over the entries.
abbrev pub total : (ℕ → ℕ) → List Entry → ℕ
total f [] = 0
total f (e ∷ es) = f e.length + total f es

-- How many are pending.
abbrev pub waits : List Entry → ℕ
waits [] = 0
waits (e ∷ es) = cond e.landed 0 1 + waits es

-- Whether an entry has the number.
abbrev pub named : List Entry → ℕ → Bool
named [] n = false
named (e ∷ es) n = e.number == n || named es n

-- Whether a landed entry has the number.
abbrev pub stored : List Entry → ℕ → Bool
stored [] n = false
stored (e ∷ es) n = (e.landed && e.number == n) || stored es n

-- The number of a landed entry, if it is from n on.
abbrev pub offer : Entry → ℕ → Option ℕ
offer e n = cond (e.landed && nat_le n e.number) (Some e.number) None

-- The lowest number from n on of a landed entry.
abbrev pub lowest : List Entry → ℕ → Option ℕ
lowest [] n = None
lowest (e ∷ es) n = lower (offer e n) (lowest es n)

-- Whether every entry has a lawful number and length, and no two have one number.
abbrev pub tidy : List Entry → Bool
tidy [] = true
tidy (e ∷ es) = (nat_le 1 e.number && lawful_length e.length) && (not (named es e.number) && tidy es)

-- The entry once it has landed.
abbrev pub risen : Entry → Entry
risen e = record { number = e.number; length = e.length; landed = true }

-- The entry of no object.
abbrev pub blank : Entry
blank = record { number = 0; length = 0; landed = false }

-- Entry i is landed and has the number; or none is and has, and the object is absent.
abbrev pub Found : List Entry → ℕ → Result ℕ StoreFault → Type 0
Found es n (Err e) = (e ≡ Absent) × (stored es n ≡ false)
Found es n (Ok i) = (i < length es) × ((slice_index_or es i blank).number ≡ n) × ((slice_index_or es i blank).landed ≡ true)

-- A landed entry has the number, and its object is too short for the part.
pub record TooShort (es : List Entry) (n from count : ℕ) : Type 0 where
  pub at : ℕ
  pub found : Found es n (Ok at)
  pub short : (slice_index_or es at blank).length < from + count

-- Entry i is landed and has the number, and its object has the part; or why there is none such.
abbrev pub PartFound : List Entry → ℕ → ℕ → ℕ → Result ℕ StoreFault → Type 0
PartFound es n from count (Ok i) = Found es n (Ok i) × (from + count ≤ (slice_index_or es i blank).length)
PartFound es n from count (Err e) = Found es n (Err e) ⊎ ((e ≡ PastEnd) × TooShort es n from count)

-- Entry i is pending, and as many pending ones stand before it as the turn says of all; or none is at all.
abbrev pub IsNext : (ℕ → ℕ) → List Entry → Option ℕ → Type 0
IsNext turn es None = waits es ≡ 0
IsNext turn es (Some i) = (i < length es) × ((slice_index_or es i blank).landed ≡ false) × (waits (take i es) ≡ turn (waits es))

-- Some objects that lie one after another end there.
pub record Begins (room : ℕ → ℕ) (at : ℕ) : Type 0 where
  pub objects : List Entry
  pub ends : at ≡ total room objects

-- The refusal that a put of so many bytes is due, by the directory, the count of pending puts and whether there is room.
abbrev pub due : List Entry → ℕ → ℕ → ℕ → Bool → Option StoreFault
due es waiting n long fits =
    cond (lawful_length long)
    (cond (n == 0 || named es n) (Some Taken)
    (cond (nat_le 8 waiting) (Some Crowded)
    (cond fits None (Some Full))))
    (Some Length)

-- The entries are lawful, and the pending ones are counted and at most eight.
abbrev pub Listed : List Entry → ℕ → Type 0
Listed es waiting = (tidy es ≡ true) × (waiting ≡ waits es) × (waiting ≤ 8)
