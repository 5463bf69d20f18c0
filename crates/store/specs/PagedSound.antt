-- How a paged store lays its objects.
use Rattle.std.specs.Prelude.{◌≡◌, ℕ, ◌+◌, ◌*◌, ◌/◌, ◌<◌, ◌≤◌, Bool, true, cond, ◌&&◌, List, [], ◌∷◌, ◌++◌, length, take, drop, ◌==◌, nat_lt, refl}
use Rattle.std.proofs.Common.{◌∙◌, arith}
use Rattle.std.proofs.lemmas.Bool.{and_parts, ltb-true}
use Rattle.std.proofs.lemmas.List.{length-append, length-drop, length-take-le}
use Rattle.store.specs.declared.directory.Entry.{Entry}
use Rattle.store.specs.Entries.{total}

-- How many pages of 1,024 bytes an object takes: its weight.
abbrev pub pages : ℕ → ℕ
pages n = (n + 1023) / 1024

-- The room that an object takes: whole pages.
abbrev pub paged_room : ℕ → ℕ
paged_room n = 1024 * pages n

-- A page of an area.
abbrev pub page : List ℕ → ℕ → List ℕ
page a p = take 1024 (drop (1024 * p) a)

-- Pages of an area, one after another.
abbrev pub laid : List ℕ → List ℕ → List ℕ
laid a [] = []
laid a (p ∷ ps) = page a p ++ laid a ps

-- How often a page stands in a list.
abbrev pub copies : ℕ → List ℕ → ℕ
copies p [] = 0
copies p (q ∷ qs) = cond (p == q) 1 0 + copies p qs

-- Whether all pages are below a limit.
abbrev pub below : ℕ → List ℕ → Bool
below n [] = true
below n (p ∷ ps) = nat_lt p n && below n ps

-- No page stands twice in the order, so that no page is given twice.
abbrev pub GivenOnce : List ℕ → Type 0
GivenOnce order = (p : ℕ) → copies p order ≤ 1

-- There are 1 to 64 pages, and all are in the area.
abbrev pub PagedArea : List ℕ → ℕ → ℕ → Type 0
PagedArea order count long = (below count order ≡ true) × (1 ≤ count) × (count ≤ 64) × (long ≡ 1024 * count)

-- A page has its bytes.
pub length_page : (a : List ℕ) (p n : ℕ) → p < n → length a ≡ 1024 * n → length (page a p) ≡ 1024
length_page a p n h e = length-take-le 1024 (drop (1024 * p) a) (simp length-drop (omega arith))

-- Pages have their bytes together.
pub length_laid : (a ps : List ℕ) (n : ℕ) → below n ps ≡ true → length a ≡ 1024 * n → length (laid a ps) ≡ 1024 * length ps
length_laid a [] n b e = refl
length_laid a (p ∷ ps) n b e =
    let q = and_parts (nat_lt p n) (below n ps) b in
    let ih = length_laid a ps n q.1 e in
    let l = length_page a p n (ltb-true p n q.0) e in
    length-append (page a p) (laid a ps) ∙ omega arith

-- Objects take the room of their pages together.
pub room_total : (es : List Entry) → total paged_room es ≡ 1024 * total pages es
room_total [] = refl
room_total (e ∷ es) = let ih = room_total es in omega arith
