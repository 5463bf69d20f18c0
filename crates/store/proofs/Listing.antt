-- What items mean, in parts.
use Rattle.std.proofs.Common.{◌≡◌, ℕ, ◌+◌, Bool, false, cond, ◌||◌, eqb, List, [], ◌∷◌, ◌++◌, length, refl, ap, ◌∙◌, arith}
use Rattle.std.proofs.lemmas.Bool.Decides.{nat_tests}
use Rattle.std.proofs.lemmas.Bool.{or_parts, eqb-false, cond-false}
use Rattle.store.specs.Views.{has, place, weighed}
use Rattle.store.specs.Items.{Item, landed_of, pending_of}
use Rattle.store.proofs.Placing.{has_place, weighed_place, place_comm}

-- whether an item has the number
abbrev pub numbered : List Item → ℕ → Bool
numbered [] n = false
numbered (x ∷ xs) n = eqb x.object.0 n || numbered xs n

-- what items weigh together
abbrev pub weighs : (ℕ → ℕ) → List Item → ℕ
weighs w [] = 0
weighs w (x ∷ xs) = w (length x.object.1) + weighs w xs

-- the landed ones around an item
pub landed_split : (pre : List Item) (x : Item) (post : List Item) → numbered pre x.object.0 ≡ false
    → landed_of (pre ++ x ∷ post) ≡ cond x.landed (place x.object (landed_of (pre ++ post))) (landed_of (pre ++ post))
landed_split [] x post f = refl
landed_split (y ∷ pre) x post f =
    let p = or_parts (eqb y.object.0 x.object.0) (numbered pre x.object.0) f in
    let ih = landed_split pre x post p.1 in
    let k = place_comm y.object x.object (landed_of (pre ++ post)) (eqb-false y.object.0 x.object.0 p.0) in
    grind (arith, nat_tests)

-- an item that is pending adds nothing to them
pub landed_skip : (pre : List Item) (x : Item) (post : List Item) → x.landed ≡ false → landed_of (pre ++ x ∷ post) ≡ landed_of (pre ++ post)
landed_skip [] x post f = cond-false x.landed (place x.object (landed_of post)) (landed_of post) f
landed_skip (y ∷ pre) x post f = ap (λ z. cond y.landed (place y.object z) z) (landed_skip pre x post f)

pub pending_append : (xs ys : List Item) → pending_of (xs ++ ys) ≡ pending_of xs ++ pending_of ys
pending_append [] ys = refl
pending_append (x ∷ xs) ys = let ih = pending_append xs ys in grind (arith, nat_tests)

pub has_numbered : (xs : List Item) (n : ℕ) → (has (landed_of xs) n || has (pending_of xs) n) ≡ numbered xs n
has_numbered [] n = refl
has_numbered (x ∷ xs) n = let ih = has_numbered xs n in let p = has_place x.object (landed_of xs) n in grind (arith, nat_tests)

pub landed_fresh : (xs : List Item) (n : ℕ) → numbered xs n ≡ false → has (landed_of xs) n ≡ false
landed_fresh xs n f = (or_parts (has (landed_of xs) n) (has (pending_of xs) n) (has_numbered xs n ∙ f)).0

pub weighed_all : (w : ℕ → ℕ) (xs : List Item) → weighed w (landed_of xs) + weighed w (pending_of xs) ≡ weighs w xs
weighed_all w [] = refl
weighed_all w (x ∷ xs) = let ih = weighed_all w xs in let p = weighed_place w x.object (landed_of xs) in grind (arith, nat_tests)

pub numbered_append : (xs ys : List Item) (n : ℕ) → numbered (xs ++ ys) n ≡ (numbered xs n || numbered ys n)
numbered_append [] ys n = refl
numbered_append (x ∷ xs) ys n = let ih = numbered_append xs ys n in grind (arith, nat_tests)
