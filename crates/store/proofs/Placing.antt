-- Objects at their places by number.
use Rattle.std.proofs.Common.{◌≡◌, ℕ, ◌+◌, Bool, true, false, cond, ◌||◌, eqb, ltb, List, [], ◌∷◌, length, Some, None, Option, sym, refl, ap, ◌∙◌, arith}
use Rattle.std.proofs.lemmas.Bool.Decides.{nat_tests}
use Rattle.std.proofs.lemmas.Bool.{or_parts}
use Rattle.store.specs.Views.{Object, has, bytes_of, place, without, next_from, from_on, lower, weighed}

pub bytes_place : (x : Object) (zs : List Object) (n : ℕ) → bytes_of (place x zs) n ≡ cond (eqb x.0 n) (Some x.1) (bytes_of zs n)
bytes_place x [] n = refl
bytes_place x (z ∷ zs) n = let ih = bytes_place x zs n in grind (arith, nat_tests)

pub has_place : (x : Object) (zs : List Object) (n : ℕ) → has (place x zs) n ≡ (eqb x.0 n || has zs n)
has_place x [] n = refl
has_place x (z ∷ zs) n = let ih = has_place x zs n in grind (arith, nat_tests)

pub weighed_place : (w : ℕ → ℕ) (x : Object) (zs : List Object) → weighed w (place x zs) ≡ w (length x.1) + weighed w zs
weighed_place w x [] = refl
weighed_place w x (z ∷ zs) = let ih = weighed_place w x zs in grind (arith, nat_tests)

pub lower_assoc : (a b c : Option ℕ) → lower (lower a b) c ≡ lower a (lower b c)
lower_assoc None b c = refl
lower_assoc (Some x) None c = refl
lower_assoc (Some x) (Some y) None = refl
lower_assoc (Some x) (Some y) (Some z) = grind (arith, nat_tests)

pub lower_comm : (a b : Option ℕ) → lower a b ≡ lower b a
lower_comm None None = refl
lower_comm None (Some y) = refl
lower_comm (Some x) None = refl
lower_comm (Some x) (Some y) = grind (arith, nat_tests)

pub lower_swap : (a b c : Option ℕ) → lower a (lower b c) ≡ lower b (lower a c)
lower_swap a b c = sym (lower_assoc a b c) ∙ ap (λ z. lower z c) (lower_comm a b) ∙ lower_assoc b a c

pub next_place : (x : Object) (zs : List Object) (n : ℕ) → next_from (place x zs) n ≡ lower (from_on n x.0) (next_from zs n)
next_place x [] n = refl
next_place x (z ∷ zs) n = go (next_place x zs n) (ltb z.0 x.0)
  where
    go : next_from (place x zs) n ≡ lower (from_on n x.0) (next_from zs n) → (b : Bool) → next_from (cond b (z ∷ place x zs) (x ∷ (z ∷ zs))) n ≡ lower (from_on n x.0) (next_from (z ∷ zs) n)
    go ih true = ap (lower (from_on n z.0)) ih ∙ lower_swap (from_on n z.0) (from_on n x.0) (next_from zs n)
    go ih false = refl

pub place_comm : (x y : Object) (zs : List Object) → (x.0 ≡ y.0 → ⊥) → place x (place y zs) ≡ place y (place x zs)
place_comm x y [] ne = grind (arith, nat_tests)
place_comm x y (z ∷ zs) ne = let ih = place_comm x y zs ne in grind (arith, nat_tests)

pub without_fresh : (zs : List Object) (n : ℕ) → has zs n ≡ false → without zs n ≡ zs
without_fresh [] n f = refl
without_fresh (z ∷ zs) n f = let p = or_parts (eqb z.0 n) (has zs n) f in let ih = without_fresh zs n p.1 in grind (arith, nat_tests)

-- what was placed last is taken away again
pub without_placed : (x : Object) (zs : List Object) (n : ℕ) → x.0 ≡ n → has zs n ≡ false → without (place x zs) n ≡ zs
without_placed x [] n e f = grind (arith, nat_tests)
without_placed x (z ∷ zs) n e f = let p = or_parts (eqb z.0 n) (has zs n) f in let ih = without_placed x zs n e p.1 in let h = without_fresh zs n p.1 in grind (arith, nat_tests)
