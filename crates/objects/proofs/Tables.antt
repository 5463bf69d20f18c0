-- The check of a table, extent by extent. Assumes nothing.
use Rattle.std.proofs.Common.{◌≡◌, ℕ, true, false, eqb, leb, List, [], ◌∷◌, refl, arith}
use Rattle.std.proofs.lemmas.Bool.{and_parts, and_from, and_left, and_right, leb-true, le-leb, ne_eqb, not_from_false}
use Rattle.extents.specs.declared.extent.Extent.{Extent}
use Rattle.extents.specs.declared.target.Place.{Place}
use Rattle.extents.specs.Map.{end, may_follow, is_table}
use Rattle.extents.specs.Kinds.{place_advanced, place_same}
use Rattle.objects.specs.Rules.{every, extent_fits}
use Rattle.objects.specs.Seen.{no_extent, follows, chained}

-- a chain is a table, of extents that fit
pub table_from_chain : (number blocks : ℕ) (last : Extent Place) (xs : List (Extent Place)) → chained number blocks last xs ≡ true
    → (may_follow place_advanced place_same last xs ≡ true) × (is_table place_advanced place_same xs ≡ true) × (every (extent_fits number blocks) xs ≡ true)
table_from_chain number blocks last [] h = (refl, refl, refl)
table_from_chain number blocks last (x ∷ xs) h =
    let p = and_parts (follows number blocks last x) _ h in
    let q = and_parts (extent_fits number blocks x) _ p.0 in
    let r = and_parts (leb 1 x.length) _ q.1 in
    let more = table_from_chain number blocks x xs p.1 in
    (r.1, and_from _ _ r.0 (and_from _ _ more.0 more.1), and_from _ _ q.0 more.2)

-- a table of extents that fit is a chain
pub chain_from_table : (number blocks : ℕ) (last : Extent Place) (xs : List (Extent Place)) → may_follow place_advanced place_same last xs ≡ true → is_table place_advanced place_same xs ≡ true → every (extent_fits number blocks) xs ≡ true → chained number blocks last xs ≡ true
chain_from_table number blocks last [] f t e = refl
chain_from_table number blocks last (x ∷ xs) f t e =
    let p = and_parts (leb 1 x.length) _ t in
    let q = and_parts (may_follow place_advanced place_same x xs) _ p.1 in
    let r = and_parts (extent_fits number blocks x) _ e in
    and_from _ _ (and_from _ _ r.0 (and_from _ _ p.0 f)) (chain_from_table number blocks x xs q.0 q.1 r.1)

-- any table of extents that fit may begin
pub may_begin : (number blocks : ℕ) (xs : List (Extent Place)) → every (extent_fits number blocks) xs ≡ true → may_follow place_advanced place_same no_extent xs ≡ true
may_begin number blocks [] e = refl
may_begin number blocks (x ∷ xs) e =
    let fits = and_parts (extent_fits number blocks x) _ e in
    let p = and_parts (leb (end x) blocks) _ fits.0 in
    let q = and_parts (leb 1 x.target.object) _ p.1 in
    let low = leb-true 1 x.target.object q.0 in
    let other : eqb x.target.object 0 ≡ false = ne_eqb x.target.object 0 (λ z. omega arith) in
    and_from (leb 0 x.first) _ (le-leb 0 x.first (omega arith))
    (not_from_false _ (and_right (eqb 0 x.first) _ (and_left (eqb x.target.object 0) _ other)))
