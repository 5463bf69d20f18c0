-- A table that is set, extent by extent. Assumes nothing.
use Rattle.std.proofs.Common.{◌≡◌, ℕ, zero, suc, ◌+◌, ◌<◌, true, false, eqb, ltb, leb, List, [], ◌∷◌, ◌++◌, length, get_or, take, drop, None, Ok, Err, Result, sym, refl, ap, ◌∙◌, arith}
use Rattle.std.proofs.lemmas.Bool.{and_parts, and_from, leb-true, ne_eqb, le-ltb}
use Rattle.std.proofs.lemmas.List.{take_more}
use Rattle.extents.specs.declared.extent.Extent.{Extent}
use Rattle.extents.specs.declared.fault.MapFault.{MapFault}
use Rattle.extents.specs.declared.target.Place.{Place}
use Rattle.extents.specs.Mapped.{Mapped}
use Rattle.extents.specs.Map.{end, may_follow, is_table, in_range, all_in_range}
use Rattle.extents.specs.Kinds.{place_advanced, place_same, place_fits}
use Rattle.extents.specs.Faults.{append_refusal}
use Rattle.extents.specs.Answers.{Appended}
use Rattle.objects.proofs.Loops.{left_more}

-- the front of a table is a table
table_front : (n : ℕ) (xs : List (Extent Place)) → is_table place_advanced place_same xs ≡ true → is_table place_advanced place_same (take n xs) ≡ true
table_front zero xs t = refl
table_front (suc n) [] t = refl
table_front (suc n) (e ∷ es) t =
    let p = and_parts (leb 1 e.length) _ t in
    let q = and_parts (may_follow place_advanced place_same e es) _ p.1 in
    and_from _ _ p.0 (and_from _ _ (follow_front n e es q.0) (table_front n es q.1))
  where
    follow_front : (n : ℕ) (e : Extent Place) (es : List (Extent Place)) → may_follow place_advanced place_same e es ≡ true → may_follow place_advanced place_same e (take n es) ≡ true
    follow_front zero e es f = refl
    follow_front (suc n) e [] f = refl
    follow_front (suc n) e (x ∷ xs) f = f

-- an appending that is not to be refused is made
append_goes : (x : Extent Place) (m w : Mapped Place) (r : Result (Unit {0}) MapFault) → append_refusal place_advanced place_same place_fits m.blocks m.extents x ≡ None → Appended place_advanced place_same place_fits x m r w
    → (w.blocks ≡ m.blocks) × (w.extents ≡ m.extents ++ x ∷ [])
append_goes x m w (Ok u) none h = (h.1, h.2)
append_goes x m w (Err f) none h = let refused = sym h.0 ∙ none in cc

-- an extent that keeps the rules is not refused
extent_goes : (x : Extent Place) (blocks : ℕ) (before : List (Extent Place)) → leb 1 x.length ≡ true → in_range place_advanced place_fits blocks x ≡ true → is_table place_advanced place_same (before ++ x ∷ []) ≡ true
    → append_refusal place_advanced place_same place_fits blocks before x ≡ None
extent_goes x blocks before some range table =
    let low = leb-true 1 x.length some in
    let p = and_parts (leb (end x) blocks) _ range in
    let a : eqb x.length 0 ≡ false = ne_eqb x.length 0 (λ z. omega arith) in
    let b : ltb blocks (end x) ≡ false = le-ltb blocks (end x) (leb-true (end x) blocks p.0) in
    let c = p.1 in
    simp (a, b, c, table)

-- what was set so far: the front of the table, and what is left keeps the rules
pub record Sets (xs : List (Extent Place)) (i blocks : ℕ) (m : Mapped Place) : Type 0 where
  pub front : m.extents ≡ take i xs
  pub blocks_stay : m.blocks ≡ blocks
  pub rest : is_table place_advanced place_same (drop i xs) ≡ true
  pub range : all_in_range place_advanced place_fits blocks (drop i xs) ≡ true

pub set_none : (xs : List (Extent Place)) (m : Mapped Place) (blocks : ℕ) → m.extents ≡ [] → m.blocks ≡ blocks → is_table place_advanced place_same xs ≡ true → all_in_range place_advanced place_fits blocks xs ≡ true → Sets xs 0 blocks m
set_none xs m blocks empty same table range = record { front = empty; blocks_stay = same; rest = table; range = range }

pub set_more : (xs : List (Extent Place)) (i : ℕ) (x : Extent Place) (blocks : ℕ) (m w : Mapped Place) (r : Result (Unit {0}) MapFault) → i < length xs → get_or xs i x ≡ x
    → is_table place_advanced place_same xs ≡ true → Sets xs i blocks m → Appended place_advanced place_same place_fits x m r w → Sets xs (i + 1) blocks w
set_more xs i x blocks m w r h is table s done =
    let t = and_parts (leb 1 x.length) _ (sym (left_more (is_table place_advanced place_same) xs i x h is) ∙ s.rest) in
    let u = and_parts (may_follow place_advanced place_same x (drop (i + 1) xs)) _ t.1 in
    let v = and_parts (in_range place_advanced place_fits blocks x) _ (sym (left_more (all_in_range place_advanced place_fits blocks) xs i x h is) ∙ s.range) in
    let more : take (i + 1) xs ≡ take i xs ++ x ∷ [] = take_more xs i x h ∙ ap (λ y. take i xs ++ y ∷ []) is in
    let longer : is_table place_advanced place_same (m.extents ++ x ∷ []) ≡ true = ap (λ l. is_table place_advanced place_same (l ++ x ∷ [])) s.front ∙ ap (is_table place_advanced place_same) (sym more) ∙ table_front (i + 1) xs table in
    let here : in_range place_advanced place_fits m.blocks x ≡ true = ap (λ n. in_range place_advanced place_fits n x) s.blocks_stay ∙ v.0 in
    let g = append_goes x m w r (extent_goes x m.blocks m.extents t.0 here longer) done in
    record {
      front = g.1 ∙ ap (λ l. l ++ x ∷ []) s.front ∙ sym more;
      blocks_stay = g.0 ∙ s.blocks_stay;
      rest = u.1;
      range = v.1;
    }
