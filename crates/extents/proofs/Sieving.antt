-- What a drop keeps. Assumes nothing.
use Rattle.std.proofs.Common.{◌≡◌, ℕ, ◌+◌, ◌-◌, ◌<◌, ◌≤◌, Bool, true, cond, ltb, List, [], ◌∷◌, ◌++◌, length, get_or, take, drop, set, Some, None, Option, sym, refl, ap, ◌∙◌, subst, ⊎_elim, arith}
use Rattle.std.proofs.lemmas.Bool.{cond-true, cond-false, cases_lt, lt-ltb, le-ltb}
use Rattle.std.proofs.lemmas.List.{get_or-drop, drop-drop, drop-set-lt, take_more_set, append_assoc}
use Rattle.extents.specs.declared.extent.Extent.{Extent}
use Rattle.extents.specs.Laws.{Laws}
use Rattle.extents.specs.Order.{unless_below}
use Rattle.extents.specs.Map.{end, target_at, is_table, all_in_range}
use Rattle.extents.specs.Steps.{without, listed, kept_of, sieved}
use Rattle.extents.proofs.Tables.{Next, Table, From, Ranged, from_weaker, from_next, inside, before, beyond, none_before, gap_next, onward, trim_next, table, table_test, ranged, ranged_test}
use Rattle.extents.proofs.Reach.{entry_is, range_drop}

module _ {T : Type 0} {adv : T → ℕ → T} {same : T → T → Bool} {fits : T → Bool} (laws : Laws adv same fits) (short : T → ℕ) where
  abbrev kept : List (Extent T) → List (Extent T)
  kept = sieved adv short

  -- an extent that keeps something, and one that does not
  kept_some : (e : Extent T) (es : List (Extent T)) → short e.target < e.length → kept (e ∷ es) ≡ without adv (short e.target) e ∷ kept es
  kept_some e es l = ap (λ o. listed o ++ kept es) (cond-true (ltb (short e.target) e.length) (Some (without adv (short e.target) e)) None (lt-ltb _ _ l))

  kept_none : (e : Extent T) (es : List (Extent T)) → e.length ≤ short e.target → kept (e ∷ es) ≡ kept es
  kept_none e es l = ap (λ o. listed o ++ kept es) (cond-false (ltb (short e.target) e.length) (Some (without adv (short e.target) e)) None (le-ltb _ _ l))

  -- a property of the rest after one extent, by both ways
  by_kept : (P : List (Extent T) → Type 0) (e : Extent T) (es : List (Extent T)) → (short e.target < e.length → P (without adv (short e.target) e ∷ kept es)) → (e.length ≤ short e.target → P (kept es)) → P (kept (e ∷ es))
  by_kept P e es f g = ⊎_elim (λ l. subst P (sym (kept_some e es l)) (f l)) (λ l. subst P (sym (kept_none e es l)) (g l)) (cases_lt (short e.target) e.length)

  kept_from : (p : ℕ) (xs : List (Extent T)) → Table adv xs → From adv p xs → From adv p (kept xs)
  kept_from p [] t f = tt
  kept_from p (e ∷ es) t f =
      by_kept (λ zs. From adv p zs) e es
      (λ _. omega arith)
      (λ _. kept_from p es t.2 (from_weaker adv (end e) p es (omega arith) (from_next adv e es t.1)))

  kept_next : (p : Extent T) (xs : List (Extent T)) → Table adv xs → Next adv p xs → Next adv p (kept xs)
  kept_next p [] t n = tt
  kept_next p (e ∷ es) t n =
      by_kept (λ zs. Next adv p zs) e es
      (λ _. (
        omega (arith, n.0),
        λ q r.
            let z : short e.target ≡ 0 = omega (arith, n.0) in
            n.1 (omega arith) (sym (ap (adv e.target) z ∙ laws.none e.target) ∙ r),
      ))
      (λ _. gap_next adv p (end e) (kept es) (omega (arith, n.0, t.0)) (kept_from (end e) es t.2 (from_next adv e es t.1)))

  kept_table : (xs : List (Extent T)) → Table adv xs → Table adv (kept xs)
  kept_table [] t = tt
  kept_table (e ∷ es) t =
      by_kept (λ zs. Table adv zs) e es
      (λ l. (omega arith, kept_next (without adv (short e.target) e) es t.2 (trim_next laws (short e.target) e es l t.1), kept_table es t.2))
      (λ _. kept_table es t.2)

  kept_range : (n : ℕ) (xs : List (Extent T)) → Ranged adv fits n xs → Ranged adv fits n (kept xs)
  kept_range n [] r = tt
  kept_range n (e ∷ es) r =
      let k = short e.target in
      by_kept (λ zs. Ranged adv fits n zs) e es
      (λ l. (omega (arith, r.0), ap fits (onward laws e.target k (e.length - k - 1) (e.length - 1) (omega arith)) ∙ r.1, kept_range n es r.2))
      (λ _. kept_range n es r.2)

  module _ (below : T → T → Bool) (u : T) (climbs : (t : T) (i : ℕ) → below (adv t i) u ≡ ltb i (short t)) where
    kept_inside : (e : Extent T) (es : List (Extent T)) (b : ℕ) → Table adv (e ∷ es) → target_at adv (kept es) b ≡ unless_below below u (target_at adv es b) → e.first ≤ b → b < end e → target_at adv (kept (e ∷ es)) b ≡ unless_below below u (target_at adv (e ∷ es) b)
    kept_inside e es b t ih l h =
        let d = b - e.first in
        let k = short e.target in
        let here : unless_below below u (target_at adv (e ∷ es) b) ≡ cond (ltb d k) None (Some (adv e.target d)) = ap (unless_below below u) (inside adv e es b l h) ∙ ap (λ z. cond z None (Some (adv e.target d))) (climbs e.target d) in
        let none : target_at adv (kept es) b ≡ None = ih ∙ ap (unless_below below u) (none_before adv (end e) b es t.2 (from_next adv e es t.1) h) in
        ⊎_elim
        (λ (c : d < k).
        by_kept (λ zs. target_at adv zs b ≡ None) e es (λ _. before adv (without adv k e) (kept es) b (omega arith) ∙ none) (λ _. none)
        ∙ sym (here ∙ cond-true (ltb d k) _ _ (lt-ltb _ _ c)))
        (λ (c : k ≤ d).
        ap (λ zs. target_at adv zs b) (kept_some e es (omega arith))
        ∙ inside adv (without adv k e) (kept es) b (omega arith) (omega arith)
        ∙ ap Some (onward laws e.target k (b - (e.first + k)) d (omega arith))
        ∙ sym (here ∙ cond-false (ltb d k) _ _ (le-ltb _ _ c)))
        (cases_lt d k)

    kept_target : (xs : List (Extent T)) (b : ℕ) → Table adv xs → target_at adv (kept xs) b ≡ unless_below below u (target_at adv xs b)
    kept_target [] b t = refl
    kept_target (e ∷ es) b t =
        let ih = kept_target es b t.2 in
        let k = short e.target in
        ⊎_elim
        (λ (l : b < e.first).
        by_kept (λ zs. target_at adv zs b ≡ target_at adv (kept es) b) e es (λ _. before adv (without adv k e) (kept es) b (omega arith)) (λ _. refl)
        ∙ ih ∙ ap (unless_below below u) (sym (before adv e es b l)))
        (λ (l : e.first ≤ b).
        ⊎_elim
        (kept_inside e es b t ih l)
        (λ (h : end e ≤ b).
        by_kept (λ zs. target_at adv zs b ≡ target_at adv (kept es) b) e es (λ m. beyond adv (without adv k e) (kept es) b (omega arith)) (λ _. refl)
        ∙ ih ∙ ap (unless_below below u) (sym (beyond adv e es b h)))
        (cases_lt b (end e)))
        (cases_lt b e.first)

    -- what a drop gives, by the tests
    module _ (xs new : List (Extent T)) (is : new ≡ kept xs) (t : is_table adv same xs ≡ true) where
      pub dropped_table : is_table adv same new ≡ true
      dropped_table = ap (is_table adv same) is ∙ table_test laws (kept xs) (kept_table xs (table laws xs t))

      pub dropped_range : (n : ℕ) → all_in_range adv fits n xs ≡ true → all_in_range adv fits n new ≡ true
      dropped_range n r = ap (all_in_range adv fits n) is ∙ ranged_test adv fits n (kept xs) (kept_range n xs (ranged adv fits n xs r))

      pub dropped_target : (b : ℕ) → target_at adv new b ≡ unless_below below u (target_at adv xs b)
      dropped_target b = ap (λ zs. target_at adv zs b) is ∙ kept_target xs b (table laws xs t)

-- a turn of the loop: what is left is as it was, and what was read is kept or not
module _ {T : Type 0} (adv : T → ℕ → T) (short : T → ℕ) (s s₀ : List (Extent T)) (i to : ℕ) (x : Extent T) (len : length s ≡ length s₀) (l : i < length s₀) (q : drop i s ≡ drop i s₀) (h : x ≡ get_or s i x) where
  pub read_before : x ≡ get_or s₀ i x
  read_before =
      let z : i + 0 ≡ i = omega arith in
      h ∙ ap (λ k. get_or s k x) (sym z) ∙ sym (get_or-drop i s 0 x) ∙ ap (λ m. get_or m 0 x) q ∙ get_or-drop i s₀ 0 x ∙ ap (λ k. get_or s₀ k x) z

  pub read_range : (fits : T → Bool) (n : ℕ) → all_in_range adv fits n s₀ ≡ true → Ranged adv fits n (x ∷ drop (i + 1) s₀)
  read_range fits n r = subst (Ranged adv fits n) (entry_is s₀ i x l read_before) (range_drop adv fits n i s₀ (ranged adv fits n s₀ r))

  rest_same : drop (i + 1) s ≡ drop (i + 1) s₀
  rest_same = sym (drop-drop 1 i s) ∙ ap (drop 1) q ∙ drop-drop 1 i s₀

  module _ (o : Option (Extent T)) (k : o ≡ kept_of adv short x) (w : to ≤ i) (inv : take to s ++ sieved adv short (drop i s₀) ≡ sieved adv short s₀) where
    left_over : take to s ++ (listed o ++ sieved adv short (drop (i + 1) s₀)) ≡ sieved adv short s₀
    left_over = ap (λ p. take to s ++ (listed p ++ sieved adv short (drop (i + 1) s₀))) k ∙ ap (λ m. take to s ++ sieved adv short m) (sym (entry_is s₀ i x l read_before)) ∙ inv

    pub turn_none : o ≡ None → (drop (i + 1) s ≡ drop (i + 1) s₀) × (take to s ++ sieved adv short (drop (i + 1) s₀) ≡ sieved adv short s₀)
    turn_none n = (rest_same, ap (λ p. take to s ++ (listed p ++ sieved adv short (drop (i + 1) s₀))) (sym n) ∙ left_over)

    pub turn_some : (y : Extent T) → o ≡ Some y → (drop (i + 1) (set s to y) ≡ drop (i + 1) s₀) × (take (to + 1) (set s to y) ++ sieved adv short (drop (i + 1) s₀) ≡ sieved adv short s₀)
    turn_some y n = (
      drop-set-lt (i + 1) s to y (omega arith) ∙ rest_same,
      ap (λ m. m ++ sieved adv short (drop (i + 1) s₀)) (take_more_set s to y (omega arith))
          ∙ append_assoc (take to s) (y ∷ []) _
          ∙ ap (λ p. take to s ++ (listed p ++ sieved adv short (drop (i + 1) s₀))) (sym n)
          ∙ left_over,
    )
