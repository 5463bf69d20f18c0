-- How far `reach` gets in a table. Assumes nothing.
use Rattle.std.proofs.Common.{◌≡◌, ℕ, zero, suc, ◌+◌, ◌<◌, ◌≤◌, Bool, true, false, ltb, List, [], ◌∷◌, ◌++◌, length, get_or, take, drop, sym, refl, ap, ◌∙◌, subst, ⊎_elim, arith}
use Rattle.std.proofs.lemmas.Bool.{lt-ltb, le-ltb, ltb-true, ltb-false, cond-true, cond-false, cases_lt}
use Rattle.std.proofs.lemmas.List.{drop_more}
use Rattle.std.specs.List.{AllWithin}
use Rattle.std.specs.List.Sorted.{IsPartitionedBy, IsPartitionPoint, IsNonDecreasingBy}
use Rattle.std.proofs.lemmas.List.Sorted.{IsPartitionedBy-ltb}
use Rattle.extents.specs.declared.extent.Extent.{Extent}
use Rattle.extents.specs.Map.{end, target_at}
use Rattle.extents.specs.Steps.{reach}
use Rattle.extents.proofs.Tables.{Next, Table, Ranged, beyond}

module _ {T : Type 0} where
  pub reach_past : (x : ℕ) (e : Extent T) (es : List (Extent T)) → end e < x → reach x (e ∷ es) ≡ suc (reach x es)
  reach_past x e es l = cond-true (ltb (end e) x) _ _ (lt-ltb _ _ l)

  pub reach_here : (x : ℕ) (e : Extent T) (es : List (Extent T)) → x ≤ end e → reach x (e ∷ es) ≡ 0
  reach_here x e es l = cond-false (ltb (end e) x) _ _ (le-ltb _ _ l)

  pub reach_within : (x : ℕ) (xs : List (Extent T)) → reach x xs ≤ length xs
  reach_within x [] = omega arith
  reach_within x (e ∷ es) =
      let r = reach_within x es in
      ⊎_elim (λ l. omega (arith, reach_past x e es l)) (λ l. omega (arith, reach_here x e es l)) (cases_lt (end e) x)

  pub reach_rises : (x y : ℕ) (xs : List (Extent T)) → x ≤ y → reach x xs ≤ reach y xs
  reach_rises x y [] l = omega arith
  reach_rises x y (e ∷ es) l =
      let r = reach_rises x y es l in
      ⊎_elim (λ k. omega (arith, reach_past x e es k, reach_past y e es (omega arith))) (λ k. omega (arith, reach_here x e es k)) (cases_lt (end e) x)

  -- the first extent ends at x or later
  abbrev pub Past : ℕ → List (Extent T) → Type 0
  Past x [] = Unit {0}
  Past x (e ∷ es) = x ≤ end e

  pub past_reach : (x : ℕ) (xs : List (Extent T)) → Past x (drop (reach x xs) xs)
  past_reach x [] = tt
  past_reach x (e ∷ es) =
      let P : ℕ → Type 0 = λ k. Past x (drop k (e ∷ es)) in
      ⊎_elim (λ l. subst P (sym (reach_past x e es l)) (past_reach x es)) (λ l. subst P (sym (reach_here x e es l)) l) (cases_lt (end e) x)

  -- an entry that does not end before x is not counted
  reach_low : (x : ℕ) (xs : List (Extent T)) (i : ℕ) (d : Extent T) → i < length xs → x ≤ end (get_or xs i d) → reach x xs ≤ i
  reach_low x [] i d l h = absurd (omega arith)
  reach_low x (y ∷ ys) zero d l h = omega (arith, reach_here x y ys h)
  reach_low x (y ∷ ys) (suc i) d l h =
      let r = reach_low x ys i d (omega arith) h in
      ⊎_elim (λ k. omega (arith, reach_past x y ys k)) (λ k. omega (arith, reach_here x y ys k)) (cases_lt (end y) x)

  pub entry_is : (xs : List (Extent T)) (i : ℕ) (e : Extent T) → i < length xs → e ≡ get_or xs i e → drop i xs ≡ e ∷ drop (i + 1) xs
  entry_is xs i e l q = drop_more xs i e l ∙ ap (λ z. z ∷ drop (i + 1) xs) (sym q)

  module _ (adv : T → ℕ → T) where
    ends_rise : (e : Extent T) (es : List (Extent T)) (i : ℕ) (d : Extent T) → Table adv (e ∷ es) → i < length (e ∷ es) → end e ≤ end (get_or (e ∷ es) i d)
    ends_rise e es zero d t l = omega arith
    ends_rise e [] (suc i) d t l = absurd (omega arith)
    ends_rise e (x ∷ xs) (suc i) d t l = let r = ends_rise x xs i d t.2 (omega arith) in omega (arith, t.1.0)

    all_rise : (xs : List (Extent T)) → Table adv xs → IsNonDecreasingBy (λ e. end e) xs
    all_rise [] t i j d l h = absurd (omega arith)
    all_rise (e ∷ es) t zero j d l h = ends_rise e es j d t h
    all_rise (e ∷ es) t (suc i) zero d l h = absurd (omega arith)
    all_rise (e ∷ es) t (suc i) (suc j) d l h = all_rise es t.2 i j d (omega arith) (omega arith)

    -- no extent that ends before x comes after one that does not
    pub table_parted : (x : ℕ) (xs : List (Extent T)) → Table adv xs → IsPartitionedBy (λ e. ltb (end e) x) xs
    table_parted x xs t = IsPartitionedBy-ltb (λ e. end e) xs x (all_rise xs t)

    -- an entry that ends before x is counted
    reach_high : (x : ℕ) (xs : List (Extent T)) (i : ℕ) (d : Extent T) → Table adv xs → i < length xs → end (get_or xs i d) < x → i < reach x xs
    reach_high x [] i d t l h = absurd (omega arith)
    reach_high x (y ∷ ys) zero d t l h = omega (arith, reach_past x y ys h)
    reach_high x (y ∷ ys) (suc i) d t l h =
        let r = reach_high x ys i d t.2 (omega arith) h in
        omega (arith, reach_past x y ys (omega (arith, ends_rise y ys (suc i) d t l)))

    -- where the extents that end before x are parted from the others
    pub parted_reach : (x : ℕ) (xs : List (Extent T)) (i : ℕ) → Table adv xs → i ≤ length xs → IsPartitionPoint (λ e. ltb (end e) x ≡ true) (λ e. ltb (end e) x ≡ false) xs i → i ≡ reach x xs
    parted_reach x [] i t l p = omega arith
    parted_reach x (e ∷ es) i t l p = let a = counted i l p.0 in let b = met p.1 in omega arith
      where
        counted : (i : ℕ) → i ≤ length (e ∷ es) → AllWithin (λ y. ltb (end y) x ≡ true) (e ∷ es) 0 i → i ≤ reach x (e ∷ es)
        counted zero l h = omega arith
        counted (suc i) l h = reach_high x (e ∷ es) i e t (omega arith) (ltb-true _ _ (h i e (omega arith) (omega arith)))

        met : AllWithin (λ y. ltb (end y) x ≡ false) (e ∷ es) i (length (e ∷ es)) → reach x (e ∷ es) ≤ i
        met h =
            let w = reach_within x (e ∷ es) in
            ⊎_elim
            (λ (k : i < length (e ∷ es)). reach_low x (e ∷ es) i e k (ltb-false _ _ (h i e (omega arith) k)))
            (λ (k : length (e ∷ es) ≤ i). omega arith)
            (cases_lt i (length (e ∷ es)))

    pub table_drop : (k : ℕ) (xs : List (Extent T)) → Table adv xs → Table adv (drop k xs)
    table_drop zero xs t = t
    table_drop (suc k) [] t = tt
    table_drop (suc k) (e ∷ es) t = table_drop k es t.2

    pub range_drop : (fits : T → Bool) (n k : ℕ) (xs : List (Extent T)) → Ranged adv fits n xs → Ranged adv fits n (drop k xs)
    range_drop fits n zero xs r = r
    range_drop fits n (suc k) [] r = tt
    range_drop fits n (suc k) (e ∷ es) r = range_drop fits n k es r.2

    pub range_front : (fits : T → Bool) (n k : ℕ) (xs zs : List (Extent T)) → Ranged adv fits n xs → Ranged adv fits n zs → Ranged adv fits n (take k xs ++ zs)
    range_front fits n zero xs zs r u = u
    range_front fits n (suc k) [] zs r u = u
    range_front fits n (suc k) (e ∷ es) zs r u = (r.0, r.1, range_front fits n k es zs r.2 u)

    -- what ends before x has no block from x - 1 on
    pub target_from : (x b : ℕ) (xs : List (Extent T)) → x ≤ b + 1 → target_at adv xs b ≡ target_at adv (drop (reach x xs) xs) b
    target_from x b [] h = refl
    target_from x b (e ∷ es) h =
        let P : ℕ → Type 0 = λ k. target_at adv (e ∷ es) b ≡ target_at adv (drop k (e ∷ es)) b in
        ⊎_elim
        (λ l. subst P (sym (reach_past x e es l)) (beyond adv e es b (omega arith) ∙ target_from x b es h))
        (λ l. subst P (sym (reach_here x e es l)) refl)
        (cases_lt (end e) x)

    pub target_after : (x b : ℕ) (xs zs : List (Extent T)) → x ≤ b + 1 → target_at adv (take (reach x xs) xs ++ zs) b ≡ target_at adv zs b
    target_after x b [] zs h = refl
    target_after x b (e ∷ es) zs h =
        let P : ℕ → Type 0 = λ k. target_at adv (take k (e ∷ es) ++ zs) b ≡ target_at adv zs b in
        ⊎_elim
        (λ l. subst P (sym (reach_past x e es l)) (beyond adv e _ b (omega arith) ∙ target_after x b es zs h))
        (λ l. subst P (sym (reach_here x e es l)) refl)
        (cases_lt (end e) x)

    next_front : (p : Extent T) (k : ℕ) (xs zs : List (Extent T)) → Next adv p xs → (Next adv p (drop k xs) → Next adv p zs) → Next adv p (take k xs ++ zs)
    next_front p zero xs zs n f = f n
    next_front p (suc k) [] zs n f = f tt
    next_front p (suc k) (x ∷ xs) zs n f = n

    -- what ends before x, and a table that may stand where the rest stood
    pub table_front : (x : ℕ) (xs zs : List (Extent T)) → Table adv xs → Table adv zs → ((p : Extent T) → end p < x → Next adv p (drop (reach x xs) xs) → Next adv p zs) → Table adv (take (reach x xs) xs ++ zs)
    table_front x [] zs t u f = u
    table_front x (e ∷ es) zs t u f =
        let P : ℕ → Type 0 = λ k. ((p : Extent T) → end p < x → Next adv p (drop k (e ∷ es)) → Next adv p zs) → Table adv (take k (e ∷ es) ++ zs) in
        ⊎_elim
        (λ l. subst P (sym (reach_past x e es l)) (λ g. (t.0, next_front e (reach x es) es zs t.1 (g e l), table_front x es zs t.2 u g)) f)
        (λ l. subst P (sym (reach_here x e es l)) (λ g. u) f)
        (cases_lt (end e) x)
