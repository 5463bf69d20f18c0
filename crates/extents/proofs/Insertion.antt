-- What an insertion gives. Assumes nothing.
use Rattle.std.proofs.Common.{◌≡◌, ℕ, ◌+◌, ◌-◌, ◌^◌, ◌<◌, ◌≤◌, Bool, true, false, cond, ltb, leb, List, [], ◌∷◌, ◌++◌, length, take, drop, Some, None, Option, sym, refl, ap, ◌∙◌, subst, inl, inr, ⊎_elim, arith}
use Rattle.std.proofs.lemmas.Bool.{cond-true, cond-false, cond_both, and_from, and_left, and_right, le-leb, lt-leb, leb-true, leb-false, lt-ltb, le-ltb, ltb-true, ltb-false, ne_eqb, cases_lt}
use Rattle.std.proofs.lemmas.List.{take-append-drop}
use Rattle.extents.specs.declared.extent.Extent.{Extent}
use Rattle.extents.specs.Laws.{Laws}
use Rattle.extents.specs.Map.{extent, end, covers, target_at, goes_on}
use Rattle.extents.specs.Answers.{overlaid}
use Rattle.extents.specs.Steps.{reach, joined, joined_onto, without, left_of, right_of, at_head, listed, EndsInWidth}
use Rattle.extents.proofs.Tables.{Next, Table, From, Ranged, from_weaker, from_next, inside, before, beyond, none_before, gap_next, target_behind, onward, trim_next, fits_before}
use Rattle.extents.proofs.Reach.{Past, past_reach, table_drop, range_drop, range_front, target_from, target_after, table_front}
use Rattle.extents.proofs.Joining.{joined_target, joined_table, joined_next, joined_from, joined_range}

-- the extents from c on of a list whose first ends past c
abbrev pub right_list : {T : Type 0} → (T → ℕ → T) → ℕ → List (Extent T) → List (Extent T)
right_list adv c [] = []
right_list adv c (e ∷ es) = cond (leb e.first c) (without adv (c - e.first) e ∷ es) (e ∷ es)

-- R after what a list whose first ends at a or later has before a
abbrev pub left_list : {T : Type 0} → (T → ℕ → T) → (T → T → Bool) → ℕ → List (Extent T) → List (Extent T) → List (Extent T)
left_list adv same a R [] = R
left_list adv same a R (e ∷ es) = cond (ltb e.first a) (joined adv same (extent e.first (a - e.first) e.target) R) R

-- the table after the insertion
abbrev pub inserted : {T : Type 0} → (T → ℕ → T) → (T → T → Bool) → Extent T → List (Extent T) → List (Extent T)
inserted adv same e xs = take (reach e.first xs) xs ++ left_list adv same e.first (joined adv same e (right_list adv (end e) (drop (reach (end e + 1) xs) xs))) (drop (reach e.first xs) xs)

module _ {T : Type 0} {adv : T → ℕ → T} {same : T → T → Bool} {fits : T → Bool} (laws : Laws adv same fits) where
  -- right of c
  module _ (c : ℕ) where
    right_table : (xs : List (Extent T)) → Past (c + 1) xs → Table adv xs → Table adv (right_list adv c xs)
    right_table [] p t = tt
    right_table (e ∷ es) p t =
        cond_both (leb e.first c) _ _ (λ zs. Table adv zs) (λ g. let l = leb-true e.first c g in (omega arith, trim_next laws (c - e.first) e es (omega arith) t.1, t.2)) (λ _. t)

    right_from : (xs : List (Extent T)) → From adv c (right_list adv c xs)
    right_from [] = tt
    right_from (e ∷ es) = cond_both (leb e.first c) _ _ (λ zs. From adv c zs) (λ g. omega (arith, leb-true _ _ g)) (λ g. omega (arith, leb-false _ _ g))

    cut_target : (e : Extent T) (es : List (Extent T)) (b : ℕ) → e.first ≤ c → c < end e → c ≤ b → target_at adv (without adv (c - e.first) e ∷ es) b ≡ target_at adv (e ∷ es) b
    cut_target e es b l h m =
        let k : Extent T = without adv (c - e.first) e in
        ⊎_elim
        (λ (o : b < end e).
        inside adv k es b (omega arith) (omega arith) ∙ ap Some (onward laws e.target (c - e.first) (b - (e.first + (c - e.first))) (b - e.first) (omega arith)) ∙ sym (inside adv e es b (omega arith) o))
        (λ (o : end e ≤ b). beyond adv k es b (omega arith) ∙ sym (beyond adv e es b o))
        (cases_lt b (end e))

    right_target : (xs : List (Extent T)) (b : ℕ) → Past (c + 1) xs → c ≤ b → target_at adv (right_list adv c xs) b ≡ target_at adv xs b
    right_target [] b p m = refl
    right_target (e ∷ es) b p m =
        cond_both (leb e.first c) _ _ (λ zs. target_at adv zs b ≡ target_at adv (e ∷ es) b) (λ g. cut_target e es b (leb-true _ _ g) (omega arith) m) (λ _. refl)

    cut_fits : (e : Extent T) → e.first ≤ c → c < end e → fits (adv e.target (e.length - 1)) ≡ true → fits (adv (adv e.target (c - e.first)) (e.length - (c - e.first) - 1)) ≡ true
    cut_fits e l h f = ap fits (onward laws e.target (c - e.first) (e.length - (c - e.first) - 1) (e.length - 1) (omega arith)) ∙ f

    right_range : (n : ℕ) (xs : List (Extent T)) → Past (c + 1) xs → Ranged adv fits n xs → Ranged adv fits n (right_list adv c xs)
    right_range n [] p r = tt
    right_range n (e ∷ es) p r =
        cond_both (leb e.first c) _ _ (λ zs. Ranged adv fits n zs)
        (λ g. let l = leb-true e.first c g in (omega (arith, r.0), cut_fits e l (omega arith) r.1, r.2))
        (λ _. r)

    -- the end of what `right_at` answers
    pub right_end : (n : ℕ) (xs : List (Extent T)) → Past (c + 1) xs → Ranged adv fits n xs → n < 2 ^ 32 → EndsInWidth (at_head (right_of adv c) xs)
    right_end n [] p r l = tt
    right_end n (e ∷ es) p r l =
        cond_both (leb e.first c) _ _ (λ o. EndsInWidth o) (λ g. let m = leb-true e.first c g in omega (arith, r.0)) (λ _. tt)

  -- left of a, before a table R that begins at a
  module _ (a : ℕ) (R : List (Extent T)) (from : From adv a R) (tab : Table adv R) where
    abbrev front : Extent T → Extent T
    front e = extent e.first (a - e.first) e.target

    left_table : (xs : List (Extent T)) → Table adv (left_list adv same a R xs)
    left_table [] = tab
    left_table (e ∷ es) =
        cond_both (ltb e.first a) _ _ (λ zs. Table adv zs)
        (λ g. let l = ltb-true e.first a g in joined_table laws (front e) R (omega arith) (from_weaker adv a (end (front e)) R (omega arith) from) tab)
        (λ _. tab)

    left_next : (xs : List (Extent T)) (p : Extent T) → end p < a → Next adv p xs → Next adv p (left_list adv same a R xs)
    left_next [] p l n = gap_next adv p a R l from
    left_next (e ∷ es) p l n =
        cond_both (ltb e.first a) _ _ (λ zs. Next adv p zs) (λ _. joined_next laws p (front e) R n) (λ _. gap_next adv p a R l from)

    front_target : (e : Extent T) (es : List (Extent T)) (b : ℕ) → a ≤ end e → e.first < a → Table adv (e ∷ es) → b < a → target_at adv (front e ∷ R) b ≡ target_at adv (e ∷ es) b
    front_target e es b p g t h =
        ⊎_elim
        (λ (l : b < e.first).
        before adv (front e) R b l ∙ none_before adv a b R tab from h
        ∙ sym (before adv e es b l ∙ none_before adv (end e) b es t.2 (from_next adv e es t.1) (omega arith)))
        (λ (l : e.first ≤ b). inside adv (front e) R b l (omega arith) ∙ sym (inside adv e es b l (omega arith)))
        (cases_lt b e.first)

    left_below : (xs : List (Extent T)) (b : ℕ) → Past a xs → Table adv xs → b < a → target_at adv (left_list adv same a R xs) b ≡ target_at adv xs b
    left_below [] b p t h = none_before adv a b R tab from h
    left_below (e ∷ es) b p t h =
        cond_both (ltb e.first a) _ _ (λ zs. target_at adv zs b ≡ target_at adv (e ∷ es) b)
        (λ g. joined_target laws (front e) R b ∙ front_target e es b p (ltb-true _ _ g) t h)
        (λ g. none_before adv a b R tab from h ∙ sym (none_before adv a b (e ∷ es) t (ltb-false _ _ g) h))

    left_above : (xs : List (Extent T)) (b : ℕ) → a ≤ b → target_at adv (left_list adv same a R xs) b ≡ target_at adv R b
    left_above [] b h = refl
    left_above (e ∷ es) b h =
        cond_both (ltb e.first a) _ _ (λ zs. target_at adv zs b ≡ target_at adv R b)
        (λ g. let l = ltb-true e.first a g in joined_target laws (front e) R b ∙ beyond adv (front e) R b (omega arith))
        (λ _. refl)

    left_range : (n : ℕ) (xs : List (Extent T)) → Past a xs → Ranged adv fits n xs → Ranged adv fits n R → Ranged adv fits n (left_list adv same a R xs)
    left_range n [] p r u = u
    left_range n (e ∷ es) p r u =
        cond_both (ltb e.first a) _ _ (λ zs. Ranged adv fits n zs)
        (λ g. let l = ltb-true e.first a g in
        joined_range laws n (front e) R (omega (arith, r.0)) (fits_before laws e.target (a - e.first - 1) (e.length - 1) (omega arith) r.1) tab u)
        (λ _. u)

  -- the whole
  module _ (e : Extent T) (xs : List (Extent T)) (tab : Table adv xs) (some : 1 ≤ e.length) where
    abbrev ys : List (Extent T)
    ys = drop (reach (end e + 1) xs) xs

    abbrev zs : List (Extent T)
    zs = drop (reach e.first xs) xs

    abbrev pub rest : List (Extent T)
    rest = joined adv same e (right_list adv (end e) ys)

    right_ok : Table adv (right_list adv (end e) ys)
    right_ok = right_table (end e) ys (past_reach (end e + 1) xs) (table_drop adv (reach (end e + 1) xs) xs tab)

    rest_table : Table adv rest
    rest_table = joined_table laws e (right_list adv (end e) ys) some (right_from (end e) ys) right_ok

    rest_from : From adv e.first rest
    rest_from = joined_from laws e.first e (right_list adv (end e) ys) (omega arith)

    pub inserted_table : Table adv (inserted adv same e xs)
    inserted_table = table_front adv e.first xs (left_list adv same e.first rest zs) tab (left_table e.first rest rest_from rest_table zs) (left_next e.first rest rest_from rest_table zs)

    module _ (n : ℕ) (l : end e ≤ n) (f : fits (adv e.target (e.length - 1)) ≡ true) (r : Ranged adv fits n xs) where
      pub rest_range : Ranged adv fits n rest
      rest_range = joined_range laws n e (right_list adv (end e) ys) l f right_ok (right_range (end e) n ys (past_reach (end e + 1) xs) (range_drop adv fits n (reach (end e + 1) xs) xs r))

      pub inserted_range : Ranged adv fits n (inserted adv same e xs)
      inserted_range =
          range_front adv fits n (reach e.first xs) xs _ r
          (left_range e.first rest rest_from rest_table n zs (past_reach e.first xs) (range_drop adv fits n (reach e.first xs) xs r) rest_range)

    pub inserted_target : (b : ℕ) → target_at adv (inserted adv same e xs) b ≡ overlaid adv e (target_at adv xs) b
    inserted_target b =
        let a = e.first in
        let Z = left_list adv same a rest zs in
        ⊎_elim
        (λ (l : b < a).
        target_behind adv b (take (reach a xs) xs) Z zs (left_below a rest rest_from rest_table zs b (past_reach a xs) (table_drop adv (reach a xs) xs tab) l)
        ∙ ap (λ us. target_at adv us b) (take-append-drop (reach a xs) xs)
        ∙ sym (cond-false (covers e b) _ _ (and_left (leb a b) _ (lt-leb _ _ l))))
        (λ (l : a ≤ b).
        target_after adv a b xs Z (omega arith)
        ∙ left_above a rest rest_from rest_table zs b l
        ∙ joined_target laws e (right_list adv (end e) ys) b
        ∙ ⊎_elim
        (λ (k : b < end e). inside adv e (right_list adv (end e) ys) b l k ∙ sym (cond-true (covers e b) _ _ (and_from _ _ (le-leb _ _ l) (lt-ltb _ _ k))))
        (λ (k : end e ≤ b).
        beyond adv e (right_list adv (end e) ys) b k
        ∙ right_target (end e) ys b (past_reach (end e + 1) xs) k
        ∙ sym (target_from adv (end e + 1) b xs (omega arith))
        ∙ sym (cond-false (covers e b) _ _ (and_right (leb a b) _ (le-ltb _ _ k))))
        (cases_lt b (end e)))
        (cases_lt b a)

pub cond_append : {X : Type 0} (b : Bool) (xs ys zs : List X) → cond b (xs ++ zs) (ys ++ zs) ≡ cond b xs ys ++ zs
cond_append true _ _ _ = refl
cond_append false _ _ _ = refl

-- the same table, put together from the parts that the code makes
module _ {T : Type 0} (adv : T → ℕ → T) (same : T → T → Bool) where
  first_joined : (e x : Extent T) (xs : List (Extent T)) → joined adv same e (x ∷ xs) ≡ joined adv same e (x ∷ []) ++ xs
  first_joined e x xs = cond_append (goes_on adv same e x) (extent e.first (e.length + x.length) e.target ∷ []) (e ∷ (x ∷ [])) xs

  pub right_parts : (e : Extent T) (ys : List (Extent T)) → joined adv same e (right_list adv (end e) ys) ≡ joined adv same e (listed (at_head (right_of adv (end e)) ys)) ++ drop (length (listed (at_head (right_of adv (end e)) ys))) ys
  right_parts e [] = refl
  right_parts e (x ∷ xs) =
      let P : List (Extent T) → Option (Extent T) → Type 0 = λ l o. joined adv same e l ≡ joined adv same e (listed o) ++ drop (length (listed o)) (x ∷ xs) in
      ⊎_elim
      (λ (l : x.first ≤ end e).
      let t = le-leb x.first (end e) l in
      let p = cond-true (leb x.first (end e)) (without adv (end e - x.first) x ∷ xs) (x ∷ xs) t in
      let q = cond-true (leb x.first (end e)) (Some (without adv (end e - x.first) x)) None t in
      subst (λ l. P l (right_of adv (end e) x)) (sym p) (subst (P (without adv (end e - x.first) x ∷ xs)) (sym q) (first_joined e (without adv (end e - x.first) x) xs)))
      (λ (l : end e < x.first).
      let t = lt-leb x.first (end e) l in
      let p = cond-false (leb x.first (end e)) (without adv (end e - x.first) x ∷ xs) (x ∷ xs) t in
      let q = cond-false (leb x.first (end e)) (Some (without adv (end e - x.first) x)) None t in
      subst (λ l. P l (right_of adv (end e) x)) (sym p)
      (subst (P (x ∷ xs)) (sym q) (cond-false (goes_on adv same e x) _ _ (and_left _ _ (ne_eqb (end e) x.first (λ (q : end e ≡ x.first). omega arith))))))
      (⊎_elim (λ (h : end e < x.first). inr h) (λ (h : x.first ≤ end e). inl h) (cases_lt (end e) x.first))

  pub left_parts : (a : ℕ) (m : Extent T) (M zs : List (Extent T)) → left_list adv same a (m ∷ M) zs ≡ joined_onto adv same (at_head (left_of a) zs) m ++ M
  left_parts a m M [] = refl
  left_parts a m M (x ∷ xs) =
      let P : List (Extent T) → Option (Extent T) → Type 0 = λ l o. l ≡ joined_onto adv same o m ++ M in
      let f : Extent T = extent x.first (a - x.first) x.target in
      ⊎_elim
      (λ (l : x.first < a).
      let t = lt-ltb x.first a l in
      cond-true (ltb x.first a) (joined adv same f (m ∷ M)) (m ∷ M) t
      ∙ first_joined f m M
      ∙ ap (λ o. joined_onto adv same o m ++ M) (sym (cond-true (ltb x.first a) (Some f) None t)))
      (λ (l : a ≤ x.first).
      let t = le-ltb x.first a l in
      cond-false (ltb x.first a) (joined adv same f (m ∷ M)) (m ∷ M) t
      ∙ ap (λ o. joined_onto adv same o m ++ M) (sym (cond-false (ltb x.first a) (Some f) None t)))
      (cases_lt x.first a)
