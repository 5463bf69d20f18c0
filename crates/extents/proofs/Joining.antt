-- What joining two extents gives. Assumes nothing.
use Rattle.std.proofs.Common.{◌≡◌, ℕ, ◌+◌, ◌-◌, ◌<◌, ◌≤◌, Bool, true, List, [], ◌∷◌, length, Some, None, Option, sym, refl, ap, ◌∙◌, ⊎_elim, arith}
use Rattle.std.proofs.lemmas.Bool.{cond_both, cases_lt}
use Rattle.extents.specs.declared.extent.Extent.{Extent}
use Rattle.extents.specs.Laws.{Laws}
use Rattle.extents.specs.Map.{extent, end, target_at, goes_on}
use Rattle.extents.specs.Steps.{joined, at_head, listed}
use Rattle.extents.proofs.Tables.{After, Next, Table, From, Ranged, inside, before, beyond, onward, joins_end, joins_target, apart}

pub listed_short : {X : Type 0} (o : Option X) → length (listed o) ≤ 1
listed_short None = omega arith
listed_short (Some x) = omega arith

pub head_held : {X Y : Type 0} (f : X → Option Y) (xs : List X) → length (listed (at_head f xs)) ≤ length xs
head_held f [] = omega arith
head_held f (x ∷ xs) = omega (arith, listed_short (f x))

module _ {T : Type 0} {adv : T → ℕ → T} {same : T → T → Bool} {fits : T → Bool} (laws : Laws adv same fits) where
  abbrev pub merged : Extent T → Extent T → Extent T
  merged e x = extent e.first (e.length + x.length) e.target

  pub joined_length : (e : Extent T) (xs : List (Extent T)) → length (joined adv same e xs) ≤ length xs + 1
  joined_length e [] = omega arith
  joined_length e (x ∷ xs) = cond_both (goes_on adv same e x) _ _ (λ zs. length zs ≤ length (x ∷ xs) + 1) (λ _. omega arith) (λ _. omega arith)

  merged_target : (e x : Extent T) (xs : List (Extent T)) (b : ℕ) → goes_on adv same e x ≡ true → target_at adv (merged e x ∷ xs) b ≡ target_at adv (e ∷ (x ∷ xs)) b
  merged_target e x xs b g =
      let je = joins_end laws e x g in
      ⊎_elim
      (λ (l : b < e.first). before adv (merged e x) xs b l ∙ sym (before adv e (x ∷ xs) b l ∙ before adv x xs b (omega arith)))
      (λ (l : e.first ≤ b).
      ⊎_elim
      (λ (m : b < end e). inside adv (merged e x) xs b l (omega arith) ∙ sym (inside adv e (x ∷ xs) b l m))
      (λ (m : end e ≤ b).
      ⊎_elim
      (λ (k : b < end x).
      inside adv (merged e x) xs b l (omega arith)
      ∙ ap Some (sym (ap (λ u. adv u (b - x.first)) (joins_target laws e x g) ∙ onward laws e.target e.length (b - x.first) (b - e.first) (omega arith)))
      ∙ sym (beyond adv e (x ∷ xs) b m ∙ inside adv x xs b (omega arith) k))
      (λ (k : end x ≤ b). beyond adv (merged e x) xs b (omega arith) ∙ sym (beyond adv e (x ∷ xs) b m ∙ beyond adv x xs b k))
      (cases_lt b (end x)))
      (cases_lt b (end e)))
      (cases_lt b e.first)

  pub joined_target : (e : Extent T) (xs : List (Extent T)) (b : ℕ) → target_at adv (joined adv same e xs) b ≡ target_at adv (e ∷ xs) b
  joined_target e [] b = refl
  joined_target e (x ∷ xs) b =
      cond_both (goes_on adv same e x) _ _ (λ zs. target_at adv zs b ≡ target_at adv (e ∷ (x ∷ xs)) b) (merged_target e x xs b) (λ _. refl)

  merged_next : (e x : Extent T) (xs : List (Extent T)) → goes_on adv same e x ≡ true → Next adv x xs → Next adv (merged e x) xs
  merged_next e x [] g n = tt
  merged_next e x (y ∷ ys) g n =
      let je = joins_end laws e x g in
      (omega (arith, n.0), λ q r. n.1 (omega arith) (r ∙ sym (ap (λ u. adv u x.length) (joins_target laws e x g) ∙ laws.twice _ _ _)))

  pub joined_table : (e : Extent T) (xs : List (Extent T)) → 1 ≤ e.length → From adv (end e) xs → Table adv xs → Table adv (joined adv same e xs)
  joined_table e [] l f t = (l, tt, tt)
  joined_table e (x ∷ xs) l f t =
      cond_both (goes_on adv same e x) _ _ (λ zs. Table adv zs) (λ g. (omega arith, merged_next e x xs g t.1, t.2)) (λ g. (l, apart laws e x g f, t))

  pub joined_next : (p e : Extent T) (xs : List (Extent T)) → After adv p e → Next adv p (joined adv same e xs)
  joined_next p e [] a = a
  joined_next p e (x ∷ xs) a = cond_both (goes_on adv same e x) _ _ (λ zs. Next adv p zs) (λ _. a) (λ _. a)

  pub joined_from : (q : ℕ) (e : Extent T) (xs : List (Extent T)) → q ≤ e.first → From adv q (joined adv same e xs)
  joined_from q e [] l = l
  joined_from q e (x ∷ xs) l = cond_both (goes_on adv same e x) _ _ (λ zs. From adv q zs) (λ _. l) (λ _. l)

  -- the last target of two that are joined is the second's last
  merged_fits : (e x : Extent T) → goes_on adv same e x ≡ true → 1 ≤ x.length → fits (adv x.target (x.length - 1)) ≡ true → fits (adv e.target (e.length + x.length - 1)) ≡ true
  merged_fits e x g l h =
      ap fits (sym (ap (λ u. adv u (x.length - 1)) (joins_target laws e x g) ∙ onward laws e.target e.length (x.length - 1) (e.length + x.length - 1) (omega arith))) ∙ h

  pub joined_range : (n : ℕ) (e : Extent T) (xs : List (Extent T)) → end e ≤ n → fits (adv e.target (e.length - 1)) ≡ true → Table adv xs → Ranged adv fits n xs → Ranged adv fits n (joined adv same e xs)
  joined_range n e [] l h t r = (l, h, tt)
  joined_range n e (x ∷ xs) l h t r =
      cond_both (goes_on adv same e x) _ _ (λ zs. Ranged adv fits n zs)
      (λ g. (let je = joins_end laws e x g in omega (arith, r.0), merged_fits e x g t.0 r.1, r.2))
      (λ _. (l, h, r))
