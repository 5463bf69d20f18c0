-- The extent at which `reached` stops. Assumes nothing.
use Rattle.std.proofs.Common.{◌≡◌, ℕ, ◌+◌, ◌-◌, ◌<◌, ◌≤◌, Bool, true, List, ◌∷◌, length, get_or, drop, None, sym, ap, ◌∙◌, subst, arith}
use Rattle.std.proofs.lemmas.Bool.{cond-true}
use Rattle.std.proofs.lemmas.List.{drop_all}
use Rattle.extents.specs.declared.extent.Extent.{Extent}
use Rattle.extents.specs.Laws.{Laws, fitting}
use Rattle.extents.specs.Map.{end, target_at, is_table, all_in_range}
use Rattle.extents.specs.Steps.{reach}
use Rattle.extents.proofs.Tables.{Table, Ranged, ranged, inside, none_before, table, fits_before}
use Rattle.extents.proofs.Reach.{Past, past_reach, entry_is, table_drop, range_drop, target_from}

module _ {T : Type 0} {adv : T → ℕ → T} {same : T → T → Bool} {fits : T → Bool} (laws : Laws adv same fits) (xs : List (Extent T)) (i x : ℕ) (r : i ≡ reach x xs) where
  module _ (e : Extent T) (l : i < length xs) (q : e ≡ get_or xs i e) where
    -- it ends at x or later
    pub found_end : x ≤ end e
    found_end = subst (Past x) (ap (λ k. drop k xs) (sym r) ∙ entry_is xs i e l q) (past_reach x xs)

    pub found_table : is_table adv same xs ≡ true → Table adv (e ∷ drop (i + 1) xs)
    found_table t = subst (Table adv) (entry_is xs i e l q) (table_drop adv i xs (table laws xs t))

    pub found_range : (n : ℕ) → all_in_range adv fits n xs ≡ true → Ranged adv fits n (e ∷ drop (i + 1) xs)
    found_range n h = subst (Ranged adv fits n) (entry_is xs i e l q) (range_drop adv fits n i xs (ranged adv fits n xs h))

    -- a target of it fits
    pub found_fits : (n k : ℕ) → all_in_range adv fits n xs ≡ true → k < e.length → fits (adv e.target k) ≡ true
    found_fits n k h m = fits_before laws e.target k (e.length - 1) (omega arith) (found_range n h).1

  -- what a look-up of b answers, with x at b + 1
  module _ (b : ℕ) (at : x ≡ b + 1) where
    found_at : target_at adv xs b ≡ target_at adv (drop i xs) b
    found_at = target_from adv x b xs (omega arith) ∙ ap (λ k. target_at adv (drop k xs) b) (sym r)

    pub found_none : length xs ≤ i → None ≡ target_at adv xs b
    found_none m = sym (found_at ∙ ap (λ zs. target_at adv zs b) (drop_all i xs m))

    module _ (e : Extent T) (l : i < length xs) (q : e ≡ get_or xs i e) where
      pub found_later : is_table adv same xs ≡ true → b < e.first → None ≡ target_at adv xs b
      found_later t m =
          sym (found_at ∙ ap (λ zs. target_at adv zs b) (entry_is xs i e l q) ∙ none_before adv e.first b (e ∷ drop (i + 1) xs) (found_table e l q t) (omega arith) m)

      pub found_target : (n : ℕ) → all_in_range adv fits n xs ≡ true → e.first ≤ b → fitting fits (adv e.target (b - e.first)) ≡ target_at adv xs b
      found_target n h m =
          let p = found_end e l q in
          cond-true (fits (adv e.target (b - e.first))) _ _ (found_fits e l q n (b - e.first) h (omega arith))
          ∙ sym (found_at ∙ ap (λ zs. target_at adv zs b) (entry_is xs i e l q) ∙ inside adv e _ b m (omega arith))
