-- A table within so many blocks has no more extents than blocks. Assumes nothing.
use Rattle.std.proofs.Common.{◌≡◌, ℕ, ◌+◌, ◌-◌, ◌^◌, ◌<◌, ◌≤◌, Bool, true, cond, eqb, ltb, List, [], ◌∷◌, length, Some, None, Option, sym, ◌∙◌, subst, ⊎_elim, arith}
use Rattle.std.proofs.lemmas.Bool.{and_from, le-leb, lt-ltb, le-ltb, eq-eqb, ne_eqb, cond-true, cond-false, cases_Bool, cases_eq, cases_lt}
use Rattle.std.proofs.lemmas.Option.{none-some}
use Rattle.extents.specs.declared.extent.Extent.{Extent}
use Rattle.extents.specs.Laws.{Laws}
use Rattle.extents.specs.declared.fault.MapFault.{MapFault}
use Rattle.extents.specs.declared.fault.MapFault.TheVariants.{Empty, OutOfRange, TooWide}
use Rattle.extents.specs.Faults.{extent_refusal}
use Rattle.extents.specs.Map.{end, is_table, in_range, all_in_range}
use Rattle.extents.specs.Mapped.{Mapped, Sound}
use Rattle.extents.proofs.Tables.{Table, Ranged, From, from_next, table, ranged, ranged_test, range_wider}

module _ {T : Type 0} (adv : T → ℕ → T) (fits : T → Bool) where
  fewer : (n p : ℕ) (xs : List (Extent T)) → From adv p xs → Table adv xs → Ranged adv fits n xs → p ≤ n → p + length xs ≤ n
  fewer n p [] f t r l = omega arith
  fewer n p (e ∷ es) f t r l = let k = fewer n (end e) es (from_next adv e es t.1) t.2 r.2 r.0 in omega (arith, t.0)

  from_zero : (xs : List (Extent T)) → From adv 0 xs
  from_zero [] = tt
  from_zero (e ∷ es) = omega arith

  pub widest : (n : ℕ) (xs : List (Extent T)) → n < 2 ^ 32 → all_in_range adv fits n xs ≡ true → all_in_range adv fits (2 ^ 32 - 1) xs ≡ true
  widest n xs l r = ranged_test adv fits (2 ^ 32 - 1) xs (range_wider adv fits n (2 ^ 32 - 1) xs (omega arith) (ranged adv fits n xs r))

module _ {T : Type 0} {adv : T → ℕ → T} {same : T → T → Bool} {fits : T → Bool} (laws : Laws adv same fits) where
  pub table_short : (n : ℕ) (xs : List (Extent T)) → is_table adv same xs ≡ true → all_in_range adv fits n xs ≡ true → length xs ≤ n
  table_short n xs t r = let k = fewer adv fits n 0 xs (from_zero adv fits xs) (table laws xs t) (ranged adv fits n xs r) (omega arith) in omega arith

-- what holds of a map's fields holds of what its callers see
pub sound_seen : {T : Type 0} {adv : T → ℕ → T} {same : T → T → Bool} {fits : T → Bool} {cap : ℕ} {v w : Mapped T} → v ≡ w → Sound adv same fits v.blocks v.extents cap → Sound adv same fits w.blocks w.extents cap
sound_seen {T} {adv} {same} {fits} {cap} e s = subst (λ (x : Mapped T). Sound adv same fits x.blocks x.extents cap) e s

-- more room is room (the edit `insert_refused_grows` cites it, so that it is refused for its refusal alone)
pub roomier : {T : Type 0} {adv : T → ℕ → T} {same : T → T → Bool} {fits : T → Bool} {n cap wide : ℕ} {xs : List (Extent T)} → Sound adv same fits n xs cap → cap ≤ wide → Sound adv same fits n xs wide
roomier s l = record { table = s.table; range = s.range; width = s.width; room = omega (arith, s.room, l) }

-- what holds of a map's extents
module _ {T : Type 0} {adv : T → ℕ → T} {same : T → T → Bool} {fits : T → Bool} {n cap : ℕ} {xs : List (Extent T)} (s : Sound adv same fits n xs cap) where
  pub sound_table : is_table adv same xs ≡ true
  sound_table = s.table

  pub sound_range : all_in_range adv fits n xs ≡ true
  sound_range = s.range

  pub sound_widest : all_in_range adv fits (2 ^ 32 - 1) xs ≡ true
  sound_widest = widest adv fits n xs s.width s.range

  pub sound_short : Laws adv same fits → length xs ≤ n
  sound_short laws = table_short laws n xs s.table s.range

-- an extent that a map takes
module _ {T : Type 0} (adv : T → ℕ → T) (fits : T → Bool) (n : ℕ) (e : Extent T) (h : extent_refusal adv fits n e ≡ None) where
  abbrev inner : Option MapFault
  inner = cond (ltb n (end e)) (Some OutOfRange) (cond (fits (adv e.target (e.length - 1))) None (Some TooWide))

  pub taken_some : 1 ≤ e.length
  taken_some =
      ⊎_elim
      (λ (z : e.length ≡ 0). absurd (none-some _ (sym h ∙ cond-true (eqb e.length 0) (Some Empty) inner (eq-eqb _ _ z))))
      (λ z. omega (arith, z))
      (cases_eq e.length 0)

  past_empty : inner ≡ None
  past_empty = sym (cond-false (eqb e.length 0) (Some Empty) inner (ne_eqb _ _ (λ (z : e.length ≡ 0). let s = taken_some in omega arith))) ∙ h

  pub taken_ends : end e ≤ n
  taken_ends =
      ⊎_elim
      (λ (l : n < end e). absurd (none-some _ (sym past_empty ∙ cond-true (ltb n (end e)) _ _ (lt-ltb _ _ l))))
      (λ (l : end e ≤ n). l)
      (cases_lt n (end e))

  taken_fits : fits (adv e.target (e.length - 1)) ≡ true
  taken_fits =
      ⊎_elim
      (λ f. f)
      (λ f. absurd (none-some _ (sym past_empty ∙ cond-false (ltb n (end e)) _ _ (le-ltb _ _ taken_ends) ∙ cond-false (fits (adv e.target (e.length - 1))) None _ f)))
      (cases_Bool (fits (adv e.target (e.length - 1))))

  pub taken_range : (k : ℕ) → n ≤ k → in_range adv fits k e ≡ true
  taken_range k l = let m = taken_ends in and_from _ _ (le-leb _ _ (omega arith)) taken_fits
