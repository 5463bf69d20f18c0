-- A table with one more extent at its end. Assumes nothing.
use Rattle.std.proofs.Common.{◌≡◌, ℕ, zero, suc, ◌-◌, ◌<◌, ◌≤◌, Bool, true, false, ◌&&◌, leb, List, [], ◌∷◌, ◌++◌, length, slice_get, Some, None, Option, option_copied, sym, refl, ap, ◌∙◌, arith}
use Rattle.std.proofs.lemmas.Bool.{and_parts, and_from, le-leb}
use Rattle.extents.specs.declared.extent.Extent.{Extent}
use denote.Ref.{Bor}
use Rattle.std.proofs.lemmas.Option.{none-some, same_Some}
use Rattle.extents.specs.Map.{may_follow, is_table, in_range, all_in_range}

none_missing : {X : Type 0} (xs : List X) (i : ℕ) → i < length xs → None ≡ slice_get xs i → ⊥
none_missing [] i l q = omega arith
none_missing (x ∷ xs) zero l q = none-some x q
none_missing (x ∷ xs) (suc i) l q = none_missing xs i (omega arith) q

true_and : (a b : Bool) → a ≡ true → (a && b) ≡ b
true_and a b h = ap (λ x. x && b) h

and_true : (a b : Bool) → b ≡ true → (a && b) ≡ a
and_true true b h = h
and_true false b h = refl

module _ {T : Type 0} (adv : T → ℕ → T) (same : T → T → Bool) (e : Extent T) (some : 1 ≤ e.length) where
  one : (is_table adv same (e ∷ [])) ≡ true
  one = and_from _ _ (le-leb 1 e.length some) refl

  end_follows : (xs : List (Extent T)) (i : ℕ) (x : Extent T) → suc i ≡ length xs → is_table adv same xs ≡ true → Some x ≡ slice_get xs i → may_follow adv same x (e ∷ []) ≡ is_table adv same (xs ++ e ∷ [])
  end_follows [] i x l t q = absurd (omega arith)
  end_follows (y ∷ []) zero x l t q =
      let p = and_parts (leb 1 y.length) _ t in
      ap (λ z. may_follow adv same z (e ∷ [])) (same_Some x y q)
      ∙ sym (true_and (leb 1 y.length) _ p.0 ∙ and_true (may_follow adv same y (e ∷ [])) _ one)
  end_follows (y ∷ []) (suc i) x l t q = absurd (omega arith)
  end_follows (y ∷ (z ∷ zs)) zero x l t q = absurd (omega arith)
  end_follows (y ∷ (z ∷ zs)) (suc i) x l t q =
      let p = and_parts (leb 1 y.length) _ t in
      let r = and_parts (may_follow adv same y (z ∷ zs)) _ p.1 in
      end_follows (z ∷ zs) i x (omega arith) r.1 q
      ∙ sym (true_and (leb 1 y.length) _ p.0 ∙ true_and (may_follow adv same y (z ∷ zs)) _ r.0)

  -- the longer list is a table if the last extent, where there is one, may precede e
  pub end_is : (xs : List (Extent T)) → is_table adv same xs ≡ true → (last : Option (Bor (Extent T))) → option_copied last ≡ slice_get xs (length xs - 1) → (b : Bool) → (last ≡ None → b ≡ true) → ((x : Bor (Extent T)) → last ≡ Some x → b ≡ may_follow adv same x.now (e ∷ [])) → b ≡ is_table adv same (xs ++ e ∷ [])
  end_is [] t None q b h f = h refl ∙ sym one
  end_is [] t (Some x) q b h f = absurd (none-some x.now (sym q))
  end_is (y ∷ ys) t None q b h f = absurd (none_missing (y ∷ ys) _ (omega arith) q)
  end_is (y ∷ ys) t (Some x) q b h f = f x refl ∙ end_follows (y ∷ ys) (length (y ∷ ys) - 1) x.now (omega arith) t q

pub range_end : {T : Type 0} (adv : T → ℕ → T) (fits : T → Bool) (n : ℕ) (e : Extent T) (xs : List (Extent T)) → all_in_range adv fits n xs ≡ true → in_range adv fits n e ≡ true → all_in_range adv fits n (xs ++ e ∷ []) ≡ true
range_end adv fits n e [] r f = and_from _ _ f refl
range_end adv fits n e (x ∷ xs) r f = let p = and_parts (in_range adv fits n x) _ r in and_from _ _ p.0 (range_end adv fits n e xs p.1 f)
