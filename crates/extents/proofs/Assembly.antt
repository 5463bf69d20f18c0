-- The table that `insert` puts together from its parts. Assumes nothing.
use Rattle.std.proofs.Common.{◌≡◌, ℕ, ◌+◌, ◌-◌, ◌^◌, ◌<◌, ◌≤◌, Bool, true, leb, List, ◌∷◌, ◌++◌, length, take, drop, Option, sym, ap, ◌∙◌, subst, arith}
use Rattle.std.proofs.lemmas.Bool.{and_parts, leb-true}
use Rattle.std.proofs.lemmas.List.{append_assoc, drop-drop, length-drop}
use Rattle.std.specs.List.{splice}
use Rattle.extents.specs.declared.extent.Extent.{Extent}
use Rattle.extents.specs.Laws.{Laws}
use Rattle.extents.specs.Map.{end, target_at, is_table, in_range, all_in_range}
use Rattle.extents.specs.Answers.{overlaid}
use Rattle.extents.specs.Steps.{reach, joined, joined_onto, left_of, right_of, at_head, listed, EndsInWidth}
use Rattle.extents.proofs.Tables.{Ranged, table, table_test, ranged, ranged_test}
use Rattle.extents.proofs.Reach.{past_reach, reach_within, reach_rises, range_drop}
use Rattle.extents.proofs.Joining.{listed_short, head_held, joined_length}
use Rattle.extents.proofs.Insertion.{left_list, right_list, inserted, right_end, right_parts, left_parts, inserted_table, inserted_range, inserted_target, rest_range}

module _ {T : Type 0} {adv : T → ℕ → T} {same : T → T → Bool} {fits : T → Bool} (laws : Laws adv same fits) (xs : List (Extent T)) (e : Extent T) where
  ends : (n : ℕ) → in_range adv fits n e ≡ true → end e ≤ n
  ends n f = leb-true _ _ (and_parts (leb (end e) n) _ f).0

  fitted : (n : ℕ) → in_range adv fits n e ≡ true → fits (adv e.target (e.length - 1)) ≡ true
  fitted n f = (and_parts (leb (end e) n) _ f).1

  module _ (j : ℕ) (R : Option (Extent T)) (jr : j ≡ reach (end e + 1) xs) (rr : R ≡ at_head (right_of adv (end e)) (drop j xs)) where
    abbrev ys : List (Extent T)
    ys = drop (reach (end e + 1) xs) xs

    right_is : R ≡ at_head (right_of adv (end e)) ys
    right_is = rr ∙ ap (λ k. at_head (right_of adv (end e)) (drop k xs)) jr

    -- what lies right ends within 32 bits
    pub right_short : all_in_range adv fits (2 ^ 32 - 1) xs ≡ true → EndsInWidth R
    right_short r =
        let P : Option (Extent T) → Type 0 = λ o. EndsInWidth o in
        subst P (sym right_is) (right_end laws (end e) (2 ^ 32 - 1) ys (past_reach (end e + 1) xs) (range_drop adv fits (2 ^ 32 - 1) (reach (end e + 1) xs) xs (ranged adv fits (2 ^ 32 - 1) xs r)) (omega arith))

    -- the entries that stay end within the count
    pub upto_within : j + length (listed R) ≤ length xs
    upto_within =
        let w = reach_within (end e + 1) xs in
        let h = head_held (right_of adv (end e)) ys in
        let d = length-drop (reach (end e + 1) xs) xs in
        let q : length (listed R) ≡ length (listed (at_head (right_of adv (end e)) ys)) = ap (λ o. length (listed o)) right_is in
        omega arith

    module _ (m : Extent T) (third : Option (Extent T)) (jm : joined adv same e (listed R) ≡ m ∷ listed third) where
      -- what the joined right part and the entries that stay are
      rest_is : joined adv same e (right_list adv (end e) ys) ≡ m ∷ (listed third ++ drop (j + length (listed R)) xs)
      rest_is =
          right_parts adv same e ys
          ∙ ap (λ o. joined adv same e (listed o) ++ drop (length (listed o)) ys) (sym right_is)
          ∙ ap (λ l. l ++ drop (length (listed R)) ys) jm
          ∙ ap (λ l. m ∷ (listed third ++ l)) (drop-drop (length (listed R)) (reach (end e + 1) xs) xs ∙ ap (λ k. drop (k + length (listed R)) xs) (sym jr))

      pub third_short : length (listed third) ≤ length (listed R)
      third_short = let q = ap length jm in let l = joined_length laws e (listed R) in omega arith

      pub middle_short : is_table adv same xs ≡ true → all_in_range adv fits (2 ^ 32 - 1) xs ≡ true → 1 ≤ e.length → in_range adv fits (2 ^ 32 - 1) e ≡ true → end m < 2 ^ 32
      middle_short t r some f =
          let k : Ranged adv fits (2 ^ 32 - 1) (m ∷ (listed third ++ drop (j + length (listed R)) xs)) = subst (Ranged adv fits (2 ^ 32 - 1)) rest_is (rest_range laws e xs (table laws xs t) some (2 ^ 32 - 1) (ends (2 ^ 32 - 1) f) (fitted (2 ^ 32 - 1) f) (ranged adv fits (2 ^ 32 - 1) xs r)) in
          omega (arith, k.0)

      module _ (i : ℕ) (L : Option (Extent T)) (h : Extent T) (second : Option (Extent T)) (ir : i ≡ reach e.first xs) (lr : L ≡ at_head (left_of e.first) (drop i xs)) (jh : joined_onto adv same L m ≡ h ∷ listed second) where
        pub left_before : i ≤ j
        left_before = let a = reach_rises e.first (end e + 1) xs (omega arith) in omega arith

        pub left_room : i + (1 + length (listed second) + length (listed third)) ≤ j + length (listed R) + 2
        left_room =
            let a = reach_rises e.first (end e + 1) xs (omega arith) in
            let b = listed_short second in
            let c = third_short in
            let d = upto_within in
            omega arith

        pub new_is : (upto : ℕ) (new : List (Extent T)) → upto ≡ j + length (listed R) → new ≡ splice xs i upto (h ∷ (listed second ++ listed third)) → new ≡ inserted adv same e xs
        new_is upto new u q =
            let M = listed third ++ drop (j + length (listed R)) xs in
            q
            ∙ ap (λ k. splice xs i k (h ∷ (listed second ++ listed third))) u
            ∙ ap (λ l. take i xs ++ (h ∷ l)) (append_assoc (listed second) (listed third) (drop (j + length (listed R)) xs))
            ∙ ap (λ l. take i xs ++ (l ++ M)) (sym jh)
            ∙ ap (λ o. take i xs ++ (joined_onto adv same o m ++ M)) lr
            ∙ ap (λ k. take k xs ++ (joined_onto adv same (at_head (left_of e.first) (drop k xs)) m ++ M)) ir
            ∙ ap (λ l. take (reach e.first xs) xs ++ l) (sym (left_parts adv same e.first m M (drop (reach e.first xs) xs)))
            ∙ ap (λ l. take (reach e.first xs) xs ++ left_list adv same e.first l (drop (reach e.first xs) xs)) (sym rest_is)

  -- what the new table is like
  module _ (new : List (Extent T)) (is : new ≡ inserted adv same e xs) (t : is_table adv same xs ≡ true) (some : 1 ≤ e.length) where
    pub new_table : is_table adv same new ≡ true
    new_table = ap (is_table adv same) is ∙ table_test laws (inserted adv same e xs) (inserted_table laws e xs (table laws xs t) some)

    pub new_range : (n : ℕ) → in_range adv fits n e ≡ true → all_in_range adv fits n xs ≡ true → all_in_range adv fits n new ≡ true
    new_range n f r = ap (all_in_range adv fits n) is ∙ ranged_test adv fits n (inserted adv same e xs) (inserted_range laws e xs (table laws xs t) some n (ends n f) (fitted n f) (ranged adv fits n xs r))

    pub new_targets : (b : ℕ) → target_at adv new b ≡ overlaid adv e (target_at adv xs) b
    new_targets b = ap (λ l. target_at adv l b) is ∙ inserted_target laws e xs (table laws xs t) some b
