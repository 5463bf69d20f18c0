-- Lists after a move and writes in place. Assumes nothing.
use Rattle.std.proofs.Common.{◌≡◌, ℕ, suc, ◌+◌, ◌-◌, ◌<◌, ◌≤◌, List, [], ◌∷◌, ◌++◌, length, take, drop, set, Bool, Option, Some, None, is_some, sym, refl, ap, ◌∙◌, arith, rules}
use mir.Val.{bool_byte}
use lib.Seq.{paste}
use Rattle.std.proofs.lemmas.List.{places, same_lists, set_split, append_assoc, length-append, take_at, take-append-le}
use Rattle.std.specs.List.{splice}
use Rattle.extents.specs.Steps.{listed}
use Rattle.std.proofs.lemmas.List.Edits.{paste-paste}

module _ {X : Type 0} where
  pub set_pastes : (d : List X) (at : ℕ) (y : X) → at < length d → set d at y ≡ paste d at (y ∷ []) 1
  set_pastes d at y l =
      let e : suc at ≡ at + 1 = omega arith in
      set_split d at y l ∙ ap (λ k. take at d ++ (y ∷ drop k d)) e ∙ sym (append_assoc (take at d) (y ∷ []) (drop (at + 1) d))

  -- what is put where it stands changes nothing
  pub pasted_same : (s : List X) (from k : ℕ) → from + k ≤ length s → s ≡ paste s from (drop from s) k
  pasted_same s from k room = same_lists _ _ (search (rules, places)) (λ i d h. grind (arith, places))

  -- `new` in the place of the entries from `at` to before `upto`, and those after them moved
  pub spliced : (s new : List X) (at upto count n : ℕ) → n ≡ length new → upto ≤ count → count ≤ length s → at + n + (count - upto) ≤ length s → take (at + n + (count - upto)) (paste (paste s (at + n) (drop upto s) (count - upto)) at new n) ≡ take at s ++ (new ++ drop upto (take count s))
  spliced s new at upto count n size part within room = same_lists _ _ (search (rules, places)) (λ k d h. grind (arith, places))

  -- three writes, one after the other
  three_writes : (d : List X) (at : ℕ) (h : X) (ys zs : List X) → at < length d → paste (paste (set d at h) (at + 1) ys (length ys)) (at + 1 + length ys) zs (length zs) ≡ paste d at ((h ∷ ys) ++ zs) (1 + length ys + length zs)
  three_writes d at h ys zs l =
      let e : at + 1 + length ys ≡ at + (1 + length ys) = omega arith in
      ap (λ x. paste (paste x (at + 1) ys (length ys)) (at + 1 + length ys) zs (length zs)) (set_pastes d at h l)
      ∙ ap (λ x. paste x (at + 1 + length ys) zs (length zs)) (paste-paste d at (h ∷ []) ys 1 (length ys) refl refl (omega arith))
      ∙ ap (λ k. paste (paste d at (h ∷ ys) (1 + length ys)) k zs (length zs)) e
      ∙ paste-paste d at (h ∷ ys) zs (1 + length ys) (length zs) (omega arith) refl (omega arith)

  -- the move, and the writes into the gap
  pub moved_and_written : (s s₁ s₂ s₃ : List X) (at upto count len next : ℕ) (h : X) (ys zs : List X) → len ≡ 1 + length ys + length zs → at < length s₁ → s₁ ≡ paste s (at + len) (drop upto s) (count - upto) → s₂ ≡ paste (set s₁ at h) (at + 1) ys (length ys) → next ≡ at + 1 + length ys → s₃ ≡ paste s₂ next zs (length zs) → s₃ ≡ paste (paste s (at + (1 + length ys + length zs)) (drop upto s) (count - upto)) at ((h ∷ ys) ++ zs) (1 + length ys + length zs)
  moved_and_written s s₁ s₂ s₃ at upto count len next h ys zs el l e₁ e₂ en e₃ =
      e₃
      ∙ ap (λ k. paste s₂ k zs (length zs)) en
      ∙ ap (λ d. paste d (at + 1 + length ys) zs (length zs)) e₂
      ∙ three_writes s₁ at h ys zs l
      ∙ ap (λ d. paste d at ((h ∷ ys) ++ zs) (1 + length ys + length zs)) (e₁ ∙ ap (λ k. paste s (at + k) (drop upto s) (count - upto)) el)

  -- the entries from `at` to before `upto` replaced, by way of two more at the end
  pub replaced : (xs s s₁ s₂ s₃ : List X) (at upto count next rest : ℕ) (h : X) (ys zs : List X) → s ≡ (xs ++ h ∷ []) ++ h ∷ [] → count ≡ length xs → at ≤ upto → upto ≤ count → at + (1 + length ys + length zs) ≤ upto + 2 → next ≡ at + 1 + length ys → rest ≡ next + length zs → length s₁ ≡ length s → s₁ ≡ paste s rest (drop upto s) (count - upto) → s₂ ≡ paste (set s₁ at h) (at + 1) ys (length ys) → s₃ ≡ paste s₂ next zs (length zs) → take (rest + (count - upto)) s₃ ≡ splice xs at upto (h ∷ (ys ++ zs))
  replaced xs s s₁ s₂ s₃ at upto count next rest h ys zs is all order part within en er len e₁ e₂ e₃ =
      let n = 1 + length ys + length zs in
      let whole : s ≡ xs ++ (h ∷ (h ∷ [])) = is ∙ append_assoc xs (h ∷ []) (h ∷ []) in
      let room : length s ≡ length xs + 2 = ap length whole ∙ length-append xs (h ∷ (h ∷ [])) in
      let r : rest ≡ at + n = omega arith in
      let size : n ≡ length ((h ∷ ys) ++ zs) = omega (arith, length-append (h ∷ ys) zs) in
      let moved = moved_and_written s s₁ s₂ s₃ at upto count n next h ys zs refl (omega arith) (e₁ ∙ ap (λ k. paste s k (drop upto s) (count - upto)) r) e₂ en e₃ in
      ap (λ k. take (k + (count - upto)) s₃) r
      ∙ ap (take (at + n + (count - upto))) moved
      ∙ spliced s ((h ∷ ys) ++ zs) at upto count n size part (omega arith) (omega arith)
      ∙ ap (λ l. take at l ++ (((h ∷ ys) ++ zs) ++ drop upto (take count l))) whole
      ∙ ap (λ l. l ++ (((h ∷ ys) ++ zs) ++ drop upto (take count (xs ++ (h ∷ (h ∷ [])))))) (take-append-le at xs (h ∷ (h ∷ [])) (omega arith))
      ∙ ap (λ l. take at xs ++ (((h ∷ ys) ++ zs) ++ drop upto l)) (take_at xs (h ∷ (h ∷ [])) count (sym all))

pub held_count : {X : Type 0} (o : Option X) (b : Bool) (n : ℕ) → b ≡ is_some o → n ≡ bool_byte b → n ≡ length (listed o)
held_count None b n h k = k ∙ ap bool_byte h
held_count (Some x) b n h k = k ∙ ap bool_byte h
