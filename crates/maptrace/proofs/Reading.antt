-- Numbers, read byte by byte. Assumes nothing.
use Rattle.std.proofs.Common.{◌≡◌, ℕ, List, [], ◌∷◌, length, Some, None, Option, Iter, sym, refl, ap, ◌∙◌, arith}
use Rattle.std.proofs.lemmas.Fn.{fronts}
use Rattle.std.specs.Iterator.{Yields}
use Rattle.std.specs.List.{FoldsTo}
use denote.Ref.{Bor}
use Rattle.maptrace.specs.Words.{then, with_digit, read_on, number_of}

-- the turns of a `try_fold` over bytes, each of which writes a digit after the number
module _ {F : Type 0} (turn : F × ℕ → Bor ℕ → F × ℕ → Type 0) (digit : (p q : F × ℕ) (x : Bor ℕ) → turn p x q → Some q.1 ≡ with_digit p.1 x.now) where
  turns : (xs : List (Bor ℕ)) (s t : Iter ℕ) (p q : F × ℕ) → Yields fronts s xs t → FoldsTo turn p xs q → read_on p.1 s.rest.now ≡ read_on q.1 t.rest.now
  turns [] s t p q y f = ap (λ (z : F × ℕ). read_on z.1 s.rest.now) f ∙ ap (λ (z : Iter ℕ). read_on q.1 z.rest.now) y
  turns (x ∷ xs) s t p q y f =
      ap (read_on p.1) y.1
      ∙ ap (λ o. then o (λ m. read_on m y.0.rest.now)) (sym (digit p f.0 x f.1))
      ∙ turns xs y.0 t f.0 q y.2 f.2

  none_left : (n : ℕ) (bs : List ℕ) → length bs ≡ 0 → Some n ≡ read_on n bs
  none_left n [] l = refl
  none_left n (b ∷ bs) l = absurd (omega arith)

  -- the whole: it ends with the last byte, or at one that is no digit or too much
  pub read_all : (xs : List (Bor ℕ)) (o : Option (Bor ℕ)) (s t u : Iter ℕ) (p q : F × ℕ) (r : Option ℕ) → Yields fronts s xs t → fronts t o u → FoldsTo turn p xs q → (o ≡ None → r ≡ Some q.1) → ((x : Bor ℕ) → o ≡ Some x → (None ≡ with_digit q.1 x.now) × (r ≡ None)) → r ≡ read_on p.1 s.rest.now
  read_all xs None s t u p q r y e f g h = g refl ∙ none_left q.1 t.rest.now e.0 ∙ sym (turns xs s t p q y f)
  read_all xs (Some x) s t u p q r y e f g h =
      let k = h x refl in
      k.1 ∙ ap (λ o. then o (λ m. read_on m u.rest.now)) k.0 ∙ sym (ap (read_on q.1) e) ∙ sym (turns xs s t p q y f)

pub number_read : (w : List ℕ) → (length w ≡ 0 → ⊥) → read_on 0 w ≡ number_of w
number_read [] h = absurd (h refl)
number_read (b ∷ bs) h = refl
