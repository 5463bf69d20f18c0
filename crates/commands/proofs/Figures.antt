-- Numbers are written one way, and readers of digits read what is written. Assumes nothing.
use Rattle.std.proofs.Common.{◌≡◌, ℕ, ◌+◌, ◌-◌, ◌*◌, ◌/◌, ◌%◌, ◌^◌, ◌<◌, ◌≤◌, Bool, true, false, cond, eqb, leb, List, [], ◌∷◌, ◌++◌, get_or, Some, None, decimal, Option, sym, refl, ap, ◌∙◌, subst, append_assoc, arith}
use Rattle.std.proofs.lemmas.Fmt.{decimal_digit, decimal_step, decimal_by_steps}
use Rattle.std.proofs.lemmas.Bool.{leb-true, le-leb, ne_eqb, and_parts, and_from, eqb-false}
use Rattle.commands.specs.Numbers.{digit, number_on, number_in}

pub digit_range : (c : ℕ) → digit c ≡ true → (48 ≤ c) × (c ≤ 57)
digit_range c e = let p = and_parts (leb 48 c) (leb c 57) e in (leb-true _ _ p.0, leb-true _ _ p.1)

pub digit_of : (d : ℕ) → d < 10 → digit (48 + d) ≡ true
digit_of d h = and_from _ _ (le-leb 48 (48 + d) (omega arith)) (le-leb (48 + d) 57 (omega arith))

-- one digit more at the end of a number
pub decimal_next : (n d : ℕ) → 0 < n → d < 10 → 10 * n + d < 2 ^ 64 → decimal (10 * n + d) ≡ decimal n ++ (48 + d) ∷ []
decimal_next n d p q h =
    let e1 : (10 * n + d) / 10 ≡ n = omega arith in
    let e2 : (10 * n + d) % 10 ≡ d = omega arith in
    decimal_step (10 * n + d) (omega arith) h ∙ ap (λ x. decimal x ++ (48 + (10 * n + d) % 10) ∷ []) e1 ∙ ap (λ x. decimal n ++ (48 + x) ∷ []) e2

-- a reader that takes one digit after another takes a number whole
pub reads_decimal : {R : Type 0} (begin : List ℕ → R) (on : ℕ → List ℕ → R) (most : ℕ) → most < 2 ^ 64
    → ((d : ℕ) (s : List ℕ) → d < 10 → begin ((48 + d) ∷ s) ≡ on d s)
    → ((n d : ℕ) (s : List ℕ) → 0 < n → d < 10 → 10 * n + d ≤ most → on n ((48 + d) ∷ s) ≡ on (10 * n + d) s)
    → (m : ℕ) → m ≤ most → (s : List ℕ) → begin (decimal m ++ s) ≡ on m s
reads_decimal begin on most low one more m h s =
    decimal_by_steps (λ k ds. k ≤ most → (r : List ℕ) → begin (ds ++ r) ≡ on k r)
    (λ n p _ r. one n r p)
    (λ n ds p rec q r.
    let e : 10 * (n / 10) + n % 10 ≡ n = omega arith in
    ap begin (append_assoc ds ((48 + n % 10) ∷ []) r)
    ∙ rec (omega arith) ((48 + n % 10) ∷ r)
    ∙ more (n / 10) (n % 10) r (omega arith) (omega arith) (omega arith)
    ∙ ap (λ k. on k r) e)
    m (omega arith) h s

-- nothing that follows is a digit
abbrev pub Stops : List ℕ → Type 0
Stops r = digit (get_or r 0 0) ≡ false

pub some_same : {A B : Type 0} (a b : A) (x y : B) → ◌≡◌ {A = Option (A × B)} (Some (a, x)) (Some (b, y)) → (a ≡ b) × (x ≡ y)
some_same {A} {B} a b x y e = let z : ◌≡◌ {A = A × B} (a, x) (b, y) = cc in (ap (λ p. p.0) z, ap (λ p. p.1) z)

-- what was read of a number, with what is left, is the number that is read and what is left then
pub record Number (most : ℕ) (s : List ℕ) (m : ℕ) (r : List ℕ) : Type 0 where
  pub is : s ≡ decimal m ++ r
  pub low : m ≤ most
  pub stops : Stops r

module _ (most : ℕ) (small : most < 2 ^ 64) where
  number_ends : (n : ℕ) (s : List ℕ) (m : ℕ) (r : List ℕ) → n ≤ most → Stops s → ◌≡◌ {A = Option (ℕ × List ℕ)} (Some (n, s)) (Some (m, r)) → Number most (decimal n ++ s) m r
  number_ends n s m r h st e =
      let p = some_same n m s r e in
      record { is = ap (λ k. decimal k ++ s) p.0 ∙ ap (λ l. decimal m ++ l) p.1; low = subst (λ k. k ≤ most) p.0 h; stops = subst Stops p.1 st }

  pub number_on_is : (n : ℕ) (s : List ℕ) (m : ℕ) (r : List ℕ) → n ≤ most → number_on most n s ≡ Some (m, r) → Number most (decimal n ++ s) m r
  number_on_is n [] m r h e = number_ends n [] m r h refl e
  number_on_is n (c ∷ cs) m r h e = digits (λ l f. number_on_is (10 * n + (c - 48)) cs m r l f) (digit c) refl e where
    room : (10 * n + (c - 48) ≤ most → number_on most (10 * n + (c - 48)) cs ≡ Some (m, r) → Number most (decimal (10 * n + (c - 48)) ++ cs) m r) → (b : Bool) → leb (10 * n + (c - 48)) most ≡ b → digit c ≡ true → (n ≡ 0 → ⊥) → cond b (number_on most (10 * n + (c - 48)) cs) None ≡ Some (m, r) → Number most (decimal n ++ c ∷ cs) m r
    room rec true l d z f =
        let g = digit_range c d in
        let low : (10 * n + (c - 48)) ≤ most = leb-true _ _ l in
        let done = rec low f in
        let same : 48 + (c - 48) ≡ c = omega (arith, g.0) in
        let w : decimal (10 * n + (c - 48)) ≡ decimal n ++ (48 + (c - 48)) ∷ [] = decimal_next n (c - 48) (omega arith) (omega (arith, g.1)) (omega arith) in
        record {
          is = sym (ap (λ x. decimal n ++ x ∷ cs) same) ∙ sym (append_assoc (decimal n) ((48 + (c - 48)) ∷ []) cs) ∙ ap (λ l. l ++ cs) (sym w) ∙ done.is;
          low = done.low;
          stops = done.stops;
        }
    room rec false l d z f = cc

    zeros : (10 * n + (c - 48) ≤ most → number_on most (10 * n + (c - 48)) cs ≡ Some (m, r) → Number most (decimal (10 * n + (c - 48)) ++ cs) m r) → (b : Bool) → eqb n 0 ≡ b → digit c ≡ true → cond b None (cond (leb (10 * n + (c - 48)) most) (number_on most (10 * n + (c - 48)) cs) None) ≡ Some (m, r) → Number most (decimal n ++ c ∷ cs) m r
    zeros rec true z d f = cc
    zeros rec false z d f = room rec (leb (10 * n + (c - 48)) most) refl d (eqb-false _ _ z) f

    digits : (10 * n + (c - 48) ≤ most → number_on most (10 * n + (c - 48)) cs ≡ Some (m, r) → Number most (decimal (10 * n + (c - 48)) ++ cs) m r) → (b : Bool) → digit c ≡ b → cond b (cond (eqb n 0) None (cond (leb (10 * n + (c - 48)) most) (number_on most (10 * n + (c - 48)) cs) None)) (Some (n, c ∷ cs)) ≡ Some (m, r) → Number most (decimal n ++ c ∷ cs) m r
    digits rec true d f = zeros rec (eqb n 0) refl d f
    digits rec false d f = number_ends n (c ∷ cs) m r h d f

  -- what is read as a number is its writing
  pub number_is : 9 ≤ most → (s : List ℕ) (m : ℕ) (r : List ℕ) → number_in most s ≡ Some (m, r) → Number most s m r
  number_is nine [] m r e = cc
  number_is nine (c ∷ cs) m r e = begins (digit c) refl e where
    begins : (b : Bool) → digit c ≡ b → cond b (number_on most (c - 48) cs) None ≡ Some (m, r) → Number most (c ∷ cs) m r
    begins false d f = cc
    begins true d f =
        let g = digit_range c d in
        let rec = number_on_is (c - 48) cs m r (omega (arith, g.1)) f in
        let same : 48 + (c - 48) ≡ c = omega (arith, g.0) in
        let w = decimal_digit (c - 48) (omega (arith, g.1)) in
        record { is = sym (ap (λ x. x ∷ cs) same) ∙ ap (λ l. l ++ cs) (sym w) ∙ rec.is; low = rec.low; stops = rec.stops }

  number_on_stops : (m : ℕ) (r : List ℕ) → Stops r → number_on most m r ≡ Some (m, r)
  number_on_stops m [] st = refl
  number_on_stops m (c ∷ cs) st = ap (λ b. cond b (cond (eqb m 0) None (cond (leb (10 * m + (c - 48)) most) (number_on most (10 * m + (c - 48)) cs) None)) (Some (m, c ∷ cs))) st

  take_back : (d : ℕ) → 48 + d - 48 ≡ d
  take_back d = omega arith

  number_one : (d : ℕ) (s : List ℕ) → d < 10 → number_in most ((48 + d) ∷ s) ≡ number_on most d s
  number_one d s h = ap (λ b. cond b (number_on most (48 + d - 48) s) None) (digit_of d h) ∙ ap (λ k. number_on most k s) (take_back d)

  number_next : (n d : ℕ) (s : List ℕ) → 0 < n → d < 10 → 10 * n + d ≤ most → number_on most n ((48 + d) ∷ s) ≡ number_on most (10 * n + d) s
  number_next n d s p q h =
      let rest : ℕ → Option (ℕ × List ℕ) = λ k. cond (eqb n 0) None (cond (leb (10 * n + k) most) (number_on most (10 * n + k) s) None) in
      ap (λ b. cond b (rest (48 + d - 48)) (Some (n, (48 + d) ∷ s))) (digit_of d q)
      ∙ ap rest (take_back d)
      ∙ ap (λ b. cond b None (cond (leb (10 * n + d) most) (number_on most (10 * n + d) s) None)) (ne_eqb n 0 (λ z. omega arith))
      ∙ ap (λ b. cond b (number_on most (10 * n + d) s) None) (le-leb _ _ h)

  -- a number's writing is read as the number
  pub number_back : (m : ℕ) (r : List ℕ) → m ≤ most → Stops r → number_in most (decimal m ++ r) ≡ Some (m, r)
  number_back m r h st = reads_decimal (number_in most) (number_on most) most small number_one number_next m h r ∙ number_on_stops m r st
