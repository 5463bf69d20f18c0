-- Tables as facts, and what they say of a block's target. Assumes nothing.
use Rattle.std.proofs.Common.{◌≡◌, ℕ, ◌+◌, ◌-◌, ◌<◌, ◌≤◌, Bool, true, false, cond, eqb, leb, List, [], ◌∷◌, ◌++◌, Some, None, sym, refl, ap, ◌∙◌, ⊎_elim, arith}
use Rattle.std.proofs.lemmas.Bool.{and_parts, and_from, and_left, and_right, le-leb, lt-leb, leb-true, lt-ltb, le-ltb, eqb-true, eq-eqb, not-true, not_from_false, both_ways, cases_Bool, cases_lt, cond-true, cond-false}
use Rattle.std.proofs.lemmas.Option.{same_Some, none-some}
use Rattle.extents.specs.declared.extent.Extent.{Extent}
use Rattle.extents.specs.Laws.{Laws}
use Rattle.extents.specs.Map.{extent, end, covers, target_in, target_at, goes_on, may_follow, is_table, in_range, all_in_range, OneWriting}
use Rattle.extents.specs.Steps.{without}

module _ {T : Type 0} (adv : T → ℕ → T) where
  -- x may stand after e
  abbrev pub After : Extent T → Extent T → Type 0
  After e x = (end e ≤ x.first) × (end e ≡ x.first → x.target ≡ adv e.target e.length → ⊥)

  abbrev pub Next : Extent T → List (Extent T) → Type 0
  Next e [] = Unit {0}
  Next e (x ∷ xs) = After e x

  abbrev pub Table : List (Extent T) → Type 0
  Table [] = Unit {0}
  Table (e ∷ es) = (1 ≤ e.length) × Next e es × Table es

  -- the first extent begins at p or later
  abbrev pub From : ℕ → List (Extent T) → Type 0
  From p [] = Unit {0}
  From p (e ∷ es) = p ≤ e.first

  -- every extent ends by n, and fits
  abbrev pub Ranged : (T → Bool) → ℕ → List (Extent T) → Type 0
  Ranged fits n [] = Unit {0}
  Ranged fits n (e ∷ es) = (end e ≤ n) × (fits (adv e.target (e.length - 1)) ≡ true) × Ranged fits n es

  pub from_weaker : (p q : ℕ) (xs : List (Extent T)) → q ≤ p → From p xs → From q xs
  from_weaker p q [] l f = tt
  from_weaker p q (e ∷ es) l f = omega arith

  pub from_next : (e : Extent T) (xs : List (Extent T)) → Next e xs → From (end e) xs
  from_next e [] n = tt
  from_next e (x ∷ xs) n = n.0

  -- what begins after the end of p may stand after it
  pub gap_next : (p : Extent T) (q : ℕ) (ys : List (Extent T)) → end p < q → From q ys → Next p ys
  gap_next p q [] l f = tt
  gap_next p q (y ∷ ys) l f = (omega arith, λ e _. omega arith)

  pub ranged : (fits : T → Bool) (n : ℕ) (xs : List (Extent T)) → all_in_range adv fits n xs ≡ true → Ranged fits n xs
  ranged fits n [] h = tt
  ranged fits n (e ∷ es) h =
      let p = and_parts (in_range adv fits n e) _ h in
      let q = and_parts (leb (end e) n) _ p.0 in
      (leb-true _ _ q.0, q.1, ranged fits n es p.1)

  pub ranged_test : (fits : T → Bool) (n : ℕ) (xs : List (Extent T)) → Ranged fits n xs → all_in_range adv fits n xs ≡ true
  ranged_test fits n [] r = refl
  ranged_test fits n (e ∷ es) r = and_from _ _ (and_from _ _ (le-leb _ _ r.0) r.1) (ranged_test fits n es r.2)

  pub range_wider : (fits : T → Bool) (m n : ℕ) (xs : List (Extent T)) → m ≤ n → Ranged fits m xs → Ranged fits n xs
  range_wider fits m n [] l r = tt
  range_wider fits m n (e ∷ es) l r = (omega (arith, r.0), r.1, range_wider fits m n es l r.2)

  -- the target of a block inside an extent, and of one outside it
  pub inside : (e : Extent T) (es : List (Extent T)) (b : ℕ) → e.first ≤ b → b < end e → target_at adv (e ∷ es) b ≡ Some (target_in adv e b)
  inside e es b l h = cond-true (covers e b) _ _ (and_from _ _ (le-leb _ _ l) (lt-ltb _ _ h))

  pub before : (e : Extent T) (es : List (Extent T)) (b : ℕ) → b < e.first → target_at adv (e ∷ es) b ≡ target_at adv es b
  before e es b l = cond-false (covers e b) _ _ (and_left _ _ (lt-leb _ _ l))

  pub beyond : (e : Extent T) (es : List (Extent T)) (b : ℕ) → end e ≤ b → target_at adv (e ∷ es) b ≡ target_at adv es b
  beyond e es b l = cond-false (covers e b) _ _ (and_right (leb e.first b) _ (le-ltb _ _ l))

  pub none_before : (p b : ℕ) (xs : List (Extent T)) → Table xs → From p xs → b < p → target_at adv xs b ≡ None
  none_before p b [] t f l = refl
  none_before p b (e ∷ es) t f l = before e es b (omega arith) ∙ none_before (end e) b es t.2 (from_next e es t.1) (omega arith)

  -- other extents after the same front
  pub target_behind : (b : ℕ) (xs ys zs : List (Extent T)) → target_at adv ys b ≡ target_at adv zs b → target_at adv (xs ++ ys) b ≡ target_at adv (xs ++ zs) b
  target_behind b [] ys zs h = h
  target_behind b (e ∷ es) ys zs h = ap (cond (covers e b) _) (target_behind b es ys zs h)

pub extent_is : {T : Type 0} (x y : Extent T) → x.first ≡ y.first → x.length ≡ y.length → x.target ≡ y.target → x ≡ y
extent_is x y f n t = ap (λ k. extent k x.length x.target) f ∙ ap (λ k. extent y.first k x.target) n ∙ ap (extent y.first y.length) t

module _ {T : Type 0} {adv : T → ℕ → T} {same : T → T → Bool} {fits : T → Bool} (laws : Laws adv same fits) where
  pub onward : (t : T) (i j k : ℕ) → i + j ≡ k → adv (adv t i) j ≡ adv t k
  onward t i j k e = laws.twice t i j ∙ ap (adv t) e

  -- an extent without its first blocks stands where it stood
  pub trim_next : (k : ℕ) (e : Extent T) (es : List (Extent T)) → k < e.length → Next adv e es → Next adv (without adv k e) es
  trim_next k e [] l n = tt
  trim_next k e (x ∷ xs) l n = (omega (arith, n.0), λ q r. n.1 (omega arith) (r ∙ onward e.target k (e.length - k) e.length (omega arith)))

  -- what fits further on fits
  pub fits_before : (t : T) (i k : ℕ) → i ≤ k → fits (adv t k) ≡ true → fits (adv t i) ≡ true
  fits_before t i k l h = laws.narrows (adv t i) (k - i) (ap fits (onward t i (k - i) k (omega arith)) ∙ h)

  pub joins_end : (e x : Extent T) → goes_on adv same e x ≡ true → end e ≡ x.first
  joins_end e x g = eqb-true _ _ (and_parts (eqb (end e) x.first) _ g).0

  pub joins_target : (e x : Extent T) → goes_on adv same e x ≡ true → x.target ≡ adv e.target e.length
  joins_target e x g = laws.alike _ _ (and_parts (eqb (end e) x.first) _ g).1

  pub apart : (e x : Extent T) → goes_on adv same e x ≡ false → end e ≤ x.first → After adv e x
  apart e x g l = (l, λ q r. both_ways _ g (and_from _ _ (eq-eqb _ _ q) (ap (same x.target) (sym r) ∙ laws.itself x.target)))

  apart_test : (e x : Extent T) → After adv e x → goes_on adv same e x ≡ false
  apart_test e x a = ⊎_elim (λ g. absurd (a.1 (joins_end e x g) (joins_target e x g))) (λ g. g) (cases_Bool (goes_on adv same e x))

  pub follows_fact : (e : Extent T) (xs : List (Extent T)) → may_follow adv same e xs ≡ true → Next adv e xs
  follows_fact e [] h = tt
  follows_fact e (x ∷ xs) h = let p = and_parts (leb (end e) x.first) _ h in apart e x (not-true _ p.1) (leb-true _ _ p.0)

  pub follows_test : (e : Extent T) (xs : List (Extent T)) → Next adv e xs → may_follow adv same e xs ≡ true
  follows_test e [] n = refl
  follows_test e (x ∷ xs) n = and_from _ _ (le-leb _ _ n.0) (not_from_false _ (apart_test e x n))

  pub table : (xs : List (Extent T)) → is_table adv same xs ≡ true → Table adv xs
  table [] h = tt
  table (e ∷ es) h =
      let p = and_parts (leb 1 e.length) _ h in
      let q = and_parts (may_follow adv same e es) _ p.1 in
      (leb-true _ _ p.0, follows_fact e es q.0, table es q.1)

  pub table_test : (xs : List (Extent T)) → Table adv xs → is_table adv same xs ≡ true
  table_test [] t = refl
  table_test (e ∷ es) t = and_from _ _ (le-leb _ _ t.0) (and_from _ _ (follows_test e es t.1) (table_test es t.2))

  -- one writing
  at_first : (e : Extent T) (es : List (Extent T)) → 1 ≤ e.length → target_at adv (e ∷ es) e.first ≡ Some e.target
  at_first e es l =
      let z : e.first - e.first ≡ 0 = omega arith in
      inside adv e es e.first (omega arith) (omega arith) ∙ ap (λ n. Some (adv e.target n)) z ∙ ap Some (laws.none e.target)

  -- a table after an extent does not give the block at its end the extent's next target
  stops : (e : Extent T) (xs : List (Extent T)) → Next adv e xs → Table adv xs → target_at adv xs (end e) ≡ Some (adv e.target e.length) → ⊥
  stops e [] n t h = none-some _ h
  stops e (x ∷ xs) n t h =
      ⊎_elim
      (λ (l : end e < x.first). none-some _ (sym (none_before adv x.first (end e) (x ∷ xs) t (omega arith) l) ∙ h))
      (λ (l : x.first ≤ end e).
      let q : end e ≡ x.first = omega (arith, n.0) in
      n.1 q (same_Some _ _ (sym (at_first x xs t.0) ∙ ap (target_at adv (x ∷ xs)) (sym q) ∙ h)))
      (cases_lt (end e) x.first)

  module _ (x y : Extent T) (xs ys : List (Extent T)) (tx : Table adv (x ∷ xs)) (ty : Table adv (y ∷ ys)) (h : (b : ℕ) → target_at adv (x ∷ xs) b ≡ target_at adv (y ∷ ys) b) where
    no_earlier : x.first < y.first → ⊥
    no_earlier l = none-some _ (sym (none_before adv y.first x.first (y ∷ ys) ty (omega arith) l) ∙ sym (h x.first) ∙ at_first x xs tx.0)

    no_shorter : x.first ≡ y.first → x.target ≡ y.target → x.length < y.length → ⊥
    no_shorter f t l =
        let d : end x - y.first ≡ x.length = omega arith in
        stops x xs tx.1 tx.2
        (sym (beyond adv x xs (end x) (omega arith)) ∙ h (end x) ∙ inside adv y ys (end x) (omega arith) (omega arith) ∙ ap (λ n. Some (adv y.target n)) d ∙ ap (λ u. Some (adv u x.length)) (sym t))

    rests : x ≡ y → (b : ℕ) → target_at adv xs b ≡ target_at adv ys b
    rests e b =
        let ends : end x ≡ end y = ap end e in
        ⊎_elim
        (λ (l : b < end x).
        none_before adv (end x) b xs tx.2 (from_next adv x xs tx.1) l
        ∙ sym (none_before adv (end y) b ys ty.2 (from_next adv y ys ty.1) (omega arith)))
        (λ (l : end x ≤ b). sym (beyond adv x xs b l) ∙ h b ∙ beyond adv y ys b (omega arith))
        (cases_lt b (end x))

  one_table : (xs ys : List (Extent T)) → Table adv xs → Table adv ys → ((b : ℕ) → target_at adv xs b ≡ target_at adv ys b) → xs ≡ ys
  one_table [] [] tx ty h = refl
  one_table [] (y ∷ ys) tx ty h = absurd (none-some _ (h y.first ∙ at_first y ys ty.0))
  one_table (x ∷ xs) [] tx ty h = absurd (none-some _ (sym (h x.first) ∙ at_first x xs tx.0))
  one_table (x ∷ xs) (y ∷ ys) tx ty h =
      let back : (b : ℕ) → target_at adv (y ∷ ys) b ≡ target_at adv (x ∷ xs) b = λ b. sym (h b) in
      let e1 = no_earlier x y xs ys tx ty h in
      let e2 = no_earlier y x ys xs ty tx back in
      let f : x.first ≡ y.first = omega (arith, e1, e2) in
      let t : x.target ≡ y.target = same_Some _ _ (sym (at_first x xs tx.0) ∙ h x.first ∙ ap (target_at adv (y ∷ ys)) f ∙ at_first y ys ty.0) in
      let s1 = no_shorter x y xs ys tx ty h f t in
      let s2 = no_shorter y x ys xs ty tx back (sym f) (sym t) in
      let n : x.length ≡ y.length = omega (arith, s1, s2) in
      let e = extent_is x y f n t in
      ap (λ z. z ∷ xs) e ∙ ap (λ zs. y ∷ zs) (one_table xs ys tx.2 ty.2 (rests x y xs ys tx ty h e))

  pub one_writing : OneWriting adv same
  one_writing xs ys tx ty h = one_table xs ys (table xs tx) (table ys ty) h
