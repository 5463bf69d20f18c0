-- Answer lines. Assumes nothing.
use Rattle.std.proofs.Common.{◌≡◌, ℕ, ◌+◌, ◌-◌, ◌^◌, ◌<◌, List, [], ◌∷◌, ◌++◌, map, length, get_or, take, drop, decimal, Ok, Err, sym, refl, ap, ◌∙◌, arith}
use Rattle.std.proofs.lemmas.List.{take_more, take_all, map_push, append-nil, append_assoc}
use Rattle.commands.specs.Grammar.{spaced}
use Rattle.std.specs.List.{AllByRecursion}
use Rattle.commands.specs.Numbers.{number_in}
use Rattle.answers.specs.Answers.{Outcome, items_text, numbers, verdict, OneAnswer}
use Rattle.commands.proofs.Figures.{Stops, some_same, number_back}
use Rattle.commands.proofs.Listings.{spaced_end}

spaced_push : (ts : List (List ℕ)) (t : List ℕ) → spaced (ts ++ t ∷ []) [] ≡ spaced ts [] ++ (32 ∷ t)
spaced_push [] t = ap (λ l. 32 ∷ l) (append-nil t)
spaced_push (u ∷ ts) t = ap (λ l. 32 ∷ (u ++ l)) (spaced_push ts t) ∙ ap (λ l. 32 ∷ l) (sym (append_assoc u (spaced ts []) (32 ∷ t)))

-- one item more
pub items_more : (xs : List ℕ) (i : ℕ) → i < length xs → items_text (take i xs) ++ (32 ∷ decimal (get_or xs i 0)) ≡ items_text (take (i + 1) xs)
items_more xs i h = sym (ap items_text (take_more xs i 0 h) ∙ ap (λ l. spaced l []) (map_push decimal (take i xs) (get_or xs i 0)) ∙ spaced_push (map decimal (take i xs)) (decimal (get_or xs i 0)))

pub items_all : (xs : List ℕ) (i : ℕ) → length xs ≡ i → items_text (take i xs) ≡ items_text xs
items_all xs i h = ap items_text (take_all i xs (omega arith))

-- numbers before something else are told apart
cancel_number : (m n : ℕ) (r s : List ℕ) → m < 2 ^ 64 → n < 2 ^ 64 → Stops r → Stops s → decimal m ++ r ≡ decimal n ++ s → (m ≡ n) × (r ≡ s)
cancel_number m n r s p q x y e =
    some_same m n r s (sym (number_back (2 ^ 64 - 1) (omega arith) m r (omega arith) x) ∙ ap (number_in (2 ^ 64 - 1)) e ∙ number_back (2 ^ 64 - 1) (omega arith) n s (omega arith) y)

abbrev closed : List ℕ → List ℕ
closed ns = spaced (map decimal ns) (41 ∷ [])

closed_stops : (ns : List ℕ) → Stops (closed ns)
closed_stops [] = refl
closed_stops (n ∷ ns) = refl

items_same : (xs ys : List ℕ) → AllByRecursion (λ n. n < 2 ^ 64) xs → AllByRecursion (λ n. n < 2 ^ 64) ys → closed xs ≡ closed ys → xs ≡ ys
items_same [] [] p q e = refl
items_same [] (y ∷ ys) p q e = absurd (let z : ◌≡◌ {A = ℕ} 41 32 = ap (λ l. get_or l 0 0) e in omega arith)
items_same (x ∷ xs) [] p q e = absurd (let z : ◌≡◌ {A = ℕ} 32 41 = ap (λ l. get_or l 0 0) e in omega arith)
items_same (x ∷ xs) (y ∷ ys) p q e =
    let c = cancel_number x y (closed xs) (closed ys) p.0 q.0 (closed_stops xs) (closed_stops ys) (ap (drop 1) e) in
    ap (λ n. n ∷ xs) c.0 ∙ ap (λ l. y ∷ l) (items_same xs ys p.1 q.1 c.1)

outcomes : (a b : Outcome) (r s : List ℕ) → numbers a ≡ numbers b → verdict a ++ r ≡ verdict b ++ s → (a ≡ b) × (r ≡ s)
outcomes (Ok xs) (Ok ys) r s i e = (ap Ok i, ap (drop 2) e)
outcomes (Err xs) (Err ys) r s i e = (ap Err i, ap (drop 2) e)
outcomes (Ok xs) (Err ys) r s i e = absurd (let z : ◌≡◌ {A = ℕ} 111 110 = ap (λ l. get_or l 0 0) e in omega arith)
outcomes (Err xs) (Ok ys) r s i e = absurd (let z : ◌≡◌ {A = ℕ} 110 111 = ap (λ l. get_or l 0 0) e in omega arith)

-- the words have two letters
after_word : (a b : Outcome) (r s : List ℕ) → verdict a ++ r ≡ verdict b ++ s → r ≡ s
after_word (Ok xs) (Ok ys) r s e = ap (drop 2) e
after_word (Ok xs) (Err ys) r s e = ap (drop 2) e
after_word (Err xs) (Ok ys) r s e = ap (drop 2) e
after_word (Err xs) (Err ys) r s e = ap (drop 2) e

-- two different answers never have the same line
pub one_answer : OneAnswer
one_answer x y p q e =
    let a = cancel_number x.line y.line _ _ p.line q.line refl refl (ap (drop 1) e) in
    let w = ap (drop 1) a.1 in
    let xs = numbers x.outcome in
    let ys = numbers y.outcome in
    let rest = after_word x.outcome y.outcome _ _ w in
    let i = items_same xs ys p.items q.items (spaced_end (map decimal xs) (41 ∷ []) ∙ rest ∙ sym (spaced_end (map decimal ys) (41 ∷ []))) in
    let b = outcomes x.outcome y.outcome _ _ i w in
    λ i. record { line = a.0 i; outcome = b.0 i }
