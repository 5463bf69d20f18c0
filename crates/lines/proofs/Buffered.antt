-- A buffer holds the first 256 bytes of a line, and these tell enough. Assumes nothing.
use Rattle.std.proofs.Common.{◌≡◌, ℕ, zero, suc, ◌+◌, ◌-◌, ◌<◌, ◌≤◌, cond, ◌⊎◌, List, [], ◌∷◌, ◌++◌, length, take, set, Ok, Err, Result, sym, refl, ap, ◌∙◌, subst, inl, inr, arith}
use Rattle.std.proofs.lemmas.List.{append-nil, append_assoc, length_push, length-take-le, take_all, take-append-le, take_more_set}
use Rattle.std.proofs.lemmas.Bool.{cases_lt, lt-leb}
use Rattle.commands.specs.declared.call.Call.{Call}
use Rattle.commands.specs.declared.call.Bad.{Bad}
use Rattle.commands.specs.Reading.{Parsed, misfit, reading, left_of}
use Rattle.lines.specs.Buffers.{pushed, FrontTells}

pub push_room : (xs : List ℕ) (n b : ℕ) → n < 256 → length xs ≡ 256 → take (n + 1) (set xs n b) ≡ take 256 (take n xs ++ b ∷ [])
push_room xs n b h l =
    let long : length (take n xs ++ b ∷ []) ≤ 256 = omega (arith, length_push (take n xs) b, length-take-le n xs (omega arith)) in
    take_more_set xs n b (omega arith) ∙ sym (take_all 256 (take n xs ++ b ∷ []) long)

pub push_full : (xs : List ℕ) (n b : ℕ) → 256 ≤ n → n ≤ 256 → length xs ≡ 256 → take n xs ≡ take 256 (take n xs ++ b ∷ [])
push_full xs n b h k l =
    let long = length-take-le n xs (omega arith) in
    sym (take-append-le 256 (take n xs) (b ∷ []) (omega arith) ∙ take_all 256 (take n xs) (omega arith))

take_twice : (n : ℕ) (xs ys : List ℕ) → take n (take n xs ++ ys) ≡ take n (xs ++ ys)
take_twice zero xs ys = refl
take_twice (suc n) [] ys = refl
take_twice (suc n) (x ∷ xs) ys = ap (λ l. x ∷ l) (take_twice n xs ys)

pushed_is : (bs cs : List ℕ) → pushed (take 256 bs) cs ≡ take 256 (bs ++ cs)
pushed_is bs [] = ap (take 256) (sym (append-nil bs))
pushed_is bs (c ∷ cs) =
    ap (λ l. pushed l cs) (take_twice 256 bs (c ∷ []))
    ∙ pushed_is (bs ++ c ∷ []) cs
    ∙ ap (take 256) (append_assoc bs (c ∷ []) cs)

long_misfit : (l : List ℕ) → 255 < length l → misfit l ≡ 255
long_misfit l h = ap (λ x. cond x (length l - left_of (reading l)) 255) (lt-leb (length l) 255 h)

front_parsed : (line : List ℕ) (r : Result Call Bad) → Parsed (take 256 line) r → Parsed line r
front_parsed line r p = go (cases_lt 256 (length line)) r p where
  far : (r : Result Call Bad) → 256 < length line → Parsed (take 256 line) r → Parsed line r
  far (Ok c) h q = absurd (let l = length-take-le 256 line (omega arith) in omega (arith, q.short))
  far (Err b) h q =
      let l = length-take-le 256 line (omega arith) in
      ((λ a w. omega (arith, w.short)), q.1 ∙ long_misfit (take 256 line) (omega arith) ∙ sym (long_misfit line (omega arith)))

  go : (256 < length line) ⊎ (length line ≤ 256) → (r : Result Call Bad) → Parsed (take 256 line) r → Parsed line r
  go (inl h) r q = far r h q
  go (inr h) r q = subst (λ l. Parsed l r) (take_all 256 line h) q

pub front_tells : FrontTells
front_tells line r p = front_parsed line r (subst (λ l. Parsed l r) (pushed_is [] line) p)
