-- Steps of the loops that check entries. Assumes nothing.
use Rattle.std.proofs.Common.{◌≡◌, ℕ, ◌+◌, ◌<◌, ◌≤◌, Bool, true, false, ◌&&◌, eqb, List, ◌∷◌, length, get_or, drop, sym, ap, ◌∙◌, arith}
use Rattle.std.proofs.lemmas.List.{at_drop_more, at_drop_all}
use Rattle.std.proofs.lemmas.Bool.{and_left}
use Rattle.objects.specs.declared.entry.Entry.{Entry}
use Rattle.objects.specs.Layout.{total}
use Rattle.objects.specs.Rules.{every}

-- a function of what is left, one element on
pub left_more : {X Y : Type 0} (F : List X → Y) (xs : List X) (i : ℕ) (x : X) → i < length xs → get_or xs i x ≡ x → F (drop i xs) ≡ F (x ∷ drop (i + 1) xs)
left_more F xs i x h is = at_drop_more F xs i x h ∙ ap (λ y. F (y ∷ drop (i + 1) xs)) is

pub fits_more : {X : Type 0} (ok : X → Bool) (xs : List X) (i : ℕ) (x : X) → i < length xs → get_or xs i x ≡ x → ok x ≡ true → every ok (drop i xs) ≡ every ok xs → every ok (drop (i + 1) xs) ≡ every ok xs
fits_more ok xs i x h is good inv = ap (λ b. b && every ok (drop (i + 1) xs)) (sym good) ∙ sym (left_more (every ok) xs i x h is) ∙ inv

pub fits_stop : {X : Type 0} (ok : X → Bool) (xs : List X) (i : ℕ) (x : X) → i < length xs → get_or xs i x ≡ x → ok x ≡ false → every ok (drop i xs) ≡ every ok xs → every ok xs ≡ false
fits_stop ok xs i x h is bad inv = sym inv ∙ left_more (every ok) xs i x h is ∙ and_left (ok x) _ bad

pub total_more : (es : List Entry) (i sum : ℕ) (e : Entry) → i < length es → get_or es i e ≡ e → sum + total (drop i es) ≡ total es → sum + e.count + total (drop (i + 1) es) ≡ total es
total_more es i sum e h is inv = let step = left_more total es i e h is in omega arith

pub sum_end : (most blocks tally : ℕ) (ok : Entry → Bool) (es : List Entry) (i sum : ℕ) → length es ≤ i → every ok (drop i es) ≡ every ok es → sum + total (drop i es) ≡ total es → eqb sum tally ≡ (every ok es && eqb (total es) tally)
sum_end most blocks tally ok es i sum h inv adds =
    let all : every ok es ≡ true = sym inv ∙ at_drop_all (every ok) es i h in
    let none = at_drop_all total es i h in
    let same : sum ≡ total es = omega arith in
    ap (λ n. eqb n tally) same ∙ ap (λ b. b && eqb (total es) tally) (sym all)
