-- Numbers spelled from their last digit, and bytes put after others. Assumes nothing.
use Rattle.std.proofs.Common.{◌≡◌, ℕ, ◌+◌, ◌<◌, List, [], ◌∷◌, ◌++◌, length, get_or, take, decimal, ap, ◌∙◌}
use Rattle.std.proofs.lemmas.List.{append_assoc}
use Rattle.answers.specs.Answers.{Reply, numbers, verdict, items_text, replied}
use Rattle.answers.proofs.Replies.{items_more}

-- one item more
pub item_more : (us ts bs cs xs : List ℕ) (i : ℕ) → i < length xs → ts ≡ us ++ items_text (take i xs) → bs ≡ ts ++ 32 ∷ [] → cs ≡ bs ++ decimal (get_or xs i 0) → cs ≡ us ++ items_text (take (i + 1) xs)
item_more us ts bs cs xs i h p q r =
    let t = items_text (take i xs) in
    let d = decimal (get_or xs i 0) in
    r ∙ ap (λ l. l ++ d) (q ∙ ap (λ l. l ++ 32 ∷ []) p) ∙ append_assoc (us ++ t) (32 ∷ []) d ∙ append_assoc us t (32 ∷ d) ∙ ap (λ l. us ++ l) (items_more xs i h)

-- the parts of an answer, one after the other
pub answer_whole : (us vs ws xs ys zs bs : List ℕ) (x : Reply) → vs ≡ us ++ 40 ∷ [] → ws ≡ vs ++ decimal x.line → xs ≡ ws ++ 32 ∷ [] → ys ≡ xs ++ verdict x.outcome → zs ≡ ys ++ items_text (numbers x.outcome) → bs ≡ zs ++ 41 ∷ [] → bs ≡ us ++ replied x
answer_whole us vs ws xs ys zs bs x p q r s t u =
    u ∙ ap (λ l. l ++ 41 ∷ []) (t ∙ ap (λ l. l ++ items_text (numbers x.outcome)) (s ∙ ap (λ l. l ++ verdict x.outcome) (r ∙ ap (λ l. l ++ 32 ∷ []) (q ∙ ap (λ l. l ++ decimal x.line) p))))
    ∙ simp append_assoc
