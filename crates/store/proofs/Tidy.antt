-- Directories with lawful entries and no number twice.
use Rattle.std.proofs.Common.{◌≡◌, ℕ, suc, ◌<◌, true, false, not, ◌&&◌, eqb, leb, List, [], ◌∷◌, ◌++◌, length, get_or, take, drop, sym, refl, ap, ◌∙◌, add-one, arith}
use Rattle.std.proofs.lemmas.Bool.Decides.{nat_tests}
use Rattle.std.proofs.lemmas.Bool.{or_parts, and_parts, not-true}
use Rattle.std.proofs.lemmas.List.{drop_more, take-append-drop}
use Rattle.store.specs.declared.directory.Entry.{Entry}
use Rattle.store.specs.Calls.{lawful_length}
use Rattle.store.specs.Entries.{named, tidy, risen}
use Rattle.store.proofs.Entered.{named_append}

-- a directory around its entry i
pub split_at : (es : List Entry) (i : ℕ) (d : Entry) → i < length es → es ≡ take i es ++ get_or es i d ∷ drop (suc i) es
split_at es i d h = sym (take-append-drop i es) ∙ ap (λ z. take i es ++ z) (drop_more es i d h ∙ ap (λ k. get_or es i d ∷ drop k es) (add-one i))

pub tidy_parts : (e : Entry) (es : List Entry) → tidy (e ∷ es) ≡ true → (leb 1 e.number ≡ true) × (lawful_length e.length ≡ true) × (named es e.number ≡ false) × (tidy es ≡ true)
tidy_parts e es h =
    let p = and_parts (leb 1 e.number && lawful_length e.length) (not (named es e.number) && tidy es) h in
    let q = and_parts (leb 1 e.number) (lawful_length e.length) p.0 in
    let r = and_parts (not (named es e.number)) (tidy es) p.1 in
    (q.0, q.1, not-true (named es e.number) r.0, r.1)

-- no entry before or after has an entry's number
pub tidy_before : (pre : List Entry) (e : Entry) (post : List Entry) → tidy (pre ++ e ∷ post) ≡ true → named pre e.number ≡ false
tidy_before [] e post h = refl
tidy_before (y ∷ pre) e post h =
    let p = tidy_parts y (pre ++ e ∷ post) h in
    let a = named_append pre (e ∷ post) y.number in
    let ih = tidy_before pre e post p.3 in
    let n = p.2 in
    grind (arith, nat_tests)

pub tidy_after : (pre : List Entry) (e : Entry) (post : List Entry) → tidy (pre ++ e ∷ post) ≡ true → named post e.number ≡ false
tidy_after [] e post h = (tidy_parts e post h).2
tidy_after (y ∷ pre) e post h = tidy_after pre e post (tidy_parts y (pre ++ e ∷ post) h).3

pub tidy_length : (pre : List Entry) (e : Entry) (post : List Entry) → tidy (pre ++ e ∷ post) ≡ true → lawful_length e.length ≡ true
tidy_length [] e post h = (tidy_parts e post h).1
tidy_length (y ∷ pre) e post h = tidy_length pre e post (tidy_parts y (pre ++ e ∷ post) h).3

pub tidy_removed : (pre : List Entry) (e : Entry) (post : List Entry) → tidy (pre ++ e ∷ post) ≡ true → tidy (pre ++ post) ≡ true
tidy_removed [] e post h = (tidy_parts e post h).3
tidy_removed (y ∷ pre) e post h =
    let p = tidy_parts y (pre ++ e ∷ post) h in
    let a = named_append pre (e ∷ post) y.number in
    let b = named_append pre post y.number in
    let ih = tidy_removed pre e post p.3 in
    let n = p.2 in let g = p.0 in let l = p.1 in
    grind (arith, nat_tests)

pub tidy_risen : (pre : List Entry) (e : Entry) (post : List Entry) → tidy (pre ++ risen e ∷ post) ≡ tidy (pre ++ e ∷ post)
tidy_risen [] e post = refl
tidy_risen (y ∷ pre) e post =
    let a : named (pre ++ risen e ∷ post) y.number ≡ named (pre ++ e ∷ post) y.number = named_append pre (risen e ∷ post) y.number ∙ sym (named_append pre (e ∷ post) y.number) in
    let ih = tidy_risen pre e post in
    cc

pub tidy_push : (es : List Entry) (e : Entry) → tidy es ≡ true → named es e.number ≡ false → leb 1 e.number ≡ true → lawful_length e.length ≡ true → tidy (es ++ e ∷ []) ≡ true
tidy_push [] e h f g l = cc
tidy_push (y ∷ es) e h f g l =
    let p = tidy_parts y es h in
    let q = or_parts (eqb y.number e.number) (named es e.number) f in
    let ih = tidy_push es e p.3 q.1 g l in
    let a = named_append es (e ∷ []) y.number in
    let r = q.0 in let n = p.2 in let k = p.0 in let m = p.1 in
    grind (arith, nat_tests)
