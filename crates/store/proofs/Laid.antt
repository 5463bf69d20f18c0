-- Pages one after another.
use Rattle.std.proofs.Common.{◌≡◌, ℕ, zero, suc, ◌+◌, ◌-◌, ◌*◌, ◌<◌, ◌≤◌, true, false, cond, ◌&&◌, eqb, ltb, List, [], ◌∷◌, ◌++◌, length, get_or, take, drop, sym, refl, ap, ◌∙◌, ⊎_elim, arith, take-add, rules}
use lib.Seq.{paste}
use Rattle.std.proofs.lemmas.Bool.Decides.{nat_tests}
use Rattle.std.proofs.lemmas.Bool.{and_parts, and_from, ltb-true, eqb-false, cases_lt, cases_eq, lt-ltb}
use Rattle.std.specs.List.{range_with_len}
use Rattle.std.proofs.lemmas.List.FromFn.{map-range_with_len_more}
use Rattle.std.proofs.lemmas.List.{length-append, length-drop, length-take-le, take_at, drop_at, drop-drop, drop-take, take-take, take-append-drop, append_assoc, take-append-le, drop-append-le, drop_more, take_all, map-id}
use Rattle.store.specs.PagedSound.{page, laid, copies, below, length_page, length_laid}

pub laid_append : (a ps qs : List ℕ) → laid a (ps ++ qs) ≡ laid a ps ++ laid a qs
laid_append a [] qs = refl
laid_append a (p ∷ ps) qs = ap (λ z. page a p ++ z) (laid_append a ps qs) ∙ sym (append_assoc (page a p) (laid a ps) (laid a qs))

pub copies_append : (p : ℕ) (xs ys : List ℕ) → copies p (xs ++ ys) ≡ copies p xs + copies p ys
copies_append p [] ys = omega arith
copies_append p (x ∷ xs) ys = let ih = copies_append p xs ys in omega arith

pub below_append : (n : ℕ) (xs ys : List ℕ) → below n (xs ++ ys) ≡ (below n xs && below n ys)
below_append n [] ys = refl
below_append n (x ∷ xs) ys = let ih = below_append n xs ys in grind (arith, nat_tests)

-- pages that are not written stay
pub laid_else : (a b ps : List ℕ) (p : ℕ) → copies p ps ≡ 0 → ((q : ℕ) → (q ≡ p → ⊥) → page b q ≡ page a q) → laid b ps ≡ laid a ps
laid_else a b [] p c h = refl
laid_else a b (q ∷ ps) p c h =
    let t : eqb p q ≡ false = grind (arith, nat_tests) in
    let k : copies p ps ≡ 0 = omega arith in
    let ih = laid_else a b ps p k h in
    let e = h q (λ z. eqb-false p q t (sym z)) in
    cc

-- the pages before and from a place
pub laid_take : (a ps : List ℕ) (n q : ℕ) → below n ps ≡ true → length a ≡ 1024 * n → q ≤ length ps → take (1024 * q) (laid a ps) ≡ laid a (take q ps)
laid_take a ps n q b e h =
    let s : laid a ps ≡ laid a (take q ps) ++ laid a (drop q ps) = ap (laid a) (sym (take-append-drop q ps)) ∙ laid_append a (take q ps) (drop q ps) in
    let o = below_append n (take q ps) (drop q ps) in
    let m : below n (take q ps ++ drop q ps) ≡ true = ap (below n) (take-append-drop q ps) ∙ b in
    let z : below n (take q ps) ≡ true = (and_parts (below n (take q ps)) (below n (drop q ps)) (sym o ∙ m)).0 in
    let l : length (laid a (take q ps)) ≡ 1024 * q = length_laid a (take q ps) n z e ∙ ap (λ y. 1024 * y) (length-take-le q ps h) in
    ap (take (1024 * q)) s ∙ take_at (laid a (take q ps)) (laid a (drop q ps)) (1024 * q) l

pub laid_drop : (a ps : List ℕ) (n q : ℕ) → below n ps ≡ true → length a ≡ 1024 * n → q ≤ length ps → drop (1024 * q) (laid a ps) ≡ laid a (drop q ps)
laid_drop a ps n q b e h =
    let s : laid a ps ≡ laid a (take q ps) ++ laid a (drop q ps) = ap (laid a) (sym (take-append-drop q ps)) ∙ laid_append a (take q ps) (drop q ps) in
    let o = below_append n (take q ps) (drop q ps) in
    let m : below n (take q ps ++ drop q ps) ≡ true = ap (below n) (take-append-drop q ps) ∙ b in
    let z : below n (take q ps) ≡ true = (and_parts (below n (take q ps)) (below n (drop q ps)) (sym o ∙ m)).0 in
    let l : length (laid a (take q ps)) ≡ 1024 * q = length_laid a (take q ps) n z e ∙ ap (λ y. 1024 * y) (length-take-le q ps h) in
    ap (drop (1024 * q)) s ∙ drop_at (laid a (take q ps)) (laid a (drop q ps)) (1024 * q) l

pub below_at : (n : ℕ) (ps : List ℕ) (q : ℕ) → below n ps ≡ true → q < length ps → get_or ps q 0 < n
below_at n [] q b h = search rules
below_at n (p ∷ ps) zero b h = ltb-true p n (and_parts (ltb p n) (below n ps) b).0
below_at n (p ∷ ps) (suc q) b h = below_at n ps q (and_parts (ltb p n) (below n ps) b).1 (omega arith)

-- a part within one page is read where the page lies
pub laid_read : (a ps : List ℕ) (n q off count : ℕ) → below n ps ≡ true → length a ≡ 1024 * n → q < length ps → off + count ≤ 1024
    → take count (drop (1024 * q + off) (laid a ps)) ≡ take count (drop (1024 * get_or ps q 0 + off) a)
laid_read a ps n q off count b e h k =
    let p = get_or ps q 0 in
    let d : drop (1024 * q) (laid a ps) ≡ page a p ++ laid a (drop (q + 1) ps) = laid_drop a ps n q b e (omega arith) ∙ ap (laid a) (drop_more ps q 0 h) in
    let m : p < n = below_at n ps q b h in
    let lp = length_page a p n m e in
    let x : take count (drop off (page a p ++ laid a (drop (q + 1) ps))) ≡ take count (drop off (page a p)) = ap (take count) (drop-append-le off (page a p) (laid a (drop (q + 1) ps)) (omega arith)) ∙ take-append-le count (drop off (page a p)) (laid a (drop (q + 1) ps)) (simp length-drop (omega arith)) in
    let l : off + (1024 - off) ≡ 1024 = omega arith in
    let y : drop off (page a p) ≡ take (1024 - off) (drop off (drop (1024 * p) a)) = ap (λ z. drop off (take z (drop (1024 * p) a))) (sym l) ∙ drop-take off (1024 - off) (drop (1024 * p) a) in
    let w : take count (take (1024 - off) (drop off (drop (1024 * p) a))) ≡ take count (drop off (drop (1024 * p) a)) = take-take count (1024 - off) (drop off (drop (1024 * p) a)) (omega arith) in
    ap (take count) (sym (drop-drop off (1024 * q) (laid a ps)) ∙ ap (drop off) d) ∙ x ∙ ap (take count) y ∙ w ∙ ap (take count) (drop-drop off (1024 * p) a)

split_page : (ps : List ℕ) (q : ℕ) → q < length ps → ps ≡ take q ps ++ get_or ps q 0 ∷ drop (q + 1) ps
split_page ps q h = sym (take-append-drop q ps) ∙ ap (λ z. take q ps ++ z) (drop_more ps q 0 h)

take_past : (xs ys : List ℕ) (m : ℕ) → take (length xs + m) (xs ++ ys) ≡ xs ++ take m ys
take_past xs ys m =
    let t = take_at xs ys (length xs) refl in
    let d = drop_at xs ys (length xs) refl in
    take-add (length xs) m (xs ++ ys) ∙ cc

-- the pages of an area of which the beginning of one was written
pub page_written : (a bs : List ℕ) (p n : ℕ) → p < n → length a ≡ 1024 * n → length bs ≤ 1024
    → page (take (1024 * p) a ++ (bs ++ drop (1024 * p + length bs) a)) p ≡ bs ++ drop (length bs) (page a p)
page_written a bs p n h e k =
    let at = 1024 * p in
    let lt : length (take at a) ≡ at = length-take-le at a (omega arith) in
    let x : drop at (take at a ++ (bs ++ drop (at + length bs) a)) ≡ bs ++ drop (at + length bs) a = drop_at (take at a) (bs ++ drop (at + length bs) a) at lt in
    let l : length bs + (1024 - length bs) ≡ 1024 = omega arith in
    let y : take 1024 (bs ++ drop (at + length bs) a) ≡ bs ++ take (1024 - length bs) (drop (at + length bs) a) = ap (λ z. take z (bs ++ drop (at + length bs) a)) (sym l) ∙ take_past bs (drop (at + length bs) a) (1024 - length bs) in
    let w : drop (length bs) (page a p) ≡ take (1024 - length bs) (drop (length bs) (drop at a)) = ap (λ z. drop (length bs) (take z (drop at a))) (sym l) ∙ drop-take (length bs) (1024 - length bs) (drop at a) in
    let v : drop (length bs) (drop at a) ≡ drop (at + length bs) a = drop-drop (length bs) at a in
    ap (take 1024) x ∙ y ∙ ap (λ z. bs ++ take (1024 - length bs) z) (sym v) ∙ ap (λ z. bs ++ z) (sym w)

pub page_else : (a bs : List ℕ) (p q n : ℕ) → p < n → length a ≡ 1024 * n → length bs ≤ 1024 → (q ≡ p → ⊥)
    → page (take (1024 * p) a ++ (bs ++ drop (1024 * p + length bs) a)) q ≡ page a q
page_else a bs p q n h e k ne = ⊎_elim low high (cases_lt q p)
  where
    low : q < p → page (take (1024 * p) a ++ (bs ++ drop (1024 * p + length bs) a)) q ≡ page a q
    low l =
        let lt : length (take (1024 * p) a) ≡ 1024 * p = length-take-le (1024 * p) a (omega arith) in
        let x = drop-append-le (1024 * q) (take (1024 * p) a) (bs ++ drop (1024 * p + length bs) a) (omega arith) in
        let y = take-append-le 1024 (drop (1024 * q) (take (1024 * p) a)) (bs ++ drop (1024 * p + length bs) a) (simp length-drop (omega arith)) in
        let s : 1024 * q + (1024 * p - 1024 * q) ≡ 1024 * p = omega arith in
        let z : drop (1024 * q) (take (1024 * p) a) ≡ take (1024 * p - 1024 * q) (drop (1024 * q) a) = ap (λ m. drop (1024 * q) (take m a)) (sym s) ∙ drop-take (1024 * q) (1024 * p - 1024 * q) a in
        ap (take 1024) x ∙ y ∙ ap (take 1024) z ∙ take-take 1024 (1024 * p - 1024 * q) (drop (1024 * q) a) (omega arith)

    high : p ≤ q → page (take (1024 * p) a ++ (bs ++ drop (1024 * p + length bs) a)) q ≡ page a q
    high l =
        let g : p < q = omega (arith, ne) in
        let lt : length (take (1024 * p) a) ≡ 1024 * p = length-take-le (1024 * p) a (omega arith) in
        let ll : length (take (1024 * p) a ++ bs) ≡ 1024 * p + length bs = length-append (take (1024 * p) a) bs ∙ ap (λ z. z + length bs) lt in
        let s : 1024 * p + length bs + (1024 * q - (1024 * p + length bs)) ≡ 1024 * q = omega arith in
        let x : drop (1024 * p + length bs) (take (1024 * p) a ++ (bs ++ drop (1024 * p + length bs) a)) ≡ drop (1024 * p + length bs) a = ap (drop (1024 * p + length bs)) (sym (append_assoc (take (1024 * p) a) bs (drop (1024 * p + length bs) a))) ∙ drop_at (take (1024 * p) a ++ bs) (drop (1024 * p + length bs) a) (1024 * p + length bs) ll in
        let d = drop-drop (1024 * q - (1024 * p + length bs)) (1024 * p + length bs) in
        let y : drop (1024 * q) (take (1024 * p) a ++ (bs ++ drop (1024 * p + length bs) a)) ≡ drop (1024 * q) a =
        ap (λ m. drop m (take (1024 * p) a ++ (bs ++ drop (1024 * p + length bs) a))) (sym s) ∙ sym (d (take (1024 * p) a ++ (bs ++ drop (1024 * p + length bs) a))) ∙ ap (drop (1024 * q - (1024 * p + length bs))) x ∙ d a ∙ ap (λ m. drop m a) s in
        ap (take 1024) y

pub laid_write : (a b bs ps : List ℕ) (n q : ℕ) → below n ps ≡ true → length a ≡ 1024 * n → q < length ps → length bs ≤ 1024 → ((p : ℕ) → copies p ps ≤ 1)
    → b ≡ take (1024 * get_or ps q 0) a ++ (bs ++ drop (1024 * get_or ps q 0 + length bs) a)
    → laid b ps ≡ paste (laid a ps) (1024 * q) bs (length bs)
laid_write a b bs ps n q w e h k once hb =
    let p = get_or ps q 0 in
    let xs = take q ps in
    let ys = drop (q + 1) ps in
    let s = split_page ps q h in
    let m : p < n = below_at n ps q w h in
    let c : copies p ps ≡ copies p xs + copies p (p ∷ ys) = ap (copies p) s ∙ copies_append p xs (p ∷ ys) in
    let o = once p in
    let t : cond {A = ℕ} (eqb p p) 1 0 ≡ 1 = grind (arith, nat_tests) in
    let cx : copies p xs ≡ 0 = omega arith in
    let cy : copies p ys ≡ 0 = omega arith in
    let el : (r : ℕ) → (r ≡ p → ⊥) → page b r ≡ page a r = λ r ne. ap (λ z. page z r) hb ∙ page_else a bs p r n m e k ne in
    let lx = laid_else a b xs p cx el in
    let ly = laid_else a b ys p cy el in
    let pg : page b p ≡ bs ++ drop (length bs) (page a p) = ap (λ z. page z p) hb ∙ page_written a bs p n m e k in
    let new : laid b ps ≡ laid a xs ++ ((bs ++ drop (length bs) (page a p)) ++ laid a ys) = ap (laid b) s ∙ laid_append b xs (p ∷ ys) ∙ cc in
    let f : take (1024 * q) (laid a ps) ≡ laid a xs = laid_take a ps n q w e (omega arith) in
    let g : drop (1024 * q) (laid a ps) ≡ page a p ++ laid a ys = laid_drop a ps n q w e (omega arith) ∙ ap (laid a) (drop_more ps q 0 h) in
    let lp = length_page a p n m e in
    let d : drop (1024 * q + length bs) (laid a ps) ≡ drop (length bs) (page a p) ++ laid a ys = sym (drop-drop (length bs) (1024 * q) (laid a ps)) ∙ ap (drop (length bs)) g ∙ drop-append-le (length bs) (page a p) (laid a ys) (omega arith) in
    let u : take (length bs) bs ≡ bs = take_all (length bs) bs (omega arith) in
    let r : laid a xs ++ ((bs ++ drop (length bs) (page a p)) ++ laid a ys) ≡ (laid a xs ++ bs) ++ (drop (length bs) (page a p) ++ laid a ys) =
    ap (λ z. laid a xs ++ z) (append_assoc bs (drop (length bs) (page a p)) (laid a ys)) ∙ sym (append_assoc (laid a xs) bs (drop (length bs) (page a p) ++ laid a ys)) in
    new ∙ r ∙ cc

-- the pages of a new store
pub copies_counting : (p a n : ℕ) → (p < a → copies p (range_with_len a n) ≡ 0) × (copies p (range_with_len a n) ≤ 1)
copies_counting p a zero = (λ _. refl, omega arith)
copies_counting p a (suc n) =
    let ih = copies_counting p (a + 1) n in (
      λ h. let x = ih.0 (omega arith) in let t : cond {A = ℕ} (eqb p a) 1 0 ≡ 0 = grind (arith, nat_tests) in omega arith,
      ⊎_elim (λ e. let x = ih.0 (omega arith) in let t : cond {A = ℕ} (eqb p a) 1 0 ≤ 1 = grind (arith, nat_tests) in omega arith)
          (λ e. let x = ih.1 in let t : cond {A = ℕ} (eqb p a) 1 0 ≡ 0 = grind (arith, nat_tests) in omega arith) (cases_eq p a),
    )

pub below_counting : (m a n : ℕ) → a + n ≤ m → below m (range_with_len a n) ≡ true
below_counting m a zero h = refl
below_counting m a (suc n) h = let ih = below_counting m (a + 1) n (omega arith) in and_from (ltb a m) (below m (range_with_len (a + 1) n)) (lt-ltb a m (omega arith)) ih

pub counting_more : (n : ℕ) → range_with_len 0 (n + 1) ≡ range_with_len 0 n ++ n ∷ []
counting_more n = sym (map-id (range_with_len 0 (n + 1))) ∙ map-range_with_len_more (λ x. x) 0 n n (omega arith) ∙ ap (λ z. z ++ n ∷ []) (map-id (range_with_len 0 n))
