-- Bytes of an area that are written or moved.
use Rattle.std.proofs.Common.{◌≡◌, ℕ, ◌+◌, ◌-◌, ◌≤◌, List, ◌++◌, length, take, drop, ap, ◌∙◌, arith}
use borrow.Rule.Slice.PartMut.{post_of}
use lib.Seq.{paste}
use Rattle.std.proofs.lemmas.List.{length-append, length-drop, length-take, length-take-le, take_at, drop_at, drop-drop, append_assoc}

-- what a vector holds once part of it has been written
pub written : (xs ys d z bs : List ℕ) (n at k e : ℕ) → n ≡ length xs → d ≡ xs → z ≡ bs → k ≡ length bs → e ≡ at + k → at + k ≤ n
    → take n ((take at d ++ (z ++ post_of at (e - at) d)) ++ drop (length (take at d ++ (z ++ post_of at (e - at) d))) ys) ≡ take at xs ++ (bs ++ drop (at + k) xs)
written xs ys d z bs n at k e hn hd hz hk he h =
    let q : post_of at (e - at) d ≡ drop (at + k) xs = ap (λ t. post_of at (e - at) t) hd ∙ drop-drop (e - at) at xs ∙ ap (λ t. drop t xs) (omega arith) in
    let x : take at d ++ (z ++ post_of at (e - at) d) ≡ take at xs ++ (bs ++ drop (at + k) xs) = cc in
    let l : length (take at xs ++ (bs ++ drop (at + k) xs)) ≡ n = simp (length-append, length-take, length-drop) (omega arith) in
    take_at (take at d ++ (z ++ post_of at (e - at) d)) (drop (length (take at d ++ (z ++ post_of at (e - at) d))) ys) n (ap length x ∙ l) ∙ x

-- the area after what lay behind a hole has moved up
pub closed_front : (a : List ℕ) (start : ℕ) (s : List ℕ) (n : ℕ) → start ≤ length a → take start (paste a start s n) ≡ take start a
closed_front a start s n h = ap (take start) (append_assoc (take start a) (take n s) (drop (start + n) a)) ∙ take_at (take start a) (take n s ++ drop (start + n) a) start (length-take-le start a h)

pub closed_back : (a : List ℕ) (start : ℕ) (s : List ℕ) (n : ℕ) → start ≤ length a → n ≤ length s → take n (drop start (paste a start s n)) ≡ take n s
closed_back a start s n h k =
    ap (λ z. take n (drop start z)) (append_assoc (take start a) (take n s) (drop (start + n) a)) ∙ ap (take n) (drop_at (take start a) (take n s ++ drop (start + n) a) start (length-take-le start a h)) ∙ take_at (take n s) (drop (start + n) a) n (length-take-le n s k)
