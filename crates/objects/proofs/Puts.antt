-- What one put after another leaves in a buffer. Assumes nothing.
use Rattle.std.proofs.Common.{◌≡◌, ℕ, ◌+◌, ◌-◌, ◌*◌, ◌<◌, ◌≤◌, List, [], ◌∷◌, ◌++◌, length, get_or, take, drop, sym, ap, ◌∙◌, append_assoc, append-nil, mul-le-mul_left, mul-one, mul-add, arith}
use Rattle.std.specs.List.{flat_map}
use Rattle.objects.proofs.Lists.{length_joined}
use lib.Seq.{take-append-add}
use borrow.Rule.Slice.PartMut.{put_mid}
use Rattle.std.proofs.lemmas.List.{length-append, length-take-le, length-drop, drop-drop, drop-take, drop_all, drop-append-le, take_more, flat_map_more}
use Rattle.std.proofs.lemmas.Slice.{take-put_mid, drop-put_mid}
use Rattle.endian.specs.Fields.{placed}
use Rattle.endian.proofs.Laws.{placed_is}

pub length_put_mid : (at n : ℕ) (xs ys : List ℕ) → at + n ≤ length xs → length ys ≡ n → length (put_mid at n xs ys) ≡ length xs
length_put_mid at n xs ys room long =
    let front : length (take at xs) ≡ at = length-take-le at xs (omega arith) in
    let back : length (drop n (drop at xs)) ≡ length xs - at - n = simp (length-drop) in
    length-append (take at xs) (ys ++ drop n (drop at xs)) ∙ ap (λ k. length (take at xs) + k) (length-append ys (drop n (drop at xs))) ∙ omega arith

-- a part right after a part
pub put_on : (at n m next : ℕ) (xs ys zs mid after : List ℕ) → at + n + m ≤ length xs → length ys ≡ n → next ≡ at + n → mid ≡ put_mid at n xs ys → after ≡ put_mid next m mid zs → after ≡ put_mid at (n + m) xs (ys ++ zs)
put_on at n m next xs ys zs mid after room long is-next first put =
    let front : take next mid ≡ take at xs ++ ys = ap (take next) first ∙ take-put_mid at n xs ys next (omega arith) (omega arith) in
    let whole : drop (next + m) mid ≡ drop (next + m) xs = ap (drop (next + m)) first ∙ drop-put_mid at n xs ys (next + m) (omega arith) (omega arith) long in
    let sum : at + (n + m) ≡ next + m = omega arith in
    let back : drop m (drop next mid) ≡ drop (n + m) (drop at xs) = drop-drop m next mid ∙ whole ∙ ap (λ k. drop k xs) (sym sum) ∙ sym (drop-drop (n + m) at xs) in
    put ∙ ap (λ l. l ++ (zs ++ drop m (drop next mid))) front ∙ ap (λ l. (take at xs ++ ys) ++ (zs ++ l)) back ∙ simp append_assoc

-- a put right after a part
pub put_more : (at n m next : ℕ) (xs ys zs mid after : List ℕ) → at + n + m ≤ length xs → length ys ≡ n → next ≡ at + n → mid ≡ put_mid at n xs ys → after ≡ placed next m zs mid → after ≡ put_mid at (n + m) xs (ys ++ zs)
put_more at n m next xs ys zs mid after room long is-next first second =
    let size : length mid ≡ length xs = ap length first ∙ length_put_mid at n xs ys (omega arith) long in
    put_on at n m next xs ys zs mid after room long is-next first (second ∙ placed_is next m zs mid (omega arith))

-- the first put
pub put_first : (at n : ℕ) (xs ys after : List ℕ) → at + n ≤ length xs → after ≡ placed at n ys xs → after ≡ put_mid at n xs ys
put_first at n xs ys after room e = e ∙ placed_is at n ys xs room

-- a part of a fixed count of bytes that has room
pub put_part_of : (at n : ℕ) (mid part bytes after : List ℕ) → after ≡ placed at (length part) part mid → part ≡ bytes → length bytes ≡ n → at + n ≤ length mid → after ≡ put_mid at n mid bytes
put_part_of at n mid part bytes after put is long room =
    put ∙ ap (λ p. placed at (length p) p mid) is ∙ ap (λ k. placed at k bytes mid) long ∙ placed_is at n bytes mid room

-- what stands from a base on grows by a part that is put at its end
pub grown : (base n m at : ℕ) (xs ys : List ℕ) → at + m ≤ length xs → length ys ≡ m → at ≡ base + n → take (n + m) (drop base (put_mid at m xs ys)) ≡ take n (drop base xs) ++ ys
grown base n m at xs ys room long is =
    let end : base + (n + m) ≡ at + length ys = omega arith in
    let whole : take (base + (n + m)) (put_mid at m xs ys) ≡ take at xs ++ ys = take-put_mid at m xs ys (base + (n + m)) end (omega arith) in
    let front : length (take at xs) ≡ at = length-take-le at xs (omega arith) in
    sym (drop-take base (n + m) (put_mid at m xs ys)) ∙ ap (drop base) whole ∙ drop-append-le base (take at xs) ys (omega arith)
    ∙ ap (λ k. drop base (take k xs) ++ ys) is ∙ ap (λ l. l ++ ys) (drop-take base n xs)

-- a part at the front, and so much of what follows
pub headed : (n m : ℕ) (xs ys : List ℕ) → length ys ≡ n → take (n + m) (put_mid 0 n xs ys) ≡ ys ++ take m (drop n xs)
headed n m xs ys long = ap (λ k. take (k + m) (ys ++ drop n xs)) (sym long) ∙ take-append-add ys (drop n xs) m

-- a part at the end of things that were put one after another
pub put_thing : {X : Type 0} (enc : X → List ℕ) (step base : ℕ) → ((x : X) → length (enc x) ≡ step) → (things : List X) (i at : ℕ) (x : X) (xs mid after : List ℕ)
    → i < length things → get_or things i x ≡ x → base + step * length things ≤ length xs → at ≡ base + step * i
    → mid ≡ put_mid base (step * i) xs (flat_map enc (take i things)) → after ≡ put_mid at step mid (enc x) → after ≡ put_mid base (step * (i + 1)) xs (flat_map enc (take (i + 1) things))
put_thing enc step base each things i at x xs mid after h is room place first put =
    let front : length (take i things) ≡ i = length-take-le i things (omega arith) in
    let long : length (flat_map enc (take i things)) ≡ step * i = length_joined enc step each (take i things) ∙ ap (λ k. step * k) front in
    let p : step * (i + 1) ≡ step * i + step = mul-add step i 1 ∙ ap (λ k. step * i + k) (mul-one step) in
    let q : step * (i + 1) ≤ step * length things = mul-le-mul_left step (omega arith) in
    let more : take (i + 1) things ≡ take i things ++ x ∷ [] = take_more things i x h ∙ ap (λ y. take i things ++ y ∷ []) is in
    let text : flat_map enc (take (i + 1) things) ≡ flat_map enc (take i things) ++ enc x = ap (flat_map enc) more ∙ sym (flat_map_more enc [] (take i things) x) in
    put_on base (step * i) step at xs (flat_map enc (take i things)) (enc x) mid after (omega arith) long place first put
    ∙ ap (λ k. put_mid base k xs (flat_map enc (take i things) ++ enc x)) (sym p) ∙ ap (put_mid base (step * (i + 1)) xs) (sym text)

-- a part that covers all the bytes
pub put_whole : (n : ℕ) (xs ys : List ℕ) → length xs ≤ n → put_mid 0 n xs ys ≡ ys
put_whole n xs ys all = ap (λ l. ys ++ l) (drop_all n xs all) ∙ append-nil ys
