-- One step of writing or reading pages.
use Rattle.std.proofs.Common.{◌≡◌, ℕ, ◌+◌, ◌-◌, ◌*◌, ◌/◌, ◌%◌, ◌<◌, ◌≤◌, min, true, ◌&&◌, List, [], ◌∷◌, ◌++◌, length, get_or, take, drop, sym, refl, ap, ◌∙◌, ⊎_elim, arith, take-add}
use borrow.Rule.Slice.PartMut.{post_of}
use lib.Seq.{paste}
use Rattle.std.proofs.lemmas.Bool.{and_parts, and_from, cases_lt}
use Rattle.std.proofs.lemmas.List.Edits.{paste-paste}
use Rattle.std.proofs.lemmas.List.{length-append, length-drop, length-take, length-take-le, take_at, drop_at, drop-drop, take-append-drop, append_assoc, append-nil, take_rest, drop_all, take-append-le, take-take, take_all, get_or-drop}
use Rattle.store.specs.Entries.{Begins}
use Rattle.store.specs.PagedSound.{paged_room, laid, copies, below, GivenOnce, PagedArea, length_laid, room_total}
use Rattle.store.proofs.Laid.{laid_read, laid_write, laid_append, laid_take, laid_drop, copies_append, below_append}

pub read_step : (area order out₀ out out' : List ℕ) (at done count p : ℕ) → below (length order) order ≡ true → length area ≡ 1024 * length order → at + length out₀ ≤ 1024 * length order → done < length out₀ → length out ≡ length out₀
    → out ≡ take done (drop at (laid area order)) ++ drop done out₀ → count ≤ length out₀ - done → (at + done) % 1024 + count ≤ 1024 → p ≡ get_or order ((at + done) / 1024) 0
    → out' ≡ take done out ++ (take count (drop (1024 * p + (at + done) % 1024) area) ++ drop (done + count) out)
    → out' ≡ take (done + count) (drop at (laid area order)) ++ drop (done + count) out₀
read_step area order out₀ out out' at done count p b e f g s inv k m hp r =
    let L = laid area order in
    let l_l = length_laid area order (length order) b e in
    let lt : length (take done (drop at L)) ≡ done = length-take-le done (drop at L) (simp length-drop (omega arith)) in
    let t : take done out ≡ take done (drop at L) = ap (take done) inv ∙ take_at (take done (drop at L)) (drop done out₀) done lt in
    let d : drop (done + count) out ≡ drop (done + count) out₀ = sym (drop-drop count done out) ∙ ap (drop count) (ap (drop done) inv ∙ drop_at (take done (drop at L)) (drop done out₀) done lt) ∙ drop-drop count done out₀ in
    let q : 1024 * ((at + done) / 1024) + (at + done) % 1024 ≡ at + done = omega arith in
    let i : (at + done) / 1024 < length order = omega arith in
    let x : take count (drop (1024 * p + (at + done) % 1024) area) ≡ take count (drop (at + done) L) = ap (λ z. take count (drop (1024 * z + (at + done) % 1024) area)) hp ∙ sym (laid_read area order (length order) ((at + done) / 1024) ((at + done) % 1024) count b e i m) ∙ ap (λ z. take count (drop z L)) q in
    let y : take (done + count) (drop at L) ≡ take done (drop at L) ++ take count (drop (at + done) L) = take-add done count (drop at L) ∙ ap (λ z. take done (drop at L) ++ take count z) (drop-drop done at L) in
    let z : out' ≡ take done (drop at L) ++ (take count (drop (at + done) L) ++ drop (done + count) out₀) = r ∙ cc in
    z ∙ sym (append_assoc (take done (drop at L)) (take count (drop (at + done) L)) (drop (done + count) out₀)) ∙ ap (λ w. w ++ drop (done + count) out₀) (sym y)

pub read_end : (L out₀ out : List ℕ) (at done : ℕ) → done ≡ length out₀ → out ≡ take done (drop at L) ++ drop done out₀ → out ≡ take (length out₀) (drop at L)
read_end L out₀ out at done e inv = inv ∙ ap (λ z. take done (drop at L) ++ z) (drop_all done out₀ (omega arith)) ∙ append-nil (take done (drop at L)) ∙ ap (λ z. take z (drop at L)) e

pub write_step : (a₀ a b order bytes ch : List ℕ) (first place done count p : ℕ) → below (length order) order ≡ true → length a ≡ 1024 * length order → length a₀ ≡ 1024 * length order → GivenOnce order
    → 1024 * first + length bytes ≤ 1024 * length order → done < length bytes → 1024 * place ≡ 1024 * first + done → count ≤ 1024 → done + count ≤ length bytes → p ≡ get_or order place 0 → ch ≡ take count (drop done bytes)
    → laid a order ≡ paste (laid a₀ order) (1024 * first) (take done bytes) done
    → b ≡ take (1024 * p) a ++ (ch ++ drop (1024 * p + length ch) a)
    → laid b order ≡ paste (laid a₀ order) (1024 * first) (take (done + count) bytes) (done + count)
write_step a₀ a b order bytes ch first place done count p w e e₀ once f g h k m hp hc inv hb =
    let L = laid a₀ order in
    let at = 1024 * first in
    let l_l = length_laid a₀ order (length order) w e₀ in
    let lc : length ch ≡ count = ap length hc ∙ length-take-le count (drop done bytes) (simp length-drop (omega arith)) in
    let ld : length (take done bytes) ≡ done = length-take-le done bytes (omega arith) in
    let x : laid b order ≡ paste (laid a order) (1024 * place) ch (length ch) = laid_write a b ch order (length order) place w e (omega arith) (omega arith) once (hb ∙ ap (λ z. take (1024 * z) a ++ (ch ++ drop (1024 * z + length ch) a)) hp) in
    let y : paste (laid a order) (1024 * place) ch (length ch) ≡ paste (paste L at (take done bytes) done) (at + done) ch count = ap (λ z. paste z (1024 * place) ch (length ch)) inv ∙ ap (λ z. paste (paste L at (take done bytes) done) z ch (length ch)) h ∙ ap (λ z. paste (paste L at (take done bytes) done) (at + done) ch z) lc in
    let z = paste-paste L at (take done bytes) ch done count (sym ld) (sym lc) (omega arith) in
    let t : take done bytes ++ ch ≡ take (done + count) bytes = ap (λ v. take done bytes ++ v) hc ∙ sym (take-add done count bytes) in
    x ∙ y ∙ z ∙ ap (λ v. paste L at v (done + count)) t

-- what a vector holds once the end of it has been turned
pub turned : (xs ys d z : List ℕ) (n at count e : ℕ) → n ≡ length xs → d ≡ xs → e ≡ n → at + count ≤ n → z ≡ drop count (take (e - at) (drop at d)) ++ take count (take (e - at) (drop at d))
    → take n ((take at d ++ (z ++ post_of at (e - at) d)) ++ drop (length (take at d ++ (z ++ post_of at (e - at) d))) ys) ≡ take at xs ++ (drop (at + count) xs ++ take count (drop at xs))
turned xs ys d z n at count e hn hd he h hz =
    let s : take (e - at) (drop at d) ≡ drop at xs = ap (λ t. take (t - at) (drop at d)) (he ∙ hn) ∙ ap (λ t. take (length xs - at) (drop at t)) hd ∙ take_rest xs at in
    let q : post_of at (e - at) d ≡ [] = ap (λ t. post_of at (e - at) t) hd ∙ drop-drop (e - at) at xs ∙ drop_all (at + (e - at)) xs (omega arith) in
    let w : z ≡ drop (at + count) xs ++ take count (drop at xs) = hz ∙ ap (λ t. drop count t ++ take count t) s ∙ ap (λ t. t ++ take count (drop at xs)) (drop-drop count at xs) in
    let x : take at d ++ (z ++ post_of at (e - at) d) ≡ take at xs ++ (drop (at + count) xs ++ take count (drop at xs)) = ap (λ t. take at t ++ (z ++ post_of at (e - at) d)) hd ∙ ap (λ t. take at xs ++ (z ++ t)) q ∙ ap (λ t. take at xs ++ t) (append-nil z ∙ w) in
    let l : length (take at xs ++ (drop (at + count) xs ++ take count (drop at xs))) ≡ n = simp (length-append, length-take, length-drop) (omega arith) in
    take_at (take at d ++ (z ++ post_of at (e - at) d)) (drop (length (take at d ++ (z ++ post_of at (e - at) d))) ys) n (ap length x ∙ l) ∙ x

-- the order after pages have been moved behind all others
abbrev pub moved : List ℕ → ℕ → ℕ → List ℕ
moved ps at count = take at ps ++ (drop (at + count) ps ++ take count (drop at ps))

around : (ps : List ℕ) (at count : ℕ) → ps ≡ take at ps ++ (take count (drop at ps) ++ drop (at + count) ps)
around ps at count = sym (take-append-drop at ps) ∙ ap (λ z. take at ps ++ z) (sym (take-append-drop count (drop at ps)) ∙ ap (λ z. take count (drop at ps) ++ z) (drop-drop count at ps))

pub moved_once : (ps qs : List ℕ) (at count : ℕ) → qs ≡ moved ps at count → GivenOnce ps → GivenOnce qs
moved_once ps qs at count q once p =
    let x = take at ps in
    let y = take count (drop at ps) in
    let z = drop (at + count) ps in
    let a : copies p ps ≡ copies p x + copies p (y ++ z) = ap (copies p) (around ps at count) ∙ copies_append p x (y ++ z) in
    let b = copies_append p y z in
    let c : copies p qs ≡ copies p x + copies p (z ++ y) = ap (copies p) q ∙ copies_append p x (z ++ y) in
    let d = copies_append p z y in
    let o = once p in
    omega arith

pub moved_below : (ps qs : List ℕ) (at count n : ℕ) → qs ≡ moved ps at count → below n ps ≡ true → below n qs ≡ true
moved_below ps qs at count n q b =
    let x = take at ps in
    let y = take count (drop at ps) in
    let z = drop (at + count) ps in
    let a : (below n x && below n (y ++ z)) ≡ true = sym (ap (below n) (around ps at count) ∙ below_append n x (y ++ z)) ∙ b in
    let a₁ = and_parts (below n x) (below n (y ++ z)) a in
    let a₂ = and_parts (below n y) (below n z) (sym (below_append n y z) ∙ a₁.1) in
    let c : below n (z ++ y) ≡ true = below_append n z y ∙ and_from (below n z) (below n y) a₂.1 a₂.0 in
    ap (below n) q ∙ below_append n x (z ++ y) ∙ and_from (below n x) (below n (z ++ y)) a₁.0 c

below_drop : (n q : ℕ) (ps : List ℕ) → below n ps ≡ true → below n (drop q ps) ≡ true
below_drop n q ps b = (and_parts (below n (take q ps)) (below n (drop q ps)) (sym (below_append n (take q ps) (drop q ps)) ∙ ap (below n) (take-append-drop q ps) ∙ b)).1

-- the pages around those that were moved
pub moved_front : (a ps qs : List ℕ) (n at count : ℕ) → qs ≡ moved ps at count → below n ps ≡ true → length a ≡ 1024 * n → at + count ≤ length ps → take (1024 * at) (laid a qs) ≡ take (1024 * at) (laid a ps)
moved_front a ps qs n at count q b e h =
    let x = take at ps in
    let l : length (laid a x) ≡ 1024 * at = ap length (sym (laid_take a ps n at b e (omega arith))) ∙ length-take-le (1024 * at) (laid a ps) (omega (arith, length_laid a ps n b e)) in
    let s : laid a qs ≡ laid a x ++ laid a (drop (at + count) ps ++ take count (drop at ps)) = ap (laid a) q ∙ laid_append a x (drop (at + count) ps ++ take count (drop at ps)) in
    ap (take (1024 * at)) s ∙ take_at (laid a x) (laid a (drop (at + count) ps ++ take count (drop at ps))) (1024 * at) l ∙ sym (laid_take a ps n at b e (omega arith))

pub moved_back : (a ps qs : List ℕ) (n at count rest : ℕ) → qs ≡ moved ps at count → below n ps ≡ true → length a ≡ 1024 * n → at + count + rest ≤ length ps
    → take (1024 * rest) (drop (1024 * at) (laid a qs)) ≡ take (1024 * rest) (drop (1024 * count) (drop (1024 * at) (laid a ps)))
moved_back a ps qs n at count rest q b e h =
    let x = take at ps in
    let z = drop (at + count) ps in
    let y = take count (drop at ps) in
    let l : length (laid a x) ≡ 1024 * at = ap length (sym (laid_take a ps n at b e (omega arith))) ∙ length-take-le (1024 * at) (laid a ps) (omega (arith, length_laid a ps n b e)) in
    let s : laid a qs ≡ laid a x ++ (laid a z ++ laid a y) = ap (laid a) q ∙ laid_append a x (z ++ y) ∙ ap (λ t. laid a x ++ t) (laid_append a z y) in
    let lz : length (laid a z) ≡ 1024 * length z = length_laid a z n (below_drop n (at + count) ps b) e in
    let ll : length z ≡ length ps - (at + count) = length-drop (at + count) ps in
    let u : take (1024 * rest) (drop (1024 * at) (laid a qs)) ≡ take (1024 * rest) (laid a z) = ap (λ t. take (1024 * rest) (drop (1024 * at) t)) s ∙ ap (take (1024 * rest)) (drop_at (laid a x) (laid a z ++ laid a y) (1024 * at) l) ∙ take-append-le (1024 * rest) (laid a z) (laid a y) (omega arith) in
    let m : 1024 * at + 1024 * count ≡ 1024 * (at + count) = omega arith in
    let v : drop (1024 * count) (drop (1024 * at) (laid a ps)) ≡ laid a z = drop-drop (1024 * count) (1024 * at) (laid a ps) ∙ ap (λ t. drop t (laid a ps)) m ∙ laid_drop a ps n (at + count) b e (omega arith) in
    u ∙ ap (take (1024 * rest)) (sym v)

-- what a slice holds once a part of it has been copied into
pub copied : (out area z : List ℕ) (at start count : ℕ) → z ≡ take (start + count - start) (drop start area)
    → take at out ++ (z ++ post_of at (at + count - at) out) ≡ take at out ++ (take count (drop start area) ++ drop (at + count) out)
copied out area z at start count h =
    let k : start + count - start ≡ count = omega arith in
    let m : at + (at + count - at) ≡ at + count = omega arith in
    let x : z ≡ take count (drop start area) = h ∙ ap (λ t. take t (drop start area)) k in
    let y : post_of at (at + count - at) out ≡ drop (at + count) out = drop-drop (at + count - at) at out ∙ ap (λ t. drop t out) m in
    ap (λ t. take at out ++ (t ++ post_of at (at + count - at) out)) x ∙ ap (λ t. take at out ++ (take count (drop start area) ++ t)) y

-- objects begin at pages
pub begins_page : (at : ℕ) → Begins paged_room at → 1024 * (at / 1024) ≡ at
begins_page at b = let t = room_total b.objects in let e = b.ends in omega arith

-- the sizes of the pages of a store
pub record Sizes (order area : List ℕ) : Type 0 where
  pub long : length area ≡ 1024 * length order
  pub all : below (length order) order ≡ true
  pub laid : length (laid area order) ≡ 1024 * length order

pub sizes : (order area : List ℕ) (count long : ℕ) → count ≡ length order → long ≡ length area → PagedArea order count long → Sizes order area
sizes order area count long c l b =
    let x = b.3 in
    let a : length area ≡ 1024 * length order = omega arith in
    let w : below (length order) order ≡ true = ap (λ z. below z order) (sym c) ∙ b.0 in
    record { long = a; all = w; laid = length_laid area order (length order) w a }

-- what lies behind pages that were moved lies where they began
pub moved_up : (a ps qs : List ℕ) (at room end count : ℕ) → Sizes ps a → qs ≡ moved ps (at / 1024) count → 1024 * (at / 1024) ≡ at → room ≡ 1024 * count → at + room ≤ end → end ≤ length (laid a ps)
    → take (end - (at + room)) (drop at (laid a qs)) ≡ take (end - (at + room)) (drop (at + room) (laid a ps))
moved_up a ps qs at room end count z q g r h k =
    let rest = length ps - (at / 1024 + count) in
    let s = z.laid in
    let n = end - (at + room) in
    let w : n ≤ 1024 * rest = omega arith in
    let x = moved_back a ps qs (length ps) (at / 1024) count rest q z.all z.long (omega arith) in
    let y : take (1024 * rest) (drop at (laid a qs)) ≡ take (1024 * rest) (drop (at + room) (laid a ps)) =
    ap (λ t. take (1024 * rest) (drop t (laid a qs))) (sym g) ∙ x ∙ ap (take (1024 * rest)) (drop-drop (1024 * count) (1024 * (at / 1024)) (laid a ps)) ∙ ap (λ t. take (1024 * rest) (drop t (laid a ps))) (omega arith) in
    sym (take-take n (1024 * rest) (drop at (laid a qs)) w) ∙ ap (take n) y ∙ take-take n (1024 * rest) (drop (at + room) (laid a ps)) w

-- the next part of some bytes, and the page that it goes to
pub record Part (bytes order ch : List ℕ) (first k p : ℕ) (parts pages : List ℕ) : Type 0 where
  pub more : 1024 * k < length bytes
  pub place : first + k < length order
  pub part : ch ≡ take (length ch) (drop (1024 * k) bytes)
  pub short : length ch ≤ 1024
  pub fits : 1024 * k + length ch ≤ length bytes
  pub so_far : take (1024 * k + length ch) bytes ≡ take (1024 * (k + 1)) bytes
  pub page : p ≡ get_or order (first + k) 0
  pub others : parts ≡ drop (1024 * (k + 1)) bytes
  pub behind : pages ≡ drop (first + (k + 1)) order

pub part_taken : (bytes order xs ys ch parts pages : List ℕ) (first k p : ℕ) → xs ≡ drop (1024 * k) bytes → ys ≡ drop (first + k) order → xs ≡ ch ++ parts → length ch ≡ min 1024 (length xs) → 0 < length xs → ys ≡ p ∷ pages
    → Part bytes order ch first k p parts pages
part_taken bytes order xs ys ch parts pages first k p x y e l m q =
    let lx : length xs ≡ length bytes - 1024 * k = ap length x ∙ length-drop (1024 * k) bytes in
    let ly : length (p ∷ pages) ≡ length order - (first + k) = ap length (sym q ∙ y) ∙ length-drop (first + k) order in
    let f : ch ++ parts ≡ drop (1024 * k) bytes = sym e ∙ x in
    let g : p ∷ pages ≡ drop (first + k) order = sym q ∙ y in
    let t : ch ≡ take (length ch) (drop (1024 * k) bytes) = sym (take_at ch parts (length ch) refl) ∙ ap (take (length ch)) f in
    let d : parts ≡ drop (1024 * k + length ch) bytes = sym (drop_at ch parts (length ch) refl) ∙ ap (drop (length ch)) f ∙ drop-drop (length ch) (1024 * k) bytes in
    let past : length ch < 1024 → length bytes ≤ 1024 * k + length ch = λ z. omega arith in
    let n : 1024 * k + 1024 ≡ 1024 * (k + 1) = omega arith in
    let whole : 1024 ≤ length ch → 1024 * k + length ch ≡ 1024 * (k + 1) = λ z. omega arith in
    let s : take (1024 * k + length ch) bytes ≡ take (1024 * (k + 1)) bytes =
    ⊎_elim (λ z. take_all (1024 * k + length ch) bytes (past z) ∙ sym (take_all (1024 * (k + 1)) bytes (omega (arith, past z)))) (λ z. ap (λ w. take w bytes) (whole z)) (cases_lt (length ch) 1024) in
    let o : drop (1024 * k + length ch) bytes ≡ drop (1024 * (k + 1)) bytes =
    ⊎_elim (λ z. drop_all (1024 * k + length ch) bytes (past z) ∙ sym (drop_all (1024 * (k + 1)) bytes (omega (arith, past z)))) (λ z. ap (λ w. drop w bytes) (whole z)) (cases_lt (length ch) 1024) in
    let a : first + k + 1 ≡ first + (k + 1) = omega arith in
    record {
      more = omega arith;
      place = omega arith;
      part = t;
      short = omega arith;
      fits = omega arith;
      so_far = s;
      page = ap (λ z. get_or z 0 0) g ∙ get_or-drop (first + k) order 0 0 ∙ ap (λ z. get_or order z 0) (omega arith);
      others = d ∙ o;
      behind = ap (drop 1) g ∙ drop-drop 1 (first + k) order ∙ ap (λ z. drop z order) a;
    }

-- a part is written to its page
pub part_written : (a₀ a b order bytes ch : List ℕ) (first k p : ℕ) (parts pages : List ℕ) → Part bytes order ch first k p parts pages → below (length order) order ≡ true → length a ≡ 1024 * length order → length a₀ ≡ 1024 * length order → GivenOnce order
    → 1024 * first + length bytes ≤ 1024 * length order
    → laid a order ≡ paste (laid a₀ order) (1024 * first) (take (1024 * k) bytes) (length (take (1024 * k) bytes))
    → b ≡ take (1024 * p) a ++ (ch ++ drop (1024 * p + length ch) a)
    → laid b order ≡ paste (laid a₀ order) (1024 * first) (take (1024 * (k + 1)) bytes) (length (take (1024 * (k + 1)) bytes))
part_written a₀ a b order bytes ch first k p parts pages z w e e₀ once f inv hb =
    let m = z.more in
    let s = z.so_far in
    let l : length (take (1024 * k) bytes) ≡ 1024 * k = length-take-le (1024 * k) bytes (omega arith) in
    let n : length (take (1024 * (k + 1)) bytes) ≡ 1024 * k + length ch = ap length (sym s) ∙ length-take-le (1024 * k + length ch) bytes z.fits in
    let x = write_step a₀ a b order bytes ch first (first + k) (1024 * k) (length ch) p w e e₀ once f m (omega arith) z.short z.fits z.page z.part (inv ∙ ap (paste (laid a₀ order) (1024 * first) (take (1024 * k) bytes)) l) hb in
    x ∙ ap (λ y. paste (laid a₀ order) (1024 * first) y (1024 * k + length ch)) s ∙ ap (paste (laid a₀ order) (1024 * first) (take (1024 * (k + 1)) bytes)) (sym n)
