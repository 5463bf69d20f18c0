-- A cut, one pending put after another.
use Rattle.std.proofs.Common.{◌≡◌, ℕ, zero, suc, ◌/◌, ◌%◌, ◌<◌, Bool, true, false, cond, eqb, List, [], ◌∷◌, length, get_or, sym, refl, ap, ◌∙◌, subst, rules}
use Rattle.std.specs.List.{remove}
use Rattle.std.proofs.lemmas.Bool.{eq-eqb, ne_eqb}
use Rattle.std.proofs.lemmas.List.{nil_from_length}
use Rattle.store.specs.Views.{Object, nothing, StoreView, holding, place_all, chosen, bits}
use Rattle.store.specs.Calls.{Lands, landing, vanishing, settling, CutBy, CutTo}

first_of : (ps : List Object) → 0 < length ps → ps ≡ get_or ps 0 nothing ∷ remove ps 0
first_of [] h = search rules
first_of (p ∷ ps) h = refl

bits_first : (s m n : ℕ) (b : Bool) → n ≡ suc m → eqb (s % 2) 1 ≡ b → bits s n ≡ b ∷ bits (s / 2) m
bits_first s m n b e f = ap (bits s) e ∙ ap (λ z. z ∷ bits (s / 2) m) f

settled_first : (v : StoreView) (b : Bool) (cs : List Bool) → 0 < length v.pending
    → settling v (b ∷ cs) ≡ holding v (place_all (cond b (get_or v.pending 0 nothing ∷ chosen cs (remove v.pending 0)) (chosen cs (remove v.pending 0))) v.landed) []
settled_first v b cs h = ap (λ ps. holding v (place_all (chosen (b ∷ cs) ps) v.landed) []) (first_of v.pending h)

length_first : (ps : List Object) → 0 < length ps → length ps ≡ suc (length (remove ps 0))
length_first ps h = ap length (first_of ps h)

-- the oldest lands, and the rest is cut
pub cut_lands : (v u w : StoreView) (s n : ℕ) → Lands v 0 n u → s % 2 ≡ 1 → CutBy (s / 2) u w → CutBy s v w
cut_lands v u w s n l o h =
    let e : w ≡ settling (landing v 0) (bits (s / 2) (length (remove v.pending 0))) = h ∙ ap (λ z. settling z (bits (s / 2) (length z.pending))) l.after in
    let f = settled_first v true (bits (s / 2) (length (remove v.pending 0))) l.there in
    let g = bits_first s (length (remove v.pending 0)) (length v.pending) true (length_first v.pending l.there) (eq-eqb (s % 2) 1 o) in
    e ∙ sym f ∙ ap (settling v) (sym g)

-- the oldest vanishes, and the rest is cut
pub cut_loses : (v u w : StoreView) (s : ℕ) → 0 < length v.pending → u ≡ vanishing v 0 → (s % 2 ≡ 1 → ⊥) → CutBy (s / 2) u w → CutBy s v w
cut_loses v u w s there q o h =
    let e : w ≡ settling (vanishing v 0) (bits (s / 2) (length (remove v.pending 0))) = h ∙ ap (λ z. settling z (bits (s / 2) (length z.pending))) q in
    let f = settled_first v false (bits (s / 2) (length (remove v.pending 0))) there in
    let g = bits_first s (length (remove v.pending 0)) (length v.pending) false (length_first v.pending there) (ne_eqb (s % 2) 1 o) in
    e ∙ sym f ∙ ap (settling v) (sym g)

-- nothing is left to cut
pub cut_none : (v : StoreView) (s : ℕ) → length v.pending ≡ 0 → CutBy s v v
cut_none v s h =
    let p : v.pending ≡ [] = nil_from_length v.pending h in
    let e : v ≡ holding v v.landed [] = ap (λ z. holding v v.landed z) p in
    e ∙ ap (λ n. holding v (place_all (chosen (bits s n) v.pending) v.landed) []) (sym h)

length_bits : (s n : ℕ) → length (bits s n) ≡ n
length_bits s zero = refl
length_bits s (suc n) = ap suc (length_bits (s / 2) n)

pub cut_to : (s : ℕ) (v w : StoreView) → CutBy s v w → CutTo v w
cut_to s v w h = record { choices = bits s (length v.pending); each = length_bits s (length v.pending); after = h }

-- the same, from where a step has come to
pub cut_on_lands : (v x y w : StoreView) (b k n : ℕ) → x ≡ y → Lands v k n y → k ≡ 0 → b % 2 ≡ 1 → CutBy (b / 2) x w → CutBy b v w
cut_on_lands v x y w b k n e l z o h = cut_lands v y w b n (subst (λ m. Lands v m n y) z l) o (subst (λ m. CutBy (b / 2) m w) e h)

pub cut_on_loses : (v x y w : StoreView) (b k : ℕ) → 0 < length v.pending → x ≡ y → y ≡ vanishing v k → k ≡ 0 → (b % 2 ≡ 1 → ⊥) → CutBy (b / 2) x w → CutBy b v w
cut_on_loses v x y w b k p e q z o h = cut_loses v y w b p (q ∙ ap (vanishing v) z) o (subst (λ m. CutBy (b / 2) m w) e h)
