-- Writing a write's records into their slots.
use Rattle.std.proofs.Common.{◌≡◌, ℕ, zero, suc, ◌+◌, ◌-◌, ◌*◌, ◌/◌, ◌%◌, ◌^◌, ◌<◌, ◌≤◌, Bool, true, false, cond, not, ◌&&◌, eqb, ltb, leb, ◌≢◌, List, length, get_or, take, drop, set, sym, refl, ap, ◌∙◌, subst, ⊎_elim, add-mul, mul-zero, mul-suc, add-one, arith}
use Rattle.std.proofs.lemmas.List.{length-set, get_or-set_same, get_or-set_other, drop-drop}
use Rattle.std.proofs.lemmas.Bool.{cases_lt, and_parts, not-false, leb-true, ltb-false}
use Rattle.std.proofs.lemmas.Nat.{mod_below, div-add-mod', mul-le}
use Rattle.drive.specs.Views.{Slot, DriveView, Wrote, slot_count, zero_slot}
use Rattle.journal.specs.Layout.{block_bytes, slot, head_of}
use Rattle.journal.specs.Writes.{last_record, most_blocks, slot_at}
use Rattle.std.specs.Simd.{first_chunks}
use Rattle.journal.specs.Fills.{AreBlocks, nth_head, nth_block, nth_slot, written, Takes, Filled, blocks_in, whole_write, LeftBy, WritesStand}
use Rattle.journal.specs.declared.record.Head.{Head}
use Rattle.journal.proofs.Layouts.{head_back}

pub length_written : (slots : List Slot) (w a n : ℕ) (bytes : List ℕ) (i : ℕ) → length (written slots w a n bytes i) ≡ length slots
length_written slots w a n bytes zero = refl
length_written slots w a n bytes (suc i) = length-set (written slots w a n bytes i) ((w + i) % length slots) (nth_slot w a n bytes i) ∙ length_written slots w a n bytes i

-- the first i records are in their slots
pub record Upto (v : DriveView) (w a n : ℕ) (bytes : List ℕ) (i : ℕ) (t : DriveView) : Type 0 where
  pub current : t.current ≡ written v.current w a n bytes i
  pub steps : Takes v w a n bytes i t

pub upto_none : (v : DriveView) (w a n : ℕ) (bytes : List ℕ) → Upto v w a n bytes 0 v
upto_none v w a n bytes = record { current = refl; steps = refl }

-- one record more
pub upto_more : (v : DriveView) (w a n : ℕ) (bytes : List ℕ) (i : ℕ) (t u : DriveView) (h : Head) (block : List ℕ)
    → Upto v w a n bytes i t → h ≡ nth_head w a n i → block ≡ nth_block bytes i → Wrote t (h.number % slot_count t) (slot h block) u
    → Upto v w a n bytes (i + 1) u
upto_more v w a n bytes i t u h block so_far eh eb wrote =
    let long : slot_count t ≡ slot_count v = ap length so_far.current ∙ length_written v.current w a n bytes i in
    let w1 = subst (λ k. Wrote t (k.number % slot_count t) (slot k block) u) eh wrote in
    let w2 = subst (λ b. Wrote t ((w + i) % slot_count t) (slot (nth_head w a n i) b) u) eb w1 in
    let w3 = subst (λ m. Wrote t ((w + i) % m) (nth_slot w a n bytes i) u) long w2 in
    let next : Upto v w a n bytes (suc i) u =
    record {
      current = w3.current ∙ ap (λ xs. set xs ((w + i) % slot_count v) (nth_slot w a n bytes i)) so_far.current;
      steps = (t, so_far.steps, w3);
    } in
    subst (λ k. Upto v w a n bytes k u) (sym (add-one i)) next

-- all are
pub upto_all : (v : DriveView) (w a n : ℕ) (bytes : List ℕ) (i : ℕ) (t : DriveView) → i ≡ n → Upto v w a n bytes i t → Filled v w a n bytes t
upto_all v w a n bytes i t e h = let k = subst (λ j. Upto v w a n bytes j t) e h in record { current = k.current; steps = k.steps }

-- chunk i of some bytes
chunk_at : (n k : ℕ) (xs : List ℕ) (i : ℕ) (d : List ℕ) → i < k → get_or (first_chunks n k xs) i d ≡ take n (drop (n * i) xs)
chunk_at n zero xs i d below = absurd (omega arith)
chunk_at n (suc k) xs zero d below = rw mul-zero refl
chunk_at n (suc k) xs (suc i) d below = chunk_at n k (drop n xs) i d (omega arith) ∙ ap (take n) (drop-drop (n * i) n xs ∙ ap (λ m. drop m xs) (omega (arith, mul-suc n i)))

-- block i of the bytes that are cut up
pub block_at : (bytes : List ℕ) (blocks : List (List ℕ)) (i : ℕ) (d : List ℕ) → AreBlocks bytes blocks → i < length blocks → get_or blocks i d ≡ nth_block bytes i
block_at bytes blocks i d are below = ap (λ bs. get_or bs i d) are.is ∙ chunk_at block_bytes (blocks_in bytes) bytes i d (omega (arith, are.count))

-- records fewer than a whole round apart lie in different slots
apart : (x d n : ℕ) → 0 < d → d < n → x % n ≡ (x + d) % n → ⊥
apart x d n some less same =
    let p = div-add-mod' x n in
    let q = div-add-mod' (x + d) n in
    let a = x / n in
    let b = (x + d) / n in
    ⊎_elim
    (λ (h : a < b).
    let m = mul-le (a + 1) n b n (omega arith) (omega arith) in
    let e = add-mul a 1 n in
    absurd (omega arith))
    (λ (h : b ≤ a). let m = mul-le b n a n h (omega arith) in absurd (omega arith))
    (cases_lt a b)

module _ (slots : List Slot) (w a n : ℕ) (bytes : List ℕ) (some : 0 < length slots) where
  place_below : (r : ℕ) → r % length slots < length slots
  place_below r = mod_below r (length slots) some

  -- each record that has been put is in its slot
  put_each : (m i : ℕ) → i < m → m ≤ length slots → get_or (written slots w a n bytes m) ((w + i) % length slots) zero_slot ≡ nth_slot w a n bytes i
  put_each zero i below fits = absurd (omega arith)
  put_each (suc m) i below fits =
      let before = written slots w a n bytes m in
      let long = length_written slots w a n bytes m in
      ⊎_elim
      (λ (h : i < m).
      let other : (w + i) % length slots ≢ (w + m) % length slots = λ e.
      let s : (w + i) + (m - i) ≡ w + m = omega arith in
      apart (w + i) (m - i) (length slots) (omega arith) (omega arith) (e ∙ ap (λ r. r % length slots) (sym s)) in
      get_or-set_other before ((w + m) % length slots) ((w + i) % length slots) (nth_slot w a n bytes m) zero_slot other
      ∙ put_each m i h (omega arith))
      (λ (h : m ≤ i).
      let e : m ≡ i = omega arith in
      let b = place_below (w + m) in
      subst (λ j. get_or (written slots w a n bytes (suc m)) ((w + j) % length slots) zero_slot ≡ nth_slot w a n bytes j) e
      (get_or-set_same before ((w + m) % length slots) (nth_slot w a n bytes m) zero_slot (omega arith)))
      (cases_lt i m)

  -- the other slots are as they were
  put_others : (m k : ℕ) (d : Slot) → ((i : ℕ) → i < m → (w + i) % length slots ≡ k → ⊥) → get_or (written slots w a n bytes m) k d ≡ get_or slots k d
  put_others zero k d none = refl
  put_others (suc m) k d none =
      let other : k ≢ (w + m) % length slots = λ e. none m (omega arith) (sym e) in
      get_or-set_other (written slots w a n bytes m) ((w + m) % length slots) k (nth_slot w a n bytes m) d other
      ∙ put_others m k d (λ i below. none i (omega arith))

  module _ (near : w ≤ last_record) (one : 1 ≤ n) (few : n ≤ most_blocks) (inside : a + n ≤ 2 ^ 32) (fits : n ≤ length slots) where
    slot_each : (i : ℕ) → i < n → slot_at (written slots w a n bytes n) (w + i) ≡ nth_slot w a n bytes i
    slot_each i below =
        ap (λ m. get_or (written slots w a n bytes n) ((w + i) % m) zero_slot) (length_written slots w a n bytes n) ∙ put_each n i below fits

    head_each : (i : ℕ) → i < n → head_of (slot_at (written slots w a n bytes n) (w + i)) ≡ nth_head w a n i
    head_each i below =
        ap head_of (slot_each i below)
        ∙ head_back (nth_head w a n i) (nth_block bytes i) record { number = omega arith; address = omega arith; index = omega arith; count = omega arith }

    pub left_by : LeftBy slots w a n bytes
    left_by =
        record {
          long = length_written slots w a n bytes n;
          each = slot_each;
          others = put_others n;
          stands = λ blocks room.
              record {
                some = one;
                few = few;
                inside = room;
                each = λ i below.
                    let e = head_each i below in
                    record { number = ap (λ h. h.number) e; address = ap (λ h. h.address) e; index = ap (λ h. h.index) e; count = ap (λ h. h.count) e };
              };
        }

cond_none : (b : Bool) (k x : ℕ) → cond b (suc k) x ≡ 0 → (b ≡ false) × (x ≡ 0)
cond_none true k x e = absurd (omega arith)
cond_none false k x e = (refl, e)

pub stand : WritesStand
stand slots w a bytes e =
    let p1 = cond_none (ltb last_record w) 0 _ e in
    let p2 = cond_none (not (whole_write bytes)) 1 _ p1.1 in
    let p3 = cond_none (ltb (2 ^ 32) (a + blocks_in bytes)) 2 _ p2.1 in
    let p4 = cond_none (ltb (length slots) (blocks_in bytes)) 3 0 p3.1 in
    let n = blocks_in bytes in
    let whole = and_parts (eqb (length bytes % block_bytes) 0) (leb 1 n && leb n most_blocks) (not-false (whole_write bytes) p2.0) in
    let size = and_parts (leb 1 n) (leb n most_blocks) whole.1 in
    let one = leb-true 1 (blocks_in bytes) size.0 in
    let few = leb-true (blocks_in bytes) most_blocks size.1 in
    let near = ltb-false last_record w p1.0 in
    let inside = ltb-false (2 ^ 32) (a + blocks_in bytes) p3.0 in
    let fits = ltb-false (length slots) (blocks_in bytes) p4.0 in
    left_by slots w a (blocks_in bytes) bytes (omega arith) near one few inside fits
