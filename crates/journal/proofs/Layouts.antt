-- Records and their slots.
use Rattle.std.proofs.Common.{◌≡◌, ℕ, ◌+◌, ◌<◌, ◌≤◌, List, [], ◌++◌, length, get_or, take, drop, sym, refl, ap, ◌∙◌, ⊎_elim, append_assoc, append-nil, arith, take-add}
use Rattle.std.proofs.lemmas.List.{take_at, drop_at, drop-drop, drop_all, take_all, get_or-take, get_or-drop, length-append, length-take, length-drop, get_or_past, take-append-drop}
use Rattle.std.proofs.lemmas.Bool.{cases_lt}
use Rattle.endian.specs.Fields.{le, unle, placed}
use Rattle.endian.proofs.Laws.{length_le, unle_le, le_unle, placed_is}
use Rattle.drive.specs.Views.{Slot, slot_bytes}
use Rattle.journal.specs.declared.record.Head.{Head}
use Rattle.journal.specs.declared.record.Record.{Record}
use Rattle.journal.specs.Layout.{head_bytes, slot, slot_of, head_of, block_of, record_of, block_bytes, FitsHead, FitsRecord, SlotsStand}

-- the first bytes of b have been put, and the rest is as it was in b0
pub record Begun (b0 : List ℕ) (at : ℕ) (front b : List ℕ) : Type 0 where
  pub long : length front ≡ at
  pub is : b ≡ front ++ drop at b0

pub begun : (b0 : List ℕ) → Begun b0 0 [] b0
begun b0 = record { long = refl; is = refl }

-- one part more is put
pub put_more : {b0 front b after : List ℕ} {at : ℕ} → Begun b0 at front b → (width : ℕ) (part : List ℕ) → length part ≡ width → at + width ≤ length b0 → after ≡ placed at width part b → Begun b0 (at + width) (front ++ part) after
put_more {b0} {front} {b} {after} {at} h width part long room e =
    let whole : length b ≡ length b0 = ap length h.is ∙ simp (length-append, length-drop, h.long) (omega arith) in
    let p = placed_is at width part b (omega arith) in
    let t : take at b ≡ front = ap (take at) h.is ∙ take_at front (drop at b0) at h.long in
    let d : drop at b ≡ drop at b0 = ap (drop at) h.is ∙ drop_at front (drop at b0) at h.long in
    record {
      long = simp length-append (omega (arith, h.long));
      is = e ∙ p ∙ simp (t, d, drop-drop, append_assoc);
    }

pub put_field : {b0 front b after : List ℕ} {at : ℕ} → Begun b0 at front b → (width value : ℕ) → at + width ≤ length b0 → after ≡ placed at width (le width value) b → Begun b0 (at + width) (front ++ le width value) after
put_field h width value room e = put_more h width (le width value) (length_le width value) room e

-- all parts are put
pub put_all : {b0 front b : List ℕ} {at : ℕ} → Begun b0 at front b → length b0 ≤ at → b ≡ front
put_all {b0} {front} {b} {at} h full = h.is ∙ ap (λ l. front ++ l) (drop_all at b0 full) ∙ append-nil front

-- a part between two others
part_at : (front mid back : List ℕ) (n w : ℕ) → length front ≡ n → length mid ≡ w → take w (drop n ((front ++ mid) ++ back)) ≡ mid
part_at front mid back n w p q =
    ap (λ l. take w (drop n l)) (append_assoc front mid back) ∙ ap (take w) (drop_at front (mid ++ back) n p) ∙ take_at mid back w q

-- the last part
rest_at : (front back : List ℕ) (n w : ℕ) → length front ≡ n → length back ≡ w → take w (drop n (front ++ back)) ≡ back
rest_at front back n w p q = ap (take w) (drop_at front back n p) ∙ take_all w back (omega arith)

-- a slot, each of its fields in the middle
by_address : (h : Head) (b : List ℕ) → slot h b ≡ (le 8 h.number ++ le 4 h.address) ++ (le 2 h.index ++ (le 2 h.count ++ b))
by_address h b = simp append_assoc

by_index : (h : Head) (b : List ℕ) → slot h b ≡ ((le 8 h.number ++ le 4 h.address) ++ le 2 h.index) ++ (le 2 h.count ++ b)
by_index h b = append_assoc ((le 8 h.number ++ le 4 h.address) ++ le 2 h.index) (le 2 h.count) b

by_number : (h : Head) (b : List ℕ) → slot h b ≡ le 8 h.number ++ (le 4 h.address ++ (le 2 h.index ++ (le 2 h.count ++ b)))
by_number h b = simp append_assoc

pub head_long : (h : Head) → length (head_bytes h) ≡ 16
head_long h = simp (length-append, length_le)

pub slot_long : (h : Head) (b : List ℕ) → length b ≡ block_bytes → length (slot h b) ≡ slot_bytes
slot_long h b e = omega (arith, length-append (head_bytes h) b, head_long h)

-- a slot reads back as its head
pub head_back : (h : Head) (b : List ℕ) → FitsHead h → head_of (slot h b) ≡ h
head_back h b f =
    let n : unle (take 8 (slot h b)) ≡ h.number = ap (λ s. unle (take 8 s)) (by_number h b) ∙ ap unle (take_at (le 8 h.number) _ 8 (length_le 8 h.number)) ∙ unle_le 8 h.number (omega arith) in
    let a : unle (take 4 (drop 8 (slot h b))) ≡ h.address = ap (λ s. unle (take 4 (drop 8 s))) (by_address h b) ∙ ap unle (part_at (le 8 h.number) (le 4 h.address) (le 2 h.index ++ (le 2 h.count ++ b)) 8 4 (length_le 8 h.number) (length_le 4 h.address)) ∙ unle_le 4 h.address (omega arith) in
    let i : unle (take 2 (drop 12 (slot h b))) ≡ h.index = ap (λ s. unle (take 2 (drop 12 s))) (by_index h b) ∙ ap unle (part_at (le 8 h.number ++ le 4 h.address) (le 2 h.index) (le 2 h.count ++ b) 12 2 (simp (length-append, length_le)) (length_le 2 h.index)) ∙ unle_le 2 h.index (omega arith) in
    let k : unle (take 2 (drop 14 (slot h b))) ≡ h.count = ap unle (part_at ((le 8 h.number ++ le 4 h.address) ++ le 2 h.index) (le 2 h.count) b 14 2 (simp (length-append, length_le)) (length_le 2 h.count)) ∙ unle_le 2 h.count (omega arith) in
    λ j. record { number = n j; address = a j; index = i j; count = k j }

pub block_back : (h : Head) (b : List ℕ) → length b ≡ block_bytes → block_of (slot h b) ≡ b
block_back h b e = rest_at (head_bytes h) b 16 block_bytes (head_long h) e

pub record_back : (r : Record) → FitsRecord r → record_of (slot_of r) ≡ r
record_back r f =
    let p = head_back r.head r.block f.head in
    let q = block_back r.head r.block f.block in
    λ j. record { head = p j; block = q j }

pub record_unique : (r s : Record) → FitsRecord r → FitsRecord s → slot_of r ≡ slot_of s → r ≡ s
record_unique r s f g e = sym (record_back r f) ∙ ap record_of e ∙ record_back s g

-- a field of bytes is that of the number which it writes
field_every : (s : Slot) (at w : ℕ) → at + w ≤ length s → ((i : ℕ) → get_or s i 0 < 256) → le w (unle (take w (drop at s))) ≡ take w (drop at s)
field_every s at w room below =
    let part = take w (drop at s) in
    let long : length part ≡ w = simp (length-take, length-drop) (omega arith) in
    let each : ((i : ℕ) → get_or part i 0 < 256) = λ i. ⊎_elim (λ (h : i < w). rw (get_or-take, get_or-drop) (below (at + i))) (λ (h : w ≤ i). rw (get_or_past part i 0 (omega arith)) (omega arith)) (cases_lt i w) in
    ap (λ n. le n (unle part)) (sym long) ∙ le_unle part each

pub slot_every : (s : Slot) → length s ≡ slot_bytes → ((i : ℕ) → get_or s i 0 < 256) → slot_of (record_of s) ≡ s
slot_every s long below =
    let n = field_every s 0 8 (omega arith) below in
    let a = field_every s 8 4 (omega arith) below in
    let i = field_every s 12 2 (omega arith) below in
    let k = field_every s 14 2 (omega arith) below in
    let e1 = take-add 8 4 s in
    let e2 = take-add 12 2 s in
    let e3 = take-add 14 2 s in
    let e4 = take_all block_bytes (drop 16 s) (simp length-drop (omega arith)) in
    let e5 = take-append-drop 16 s in
    cc

pub stand : SlotsStand
stand = record { long = λ r f. slot_long r.head r.block f.block; back = record_back; unique = record_unique; every = slot_every }
