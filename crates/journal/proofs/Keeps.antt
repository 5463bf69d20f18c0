-- What holds of every slot of a drive, current and safe, through writes.
use Rattle.std.proofs.Common.{◌≡◌, ℕ, zero, suc, ◌+◌, ◌%◌, ◌<◌, Bool, true, false, List, length, get_or, set, MatchBool, sym, ap, ◌∙◌, subst, ⊎_elim, arith}
use Rattle.std.proofs.lemmas.List.{length-set, get_or-set_same, get_or-set_other}
use Rattle.std.proofs.lemmas.List.FromFn.{get_or-map-range_with_len, length-map-range_with_len}
use Rattle.std.proofs.lemmas.Bool.{cases_eq, cond_both}
use Rattle.drive.specs.Views.{Slot, DriveView, Wrote, slot_count, zero_slot}
use Rattle.drive.proofs.Mixes.{get_or_mixed}
use Rattle.drive.proofs.Areas.{length_mixed}
use Rattle.journal.specs.Fills.{Takes, nth_slot}
use Rattle.journal.specs.Wipes.{Wipes, holds_one, left_at, wiped}

-- every slot, current and safe, is as P says of its place
pub record EverySlot (P : ℕ → Slot → Type 0) (v : DriveView) : Type 0 where
  pub even : length v.safe ≡ slot_count v
  pub current : (k : ℕ) → P k (get_or v.current k zero_slot)
  pub safe : (k : ℕ) → P k (get_or v.safe k zero_slot)

-- one write keeps it, if it holds of what is written
pub wrote_keeps : (P : ℕ → Slot → Type 0) (v : DriveView) (k : ℕ) (bytes : Slot) (t : DriveView) → EverySlot P v → P k bytes → Wrote v k bytes t → EverySlot P t
wrote_keeps P v k bytes t h p w =
    let long = length-set v.current k bytes in
    let whole = ap length w.current in
    let even1 : length v.safe ≡ length t.current = omega (arith, h.even) in
    let now : ((j : ℕ) → P j (get_or t.current j zero_slot)) = λ j.
    subst (P j) (ap (λ xs. get_or xs j zero_slot) (sym w.current))
    (⊎_elim
    (λ (e : j ≡ k). subst (λ i. P i (get_or (set v.current k bytes) i zero_slot)) (sym e) (subst (P k) (sym (get_or-set_same v.current k bytes zero_slot w.within)) p))
    (λ (ne : j ≡ k → ⊥). subst (P j) (sym (get_or-set_other v.current k j bytes zero_slot ne)) (h.current j))
    (cases_eq j k)) in
    let f = w.early.chosen in
    record {
      even = ap length w.early.is ∙ length_mixed f t.current v.safe even1;
      current = now;
      safe = λ j.
          subst (P j) (sym (ap (λ xs. get_or xs j zero_slot) w.early.is ∙ get_or_mixed f t.current v.safe j zero_slot even1))
          (cond_both (f j) (get_or t.current j zero_slot) (get_or v.safe j zero_slot) (P j) (λ _. now j) (λ _. h.safe j));
    }

-- so does a write's records, one after another
pub takes_keep : (P : ℕ → Slot → Type 0) (v : DriveView) (w a n : ℕ) (bytes : List ℕ) (i : ℕ) (t : DriveView)
    → EverySlot P v → ((j : ℕ) → j < i → P ((w + j) % slot_count v) (nth_slot w a n bytes j)) → Takes v w a n bytes i t → EverySlot P t
takes_keep P v w a n bytes zero t h p s = subst (EverySlot P) (sym s) h
takes_keep P v w a n bytes (suc i) t h p s =
    wrote_keeps P s.0 ((w + i) % slot_count v) (nth_slot w a n bytes i) t (takes_keep P v w a n bytes i s.0 h (λ j below. p j (omega arith)) s.1) (p i (omega arith)) s.2

when_keeps : (P : ℕ → Slot → Type 0) (b : Bool) (u : DriveView) (k : ℕ) (t : DriveView) → EverySlot P u → P k zero_slot → MatchBool b (t ≡ u) (Wrote u k zero_slot t) → EverySlot P t
when_keeps P true u k t h z e = subst (EverySlot P) (sym e) h
when_keeps P false u k t h z w = wrote_keeps P u k zero_slot t h z w

-- and a wipe, if it holds of zeros
pub wipes_keep : (P : ℕ → Slot → Type 0) (v : DriveView) (from upto k : ℕ) (t : DriveView) → EverySlot P v → ((j : ℕ) → P j zero_slot) → Wipes v from upto k t → EverySlot P t
wipes_keep P v from upto zero t h z s = subst (EverySlot P) (sym s) h
wipes_keep P v from upto (suc k) t h z s = when_keeps P (holds_one v.current from upto k) s.0 k t (wipes_keep P v from upto k s.0 h z s.1) (z k) s.2

-- a wiped slot, by its place
pub get_or_wiped : (slots : List Slot) (from upto k : ℕ) → k < length slots → get_or (wiped slots from upto) k zero_slot ≡ left_at slots from upto k
get_or_wiped slots from upto k h = get_or-map-range_with_len (left_at slots from upto) 0 (length slots) k k zero_slot h (omega arith)

pub length_wiped : (slots : List Slot) (from upto : ℕ) → length (wiped slots from upto) ≡ length slots
length_wiped slots from upto = length-map-range_with_len (left_at slots from upto) 0 (length slots)
