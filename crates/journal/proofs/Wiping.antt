-- Zeroing every slot that holds no record of a run.
use Rattle.std.proofs.Common.{◌≡◌, ℕ, suc, ◌+◌, ◌<◌, ◌≤◌, Bool, true, false, cond, ◌≢◌, length, get_or, Ok, Err, MatchBool, Result, sym, refl, ap, ◌∙◌, subst, ⊎_elim, add-one, arith}
use Rattle.std.proofs.lemmas.List.{length-set, get_or-set_same, get_or-set_other}
use Rattle.std.proofs.lemmas.List.FromFn.{fill_by_all}
use Rattle.std.proofs.lemmas.Bool.{cases_lt}
use Rattle.drive.specs.Views.{Slot, DriveView, Wrote, Write, Read, slot_count, zero_slot}
use Rattle.drive.specs.declared.DriveFault.{DriveFault}
use Rattle.journal.proofs.Reading.{read_there}
use Rattle.journal.specs.Layout.{head_of}
use Rattle.journal.specs.Wipes.{belongs, holds_one, left_at, Wipes, Wiped}

-- the first k slots are wiped, and the others as they were
pub record WipedUpto (v : DriveView) (from upto k : ℕ) (t : DriveView) : Type 0 where
  pub long : slot_count t ≡ slot_count v
  pub done : (j : ℕ) → j < k → get_or t.current j zero_slot ≡ left_at v.current from upto j
  pub rest : (j : ℕ) → k ≤ j → get_or t.current j zero_slot ≡ get_or v.current j zero_slot
  pub steps : Wipes v from upto k t

pub wiped_none : (v : DriveView) (from upto : ℕ) → WipedUpto v from upto 0 v
wiped_none v from upto = record { long = refl; done = λ j h. absurd (omega arith); rest = λ j h. refl; steps = refl }

-- one slot's wipe, by the test
step : (b : Bool) (k : ℕ) (t u : DriveView) → k < slot_count t → MatchBool b (u ≡ t) (Wrote t k zero_slot u) → (slot_count u ≡ slot_count t) × (get_or u.current k zero_slot ≡ cond b (get_or t.current k zero_slot) zero_slot) × ((j : ℕ) → j ≢ k → get_or u.current j zero_slot ≡ get_or t.current j zero_slot)
step true k t u within e = (ap slot_count e, ap (λ x. get_or x.current k zero_slot) e, λ j other. ap (λ x. get_or x.current j zero_slot) e)
step false k t u within h = (
  ap length h.current ∙ length-set t.current k zero_slot,
  ap (λ xs. get_or xs k zero_slot) h.current ∙ get_or-set_same t.current k zero_slot zero_slot within,
  λ j other. ap (λ xs. get_or xs j zero_slot) h.current ∙ get_or-set_other t.current k j zero_slot zero_slot other,
)

-- one slot more
pub wiped_more : (v : DriveView) (from upto k : ℕ) (t u : DriveView) → k < slot_count v → WipedUpto v from upto k t
    → MatchBool (holds_one t.current from upto k) (u ≡ t) (Wrote t k zero_slot u) → WipedUpto v from upto (k + 1) u
wiped_more v from upto k t u within so_far h =
    let here = so_far.rest k (omega arith) in
    let same : holds_one t.current from upto k ≡ holds_one v.current from upto k = ap (λ x. belongs (slot_count t) from upto k (head_of x).number) here ∙ ap (λ n. belongs n from upto k (head_of (get_or v.current k zero_slot)).number) so_far.long in
    let h2 = subst (λ b. MatchBool b (u ≡ t) (Wrote t k zero_slot u)) same h in
    let s = step (holds_one v.current from upto k) k t u (omega (arith, so_far.long)) h2 in
    let next : WipedUpto v from upto (suc k) u =
    record {
      long = s.0 ∙ so_far.long;
      done = λ j below.
          ⊎_elim
          (λ (l : j < k). s.2 j (λ e. omega arith) ∙ so_far.done j l)
          (λ (l : k ≤ j).
          let e : k ≡ j = omega arith in
          subst (λ i. get_or u.current i zero_slot ≡ left_at v.current from upto i) e
          (s.1 ∙ ap (λ x. cond (holds_one v.current from upto k) x zero_slot) here))
          (cases_lt j k);
      rest = λ j past. s.2 j (λ e. omega arith) ∙ so_far.rest j (omega arith);
      steps = (t, so_far.steps, h2);
    } in
    subst (λ i. WipedUpto v from upto i u) (sym (add-one k)) next

-- all slots
pub wiped_all : (v : DriveView) (from upto k : ℕ) (t : DriveView) → k ≡ slot_count v → WipedUpto v from upto k t → Wiped v from upto t
wiped_all v from upto k t e h =
    let f = subst (λ i. WipedUpto v from upto i t) e h in
    record { current = fill_by_all (left_at v.current from upto) t.current (slot_count v) zero_slot f.long f.done; steps = f.steps }

module _ (v : DriveView) (from upto k n : ℕ) (before after : Slot) (number : ℕ) (r : Result (Unit {0}) DriveFault) (within : k < slot_count v) (all : n ≡ slot_count v)
    (read : Read v k before r after) (is : number ≡ (head_of after).number) where
  -- the test is made on the slot's own record
  tested : belongs n from upto k number ≡ holds_one v.current from upto k
  tested =
      ap (belongs n from upto k) (is ∙ ap (λ s. (head_of s).number) (read_there v k before after r read within))
      ∙ ap (λ m. belongs m from upto k (head_of (get_or v.current k zero_slot)).number) all

  -- a slot that holds a record of the run stays
  pub slot_stays : (b : Bool) (Q : Type 0) → b ≡ belongs n from upto k number → b ≡ true → MatchBool (holds_one v.current from upto k) (v ≡ v) Q
  slot_stays b Q e t = subst (λ x. MatchBool x (v ≡ v) Q) (sym t ∙ e ∙ tested) refl

  -- any other is zeroed
  pub slot_goes : (b : Bool) (t : DriveView) (bytes : Slot) (P : Type 0) (s : Result (Unit {0}) DriveFault) → b ≡ belongs n from upto k number → b ≡ false → bytes ≡ zero_slot → Write v k bytes s t
      → MatchBool (holds_one v.current from upto k) P (Wrote v k zero_slot t)
  slot_goes b t bytes P (Ok _) e f z h = subst (λ x. MatchBool x P (Wrote v k zero_slot t)) (sym f ∙ e ∙ tested) (subst (λ y. Wrote v k y t) z h)
  slot_goes b t bytes P (Err _) e f z h = absurd (omega (arith, h.0.past))
