-- What the scan has taken so far.
use Rattle.std.proofs.Common.{◌≡◌, ℕ, ◌+◌, ◌-◌, ◌<◌, ◌≤◌, min, List, [], ◌∷◌, ◌++◌, length, sym, ap, ◌∙◌, subst, ⊎_elim, append_assoc, append-nil, add-zero, add_assoc, arith}
use Rattle.std.proofs.lemmas.List.{length_push}
use Rattle.std.proofs.lemmas.Bool.{cases_lt}
use Rattle.drive.specs.Views.{Slot}
use Rattle.journal.specs.Layout.{head_of}
use Rattle.journal.specs.Writes.{slot_at, Holds, Stands, ScanMost, records}
use Rattle.journal.specs.Taken.{Begins}
use Rattle.journal.specs.Fills.{nth_head}
use Rattle.journal.specs.declared.span.Span.{Span}
use Rattle.journal.specs.declared.record.Head.{Head}
use Rattle.journal.proofs.Scans.{Run, run_few, run_more}

-- the writes so far are the first that the scan takes, whatever comes after them
pub record Taken (slots : List Slot) (blocks most from taken : ℕ) (spans : List Span) : Type 0 where
  pub within : taken ≤ most
  pub few : taken ≤ length slots
  pub run : Run slots from taken
  pub total : taken ≡ records spans
  pub short : length spans ≤ taken
  pub scan : (rest : List Span) → ScanMost slots blocks (most - taken) (from + taken) rest → ScanMost slots blocks most from (spans ++ rest)

-- the first i slots of the write that the head begins are as they must be
pub record Going (slots : List Slot) (at i : ℕ) (h : Head) : Type 0 where
  pub some : 1 ≤ i
  pub end : i ≤ h.count
  pub each : (k : ℕ) → k < i → Holds slots (at + k) (h.address + k) k h.count

records_push : (xs : List Span) (s : Span) → records (xs ++ s ∷ []) ≡ records xs + s.count
records_push [] s = omega arith
records_push (x ∷ xs) s = omega (arith, records_push xs s)

module _ (slots : List Slot) (blocks most from taken : ℕ) (spans : List Span) (so_far : Taken slots blocks most from taken spans) where
  module _ (s : Span) (st : Stands slots blocks (from + taken) s.address s.count) (fits : s.count ≤ most - taken) where
    more_few : 0 < length slots → taken + s.count ≤ length slots
    more_few some = run_few slots from (taken + s.count) some (run_more slots blocks from taken s.address s.count so_far.run st)

    -- one write more
    taken_more : 0 < length slots → Taken slots blocks most from (taken + s.count) (spans ++ s ∷ [])
    taken_more some =
        let n = s.count in
        record {
          within = omega (arith, so_far.within);
          few = more_few some;
          run = run_more slots blocks from taken s.address n so_far.run st;
          total = sym (records_push spans s ∙ ap (λ m. m + n) (sym so_far.total));
          short = omega (arith, length_push spans s, so_far.short, st.some);
          scan = λ rest p.
              let e : most - (taken + n) ≡ most - taken - n = omega arith in
              let p1 = subst (λ m. ScanMost slots blocks m (from + (taken + n)) rest) e p in
              let p2 = subst (λ r. ScanMost slots blocks (most - taken - n) r rest) (sym (add_assoc from taken n)) p1 in
              subst (ScanMost slots blocks most from) (sym (append_assoc spans (s ∷ []) rest)) (so_far.scan (s ∷ rest) (st, fits, p2));
        }

    -- there is room for it
    taken_room : (room : ℕ) → 0 < length slots → min (length slots) most ≤ room → length spans < room
    taken_room room some wide = omega (arith, more_few some, so_far.short, so_far.within, st.some)

    -- fewer slots are left
    taken_less : (count : ℕ) → count ≡ s.count → 0 < length slots → length slots - (taken + count) < length slots - taken
    taken_less count e some = omega (arith, more_few some, st.some)

    -- one write more, as the code adds it
    taken_next : (count : ℕ) (after : List Span) → count ≡ s.count → after ≡ spans ++ s ∷ [] → 0 < length slots → Taken slots blocks most from (taken + count) after
    taken_next count after e is some =
        subst (Taken slots blocks most from (taken + count)) (sym is) (subst (λ n. Taken slots blocks most from (taken + n) (spans ++ s ∷ [])) (sym e) (taken_more some))

  -- nothing more is taken
  pub taken_done : ((a n : ℕ) → Stands slots blocks (from + taken) a n → most - taken < n) → ScanMost slots blocks most from spans
  taken_done none = subst (ScanMost slots blocks most from) (append-nil spans) (so_far.scan [] none)

module _ (slots : List Slot) (at : ℕ) (h : Head) (is : h ≡ head_of (slot_at slots at)) where
  -- the first slot of what stands
  first : (blocks a n : ℕ) → Stands slots blocks at a n → Holds slots at a 0 n
  first blocks a n st =
      let x = st.each 0 (omega (arith, st.some)) in
      subst (λ r. Holds slots r a 0 n) (add-zero at) (subst (λ b. Holds slots (at + 0) b 0 n) (add-zero a) x)

  -- where the head begins no write, none stands that fits
  pub not_begun : (blocks left : ℕ) → (Begins h at blocks left → ⊥) → (a n : ℕ) → Stands slots blocks at a n → left < n
  not_begun blocks left not a n st =
      let f = first blocks a n st in
      let number : h.number ≡ at = ap (λ x. x.number) is ∙ f.number in
      let address : h.address ≡ a = ap (λ x. x.address) is ∙ f.address in
      let index : h.index ≡ 0 = ap (λ x. x.index) is ∙ f.index in
      let count : h.count ≡ n = ap (λ x. x.count) is ∙ f.count in
      ⊎_elim (λ (k : left < n). k)
      (λ (k : n ≤ left). absurd (not record { number = number; index = index; some = omega (arith, st.some); few = omega (arith, st.few); inside = omega (arith, st.inside); fits = omega arith }))
      (cases_lt left n)

  -- all slots are
  gone : (blocks left i : ℕ) → Begins h at blocks left → Going slots at i h → h.count ≤ i → Stands slots blocks at h.address h.count
  gone blocks left i b going past =
      record { some = b.some; few = b.few; inside = b.inside; each = λ k below. going.each k (omega arith) }

  module _ (blocks left : ℕ) (begun : Begins h at blocks left) (i : ℕ) (next : Head) (read : next ≡ head_of (slot_at slots (at + i))) where
    abbrev due : Head
    due = nth_head h.number h.address h.count i

    -- where one is not, no write stands
    pub not_going : i < h.count → (next ≡ due → ⊥) → (a n : ℕ) → Stands slots blocks at a n → left < n
    not_going below other a n st =
        let f = first blocks a n st in
        let address : h.address ≡ a = ap (λ x. x.address) is ∙ f.address in
        let count : h.count ≡ n = ap (λ x. x.count) is ∙ f.count in
        let x = st.each i (omega arith) in
        let num : next.number ≡ h.number + i = ap (λ y. y.number) read ∙ x.number ∙ ap (λ r. r + i) (sym begun.number) in
        let adr : next.address ≡ h.address + i = ap (λ y. y.address) read ∙ x.address ∙ ap (λ b. b + i) (sym address) in
        let ind : next.index ≡ i = ap (λ y. y.index) read ∙ x.index in
        let cnt : next.count ≡ h.count = ap (λ y. y.count) read ∙ x.count ∙ sym count in
        absurd (other (λ j. record { number = num j; address = adr j; index = ind j; count = cnt j }))

-- what follows once the head at a record begins a write all of whose slots are as they must be
pub record More (slots : List Slot) (blocks most from taken : ℕ) (spans : List Span) (h : Head) : Type 0 where
  pub room : (n : ℕ) → min (length slots) most ≤ n → length spans < n
  pub less : (n : ℕ) → n ≡ h.count → length slots - (taken + n) < length slots - taken
  pub next : (n : ℕ) (after : List Span) → n ≡ h.count → after ≡ spans ++ record { address = h.address; count = h.count } ∷ [] → Taken slots blocks most from (taken + n) after

pub more : (slots : List Slot) (blocks most from taken : ℕ) (spans : List Span) (h : Head) (i : ℕ) → 0 < length slots → Taken slots blocks most from taken spans
    → h ≡ head_of (slot_at slots (from + taken)) → Begins h (from + taken) blocks (most - taken) → Going slots (from + taken) i h → h.count ≤ i → More slots blocks most from taken spans h
more slots blocks most from taken spans h i some so_far is begun going past =
    let s : Span = record { address = h.address; count = h.count } in
    let st = gone slots (from + taken) h is blocks (most - taken) i begun going past in
    record {
      room = λ n wide. taken_room slots blocks most from taken spans so_far s st begun.fits n some wide;
      less = λ n e. taken_less slots blocks most from taken spans so_far s st begun.fits n e some;
      next = λ n after e added. taken_next slots blocks most from taken spans so_far s st begun.fits n after e added some;
    }
