-- What a scan takes is settled by the slots.
use Rattle.std.proofs.Common.{◌≡◌, ℕ, ◌+◌, ◌-◌, ◌%◌, ◌<◌, ◌≤◌, min, List, [], ◌∷◌, length, get_or, sym, refl, ap, ◌∙◌, subst, ⊎_elim, add-zero, add_assoc, arith}
use native.Mathlib.Nat.{add-mod_right}
use Rattle.std.proofs.lemmas.Bool.{cases_lt}
use Rattle.drive.specs.Views.{Slot, zero_slot}
use Rattle.journal.specs.Layout.{head_of}
use Rattle.journal.specs.Writes.{slot_at, Stands, Scan, ScanMost, ScansStand, records}
use Rattle.journal.specs.declared.span.Span.{Span}

-- every record of a run lies in its slot
abbrev pub Run : List Slot → ℕ → ℕ → Type 0
Run slots w m = (i : ℕ) → i < m → (head_of (slot_at slots (w + i))).number ≡ w + i

-- a run has no more records than there are slots, since a slot holds one record only
pub run_few : (slots : List Slot) (w m : ℕ) → 0 < length slots → Run slots w m → m ≤ length slots
run_few slots w m some run =
    ⊎_elim
    (λ (h : length slots < m).
    let n = length slots in
    let a : (head_of (slot_at slots w)).number ≡ w + 0 = ap (λ r. (head_of (slot_at slots r)).number) (sym (add-zero w)) ∙ run 0 (omega arith) in
    let b = run n h in
    let e : (w + n) % n ≡ w % n = add-mod_right w n in
    let c : (head_of (slot_at slots (w + n))).number ≡ (head_of (slot_at slots w)).number = ap (λ k. (head_of (get_or slots k zero_slot)).number) e in
    absurd (omega arith))
    (λ (h : m ≤ length slots). h)
    (cases_lt (length slots) m)

-- the records of a write that stands, after a run, are a longer run
pub run_more : (slots : List Slot) (blocks w m a n : ℕ) → Run slots w m → Stands slots blocks (w + m) a n → Run slots w (m + n)
run_more slots blocks w m a n run st i h =
    ⊎_elim
    (λ (k : i < m). run i k)
    (λ (k : m ≤ i).
    let j : (w + m) + (i - m) ≡ w + i = omega arith in
    let x = (st.each (i - m) (omega arith)).number in
    subst (λ r. (head_of (slot_at slots r)).number ≡ r) j x)
    (cases_lt i m)

pub run_none : (slots : List Slot) (w : ℕ) → Run slots w 0
run_none slots w i h = absurd (omega arith)

-- at one record one write stands at most
stands_count : (slots : List Slot) (blocks w a n b m : ℕ) → Stands slots blocks w a n → Stands slots blocks w b m → n ≡ m
stands_count slots blocks w a n b m p q = sym (p.each 0 (omega (arith, p.some))).count ∙ (q.each 0 (omega (arith, q.some))).count

stands_address : (slots : List Slot) (blocks w a n b m : ℕ) → Stands slots blocks w a n → Stands slots blocks w b m → a ≡ b
stands_address slots blocks w a n b m p q = omega (arith, (p.each 0 (omega (arith, p.some))).address, (q.each 0 (omega (arith, q.some))).address)

stands_same : (slots : List Slot) (blocks w : ℕ) (x y : Span) → Stands slots blocks w x.address x.count → Stands slots blocks w y.address y.count → x ≡ y
stands_same slots blocks w x y p q =
    let a = stands_address slots blocks w x.address x.count y.address y.count p q in
    let n = stands_count slots blocks w x.address x.count y.address y.count p q in
    λ i. record { address = a i; count = n i }

scan_same : (slots : List Slot) (blocks w : ℕ) (xs ys : List Span) → Scan slots blocks w xs → Scan slots blocks w ys → xs ≡ ys
scan_same slots blocks w [] [] p q = refl
scan_same slots blocks w [] (y ∷ ys) p q = absurd (p y.address y.count q.0)
scan_same slots blocks w (x ∷ xs) [] p q = absurd (q x.address x.count p.0)
scan_same slots blocks w (x ∷ xs) (y ∷ ys) p q =
    let e = stands_same slots blocks w x y p.0 q.0 in
    let r = subst (λ (z : Span). Scan slots blocks (w + z.count) ys) (sym e) q.1 in
    let t = scan_same slots blocks (w + x.count) xs ys p.1 r in
    cc

scan_most_same : (slots : List Slot) (blocks most w : ℕ) (xs ys : List Span) → ScanMost slots blocks most w xs → ScanMost slots blocks most w ys → xs ≡ ys
scan_most_same slots blocks most w [] [] p q = refl
scan_most_same slots blocks most w [] (y ∷ ys) p q = let a = p y.address y.count q.0 in let b = q.1 in absurd (omega arith)
scan_most_same slots blocks most w (x ∷ xs) [] p q = let a = q x.address x.count p.0 in let b = p.1 in absurd (omega arith)
scan_most_same slots blocks most w (x ∷ xs) (y ∷ ys) p q =
    let e = stands_same slots blocks w x y p.0 q.0 in
    let r = subst (λ (z : Span). ScanMost slots blocks (most - z.count) (w + z.count) ys) (sym e) q.2 in
    let t = scan_most_same slots blocks (most - x.count) (w + x.count) xs ys p.2 r in
    cc

-- what is taken after a run makes it longer
scan_run : (slots : List Slot) (blocks w m : ℕ) (xs : List Span) → Run slots w m → Scan slots blocks (w + m) xs → Run slots w (m + records xs)
scan_run slots blocks w m [] run p = subst (Run slots w) (sym (add-zero m)) run
scan_run slots blocks w m (x ∷ xs) run p =
    let n = x.count in
    let longer = run_more slots blocks w m x.address n run p.0 in
    let next = subst (λ r. Scan slots blocks r xs) (add_assoc w m n) p.1 in
    subst (Run slots w) (add_assoc m n (records xs)) (scan_run slots blocks w (m + n) xs longer next)

scan_most_run : (slots : List Slot) (blocks most w m : ℕ) (xs : List Span) → Run slots w m → ScanMost slots blocks most (w + m) xs → Run slots w (m + records xs)
scan_most_run slots blocks most w m [] run p = subst (Run slots w) (sym (add-zero m)) run
scan_most_run slots blocks most w m (x ∷ xs) run p =
    let n = x.count in
    let longer = run_more slots blocks w m x.address n run p.0 in
    let next = subst (λ r. ScanMost slots blocks (most - n) r xs) (add_assoc w m n) p.2 in
    subst (Run slots w) (add_assoc m n (records xs)) (scan_most_run slots blocks (most - n) w (m + n) xs longer next)

scan_most_limit : (slots : List Slot) (blocks most w : ℕ) (xs : List Span) → ScanMost slots blocks most w xs → records xs ≤ most
scan_most_limit slots blocks most w [] p = omega arith
scan_most_limit slots blocks most w (x ∷ xs) p = let h = scan_most_limit slots blocks (most - x.count) (w + x.count) xs p.2 in let k = p.1 in omega arith

-- a limit that no run can pass is none
no_limit_after : (slots : List Slot) (blocks most w m : ℕ) (xs : List Span) → 0 < length slots → Run slots w m → length slots ≤ most + m → ScanMost slots blocks most (w + m) xs → Scan slots blocks (w + m) xs
no_limit_after slots blocks most w m [] some run wide p = λ a n st.
    let h = run_few slots w (m + n) some (run_more slots blocks w m a n run st) in
    let k = p a n st in
    omega arith
no_limit_after slots blocks most w m (x ∷ xs) some run wide p =
    let n = x.count in
    let fits = p.1 in
    let longer = run_more slots blocks w m x.address n run p.0 in
    let next = subst (λ r. ScanMost slots blocks (most - n) r xs) (add_assoc w m n) p.2 in
    let rest = no_limit_after slots blocks (most - n) w (m + n) xs some longer (omega arith) next in
    (p.0, subst (λ r. Scan slots blocks r xs) (sym (add_assoc w m n)) rest)

scan_few : (slots : List Slot) (blocks w : ℕ) (xs : List Span) → 0 < length slots → Scan slots blocks w xs → records xs ≤ length slots
scan_few slots blocks w xs some p =
    let start = subst (λ r. Scan slots blocks r xs) (sym (add-zero w)) p in
    let run = scan_run slots blocks w 0 xs (run_none slots w) start in
    omega (arith, run_few slots w (0 + records xs) some run)

scan_most_few : (slots : List Slot) (blocks most w : ℕ) (xs : List Span) → 0 < length slots → ScanMost slots blocks most w xs → records xs ≤ min (length slots) most
scan_most_few slots blocks most w xs some p =
    let start = subst (λ r. ScanMost slots blocks most r xs) (sym (add-zero w)) p in
    let run = scan_most_run slots blocks most w 0 xs (run_none slots w) start in
    omega (arith, run_few slots w (0 + records xs) some run, scan_most_limit slots blocks most w xs p)

no_limit : (slots : List Slot) (blocks most w : ℕ) (xs : List Span) → 0 < length slots → length slots ≤ most → ScanMost slots blocks most w xs → Scan slots blocks w xs
no_limit slots blocks most w xs some wide p =
    let start = subst (λ r. ScanMost slots blocks most r xs) (sym (add-zero w)) p in
    subst (λ r. Scan slots blocks r xs) (add-zero w) (no_limit_after slots blocks most w 0 xs some (run_none slots w) (omega arith) start)

pub stand : ScansStand
stand = record { same = scan_same; same_most = scan_most_same; few = scan_few; few_most = scan_most_few; no_limit = no_limit }
