-- Entries laid over a map, one after another. Assumes nothing.
use Rattle.std.proofs.Common.{◌≡◌, ℕ, ◌+◌, ◌-◌, ◌*◌, ◌^◌, ◌<◌, ◌≤◌, Bool, true, false, cond, eqb, ltb, leb, List, [], ◌∷◌, length, get_or, drop, Some, None, Ok, Err, Option, Result, sym, refl, ap, ◌∙◌, arith}
use Rattle.std.proofs.lemmas.Bool.{and_parts, leb-true, ne_eqb, le-ltb, lt-ltb}
use Rattle.std.proofs.lemmas.List.{at_drop_all}
use Rattle.extents.specs.declared.extent.Extent.{Extent}
use Rattle.extents.specs.declared.fault.MapFault.{MapFault}
use Rattle.extents.specs.declared.target.Place.{Place}
use Rattle.extents.specs.Mapped.{Mapped}
use Rattle.extents.specs.Map.{extent, covers, target_in}
use Rattle.extents.specs.Kinds.{place, place_advanced, place_same, place_fits}
use Rattle.extents.specs.Faults.{extent_refusal}
use Rattle.extents.specs.Answers.{overlaid, Inserted}
use Rattle.objects.specs.declared.entry.Entry.{Entry}
use Rattle.objects.specs.Layout.{payload_offset, total}
use Rattle.objects.specs.Rules.{every, entry_fits}
use Rattle.objects.specs.Applying.{laid, places}
use Rattle.objects.proofs.Loops.{left_more, total_more}

-- an insertion that is not to be refused is made
pub insert_goes : (e : Extent Place) (m w : Mapped Place) (r : Result (Unit {0}) MapFault) → extent_refusal place_advanced place_fits m.blocks e ≡ None → Inserted place_advanced place_same place_fits e m r w
    → (w.blocks ≡ m.blocks) × ((b : ℕ) → places w b ≡ overlaid place_advanced e (places m) b)
insert_goes e m w (Ok u) none h = (h.1, h.3)
insert_goes e m w (Err f) none h = let refused = sym h.0 ∙ none in cc

-- an entry that keeps its rules is not refused
pub entry_goes : (number at blocks : ℕ) (e : Entry) → entry_fits 32 blocks e ≡ true → at < 65536 → extent_refusal place_advanced place_fits blocks (extent e.address e.count (place number at)) ≡ None
entry_goes number at blocks e fits low =
    let p = and_parts (leb 1 e.count) _ fits in
    let q = and_parts (leb e.count 32) _ p.1 in
    let some = leb-true 1 e.count p.0 in
    let few = leb-true e.count 32 q.0 in
    let ends = leb-true (e.address + e.count) blocks q.1 in
    let a : eqb e.count 0 ≡ false = ne_eqb e.count 0 (λ z. omega arith) in
    let b : ltb blocks (e.address + e.count) ≡ false = le-ltb blocks (e.address + e.count) ends in
    let c : ltb (at + 512 * (e.count - 1)) (2 ^ 32) ≡ true = lt-ltb (at + 512 * (e.count - 1)) (2 ^ 32) (omega arith) in
    simp (a, b, c)

-- equal places stay equal under entries
pub laid_same : (number entries before : ℕ) (es : List Entry) (f g : ℕ → Option Place) → ((b : ℕ) → f b ≡ g b) → (b : ℕ) → laid number entries before es f b ≡ laid number entries before es g b
laid_same number entries before [] f g same b = same b
laid_same number entries before (e ∷ es) f g same b =
    let x = extent e.address e.count (place number (payload_offset entries before)) in
    laid_same number entries (before + e.count) es (overlaid place_advanced x f) (overlaid place_advanced x g) (λ k. ap (λ o. cond (covers x k) (Some (target_in place_advanced x k)) o) (same k)) b

-- one entry more
pub laid_more : (number entries before : ℕ) (es : List Entry) (i : ℕ) (e : Entry) (f g : ℕ → Option Place) → i < length es → get_or es i e ≡ e
    → ((b : ℕ) → g b ≡ overlaid place_advanced (extent e.address e.count (place number (payload_offset entries before))) f b)
    → (b : ℕ) → laid number entries (before + e.count) (drop (i + 1) es) g b ≡ laid number entries before (drop i es) f b
laid_more number entries before es i e f g h is over b =
    laid_same number entries (before + e.count) (drop (i + 1) es) g (overlaid place_advanced (extent e.address e.count (place number (payload_offset entries before))) f) over b
    ∙ sym (left_more (λ l. laid number entries before l f b) es i e h is)

-- what is left keeps the rules
pub fit_more : (ok : Entry → Bool) (es : List Entry) (i : ℕ) (e : Entry) → i < length es → get_or es i e ≡ e → every ok (drop i es) ≡ true → (ok e ≡ true) × (every ok (drop (i + 1) es) ≡ true)
fit_more ok es i e h is good = and_parts (ok e) (every ok (drop (i + 1) es)) (sym (left_more (every ok) es i e h is) ∙ good)

-- all of them
pub laid_all : (number entries before : ℕ) (es : List Entry) (i : ℕ) (f : ℕ → Option Place) → length es ≤ i → (b : ℕ) → laid number entries before (drop i es) f b ≡ f b
laid_all number entries before es i f h b = at_drop_all (λ l. laid number entries before l f b) es i h

-- what an object that carries blocks has laid so far
pub record Lays (number entries before : ℕ) (es : List Entry) (i : ℕ) (start m : Mapped Place) : Type 0 where
  pub fit : every (entry_fits 32 m.blocks) (drop i es) ≡ true
  pub sum : before + total (drop i es) ≡ total es
  pub blocks_stay : m.blocks ≡ start.blocks
  pub rest : (b : ℕ) → laid number entries before (drop i es) (places m) b ≡ laid number entries 0 es (places start) b

pub lay_small : (before : ℕ) (es : List Entry) (i : ℕ) (e : Entry) → i < length es → get_or es i e ≡ e → before + total (drop i es) ≡ total es → total es ≤ 32 → before + e.count ≤ 32
lay_small before es i e h is sum most = let more = total_more es i before e h is sum in omega arith

-- one more
pub lay_more : (number entries before : ℕ) (es : List Entry) (i : ℕ) (e : Entry) (start m w : Mapped Place) (r : Result (Unit {0}) MapFault)
    → i < length es → get_or es i e ≡ e → entries ≤ 32 → total es ≤ 32 → Lays number entries before es i start m
    → Inserted place_advanced place_same place_fits (extent e.address e.count (place number (payload_offset entries before))) m r w
    → Lays number entries (before + e.count) es (i + 1) start w
lay_more number entries before es i e start m w r h is few most l done =
    let p = fit_more (entry_fits 32 m.blocks) es i e h is l.fit in
    let small = lay_small before es i e h is l.sum most in
    let low : payload_offset entries before < 65536 = omega arith in
    let g = insert_goes (extent e.address e.count (place number (payload_offset entries before))) m w r (entry_goes number (payload_offset entries before) m.blocks e p.0 low) done in
    record {
      fit = ap (λ n. every (entry_fits 32 n) (drop (i + 1) es)) g.0 ∙ p.1;
      sum = total_more es i before e h is l.sum;
      blocks_stay = g.0 ∙ l.blocks_stay;
      rest = λ b. laid_more number entries before es i e (places m) (places w) h is g.1 b ∙ l.rest b;
    }

pub lay_none : (number entries : ℕ) (es : List Entry) (m : Mapped Place) → every (entry_fits 32 m.blocks) es ≡ true → Lays number entries 0 es 0 m m
lay_none number entries es m fit = record { fit = fit; sum = omega arith; blocks_stay = refl; rest = λ b. refl }

pub lay_all : (number entries before : ℕ) (es : List Entry) (i : ℕ) (start m : Mapped Place) → length es ≤ i → Lays number entries before es i start m → (b : ℕ) → places m b ≡ laid number entries 0 es (places start) b
lay_all number entries before es i start m h l b = sym (laid_all number entries before es i (places m) h b) ∙ l.rest b
