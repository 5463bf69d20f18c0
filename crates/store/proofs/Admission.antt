-- When a put is granted, and what it adds to a directory.
use Rattle.std.proofs.Common.{◌≡◌, ℕ, ◌+◌, ◌<◌, ◌≤◌, Bool, true, false, cond, leb, List, [], ◌∷◌, ◌++◌, length, None, ap, ◌∙◌, arith}
use Rattle.std.proofs.lemmas.Bool.Decides.{nat_tests}
use Rattle.std.proofs.lemmas.Bool.{and_parts, leb-true, le-leb}
use Rattle.store.specs.declared.directory.Entry.{Entry}
use Rattle.store.specs.Calls.{put_refusal, lawful_length}
use Rattle.store.specs.Items.{view}
use Rattle.store.specs.Entries.{items, total, waits, named, tidy, due, Listed}
use Rattle.store.proofs.Listing.{has_numbered, weighed_all}
use Rattle.store.proofs.Entered.{numbered_items, waits_items, weighs_items, waits_append}
use Rattle.store.proofs.Tidy.{tidy_push, tidy_parts}
use Rattle.store.proofs.Changes.{here, waits_split}

-- what is known of a put that no refusal is due
pub record Admitted (es : List Entry) (waiting n long : ℕ) (fits : Bool) : Type 0 where
  pub lawful : lawful_length long ≡ true
  pub some : 1 ≤ n
  pub new : named es n ≡ false
  pub few : waiting < 8
  pub room : fits ≡ true

pub admitted : (es : List Entry) (waiting n long : ℕ) (fits : Bool) → due es waiting n long fits ≡ None → Admitted es waiting n long fits
admitted es waiting n long fits h = record { lawful = grind (arith, nat_tests); some = grind (arith, nat_tests); new = grind (arith, nat_tests); few = grind (arith, nat_tests); room = grind (arith, nat_tests) }

-- the refusal by the directory's sums is the refusal by the meaning
pub due_is : (room : ℕ → ℕ) (roomy : (n : ℕ) → n ≤ room n) (w : ℕ → ℕ) (c : ℕ) (es : List Entry) (a : List ℕ) (waiting n : ℕ) (bs : List ℕ) → waiting ≡ waits es → total room es ≤ length a
    → due es waiting n (length bs) (leb (total w es + w (length bs)) c) ≡ put_refusal (view w c (items room es a)) n bs
due_is room roomy w c es a waiting n bs hw hr =
    let t = has_numbered (items room es a) n ∙ numbered_items room es a n in
    let k = waits_items room es a in
    let l = weighed_all w (items room es a) ∙ weighs_items room roomy w es a hr in
    cc

-- lawful entries have a byte each at least
pub tidy_total : (f : ℕ → ℕ) → ((n : ℕ) → 1 ≤ n → 1 ≤ f n) → (es : List Entry) → tidy es ≡ true → length es ≤ total f es
tidy_total f g [] h = omega arith
tidy_total f g (e ∷ es) h =
    let p = tidy_parts e es h in
    let l : 1 ≤ e.length = leb-true 1 e.length (and_parts (leb 1 e.length) (leb e.length 16664) p.1).0 in
    let k = g e.length l in
    let ih = tidy_total f g es p.3 in
    omega arith

-- what a directory holds once a pending entry is added
pub listed_push : (es fs : List Entry) (e : Entry) (waiting : ℕ) (fits : Bool) → fs ≡ es ++ e ∷ [] → e.landed ≡ false → Listed es waiting → Admitted es waiting e.number e.length fits → Listed fs (waiting + 1)
listed_push es fs e waiting fits q f l h =
    let t : tidy fs ≡ true = ap tidy q ∙ tidy_push es e l.0 h.new (le-leb 1 e.number h.some) h.lawful in
    let p : cond {A = ℕ} e.landed 0 1 ≡ 1 = ap (λ z. cond {A = ℕ} z 0 1) f in
    let w : waits fs ≡ waits es + (cond {A = ℕ} e.landed 0 1 + 0) = ap waits q ∙ waits_append es (e ∷ []) in
    let y = h.few in
    let z = l.1 in
    (t, omega arith, omega arith)

pub waits_here : (es : List Entry) (i waiting n : ℕ) (e : Entry) → i < length es → e ≡ here es i → Listed es waiting → n ≡ waits (e ∷ []) → n ≤ waiting
waits_here es i waiting n e h q l k =
    let w = waits_split es i h in
    let z : waits (e ∷ []) ≡ waits (here es i ∷ []) = ap (λ y. waits (y ∷ [])) q in
    let v = l.1 in
    omega arith
