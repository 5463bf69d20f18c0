-- A directory's entries, and the items that they make of an area.
use Rattle.std.proofs.Common.{◌≡◌, ℕ, ◌+◌, ◌≤◌, false, ◌&&◌, ◌||◌, eqb, List, [], ◌∷◌, ◌++◌, length, take, drop, None, sym, refl, ap, ◌∙◌, arith, length-drop}
use Rattle.std.proofs.lemmas.Bool.Decides.{nat_tests}
use Rattle.std.proofs.lemmas.Bool.{or_parts}
use Rattle.std.proofs.lemmas.List.{drop-drop, take-take, drop-take, length-take-le}
use Rattle.store.specs.declared.directory.Entry.{Entry}
use Rattle.store.specs.Views.{has, bytes_of, next_from}
use Rattle.store.specs.Items.{landed_of, pending_of}
use Rattle.store.specs.Entries.{item, items, total, waits, named, stored, lowest}
use Rattle.store.proofs.Placing.{has_place, next_place, bytes_place}
use Rattle.store.proofs.Listing.{numbered, weighs}

pub items_append : (room : ℕ → ℕ) (es fs : List Entry) (a : List ℕ) → items room (es ++ fs) a ≡ items room es a ++ items room fs (drop (total room es) a)
items_append room [] fs a = refl
items_append room (e ∷ es) fs a =
    ap (λ z. item e a ∷ z) (items_append room es fs (drop (room e.length) a) ∙ ap (λ z. items room es (drop (room e.length) a) ++ items room fs z) (drop-drop (total room es) (room e.length) a))

pub total_append : (f : ℕ → ℕ) (es fs : List Entry) → total f (es ++ fs) ≡ total f es + total f fs
total_append f [] fs = omega arith
total_append f (e ∷ es) fs = let ih = total_append f es fs in omega arith

pub waits_append : (es fs : List Entry) → waits (es ++ fs) ≡ waits es + waits fs
waits_append [] fs = omega arith
waits_append (e ∷ es) fs = let ih = waits_append es fs in omega arith

pub named_append : (es fs : List Entry) (n : ℕ) → named (es ++ fs) n ≡ (named es n || named fs n)
named_append [] fs n = refl
named_append (e ∷ es) fs n = let ih = named_append es fs n in grind (arith, nat_tests)

pub numbered_items : (room : ℕ → ℕ) (es : List Entry) (a : List ℕ) (n : ℕ) → numbered (items room es a) n ≡ named es n
numbered_items room [] a n = refl
numbered_items room (e ∷ es) a n = ap (λ z. eqb e.number n || z) (numbered_items room es (drop (room e.length) a) n)

pub waits_items : (room : ℕ → ℕ) (es : List Entry) (a : List ℕ) → length (pending_of (items room es a)) ≡ waits es
waits_items room [] a = refl
waits_items room (e ∷ es) a = let ih = waits_items room es (drop (room e.length) a) in grind (arith, nat_tests)

pub lowest_items : (room : ℕ → ℕ) (es : List Entry) (a : List ℕ) (n : ℕ) → next_from (landed_of (items room es a)) n ≡ lowest es n
lowest_items room [] a n = refl
lowest_items room (e ∷ es) a n =
    let ih = lowest_items room es (drop (room e.length) a) n in
    let p = next_place (e.number, take e.length a) (landed_of (items room es (drop (room e.length) a))) n in
    grind (arith, nat_tests)

-- a number that no landed entry has
pub absent_items : (room : ℕ → ℕ) (es : List Entry) (a : List ℕ) (n : ℕ) → stored es n ≡ false → bytes_of (landed_of (items room es a)) n ≡ None
absent_items room [] a n f = refl
absent_items room (e ∷ es) a n f =
    let p = or_parts (e.landed && eqb e.number n) (stored es n) f in
    let ih = absent_items room es (drop (room e.length) a) n p.1 in
    let q = bytes_place (e.number, take e.length a) (landed_of (items room es (drop (room e.length) a))) n in
    grind (arith, nat_tests)

pub has_items : (room : ℕ → ℕ) (es : List Entry) (a : List ℕ) (n : ℕ) → has (landed_of (items room es a)) n ≡ stored es n
has_items room [] a n = refl
has_items room (e ∷ es) a n =
    let ih = has_items room es (drop (room e.length) a) n in
    let q = has_place (e.number, take e.length a) (landed_of (items room es (drop (room e.length) a))) n in
    grind (arith, nat_tests)

module _ (room : ℕ → ℕ) (roomy : (n : ℕ) → n ≤ room n) where
  -- entries see no more of an area than the room that they take
  pub items_same : (es : List Entry) (a b : List ℕ) → take (total room es) a ≡ take (total room es) b → items room es a ≡ items room es b
  items_same [] a b h = refl
  items_same (e ∷ es) a b h =
      let l = roomy e.length in
      let t : take e.length a ≡ take e.length b = sym (take-take e.length (total room (e ∷ es)) a (omega arith)) ∙ ap (take e.length) h ∙ take-take e.length (total room (e ∷ es)) b (omega arith) in
      let d : take (total room es) (drop (room e.length) a) ≡ take (total room es) (drop (room e.length) b) = sym (drop-take (room e.length) (total room es) a) ∙ ap (drop (room e.length)) h ∙ drop-take (room e.length) (total room es) b in
      let ih = items_same es (drop (room e.length) a) (drop (room e.length) b) d in
      let i : item e a ≡ item e b = ap (λ z. record { object = (e.number, z); landed = e.landed }) t in
      cc

  pub weighs_items : (w : ℕ → ℕ) (es : List Entry) (a : List ℕ) → total room es ≤ length a → weighs w (items room es a) ≡ total w es
  weighs_items w [] a h = refl
  weighs_items w (e ∷ es) a h =
      let l = roomy e.length in
      let t : length (take e.length a) ≡ e.length = length-take-le e.length a (omega arith) in
      let ih = weighs_items w es (drop (room e.length) a) (simp length-drop (omega arith)) in
      cc
