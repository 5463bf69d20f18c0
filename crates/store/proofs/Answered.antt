-- What a walk through the directory answers about the meaning.
use Rattle.std.proofs.Common.{◌≡◌, ℕ, ◌+◌, ◌-◌, ◌<◌, ◌≤◌, false, cond, leb, List, [], ◌∷◌, length, take, drop, is_some, Some, None, Ok, Err, Result, unwrap_or, sym, refl, ap, ◌∙◌, ⊎_elim, arith}
use Rattle.std.specs.Option.{option_map, ok_or}
use Rattle.std.proofs.lemmas.Bool.Decides.{nat_tests}
use Rattle.std.proofs.lemmas.Bool.{le-leb, lt-leb, cond-true, cond-false}
use Rattle.std.proofs.lemmas.List.{length-take-le, length-drop, nil_from_length, drop-drop, drop-take, take-take}
use Rattle.store.specs.declared.directory.Entry.{Entry}
use Rattle.store.specs.declared.fault.StoreFault.{StoreFault}
use Rattle.store.specs.declared.fault.StoreFault.TheVariants.{Absent, PastEnd}
use Rattle.store.specs.Views.{Object, bytes_of, has}
use Rattle.store.specs.Calls.{sized, get_refusal, part, delete_refusal}
use Rattle.store.specs.Items.{landed_of, pending_of, view}
use Rattle.store.specs.Entries.{items, total, waits, stored, Found, PartFound}
use Rattle.store.proofs.Entered.{absent_items, has_items, waits_items}
use Rattle.store.proofs.Changes.{here, bytes_at, total_split, waits_split}
use Rattle.store.proofs.Holding.{Holds, inside}

-- what has bytes is there
has_bytes : (xs : List Object) (n : ℕ) → has xs n ≡ is_some (bytes_of xs n)
has_bytes [] n = refl
has_bytes (x ∷ xs) n = let ih = has_bytes xs n in grind (arith, nat_tests)

module _ {room weight : ℕ → ℕ} {c : ℕ} {a : List ℕ} {es : List Entry} {waiting used load : ℕ} (h : Holds room weight c a es waiting used load) where
  pub sized_absent : (n : ℕ) → stored es n ≡ false → ◌≡◌ {A = Result ℕ StoreFault} (Err Absent) (sized (view weight c (items room es a)) n)
  sized_absent n f = ap (λ z. ok_or (option_map length z) Absent) (sym (absent_items room es a n f))

  -- the bytes of the landed entry that was found
  pub found_at : (n i : ℕ) → Found es n (Ok i) → bytes_of (landed_of (items room es a)) n ≡ Some (take (here es i).length (drop (total room (take i es)) a))
  found_at n i f = ap (bytes_of (landed_of (items room es a))) (sym f.1) ∙ bytes_at room h.roomy weight c es i a f.0 f.2 h.listed.0

  -- the object of entry i lies within the area
  pub lies_within : (i : ℕ) → i < length es → total room (take i es) + (here es i).length ≤ length a
  lies_within i l = let t = total_split room es i l in let k = h.roomy (here es i).length in let r = inside h in omega arith

  pub long_at : (i : ℕ) → i < length es → length (take (here es i).length (drop (total room (take i es)) a)) ≡ (here es i).length
  long_at i l = let k = lies_within i l in length-take-le (here es i).length (drop (total room (take i es)) a) (simp length-drop (omega arith))

  pub sized_found : (n i r : ℕ) → Found es n (Ok i) → r ≡ (here es i).length → ◌≡◌ {A = Result ℕ StoreFault} (Ok r) (sized (view weight c (items room es a)) n)
  sized_found n i r f e = ap Ok (e ∙ sym (long_at i f.0)) ∙ ap (λ z. ok_or (option_map length z) Absent) (sym (found_at n i f))

  pub get_absent : (n from count : ℕ) → stored es n ≡ false → get_refusal (view weight c (items room es a)) n from count ≡ Some Absent
  get_absent n from count f = ap (λ z. elim z [ None ↦ Some Absent | Some bs ↦ cond (leb (from + count) (length bs)) None (Some PastEnd) ]) (absent_items room es a n f)

  pub get_found : (n i from count : ℕ) → Found es n (Ok i) → get_refusal (view weight c (items room es a)) n from count ≡ cond (leb (from + count) (here es i).length) None (Some PastEnd)
  get_found n i from count f =
      ap (λ z. elim z [ None ↦ Some Absent | Some bs ↦ cond (leb (from + count) (length bs)) None (Some PastEnd) ]) (found_at n i f)
      ∙ ap (λ z. cond (leb (from + count) z) None (Some PastEnd)) (long_at i f.0)

  pub get_past : (n i from count : ℕ) → Found es n (Ok i) → (here es i).length < from + count → get_refusal (view weight c (items room es a)) n from count ≡ Some PastEnd
  get_past n i from count f k = get_found n i from count f ∙ cond-false _ None (Some PastEnd) (lt-leb (from + count) (here es i).length k)

  pub get_granted : (n i from count : ℕ) → Found es n (Ok i) → from + count ≤ (here es i).length → get_refusal (view weight c (items room es a)) n from count ≡ None
  get_granted n i from count f k = get_found n i from count f ∙ cond-true _ None (Some PastEnd) (le-leb (from + count) (here es i).length k)

  -- the asked part in the area
  pub part_at : (n i from count : ℕ) → Found es n (Ok i) → from + count ≤ (here es i).length → part (view weight c (items room es a)) n from count ≡ take count (drop (total room (take i es) + from) a)
  part_at n i from count f k =
      let len = (here es i).length in
      let b = drop (total room (take i es)) a in
      let l : from + (len - from) ≡ len = omega arith in
      let x : drop from (take len b) ≡ take (len - from) (drop from b) = ap (λ z. drop from (take z b)) (sym l) ∙ drop-take from (len - from) b in
      ap (λ z. take count (drop from (unwrap_or z []))) (found_at n i f) ∙ ap (take count) x ∙ take-take count (len - from) (drop from b) (omega arith) ∙ ap (take count) (drop-drop from (total room (take i es)) a)

  pub delete_absent : (n : ℕ) → stored es n ≡ false → delete_refusal (view weight c (items room es a)) n ≡ Some Absent
  delete_absent n f = cond-false (has (landed_of (items room es a)) n) None (Some Absent) (has_items room es a n ∙ f)

  pub delete_found : (n i : ℕ) → Found es n (Ok i) → delete_refusal (view weight c (items room es a)) n ≡ None
  delete_found n i f = cond-true (has (landed_of (items room es a)) n) None (Some Absent) (has_bytes (landed_of (items room es a)) n ∙ ap is_some (found_at n i f))

  pub waits_view : waiting ≡ length (view weight c (items room es a)).pending
  waits_view = h.listed.1 ∙ sym (waits_items room es a)

  pub none_pending : waits es ≡ 0 → (view weight c (items room es a)).pending ≡ []
  none_pending f = nil_from_length (pending_of (items room es a)) (waits_items room es a ∙ f)

  pub some_pending : (i : ℕ) → i < length es → (here es i).landed ≡ false → 0 < length (view weight c (items room es a)).pending
  some_pending i l f =
      let p : cond {A = ℕ} (here es i).landed 0 1 ≡ 1 = ap (λ z. cond {A = ℕ} z 0 1) f in
      let x = waits_split es i l in
      let y = waits_items room es a in
      omega arith

  -- why there is no such part
  pub part_refused : (n from count : ℕ) (e : StoreFault) → PartFound es n from count (Err e) → get_refusal (view weight c (items room es a)) n from count ≡ Some e
  part_refused n from count e f =
      ⊎_elim (λ x. get_absent n from count x.1 ∙ ap Some (sym x.0)) (λ x. get_past n x.1.at from count x.1.found x.1.short ∙ ap Some (sym x.0)) f
