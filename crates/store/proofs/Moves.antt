-- What a change of the directory and its area does to what a store means.
use Rattle.std.proofs.Common.{◌≡◌, ℕ, suc, ◌<◌, ◌≤◌, true, false, cond, eqb, List, [], ◌∷◌, ◌++◌, length, get_or, take, drop, Some, sym, refl, ap, ◌∙◌, arith}
use Rattle.std.specs.List.{remove}
use Rattle.std.proofs.lemmas.Bool.Decides.{nat_tests}
use Rattle.std.proofs.lemmas.Bool.{or_from, cond-true, cond-false}
use Rattle.std.proofs.lemmas.List.{append-nil, append_assoc, get_or_at, take_at, drop_at, length-append}
use Rattle.store.specs.declared.directory.Entry.{Entry}
use Rattle.store.specs.Views.{Object, nothing, StoreView, bytes_of, place, without}
use Rattle.store.specs.Calls.{putting, Lands, deleting, vanishing}
use Rattle.store.specs.Items.{landed_of, pending_of, view}
use Rattle.store.specs.Entries.{item, items, total, waits, tidy, risen}
use Rattle.store.proofs.Placing.{bytes_place, without_placed}
use Rattle.store.proofs.Listing.{numbered, landed_split, landed_skip, pending_append, landed_fresh, numbered_append}
use Rattle.store.proofs.Entered.{items_append, numbered_items, waits_items, items_same}
use Rattle.store.proofs.Tidy.{tidy_before, tidy_after}

-- a view is known by its objects
pub same_view : (w : ℕ → ℕ) (c : ℕ) {ls ls' ps ps' : List Object} → ls ≡ ls' → ps ≡ ps'
    → ◌≡◌ {A = StoreView} (record { landed = ls; pending = ps; weight = w; capacity = c }) (record { landed = ls'; pending = ps'; weight = w; capacity = c })
same_view w c e f = λ i. record { landed = e i; pending = f i; weight = w; capacity = c }

removed_at : (p : List Object) (x : Object) (q : List Object) (k : ℕ) → length p ≡ k → remove (p ++ x ∷ q) k ≡ p ++ q
removed_at p x q k h =
    let t = take_at p (x ∷ q) k h in
    let d : drop (suc k) (p ++ x ∷ q) ≡ q = ap (λ z. drop (suc k) z) (sym (append_assoc p (x ∷ []) q)) ∙ drop_at (p ++ x ∷ []) q (suc k) (length-append p (x ∷ []) ∙ omega arith) in
    cc

module _ (room : ℕ → ℕ) (roomy : (n : ℕ) → n ≤ room n) (w : ℕ → ℕ) (c : ℕ) where
  -- what a directory over an area means
  abbrev pub means : List Entry → List ℕ → StoreView
  means es a = view w c (items room es a)

  -- the bytes of an entry after others
  abbrev pub after : List Entry → List ℕ → List ℕ
  after pre a = drop (total room pre) a

  pub parted : (pre : List Entry) (e : Entry) (post : List Entry) (a : List ℕ) → items room (pre ++ e ∷ post) a ≡ items room pre a ++ item e (after pre a) ∷ items room post (drop (room e.length) (after pre a))
  parted pre e post a = items_append room pre (e ∷ post) a

  pub put_move : (es : List Entry) (e : Entry) (a b bs : List ℕ) → e.landed ≡ false → take (total room es) b ≡ take (total room es) a → take e.length (after es b) ≡ bs
      → means (es ++ e ∷ []) b ≡ putting (means es a) e.number bs
  put_move es e a b bs f t h =
      let p = parted es e [] b in
      let s = items_same room roomy es b a t in
      let xs = items room es a in
      let x = item e (after es b) in
      let q : items room (es ++ e ∷ []) b ≡ xs ++ x ∷ [] = p ∙ ap (λ z. z ++ x ∷ []) s in
      let l : landed_of (items room (es ++ e ∷ []) b) ≡ landed_of xs = ap landed_of q ∙ landed_skip xs x [] f ∙ ap landed_of (append-nil xs) in
      let o : pending_of (x ∷ []) ≡ (e.number, bs) ∷ [] = cond-false e.landed [] (x.object ∷ []) f ∙ ap (λ z. (e.number, z) ∷ []) h in
      let m : pending_of (items room (es ++ e ∷ []) b) ≡ pending_of xs ++ (e.number, bs) ∷ [] = ap pending_of q ∙ pending_append xs (x ∷ []) ∙ ap (λ z. pending_of xs ++ z) o in
      same_view w c l m

  pub land_move : (pre : List Entry) (e : Entry) (post : List Entry) (a : List ℕ) → e.landed ≡ false → tidy (pre ++ e ∷ post) ≡ true
      → Lands (means (pre ++ e ∷ post) a) (waits pre) e.number (means (pre ++ risen e ∷ post) a)
  land_move pre e post a f t =
      let p = items room pre a in
      let q = items room post (drop (room e.length) (after pre a)) in
      let x = item e (after pre a) in
      let y = item (risen e) (after pre a) in
      let k = waits_items room pre a in
      let n : numbered p e.number ≡ false = numbered_items room pre a e.number ∙ tidy_before pre e post t in
      let old = parted pre e post a in
      let new = parted pre (risen e) post a in
      let lx : landed_of (items room (pre ++ e ∷ post) a) ≡ landed_of (p ++ q) = ap landed_of old ∙ landed_skip p x q f in
      let ly : landed_of (items room (pre ++ risen e ∷ post) a) ≡ place x.object (landed_of (p ++ q)) = ap landed_of new ∙ landed_split p y q n in
      let ox : pending_of (x ∷ q) ≡ x.object ∷ pending_of q = cond-false e.landed (pending_of q) (x.object ∷ pending_of q) f in
      let px : pending_of (items room (pre ++ e ∷ post) a) ≡ pending_of p ++ x.object ∷ pending_of q = ap pending_of old ∙ pending_append p (x ∷ q) ∙ ap (λ z. pending_of p ++ z) ox in
      let py : pending_of (items room (pre ++ risen e ∷ post) a) ≡ pending_of p ++ pending_of q = ap pending_of new ∙ pending_append p (y ∷ q) in
      let g : get_or (pending_of (items room (pre ++ e ∷ post) a)) (waits pre) nothing ≡ x.object = ap (λ z. get_or z (waits pre) nothing) px ∙ get_or_at (pending_of p) x.object (pending_of q) nothing (waits pre) k in
      let r : remove (pending_of (items room (pre ++ e ∷ post) a)) (waits pre) ≡ pending_of p ++ pending_of q = ap (λ z. remove z (waits pre)) px ∙ removed_at (pending_of p) x.object (pending_of q) (waits pre) k in
      let there : waits pre < length (pending_of (items room (pre ++ e ∷ post) a)) = omega (arith, ap length px, length-append (pending_of p) (x.object ∷ pending_of q)) in
      let ll : landed_of (items room (pre ++ risen e ∷ post) a) ≡ place (get_or (pending_of (items room (pre ++ e ∷ post) a)) (waits pre) nothing) (landed_of (items room (pre ++ e ∷ post) a)) = cc in
      record { there = there; number = ap (λ z. z.0) (sym g); after = same_view w c ll (py ∙ sym r) }

  -- the objects on both sides of one that is taken out, where the area closes up
  pub closed : (pre : List Entry) (e : Entry) (post : List Entry) (a b : List ℕ) → take (total room pre) b ≡ take (total room pre) a → take (total room post) (after pre b) ≡ take (total room post) (drop (room e.length) (after pre a))
      → items room (pre ++ post) b ≡ items room pre a ++ items room post (drop (room e.length) (after pre a))
  closed pre e post a b s t =
      let i = items_append room pre post b in
      let j = items_same room roomy pre b a s in
      let k = items_same room roomy post (after pre b) (drop (room e.length) (after pre a)) t in
      cc

  pub vanish_move : (pre : List Entry) (e : Entry) (post : List Entry) (a b : List ℕ) → e.landed ≡ false
      → take (total room pre) b ≡ take (total room pre) a → take (total room post) (after pre b) ≡ take (total room post) (drop (room e.length) (after pre a))
      → means (pre ++ post) b ≡ vanishing (means (pre ++ e ∷ post) a) (waits pre)
  vanish_move pre e post a b f s t =
      let p = items room pre a in
      let q = items room post (drop (room e.length) (after pre a)) in
      let x = item e (after pre a) in
      let k = waits_items room pre a in
      let old = parted pre e post a in
      let new = closed pre e post a b s t in
      let lx : landed_of (items room (pre ++ e ∷ post) a) ≡ landed_of (p ++ q) = ap landed_of old ∙ landed_skip p x q f in
      let ox : pending_of (x ∷ q) ≡ x.object ∷ pending_of q = cond-false e.landed (pending_of q) (x.object ∷ pending_of q) f in
      let px : pending_of (items room (pre ++ e ∷ post) a) ≡ pending_of p ++ x.object ∷ pending_of q = ap pending_of old ∙ pending_append p (x ∷ q) ∙ ap (λ z. pending_of p ++ z) ox in
      let r : remove (pending_of (items room (pre ++ e ∷ post) a)) (waits pre) ≡ pending_of p ++ pending_of q = ap (λ z. remove z (waits pre)) px ∙ removed_at (pending_of p) x.object (pending_of q) (waits pre) k in
      same_view w c (ap landed_of new ∙ sym lx) (ap pending_of new ∙ pending_append p q ∙ sym r)

  pub delete_move : (pre : List Entry) (e : Entry) (post : List Entry) (a b : List ℕ) → e.landed ≡ true → tidy (pre ++ e ∷ post) ≡ true
      → take (total room pre) b ≡ take (total room pre) a → take (total room post) (after pre b) ≡ take (total room post) (drop (room e.length) (after pre a))
      → means (pre ++ post) b ≡ deleting (means (pre ++ e ∷ post) a) e.number
  delete_move pre e post a b f h s t =
      let p = items room pre a in
      let q = items room post (drop (room e.length) (after pre a)) in
      let x = item e (after pre a) in
      let old = parted pre e post a in
      let new = closed pre e post a b s t in
      let n : numbered p e.number ≡ false = numbered_items room pre a e.number ∙ tidy_before pre e post h in
      let m : numbered q e.number ≡ false = numbered_items room post (drop (room e.length) (after pre a)) e.number ∙ tidy_after pre e post h in
      let pq : numbered (p ++ q) e.number ≡ false = numbered_append p q e.number ∙ or_from (numbered p e.number) (numbered q e.number) n m in
      let lx : landed_of (items room (pre ++ e ∷ post) a) ≡ place x.object (landed_of (p ++ q)) = ap landed_of old ∙ landed_split p x q n ∙ cond-true e.landed (place x.object (landed_of (p ++ q))) (landed_of (p ++ q)) f in
      let wx : without (landed_of (items room (pre ++ e ∷ post) a)) e.number ≡ landed_of (p ++ q) = ap (λ z. without z e.number) lx ∙ without_placed x.object (landed_of (p ++ q)) e.number refl (landed_fresh (p ++ q) e.number pq) in
      let ox : pending_of (x ∷ q) ≡ pending_of q = cond-true e.landed (pending_of q) (x.object ∷ pending_of q) f in
      let px : pending_of (items room (pre ++ e ∷ post) a) ≡ pending_of p ++ pending_of q = ap pending_of old ∙ pending_append p (x ∷ q) ∙ ap (λ z. pending_of p ++ z) ox in
      same_view w c (ap landed_of new ∙ sym wx) (ap pending_of new ∙ pending_append p q ∙ sym px)

  -- the bytes of a landed entry
  pub found_bytes : (pre : List Entry) (e : Entry) (post : List Entry) (a : List ℕ) → e.landed ≡ true → tidy (pre ++ e ∷ post) ≡ true
      → bytes_of (landed_of (items room (pre ++ e ∷ post) a)) e.number ≡ Some (take e.length (after pre a))
  found_bytes pre e post a f h =
      let p = items room pre a in
      let q = items room post (drop (room e.length) (after pre a)) in
      let x = item e (after pre a) in
      let old = parted pre e post a in
      let n : numbered p e.number ≡ false = numbered_items room pre a e.number ∙ tidy_before pre e post h in
      let lx : landed_of (items room (pre ++ e ∷ post) a) ≡ place x.object (landed_of (p ++ q)) = ap landed_of old ∙ landed_split p x q n ∙ cond-true e.landed (place x.object (landed_of (p ++ q))) (landed_of (p ++ q)) f in
      let b = bytes_place x.object (landed_of (p ++ q)) e.number in
      let g : cond (eqb e.number e.number) (Some (take e.length (after pre a))) (bytes_of (landed_of (p ++ q)) e.number) ≡ Some (take e.length (after pre a)) = grind (arith, nat_tests) in
      ap (λ z. bytes_of z e.number) lx ∙ b ∙ g
