-- An entry of a directory lands or goes.
use Rattle.std.proofs.Common.{◌≡◌, ℕ, suc, ◌+◌, ◌-◌, ◌<◌, ◌≤◌, true, false, cond, List, [], ◌∷◌, ◌++◌, length, get_or, take, drop, Some, sym, ap, ◌∙◌, subst, arith}
use Rattle.std.specs.List.{remove}
use Rattle.std.proofs.lemmas.List.{length-append}
use Rattle.store.specs.declared.directory.Entry.{Entry}
use Rattle.store.specs.Views.{bytes_of}
use Rattle.store.specs.Calls.{Lands, deleting, vanishing}
use Rattle.store.specs.Items.{landed_of, view}
use Rattle.store.specs.Entries.{items, total, waits, tidy, risen, blank, Listed}
use Rattle.store.proofs.Entered.{total_append, waits_append}
use Rattle.store.proofs.Tidy.{split_at, tidy_risen, tidy_removed}
use Rattle.store.proofs.Moves.{land_move, delete_move, vanish_move, found_bytes}

-- the entry at a place
abbrev pub here : List Entry → ℕ → Entry
here es i = get_or es i blank

-- a directory after its entry has landed
abbrev pub with_risen : List Entry → ℕ → List Entry
with_risen es i = take i es ++ risen (here es i) ∷ drop (suc i) es

total_around : (f : ℕ → ℕ) (p : List Entry) (x : Entry) (q : List Entry) → total f (p ++ x ∷ q) ≡ total f p + (f x.length + total f q)
total_around f p x q = total_append f p (x ∷ q)

waits_around : (p : List Entry) (x : Entry) (q : List Entry) → waits (p ++ x ∷ q) ≡ waits p + (cond {A = ℕ} x.landed 0 1 + waits q)
waits_around p x q = waits_append p (x ∷ q)

pub waits_split : (es : List Entry) (i : ℕ) → i < length es → waits es ≡ waits (take i es) + (cond {A = ℕ} (here es i).landed 0 1 + waits (drop (suc i) es))
waits_split es i h = ap waits (split_at es i blank h) ∙ waits_around (take i es) (here es i) (drop (suc i) es)

pub total_split : (f : ℕ → ℕ) (es : List Entry) (i : ℕ) → i < length es → total f es ≡ total f (take i es) + (f (here es i).length + total f (drop (suc i) es))
total_split f es i h = ap (total f) (split_at es i blank h) ∙ total_around f (take i es) (here es i) (drop (suc i) es)

pub length_split : (es : List Entry) (i : ℕ) → i < length es → length es ≡ length (take i es) + suc (length (drop (suc i) es))
length_split es i h = ap length (split_at es i blank h) ∙ length-append (take i es) (here es i ∷ drop (suc i) es)

tidy_split : (es : List Entry) (i : ℕ) → i < length es → tidy es ≡ true → tidy (take i es ++ here es i ∷ drop (suc i) es) ≡ true
tidy_split es i h t = ap tidy (sym (split_at es i blank h)) ∙ t

pub some_waits : (es : List Entry) (i waiting : ℕ) → i < length es → (here es i).landed ≡ false → Listed es waiting → 1 ≤ waiting
some_waits es i waiting h f l =
    let p : cond {A = ℕ} (here es i).landed 0 1 ≡ 1 = ap (λ z. cond {A = ℕ} z 0 1) f in
    let w = waits_split es i h in
    let e = l.1 in
    omega arith

pub listed_risen : (es fs : List Entry) (i waiting : ℕ) → i < length es → (here es i).landed ≡ false → fs ≡ with_risen es i → Listed es waiting → Listed fs (waiting - 1)
listed_risen es fs i waiting h f q l =
    let p : cond {A = ℕ} (here es i).landed 0 1 ≡ 1 = ap (λ z. cond {A = ℕ} z 0 1) f in
    let w = waits_split es i h in
    let v : waits fs ≡ waits (take i es) + (0 + waits (drop (suc i) es)) = ap waits q ∙ waits_around (take i es) (risen (here es i)) (drop (suc i) es) in
    let t : tidy fs ≡ true = ap tidy q ∙ tidy_risen (take i es) (here es i) (drop (suc i) es) ∙ tidy_split es i h l.0 in
    let e = l.1 in
    let k = l.2 in
    (t, omega arith, omega arith)

pub total_risen : (f : ℕ → ℕ) (es fs : List Entry) (i : ℕ) → i < length es → fs ≡ with_risen es i → total f fs ≡ total f es
total_risen f es fs i h q = ap (total f) q ∙ total_around f (take i es) (risen (here es i)) (drop (suc i) es) ∙ sym (total_split f es i h)

pub listed_removed : (es fs : List Entry) (i waiting waiting' : ℕ) → i < length es → fs ≡ remove es i → waiting' + waits (here es i ∷ []) ≡ waiting → Listed es waiting → Listed fs waiting'
listed_removed es fs i waiting waiting' h q n l =
    let w = waits_split es i h in
    let v : waits fs ≡ waits (take i es) + waits (drop (suc i) es) = ap waits q ∙ waits_append (take i es) (drop (suc i) es) in
    let t : tidy fs ≡ true = ap tidy q ∙ tidy_removed (take i es) (here es i) (drop (suc i) es) (tidy_split es i h l.0) in
    let e = l.1 in
    let k = l.2 in
    (t, omega arith, omega arith)

pub total_removed : (f : ℕ → ℕ) (es fs : List Entry) (i : ℕ) → i < length es → fs ≡ remove es i → total f fs + f (here es i).length ≡ total f es
total_removed f es fs i h q =
    let a : total f fs ≡ total f (take i es) + total f (drop (suc i) es) = ap (total f) q ∙ total_append f (take i es) (drop (suc i) es) in
    let b = total_split f es i h in
    omega arith

module _ (room : ℕ → ℕ) (roomy : (n : ℕ) → n ≤ room n) (w : ℕ → ℕ) (c : ℕ) where
  pub lands_at : (es fs : List Entry) (i n : ℕ) (a : List ℕ) → i < length es → (here es i).landed ≡ false → fs ≡ with_risen es i → n ≡ (here es i).number → tidy es ≡ true
      → Lands (view w c (items room es a)) (waits (take i es)) n (view w c (items room fs a))
  lands_at es fs i n a h f q e t =
      let m = land_move room roomy w c (take i es) (here es i) (drop (suc i) es) a f (tidy_split es i h t) in
      let P : ℕ → List Entry → List Entry → Type 0 = λ k x y. Lands (view w c (items room x a)) (waits (take i es)) k (view w c (items room y a)) in
      subst (λ k. P k es fs) (sym e) (subst (λ x. P (here es i).number x fs) (sym (split_at es i blank h)) (subst (P (here es i).number (take i es ++ here es i ∷ drop (suc i) es)) (sym q) m))

  -- the area closes up over the room of entry i
  pub record Closes (es : List Entry) (i : ℕ) (a b : List ℕ) : Type 0 where
    pub front : take (total room (take i es)) b ≡ take (total room (take i es)) a
    pub back : take (total room (drop (suc i) es)) (drop (total room (take i es)) b) ≡ take (total room (drop (suc i) es)) (drop (room (here es i).length) (drop (total room (take i es)) a))

  pub deletes_at : (es fs : List Entry) (i : ℕ) (a b : List ℕ) → i < length es → (here es i).landed ≡ true → fs ≡ remove es i → tidy es ≡ true → Closes es i a b
      → view w c (items room fs b) ≡ deleting (view w c (items room es a)) (here es i).number
  deletes_at es fs i a b h f q t k =
      let m = delete_move room roomy w c (take i es) (here es i) (drop (suc i) es) a b f (tidy_split es i h t) k.front k.back in
      ap (λ x. view w c (items room x b)) q ∙ m ∙ ap (λ x. deleting (view w c (items room x a)) (here es i).number) (sym (split_at es i blank h))

  pub vanishes_at : (es fs : List Entry) (i : ℕ) (a b : List ℕ) → i < length es → (here es i).landed ≡ false → fs ≡ remove es i → Closes es i a b
      → view w c (items room fs b) ≡ vanishing (view w c (items room es a)) (waits (take i es))
  vanishes_at es fs i a b h f q k =
      let m = vanish_move room roomy w c (take i es) (here es i) (drop (suc i) es) a b f k.front k.back in
      ap (λ x. view w c (items room x b)) q ∙ m ∙ ap (λ x. vanishing (view w c (items room x a)) (waits (take i es))) (sym (split_at es i blank h))

  pub bytes_at : (es : List Entry) (i : ℕ) (a : List ℕ) → i < length es → (here es i).landed ≡ true → tidy es ≡ true
      → bytes_of (landed_of (items room es a)) (here es i).number ≡ Some (take (here es i).length (drop (total room (take i es)) a))
  bytes_at es i a h f t =
      ap (λ x. bytes_of (landed_of (items room x a)) (here es i).number) (split_at es i blank h) ∙ found_bytes room roomy w c (take i es) (here es i) (drop (suc i) es) a f (tidy_split es i h t)
