-- Lists of bytes: reading one finds the list that is written. Assumes nothing.
use Rattle.std.proofs.Common.{◌≡◌, ℕ, zero, suc, ◌+◌, ◌-◌, ◌*◌, ◌%◌, ◌^◌, ◌<◌, ◌≤◌, Bool, true, false, cond, eqb, ltb, List, [], ◌∷◌, ◌++◌, map, length, get_or, take, drop, Some, None, decimal, Option, sym, refl, ap, ◌∙◌, subst, append_assoc, arith}
use Rattle.std.specs.List.{filter}
use Rattle.std.specs.Option.{option_map, option_and_then}
use Rattle.std.proofs.lemmas.List.{length-append, take_at}
use Rattle.std.proofs.lemmas.Fmt.{decimal_nonempty, decimal_by_steps}
use Rattle.std.proofs.lemmas.Bool.{and_parts, and_from, eqb-true, ne_eqb, ltb-true, lt-ltb}
use Rattle.commands.specs.Numbers.{digit, number_in}
use Rattle.commands.specs.Grammar.{spaced, listed, bytes_only}
use Rattle.commands.specs.Values.{values, values_on, Listing}
use Rattle.commands.specs.Elements.{elements, front, valued, list_in}
use Rattle.commands.proofs.Figures.{digit_of, digit_range, reads_decimal, number_is, number_back, Number, some_same}

-- the first number is a byte, and so are the others
pub bytes_first : (b : ℕ) (bs : List ℕ) → bytes_only (b ∷ bs) ≡ true → b ≤ 255
bytes_first b bs e = let p = and_parts (ltb b 256) (bytes_only bs) e in let q = ltb-true b 256 p.0 in omega arith

pub bytes_rest : (b : ℕ) (bs : List ℕ) → bytes_only (b ∷ bs) ≡ true → bytes_only bs ≡ true
bytes_rest b bs e = (and_parts (ltb b 256) (bytes_only bs) e).1

pub bytes_more : (b : ℕ) (bs : List ℕ) → b ≤ 255 → bytes_only bs ≡ true → bytes_only (b ∷ bs) ≡ true
bytes_more b bs h e = and_from (ltb b 256) (bytes_only bs) (lt-ltb b 256 (omega arith)) e

-- the text of numbers in front of an end
pub spaced_end : (ts : List (List ℕ)) (end : List ℕ) → spaced ts end ≡ spaced ts [] ++ end
spaced_end [] end = refl
spaced_end (t ∷ ts) end = ap (λ l. 32 ∷ (t ++ l)) (spaced_end ts end) ∙ ap (λ l. 32 ∷ l) (sym (append_assoc t (spaced ts []) end))

pub listed_end : (vs : List ℕ) (end : List ℕ) → listed vs end ≡ listed vs [] ++ end
listed_end [] end = refl
listed_end (b ∷ bs) end = ap (λ l. decimal b ++ l) (spaced_end (map decimal bs) end) ∙ sym (append_assoc (decimal b) (spaced (map decimal bs) []) end)

spaced_listed : (vs r : List ℕ) → 0 < length vs → spaced (map decimal vs) r ≡ 32 ∷ listed vs r
spaced_listed [] r h = absurd (omega arith)
spaced_listed (b ∷ bs) r h = refl

-- the numbers of a text
take_back : (d : ℕ) → 48 + d - 48 ≡ d
take_back d = omega arith

values_next : (n d : ℕ) (s : List ℕ) → d < 10 → values_on (Some n) ((48 + d) ∷ s) ≡ values_on (Some (10 * n + d)) s
values_next n d s h =
    let apart : eqb (48 + d) 32 ≡ false = ne_eqb (48 + d) 32 (λ e. omega arith) in
    ap (λ b. cond b (n ∷ values_on None s) (values_on (Some (10 * n + (48 + d - 48))) s)) apart ∙ ap (λ k. values_on (Some (10 * n + k)) s) (take_back d)

values_one : (d : ℕ) (s : List ℕ) → d < 10 → values_on None ((48 + d) ∷ s) ≡ values_on (Some d) s
values_one d s h = let e : 10 * 0 + d ≡ d = omega arith in values_next 0 d s h ∙ ap (λ k. values_on (Some k) s) e

values_number : (b : ℕ) → b ≤ 255 → (s : List ℕ) → values_on None (decimal b ++ s) ≡ values_on (Some b) s
values_number b h s = reads_decimal (values_on None) (λ n. values_on (Some n)) 255 (omega arith) values_one (λ n d r _ q _. values_next n d r q) b h s

values_spaced : (b : ℕ) (bs : List ℕ) → bytes_only bs ≡ true → values_on (Some b) (spaced (map decimal bs) []) ≡ b ∷ bs
values_spaced b [] e = refl
values_spaced b (c ∷ cs) e = ap (λ l. b ∷ l) (values_number c (bytes_first c cs e) (spaced (map decimal cs) []) ∙ values_spaced c cs (bytes_rest c cs e))

pub values_listed : (vs : List ℕ) → bytes_only vs ≡ true → values (listed vs []) ≡ vs
values_listed [] e = refl
values_listed (b ∷ bs) e =
    let low = bytes_first b bs e in
    values_number b low (spaced (map decimal bs) [])
    ∙ values_spaced b bs (bytes_rest b bs e)

-- a number begins with a digit
pub decimal_first : (b : ℕ) → b < 2 ^ 32 → (s : List ℕ) → digit (get_or (decimal b ++ s) 0 0) ≡ true
decimal_first b h s =
    decimal_by_steps (λ k ds. (r : List ℕ) → digit (get_or (ds ++ r) 0 0) ≡ true)
    (λ n p r. digit_of n p)
    (λ n ds p rec r. subst (λ l. digit (get_or l 0 0) ≡ true) (sym (append_assoc ds ((48 + n % 10) ∷ []) r)) (rec ((48 + n % 10) ∷ r)))
    b (omega arith) s

-- a text by its first byte, which is not 0
pub head_rest : (t : List ℕ) (b : ℕ) → 0 < b → get_or t 0 0 ≡ b → t ≡ b ∷ drop 1 t
head_rest [] b h e = absurd (omega arith)
head_rest (c ∷ cs) b h e = ap (λ x. x ∷ cs) e

-- the elements that were read, and what follows them
pub record Elements (s r : List ℕ) : Type 0 where
  pub vs : List ℕ
  pub is : s ≡ listed vs r
  pub small : bytes_only vs ≡ true
  pub some : 0 < length vs
  pub closed : get_or r 0 0 ≡ 41

one_element : (s : List ℕ) (b : ℕ) (t r : List ℕ) → Number 255 s b t → get_or t 0 0 ≡ 41 → ◌≡◌ {A = Option (List ℕ)} (Some t) (Some r) → Elements s r
one_element s b t r w h e =
    let p : t ≡ r = cc in
    record {
      vs = b ∷ [];
      is = w.is ∙ ap (λ l. decimal b ++ l) p;
      small = bytes_more b [] w.low refl;
      some = omega arith;
      closed = ap (λ l. get_or l 0 0) (sym p) ∙ h;
    }

more_elements : (s : List ℕ) (b : ℕ) (t r : List ℕ) → Number 255 s b t → get_or t 0 0 ≡ 32 → Elements (drop 1 t) r → Elements s r
more_elements s b t r w h rec =
    record {
      vs = b ∷ rec.vs;
      is = w.is ∙ ap (λ l. decimal b ++ l) (head_rest t 32 (omega arith) h ∙ ap (λ l. 32 ∷ l) rec.is ∙ sym (spaced_listed rec.vs r rec.some));
      small = bytes_more b rec.vs w.low rec.small;
      some = omega arith;
      closed = rec.closed;
    }

pub elements_is : (k : ℕ) (s r : List ℕ) → elements k s ≡ Some r → Elements s r
elements_is zero s r e = cc
elements_is (suc k) s r e = go (λ t f. elements_is k (drop 1 t) r f) (number_in 255 s) refl e where
  spaces : ((t : List ℕ) → elements k (drop 1 t) ≡ Some r → Elements (drop 1 t) r) → (b : ℕ) (t : List ℕ) → Number 255 s b t → (x : Bool) → eqb (get_or t 0 0) 32 ≡ x → cond x (elements k (drop 1 t)) None ≡ Some r → Elements s r
  spaces rec b t w true h f = more_elements s b t r w (eqb-true _ _ h) (rec t f)
  spaces rec b t w false h f = cc

  closes : ((t : List ℕ) → elements k (drop 1 t) ≡ Some r → Elements (drop 1 t) r) → (b : ℕ) (t : List ℕ) → Number 255 s b t → (x : Bool) → eqb (get_or t 0 0) 41 ≡ x → cond x (Some t) (cond (eqb (get_or t 0 0) 32) (elements k (drop 1 t)) None) ≡ Some r → Elements s r
  closes rec b t w true h f = one_element s b t r w (eqb-true _ _ h) f
  closes rec b t w false h f = spaces rec b t w (eqb (get_or t 0 0) 32) refl f

  go : ((t : List ℕ) → elements k (drop 1 t) ≡ Some r → Elements (drop 1 t) r) → (o : Option (ℕ × List ℕ)) → number_in 255 s ≡ o
      → option_and_then (λ p. cond (eqb (get_or p.1 0 0) 41) (Some p.1) (cond (eqb (get_or p.1 0 0) 32) (elements k (drop 1 p.1)) None)) o ≡ Some r → Elements s r
  go rec None q f = cc
  go rec (Some p) q f = closes rec p.0 p.1 (number_is 255 (omega arith) (omega arith) s p.0 p.1 q) (eqb (get_or p.1 0 0) 41) refl f

-- the elements that are written are read
pub elements_back : (k b : ℕ) (bs r : List ℕ) → bytes_only (b ∷ bs) ≡ true → length bs < k → elements k (listed (b ∷ bs) (41 ∷ r)) ≡ Some (41 ∷ r)
elements_back zero b bs r e h = absurd (omega arith)
elements_back (suc k) b [] r e h =
    ap (λ o. option_and_then (λ p. cond (eqb (get_or p.1 0 0) 41) (Some p.1) (cond (eqb (get_or p.1 0 0) 32) (elements k (drop 1 p.1)) None)) o) (number_back 255 (omega arith) b (41 ∷ r) (bytes_first b [] e) refl)
elements_back (suc k) b (d ∷ ds) r e h =
    ap (λ o. option_and_then (λ p. cond (eqb (get_or p.1 0 0) 41) (Some p.1) (cond (eqb (get_or p.1 0 0) 32) (elements k (drop 1 p.1)) None)) o) (number_back 255 (omega arith) b (32 ∷ listed (d ∷ ds) (41 ∷ r)) (bytes_first b (d ∷ ds) e) refl)
    ∙ elements_back k d ds r (bytes_rest b (d ∷ ds) e) (omega arith)

-- what a list that was read borrows is the text of its values
module _ (s r : List ℕ) (e : elements (length s) s ≡ Some r) where
  pub found : Elements s r
  found = elements_is (length s) s r e

  pub front_is : front s r ≡ listed found.vs []
  front_is =
      let w = found in
      let whole = w.is ∙ listed_end w.vs r in
      let long : length s - length r ≡ length (listed w.vs []) = omega (arith, ap length whole, length-append (listed w.vs []) r) in
      ap (λ k. take k s) long ∙ ap (take (length (listed w.vs []))) whole ∙ take_at (listed w.vs []) r _ refl

  pub front_values : values (front s r) ≡ found.vs
  front_values = ap values front_is ∙ values_listed found.vs found.small

  pub front_listing : Listing (front s r)
  front_listing = front_is ∙ ap (λ l. listed l []) (sym front_values)

  pub front_small : bytes_only (values (front s r)) ≡ true
  front_small = ap bytes_only front_values ∙ found.small

  -- it ends inside the text
  pub front_inside : length r ≤ length s
  front_inside = omega (arith, ap length (found.is ∙ listed_end found.vs r), length-append (listed found.vs []) r)

  pub front_whole : s ≡ listed (values (front s r)) (41 ∷ drop 1 r)
  front_whole = found.is ∙ ap (λ l. listed l r) (sym front_values) ∙ ap (listed (values (front s r))) (head_rest r 41 (omega arith) found.closed)

-- what is read as a list is its writing
pub list_is : (s vs r : List ℕ) → list_in s ≡ Some (vs, r) → (s ≡ listed vs (41 ∷ r)) × (bytes_only vs ≡ true)
list_is s vs r e = empty (eqb (get_or s 0 0) 41) refl e where
  many : (o : Option (List ℕ)) → elements (length s) s ≡ o → option_map (valued s) o ≡ Some (vs, r) → (s ≡ listed vs (41 ∷ r)) × (bytes_only vs ≡ true)
  many None q f = cc
  many (Some p) q f =
      let x = some_same _ vs _ r f in
      (front_whole s p q ∙ ap (λ l. listed l (41 ∷ drop 1 p)) x.0 ∙ ap (λ l. listed vs (41 ∷ l)) x.1, ap bytes_only (sym x.0) ∙ front_small s p q)

  empty : (b : Bool) → eqb (get_or s 0 0) 41 ≡ b → cond b (Some ([], drop 1 s)) (option_map (valued s) (elements (length s) s)) ≡ Some (vs, r) → (s ≡ listed vs (41 ∷ r)) × (bytes_only vs ≡ true)
  empty true h f =
      let x = some_same [] vs (drop 1 s) r f in
      (head_rest s 41 (omega arith) (eqb-true _ _ h) ∙ ap (λ l. 41 ∷ l) x.1 ∙ ap (λ l. listed l (41 ∷ r)) x.0, ap bytes_only (sym x.0))
  empty false h f = many (elements (length s) s) refl f

long_listed : (vs r : List ℕ) → bytes_only vs ≡ true → length vs ≤ length (listed vs r)
long_listed [] r e = omega arith
long_listed (b ∷ bs) r e = spaces b bs (bytes_first b bs e) (bytes_rest b bs e) where
  spaces : (b : ℕ) (bs : List ℕ) → b ≤ 255 → bytes_only bs ≡ true → length (b ∷ bs) ≤ length (decimal b ++ spaced (map decimal bs) r)
  spaces b [] h f = let l = decimal_nonempty b (omega arith) in omega (arith, length-append (decimal b) r)
  spaces b (d ∷ ds) h f =
      let l = decimal_nonempty b (omega arith) in
      let rec = spaces d ds (bytes_first d ds f) (bytes_rest d ds f) in
      omega (arith, length-append (decimal b) (spaced (map decimal (d ∷ ds)) r))

-- a list's writing is read as the list
pub list_back : (vs r : List ℕ) → bytes_only vs ≡ true → list_in (listed vs (41 ∷ r)) ≡ Some (vs, r)
list_back [] r e = refl
list_back (b ∷ bs) r e =
    let s = listed (b ∷ bs) (41 ∷ r) in
    let low = bytes_first b bs e in
    let d = digit_range (get_or s 0 0) (decimal_first b (omega arith) (spaced (map decimal bs) (41 ∷ r))) in
    let apart : eqb (get_or s 0 0) 41 ≡ false = ne_eqb (get_or s 0 0) 41 (λ q. omega (arith, d.0)) in
    let q : elements (length s) s ≡ Some (41 ∷ r) = elements_back (length s) b bs r e (omega (arith, long_listed (b ∷ bs) (41 ∷ r) e)) in
    let same : values (front s (41 ∷ r)) ≡ b ∷ bs = ap values (front_end (b ∷ bs) (41 ∷ r)) ∙ values_listed (b ∷ bs) e in
    ap (λ x. cond x (Some ([], drop 1 s)) (option_map (valued s) (elements (length s) s))) apart
    ∙ ap (option_map (valued s)) q
    ∙ ap (λ l. Some (l, r)) same
  where
    front_end : (vs end : List ℕ) → front (listed vs end) end ≡ listed vs []
    front_end vs end =
        let whole = listed_end vs end in
        let long : length (listed vs end) - length end ≡ length (listed vs []) = omega (arith, ap length whole, length-append (listed vs []) end) in
        ap (λ k. take k (listed vs end)) long ∙ ap (take (length (listed vs []))) whole ∙ take_at (listed vs []) end _ refl

-- a list has one space less than numbers
abbrev spaces : List ℕ → List ℕ
spaces = filter (λ b. eqb b 32)

space_none : (c : ℕ) (s : List ℕ) → (c ≡ 32 → ⊥) → spaces (c ∷ s) ≡ spaces s
space_none c s h = ap (λ x. cond x (c ∷ spaces s) (spaces s)) (ne_eqb c 32 h)

spaces_number : (b : ℕ) → b ≤ 255 → (s : List ℕ) → spaces (decimal b ++ s) ≡ spaces s
spaces_number b h s = reads_decimal spaces (λ _. spaces) 255 (omega arith) (λ d r q. space_none (48 + d) r (λ e. omega arith)) (λ n d r _ q _. space_none (48 + d) r (λ e. omega arith)) b h s

spaces_spaced : (bs : List ℕ) → bytes_only bs ≡ true → length (spaces (spaced (map decimal bs) [])) ≡ length bs
spaces_spaced [] e = refl
spaces_spaced (b ∷ bs) e = ap (λ l. suc (length l)) (spaces_number b (bytes_first b bs e) (spaced (map decimal bs) [])) ∙ ap suc (spaces_spaced bs (bytes_rest b bs e))

pub spaces_listed : (s : List ℕ) → Listing s → bytes_only (values s) ≡ true → 0 < length s → length (filter (λ b. eqb b 32) s) + 1 ≡ length (values s)
spaces_listed s l e h = go (values s) l e where
  go : (vs : List ℕ) → s ≡ listed vs [] → bytes_only vs ≡ true → length (spaces s) + 1 ≡ length vs
  go [] q f = absurd (omega (arith, h, ap length q))
  go (b ∷ bs) q f =
      let r = spaces_number b (bytes_first b bs f) (spaced (map decimal bs) []) in
      omega (arith, ap (λ t. length (spaces t)) q, ap length r, spaces_spaced bs (bytes_rest b bs f))

-- the first byte of a list, and the list of the others
pub record First (s : List ℕ) (b : ℕ) (t : List ℕ) : Type 0 where
  pub byte : b ≤ 255
  pub first : values s ≡ b ∷ values t
  pub listing : Listing t
  pub small : bytes_only (values t) ≡ true

others : (bs : List ℕ) → drop 1 (spaced (map decimal bs) []) ≡ listed bs []
others [] = refl
others (b ∷ bs) = refl

spaced_stops : (bs : List ℕ) → digit (get_or (spaced (map decimal bs) []) 0 0) ≡ false
spaced_stops [] = refl
spaced_stops (b ∷ bs) = refl

module _ (s : List ℕ) (listing : Listing s) (small : bytes_only (values s) ≡ true) where
  -- a list whose text begins with no number has none
  pub first_none : None ≡ number_in 255 s → values s ≡ []
  first_none e = go (values s) refl where
    go : (vs : List ℕ) → values s ≡ vs → values s ≡ []
    go [] h = h
    go (b ∷ bs) h =
        let f = ap bytes_only (sym h) ∙ small in
        let text : s ≡ decimal b ++ spaced (map decimal bs) [] = listing ∙ ap (λ l. listed l []) h in
        cc (e ∙ ap (number_in 255) text ∙ number_back 255 (omega arith) b _ (bytes_first b bs f) (spaced_stops bs))

  -- the number that its text begins with is its first byte
  pub first_some : (b : ℕ) (r t : List ℕ) → Some (b, r) ≡ number_in 255 s → t ≡ drop 1 r → First s b t
  first_some b r t e d = go (values s) refl where
    go : (vs : List ℕ) → values s ≡ vs → First s b t
    go [] h = cc (sym (e ∙ ap (number_in 255) (listing ∙ ap (λ l. listed l []) h)))
    go (v ∷ vs) h =
        let f = ap bytes_only (sym h) ∙ small in
        let low = bytes_first v vs f in
        let text : s ≡ decimal v ++ spaced (map decimal vs) [] = listing ∙ ap (λ l. listed l []) h in
        let p = some_same v b _ r (sym (e ∙ ap (number_in 255) text ∙ number_back 255 (omega arith) v _ low (spaced_stops vs))) in
        let rest : t ≡ listed vs [] = d ∙ ap (drop 1) (sym p.1) ∙ others vs in
        let same : values t ≡ vs = ap values rest ∙ values_listed vs (bytes_rest v vs f) in
        record {
          byte = subst (λ k. k ≤ 255) p.0 low;
          first = h ∙ ap (λ k. k ∷ vs) p.0 ∙ ap (λ l. b ∷ l) (sym same);
          listing = rest ∙ ap (λ l. listed l []) (sym same);
          small = ap bytes_only same ∙ bytes_rest v vs f;
        }
