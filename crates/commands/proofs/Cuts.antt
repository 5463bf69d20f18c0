-- The step that cuts off a token finds the part that the line begins with. Assumes nothing.
use Rattle.std.proofs.Common.{◌≡◌, ℕ, suc, ◌+◌, ◌-◌, ◌^◌, ◌<◌, ◌≤◌, Bool, true, false, cond, eqb, leb, List, [], ◌∷◌, ◌++◌, map, length, get_or, take, drop, IfNone, Some, None, decimal, Option, sym, refl, ap, ◌∙◌, subst, append_assoc, arith, rules}
use Rattle.std.specs.Bool.{⊤}
use Rattle.std.specs.Option.{option_map}
use Rattle.std.specs.Iterator.{MakesProgress, at_most}
use Rattle.commands.specs.declared.token.Token.{Token}
use Rattle.commands.specs.declared.token.Lexer.{Lexer}
use Rattle.std.proofs.lemmas.Fmt.{decimal_nonempty}
use Rattle.std.proofs.lemmas.List.{take_at, drop_at, take-append-drop, length-append}
use Rattle.std.proofs.lemmas.Bool.{and_parts, and_from, and_left, and_right, eqb-true, ne_eqb, leb-true, lt-leb}
use Rattle.commands.specs.Numbers.{digit, number_in}
use Rattle.commands.specs.Grammar.{spaced, listed, bytes_only, letter, letters, Part, opening, closing, gap, word, number, bytes, spelt, Fit, Ends, Begins}
use Rattle.commands.specs.Elements.{list_in}
use Rattle.commands.specs.Tokens.{run, cut, cut_opened, part, Taken}
use Rattle.commands.proofs.Figures.{digit_range, number_is, number_back, some_same}
use Rattle.commands.proofs.Listings.{decimal_first, head_rest, listed_end, list_is, list_back, bytes_first}

letter_range : (c : ℕ) → letter c ≡ true → (97 ≤ c) × (c ≤ 122)
letter_range c e = let p = and_parts (leb 97 c) (leb c 122) e in (leb-true _ _ p.0, leb-true _ _ p.1)

no_letter : (c : ℕ) → c < 97 → letter c ≡ false
no_letter c h = and_left (leb 97 c) (leb c 122) (lt-leb 97 c h)

no_digit : (c : ℕ) → 97 ≤ c → digit c ≡ false
no_digit c h = and_right (leb 48 c) (leb c 57) (lt-leb c 57 (omega arith))

-- the letters at the front are letters, and none follows them
run_letters : (s : List ℕ) → letters (take (run s) s) ≡ true
run_letters [] = refl
run_letters (c ∷ cs) = go (letter c) refl (run_letters cs) where
  go : (b : Bool) → letter c ≡ b → letters (take (run cs) cs) ≡ true → letters (take (cond b (1 + run cs) 0) (c ∷ cs)) ≡ true
  go true e rec = let z : 1 + run cs ≡ suc (run cs) = omega arith in ap (λ k. letters (take k (c ∷ cs))) z ∙ and_from _ _ e rec
  go false e rec = refl

run_ends : (s : List ℕ) → letter (get_or (drop (run s) s) 0 0) ≡ false
run_ends [] = refl
run_ends (c ∷ cs) = go (letter c) refl (run_ends cs) where
  go : (b : Bool) → letter c ≡ b → letter (get_or (drop (run cs) cs) 0 0) ≡ false → letter (get_or (drop (cond b (1 + run cs) 0) (c ∷ cs)) 0 0) ≡ false
  go true e rec = let z : 1 + run cs ≡ suc (run cs) = omega arith in ap (λ k. letter (get_or (drop k (c ∷ cs)) 0 0)) z ∙ rec
  go false e rec = e

run_some : (s : List ℕ) → letter (get_or s 0 0) ≡ true → 0 < length (take (run s) s)
run_some [] e = cc
run_some (c ∷ cs) e = go (letter c) refl where
  go : (b : Bool) → letter c ≡ b → 0 < length (take (cond b (1 + run cs) 0) (c ∷ cs))
  go true f = let z : 1 + run cs ≡ suc (run cs) = omega arith in subst (λ k. 0 < length (take k (c ∷ cs))) (sym z) (omega arith)
  go false f = cc

run_back : (w r : List ℕ) → letters w ≡ true → letter (get_or r 0 0) ≡ false → run (w ++ r) ≡ length w
run_back [] [] e f = refl
run_back [] (c ∷ cs) e f = ap (λ b. cond b (1 + run cs) 0) f
run_back (c ∷ cs) r e f =
    let p = and_parts (letter c) (letters cs) e in
    let rec = run_back cs r p.1 f in
    ap (λ b. cond b (1 + run (cs ++ r)) 0) p.0 ∙ omega (arith, rec)

-- what is cut off is what the line begins with
begins_by : (line : List ℕ) (q p : Part) (s rest : List ℕ) → Begins line q s → ◌≡◌ {A = Option (Part × List ℕ)} (Some (q, s)) (Some (p, rest)) → Begins line p rest
begins_by line q p s rest b e =
    let x = some_same q p s rest e in
    subst (λ l. Begins line p l) x.1 (subst (λ y. Begins line y s) x.0 b)

opened_is : (s : List ℕ) (p : Part) (rest : List ℕ) → cut_opened s ≡ Some (p, rest) → Begins (40 ∷ s) p rest
opened_is s p rest e = go (letter (get_or s 0 0)) refl e where
  many : (o : Option (List ℕ × List ℕ)) → list_in s ≡ o → option_map {U = Part × List ℕ} (λ x. (bytes x.0, x.1)) o ≡ Some (p, rest) → Begins (40 ∷ s) p rest
  many None q f = cc
  many (Some x) q f =
      let w = list_is s x.0 x.1 q in
      begins_by (40 ∷ s) (bytes x.0) p x.1 rest (record {
        is = ap (λ l. 40 ∷ l) (w.0 ∙ listed_end x.0 (41 ∷ x.1) ∙ sym (append_assoc (listed x.0 []) (41 ∷ []) x.1) ∙ ap (λ l. l ++ x.1) (sym (listed_end x.0 (41 ∷ []))));
        fit = w.1;
        ends = tt;
      }) f

  go : (b : Bool) → letter (get_or s 0 0) ≡ b → cond b (Some (opening, s)) (option_map {U = Part × List ℕ} (λ x. (bytes x.0, x.1)) (list_in s)) ≡ Some (p, rest) → Begins (40 ∷ s) p rest
  go true h f = begins_by (40 ∷ s) opening p s rest (record { is = refl; fit = tt; ends = h }) f
  go false h f = many (list_in s) refl f

module _ (line : List ℕ) (p : Part) (rest : List ℕ) where
  worded : (b : Bool) → letter (get_or line 0 0) ≡ b → cond {A = Option (Part × List ℕ)} b (Some (word (take (run line) line), drop (run line) line)) None ≡ Some (p, rest) → Begins line p rest
  worded true h f = begins_by line (word (take (run line) line)) p (drop (run line) line) rest (record { is = sym (take-append-drop (run line) line); fit = (run_some line h, run_letters line); ends = run_ends line }) f
  worded false h f = cc

  counted : (o : Option (ℕ × List ℕ)) → number_in (2 ^ 32 - 1) line ≡ o → option_map {U = Part × List ℕ} (λ x. (number x.0, x.1)) o ≡ Some (p, rest) → Begins line p rest
  counted None q f = cc
  counted (Some x) q f =
      let w = number_is (2 ^ 32 - 1) (omega arith) (omega arith) line x.0 x.1 q in
      begins_by line (number x.0) p x.1 rest (record { is = w.is; fit = omega (arith, w.low); ends = w.stops }) f

  figured : (b : Bool) → digit (get_or line 0 0) ≡ b → cond b (option_map {U = Part × List ℕ} (λ x. (number x.0, x.1)) (number_in (2 ^ 32 - 1) line)) (cond {A = Option (Part × List ℕ)} (letter (get_or line 0 0)) (Some (word (take (run line) line), drop (run line) line)) None) ≡ Some (p, rest) → Begins line p rest
  figured true h f = counted (number_in (2 ^ 32 - 1) line) refl f
  figured false h f = worded (letter (get_or line 0 0)) refl f

  abbrev items : Option (Part × List ℕ)
  items = cond (digit (get_or line 0 0)) (option_map {U = Part × List ℕ} (λ x. (number x.0, x.1)) (number_in (2 ^ 32 - 1) line)) (cond {A = Option (Part × List ℕ)} (letter (get_or line 0 0)) (Some (word (take (run line) line), drop (run line) line)) None)

  opened : (b : Bool) → eqb (get_or line 0 0) 40 ≡ b → cond b (cut_opened (drop 1 line)) items ≡ Some (p, rest) → Begins line p rest
  opened true h f = subst (λ l. Begins l p rest) (sym (head_rest line 40 (omega arith) (eqb-true _ _ h))) (opened_is (drop 1 line) p rest f)
  opened false h f = figured (digit (get_or line 0 0)) refl f

  closed : (b : Bool) → eqb (get_or line 0 0) 41 ≡ b → cond b (Some (closing, drop 1 line)) (cond (eqb (get_or line 0 0) 40) (cut_opened (drop 1 line)) items) ≡ Some (p, rest) → Begins line p rest
  closed true h f = begins_by line closing p (drop 1 line) rest (record { is = head_rest line 41 (omega arith) (eqb-true _ _ h); fit = tt; ends = tt }) f
  closed false h f = opened (eqb (get_or line 0 0) 40) refl f

  gapped : (b : Bool) → eqb (get_or line 0 0) 32 ≡ b → cond b (Some (gap, drop 1 line)) (cond (eqb (get_or line 0 0) 41) (Some (closing, drop 1 line)) (cond (eqb (get_or line 0 0) 40) (cut_opened (drop 1 line)) items)) ≡ Some (p, rest) → Begins line p rest
  gapped true h f = begins_by line gap p (drop 1 line) rest (record { is = head_rest line 32 (omega arith) (eqb-true _ _ h); fit = tt; ends = tt }) f
  gapped false h f = closed (eqb (get_or line 0 0) 41) refl f

  pub cut_is : cut line ≡ Some (p, rest) → Begins line p rest
  cut_is e = gapped (eqb (get_or line 0 0) 32) refl e

-- the part that a line begins with is cut off
spelt_bytes : (bs r : List ℕ) → listed bs (41 ∷ []) ++ r ≡ listed bs (41 ∷ r)
spelt_bytes bs r = ap (λ l. l ++ r) (listed_end bs (41 ∷ [])) ∙ append_assoc (listed bs []) (41 ∷ []) r ∙ sym (listed_end bs (41 ∷ r))

list_no_letter : (bs r : List ℕ) → bytes_only bs ≡ true → letter (get_or (listed bs (41 ∷ r)) 0 0) ≡ false
list_no_letter [] r e = refl
list_no_letter (b ∷ bs) r e =
    let low = bytes_first b bs e in
    let s = decimal b ++ spaced (map decimal bs) (41 ∷ r) in
    let d = digit_range (get_or s 0 0) (decimal_first b (omega arith) (spaced (map decimal bs) (41 ∷ r))) in
    no_letter (get_or s 0 0) (omega (arith, d.1))

apart : (c k : ℕ) → k < c → eqb c k ≡ false
apart c k h = ne_eqb c k (λ e. omega arith)

spelt_cut : (p : Part) (r : List ℕ) → Fit p → Ends p r → cut (spelt p ++ r) ≡ Some (p, r)
spelt_cut opening r f e = ap (λ b. cond {A = Option (Part × List ℕ)} b (Some (opening, r)) (option_map (λ x. (bytes x.0, x.1)) (list_in r))) e
spelt_cut closing r f e = refl
spelt_cut gap r f e = refl
spelt_cut (bytes bs) r f e =
    ap (λ l. cut (40 ∷ l)) (spelt_bytes bs r)
    ∙ ap (λ b. cond {A = Option (Part × List ℕ)} b (Some (opening, listed bs (41 ∷ r))) (option_map (λ x. (bytes x.0, x.1)) (list_in (listed bs (41 ∷ r))))) (list_no_letter bs r f)
    ∙ ap (option_map {U = Part × List ℕ} (λ x. (bytes x.0, x.1))) (list_back bs r f)
spelt_cut (number n) r f e =
    let s = decimal n ++ r in
    let y = decimal_first n f r in
    let d = digit_range (get_or s 0 0) y in
    let a : eqb (get_or s 0 0) 32 ≡ false = apart _ _ (omega (arith, d.0)) in
    let b : eqb (get_or s 0 0) 41 ≡ false = apart _ _ (omega (arith, d.0)) in
    let c : eqb (get_or s 0 0) 40 ≡ false = apart _ _ (omega (arith, d.0)) in
    simp (a, b, c, y, number_back (2 ^ 32 - 1) (omega arith) n r (omega arith) e)
spelt_cut (word []) r f e = absurd (omega (arith, f.0))
spelt_cut (word (c ∷ cs)) r f e =
    let s = (c ∷ cs) ++ r in
    let y = (and_parts (letter c) (letters cs) f.1).0 in
    let d = letter_range c y in
    let a1 : eqb c 32 ≡ false = apart _ _ (omega (arith, d.0)) in
    let b1 : eqb c 41 ≡ false = apart _ _ (omega (arith, d.0)) in
    let c1 : eqb c 40 ≡ false = apart _ _ (omega (arith, d.0)) in
    let d1 : digit c ≡ false = no_digit c d.0 in
    let n = run_back (c ∷ cs) r f.1 e in
    let front = ap (λ k. take k s) n ∙ take_at (c ∷ cs) r _ refl in
    let back = ap (λ k. drop k s) n ∙ drop_at (c ∷ cs) r _ refl in
    ap (λ b. cond {A = Option (Part × List ℕ)} b (Some (gap, cs ++ r)) (cond (eqb c 41) (Some (closing, cs ++ r)) (cond (eqb c 40) (cut_opened (cs ++ r)) (cond (digit c) (option_map (λ x. (number x.0, x.1)) (number_in (2 ^ 32 - 1) s)) (cond (letter c) (Some (word (take (run s) s), drop (run s) s)) None))))) a1
    ∙ ap (λ b. cond {A = Option (Part × List ℕ)} b (Some (closing, cs ++ r)) (cond (eqb c 40) (cut_opened (cs ++ r)) (cond (digit c) (option_map (λ x. (number x.0, x.1)) (number_in (2 ^ 32 - 1) s)) (cond (letter c) (Some (word (take (run s) s), drop (run s) s)) None)))) b1
    ∙ ap (λ b. cond {A = Option (Part × List ℕ)} b (cut_opened (cs ++ r)) (cond (digit c) (option_map (λ x. (number x.0, x.1)) (number_in (2 ^ 32 - 1) s)) (cond (letter c) (Some (word (take (run s) s), drop (run s) s)) None))) c1
    ∙ ap (λ b. cond {A = Option (Part × List ℕ)} b (option_map (λ x. (number x.0, x.1)) (number_in (2 ^ 32 - 1) s)) (cond (letter c) (Some (word (take (run s) s), drop (run s) s)) None)) d1
    ∙ ap (λ b. cond {A = Option (Part × List ℕ)} b (Some (word (take (run s) s), drop (run s) s)) None) y
    ∙ ap (λ l. Some (word l, drop (run s) s)) front
    ∙ ap (λ l. Some (word (c ∷ cs), l)) back

pub cut_back : (line : List ℕ) (p : Part) (r : List ℕ) → Begins line p r → cut line ≡ Some (p, r)
cut_back line p r b = ap cut b.is ∙ spelt_cut p r b.fit b.ends

-- a token that was cut off has at least one byte
spelt_some : (p : Part) → Fit p → 0 < length (spelt p)
spelt_some (word w) f = f.0
spelt_some (number n) f = decimal_nonempty n (omega arith)
spelt_some p f = omega arith

pub taken : (s t : Lexer) (o : Option Token) → option_map (λ k. (part k, t.rest.now)) o ≡ cut s.rest.now → IfNone o (t.rest.now ≡ s.rest.now) → Taken s.rest.now (option_map part o) t.rest.now
taken s t (Some k) e h = cut_is s.rest.now (part k) t.rest.now (sym e)
taken s t None e h = (h, λ p r b. cc (e ∙ cut_back s.rest.now p r b))

pub shorter : (s t : Lexer) (o : Option Token) → Taken s.rest.now (option_map part o) t.rest.now → MakesProgress (λ _. ⊤) (λ l. at_most (length l.rest.now)) s o t
shorter s t (Some k) b =
    let some = spelt_some (part k) b.fit in
    let less : length t.rest.now < length s.rest.now = omega (arith, ap length b.is, length-append (spelt (part k)) t.rest.now) in
    search rules
shorter s t None b = search rules
