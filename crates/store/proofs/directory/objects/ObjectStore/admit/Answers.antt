use Rattle.std.proofs.Common.{◌≡◌, ◌+◌, true, ◌||◌, eqb, length, vec_items, sym, ◌∙◌, arith}
use Rattle.std.proofs.lemmas.Bool.{or_from, or_left, or_right, eq-eqb, ne_eqb, le-leb, lt-leb}
use Rattle.store.specs.Entries.{named}
use Rattle.store.proofs.Holding.{holds, refusal_is, due_taken, due_crowded, due_full, due_none}
use Rattle.store.proofs.directory.objects.ObjectStore.admit.Goals as goal
use Rattle.store.proofs.directory.objects.ObjectStore.admit.Goals.{then-number-eq0-via-then-number-eq0, then-number-eq0-via-else-number-eq0+then-is_named}

pub returns-then-number-eq0 : goal.returns-then-number-eq0
returns-then-number-eq0 g c =
    let s = c.args.self.now in
    let n = c.args.number in
    let h = holds s g.met.S.Space.roomy g.met.S.Space.heavy (g.met.S.Space.covered s.space) in
    let t : (eqb n 0 || named (vec_items s.directory.entries) n) ≡ true =
    elim c.then-number-eq0.branch [
      | then-number-eq0-via-then-number-eq0 w ↦ or_left _ _ (eq-eqb n 0 w.if-number-eq0.true)
      | then-number-eq0-via-else-number-eq0+then-is_named w ↦ or_right _ _ (sym w.is_named.ensures ∙ w.if-is_named.true)
    ] in
    sym (refusal_is h n c.args.bytes.now) ∙ due_taken _ _ n _ _ c.if-length-lt1.false c.if-length-gt16664.false t

pub returns-then-self-ge8 : goal.returns-then-self-ge8
returns-then-self-ge8 g c =
    let s = c.args.self.now in
    let n = c.args.number in
    let h = holds s g.met.S.Space.roomy g.met.S.Space.heavy (g.met.S.Space.covered s.space) in
    let t = or_from (eqb n 0) (named (vec_items s.directory.entries) n) (ne_eqb n 0 c.if-number-eq0.false) (sym c.is_named.ensures ∙ c.if-is_named.false) in
    sym (refusal_is h n c.args.bytes.now) ∙ due_crowded _ _ n _ _ c.if-length-lt1.false c.if-length-gt16664.false t c.if-self-ge8.true

pub returns-then-weight-capacity : goal.returns-then-weight-capacity
returns-then-weight-capacity g c =
    let s = c.args.self.now in
    let n = c.args.number in
    let h = holds s g.met.S.Space.roomy g.met.S.Space.heavy (g.met.S.Space.covered s.space) in
    let t = or_from (eqb n 0) (named (vec_items s.directory.entries) n) (ne_eqb n 0 c.if-number-eq0.false) (sym c.is_named.ensures ∙ c.if-is_named.false) in
    let i = c.if-weight-capacity.true in
    let f = lt-leb (s.load + g.S.Space.weight (length c.args.bytes.now)) (g.S.Space.capacity s.space) (omega (arith, i, c.capacity.ensures, c.weight.ensures, s.within)) in
    sym (refusal_is h n c.args.bytes.now) ∙ due_full _ _ n _ _ c.if-length-lt1.false c.if-length-gt16664.false t c.if-self-ge8.false f

pub returns : goal.returns
returns g c =
    let s = c.args.self.now in
    let n = c.args.number in
    let h = holds s g.met.S.Space.roomy g.met.S.Space.heavy (g.met.S.Space.covered s.space) in
    let t = or_from (eqb n 0) (named (vec_items s.directory.entries) n) (ne_eqb n 0 c.if-number-eq0.false) (sym c.is_named.ensures ∙ c.if-is_named.false) in
    let i = c.if-weight-capacity.false in
    let f = le-leb (s.load + g.S.Space.weight (length c.args.bytes.now)) (g.S.Space.capacity s.space) (omega (arith, i, c.capacity.ensures, c.weight.ensures, s.within)) in
    sym (refusal_is h n c.args.bytes.now) ∙ due_none _ _ n _ _ c.if-length-lt1.false c.if-length-gt16664.false t c.if-self-ge8.false f
