use Rattle.std.proofs.Common.{sym, ap, ◌∙◌, rules}
use Rattle.std.proofs.lemmas.Bool.{eqb-false}
use Rattle.std.proofs.lemmas.Option.{MatchOption-at_none, MatchOption-at_some}
use Rattle.maptrace.specs.Words.{read_on}
use Rattle.maptrace.proofs.Reading.{read_all, number_read}
use Rattle.maptrace.proofs.words.number.Goals as goal

pub returns : goal.returns
returns c =
    let r = c.try_fold.ensures.ran in
    read_all _ (λ p q x k. search rules) r.0 r.1 c.iter.result r.4.0 c.try_fold.new.self _ (r.2, r.3) c.try_fold.result r.4.1 r.4.2 r.5
    (λ n. MatchOption-at_none _ _ n r.6)
    (λ x q. let m = MatchOption-at_some _ _ x q r.6 in (search rules, search rules))
    ∙ ap (read_on 0) c.iter.ensures.rest
    ∙ number_read c.args.w.now (eqb-false _ _ (sym c.if-is_empty.ensures))
