use Rattle.std.proofs.Common.{rules, refl, sym, subst, ◌∙◌}
use Rattle.std.specs.Iterator.{AlwaysYields}
use Rattle.objects.proofs.Chains.{chains_more, chains_stop, chains_end}
use Rattle.objects.proofs.chained.Goals as goal

pub loop-extent-init : goal.loop-extent-init
loop-extent-init g c =
    let is = c.into_iter-extent-iterator.ensures.into_iter_gives in
    (search rules, search rules, λ table gives. record { rest = table; gives = subst (λ s. AlwaysYields g.I.Iterator.next_gives (λ x. x) s table) (sym is) gives; same = refl })

pub returns-then-not-follows : goal.returns-then-not-follows
returns-then-not-follows g c = λ table gives. chains_stop _ _ _ _ _ _ _ _ c.in-Some.ensures.steps (sym c.follows.ensures ∙ c.if-not-follows.true) (c.loop-extent.invariant.2 table gives)

pub loop-extent-preserved : goal.loop-extent-preserved
loop-extent-preserved g c =
    (search rules, search rules, λ table gives. chains_more _ _ _ _ _ _ _ _ c.in-Some.ensures.steps (sym c.follows.ensures ∙ c.if-not-follows.false) (c.loop-extent.invariant.2 table gives))

pub returns : goal.returns
returns g c = λ table gives. chains_end _ _ _ _ _ _ _ c.in-None.ensures.steps (c.loop-extent.invariant.2 table gives)
