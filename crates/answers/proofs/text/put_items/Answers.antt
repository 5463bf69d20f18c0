use Rattle.std.proofs.Common.{◌++◌, vec_items, ap, ◌∙◌, arith, rules}
use Rattle.answers.proofs.Replies.{items_all}
use Rattle.answers.proofs.Spelling.{item_more}
use Rattle.answers.proofs.text.put_items.Goals as goal

pub loop-n-preserved : goal.loop-n-preserved
loop-n-preserved c =
    let items = item_more (vec_items c.args.out.now) (vec_items c.loop-n.out) (vec_items c.push_reserved.new.self) (vec_items c.put_number.new.out) c.args.items.now c.loop-n.n-index c.loop-n-test.true c.loop-n.invariant.0 c.push_reserved.ensures.items c.put_number.ensures.items in
    (items, omega arith, search rules)

pub returns : goal.returns
returns c = record {
  items = c.loop-n.invariant.0 ∙ ap (λ l. vec_items c.args.out.now ++ l) (items_all c.args.items.now c.loop-n.n-index (omega arith));
  len = omega arith;
  capacity = search rules;
}
