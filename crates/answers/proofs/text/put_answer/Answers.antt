use Rattle.std.proofs.Common.{◌≡◌, ◌++◌, vec_items, rules}
use Rattle.answers.specs.Answers.{verdict, numbers, outcome, items_text, reply}
use Rattle.answers.proofs.Spelling.{answer_whole}
use Rattle.answers.proofs.text.put_answer.Goals as goal

pub returns : goal.returns
returns c =
    let o = outcome c.args.answer.now in
    let word : vec_items c.extend_from_slice.new.self ≡ vec_items c.push_reserved-2.new.self ++ verdict o = search rules in
    let items : vec_items c.put_items.new.out ≡ vec_items c.extend_from_slice.new.self ++ items_text (numbers o) = search rules in
    answer_whole _ _ _ _ _ _ _ (reply c.args.answer.now) c.push_reserved.ensures.items c.put_number.ensures.items c.push_reserved-2.ensures.items word items c.push_reserved-3.ensures.items
