use Rattle.std.proofs.Common.{◌≡◌, ◌+◌, ◌-◌, ◌∷◌, ◌++◌, [], length, take, vec_items, vec_len, ap, ◌∙◌, arith, length-set}
use Rattle.std.proofs.lemmas.List.{with_items_is}
use Rattle.extents.specs.Steps.{listed}
use Rattle.extents.proofs.Splice.{replaced, held_count}
use Rattle.extents.proofs.table.replace.Goals as goal

pub returns-clause-items : goal.returns-clause-items
returns-clause-items g c =
    let xs = vec_items c.args.v.now in
    let h = c.args.head in
    let ys = listed c.args.second in
    let zs = listed c.args.third in
    let two = held_count c.args.second c.is_some.result c.from.result c.is_some.ensures c.from.ensures in
    let three = held_count c.args.third c.is_some-2.result c.from-2.result c.is_some-2.ensures c.from-2.ensures in
    let next = c.args.at + 1 + c.from.result in
    let rest = next + c.from-2.result in
    let count = c.len-count.result in
    let s = c.as_mut_slice-s.result.now in
    let s₁ = c.shift.new.s in
    let s₃ = c.write_held-2.new.s in
    let is : s ≡ (xs ++ h ∷ []) ++ h ∷ [] = c.as_mut_slice-s.ensures.value ∙ c.push_reserved-2.ensures.items ∙ ap (λ l. l ++ h ∷ []) c.push_reserved.ensures.items in
    let long : length s₃ ≡ vec_len c.push_reserved-2.new.self = c.write_held-2.auto.s ∙ c.write_held.auto.s ∙ length-set s₁ c.args.at h ∙ c.shift.ensures.len ∙ c.as_mut_slice-s.ensures.len in
    c.truncate.ensures.items
    ∙ ap (take (rest + (count - c.args.upto))) (with_items_is c.push_reserved-2.new.self s₃ long)
    ∙ replaced xs s s₁ c.write_held.new.s s₃ c.args.at c.args.upto count next rest h ys zs is
    (c.len-count.ensures ∙ c.args.v.now.ok.0) (omega arith) (omega (arith, c.len-count.ensures, c.args.v.now.ok.0)) (omega arith) (omega arith) (omega arith)
    c.shift.ensures.len c.shift.ensures.after c.write_held.ensures c.write_held-2.ensures
