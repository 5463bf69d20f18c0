use Rattle.std.proofs.Common.{◌≡◌, ℕ, List, ◌+◌, ◌++◌, length, replicate, refl, ap, ◌∙◌, rules, arith}
use Rattle.std.proofs.lemmas.List.{length-replicate}
use Rattle.objects.proofs.Puts.{put_part_of, put_on, put_whole, length_put_mid}
use Rattle.objects.proofs.part.joined.Goals as goal

pub returns : goal.returns
returns g c =
    let zeros : List ℕ = replicate g.row.N 0 in
    let all : length zeros ≡ g.row.N = length-replicate g.row.N 0 in
    let a : length c.args.front ≡ g.row.A = search rules in
    let b : length c.args.back ≡ g.row.B = search rules in
    let put = put_part_of 0 g.row.A zeros c.args.front c.args.front c.put_part.new.buf c.put_part.ensures.put refl a (omega arith) in
    let long : length c.put_part.new.buf ≡ g.row.N = ap length put ∙ length_put_mid 0 g.row.A zeros c.args.front (omega arith) a ∙ all in
    let put2 = put_part_of g.row.A g.row.B c.put_part.new.buf c.args.back c.args.back c.put_part-2.new.buf c.put_part-2.ensures.put refl b (omega arith) in
    put_on 0 g.row.A g.row.B g.row.A zeros c.args.front c.args.back c.put_part.new.buf c.put_part-2.new.buf (omega arith) a (omega arith) put put2
    ∙ put_whole (g.row.A + g.row.B) zeros (c.args.front ++ c.args.back) (omega arith)
