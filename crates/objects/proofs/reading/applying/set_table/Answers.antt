use Rattle.std.proofs.Common.{◌≡◌, length, refl, ap, ◌∙◌, arith}
use Rattle.std.proofs.lemmas.List.{take_all, length-map}
use Rattle.extents.specs.Kinds.{place_advanced, place_fits}
use Rattle.extents.specs.Map.{all_in_range}
use Rattle.objects.specs.Seen.{extent_at, extents_said}
use Rattle.objects.proofs.Parts.{one_said}
use Rattle.objects.proofs.Setting.{set_none, set_more}
use Rattle.objects.proofs.reading.applying.set_table.Goals as goal

pub loop-bytes-init : goal.loop-bytes-init
loop-bytes-init c =
    let xs = extents_said c.args.extents.now in
    set_none xs c.clear.new.self c.clear.new.self.blocks c.clear.ensures.empty refl c.requires.tabled
    (ap (λ n. all_in_range place_advanced place_fits n xs) c.clear.ensures.blocks ∙ c.requires.ranged)

pub loop-bytes-preserved : goal.loop-bytes-preserved
loop-bytes-preserved c =
    let x = c.of_bytes-extent.result in
    let here = one_said (λ part. extent_at part 0) c.args.extents.now c.loop-bytes.bytes-index x c.loop-bytes-test.true c.of_bytes-extent.ensures.says in
    set_more (extents_said c.args.extents.now) c.loop-bytes.bytes-index x _ c.loop-bytes.map c.append.new.self c.append.result here.0 here.1 c.requires.tabled c.loop-bytes.invariant c.append.ensures

pub returns : goal.returns
returns c =
    let xs = extents_said c.args.extents.now in
    let long : length xs ≡ length c.args.extents.now = length-map c.args.extents.now (λ part. extent_at part 0) in
    record {
      blocks = c.loop-bytes.invariant.blocks_stay ∙ c.clear.ensures.blocks;
      table = c.loop-bytes.invariant.front ∙ take_all c.loop-bytes.bytes-index xs (omega (arith, long, c.loop-bytes-test.false));
    }
