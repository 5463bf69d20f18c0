use Rattle.std.proofs.Common.{◌≡◌, ◌+◌, ◌*◌, length, get_or, take, refl, ap, ◌∙◌, arith}
use borrow.Rule.Slice.PartMut.{put_mid}
use Rattle.std.specs.List.{flat_map}
use Rattle.std.proofs.lemmas.List.{get_or_default, take_all}
use Rattle.objects.specs.Layout.{extent_bytes}
use Rattle.objects.specs.Seen.{no_extent}
use Rattle.objects.proofs.Sound.{length_extent}
use Rattle.objects.proofs.Puts.{put_part_of, put_thing}
use Rattle.objects.proofs.states.checkpoint.put_table.Goals as goal

pub loop-i-preserved : goal.loop-i-preserved
loop-i-preserved c =
    let xs = c.args.table.now in
    let i = c.loop-i.i in
    let x = get_or xs i no_extent in
    let put = put_part_of (24 + 16 * i) 16 c.loop-i.buf c.to_bytes.result (extent_bytes x) c.put_part.new.buf c.put_part.ensures.put c.to_bytes.ensures (length_extent x) (omega arith) in
    put_thing extent_bytes 16 24 length_extent xs i _ x c.args.buf.now _ _ c.loop-i-test.true (get_or_default xs i x no_extent c.loop-i-test.true) c.requires refl c.loop-i.invariant put

pub returns : goal.returns
returns c =
    let xs = c.args.table.now in
    let n : c.loop-i.i ≡ length xs = omega (arith, c.loop-i-test.false, c.loop-i.auto.i-end) in
    let whole : take c.loop-i.i xs ≡ xs = take_all c.loop-i.i xs c.loop-i-test.false in
    c.loop-i.invariant ∙ ap (λ k. put_mid 24 (16 * k) c.args.buf.now (flat_map extent_bytes (take c.loop-i.i xs))) n
    ∙ ap (λ l. put_mid 24 (16 * length xs) c.args.buf.now (flat_map extent_bytes l)) whole
