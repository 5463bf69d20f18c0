use Rattle.std.proofs.Common.{◌≡◌, ℕ, ◌+◌, ◌≤◌, length, subst, arith}
use Rattle.std.proofs.lemmas.List.{length-map}
use Rattle.extents.specs.Answers.{Inserted}
use Rattle.extents.specs.Kinds.{place, place_advanced, place_same, place_fits}
use Rattle.extents.specs.Map.{extent}
use Rattle.objects.specs.Seen.{entry_at, entries_said}
use Rattle.objects.proofs.Parts.{one_said}
use Rattle.objects.proofs.Laying.{lay_none, lay_small, lay_more, lay_all}
use Rattle.objects.proofs.reading.applying.lay.Goals as goal

pub loop-bytes-init : goal.loop-bytes-init
loop-bytes-init c = lay_none c.args.number (length c.args.entries.now) (entries_said c.args.entries.now) c.args.map.now c.requires.fit

pub overflow_add-before : goal.overflow_add-before
overflow_add-before c =
    let e = c.of_bytes-entry.result in
    let here = one_said (λ part. entry_at part 0) c.args.entries.now c.loop-bytes.bytes-index e c.loop-bytes-test.true c.of_bytes-entry.ensures.says in
    let small : c.loop-bytes.before + e.count ≤ 32 = lay_small c.loop-bytes.before (entries_said c.args.entries.now) c.loop-bytes.bytes-index e here.0 here.1 c.loop-bytes.invariant.sum c.requires.sum in
    omega arith

pub loop-bytes-preserved : goal.loop-bytes-preserved
loop-bytes-preserved c =
    let e = c.of_bytes-entry.result in
    let here = one_said (λ part. entry_at part 0) c.args.entries.now c.loop-bytes.bytes-index e c.loop-bytes-test.true c.of_bytes-entry.ensures.says in
    let inserted = subst (λ (n : ℕ). Inserted place_advanced place_same place_fits (extent e.address e.count (place c.args.number n)) c.loop-bytes.map c.insert.result c.insert.new.self) c.payload_offset.ensures c.insert.ensures in
    lay_more c.args.number (length c.args.entries.now) c.loop-bytes.before (entries_said c.args.entries.now) c.loop-bytes.bytes-index e c.args.map.now c.loop-bytes.map c.insert.new.self c.insert.result here.0 here.1 c.requires.few c.requires.sum c.loop-bytes.invariant inserted

pub returns : goal.returns
returns c =
    let es = entries_said c.args.entries.now in
    let long : length es ≡ length c.args.entries.now = length-map c.args.entries.now (λ part. entry_at part 0) in
    record {
      blocks = c.loop-bytes.invariant.blocks_stay;
      places = lay_all c.args.number (length c.args.entries.now) c.loop-bytes.before es c.loop-bytes.bytes-index c.args.map.now c.loop-bytes.map (omega (arith, long, c.loop-bytes-test.false)) c.loop-bytes.invariant;
    }
