use Rattle.std.proofs.Common.{◌≡◌, eqb, length, sym, ap, ◌∙◌, arith}
use Rattle.std.proofs.lemmas.Bool.{and_left}
use Rattle.std.proofs.lemmas.List.{length-map}
use Rattle.objects.specs.Layout.{total}
use Rattle.objects.specs.Rules.{every, entry_fits}
use Rattle.objects.specs.Seen.{entry_at}
use Rattle.objects.specs.Seen.{entries_said}
use Rattle.objects.proofs.Parts.{one_said}
use Rattle.objects.proofs.Loops.{fits_more, fits_stop, total_more, sum_end}
use Rattle.objects.proofs.reading.entries_sum.Goals as goal

pub loop-bytes-preserved : goal.loop-bytes-preserved
loop-bytes-preserved c =
    let i = c.loop-bytes.bytes-index in
    let e = c.of_bytes-entry.result in
    let es = entries_said c.args.entries.now in
    let here = one_said (λ part. entry_at part 0) c.args.entries.now i e c.loop-bytes-test.true c.of_bytes-entry.ensures.says in
    let more = total_more es i c.loop-bytes.sum e here.0 here.1 c.loop-bytes.invariant.1 in (
      fits_more (entry_fits c.args.most c.args.blocks) es i e here.0 here.1 (sym c.fits.ensures ∙ c.if-not-fits.false) c.loop-bytes.invariant.0,
      omega arith,
      omega arith,
    )

pub returns-then-not-fits : goal.returns-then-not-fits
returns-then-not-fits c =
    let ok = entry_fits c.args.most c.args.blocks in
    let es = entries_said c.args.entries.now in
    let here = one_said (λ part. entry_at part 0) c.args.entries.now c.loop-bytes.bytes-index c.of_bytes-entry.result c.loop-bytes-test.true c.of_bytes-entry.ensures.says in
    sym (and_left (every ok es) (eqb (total es) c.args.tally) (fits_stop ok es c.loop-bytes.bytes-index c.of_bytes-entry.result here.0 here.1 (sym c.fits.ensures ∙ c.if-not-fits.true) c.loop-bytes.invariant.0))

pub returns : goal.returns
returns c =
    let es = entries_said c.args.entries.now in
    let long : length es ≡ length c.args.entries.now = length-map c.args.entries.now (λ part. entry_at part 0) in
    ap (λ n. eqb c.loop-bytes.sum n) c.from.ensures
    ∙ sum_end c.args.most c.args.blocks c.args.tally (entry_fits c.args.most c.args.blocks) es c.loop-bytes.bytes-index c.loop-bytes.sum (omega (arith, long, c.loop-bytes-test.false)) c.loop-bytes.invariant.0 c.loop-bytes.invariant.1
