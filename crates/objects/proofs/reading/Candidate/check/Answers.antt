use Rattle.std.proofs.Common.{sym, ◌∙◌, subst}
use Rattle.objects.specs.declared.header.Header.{Header}
use Rattle.objects.specs.Reading.{Undamaged}
use Rattle.objects.proofs.Sound.{undamaged, damaged}
use Rattle.objects.proofs.reading.Candidate.check.Goals as goal

pub returns-then-sound-clause-good : goal.returns-then-sound-clause-good
returns-then-sound-clause-good c =
    subst (λ (h : Header). Undamaged c.args.blocks c.args.name c.args.self.now.bytes.now h) (sym c.args.self.now.read)
    (undamaged c.args.blocks c.args.name c.args.self.now.bytes.now c.args.self.now.each c.ranges.name.fits (sym c.sound.ensures ∙ c.if-sound.true))

pub returns-else-sound-clause-bad : goal.returns-else-sound-clause-bad
returns-else-sound-clause-bad c = damaged c.args.blocks c.args.name c.args.self.now.bytes.now (sym c.sound.ensures ∙ c.if-sound.false)
