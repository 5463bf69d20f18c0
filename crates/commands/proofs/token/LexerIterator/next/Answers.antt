use Rattle.commands.proofs.Cuts.{taken, shorter}
use Rattle.commands.proofs.token.LexerIterator.next.Goals as goal

pub returns : goal.returns
returns c =
    let t = taken c.args.self.now c.advance.new.self c.advance.result c.advance.ensures.value c.advance.ensures.stays in
    record { steps = t; goes = shorter _ _ _ t }
