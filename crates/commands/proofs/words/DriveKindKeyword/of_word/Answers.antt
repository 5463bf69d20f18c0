use Rattle.std.proofs.Common.{refl, arith, rules}
use Rattle.commands.specs.declared.call.DriveKind.TheVariants.{Direct, Buffered}
use Rattle.commands.specs.Calls.{drive_word}
use Rattle.commands.specs.Reading.{drives}
use Rattle.commands.proofs.Named.{named_by_bytes}
use Rattle.commands.proofs.words.DriveKindKeyword.of_word.Goals as goal

pub returns-in-direct : goal.returns-in-direct
returns-in-direct c = named_by_bytes drive_word drives Direct refl c.args.word.now (omega arith) (search rules)

pub returns-in-buffered : goal.returns-in-buffered
returns-in-buffered c = named_by_bytes drive_word drives Buffered refl c.args.word.now (omega arith) (search rules)
