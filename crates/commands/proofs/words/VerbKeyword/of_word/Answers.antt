use Rattle.std.proofs.Common.{refl, arith, rules}
use Rattle.commands.specs.declared.call.Verb.TheVariants.{Checkpoint}
use Rattle.commands.specs.Calls.{verb_word}
use Rattle.commands.specs.Reading.{verbs}
use Rattle.commands.proofs.Named.{named_by_bytes}
use Rattle.commands.proofs.words.VerbKeyword.of_word.Goals as goal

pub returns-in-checkpoint : goal.returns-in-checkpoint
returns-in-checkpoint c = named_by_bytes verb_word verbs Checkpoint refl c.args.word.now (omega arith) (search rules)
