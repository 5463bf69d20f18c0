use Rattle.std.proofs.Common.{refl, arith, rules}
use Rattle.commands.specs.declared.call.StoreKind.TheVariants.{Packed}
use Rattle.commands.specs.Calls.{store_word}
use Rattle.commands.specs.Reading.{stores}
use Rattle.commands.proofs.Named.{named_by_bytes}
use Rattle.commands.proofs.words.StoreKindKeyword.of_word.Goals as goal

pub returns-in-packed : goal.returns-in-packed
returns-in-packed c = named_by_bytes store_word stores Packed refl c.args.word.now (omega arith) (search rules)
