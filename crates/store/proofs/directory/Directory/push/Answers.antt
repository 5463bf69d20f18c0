use Rattle.std.proofs.Common.{true, refl}
use Rattle.store.proofs.Admission.{listed_push}
use Rattle.store.proofs.directory.Directory.push.Goals as goal

pub invariant_of-self : goal.invariant_of-self
invariant_of-self c = record { listed = listed_push _ _ _ _ true c.push_reserved.ensures.items refl c.args.self.now.listed record { lawful = c.requires.lawful; some = c.requires.some; new = c.requires.new; few = c.requires.few; room = refl } }
