use Rattle.std.proofs.Common.{vec_items, sym, ◌∙◌}
use Rattle.store.proofs.Entered.{lowest_items}
use Rattle.store.proofs.directory.objects.ObjectStore.lowest_landed.Goals as goal

pub returns : goal.returns
returns g c = let s = c.args.self.now in c.lowest_from.ensures ∙ sym (lowest_items g.S.Space.room (vec_items s.directory.entries) (g.S.Space.bytes s.space) c.args.from)
