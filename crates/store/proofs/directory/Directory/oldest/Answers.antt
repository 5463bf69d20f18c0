use Rattle.std.proofs.Common.{◌≡◌, true, false, vec_items, rules}
use borrow.Author.Tests.{tests}
use Rattle.std.proofs.lemmas.Iterator.{YieldsList-from_slice, IsFirst-from_position}
use Rattle.store.proofs.Scans.{first_is}
use Rattle.store.proofs.directory.Directory.oldest.Goals as goal

pub returns : goal.returns
returns c =
    let es = vec_items c.args.self.now.entries in
    first_is es c.position.result (IsFirst-from_position _ _ _ (λ e. e.landed ≡ false) (λ e. e.landed ≡ true) c.position.ensures.ran (YieldsList-from_slice es cc) (λ x q k. search (rules, tests)) (λ x q k. search (rules, tests)))
