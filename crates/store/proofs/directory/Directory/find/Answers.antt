use Rattle.std.proofs.Common.{◌≡◌, true, false, ◌&&◌, eqb, vec_items, rules}
use borrow.Author.Tests.{tests}
use Rattle.std.proofs.lemmas.Iterator.{YieldsList-from_slice, IsFirst-from_position}
use Rattle.store.proofs.Scans.{found_is}
use Rattle.store.proofs.directory.Directory.find.Goals as goal

pub returns : goal.returns
returns c =
    let es = vec_items c.args.self.now.entries in
    let n = c.args.number in
    found_is es n c.position.result c.ok_or.result (IsFirst-from_position _ _ _ (λ e. (e.landed ≡ true) × (e.number ≡ n)) (λ e. (e.landed && eqb e.number n) ≡ false) c.position.ensures.ran (YieldsList-from_slice es cc) (λ x q k. search (rules, tests)) (λ x q k. search (rules, tests))) c.ok_or.ensures.value
