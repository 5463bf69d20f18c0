use Rattle.std.proofs.Common.{◌≡◌, ℕ, ◌<◌, true, false, length, get_or, vec_items, rules}
use Rattle.std.specs.Option.{MatchOption}
use Rattle.std.specs.List.{All}
use Rattle.store.specs.Entries.{blank}
use Rattle.store.proofs.Scans.{last_is}
use Rattle.store.proofs.directory.Directory.newest.Goals as goal

pub returns : goal.returns
returns c =
    let es = vec_items c.args.self.now.entries in
    let a : MatchOption c.rposition.result (All (λ e. e.landed ≡ true) es) (λ i. (i < length es) × ((get_or es i blank).landed ≡ false) × ((k : ℕ) → i < k → k < length es → (get_or es k blank).landed ≡ true)) = search rules in
    last_is es c.rposition.result a
