use Rattle.std.proofs.Common.{◌≡◌, length, Some, rules}
use Rattle.commands.specs.Elements.{elements}
use Rattle.commands.proofs.Listings.{front_inside, front_listing, front_small}
use Rattle.commands.proofs.token.list_in.Goals as goal

pub slice_bounds-list-count : goal.slice_bounds-list-count
slice_bounds-list-count c = front_inside c.args.text.now c.in_ok-end.end.now (search rules)

pub invariant_of-list-2 : goal.invariant_of-list-2
invariant_of-list-2 c =
    let e : elements (length c.args.text.now) c.args.text.now ≡ Some c.in_ok-end.end.now = search rules in
    record { listing = front_listing c.args.text.now c.in_ok-end.end.now e; small = front_small c.args.text.now c.in_ok-end.end.now e }
