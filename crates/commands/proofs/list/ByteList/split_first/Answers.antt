use Rattle.std.proofs.Common.{◌≡◌, Some, None, rules}
use Rattle.commands.specs.Numbers.{number_in}
use Rattle.commands.proofs.Listings.{first_none, first_some}
use Rattle.commands.proofs.list.ByteList.split_first.Goals as goal

pub returns-in_err-byte : goal.returns-in_err-byte
returns-in_err-byte c =
    let l = c.args.self.now in
    let e : None ≡ number_in 255 l.text.now = search rules in
    let z = first_none l.text.now l.listing l.small e in
    search rules

pub invariant_of-result : goal.invariant_of-result
invariant_of-result c =
    let l = c.args.self.now in
    let e : Some (c.in_ok-byte.byte, c.in_ok-byte.rest.now) ≡ number_in 255 l.text.now = search rules in
    let n = first_some l.text.now l.listing l.small _ _ _ e c.tail.ensures in
    record { listing = n.listing; small = n.small }

pub returns : goal.returns
returns c =
    let l = c.args.self.now in
    let e : Some (c.in_ok-byte.byte, c.in_ok-byte.rest.now) ≡ number_in 255 l.text.now = search rules in
    (first_some l.text.now l.listing l.small _ _ _ e c.tail.ensures).first
