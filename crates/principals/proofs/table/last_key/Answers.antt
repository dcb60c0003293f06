use Rattle.std.proofs.Common.{◌≡◌, ◌-◌, Some, length, sym}
use Rattle.std.specs.List.{slice_get}
use Rattle.principals.proofs.LastKeys.{last_key_is}
use Rattle.principals.proofs.table.last_key.Goals as goal

pub returns-in-Some : goal.returns-in-Some
returns-in-Some g c =
    let rs = c.listing.inside.later.items in
    let at : slice_get rs (length rs - 1) ≡ Some c.in-Some.renewal.now = sym (rw c.deref.ensures.value at c.in-Some.ensures.value) in
    rw (← c.listing.view_is) (sym (last_key_is c.listing.inside.key rs c.in-Some.renewal.now at))
