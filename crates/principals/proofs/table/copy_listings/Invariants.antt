use Rattle.std.proofs.Common.{◌≡◌, take}
use Rattle.principals.proofs.table.copy_listings.Given as goal

abbrev pub invariant-loop-listing : goal.invariant-loop-listing
invariant-loop-listing g l = l.copies.items ≡ take l.listing-index l.listings
