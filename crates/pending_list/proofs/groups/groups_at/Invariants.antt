use Rattle.std.proofs.Common.{◌≡◌, filter}
use Rattle.pending_list.specs.Groups.{groups_below, raises_at}
use Rattle.pending_list.proofs.groups.groups_at.Given as goal

abbrev pub invariant-loop-n : goal.invariant-loop-n
invariant-loop-n g l = l.raised.items ≡ filter (raises_at l.table l.version l.cert) (groups_below l.n)
