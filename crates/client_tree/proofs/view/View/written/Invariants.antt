use Rattle.std.proofs.Common.{◌≡◌, ◌∷◌, take}
use Rattle.pending_list.specs.Groups.{raised_groups}
use Rattle.client_tree.proofs.view.View.written.Given as goal

abbrev pub invariant-loop-group : goal.invariant-loop-group
invariant-loop-group g l = l.principals.items ≡ l.fn.self.own.cert.user ∷ take l.group-index (raised_groups l.fn.self.table l.fn.self.own)
