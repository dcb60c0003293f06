use Rattle.std.proofs.Common.{rules, ◌≤◌, ap, subst, arith, length, List}
use mathlib.Core.List.{IsPrefix}
use Rattle.consistency_server.specs.Answers.{Call}
use Rattle.kept_server.proofs.Beginnings.{shorter}
use Rattle.kept_server.proofs.events.Beginning.more_than.Goals as goal

pub returns-clause-begins : goal.returns-clause-begins
returns-clause-begins g c =
    let mine = c.self.inside.seen.log in
    let theirs = c.other.inside.seen.log in
    let both = c.learn.new.self.log in
    let this : IsPrefix mine both = subst (λ (l : List Call). IsPrefix l both) (ap (λ s. s.log) c.again-both.ensures) c.learn.ensures.2 in
    let sizes : c.other.inside.size ≤ c.self.inside.size = search rules in
    let less : length theirs ≤ length mine = omega (arith, sizes, c.self.invariant.0, c.other.invariant.0) in
    rw (← c.self.view_is, ← c.other.view_is) (shorter theirs mine both c.learn.ensures.3 this less, omega (arith, sizes, c.self.invariant.0, c.other.invariant.0))
