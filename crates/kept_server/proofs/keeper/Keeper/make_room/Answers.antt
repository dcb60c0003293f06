use Rattle.std.proofs.Common.{◌≡◌, true, ap, ◌∙◌, subst}
use Rattle.kept_server.specs.Kept.{IsCalled, Keeping}
use Rattle.kept_server.proofs.Appends.{at_least, nothing_added, one_call}
use Rattle.kept_server.proofs.keeper.Keeper.make_room.Goals as goal

pub invariant_of-self : goal.invariant_of-self
invariant_of-self g c = λ tells.
    let start = g.B.ServerKey.start in
    let old = c.self.inside.log in
    let new = c.make_room.new.self in
    let usable : old.usable ≡ true = ap (λ (k : Keeping). k.log.usable) c.self.view_is ∙ c.requires in
    let just = nothing_added start c.self.inside.events old.file new.file ((c.self.invariant tells).1 usable) (c.make_room.ensures.step tells) in
    (at_least start c.self.inside.events new.file just, λ _. just)

pub invariant_of-self-in-Err-Device : goal.invariant_of-self-in-Err-Device
invariant_of-self-in-Err-Device g c = λ tells.
    let start = g.B.ServerKey.start in
    let old = c.self.inside.log in
    let new = c.make_room.new.self in
    let usable : old.usable ≡ true = ap (λ (k : Keeping). k.log.usable) c.self.view_is ∙ c.requires in
    let just = nothing_added start c.self.inside.events old.file new.file ((c.self.invariant tells).1 usable) (c.make_room.ensures.step tells) in
    (at_least start c.self.inside.events new.file just, λ _. just)

pub returns-in-Ok-clause-calls : goal.returns-in-Ok-clause-calls
returns-in-Ok-clause-calls g c = λ tells.
    subst (λ (k : Keeping). IsCalled k.log.file c.make_room.new.self.file) c.self.view_is (one_call _ _ _ (c.make_room.ensures.step tells))

pub returns-in-Err-Device : goal.returns-in-Err-Device
returns-in-Err-Device g c = record {
  events = ap (λ (k : Keeping). k.events) c.self.view_is;
  usable = λ is. absurd (cc is);
  calls = λ tells.
      subst (λ (k : Keeping). IsCalled k.log.file c.make_room.new.self.file) c.self.view_is (one_call _ _ _ (c.make_room.ensures.step tells));
}
