use Rattle.std.proofs.Common.{◌≡◌, ◌++◌, List, true, sym, ap, ◌∙◌, subst}
use Rattle.consistency_server.specs.Answers.{Call}
use Rattle.kept_server.specs.Kept.{HasJust, IsCalled, Keeping}
use Rattle.kept_server.proofs.Appends.{appended, at_least, one_call, stays, unchanged}
use Rattle.kept_server.proofs.keeper.Keeper.add.Goals as goal

pub invariant_of-self : goal.invariant_of-self
invariant_of-self g c = λ tells.
    let start = g.B.ServerKey.start in
    let old = c.self.inside.log in
    let new = c.append_all.new.self in
    let usable : old.usable ≡ true = ap (λ (k : Keeping). k.log.usable) c.self.view_is ∙ c.requires.usable in
    let r = c.requires.next in
    let just = appended start c.self.inside.events r.0 c.args.records.now old.file new.file ((c.self.invariant tells).1 usable) r.2 (c.in-Ok.ensures.step tells) in
    let are : c.self.inside.events ++ r.0 ≡ c.args.events = ap (λ (k : Keeping). k.events ++ r.0) c.self.view_is ∙ sym r.1 in
    let now = subst (λ (calls : List Call). HasJust start calls new.file) are just in
    (at_least start c.args.events new.file now, λ _. now)

pub invariant_of-self-in-Err-1 : goal.invariant_of-self-in-Err-1
invariant_of-self-in-Err-1 g c = λ tells.
    let start = g.B.ServerKey.start in
    let old = c.self.inside.log in
    let new = c.append_all.new.self in
    let usable : old.usable ≡ true = ap (λ (k : Keeping). k.log.usable) c.self.view_is ∙ c.requires.usable in
    let e = c.in-Err.ensures in
    let just = (c.self.invariant tells).1 usable in
    (stays start c.self.inside.events _ old.file new.file just (e.step tells), unchanged start c.self.inside.events old new c.in-Err.field-0 e.memory (λ is. (e.device is).0) e.ours just)

pub returns-in-Ok-clause-calls : goal.returns-in-Ok-clause-calls
returns-in-Ok-clause-calls g c = λ tells.
    subst (λ (k : Keeping). IsCalled k.log.file c.append_all.new.self.file) c.self.view_is (one_call _ _ _ (c.in-Ok.ensures.step tells))

pub returns-in-Err-clause-calls : goal.returns-in-Err-clause-calls
returns-in-Err-clause-calls g c = λ tells.
    subst (λ (k : Keeping). IsCalled k.log.file c.append_all.new.self.file) c.self.view_is (one_call _ _ _ (c.in-Err.ensures.step tells))
