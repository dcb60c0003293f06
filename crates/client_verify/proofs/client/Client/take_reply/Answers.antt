use Rattle.std.proofs.Common.{◌≡◌, None, ap, refl, rules, subst, sym}
use Rattle.std.specs.Prelude.{IsSomeAnd}
use Rattle.reply_rules.specs.Lists.{lists_of}
use Rattle.tree_parts.specs.Blocks.{Blocks}
use Rattle.checked_blocks.specs.CheckedBlocks.{TakesUp, known_blocks}
use Rattle.reply_check.specs.declared.reaching.Reached.TheVariants as reached
use Rattle.reply_check.specs.Good.{Good, view_of}
use Rattle.reply_check.specs.Reached.{IsWritten}
use Rattle.client_verify.specs.declared.step.Step.{Step}
use Rattle.client_verify.specs.Holding.{HoldsAfter}
use Rattle.client_verify.specs.State.{IsOfDeclared, Reading, State, known, released}
use Rattle.client_verify.proofs.Holds.{asking_holds, goes_holds, meanwhile_after}
use Rattle.client_verify.proofs.Steps.{goes_over}
use Rattle.client_verify.proofs.Handing.{asked_is, at_one, good_unbroken, good_written, judged_breaks, judged_of, reached_there, taken_good, taken_lacks}
use Rattle.client_verify.proofs.client.Client.take_reply.Goals as goal

pub go-requires-clause-written : goal.go-requires-clause-written
go-requires-clause-written g c =
    let old = c.args.self.now in
    let r = c.in-Ok.reply in
    let by : c.known-known.result ≡ known old = search rules in
    let t = c.in-BreaksNone.table in
    let w = c.in-BreaksNone.written in
    let b = c.take_up.new.self in
    let good : Good = record { lists = c.into_lists-lists.result; table = t.table; void = t.voids } in
    let reaches = reached_there _ old _ r c.in_ok-reached.reached (reached.BreaksNone t w) c.self.view_is by c.in-BreaksNone.is c.in_ok-reached.ensures in
    let taken : TakesUp old.blocks b = subst (λ (s : State). TakesUp s.blocks b) c.self.view_is c.in-Ok-take_up.ensures.taken in
    let of_old = good_written old.blocks old.pinned r good w c.into_lists-lists.ensures reaches in
    let of_blocks = subst (λ (f : Blocks). IsWritten f (view_of old.pinned good) good.void w) (sym taken.known) of_old in
    subst (λ (s : State). IsWritten (known_blocks b) (view_of s.pinned good) good.void w) (sym c.self.view_is) of_blocks

pub returns-in-Breaks-clause-judged : goal.returns-in-Breaks-clause-judged
returns-in-Breaks-clause-judged g c =
    let old = c.args.self.now in
    let r = c.in-Ok.reply in
    let by : c.known-known.result ≡ known old = search rules in
    let none = c.is_replied.ensures.unbroken in
    let read = c.is_replied.ensures.read in
    let breaks = reached_there _ old _ r c.in_ok-reached.reached (reached.Breaks c.in-Breaks.rule) c.self.view_is by c.in-Breaks.is c.in_ok-reached.ensures in
    (judged_breaks old c.args.text.now r c.in-Breaks.rule none read breaks, refl)

pub returns-in-Lacks-clause-judged : goal.returns-in-Lacks-clause-judged
returns-in-Lacks-clause-judged g c =
    let old = c.args.self.now in
    let r = c.in-Ok.reply in
    let by : c.known-known.result ≡ known old = search rules in
    let none = c.is_replied.ensures.unbroken in
    let read = c.is_replied.ensures.read in
    let a = c.in-Lacks.asked in
    let lacks = reached_there _ old _ r c.in_ok-reached.reached (reached.Lacks a) c.self.view_is by c.in-Lacks.is c.in_ok-reached.ensures in
    let asks = asked_is _ old c.ask.new.self c.take_up.new.self (Reading r a) (Reading r a) c.self.view_is refl c.ask.ensures.state in
    judged_of old c.ask.new.self c.args.text.now r c.ask.result none read (taken_lacks _ old c.ask.new.self r a c.ask.result c.ask.ensures.step asks lacks)

pub returns-in-Lacks-clause-held : goal.returns-in-Lacks-clause-held
returns-in-Lacks-clause-held g c =
    let old = c.args.self.now in
    let b = c.take_up.new.self in
    let is = c.ask.ensures.state in
    let taken : TakesUp old.blocks b = subst (λ (s : State). TakesUp s.blocks b) c.self.view_is c.in-Ok-take_up.ensures.taken in
    subst (λ (st : Step _). HoldsAfter old None st c.ask.new.self) (sym c.ask.ensures.step)
    (asking_holds old.blocks b c.ask.new.self (Reading c.in-Ok.reply c.in-Lacks.asked) (ap (λ (n : State). n.checked) is) (ap (λ (n : State). n.blocks) is) taken)

pub returns-in-BreaksNone-clause-judged : goal.returns-in-BreaksNone-clause-judged
returns-in-BreaksNone-clause-judged g c =
    let old = c.args.self.now in
    let r = c.in-Ok.reply in
    let by : c.known-known.result ≡ known old = search rules in
    let t = c.in-BreaksNone.table in
    let b = c.take_up.new.self in
    let none = c.is_replied.ensures.unbroken in
    let read = c.is_replied.ensures.read in
    let reaches = reached_there _ old _ r c.in_ok-reached.reached (reached.BreaksNone t c.in-BreaksNone.written) c.self.view_is by c.in-BreaksNone.is c.in_ok-reached.ensures in
    let good : Good = record { lists = c.into_lists-lists.result; table = t.table; void = t.voids } in
    let taken : TakesUp old.blocks b = subst (λ (s : State). TakesUp s.blocks b) c.self.view_is c.in-Ok-take_up.ensures.taken in
    let goes = goes_over _ old b good c.go.result c.go.new.self c.self.view_is taken.known c.go.ensures.goes in
    judged_of old c.go.new.self c.args.text.now r c.go.result none read (taken_good old c.go.new.self r good c.in-BreaksNone.written c.go.result c.into_lists-lists.ensures reaches goes)

pub returns-in-BreaksNone-clause-held : goal.returns-in-BreaksNone-clause-held
returns-in-BreaksNone-clause-held g c =
    let old = c.args.self.now in
    let t = c.in-BreaksNone.table in
    let b = c.take_up.new.self in
    let good : Good = record { lists = c.into_lists-lists.result; table = t.table; void = t.voids } in
    let taken : TakesUp old.blocks b = subst (λ (s : State). TakesUp s.blocks b) c.self.view_is c.in-Ok-take_up.ensures.taken in
    let goes = goes_over _ old b good c.go.result c.go.new.self c.self.view_is taken.known c.go.ensures.goes in
    goes_holds old old None good c.go.result c.go.new.self goes (meanwhile_after old.blocks b c.go.new.self taken c.go.ensures.held)

pub go-requires-clause-own : goal.go-requires-clause-own
go-requires-clause-own g c =
    subst (λ (s : State). IsOfDeclared (released s) c.into_lists-lists.result.own.plan) (sym c.self.view_is) (at_one _ c.into_lists-lists.result _ c.into_lists-lists.ensures c.is_replied.ensures.own)

pub ask-requires : goal.ask-requires
ask-requires g c = record {
  own = subst (λ (s : State). IsSomeAnd (lists_of c.in-Ok.reply) (λ x. IsOfDeclared (released s) x.own.plan)) (sym c.self.view_is) c.is_replied.ensures.own;
}

pub invariant_of-go : goal.invariant_of-go
invariant_of-go g c =
    let old = c.args.self.now in
    let r = c.in-Ok.reply in
    let by : c.known-known.result ≡ known old = search rules in
    let t = c.in-BreaksNone.table in
    let w = c.in-BreaksNone.written in
    let good : Good = record { lists = c.into_lists-lists.result; table = t.table; void = t.voids } in
    let reaches = reached_there _ old _ r c.in_ok-reached.reached (reached.BreaksNone t w) c.self.view_is by c.in-BreaksNone.is c.in_ok-reached.ensures in
    good_unbroken old.blocks old.pinned r good w c.into_lists-lists.ensures reaches

pub returns-in_default-take_up : goal.returns-in_default-take_up
returns-in_default-take_up g c = record { judged = tt; held = tt; only_memory = refl; err = rw c.in_default-take_up.ensures.err c.self.view_is }
