use Rattle.std.proofs.Common.{◌≡◌, Some, refl, sym, ap, subst, ◌∙◌}
use Rattle.tree_parts.specs.Blocks.{Blocks}
use Rattle.checked_blocks.specs.CheckedBlocks.{TakesUp, holding as with_held, known_blocks}
use Rattle.pending_list.specs.Reply.{Reply}
use Rattle.reply_rules.specs.Lists.{lists_of}
use Rattle.reply_check.specs.declared.reaching.Reached.TheVariants as reached
use Rattle.reply_check.specs.Good.{Good, view_of}
use Rattle.reply_check.specs.Reached.{IsWritten}
use Rattle.client_verify.specs.declared.step.Step.{Step}
use Rattle.client_verify.specs.Holding.{HoldsAfter}
use Rattle.client_verify.specs.Progress.{accepted_of, checked_of}
use Rattle.client_verify.specs.State.{Reading, State, checked_in, holding}
use Rattle.client_verify.proofs.Holds.{asking_holds, goes_holds, meanwhile_after}
use Rattle.client_verify.proofs.Steps.{goes_from, if_some}
use Rattle.client_verify.proofs.Handing.{asked_is, good_unbroken, good_written, if_at, reached_taken, reads_broken, reads_taken, taken_good, taken_lacks}
use Rattle.client_verify.proofs.client.Client.read_on.Goals as goal

pub returns-in-Breaks-clause-goes : goal.returns-in-Breaks-clause-goes
returns-in-Breaks-clause-goes g c =
    let old = c.args.self.now in
    reads_broken old c.args.text.now old.checked c.in_ok-reached.reached c.in-Breaks.rule c.in-Breaks.is c.in_ok-reached.ensures

pub returns-in-Lacks-clause-goes : goal.returns-in-Lacks-clause-goes
returns-in-Lacks-clause-goes g c =
    let old = c.args.self.now in
    let text = c.args.text.now in
    let k = c.take_checked-checked.result in
    let s = c.in-Reading.reply in
    let b = c.in-Reading.field-1 in
    let there : old.checked ≡ Some k = ap (λ (s : State). s.checked) (sym c.self.view_is) ∙ c.take_checked-checked.ensures.taken in
    let is : Reading s b ≡ k = sym (ap checked_in c.in-Reading.is) ∙ c.checked.view_is in
    let lacks = reached_taken old text k s b c.in_ok-reached.reached (reached.Lacks c.in-Lacks.asked) is c.in-Lacks.is (if_at old.checked k _ there c.in_ok-reached.ensures) in
    let asks = asked_is _ old c.ask.new.self c.hold.new.blocks _ (Reading s c.in-Lacks.asked) c.self.view_is (ap (λ (q : Reply). Reading q c.in-Lacks.asked) c.in-Reading.reply-is) c.ask.ensures.state in
    if_some old.checked k _ there (reads_taken old c.ask.new.self k text s b c.ask.result is (taken_lacks _ (holding old text) c.ask.new.self s c.in-Lacks.asked c.ask.result c.ask.ensures.step asks lacks))

pub returns-in-Lacks-clause-held : goal.returns-in-Lacks-clause-held
returns-in-Lacks-clause-held g c =
    let old = c.args.self.now in
    let text = c.args.text.now in
    let b = c.hold.new.blocks in
    let is = c.ask.ensures.state in
    let taken : TakesUp (with_held old.blocks text) b = subst (λ (s : State). TakesUp (with_held s.blocks text) b) c.self.view_is c.in-Ok.ensures.taken in
    subst (λ (st : Step _). HoldsAfter old (Some text) st c.ask.new.self) (sym c.ask.ensures.step)
    (asking_holds (with_held old.blocks text) b c.ask.new.self _ (ap (λ (n : State). n.checked) is) (ap (λ (n : State). n.blocks) is) taken)

pub go-requires-clause-written : goal.go-requires-clause-written
go-requires-clause-written g c =
    let old = c.args.self.now in
    let text = c.args.text.now in
    let k = c.take_checked-checked.result in
    let s = c.in-Reading.reply in
    let a = c.in-Reading.field-1 in
    let t = c.in-BreaksNone.table in
    let w = c.in-BreaksNone.written in
    let b = c.hold.new.blocks in
    let there : old.checked ≡ Some k = ap (λ (s : State). s.checked) (sym c.self.view_is) ∙ c.take_checked-checked.ensures.taken in
    let is : Reading s a ≡ k = sym (ap checked_in c.in-Reading.is) ∙ c.checked.view_is in
    let reaches = reached_taken old text k s a c.in_ok-reached.reached (reached.BreaksNone t w) is c.in-BreaksNone.is (if_at old.checked k _ there c.in_ok-reached.ensures) in
    let lists : lists_of s ≡ Some c.into_lists-lists.result = ap lists_of (sym c.in-Reading.reply-is) ∙ c.into_lists-lists.ensures in
    let good : Good = record { lists = c.into_lists-lists.result; table = t.table; void = t.voids } in
    let taken : TakesUp (with_held old.blocks text) b = subst (λ (s : State). TakesUp (with_held s.blocks text) b) c.self.view_is c.in-Ok.ensures.taken in
    let of_old = good_written (with_held old.blocks text) old.pinned s good w lists reaches in
    let of_blocks = subst (λ (f : Blocks). IsWritten f (view_of old.pinned good) good.void w) (sym taken.known) of_old in
    subst (λ (s : State). IsWritten (known_blocks b) (view_of s.pinned good) good.void w) (sym c.self.view_is) of_blocks

pub invariant_of-go : goal.invariant_of-go
invariant_of-go g c =
    let old = c.args.self.now in
    let text = c.args.text.now in
    let k = c.take_checked-checked.result in
    let s = c.in-Reading.reply in
    let a = c.in-Reading.field-1 in
    let t = c.in-BreaksNone.table in
    let w = c.in-BreaksNone.written in
    let there : old.checked ≡ Some k = ap (λ (s : State). s.checked) (sym c.self.view_is) ∙ c.take_checked-checked.ensures.taken in
    let is : Reading s a ≡ k = sym (ap checked_in c.in-Reading.is) ∙ c.checked.view_is in
    let reaches = reached_taken old text k s a c.in_ok-reached.reached (reached.BreaksNone t w) is c.in-BreaksNone.is (if_at old.checked k _ there c.in_ok-reached.ensures) in
    let lists : lists_of s ≡ Some c.into_lists-lists.result = ap lists_of (sym c.in-Reading.reply-is) ∙ c.into_lists-lists.ensures in
    let good : Good = record { lists = c.into_lists-lists.result; table = t.table; void = t.voids } in
    good_unbroken (with_held old.blocks text) old.pinned s good w lists reaches

pub returns-in-BreaksNone-clause-goes : goal.returns-in-BreaksNone-clause-goes
returns-in-BreaksNone-clause-goes g c =
    let old = c.args.self.now in
    let text = c.args.text.now in
    let k = c.take_checked-checked.result in
    let s = c.in-Reading.reply in
    let b = c.in-Reading.field-1 in
    let t = c.in-BreaksNone.table in
    let there : old.checked ≡ Some k = ap (λ (s : State). s.checked) (sym c.self.view_is) ∙ c.take_checked-checked.ensures.taken in
    let taken : TakesUp (with_held old.blocks text) c.hold.new.blocks = subst (λ (s : State). TakesUp (with_held s.blocks text) c.hold.new.blocks) c.self.view_is c.in-Ok.ensures.taken in
    let is : Reading s b ≡ k = sym (ap checked_in c.in-Reading.is) ∙ c.checked.view_is in
    let reaches = reached_taken old text k s b c.in_ok-reached.reached (reached.BreaksNone t c.in-BreaksNone.written) is c.in-BreaksNone.is (if_at old.checked k _ there c.in_ok-reached.ensures) in
    let lists : lists_of s ≡ Some c.into_lists-lists.result = ap lists_of (sym c.in-Reading.reply-is) ∙ c.into_lists-lists.ensures in
    let good : Good = record { lists = c.into_lists-lists.result; table = t.table; void = t.voids } in
    let goes = goes_from _ old (checked_of c.take_checked-checked.new.self) (accepted_of c.take_checked-checked.new.self) c.hold.new.blocks text good good c.go.result c.go.new.self c.self.view_is taken.known refl c.go.ensures.goes in
    if_some old.checked k _ there (reads_taken old c.go.new.self k text s b c.go.result is (taken_good (holding old text) c.go.new.self s good c.in-BreaksNone.written c.go.result lists reaches goes))

pub returns-in-BreaksNone-clause-held : goal.returns-in-BreaksNone-clause-held
returns-in-BreaksNone-clause-held g c =
    let old = c.args.self.now in
    let text = c.args.text.now in
    let t = c.in-BreaksNone.table in
    let b = c.hold.new.blocks in
    let good : Good = record { lists = c.into_lists-lists.result; table = t.table; void = t.voids } in
    let taken : TakesUp (with_held old.blocks text) b = subst (λ (s : State). TakesUp (with_held s.blocks text) b) c.self.view_is c.in-Ok.ensures.taken in
    let goes = goes_from _ old (checked_of c.take_checked-checked.new.self) (accepted_of c.take_checked-checked.new.self) b text good good c.go.result c.go.new.self c.self.view_is taken.known refl c.go.ensures.goes in
    goes_holds (holding old text) old (Some text) good c.go.result c.go.new.self goes (meanwhile_after (with_held old.blocks text) b c.go.new.self taken c.go.ensures.held)
