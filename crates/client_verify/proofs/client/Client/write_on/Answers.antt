use Rattle.std.proofs.Common.{◌≡◌, Some, sym, ap, subst, ◌∙◌, rules}
use Rattle.tree_parts.specs.Blocks.{Blocks}
use Rattle.checked_blocks.specs.CheckedBlocks.{TakesUp, holding as with_held, known_blocks}
use Rattle.reply_check.specs.Good.{Good, view_of}
use Rattle.reply_check.specs.Reached.{IsWritten}
use Rattle.client_verify.specs.Progress.{accepted_of, checked_of}
use Rattle.client_verify.specs.State.{Checked, State, Writing, checked_in, holding}
use Rattle.client_verify.specs.Judged.{GoesOn}
use Rattle.client_verify.proofs.Holds.{goes_holds, meanwhile_after}
use Rattle.client_verify.proofs.Steps.{goes_from, if_some}
use Rattle.client_verify.proofs.client.Client.write_on.Goals as goal

pub go-requires-clause-written : goal.go-requires-clause-written
go-requires-clause-written g c =
    let x : Good = c.in-Writing.good in
    let same : c.in-Writing-stage.good ≡ x = search rules in
    let w = c.in_ok-written.written in
    let of_blocks = subst (λ (f : Blocks). IsWritten f (view_of c.self.inside.pinned x) x.void w) (sym c.in-Ok.ensures.taken.known) c.in_ok-written.ensures in
    subst (λ (y : Good). IsWritten (known_blocks c.hold.new.blocks) (view_of c.self.inside.pinned y) y.void w) (sym (c.in-Writing-stage.good-is ∙ same)) of_blocks

pub returns-clause-goes : goal.returns-clause-goes
returns-clause-goes g c =
    let old = c.args.self.now in
    let text = c.args.text.now in
    let k = c.in-Checking.checked in
    let x : Good = c.in-Writing.good in
    let b = c.hold.new.blocks in
    let there : old.checked ≡ Some k = ap (λ (s : State). s.checked) (sym c.self.view_is) ∙ ap checked_of c.in-Checking.is in
    let taken : TakesUp (with_held old.blocks text) b = subst (λ (s : State). TakesUp (with_held s.blocks text) b) c.self.view_is c.in-Ok.ensures.taken in
    let is : Writing x c.in-Writing.field-1 ≡ k = sym (ap checked_in c.in-Writing.is) ∙ c.checked.view_is in
    let same : c.in-Writing-stage.good ≡ x = search rules in
    let goes = goes_from _ old (checked_of c.take_checked-checked.new.self) (accepted_of c.take_checked-checked.new.self) b text _ x c.go.result c.go.new.self c.self.view_is taken.known (c.in-Writing-stage.good-is ∙ same) c.go.ensures.goes in
    if_some old.checked k _ there (subst (λ (q : Checked). GoesOn (holding old text) q c.go.result c.go.new.self) is goes)

pub returns-clause-held : goal.returns-clause-held
returns-clause-held g c =
    let old = c.args.self.now in
    let text = c.args.text.now in
    let x : Good = c.in-Writing.good in
    let b = c.hold.new.blocks in
    let taken : TakesUp (with_held old.blocks text) b = subst (λ (s : State). TakesUp (with_held s.blocks text) b) c.self.view_is c.in-Ok.ensures.taken in
    let same : c.in-Writing-stage.good ≡ x = search rules in
    let goes = goes_from _ old (checked_of c.take_checked-checked.new.self) (accepted_of c.take_checked-checked.new.self) b text _ x c.go.result c.go.new.self c.self.view_is taken.known (c.in-Writing-stage.good-is ∙ same) c.go.ensures.goes in
    goes_holds (holding old text) old (Some text) x c.go.result c.go.new.self goes (meanwhile_after (with_held old.blocks text) b c.go.new.self taken c.go.ensures.held)
