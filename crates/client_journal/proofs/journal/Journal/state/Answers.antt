use Rattle.std.proofs.Common.{sym, ◌∙◌, ap, subst}
use Rattle.client_journal.specs.Records.{JournalFile, State, Idle, TellsState}
use Rattle.client_journal.specs.Told.{state_of_held}
use Rattle.client_journal.proofs.Lives.{same_call}
use Rattle.client_journal.proofs.Reached.{told_is, told_once, no_places}
use Rattle.client_journal.proofs.journal.Journal.state.Goals as goal

pub returns-in-Ok-clause-state : goal.returns-in-Ok-clause-state
returns-in-Ok-clause-state g c =
    let s = c.self.inside in
    let usable = ap (λ (j : JournalFile). j.usable) c.self.view_is ∙ c.requires in
    let file = (g.D.Device.history s.device).now.text in
    subst (λ (j : JournalFile). TellsState (state_of_held c.in-Ok.state) j.file.now.text) c.self.view_is
    (subst (λ (x : State). TellsState x file) (sym c.in-Ok.ensures.state) (told_is file s.end.gate s.end.phase (c.self.invariant usable).ends))

pub returns-in-Err-clause-idle : goal.returns-in-Err-clause-idle
returns-in-Err-clause-idle g c memory told =
    let s = c.self.inside in
    let usable = ap (λ (j : JournalFile). j.usable) c.self.view_is ∙ c.requires in
    let file = (g.D.Device.history s.device).now.text in
    let here = subst (λ (j : JournalFile). TellsState Idle j.file.now.text) (sym c.self.view_is) told in
    c.in-Err.ensures.idle memory (no_places file s.end.phase (told_once file s.end.gate s.end.phase Idle (c.self.invariant usable).ends here))

pub returns-in-Ok-clause-step : goal.returns-in-Ok-clause-step
returns-in-Ok-clause-step g c =
    same_call c.args.self.now.file (g.D.Device.history c.read_state.new.device) (c.in-Ok.ensures.same ∙ ap (λ (j : JournalFile). j.file) c.self.view_is)

pub returns-in-Err-Device-clause-step : goal.returns-in-Err-Device-clause-step
returns-in-Err-Device-clause-step g c =
    same_call c.args.self.now.file (g.D.Device.history c.read_state.new.device) (c.in-Err-Device.ensures.same ∙ ap (λ (j : JournalFile). j.file) c.self.view_is)

pub returns-in-Err-clause-step : goal.returns-in-Err-clause-step
returns-in-Err-clause-step g c =
    same_call c.args.self.now.file (g.D.Device.history c.read_state.new.device) (c.in-Err.ensures.same ∙ ap (λ (j : JournalFile). j.file) c.self.view_is)
