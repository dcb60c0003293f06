use Rattle.std.proofs.Common.{◌∙◌, ap, subst}
use Rattle.client_journal.specs.Records.{JournalFile, MayCome}
use Rattle.client_journal.specs.Places.{state_at}
use Rattle.client_journal.proofs.Reached.{told_is}
use Rattle.client_journal.proofs.journal.Journal.next.Goals as goal

pub returns : goal.returns
returns g c text =
    let s = c.self.inside in
    let usable = ap (λ (j : JournalFile). j.usable) c.self.view_is ∙ c.requires in
    let file = (g.D.Device.history s.device).now.text in
    subst (λ (j : JournalFile). MayCome (record { kind = c.next.result; text = text }) j.file.now.text) c.self.view_is
    (record { state = state_at file s.end.phase; tells = told_is file s.end.gate s.end.phase (c.self.invariant usable).ends; in_turn = c.next.ensures file text })
