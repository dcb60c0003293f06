use Rattle.std.proofs.Common.{◌≡◌, ◌∷◌, [], ◌++◌, ◌<◌, ◌+◌, ◌^◌, List, length, sym, ◌∙◌, ap, subst, arith, inl, inr}
use Rattle.std.proofs.lemmas.Result.{err_from_is_err_and}
use Rattle.leaf_ledger.specs.Device.{Throughout, at_rest, written}
use Rattle.client_journal.specs.Records.{JournalFile, Record, spelled, chain, Tells, TellsWithOrWithout, MayCome}
use Rattle.client_journal.proofs.Headers.{length-spelled}
use Rattle.client_journal.proofs.Appended.{at_any, kept, first, gate_failed, gate_read, appended, laid, done, new_ready, new_disk}
use Rattle.client_journal.proofs.Lives.{tried, refused, answered}
use Rattle.client_journal.proofs.journal.Journal.append.Goals as goal

pub returns-in_err-stage-clause-any_moment : goal.returns-in_err-stage-clause-any_moment
returns-in_err-stage-clause-any_moment g c =
    let s = c.self.inside in
    let usable = ap (λ (j : JournalFile). j.usable) c.self.view_is ∙ c.requires.usable in
    let ready = c.self.invariant usable in
    let old = g.D.Device.history s.device in
    let r : Record = record { kind = c.added.inside.kind; text = c.added.inside.text.now } in
    let small = subst (λ (x : Record). length x.text < 2 ^ 32) (sym c.added.view_is) c.requires.short in
    let turn = subst (λ (x : Record). MayCome x old.now.text) (sym c.added.view_is) (subst (λ (j : JournalFile). MayCome c.args.added j.file.now.text) (sym c.self.view_is) c.requires.turn) in
    let new = g.D.Device.history c.stage.new.device in
    subst (λ (j : JournalFile). (rs : List Record) → Tells rs j.file.now.text → Throughout (TellsWithOrWithout rs c.args.added) j.file new) c.self.view_is
    (subst (λ (x : Record). (rs : List Record) → Tells rs old.now.text → Throughout (TellsWithOrWithout rs x) old new) c.added.view_is
    (at_any old s.end.gate s.end.phase ready r c.after-phase.result small turn c.after-phase.ensures.next c.after-phase.ensures.below (λ rs. Throughout (TellsWithOrWithout rs r) old new) (first old s.end.gate s.end.phase ready r c.after-phase.result small turn c.after-phase.ensures.next c.after-phase.ensures.below new c.in_err-stage.ensures.any_moment)))

pub returns-in_err-stage-clause-reads : goal.returns-in_err-stage-clause-reads
returns-in_err-stage-clause-reads g c =
    let s = c.self.inside in
    let usable = ap (λ (j : JournalFile). j.usable) c.self.view_is ∙ c.requires.usable in
    let ready = c.self.invariant usable in
    let old = g.D.Device.history s.device in
    let r : Record = record { kind = c.added.inside.kind; text = c.added.inside.text.now } in
    let small = subst (λ (x : Record). length x.text < 2 ^ 32) (sym c.added.view_is) c.requires.short in
    let turn = subst (λ (x : Record). MayCome x old.now.text) (sym c.added.view_is) (subst (λ (j : JournalFile). MayCome c.args.added j.file.now.text) (sym c.self.view_is) c.requires.turn) in
    let new = g.D.Device.history c.stage.new.device in
    subst (λ (j : JournalFile). (rs : List Record) → Tells rs j.file.now.text → TellsWithOrWithout rs c.args.added new.now.text) c.self.view_is
    (subst (λ (x : Record). (rs : List Record) → Tells rs old.now.text → TellsWithOrWithout rs x new.now.text) c.added.view_is
    (at_any old s.end.gate s.end.phase ready r c.after-phase.result small turn c.after-phase.ensures.next c.after-phase.ensures.below (λ rs. TellsWithOrWithout rs r new.now.text) (inl (kept old s.end.gate s.end.phase ready r c.after-phase.result small turn c.after-phase.ensures.next c.after-phase.ensures.below new.now.text c.in_err-stage.ensures.reads))))

pub returns-in_err-write_through-clause-any_moment : goal.returns-in_err-write_through-clause-any_moment
returns-in_err-write_through-clause-any_moment g c =
    let s = c.self.inside in
    let usable = ap (λ (j : JournalFile). j.usable) c.self.view_is ∙ c.requires.usable in
    let ready = c.self.invariant usable in
    let old = g.D.Device.history s.device in
    let r : Record = record { kind = c.added.inside.kind; text = c.added.inside.text.now } in
    let small = subst (λ (x : Record). length x.text < 2 ^ 32) (sym c.added.view_is) c.requires.short in
    let turn = subst (λ (x : Record). MayCome x old.now.text) (sym c.added.view_is) (subst (λ (j : JournalFile). MayCome c.args.added j.file.now.text) (sym c.self.view_is) c.requires.turn) in
    let staged = c.in_ok-stage.ensures.ok ∙ ap (λ (x : Record). at_rest (written (s.end.gate + 1) (spelled x ++ 0 ∷ []) old.now.text)) (sym c.added.view_is) in
    let new = g.D.Device.history c.write_through.new.device in
    subst (λ (j : JournalFile). (rs : List Record) → Tells rs j.file.now.text → Throughout (TellsWithOrWithout rs c.args.added) j.file new) c.self.view_is
    (subst (λ (x : Record). (rs : List Record) → Tells rs old.now.text → Throughout (TellsWithOrWithout rs x) old new) c.added.view_is
    (at_any old s.end.gate s.end.phase ready r c.after-phase.result small turn c.after-phase.ensures.next c.after-phase.ensures.below (λ rs. Throughout (TellsWithOrWithout rs r) old new) (gate_failed old s.end.gate s.end.phase ready r c.after-phase.result small turn c.after-phase.ensures.next c.after-phase.ensures.below (g.D.Device.history c.stage.new.device) c.in_ok-stage.ensures.any_moment staged new c.in_err-write_through.ensures.err)))

pub returns-in_err-write_through-clause-reads : goal.returns-in_err-write_through-clause-reads
returns-in_err-write_through-clause-reads g c =
    let s = c.self.inside in
    let usable = ap (λ (j : JournalFile). j.usable) c.self.view_is ∙ c.requires.usable in
    let ready = c.self.invariant usable in
    let old = g.D.Device.history s.device in
    let r : Record = record { kind = c.added.inside.kind; text = c.added.inside.text.now } in
    let small = subst (λ (x : Record). length x.text < 2 ^ 32) (sym c.added.view_is) c.requires.short in
    let turn = subst (λ (x : Record). MayCome x old.now.text) (sym c.added.view_is) (subst (λ (j : JournalFile). MayCome c.args.added j.file.now.text) (sym c.self.view_is) c.requires.turn) in
    let staged = c.in_ok-stage.ensures.ok ∙ ap (λ (x : Record). at_rest (written (s.end.gate + 1) (spelled x ++ 0 ∷ []) old.now.text)) (sym c.added.view_is) in
    let new = g.D.Device.history c.write_through.new.device in
    subst (λ (j : JournalFile). (rs : List Record) → Tells rs j.file.now.text → TellsWithOrWithout rs c.args.added new.now.text) c.self.view_is
    (subst (λ (x : Record). (rs : List Record) → Tells rs old.now.text → TellsWithOrWithout rs x new.now.text) c.added.view_is
    (at_any old s.end.gate s.end.phase ready r c.after-phase.result small turn c.after-phase.ensures.next c.after-phase.ensures.below (λ rs. TellsWithOrWithout rs r new.now.text) (gate_read old s.end.gate s.end.phase ready r c.after-phase.result small turn c.after-phase.ensures.next c.after-phase.ensures.below (g.D.Device.history c.stage.new.device) c.in_ok-stage.ensures.any_moment staged new c.in_err-write_through.ensures.err)))

pub returns-clause-any_moment : goal.returns-clause-any_moment
returns-clause-any_moment g c =
    let s = c.self.inside in
    let usable = ap (λ (j : JournalFile). j.usable) c.self.view_is ∙ c.requires.usable in
    let ready = c.self.invariant usable in
    let old = g.D.Device.history s.device in
    let r : Record = record { kind = c.added.inside.kind; text = c.added.inside.text.now } in
    let small = subst (λ (x : Record). length x.text < 2 ^ 32) (sym c.added.view_is) c.requires.short in
    let turn = subst (λ (x : Record). MayCome x old.now.text) (sym c.added.view_is) (subst (λ (j : JournalFile). MayCome c.args.added j.file.now.text) (sym c.self.view_is) c.requires.turn) in
    let staged = c.in_ok-stage.ensures.ok ∙ ap (λ (x : Record). at_rest (written (s.end.gate + 1) (spelled x ++ 0 ∷ []) old.now.text)) (sym c.added.view_is) in
    let new = g.D.Device.history c.write_through.new.device in
    subst (λ (j : JournalFile). (rs : List Record) → Tells rs j.file.now.text → Throughout (TellsWithOrWithout rs c.args.added) j.file new) c.self.view_is
    (subst (λ (x : Record). (rs : List Record) → Tells rs old.now.text → Throughout (TellsWithOrWithout rs x) old new) c.added.view_is
    (at_any old s.end.gate s.end.phase ready r c.after-phase.result small turn c.after-phase.ensures.next c.after-phase.ensures.below (λ rs. Throughout (TellsWithOrWithout rs r) old new) (done old s.end.gate s.end.phase ready r c.after-phase.result small turn c.after-phase.ensures.next c.after-phase.ensures.below (g.D.Device.history c.stage.new.device) c.in_ok-stage.ensures.any_moment staged new c.in_ok-write_through.ensures.ok)))

pub returns-clause-reads : goal.returns-clause-reads
returns-clause-reads g c =
    let s = c.self.inside in
    let usable = ap (λ (j : JournalFile). j.usable) c.self.view_is ∙ c.requires.usable in
    let ready = c.self.invariant usable in
    let old = g.D.Device.history s.device in
    let r : Record = record { kind = c.added.inside.kind; text = c.added.inside.text.now } in
    let small = subst (λ (x : Record). length x.text < 2 ^ 32) (sym c.added.view_is) c.requires.short in
    let turn = subst (λ (x : Record). MayCome x old.now.text) (sym c.added.view_is) (subst (λ (j : JournalFile). MayCome c.args.added j.file.now.text) (sym c.self.view_is) c.requires.turn) in
    let staged = c.in_ok-stage.ensures.ok ∙ ap (λ (x : Record). at_rest (written (s.end.gate + 1) (spelled x ++ 0 ∷ []) old.now.text)) (sym c.added.view_is) in
    let new = g.D.Device.history c.write_through.new.device in
    subst (λ (j : JournalFile). (rs : List Record) → Tells rs j.file.now.text → TellsWithOrWithout rs c.args.added new.now.text) c.self.view_is
    (subst (λ (x : Record). (rs : List Record) → Tells rs old.now.text → TellsWithOrWithout rs x new.now.text) c.added.view_is
    (at_any old s.end.gate s.end.phase ready r c.after-phase.result small turn c.after-phase.ensures.next c.after-phase.ensures.below (λ rs. TellsWithOrWithout rs r new.now.text) (inr (appended old s.end.gate s.end.phase ready r c.after-phase.result small turn c.after-phase.ensures.next c.after-phase.ensures.below (g.D.Device.history c.stage.new.device) c.in_ok-stage.ensures.any_moment staged new c.in_ok-write_through.ensures.ok))))

pub returns-clause-appended : goal.returns-clause-appended
returns-clause-appended g c =
    let s = c.self.inside in
    let usable = ap (λ (j : JournalFile). j.usable) c.self.view_is ∙ c.requires.usable in
    let ready = c.self.invariant usable in
    let old = g.D.Device.history s.device in
    let r : Record = record { kind = c.added.inside.kind; text = c.added.inside.text.now } in
    let small = subst (λ (x : Record). length x.text < 2 ^ 32) (sym c.added.view_is) c.requires.short in
    let turn = subst (λ (x : Record). MayCome x old.now.text) (sym c.added.view_is) (subst (λ (j : JournalFile). MayCome c.args.added j.file.now.text) (sym c.self.view_is) c.requires.turn) in
    let staged = c.in_ok-stage.ensures.ok ∙ ap (λ (x : Record). at_rest (written (s.end.gate + 1) (spelled x ++ 0 ∷ []) old.now.text)) (sym c.added.view_is) in
    let new = g.D.Device.history c.write_through.new.device in
    subst (λ (j : JournalFile). (rs : List Record) → Tells rs j.file.now.text → Tells (rs ++ c.args.added ∷ []) new.now.text) c.self.view_is
    (subst (λ (x : Record). (rs : List Record) → Tells rs old.now.text → Tells (rs ++ x ∷ []) new.now.text) c.added.view_is
    (at_any old s.end.gate s.end.phase ready r c.after-phase.result small turn c.after-phase.ensures.next c.after-phase.ensures.below (λ rs. Tells (rs ++ r ∷ []) new.now.text) (appended old s.end.gate s.end.phase ready r c.after-phase.result small turn c.after-phase.ensures.next c.after-phase.ensures.below (g.D.Device.history c.stage.new.device) c.in_ok-stage.ensures.any_moment staged new c.in_ok-write_through.ensures.ok)))

pub returns-clause-file : goal.returns-clause-file
returns-clause-file g c =
    let s = c.self.inside in
    let usable = ap (λ (j : JournalFile). j.usable) c.self.view_is ∙ c.requires.usable in
    let ready = c.self.invariant usable in
    let old = g.D.Device.history s.device in
    let r : Record = record { kind = c.added.inside.kind; text = c.added.inside.text.now } in
    let small = subst (λ (x : Record). length x.text < 2 ^ 32) (sym c.added.view_is) c.requires.short in
    let turn = subst (λ (x : Record). MayCome x old.now.text) (sym c.added.view_is) (subst (λ (j : JournalFile). MayCome c.args.added j.file.now.text) (sym c.self.view_is) c.requires.turn) in
    let staged = c.in_ok-stage.ensures.ok ∙ ap (λ (x : Record). at_rest (written (s.end.gate + 1) (spelled x ++ 0 ∷ []) old.now.text)) (sym c.added.view_is) in
    let new = g.D.Device.history c.write_through.new.device in
    subst (λ (j : JournalFile). (rs : List Record) → Tells rs j.file.now.text → new.now.text ≡ written 0 (chain (rs ++ c.args.added ∷ []) ++ 0 ∷ []) j.file.now.text) c.self.view_is
    (subst (λ (x : Record). (rs : List Record) → Tells rs old.now.text → new.now.text ≡ written 0 (chain (rs ++ x ∷ []) ++ 0 ∷ []) old.now.text) c.added.view_is
    (at_any old s.end.gate s.end.phase ready r c.after-phase.result small turn c.after-phase.ensures.next c.after-phase.ensures.below (λ rs. new.now.text ≡ written 0 (chain (rs ++ r ∷ []) ++ 0 ∷ []) old.now.text) (laid old s.end.gate s.end.phase ready r c.after-phase.result small turn c.after-phase.ensures.next c.after-phase.ensures.below (g.D.Device.history c.stage.new.device) c.in_ok-stage.ensures.any_moment staged new c.in_ok-write_through.ensures.ok)))

pub invariant_of-self-2 : goal.invariant_of-self-2
invariant_of-self-2 g c _ =
    let s = c.self.inside in
    let usable = ap (λ (j : JournalFile). j.usable) c.self.view_is ∙ c.requires.usable in
    let ready = c.self.invariant usable in
    let old = g.D.Device.history s.device in
    let r : Record = record { kind = c.added.inside.kind; text = c.added.inside.text.now } in
    let small = subst (λ (x : Record). length x.text < 2 ^ 32) (sym c.added.view_is) c.requires.short in
    let turn = subst (λ (x : Record). MayCome x old.now.text) (sym c.added.view_is) (subst (λ (j : JournalFile). MayCome c.args.added j.file.now.text) (sym c.self.view_is) c.requires.turn) in
    let staged = c.in_ok-stage.ensures.ok ∙ ap (λ (x : Record). at_rest (written (s.end.gate + 1) (spelled x ++ 0 ∷ []) old.now.text)) (sym c.added.view_is) in
    new_ready old s.end.gate s.end.phase ready r c.after-phase.result small turn c.after-phase.ensures.next c.after-phase.ensures.below (g.D.Device.history c.stage.new.device) c.in_ok-stage.ensures.any_moment staged (g.D.Device.history c.write_through.new.device) c.in_ok-write_through.ensures.ok (omega (arith, c.in_ok-stage.ensures.bounded, length-spelled r, ap (λ (x : Record). length (spelled x)) c.added.view_is))

pub returns-in_err-stage-clause-step : goal.returns-in_err-stage-clause-step
returns-in_err-stage-clause-step g c =
    let e = err_from_is_err_and c.from_residual.result c.from_residual.ensures.1 in
    refused c.from_residual.result e.0 e.1 c.args.self.now.file (g.D.Device.history c.stage.new.device) c.args.added
    (tried c.args.self.now.file (g.D.Device.history c.stage.new.device) c.args.added (returns-in_err-stage-clause-any_moment g c) (returns-in_err-stage-clause-reads g c))

pub returns-in_err-write_through-clause-step : goal.returns-in_err-write_through-clause-step
returns-in_err-write_through-clause-step g c =
    let e = err_from_is_err_and c.from_residual-in_err-write_through.result c.from_residual-in_err-write_through.ensures.1 in
    refused c.from_residual-in_err-write_through.result e.0 e.1 c.args.self.now.file (g.D.Device.history c.write_through.new.device) c.args.added
    (tried c.args.self.now.file (g.D.Device.history c.write_through.new.device) c.args.added (returns-in_err-write_through-clause-any_moment g c) (returns-in_err-write_through-clause-reads g c))

pub returns-clause-step : goal.returns-clause-step
returns-clause-step g c =
    let s = c.self.inside in
    let usable = ap (λ (j : JournalFile). j.usable) c.self.view_is ∙ c.requires.usable in
    let ready = c.self.invariant usable in
    let old = g.D.Device.history s.device in
    let r : Record = record { kind = c.added.inside.kind; text = c.added.inside.text.now } in
    let small = subst (λ (x : Record). length x.text < 2 ^ 32) (sym c.added.view_is) c.requires.short in
    let turn = subst (λ (x : Record). MayCome x old.now.text) (sym c.added.view_is) (subst (λ (j : JournalFile). MayCome c.args.added j.file.now.text) (sym c.self.view_is) c.requires.turn) in
    let staged = c.in_ok-stage.ensures.ok ∙ ap (λ (x : Record). at_rest (written (s.end.gate + 1) (spelled x ++ 0 ∷ []) old.now.text)) (sym c.added.view_is) in
    let new = g.D.Device.history c.write_through.new.device in
    let rest = new_disk old s.end.gate s.end.phase ready r c.after-phase.result small turn c.after-phase.ensures.next c.after-phase.ensures.below (g.D.Device.history c.stage.new.device) c.in_ok-stage.ensures.any_moment staged new c.in_ok-write_through.ensures.ok in
    answered c.args.self.now.file new c.args.added (returns-clause-any_moment g c) _ rest (returns-clause-appended g c)
