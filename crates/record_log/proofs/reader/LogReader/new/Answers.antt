use Rattle.std.proofs.Common.{inl, inr, ℕ, List, length, ap, subst, arith}
use Rattle.std.proofs.lemmas.Bool.{cases_lt}
use Rattle.record_log.specs.Records.{Tells}
use Rattle.record_log.proofs.Opened.{any_moment, both_new}
use Rattle.record_log.proofs.Lives.{open_call}
use Rattle.record_log.proofs.reader.LogReader.new.Goals as goal

pub returns-in-Ok-clause-records : goal.returns-in-Ok-clause-records
returns-in-Ok-clause-records g c tells rs told =
    let old = g.S.Storage.history c.args.storage in
    let new = g.S.Storage.history c.start.new.storage in
    elim (cases_lt 1 c.in-Ok.size) [
      | inl long ↦ subst (λ (l : List ℕ). Tells rs l) (c.in-Ok.ensures.same tells long) told
      | inr few ↦ (
          let made = c.in-Ok.ensures.made tells few in
          both_new new.now.text old.now.text rs (omega (arith, ap length made.1)) made.0 told)
    ]

pub returns-in-Ok-clause-any_moment : goal.returns-in-Ok-clause-any_moment
returns-in-Ok-clause-any_moment g c tells = any_moment (g.S.Storage.history c.args.storage) (g.S.Storage.history c.start.new.storage) (c.in-Ok.ensures.left tells)

pub returns-in-Err-clause-any_moment_err : goal.returns-in-Err-clause-any_moment_err
returns-in-Err-clause-any_moment_err g c tells = any_moment (g.S.Storage.history c.args.storage) (g.S.Storage.history c.start.new.storage) (c.in-Err.ensures.left tells)

pub returns-in-Ok-clause-step : goal.returns-in-Ok-clause-step
returns-in-Ok-clause-step g c tells =
    open_call (g.S.Storage.history c.args.storage) (g.S.Storage.history c.start.new.storage) (c.in-Ok.ensures.left tells) (c.in-Ok.ensures.kept tells) (λ few. omega (arith, ap length (c.in-Ok.ensures.new tells few)))

pub returns-in-Err-clause-step_err : goal.returns-in-Err-clause-step_err
returns-in-Err-clause-step_err g c tells =
    open_call (g.S.Storage.history c.args.storage) (g.S.Storage.history c.start.new.storage) (c.in-Err.ensures.left tells) (c.in-Err.ensures.kept tells) (c.in-Err.ensures.new_err tells)
