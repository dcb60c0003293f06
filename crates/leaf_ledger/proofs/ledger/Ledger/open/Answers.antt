use Rattle.std.proofs.Common.{rules, ◌≡◌, length, take, ◌∙◌, ap, arith, length-append}
use Rattle.std.proofs.lemmas.List.{take_at}
use Rattle.leaf_ledger.specs.Device.{Disk}
use Rattle.leaf_ledger.proofs.Lives.{kept_call}
use Rattle.leaf_ledger.proofs.ledger.Ledger.open.Goals as goal

pub returns-in-Ok-clause-file : goal.returns-in-Ok-clause-file
returns-in-Ok-clause-file g c =
    let size : length c.as_bytes.result.now ≡ 56 = c.as_bytes.ensures.size in
    let marks : length c.in-Ok.marks ≡ 1024 = search rules in (
      ap (λ (d : Disk). length d.text) c.in-Ok.ensures.at_rest ∙ omega (arith, size, marks, length-append c.as_bytes.result.now c.in-Ok.marks),
      ap (λ (d : Disk). take 56 d.text) c.in-Ok.ensures.at_rest ∙ take_at c.as_bytes.result.now c.in-Ok.marks 56 size ∙ c.as_bytes.ensures.same,
    )

pub returns-in-Ok-clause-step : goal.returns-in-Ok-clause-step
returns-in-Ok-clause-step g c = kept_call (g.D.Device.history c.args.device) (g.D.Device.history c.load.new.device) c.in-Ok.ensures.kept

pub returns-in-Err-clause-step_err : goal.returns-in-Err-clause-step_err
returns-in-Err-clause-step_err g c = kept_call (g.D.Device.history c.args.device) (g.D.Device.history c.load.new.device) c.in-Err.ensures.kept
