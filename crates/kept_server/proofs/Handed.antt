-- A log that is handed back has a beginning of what the order leaves in it.
use Rattle.std.proofs.Common.{◌≡◌, List, ◌++◌, Option, Some, None, IfSome, sym, ap, ◌∙◌, append_assoc}
use mathlib.Core.List.{IsPrefix}
use Rattle.layout.specs.Types.{Key}
use Rattle.leaf_ledger.specs.Device.{History}
use Rattle.record_log.specs.Records.{LogFile}
use Rattle.consistency_server.specs.Answers.{Call}
use Rattle.consistency_server.specs.History.{Ordered, log_of}
use Rattle.kept_server.specs.Kept.{IsKept, KeepsOrder}

keeps : (start : History) (pinned : Key) (told events all : List Call) (log : LogFile) (order : Ordered) → IsKept start log events → IsPrefix events all → log_of pinned order.history ≡ told ++ all
    → order.pinned ≡ pinned → KeepsOrder start told log order
keeps start pinned told events all log order kept more leaves same =
    record {
      events = events;
      kept = kept;
      beginning = (more.0, append_assoc told events more.0 ∙ ap (λ l. told ++ l) more.1 ∙ sym leaves ∙ ap (λ (k : Key). log_of k order.history) (sym same));
    }

pub handed : {X : Type 0} (o : Option X) (log : X → LogFile) (T : Type 0) (start : History) (pinned : Key) (told events all : List Call) (order : Ordered) → IfSome o (λ x. T → IsKept start (log x) events)
    → IfSome o (λ _. IsPrefix events all) → log_of pinned order.history ≡ told ++ all → order.pinned ≡ pinned → IfSome o (λ x. T → KeepsOrder start told (log x) order)
handed None log T start pinned told events all order kept more leaves same = tt
handed (Some x) log T start pinned told events all order kept more leaves same = λ tells. keeps start pinned told events all (log x) order (kept tells) more leaves same
