use Rattle.std.proofs.Common.{◌≡◌, drop}
use Rattle.std.specs.List.{list_all}
use Rattle.client_verify.specs.Laid.{is_laid}
use Rattle.client_verify.proofs.laid.all_laid.Given as goal

abbrev pub invariant-loop-change : goal.invariant-loop-change
invariant-loop-change g l =
    list_all (λ c. is_laid l.laid c.action) (drop l.change-index l.changes) ≡ list_all (λ c. is_laid l.laid c.action) l.changes
