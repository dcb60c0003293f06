use Rattle.std.proofs.Common.{◌≡◌, drop}
use Rattle.std.specs.List.{list_all}
use Rattle.reply_rules.specs.Rules.{record_holds}
use Rattle.reply_rules.proofs.records.records_hold.Given as goal

abbrev pub invariant-loop-structure : goal.invariant-loop-structure
invariant-loop-structure g l =
    list_all (λ z. list_all (record_holds l.table z.value.plan) z.value.groups) (drop l.structure-index l.structures)
    ≡ list_all (λ z. list_all (record_holds l.table z.value.plan) z.value.groups) l.structures
