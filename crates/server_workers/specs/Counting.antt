-- Which calls are counted: those that were carried out, which the history keeps.
use Rattle.std.specs.Prelude.{ℕ, if◌then◌else◌}
use Rattle.wire.specs.declared.kinds.Status.{Status}
use Rattle.consistency_server.specs.History.{is_carried_out}

abbrev pub count_of : Status → ℕ
count_of s = if is_carried_out s then 1 else 0
