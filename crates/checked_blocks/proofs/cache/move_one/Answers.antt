use Rattle.std.proofs.Common.{refl, sym}
use Rattle.checked_blocks.proofs.MoveLaws.{moved_last, moved_none}
use Rattle.checked_blocks.proofs.cache.move_one.Goals as goal

pub returns-in-Some-clause-moved : goal.returns-in-Some-clause-moved
returns-in-Some-clause-moved g c =
    moved_last c.args.held.now.entries c.args.cache.now.entries c.push.new.held.entries c.pop_entry.new.self.entries c.args.digest _
    (sym c.in-Some.ensures.value) (rw c.pop_entry.ensures.entries refl) c.push.ensures.held

pub returns-in-None-clause-moved : goal.returns-in-None-clause-moved
returns-in-None-clause-moved g c =
    moved_none c.args.held.now.entries c.args.cache.now.entries c.pop_entry.new.self.entries c.args.digest (sym c.in-None.ensures.value) (rw c.pop_entry.ensures.entries refl)
