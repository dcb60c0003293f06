use Rattle.std.proofs.Common.{◌-◌, ◌≡◌, ◌≤◌, take, drop}
use Rattle.client_journal.proofs.turn.same_part.Given as goal

abbrev pub invariant-loop-done : goal.invariant-loop-done
invariant-loop-done g l =
    let file = (g.D.Device.history l.initial.device).now.text in
    record {
      same : g.D.Device.history l.device ≡ g.D.Device.history l.initial.device;
      later : g.D.Device.fault_count l.initial.device ≤ g.D.Device.fault_count l.device;
      within : l.done ≤ l.size;
      so_far : take l.done (drop l.a file) ≡ take l.done (drop l.b file);
    }

abbrev pub decreases-loop-done : goal.decreases-loop-done
decreases-loop-done g l = l.size - l.done
