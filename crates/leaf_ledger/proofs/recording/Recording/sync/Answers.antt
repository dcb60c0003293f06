use Rattle.std.proofs.Common.{◌∙◌, ap}
use Rattle.leaf_ledger.specs.Device.{synced}
use Rattle.leaf_ledger.proofs.Replays.{sync_history, sync_disk}
use Rattle.leaf_ledger.proofs.recording.Recording.sync.Goals as goal

pub invariant_of-self-2 : goal.invariant_of-self-2
invariant_of-self-2 g c =
    let s = c.self.inside in
    sync_disk s.first.items s.text.items s.synced_text.items s.unsynced.items s.calls.items c.push.new.self.items c.self.invariant c.in_ok-push.ensures.items c.in_ok-synced_text.synced_text.items c.clear.new.self.items (c.in_ok-synced_text.ensures.items ∙ c.deref.ensures.value) c.clear.ensures.items

pub returns-clause-ok : goal.returns-clause-ok
returns-clause-ok g c =
    let s = c.self.inside in
    sync_history s.first.items s.text.items s.synced_text.items s.unsynced.items s.calls.items c.push.new.self.items c.self.invariant c.in_ok-push.ensures.items
    ∙ ap synced c.self.view_is
