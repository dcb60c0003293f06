use Rattle.client_releases.specs.declared.parts.Parts.{Parts as Held}
use Rattle.client_steps.specs.Steps.{Device}
use Rattle.client_steps.proofs.Opened.{opens, refuses}
use Rattle.client_steps.proofs.calls.open.Goals as goal

pub returns-clause-opened : goal.returns-clause-opened
returns-clause-opened g c =
    let e = c.open-opened.ensures in
    let journal : Device = record { history = g.J.Device.history c.args.parts.journal; faults = g.J.Device.fault_count c.args.parts.journal } in
    opens g.L.Device.history g.L.Device.fault_count c.args.user c.args.pinned journal c.args.parts.keys.items c.open-opened.result e.state e.whose e.told e.ledgers e.moments e.later

pub returns-clause-refused : goal.returns-clause-refused
returns-clause-refused g c =
    let e = c.open-opened.ensures in
    let journal : Device = record { history = g.J.Device.history c.args.parts.journal; faults = g.J.Device.fault_count c.args.parts.journal } in
    let keys_of = λ (q : Held g.row.L.Denot g.row.J.Denot g.row.A.Denot). q.keys.items in
    let journal_of : Held g.row.L.Denot g.row.J.Denot g.row.A.Denot → Device = λ q. record { history = g.J.Device.history q.journal; faults = g.J.Device.fault_count q.journal } in
    refuses g.L.Device.history g.L.Device.fault_count c.args.user c.args.pinned journal c.args.parts.keys.items keys_of journal_of c.open-opened.result e.moments_err e.foreign e.damaged e.device e.only e.later_err
