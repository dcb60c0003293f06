use Rattle.std.proofs.Common.{rules, ◌≡◌, ◌+◌, ◌∷◌, [], ◌++◌, ℕ, List, length, take, ◌∙◌, ap, arith}
use Rattle.leaf_ledger.specs.Device.{History, at_rest, written}
use Rattle.client_journal.specs.Records.{Record, spelled}
use Rattle.client_journal.proofs.Fronts.{start, failed, failed_read, ends, unsynced, first, second, third, all_written}
use Rattle.client_journal.proofs.staging.stage.Goals as goal

pub returns-in_err-write_at-clause-any_moment : goal.returns-in_err-write_at-clause-any_moment
returns-in_err-write_at-clause-any_moment g c =
    let old = g.D.Device.history c.args.device.now in
    let at = c.args.at in
    failed at old.now.text old c.requires.at_rest c.requires.inside old (start at old.now.text old c.requires.at_rest c.requires.inside) at (length c.header.result) (omega arith)
    (g.D.Device.history c.write_at.new.self) c.in_err-write_at.ensures.err

pub returns-in_err-write_at-clause-reads : goal.returns-in_err-write_at-clause-reads
returns-in_err-write_at-clause-reads g c =
    let old = g.D.Device.history c.args.device.now in
    let at = c.args.at in
    failed_read at old.now.text old c.requires.at_rest c.requires.inside old (start at old.now.text old c.requires.at_rest c.requires.inside) at (length c.header.result) (omega arith)
    (g.D.Device.history c.write_at.new.self) c.in_err-write_at.ensures.err

pub returns-in_err-write_at-2-clause-any_moment : goal.returns-in_err-write_at-2-clause-any_moment
returns-in_err-write_at-2-clause-any_moment g c =
    let old = g.D.Device.history c.args.device.now in
    let at = c.args.at in
    let text = c.added.inside.text.now in
    let five : length c.header.result ≡ 5 = search rules in
    let h1 = g.D.Device.history c.write_at.new.self in
    let run = first at old c.header.result text (0 ∷ []) c.requires.at_rest c.requires.inside five h1 c.in_ok-write_at.ensures.ok in
    failed at old.now.text old c.requires.at_rest c.requires.inside h1 run (at + 5) (length text) (omega arith) (g.D.Device.history c.write_at-2.new.self) c.in_err-write_at-2.ensures.err

pub returns-in_err-write_at-2-clause-reads : goal.returns-in_err-write_at-2-clause-reads
returns-in_err-write_at-2-clause-reads g c =
    let old = g.D.Device.history c.args.device.now in
    let at = c.args.at in
    let text = c.added.inside.text.now in
    let five : length c.header.result ≡ 5 = search rules in
    let h1 = g.D.Device.history c.write_at.new.self in
    let run = first at old c.header.result text (0 ∷ []) c.requires.at_rest c.requires.inside five h1 c.in_ok-write_at.ensures.ok in
    failed_read at old.now.text old c.requires.at_rest c.requires.inside h1 run (at + 5) (length text) (omega arith) (g.D.Device.history c.write_at-2.new.self) c.in_err-write_at-2.ensures.err

pub returns-in_err-write_at-3-clause-any_moment : goal.returns-in_err-write_at-3-clause-any_moment
returns-in_err-write_at-3-clause-any_moment g c =
    let old = g.D.Device.history c.args.device.now in
    let at = c.args.at in
    let text = c.added.inside.text.now in
    let five : length c.header.result ≡ 5 = search rules in
    let h1 = g.D.Device.history c.write_at.new.self in
    let h2 = g.D.Device.history c.write_at-2.new.self in
    let run = second at old c.header.result text (0 ∷ []) c.requires.at_rest c.requires.inside five h1 c.in_ok-write_at.ensures.ok h2 c.in_ok-write_at-2.ensures.ok in
    failed at old.now.text old c.requires.at_rest c.requires.inside h2 run (at + 5 + length text) 1 (omega arith) (g.D.Device.history c.write_at-3.new.self) c.in_err-write_at-3.ensures.err

pub returns-in_err-write_at-3-clause-reads : goal.returns-in_err-write_at-3-clause-reads
returns-in_err-write_at-3-clause-reads g c =
    let old = g.D.Device.history c.args.device.now in
    let at = c.args.at in
    let text = c.added.inside.text.now in
    let five : length c.header.result ≡ 5 = search rules in
    let h1 = g.D.Device.history c.write_at.new.self in
    let h2 = g.D.Device.history c.write_at-2.new.self in
    let run = second at old c.header.result text (0 ∷ []) c.requires.at_rest c.requires.inside five h1 c.in_ok-write_at.ensures.ok h2 c.in_ok-write_at-2.ensures.ok in
    failed_read at old.now.text old c.requires.at_rest c.requires.inside h2 run (at + 5 + length text) 1 (omega arith) (g.D.Device.history c.write_at-3.new.self) c.in_err-write_at-3.ensures.err

pub returns-in_err-sync-clause-any_moment : goal.returns-in_err-sync-clause-any_moment
returns-in_err-sync-clause-any_moment g c =
    let old = g.D.Device.history c.args.device.now in
    let at = c.args.at in
    let text = c.added.inside.text.now in
    let five : length c.header.result ≡ 5 = search rules in
    let h1 = g.D.Device.history c.write_at.new.self in
    let h2 = g.D.Device.history c.write_at-2.new.self in
    let h3 = g.D.Device.history c.write_at-3.new.self in
    let run = third at old c.header.result text (0 ∷ []) c.requires.at_rest c.requires.inside five h1 c.in_ok-write_at.ensures.ok h2 c.in_ok-write_at-2.ensures.ok h3 c.in_ok-write_at-3.ensures.ok in
    unsynced at old.now.text old c.requires.at_rest c.requires.inside h3 run (g.D.Device.history c.sync.new.self) c.in_err-sync.ensures.err

pub returns-in_err-sync-clause-reads : goal.returns-in_err-sync-clause-reads
returns-in_err-sync-clause-reads g c =
    let old = g.D.Device.history c.args.device.now in
    let at = c.args.at in
    let text = c.added.inside.text.now in
    let five : length c.header.result ≡ 5 = search rules in
    let h1 = g.D.Device.history c.write_at.new.self in
    let h2 = g.D.Device.history c.write_at-2.new.self in
    let h3 = g.D.Device.history c.write_at-3.new.self in
    let run = third at old c.header.result text (0 ∷ []) c.requires.at_rest c.requires.inside five h1 c.in_ok-write_at.ensures.ok h2 c.in_ok-write_at-2.ensures.ok h3 c.in_ok-write_at-3.ensures.ok in
    ap (λ (h : History). take at h.now.text) c.in_err-sync.ensures.err ∙ run.front

pub returns-clause-any_moment : goal.returns-clause-any_moment
returns-clause-any_moment g c =
    let old = g.D.Device.history c.args.device.now in
    let at = c.args.at in
    let text = c.added.inside.text.now in
    let five : length c.header.result ≡ 5 = search rules in
    let h1 = g.D.Device.history c.write_at.new.self in
    let h2 = g.D.Device.history c.write_at-2.new.self in
    let h3 = g.D.Device.history c.write_at-3.new.self in
    let run = third at old c.header.result text (0 ∷ []) c.requires.at_rest c.requires.inside five h1 c.in_ok-write_at.ensures.ok h2 c.in_ok-write_at-2.ensures.ok h3 c.in_ok-write_at-3.ensures.ok in
    ends at old.now.text old c.requires.at_rest c.requires.inside h3 run (g.D.Device.history c.sync.new.self) c.in_ok-sync.ensures.ok

pub returns-clause-reads : goal.returns-clause-reads
returns-clause-reads g c =
    let old = g.D.Device.history c.args.device.now in
    let at = c.args.at in
    let text = c.added.inside.text.now in
    let five : length c.header.result ≡ 5 = search rules in
    let h1 = g.D.Device.history c.write_at.new.self in
    let h2 = g.D.Device.history c.write_at-2.new.self in
    let h3 = g.D.Device.history c.write_at-3.new.self in
    let run = third at old c.header.result text (0 ∷ []) c.requires.at_rest c.requires.inside five h1 c.in_ok-write_at.ensures.ok h2 c.in_ok-write_at-2.ensures.ok h3 c.in_ok-write_at-3.ensures.ok in
    ap (λ (h : History). take at h.now.text) c.in_ok-sync.ensures.ok ∙ run.front

pub returns-clause-ok : goal.returns-clause-ok
returns-clause-ok g c =
    let old = g.D.Device.history c.args.device.now in
    let at = c.args.at in
    let text = c.added.inside.text.now in
    let five : length c.header.result ≡ 5 = search rules in
    let h1 = g.D.Device.history c.write_at.new.self in
    let h2 = g.D.Device.history c.write_at-2.new.self in
    let h3 = g.D.Device.history c.write_at-3.new.self in
    let all = all_written at old c.header.result text (0 ∷ []) c.requires.at_rest c.requires.inside five h1 c.in_ok-write_at.ensures.ok h2 c.in_ok-write_at-2.ensures.ok h3 c.in_ok-write_at-3.ensures.ok in
    ap (λ (h : History). h.now) c.in_ok-sync.ensures.ok
    ∙ ap at_rest (all
    ∙ ap (λ (h : List ℕ). written at (h ++ text ++ 0 ∷ []) old.now.text) c.header.ensures
    ∙ ap (λ (r : Record). written at (spelled r ++ 0 ∷ []) old.now.text) c.added.view_is)
