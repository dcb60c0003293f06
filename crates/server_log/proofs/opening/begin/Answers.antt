use Rattle.std.proofs.Common.{◌≡◌, List, [], ◌∷◌, subst}
use Rattle.std.proofs.lemmas.Result.{on_ok_weaker}
use Rattle.record_log.specs.Records.{Record, Tells}
use Rattle.server_log.specs.KeptLog.{beginning}
use Rattle.server_log.proofs.Opened.{no_calls, one_added, while_written, with_beginning}
use Rattle.server_log.proofs.opening.begin.Goals as goal

pub returns-in_err-beginning-clause-any_moment : goal.returns-in_err-beginning-clause-any_moment
returns-in_err-beginning-clause-any_moment g c tells = no_calls c.args.pinned.now c.args.log.now.file (c.requires.at_rest tells) (c.requires.empty tells)

pub returns-in_err-push-clause-any_moment : goal.returns-in_err-push-clause-any_moment
returns-in_err-push-clause-any_moment g c tells = no_calls c.args.pinned.now c.args.log.now.file (c.requires.at_rest tells) (c.requires.empty tells)

pub returns-clause-begun : goal.returns-clause-begun
returns-clause-begun g c =
    let added : c.deref.result.now ≡ beginning c.args.pinned.now ∷ [] =
    one_added _ _ _ _ _ c.deref.ensures.value c.in_ok-push.ensures.items c.new-first.ensures.items c.in_ok-beginning.ensures.record in
    on_ok_weaker c.append_all.result (λ told tells. subst (λ (rs : List Record). Tells rs c.append_all.new.self.file.now.text) added (told tells [] (c.requires.empty tells))) c.append_all.ensures.appended

pub returns-clause-any_moment : goal.returns-clause-any_moment
returns-clause-any_moment g c tells =
    let added : c.deref.result.now ≡ beginning c.args.pinned.now ∷ [] =
    one_added _ _ _ _ _ c.deref.ensures.value c.in_ok-push.ensures.items c.new-first.ensures.items c.in_ok-beginning.ensures.record in
    while_written c.args.pinned.now c.deref.result.now c.args.log.now.file c.append_all.new.self.file added (c.append_all.ensures.any_moment tells [] (c.requires.empty tells))

pub returns-clause-reads : goal.returns-clause-reads
returns-clause-reads g c tells =
    let added : c.deref.result.now ≡ beginning c.args.pinned.now ∷ [] =
    one_added _ _ _ _ _ c.deref.ensures.value c.in_ok-push.ensures.items c.new-first.ensures.items c.in_ok-beginning.ensures.record in
    with_beginning c.args.pinned.now c.deref.result.now c.append_all.new.self.file.now.text added (c.append_all.ensures.reads tells [] (c.requires.empty tells))
