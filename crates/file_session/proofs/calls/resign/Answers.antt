use Rattle.std.proofs.Common.{ap, ◌∙◌}
use Rattle.std.proofs.lemmas.Result.{on_ok_weaker}
use Rattle.std.specs.Vec.{vec_items}
use Rattle.client_verify.specs.State.{State}
use Rattle.client_steps.specs.Anywhere.{on_ok}
use Rattle.client_steps.specs.Steps.{HasResigned}
use Rattle.client_steps.proofs.Answered.{resigned_by}
use Rattle.file_session.specs.Calls.{Resigns}
use Rattle.file_session.proofs.Steps.{leads, resign_secrets, resign_unfinished}
use Rattle.file_session.proofs.Tries.{others_stay}
use Rattle.file_session.proofs.calls.resign.Goals as goal

pub returns : goal.returns
returns g c =
    let e = c.resign-text.ensures in
    let after = c.type_invariant.ensures in
    let s = c.args.client.now in
    let new = c.resign-text.new.self in
    let answer = on_ok vec_items c.resign-text.result in
    let h : HasResigned s c.args.key answer new =
    resigned_by s new c.args.key c.resign-text.result c.requires.declared c.requires.key e.resigned e.text e.any_moment e.tried e.no_leaf e.rose e.others e.fails e.only e.err in
    record {
      leads = leads s (Resigns c.args.key answer) new h (after.released, after.replies) tt tt;
      declared = on_ok_weaker c.resign-text.result (λ k. ap (λ (t : State). t.phase) k.2 ∙ c.requires.declared) e.resigned;
      text = e.text;
      unfinished = resign_unfinished s new c.args.key answer h;
      secrets = resign_secrets s new c.args.key answer h;
      others = others_stay c.args.key s new e.others;
    }
