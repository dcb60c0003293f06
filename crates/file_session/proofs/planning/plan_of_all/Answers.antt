use Rattle.std.proofs.Common.{◌≤◌, List, length, map, sym, ap, ◌∙◌, subst}
use Rattle.std.proofs.lemmas.List.{length-map}
use Rattle.std.specs.Vec.{vec_items}
use Rattle.layout.specs.Types.{Digest}
use Rattle.update_cert.specs.Change.{Change, of_table, table_action_of}
use Rattle.update_cert.specs.declared.cert.TheConstants.{MOST_CHANGES}
use Rattle.client_verify.specs.Laid.{are_laid}
use Rattle.file_session.proofs.Tables.{are_declared, need_no_texts, need_nothing_laid}
use Rattle.file_session.proofs.planning.plan_of_all.Goals as goal

pub returns-clause-can_begin : goal.returns-clause-can_begin
returns-clause-can_begin g c =
    let is = c.in_ok-all.ensures in
    let size = ap (λ (cs : List (Change Digest)). length cs) is ∙ length-map c.args.changes.now (λ t. of_table (table_action_of t)) in
    (subst (λ n. n ≤ MOST_CHANGES) (sym size) c.requires, ap (are_laid _) is ∙ need_nothing_laid _ c.args.changes.now)

pub returns-clause-plan : goal.returns-clause-plan
returns-clause-plan g c =
    (c.in_ok-all.ensures ∙ are_declared c.args.changes.now, ap (map vec_items) c.new.ensures.items ∙ sym (need_no_texts c.args.changes.now))
