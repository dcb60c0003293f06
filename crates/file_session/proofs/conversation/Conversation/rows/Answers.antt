use Rattle.std.proofs.Common.{inl, inr, refl, ap, map, ◌∙◌, arith}
use Rattle.std.proofs.lemmas.List.{take_all}
use Rattle.directory.specs.declared.target.Target.{Target}
use Rattle.commands.specs.Asked.{content_at, kind_of, row_of}
use Rattle.file_session.proofs.Looks.{looked_next, looked_so, quiet}
use Rattle.file_session.proofs.Rows.{lacks_rows, one_row}
use Rattle.file_session.proofs.Runs.{went_none}
use Rattle.file_session.proofs.conversation.Conversation.rows.Goals as goal

pub loop-entry-init : goal.loop-entry-init
loop-entry-init g c = record { looked = quiet _ (went_none _) (λ tree. c.new-rows.ensures.items); phase = refl; view = c.requires }

pub returns-in-Err-add-clause-looked : goal.returns-in-Err-add-clause-looked
returns-in-Err-add-clause-looked g c = inr (lacks_rows (looked_next (λ tree. Unit {0}) c.loop-entry.invariant.looked c.in-Ok.ensures.looked (λ tree p r. tt)))

pub returns-in-Err-clause-looked : goal.returns-in-Err-clause-looked
returns-in-Err-clause-looked g c = inl (looked_next _ c.loop-entry.invariant.looked c.in-Err.ensures.looked (λ tree p r. tt))

pub loop-entry-preserved : goal.loop-entry-preserved
loop-entry-preserved g c =
    let i = c.loop-entry.invariant in
    let e = c.in-Ok.ensures in
    record {
      looked = looked_next _ i.looked e.looked (λ tree before is.
          one_row tree c.args.entries.now c.loop-entry.entry-index c.entry-item.result c.loop-entry.rows.items c.add.new.rows.items c.kind_of.result c.loop-entry-test.true c.entry-item.is before
          (c.kind_of.ensures _ is ∙ ap (λ (t : Target). kind_of (content_at tree t)) c.target-target.ensures) c.in_default.ensures);
      phase = e.phase ∙ i.phase;
      view = e.view;
    }

pub returns-clause-looked : goal.returns-clause-looked
returns-clause-looked g c =
    looked_so _ c.loop-entry.invariant.looked (λ tree is. is ∙ ap (map (row_of tree)) (take_all c.loop-entry.entry-index c.args.entries.now (omega arith)))
