use Rattle.std.proofs.Common.{◌++◌, ◌∷◌, [], length, map, ap, subst, ◌∙◌, rules, arith}
use Rattle.std.proofs.lemmas.List.{map-append}
use Rattle.std.proofs.lemmas.List.Elements.{All-head, All-tail}
use Rattle.std.specs.List.{All, flat_map}
use Rattle.std.specs.Vec.{vec_items}
use Rattle.std.specs.Vec.Iter.{into_iter_items}
use Rattle.version_order.specs.declared.structure.GroupRecord.{GroupRecord}
use Rattle.client_tree.specs.Tree.{Stored}
use Rattle.reply_check.specs.Reached.{IsRaisedIn}
use Rattle.reply_check.specs.Good.{record_over}
use Rattle.reply_check.proofs.ReachedLaws.{records_next, texts_next}
use Rattle.reply_check.proofs.reaching.gather.Goals as goal

pub loop-group-preserved : goal.loop-group-preserved
loop-group-preserved g c =
    let plan = c.args.plan.now in
    let steps = c.in-Some.ensures.steps in
    let was = c.loop-group.invariant in
    let left = into_iter_items c.loop-group.group-iterator in
    let later = into_iter_items c.next.new.self in
    let group = c.in-Some.group in
    let all : All (IsRaisedIn plan) (group ∷ later) = subst (All (IsRaisedIn plan)) steps.0 was.raised in
    record {
      can = search rules;
      ends = search rules;
      count = omega (arith, was.count, steps.1, ap length steps.0);
      raised = All-tail (IsRaisedIn plan) group later all;
      records = records_next (record_over plan) c.loop-group.records.items c.push.new.self.items (map (record_over plan) c.args.groups.items) group left later
          (c.in_ok-push.ensures.items ∙ ap (λ (r : GroupRecord). c.loop-group.records.items ++ r ∷ []) c.record_over.ensures) steps.0 was.records;
      texts = texts_next (λ (s : Stored). s.texts) (map vec_items c.loop-group.texts.items) (map vec_items c.append.new.self.items) (c.args.own.texts ++ flat_map (λ (s : Stored). s.texts) c.args.groups.items) group left later
          (ap (map vec_items) c.in_ok-append.ensures.items ∙ map-append vec_items c.loop-group.texts.items _ ∙ ap (λ (s : Stored). map vec_items c.loop-group.texts.items ++ s.texts) c.group.view_is) steps.0 was.texts;
    }

pub record_over-requires-clause-low : goal.record_over-requires-clause-low
record_over-requires-clause-low g c = (All-head (IsRaisedIn c.args.plan.now) c.in-Some.group (into_iter_items c.next.new.self) (subst (All (IsRaisedIn c.args.plan.now)) c.in-Some.ensures.steps.0 c.loop-group.invariant.raised)).0

pub record_over-requires-clause-high : goal.record_over-requires-clause-high
record_over-requires-clause-high g c = (All-head (IsRaisedIn c.args.plan.now) c.in-Some.group (into_iter_items c.next.new.self) (subst (All (IsRaisedIn c.args.plan.now)) c.in-Some.ensures.steps.0 c.loop-group.invariant.raised)).1

pub record_over-requires-clause-raised : goal.record_over-requires-clause-raised
record_over-requires-clause-raised g c = (All-head (IsRaisedIn c.args.plan.now) c.in-Some.group (into_iter_items c.next.new.self) (subst (All (IsRaisedIn c.args.plan.now)) c.in-Some.ensures.steps.0 c.loop-group.invariant.raised)).2
