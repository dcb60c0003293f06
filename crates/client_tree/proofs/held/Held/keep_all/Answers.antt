use Rattle.std.proofs.Common.{◌≡◌, map, length, rules, sym, ap, ◌∙◌, arith}
use Rattle.std.proofs.lemmas.List.{length-map}
use Rattle.std.specs.Vec.{vec_items}
use Rattle.std.specs.Vec.Iter.{into_iter_items}
use Rattle.client_tree.specs.Held.{keeping_all}
use Rattle.client_tree.proofs.HeldLaws.{kept_next, kept_all}
use Rattle.client_tree.proofs.held.Held.keep_all.Goals as goal

pub loop-text-preserved : goal.loop-text-preserved
loop-text-preserved g c =
    let steps = c.in-Some.ensures.steps in
    let was = c.loop-text.invariant in
    let later = into_iter_items c.next.new.self in
    record {
      can = search rules;
      ends = search rules;
      held = c.in_ok-put.ensures.held;
      count = omega (arith, was.count, steps.1, ap length steps.0);
      room = omega (arith, was.room, steps.1, c.in_ok-put.ensures.grows, c.in_ok-put.ensures.room);
      kept = kept_next c.loop-text.self-inside.blocks.items c.put.new.blocks.items (keeping_all c.args.self.now (map vec_items c.args.texts.items)) c.in-Some.text.items (map vec_items later) (map vec_items (into_iter_items c.loop-text.text-iterator)) c.in_ok-put.ensures.kept (ap (map vec_items) steps.0) was.kept;
    }

pub returns-clause-kept : goal.returns-clause-kept
returns-clause-kept g c =
    let left = map vec_items (into_iter_items c.loop-text.text-iterator) in
    let none : length left ≡ 0 = length-map (into_iter_items c.loop-text.text-iterator) vec_items ∙ sym c.loop-text.invariant.count ∙ c.in-None.ensures.steps.0 in
    kept_all c.loop-text.self-inside.blocks.items (keeping_all c.args.self.now (map vec_items c.args.texts.items)) left none c.loop-text.invariant.kept
