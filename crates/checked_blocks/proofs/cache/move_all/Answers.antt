use Rattle.std.proofs.Common.{rules, arith, refl, ap, ◌∙◌, length}
use Rattle.checked_blocks.proofs.MoveLaws.{moved_more, moved_same}
use Rattle.checked_blocks.proofs.cache.move_all.Goals as goal

pub loop-digest-init : goal.loop-digest-init
loop-digest-init g c = record {
  can = search rules;
  ends = search rules;
  moved = moved_same c.args.held.now.entries c.args.cache.now.entries;
  cap = refl;
  room = search rules;
}

pub move_one-requires : goal.move_one-requires
move_one-requires g c = let few = ap length c.in-Some.ensures.steps.0 in omega (arith, few, c.loop-digest.invariant.room)

pub loop-digest-preserved : goal.loop-digest-preserved
loop-digest-preserved g c =
    let was = c.loop-digest.invariant in
    let few = ap length c.in-Some.ensures.steps.0 in
    record {
      can = search rules;
      ends = search rules;
      moved = moved_more c.args.held.now.entries c.args.cache.now.entries c.loop-digest.held.entries c.loop-digest.cache.entries c.move_one.new.held.entries c.move_one.new.cache.entries was.moved c.move_one.ensures.moved;
      cap = c.move_one.ensures.capacity ∙ was.cap;
      room = omega (arith, few, was.room, c.move_one.ensures.room);
    }
