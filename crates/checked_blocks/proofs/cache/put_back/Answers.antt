use Rattle.std.proofs.Common.{rules}
use Rattle.checked_blocks.proofs.MoveLaws.{all_put, left_next, left_none}
use Rattle.checked_blocks.proofs.cache.put_back.Goals as goal

pub loop-block-preserved : goal.loop-block-preserved
loop-block-preserved g c =
    let was = c.loop-block.invariant in
    record {
      can = search rules;
      ends = search rules;
      left = left_next c.args.cache.now.cap c.args.held.entries c.args.cache.now.entries c.loop-block.block-iterator c.next.new.self c.in-Some.block c.loop-block.cache.entries c.put.new.cache.entries was.left c.in-Some.ensures.steps (rw was.cap at c.put.ensures.put);
      cap = search rules;
    }

pub returns-clause-put : goal.returns-clause-put
returns-clause-put g c =
    all_put c.args.cache.now.cap c.args.held.entries c.args.cache.now.entries c.loop-block.block-iterator c.loop-block.cache.entries c.loop-block.invariant.left c.in-None.ensures.steps.0

pub returns-clause-part : goal.returns-clause-part
returns-clause-part g c =
    left_none c.args.cache.now.cap c.args.held.entries c.args.cache.now.entries c.loop-block.block-iterator c.loop-block.cache.entries c.loop-block.invariant.left c.in-None.ensures.steps.0
