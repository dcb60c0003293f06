use Rattle.itable.proofs.Runs.{ends_after, run_of_chunk}
use Rattle.itable.proofs.pairs.places_of.Goals as goal

pub returns : goal.returns
returns c =
    let low = rw c.get-number.ensures.same at c.count_below-start.ensures.below in
    let above_low = rw c.get-number.ensures.same at c.count_below-start.ensures.from in
    let high = rw c.get-number.ensures.same at c.count_below-end.ensures.below in
    let above_high = rw c.get-number.ensures.same at c.count_below-end.ensures.from in
    let in_order = ends_after c.args.pairs.now c.args.number _ _ low above_low high above_high c.count_below-start.ensures.inside in
    record {
      order = in_order;
      inside = c.count_below-end.ensures.inside;
      pairs = run_of_chunk c.args.pairs.now c.args.number _ _ low above_low high above_high in_order c.count_below-end.ensures.inside;
    }
