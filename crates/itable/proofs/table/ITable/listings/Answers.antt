use Rattle.std.proofs.Common.{◌∙◌, sym, ap, arith}
use Rattle.itable.specs.ITable.{ITable, listing}
use Rattle.itable.proofs.RootLaws.{one_more, none_more, all_listed}
use Rattle.itable.proofs.table.ITable.listings.Goals as goal
use Rattle.itable.proofs.table.ITable.listings.Goals.{in-Some+in_ok-push, in_default}

pub loop-number-preserved : goal.loop-number-preserved
loop-number-preserved g c =
    let t = c.args.self.now in
    let n = c.loop-number.number in
    let old = c.loop-number.chunks.items in
    let so_far = c.loop-number.invariant.so_far in
    let here = c.in_ok-chunk.ensures.listed ∙ ap (λ (u : ITable). listing u c.at.result) c.loop-number.invariant.same ∙ ap (listing t) c.at.ensures in
    record {
      so_far = elim c.match-branch-2.branch [
        | in-Some+in_ok-push w ↦ rw w.chunks-is (one_more (listing t) n old _ w.in-Some.chunk so_far (sym w.in-Some.is ∙ here) w.in_ok-push.ensures.items)
        | in_default w ↦ rw w.chunks-is (none_more (listing t) n old so_far (sym w.in_default.is ∙ here))
      ];
      same = c.in_ok-chunk.ensures.same ∙ c.loop-number.invariant.same;
    }

pub returns-clause-listed : goal.returns-clause-listed
returns-clause-listed g c = all_listed c.args.self.now c.loop-number.number c.loop-number.chunks.items (omega arith) c.loop-number.invariant.so_far
