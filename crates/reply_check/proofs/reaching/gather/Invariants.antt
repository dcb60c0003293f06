use Rattle.std.proofs.Common.{◌≡◌, ◌++◌, length, map}
use Rattle.std.specs.List.{All, flat_map}
use Rattle.std.specs.Vec.{vec_items}
use Rattle.std.specs.Vec.Iter.{into_iter_items, into_iter_len}
use Rattle.client_tree.specs.Tree.{Stored}
use Rattle.reply_check.specs.Reached.{IsRaisedIn}
use Rattle.reply_check.specs.Good.{record_over}
use Rattle.reply_check.proofs.reaching.gather.Given as goal

abbrev pub invariant-loop-group : goal.invariant-loop-group
invariant-loop-group g l = record {
  can : (goal.iterator-loop-group g).can_next l.group-iterator;
  ends : (goal.iterator-loop-group g).is_finite l.group-iterator;
  count : into_iter_len l.group-iterator ≡ length (into_iter_items l.group-iterator);
  raised : All (IsRaisedIn l.plan) (into_iter_items l.group-iterator);
  records : l.records.items ++ map (record_over l.plan) (into_iter_items l.group-iterator) ≡ map (record_over l.plan) l.fn.groups.items;
  texts : map vec_items l.texts.items ++ flat_map (λ (s : Stored). s.texts) (into_iter_items l.group-iterator) ≡ l.fn.own.texts ++ flat_map (λ (s : Stored). s.texts) l.fn.groups.items;
}
