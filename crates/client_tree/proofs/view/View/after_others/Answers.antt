use Rattle.std.proofs.Common.{◌≡◌, ◌<◌, ◌+◌, ◌++◌, List, [], ◌∷◌, length, take, drop, true, false, sym, subst, ◌∙◌}
use Rattle.std.proofs.lemmas.List.{take_all}
use Rattle.std.specs.Prelude.{filter, slice_index_or}
use Rattle.principals.specs.Table.{Table}
use Rattle.tree_parts.specs.Asked.{HasAskedFor, IsAskedFor, Lacks}
use Rattle.pending_list.specs.Reply.{PendingItem}
use Rattle.client_tree.specs.View.{actor_of, comes_after, handle_of}
use Rattle.client_tree.specs.Opened.{HasAskedByItems, IsOpening, IsPartAfter}
use Rattle.client_tree.proofs.OpenedLaws.{asked_next, filter_next, handed_on, in_turn, none_asked, of_item}
use Rattle.client_tree.proofs.view.View.after_others.Goals.{then-comes_after+in_ok-made, else-comes_after}
use Rattle.client_tree.proofs.view.View.after_others.Goals as goal

pub loop-item-init : goal.loop-item-init
loop-item-init g c = record {
  after = c.requires.first;
  read = c.requires.read;
  taken = none_asked (g.B.Blocks.held c.args.blocks.now) c.args.scope.now c.args.self.now.table c.args.principal (handle_of c.args.self.now c.args.principal);
}

pub returns-in_err-made-clause-missing : goal.returns-in_err-made-clause-missing
returns-in_err-made-clause-missing g c =
    let held = g.B.Blocks.held c.args.blocks.now in
    let x = c.args.self.now in
    let p = c.args.principal in
    let k = c.loop-item.item-index in
    let item = c.item-item.result in
    let inside : k < length x.others = rw c.others-item-items.ensures at c.loop-item-test.true in
    let at : item ≡ slice_index_or x.others k item = rw c.others-item-items.ensures at c.item-item.is in
    let comes : comes_after x p item ≡ true = sym c.comes_after.ensures ∙ c.if-comes_after.true in
    let turn = in_turn (comes_after x p) x.others k item x.own inside at comes in
    handed_on c.from_residual.result c.in_err-made.field-0.0 (Lacks held (IsOpening held x c.args.scope.now p)) c.from_residual.ensures.1
    (of_item held x c.args.scope.now p c.loop-item.after (filter (comes_after x p) (take k x.others)) (filter (comes_after x p) (drop (k + 1) x.others) ++ x.own ∷ []) item c.in_err-made.field-0.0 turn c.loop-item.invariant.after
    (subst (λ (t : Table). Lacks held (IsAskedFor held c.args.scope.now (actor_of t item) item.cert.changes c.loop-item.after) c.in_err-made.field-0.0) c.table.ensures c.in_err-made.ensures.missing))

pub loop-item-preserved : goal.loop-item-preserved
loop-item-preserved g c =
    let held = g.B.Blocks.held c.args.blocks.now in
    let x = c.args.self.now in
    let p = c.args.principal in
    let k = c.loop-item.item-index in
    let item = c.item-item.result in
    let inv = c.loop-item.invariant in
    let h = handle_of x p in
    let done = filter (comes_after x p) (take k x.others) in
    let inside : k < length x.others = rw c.others-item-items.ensures at c.loop-item-test.true in
    let at : item ≡ slice_index_or x.others k item = rw c.others-item-items.ensures at c.item-item.is in
    elim c.if-comes_after.branch [
      | then-comes_after+in_ok-made w ↦
          let comes : comes_after x p item ≡ true = sym c.comes_after.ensures ∙ w.if-comes_after.true in
          let next : filter (comes_after x p) (take (k + 1) x.others) ≡ done ++ item ∷ [] = filter_next (comes_after x p) x.others k item true inside at comes in
          rw (next, w.after-is) (record {
            after = subst (λ (t : Table). IsPartAfter held c.args.scope.now t (done ++ item ∷ []) p h w.in_ok-made.made.part) w.table.ensures (w.in_ok-made.ensures.after p h done (subst (λ (t : Table). IsPartAfter held c.args.scope.now t done p h c.loop-item.after) (sym w.table.ensures) inv.after));
            read = w.in_ok-made.ensures.read;
            taken = asked_next held c.args.scope.now x.table done item p h c.loop-item.after inv.after (subst (λ (t : Table). HasAskedFor held c.args.scope.now (actor_of t item) item.cert.changes c.loop-item.after) w.table.ensures w.in_ok-made.ensures.taken) inv.taken;
          })
      | else-comes_after w ↦
          let stays : comes_after x p item ≡ false = sym c.comes_after.ensures ∙ w.if-comes_after.false in
          let next : filter (comes_after x p) (take (k + 1) x.others) ≡ done = filter_next (comes_after x p) x.others k item false inside at stays in
          rw (next, w.after-is) inv
    ]

pub returns-clause-taken : goal.returns-clause-taken
returns-clause-taken g c =
    let x = c.args.self.now in
    let past = rw c.others-item-items.ensures at c.loop-item-test.false in
    let all : take c.loop-item.item-index x.others ≡ x.others = take_all c.loop-item.item-index x.others past in
    subst (λ (xs : List PendingItem). HasAskedByItems (g.B.Blocks.held c.args.blocks.now) c.args.scope.now x.table (filter (comes_after x c.args.principal) xs) c.args.principal (handle_of x c.args.principal)) all c.loop-item.invariant.taken

pub returns-clause-after : goal.returns-clause-after
returns-clause-after g c =
    let x = c.args.self.now in
    let past = rw c.others-item-items.ensures at c.loop-item-test.false in
    let all : take c.loop-item.item-index x.others ≡ x.others = take_all c.loop-item.item-index x.others past in
    subst (λ (xs : List PendingItem). IsPartAfter (g.B.Blocks.held c.args.blocks.now) c.args.scope.now x.table (filter (comes_after x c.args.principal) xs) c.args.principal (handle_of x c.args.principal) c.loop-item.after) all c.loop-item.invariant.after

pub returns-clause-read : goal.returns-clause-read
returns-clause-read g c = c.loop-item.invariant.read

pub apply_item-requires : goal.apply_item-requires
apply_item-requires g c = record { read = c.loop-item.invariant.read }
