use Rattle.std.proofs.Common.{◌≡◌, ◌<◌, ◌+◌, ◌++◌, List, [], ◌∷◌, Some, length, take, true, false, sym, ap, subst, rules}
use Rattle.std.proofs.lemmas.List.{take_all}
use Rattle.std.specs.Prelude.{filter, slice_index_or}
use Rattle.update_cert.specs.Cert.{Cert}
use Rattle.update_cert.specs.World.{Principals}
use Rattle.update_cert.specs.Reading.{after_read}
use Rattle.pending_list.specs.Reply.{PendingItem}
use Rattle.client_tree.specs.View.{actor_of, after_items, is_superusers}
use Rattle.client_tree.proofs.OpenedLaws.{filter_next, tree_after}
use Rattle.client_tree.proofs.named.after_others.Goals.{then-eq+in_ok-_voids, else-eq}
use Rattle.client_tree.proofs.named.after_others.Goals as goal

pub loop-item-init : goal.loop-item-init
unfolding after_items
loop-item-init g c = λ reads t tree is. is

pub loop-item-preserved : goal.loop-item-preserved
loop-item-preserved g c = λ reads t tree is.
    let others = c.args.others.now in
    let k = c.loop-item.item-index in
    let item = c.item-item.result in
    let done = filter is_superusers (take k others) in
    let inside : k < length others = c.loop-item-test.true in
    let at : item ≡ slice_index_or others k item = c.item-item.is in
    let so_far = c.loop-item.invariant reads t tree is in
    elim c.if-eq.branch [
      | then-eq+in_ok-_voids w ↦
          let comes : is_superusers item ≡ true = search rules in
          let next : filter is_superusers (take (k + 1) others) ≡ done ++ item ∷ [] = filter_next is_superusers others k item true inside at comes in
          let cert : w.cert-then-eq.result.now ≡ item.cert = w.cert-then-eq.ensures.same in
          let user : (actor_of t item).user ≡ w.cert-then-eq.result.now.user = ap (λ (x : Cert). x.user) (sym cert) in
          let number : (actor_of t item).number ≡ w.cert-then-eq.result.now.number = ap (λ (x : Cert). x.number) (sym cert) in
          let after = w.in_ok-_voids.ensures.table reads (after_items reads t done tree) (actor_of t item) so_far user number in
          rw (next, w.table-is, tree_after reads t done item tree)
          (subst (λ (x : Cert). after_read reads (actor_of t item) x.changes (after_items reads t done tree) 0 1 ≡ Some (Principals w.apply_table.new.table)) cert after)
      | else-eq w ↦
          let stays : is_superusers item ≡ false = search rules in
          let next : filter is_superusers (take (k + 1) others) ≡ done = filter_next is_superusers others k item false inside at stays in
          rw (next, w.table-is) so_far
    ]

pub returns : goal.returns
returns g c = λ reads t tree is.
    let past = c.loop-item-test.false in
    let all : take c.loop-item.item-index c.args.others.now ≡ c.args.others.now = take_all c.loop-item.item-index c.args.others.now past in
    subst (λ (xs : List PendingItem). after_items reads t (filter is_superusers xs) tree 0 1 ≡ Some (Principals c.loop-item.table)) all (c.loop-item.invariant reads t tree is)
