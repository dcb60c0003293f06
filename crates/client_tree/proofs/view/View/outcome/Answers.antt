use Rattle.std.proofs.Common.{◌≡◌, ◌<◌, ◌++◌, ℕ, List, [], ◌∷◌, length, map, take, sym, ap, subst, ◌∙◌}
use Rattle.std.proofs.lemmas.List.{map-append, take_all}
use Rattle.std.proofs.lemmas.List.Elements.{All-append, All-cons, All-nil}
use Rattle.std.specs.Prelude.{◌⊎◌, slice_index_or}
use Rattle.std.specs.Int.{w8}
use Rattle.std.specs.List.{All}
use Rattle.layout.specs.Laws.{in_range}
use Rattle.layout.specs.Types.{Principal}
use Rattle.principals.specs.Table.{Table}
use Rattle.update_cert.specs.World.{Tree}
use Rattle.update_cert.specs.Reading.{Reading, void_of_read}
use Rattle.update_cert.specs.Cert.{Cert, cert}
use Rattle.tree_parts.specs.Asked.{Lacks}
use Rattle.tree_parts.specs.Blocks.{Blocks}
use Rattle.pending_list.specs.Reply.{PendingItem}
use Rattle.client_tree.specs.Lost.{PartVoids, lost_from}
use Rattle.client_tree.specs.View.{View, actor_of, tree_before, written}
use Rattle.client_tree.specs.Opened.{IsNeeded}
use Rattle.client_tree.specs.Tree.{IsStored, IsUntouched, IsWanted, Stored}
use Rattle.client_tree.proofs.LostLaws.{lost_is_void}
use Rattle.client_tree.proofs.OpenedLaws.{handed_on, take_next, wider}
use Rattle.client_tree.proofs.WrittenLaws.{are_listed, has_item}
use Rattle.client_tree.proofs.view.View.outcome.Goals as goal

pub returns-in_err-written-2-clause-missing : goal.returns-in_err-written-2-clause-missing
returns-in_err-written-2-clause-missing g c =
    let held = g.B.Blocks.held c.args.blocks.now in
    let x = c.args.self.now in
    let e = c.in_err-written-2.field-0.0 in
    let k = c.loop-principal.principal-index in
    let p = c.principal-item.result in
    let principals : c.deref-principal-items.result.now ≡ written x = c.deref-principal-items.ensures.value ∙ c.in_ok-written.ensures in
    let inside : k < length (written x) = rw principals at c.loop-principal-test.true in
    let at : p ≡ slice_index_or (written x) k p = rw principals at c.principal-item.is in
    handed_on c.from_residual-in_err-written-2.result e (Lacks held (IsWanted held x)) c.from_residual-in_err-written-2.ensures.1
    (wider held (IsNeeded held x p) (IsWanted held x) e (λ digest s reached. (p, has_item (written x) k p inside at, reached)) c.in_err-written-2.ensures.missing)

abbrev HasVoids : Reading → Table → PendingItem → Tree → PartVoids → Type 0
HasVoids reads t own tree v = v.numbers ≡ void_of_read reads (actor_of t own) v.principal own.cert.changes tree

abbrev IsKept : Blocks → View → Stored → Type 0
IsKept blocks x s = IsStored blocks x s ⊎ IsUntouched x s

pub loop-principal-preserved : goal.loop-principal-preserved
loop-principal-preserved g c =
    let held = g.B.Blocks.held c.args.blocks.now in
    let x = c.args.self.now in
    let k = c.loop-principal.principal-index in
    let p = c.principal-item.result in
    let inv = c.loop-principal.invariant in
    let done = c.in_ok-written-2.ensures in
    let stored = c.in_ok-written-2.written.stored in
    let voids = c.in_ok-written-2.written.voids in
    let principals : c.deref-principal-items.result.now ≡ written x = c.deref-principal-items.ensures.value ∙ c.in_ok-written.ensures in
    let inside : k < length (written x) = rw principals at c.loop-principal-test.true in
    let at : p ≡ slice_index_or (written x) k p = rw principals at c.principal-item.is in
    let next = take_next (written x) k p inside at in
    record {
      principals = ap (map (λ (s : Stored). s.principal)) c.in_ok-push.ensures.items ∙ map-append (λ (s : Stored). s.principal) c.loop-principal.parts.items (stored ∷ []) ∙ ap (λ (ps : List Principal). ps ++ stored.principal ∷ []) inv.principals ∙ ap (λ (q : Principal). take k (written x) ++ q ∷ []) done.principal ∙ sym next;
      stored = subst (All (IsKept held x)) (sym c.in_ok-push.ensures.items) (All-append (IsKept held x) c.loop-principal.parts.items (stored ∷ []) inv.stored (All-cons (IsKept held x) stored [] done.stored (All-nil (IsKept held x))));
      parts = ap (map (λ (v : PartVoids). v.principal)) c.in_ok-push-2.ensures.items ∙ map-append (λ (v : PartVoids). v.principal) c.loop-principal.of_parts.items (voids ∷ []) ∙ ap (λ (ps : List Principal). ps ++ voids.principal ∷ []) inv.parts ∙ ap (λ (q : Principal). take k (written x) ++ q ∷ []) done.changed ∙ sym next;
      voids = λ reads agrees users.
          let tree = tree_before reads users x in
          let is = done.voids reads agrees users in
          let numbers : HasVoids reads x.table x.own tree voids = ap (λ (v : PartVoids). v.numbers) is ∙ ap (λ (q : ℕ). void_of_read reads (actor_of x.table x.own) q x.own.cert.changes tree) (sym (ap (λ (v : PartVoids). v.principal) is)) in
          subst (All (HasVoids reads x.table x.own tree)) (sym c.in_ok-push-2.ensures.items) (All-append (HasVoids reads x.table x.own tree) c.loop-principal.of_parts.items (voids ∷ []) (inv.voids reads agrees users) (All-cons (HasVoids reads x.table x.own tree) voids [] numbers (All-nil (HasVoids reads x.table x.own tree))));
    }

pub lost_among-requires : goal.lost_among-requires
lost_among-requires g c = record { few = rw (c.changes-changes.ensures, c.cert.ensures.same) (in_range w8 0 16 _ c.cert.ensures.fits.0.0.1.1.1.1.0).1 }

pub returns-clause-outcome : goal.returns-clause-outcome
returns-clause-outcome g c =
    let x = c.args.self.now in
    let inv = c.loop-principal.invariant in
    let principals : c.deref-principal-items.result.now ≡ written x = c.deref-principal-items.ensures.value ∙ c.in_ok-written.ensures in
    let past = rw principals at c.loop-principal-test.false in
    let all : take c.loop-principal.principal-index (written x) ≡ written x = take_all c.loop-principal.principal-index (written x) past in
    record { principals = inv.principals ∙ all; stored = inv.stored }

pub returns-clause-lost : goal.returns-clause-lost
returns-clause-lost g c = λ users is reads agrees.
    let x = c.args.self.now in
    let inv = c.loop-principal.invariant in
    let principals : c.deref-principal-items.result.now ≡ written x = c.deref-principal-items.ensures.value ∙ c.in_ok-written.ensures in
    let past = rw principals at c.loop-principal-test.false in
    let all : take c.loop-principal.principal-index (written x) ≡ written x = take_all c.loop-principal.principal-index (written x) past in
    let own = c.own.result.now in
    let vs = c.loop-principal.of_parts.items in
    let table = c.args.voids.now in
    let cs : c.changes-changes.result.now ≡ x.own.cert.changes = c.changes-changes.ensures ∙ ap (λ (k : Cert). k.changes) c.cert.ensures.same ∙ ap (λ (i : PendingItem). i.cert.changes) c.own.ensures in
    let fits : cert.Fits x.own.cert = subst (λ (i : PendingItem). cert.Fits i.cert) c.own.ensures c.cert.ensures.fits.0.0.1 in
    c.in_ok-lost.ensures ∙ ap (λ (ps : List PartVoids). lost_from 1 ps c.numbers.result.now c.changes-changes.result.now) c.deref.ensures.value ∙ ap (λ (ns : List ℕ). lost_from 1 vs ns c.changes-changes.result.now) c.numbers.ensures ∙ ap (lost_from 1 vs table) cs
    ∙ lost_is_void reads (actor_of x.table x.own) vs table x.own.cert.changes (tree_before reads users x) (inv.voids reads agrees users) (is.void reads) (are_listed x vs fits (inv.parts ∙ all))
