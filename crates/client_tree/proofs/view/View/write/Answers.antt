-- What is missing is told as it was; want of memory says nothing.
use Rattle.std.proofs.Common.{◌≡◌, ℕ, List, [], false, inl, inr, sym, ap, ◌∙◌}
use Rattle.tree_parts.specs.Asked.{Lacks}
use Rattle.tree_parts.specs.declared.error.ApplyError.TheVariants.{Memory}
use Rattle.client_tree.specs.Lost.{PartVoids}
use Rattle.client_tree.specs.Opened.{IsNeeded, is_touched}
use Rattle.client_tree.specs.View.{actor_of, handle_of, tree_before}
use Rattle.client_tree.specs.Tree.{Stored}
use Rattle.client_tree.proofs.OpenedLaws.{handed_on, none_void, own_leaves}
use Rattle.tree_parts.specs.declared.scope.Scope.TheVariants as scopes
use Rattle.client_tree.proofs.view.View.write.Goals as goal

pub returns-in_err-opened-clause-missing : goal.returns-in_err-opened-clause-missing
returns-in_err-opened-clause-missing g c =
    let held = g.B.Blocks.held c.args.blocks.now in
    handed_on c.from_residual-in_err-opened.result c.in_err-opened.field-0.0 (Lacks held (IsNeeded held c.args.self.now c.args.principal)) c.from_residual-in_err-opened.ensures.1 c.in_err-opened.ensures.missing

pub returns-in_err-written-clause-missing : goal.returns-in_err-written-clause-missing
returns-in_err-written-clause-missing g c =
    let held = g.B.Blocks.held c.args.blocks.now in
    handed_on c.from_residual-in_err-written.result Memory (Lacks held (IsNeeded held c.args.self.now c.args.principal)) c.from_residual-in_err-written.ensures.1 tt

pub returns-clause-stored : goal.returns-clause-stored
returns-clause-stored g c = inl (c.in_ok-written.ensures.stored c.args.self.now (sym c.table.ensures) c.in_ok-opened.ensures.opened)

voids_of : (principal : ℕ) (written : PartVoids) (these those : List ℕ) → written ≡ record { principal = principal; numbers = these } → these ≡ those → written ≡ record { principal = principal; numbers = those }
voids_of principal written these those is same = cc

pub returns-clause-voids : goal.returns-clause-voids
returns-clause-voids g c = λ reads agrees users.
    voids_of c.args.principal c.in_ok-written.written.voids c.in_ok-opened.opened.voids _ c.in_ok-written.ensures.voids (c.in_ok-opened.ensures.voids reads agrees users)

-- ---- a part that no operation changes

pub returns-then-not-is_touched-clause-stored : goal.returns-then-not-is_touched-clause-stored
returns-then-not-is_touched-clause-stored g c =
    let x = c.args.self.now in
    let none : is_touched x scopes.All c.args.principal ≡ false = sym c.is_touched.ensures ∙ c.if-not-is_touched.true in
    let is = c.kept_part.ensures.stored in
    let whose = ap (λ (s : Stored). s.principal) is in
    inr (record {
      untouched = ap (is_touched x scopes.All) whose ∙ none;
      named = ap (λ (s : Stored). s.handle) is ∙ c.in_ok-handle.ensures ∙ ap (handle_of x) (sym whose);
      stored = ap (λ (s : Stored). s.texts) is;
    })

pub returns-then-not-is_touched-clause-voids : goal.returns-then-not-is_touched-clause-voids
returns-then-not-is_touched-clause-voids g c = λ reads agrees users.
    let x = c.args.self.now in
    let p = c.args.principal in
    let none : is_touched x scopes.All p ≡ false = sym c.is_touched.ensures ∙ c.if-not-is_touched.true in
    voids_of p c.kept_part.result.voids [] _ c.kept_part.ensures.voids (none_void reads (actor_of x.table x.own) p x.own.cert.changes (tree_before reads users x) (own_leaves x p none))
