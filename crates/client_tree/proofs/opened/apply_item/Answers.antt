use Rattle.std.proofs.Common.{◌≡◌, ℕ, ap, sym, subst, ◌∙◌}
use Rattle.std.specs.Prelude.{IfErr, IfOk, OnOk}
use Rattle.update_cert.specs.Cert.{Cert}
use Rattle.update_cert.specs.Reading.{void_of_read}
use Rattle.tree_parts.specs.Part.{slot_at}
use Rattle.tree_parts.specs.Asked.{HasAskedFor, IsAskedFor, Lacks, slot_within}
use Rattle.tree_parts.specs.declared.applying.Applied.{Applied}
use Rattle.client_tree.specs.View.{actor_of, acts_for}
use Rattle.client_tree.proofs.OpenedLaws.{all_after}
use Rattle.client_tree.proofs.opened.apply_item.Goals as goal

pub returns-clause-voids : goal.returns-clause-voids
returns-clause-voids g c = λ reads agrees tree all is.
    let t = c.args.table.now in
    let item = c.args.item.now in
    let user : item.cert.user ≡ c.cert.result.now.user = ap (λ (x : Cert). x.user) (sym c.cert.ensures.same) in
    let one : acts_for t item c.args.part.table.principal ≡ c.acts_for-is_member.result = ap (acts_for t item) (sym c.principal.ensures.same) ∙ sym c.acts_for-is_member.ensures in
    subst (λ (x : Cert). IfOk c.apply_within.result (λ made. made.voids ≡ void_of_read reads (actor_of t item) c.args.part.table.principal x.changes tree)) c.cert.ensures.same
    (c.apply_within.ensures.voids reads agrees tree (actor_of t item) all is user one)

pub returns-clause-after : goal.returns-clause-after
returns-clause-after g c = λ p h items is.
    let t = c.args.table.now in
    let item = c.args.item.now in
    let part = c.args.part in
    let user : item.cert.user ≡ c.cert.result.now.user = ap (λ (x : Cert). x.user) (sym c.cert.ensures.same) in
    let one : acts_for t item part.table.principal ≡ c.acts_for-is_member.result = ap (acts_for t item) (sym c.principal.ensures.same) ∙ sym c.acts_for-is_member.ensures in
    all_after (λ (made : Applied _). made.part) (g.B.Blocks.held c.args.blocks.now) c.args.scope.now t items p h part item c.apply_within.result is c.apply_within.ensures.principal c.apply_within.ensures.handle
    (λ reads agrees. subst (λ (x : Cert). IfOk c.apply_within.result (λ made. (i : ℕ) → slot_at reads made.part i ≡ slot_within c.args.scope.now reads (actor_of t item) part.table.principal i x.changes (slot_at reads part i))) c.cert.ensures.same
    (c.apply_within.ensures.slots reads agrees (actor_of t item) user one))

pub returns-clause-taken : goal.returns-clause-taken
returns-clause-taken g c =
    let t = c.args.table.now in
    let item = c.args.item.now in
    let part = c.args.part in
    let user : item.cert.user ≡ c.cert.result.now.user = ap (λ (x : Cert). x.user) (sym c.cert.ensures.same) in
    let one : acts_for t item part.table.principal ≡ c.acts_for-is_member.result = ap (acts_for t item) (sym c.principal.ensures.same) ∙ sym c.acts_for-is_member.ensures in
    subst (λ (x : Cert). OnOk c.apply_within.result (HasAskedFor (g.B.Blocks.held c.args.blocks.now) c.args.scope.now (actor_of t item) x.changes part)) c.cert.ensures.same (c.apply_within.ensures.taken (actor_of t item) user one)

pub returns-clause-missing : goal.returns-clause-missing
returns-clause-missing g c =
    let blocks = g.B.Blocks.held c.args.blocks.now in
    let t = c.args.table.now in
    let item = c.args.item.now in
    let part = c.args.part in
    let user : item.cert.user ≡ c.cert.result.now.user = ap (λ (x : Cert). x.user) (sym c.cert.ensures.same) in
    let one : acts_for t item part.table.principal ≡ c.acts_for-is_member.result = ap (acts_for t item) (sym c.principal.ensures.same) ∙ sym c.acts_for-is_member.ensures in
    subst (λ (x : Cert). IfErr c.apply_within.result (Lacks blocks (IsAskedFor blocks c.args.scope.now (actor_of t item) x.changes part))) c.cert.ensures.same (c.apply_within.ensures.missing (actor_of t item) user one)
