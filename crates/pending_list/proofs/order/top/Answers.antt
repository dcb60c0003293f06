-- What the highest of the structures is.
use Rattle.std.proofs.Common.{◌≡◌, ◌≤◌, [], Some, None, refl, ap, sym, ◌∙◌}
use Rattle.std.specs.Prelude.{◌↔◌, IfSome, IsNone}
use Rattle.std.specs.List.{All, Contains}
use Rattle.std.specs.Option.{option_copied}
use Rattle.pending_list.specs.Reply.{depth_of, user_of, top}
use Rattle.pending_list.proofs.Highest.{none_listed, top_is}
use Rattle.pending_list.proofs.order.top.Goals as goal

pub returns-clause-none : goal.returns-clause-none
returns-clause-none g c =
    let ss = c.args.reply.now.structures in
    elim c.highest.result as (λ r. option_copied r ≡ top ss → IsNone r ↔ (ss ≡ [])) [
      | None ↦ λ e. (λ _. none_listed ss (sym e), λ _. refl)
      | Some t ↦ λ e. (λ is. absurd cc, λ nil. let none : Some t.now ≡ None = e ∙ ap top nil in absurd cc)
    ] (c.highest.ensures ∙ ap top c.structures.ensures.same)

pub returns-clause-there : goal.returns-clause-there
returns-clause-there g c =
    let ss = c.args.reply.now.structures in
    elim c.highest.result as (λ r. option_copied r ≡ top ss → IfSome r (λ t. Contains ss t.now)) [
      | None ↦ λ e. tt
      | Some t ↦ λ e. (top_is ss t.now (sym e)).there
    ] (c.highest.ensures ∙ ap top c.structures.ensures.same)

pub returns-clause-deepest : goal.returns-clause-deepest
returns-clause-deepest g c =
    let ss = c.args.reply.now.structures in
    elim c.highest.result as (λ r. option_copied r ≡ top ss → IfSome r (λ t. All (λ s. depth_of s ≤ depth_of t.now) ss)) [
      | None ↦ λ e. tt
      | Some t ↦ λ e. (top_is ss t.now (sym e)).deepest
    ] (c.highest.ensures ∙ ap top c.structures.ensures.same)

pub returns-clause-least : goal.returns-clause-least
returns-clause-least g c =
    let ss = c.args.reply.now.structures in
    elim c.highest.result as (λ r. option_copied r ≡ top ss → IfSome r (λ t. All (λ s. depth_of s ≡ depth_of t.now → user_of t.now ≤ user_of s) ss)) [
      | None ↦ λ e. tt
      | Some t ↦ λ e. (top_is ss t.now (sym e)).least
    ] (c.highest.ensures ∙ ap top c.structures.ensures.same)
