use Rattle.std.proofs.Common.{◌≡◌, ℕ, Some, true, false, sym, ap, ◌∙◌, rules}
use Rattle.std.specs.Prelude.{nat_lt}
use Rattle.std.specs.Option.{option_map}
use Rattle.client_tree.specs.View.{newest, structure_of}
use Rattle.client_tree.proofs.ViewLaws.{of_group, of_user}
use Rattle.client_tree.proofs.view.handle_in.Goals.{in-Some, in-None}
use Rattle.client_tree.proofs.view.handle_in.Goals as goal

pub returns-in-Some-named : goal.returns-in-Some-named
returns-in-Some-named g c =
    let key = c.args.key.now in
    let zs = c.args.structures.now in
    let p = c.args.principal in
    elim c.match-group_of.branch [
      | in-Some w ↦
          let group : nat_lt p 64 ≡ false = search rules in
          let same : w.in-Some.group ≡ p = search rules in
          let there : option_map (λ r. r.handle) (newest p zs) ≡ Some c.in-Some-named.handle =
          ap (λ (n : ℕ). option_map (λ r. r.handle) (newest n zs)) (sym same) ∙ sym w.group_handle-named.ensures ∙ sym w.named-is ∙ c.in-Some-named.is in
          of_group key zs p c.in-Some-named.handle group there
      | in-None w ↦
          let user : nat_lt p 64 ≡ true = search rules in
          let there : option_map (λ z. z.value.handle) (structure_of p zs) ≡ Some c.in-Some-named.handle = sym w.user_handle-named.ensures ∙ sym w.named-is ∙ c.in-Some-named.is in
          of_user key zs p c.in-Some-named.handle user there
    ]
