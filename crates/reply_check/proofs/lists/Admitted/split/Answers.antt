use Rattle.std.proofs.Common.{◌≡◌, ◌++◌, ◌∷◌, [], Option, refl, sym, subst, ◌∙◌}
use Rattle.std.specs.Prelude.{IsSomeAnd}
use Rattle.pending_list.specs.Reply.{Reply}
use Rattle.reply_rules.specs.Lists.{Lists, lists_of}
use Rattle.reply_rules.specs.ListsLaws.{lists_are}
use Rattle.reply_check.proofs.lists.Admitted.split.Goals as goal

pub returns : goal.returns
returns g c =
    let r = c.self.inside.reply in
    let own = c.in-Some.own.now in
    let others = c.in-Some.others.now in
    let is : r.pending ≡ others ++ own ∷ [] = sym c.pending.ensures ∙ c.in-Some.ensures.cases.0 in
    subst (λ (r : Reply). IsSomeAnd (lists_of r) (λ x. (x.own ≡ own) × (x.others ≡ others))) c.self.view_is
    (subst (λ (o : Option Lists). IsSomeAnd o (λ x. (x.own ≡ own) × (x.others ≡ others))) (sym (lists_are r others own is)) (refl, refl))
