use Rattle.std.proofs.Common.{◌≡◌, Some, sym, subst, ◌∙◌, Option}
use Rattle.std.specs.Prelude.{IfSome, IfOk, Result, Ok, Err}
use Rattle.reply_rules.specs.Lists.{Lists, lists_of}
use Rattle.reply_rules.specs.Broken.{broken}
use Rattle.first_rule.proofs.judge.broken.Goals as goal

each_ok : {X E : Type 0} (r : Result X E) (P Q : X → Type 0) → ((x : X) → P x → Q x) → IfOk r P → IfOk r Q
each_ok (Ok x) P Q h told = h x told
each_ok (Err e) P Q h told = tt

if_some : (o : Option Lists) (x : Lists) (P : Lists → Type 0) → o ≡ Some x → P x → IfSome o P
if_some o x P e here = subst (λ o. IfSome o P) (sym e) here

pub returns-in-Some : goal.returns-in-Some
returns-in-Some g c =
    let o = lists_of c.args.reply.now in
    each_ok c.first_broken.result _ _ (λ answer told.
    if_some o c.in-Some.lists (λ x. answer ≡ broken c.args.table.now x) (sym c.of.ensures ∙ c.in-Some.is) told)
    c.first_broken.ensures
