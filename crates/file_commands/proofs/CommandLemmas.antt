use Rattle.std.proofs.Common.{◌≡◌, ◌∙◌, true, ap, ap₂, subst, Result, Ok, IfOk}
use Rattle.clap.specs.Words.{AddsSubcommand, App, app_of, with_subcommand}
use Rattle.clap.specs.declared.builder.Command.{Command}
use Rattle.file_commands.proofs.ReadLemmas.{is_local}

-- a command of known rules, with one more subcommand of known rules
pub subcommand_added : (old sub new : Command) (a s : App) → AddsSubcommand old sub new → app_of old ≡ a → app_of sub ≡ s
    → s.top.is_plain ≡ true → app_of new ≡ with_subcommand a s.top
subcommand_added old sub new a s adds of_old of_sub plain =
    let is_plain : (app_of sub).top.is_plain ≡ true = ap (λ (x : App). x.top.is_plain) of_sub ∙ plain in
    adds.shape (is_local _ _ _ _ is_plain) ∙ ap₂ with_subcommand of_old (ap (λ (x : App). x.top) of_sub)

-- what is known of a command, if it is made, is so of the one that was made
pub made : {E : Type 0} (r : Result Command E) (sub : Command) (a : App) → r ≡ Ok sub → IfOk r (λ c. app_of c ≡ a) → app_of sub ≡ a
made {E} r sub a is h = let P : Result Command E → Type 0 = λ x. IfOk x (λ c. app_of c ≡ a) in subst P is h
