-- A text that is written in two parts.
use Rattle.std.proofs.Common.{◌≡◌, List, ℕ, [], ◌++◌, Option, ap, sym, ◌∙◌, append_assoc}
use Rattle.std.specs.Prelude.{Result, Ok, Err, IfErr}
use Rattle.connection.specs.Told.{Told, goes_on}
use Rattle.server_workers.proofs.Conversations.{told_both}

-- after both
pub both_told : (before between after : Option Told) (x y z : List ℕ) → x ++ y ≡ z → between ≡ goes_on [] x before → after ≡ goes_on [] y between → after ≡ goes_on [] z before
both_told before between after x y z is one two =
    two ∙ ap (goes_on [] y) one ∙ told_both before [] [] x y ∙ ap (λ t. goes_on [] t before) is

abbrev pub IsBroken : Option Told → Option Told → List ℕ → Type 0
IsBroken before after text = (part rest : List ℕ) × (after ≡ goes_on [] part before) × (text ≡ part ++ rest)

-- in the first
pub first_broken : (before after : Option Told) (x y z : List ℕ) → x ++ y ≡ z → IsBroken before after x → IsBroken before after z
first_broken before after x y z is (part, rest, told, cut) =
    (part, rest ++ y, told, sym is ∙ ap (λ t. t ++ y) cut ∙ append_assoc part rest y)

-- in the second
pub second_broken : (before between after : Option Told) (x y z : List ℕ) → x ++ y ≡ z → between ≡ goes_on [] x before → IsBroken between after y → IsBroken before after z
second_broken before between after x y z is one (part, rest, told, cut) =
    (x ++ part, rest, told ∙ ap (goes_on [] part) one ∙ told_both before [] [] x part, sym is ∙ ap (λ t. x ++ t) cut ∙ sym (append_assoc x part rest))

pub first_err : {X F : Type 0} (r : Result X F) (before after : Option Told) (x y z : List ℕ) → x ++ y ≡ z → IsBroken before after x → IfErr r (λ _. IsBroken before after z)
first_err (Ok _) before after x y z is broken = tt
first_err (Err _) before after x y z is broken = first_broken before after x y z is broken

pub second_err : {X F : Type 0} (r : Result X F) (before between after : Option Told) (x y z : List ℕ) → x ++ y ≡ z → between ≡ goes_on [] x before → IfErr r (λ _. IsBroken between after y) → IfErr r (λ _. IsBroken before after z)
second_err (Ok _) before between after x y z is one broken = tt
second_err (Err _) before between after x y z is one broken = second_broken before between after x y z is one broken
