-- A fact of an option, weakened.
use Rattle.std.proofs.Common.{◌≡◌, true, false, Option, Some, None, IfSome, IfNone, is_some}

pub some_weaker : {X : Type 0} (o : Option X) (P Q : X → Type 0) → ((x : X) → P x → Q x) → IfSome o P → IfSome o Q
some_weaker (Some x) P Q leads holds = leads x holds
some_weaker None P Q leads holds = tt

pub none_weaker : {X : Type 0} (o : Option X) (P Q : Type 0) → (P → Q) → IfNone o P → IfNone o Q
none_weaker (Some x) P Q leads holds = tt
none_weaker None P Q leads holds = leads holds

pub at_some : {X : Type 0} (o : Option X) (P : X → Type 0) → is_some o ≡ true → IfSome o P → (x : X) × P x
at_some (Some x) P is holds = (x, holds)
at_some None P is holds = cc

pub at_none : {X : Type 0} (o : Option X) (P : Type 0) → is_some o ≡ false → IfNone o P → P
at_none (Some x) P is holds = cc
at_none None P is holds = holds
