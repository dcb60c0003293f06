-- An accepted view is of the user whose client accepted it.
use Rattle.std.proofs.Common.{◌≡◌, List, ◌∷◌}
use Rattle.agreement.specs.Runs.{View, user_of}
use Rattle.agreement.proofs.Members.{In}
use Rattle.client_runs.specs.Runs.{Event, IsRun, Keys, client_of, owner}
use Rattle.client_runs.specs.Released.{accepted_by, released, tried_view}
use Rattle.fork_consistency.proofs.Moves.{holds_at, signed_of}
use Rattle.fork_consistency.proofs.Views.{over}

pub accepted_is_own : (keys : Keys) (e : Event) (older : List Event) → IsRun keys (e ∷ older) → (x : View) → In x (accepted_by e.call (client_of e.user older) e.after (tried_view e.user older)) → user_of x ≡ e.user
accepted_is_own keys e older is x i =
    (over (owner keys e.user) older (released e.user older) (signed_of e.user older) (tried_view e.user older) (client_of e.user older) e.call e.after (holds_at keys e.user older is.2) is.0 is.1 x i).user
