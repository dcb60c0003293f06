-- The lines of the views that clients accept over replies of one server.
use Rattle.std.specs.Prelude.{◌≡◌, List, [], ◌∷◌, map}
use Rattle.std.specs.List.{All, Contains}
use Rattle.layout.specs.Types.{Key}
use Rattle.update_cert.specs.Cert.{Cert}
use Rattle.pending_list.specs.declared.signed.Signed.{Signed}
use Rattle.consistency_server.specs.Event.{Event, Placed}
use Rattle.consistency_server.specs.Answers.{Call}
use Rattle.consistency_server.specs.History.{events}
use Rattle.agreement.specs.Runs.{View, structures}
use Rattle.agreement.specs.Lines.{IsBeginning, line}
use Rattle.honest_history.specs.Placed.{IsSince, lists_to, placed}
use Rattle.honest_history.specs.Honest.{Naming}
use Rattle.honest_history.specs.Served.{IsHonestHistory}

-- The view is over the reply to an operation that was placed among these events. Its structure is of that operation,
-- and each structure of the reply was signed over an earlier view.
pub record IsOver (pinned : Key) (es : List Event) (older : List View) (x : View) : Type 0 where
  pub cert : Signed Cert
  pub earlier : List Event
  pub since : IsSince (Placed cert ∷ earlier) es
  pub lists : x.lists ≡ lists_to pinned earlier cert
  pub signed : x.signed.plan ≡ x.lists.own.plan
  pub released : All (Contains (map (λ y. y.signed) older)) (structures x)

-- so is each of these views, of which the latest is the first
abbrev pub AreOver : Key → List Event → List View → Type 0
AreOver pinned es [] = Unit {0}
AreOver pinned es (x ∷ older) = IsOver pinned es older x × AreOver pinned es older

-- the line of each is a beginning of what the server placed
abbrev pub EachLineIsPlaced : Type 0
EachLineIsPlaced =
    (naming : Naming) (pinned : Key) (history : List Call) → IsHonestHistory naming pinned history
    → (run : List View) → AreOver pinned (events pinned history) run
    → (x : View) → Contains run x → IsBeginning (line run x) (placed pinned history)
