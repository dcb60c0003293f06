-- Operations go through: whatever was done before, and whatever others have pending.
use Rattle.std.specs.Prelude.{◌≡◌, List, ◌∷◌, Option, Some, None, true, false}
use Rattle.layout.specs.Types.{Key, User}
use Rattle.principals.specs.Table.{Table, lists_user}
use Rattle.version_order.specs.Structure.{Structure}
use Rattle.update_cert.specs.Cert.{Cert}
use Rattle.pending_list.specs.declared.signed.Signed.{Signed}
use Rattle.reply_rules.specs.Lists.{Lists}
use Rattle.consistency_server.specs.Event.{Event}
use Rattle.consistency_server.specs.State.{state_after, table_after}
use Rattle.consistency_server.specs.Answers.{at_limit}
use Rattle.consistency_server.specs.History.{events}
use Rattle.agreement.specs.Runs.{View}
use Rattle.honest_history.specs.Answered.{is_under_last_key}
use Rattle.honest_history.specs.Honest.{Naming}
use Rattle.honest_dialogues.specs.Dialogue.{Accepts, Commits, Declared, Declares, Declined, Ends, Hears, HearsDeclined, Idle, IsDialogue, IsNaming, IsNextCert, IsSealed, Move, Resigns, Sealed, Updates, calls, stage_of}

-- what the server placed and committed
abbrev pub events_of : Key → List Move → List Event
events_of pinned moves = events pinned (calls moves)

-- the table of principals that the server has then
abbrev pub table_of : Key → List Move → Table
table_of pinned moves = table_after pinned (events_of pinned moves)

-- ---- the moves of an operation

abbrev pub declares : User → Option (Signed Structure) → Signed Cert → Move
declares u last c = record { user = u; act = Declares; after = Declared last c None }

abbrev pub updates : User → Option (Signed Structure) → Signed Cert → Move
updates u last c = record { user = u; act = Updates; after = Declared last c None }

abbrev pub hears_declined : User → Option (Signed Structure) → Signed Cert → Move
hears_declined u last c = record { user = u; act = HearsDeclined; after = Declined last c }

abbrev pub resigns : User → Option (Signed Structure) → Signed Cert → Move
resigns u last c = record { user = u; act = Resigns; after = Declared last c None }

abbrev pub hears : User → Option (Signed Structure) → Signed Cert → Lists → Move
hears u last c x = record { user = u; act = Hears; after = Declared last c (Some x) }

abbrev pub accepts : User → View → Signed Structure → Move
accepts u v z = record { user = u; act = Accepts v; after = Sealed z }

abbrev pub commits : User → Signed Structure → Move
commits u z = record { user = u; act = Commits; after = Sealed z }

abbrev pub ends : User → Signed Structure → Move
ends u z = record { user = u; act = Ends; after = Idle (Some z) }

-- ---- going through

-- After these moves the declared certificate is sent, and its reply heard; and each structure that an honest client
-- signs over that is committed.
pub record GoesThrough (pinned : Key) (naming : Naming) (moves : List Move) (u : User)
    (last : Option (Signed Structure)) (c : Signed Cert) : Type 0 where
  pub lists : Lists
  pub heard : IsDialogue pinned naming (hears u last c lists ∷ updates u last c ∷ moves)
  pub ended : (v : View) (z : Signed Structure) → IsSealed pinned naming u last lists v z
      → IsDialogue pinned naming
      (ends u z ∷ commits u z ∷ accepts u v z ∷ hears u last c lists ∷ updates u last c ∷ moves)

-- After each dialogue the next operation of a user goes through who has none, is listed, signs it under its last key,
-- and isn't at the limit of a version.
abbrev pub EachOperationGoesThrough : Type 0
EachOperationGoesThrough =
    (pinned : Key) (naming : Naming) (moves : List Move) → IsNaming pinned naming → IsDialogue pinned naming moves
    → (u : User) (last : Option (Signed Structure)) (c : Signed Cert)
    → stage_of u moves ≡ Idle last → IsNextCert u last c
    → lists_user (table_of pinned moves) u ≡ true → is_under_last_key (table_of pinned moves) c ≡ true
    → at_limit (state_after pinned (events_of pinned moves)) c.value ≡ false
    → GoesThrough pinned naming (declares u last c ∷ moves) u last c

-- the moves of an operation that is declared, sent, declined and signed again
abbrev pub signed_again : User → Option (Signed Structure) → Signed Cert → Signed Cert → List Move → List Move
signed_again u last c d moves =
    resigns u last d ∷ hears_declined u last c ∷ updates u last c ∷ declares u last c ∷ moves

-- So it does once it is signed again under the user's last key, where it was signed under another.
abbrev pub EachResignedGoesThrough : Type 0
EachResignedGoesThrough =
    (pinned : Key) (naming : Naming) (moves : List Move) → IsNaming pinned naming → IsDialogue pinned naming moves
    → (u : User) (last : Option (Signed Structure)) (c d : Signed Cert)
    → stage_of u moves ≡ Idle last → IsNextCert u last c → IsNextCert u last d → d.value ≡ c.value
    → lists_user (table_of pinned moves) u ≡ true
    → is_under_last_key (table_of pinned moves) c ≡ false → is_under_last_key (table_of pinned moves) d ≡ true
    → at_limit (state_after pinned (events_of pinned moves)) c.value ≡ false
    → GoesThrough pinned naming (signed_again u last c d moves) u last d

-- So does each that is declared, for the first time or again, whatever was done since, where its user is listed, it is
-- signed under the user's last key, and it is at the limit of no version.
abbrev pub EachDeclaredGoesThrough : Type 0
EachDeclaredGoesThrough =
    (pinned : Key) (naming : Naming) (moves : List Move) → IsNaming pinned naming → IsDialogue pinned naming moves
    → (u : User) (last : Option (Signed Structure)) (c : Signed Cert)
    → stage_of u moves ≡ Declared last c None
    → lists_user (table_of pinned moves) c.value.user ≡ true → is_under_last_key (table_of pinned moves) c ≡ true
    → at_limit (state_after pinned (events_of pinned moves)) c.value ≡ false
    → GoesThrough pinned naming moves u last c
