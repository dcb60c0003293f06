-- What is promised of a dialogue: all calls are answered with success, no client finds a rule broken, and all accepted
-- views stand in one line.
-- The rules stand in docs/RULES.md.
use Rattle.std.specs.Prelude.{◌≡◌, List, [], ◌∷◌, Option}
use Rattle.std.specs.List.{Contains}
use Rattle.layout.specs.Types.{Bytes, Key, User}
use Rattle.principals.specs.Table.{Table}
use Rattle.version_order.specs.Structure.{Structure}
use Rattle.update_cert.specs.Cert.{Cert, cert}
use Rattle.pending_list.specs.declared.signed.Signed.{Signed}
use Rattle.pending_list.specs.Signed.{signed}
use Rattle.wire.specs.declared.kinds.Status.TheVariants as status
use Rattle.reply_rules.specs.Lists.{Lists}
use Rattle.reply_check.specs.FirstBroken.{Known}
use Rattle.consistency_server.specs.Answers.{Call}
use Rattle.consistency_server.specs.History.{answer_of, events}
use Rattle.agreement.specs.Runs.{View}
use Rattle.agreement.specs.Lines.{IsBeginning, line}
use Rattle.honest_history.specs.Placed.{placed}
use Rattle.honest_history.specs.Honest.{Naming}
use Rattle.honest_history.specs.Served.{IsUnbroken}
use Rattle.honest_history.specs.Answered.{IsUpdateStatus}
use Rattle.honest_dialogues.specs.Dialogue.{Act, Commits, Declared, Hears, IsDialogue, IsNaming, Move, Sealed, Stage, Updates, WasAnswered, calls, commit_by, stage_of, success, update_by, views}

-- what a user's client knows that declared this certificate after this last structure
abbrev pub known_to : Key → User → Option (Signed Structure) → Signed Cert → Known
known_to pinned u last c = record { user = u; pinned = pinned; last = last; declared = (signed cert).spell c }

-- UPDATE is answered with a reply in which the client finds no rule broken; or its user isn't listed; or it isn't
-- signed under the user's last key; or one of the versions that the operation raises can grow no further.
pub record IsGoodUpdate (pinned : Key) (naming : Naming) (history : List Call) (u : User)
    (last : Option (Signed Structure)) (c : Signed Cert) : Type 0 where
  pub answered : IsUpdateStatus pinned (events pinned history) c
      (answer_of pinned history (update_by c)).status
  pub unbroken : (payload : Bytes)
      → answer_of pinned history (update_by c) ≡ success payload
      → (x : Lists) × (t : Table) × IsUnbroken naming (known_to pinned u last c) payload x t

-- in each reply with which UPDATE was answered the client finds no rule broken
abbrev pub AreUnbroken : Key → Naming → List Call → User → Option (Signed Structure) → Signed Cert → Type 0
AreUnbroken pinned naming history u last c =
    (payload : Bytes) → WasAnswered pinned history (update_by c) (success payload)
    → (x : Lists) × (t : Table) × IsUnbroken naming (known_to pinned u last c) payload x t

-- COMMIT is answered with success
abbrev pub IsGoodCommit : Key → List Call → Signed Structure → Type 0
IsGoodCommit pinned history z = (answer_of pinned history (commit_by z)).status ≡ status.Ok

-- what the server answers to a client that is so far, if it sends a call, or answered before, if it hears of one
abbrev pub IsGoodAnswer : Key → Naming → List Call → User → Stage → Act → Type 0
IsGoodAnswer pinned naming history u (Declared last c heard) Updates = IsGoodUpdate pinned naming history u last c
IsGoodAnswer pinned naming history u (Declared last c heard) Hears = AreUnbroken pinned naming history u last c
IsGoodAnswer pinned naming history u (Sealed z) Commits = IsGoodCommit pinned history z
IsGoodAnswer pinned naming history u stage act = Unit {0}

-- so is each answer
abbrev pub AreGood : Key → Naming → List Move → Type 0
AreGood pinned naming [] = Unit {0}
AreGood pinned naming (m ∷ older) =
    IsGoodAnswer pinned naming (calls older) m.user (stage_of m.user older) m.act × AreGood pinned naming older

-- All answers are good, and the line of each accepted view is a beginning of what the server placed.
pub record IsOneLine (pinned : Key) (naming : Naming) (moves : List Move) : Type 0 where
  pub answers : AreGood pinned naming moves
  pub lines : (x : View) → Contains (views moves) x
      → IsBeginning (line (views moves) x) (placed pinned (calls moves))

-- so it is over each dialogue
abbrev pub EachDialogueIsOneLine : Type 0
EachDialogueIsOneLine =
    (pinned : Key) (naming : Naming) (moves : List Move) → IsNaming pinned naming → IsDialogue pinned naming moves
    → IsOneLine pinned naming moves
