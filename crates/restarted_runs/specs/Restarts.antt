-- Honest runs with a server that keeps its log, and that may end at any time and be started again. An answer goes out
-- only once all that is in the log at that time is synced, unless it tells that memory ran out; what came to the log
-- later may be lost at an end. A block counts as put once SYNC was answered after it: so it is there after each start.
use Rattle.std.specs.Prelude.{◌≡◌, ◌≢◌, ◌≤◌, ◌⊎◌, ℕ, Bool, true, false, List, [], ◌∷◌, ◌++◌, Some, IfSome, IsSomeAnd, MatchOption, length, reverse, option_to_list, if◌then◌else◌}
use Rattle.std.specs.Option.{option_and_then, option_map_or}
use Rattle.layout.specs.Types.{Key, User}
use Rattle.tree_parts.specs.Blocks.{Blocks}
use Rattle.client_tree.specs.Held.{held}
use Rattle.wire.specs.declared.kinds.Status.{Status}
use Rattle.wire.specs.declared.kinds.Status.TheVariants as status
use Rattle.client_steps.specs.Steps.{Call as ClientCall, Client, IsSound, IsStep, Resigns}
use Rattle.client_runs.specs.Runs.{Keys, client_of, owner, pinned}
use Rattle.consistency_server.specs.declared.call.CallKind.TheVariants.{Update}
use Rattle.consistency_server.specs.Answers.{Call}
use Rattle.consistency_server.specs.History.{log_of, update_of}
use Rattle.honest_runs.specs.HonestRuns.{Exchange, HonestEvent, IsAnswered, IsHandedIn, IsHonestRun, TookPlace, carried_out, client_before, events, history, put_with, sent_by, stored}
use Rattle.honest_line.specs.OneLine.{AreOnOneLine, AreSigningKeys, HonestPremises}

-- a step of the clients, of the store and of the server
pub data KeptStep : Type 0 where
  -- what happens in a step of an honest run; if a call is made in it, its answer goes out
  Does : HonestEvent → KeptStep
  -- a user's client makes a call, which is answered, and the answer never goes out
  Unanswered : User → Exchange → KeptStep
  -- the server ended, and is started again over a log that has these calls, the oldest first
  Starts : List Call → KeptStep

-- ---- what there is after these steps, the latest of which is the first

-- what happened, but for what nobody was told
abbrev pub told_steps : List KeptStep → List HonestEvent
told_steps [] = []
told_steps (Does h ∷ older) = h ∷ told_steps older
told_steps (Unanswered u x ∷ older) = told_steps older
told_steps (Starts calls ∷ older) = told_steps older

-- the calls that the server carried out, the newest first: those of the log that it was started with, and those since
abbrev pub calls_after : List KeptStep → List Call
calls_after [] = []
calls_after (Does h ∷ older) = option_to_list (option_and_then carried_out h.exchange) ++ calls_after older
calls_after (Unanswered u x ∷ older) = option_to_list (carried_out x) ++ calls_after older
calls_after (Starts calls ∷ older) = reverse calls

-- the calls of its log, the oldest first
abbrev pub log_after : Key → List KeptStep → List Call
log_after pinned run = log_of pinned (calls_after run)

-- each answer waits, but that memory ran out is told at once
abbrev pub waits : Status → Bool
waits status.Memory = false
waits other = true

-- how many of them are synced: as many as there were when an answer went out last that waits
abbrev pub synced_after : Key → List KeptStep → ℕ
synced_after pinned [] = 0
synced_after pinned (Does h ∷ older) =
    option_map_or (λ x. if waits x.answer.status then length (log_after pinned (Does h ∷ older))
    else synced_after pinned older)
    h.exchange (synced_after pinned older)
synced_after pinned (Unanswered u x ∷ older) = synced_after pinned older
synced_after pinned (Starts calls ∷ older) = synced_after pinned older

-- ---- what may happen

-- the last of these steps in which this call was made was answered with this status, and the answer went out
abbrev pub LastTold : List KeptStep → Call → Status → Type 0
LastTold [] call s = ⊥
LastTold (Does h ∷ older) call s =
    MatchOption h.exchange (LastTold older call s)
    (λ x. ((x.call ≡ call) × (x.answer.status ≡ s)) ⊎ ((x.call ≢ call) × LastTold older call s))
LastTold (Unanswered u x ∷ older) call s = (x.call ≢ call) × LastTold older call s
LastTold (Starts calls ∷ older) call s = LastTold older call s

-- A client is handed what an honest run hands in, of answers those that went out. It signs a certificate again only
-- where that was declined when it was sent last.
abbrev pub IsHandedInOf : List KeptStep → Client → Blocks → ClientCall → Type 0
IsHandedInOf run client blocks (Resigns n answer) =
    IsSomeAnd (sent_by client Update) (λ text. LastTold run (update_of text) status.BadSignature)
IsHandedInOf run client blocks call = IsHandedIn (told_steps run) client blocks call

-- what an honest step asks for, of a server that carried these calls out
pub record IsDone (keys : Keys) (older : List KeptStep) (h : HonestEvent) : Type 0 where
  pub sent : IfSome h.exchange (λ x. sent_by (client_before h (told_steps older)) x.call.kind ≡ Some x.call.text)
  pub answered : IfSome h.exchange (IsAnswered (pinned keys) (calls_after older))
  pub taken : IfSome h.step
      (λ s. IsStep (owner keys h.user) (client_before h (told_steps older)) s.call s.after × IsSound s.after)
  pub handed_in : IfSome h.step (λ s. IsHandedInOf (Does h ∷ older) (client_before h (told_steps older))
      (held (stored (told_steps older))) s.call)
  pub put : IfSome h.step (λ s. h.put ≡ put_with s.call)

-- the client sends its own text, and the server answers it
pub record IsUnanswered (keys : Keys) (older : List KeptStep) (u : User) (x : Exchange) : Type 0 where
  pub sent : sent_by (client_of u (events (told_steps older))) x.call.kind ≡ Some x.call.text
  pub answered : IsAnswered (pinned keys) (calls_after older) x

-- the log has lost none of the calls that were synced
pub record IsStarted (keys : Keys) (older : List KeptStep) (calls : List Call) : Type 0 where
  pub lost : List Call
  pub log : log_after (pinned keys) older ≡ calls ++ lost
  pub synced : synced_after (pinned keys) older ≤ length calls

-- a step after these
abbrev pub IsKeptStep : Keys → List KeptStep → KeptStep → Type 0
IsKeptStep keys older (Does h) = IsDone keys older h
IsKeptStep keys older (Unanswered u x) = IsUnanswered keys older u x
IsKeptStep keys older (Starts calls) = IsStarted keys older calls

-- each is a step after those before it
abbrev pub IsKeptRun : Keys → List KeptStep → Type 0
IsKeptRun keys [] = Unit {0}
IsKeptRun keys (s ∷ older) = IsKeptStep keys older s × IsKeptRun keys older

-- ---- what holds of each

-- Without what was lost it is an honest run with a server that never ended: the clients do the same, each answer that went
-- out goes out, and the log is the same. So all stand in one line where they do in honest runs.
pub record IsHonestWithoutLost (keys : Keys) (run : List KeptStep) : Type 0 where
  pub left : List HonestEvent
  pub is_run : IsHonestRun keys left
  pub clients : events left ≡ events (told_steps run)
  pub told : (x : Exchange) → TookPlace (told_steps run) x → TookPlace left x
  pub log : log_of (pinned keys) (history left) ≡ log_after (pinned keys) run
  pub one_line : AreSigningKeys keys → HonestPremises keys (told_steps run) → AreOnOneLine keys left

abbrev pub EachKeptRun : Type 0
EachKeptRun = (keys : Keys) (run : List KeptStep) → IsKeptRun keys run → IsHonestWithoutLost keys run

-- What was told stays told: whatever comes later, the log begins with the calls that it had when an answer went out
-- that waits.
abbrev pub ToldStays : Type 0
ToldStays = (keys : Keys) (newer : List KeptStep) (h : HonestEvent) (older : List KeptStep)
    → IsKeptRun keys (newer ++ Does h ∷ older) → IfSome h.exchange (λ x. waits x.answer.status ≡ true
    → (later : List Call)
    × (log_after (pinned keys) (newer ++ Does h ∷ older) ≡ log_after (pinned keys) (Does h ∷ older) ++ later))
