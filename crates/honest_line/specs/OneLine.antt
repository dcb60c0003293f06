-- One line with an honest server: what holds of honest runs in which no two texts have one digest and keys are true. Of
-- signatures nothing is assumed.
-- The rules stand in docs/RULES.md.
use Rattle.std.specs.Prelude.{◌≡◌, ◌<◌, List, ◌++◌, Ok, IfSome, length, reverse}
use Rattle.std.specs.List.{All, flat_map}
use Rattle.layout.specs.Types.{Bytes, User}
use Rattle.lms_sign.specs.Secret.{HasLeaf, Secret}
use Rattle.leaf_ledger.specs.Ledger.{LeafNumber, number_of_leaves}
use Rattle.itable.specs.File.{NoneCollide}
use Rattle.client_verify.specs.declared.look.Look.TheVariants as look
use Rattle.client_verify.specs.declared.step.Step.TheVariants as step
use Rattle.client_steps.specs.Steps.{Call, Gives, Hears, Looks, Takes}
use Rattle.client_runs.specs.declared.world.Answer.{Answer}
use Rattle.client_runs.specs.Carried.{script_keys}
use Rattle.client_runs.specs.Released.{hashed, views}
use Rattle.client_runs.specs.Runs.{Keys, client_of, pinned}
use Rattle.client_runs.specs.UsedOnce.{CertificatesOnce, LeavesOnce, StructuresOnce}
use Rattle.agreement.specs.Lines.{IsBeginning, line}
use Rattle.fork_consistency.specs.ForkConsistent.{AreForkConsistent}
use Rattle.fork_consistency.specs.Premises.{AddsOwnKeys, PinnedIsKey}
use Rattle.honest_history.specs.Placed.{placed}
use Rattle.honest_runs.specs.declared.step.HonestStep.{HonestStep}
use Rattle.honest_runs.specs.HonestRuns.{HonestEvent, IsHonestRun, events, history}
use Rattle.honest_runs.specs.Served.{Keep}
use Rattle.honest_line.specs.Answered.{AreAnswered}
use Rattle.honest_line.specs.GoingOn.{AllLeadOn, ClientCanGoOn}

-- ---- refusals

-- no rule is found broken
abbrev pub IsUnbroken : Call → Type 0
IsUnbroken (Hears text (Ok (step.Broken rule))) = ⊥
IsUnbroken (Takes block (Ok (step.Broken rule))) = ⊥
IsUnbroken (Looks q (Ok (look.Broken rule))) = ⊥
IsUnbroken (Gives block (Ok (look.Broken rule))) = ⊥
IsUnbroken call = Unit {0}

-- ---- texts

-- all texts of which digests are taken, or that were put into the store
abbrev pub all_texts : Keys → List HonestEvent → List Bytes
all_texts keys run = flat_map (λ h. h.put) run ++ hashed keys (events run)

-- ---- runs

-- All clients stand in one line with the server.
pub record AreOnOneLine (keys : Keys) (run : List HonestEvent) : Type 0 where
  -- No reply and no block is refused;
  pub unbroken : All (λ h. IfSome h.step (λ s. IsUnbroken s.call)) run
  -- UPDATE and COMMIT are answered with success, but where the log is full, memory runs out, or UPDATE's user isn't
  -- listed, has another key last, or is at a limit;
  pub statuses : AreAnswered keys run
  -- operations go on: whatever would come next would be taken,
  pub next : (u : User) → ClientCanGoOn keys run u (client_of u (events run))
  -- and what was taken led on.
  pub lead_on : AllLeadOn run
  -- The line of each accepted view is a beginning of what the server placed,
  pub lines : All (λ x. IsBeginning (line (views (events run)) x) (placed (pinned keys) (history run)))
      (views (events run))
  -- and what it shows is the world of that line.
  pub consistent : AreForkConsistent keys (events run)

-- No digest collides, and user 0's client gave each user no key but the user's own.
pub record HonestPremises (keys : Keys) (run : List HonestEvent) : Type 0 where
  pub no_collision : NoneCollide (all_texts keys run) (all_texts keys run)
  pub added : AddsOwnKeys keys (events run)

-- the key's identifier has 16 bytes, and each of its leaves can sign
pub record IsSecret (secret : Secret) : Type 0 where
  pub identifier : length secret.id ≡ 16
  pub leaves : (leaf : LeafNumber) → leaf < number_of_leaves → HasLeaf secret leaf

-- The key of user 0's that every client knows has the form of a key, and each user's keys can sign.
pub record AreSigningKeys (keys : Keys) : Type 0 where
  pub pinned : PinnedIsKey keys
  pub each : (u : User) → All IsSecret (keys u)

-- so it is over each honest run
abbrev pub EachHonestRun : Type 0
EachHonestRun =
    (keys : Keys) (run : List HonestEvent) → IsHonestRun keys run → AreSigningKeys keys → HonestPremises keys run
    → AreOnOneLine keys run

-- ---- steps that are carried out

-- The steps with their answers are an honest run; what its clients release is used once; and under the premises all
-- stand in one line. That the keys of scripts are keys is no premise: it is proved.
pub record IsOneLine {A : Type 0} (steps : List (HonestStep A)) (answers : List (Answer A)) : Type 0 where
  pub run : List HonestEvent
  pub is_run : IsHonestRun script_keys run
  pub kept : Keep (reverse steps) (reverse answers) run
  pub leaves : (u : User) → LeavesOnce script_keys u (events run)
  pub certificates : (u : User) → CertificatesOnce script_keys u (events run)
  pub structures : (u : User) → StructuresOnce script_keys u (events run)
  pub one_line : HonestPremises script_keys run → AreOnOneLine script_keys run
