-- The premises of fork consistency, which speak of the texts of one run alone: no signature is forged, no digest
-- collides, and user 0's client added each user with one of the user's own keys, and set no other.
use Rattle.std.specs.Prelude.{◌≡◌, List, [], ◌∷◌, IfSome, true, map}
use Rattle.std.specs.List.{All, Contains}
use Rattle.layout.specs.Types.{Bytes, Digest, Key, User}
use Rattle.lms_sign.specs.Signature.{valid}
use Rattle.itable.specs.File.{NoneCollide}
use Rattle.principals.specs.TableText.{key as key_form}
use Rattle.update_cert.specs.Change.{Action, AddUser, SetKey}
use Rattle.update_cert.specs.Cert.{cert}
use Rattle.client_releases.specs.Told.{cert_in}
use Rattle.agreement.specs.Lines.{line}
use Rattle.client_journal.specs.Records.{unsigned}
use Rattle.client_runs.specs.Runs.{Event, IsOwnKey, IsRun, Keys, pinned}
use Rattle.client_runs.specs.Released.{Shown, hashed, released, shown_by, views}
use Rattle.client_runs.specs.UsedOnce.{LeavesOnce}
use Rattle.release_runs.specs.UsedOnce.{AreApart}

-- ---- premises

-- the user's client released this text, with some signature
abbrev pub HasReleased : User → List Event → Bytes → Type 0
HasReleased u run text = Contains (map unsigned (released u run)) text

-- what verifies under one of the user's own keys was released by the user's client, if no two of these keys have one
-- identifier, and of the texts that this client released in the whole run no two of one key carry one leaf number
abbrev pub IsGenuine : Keys → List Event → List Event → Shown → Type 0
IsGenuine keys whole older t =
    AreApart (keys t.user) → LeavesOnce keys t.user whole → (key : Key) → IsOwnKey keys t.user key
    → valid key t.text t.signature ≡ true → HasReleased t.user older t.text

-- all users
abbrev pub everybody : User → Type 0
everybody u = Unit {0}

-- each text that is shown as one of these users' is genuine, at an earlier step: none of their signatures is forged
abbrev pub NoneForgedOf : (User → Type 0) → Keys → List Event → List Event → Type 0
NoneForgedOf some keys whole [] = Unit {0}
NoneForgedOf some keys whole (e ∷ older) = All (λ t. some t.user → IsGenuine keys whole older t) (shown_by e.call)
    × NoneForgedOf some keys whole older

abbrev pub NoForgery : Keys → List Event → Type 0
NoForgery keys run = NoneForgedOf everybody keys run run

abbrev pub NoCollision : Keys → List Event → Type 0
NoCollision keys run = NoneCollide (hashed keys run) (hashed keys run)

-- an action that adds one of these users, or sets a key of one, gives one of the user's own keys
abbrev pub GivesOwnKeyOf : (User → Type 0) → Keys → Action Digest → Type 0
GivesOwnKeyOf some keys (AddUser u key) = some u → IsOwnKey keys u key
GivesOwnKeyOf some keys (SetKey u key) = some u → IsOwnKey keys u key
GivesOwnKeyOf some keys other = Unit {0}

-- each change of this text does so, if it is a certificate of user 0's
abbrev pub TextAddsOwnKeysOf : (User → Type 0) → Keys → Bytes → Type 0
TextAddsOwnKeysOf some keys text =
    IfSome (cert_in 0 text) (λ c. All (λ change. GivesOwnKeyOf some keys change.action) c.value.changes)

-- each of these users that user 0's client added, or gave a key, in a certificate that it released, was given one of
-- its own
abbrev pub AddsOwnKeysOf : (User → Type 0) → Keys → List Event → Type 0
AddsOwnKeysOf some keys run = All (TextAddsOwnKeysOf some keys) (released 0 run)

abbrev pub AddsOwnKeys : Keys → List Event → Type 0
AddsOwnKeys keys run = AddsOwnKeysOf everybody keys run

-- No signature of these users is forged, no digest collides, and user 0's client gave each of them no key but the
-- user's own.
pub record PremisesOf (some : User → Type 0) (keys : Keys) (run : List Event) : Type 0 where
  pub no_forgery : NoneForgedOf some keys run run
  pub no_collision : NoCollision keys run
  pub added : AddsOwnKeysOf some keys run

abbrev pub Premises : Keys → List Event → Type 0
Premises keys run = PremisesOf everybody keys run

-- user 0's key, which every client knows, has the form of a key
abbrev pub PinnedIsKey : Keys → Type 0
PinnedIsKey keys = key_form.Fits (pinned keys)

-- User 0's first key, which every client knows, has the form of a key; and no two keys of one of these users have one
-- identifier.
pub record AreKeysOf (some : User → Type 0) (keys : Keys) : Type 0 where
  pub pinned : PinnedIsKey keys
  pub apart : (u : User) → some u → AreApart (keys u)

abbrev pub AreKeys : Keys → Type 0
AreKeys keys = AreKeysOf everybody keys

-- what holds of each run that meets them
abbrev pub EachRun : (Keys → List Event → Type 0) → Type 0
EachRun holds =
    (keys : Keys) (run : List Event) → IsRun keys run → AreKeys keys → Premises keys run → holds keys run

-- and of each run in which no digest collides, whoever has whose keys
abbrev pub EachRunApart : (Keys → List Event → Type 0) → Type 0
EachRunApart holds = (keys : Keys) (run : List Event) → IsRun keys run → NoCollision keys run → holds keys run

-- ---- lines

-- each operation of a view's line was released by its user
abbrev pub AreReleased : List Event → Type 0
AreReleased run = All (λ x. All (λ c. HasReleased c.user run (cert.spell c)) (line (views run) x)) (views run)
