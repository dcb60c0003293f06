-- What a client releases in a run, as a run of client_releases: each call is a step of that, or leaves what was released.
use Rattle.std.proofs.Common.{◌≡◌, ◌≢◌, ℕ, Bool, true, false, ◌==◌, List, [], ◌∷◌, ◌++◌, Ok, Err, refl, sym, ap, ◌∙◌, subst, if◌then◌else◌}
use Rattle.std.proofs.lemmas.Bool.{eqb-true}
use Rattle.layout.specs.Types.{Bytes, Digest, User}
use Rattle.update_cert.specs.Change.{Change}
use Rattle.wire.specs.declared.kinds.Status.{Status}
use Rattle.wire.specs.declared.kinds.Status.TheVariants as status
use Rattle.client_releases.specs.declared.error.ClientError.{ClientError}
use Rattle.client_releases.specs.declared.error.ClientError.TheVariants as error
use Rattle.release_runs.specs.Steps as low
use Rattle.release_runs.specs.Runs as low_run
use Rattle.release_runs.specs.Released as low_released
use Rattle.client_verify.specs.State.{State, newest_key, next_cert, next_structure, released, signing_key}
use Rattle.client_steps.specs.Steps.{Begins, Caches, Call, Client, Closed, Closes, Commits, Crashes, Gains, Gives, HasBegun, HasCommitted, HasResigned, HasSigned, Hears, IsSound, IsStep, Looks, Open, Opens, Owner, Resigns, Signs, Takes, first}
use Rattle.client_runs.specs.Runs.{Event, IsRun, Keys, client_of, owner}
use Rattle.client_runs.specs.Released.{released as released_in, released_by}
use Rattle.client_runs.proofs.Lowering.{low_begin_failed, low_begun, low_client, low_gained, low_handed_back, low_left, low_opened, low_owner, low_resign_failed, low_resigned, low_sign_failed, low_signed, with_ready}
use Rattle.client_runs.proofs.Quiet.{gives, hears, looks, takes}
use Rattle.client_runs.proofs.Replies.{Kept}

-- A run of what is released, after which the client is this one and these texts are released.
pub record Mirrors (o : Owner) (client : Client) (texts : List Bytes) : Type 0 where
  pub run : List low_run.Event
  pub is_run : low_run.IsRun (low_owner o) run
  pub in_turn : low_run.AreInTurn run
  pub after : low_run.client_of run ≡ low_client client
  pub texts_are : low_released.released run ≡ texts

module _ (o : Owner) where
  at_first : Mirrors o first []
  at_first = record { run = []; is_run = tt; in_turn = tt; after = refl; texts_are = refl }

  -- ---- a step

  module _ (texts : List Bytes) (before : Client) (m : Mirrors o before texts) where
    -- a call that leaves what was released
    quiet : (after : Client) → low_client after ≡ low_client before → Mirrors o after texts
    quiet after same = record { run = m.run; is_run = m.is_run; in_turn = m.in_turn; after = m.after ∙ sym same; texts_are = m.texts_are }

    -- one that is a step
    moves : (call : low.Call) (after : Client) → low.IsStep (low_owner o) (low_client before) call (low_client after) → low.IsSound (low_client after) → low_run.IsInTurn (low_client before) call
        → Mirrors o after (low_released.released_by call (low_client after) ++ texts)
    moves call after is sound turn = record {
      run = record { call = call; after = low_client after } ∷ m.run;
      is_run = (subst (λ (c : low.Client). low.IsStep (low_owner o) c call (low_client after)) (sym m.after) is, sound, m.is_run);
      in_turn = (subst (λ (c : low.Client). low_run.IsInTurn c call) (sym m.after) turn, m.in_turn);
      after = refl;
      texts_are = ap (λ l. low_released.released_by call (low_client after) ++ l) m.texts_are;
    }

  -- ---- calls

  module _ (texts : List Bytes) (s : State) (m : Mirrors o (Open s) texts) (was : IsSound (Open s)) (new : State) (sound : IsSound (Open new)) where
    same_as : new ≡ s → Mirrors o (Open new) texts
    same_as is = quiet texts (Open s) m (Open new) (ap low.Open (ap released is))

    module _ (changes : List (Change Digest)) (laid : List Bytes) where
      begins : (text : Bytes) → HasBegun s changes laid (Ok text) new → Mirrors o (Open new) (text ∷ texts)
      begins text b = moves texts (Open s) m (low.Declares (newest_key s) (next_cert s changes) (Ok text)) (Open new) (low_begun s new was.0.some changes laid text b) sound.0 refl

      begin_fails : HasBegun s changes laid (Err error.Device) new → Mirrors o (Open new) texts
      begin_fails b = moves texts (Open s) m (low.Declares (newest_key s) (next_cert s changes) (Err error.Device)) (Open new) (low_begin_failed s new was.0.some changes laid b) sound.0 refl

      begin_refused : (e : ClientError) → e ≢ error.Device → HasBegun s changes laid (Err e) new → Mirrors o (Open new) texts
      begin_refused e other b = same_as (b.err other)

    module _ (n : ℕ) where
      resigns : (text : Bytes) → HasResigned s n (Ok text) new → Mirrors o (Open new) (text ∷ texts)
      resigns text b = moves texts (Open s) m (low.Resigns n (Ok text)) (Open new) (low_resigned s new n text b) sound.0 tt

      resign_fails : HasResigned s n (Err error.Device) new → Mirrors o (Open new) texts
      resign_fails b = moves texts (Open s) m (low.Resigns n (Err error.Device)) (Open new) (low_resign_failed s new n b) sound.0 tt

      resign_refused : (e : ClientError) → e ≢ error.Device → HasResigned s n (Err e) new → Mirrors o (Open new) texts
      resign_refused e other b = same_as (b.err other)

    signs : (text : Bytes) → HasSigned s (Ok text) new → Mirrors o (Open new) (text ∷ texts)
    signs text b =
        with_ready s (Mirrors o (Open new) (text ∷ texts)) b.ready
        (λ y ready. moves texts (Open s) m (low.Signs (signing_key s y) (next_structure s y) (Ok text)) (Open new) (low_signed s new y ready text was b) sound.0 tt)

    sign_fails : HasSigned s (Err error.Device) new → Mirrors o (Open new) texts
    sign_fails b =
        with_ready s (Mirrors o (Open new) texts) b.ready
        (λ y ready. moves texts (Open s) m (low.Signs (signing_key s y) (next_structure s y) (Err error.Device)) (Open new) (low_sign_failed s new y ready was b) sound.0 tt)

    sign_refused : (e : ClientError) → e ≢ error.Device → HasSigned s (Err e) new → Mirrors o (Open new) texts
    sign_refused e other b = same_as (b.err other)

    commits : (status : Status) → HasCommitted s status new → Mirrors o (Open new) texts
    commits status.Ok b = moves texts (Open s) m low.Commits (Open new) (record { signed = b.signed; state = ap released b.state }) sound.0 tt
    commits other b = same_as b.state

  -- ---- steps

  step : (texts : List Bytes) (before : Client) (call : Call) (after : Client) → Mirrors o before texts → IsSound before → IsStep o before call after → IsSound after → Mirrors o after (released_by call after ++ texts)
  step texts (Closed p) (Opens (Ok x)) (Open s) m was is sound =
      moves texts (Closed p) m (low.Opens (Ok x)) (Open s) (low_opened o p s is) sound.0 tt
  step texts (Closed p) (Opens (Err e)) (Closed q) m was is sound = moves texts (Closed p) m (low.Opens (Err e)) (Closed q) is.moments tt tt
  step texts (Closed p) Crashes (Closed q) m was is sound = moves texts (Closed p) m low.Crashes (Closed q) (low_left (Closed p) q is) tt tt
  step texts (Closed p) Gains (Closed q) m was is sound = moves texts (Closed p) m low.Gains (Closed q) (low_gained o p q is) tt tt
  step texts (Closed p) call after m was is sound = absurd is
  step texts (Open s) Closes (Closed p) m was is sound = moves texts (Open s) m low.Closes (Closed p) (low_handed_back s p is) tt tt
  step texts (Open s) Crashes (Closed p) m was is sound = moves texts (Open s) m low.Crashes (Closed p) (low_left (Open s) p is) tt tt
  step texts (Open s) (Begins changes laid (Ok text)) (Open new) m was is sound = begins texts s m was new sound changes laid text is
  step texts (Open s) (Begins changes laid (Err error.Memory)) (Open new) m was is sound = begin_refused texts s m was new sound changes laid error.Memory (λ d. cc d) is
  step texts (Open s) (Begins changes laid (Err error.NoLeaf)) (Open new) m was is sound = begin_refused texts s m was new sound changes laid error.NoLeaf (λ d. cc d) is
  step texts (Open s) (Begins changes laid (Err error.Device)) (Open new) m was is sound = begin_fails texts s m was new sound changes laid is
  step texts (Open s) (Begins changes laid (Err error.NoNumber)) (Open new) m was is sound = begin_refused texts s m was new sound changes laid error.NoNumber (λ d. cc d) is
  step texts (Open s) (Begins changes laid (Err error.NoKey)) (Open new) m was is sound = begin_refused texts s m was new sound changes laid error.NoKey (λ d. cc d) is
  step texts (Open s) (Begins changes laid (Err error.Foreign)) (Open new) m was is sound = begin_refused texts s m was new sound changes laid error.Foreign (λ d. cc d) is
  step texts (Open s) (Begins changes laid (Err error.Damaged)) (Open new) m was is sound = begin_refused texts s m was new sound changes laid error.Damaged (λ d. cc d) is
  step texts (Open s) (Resigns n (Ok text)) (Open new) m was is sound = resigns texts s m was new sound n text is
  step texts (Open s) (Resigns n (Err error.Memory)) (Open new) m was is sound = resign_refused texts s m was new sound n error.Memory (λ d. cc d) is
  step texts (Open s) (Resigns n (Err error.NoLeaf)) (Open new) m was is sound = resign_refused texts s m was new sound n error.NoLeaf (λ d. cc d) is
  step texts (Open s) (Resigns n (Err error.Device)) (Open new) m was is sound = resign_fails texts s m was new sound n is
  step texts (Open s) (Resigns n (Err error.NoNumber)) (Open new) m was is sound = resign_refused texts s m was new sound n error.NoNumber (λ d. cc d) is
  step texts (Open s) (Resigns n (Err error.NoKey)) (Open new) m was is sound = resign_refused texts s m was new sound n error.NoKey (λ d. cc d) is
  step texts (Open s) (Resigns n (Err error.Foreign)) (Open new) m was is sound = resign_refused texts s m was new sound n error.Foreign (λ d. cc d) is
  step texts (Open s) (Resigns n (Err error.Damaged)) (Open new) m was is sound = resign_refused texts s m was new sound n error.Damaged (λ d. cc d) is
  step texts (Open s) (Hears text answer) (Open new) m was is sound = quiet texts (Open s) m (Open new) (ap low.Open (hears s text answer new is))
  step texts (Open s) (Takes block answer) (Open new) m was is sound = quiet texts (Open s) m (Open new) (ap low.Open (takes s block answer new is))
  step texts (Open s) (Signs (Ok text)) (Open new) m was is sound = signs texts s m was new sound text is
  step texts (Open s) (Signs (Err error.Memory)) (Open new) m was is sound = sign_refused texts s m was new sound error.Memory (λ d. cc d) is
  step texts (Open s) (Signs (Err error.NoLeaf)) (Open new) m was is sound = sign_refused texts s m was new sound error.NoLeaf (λ d. cc d) is
  step texts (Open s) (Signs (Err error.Device)) (Open new) m was is sound = sign_fails texts s m was new sound is
  step texts (Open s) (Signs (Err error.NoNumber)) (Open new) m was is sound = sign_refused texts s m was new sound error.NoNumber (λ d. cc d) is
  step texts (Open s) (Signs (Err error.NoKey)) (Open new) m was is sound = sign_refused texts s m was new sound error.NoKey (λ d. cc d) is
  step texts (Open s) (Signs (Err error.Foreign)) (Open new) m was is sound = sign_refused texts s m was new sound error.Foreign (λ d. cc d) is
  step texts (Open s) (Signs (Err error.Damaged)) (Open new) m was is sound = sign_refused texts s m was new sound error.Damaged (λ d. cc d) is
  step texts (Open s) (Commits status) (Open new) m was is sound = commits texts s m was new sound status is
  step texts (Open s) (Looks q answer) (Open new) m was is sound = quiet texts (Open s) m (Open new) (ap low.Open (ap (λ (k : Kept). k.0) (looks s q answer new is)))
  step texts (Open s) (Gives block answer) (Open new) m was is sound = quiet texts (Open s) m (Open new) (ap low.Open (ap (λ (k : Kept). k.0) (gives s block answer new is)))
  step texts (Open s) (Caches capacity) (Open new) m was is sound = quiet texts (Open s) m (Open new) (ap low.Open (ap released is.state))
  step texts (Open s) call after m was is sound = absurd is

-- ---- runs

-- the client is sound at all times
sound_now : (keys : Keys) (u : User) (run : List Event) → IsRun keys run → IsSound (client_of u run)
sound_now keys u [] is = tt
sound_now keys u (e ∷ older) is = go (e.user == u) (sound_now keys u older is.2)
  where
    go : (b : Bool) → IsSound (client_of u older) → IsSound (if b then e.after else client_of u older)
    go true before = is.1
    go false before = before

-- each user's part of a run
pub mirrors : (keys : Keys) (u : User) (run : List Event) → IsRun keys run → Mirrors (owner keys u) (client_of u run) (released_in u run)
mirrors keys u [] is = at_first (owner keys u)
mirrors keys u (e ∷ older) is = go (e.user == u) refl (mirrors keys u older is.2)
  where
    go : (b : Bool) → (e.user == u) ≡ b → Mirrors (owner keys u) (client_of u older) (released_in u older)
        → Mirrors (owner keys u) (if b then e.after else client_of u older) (if b then released_by e.call e.after ++ released_in u older else released_in u older)
    go true same m =
        step (owner keys u) (released_in u older) (client_of u older) e.call e.after m (sound_now keys u older is.2)
        (subst (λ (v : User). IsStep (owner keys v) (client_of v older) e.call e.after) (eqb-true e.user u same) is.0) is.1
    go false same m = m
