-- What holds of a user's client after each run.
use Rattle.std.proofs.Common.{◌≡◌, Bool, true, false, ◌==◌, List, [], ◌∷◌, ◌++◌, map, Option, Some, None, Ok, Err, Result, IfSome, IsSome, refl, sym, ap, subst, if◌then◌else◌}
use Rattle.std.specs.Option.{option_map_or}
use Rattle.std.specs.Result.{result_ok}
use Rattle.std.proofs.lemmas.Bool.{eqb-true}
use Rattle.layout.specs.declared.error.ReadError.{ReadError}
use Rattle.layout.specs.Format.{whole}
use Rattle.layout.specs.Types.{Bytes, User}
use Rattle.version_order.specs.Structure.{Structure}
use Rattle.pending_list.specs.Reply.{Reply, reply}
use Rattle.client_releases.specs.declared.error.ClientError.{ClientError}
use Rattle.client_releases.specs.declared.error.ClientError.TheVariants as error
use Rattle.agreement.specs.Runs.{View}
use Rattle.agreement.proofs.Members.{In, in-left}
use Rattle.release_runs.proofs.Files.{lies_on, still_sure}
use Rattle.release_runs.proofs.Holds as low_holds
use Rattle.release_runs.proofs.Runs as low_runs
use Rattle.client_verify.specs.State.{Checked, State, released}
use Rattle.client_verify.specs.Judged.{Handed}
use Rattle.client_steps.specs.Steps.{Asks, Begins, Caches, Call, Client, Closed, Closes, Commits, Crashes, Gains, Gives, HasGained, HasHeard, HasTaken, Hears, IsHandedBack, IsLeft, IsRefused, IsSound, IsStep, Looks, Open, Opens, Owner, Parts, Resigns, Signs, Takes, first}
use Rattle.client_runs.specs.Runs.{Event, IsRun, Keys, client_of, owner}
use Rattle.client_runs.specs.Released.{accepted_by, released as released_in, released_by, reply_texts, shown_in, stored_texts, tried_by, tried_view}
use Rattle.fork_consistency.proofs.Holds.{Holds, HoldsAfter, begin_fails, begins, closes, commits, event, later, opens, resign_fails_here, resigns_ok, sign_fails_here, signed_in, signs_ok, stays}
use Rattle.client_runs.proofs.Lowering.{low_client, low_gained, low_handed_back, low_left, low_owner, low_parts, with_ready}
use Rattle.client_runs.proofs.Quiet.{gives, hears, looks, takes}
use Rattle.client_runs.proofs.Replies.{AreSound, StaysSound, IsUnder, Kept, handed_on, judged_on, kept_sound, sound_later}

-- the structures of a user's accepted views
abbrev pub signed_of : User → List Event → List Structure
signed_of u [] = []
signed_of u (e ∷ older) =
    if e.user == u then map signed_in (accepted_by e.call (client_of u older) e.after (tried_view u older)) ++ signed_of u older else signed_of u older

module _ (o : Owner) where
  at_first : Holds o [] first [] [] None
  at_first = record { story = []; tried = None; low = low_runs.at_first (low_owner o); tries = tt; own = tt; viewed = refl }

  module _ (older : List Event) (texts : List Bytes) (signed : List Structure) (view : Option View) where
    -- ---- closed clients

    module _ (before : Client) (h : Holds o older before texts signed view) where
      left : (e : Event) (p : Parts) → IsLeft before p → Holds o (e ∷ older) (Closed p) texts signed view
      left e p is =
          closes o older texts signed view e before p h
          (low_holds.closes (low_owner o) (Unit {0}) (Unit {0}) h.story h.tried texts (λ t. t) (low_client before) (low_parts p) h.low
          (low_runs.left (low_owner o) h.story h.tried (low_client before) h.low.lies (low_parts p) (low_left before p is)))

    refused : (p : Parts) (e : ClientError) (q : Parts) → Holds o older (Closed p) texts signed view → IsRefused o p e q → HoldsAfter o older (Closed p) texts signed view (Opens (Err e)) (Closed q)
    refused p e q h is =
        closes o older texts signed view (event o (Opens (Err e)) (Closed q)) (Closed p) q h
        (low_holds.closes (low_owner o) (Unit {0}) (Unit {0}) h.story h.tried texts (λ t. t) (low_client (Closed p)) (low_parts q) h.low
        (lies_on (low_owner o) h.story h.tried (low_parts p).ledgers (low_parts q).ledgers p.journal.history q.journal.history h.low.lies (still_sure (low_parts p).ledgers (low_parts q).ledgers is.moments.ledgers) is.moments.records))

    handed_back : (s : State) (p : Parts) → Holds o older (Open s) texts signed view → IsHandedBack s p → HoldsAfter o older (Open s) texts signed view Closes (Closed p)
    handed_back s p h is =
        closes o older texts signed view (event o Closes (Closed p)) (Open s) p h
        (low_holds.closes (low_owner o) (Unit {0}) (Unit {0}) h.story h.tried texts (λ t. t) (low_client (Open s)) (low_parts p) h.low
        (low_runs.handed_back (low_owner o) h.story h.tried (low_client (Open s)) h.low.lies (low_parts p) (low_handed_back s p is).ledgers is.journal))

    gained : (p q : Parts) → Holds o older (Closed p) texts signed view → HasGained o p q → HoldsAfter o older (Closed p) texts signed view Gains (Closed q)
    gained p q h is =
        let more = low_gained o p q is in
        closes o older texts signed view (event o Gains (Closed q)) (Closed p) q h
        (low_holds.closes (low_owner o) (Unit {0}) (Unit {0}) h.story h.tried texts (λ t. t) (low_client (Closed p)) (low_parts q) h.low
        (low_runs.gained (low_owner o) h.story h.tried (low_client (Closed p)) h.low.lies (low_parts q) more.ledgers more.journal))

    -- ---- calls that release nothing

    module _ (s : State) (h : Holds o older (Open s) texts signed view) (new : State) (always : IsSound (Open new)) where
      same_as : (e : Event) → new ≡ s → Holds o (e ∷ older) (Open new) texts signed view
      same_as e is =
          stays o older texts signed view e s new h (ap released is) (ap (λ (n : State). n.pinned) is) (subst (λ (n : State). AreSound (e ∷ older) n) (sym is) (sound_later e older s h.own.replies)) always

      read_here : {B : Type 0} (texts_of : Reply → List B) (text : Bytes) (t : B) (r : Reply) → whole reply text ≡ Ok r → In t (texts_of r) → In t (option_map_or texts_of (result_ok (whole reply text)) [])
      read_here {B} texts_of text t r is i = subst (λ (x : Result Reply ReadError). In t (option_map_or texts_of (result_ok x) [])) (sym is) i

      hears_it : (text : Bytes) (answer : Result Asks ClientError) → HasHeard s text answer new → HoldsAfter o older (Open s) texts signed view (Hears text answer) (Open new)
      hears_it text (Err e) b = same_as (event o (Hears text (Err e)) (Open new)) b.err
      hears_it text (Ok answer) b =
          let g =
          judged_on (event o (Hears text (Ok answer)) (Open new)) older s text b.bytes (λ t r is i. read_here shown_in text t r is i)
          (λ t r is i. in-left t (option_map_or reply_texts (result_ok (whole reply text)) []) (stored_texts (Ok answer)) (read_here reply_texts text t r is i)) answer new h.own.replies b.judged in
          stays o older texts signed view (event o (Hears text (Ok answer)) (Open new)) s new h (hears s text (Ok answer) new b) g.quiet.pinned g.sound always

      takes_it : (block : Option Bytes) (answer : Result Asks ClientError) → HasTaken s block answer new → HoldsAfter o older (Open s) texts signed view (Takes block answer) (Open new)
      takes_it block (Err e) b = same_as (event o (Takes block (Err e)) (Open new)) b.err
      takes_it block (Ok answer) b =
          let e = event o (Takes block (Ok answer)) (Open new) in
          let g = go s.checked b.wants (sound_later e older s h.own.replies).checked b.handed in
          stays o older texts signed view e s new h (takes s block (Ok answer) new b) g.quiet.pinned g.sound always
        where
          go : (checked : Option Checked) → IsSome checked → IfSome checked (IsUnder (event o (Takes block (Ok answer)) (Open new) ∷ older) (record { user = s.user; pinned = s.pinned; last = s.last; declared = s.text })) → IfSome checked (λ k. Handed s k block answer new)
              → StaysSound (event o (Takes block (Ok answer)) (Open new) ∷ older) s new
          go None some u is = absurd (cc some)
          go (Some k) some u is =
              handed_on (event o (Takes block (Ok answer)) (Open new) ∷ older) s k block answer new (sound_later (event o (Takes block (Ok answer)) (Open new)) older s h.own.replies) u is

      sees : (e : Event) → (let k : Kept = (released new, new.pinned, new.checked, new.accepted) in k) ≡ (released s, s.pinned, s.checked, s.accepted) → Holds o (e ∷ older) (Open new) texts signed view
      sees e same =
          stays o older texts signed view e s new h (ap (λ (k : Kept). k.0) same) (ap (λ (k : Kept). k.1) same) (kept_sound (e ∷ older) s new same (sound_later e older s h.own.replies)) always

  -- ---- steps

  module _ (older : List Event) (texts : List Bytes) (signed : List Structure) (view : Option View) where
    step : (before : Client) (call : Call) (after : Client) → Holds o older before texts signed view → IsStep o before call after → IsSound after → HoldsAfter o older before texts signed view call after
    step (Closed p) (Opens (Ok x)) (Open s) h is sound = opens o older texts signed view p s x h is sound
    step (Closed p) (Opens (Err e)) (Closed q) h is sound = refused older texts signed view p e q h is
    step (Closed p) Crashes (Closed q) h is sound = left older texts signed view (Closed p) h (event o Crashes (Closed q)) q is
    step (Closed p) Gains (Closed q) h is sound = gained older texts signed view p q h is
    step (Closed p) call after h is sound = absurd is
    step (Open s) Closes (Closed p) h is sound = handed_back older texts signed view s p h is
    step (Open s) Crashes (Closed p) h is sound = left older texts signed view (Open s) h (event o Crashes (Closed p)) p is
    step (Open s) (Begins changes laid (Ok text)) (Open new) h is sound = begins o older texts signed view s h new sound changes laid text is
    step (Open s) (Begins changes laid (Err error.Device)) (Open new) h is sound = begin_fails o older texts signed view s h new sound changes laid is
    step (Open s) (Begins changes laid (Err error.Memory)) (Open new) h is sound = same_as older texts signed view s h new sound (event o (Begins changes laid (Err error.Memory)) (Open new)) (is.err (λ d. cc d))
    step (Open s) (Begins changes laid (Err error.NoLeaf)) (Open new) h is sound = same_as older texts signed view s h new sound (event o (Begins changes laid (Err error.NoLeaf)) (Open new)) (is.err (λ d. cc d))
    step (Open s) (Begins changes laid (Err error.NoNumber)) (Open new) h is sound = same_as older texts signed view s h new sound (event o (Begins changes laid (Err error.NoNumber)) (Open new)) (is.err (λ d. cc d))
    step (Open s) (Begins changes laid (Err error.NoKey)) (Open new) h is sound = same_as older texts signed view s h new sound (event o (Begins changes laid (Err error.NoKey)) (Open new)) (is.err (λ d. cc d))
    step (Open s) (Begins changes laid (Err error.Foreign)) (Open new) h is sound = same_as older texts signed view s h new sound (event o (Begins changes laid (Err error.Foreign)) (Open new)) (is.err (λ d. cc d))
    step (Open s) (Begins changes laid (Err error.Damaged)) (Open new) h is sound = same_as older texts signed view s h new sound (event o (Begins changes laid (Err error.Damaged)) (Open new)) (is.err (λ d. cc d))
    step (Open s) (Resigns n (Ok text)) (Open new) h is sound = resigns_ok o older texts signed view s h new sound n text is
    step (Open s) (Resigns n (Err error.Device)) (Open new) h is sound = resign_fails_here o older texts signed view s h new sound n is
    step (Open s) (Resigns n (Err error.Memory)) (Open new) h is sound = same_as older texts signed view s h new sound (event o (Resigns n (Err error.Memory)) (Open new)) (is.err (λ d. cc d))
    step (Open s) (Resigns n (Err error.NoLeaf)) (Open new) h is sound = same_as older texts signed view s h new sound (event o (Resigns n (Err error.NoLeaf)) (Open new)) (is.err (λ d. cc d))
    step (Open s) (Resigns n (Err error.NoNumber)) (Open new) h is sound = same_as older texts signed view s h new sound (event o (Resigns n (Err error.NoNumber)) (Open new)) (is.err (λ d. cc d))
    step (Open s) (Resigns n (Err error.NoKey)) (Open new) h is sound = same_as older texts signed view s h new sound (event o (Resigns n (Err error.NoKey)) (Open new)) (is.err (λ d. cc d))
    step (Open s) (Resigns n (Err error.Foreign)) (Open new) h is sound = same_as older texts signed view s h new sound (event o (Resigns n (Err error.Foreign)) (Open new)) (is.err (λ d. cc d))
    step (Open s) (Resigns n (Err error.Damaged)) (Open new) h is sound = same_as older texts signed view s h new sound (event o (Resigns n (Err error.Damaged)) (Open new)) (is.err (λ d. cc d))
    step (Open s) (Hears text answer) (Open new) h is sound = hears_it older texts signed view s h new sound text answer is
    step (Open s) (Takes block answer) (Open new) h is sound = takes_it older texts signed view s h new sound block answer is
    step (Open s) (Signs (Ok text)) (Open new) h is sound =
        with_ready s (HoldsAfter o older (Open s) texts signed view (Signs (Ok text)) (Open new)) is.ready (λ y ready. signs_ok o older texts signed view s h new sound y ready text is)
    step (Open s) (Signs (Err error.Device)) (Open new) h is sound =
        with_ready s (HoldsAfter o older (Open s) texts signed view (Signs (Err error.Device)) (Open new)) is.ready (λ y ready. sign_fails_here o older texts signed view s h new sound y ready is)
    step (Open s) (Signs (Err error.Memory)) (Open new) h is sound = same_as older texts signed view s h new sound (event o (Signs (Err error.Memory)) (Open new)) (is.err (λ d. cc d))
    step (Open s) (Signs (Err error.NoLeaf)) (Open new) h is sound = same_as older texts signed view s h new sound (event o (Signs (Err error.NoLeaf)) (Open new)) (is.err (λ d. cc d))
    step (Open s) (Signs (Err error.NoNumber)) (Open new) h is sound = same_as older texts signed view s h new sound (event o (Signs (Err error.NoNumber)) (Open new)) (is.err (λ d. cc d))
    step (Open s) (Signs (Err error.NoKey)) (Open new) h is sound = same_as older texts signed view s h new sound (event o (Signs (Err error.NoKey)) (Open new)) (is.err (λ d. cc d))
    step (Open s) (Signs (Err error.Foreign)) (Open new) h is sound = same_as older texts signed view s h new sound (event o (Signs (Err error.Foreign)) (Open new)) (is.err (λ d. cc d))
    step (Open s) (Signs (Err error.Damaged)) (Open new) h is sound = same_as older texts signed view s h new sound (event o (Signs (Err error.Damaged)) (Open new)) (is.err (λ d. cc d))
    step (Open s) (Commits status) (Open new) h is sound = commits o older texts signed view s h new sound status is
    step (Open s) (Looks q answer) (Open new) h is sound = sees older texts signed view s h new sound (event o (Looks q answer) (Open new)) (looks s q answer new is)
    step (Open s) (Gives block answer) (Open new) h is sound = sees older texts signed view s h new sound (event o (Gives block answer) (Open new)) (gives s block answer new is)
    step (Open s) (Caches capacity) (Open new) h is sound = sees older texts signed view s h new sound (event o (Caches capacity) (Open new)) (ap (λ (n : State). (released n, n.pinned, n.checked, n.accepted)) is.state)
    step (Open s) call after h is sound = absurd is

-- ---- runs

abbrev event_of : User → Event → Event
event_of u e = record { user = u; call = e.call; after = e.after }

pub holds_at : (keys : Keys) (u : User) (run : List Event) → IsRun keys run → Holds (owner keys u) run (client_of u run) (released_in u run) (signed_of u run) (tried_view u run)
holds_at keys u [] is = at_first (owner keys u)
holds_at keys u (e ∷ older) is = go (e.user == u) refl (holds_at keys u older is.2)
  where
    go : (b : Bool) → (e.user == u) ≡ b → Holds (owner keys u) older (client_of u older) (released_in u older) (signed_of u older) (tried_view u older)
        → Holds (owner keys u) (e ∷ older) (if b then e.after else client_of u older) (if b then released_by e.call e.after ++ released_in u older else released_in u older)
        (if b then map signed_in (accepted_by e.call (client_of u older) e.after (tried_view u older)) ++ signed_of u older else signed_of u older)
        (if b then tried_by e.call (client_of u older) (tried_view u older) else tried_view u older)
    go true same h =
        subst
        (λ (v : User). Holds (owner keys u) (event_of v e ∷ older) e.after (released_by e.call e.after ++ released_in u older)
        (map signed_in (accepted_by e.call (client_of u older) e.after (tried_view u older)) ++ signed_of u older) (tried_by e.call (client_of u older) (tried_view u older)))
        (sym (eqb-true e.user u same))
        (step (owner keys u) older (released_in u older) (signed_of u older) (tried_view u older) (client_of u older) e.call e.after h
        (subst (λ (v : User). IsStep (owner keys v) (client_of v older) e.call e.after) (eqb-true e.user u same) is.0) is.1)
    go false same h = later (owner keys u) e older (client_of u older) (released_in u older) (signed_of u older) (tried_view u older) h
