-- Steps and their answers tell user, call and released texts of each event.
use Rattle.std.proofs.Common.{◌≡◌, List, [], ◌∷◌, Option, Some, None, Ok, Err, refl, sym, ap, ◌∙◌, subst, option_map}
use Rattle.std.specs.List.{AllZip}
use Rattle.std.specs.Option.{option_and_then}
use Rattle.std.specs.Vec.{vec_items}
use Rattle.layout.specs.Types.{Bytes, User}
use Rattle.version_order.specs.Structure.{Structure}
use Rattle.update_cert.specs.Cert.{Cert}
use Rattle.pending_list.specs.declared.signed.Signed.{Signed}
use Rattle.client_journal.specs.Records.{State as Recorded, Idle, Declared, Signed as Ended}
use Rattle.client_releases.specs.declared.phase.Phase.TheVariants as phase
use Rattle.client_releases.specs.Told.{Told, after_cert, after_structure, cert_in, structure_in, told_by, told_of}
use Rattle.client_verify.specs.State.{State, released as released_in_state}
use Rattle.client_steps.specs.Steps.{Call, Client, Closed, IsOpened, IsStep, Open, Opens, Owner, Parts}
use Rattle.release_runs.specs.Released.{found_text}
use Rattle.client_runs.specs.Carried.{IsEventOf, Keep}
use Rattle.client_runs.specs.Released.{released_by}
use Rattle.client_runs.specs.Runs.{Event, IsRun, Keys, client_of, owner}
use Rattle.client_runs.specs.Told.{IsTold, call_of, resent}
use Rattle.client_runs.specs.declared.world.Act.{Act}
use Rattle.client_runs.specs.declared.world.Act.TheVariants as act
use Rattle.client_runs.specs.declared.world.Answer.{Answer}
use Rattle.client_runs.specs.declared.world.Answer.TheVariants as answer
use Rattle.client_runs.specs.declared.world.WorldStep.{WorldStep}
use Rattle.fork_consistency.specs.SameEvents.{IsSameEvent}

-- ---- what an opened client found

-- it is what is told of the client
abbrev IsAllTold : Told → Type 0
IsAllTold t = found_text t.text ≡ found_text (resent t.phase t.text)

of_cert : (last : Option (Signed Structure)) (text : Bytes) (o : Option (Signed Cert)) (t : Told) → option_map (after_cert last text) o ≡ Some t → IsAllTold t
of_cert last text None t e = absurd (cc e)
of_cert last text (Some c) t e = let one : after_cert last text c ≡ t = cc e in subst IsAllTold one refl

of_structure : (text : Bytes) (o : Option (Signed Structure)) (t : Told) → option_map (after_structure text) o ≡ Some t → IsAllTold t
of_structure text None t e = absurd (cc e)
of_structure text (Some z) t e = let one : after_structure text z ≡ t = cc e in subst IsAllTold one refl

by_records : (u : User) (recorded : Recorded) (t : Told) → told_by u recorded ≡ Some t → IsAllTold t
by_records u Idle t e =
    let first : Told = record { number = 0; last = None; phase = phase.Idle; text = [] } in
    let one : first ≡ t = cc e in
    subst IsAllTold one refl
by_records u (Declared None text) t e = of_cert None text (cert_in u text) t e
by_records u (Declared (Some last) text) t e = go (structure_in u last) e
  where
    go : (o : Option (Signed Structure)) → option_and_then (λ z. option_map (after_cert (Some z) text) (cert_in u text)) o ≡ Some t → IsAllTold t
    go None is = absurd (cc is)
    go (Some z) is = of_cert (Some z) text (cert_in u text) t is
by_records u (Ended text) t e = of_structure text (structure_in u text) t e

found_told : (o : Owner) (p : Parts) (s : State) → IsOpened o p s → found_text s.text ≡ found_text (resent s.phase s.text)
found_told o p s is = by_records s.user is.told.recorded (told_of s.phase (released_in_state s)) is.told.told

-- ---- what a call releases

module _ {A : Type 0} (o : Owner) where
  -- what an answer says of it
  abbrev released_told : Answer A → List Bytes
  released_told (answer.Opened how text) = found_text text.items
  released_told (answer.Begun (Ok text)) = vec_items text ∷ []
  released_told (answer.Signed (Ok x)) = x.text.items ∷ []
  released_told other = []

  -- the call of a step, with what is told of it, releases what the answer says
  abbrev ReleasesTold : Act A → Answer A → Client → Client → Call → Type 0
  ReleasesTold a told before after call = IsTold a told after → IsStep o before call after → released_by call after ≡ released_told told

  this_call : (a : Act A) (told : Answer A) (before after : Client) (call this : Call) → Some this ≡ Some call → ReleasesTold a told before after this → ReleasesTold a told before after call
  this_call a told before after call this at is = let same : this ≡ call = cc at in subst (ReleasesTold a told before after) same is

  releases_told : (a : Act A) (told : Answer A) (before after : Client) (call : Call) → call_of a told ≡ Some call → ReleasesTold a told before after call
  releases_told act.Open (answer.Opened how text) before after call at = this_call act.Open (answer.Opened how text) before after call (Opens (Ok tt)) at (opened before after)
    where
      opened : (before after : Client) → ReleasesTold act.Open (answer.Opened how text) before after (Opens (Ok tt))
      opened (Closed p) (Open s) told is = found_told o p s is ∙ ap found_text (sym told.1)
      opened (Closed p) (Closed q) told is = absurd is
      opened (Open s) (Open t) told is = absurd is
      opened (Open s) (Closed q) told is = absurd is
  releases_told act.Open (answer.Refused e) before after call at = this_call act.Open (answer.Refused e) before after call _ at (λ told is. refl)
  releases_told act.Close answer.Closed before after call at = this_call act.Close answer.Closed before after call _ at (λ told is. refl)
  releases_told act.Gain answer.Gained before after call at = this_call act.Gain answer.Gained before after call _ at (λ told is. refl)
  releases_told (act.Begin changes laid) (answer.Begun (Ok r)) before after call at = this_call (act.Begin changes laid) (answer.Begun (Ok r)) before after call _ at (λ told is. refl)
  releases_told (act.Begin changes laid) (answer.Begun (Err e)) before after call at = this_call (act.Begin changes laid) (answer.Begun (Err e)) before after call _ at (λ told is. refl)
  releases_told (act.Resign n) (answer.Begun (Ok r)) before after call at = this_call (act.Resign n) (answer.Begun (Ok r)) before after call _ at (λ told is. refl)
  releases_told (act.Resign n) (answer.Begun (Err e)) before after call at = this_call (act.Resign n) (answer.Begun (Err e)) before after call _ at (λ told is. refl)
  releases_told (act.Reply text) (answer.Asks r) before after call at = this_call (act.Reply text) (answer.Asks r) before after call _ at (λ told is. refl)
  releases_told (act.Block block) (answer.Asks r) before after call at = this_call (act.Block block) (answer.Asks r) before after call _ at (λ told is. refl)
  releases_told act.Sign (answer.Signed (Ok x)) before after call at = this_call act.Sign (answer.Signed (Ok x)) before after call _ at (λ told is. refl)
  releases_told act.Sign (answer.Signed (Err e)) before after call at = this_call act.Sign (answer.Signed (Err e)) before after call _ at (λ told is. refl)
  releases_told (act.Committed status) answer.Committed before after call at = this_call (act.Committed status) answer.Committed before after call _ at (λ told is. refl)
  releases_told (act.Look p i) (answer.Sees r) before after call at = this_call (act.Look p i) (answer.Sees r) before after call _ at (λ told is. refl)
  releases_told (act.Kind p i) (answer.Sees r) before after call at = this_call (act.Kind p i) (answer.Sees r) before after call _ at (λ told is. refl)
  releases_told (act.Free p first last) (answer.Sees r) before after call at = this_call (act.Free p first last) (answer.Sees r) before after call _ at (λ told is. refl)
  releases_told (act.Give block) (answer.Sees r) before after call at = this_call (act.Give block) (answer.Sees r) before after call _ at (λ told is. refl)
  releases_told (act.Cache capacity) answer.Cached before after call at = this_call (act.Cache capacity) answer.Cached before after call _ at (λ told is. refl)
  releases_told (act.Crash ledgers journal) answer.Crashed before after call at = this_call (act.Crash ledgers journal) answer.Crashed before after call _ at (λ told is. refl)
  releases_told a told before after call at = absurd (cc at)

-- ---- events

same_event : {A : Type 0} (step : WorldStep A) (told : Answer A) (o p : Owner) (before_d before_e : Client) (d e : Event) → IsEventOf step told d → IsEventOf step told e → IsStep o before_d d.call d.after → IsStep p before_e e.call e.after → IsSameEvent d e
same_event {A} step told o p before_d before_e d e of_d of_e is_d is_e =
    let both : Some d.call ≡ Some e.call = sym of_d.call ∙ of_e.call in
    record {
      user = of_d.user ∙ sym of_e.user;
      call = cc both;
      released = releases_told {A = A} o step.act told before_d d.after d.call of_d.call of_d.told is_d ∙ sym (releases_told {A = A} p step.act told before_e e.after e.call of_e.call of_e.told is_e);
    }

pub same_events : {A : Type 0} (keys : Keys) (steps : List (WorldStep A)) (answers : List (Answer A)) (run other : List Event) → IsRun keys run → IsRun keys other → Keep steps answers run → Keep steps answers other → AllZip IsSameEvent run other
same_events keys [] [] [] [] is js k l = tt
same_events keys (s ∷ steps) (answer.NotTaken ∷ answers) run other is js k l = same_events keys steps answers run other is js k.1 l.1
same_events keys (s ∷ steps) (a ∷ answers) (d ∷ run) (e ∷ other) is js k l =
    (same_event s a (owner keys d.user) (owner keys e.user) (client_of d.user run) (client_of e.user other) d e k.0 l.0 is.0 js.0, same_events keys steps answers run other is.2 js.2 k.1 l.1)
same_events keys [] [] [] (e ∷ other) is js k l = absurd l
same_events keys (s ∷ steps) (a ∷ answers) (d ∷ run) [] is js k l = absurd l
same_events keys steps answers run other is js k l = absurd k
