-- Each certificate that a client released was begun with contents that were laid out: in texts of which something holds, as
-- that they are among the texts of the run.
use Rattle.std.proofs.Common.{◌≡◌, ℕ, ◌+◌, Bool, true, false, ◌==◌, List, [], ◌∷◌, ◌++◌, Option, Some, None, Ok, Err, IfSome, refl, sym, ap, ◌∙◌, subst, inl, inr, if◌then◌else◌}
use Rattle.std.specs.List.{flat_map}
use Rattle.std.proofs.lemmas.Bool.{eqb-true}
use Rattle.layout.specs.Types.{Bytes, Digest, User}
use Rattle.lms_sign.specs.Signature.{signature_of}
use Rattle.update_cert.specs.Change.{Change}
use Rattle.update_cert.specs.Cert.{Cert, cert}
use Rattle.version_order.specs.Structure.{structure}
use Rattle.pending_list.specs.declared.signed.Signed.{Signed}
use Rattle.wire.specs.declared.kinds.Status.{Status}
use Rattle.wire.specs.declared.kinds.Status.TheVariants as status
use Rattle.client_releases.specs.declared.error.ClientError.{ClientError}
use Rattle.client_releases.specs.declared.error.ClientError.TheVariants as error
use Rattle.client_releases.specs.declared.phase.Phase.TheVariants as phase
use Rattle.client_releases.specs.Told.{Released, cert_in}
use Rattle.client_verify.specs.Laid.{are_laid}
use Rattle.client_verify.specs.State.{Ready, State, newest_key, next_cert, next_structure, released as released_in_state, signing_key}
use Rattle.agreement.proofs.Members.{In, in-left, in-right}
use Rattle.release_runs.proofs.Files.{lies_on, still_sure}
use Rattle.release_runs.proofs.Holds as low_holds
use Rattle.release_runs.proofs.Opening.{IsOf, opened_holds}
use Rattle.release_runs.proofs.Once.{came}
use Rattle.release_runs.proofs.Releasing.{IsTriedCert, IsTriedStructure, declare_fails, declares, resign_fails, resigns, sign_fails, signs}
use Rattle.release_runs.proofs.Runs as low_runs
use Rattle.release_runs.proofs.Stories.{IsAfter, IsCertAfter, OfCert, OfStructure, Release, cert_of, phase_in, text as release_text}
use Rattle.release_runs.proofs.Texts.{no_cert}
use Rattle.release_runs.specs.Steps as low
use Rattle.client_steps.specs.Steps.{Begins, Caches, Call, Client, Closed, Closes, Commits, Crashes, Gains, Gives, HasBegun, HasCommitted, HasGained, HasResigned, HasSigned, Hears, IsHandedBack, IsLeft, IsOpened, IsRefused, IsSound, IsStep, Looks, Open, Opens, Owner, Parts, Resigns, Signs, Takes, first}
use Rattle.fork_consistency.proofs.Holds.{told_declared}
use Rattle.fork_consistency.proofs.BlocksOf.{are_hashed, blocks_at, blocks_by}
use Rattle.client_runs.specs.Released.{hashed_at, released, released_by}
use Rattle.client_runs.specs.Runs.{Event, IsRun, Keys, client_of, owner}
use Rattle.client_runs.proofs.Lowering.{low_begin_failed, low_begun, low_client, low_gained, low_handed_back, low_left, low_opened, low_owner, low_parts, low_resign_failed, low_resigned, low_sign_failed, low_signed, with_ready}
use Rattle.client_runs.proofs.Quiet.{gives, hears, looks, takes}
use Rattle.client_runs.proofs.Replies.{Kept}

-- they are among these texts
abbrev pub AmongThem : List Bytes → Cert → List Bytes → Type 0
AmongThem texts c laid = (t : Bytes) → In t laid → In t texts

module _ (Inside : Cert → List Bytes → Type 0) where
  -- the contents that the certificate's changes name were laid out, in such texts
  pub record IsBegun (c : Cert) : Type 0 where
    pub laid : List Bytes
    pub inside : Inside c laid
    pub are : are_laid laid c.changes ≡ true

  -- where a call of this client lays texts out, they are such
  abbrev pub LaysSuch : Client → Call → Type 0
  LaysSuch (Open s) (Begins changes laid (Ok text)) = Inside (next_cert s changes) laid
  LaysSuch (Open s) (Begins changes laid (Err error.Device)) = Inside (next_cert s changes) laid
  LaysSuch client call = Unit {0}

  -- so it is with each call of the user in a run
  abbrev pub AllLaySuch : User → List Event → Type 0
  AllLaySuch u run = (later older : List Event) (e : Event) → run ≡ later ++ e ∷ older → e.user ≡ u → LaysSuch (client_of u older) e.call

  abbrev TriedIsBegun : Option Release → Type 0
  TriedIsBegun None = Unit {0}
  TriedIsBegun (Some (OfCert n c q)) = IsBegun c
  TriedIsBegun (Some (OfStructure n z q)) = Unit {0}

  module _ (o : Owner) where
    abbrev Low : List Release → Option Release → Client → List Bytes → Type 0
    Low story tried client sent = low_holds.Holds (low_owner o) (Unit {0}) story tried (low_client client) sent

    abbrev AreBegun : List Release → Type 0
    AreBegun story = (n : ℕ) (c : Cert) (q : ℕ) → In (OfCert n c q) story → IsBegun c

    -- After a run the client has a story each of whose certificates was begun so, and so was one that was tried since.
    pub record Holds (client : Client) (sent : List Bytes) : Type 0 where
      pub story : List Release
      pub tried : Option Release
      pub low : Low story tried client sent
      pub certs : AreBegun story
      pub last : TriedIsBegun tried

    at_first : Holds first []
    at_first = record { story = []; tried = None; low = low_runs.at_first (low_owner o); certs = λ n c q i. absurd i; last = tt }

    abbrev After : List Bytes → Call → Client → Type 0
    After sent call after = Holds after (released_by call after ++ sent)

    with_low : (before after : Client) (sent more : List Bytes) → (h : Holds before sent) → Low h.story h.tried after more → Holds after more
    with_low before after sent more h low = record { story = h.story; tried = h.tried; low = low; certs = h.certs; last = h.last }

    -- ---- closed clients

    left : (before : Client) (sent : List Bytes) (p : Parts) → Holds before sent → IsLeft before p → Holds (Closed p) sent
    left before sent p h is =
        with_low before (Closed p) sent sent h
        (low_holds.closes (low_owner o) (Unit {0}) (Unit {0}) h.story h.tried sent (λ t. t) (low_client before) (low_parts p) h.low
        (low_runs.left (low_owner o) h.story h.tried (low_client before) h.low.lies (low_parts p) (low_left before p is)))

    refused : (p : Parts) (e : ClientError) (q : Parts) (sent : List Bytes) → Holds (Closed p) sent → IsRefused o p e q → Holds (Closed q) sent
    refused p e q sent h is =
        with_low (Closed p) (Closed q) sent sent h
        (low_holds.closes (low_owner o) (Unit {0}) (Unit {0}) h.story h.tried sent (λ t. t) (low_client (Closed p)) (low_parts q) h.low
        (lies_on (low_owner o) h.story h.tried (low_parts p).ledgers (low_parts q).ledgers p.journal.history q.journal.history h.low.lies (still_sure (low_parts p).ledgers (low_parts q).ledgers is.moments.ledgers) is.moments.records))

    gained : (p q : Parts) (sent : List Bytes) → Holds (Closed p) sent → HasGained o p q → Holds (Closed q) sent
    gained p q sent h is =
        let more = low_gained o p q is in
        with_low (Closed p) (Closed q) sent sent h
        (low_holds.closes (low_owner o) (Unit {0}) (Unit {0}) h.story h.tried sent (λ t. t) (low_client (Closed p)) (low_parts q) h.low
        (low_runs.gained (low_owner o) h.story h.tried (low_client (Closed p)) h.low.lies (low_parts q) more.ledgers more.journal))

    handed_back : (s : State) (p : Parts) (sent : List Bytes) → Holds (Open s) sent → IsHandedBack s p → Holds (Closed p) sent
    handed_back s p sent h is =
        with_low (Open s) (Closed p) sent sent h
        (low_holds.closes (low_owner o) (Unit {0}) (Unit {0}) h.story h.tried sent (λ t. t) (low_client (Open s)) (low_parts p) h.low
        (low_runs.handed_back (low_owner o) h.story h.tried (low_client (Open s)) h.low.lies (low_parts p) (low_handed_back s p is).ledgers is.journal))

    opens : (p : Parts) (s : State) (x : Unit {0}) (sent : List Bytes) → Holds (Closed p) sent → IsOpened o p s → IsSound (Open s) → After sent (Opens (Ok x)) (Open s)
    opens p s x sent h is sound =
        let k = opened_holds (low_owner o) (Unit {0}) h.story h.tried sent (low_parts p) h.low (released_in_state s) (low_opened o p s is) sound.0 x in
        record {
          story = k.0;
          tried = None;
          low = low_holds.where_in_turn (low_owner o) (Unit {0} × Unit {0}) (Unit {0}) k.0 None (low_client (Open s)) (released_by (Opens (Ok x)) (Open s) ++ sent) (λ _. (tt, tt)) k.3;
          certs = found k.0 k.1;
          last = tt;
        }
      where
        found : (one : List Release) → IsOf h.story h.tried one → AreBegun one
        found one (inl same) = subst AreBegun (sym same) h.certs
        found one (inr (r, tried, same)) = subst AreBegun (sym same) (both r (subst TriedIsBegun tried h.last))
          where
            both : (r : Release) → TriedIsBegun (Some r) → AreBegun (r ∷ h.story)
            both (OfCert m d p) is n c q (inl e) = let same : c ≡ d = cc e in subst IsBegun (sym same) is
            both (OfStructure m z p) is n c q (inl e) = absurd (cc e)
            both r is n c q (inr i) = h.certs n c q i

    -- ---- open ones

    same_released : (s new : State) (sent : List Bytes) → Holds (Open s) sent → released_in_state new ≡ released_in_state s → Holds (Open new) sent
    same_released s new sent h same =
        with_low (Open s) (Open new) sent sent h (subst (λ (r : Released). low_holds.Holds (low_owner o) (Unit {0}) h.story h.tried (low.Open r) sent) (sym same) h.low)

    same_as : (s new : State) (sent : List Bytes) → Holds (Open s) sent → new ≡ s → Holds (Open new) sent
    same_as s new sent h is = same_released s new sent h (ap released_in_state is)

    begins : (s new : State) (changes : List (Change Digest)) (laid : List Bytes) (text : Bytes) (sent : List Bytes) → IsSound (Open s) → Inside (next_cert s changes) laid → Holds (Open s) sent → HasBegun s changes laid (Ok text) new → After sent (Begins changes laid (Ok text)) (Open new)
    begins s new changes laid text sent always inside h b =
        let k = declares (low_owner o) (Unit {0}) h.story h.tried sent (released_in_state s) h.low (newest_key s) (next_cert s changes) (released_in_state new) text (low_begun s new always.0.some changes laid text b) in
        record {
          story = OfCert (newest_key s) (next_cert s changes) k.0 ∷ h.story;
          tried = None;
          low =
              low_holds.where_in_turn (low_owner o) ((s.number + 1 ≡ s.number + 1) × Unit {0}) (Unit {0}) (OfCert (newest_key s) (next_cert s changes) k.0 ∷ h.story) None (low_client (Open new)) (text ∷ sent)
              (λ _. (refl, tt)) k.1;
          certs = λ n c q i. elim i [
            | inl e ↦ (let same : c ≡ next_cert s changes = cc e in subst IsBegun (sym same) (record { laid = laid; inside = inside; are = b.were_laid }))
            | inr j ↦ h.certs n c q j
          ];
          last = tt;
        }

    begin_fails : (s new : State) (changes : List (Change Digest)) (laid : List Bytes) (sent : List Bytes) → IsSound (Open s) → Inside (next_cert s changes) laid → Holds (Open s) sent → HasBegun s changes laid (Err error.Device) new → Holds (Open new) sent
    begin_fails s new changes laid sent always inside h b =
        let k = declare_fails (low_owner o) (Unit {0}) h.story h.tried sent (released_in_state s) h.low (newest_key s) (next_cert s changes) (released_in_state new) error.Device (low_begin_failed s new always.0.some changes laid b) in
        record {
          story = h.story;
          tried = k.0;
          low = low_holds.where_in_turn (low_owner o) ((s.number + 1 ≡ s.number + 1) × Unit {0}) (Unit {0}) h.story k.0 (low_client (Open new)) sent (λ _. (refl, tt)) k.2;
          certs = h.certs;
          last = tried_cert k.0 k.1;
        }
      where
        tried_cert : (some : Option Release) → IsTriedCert (newest_key s) (next_cert s changes) some → TriedIsBegun some
        tried_cert some (inl none) = subst TriedIsBegun (sym none) tt
        tried_cert some (inr (q, one)) = subst TriedIsBegun (sym one) (record { laid = laid; inside = inside; are = b.were_laid })

    -- the certificate that is declared was begun so
    declared_begun : (story : List Release) (c : Cert) → phase_in story ≡ phase.Declared → IsCertAfter story c → AreBegun story → IsBegun c
    declared_begun [] c now turn certs = absurd (cc now)
    declared_begun (OfCert n d q ∷ older) c now turn certs = subst IsBegun (sym turn) (certs n d q (inl refl))
    declared_begun (OfStructure n z q ∷ older) c now turn certs = absurd (cc now)

    module _ (s new : State) (n : ℕ) (sent : List Bytes) (h : Holds (Open s) sent) where
      at_declared : s.phase ≡ phase.Declared → phase_in h.story ≡ phase.Declared
      at_declared now = told_declared (phase_in h.story) s.phase (h.low.own.stands (λ down. let two : phase.Declared ≡ phase.Failed = sym now ∙ down in cc two)).phase now

      resigns_ok : (text : Bytes) → HasResigned s n (Ok text) new → After sent (Resigns n (Ok text)) (Open new)
      resigns_ok text b =
          let k = resigns (low_owner o) (Unit {0}) h.story h.tried sent (released_in_state s) h.low n (released_in_state new) text (low_resigned s new n text b) in
          let begun = declared_begun h.story k.0 (at_declared b.declared) k.2.is_story.0.next.turn h.certs in
          record {
            story = OfCert n k.0 k.1 ∷ h.story;
            tried = None;
            low = low_holds.where_in_turn (low_owner o) (Unit {0} × Unit {0}) (Unit {0}) (OfCert n k.0 k.1 ∷ h.story) None (low_client (Open new)) (text ∷ sent) (λ _. (tt, tt)) k.2;
            certs = λ m c q i. elim i [
              | inl e ↦ (let same : c ≡ k.0 = cc e in subst IsBegun (sym same) begun)
              | inr j ↦ h.certs m c q j
            ];
            last = tt;
          }

      resign_fails_here : HasResigned s n (Err error.Device) new → Holds (Open new) sent
      resign_fails_here b =
          let k = resign_fails (low_owner o) (Unit {0}) h.story h.tried sent (released_in_state s) h.low n (released_in_state new) error.Device (low_resign_failed s new n b) in
          record {
            story = h.story;
            tried = k.1;
            low = low_holds.where_in_turn (low_owner o) (Unit {0} × Unit {0}) (Unit {0}) h.story k.1 (low_client (Open new)) sent (λ _. (tt, tt)) k.3;
            certs = h.certs;
            last = tried_again k.0 k.1 k.2 k.3.is_tried;
          }
        where
          tried_again : (c : Cert) (some : Option Release) → IsTriedCert n c some → IfSome some (IsAfter (low_owner o) h.story) → TriedIsBegun some
          tried_again c some (inl none) after = subst TriedIsBegun (sym none) tt
          tried_again c some (inr (q, one)) after =
              let next = subst (λ (t : Option Release). IfSome t (IsAfter (low_owner o) h.story)) one after in
              subst TriedIsBegun (sym one) (declared_begun h.story c (at_declared b.declared) next.next.turn h.certs)

    signs_ok : (s new : State) (y : Ready) → s.accepted ≡ Some y → (text : Bytes) (sent : List Bytes) → IsSound (Open s) → Holds (Open s) sent → HasSigned s (Ok text) new → After sent (Signs (Ok text)) (Open new)
    signs_ok s new y ready text sent always h b =
        let k = signs (low_owner o) (Unit {0}) h.story h.tried sent (released_in_state s) h.low (signing_key s y) (next_structure s y) (released_in_state new) text (low_signed s new y ready text always b) in
        record {
          story = OfStructure (signing_key s y) (next_structure s y) k.0 ∷ h.story;
          tried = None;
          low = low_holds.where_in_turn (low_owner o) (Unit {0} × Unit {0}) (Unit {0}) (OfStructure (signing_key s y) (next_structure s y) k.0 ∷ h.story) None (low_client (Open new)) (text ∷ sent) (λ _. (tt, tt)) k.1;
          certs = λ n c q i. elim i [
            | inl e ↦ absurd (cc e)
            | inr j ↦ h.certs n c q j
          ];
          last = tt;
        }

    sign_fails_here : (s new : State) (y : Ready) → s.accepted ≡ Some y → (sent : List Bytes) → IsSound (Open s) → Holds (Open s) sent → HasSigned s (Err error.Device) new → Holds (Open new) sent
    sign_fails_here s new y ready sent always h b =
        let k = sign_fails (low_owner o) (Unit {0}) h.story h.tried sent (released_in_state s) h.low (signing_key s y) (next_structure s y) (released_in_state new) error.Device (low_sign_failed s new y ready always b) in
        record {
          story = h.story;
          tried = k.0;
          low = low_holds.where_in_turn (low_owner o) (Unit {0} × Unit {0}) (Unit {0}) h.story k.0 (low_client (Open new)) sent (λ _. (tt, tt)) k.2;
          certs = h.certs;
          last = tried_structure k.0 k.1;
        }
      where
        tried_structure : (some : Option Release) → IsTriedStructure (signing_key s y) (next_structure s y) some → TriedIsBegun some
        tried_structure some (inl none) = subst TriedIsBegun (sym none) tt
        tried_structure some (inr (q, one)) = subst TriedIsBegun (sym one) tt

    commits : (s new : State) (st : Status) (sent : List Bytes) → Holds (Open s) sent → HasCommitted s st new → Holds (Open new) sent
    commits s new status.Ok sent h b =
        with_low (Open s) (Open new) sent sent h
        (low_holds.commits (low_owner o) (Unit {0}) (Unit {0}) h.story h.tried sent (λ t. t) (released_in_state s) (released_in_state new) h.low (record { signed = b.signed; state = ap released_in_state b.state }))
    commits s new other sent h b = same_as s new sent h b.state

    step : (before : Client) (call : Call) (after : Client) (sent : List Bytes) → LaysSuch before call → IsSound before → Holds before sent → IsStep o before call after → IsSound after → After sent call after
    step (Closed p) (Opens (Ok x)) (Open s) sent into was h is sound = opens p s x sent h is sound
    step (Closed p) (Opens (Err e)) (Closed q) sent into was h is sound = refused p e q sent h is
    step (Closed p) Crashes (Closed q) sent into was h is sound = left (Closed p) sent q h is
    step (Closed p) Gains (Closed q) sent into was h is sound = gained p q sent h is
    step (Closed p) call after sent into was h is sound = absurd is
    step (Open s) Closes (Closed p) sent into was h is sound = handed_back s p sent h is
    step (Open s) Crashes (Closed p) sent into was h is sound = left (Open s) sent p h is
    step (Open s) (Begins changes laid (Ok text)) (Open new) sent into was h is sound = begins s new changes laid text sent was into h is
    step (Open s) (Begins changes laid (Err error.Device)) (Open new) sent into was h is sound = begin_fails s new changes laid sent was into h is
    step (Open s) (Begins changes laid (Err error.Memory)) (Open new) sent into was h is sound = same_as s new sent h (is.err (λ d. cc d))
    step (Open s) (Begins changes laid (Err error.NoLeaf)) (Open new) sent into was h is sound = same_as s new sent h (is.err (λ d. cc d))
    step (Open s) (Begins changes laid (Err error.NoNumber)) (Open new) sent into was h is sound = same_as s new sent h (is.err (λ d. cc d))
    step (Open s) (Begins changes laid (Err error.NoKey)) (Open new) sent into was h is sound = same_as s new sent h (is.err (λ d. cc d))
    step (Open s) (Begins changes laid (Err error.Foreign)) (Open new) sent into was h is sound = same_as s new sent h (is.err (λ d. cc d))
    step (Open s) (Begins changes laid (Err error.Damaged)) (Open new) sent into was h is sound = same_as s new sent h (is.err (λ d. cc d))
    step (Open s) (Resigns n (Ok text)) (Open new) sent into was h is sound = resigns_ok s new n sent h text is
    step (Open s) (Resigns n (Err error.Device)) (Open new) sent into was h is sound = resign_fails_here s new n sent h is
    step (Open s) (Resigns n (Err error.Memory)) (Open new) sent into was h is sound = same_as s new sent h (is.err (λ d. cc d))
    step (Open s) (Resigns n (Err error.NoLeaf)) (Open new) sent into was h is sound = same_as s new sent h (is.err (λ d. cc d))
    step (Open s) (Resigns n (Err error.NoNumber)) (Open new) sent into was h is sound = same_as s new sent h (is.err (λ d. cc d))
    step (Open s) (Resigns n (Err error.NoKey)) (Open new) sent into was h is sound = same_as s new sent h (is.err (λ d. cc d))
    step (Open s) (Resigns n (Err error.Foreign)) (Open new) sent into was h is sound = same_as s new sent h (is.err (λ d. cc d))
    step (Open s) (Resigns n (Err error.Damaged)) (Open new) sent into was h is sound = same_as s new sent h (is.err (λ d. cc d))
    step (Open s) (Hears text answer) (Open new) sent into was h is sound = same_released s new sent h (hears s text answer new is)
    step (Open s) (Takes block answer) (Open new) sent into was h is sound = same_released s new sent h (takes s block answer new is)
    step (Open s) (Signs (Ok text)) (Open new) sent into was h is sound = with_ready s (After sent (Signs (Ok text)) (Open new)) is.ready (λ y ready. signs_ok s new y ready text sent was h is)
    step (Open s) (Signs (Err error.Device)) (Open new) sent into was h is sound = with_ready s (Holds (Open new) sent) is.ready (λ y ready. sign_fails_here s new y ready sent was h is)
    step (Open s) (Signs (Err error.Memory)) (Open new) sent into was h is sound = same_as s new sent h (is.err (λ d. cc d))
    step (Open s) (Signs (Err error.NoLeaf)) (Open new) sent into was h is sound = same_as s new sent h (is.err (λ d. cc d))
    step (Open s) (Signs (Err error.NoNumber)) (Open new) sent into was h is sound = same_as s new sent h (is.err (λ d. cc d))
    step (Open s) (Signs (Err error.NoKey)) (Open new) sent into was h is sound = same_as s new sent h (is.err (λ d. cc d))
    step (Open s) (Signs (Err error.Foreign)) (Open new) sent into was h is sound = same_as s new sent h (is.err (λ d. cc d))
    step (Open s) (Signs (Err error.Damaged)) (Open new) sent into was h is sound = same_as s new sent h (is.err (λ d. cc d))
    step (Open s) (Commits st) (Open new) sent into was h is sound = commits s new st sent h is
    step (Open s) (Looks q answer) (Open new) sent into was h is sound = same_released s new sent h (ap (λ (k : Kept). k.0) (looks s q answer new is))
    step (Open s) (Gives block answer) (Open new) sent into was h is sound = same_released s new sent h (ap (λ (k : Kept). k.0) (gives s block answer new is))
    step (Open s) (Caches capacity) (Open new) sent into was h is sound = same_released s new sent h (ap released_in_state is.state)
    step (Open s) call after sent into was h is sound = absurd is

  -- ---- runs

  module _ (keys : Keys) (u : User) where
    abbrev own : low.Owner
    own = low_owner (owner keys u)

    sound_at : (run : List Event) → IsRun keys run → IsSound (client_of u run)
    sound_at [] is = tt
    sound_at (e ∷ older) is = go (e.user == u) (sound_at older is.2)
      where
        go : (b : Bool) → IsSound (client_of u older) → IsSound (if b then e.after else client_of u older)
        go true was = is.1
        go false was = was

    begun_at : (run : List Event) → IsRun keys run → AllLaySuch u run → Holds (owner keys u) (client_of u run) (released u run)
    begun_at [] is into = at_first (owner keys u)
    begun_at (e ∷ older) is into = go (e.user == u) refl (begun_at older is.2 (λ later oldest d at. into (e ∷ later) oldest d (ap (λ (l : List Event). e ∷ l) at)))
      where
        go : (b : Bool) → (e.user == u) ≡ b → Holds (owner keys u) (client_of u older) (released u older) → Holds (owner keys u) (if b then e.after else client_of u older) (if b then released_by e.call e.after ++ released u older else released u older)
        go true same h =
            let own_event = eqb-true e.user u same in
            step (owner keys u) (client_of u older) e.call e.after (released u older) (into [] older e refl own_event) (sound_at older is.2) h
            (subst (λ (v : User). IsStep (owner keys v) (client_of v older) e.call e.after) own_event is.0) is.1
        go false same h = h

    -- each text that is a certificate
    pub begun_where : (run : List Event) → IsRun keys run → AllLaySuch u run → (a : Bytes) (s : Signed Cert) → In a (released u run) → cert_in u a ≡ Some s → IsBegun s.value
    begun_where run is into a s i read =
        let h = begun_at run is into in
        let (r, j, at) = h.low.released a i in
        go h r j (sym (ap (cert_in u) at) ∙ read)
      where
        go : (h : Holds (owner keys u) (client_of u run) (released u run)) → (r : Release) → In r h.story → cert_in u (release_text own r) ≡ Some s → IsBegun s.value
        go h (OfCert n d q) j some =
            let before = came own h.story h.low.is_story (OfCert n d q) j in
            let two : Some (record { value = d; signature = signature_of (low.secret_of n own) q (cert.spell d) }) ≡ Some s = sym (cert_of own n d q before.0 before.1) ∙ some in
            let same : record { value = d; signature = signature_of (low.secret_of n own) q (cert.spell d) } ≡ s = cc two in
            subst (λ (y : Signed Cert). IsBegun y.value) same (h.certs n d q j)
        go h (OfStructure n z q) j some = absurd (cc (sym (no_cert u z (signature_of (low.secret_of n own) q (structure.spell z))) ∙ some))

-- ---- among texts

pub in_split : (run later older : List Event) (e : Event) → run ≡ later ++ e ∷ older → In e run
in_split run later older e at = subst (In e) (sym at) (in-right e later (e ∷ older) (inl refl))

module _ (texts : List Bytes) where
  by_blocks : (client : Client) (call : Call) → ((t : Bytes) → In t (blocks_by call) → In t texts) → LaysSuch (AmongThem texts) client call
  by_blocks (Open s) (Begins changes laid (Ok text)) into = into
  by_blocks (Open s) (Begins changes laid (Err error.Device)) into = into
  by_blocks client call into = tt

  pub in_run : (run : List Event) → ((t : Bytes) → In t (flat_map blocks_at run) → In t texts) → (e : Event) → In e run → (t : Bytes) → In t (blocks_by e.call) → In t texts
  in_run [] into e i t j = absurd i
  in_run (d ∷ older) into e (inl same) t j = into t (in-left t (blocks_at d) (flat_map blocks_at older) (subst (λ (x : Event). In t (blocks_by x.call)) same j))
  in_run (d ∷ older) into e (inr i) t j = in_run older (λ x k. into x (in-right x (blocks_at d) (flat_map blocks_at older) k)) e i t j

  module _ (keys : Keys) (u : User) where
    pub begun_by_blocks : (run : List Event) → IsRun keys run → ((t : Bytes) → In t (flat_map blocks_at run) → In t texts) → (a : Bytes) (s : Signed Cert) → In a (released u run) → cert_in u a ≡ Some s → IsBegun (AmongThem texts) s.value
    begun_by_blocks run is into a s i read = begun_where (AmongThem texts) keys u run is (λ later older e at own. by_blocks (client_of u older) e.call (in_run run into e (in_split run later older e at))) a s i read

    pub each_begun : (run : List Event) → IsRun keys run → ((t : Bytes) → In t (flat_map hashed_at run) → In t texts) → (a : Bytes) (s : Signed Cert) → In a (released u run) → cert_in u a ≡ Some s → IsBegun (AmongThem texts) s.value
    each_begun run is into a s i read = begun_by_blocks run is (λ t j. into t (are_hashed run t j)) a s i read
