-- A certificate that the server would decline for its signature has a good reply once it is signed again by its user's
-- last key.
use Rattle.std.proofs.Common.{◌≡◌, ◌<◌, ℕ, Bool, true, false, ◌==◌, List, [], ◌∷◌, ◌++◌, length, map, Option, Some, None, Ok, IfSome, IsSomeAnd, refl, sym, ap, ◌∙◌, subst, inl, inr, if◌then◌else◌}
use Rattle.std.specs.Prelude.{◌⊎◌, find}
use Rattle.std.specs.List.{All, flat_map}
use Rattle.std.specs.Option.{option_map, option_map_or}
use Rattle.std.proofs.lemmas.Bool.{eq-eqb, eqb-true}
use Rattle.layout.specs.Types.{Bytes, Key, User}
use Rattle.lms_sign.specs.Keys.{public_key_of}
use Rattle.lms_sign.specs.Secret.{Secret}
use Rattle.lms_sign.specs.Signature.{signature_of, valid}
use Rattle.lms_sign.proofs.Validity.{length-signature, signed_valid}
use Rattle.leaf_ledger.specs.Ledger.{LeafNumber}
use Rattle.principals.specs.Table.{Listing, Table, key_of, last_key, lists_user}
use Rattle.update_cert.specs.Cert.{Cert, cert}
use Rattle.pending_list.specs.declared.signed.Signed.{Signed}
use Rattle.pending_list.specs.Signed.{signed}
use Rattle.wire.specs.declared.kinds.Status.TheVariants as status
use Rattle.client_tree.specs.Genesis.{first_texts}
use Rattle.client_tree.specs.Held.{held}
use Rattle.client_journal.specs.Records.{unsigned}
use Rattle.client_releases.specs.declared.phase.Phase.{Phase}
use Rattle.client_releases.specs.declared.phase.Phase.TheVariants as phase
use Rattle.client_releases.specs.Told.{cert_in, secret_at}
use Rattle.client_releases.proofs.Again.{unsigned_of}
use Rattle.release_runs.specs.Steps as low
use Rattle.release_runs.proofs.Members.{In as Released_in}
use Rattle.release_runs.proofs.Stories.{Release, phase_in, text as release_text, text_in}
use Rattle.release_runs.proofs.Texts.{cert_read}
use Rattle.client_verify.specs.State.{State, released as released_of}
use Rattle.client_steps.specs.Steps.{Call, Client, HasResigned, IsStep, Open, Resigns}
use Rattle.agreement.proofs.Members.{In, in-append, in-left, in-right, map-in, of_all, to_all}
use Rattle.client_runs.specs.Clients.{certificate_in}
use Rattle.client_runs.specs.Released.{hashed, hashed_at, hashed_by, released, released_by, tried_view}
use Rattle.client_runs.specs.Runs.{Event, Keys, client_of, owner, pinned}
use Rattle.consistency_server.specs.declared.call.CallKind.TheVariants.{Update}
use Rattle.consistency_server.specs.Event as placed
use Rattle.consistency_server.specs.State.{state_after, table_after}
use Rattle.consistency_server.specs.Answers.{Answer, Call as ServerCall, Outcome, Refused, Repeated, Happens, answer, at_limit, happened, outcome_of}
use Rattle.consistency_server.specs.History as server
use Rattle.consistency_server.specs.History.{answer_of, update_of}
use Rattle.fork_consistency.specs.Premises.{GivesOwnKeyOf, TextAddsOwnKeysOf, everybody}
use Rattle.honest_history.specs.Answered.{is_under_last_key}
use Rattle.honest_history.proofs.Members.{any_from, find_some}
use Rattle.honest_dialogues.specs.Dialogue.{IsNextCert, stage_of}
use Rattle.honest_runs.specs.HonestRuns.{Exchange, HonestEvent, IsHandedIn, IsHonestRun, IsHonestStep, LastAnswered, events, history, sent_by, stored}
use Rattle.honest_runs.proofs.Events.{with_exchange, with_step}
use Rattle.honest_line.specs.Answered.{IsKnown, is_listed}
use Rattle.honest_line.specs.GoingOn.{HasGoodReply, IsBelowLimit, IsDeclined, IsLastKey, SignsAgain}
use Rattle.honest_line.specs.OneLine.{all_texts}
use Rattle.honest_line.proofs.Blocks.{fewer_collide}
use Rattle.honest_line.proofs.Follows.{Follows, o}
use Rattle.honest_line.proofs.Line.{grounds, keeps, naming, simulated, texts}
use Rattle.honest_line.proofs.Naming.{IsAssumed}
use Rattle.honest_line.proofs.Promises.{c, follows, next, next_reply, same_signed, text_is}
use Rattle.honest_line.proofs.Put.{put_texts}
use Rattle.honest_line.proofs.SignatureBytes.{signed_fits}
use Rattle.honest_line.proofs.Signing.{own_number, same_secret}

-- ---- lists and tables

-- members as the runs of releases have them
in_too : {A : Type 0} (x : A) (xs : List A) → Released_in x xs → In x xs
in_too x [] i = i
in_too x (y ∷ ys) (inl e) = inl e
in_too x (y ∷ ys) (inr i) = inr (in_too x ys i)

-- of each released text the part without its signature is hashed
released_hashed : (u : User) (es : List Event) (a : Bytes) → In a (released u es) → In (unsigned a) (flat_map hashed_at es)
released_hashed u [] a i = absurd i
released_hashed u (e ∷ older) a i = go (e.user == u) i (released_hashed u older a)
  where
    here : In a (released_by e.call e.after) → In (unsigned a) (hashed_at e)
    here j = in-right (unsigned a) (hashed_by e.call) (map unsigned (released_by e.call e.after)) (map-in unsigned (released_by e.call e.after) a j)

    go : (b : Bool) → In a (if b then released_by e.call e.after ++ released u older else released u older) → (In a (released u older) → In (unsigned a) (flat_map hashed_at older)) → In (unsigned a) (flat_map hashed_at (e ∷ older))
    go true j before = elim (in-append a (released_by e.call e.after) (released u older) j) [
      | inl now ↦ in-left (unsigned a) (hashed_at e) (flat_map hashed_at older) (here now)
      | inr past ↦ in-right (unsigned a) (hashed_at e) (flat_map hashed_at older) (before past)
    ]
    go false j before = in-right (unsigned a) (hashed_at e) (flat_map hashed_at older) (before j)

-- who has a key is listed
has_listing : (t : Table) (u : User) (key : Key) → key_of u t ≡ Some key → lists_user t u ≡ true
has_listing t u key has = go (find (λ l. l.user == u) t.users) refl has
  where
    go : (o : Option Listing) → find (λ l. l.user == u) t.users ≡ o → option_map (λ l. last_key l.key l.later) o ≡ Some key → lists_user t u ≡ true
    go None at e = absurd (cc e)
    go (Some l) at e =
        let there = find_some (λ (l : Listing). l.user == u) t.users l at in
        any_from (λ (l : Listing). l.user == u) t.users l there.0 there.1

-- what is declined leaves nothing
nothing_happens : (o : Outcome) → (answer o).status ≡ status.BadSignature → happened o ≡ []
nothing_happens (Refused st) bad = refl
nothing_happens (Repeated text) bad = refl
nothing_happens (Happens e text) bad = absurd (let two : status.Ok ≡ status.BadSignature = bad in cc two)

-- a text of the last release, where it is a certificate's
last_text : (o : low.Owner) (story : List Release) (texts : List Bytes) → ((r : Release) → Released_in r story → Released_in (release_text o r) texts) → phase_in story ≡ phase.Declared → Released_in (text_in o story) texts
last_text o [] texts kept told = absurd (let two : phase.Idle ≡ phase.Declared = told in cc two)
last_text o (r ∷ older) texts kept told = kept r (inl refl)

module _ (keys : Keys) (run : List HonestEvent) (is : IsHonestRun keys run) (p : IsAssumed keys run) (u : User) (s : State) (open_is : client_of u (events run) ≡ Open s) where
  abbrev es : List Event
  es = events run

  abbrev key : Key
  key = pinned keys

  abbrev sent : List ServerCall
  sent = history run

  module _ (declined : IsDeclined key sent s.text) (n : ℕ) (new : State) (again : SignsAgain keys u s n new) where
    abbrev text : Bytes
    text = again.0

    abbrev call : Call
    call = Resigns n (Ok text)

    b : HasResigned s n (Ok text) new
    b = again.1

    -- ---- the certificate, and as it is signed again

    f : Follows keys (naming keys run is p) u (Open s) (released u es) (tried_view u es) (stage_of u (simulated keys run is p).moves)
    f = follows keys (naming keys run is p) (texts keys run is p) (grounds keys run is p) sent es (simulated keys run is p) (keeps keys run is p) u s open_is

    abbrev own : Signed Cert
    own = c keys (naming keys run is p) (texts keys run is p) (grounds keys run is p) sent es (simulated keys run is p) (keeps keys run is p) u s open_is b.declared

    own_next : IsNextCert u s.last own
    own_next = next keys (naming keys run is p) (texts keys run is p) (grounds keys run is p) sent es (simulated keys run is p) (keeps keys run is p) u s open_is b.declared

    own_text : s.text ≡ (signed cert).spell own
    own_text = text_is keys (naming keys run is p) (texts keys run is p) (grounds keys run is p) sent es (simulated keys run is p) (keeps keys run is p) u s open_is b.declared

    unsigned_is : unsigned s.text ≡ cert.spell own.value
    unsigned_is = ap unsigned own_text ∙ unsigned_of (cert.spell own.value) own.signature own_next.fits.1.0

    abbrev secret : Secret
    secret = secret_at n (released_of s)

    abbrev leaf : LeafNumber
    leaf = b.resigned.0

    abbrev e : Signed Cert
    e = record { value = own.value; signature = signature_of secret leaf (cert.spell own.value) }

    fits : (signed cert).Fits e
    fits = (own_next.fits.0, signed_fits secret (cert.spell own.value) leaf)

    new_text : new.text ≡ (signed cert).spell e
    new_text = ap (λ (m : State). m.text) b.resigned.2 ∙ ap (λ (m : Bytes). m ++ signature_of secret leaf m) unsigned_is

    unsigned_again : unsigned text ≡ unsigned s.text
    unsigned_again =
        ap unsigned (b.text ∙ new_text)
        ∙ unsigned_of (cert.spell own.value) (signature_of secret leaf (cert.spell own.value)) (length-signature secret (cert.spell own.value) leaf)
        ∙ sym unsigned_is

    -- ---- it is sent and declined, and signed again

    abbrev given : Answer
    given = answer_of key sent (update_of s.text)

    abbrev x : Exchange
    x = record { call = update_of s.text; answer = record { status = status.BadSignature; payload = given.payload } }

    abbrev first : HonestEvent
    first = record { user = u; put = []; exchange = Some x; step = None }

    abbrev second : HonestEvent
    second = record { user = u; put = []; exchange = None; step = Some (record { call = call; after = Open new }) }

    abbrev once : List HonestEvent
    once = first ∷ run

    abbrev twice : List HonestEvent
    twice = second ∷ once

    declared_is : given.status ≡ status.BadSignature
    declared_is = declined

    first_step : IsHonestStep keys run first
    first_step = record {
      sent = subst (λ (c : Client). sent_by c Update ≡ Some s.text) (sym open_is) (ap (λ (f : Phase). certificate_in f s.text) b.declared);
      answered = record {
        carried_out = λ w. ap (λ st. record { status = st; payload = given.payload }) (sym declared_is);
        bare = λ w. absurd (cc w);
        full = λ w. absurd (let two : status.BadSignature ≡ status.Busy = w in cc two);
        logged_it = λ w. absurd (let two : status.BadSignature ≡ status.Busy = w in cc two);
      };
      taken = tt;
      handed_in = tt;
      put = tt;
    }

    open_once : client_of u (events once) ≡ Open s
    open_once = ap (client_of u) (with_step first run) ∙ open_is

    second_step : IsHonestStep keys once second
    second_step = record {
      sent = tt;
      answered = tt;
      taken = (subst (λ (c : Client). IsStep (owner keys u) c call (Open new)) (sym open_once) again.1, again.2);
      handed_in =
          subst (λ (c : Client). IsHandedIn twice c (held (stored once)) call) (sym open_once)
          (subst (λ (f : Phase). IsSomeAnd (certificate_in f s.text) (λ own. LastAnswered twice (update_of own) status.BadSignature)) (sym b.declared) (inl (refl, refl)));
      put = refl;
    }

    is_twice : IsHonestRun keys twice
    is_twice = (second_step, (first_step, is))

    abbrev event : Event
    event = record { user = u; call = call; after = Open new }

    events_are : events twice ≡ event ∷ es
    events_are = with_step second once ∙ ap (λ (es : List Event). event ∷ es) (with_step first run)

    open_twice : client_of u (events twice) ≡ Open new
    open_twice = ap (client_of u) events_are ∙ ap (λ (b : Bool). if b then Open new else client_of u es) (eq-eqb u u refl)

    -- ---- nothing new is put, hashed or given

    own_released : In s.text (released u es)
    own_released =
        let up : s.phase ≡ phase.Failed → ⊥ = λ down. (let two : phase.Declared ≡ phase.Failed = sym b.declared ∙ down in cc two) in
        let at = f.low.own.stands up in
        let told : phase_in f.story ≡ phase.Declared = elim at.phase [
          | inl same ↦ sym same ∙ b.declared
          | inr other ↦ absurd (let two : phase.Declared ≡ phase.Idle = sym b.declared ∙ other.1 in cc two)
        ] in
        in_too s.text (released u es) (subst (λ (t : Bytes). Released_in t (released u es)) (sym at.text) (last_text (o keys (naming keys run is p) u) f.story (released u es) f.low.kept told))

    no_more : (t : Bytes) → In t (all_texts keys twice) → In t (all_texts keys run)
    no_more t i =
        elim (in-append t (put_texts run) (hashed keys (events twice)) i) [
          | inl j ↦ in-left t (put_texts run) (hashed keys es) j
          | inr j ↦ of_hashed (in-append t (flat_map hashed_at (event ∷ es)) (first_texts key) (subst (λ (es : List Event). In t (hashed keys es)) events_are j))
        ]
      where
        in_events : In t (flat_map hashed_at es) → In t (all_texts keys run)
        in_events j = in-right t (put_texts run) (hashed keys es) (in-left t (flat_map hashed_at es) (first_texts key) j)

        of_event : In t (hashed_at event) ⊎ In t (flat_map hashed_at es) → In t (all_texts keys run)
        of_event (inl (inl same)) = in_events (subst (λ (a : Bytes). In a (flat_map hashed_at es)) (sym (same ∙ unsigned_again)) (released_hashed u es s.text own_released))
        of_event (inl (inr none)) = absurd none
        of_event (inr j) = in_events j

        of_hashed : In t (flat_map hashed_at (event ∷ es)) ⊎ In t (first_texts key) → In t (all_texts keys run)
        of_hashed (inl j) = of_event (in-append t (hashed_at event) (flat_map hashed_at es) j)
        of_hashed (inr j) = in-right t (put_texts run) (hashed keys es) (in-right t (flat_map hashed_at es) (first_texts key) j)

    abbrev Adds : Bytes → Type 0
    Adds t = TextAddsOwnKeysOf everybody keys t

    abbrev AllGive : Signed Cert → Type 0
    AllGive c = All (λ change. GivesOwnKeyOf everybody keys change.action) c.value.changes

    same_adds : u ≡ 0 → Adds s.text → Adds text
    same_adds zero adds =
        let of = own_next.user ∙ zero in
        let read_own : cert_in 0 s.text ≡ Some own = ap (cert_in 0) own_text ∙ cert_read 0 own.signature own_next.fits.1.0 own.value own_next.fits.0 of in
        let read_new : cert_in 0 text ≡ Some e = ap (cert_in 0) (b.text ∙ new_text) ∙ cert_read 0 e.signature (length-signature secret (cert.spell own.value) leaf) own.value own_next.fits.0 of in
        let give : AllGive own = subst (λ (o : Option (Signed Cert)). IfSome o AllGive) read_own adds in
        subst (λ (o : Option (Signed Cert)). IfSome o AllGive) (sym read_new) give

    adds_own : (t : Bytes) → In t (released 0 (events twice)) → Adds t
    adds_own t i = go (u == 0) refl (subst (λ (es : List Event). In t (released 0 es)) events_are i)
      where
        older : In t (released 0 es) → Adds t
        older j = of_all (TextAddsOwnKeysOf everybody keys) (released 0 es) p.true_keys.added t j

        go : (b : Bool) → (u == 0) ≡ b → In t (if b then text ∷ released 0 es else released 0 es) → Adds t
        go true zero (inl same) =
            let first_is = eqb-true u 0 zero in
            subst Adds (sym same) (same_adds first_is (of_all (TextAddsOwnKeysOf everybody keys) (released 0 es) p.true_keys.added s.text (subst (λ (v : User). In s.text (released v es)) first_is own_released)))
        go true zero (inr j) = older j
        go false other j = older j

    premises : IsAssumed keys twice
    premises = record {
      no_collision = fewer_collide (all_texts keys run) (all_texts keys twice) no_more p.no_collision;
      true_keys = record {
        pinned = p.true_keys.pinned;
        added = to_all (TextAddsOwnKeysOf everybody keys) (released 0 (events twice)) adds_own;
      };
      signers = p.signers;
    }

    -- ---- the server is as it was

    calls_are : history twice ≡ update_of s.text ∷ sent
    calls_are = with_exchange second once ∙ with_exchange first run

    same_events : server.events key (history twice) ≡ server.events key sent
    unfolding server.events
    same_events =
        ap (server.events key) calls_are
        ∙ ap (λ (more : List placed.Event). more ++ server.events key sent) (nothing_happens (outcome_of (state_after key (server.events key sent)) (update_of s.text)) declined)

    then_too : (P : List placed.Event → Type 0) → P (server.events key sent) → P (server.events key (history twice))
    then_too P q = subst P (sym same_events) q

    -- ---- so the reply is good

    module _ (last : IsLastKey key sent u (public_key_of secret)) (below : IsBelowLimit key sent s.text) where
      listed : is_listed key (history twice) u ≡ true
      listed = then_too (λ es. lists_user (table_after key es) u ≡ true) (has_listing (table_after key (server.events key sent)) u (public_key_of secret) last)

      own_key : n < length (keys u)
      own_key = own_number keys (naming keys run is p) u s f.low.own.opened f.low.own.secrets n b.has

      is_valid : valid (public_key_of secret) (cert.spell own.value) e.signature ≡ true
      is_valid =
          let signer = p.signers u n own_key in
          let same = same_secret keys (naming keys run is p) u s f.low.own.opened f.low.own.secrets n b.has in
          subst (λ (k : Secret). valid (public_key_of k) (cert.spell own.value) (signature_of k leaf (cert.spell own.value)) ≡ true) (sym same)
          (signed_valid (low.secret_of n (record { user = u; secrets = keys u })) (cert.spell own.value) leaf signer.0 b.resigned.1.least.below (signer.1 leaf b.resigned.1.least.below))

      known : IsKnown true key (history twice) new.text
      known = (
        e,
        (fits, sym new_text),
        then_too (λ es. is_under_last_key (table_after key es) e ≡ true)
            (ap (λ (o : Option Key). option_map_or (λ k. valid k (cert.spell own.value) e.signature) o false) (ap (λ (v : User). key_of v (table_after key (server.events key sent))) own_next.user ∙ last) ∙ is_valid),
      )

      still_below : IsBelowLimit key (history twice) new.text
      still_below d of =
          let same : d ≡ e = same_signed d e of.0 fits (of.1 ∙ new_text) in
          then_too (λ es. at_limit (state_after key es) d.value ≡ false)
          (ap (λ (x : Signed Cert). at_limit (state_after key (server.events key sent)) x.value) same ∙ below own (own_next.fits, sym own_text))

      at_new : new.phase ≡ phase.Declared
      at_new = ap (λ (m : State). m.phase) b.resigned.2 ∙ b.declared

      good_then : HasGoodReply key (history twice) new
      good_then =
          next_reply keys (naming keys twice is_twice premises) (texts keys twice is_twice premises) (grounds keys twice is_twice premises) (history twice) (events twice)
          (simulated keys twice is_twice premises) (keeps keys twice is_twice premises) u new open_twice at_new listed known still_below

      pub good_again : HasGoodReply key sent new
      good_again = (
        good_then.0,
        ap (λ (es : List placed.Event). answer (outcome_of (state_after key es) (update_of new.text))) (sym same_events) ∙ good_then.1,
        good_then.2,
      )
