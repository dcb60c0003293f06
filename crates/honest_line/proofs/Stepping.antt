-- A step of a user's client that asks no server is at most one move of a dialogue.
use Rattle.std.proofs.Common.{◌≡◌, ◌+◌, ◌<◌, ℕ, List, [], ◌∷◌, ◌++◌, length, Option, Some, None, Ok, Err, IfSome, refl, sym, ap, ◌∙◌, subst, inl, inr, option_map, option_to_list}
use Rattle.layout.specs.Types.{Bytes, Digest, User}
use Rattle.leaf_ledger.specs.Ledger.{LeafNumber}
use Rattle.version_order.specs.Structure.{Structure, structure}
use Rattle.update_cert.specs.Change.{Change}
use Rattle.update_cert.specs.Cert.{Cert, cert}
use Rattle.pending_list.specs.declared.signed.Signed.{Signed}
use Rattle.reply_rules.specs.Lists.{Lists}
use Rattle.wire.specs.declared.kinds.Status.TheVariants as status
use Rattle.client_releases.specs.declared.error.ClientError.{ClientError}
use Rattle.client_releases.specs.declared.error.ClientError.TheVariants as error
use Rattle.client_releases.specs.declared.phase.Phase.{Phase}
use Rattle.client_releases.specs.declared.phase.Phase.TheVariants as phase
use Rattle.client_releases.specs.Told.{HasKey, IsPhase, Released}
use Rattle.client_releases.specs.Releasing.{IsKept, structure_record, under}
use Rattle.client_verify.specs.State.{IsOfDeclared, Ready, State, committed, newest_key, next_cert, next_structure, on, over, released, signed_over, signed_text, signing_key}
use Rattle.client_steps.specs.Steps.{Call, Client, Closed, HasBegun, HasGained, HasResigned, HasSigned, IsHandedBack, IsLeft, IsOpened, IsRefused, IsSound, Open, Opens, Parts}
use Rattle.agreement.specs.Runs.{View, user_of}
use Rattle.agreement.proofs.Members.{In}
use Rattle.release_runs.specs.Steps as low
use Rattle.release_runs.proofs.Files.{Lies, lies_on, still_sure}
use Rattle.release_runs.proofs.Holds.{IsAt, where_in_turn}
use Rattle.release_runs.proofs.Holds as low_holds
use Rattle.release_runs.proofs.Opening.{IsOf, opened_holds}
use Rattle.release_runs.proofs.Releasing.{IsTriedCert, IsTriedStructure, declare_fails, declares, resign_fails, resigns, sign_fails, signs}
use Rattle.release_runs.proofs.Runs as low_runs
use Rattle.release_runs.proofs.Stories.{IsAfter, IsCertAfter, IsStory, OfCert, OfStructure, Release, last_in, phase_in}
use Rattle.client_runs.specs.Released.{accepted_by, in_hand, released_by, tried_by, view_over, where_signed}
use Rattle.client_runs.specs.Runs.{Keys, owner, pinned}
use Rattle.client_runs.proofs.Lowering.{if_ready, low_begin_failed, low_begun, low_client, low_gained, low_handed_back, low_left, low_opened, low_parts, low_resign_failed, low_resigned, low_sign_failed, low_signed, of_declared}
use Rattle.consistency_server.specs.Answers.{Call as ServerCall}
use Rattle.consistency_server.specs.History.{commit_of, update_of}
use Rattle.honest_history.specs.Honest.{Names, Naming, number_in}
use Rattle.honest_history.specs.Served.{IsTableOf}
use Rattle.honest_dialogues.specs.Dialogue.{Accepts, Declared, Declares, Declined, Ends, Forgets, Hears as Heard_it, HearsDeclined, Idle, IsNextCert, IsReply, IsSealed, LastAnswered, MayMove, Reopens, Resigns, Sealed, Stage, WasAnswered, success}
use Rattle.honest_dialogues.specs.Signing.{HasRecords}
use Rattle.honest_line.proofs.Follows.{AreMoves, Follows, Goes, HoldsHeard, IsInPhase, IsMove, IsOfStory, IsTriedAt, Mark, MaySeal, cert_text, declared_at, failed_at, idle_at, in_phase_at, none_in_hand, o, signed_at, signed_cert, signed_structure}
use Rattle.honest_line.proofs.Signing.{CanSign, IsNamed, may_declare, may_seal, number_is, signs_named}

module _ (keys : Keys) (naming : Naming) (u : User) (can : CanSign keys u) (history : List ServerCall) (texts : List Bytes) (view : Option View) (stage : Stage) where
  abbrev At : Client → Option View → Stage → Type 0
  At client view stage = Follows keys naming u client texts view stage

  -- the handles that user 0 signs over these views name their tables
  abbrev pub Covers : List View → Type 0
  Covers views = (v : View) → In v views → user_of v ≡ 0 → Names naming v.signed.handle v.table

  -- ---- no move

  abbrev Stays : Client → Client → Call → Type 0
  Stays before after call = Goes keys naming u history stage after (released_by call after ++ texts) (tried_by call before view) [] (accepted_by call before after view)

  -- the client is closed
  closes : (before : Client) (p : Parts) → (f : At before view stage) → Lies (o keys naming u) f.story f.tried (low_parts p).ledgers (low_parts p).journal → At (Closed p) view stage
  closes before p f lies = record {
    story = f.story;
    tried = f.tried;
    low = low_holds.closes (o keys naming u) (Unit {0}) (Unit {0}) f.story f.tried texts (λ t. t) (low_client before) (low_parts p) f.low lies;
    of_story = f.of_story;
    tries = f.tries;
    own = tt;
  }

  pub left : (before : Client) (p : Parts) → At before view stage → IsLeft before p → At (Closed p) view stage
  left before p f is = closes before p f (low_runs.left (o keys naming u) f.story f.tried (low_client before) f.low.lies (low_parts p) (low_left before p is))

  pub refused : (p : Parts) (e : ClientError) (q : Parts) → At (Closed p) view stage → IsRefused (owner keys u) p e q → At (Closed q) view stage
  refused p e q f is = closes (Closed p) q f (lies_on (o keys naming u) f.story f.tried (low_parts p).ledgers (low_parts q).ledgers p.journal.history q.journal.history f.low.lies (still_sure (low_parts p).ledgers (low_parts q).ledgers is.moments.ledgers) is.moments.records)

  pub handed_back : (s : State) (p : Parts) → At (Open s) view stage → IsHandedBack s p → At (Closed p) view stage
  handed_back s p f is = closes (Open s) p f (low_runs.handed_back (o keys naming u) f.story f.tried (low_client (Open s)) f.low.lies (low_parts p) (low_handed_back s p is).ledgers is.journal)

  -- a ledger more, on which nothing stands
  pub gained : (p q : Parts) → At (Closed p) view stage → HasGained (owner keys u) p q → At (Closed q) view stage
  gained p q f is =
      let more = low_gained (owner keys u) p q is in
      closes (Closed p) q f (low_runs.gained (o keys naming u) f.story f.tried (low_client (Closed p)) f.low.lies (low_parts q) more.ledgers more.journal)

  -- what was released is as it was, and so are the lists in hand
  module _ (s new : State) (always : IsSound (Open new)) where
    moved : released new ≡ released s → ((heard : Option Lists) → HoldsHeard keys naming u s heard → HoldsHeard keys naming u new heard) → (f : Phase) → IsInPhase keys naming u f s stage → IsInPhase keys naming u f new stage
    moved same in_hand phase.Idle h = h ∙ ap (λ (r : Released). Idle r.last) (sym same)
    moved same in_hand phase.Declared h = (
      h.0,
      h.1,
      h.2,
      h.3 ∙ ap (λ (r : Released). Declared r.last (signed_cert keys naming u h.0 h.1) h.2) (sym same),
      ap (λ (r : Released). r.text) same ∙ h.4,
      in_hand h.2 h.5,
    )
    moved same in_hand phase.Signed h = (
      h.0,
      h.1,
      h.2,
      ap (λ (r : Released). r.last) same ∙ h.3,
      ap (λ (r : Released). r.text) same ∙ h.4,
    )
    moved same in_hand phase.Failed h = tt

    pub stays : At (Open s) view stage → released new ≡ released s → ((heard : Option Lists) → HoldsHeard keys naming u s heard → HoldsHeard keys naming u new heard) → At (Open new) view stage
    stays f same in_hand = record {
      story = f.story;
      tried = f.tried;
      low = subst (λ (r : Released). low_holds.Holds (o keys naming u) (Unit {0}) f.story f.tried (low.Open r) texts) (sym same) f.low;
      of_story = f.of_story;
      tries = f.tries;
      own = record {
        no_view = λ up. f.own.no_view (λ down. up (ap (λ (r : Released). r.phase) same ∙ down));
        in_phase =
            subst (λ (g : Phase). IsInPhase keys naming u g new stage) (sym (ap (λ (r : Released). r.phase) same))
            (moved same in_hand s.phase f.own.in_phase);
        always = always;
      };
    }

    pub same_as : At (Open s) view stage → new ≡ s → At (Open new) view stage
    same_as f is = stays f (ap released is) (λ heard h. subst (λ (n : State). HoldsHeard keys naming u n heard) (sym is) h)

  -- ---- opening

  -- a view that was tried in vain isn't accepted
  in_vain : (story : List Release) (tried : Option Release) (v : Option View) → IsTriedAt keys naming u story tried v stage → where_signed (phase_in story) v ≡ []
  in_vain [] tried v t = refl
  in_vain (OfCert n c q ∷ older) tried v t = refl
  in_vain (OfStructure n z q ∷ older) tried None t = refl
  in_vain (OfStructure n z q ∷ older) None (Some v) t = absurd (let two : phase.Signed ≡ phase.Declared = t in cc two)
  in_vain (OfStructure n z q ∷ older) (Some (OfCert j c p)) (Some v) t = absurd t
  in_vain (OfStructure n z q ∷ older) (Some (OfStructure j y p)) (Some v) t = absurd (let two : phase.Signed ≡ phase.Declared = t.0 in cc two)

  module _ (p : Parts) (s : State) (x : Unit {0}) (f : At (Closed p) view stage) (is : IsOpened (owner keys u) p s) (sound : IsSound (Open s)) (covers : Covers (where_signed s.phase view)) where
    abbrev found : List Bytes
    found = released_by (Opens (Ok x)) (Open s) ++ texts

    abbrev Low : List Release → Type 0
    Low story = low_holds.Holds (o keys naming u) (Unit {0}) story None (low_client (Open s)) found

    abbrev Opened : Type 0
    Opened = Goes keys naming u history stage (Open s) found None [] (where_signed s.phase view)

    at_of : (story : List Release) → Low story → s.phase ≡ phase_in story → IsAt (o keys naming u) story None (released s)
    at_of story l at = l.own.stands (λ down. never story (sym at ∙ down))
      where
        never : (story : List Release) → phase_in story ≡ phase.Failed → ⊥
        never [] e = cc e
        never (OfCert n c q ∷ older) e = cc e
        never (OfStructure n z q ∷ older) e = cc e

    -- the client at a stage that its story tells
    opened_at : (story : List Release) → Low story → (now : Stage) → IsOfStory keys naming u story now → IsInPhase keys naming u s.phase s now → Follows keys naming u (Open s) found None now
    opened_at story l now of at =
        record { story = story; tried = None; low = l; of_story = of; tries = tt; own = record { no_view = λ _. refl; in_phase = at; always = sound } }

    nothing : (heard : Option Lists) → HoldsHeard keys naming u s heard
    nothing heard = none_in_hand keys naming u s heard (ap (λ (n : State). n.checked) is.state) (ap (λ (n : State). n.accepted) is.state)

    -- nothing is found but what was known
    as_before : (story : List Release) → Low story → s.phase ≡ phase_in story → IsOfStory keys naming u story stage → where_signed (phase_in story) view ≡ [] → Opened
    as_before [] l at of none =
        inl (refl, ap (λ (g : Phase). where_signed g view) at ∙ none, opened_at [] l stage of (idle_at keys naming u s stage at (of ∙ ap Idle (sym (at_of [] l at).last))))
    as_before (OfCert n c q ∷ older) l at (inl of) none =
        let own = at_of (OfCert n c q ∷ older) l at in
        let here = declared_at keys naming u s stage at (c, (n, q), of.0, of.1 ∙ ap (λ (z : Option (Signed Structure)). Declared z (signed_cert keys naming u c (n, q)) of.0) (sym own.last), own.text, nothing of.0) in
        inl (refl, ap (λ (g : Phase). where_signed g view) at ∙ none, opened_at (OfCert n c q ∷ older) l stage (inl of) here)
    -- what was to be signed again wasn't
    as_before (OfCert n c q ∷ older) l at (inr of) none =
        let own = at_of (OfCert n c q ∷ older) l at in
        let now : Stage = Declared (last_in (o keys naming u) older) (signed_cert keys naming u c (n, q)) None in
        let here = declared_at keys naming u s now at (c, (n, q), None, ap (λ (z : Option (Signed Structure)). Declared z (signed_cert keys naming u c (n, q)) None) (sym own.last), own.text, nothing None) in
        inr (inl (record {
          act = Forgets;
          after = now;
          may = subst (λ (b : Stage). MayMove (pinned keys) naming history u b Forgets now) (sym of) refl;
          sends = refl;
          accepts = sym (ap (λ (g : Phase). where_signed g view) at ∙ none);
          follows = opened_at (OfCert n c q ∷ older) l now (inl (None, refl)) here;
        }))
    as_before (OfStructure n z q ∷ older) l at (inl of) none =
        let own = at_of (OfStructure n z q ∷ older) l at in
        let here = signed_at keys naming u s stage at (z, (n, q), of, own.last, own.text) in
        inl (refl, ap (λ (g : Phase). where_signed g view) at ∙ none, opened_at (OfStructure n z q ∷ older) l stage (inl of) here)
    as_before (OfStructure n z q ∷ older) l at (inr of) none =
        let own = at_of (OfStructure n z q ∷ older) l at in
        let now : Stage = Sealed (signed_structure keys naming u z (n, q)) in
        let here = signed_at keys naming u s now at (z, (n, q), refl, own.last, own.text) in
        inr (inl (record {
          act = Reopens;
          after = now;
          may = subst (λ (b : Stage). MayMove (pinned keys) naming history u b Reopens now) (sym of) refl;
          sends = refl;
          accepts = sym (ap (λ (g : Phase). where_signed g view) at ∙ none);
          follows = opened_at (OfStructure n z q ∷ older) l now (inl refl) here;
        }))

    -- what was tried is found
    tried_found : (story : List Release) (r : Release) (v : Option View) → view ≡ v → Low (r ∷ story) → s.phase ≡ phase_in (r ∷ story) → IsTriedAt keys naming u story (Some r) v stage → Opened
    tried_found story (OfCert n c q) None same l at t =
        let own = at_of (OfCert n c q ∷ story) l at in
        let now : Stage = Declared (last_in (o keys naming u) story) (signed_cert keys naming u c (n, q)) None in
        let here = declared_at keys naming u s now at (c, (n, q), None, ap (λ (z : Option (Signed Structure)). Declared z (signed_cert keys naming u c (n, q)) None) (sym own.last), own.text, nothing None) in
        let follows = opened_at (OfCert n c q ∷ story) l now (inl (None, refl)) here in
        let shows : [] ≡ where_signed s.phase view = sym (ap (λ (g : Phase). where_signed g view) at) in
        elim t.1 [
          | inl idle ↦ inr (inl (record {
            act = Declares;
            after = now;
            may = subst (λ (b : Stage). MayMove (pinned keys) naming history u b Declares now) (sym idle) (refl, t.0);
            sends = refl;
            accepts = shows;
            follows = follows;
          }))
          | inr declined ↦ inr (inl (record {
            act = Resigns;
            after = now;
            may = subst (λ (b : Stage). MayMove (pinned keys) naming history u b Resigns now) (sym declined.1) (refl, declined.2, t.0);
            sends = refl;
            accepts = shows;
            follows = follows;
          }))
        ]
    tried_found story (OfCert n c q) (Some v) same l at t = absurd t
    tried_found story (OfStructure n z q) None same l at t = absurd t
    tried_found story (OfStructure n z q) (Some v) same l at t =
        let own = at_of (OfStructure n z q ∷ story) l at in
        let now : Stage = Sealed (signed_structure keys naming u z (n, q)) in
        let here = signed_at keys naming u s now at (z, (n, q), refl, own.last, own.text) in
        let shows : where_signed s.phase view ≡ v ∷ [] = ap (λ (g : Phase). where_signed g view) at ∙ ap option_to_list same in
        let may : IsSealed (pinned keys) naming u (last_in (o keys naming u) story) t.1.1 v (signed_structure keys naming u z (n, q)) =
        t.1.3 (covers v (subst (λ (vs : List View). In v vs) (sym shows) (inl refl))) in
        inr (inl (record {
          act = Accepts v;
          after = now;
          may = subst (λ (b : Stage). MayMove (pinned keys) naming history u b (Accepts v) now) (sym t.1.2) may;
          sends = refl;
          accepts = sym shows;
          follows = opened_at (OfStructure n z q ∷ story) l now (inl refl) here;
        }))

    pub opens : Opened
    opens =
        let k = opened_holds (o keys naming u) (Unit {0}) f.story f.tried texts (low_parts p) f.low (released s) (low_opened (owner keys u) p s is) sound.0 x in
        let l : Low k.0 = where_in_turn (o keys naming u) (Unit {0} × Unit {0}) (Unit {0}) k.0 None (low_client (Open s)) found (λ _. (tt, tt)) k.3 in
        go k.0 k.1 k.2 l
      where
        go : (one : List Release) → IsOf f.story f.tried one → s.phase ≡ phase_in one → Low one → Opened
        go one (inl same) at l =
            let l = subst (λ (story : List Release). Low story) same l in
            as_before f.story l (at ∙ ap phase_in same) f.of_story (in_vain f.story f.tried view f.tries)
        go one (inr (r, tried, same)) at l =
            let l = subst (λ (story : List Release). Low story) same l in
            tried_found f.story r view refl l (at ∙ ap phase_in same) (subst (λ (t : Option Release). IsTriedAt keys naming u f.story t view stage) tried f.tries)

  -- ---- declaring

  module _ (s new : State) (f : At (Open s) view stage) (always : IsSound (Open new)) where
    module _ (changes : List (Change Digest)) (laid : List Bytes) where
      abbrev next : Cert
      next = next_cert s changes

      module _ (idle : s.phase ≡ phase.Idle) where
        at_idle : IsAt (o keys naming u) f.story f.tried (released s)
        at_idle = f.low.own.stands (λ down. let two : phase.Idle ≡ phase.Failed = sym idle ∙ down in cc two)

        no_view : view ≡ None
        no_view = f.own.no_view (λ down. let two : phase.Idle ≡ phase.Failed = sym idle ∙ down in cc two)

        stage_is : stage ≡ Idle s.last
        stage_is = in_phase_at keys naming u s stage phase.Idle idle f.own.in_phase

        told_idle : phase_in f.story ≡ phase.Declared → ⊥
        told_idle declared = elim at_idle.phase [
          | inl same ↦ (let two : phase.Idle ≡ phase.Declared = sym idle ∙ same ∙ declared in cc two)
          | inr other ↦ (let two : phase.Signed ≡ phase.Declared = sym other.0 ∙ declared in cc two)
        ]

        may_next : (q : Mark) → cert.Fits next → IsNextCert u s.last (signed_cert keys naming u next q)
        may_next q fits =
            may_declare keys naming u s.last next q fits f.low.own.user
            (ap (λ n. n + 1) (at_idle.number ∙ number_is keys naming u f.story f.low.is_story told_idle ∙ ap number_in (sym at_idle.last))) refl

      pub begins : (answer : Bytes) → HasBegun s changes laid (Ok answer) new → IsMove keys naming u history stage (Open new) (answer ∷ texts) view [] []
      begins answer b =
          let n = newest_key s in
          let k = declares (o keys naming u) (Unit {0}) f.story f.tried texts (released s) f.low n next (released new) answer (low_begun s new f.own.always.0.some changes laid answer b) in
          let q : Mark = (n, k.0) in
          let is = b.declared.2 in
          let l = where_in_turn (o keys naming u) ((s.number + 1 ≡ s.number + 1) × Unit {0}) (Unit {0}) (OfCert n next k.0 ∷ f.story) None (low_client (Open new)) (answer ∷ texts) (λ _. (refl, tt)) k.1 in
          let own = l.own.stands (λ down. let two : phase.Declared ≡ phase.Failed = sym (ap (λ (n : State). n.phase) is) ∙ down in cc two) in
          let now : Stage = Declared s.last (signed_cert keys naming u next q) None in
          let last : new.last ≡ s.last = ap (λ (n : State). n.last) is in
          record {
            act = Declares;
            after = now;
            may = subst (λ (at : Stage). MayMove (pinned keys) naming history u at Declares now) (sym (stage_is b.idle)) (refl, may_next b.idle q l.is_story.0.next.fits);
            sends = refl;
            accepts = refl;
            follows = record {
              story = OfCert n next k.0 ∷ f.story;
              tried = None;
              low = l;
              of_story = inl (None, ap (λ (z : Option (Signed Structure)). Declared z (signed_cert keys naming u next q) None) (at_idle b.idle).last);
              tries = subst (λ (v : Option View). IsTriedAt keys naming u (OfCert n next k.0 ∷ f.story) None v now) (sym (no_view b.idle)) tt;
              own = record {
                no_view = λ _. no_view b.idle;
                in_phase = declared_at keys naming u new now (ap (λ (n : State). n.phase) is) (
                  next,
                  q,
                  None,
                  ap (λ (z : Option (Signed Structure)). Declared z (signed_cert keys naming u next q) None) (sym last),
                  own.text,
                  none_in_hand keys naming u new None (ap (λ (n : State). n.checked) is) (ap (λ (n : State). n.accepted) is),
                );
                always = always;
              };
            };
          }

      pub begin_fails : HasBegun s changes laid (Err error.Device) new → At (Open new) view stage
      begin_fails b =
          let k = declare_fails (o keys naming u) (Unit {0}) f.story f.tried texts (released s) f.low (newest_key s) next (released new) error.Device (low_begin_failed s new f.own.always.0.some changes laid b) in
          let is = b.fails refl in
          let l = where_in_turn (o keys naming u) ((s.number + 1 ≡ s.number + 1) × Unit {0}) (Unit {0}) f.story k.0 (low_client (Open new)) texts (λ _. (refl, tt)) k.2 in
          record {
            story = f.story;
            tried = k.0;
            low = l;
            of_story = f.of_story;
            tries = subst (λ (v : Option View). IsTriedAt keys naming u f.story k.0 v stage) (sym (no_view b.idle)) (tried k.0 k.1 l.is_tried);
            own = record {
              no_view = λ _. no_view b.idle;
              in_phase = failed_at keys naming u new stage (ap (λ (n : State). n.phase) is);
              always = always;
            };
          }
        where
          tried : (some : Option Release) → IsTriedCert (newest_key s) next some → IfSome some (IsAfter (o keys naming u) f.story) → IsTriedAt keys naming u f.story some None stage
          tried some (inl none) after = subst (λ (t : Option Release). IsTriedAt keys naming u f.story t None stage) (sym none) tt
          tried some (inr (q, one)) after =
              let here = subst (λ (t : Option Release). IfSome t (IsAfter (o keys naming u) f.story)) one after in
              let last = (at_idle b.idle).last in
              subst (λ (t : Option Release). IsTriedAt keys naming u f.story t None stage) (sym one) (
                subst (λ (l : Option (Signed Structure)). IsNextCert u l (signed_cert keys naming u next (newest_key s, q))) last (may_next b.idle (newest_key s, q) here.next.fits),
                inl (stage_is b.idle ∙ ap Idle last),
              )

    -- ---- signing a certificate again

    -- the certificate that is declared is a next one, and was declined when it was sent last
    module _ (n : ℕ) (is_declared : s.phase ≡ phase.Declared) (next : (c : Signed Cert) (heard : Option Lists) → stage ≡ Declared s.last c heard → IsNextCert u s.last c)
        (was : LastAnswered (pinned keys) history (update_of s.text) status.BadSignature) where
      up_again : s.phase ≡ phase.Failed → ⊥
      up_again down = let two : phase.Declared ≡ phase.Failed = sym is_declared ∙ down in cc two

      at_again : IsAt (o keys naming u) f.story f.tried (released s)
      at_again = f.low.own.stands up_again

      again_told : phase_in f.story ≡ phase.Declared
      again_told = elim at_again.phase [
        | inl same ↦ sym same ∙ is_declared
        | inr other ↦ (let two : phase.Declared ≡ phase.Idle = sym is_declared ∙ other.1 in absurd (cc two))
      ]

      -- how far the client is
      abbrev d : IsInPhase keys naming u phase.Declared s stage
      d = in_phase_at keys naming u s stage phase.Declared is_declared f.own.in_phase

      abbrev c : Signed Cert
      c = signed_cert keys naming u d.0 d.1

      -- and once it has heard that
      abbrev between : Stage
      between = Declined s.last c

      hears_it : MayMove (pinned keys) naming history u stage HearsDeclined between
      hears_it =
          subst (λ (b : Stage). MayMove (pinned keys) naming history u b HearsDeclined between) (sym d.3)
          (refl, subst (λ (t : Bytes). LastAnswered (pinned keys) history (update_of t) status.BadSignature) d.4 was)

      -- the certificate that the story tells is that one
      same_cert : (story : List Release) → phase_in story ≡ phase.Declared → IsOfStory keys naming u story stage → (e : Cert) → IsCertAfter story e → e ≡ c.value
      same_cert [] told of e turn = absurd (let two : phase.Idle ≡ phase.Declared = told in cc two)
      same_cert (OfCert j b p ∷ older) told (inl of) e turn =
          let two : Declared s.last c d.2 ≡ Declared (last_in (o keys naming u) older) (signed_cert keys naming u b (j, p)) of.0 = sym d.3 ∙ of.1 in
          let same : c ≡ signed_cert keys naming u b (j, p) = cc two in
          turn ∙ ap (λ (x : Signed Cert). x.value) (sym same)
      same_cert (OfCert j b p ∷ older) told (inr of) e turn =
          absurd (let two : Declared s.last c d.2 ≡ Declined (last_in (o keys naming u) older) (signed_cert keys naming u b (j, p)) = sym d.3 ∙ of in cc two)
      same_cert (OfStructure j z p ∷ older) told of e turn = absurd (let two : phase.Signed ≡ phase.Declared = told in cc two)

      still_told : (story : List Release) → phase_in story ≡ phase.Declared → IsOfStory keys naming u story stage → IsOfStory keys naming u story between
      still_told [] told of = absurd (let two : phase.Idle ≡ phase.Declared = told in cc two)
      still_told (OfCert j b p ∷ older) told (inl of) =
          let two : Declared s.last c d.2 ≡ Declared (last_in (o keys naming u) older) (signed_cert keys naming u b (j, p)) of.0 = sym d.3 ∙ of.1 in
          inr (cc two)
      still_told (OfCert j b p ∷ older) told (inr of) =
          absurd (let two : Declared s.last c d.2 ≡ Declined (last_in (o keys naming u) older) (signed_cert keys naming u b (j, p)) = sym d.3 ∙ of in cc two)
      still_told (OfStructure j z p ∷ older) told of = absurd (let two : phase.Signed ≡ phase.Declared = told in cc two)

      -- and once it is signed again it is the next one still
      next_again : (e : Cert) (q : Mark) → cert.Fits e → e ≡ c.value → IsNextCert u s.last (signed_cert keys naming u e q)
      next_again e q fits same =
          let was_next = next c d.2 d.3 in
          may_declare keys naming u s.last e q fits (ap (λ (x : Cert). x.user) same ∙ was_next.user)
          (ap (λ (x : Cert). x.number) same ∙ was_next.number) (ap (λ (x : Cert). x.last) same ∙ was_next.last_digest)

      pub resigns_ok : (answer : Bytes) → HasResigned s n (Ok answer) new → AreMoves keys naming u history stage (Open new) (answer ∷ texts) view [] []
      resigns_ok answer b =
          let k = resigns (o keys naming u) (Unit {0}) f.story f.tried texts (released s) f.low n (released new) answer (low_resigned s new n answer b) in
          let e = k.0 in
          let q : Mark = (n, k.1) in
          let is = b.resigned.2 in
          let l = where_in_turn (o keys naming u) (Unit {0} × Unit {0}) (Unit {0}) (OfCert n e k.1 ∷ f.story) None (low_client (Open new)) (answer ∷ texts) (λ _. (tt, tt)) k.2 in
          let phase_is : new.phase ≡ phase.Declared = ap (λ (n : State). n.phase) is ∙ is_declared in
          let own = l.own.stands (λ down. let two : phase.Declared ≡ phase.Failed = sym phase_is ∙ down in cc two) in
          let same = same_cert f.story again_told f.of_story e l.is_story.0.next.turn in
          let now : Stage = Declared s.last (signed_cert keys naming u e q) None in
          let last : new.last ≡ s.last = ap (λ (n : State). n.last) is in
          record {
            between = between;
            declined = hears_it;
            then_is = record {
              act = Resigns;
              after = now;
              may = (refl, same, next_again e q l.is_story.0.next.fits same);
              sends = refl;
              accepts = refl;
              follows = record {
                story = OfCert n e k.1 ∷ f.story;
                tried = None;
                low = l;
                of_story = inl (None, ap (λ (z : Option (Signed Structure)). Declared z (signed_cert keys naming u e q) None) at_again.last);
                tries = subst (λ (v : Option View). IsTriedAt keys naming u (OfCert n e k.1 ∷ f.story) None v now) (sym (f.own.no_view up_again)) tt;
                own = record {
                  no_view = λ _. f.own.no_view up_again;
                  in_phase = declared_at keys naming u new now phase_is (
                    e,
                    q,
                    None,
                    ap (λ (z : Option (Signed Structure)). Declared z (signed_cert keys naming u e q) None) (sym last),
                    own.text,
                    none_in_hand keys naming u new None (ap (λ (n : State). n.checked) is) (ap (λ (n : State). n.accepted) is),
                  );
                  always = always;
                };
              };
            };
          }

      pub resign_fails_here : HasResigned s n (Err error.Device) new → IsMove keys naming u history stage (Open new) texts view [] []
      resign_fails_here b =
          let k = resign_fails (o keys naming u) (Unit {0}) f.story f.tried texts (released s) f.low n (released new) error.Device (low_resign_failed s new n b) in
          let is = b.fails refl in
          let l = where_in_turn (o keys naming u) (Unit {0} × Unit {0}) (Unit {0}) f.story k.1 (low_client (Open new)) texts (λ _. (tt, tt)) k.3 in
          record {
            act = HearsDeclined;
            after = between;
            may = hears_it;
            sends = refl;
            accepts = refl;
            follows = record {
              story = f.story;
              tried = k.1;
              low = l;
              of_story = still_told f.story again_told f.of_story;
              tries = subst (λ (v : Option View). IsTriedAt keys naming u f.story k.1 v between) (sym (f.own.no_view up_again)) (tried k.0 k.1 k.2 l.is_tried);
              own = record {
                no_view = λ _. f.own.no_view up_again;
                in_phase = failed_at keys naming u new between (ap (λ (n : State). n.phase) is);
                always = always;
              };
            };
          }
        where
          tried : (e : Cert) (some : Option Release) → IsTriedCert n e some → IfSome some (IsAfter (o keys naming u) f.story) → IsTriedAt keys naming u f.story some None between
          tried e some (inl none) after = subst (λ (t : Option Release). IsTriedAt keys naming u f.story t None between) (sym none) tt
          tried e some (inr (q, one)) after =
              let here = subst (λ (t : Option Release). IfSome t (IsAfter (o keys naming u) f.story)) one after in
              let same = same_cert f.story again_told f.of_story e here.next.turn in
              subst (λ (t : Option Release). IsTriedAt keys naming u f.story t None between) (sym one) (
                subst (λ (l : Option (Signed Structure)). IsNextCert u l (signed_cert keys naming u e (n, q))) at_again.last (next_again e (n, q) here.next.fits same),
                inr (c, ap (λ (l : Option (Signed Structure)). Declined l c) at_again.last, same),
              )

    -- ---- signing

    module _ (y : Ready) (ready : s.accepted ≡ Some y) (super : s.pinned ≡ pinned keys) (table : IsTableOf naming (pinned keys) y.lists y.table) (records : HasRecords y) where
      abbrev z : Structure
      z = next_structure s y

      abbrev v : View
      v = view_over s y

      is_of_declared : IsOfDeclared (released s) y.lists.own.plan
      is_of_declared = of_declared s new y ready f.own.always

      is_declared : s.phase ≡ phase.Declared
      is_declared = is_of_declared.is_declared

      up : s.phase ≡ phase.Failed → ⊥
      up down = let two : phase.Declared ≡ phase.Failed = sym is_declared ∙ down in cc two

      at_declared : IsAt (o keys naming u) f.story f.tried (released s)
      at_declared = f.low.own.stands up

      hand_is : in_hand (Open s) ≡ Some v
      hand_is = ap (option_map (view_over s)) ready

      -- the reply in hand is the one that was heard last
      abbrev IsHeard : Type 0
      IsHeard = (c : Signed Cert) × (stage ≡ Declared s.last c (Some y.lists))

      heard : IsHeard
      heard =
          let d = in_phase_at keys naming u s stage phase.Declared is_declared f.own.in_phase in
          let same : d.2 ≡ Some y.lists = subst (λ (r : Option Ready). IfSome r (λ a. d.2 ≡ Some a.lists)) ready d.5.accepted in
          (signed_cert keys naming u d.0 d.1, d.3 ∙ ap (Declared s.last (signed_cert keys naming u d.0 d.1)) same)

      -- the key that the table names signs it
      named : HasKey (signing_key s y) (released s) → (q : LeafNumber) → IsNamed keys naming u y (signing_key s y, q)
      named has q = signs_named keys naming u s y f.low.own.opened f.low.own.secrets super is_of_declared.user has q

      may_seal_by : (q : LeafNumber) → structure.Fits z → signing_key s y < length (keys u) → q < 1024 → HasKey (signing_key s y) (released s) → MaySeal keys naming u s.last y.lists v (signed_structure keys naming u z (signing_key s y, q))
      may_seal_by q fits own small has = may_seal keys naming u can s y (signing_key s y, q) fits own small (named has q) table records

      pub signs_ok : (answer : Bytes) → HasSigned s (Ok answer) new → Covers (option_to_list (in_hand (Open s))) → IsMove keys naming u history stage (Open new) (answer ∷ texts) view [] (option_to_list (in_hand (Open s)))
      signs_ok answer b covers =
          let done = if_ready s new y ready (λ r. (leaf : LeafNumber) × IsKept leaf (structure_record (signed_text s leaf r)) (under (signing_key s r) s.devices) (under (signing_key s r) new.devices) × (new ≡ over new.blocks (on new.devices (signed_over s leaf r)))) b.signed in
          let is = done.2 in
          let n = signing_key s y in
          let low_is = low_signed s new y ready answer f.own.always b in
          let k = signs (o keys naming u) (Unit {0}) f.story f.tried texts (released s) f.low n z (released new) answer low_is in
          let q : Mark = (n, k.0) in
          let l = where_in_turn (o keys naming u) (Unit {0} × Unit {0}) (Unit {0}) (OfStructure n z k.0 ∷ f.story) None (low_client (Open new)) (answer ∷ texts) (λ _. (tt, tt)) k.1 in
          let own = l.own.stands (λ down. let two : phase.Signed ≡ phase.Failed = sym (ap (λ (n : State). n.phase) is) ∙ down in cc two) in
          let now : Stage = Sealed (signed_structure keys naming u z q) in
          let shows : option_to_list (in_hand (Open s)) ≡ v ∷ [] = ap option_to_list hand_is in
          let may = may_seal_by k.0 l.is_story.0.next.fits l.is_story.0.own l.is_story.0.small low_is.has (covers v (subst (λ (vs : List View). In v vs) (sym shows) (inl refl))) in
          record {
            act = Accepts v;
            after = now;
            may = subst (λ (at : Stage). MayMove (pinned keys) naming history u at (Accepts v) now) (sym heard.1) may;
            sends = refl;
            accepts = sym shows;
            follows = record {
              story = OfStructure n z k.0 ∷ f.story;
              tried = None;
              low = l;
              of_story = inl refl;
              tries = subst (λ (w : Option View). IsTriedAt keys naming u (OfStructure n z k.0 ∷ f.story) None w now) (sym (f.own.no_view up)) tt;
              own = record {
                no_view = λ _. f.own.no_view up;
                in_phase = signed_at keys naming u new now (ap (λ (n : State). n.phase) is) (z, q, refl, own.last, own.text);
                always = always;
              };
            };
          }

      pub sign_fails_here : HasSigned s (Err error.Device) new → At (Open new) (in_hand (Open s)) stage
      sign_fails_here b =
          let k = sign_fails (o keys naming u) (Unit {0}) f.story f.tried texts (released s) f.low (signing_key s y) z (released new) error.Device low_is in
          let is = b.fails refl in
          let l = where_in_turn (o keys naming u) (Unit {0} × Unit {0}) (Unit {0}) f.story k.0 (low_client (Open new)) texts (λ _. (tt, tt)) k.2 in
          record {
            story = f.story;
            tried = k.0;
            low = l;
            of_story = f.of_story;
            tries = subst (λ (w : Option View). IsTriedAt keys naming u f.story k.0 w stage) (sym hand_is) (tried k.0 k.1 l.is_tried);
            own = record {
              no_view = λ stands. absurd (stands (ap (λ (n : State). n.phase) is));
              in_phase = failed_at keys naming u new stage (ap (λ (n : State). n.phase) is);
              always = always;
            };
          }
        where
          low_is : low.HasSigned (released s) (signing_key s y) z (Err error.Device) (released new)
          low_is = low_sign_failed s new y ready f.own.always b

          told : phase_in f.story ≡ phase.Declared
          told = elim at_declared.phase [
            | inl same ↦ sym same ∙ is_declared
            | inr other ↦ (let two : phase.Declared ≡ phase.Idle = sym is_declared ∙ other.1 in absurd (cc two))
          ]

          tried : (some : Option Release) → IsTriedStructure (signing_key s y) z some → IfSome some (IsAfter (o keys naming u) f.story) → IsTriedAt keys naming u f.story some (Some v) stage
          tried some (inl none) after = subst (λ (t : Option Release). IsTriedAt keys naming u f.story t (Some v) stage) (sym none) told
          tried some (inr (q, one)) after =
              let here = subst (λ (t : Option Release). IfSome t (IsAfter (o keys naming u) f.story)) one after in
              subst (λ (t : Option Release). IsTriedAt keys naming u f.story t (Some v) stage) (sym one) (
                told,
                (
                  heard.0,
                  y.lists,
                  heard.1 ∙ ap (λ (l : Option (Signed Structure)). Declared l heard.0 (Some y.lists)) at_declared.last,
                  subst (λ (l : Option (Signed Structure)). MaySeal keys naming u l y.lists v (signed_structure keys naming u z (signing_key s y, q))) at_declared.last
                      (may_seal_by q here.next.fits here.own here.small low_is.has),
                ),
              )

    -- ---- committing

    pub commits : new ≡ committed status.Ok s → s.phase ≡ phase.Signed → (payload : Bytes) → WasAnswered (pinned keys) history (commit_of s.text) (success payload) → IsMove keys naming u history stage (Open new) texts view [] []
    commits is signed_it payload done =
        let e = in_phase_at keys naming u s stage phase.Signed signed_it f.own.in_phase in
        let z = signed_structure keys naming u e.0 e.1 in
        let at = f.low.own.stands up in
        let l = low_holds.commits (o keys naming u) (Unit {0}) (Unit {0}) f.story f.tried texts (λ t. t) (released s) (released new) f.low (record { signed = signed_it; state = ap released is }) in
        let now : Stage = Idle (Some z) in
        record {
          act = Ends;
          after = now;
          may = subst (λ (b : Stage). MayMove (pinned keys) naming history u b Ends now) (sym e.2) (refl, payload, subst (λ (t : Bytes). WasAnswered (pinned keys) history (commit_of t) (success payload)) e.4 done);
          sends = refl;
          accepts = refl;
          follows = record {
            story = f.story;
            tried = f.tried;
            low = l;
            of_story = ended f.story f.low.is_story z (sym at.last ∙ e.3) at.phase;
            tries =
                subst (λ (t : Option Release). IsTriedAt keys naming u f.story t view now) (sym at.none_tried)
                (subst (λ (w : Option View). IsTriedAt keys naming u f.story None w now) (sym (f.own.no_view up)) tt);
            own = record {
              no_view = λ _. f.own.no_view up;
              in_phase = idle_at keys naming u new now (ap (λ (n : State). n.phase) is) (ap Idle (sym (ap (λ (n : State). n.last) is ∙ e.3)));
              always = always;
            };
          };
        }
      where
        up : s.phase ≡ phase.Failed → ⊥
        up down = let two : phase.Signed ≡ phase.Failed = sym signed_it ∙ down in cc two

        ended : (story : List Release) → IsStory (o keys naming u) story → (z : Signed Structure) → last_in (o keys naming u) story ≡ Some z → IsPhase (phase_in story) s.phase → IsOfStory keys naming u story (Idle (Some z))
        ended [] is_story z last at = absurd (let two : None ≡ Some z = last in cc two)
        ended (OfCert n c q ∷ older) is_story z last at = absurd (elim at [
          | inl same ↦ (let two : phase.Signed ≡ phase.Declared = sym signed_it ∙ same in cc two)
          | inr other ↦ (let two : phase.Declared ≡ phase.Signed = other.0 in cc two)
        ])
        ended (OfStructure n y q ∷ older) is_story z last at = inr (ap Idle (sym last))

    -- ---- hearing

    pub hears : (c : Cert) (q : Mark) (was : Option Lists) → stage ≡ Declared s.last (signed_cert keys naming u c q) was → s.phase ≡ phase.Declared → released new ≡ released s → (x : Lists) → HoldsHeard keys naming u new (Some x)
        → IsReply (pinned keys) history (signed_cert keys naming u c q) x → s.text ≡ cert_text keys naming u c q
        → IsMove keys naming u history stage (Open new) texts view [] []
    hears c q was at declared same x in_hand reply sent =
        let now : Stage = Declared s.last (signed_cert keys naming u c q) (Some x) in
        let here : At (Open s) view stage = f in
        record {
          act = Heard_it;
          after = now;
          may = subst (λ (b : Stage). MayMove (pinned keys) naming history u b Heard_it now) (sym at) (refl, refl, reply);
          sends = refl;
          accepts = refl;
          follows = record {
            story = f.story;
            tried = f.tried;
            low = subst (λ (r : Released). low_holds.Holds (o keys naming u) (Unit {0}) f.story f.tried (low.Open r) texts) (sym same) f.low;
            of_story = of_story f.story f.of_story;
            tries =
                subst (λ (t : Option Release). IsTriedAt keys naming u f.story t view now) (sym stands.none_tried)
                (subst (λ (w : Option View). IsTriedAt keys naming u f.story None w now) (sym (f.own.no_view up)) tt);
            own = record {
              no_view = λ _. f.own.no_view up;
              in_phase = declared_at keys naming u new now (ap (λ (r : Released). r.phase) same ∙ declared) (
                c,
                q,
                Some x,
                ap (λ (r : Released). Declared r.last (signed_cert keys naming u c q) (Some x)) (sym same),
                ap (λ (r : Released). r.text) same ∙ sent,
                in_hand,
              );
              always = always;
            };
          };
        }
      where
        up : s.phase ≡ phase.Failed → ⊥
        up down = let two : phase.Declared ≡ phase.Failed = sym declared ∙ down in cc two

        stands : IsAt (o keys naming u) f.story f.tried (released s)
        stands = f.low.own.stands up

        of_story : (story : List Release) → IsOfStory keys naming u story stage → IsOfStory keys naming u story (Declared s.last (signed_cert keys naming u c q) (Some x))
        of_story [] of = absurd (let two : Declared s.last (signed_cert keys naming u c q) was ≡ Idle None = sym at ∙ of in cc two)
        of_story (OfCert n d p ∷ older) (inl of) =
            let two : Declared s.last (signed_cert keys naming u c q) was ≡ Declared (last_in (o keys naming u) older) (signed_cert keys naming u d (n, p)) of.0 = sym at ∙ of.1 in
            inl (Some x, cc two)
        of_story (OfCert n d p ∷ older) (inr of) = absurd (let two : Declared s.last (signed_cert keys naming u c q) was ≡ Declined (last_in (o keys naming u) older) (signed_cert keys naming u d (n, p)) = sym at ∙ of in cc two)
        of_story (OfStructure n z p ∷ older) (inl of) = absurd (let two : Declared s.last (signed_cert keys naming u c q) was ≡ Sealed (signed_structure keys naming u z (n, p)) = sym at ∙ of in cc two)
        of_story (OfStructure n z p ∷ older) (inr of) = absurd (let two : Declared s.last (signed_cert keys naming u c q) was ≡ Idle (Some (signed_structure keys naming u z (n, p))) = sym at ∙ of in cc two)
