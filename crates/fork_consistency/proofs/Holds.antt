-- What holds of a user's client after each step of a run: its story, and the views over which its structures were signed.
use Rattle.std.proofs.Common.{◌≡◌, ℕ, ◌+◌, List, [], ◌∷◌, ◌++◌, map, Option, Some, None, Ok, Err, refl, sym, ap, ◌∙◌, subst, inl, inr, option_map, option_to_list}
use Rattle.layout.specs.Types.{Bytes, Digest}
use Rattle.leaf_ledger.specs.Ledger.{LeafNumber}
use Rattle.version_order.specs.Structure.{Structure}
use Rattle.update_cert.specs.Change.{Change}
use Rattle.update_cert.specs.Cert.{Cert}
use Rattle.pending_list.specs.declared.signed.Signed.{Signed}
use Rattle.wire.specs.declared.kinds.Status.{Status}
use Rattle.wire.specs.declared.kinds.Status.TheVariants as status
use Rattle.client_releases.specs.declared.error.ClientError.TheVariants as error
use Rattle.client_releases.specs.declared.phase.Phase.{Phase}
use Rattle.client_releases.specs.declared.phase.Phase.TheVariants as phase
use Rattle.client_releases.specs.Releasing.{IsKept, structure_record, under}
use Rattle.client_releases.specs.Told.{IsPhase, Released}
use Rattle.reply_check.specs.FirstBroken.{Known}
use Rattle.agreement.specs.Runs.{View, user_of}
use Rattle.release_runs.specs.Steps as low
use Rattle.release_runs.proofs.Holds.{IsAt, where_in_turn}
use Rattle.release_runs.proofs.Holds as low_holds
use Rattle.release_runs.proofs.Opening.{IsOf, opened_holds}
use Rattle.release_runs.proofs.Releasing.{IsTriedCert, IsTriedStructure, declare_fails, declares, resign_fails, resigns, sign_fails, signs}
use Rattle.release_runs.proofs.Stories.{OfCert, OfStructure, Release, last_in, phase_in, text_in}
use Rattle.client_verify.specs.State.{Ready, State, declared, newest_key, next_cert, next_structure, on, over as over_blocks, released, signed_over, signed_text, signing_key}
use Rattle.client_steps.specs.Steps.{Begins, Call, Client, Closed, Commits, HasBegun, HasCommitted, HasResigned, HasSigned, IsOpened, IsSound, Open, Opens, Owner, Parts, Resigns, Signs}
use Rattle.client_runs.specs.Runs.{Event}
use Rattle.client_runs.specs.Released.{accepted_by, in_hand, released_by, tried_by, view_over, where_signed}
use Rattle.client_runs.proofs.Lowering.{if_ready, low_begin_failed, low_begun, low_client, low_opened, low_owner, low_parts, low_resign_failed, low_resigned, low_sign_failed, low_signed, of_declared}
use Rattle.client_runs.proofs.Replies.{AreSound, IsGoodBy, good_later, none_sound, sound_later}

-- the structures of a story
abbrev pub structures : List Release → List Structure
structures [] = []
structures (OfCert n c q ∷ older) = structures older
structures (OfStructure n z q ∷ older) = z ∷ structures older

abbrev pub signed_in : View → Structure
signed_in x = x.signed

-- one that is Declared has declared
pub told_declared : (told now : Phase) → IsPhase told now → now ≡ phase.Declared → told ≡ phase.Declared
told_declared told now (inl same) declared = sym same ∙ declared
told_declared told now (inr other) declared = let two : phase.Declared ≡ phase.Idle = sym declared ∙ other.1 in absurd (cc two)

module _ (o : Owner) where
  -- what a client with this story compares replies with
  abbrev pub known_in : List Release → Known
  known_in story = record { user = o.user; pinned = o.pinned; last = last_in (low_owner o) story; declared = text_in (low_owner o) story }

  -- The view over which a declared operation was tried to be signed.
  pub record IsTriedOver (story : List Release) (run : List Event) (v : View) : Type 0 where
    pub declared : phase_in story ≡ phase.Declared
    pub good : IsGoodBy run (known_in story) v.lists v.table
    pub plan : v.signed.plan ≡ v.lists.own.plan
    pub user : user_of v ≡ o.user

  -- a structure that was tried is over that view
  abbrev pub Tries : List Release → List Event → Option Release → Option View → Type 0
  Tries story run None None = Unit {0}
  Tries story run None (Some v) = IsTriedOver story run v
  Tries story run (Some (OfCert n c q)) None = Unit {0}
  Tries story run (Some (OfCert n c q)) (Some v) = ⊥
  Tries story run (Some (OfStructure n z q)) None = ⊥
  Tries story run (Some (OfStructure n z q)) (Some v) = IsTriedOver story run v × (v.signed ≡ z)

  -- what holds of a client while it is open
  pub record IsOpen (run : List Event) (view : Option View) (s : State) : Type 0 where
    pub pinned : s.pinned ≡ o.pinned
    pub no_view : (s.phase ≡ phase.Failed → ⊥) → view ≡ None
    pub replies : AreSound run s
    pub always : IsSound (Open s)

  abbrev pub IsOpenClient : List Event → Option View → Client → Type 0
  IsOpenClient run view (Closed p) = Unit {0}
  IsOpenClient run view (Open s) = IsOpen run view s

  -- what the client released, as client_releases has it
  abbrev pub Low : List Release → Option Release → Client → List Bytes → Type 0
  Low story tried client texts = low_holds.Holds (low_owner o) (Unit {0}) story tried (low_client client) texts

  -- After a run the client has a story, the structures of which are those of its accepted views.
  pub record Holds (run : List Event) (client : Client) (texts : List Bytes) (signed : List Structure) (view : Option View) : Type 0 where
    pub story : List Release
    pub tried : Option Release
    pub low : Low story tried client texts
    pub tries : Tries story run tried view
    pub own : IsOpenClient run view client
    pub viewed : signed ≡ structures story

  abbrev pub event : Call → Client → Event
  event call after = record { user = o.user; call = call; after = after }

  -- what holds after one step more
  abbrev pub HoldsAfter : List Event → Client → List Bytes → List Structure → Option View → Call → Client → Type 0
  HoldsAfter older before texts signed view call after =
      Holds (event call after ∷ older) after (released_by call after ++ texts) (map signed_in (accepted_by call before after view) ++ signed) (tried_by call before view)

  -- ---- later

  over_later : (e : Event) (story : List Release) (run : List Event) (v : View) → IsTriedOver story run v → IsTriedOver story (e ∷ run) v
  over_later e story run v t = record { declared = t.declared; good = good_later e run (known_in story) v.lists v.table t.good; plan = t.plan; user = t.user }

  pub tries_later : (e : Event) (story : List Release) (run : List Event) (tried : Option Release) (view : Option View) → Tries story run tried view → Tries story (e ∷ run) tried view
  tries_later e story run None None t = tt
  tries_later e story run None (Some v) t = over_later e story run v t
  tries_later e story run (Some (OfCert n c q)) None t = tt
  tries_later e story run (Some (OfCert n c q)) (Some v) t = absurd t
  tries_later e story run (Some (OfStructure n z q)) None t = absurd t
  tries_later e story run (Some (OfStructure n z q)) (Some v) t = (over_later e story run v t.0, t.1)

  none_tries : (story : List Release) (run : List Event) (view : Option View) → view ≡ None → Tries story run None view
  none_tries story run view none = subst (λ (v : Option View). Tries story run None v) (sym none) tt

  open_later : (e : Event) (run : List Event) (view : Option View) (client : Client) → IsOpenClient run view client → IsOpenClient (e ∷ run) view client
  open_later e run view (Closed p) is = tt
  open_later e run view (Open s) is = record { pinned = is.pinned; no_view = is.no_view; replies = sound_later e run s is.replies; always = is.always }

  -- a step of another client
  pub later : (e : Event) (run : List Event) (client : Client) (texts : List Bytes) (signed : List Structure) (view : Option View) → Holds run client texts signed view → Holds (e ∷ run) client texts signed view
  later e run client texts signed view h = record {
    story = h.story;
    tried = h.tried;
    low = h.low;
    tries = tries_later e h.story run h.tried view h.tries;
    own = open_later e run view client h.own;
    viewed = h.viewed;
  }

  module _ (older : List Event) (texts : List Bytes) (signed : List Structure) (view : Option View) where
    -- ---- a step that releases nothing

    -- it leaves the client closed
    pub closes : (e : Event) (before : Client) (p : Parts) → (h : Holds older before texts signed view) → Low h.story h.tried (Closed p) texts → Holds (e ∷ older) (Closed p) texts signed view
    closes e before p h low =
        record { story = h.story; tried = h.tried; low = low; tries = tries_later e h.story older h.tried view h.tries; own = tt; viewed = h.viewed }

    -- or it leaves what was released
    pub stays : (e : Event) (s new : State) → Holds older (Open s) texts signed view → released new ≡ released s → new.pinned ≡ s.pinned → AreSound (e ∷ older) new → IsSound (Open new) → Holds (e ∷ older) (Open new) texts signed view
    stays e s new h same pinned replies always = record {
      story = h.story;
      tried = h.tried;
      low = subst (λ (r : Released). low_holds.Holds (low_owner o) (Unit {0}) h.story h.tried (low.Open r) texts) (sym same) h.low;
      tries = tries_later e h.story older h.tried view h.tries;
      own = record { pinned = pinned ∙ h.own.pinned; no_view = λ up. h.own.no_view (λ down. up (ap (λ (r : Released). r.phase) same ∙ down)); replies = replies; always = always };
      viewed = h.viewed;
    }

    -- ---- opening

    -- a view that was tried in vain isn't accepted
    not_accepted : (story : List Release) (tried : Option Release) → Tries story older tried view → where_signed (phase_in story) view ≡ []
    not_accepted story tried t = go story view tried t
      where
        go : (story : List Release) (v : Option View) (tried : Option Release) → Tries story older tried v → where_signed (phase_in story) v ≡ []
        go [] v tried t = refl
        go (OfCert n c q ∷ before) v tried t = refl
        go (OfStructure n z q ∷ before) None tried t = refl
        go (OfStructure n z q ∷ before) (Some v) None t = absurd (let two : phase.Signed ≡ phase.Declared = t.declared in cc two)
        go (OfStructure n z q ∷ before) (Some v) (Some (OfCert m d p)) t = absurd t
        go (OfStructure n z q ∷ before) (Some v) (Some (OfStructure m y p)) t = absurd (let two : phase.Signed ≡ phase.Declared = t.0.declared in cc two)

    -- one whose structure is found is
    accepted_found : (story : List Release) (r : Release) → Tries story older (Some r) view → map signed_in (where_signed (phase_in (r ∷ story)) view) ++ structures story ≡ structures (r ∷ story)
    accepted_found story r t = go view r t
      where
        go : (v : Option View) (r : Release) → Tries story older (Some r) v → map signed_in (where_signed (phase_in (r ∷ story)) v) ++ structures story ≡ structures (r ∷ story)
        go v (OfCert n c q) t = refl
        go None (OfStructure n z q) t = absurd t
        go (Some v) (OfStructure n z q) t = ap (λ y. y ∷ structures story) t.1

    pub opens : (p : Parts) (s : State) (x : Unit {0}) → Holds older (Closed p) texts signed view → IsOpened o p s → IsSound (Open s) → HoldsAfter older (Closed p) texts signed view (Opens (Ok x)) (Open s)
    opens p s x h is sound =
        let k = opened_holds (low_owner o) (Unit {0}) h.story h.tried texts (low_parts p) h.low (released s) (low_opened o p s is) sound.0 x in
        record {
          story = k.0;
          tried = None;
          low = where_in_turn (low_owner o) (Unit {0} × Unit {0}) (Unit {0}) k.0 None (low_client (Open s)) (released_by (Opens (Ok x)) (Open s) ++ texts) (λ _. (tt, tt)) k.3;
          tries = tt;
          own = record {
            pinned = ap (λ (n : State). n.pinned) is.state;
            no_view = λ _. refl;
            replies = none_sound (event (Opens (Ok x)) (Open s) ∷ older) s (ap (λ (n : State). n.checked) is.state) (ap (λ (n : State). n.accepted) is.state);
            always = sound;
          };
          viewed = ap (λ (f : Phase). map signed_in (where_signed f view) ++ signed) k.2 ∙ found k.0 k.1;
        }
      where
        found : (one : List Release) → IsOf h.story h.tried one → map signed_in (where_signed (phase_in one) view) ++ signed ≡ structures one
        found one (inl same) =
            ap (λ (l : List Release). map signed_in (where_signed (phase_in l) view) ++ signed) same
            ∙ ap (λ (vs : List View). map signed_in vs ++ signed) (not_accepted h.story h.tried h.tries) ∙ h.viewed ∙ ap structures (sym same)
        found one (inr (r, tried, same)) =
            ap (λ (l : List Release). map signed_in (where_signed (phase_in l) view) ++ signed) same
            ∙ ap (λ (zs : List Structure). map signed_in (where_signed (phase_in (r ∷ h.story)) view) ++ zs) h.viewed
            ∙ accepted_found h.story r (subst (λ (t : Option Release). Tries h.story older t view) tried h.tries) ∙ ap structures (sym same)

    module _ (s : State) (h : Holds older (Open s) texts signed view) (new : State) (always : IsSound (Open new)) where
      -- ---- begin

      module _ (changes : List (Change Digest)) (laid : List Bytes) where
        view_idle : s.phase ≡ phase.Idle → view ≡ None
        view_idle idle = h.own.no_view (λ down. let two : phase.Idle ≡ phase.Failed = sym idle ∙ down in cc two)

        pub begins : (text : Bytes) → HasBegun s changes laid (Ok text) new → HoldsAfter older (Open s) texts signed view (Begins changes laid (Ok text)) (Open new)
        begins text b =
            let k = declares (low_owner o) (Unit {0}) h.story h.tried texts (released s) h.low (newest_key s) (next_cert s changes) (released new) text (low_begun s new h.own.always.0.some changes laid text b) in
            let is = b.declared.2 in
            record {
              story = OfCert (newest_key s) (next_cert s changes) k.0 ∷ h.story;
              tried = None;
              low =
                  where_in_turn (low_owner o) ((s.number + 1 ≡ s.number + 1) × Unit {0}) (Unit {0}) (OfCert (newest_key s) (next_cert s changes) k.0 ∷ h.story) None (low_client (Open new)) (text ∷ texts)
                  (λ _. (refl, tt)) k.1;
              tries = none_tries (OfCert (newest_key s) (next_cert s changes) k.0 ∷ h.story) (event (Begins changes laid (Ok text)) (Open new) ∷ older) view (view_idle b.idle);
              own = record {
                pinned = ap (λ (n : State). n.pinned) is ∙ h.own.pinned;
                no_view = λ _. view_idle b.idle;
                replies = none_sound (event (Begins changes laid (Ok text)) (Open new) ∷ older) new (ap (λ (n : State). n.checked) is) (ap (λ (n : State). n.accepted) is);
                always = always;
              };
              viewed = h.viewed;
            }

        pub begin_fails : HasBegun s changes laid (Err error.Device) new → HoldsAfter older (Open s) texts signed view (Begins changes laid (Err error.Device)) (Open new)
        begin_fails b =
            let k = declare_fails (low_owner o) (Unit {0}) h.story h.tried texts (released s) h.low (newest_key s) (next_cert s changes) (released new) error.Device (low_begin_failed s new h.own.always.0.some changes laid b) in
            let is = b.fails refl in
            record {
              story = h.story;
              tried = k.0;
              low = where_in_turn (low_owner o) ((s.number + 1 ≡ s.number + 1) × Unit {0}) (Unit {0}) h.story k.0 (low_client (Open new)) texts (λ _. (refl, tt)) k.2;
              tries = tried_cert k.0 k.1;
              own = record {
                pinned = ap (λ (n : State). n.pinned) is ∙ h.own.pinned;
                no_view = λ _. view_idle b.idle;
                replies = none_sound (event (Begins changes laid (Err error.Device)) (Open new) ∷ older) new (ap (λ (n : State). n.checked) is) (ap (λ (n : State). n.accepted) is);
                always = always;
              };
              viewed = h.viewed;
            }
          where
            tried_cert : (some : Option Release) → IsTriedCert (newest_key s) (next_cert s changes) some → Tries h.story (event (Begins changes laid (Err error.Device)) (Open new) ∷ older) some view
            tried_cert some (inl none) = subst (λ (t : Option Release). Tries h.story (event (Begins changes laid (Err error.Device)) (Open new) ∷ older) t view) (sym none) (none_tries h.story (event (Begins changes laid (Err error.Device)) (Open new) ∷ older) view (view_idle b.idle))
            tried_cert some (inr (q, one)) =
                subst (λ (t : Option Release). Tries h.story (event (Begins changes laid (Err error.Device)) (Open new) ∷ older) t view) (sym one)
                (subst (λ (v : Option View). Tries h.story (event (Begins changes laid (Err error.Device)) (Open new) ∷ older) (Some (OfCert (newest_key s) (next_cert s changes) q)) v) (sym (view_idle b.idle)) tt)

      -- ---- a certificate is signed again

      module _ (n : ℕ) where
        view_declared : s.phase ≡ phase.Declared → view ≡ None
        view_declared now = h.own.no_view (λ down. let two : phase.Declared ≡ phase.Failed = sym now ∙ down in cc two)

        pub resigns_ok : (text : Bytes) → HasResigned s n (Ok text) new → HoldsAfter older (Open s) texts signed view (Resigns n (Ok text)) (Open new)
        resigns_ok text b =
            let k = resigns (low_owner o) (Unit {0}) h.story h.tried texts (released s) h.low n (released new) text (low_resigned s new n text b) in
            let is = b.resigned.2 in
            record {
              story = OfCert n k.0 k.1 ∷ h.story;
              tried = None;
              low = where_in_turn (low_owner o) (Unit {0} × Unit {0}) (Unit {0}) (OfCert n k.0 k.1 ∷ h.story) None (low_client (Open new)) (text ∷ texts) (λ _. (tt, tt)) k.2;
              tries = none_tries (OfCert n k.0 k.1 ∷ h.story) (event (Resigns n (Ok text)) (Open new) ∷ older) view (view_declared b.declared);
              own = record {
                pinned = ap (λ (m : State). m.pinned) is ∙ h.own.pinned;
                no_view = λ _. view_declared b.declared;
                replies = none_sound (event (Resigns n (Ok text)) (Open new) ∷ older) new (ap (λ (m : State). m.checked) is) (ap (λ (m : State). m.accepted) is);
                always = always;
              };
              viewed = h.viewed;
            }

        pub resign_fails_here : HasResigned s n (Err error.Device) new → HoldsAfter older (Open s) texts signed view (Resigns n (Err error.Device)) (Open new)
        resign_fails_here b =
            let k = resign_fails (low_owner o) (Unit {0}) h.story h.tried texts (released s) h.low n (released new) error.Device (low_resign_failed s new n b) in
            let is = b.fails refl in
            record {
              story = h.story;
              tried = k.1;
              low = where_in_turn (low_owner o) (Unit {0} × Unit {0}) (Unit {0}) h.story k.1 (low_client (Open new)) texts (λ _. (tt, tt)) k.3;
              tries = tried_again k.0 k.1 k.2;
              own = record {
                pinned = ap (λ (m : State). m.pinned) is ∙ h.own.pinned;
                no_view = λ _. view_declared b.declared;
                replies = none_sound (event (Resigns n (Err error.Device)) (Open new) ∷ older) new (ap (λ (m : State). m.checked) is) (ap (λ (m : State). m.accepted) is);
                always = always;
              };
              viewed = h.viewed;
            }
          where
            tried_again : (c : Cert) (some : Option Release) → IsTriedCert n c some → Tries h.story (event (Resigns n (Err error.Device)) (Open new) ∷ older) some view
            tried_again c some (inl none) = subst (λ (t : Option Release). Tries h.story (event (Resigns n (Err error.Device)) (Open new) ∷ older) t view) (sym none) (none_tries h.story (event (Resigns n (Err error.Device)) (Open new) ∷ older) view (view_declared b.declared))
            tried_again c some (inr (q, one)) =
                subst (λ (t : Option Release). Tries h.story (event (Resigns n (Err error.Device)) (Open new) ∷ older) t view) (sym one)
                (subst (λ (v : Option View). Tries h.story (event (Resigns n (Err error.Device)) (Open new) ∷ older) (Some (OfCert n c q)) v) (sym (view_declared b.declared)) tt)

      -- ---- sign

      module _ (y : Ready) (ready : s.accepted ≡ Some y) where
        is_declared : s.phase ≡ phase.Declared
        is_declared = (of_declared s new y ready h.own.always).is_declared

        up : s.phase ≡ phase.Failed → ⊥
        up down = let two : phase.Declared ≡ phase.Failed = sym is_declared ∙ down in cc two

        at : IsAt (low_owner o) h.story h.tried (released s)
        at = h.low.own.stands up

        known_is : record { user = s.user; pinned = s.pinned; last = s.last; declared = s.text } ≡ known_in h.story
        known_is =
            ap (λ (u : ℕ). let k : Known = record { user = u; pinned = s.pinned; last = s.last; declared = s.text } in k) h.low.own.user
            ∙ ap (λ (p : Bytes). let k : Known = record { user = o.user; pinned = p; last = s.last; declared = s.text } in k) h.own.pinned
            ∙ ap (λ (l : Option (Signed Structure)). let k : Known = record { user = o.user; pinned = o.pinned; last = l; declared = s.text } in k) at.last
            ∙ ap (λ (t : Bytes). let k : Known = record { user = o.user; pinned = o.pinned; last = last_in (low_owner o) h.story; declared = t } in k) at.text

        pub is_over : IsTriedOver h.story older (view_over s y)
        is_over = record {
          declared = told_declared (phase_in h.story) s.phase at.phase is_declared;
          good = subst (λ (k : Known). IsGoodBy older k y.lists y.table) known_is (if_ready s new y ready (λ r. IsGoodBy older (record { user = s.user; pinned = s.pinned; last = s.last; declared = s.text }) r.lists r.table) h.own.replies.accepted);
          plan = refl;
          user = (of_declared s new y ready h.own.always).user ∙ h.low.own.user;
        }

        hand_is : in_hand (Open s) ≡ Some (view_over s y)
        hand_is = ap (option_map (view_over s)) ready

        pub signs_ok : (text : Bytes) → HasSigned s (Ok text) new → HoldsAfter older (Open s) texts signed view (Signs (Ok text)) (Open new)
        signs_ok text b =
            let done = if_ready s new y ready (λ r. (leaf : LeafNumber) × IsKept leaf (structure_record (signed_text s leaf r)) (under (signing_key s r) s.devices) (under (signing_key s r) new.devices) × (new ≡ over_blocks new.blocks (on new.devices (signed_over s leaf r)))) b.signed in
            let is = done.2 in
            let k = signs (low_owner o) (Unit {0}) h.story h.tried texts (released s) h.low (signing_key s y) (next_structure s y) (released new) text (low_signed s new y ready text h.own.always b) in
            record {
              story = OfStructure (signing_key s y) (next_structure s y) k.0 ∷ h.story;
              tried = None;
              low = where_in_turn (low_owner o) (Unit {0} × Unit {0}) (Unit {0}) (OfStructure (signing_key s y) (next_structure s y) k.0 ∷ h.story) None (low_client (Open new)) (text ∷ texts) (λ _. (tt, tt)) k.1;
              tries = none_tries (OfStructure (signing_key s y) (next_structure s y) k.0 ∷ h.story) (event (Signs (Ok text)) (Open new) ∷ older) view (h.own.no_view up);
              own = record {
                pinned = ap (λ (n : State). n.pinned) is ∙ h.own.pinned;
                no_view = λ _. h.own.no_view up;
                replies = none_sound (event (Signs (Ok text)) (Open new) ∷ older) new (ap (λ (n : State). n.checked) is) (ap (λ (n : State). n.accepted) is);
                always = always;
              };
              viewed = ap (λ (v : Option View). map signed_in (option_to_list v) ++ signed) hand_is ∙ ap (λ (l : List Structure). next_structure s y ∷ l) h.viewed;
            }

        pub sign_fails_here : HasSigned s (Err error.Device) new → HoldsAfter older (Open s) texts signed view (Signs (Err error.Device)) (Open new)
        sign_fails_here b =
            let k = sign_fails (low_owner o) (Unit {0}) h.story h.tried texts (released s) h.low (signing_key s y) (next_structure s y) (released new) error.Device (low_sign_failed s new y ready h.own.always b) in
            let is = b.fails refl in
            record {
              story = h.story;
              tried = k.0;
              low = where_in_turn (low_owner o) (Unit {0} × Unit {0}) (Unit {0}) h.story k.0 (low_client (Open new)) texts (λ _. (tt, tt)) k.2;
              tries = subst (λ (v : Option View). Tries h.story (event (Signs (Err error.Device)) (Open new) ∷ older) k.0 v) (sym hand_is) (tried_structure k.0 k.1);
              own = record {
                pinned = ap (λ (n : State). n.pinned) is ∙ h.own.pinned;
                no_view = λ stands. absurd (stands (ap (λ (n : State). n.phase) is));
                replies = none_sound (event (Signs (Err error.Device)) (Open new) ∷ older) new (ap (λ (n : State). n.checked) is) (ap (λ (n : State). n.accepted) is);
                always = always;
              };
              viewed = h.viewed;
            }
          where
            over : IsTriedOver h.story (event (Signs (Err error.Device)) (Open new) ∷ older) (view_over s y)
            over = over_later (event (Signs (Err error.Device)) (Open new)) h.story older (view_over s y) is_over

            tried_structure : (some : Option Release) → IsTriedStructure (signing_key s y) (next_structure s y) some → Tries h.story (event (Signs (Err error.Device)) (Open new) ∷ older) some (Some (view_over s y))
            tried_structure some (inl none) = subst (λ (t : Option Release). Tries h.story (event (Signs (Err error.Device)) (Open new) ∷ older) t (Some (view_over s y))) (sym none) over
            tried_structure some (inr (q, one)) = subst (λ (t : Option Release). Tries h.story (event (Signs (Err error.Device)) (Open new) ∷ older) t (Some (view_over s y))) (sym one) (over, refl)

      -- ---- commit

      pub commits : (st : Status) → HasCommitted s st new → HoldsAfter older (Open s) texts signed view (Commits st) (Open new)
      commits status.Ok b = record {
        story = h.story;
        tried = h.tried;
        low = low_holds.commits (low_owner o) (Unit {0}) (Unit {0}) h.story h.tried texts (λ t. t) (released s) (released new) h.low (record { signed = b.signed; state = ap released b.state });
        tries = tries_later (event (Commits status.Ok) (Open new)) h.story older h.tried view h.tries;
        own = record {
          pinned = ap (λ (n : State). n.pinned) b.state ∙ h.own.pinned;
          no_view = λ _. h.own.no_view (λ down. let two : phase.Signed ≡ phase.Failed = sym b.signed ∙ down in cc two);
          replies = subst (λ (n : State). AreSound (event (Commits status.Ok) (Open new) ∷ older) n) (sym b.state) idle;
          always = always;
        };
        viewed = h.viewed;
      }
        where
          idle : AreSound (event (Commits status.Ok) (Open new) ∷ older) (record s { phase = phase.Idle })
          idle = let a = sound_later (event (Commits status.Ok) (Open new)) older s h.own.replies in record { checked = a.checked; accepted = a.accepted }
      commits other b = stays (event (Commits other) (Open new)) s new h (ap released b.state) (ap (λ (n : State). n.pinned) b.state)
          (subst (λ (n : State). AreSound (event (Commits other) (Open new) ∷ older) n) (sym b.state) (sound_later (event (Commits other) (Open new)) older s h.own.replies)) always
