-- Operations go through.
use Rattle.std.proofs.Common.{◌≡◌, ℕ, List, [], ◌∷◌, ◌++◌, Option, Some, None, Result, Ok, true, false, refl, sym, ap, ◌∙◌, subst, inl, inr}
use Rattle.std.specs.Prelude.{find}
use Rattle.std.specs.Option.{option_map_or}
use Rattle.std.proofs.lemmas.Bool.{eq-eqb, true≢false, false_from_ne_true}
use Rattle.layout.specs.Format.{whole}
use Rattle.layout.specs.Laws.{whole_again}
use Rattle.layout.specs.declared.error.ReadError.{ReadError}
use Rattle.layout.specs.Types.{Key}
use Rattle.lms_sign.specs.Signature.{valid}
use Rattle.principals.specs.Table.{Table, key_of, lists_user}
use Rattle.version_order.specs.Structure.{Structure}
use Rattle.update_cert.specs.Cert.{Cert, cert}
use Rattle.update_cert.specs.CertLaws.{lawful_cert}
use Rattle.pending_list.specs.declared.signed.Signed.{Signed}
use Rattle.pending_list.specs.Signed.{signed}
use Rattle.pending_list.specs.SignedLaws.{lawful_signed}
use Rattle.wire.specs.declared.kinds.Status.TheVariants as status
use Rattle.consistency_server.specs.Event.{Event}
use Rattle.consistency_server.specs.State.{Placement, State, pending_after, state_after, table_after}
use Rattle.consistency_server.specs.Answers.{Answer, answer, at_limit, cert_of, happened, outcome_of, read_update, same_cert, update_beside, verified_update}
use Rattle.consistency_server.specs.History.{answer_of, events}
use Rattle.agreement.proofs.Formed.{same_spelled}
use Rattle.agreement.proofs.Members.{In, map-in}
use Rattle.honest_history.specs.Answered.{is_under_last_key}
use Rattle.honest_history.specs.Honest.{Naming}
use Rattle.honest_history.proofs.Answered.{not_listed}
use Rattle.honest_history.proofs.Fitting.{fitted}
use Rattle.honest_history.proofs.Good.{item_of, pending_in}
use Rattle.honest_history.proofs.Members.{bytes_true, find_none}
use Rattle.honest_history.proofs.Reached.{Reached, reach, reached}
use Rattle.honest_dialogues.specs.Dialogue.{Accepts, Act, Commits, Declared, Declares, Declined, Ends, Hears, HearsDeclined, Idle, IsDialogue, IsNaming, IsNextCert, IsReply, MayMove, Move, Resigns, Sealed, Stage, Updates, calls, commit_by, stage_of, update_by, views}
use Rattle.honest_dialogues.specs.OneLine.{IsGoodUpdate}
use Rattle.honest_dialogues.specs.GoingOn.{EachDeclaredGoesThrough, EachOperationGoesThrough, EachResignedGoesThrough, GoesThrough, accepts, commits, declares, events_of, hears, hears_declined, resigns, signed_again, table_of, updates}
use Rattle.honest_dialogues.proofs.Calls.{good_commit, good_update}
use Rattle.honest_dialogues.proofs.Declined.{declined_leaves}
use Rattle.honest_dialogues.proofs.Dialogues.{in_step}
use Rattle.honest_dialogues.proofs.Moves.{InStep}
use Rattle.honest_dialogues.proofs.Stages.{StandsAt, none_pending}

-- the client that moved last
own_stage : (u : ℕ) (act : Act) (after : Stage) (older : List Move) → stage_of u (record { user = u; act = act; after = after } ∷ older) ≡ after
own_stage u act after older = rw (eq-eqb u u refl) refl

module _ (pinned : Key) (naming : Naming) (is : IsNaming pinned naming) where
  -- one move more
  further : (older : List Move) (u : ℕ) (stage : Stage) (act : Act) (after : Stage) → IsDialogue pinned naming older → stage_of u older ≡ stage → MayMove pinned naming (calls older) u stage act after → IsDialogue pinned naming (record { user = u; act = act; after = after } ∷ older)
  further older u stage act after d at may = (subst (λ (s : Stage). MayMove pinned naming (calls older) u s act after) (sym at) may, d)

  -- ---- a certificate that is declared

  module _ (moves : List Move) (d : IsDialogue pinned naming moves) (u : ℕ) (last : Option (Signed Structure)) (c : Signed Cert) (at : stage_of u moves ≡ Declared last c None) where
    good : IsGoodUpdate pinned naming (calls moves) u last c
    good =
        let s = in_step pinned naming is moves d in
        good_update pinned naming (calls moves) s.honest u last c None (subst (StandsAt pinned naming (events_of pinned moves) (views moves) u) at (s.stands u))

    abbrev given : Answer
    given = answer_of pinned (calls moves) (update_by c)

    module _ (known : lists_user (table_of pinned moves) c.value.user ≡ true) (own : is_under_last_key (table_of pinned moves) c ≡ true) (room : at_limit (state_after pinned (events_of pinned moves)) c.value ≡ false) where
      succeeds : given.status ≡ status.Ok
      succeeds = elim good.answered [
        | inl e ↦ e
        | inr other ↦ elim other [
          | inl e ↦ absurd (true≢false (sym known ∙ e.1))
          | inr more ↦ elim more [
            | inl e ↦ absurd (true≢false (sym own ∙ e.1))
            | inr e ↦ absurd (true≢false (sym e.1 ∙ room))
          ]
        ]
      ]

      answered : given ≡ record { status = status.Ok; payload = given.payload }
      answered = ap (λ s. record { status = s; payload = given.payload }) succeeds

      pub goes_through : GoesThrough pinned naming moves u last c
      goes_through =
          let (x, t, unbroken) = good.unbroken given.payload answered in
          let placed : List Move = updates u last c ∷ moves in
          let sent : IsDialogue pinned naming placed = further moves u (Declared last c None) Updates (Declared last c None) d at refl in
          let reply : IsReply pinned (calls placed) c x = record { payload = given.payload; answered = inl (refl, answered); lists = unbroken.lists } in
          let second : List Move = hears u last c x ∷ placed in
          let heard : IsDialogue pinned naming second = further placed u (Declared last c None) Hears (Declared last c (Some x)) sent (own_stage u Updates (Declared last c None) moves) (refl, refl, reply) in
          record {
            lists = x;
            heard = heard;
            ended = λ v z sealed.
                (let third : List Move = accepts u v z ∷ second in
                let accepted : IsDialogue pinned naming third = further second u (Declared last c (Some x)) (Accepts v) (Sealed z) heard (own_stage u Hears (Declared last c (Some x)) placed) sealed in
                let s = in_step pinned naming is third accepted in
                let here = subst (StandsAt pinned naming (events_of pinned third) (views third) u) (own_stage u (Accepts v) (Sealed z) second) (s.stands u) in
                let good = good_commit pinned naming (calls third) s.honest (views third) u z here in
                let taken : Answer = answer_of pinned (calls third) (commit_by z) in
                let fourth : List Move = commits u z ∷ third in
                let committed : IsDialogue pinned naming fourth = further third u (Sealed z) Commits (Sealed z) accepted (own_stage u (Accepts v) (Sealed z) second) refl in
                further fourth u (Sealed z) Ends (Idle (Some z)) committed (own_stage u Commits (Sealed z) third)
                (refl, taken.payload, inl (refl, ap (λ s. record { status = s; payload = taken.payload }) good)));
          }

  -- ---- the next one of a user

  module _ (moves : List Move) (d : IsDialogue pinned naming moves) (u : ℕ) (last : Option (Signed Structure)) (c : Signed Cert) (at : stage_of u moves ≡ Idle last) (next : IsNextCert u last c) (listed : lists_user (table_of pinned moves) u ≡ true) where
    abbrev first : List Move
    first = declares u last c ∷ moves

    declared : IsDialogue pinned naming first
    declared = further moves u (Idle last) Declares (Declared last c None) d at (refl, next)

    abbrev table : Table
    table = table_of pinned moves

    known : lists_user table c.value.user ≡ true
    known = ap (lists_user table) next.user ∙ listed

    abbrev room : Cert → Type 0
    room c = at_limit (state_after pinned (events_of pinned moves)) c ≡ false

    pub next_goes_through : is_under_last_key table c ≡ true → room c.value → GoesThrough pinned naming first u last c
    next_goes_through own limit = goes_through first declared u last c (own_stage u Declares (Declared last c None) moves) known own limit

    -- ---- under another key

    module _ (other : is_under_last_key table c ≡ false) where
      abbrev es : List Event
      es = events_of pinned moves

      abbrev state : State
      state = state_after pinned es

      abbrev IsBad : Result (Signed Cert) ReadError → Type 0
      IsBad r = (answer (read_update state r)).status ≡ status.BadSignature

      s : InStep pinned naming moves
      s = in_step pinned naming is moves d

      r : Reached naming pinned es
      r = reach naming pinned (calls moves) s.honest.bytes s.honest.honest

      -- it isn't pending
      not_pending : (w : Placement) → In w state.pending → same_cert c w ≡ false
      not_pending w i =
          let good = (reached naming pinned es r).0 in
          let there = (pending_in pinned es good w.item (map-in item_of state.pending w i)).0 in
          let f = (fitted pinned naming es r).of_items w.item there in
          let idle = subst (StandsAt pinned naming es (views moves) u) at (s.stands u) in
          false_from_ne_true (same_cert c w) (λ e.
          let same : c ≡ cert_of w.item = same_spelled (signed cert) (lawful_signed cert lawful_cert) c (cert_of w.item) next.fits (f.of_cert, f.of_signature) (bytes_true _ _ e) in
          none_pending pinned es u idle.free w i (good.placing.planned_user w.item there ∙ ap (λ (x : Signed Cert). x.value.user) (sym same) ∙ next.user))

      -- so it is declined
      verified : (o : Option Key) → key_of c.value.user table ≡ o → (answer (verified_update state c o)).status ≡ status.BadSignature
      verified None e = absurd (true≢false (sym known ∙ not_listed table c.value.user e))
      verified (Some key) e =
          let bad : valid key (cert.spell c.value) c.signature ≡ false = sym (ap (λ o. option_map_or (λ key. valid key (cert.spell c.value) c.signature) o false) e) ∙ other in
          rw bad refl

      bad : (answer (outcome_of state (update_by c))).status ≡ status.BadSignature
      unfolding outcome_of
      bad =
          subst IsBad (sym (whole_again (signed cert) (lawful_signed cert lawful_cert) c next.fits))
          (subst (λ (o : Option Placement). (answer (update_beside o state c)).status ≡ status.BadSignature) (sym (find_none (same_cert c) state.pending not_pending)) (verified (key_of c.value.user table) refl))

      abbrev sent : List Move
      sent = updates u last c ∷ first

      -- and nothing happens
      same_events : events_of pinned sent ≡ es
      unfolding events
      same_events = ap (λ (more : List Event). more ++ es) (declined_leaves naming pinned c next.fits es bad)

      module _ (e : Signed Cert) (again : IsNextCert u last e) (same : e.value ≡ c.value) where
        abbrev last_moves : List Move
        last_moves = signed_again u last c e moves

        signed_dialogue : IsDialogue pinned naming last_moves
        signed_dialogue =
            let was_sent : IsDialogue pinned naming sent = further first u (Declared last c None) Updates (Declared last c None) declared (own_stage u Declares (Declared last c None) moves) refl in
            let was_declined : IsDialogue pinned naming (hears_declined u last c ∷ sent) = further sent u (Declared last c None) HearsDeclined (Declined last c) was_sent (own_stage u Updates (Declared last c None) first) (refl, inl (refl, bad)) in
            further (hears_declined u last c ∷ sent) u (Declined last c) Resigns (Declared last e None) was_declined (own_stage u HearsDeclined (Declined last c) sent) (refl, same, again)

        pub again_goes_through : is_under_last_key table e ≡ true → room c.value → GoesThrough pinned naming last_moves u last e
        again_goes_through own limit =
            goes_through last_moves signed_dialogue u last e (own_stage u Resigns (Declared last e None) (hears_declined u last c ∷ sent))
            (subst (λ (es : List Event). lists_user (table_after pinned es) e.value.user ≡ true) (sym same_events) (ap (λ (x : Cert). lists_user table x.user) same ∙ known))
            (subst (λ (es : List Event). is_under_last_key (table_after pinned es) e ≡ true) (sym same_events) own)
            (subst (λ (es : List Event). at_limit (state_after pinned es) e.value ≡ false) (sym same_events) (ap (at_limit state) same ∙ limit))

pub each_goes_through : EachOperationGoesThrough
each_goes_through pinned naming moves is d u last c at next listed own room = next_goes_through pinned naming is moves d u last c at next listed own room

pub each_again_goes_through : EachResignedGoesThrough
each_again_goes_through pinned naming moves is d u last c e at next again same listed other own room = again_goes_through pinned naming is moves d u last c at next listed other e again same own room

pub each_declared_goes_through : EachDeclaredGoesThrough
each_declared_goes_through pinned naming moves is d u last c at listed own room = goes_through pinned naming is moves d u last c at listed own room
