-- Each move of a dialogue keeps the clients and the server in step.
use Rattle.std.proofs.Common.{◌≡◌, ◌≢◌, ℕ, List, [], ◌∷◌, ◌++◌, Option, Some, None, refl, sym, ap, ◌∙◌, subst, inl, inr}
use Rattle.std.specs.Prelude.{◌⊎◌, not}
use Rattle.std.specs.List.{Contains, filter}
use Rattle.std.proofs.lemmas.Bool.{eq-eqb, ne_eqb, cases_eq}
use Rattle.layout.specs.Types.{Key}
use Rattle.version_order.specs.Plan.{Plan}
use Rattle.version_order.specs.Structure.{Structure}
use Rattle.update_cert.specs.Cert.{Cert, cert}
use Rattle.pending_list.specs.declared.signed.Signed.{Signed}
use Rattle.pending_list.specs.Signed.{signed}
use Rattle.reply_rules.specs.Lists.{Lists}
use Rattle.consistency_server.specs.Event.{Event, Placed, Committed, committed, last_of}
use Rattle.consistency_server.specs.State.{Placement, commits, next_placement, pending_after, pending_of, state_after, table_after}
use Rattle.consistency_server.specs.History.{events}
use Rattle.agreement.specs.Runs.{View}
use Rattle.agreement.proofs.Members.{In, contains_in, in-append, in-left, in_contains}
use Rattle.honest_history.specs.Placed.{IsSince}
use Rattle.honest_history.specs.Honest.{IsHonest, Naming}
use Rattle.honest_history.specs.Served.{IsHonestHistory}
use Rattle.honest_history.specs.OneLine.{AreOver}
use Rattle.honest_history.proofs.Answered.{commits_honest, updates_honest}
use Rattle.honest_history.proofs.Committing.{none_left}
use Rattle.honest_history.proofs.Good.{item_of}
use Rattle.honest_history.proofs.Reached.{Reached, can_commit, reach, reached}
use Rattle.wire.specs.declared.kinds.Status.TheVariants as status
use Rattle.consistency_server.specs.Answers.{Call, cert_of}
use Rattle.honest_dialogues.specs.Dialogue.{Act, Declared, IsNaming, IsNextCert, LastAnswered, Move, Sealed, Stage, calls, commit_by, stage_of, update_by, views}
use Rattle.honest_dialogues.specs.OneLine.{AreGood, IsGoodAnswer}
use Rattle.honest_dialogues.specs.GoingOn.{events_of}
use Rattle.honest_dialogues.proofs.Calls.{commit_leads, is_sent, update_leads}
use Rattle.honest_dialogues.proofs.Declined.{free_of_declined}
use Rattle.honest_dialogues.proofs.Stages.{Free, IsDeclaredAt, IsDeclinedAt, IsHeard, IsIdleAt, IsSealedAt, Leaves, StandsAt, leaves_committed, leaves_placed, leaves_same, none_pending, stands_stays}

-- a structure that a client signed over one of these views
abbrev pub IsShown : List View → Structure → Type 0
IsShown vs z = (y : View) × In y vs × (y.signed ≡ z)

-- the clients and the server are in step
pub record InStep (pinned : Key) (naming : Naming) (moves : List Move) : Type 0 where
  pub honest : IsHonestHistory naming pinned (calls moves)
  pub stands : (u : ℕ) → StandsAt pinned naming (events_of pinned moves) (views moves) u (stage_of u moves)
  pub over : AreOver pinned (events_of pinned moves) (views moves)
  pub shown : (z : Signed Structure) → In z (committed (events_of pinned moves)) → IsShown (views moves) z.value
  pub answers : AreGood pinned naming moves

-- ---- views over replies stay so

over_since : (pinned : Key) (es later : List Event) (vs : List View) → ((first : List Event) → IsSince first es → IsSince first later) → AreOver pinned es vs → AreOver pinned later vs
over_since pinned es later [] h over = tt
over_since pinned es later (x ∷ older) h over =
    let o = over.0 in
    (record { cert = o.cert; earlier = o.earlier; since = h (Placed o.cert ∷ o.earlier) o.since; lists = o.lists; signed = o.signed; released = o.released }, over_since pinned es later older h over.1)

module _ (pinned : Key) (naming : Naming) (is : IsNaming pinned naming) where
  -- one client moves, and the others stand as they did
  pub others_stand : (es later : List Event) (vs more : List View) (older : List Move) (m : Move) → StandsAt pinned naming later more m.user m.after → ((u : ℕ) → u ≢ m.user → StandsAt pinned naming later more u (stage_of u older))
      → (u : ℕ) → StandsAt pinned naming later more u (stage_of u (m ∷ older))
  others_stand es later vs more older m here there u =
      elim (cases_eq m.user u) [
        | inl e ↦ rw (eq-eqb m.user u e) (subst (λ u. StandsAt pinned naming later more u m.after) e here)
        | inr n ↦ rw (ne_eqb m.user u n) (there u (λ e. n (sym e)))
      ]

  -- ---- a client alone

  pub quiet : (older : List Move) (u : ℕ) (act : Act) (after : Stage) → InStep pinned naming older → calls (record { user = u; act = act; after = after } ∷ older) ≡ calls older → views (record { user = u; act = act; after = after } ∷ older) ≡ views older
      → IsGoodAnswer pinned naming (calls older) u (stage_of u older) act → StandsAt pinned naming (events_of pinned older) (views older) u after → InStep pinned naming (record { user = u; act = act; after = after } ∷ older)
  quiet older u act after s same_calls same_views good here =
      let m : Move = record { user = u; act = act; after = after } in
      record {
        honest = subst (IsHonestHistory naming pinned) (sym same_calls) s.honest;
        stands = subst (λ h. (v : ℕ) → StandsAt pinned naming (events pinned h) (views (m ∷ older)) v (stage_of v (m ∷ older))) (sym same_calls)
            (subst (λ vs. (v : ℕ) → StandsAt pinned naming (events_of pinned older) vs v (stage_of v (m ∷ older))) (sym same_views)
            (others_stand (events_of pinned older) (events_of pinned older) (views older) (views older) older m here (λ v n. s.stands v)));
        over = subst (λ h. AreOver pinned (events pinned h) (views (m ∷ older))) (sym same_calls) (subst (AreOver pinned (events_of pinned older)) (sym same_views) s.over);
        shown = subst (λ h. (z : Signed Structure) → In z (committed (events pinned h)) → IsShown (views (m ∷ older)) z.value) (sym same_calls)
            (subst (λ vs. (z : Signed Structure) → In z (committed (events_of pinned older)) → IsShown vs z.value) (sym same_views) s.shown);
        answers = (good, s.answers);
      }

  pub declares : (older : List Move) (u : ℕ) (last : Option (Signed Structure)) (c : Signed Cert) → InStep pinned naming older → IsIdleAt pinned naming (events_of pinned older) (views older) u last → IsNextCert u last c
      → IsDeclaredAt pinned (events_of pinned older) u last c None
  declares older u last c s i next =
      record {
        next = next;
        last_is = i.last_is;
        alone = λ w there m. absurd (none_pending pinned (events_of pinned older) u i.free w (contains_in w (pending_after pinned (events_of pinned older)) there) m);
        heard_is = λ x e. cc;
      }

  -- a reply is heard
  pub hears : (es : List Event) (u : ℕ) (last : Option (Signed Structure)) (c : Signed Cert) (heard : Option Lists) (x : Lists) → IsDeclaredAt pinned es u last c heard → IsHeard pinned es c x → IsDeclaredAt pinned es u last c (Some x)
  hears es u last c heard x d is =
      record { next = d.next; last_is = d.last_is; alone = d.alone; heard_is = λ y e. let same : x ≡ y = cc in subst (IsHeard pinned es c) same is }

  -- it is heard that a structure was taken
  pub ends : (es : List Event) (vs : List View) (u : ℕ) (z : Signed Structure) → IsSealedAt pinned naming es vs u z → (last_of u es ≡ Some z) × Free pinned es u → IsIdleAt pinned naming es vs u (Some z)
  ends es vs u z d is = record {
    last_is = sym is.0;
    free = is.1;
    signed_is = λ y e. let same : z ≡ y = cc in subst (IsSealedAt pinned naming es vs u) same d;
  }

  pub forgets : (es : List Event) (u : ℕ) (last : Option (Signed Structure)) (c : Signed Cert) (heard : Option Lists) → IsDeclaredAt pinned es u last c heard → IsDeclaredAt pinned es u last c None
  forgets es u last c heard d = record { next = d.next; last_is = d.last_is; alone = d.alone; heard_is = λ x e. cc }

  -- it is heard that the certificate was declined
  pub hears_declined : (history : List Call) → IsHonestHistory naming pinned history → (u : ℕ) (last : Option (Signed Structure)) (c : Signed Cert) (heard : Option Lists) → IsDeclaredAt pinned (events pinned history) u last c heard
      → LastAnswered pinned history (update_by c) status.BadSignature → IsDeclinedAt pinned (events pinned history) u last c
  hears_declined history h u last c heard d was = record { next = d.next; last_is = d.last_is; free = free_of_declined naming pinned history h u last c heard d was }

  -- it is signed again
  pub resigns : (es : List Event) (u : ℕ) (last : Option (Signed Structure)) (c d : Signed Cert) → IsDeclinedAt pinned es u last c → IsNextCert u last d → IsDeclaredAt pinned es u last d None
  resigns es u last c d is next =
      record {
        next = next;
        last_is = is.last_is;
        alone = λ w there m. absurd (none_pending pinned es u is.free w (contains_in w (pending_after pinned es) there) m);
        heard_is = λ x e. cc;
      }

  -- or stands as before
  pub stands_declared : (es : List Event) (u : ℕ) (last : Option (Signed Structure)) (c : Signed Cert) → IsDeclinedAt pinned es u last c → IsDeclaredAt pinned es u last c None
  stands_declared es u last c is = resigns es u last c c is is.next

  -- ---- UPDATE

  -- an operation of the user's own is placed
  own_placed : (es : List Event) (u : ℕ) (last : Option (Signed Structure)) (c : Signed Cert) (heard : Option Lists) → IsDeclaredAt pinned es u last c heard → IsDeclaredAt pinned (Placed c ∷ es) u last c heard
  unfolding pending_after
  own_placed es u last c heard d =
      let w = next_placement (state_after pinned es) c in
      let more : (v : Placement) → Contains (pending_after pinned es) v → Contains (pending_after pinned (Placed c ∷ es)) v = λ v there.
      in_contains v (pending_after pinned es ++ w ∷ []) (in-left v (pending_after pinned es) (w ∷ []) (contains_in v (pending_after pinned es) there))
      in
      record {
        next = d.next;
        last_is = d.last_is;
        alone = λ v there m. (elim (in-append v (pending_after pinned es) (w ∷ []) (contains_in v (pending_after pinned es ++ w ∷ []) there)) [
          | inl k ↦ d.alone v (in_contains v (pending_after pinned es) k) m
          | inr k ↦ elim k [ inl e ↦ ap cert_of (ap item_of e) | inr none ↦ absurd none ]
        ]);
        heard_is = λ x e. (let h = d.heard_is x e in
            record { earlier = h.earlier; since = (Placed c ∷ h.since.0, ap (λ es. Placed c ∷ es) h.since.1); pending = more (next_placement (state_after pinned h.earlier) c) h.pending; lists = h.lists });
      }

  -- where the events go, and what holds of the table then
  record Goes (es later : List Event) (u : ℕ) : Type 0 where
    others : (v : ℕ) → v ≢ u → Leaves pinned es later v
    since : (first : List Event) → IsSince first es → IsSince first later

  update_goes : (es later : List Event) (u : ℕ) (last : Option (Signed Structure)) (c : Signed Cert) (heard : Option Lists) → IsDeclaredAt pinned es u last c heard → (later ≡ es) ⊎ (later ≡ Placed c ∷ es)
      → Goes es later u × IsDeclaredAt pinned later u last c heard × (committed later ≡ committed es)
  update_goes es later u last c heard d (inl e) =
      subst (λ later. Goes es later u × IsDeclaredAt pinned later u last c heard × (committed later ≡ committed es)) (sym e)
      (record { others = λ v n. leaves_same pinned es v; since = λ first s. s }, d, refl)
  update_goes es later u last c heard d (inr e) =
      subst (λ later. Goes es later u × IsDeclaredAt pinned later u last c heard × (committed later ≡ committed es)) (sym e) (
        record {
          others = λ v n. leaves_placed pinned es c v (λ m. n (sym m ∙ d.next.user));
          since = λ first s. (Placed c ∷ s.0, ap (λ es. Placed c ∷ es) s.1);
        },
        own_placed es u last c heard d,
        refl,
      )

  pub updates : (older : List Move) (u : ℕ) (act : Act) (last : Option (Signed Structure)) (c : Signed Cert) (heard : Option Lists) → InStep pinned naming older → IsDeclaredAt pinned (events_of pinned older) u last c heard
      → calls (record { user = u; act = act; after = Declared last c heard } ∷ older) ≡ update_by c ∷ calls older → views (record { user = u; act = act; after = Declared last c heard } ∷ older) ≡ views older
      → IsGoodAnswer pinned naming (calls older) u (stage_of u older) act
      → InStep pinned naming (record { user = u; act = act; after = Declared last c heard } ∷ older)
  updates older u act last c heard s d same_calls same_views good =
      let m : Move = record { user = u; act = act; after = Declared last c heard } in
      let es = events_of pinned older in
      let later = events pinned (update_by c ∷ calls older) in
      let (goes, still, same) = update_goes es later u last c heard d (update_leads pinned naming (calls older) s.honest u last c heard d) in
      record {
        honest = subst (IsHonestHistory naming pinned) (sym same_calls) (updates_honest naming pinned (calls older) s.honest ((signed cert).spell c) d.next.bytes);
        stands = subst (λ h. (v : ℕ) → StandsAt pinned naming (events pinned h) (views (m ∷ older)) v (stage_of v (m ∷ older))) (sym same_calls)
            (subst (λ vs. (v : ℕ) → StandsAt pinned naming later vs v (stage_of v (m ∷ older))) (sym same_views)
            (others_stand es later (views older) (views older) older m still (λ v n. stands_stays pinned naming es later v (goes.others v n) (views older) (stage_of v older) (s.stands v))));
        over = subst (λ h. AreOver pinned (events pinned h) (views (m ∷ older))) (sym same_calls) (subst (AreOver pinned later) (sym same_views) (over_since pinned es later (views older) goes.since s.over));
        shown = subst (λ h. (z : Signed Structure) → In z (committed (events pinned h)) → IsShown (views (m ∷ older)) z.value) (sym same_calls)
            (subst (λ vs. (z : Signed Structure) → In z (committed later) → IsShown vs z.value) (sym same_views) (λ z i. s.shown z (subst (In z) same i)));
        answers = (good, s.answers);
      }

  -- ---- COMMIT

  commit_goes : (es later : List Event) (vs : List View) (u : ℕ) (z : Signed Structure) → Reached naming pinned es → IsSealedAt pinned naming es vs u z
      → ((last_of u es ≡ Some z) × Free pinned es u × (later ≡ es)) ⊎ (IsHonest naming pinned es z.value × (later ≡ Committed z ∷ es))
      → Reached naming pinned later → Goes es later u × (last_of u later ≡ Some z) × Free pinned later u × ((y : Signed Structure) → In y (committed later) → (y ≡ z) ⊎ In y (committed es))
  unfolding pending_after
  commit_goes es later vs u z r d (inl k) reach' =
      subst (λ later. Goes es later u × (last_of u later ≡ Some z) × Free pinned later u × ((y : Signed Structure) → In y (committed later) → (y ≡ z) ⊎ In y (committed es))) (sym k.2)
      (record { others = λ v n. leaves_same pinned es v; since = λ first s. s }, k.0, k.1, λ y i. inr i)
  commit_goes es later vs u z r d (inr k) reach' =
      let (g, grown) = reached naming pinned es r in
      let at : Reached naming pinned (Committed z ∷ es) = subst (Reached naming pinned) k.1 reach' in
      let can = can_commit naming pinned es z g grown at.0 k.0 in
      let own_user : can.own.plan.user ≡ u = ap (λ (p : Plan). p.user) (sym can.plan) ∙ d.user_is in
      subst (λ later. Goes es later u × (last_of u later ≡ Some z) × Free pinned later u × ((y : Signed Structure) → In y (committed later) → (y ≡ z) ⊎ In y (committed es))) (sym k.1) (
        record {
          others = λ v n. leaves_committed pinned es z v (λ m. n (sym m ∙ d.user_is));
          since = λ first s. (Committed z ∷ s.0, ap (λ es. Committed z ∷ es) s.1);
        },
        rw (eq-eqb z.value.plan.user u d.user_is) refl,
        subst (λ u. pending_of u (filter (λ w. not (commits z w)) (pending_after pinned es)) ≡ None) own_user (none_left pinned es z can.own g can.there can.opened can.plan can.records can.signed),
        λ y i. i,
      )

  pub commits_to : (older : List Move) (u : ℕ) (act : Act) (z : Signed Structure) → InStep pinned naming older → IsSealedAt pinned naming (events_of pinned older) (views older) u z
      → calls (record { user = u; act = act; after = Sealed z } ∷ older) ≡ commit_by z ∷ calls older → views (record { user = u; act = act; after = Sealed z } ∷ older) ≡ views older
      → IsGoodAnswer pinned naming (calls older) u (stage_of u older) act
      → InStep pinned naming (record { user = u; act = act; after = Sealed z } ∷ older)
  commits_to older u act z s d same_calls same_views good =
      let m : Move = record { user = u; act = act; after = Sealed z } in
      let es = events_of pinned older in
      let later = events pinned (commit_by z ∷ calls older) in
      let r = reach naming pinned (calls older) s.honest.bytes s.honest.honest in
      let leads = commit_leads pinned naming (calls older) s.honest (views older) u z d in
      let honest = commits_honest naming pinned (calls older) s.honest z (is_sent pinned naming (calls older) s.honest (views older) u z d) d.bytes in
      let r' = reach naming pinned (commit_by z ∷ calls older) honest.bytes honest.honest in
      let (goes, last, free, new) = commit_goes es later (views older) u z r d leads r' in
      let mine : IsSealedAt pinned naming later (views older) u z = record { user_is = d.user_is; fits = d.fits; bytes = d.bytes; seen = d.seen; sent = inl (last, free) } in
      record {
        honest = subst (IsHonestHistory naming pinned) (sym same_calls) honest;
        stands = subst (λ h. (v : ℕ) → StandsAt pinned naming (events pinned h) (views (m ∷ older)) v (stage_of v (m ∷ older))) (sym same_calls)
            (subst (λ vs. (v : ℕ) → StandsAt pinned naming later vs v (stage_of v (m ∷ older))) (sym same_views)
            (others_stand es later (views older) (views older) older m mine (λ v n. stands_stays pinned naming es later v (goes.others v n) (views older) (stage_of v older) (s.stands v))));
        over = subst (λ h. AreOver pinned (events pinned h) (views (m ∷ older))) (sym same_calls) (subst (AreOver pinned later) (sym same_views) (over_since pinned es later (views older) goes.since s.over));
        shown = subst (λ h. (z : Signed Structure) → In z (committed (events pinned h)) → IsShown (views (m ∷ older)) z.value) (sym same_calls)
            (subst (λ vs. (y : Signed Structure) → In y (committed later) → IsShown vs y.value) (sym same_views) (λ y i. elim (new y i) [
              | inl e ↦ (d.seen.0, d.seen.1, d.seen.2 ∙ ap (λ (y : Signed Structure). y.value) (sym e))
              | inr k ↦ s.shown y k
            ]));
        answers = (good, s.answers);
      }
