-- The calls of honest clients are answered with success.
use Rattle.std.proofs.Common.{◌≡◌, ℕ, ◌+◌, ◌<◌, List, [], ◌∷◌, ◌++◌, Option, Some, None, true, false, refl, sym, ap, ◌∙◌, subst, inl, inr, arith}
use Rattle.std.specs.Prelude.{◌⊎◌, ◌==◌, find, is_some, not, IfSome}
use Rattle.std.specs.Int.{w8}
use Rattle.std.specs.Option.{option_map, option_map_or}
use Rattle.std.proofs.lemmas.Bool.{eqb-true, eq-eqb, cases_Bool, and_from, true≢false, false_from_ne_true}
use Rattle.std.proofs.lemmas.List.Elements.{All-cons}
use Rattle.layout.specs.Format.{IsBytes, whole}
use Rattle.layout.specs.Laws.{in_range, whole_again}
use Rattle.layout.specs.Types.{Bytes, Key}
use Rattle.lms_sign.specs.Signature.{valid}
use Rattle.principals.specs.Table.{Listing, Table, key_at, key_of, last_key, lists_user}
use Rattle.version_order.specs.Plan.{Plan, plan}
use Rattle.version_order.specs.Structure.{Structure, structure}
use Rattle.version_order.specs.StructureLaws.{lawful_structure}
use Rattle.version_order.specs.Vector.{version_of}
use Rattle.update_cert.specs.Cert.{Cert, cert}
use Rattle.update_cert.specs.CertLaws.{lawful_cert}
use Rattle.pending_list.specs.declared.signed.Signed.{Signed}
use Rattle.pending_list.specs.Signed.{signed}
use Rattle.pending_list.specs.SignedLaws.{lawful_signed}
use Rattle.pending_list.specs.Groups.{table_version}
use Rattle.pending_list.specs.Reply.{PendingItem, digest_of_last, reply}
use Rattle.wire.specs.declared.kinds.Status.TheVariants as status
use Rattle.consistency_server.specs.Event.{Event, Placed, Committed, committed, last_of}
use Rattle.consistency_server.specs.State.{Placement, State, next_item, next_placement, next_reply, pending_of, state_after, table_after}
use Rattle.consistency_server.specs.Answers.{Call, Outcome, Refused, Repeated, Happens, answer, at_limit, committing, happened, is_next, is_pending, outcome_of, placing, read_commit, read_update, same_cert, same_plan, same_structure, structure_of, update_beside, verified_update, verifies}
use Rattle.consistency_server.specs.History.{answer_of, commit_of, events, update_of}
use Rattle.agreement.proofs.Formed.{same_spelled}
use Rattle.agreement.proofs.Members.{In, contains_in, in_contains, in-map}
use Rattle.honest_history.specs.Honest.{AreHonest, IsHonest, Naming}
use Rattle.honest_history.specs.Served.{IsHonestHistory}
use Rattle.honest_history.specs.Answered.{IsDeclared, IsSent, IsUpdateStatus, is_under_last_key}
use Rattle.honest_history.proofs.Entries.{last_all, last_seen}
use Rattle.honest_history.proofs.Events.{latests_after}
use Rattle.honest_history.proofs.Fitting.{Fitted, fitted}
use Rattle.honest_history.proofs.Good.{Good, in_pending, is_committed, is_of, item_of, items}
use Rattle.honest_history.proofs.Members.{any_from, any_none, bytes_equal, bytes_same, bytes_true, find_none, find_nothing, find_some}
use Rattle.honest_history.proofs.Outcomes.{NewUpdate, NoUpdate, SameUpdate, update_cases}
use Rattle.honest_history.proofs.Reached.{honest_open, reach, reached}
use Rattle.honest_history.proofs.Tabled.{plan_key}
use Rattle.honest_history.proofs.Tables.{key_listed}
use Rattle.honest_history.proofs.Timeline.{user}

-- ---- UPDATE

-- who has no key isn't listed
pub not_listed : (t : Table) (u : ℕ) → key_of u t ≡ None → lists_user t u ≡ false
not_listed t u e = go (find (λ l. l.user == u) t.users) refl e
  where
    go : (o : Option Listing) → find (λ l. l.user == u) t.users ≡ o → option_map (λ l. last_key l.key l.later) o ≡ None → lists_user t u ≡ false
    go None f m = any_none (λ (l : Listing). l.user == u) t.users (find_nothing (λ (l : Listing). l.user == u) t.users f)
    go (Some l) f m = cc

module _ (pinned : Key) (es : List Event) (c : Signed Cert) (g : Good pinned es) (d : IsDeclared pinned es c) where
  abbrev state : State
  state = state_after pinned es

  below : c.value.user < 64
  below = omega (arith, (in_range w8 0 63 c.value.user d.fits.0.0).1)

  -- nothing is pending of the user where this isn't
  none_waits : find (same_cert c) state.pending ≡ None → pending_of c.value.user state.pending ≡ None
  none_waits none =
      find_none (λ (w : Placement). w.item.plan.user == c.value.user) state.pending (λ w i.
      elim (cases_Bool (w.item.plan.user == c.value.user)) [
        | inr e ↦ e
        | inl e ↦ absurd (
            let is = d.alone w (in_contains w state.pending i) (eqb-true w.item.plan.user c.value.user e) in
            let same : same_cert c w ≡ true = bytes_equal _ _ (ap (signed cert).spell (sym is)) in
            true≢false (sym same ∙ find_nothing (same_cert c) state.pending none w i))
      ])

  -- then it is the next one
  is_the_next : pending_of c.value.user state.pending ≡ None → is_next state c.value ≡ true
  is_the_next none =
      let done : (i : PendingItem) → In i (items pinned es) → user i ≡ c.value.user → is_committed es i ≡ true = λ i h u.
      elim (cases_Bool (is_committed es i)) [
        | inl e ↦ e
        | inr e ↦ absurd (
            let (w, there, same) = in-map item_of state.pending i (in_pending pinned es g i h e) in
            let no_such = find_nothing (λ (w : Placement). w.item.plan.user == c.value.user) state.pending none w there in
            true≢false (sym (eq-eqb w.item.plan.user c.value.user (ap user (sym same) ∙ u)) ∙ no_such))
      ]
      in
      let up = last_seen (items pinned es) (is_committed es) (λ u. last_of u es) state.vector g.placing g.latest g.commits c.value.user in
      let down = last_all (items pinned es) (is_committed es) (λ u. last_of u es) state.vector g.placing g.latest g.commits c.value.user below done in
      let number = d.number in
      let free : not (is_some (pending_of c.value.user state.pending)) ≡ true = ap (λ o. not (is_some o)) none in
      let named : c.value.last ≡ digest_of_last (structure_of c.value.user state) = d.last ∙ ap digest_of_last (sym ((latests_after es).of_user c.value.user below)) in
      and_from _ _ (eq-eqb c.value.number (version_of c.value.user state.vector + 1) (omega arith)) (and_from _ _ free (bytes_equal _ _ named))

  abbrev Answers : Outcome → Type 0
  Answers o = IsUpdateStatus pinned es c (answer o).status

  -- it is placed, or one of its versions can grow no further
  placed : find (same_cert c) state.pending ≡ None → Answers (placing state c)
  placed e =
      let next = is_the_next (none_waits e) in
      elim (cases_Bool (at_limit state c.value)) [
        | inl l ↦ (let is : placing state c ≡ Refused status.TooLarge = rw (next, l) refl in subst Answers (sym is) (inr (inr (inr (refl, l)))))
        | inr l ↦ (let is : placing state c ≡ Happens (Placed c) (reply.spell (next_reply state c)) = rw (next, l) refl in subst Answers (sym is) (inl refl))
      ]

  verified : find (same_cert c) state.pending ≡ None → (o : Option Key) → key_of c.value.user state.table ≡ o → Answers (verified_update state c o)
  verified free None e = inr (inl (refl, not_listed state.table c.value.user e))
  verified free (Some key) e =
      let last : is_under_last_key state.table c ≡ valid key (cert.spell c.value) c.signature = ap (λ o. option_map_or (λ key. valid key (cert.spell c.value) c.signature) o false) e in
      elim (cases_Bool (valid key (cert.spell c.value) c.signature)) [
        | inl v ↦ rw v (placed free)
        | inr v ↦ rw v (inr (inr (inl (refl, last ∙ v))))
      ]

  beside : (o : Option Placement) → find (same_cert c) state.pending ≡ o → Answers (update_beside o state c)
  beside (Some w) e = inl refl
  beside None e = verified e (key_of c.value.user state.table) refl

  pub update_answered : Answers (outcome_of state (update_of ((signed cert).spell c)))
  unfolding outcome_of
  update_answered =
      subst (λ r. Answers (read_update state r)) (sym (whole_again (signed cert) (lawful_signed cert lawful_cert) c d.fits))
      (beside (find (same_cert c) state.pending) refl)

pub each_update : (naming : Naming) (pinned : Key) (history : List Call) → IsHonestHistory naming pinned history → (c : Signed Cert) → IsDeclared pinned (events pinned history) c → IsUpdateStatus pinned (events pinned history) c (answer_of pinned history (update_of ((signed cert).spell c))).status
each_update naming pinned history h c d = update_answered pinned (events pinned history) c (reached naming pinned (events pinned history) (reach naming pinned history h.bytes h.honest)).0 d

-- ---- COMMIT

-- the structure is the one that was committed last; or it is committed now
abbrev pub Commits : Naming → Key → List Event → Signed Structure → Outcome → Type 0
Commits naming pinned es z o = ((last_of z.value.plan.user es ≡ Some z) × (o ≡ Repeated [])) ⊎ (IsHonest naming pinned es z.value × (o ≡ Happens (Committed z) []))

module _ (naming : Naming) (pinned : Key) (es : List Event) (z : Signed Structure) (g : Good pinned es) (f : Fitted pinned es) (d : IsSent naming pinned es z) where
  abbrev now : State
  now = state_after pinned es

  abbrev Goes : Outcome → Type 0
  Goes o = Commits naming pinned es z o

  -- the structure that was committed last of the user, by whom an operation was placed
  found_last : (o : Option (Signed Structure)) → structure_of z.value.plan.user now ≡ o → o ≡ Some z → option_map_or (same_structure z) (structure_of z.value.plan.user now) false ≡ true
  found_last o e is = ap (λ o. option_map_or (same_structure z) o false) (e ∙ is) ∙ bytes_same ((signed structure).spell z)

  last_found : z.value.plan.user < 64 → last_of z.value.plan.user es ≡ Some z → option_map_or (same_structure z) (structure_of z.value.plan.user now) false ≡ true
  last_found below is = found_last (structure_of z.value.plan.user now) refl ((latests_after es).of_user z.value.plan.user below ∙ is)

  waits : IsHonest naming pinned es z.value → is_pending now z.value ≡ true
  waits h =
      let w = next_placement (state_after pinned h.earlier) h.cert in
      any_from (same_plan z.value.plan) now.pending w (contains_in w now.pending h.pending) (bytes_equal _ _ (ap plan.spell h.over.plan))

  -- an operation that is pending isn't that of a structure that was committed
  not_last : IsHonest naming pinned es z.value → (o : Option (Signed Structure)) → last_of z.value.plan.user es ≡ o → option_map_or (same_structure z) o false ≡ false
  not_last h None e = refl
  not_last h (Some y) e = false_from_ne_true (same_structure z y) (λ t.
      let there = (find_some (λ (y : Signed Structure). y.value.plan.user == z.value.plan.user) (committed es) y e).0 in
      let same : z ≡ y = same_spelled (signed structure) (lawful_signed structure lawful_structure) z y d.fits (f.of_structures y there) (bytes_true _ _ t) in
      let own = next_item (state_after pinned h.earlier) h.cert in
      let opened = (honest_open pinned es z.value naming g h).1 in
      let plan : y.value.plan ≡ own.plan = ap (λ (y : Signed Structure). y.value.plan) (sym same) ∙ h.over.plan in
      let of_own : is_of own y ≡ true = and_from _ _ (eq-eqb y.value.plan.user own.plan.user (ap (λ (p : Plan). p.user) plan)) (eq-eqb y.value.plan.number own.plan.number (ap (λ (p : Plan). p.number) plan)) in
      true≢false (sym (any_from (is_of own) (committed es) y there of_own) ∙ opened))

  -- its user has a key at the number of its plan
  key_there : (key : Key) × (key_at z.value.plan.user (version_of 0 z.value.plan.vector) now.table ≡ Some key)
  key_there =
      let p : Plan = z.value.plan in
      let same = plan_key now.table pinned p g.super_key in
      elim d.sent [
        | inl last ↦ (
            let r = find_some (λ (y : Signed Structure). y.value.plan.user == p.user) (committed es) z last in
            let s = g.signed z r.0 in
            (s.0, same ∙ s.1))
        | inr honest ↦ (
            let own = next_item (state_after pinned honest.earlier) honest.cert in
            let here = honest_open pinned es z.value naming g honest in
            let s = g.tabled.signed own here.0 in
            let at : key_at own.cert.user (table_version p) now.table ≡ Some s.0 = ap (λ (q : Plan). key_at own.cert.user (table_version q) now.table) honest.over.plan ∙ s.1 in
            let of_user : own.cert.user ≡ p.user = ap (λ (q : Plan). q.user) (sym honest.over.plan) in
            (s.0, same ∙ ap (λ u. key_at u (table_version p) now.table) (sym of_user) ∙ at))
      ]

  -- it comes to the test whether its operation is pending
  goes_on : outcome_of now (commit_of ((signed structure).spell z)) ≡ committing now z
  unfolding outcome_of
  goes_on =
      let (key, has) = key_there in
      let sign : valid key (structure.spell z.value) z.signature ≡ true = subst (λ o. IfSome o (λ key. valid key (structure.spell z.value) z.signature ≡ true)) has d.signed in
      let verified : verifies now.table z ≡ true = ap (λ o. option_map_or (λ key. valid key (structure.spell z.value) z.signature) o false) has ∙ sign in
      let listed : lists_user now.table z.value.plan.user ≡ true = key_listed now.table z.value.plan.user (version_of 0 z.value.plan.vector) key has in
      ap (read_commit now) (whole_again (signed structure) (lawful_signed structure lawful_structure) z d.fits)
      ∙ rw (listed, verified) refl

  pub commit_again : last_of z.value.plan.user es ≡ Some z → outcome_of now (commit_of ((signed structure).spell z)) ≡ Repeated []
  commit_again last =
      let below : z.value.plan.user < 64 = omega (arith, (in_range w8 0 63 z.value.plan.user d.fits.0.0.1.0).1) in
      goes_on ∙ rw (last_found below last) refl

  pub commit_new : IsHonest naming pinned es z.value → outcome_of now (commit_of ((signed structure).spell z)) ≡ Happens (Committed z) []
  commit_new honest =
      let below : z.value.plan.user < 64 = omega (arith, (in_range w8 0 63 z.value.plan.user d.fits.0.0.1.0).1) in
      let other : option_map_or (same_structure z) (structure_of z.value.plan.user now) false ≡ false
      = ap (λ o. option_map_or (same_structure z) o false) ((latests_after es).of_user z.value.plan.user below) ∙ not_last honest (last_of z.value.plan.user es) refl in
      goes_on ∙ rw (other, waits honest) refl

  pub commit_goes : Goes (outcome_of now (commit_of ((signed structure).spell z)))
  commit_goes = elim d.sent [ inl last ↦ inl (last, commit_again last) | inr honest ↦ inr (honest, commit_new honest) ]

commit_ok : (naming : Naming) (pinned : Key) (es : List Event) (z : Signed Structure) (o : Outcome) → Commits naming pinned es z o → (answer o).status ≡ status.Ok
commit_ok naming pinned es z o (inl e) = ap (λ o. (answer o).status) e.1
commit_ok naming pinned es z o (inr e) = ap (λ o. (answer o).status) e.1

commit_honest : (naming : Naming) (pinned : Key) (es : List Event) (z : Signed Structure) (o : Outcome) → AreHonest naming pinned es → Commits naming pinned es z o → AreHonest naming pinned (happened o ++ es)
commit_honest naming pinned es z o h (inl e) = subst (λ o. AreHonest naming pinned (happened o ++ es)) (sym e.1) h
commit_honest naming pinned es z o h (inr e) = subst (λ o. AreHonest naming pinned (happened o ++ es)) (sym e.1) (e.0, h)

update_honest : (naming : Naming) (pinned : Key) (es : List Event) (text : Bytes) → AreHonest naming pinned es → AreHonest naming pinned (happened (read_update (state_after pinned es) (whole (signed cert) text)) ++ es)
update_honest naming pinned es text h =
    elim (update_cases (state_after pinned es) text (whole (signed cert) text) refl) [
      | NoUpdate s refused e ↦ subst (λ o. AreHonest naming pinned (happened o ++ es)) (sym e) h
      | SameUpdate c w is f e ↦ subst (λ o. AreHonest naming pinned (happened o ++ es)) (sym e) h
      | NewUpdate c is n l e ↦ subst (λ o. AreHonest naming pinned (happened o ++ es)) (sym e) h
    ]

module _ (naming : Naming) (pinned : Key) (history : List Call) (h : IsHonestHistory naming pinned history) where
  abbrev es : List Event
  es = events pinned history

  good : Good pinned es
  good = (reached naming pinned es (reach naming pinned history h.bytes h.honest)).0

  fits : Fitted pinned es
  fits = fitted pinned naming es (reach naming pinned history h.bytes h.honest)

  pub commit_answered : (z : Signed Structure) → IsSent naming pinned es z → (answer_of pinned history (commit_of ((signed structure).spell z))).status ≡ status.Ok
  commit_answered z d = commit_ok naming pinned es z (outcome_of (state_after pinned es) (commit_of ((signed structure).spell z))) (commit_goes naming pinned es z good fits d)

  pub after_update : (text : Bytes) → IsBytes text → IsHonestHistory naming pinned (update_of text ∷ history)
  unfolding events outcome_of
  after_update text bytes =
      record {
        first = h.first;
        bytes = All-cons (λ call. IsBytes call.text) (update_of text) history bytes h.bytes;
        honest = update_honest naming pinned es text h.honest;
      }

  pub after_commit : (z : Signed Structure) → IsSent naming pinned es z → IsBytes ((signed structure).spell z) → IsHonestHistory naming pinned (commit_of ((signed structure).spell z) ∷ history)
  unfolding events
  after_commit z d bytes =
      record {
        first = h.first;
        bytes = All-cons (λ call. IsBytes call.text) (commit_of ((signed structure).spell z)) history bytes h.bytes;
        honest = commit_honest naming pinned es z (outcome_of (state_after pinned es) (commit_of ((signed structure).spell z))) h.honest (commit_goes naming pinned es z good fits d);
      }

pub each_commit : (naming : Naming) (pinned : Key) (history : List Call) → IsHonestHistory naming pinned history → (z : Signed Structure) → IsSent naming pinned (events pinned history) z → (answer_of pinned history (commit_of ((signed structure).spell z))).status ≡ status.Ok
each_commit = commit_answered

pub updates_honest : (naming : Naming) (pinned : Key) (history : List Call) → IsHonestHistory naming pinned history → (text : Bytes) → IsBytes text → IsHonestHistory naming pinned (update_of text ∷ history)
updates_honest = after_update

pub commits_honest : (naming : Naming) (pinned : Key) (history : List Call) → IsHonestHistory naming pinned history → (z : Signed Structure) → IsSent naming pinned (events pinned history) z → IsBytes ((signed structure).spell z) → IsHonestHistory naming pinned (commit_of ((signed structure).spell z) ∷ history)
commits_honest = after_commit
