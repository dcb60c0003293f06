-- What was answered earlier to the text that a client still has: the reply is that to its operation, which is pending, and
-- breaks no rule; and a structure that was taken is the user's last.
use Rattle.std.proofs.Common.{◌≡◌, ◌+◌, ◌≤◌, ℕ, List, [], ◌∷◌, ◌++◌, Option, Some, None, Ok, true, false, refl, sym, ap, ◌∙◌, subst, inl, inr, arith}
use Rattle.std.specs.Prelude.{◌==◌, find, not}
use Rattle.std.specs.Option.{option_map_or}
use Rattle.std.proofs.lemmas.Bool.{and_from, eq-eqb, or_left, or_right, true≢false, false_from_ne_true}
use Rattle.std.proofs.lemmas.List.{append_assoc}
use Rattle.std.proofs.lemmas.List.Elements.{All-tail}
use Rattle.layout.specs.Format.{IsBytes, whole}
use Rattle.layout.specs.Laws.{whole_again}
use Rattle.layout.specs.Types.{Bytes, Key}
use Rattle.principals.specs.Table.{Table}
use Rattle.version_order.specs.Plan.{Plan}
use Rattle.version_order.specs.Structure.{Structure, structure}
use Rattle.version_order.specs.StructureLaws.{lawful_structure}
use Rattle.update_cert.specs.Cert.{Cert, cert}
use Rattle.update_cert.specs.CertLaws.{lawful_cert}
use Rattle.pending_list.specs.declared.signed.Signed.{Signed}
use Rattle.pending_list.specs.Signed.{signed}
use Rattle.pending_list.specs.SignedLaws.{lawful_signed}
use Rattle.pending_list.specs.Reply.{PendingItem}
use Rattle.reply_rules.specs.Lists.{Lists}
use Rattle.reply_check.specs.FirstBroken.{Known, lists_in}
use Rattle.consistency_server.specs.Event.{Event, Placed, Committed, committed, last_of, structures}
use Rattle.consistency_server.specs.State.{Placement, commits, next_item, next_placement, pending_after, state_after}
use Rattle.consistency_server.specs.Answers.{Answer, Call, Outcome, answer, by_kind, happened, outcome_of, read_commit, read_update, same_structure, structure_of}
use Rattle.consistency_server.specs.History.{answer_of, events}
use Rattle.agreement.specs.Runs.{View}
use Rattle.agreement.proofs.Formed.{same_spelled}
use Rattle.agreement.proofs.Members.{In, in-left, in-kept, in-right, in_contains}
use Rattle.agreement.proofs.Tests.{any_in}
use Rattle.honest_history.specs.Placed.{IsSince, lists_to, table_to}
use Rattle.honest_history.specs.Honest.{Naming, number_in}
use Rattle.honest_history.specs.Served.{IsHonestHistory, IsServed, IsUnbroken, known_after}
use Rattle.honest_history.proofs.Events.{latests_after}
use Rattle.honest_history.proofs.Fitting.{Fitted, fitted}
use Rattle.honest_history.proofs.Good.{Good, is_committed, is_of, items}
use Rattle.honest_history.proofs.Members.{any_from, bytes_true, find_some}
use Rattle.honest_history.proofs.Outcomes.{NewCommit, NewUpdate, NoCommit, NoUpdate, SameCommit, SameUpdate, commit_cases, update_cases}
use Rattle.honest_history.proofs.Reached.{honest_before, honest_open, reach, reached, still_kept}
use Rattle.honest_history.proofs.Replies.{each_reply}
use Rattle.honest_history.proofs.Waiting.{Grown}
use Rattle.honest_dialogues.specs.Dialogue.{WasAnswered, commit_by, success, update_by}
use Rattle.honest_dialogues.specs.OneLine.{AreUnbroken, known_to}
use Rattle.honest_dialogues.proofs.Stages.{Free, IsDeclaredAt, IsHeard, IsSealedAt}

-- ---- events since

-- the same events happened first of what came later
since_later : (later : List Event) (first es : List Event) → IsSince first es → IsSince first (later ++ es)
since_later later first es s = (later ++ s.0, ap (λ (xs : List Event). later ++ xs) s.1 ∙ sym (append_assoc later s.0 first))

since_since : (first second third : List Event) → IsSince first second → IsSince second third → IsSince first third
since_since first second third s t = subst (IsSince first) (sym t.1) (since_later t.0 first second s)

-- what was committed stays so
committed_stays : (first es : List Event) → IsSince first es → (z : Signed Structure) → In z (committed first) → In z (committed es)
committed_stays first es s z i = subst (λ (xs : List Event). In z (committed xs)) (sym s.1) (go s.0)
  where
    go : (later : List Event) → In z (committed (later ++ first))
    go [] = i
    go (Placed c ∷ later) = go later
    go (Committed y ∷ later) = inr (go later)

module _ (pinned : Key) (earlier : List Event) (c : Signed Cert) where
  abbrev placed : PendingItem
  placed = next_item (state_after pinned earlier) c

  -- what was placed is among what was placed
  was_placed : (later : List Event) → In placed (items pinned (later ++ Placed c ∷ earlier))
  was_placed [] = inl refl
  was_placed (Placed d ∷ later) = inr (was_placed later)
  was_placed (Committed z ∷ later) = was_placed later

  -- and it is pending until it is committed
  waits : (later : List Event) → is_committed (later ++ Placed c ∷ earlier) placed ≡ false → In (next_placement (state_after pinned earlier) c) (pending_after pinned (later ++ Placed c ∷ earlier))
  unfolding pending_after
  waits [] opened = in-right (next_placement (state_after pinned earlier) c) (pending_after pinned earlier) (next_placement (state_after pinned earlier) c ∷ []) (inl refl)
  waits (Placed d ∷ later) opened =
      let es : List Event = later ++ Placed c ∷ earlier in
      in-left (next_placement (state_after pinned earlier) c) (pending_after pinned es) (next_placement (state_after pinned es) d ∷ []) (waits later opened)
  waits (Committed z ∷ later) opened =
      let es : List Event = later ++ Placed c ∷ earlier in
      let w : Placement = next_placement (state_after pinned earlier) c in
      let before : is_committed es placed ≡ false = false_from_ne_true (is_committed es placed) (λ e. true≢false (sym (or_right (is_of placed z) (is_committed es placed) e) ∙ opened)) in
      let other : commits z w ≡ false = false_from_ne_true (commits z w) (λ e. true≢false (sym (or_left (is_of placed z) (is_committed es placed) e) ∙ opened)) in
      in-kept (λ w. not (commits z w)) w (pending_after pinned es) (waits later before) (ap not other)

-- ---- what was answered

-- A call was answered so after earlier ones, of which what holds of all of them holds, too.
record AnsweredThen (naming : Naming) (pinned : Key) (history : List Call) (call : Call) (a : Answer) : Type 0 where
  earlier : List Call
  honest : IsHonestHistory naming pinned earlier
  then_honest : IsHonestHistory naming pinned (call ∷ earlier)
  since : IsSince (events pinned (call ∷ earlier)) (events pinned history)
  answer : answer_of pinned earlier call ≡ a

module _ (naming : Naming) (pinned : Key) where
  pub before : (call : Call) (history : List Call) → IsHonestHistory naming pinned (call ∷ history) → IsHonestHistory naming pinned history
  unfolding events outcome_of
  before call history h = record {
    first = h.first;
    bytes = All-tail (λ (c : Call). IsBytes c.text) call history h.bytes;
    honest = honest_before naming pinned (events pinned history) (by_kind (state_after pinned (events pinned history)) call.text call.kind) h.honest;
  }

  one_later : (call : Call) (history : List Call) → IsSince (events pinned history) (events pinned (call ∷ history))
  unfolding events
  one_later call history = (happened (outcome_of (state_after pinned (events pinned history)) call), refl)

  answered : (history : List Call) → IsHonestHistory naming pinned history → (call : Call) (a : Answer) → WasAnswered pinned history call a → AnsweredThen naming pinned history call a
  answered [] h call a was = absurd was
  answered (x ∷ history) h call a (inl here) =
      subst (λ (y : Call). AnsweredThen naming pinned (x ∷ history) y a) here.0 (record {
        earlier = history;
        honest = before x history h;
        then_honest = h;
        since = ([], refl);
        answer = ap (answer_of pinned history) here.0 ∙ here.1;
      })
  answered (x ∷ history) h call a (inr was) =
      let r = answered history (before x history h) call a was in
      record {
        earlier = r.earlier;
        honest = r.honest;
        then_honest = r.then_honest;
        since = since_since (events pinned (call ∷ r.earlier)) (events pinned history) (events pinned (x ∷ history)) r.since (one_later x history);
        answer = r.answer;
      }

  -- ---- UPDATE

  -- which commits nothing
  none_committed : (history : List Call) (text : Bytes) → committed (happened (read_update (state_after pinned (events pinned history)) (whole (signed cert) text)) ++ events pinned history) ≡ committed (events pinned history)
  none_committed history text =
      let es : List Event = events pinned history in
      elim (update_cases (state_after pinned es) text (whole (signed cert) text) refl) [
        | NoUpdate s refused e ↦ ap (λ (o : Outcome). committed (happened o ++ es)) e
        | SameUpdate c w is f e ↦ ap (λ (o : Outcome). committed (happened o ++ es)) e
        | NewUpdate c is n l e ↦ ap (λ (o : Outcome). committed (happened o ++ es)) e
      ]

  same_committed : (history : List Call) (c : Signed Cert) → committed (events pinned (update_by c ∷ history)) ≡ committed (events pinned history)
  unfolding events outcome_of
  same_committed history c = none_committed history ((signed cert).spell c)

  -- ---- COMMIT

  module _ (es : List Event) (z : Signed Structure) (fits : (signed structure).Fits z) (f : Fitted pinned es) where
    abbrev text : Bytes
    text = (signed structure).spell z

    -- the structure that the text spells
    spelled : (y : Signed Structure) → whole (signed structure) text ≡ Ok y → z ≡ y
    spelled y e = let k : Ok z ≡ Ok y = sym (whole_again (signed structure) (lawful_signed structure lawful_structure) z fits) ∙ e in cc

    -- one that is the user's last, byte for byte, was committed
    is_last : (o : Option (Signed Structure)) → structure_of z.value.plan.user (state_after pinned es) ≡ o → option_map_or (same_structure z) o false ≡ true → In z (committed es)
    is_last None e t = absurd (true≢false (sym t))
    is_last (Some x) e t =
        let here = (find_some (λ (s : Signed Structure). s.value.plan.user == z.value.plan.user) (structures es) x e).0 in
        let last = (latests_after es).is_last x here in
        let there = (find_some (λ (s : Signed Structure). s.value.plan.user == last.0) (committed es) x last.2).0 in
        subst (λ (s : Signed Structure). In s (committed es)) (sym (same_spelled (signed structure) (lawful_signed structure lawful_structure) z x fits (f.of_structures x there) (bytes_true _ _ t))) there

    abbrev Takes : Outcome → Type 0
    Takes o = (payload : Bytes) → answer o ≡ success payload → In z (committed (happened o ++ es))

    -- what is answered with success is committed
    taken : Takes (read_commit (state_after pinned es) (whole (signed structure) text))
    taken =
        elim (commit_cases (state_after pinned es) text (whole (signed structure) text) refl) [
          | NoCommit s refused e ↦ subst Takes (sym e) (λ payload a. absurd (refused (ap (λ (x : Answer). x.status) a)))
          | SameCommit y is same e ↦ subst Takes (sym e) (λ payload a.
              is_last (structure_of z.value.plan.user (state_after pinned es)) refl
              (subst (λ (x : Signed Structure). option_map_or (same_structure x) (structure_of x.value.plan.user (state_after pinned es)) false ≡ true) (sym (spelled y is.read)) same))
          | NewCommit y is waiting e ↦ subst Takes (sym e) (λ payload a. inl (spelled y is.read))
        ]

  was_taken : (history : List Call) → IsHonestHistory naming pinned history → (z : Signed Structure) → (signed structure).Fits z → (payload : Bytes) → answer_of pinned history (commit_by z) ≡ success payload → In z (committed (events pinned (commit_by z ∷ history)))
  unfolding events outcome_of
  was_taken history h z fits payload a =
      taken (events pinned history) z fits (fitted pinned naming (events pinned history) (reach naming pinned history h.bytes h.honest)) payload a

-- ---- clients

module _ (pinned : Key) (naming : Naming) (history : List Call) (h : IsHonestHistory naming pinned history) where
  abbrev es : List Event
  es = events pinned history

  grown_now : Good pinned es × Grown pinned es
  grown_now = reached naming pinned es (reach naming pinned history h.bytes h.honest)

  -- ---- a reply

  module _ (u : ℕ) (last : Option (Signed Structure)) (c : Signed Cert) (heard : Option Lists) (d : IsDeclaredAt pinned es u last c heard) (payload : Bytes) (was : WasAnswered pinned history (update_by c) (success payload)) where
    then_was : AnsweredThen naming pinned history (update_by c) (success payload)
    then_was = answered naming pinned history h (update_by c) (success payload) was

    abbrev then_es : List Event
    then_es = events pinned (update_by c ∷ then_was.earlier)

    served : IsServed naming pinned then_was.earlier ((signed cert).spell c) payload
    served = each_reply naming pinned then_was.earlier then_was.honest ((signed cert).spell c) payload d.next.bytes then_was.answer

    cert_is : served.cert ≡ c
    cert_is = let k : Ok served.cert ≡ Ok c = sym served.declared ∙ whole_again (signed cert) (lawful_signed cert lawful_cert) c d.next.fits in cc

    -- its operation
    abbrev own : PendingItem
    own = next_item (state_after pinned served.earlier) served.cert

    since : IsSince (Placed served.cert ∷ served.earlier) es
    since = since_since (Placed served.cert ∷ served.earlier) then_es es served.since then_was.since

    user_is : served.cert.value.user ≡ u
    user_is = ap (λ (x : Signed Cert). x.value.user) cert_is ∙ d.next.user

    number_is : served.cert.value.number ≡ number_in (last_of u es) + 1
    number_is = ap (λ (x : Signed Cert). x.value.number) cert_is ∙ d.next.number ∙ ap (λ (o : Option (Signed Structure)). number_in o + 1) d.last_is

    there : In own (items pinned es)
    there = subst (λ (xs : List Event). In own (items pinned xs)) (sym since.1) (was_placed pinned served.earlier served.cert since.0)

    -- isn't committed
    opened : is_committed es own ≡ false
    opened =
        false_from_ne_true (is_committed es own) (λ done.
        let early : served.cert.value.number ≤ number_in (last_of served.cert.value.user es) = grown_now.0.commits.early own there done in
        let same : number_in (last_of served.cert.value.user es) ≡ number_in (last_of u es) = ap (λ (v : ℕ). number_in (last_of v es)) user_is in
        absurd (omega (arith, early, same, number_is)))

    -- and so is pending
    pending : In (next_placement (state_after pinned served.earlier) served.cert) (pending_after pinned es)
    pending =
        subst (λ (xs : List Event). In (next_placement (state_after pinned served.earlier) served.cert) (pending_after pinned xs)) (sym since.1)
        (waits pinned served.earlier served.cert since.0 (subst (λ (xs : List Event). is_committed xs own ≡ false) since.1 opened))

    -- the lists of the reply are those of the reply to it
    pub heard_then : (x : Lists) → lists_in payload ≡ Some x → IsHeard pinned es c x
    heard_then x are =
        let same : Some x ≡ Some (lists_to pinned served.earlier served.cert) = sym are ∙ served.unbroken.lists in
        subst (λ (c' : Signed Cert). IsHeard pinned es c' x) cert_is (record {
          earlier = served.earlier;
          since = since;
          pending = in_contains (next_placement (state_after pinned served.earlier) served.cert) (pending_after pinned es) pending;
          lists = cc;
        })

    -- the user's last structure was the same then
    opened_then : is_committed then_es own ≡ false
    opened_then =
        false_from_ne_true (is_committed then_es own) (λ done.
        let z = any_in (is_of own) (committed then_es) done in
        true≢false (sym (any_from (is_of own) (committed es) z.0 (committed_stays then_es es then_was.since z.0 z.1) z.2) ∙ opened))

    last_then : last_of served.cert.value.user (events pinned then_was.earlier) ≡ last
    last_then =
        let v = served.cert.value.user in
        let then_at = reached naming pinned then_es (reach naming pinned (update_by c ∷ then_was.earlier) then_was.then_honest.bytes then_was.then_honest.honest) in
        let now_kept = still_kept pinned es served.earlier served.cert grown_now.1 since opened in
        let then_kept = still_kept pinned then_es served.earlier served.cert then_at.1 served.since opened_then in
        ap (λ (zs : List (Signed Structure)). find (λ (s : Signed Structure). s.value.plan.user == v) zs) (sym (same_committed naming pinned then_was.earlier c))
        ∙ then_kept.last ∙ sym now_kept.last ∙ ap (λ (v : ℕ). last_of v es) user_is ∙ sym d.last_is

    -- it breaks no rule
    pub unbroken_then : (x : Lists) × (t : Table) × IsUnbroken naming (known_to pinned u last c) payload x t
    unbroken_then =
        let known : known_after pinned (events pinned then_was.earlier) served.cert ((signed cert).spell c) ≡ known_to pinned u last c
        = ap (λ (v : ℕ). record { user = v; pinned = pinned; last = last_of served.cert.value.user (events pinned then_was.earlier); declared = (signed cert).spell c }) user_is
        ∙ ap (λ (o : Option (Signed Structure)). record { user = u; pinned = pinned; last = o; declared = (signed cert).spell c }) last_then in (
          lists_to pinned served.earlier served.cert,
          table_to pinned served.earlier served.cert,
          subst (λ (k : Known). IsUnbroken naming k payload (lists_to pinned served.earlier served.cert) (table_to pinned served.earlier served.cert)) known served.unbroken,
        )

  pub are_unbroken : (u : ℕ) (last : Option (Signed Structure)) (c : Signed Cert) (heard : Option Lists) → IsDeclaredAt pinned es u last c heard → AreUnbroken pinned naming history u last c
  are_unbroken u last c heard d payload was = unbroken_then u last c heard d payload was

  -- ---- a structure

  -- that was taken is the user's last, and nothing is pending
  pub committed_then : (vs : List View) (u : ℕ) (z : Signed Structure) → IsSealedAt pinned naming es vs u z → (payload : Bytes) → WasAnswered pinned history (commit_by z) (success payload) → (last_of u es ≡ Some z) × Free pinned es u
  committed_then vs u z d payload was =
      let a = answered naming pinned history h (commit_by z) (success payload) was in
      let then_es : List Event = events pinned (commit_by z ∷ a.earlier) in
      let there = committed_stays then_es es a.since z (was_taken naming pinned a.earlier a.honest z d.fits payload a.answer) in
      elim d.sent [
        | inl k ↦ k
        | inr k ↦ absurd (
            let honest = k.0 in
            let own = next_item (state_after pinned honest.earlier) honest.cert in
            let opened = (honest_open pinned es z.value naming grown_now.0 honest).1 in
            let plan : z.value.plan ≡ own.plan = honest.over.plan in
            let of_own : is_of own z ≡ true = and_from _ _ (eq-eqb z.value.plan.user own.plan.user (ap (λ (p : Plan). p.user) plan)) (eq-eqb z.value.plan.number own.plan.number (ap (λ (p : Plan). p.number) plan)) in
            true≢false (sym (any_from (is_of own) (committed es) z there of_own) ∙ opened))
      ]
