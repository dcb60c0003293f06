-- What the answer of an honest server shows was placed or committed: where clients released all of that, no answer shows
-- anything else.
use Rattle.std.proofs.Common.{◌≡◌, List, [], ◌∷◌, ◌++◌, map, Option, Some, Ok, Result, refl, sym, ap, ◌∙◌, subst, inl, inr}
use Rattle.std.specs.Prelude.{◌==◌}
use Rattle.std.specs.Option.{option_map_or}
use Rattle.std.specs.Result.{result_ok}
use Rattle.layout.specs.Format.{whole}
use Rattle.layout.specs.Laws.{whole_again}
use Rattle.layout.specs.Types.{Bytes, Key}
use Rattle.layout.specs.declared.error.ReadError.{ReadError}
use Rattle.version_order.specs.Structure.{Structure, structure}
use Rattle.version_order.specs.StructureLaws.{lawful_structure}
use Rattle.update_cert.specs.Cert.{Cert, cert}
use Rattle.update_cert.specs.CertLaws.{lawful_cert}
use Rattle.pending_list.specs.declared.signed.Signed.{Signed}
use Rattle.pending_list.specs.Signed.{signed}
use Rattle.pending_list.specs.SignedLaws.{lawful_signed}
use Rattle.pending_list.specs.Reply.{PendingItem, Reply, reply}
use Rattle.pending_list.specs.ReplyLaws.{lawful_reply}
use Rattle.reply_check.specs.FirstBroken.{reply_in}
use Rattle.wire.specs.declared.kinds.Status.{Status}
use Rattle.wire.specs.declared.kinds.Status.TheVariants as status
use Rattle.consistency_server.specs.declared.call.CallKind.{CallKind}
use Rattle.consistency_server.specs.declared.call.CallKind.TheVariants.{Update, Commit}
use Rattle.consistency_server.specs.Event.{Event, Placed, Committed, committed}
use Rattle.consistency_server.specs.State.{Placement, next_item, next_reply, pending_after, state_after}
use Rattle.consistency_server.specs.Answers.{Answer, Call, Outcome, answer, by_kind, happened, outcome_of, read_commit, read_update, same_cert}
use Rattle.consistency_server.specs.History.{answer_of, events}
use Rattle.client_runs.specs.Released.{Shown, shown_cert, shown_in, shown_structure}
use Rattle.client_runs.specs.Runs as runs
use Rattle.agreement.proofs.Members.{In, in-append, in-map}
use Rattle.fork_consistency.specs.Premises.{HasReleased}
use Rattle.honest_history.specs.Placed.{IsSince}
use Rattle.honest_history.proofs.Events.{latests_after}
use Rattle.honest_history.proofs.Fitting.{AreFitting, CanFit, all_fitted, can_fit_next, next_reply_fits}
use Rattle.honest_history.proofs.Good.{item_of}
use Rattle.honest_history.proofs.Members.{find_some}
use Rattle.honest_history.proofs.Outcomes.{NewCommit, NewUpdate, NoCommit, NoUpdate, SameCommit, SameUpdate, commit_cases, update_cases}
use Rattle.honest_history.proofs.Replies.{placed_before}
use Rattle.honest_line.proofs.Sent.{IsReleasedCert, IsReleasedStructure}

-- the text spells nothing but this value
only_value : {V : Type 0} (read : Result V ReadError) (x y : V) → read ≡ Ok x → read ≡ Ok y → x ≡ y
only_value read x y is also = let two : Ok x ≡ Ok y = sym is ∙ also in cc two

module _ (pinned : Key) (run : List runs.Event) where
  -- Clients released what the server placed and committed, which fits the formats.
  abbrev pub AreReleased : List Event → Type 0
  AreReleased [] = Unit {0}
  AreReleased (Placed c ∷ es) = CanFit pinned es c × IsReleasedCert run c × AreReleased es
  AreReleased (Committed z ∷ es) = IsReleasedStructure run z × AreReleased es

  are_fitting : (es : List Event) → AreReleased es → AreFitting pinned es
  are_fitting [] are = tt
  are_fitting (Placed c ∷ es) are = (are.0, are_fitting es are.2)
  are_fitting (Committed z ∷ es) are = (are.0.fits, are_fitting es are.1)

  released_before : (later first : List Event) → AreReleased (later ++ first) → AreReleased first
  released_before [] first are = are
  released_before (Placed c ∷ later) first are = released_before later first are.2
  released_before (Committed z ∷ later) first are = released_before later first are.1

  since_released : (first es : List Event) → IsSince first es → AreReleased es → AreReleased first
  since_released first es since are = released_before since.0 first (subst AreReleased since.1 are)

  -- ---- what a reply shows

  committed_released : (es : List Event) → AreReleased es → (z : Signed Structure) → In z (committed es) → IsReleasedStructure run z
  committed_released [] are z i = absurd i
  committed_released (Placed c ∷ es) are z i = committed_released es are.2 z i
  committed_released (Committed y ∷ es) are z (inl e) = subst (IsReleasedStructure run) (sym e) are.0
  committed_released (Committed y ∷ es) are z (inr i) = committed_released es are.1 z i

  pending_released : (es : List Event) → AreReleased es → (w : Placement) → In w (pending_after pinned es) → HasReleased w.item.cert.user run (cert.spell w.item.cert)
  pending_released es are w i =
      let (earlier, c, since, same) = placed_before pinned es w i in
      subst (λ (v : Placement). HasReleased v.item.cert.user run (cert.spell v.item.cert)) (sym same) (since_released (Placed c ∷ earlier) es since are).1.released

  module _ (es : List Event) (c : Signed Cert) (are : AreReleased (Placed c ∷ es)) where
    abbrev r : Reply
    r = next_reply (state_after pinned es) c

    abbrev IsOfClient : Shown → Type 0
    IsOfClient t = HasReleased t.user run t.text

    structure_shown : (z : Signed Structure) → In z r.structures → IsOfClient (shown_structure z)
    structure_shown z i =
        let last = (latests_after es).is_last z i in
        (committed_released es are.2 z (find_some (λ (y : Signed Structure). y.value.plan.user == last.0) (committed es) z last.2).0).released

    item_shown : (i : PendingItem) → In i r.pending → IsOfClient (shown_cert i)
    item_shown i j =
        elim (in-append i (map item_of (pending_after pinned es)) (next_item (state_after pinned es) c ∷ []) j) [
          | inl k ↦ (let (w, there, same) = in-map item_of (pending_after pinned es) i k in subst (λ (x : PendingItem). IsOfClient (shown_cert x)) (sym same) (pending_released es are.2 w there))
          | inr k ↦ elim k [ inl e ↦ subst (λ (x : PendingItem). IsOfClient (shown_cert x)) (sym e) are.1.released | inr none ↦ absurd none ]
        ]

    reply_shown : (t : Shown) → In t (shown_in r) → IsOfClient t
    reply_shown t i =
        elim (in-append t (map shown_structure r.structures) (map shown_cert r.pending) i) [
          | inl j ↦ (let (z, there, same) = in-map shown_structure r.structures t j in subst IsOfClient (sym same) (structure_shown z there))
          | inr j ↦ (let (x, there, same) = in-map shown_cert r.pending t j in subst IsOfClient (sym same) (item_shown x there))
        ]

    reads_back : reply_in (reply.spell r) ≡ Some r
    reads_back = ap result_ok (whole_again reply lawful_reply r (next_reply_fits pinned es c are.0 (all_fitted pinned es (are_fitting es are.2))))

  -- each text that is shown in these bytes is one that its user's client released
  abbrev pub ShowsReleased : Bytes → Type 0
  ShowsReleased text = (t : Shown) → In t (option_map_or shown_in (reply_in text) []) → HasReleased t.user run t.text

  text_shows : (es : List Event) (c : Signed Cert) → AreReleased (Placed c ∷ es) → ShowsReleased (reply.spell (next_reply (state_after pinned es) c))
  text_shows es c are t i =
      reply_shown es c are t (subst (λ (o : Option Reply). In t (option_map_or shown_in o [])) (reads_back es c are) i)

  -- ---- calls

  -- a call is of what a client released
  abbrev pub IsOfReleased : CallKind → Bytes → Type 0
  IsOfReleased Update text = (c : Signed Cert) × (text ≡ (signed cert).spell c) × IsReleasedCert run c
  IsOfReleased Commit text = (z : Signed Structure) × (text ≡ (signed structure).spell z) × IsReleasedStructure run z

  module _ (es : List Event) (are : AreReleased es) (text : Bytes) where
    abbrev ok : Bytes → Answer
    ok payload = record { status = status.Ok; payload = payload }

    -- what the outcome leaves was released, and so is what its answer shows
    abbrev Goes : Outcome → Type 0
    Goes o = AreReleased (happened o ++ es) × ((payload : Bytes) → answer o ≡ ok payload → ShowsReleased payload)

    payload_is : (a b : Bytes) → ok a ≡ ok b → a ≡ b
    payload_is a b e = ap (λ (x : Answer). x.payload) e

    nothing_shown : (s : Status) (payload : Bytes) → record { status = s; payload = [] } ≡ ok payload → ShowsReleased payload
    nothing_shown s payload e = subst ShowsReleased (ap (λ (x : Answer). x.payload) e) (λ t i. absurd i)

    by_update : IsOfReleased Update text → Goes (read_update (state_after pinned es) (whole (signed cert) text))
    by_update (c, spelled, is) =
        elim (update_cases (state_after pinned es) text (whole (signed cert) text) refl) [
          | NoUpdate s refused e ↦ subst Goes (sym e) (are, λ payload a. absurd (refused (ap (λ (x : Answer). x.status) a)))
          | SameUpdate d w of f e ↦ subst Goes (sym e) (
            are,
            λ payload a.
                let there = (find_some (same_cert d) (pending_after pinned es) w f).0 in
                let (earlier, b, since, same) = placed_before pinned es w there in
                subst ShowsReleased (ap (λ (v : Placement). v.reply) (sym same) ∙ payload_is w.reply payload a) (text_shows earlier b (since_released (Placed b ∷ earlier) es since are)),
          )
          | NewUpdate d of n l e ↦ subst Goes (sym e) (
              let same : c ≡ d = only_value (whole (signed cert) text) c d (ap (whole (signed cert)) spelled ∙ whole_again (signed cert) (lawful_signed cert lawful_cert) c is.fits) of.read in
              let new = subst (IsReleasedCert run) same is in
              let now : AreReleased (Placed d ∷ es) = (can_fit_next pinned es d new.fits n l, new, are) in
              (now, λ payload a. subst ShowsReleased (payload_is (reply.spell (next_reply (state_after pinned es) d)) payload a) (text_shows es d now)))
        ]

    by_commit : IsOfReleased Commit text → Goes (read_commit (state_after pinned es) (whole (signed structure) text))
    by_commit (z, spelled, is) =
        elim (commit_cases (state_after pinned es) text (whole (signed structure) text) refl) [
          | NoCommit s refused e ↦ subst Goes (sym e) (are, nothing_shown s)
          | SameCommit y of f e ↦ subst Goes (sym e) (are, nothing_shown status.Ok)
          | NewCommit y of p e ↦ subst Goes (sym e) (
              let same : z ≡ y = only_value (whole (signed structure) text) z y (ap (whole (signed structure)) spelled ∙ whole_again (signed structure) (lawful_signed structure lawful_structure) z is.fits) of.read in
              ((subst (IsReleasedStructure run) same is, are), nothing_shown status.Ok))
        ]

    by_call : (kind : CallKind) → IsOfReleased kind text → Goes (by_kind (state_after pinned es) text kind)
    by_call Update is = by_update is
    by_call Commit is = by_commit is

  -- after one more call all that was placed or committed was released
  pub still_released : (history : List Call) → AreReleased (events pinned history) → (call : Call) → IsOfReleased call.kind call.text → AreReleased (events pinned (call ∷ history))
  unfolding events outcome_of
  still_released history are call is = (by_call (events pinned history) are call.text call.kind is).0

  -- and what is answered to it shows nothing else
  pub answer_shows : (history : List Call) → AreReleased (events pinned history) → (call : Call) → IsOfReleased call.kind call.text
      → (payload : Bytes) → answer_of pinned history call ≡ record { status = status.Ok; payload = payload } → ShowsReleased payload
  unfolding outcome_of
  answer_shows history are call is payload a = (by_call (events pinned history) are call.text call.kind is).1 payload a
