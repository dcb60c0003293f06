-- A certificate that was declined when it was sent last isn't pending.
use Rattle.std.proofs.Common.{◌≡◌, ◌≢◌, ℕ, List, [], ◌∷◌, ◌++◌, Option, Some, None, Result, Ok, refl, sym, ap, ◌∙◌, subst, inl, inr, true, false}
use Rattle.std.specs.Prelude.{◌==◌, find, not}
use Rattle.std.proofs.lemmas.Bool.{cases_Bool, eqb-true, true≢false}
use Rattle.layout.specs.Format.{IsBytes, whole}
use Rattle.layout.specs.Laws.{whole_again}
use Rattle.layout.specs.declared.error.ReadError.{ReadError}
use Rattle.layout.specs.Types.{Bytes, Key}
use Rattle.std.proofs.lemmas.List.Elements.{All-head}
use Rattle.version_order.specs.Structure.{Structure, structure}
use Rattle.update_cert.specs.Cert.{Cert, cert}
use Rattle.update_cert.specs.CertLaws.{lawful_cert}
use Rattle.pending_list.specs.declared.signed.Signed.{Signed}
use Rattle.pending_list.specs.Signed.{signed}
use Rattle.pending_list.specs.SignedLaws.{lawful_signed}
use Rattle.reply_rules.specs.Lists.{Lists}
use Rattle.wire.specs.declared.kinds.Status.TheVariants as status
use Rattle.consistency_server.specs.declared.call.CallKind.{CallKind}
use Rattle.consistency_server.specs.declared.call.CallKind.TheVariants.{Update, Commit}
use Rattle.consistency_server.specs.Event.{Event, Placed, Committed}
use Rattle.consistency_server.specs.State.{Placement, commits, next_placement, pending_after, state_after}
use Rattle.consistency_server.specs.Answers.{Call, Outcome, Repeated, answer, by_kind, cert_of, happened, outcome_of, read_commit, read_update, same_cert, update_beside}
use Rattle.consistency_server.specs.History.{answer_of, events, update_of}
use Rattle.agreement.proofs.Members.{In, contains_in, in-append, in-filter, in_contains}
use Rattle.honest_history.specs.Honest.{Naming}
use Rattle.honest_history.specs.Served.{IsHonestHistory}
use Rattle.honest_history.proofs.Members.{bytes_equal, find_none, find_nothing}
use Rattle.honest_history.proofs.Outcomes.{NewCommit, NewUpdate, NoCommit, NoUpdate, SameCommit, SameUpdate, commit_cases, read_whole, update_cases}
use Rattle.honest_dialogues.specs.Dialogue.{LastAnswered, update_by}
use Rattle.honest_dialogues.proofs.Earlier.{before}
use Rattle.honest_dialogues.proofs.Stages.{Free, IsDeclaredAt, whose}

module _ (naming : Naming) (pinned : Key) (c : Signed Cert) (fits : (signed cert).Fits c) where
  -- the operation isn't pending after these events
  abbrev pub Absent : List Event → Type 0
  Absent es = (w : Placement) → In w (pending_after pinned es) → cert_of w.item ≢ c

  -- the certificate that the text spells
  spelled : (other : Signed Cert) → whole (signed cert) ((signed cert).spell c) ≡ Ok other → other ≡ c
  spelled other e = let k : Ok other ≡ Ok c = sym e ∙ whole_again (signed cert) (lawful_signed cert lawful_cert) c fits in cc

  -- what is pending has its reply
  repeated : (es : List Event) (w : Placement) → In w (pending_after pinned es) → cert_of w.item ≡ c → (answer (outcome_of (state_after pinned es) (update_by c))).status ≡ status.Ok
  unfolding outcome_of
  repeated es w i same =
      subst (λ (r : Result (Signed Cert) ReadError). (answer (read_update (state_after pinned es) r)).status ≡ status.Ok) (sym (whole_again (signed cert) (lawful_signed cert lawful_cert) c fits))
      (go (find (same_cert c) (pending_after pinned es)) refl)
    where
      go : (o : Option Placement) → find (same_cert c) (pending_after pinned es) ≡ o → (answer (update_beside o (state_after pinned es) c)).status ≡ status.Ok
      go (Some v) e = refl
      go None e = absurd (true≢false (sym (bytes_equal _ _ (ap (signed cert).spell (sym same))) ∙ find_nothing (same_cert c) (pending_after pinned es) e w i))

  -- so one that is declined isn't pending
  pub absent : (es : List Event) → (answer (outcome_of (state_after pinned es) (update_by c))).status ≡ status.BadSignature → Absent es
  absent es bad w i same = let two : status.BadSignature ≡ status.Ok = sym bad ∙ repeated es w i same in cc two

  -- then nothing happens
  pub declined_leaves : (es : List Event) → (answer (outcome_of (state_after pinned es) (update_by c))).status ≡ status.BadSignature → happened (outcome_of (state_after pinned es) (update_by c)) ≡ []
  unfolding outcome_of
  declined_leaves es bad = elim (update_cases (state_after pinned es) ((signed cert).spell c) (whole (signed cert) ((signed cert).spell c)) refl) [
    | NoUpdate s refused e ↦ ap happened e
    | SameUpdate d w read found e ↦ (let two : status.BadSignature ≡ status.Ok = sym bad ∙ ap (λ (o : Outcome). (answer o).status) e in absurd (cc two))
    | NewUpdate d is n l e ↦ (let two : status.BadSignature ≡ status.Ok = sym bad ∙ ap (λ (o : Outcome). (answer o).status) e in absurd (cc two))
  ]

  -- and no other call places it
  module _ (es : List Event) (text : Bytes) (none : Absent es) where
    abbrev After : Outcome → Type 0
    After o = Absent (happened o ++ es)

    placed_other : (d : Signed Cert) → d ≢ c → Absent (Placed d ∷ es)
    unfolding pending_after
    placed_other d other w i same = elim (in-append w (pending_after pinned es) (next_placement (state_after pinned es) d ∷ []) i) [
      | inl k ↦ none w k same
      | inr k ↦ elim k [ inl e ↦ other (sym (ap (λ (w : Placement). cert_of w.item) e) ∙ same) | inr never ↦ absurd never ]
    ]

    committed_one : (z : Signed Structure) → Absent (Committed z ∷ es)
    unfolding pending_after
    committed_one z w i same = none w (in-filter (λ w. not (commits z w)) w (pending_after pinned es) i).0 same

    by_update : IsBytes text → update_of text ≢ update_by c → After (read_update (state_after pinned es) (whole (signed cert) text))
    by_update bytes other = elim (update_cases (state_after pinned es) text (whole (signed cert) text) refl) [
      | NoUpdate s refused e ↦ subst After (sym e) none
      | SameUpdate d w read found e ↦ subst After (sym e) none
      | NewUpdate d is n l e ↦ subst After (sym e) (placed_other d (λ same. other (ap update_of ((read_whole cert lawful_cert text d bytes is.read).1 ∙ ap (signed cert).spell same))))
    ]

    by_commit : After (read_commit (state_after pinned es) (whole (signed structure) text))
    by_commit = elim (commit_cases (state_after pinned es) text (whole (signed structure) text) refl) [
      | NoCommit s refused e ↦ subst After (sym e) none
      | SameCommit z is f e ↦ subst After (sym e) none
      | NewCommit z is p e ↦ subst After (sym e) (committed_one z)
    ]

    by_call : IsBytes text → (kind : CallKind) → record { kind = kind; text = text } ≢ update_by c → After (by_kind (state_after pinned es) text kind)
    by_call bytes Update other = by_update bytes other
    by_call bytes Commit other = by_commit

  pub declined : (history : List Call) → IsHonestHistory naming pinned history → LastAnswered pinned history (update_by c) status.BadSignature → Absent (events pinned history)
  unfolding events outcome_of
  declined [] h was = absurd was
  declined (x ∷ earlier) h (inl now) =
      subst (λ (y : Call). Absent (happened (outcome_of (state_after pinned (events pinned earlier)) y) ++ events pinned earlier)) (sym now.0)
      (subst (λ (more : List Event). Absent (more ++ events pinned earlier)) (sym (declined_leaves (events pinned earlier) now.1)) (absent (events pinned earlier) now.1))
  declined (x ∷ earlier) h (inr then_was) =
      other_call x (All-head (λ (call : Call). IsBytes call.text) x earlier h.bytes) then_was.0 (declined earlier (before naming pinned x earlier h) then_was.1)
    where
      other_call : (x : Call) → IsBytes x.text → x ≢ update_by c → Absent (events pinned earlier) → Absent (happened (outcome_of (state_after pinned (events pinned earlier)) x) ++ events pinned earlier)
      other_call x bytes other none = by_call (events pinned earlier) x.text none bytes x.kind other

-- then nothing of its user's is pending
pub free_of_absent : (pinned : Key) (es : List Event) (u : ℕ) (last : Option (Signed Structure)) (c : Signed Cert) (heard : Option Lists) → IsDeclaredAt pinned es u last c heard → ((w : Placement) → In w (pending_after pinned es) → cert_of w.item ≢ c) → Free pinned es u
free_of_absent pinned es u last c heard d none =
    find_none (λ (w : Placement). whose w == u) (pending_after pinned es) (λ w i.
    elim (cases_Bool (whose w == u)) [
      | inr e ↦ e
      | inl e ↦ absurd (none w i (d.alone w (in_contains w (pending_after pinned es) i) (eqb-true (whose w) u e)))
    ])

-- so nothing is of a client's that hears it was declined
pub free_of_declined : (naming : Naming) (pinned : Key) (history : List Call) → IsHonestHistory naming pinned history → (u : ℕ) (last : Option (Signed Structure)) (c : Signed Cert) (heard : Option Lists) → IsDeclaredAt pinned (events pinned history) u last c heard
    → LastAnswered pinned history (update_by c) status.BadSignature → Free pinned (events pinned history) u
free_of_declined naming pinned history h u last c heard d was = free_of_absent pinned (events pinned history) u last c heard d (declined naming pinned c d.next.fits history h was)
