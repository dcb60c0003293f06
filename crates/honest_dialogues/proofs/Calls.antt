-- What the calls of honest clients lead to.
use Rattle.std.proofs.Common.{◌≡◌, ℕ, ◌+◌, List, ◌∷◌, ◌++◌, Option, Some, Ok, refl, sym, ap, ◌∙◌, subst, inl, inr}
use Rattle.std.specs.Prelude.{◌⊎◌}
use Rattle.layout.specs.Format.{whole}
use Rattle.layout.specs.Laws.{whole_again}
use Rattle.layout.specs.Types.{Bytes, Key}
use Rattle.principals.specs.Table.{Table}
use Rattle.version_order.specs.Structure.{Structure}
use Rattle.update_cert.specs.Cert.{Cert, cert}
use Rattle.update_cert.specs.CertLaws.{lawful_cert}
use Rattle.pending_list.specs.declared.signed.Signed.{Signed}
use Rattle.pending_list.specs.Signed.{signed}
use Rattle.pending_list.specs.SignedLaws.{lawful_signed}
use Rattle.pending_list.specs.Reply.{digest_of_last}
use Rattle.wire.specs.declared.kinds.Status.TheVariants as status
use Rattle.reply_rules.specs.Lists.{Lists}
use Rattle.consistency_server.specs.Event.{Event, Placed, Committed, last_of}
use Rattle.consistency_server.specs.State.{state_after, table_after}
use Rattle.consistency_server.specs.Answers.{Call, happened, outcome_of}
use Rattle.consistency_server.specs.History.{answer_of, events}
use Rattle.agreement.specs.Runs.{View}
use Rattle.honest_history.specs.Placed.{lists_to, table_to}
use Rattle.honest_history.specs.Honest.{IsHonest, Naming, number_in}
use Rattle.honest_history.specs.Served.{IsHonestHistory, IsServed, IsUnbroken, known_after}
use Rattle.honest_history.specs.Answered.{IsDeclared, IsSent}
use Rattle.honest_history.proofs.Answered.{commit_again, commit_new, each_commit, each_update}
use Rattle.honest_history.proofs.Fitting.{fitted}
use Rattle.honest_history.proofs.Outcomes.{NewUpdate, NoUpdate, SameUpdate, update_cases}
use Rattle.honest_history.proofs.Reached.{reach, reached}
use Rattle.honest_history.proofs.Replies.{each_reply}
use Rattle.honest_dialogues.specs.Dialogue.{commit_by, update_by}
use Rattle.honest_dialogues.specs.OneLine.{IsGoodCommit, IsGoodUpdate, known_to}
use Rattle.honest_dialogues.proofs.Stages.{Free, IsDeclaredAt, IsSealedAt}
use Rattle.honest_dialogues.proofs.UnderKeys.{last_signed, still_signed}

module _ (pinned : Key) (naming : Naming) (history : List Call) (h : IsHonestHistory naming pinned history) where
  abbrev es : List Event
  es = events pinned history

  -- ---- UPDATE

  module _ (u : ℕ) (last : Option (Signed Structure)) (c : Signed Cert) (heard : Option Lists) (d : IsDeclaredAt pinned es u last c heard) where
    last_own : last ≡ last_of c.value.user es
    last_own = d.last_is ∙ ap (λ v. last_of v es) (sym d.next.user)

    is_declared : IsDeclared pinned es c
    is_declared =
        record {
          fits = d.next.fits;
          number = d.next.number ∙ ap (λ o. number_in o + 1) last_own;
          last = d.next.last_digest ∙ ap digest_of_last last_own;
          alone = λ w there m. d.alone w there (m ∙ d.next.user);
        }

    served : (payload : Bytes) → answer_of pinned history (update_by c) ≡ record { status = status.Ok; payload = payload } → IsServed naming pinned history ((signed cert).spell c) payload
    served payload a = each_reply naming pinned history h ((signed cert).spell c) payload d.next.bytes a

    -- the certificate that the text spells
    spelled : (other : Signed Cert) → whole (signed cert) ((signed cert).spell c) ≡ Ok other → other ≡ c
    spelled other e = let k : Ok other ≡ Ok c = sym e ∙ whole_again (signed cert) (lawful_signed cert lawful_cert) c d.next.fits in cc

    unbroken : (payload : Bytes) → answer_of pinned history (update_by c) ≡ record { status = status.Ok; payload = payload } → (x : Lists) × (t : Table) × IsUnbroken naming (known_to pinned u last c) payload x t
    unbroken payload a =
        let s = served payload a in
        let is = spelled s.cert s.declared in
        let known : known_after pinned es s.cert ((signed cert).spell c) ≡ known_to pinned u last c
        = ap (λ (c' : Signed Cert). known_after pinned es c' ((signed cert).spell c)) is
        ∙ ap (λ v. record { user = v; pinned = pinned; last = last_of c.value.user es; declared = (signed cert).spell c }) d.next.user
        ∙ ap (λ o. record { user = u; pinned = pinned; last = o; declared = (signed cert).spell c }) (sym last_own) in
        (lists_to pinned s.earlier s.cert, table_to pinned s.earlier s.cert, subst (λ k. IsUnbroken naming k payload (lists_to pinned s.earlier s.cert) (table_to pinned s.earlier s.cert)) known s.unbroken)

    pub good_update : IsGoodUpdate pinned naming history u last c
    good_update = record { answered = each_update naming pinned history h c is_declared; unbroken = unbroken }

    -- nothing happens, or the operation is placed
    pub update_leads : (events pinned (update_by c ∷ history) ≡ es) ⊎ (events pinned (update_by c ∷ history) ≡ Placed c ∷ es)
    unfolding events outcome_of
    update_leads =
        elim (update_cases (state_after pinned es) ((signed cert).spell c) (whole (signed cert) ((signed cert).spell c)) refl) [
          | NoUpdate s refused e ↦ inl (ap (λ o. happened o ++ es) e)
          | SameUpdate other w is f e ↦ inl (ap (λ o. happened o ++ es) e)
          | NewUpdate other is n l e ↦ inr (ap (λ o. happened o ++ es) e ∙ ap (λ (other : Signed Cert). Placed other ∷ es) (spelled other is.read))
        ]

  -- ---- COMMIT

  module _ (vs : List View) (u : ℕ) (z : Signed Structure) (d : IsSealedAt pinned naming es vs u z) where
    pub is_sent : IsSent naming pinned es z
    is_sent =
        record {
          fits = d.fits;
          sent = elim d.sent [ inl k ↦ inl (ap (λ v. last_of v es) d.user_is ∙ k.0) | inr k ↦ inr k.0 ];
          signed = elim d.sent [
            | inl k ↦ last_signed naming pinned es z (reach naming pinned history h.bytes h.honest) (ap (λ v. last_of v es) d.user_is ∙ k.0)
            | inr k ↦ still_signed naming pinned es z (reach naming pinned history h.bytes h.honest) k.0 k.1
          ];
        }

    pub good_commit : IsGoodCommit pinned history z
    good_commit = each_commit naming pinned history h z is_sent

    -- it was committed already, or is so now
    pub commit_leads : ((last_of u es ≡ Some z) × Free pinned es u × (events pinned (commit_by z ∷ history) ≡ es)) ⊎ (IsHonest naming pinned es z.value × (events pinned (commit_by z ∷ history) ≡ Committed z ∷ es))
    unfolding events
    commit_leads =
        let r = reach naming pinned history h.bytes h.honest in
        let g = (reached naming pinned es r).0 in
        let f = fitted pinned naming es r in
        elim d.sent [
          | inl k ↦ inl (k.0, k.1, ap (λ o. happened o ++ es) (commit_again naming pinned es z g f is_sent (ap (λ v. last_of v es) d.user_is ∙ k.0)))
          | inr k ↦ inr (k.0, ap (λ o. happened o ++ es) (commit_new naming pinned es z g f is_sent k.0))
        ]
