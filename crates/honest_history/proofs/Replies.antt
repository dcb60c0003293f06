-- Each reply of UPDATE breaks no rule.
use Rattle.std.proofs.Common.{◌≡◌, List, [], ◌∷◌, ◌++◌, map, Some, Ok, refl, sym, ap, ◌∙◌, subst, inl, inr}
use Rattle.std.specs.Prelude.{find}
use Rattle.std.specs.List.{Contains}
use Rattle.layout.specs.Format.{IsBytes, whole}
use Rattle.layout.specs.Laws.{whole_again}
use Rattle.layout.specs.Types.{Bytes, Key}
use Rattle.update_cert.specs.Cert.{Cert, cert}
use Rattle.update_cert.specs.CertLaws.{lawful_cert}
use Rattle.pending_list.specs.declared.signed.Signed.{Signed}
use Rattle.pending_list.specs.Signed.{signed}
use Rattle.pending_list.specs.SignedLaws.{lawful_signed}
use Rattle.pending_list.specs.Reply.{PendingItem, Reply, reply}
use Rattle.pending_list.specs.ReplyLaws.{lawful_reply}
use Rattle.wire.specs.declared.kinds.Status.TheVariants as status
use Rattle.reply_rules.specs.Lists.{Lists, lists_of}
use Rattle.reply_rules.specs.ListsLaws.{lists_are}
use Rattle.reply_check.specs.FirstBroken.{Known, lists_break, lists_in, of_reply, reply_breaks}
use Rattle.consistency_server.specs.Event.{Event, Placed, Committed, last_of, structures}
use Rattle.consistency_server.specs.State.{Placement, next_item, next_placement, next_reply, pending_after, state_after}
use Rattle.consistency_server.specs.Answers.{Answer, Call, Outcome, answer, cert_of, happened, outcome_of, read_update, same_cert}
use Rattle.consistency_server.specs.History.{answer_of, events, update_of}
use Rattle.agreement.proofs.Formed.{same_spelled}
use Rattle.agreement.proofs.Members.{In, in-append, in-filter, in-middle, in_contains, map-in}
use Rattle.honest_history.specs.Placed.{IsSince, lists_to, table_to}
use Rattle.honest_history.specs.Honest.{Naming}
use Rattle.honest_history.specs.Served.{IsHonestHistory, IsServed, IsUnbroken, NamesFirst, known_after}
use Rattle.honest_history.proofs.Fitting.{can_fit, fitted, next_reply_fits}
use Rattle.honest_history.proofs.Good.{Good, item_of, items, pending_in}
use Rattle.honest_history.proofs.Members.{bytes_true, find_some}
use Rattle.honest_history.proofs.Named.{has_table, table_of_reply}
use Rattle.honest_history.proofs.Outcomes.{NewUpdate, NoUpdate, SameUpdate, read_whole, update_cases}
use Rattle.honest_history.proofs.Placing.{CanPlace, snapshot}
use Rattle.honest_history.proofs.Reached.{Reached, can_place, reach, reached, reached_before, still_kept}
use Rattle.honest_history.proofs.Unbroken.{lists_unbroken, reply_unbroken}

-- the first rule that a text breaks which spells a reply
breaks_spelled : (k : Known) (text : Bytes) (r : Reply) → whole reply text ≡ Ok r → reply_breaks k text ≡ of_reply k r
unfolding reply_breaks
breaks_spelled k text r read = rw read refl

lists_spelled : (text : Bytes) (r : Reply) (x : Lists) → whole reply text ≡ Ok r → lists_of r ≡ Some x → lists_in text ≡ Some x
lists_spelled text r x read lists = rw read lists

-- what is pending was placed before
pub placed_before : (pinned : Key) (es : List Event) (w : Placement) → In w (pending_after pinned es)
    → (earlier : List Event) × (c : Signed Cert) × IsSince (Placed c ∷ earlier) es × (w ≡ next_placement (state_after pinned earlier) c)
unfolding pending_after
placed_before pinned [] w i = absurd i
placed_before pinned (Placed c ∷ es) w i =
    elim (in-append w (pending_after pinned es) (next_placement (state_after pinned es) c ∷ []) i) [
      | inl k ↦ (let (earlier, d, since, same) = placed_before pinned es w k in (earlier, d, (Placed c ∷ since.0, ap (λ es. Placed c ∷ es) since.1), same))
      | inr k ↦ elim k [ inl e ↦ (es, c, ([], refl), e) | inr none ↦ absurd none ]
    ]
placed_before pinned (Committed z ∷ es) w i =
    let (earlier, d, since, same) = placed_before pinned es w (in-filter _ w (pending_after pinned es) i).0 in
    (earlier, d, (Committed z ∷ since.0, ap (λ es. Committed z ∷ es) since.1), same)

module _ (naming : Naming) (pinned : Key) (first : NamesFirst naming pinned) where
  -- the text of the reply to an operation
  abbrev text_to : List Event → Signed Cert → Bytes
  text_to es c = reply.spell (next_reply (state_after pinned es) c)

  -- what the user's client knows then
  abbrev known_to : List Event → Signed Cert → Known
  known_to es c = known_after pinned es c ((signed cert).spell c)

  -- the reply to an operation that is placed after these events
  pub unbroken_at : (es : List Event) (c : Signed Cert) → Reached naming pinned (Placed c ∷ es) → IsUnbroken naming (known_to es c) (text_to es c) (lists_to pinned es c) (table_to pinned es c)
  unfolding snapshot
  unbroken_at es c r =
      let g = (reached naming pinned es r.2).0 in
      let s = snapshot pinned es c g r.0 in
      let now = (reached naming pinned (Placed c ∷ es) r).0 in
      let others : List PendingItem = map item_of (pending_after pinned es) in
      let own : PendingItem = next_item (state_after pinned es) c in
      let read = whole_again reply lawful_reply (next_reply (state_after pinned es) c) (next_reply_fits pinned es c (can_fit pinned es c r.0 r.1) (fitted pinned naming es r.2)) in
      record {
        itself =
            breaks_spelled (known_to es c) (text_to es c) (next_reply (state_after pinned es) c) read
            ∙ ap (λ (os : List PendingItem). of_reply (known_to es c) (record { structures = structures es; pending = os ++ own ∷ [] })) g.waiting
            ∙ reply_unbroken s pinned now.super_key;
        lists = lists_spelled (text_to es c) (next_reply (state_after pinned es) c) (lists_to pinned es c) read (lists_are (next_reply (state_after pinned es) c) others own refl);
        table = table_of_reply naming pinned es c (has_table naming pinned first (Placed c ∷ es) r);
        by_table =
            ap (λ (os : List PendingItem). lists_break (table_to pinned es c) (record { structures = structures es; others = os; own = own })) g.waiting
            ∙ lists_unbroken s;
      }

  -- ---- UPDATE

  abbrev ok : Bytes → Answer
  ok payload = record { status = status.Ok; payload = payload }

  -- what comes of an answer with status 0
  same_payload : (a b : Bytes) → ok a ≡ ok b → a ≡ b
  same_payload a b e = ap (λ (x : Answer). x.payload) e

  module _ (history : List Call) (text payload : Bytes) (bytes : IsBytes text) (r : Reached naming pinned (events pinned history)) where
    abbrev es : List Event
    es = events pinned history

    -- the text declares the operation
    abbrev Declares : Signed Cert → Type 0
    Declares c = (whole (signed cert) text ≡ Ok c) × (text ≡ (signed cert).spell c)

    -- an operation that was placed after earlier events, of which nothing was committed since
    served_since : (c : Signed Cert) (earlier now : List Event) → Declares c → IsSince (Placed c ∷ earlier) now → now ≡ events pinned (update_of text ∷ history) → Reached naming pinned (Placed c ∷ earlier)
        → last_of c.value.user es ≡ last_of c.value.user earlier → payload ≡ text_to earlier c → In (next_placement (state_after pinned earlier) c) (pending_after pinned now) → IsServed naming pinned history text payload
    served_since c earlier now declares since is_now at last spelled waits =
        let here = unbroken_at earlier c at in
        let known : known_to earlier c ≡ known_after pinned es c text
        = ap (λ o. record { user = c.value.user; pinned = pinned; last = o; declared = (signed cert).spell c }) (sym last)
        ∙ ap (λ (t : Bytes). record { user = c.value.user; pinned = pinned; last = last_of c.value.user es; declared = t }) (sym declares.1) in
        record {
          cert = c;
          declared = declares.0;
          earlier = earlier;
          since = subst (IsSince (Placed c ∷ earlier)) is_now since;
          pending = subst (λ es. Contains (pending_after pinned es) (next_placement (state_after pinned earlier) c)) is_now (in_contains (next_placement (state_after pinned earlier) c) (pending_after pinned now) waits);
          unbroken = subst (λ k. IsUnbroken naming k payload (lists_to pinned earlier c) (table_to pinned earlier c)) known
              (subst (λ t. IsUnbroken naming (known_to earlier c) t (lists_to pinned earlier c) (table_to pinned earlier c)) (sym spelled) here);
        }

    -- it is pending
    served_again : (c : Signed Cert) (w : Placement) → Declares c → (signed cert).Fits c → find (same_cert c) (pending_after pinned es) ≡ Some w → es ≡ events pinned (update_of text ∷ history) → payload ≡ w.reply
        → IsServed naming pinned history text payload
    served_again c w declares fits found now spelled =
        let (there, same) = find_some (same_cert c) (pending_after pinned es) w found in
        let (earlier, d, since, made) = placed_before pinned es w there in
        let (g, grown) = reached naming pinned es r in
        let (listed, opened) = pending_in pinned es g w.item (map-in item_of (pending_after pinned es) w there) in
        let w_fits = (fitted pinned naming es r).of_items w.item listed in
        let of_w : c ≡ cert_of w.item = same_spelled (signed cert) (lawful_signed cert lawful_cert) c (cert_of w.item) fits (w_fits.of_cert, w_fits.of_signature) (bytes_true _ _ same) in
        let is : d ≡ c = sym (of_w ∙ ap (λ (v : Placement). cert_of v.item) made) in
        let since' : IsSince (Placed c ∷ earlier) es = subst (λ (d : Signed Cert). IsSince (Placed d ∷ earlier) es) is since in
        let made' : w ≡ next_placement (state_after pinned earlier) c = subst (λ (d : Signed Cert). w ≡ next_placement (state_after pinned earlier) d) is made in
        let k = still_kept pinned es earlier c grown since' (ap (λ (v : Placement). Rattle.honest_history.proofs.Good.is_committed es v.item) (sym made') ∙ opened) in
        let at = reached_before naming pinned since'.0 (Placed c ∷ earlier) (subst (Reached naming pinned) since'.1 r) in
        served_since c earlier es declares since' now at k.last (spelled ∙ ap (λ (v : Placement). v.reply) made') (subst (λ (v : Placement). In v (pending_after pinned es)) made' there)

    newest_waits : (c : Signed Cert) → In (next_placement (state_after pinned es) c) (pending_after pinned (Placed c ∷ es))
    unfolding pending_after
    newest_waits c = in-middle (next_placement (state_after pinned es) c) (pending_after pinned es) []

    -- it is placed now
    served_new : (c : Signed Cert) → Declares c → CanPlace pinned es c → (signed cert).Fits c → Placed c ∷ es ≡ events pinned (update_of text ∷ history) → payload ≡ text_to es c → IsServed naming pinned history text payload
    served_new c declares can fits now spelled = served_since c es (Placed c ∷ es) declares ([], refl) now (can, fits, r) refl spelled (newest_waits c)

    abbrev Answers : Outcome → Type 0
    Answers o = answer o ≡ record { status = status.Ok; payload = payload } → happened o ++ es ≡ events pinned (update_of text ∷ history) → IsServed naming pinned history text payload

    served_by : Answers (read_update (state_after pinned es) (whole (signed cert) text))
    served_by =
        elim (update_cases (state_after pinned es) text (whole (signed cert) text) refl) [
          | NoUpdate s refused e ↦ subst Answers (sym e) (λ a now. absurd (refused (ap (λ (x : Answer). x.status) a)))
          | SameUpdate c w is f e ↦ subst Answers (sym e) (λ a now.
              let here = read_whole cert lawful_cert text c bytes is in
              served_again c w (is, here.1) here.0 f now (sym (same_payload w.reply payload a)))
          | NewUpdate c is n l e ↦ subst Answers (sym e) (λ a now.
              let here = read_whole cert lawful_cert text c bytes is.read in
              let can = can_place naming pinned es text c bytes is n l (reached naming pinned es r).0 in
              served_new c (is.read, here.1) can.0 can.1 now (sym (same_payload (text_to es c) payload a)))
        ]

    pub served : answer_of pinned history (update_of text) ≡ record { status = status.Ok; payload = payload } → IsServed naming pinned history text payload
    unfolding events outcome_of
    served a = served_by a refl

pub each_reply : (naming : Naming) (pinned : Key) (history : List Call) → IsHonestHistory naming pinned history → (text payload : Bytes) → IsBytes text → answer_of pinned history (update_of text) ≡ record { status = status.Ok; payload = payload } → IsServed naming pinned history text payload
each_reply naming pinned history h text payload bytes a = served naming pinned h.first history text payload bytes (reach naming pinned history h.bytes h.honest) a
