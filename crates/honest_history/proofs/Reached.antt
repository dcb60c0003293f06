-- All of it holds after each history in which honest clients signed what was committed.
use Rattle.std.proofs.Common.{◌≡◌, ◌+◌, ◌<◌, List, [], ◌∷◌, ◌++◌, Option, Some, None, true, false, refl, sym, ap, ◌∙◌, subst, arith}
use Rattle.std.specs.Prelude.{◌==◌, ◌&&◌, is_some, not}
use Rattle.std.specs.Int.{w8}
use Rattle.std.specs.List.{All}
use Rattle.std.specs.Str.{bytes_eq}
use Rattle.std.proofs.lemmas.Bool.{eqb-true, and_parts, not-false}
use Rattle.std.proofs.lemmas.List.Elements.{All-head, All-tail}
use Rattle.layout.specs.Format.{IsBytes, whole}
use Rattle.layout.specs.Laws.{in_range}
use Rattle.layout.specs.Types.{Bytes, Key}
use Rattle.principals.proofs.ListedKeys.{key_since}
use Rattle.version_order.specs.Plan.{Plan}
use Rattle.version_order.specs.Structure.{Structure, structure}
use Rattle.version_order.specs.StructureLaws.{lawful_structure}
use Rattle.version_order.specs.Vector.{can_raise_all, version_of}
use Rattle.update_cert.specs.Cert.{Cert, cert}
use Rattle.update_cert.specs.CertLaws.{lawful_cert}
use Rattle.pending_list.specs.declared.signed.Signed.{Signed}
use Rattle.pending_list.specs.Signed.{signed}
use Rattle.pending_list.specs.Reply.{digest_of_last}
use Rattle.consistency_server.specs.declared.call.CallKind.{CallKind}
use Rattle.consistency_server.specs.declared.call.CallKind.TheVariants.{Update, Commit}
use Rattle.consistency_server.specs.Event.{Event, Placed, Committed}
use Rattle.consistency_server.specs.State.{Placement, State, next_groups, next_item, next_placement, pending_after, pending_of, state_after, table_after}
use Rattle.consistency_server.specs.Answers.{Call, Outcome, Refused, Repeated, Happens, at_limit, by_kind, happened, is_next, outcome_of, read_update, structure_of}
use Rattle.consistency_server.specs.History.{events}
use Rattle.honest_history.specs.Placed.{IsSince}
use Rattle.honest_history.specs.Honest.{AreHonest, IsHonest, Naming}
use Rattle.agreement.proofs.Members.{In, contains_in, map-in}
use Rattle.honest_history.proofs.Committing.{good_committed}
use Rattle.honest_history.proofs.Events.{latests_after}
use Rattle.honest_history.proofs.Good.{Good, good_start, is_committed, item_of, items, pending_in}
use Rattle.honest_history.proofs.Members.{bytes_true}
use Rattle.honest_history.proofs.Outcomes.{IsCert, IsStructure, NewCommit, NewUpdate, NoCommit, NoUpdate, SameCommit, SameUpdate, commit_cases, read_whole, update_cases}
use Rattle.honest_history.proofs.Placing.{CanPlace, good_placed}
use Rattle.honest_history.proofs.Signing.{sign_records}
use Rattle.honest_history.proofs.Tabled.{IsStructureSigned, plan_key}
use Rattle.honest_history.proofs.Waiting.{CanCommit, Grown, Kept, kept}

-- each event came as it may: an operation that was next, or a structure that an honest client signed
abbrev pub Reached : Naming → Key → List Event → Type 0
Reached names pinned [] = Unit {0}
Reached names pinned (Placed c ∷ es) = CanPlace pinned es c × (signed cert).Fits c × Reached names pinned es
Reached names pinned (Committed z ∷ es) = IsStructureSigned (table_after pinned es) z × (signed structure).Fits z × IsHonest names pinned es z.value × Reached names pinned es

-- what was placed then, and is pending, is kept
pub still_kept : (pinned : Key) (es earlier : List Event) (c : Signed Cert) → Grown pinned es → IsSince (Placed c ∷ earlier) es → is_committed es (next_item (state_after pinned earlier) c) ≡ false → Kept pinned earlier c es
still_kept pinned es earlier c grown since opened =
    let grown' = subst (Grown pinned) since.1 grown in
    let opened' = subst (λ es. is_committed es (next_item (state_after pinned earlier) c) ≡ false) since.1 opened in
    subst (Kept pinned earlier c) (sym since.1) (kept pinned earlier c since.0 grown' opened')

-- the operation of what an honest client signed was placed, and isn't committed yet
pub honest_open : (pinned : Key) (es : List Event) (z : Structure) (names : Naming) → Good pinned es → (h : IsHonest names pinned es z) → In (next_item (state_after pinned h.earlier) h.cert) (items pinned es) × (is_committed es (next_item (state_after pinned h.earlier) h.cert) ≡ false)
honest_open pinned es z names g h =
    let made = next_placement (state_after pinned h.earlier) h.cert in
    pending_in pinned es g made.item (map-in item_of (pending_after pinned es) made (contains_in made (pending_after pinned es) h.pending))

pub none_pending : (o : Option Placement) → not (is_some o) ≡ true → o ≡ None
none_pending None e = refl
none_pending (Some w) e = cc

module _ (names : Naming) (pinned : Key) where
  pub can_commit : (es : List Event) (z : Signed Structure) → Good pinned es → Grown pinned es → IsStructureSigned (table_after pinned es) z → IsHonest names pinned es z.value → CanCommit pinned es z
  can_commit es z g grown sign honest =
      let own = next_item (state_after pinned honest.earlier) honest.cert in
      let (there, opened) = honest_open pinned es z.value names g honest in
      let k = still_kept pinned es honest.earlier honest.cert grown honest.since opened in
      record {
        own = own;
        there = there;
        opened = opened;
        plan = honest.over.plan;
        records = sign_records names pinned es honest.earlier honest.cert z.value g k opened honest.over;
        signed = sign;
      }

  pub reached : (es : List Event) → Reached names pinned es → Good pinned es × Grown pinned es
  reached [] r = (good_start pinned, tt)
  reached (Placed c ∷ es) r =
      let ih = reached es r.2 in
      (good_placed pinned es c ih.0 r.0, (r.0, ih.0, ih.1))
  reached (Committed z ∷ es) r =
      let ih = reached es r.3 in
      let can = can_commit es z ih.0 ih.1 r.0 r.2 in
      (good_committed pinned es z can.own ih.0 can.there can.opened can.plan can.records can.signed, (can, ih.0, ih.1))

  -- what was reached before
  pub reached_before : (later first : List Event) → Reached names pinned (later ++ first) → Reached names pinned first
  reached_before [] first r = r
  reached_before (Placed c ∷ later) first r = reached_before later first r.2
  reached_before (Committed z ∷ later) first r = reached_before later first r.3

  -- ---- calls

  pub can_place : (es : List Event) (text : Bytes) (c : Signed Cert) → IsBytes text → IsCert (state_after pinned es) text c → is_next (state_after pinned es) c.value ≡ true → at_limit (state_after pinned es) c.value ≡ false
      → Good pinned es → CanPlace pinned es c × (signed cert).Fits c
  can_place es text c bytes is next limit good =
      let fits = (read_whole cert lawful_cert text c bytes is.read).0 in
      let below : c.value.user < 64 = omega (arith, (in_range w8 0 63 c.value.user fits.0.0).1) in
      let state : State = state_after pinned es in
      let n = and_parts (c.value.number == version_of c.value.user state.vector + 1) (not (is_some (pending_of c.value.user state.pending)) && bytes_eq c.value.last (digest_of_last (structure_of c.value.user state))) next in
      let m = and_parts (not (is_some (pending_of c.value.user state.pending))) (bytes_eq c.value.last (digest_of_last (structure_of c.value.user state))) n.1 in (
        record {
          users = below;
          key = is.key;
          has = key_since c.value.user (version_of 0 state.vector) state.table good.tabled.since ∙ is.has;
          signed = is.signed;
          number = eqb-true c.value.number (version_of c.value.user state.vector + 1) n.0;
          last = bytes_true c.value.last (digest_of_last (structure_of c.value.user state)) m.1 ∙ ap digest_of_last ((latests_after es).of_user c.value.user below);
          free = none_pending (pending_of c.value.user state.pending) m.0;
          room = not-false (can_raise_all (c.value.user ∷ next_groups state.table state.vector c.value) state.vector) limit;
        },
        fits,
      )

  -- a structure that is taken is signed under the key of its plan
  structure_signed : (es : List Event) (text : Bytes) (z : Signed Structure) → IsStructure (state_after pinned es) text z → Good pinned es → IsStructureSigned (table_after pinned es) z
  structure_signed es text z is good = (is.key, sym (plan_key (table_after pinned es) pinned z.value.plan good.super_key) ∙ is.has, is.signed)

  abbrev Goes : List Event → Outcome → Type 0
  Goes es o = AreHonest names pinned (happened o ++ es) → Reached names pinned es → Reached names pinned (happened o ++ es)

  by_call : (es : List Event) (text : Bytes) (kind : CallKind) → IsBytes text → Goes es (by_kind (state_after pinned es) text kind)
  by_call es text Update bytes =
      let o = read_update (state_after pinned es) (whole (signed cert) text) in
      elim (update_cases (state_after pinned es) text (whole (signed cert) text) refl) [
        | NoUpdate s refused e ↦ subst (Goes es) (sym e) (λ h r. r)
        | SameUpdate c w is f e ↦ subst (Goes es) (sym e) (λ h r. r)
        | NewUpdate c is n l e ↦ subst (Goes es) (sym e) (λ h r. let can = can_place es text c bytes is n l (reached es r).0 in (can.0, can.1, r))
      ]
  by_call es text Commit bytes =
      elim (commit_cases (state_after pinned es) text (whole (signed structure) text) refl) [
        | NoCommit s refused e ↦ subst (Goes es) (sym e) (λ h r. r)
        | SameCommit z is f e ↦ subst (Goes es) (sym e) (λ h r. r)
        | NewCommit z is p e ↦ subst (Goes es) (sym e) (λ h r. (structure_signed es text z is (reached es r).0, (read_whole structure lawful_structure text z bytes is.read).0, h.0, r))
      ]

  pub honest_before : (es : List Event) (o : Outcome) → AreHonest names pinned (happened o ++ es) → AreHonest names pinned es
  honest_before es (Refused s) h = h
  honest_before es (Repeated text) h = h
  honest_before es (Happens (Placed c) text) h = h
  honest_before es (Happens (Committed z) text) h = h.1

  pub reach : (history : List Call) → All (λ call. IsBytes call.text) history → AreHonest names pinned (events pinned history) → Reached names pinned (events pinned history)
  unfolding events outcome_of
  reach [] bytes honest = tt
  reach (call ∷ history) bytes honest =
      let es : List Event = events pinned history in
      let before = honest_before es (by_kind (state_after pinned es) call.text call.kind) honest in
      let r = reach history (All-tail (λ call. IsBytes call.text) call history bytes) before in
      by_call es call.text call.kind (All-head (λ call. IsBytes call.text) call history bytes) honest r
