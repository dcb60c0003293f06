-- A structure that was signed under the key that the table named as its operation was placed is signed under the one that
-- the server's table has later.
use Rattle.std.proofs.Common.{◌≡◌, List, ◌∷◌, Option, Some, true, refl, sym, ap, ◌∙◌, subst, inl, inr}
use Rattle.std.specs.Prelude.{◌==◌, IfSome, if◌then◌else◌}
use Rattle.std.proofs.lemmas.Bool.{cases_eq, eq-eqb, ne_eqb}
use Rattle.layout.specs.Types.{Bytes, Key}
use Rattle.lms_sign.specs.Signature.{valid}
use Rattle.principals.specs.Table.{Table, key_at}
use Rattle.version_order.specs.Plan.{Plan}
use Rattle.version_order.specs.Structure.{Structure, structure}
use Rattle.version_order.specs.Vector.{version_of}
use Rattle.pending_list.specs.declared.signed.Signed.{Signed}
use Rattle.pending_list.specs.Groups.{table_version}
use Rattle.pending_list.specs.Reply.{PendingItem}
use Rattle.consistency_server.specs.Event.{Event, Placed, committed, last_of}
use Rattle.consistency_server.specs.State.{next_item, state_after, table_after}
use Rattle.honest_history.specs.Placed.{table_to}
use Rattle.honest_history.specs.Honest.{IsHonest, Naming}
use Rattle.honest_history.proofs.Good.{Good}
use Rattle.honest_history.proofs.Members.{find_some}
use Rattle.honest_history.proofs.Reached.{Reached, honest_open, reached, reached_before, still_kept}
use Rattle.honest_history.proofs.Tabled.{plan_key}
use Rattle.honest_history.proofs.Tables.{key_for}
use Rattle.honest_dialogues.specs.Dialogue.{named_key}
use Rattle.honest_dialogues.proofs.Stages.{IsUnder}

module _ (naming : Naming) (pinned : Key) (es : List Event) (z : Signed Structure) (r : Reached naming pinned es) where
  abbrev p : Plan
  p = z.value.plan

  abbrev now : Table
  now = table_after pinned es

  good : Good pinned es
  good = (reached naming pinned es r).0

  -- it is signed under this key
  abbrev Under : Key → Type 0
  Under key = valid key (structure.spell z.value) z.signature ≡ true

  -- under the key that the server's table has, if it has one
  abbrev pub IsSignedNow : Type 0
  IsSignedNow = IfSome (key_at p.user (version_of 0 p.vector) now) Under

  under : (key : Key) → key_for now p.user (version_of 0 p.vector) ≡ Some key → Under key → IsSignedNow
  under key has sign = subst (λ (o : Option Key). IfSome o Under) (sym has) sign

  -- one that was committed
  pub last_signed : last_of p.user es ≡ Some z → IsSignedNow
  last_signed last =
      let there = (find_some (λ (y : Signed Structure). y.value.plan.user == p.user) (committed es) z last).0 in
      let s = good.signed z there in
      under s.0 (plan_key now pinned p good.super_key ∙ s.1) s.2

  -- one of an operation that is pending
  module _ (h : IsHonest naming pinned es z.value) (signed : IsUnder pinned (table_to pinned h.earlier h.cert) z) where
    abbrev then_table : Table
    then_table = table_to pinned h.earlier h.cert

    abbrev own : PendingItem
    own = next_item (state_after pinned h.earlier) h.cert

    then_good : Good pinned (Placed h.cert ∷ h.earlier)
    then_good = (reached naming pinned (Placed h.cert ∷ h.earlier) (reached_before naming pinned h.since.0 (Placed h.cert ∷ h.earlier) (subst (Reached naming pinned) h.since.1 r))).0

    -- of user 0
    by_first : p.user ≡ 0 → IsSignedNow
    by_first zero =
        let named : named_key pinned then_table p ≡ Some pinned = rw (eq-eqb p.user 0 zero) refl in
        under pinned (ap (λ u. key_for now u (version_of 0 p.vector)) zero ∙ good.super_key (version_of 0 p.vector))
        (subst (λ (o : Option Key). IfSome o Under) named signed)

    -- of another
    by_table : named_key pinned then_table p ≡ key_at p.user (version_of 0 p.vector) then_table → IsSignedNow
    by_table named =
        let plan : p ≡ own.plan = h.over.plan in
        let placed = then_good.tabled.signed own (inl refl) in
        let opened = (honest_open pinned es z.value naming good h).1 in
        let kept = still_kept pinned es h.earlier h.cert (reached naming pinned es r).1 h.since opened in
        let key : Key = placed.0 in
        let had : key_at p.user (version_of 0 p.vector) then_table ≡ Some key
        = plan_key then_table pinned p then_good.super_key ∙ ap (λ (q : Plan). key_for then_table q.user (table_version q)) plan ∙ placed.1 in
        let has : key_for now p.user (version_of 0 p.vector) ≡ Some key
        = plan_key now pinned p good.super_key ∙ ap (λ (q : Plan). key_for now q.user (table_version q)) plan ∙ kept.keys key placed.1 in
        under key has (subst (λ (o : Option Key). IfSome o Under) (named ∙ had) signed)

    pub still_signed : IsSignedNow
    still_signed = elim (cases_eq p.user 0) [
      | inl zero ↦ by_first zero
      | inr other ↦ by_table (rw (ne_eqb p.user 0 other) refl)
    ]
