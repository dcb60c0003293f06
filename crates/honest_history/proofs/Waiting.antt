-- What stays as it was when an operation was placed, as long as it is pending.
use Rattle.std.proofs.Common.{◌≡◌, ◌≢◌, ℕ, List, [], ◌∷◌, ◌++◌, Some, false, refl, sym, ap, ◌∙◌, inl, inr, arith}
use Rattle.std.proofs.lemmas.Bool.{ne_eqb, true≢false}
use Rattle.version_order.specs.Plan.{Plan}
use Rattle.version_order.specs.Structure.{Structure}
use Rattle.pending_list.specs.declared.signed.Signed.{Signed}
use Rattle.pending_list.specs.Groups.{raised_groups, table_version}
use Rattle.pending_list.specs.Reply.{PendingItem}
use Rattle.update_cert.specs.Cert.{Cert}
use Rattle.consistency_server.specs.Event.{Event, Placed, Committed, last_of}
use Rattle.consistency_server.specs.State.{next_item, state_after, table_after}
use Rattle.honest_history.specs.Placed.{table_to}
use Rattle.agreement.proofs.Members.{In}
use Rattle.honest_history.proofs.Committing.{now_done, still_open}
use Rattle.honest_history.proofs.Good.{Good, is_committed, items, one_waits}
use Rattle.honest_history.proofs.Placing.{CanPlace, all_done, before}
use Rattle.honest_history.proofs.Tabled.{IsStructureSigned, RecordsOf, raised_stay, version_before}
use Rattle.honest_history.proofs.Tables.{key_for, key_stays, others_leave}
use Rattle.honest_history.proofs.Timeline.{user}

-- the structure is of an operation that is pending
pub record CanCommit (pinned : List ℕ) (es : List Event) (z : Signed Structure) : Type 0 where
  pub own : PendingItem
  pub there : In own (items pinned es)
  pub opened : is_committed es own ≡ false
  pub plan : z.value.plan ≡ own.plan
  pub records : RecordsOf (table_after pinned es) (items pinned es) own z.value
  pub signed : IsStructureSigned (table_after pinned es) z

-- all of it held before each event, which came as it may
abbrev pub Grown : List ℕ → List Event → Type 0
Grown pinned [] = Unit {0}
Grown pinned (Placed c ∷ es) = CanPlace pinned es c × Good pinned es × Grown pinned es
Grown pinned (Committed z ∷ es) = CanCommit pinned es z × Good pinned es × Grown pinned es

-- of an operation that was placed after the earlier events
pub record Kept (pinned : List ℕ) (earlier : List Event) (c : Signed Cert) (es : List Event) : Type 0 where
  pub there : In (next_item (state_after pinned earlier) c) (items pinned es)
  pub last : last_of c.value.user es ≡ last_of c.value.user earlier
  pub table : c.value.user ≡ 0 → table_after pinned es ≡ table_to pinned earlier c
  pub keys : (k : List ℕ) → key_for (table_to pinned earlier c) c.value.user (table_version (next_item (state_after pinned earlier) c).plan) ≡ Some k → key_for (table_after pinned es) c.value.user (table_version (next_item (state_after pinned earlier) c).plan) ≡ Some k
  pub raised : raised_groups (table_after pinned es) (next_item (state_after pinned earlier) c) ≡ raised_groups (table_to pinned earlier c) (next_item (state_after pinned earlier) c)

module _ (pinned : List ℕ) (earlier : List Event) (c : Signed Cert) where
  abbrev x : PendingItem
  x = next_item (state_after pinned earlier) c

  kept_placed : (es : List Event) (d : Signed Cert) → CanPlace pinned es d → Good pinned es → is_committed es x ≡ false → Kept pinned earlier c es → Kept pinned earlier c (Placed d ∷ es)
  unfolding table_after
  kept_placed es d can g opened k =
      record {
        there = inr k.there;
        last = k.last;
        table = λ zero.
            (let other : d.value.user ≢ 0 = λ e. true≢false (sym (all_done pinned es d g can x k.there (zero ∙ sym e)) ∙ opened) in
            others_leave d.value.user d.value.number d.value.changes (table_after pinned es) other ∙ k.table zero);
        keys = λ key has. key_stays d.value (table_after pinned es) c.value.user (table_version x.plan) key (λ zero. let b = before pinned es d g can x k.there zero in let m = version_before x.plan in omega arith) (k.keys key has);
        raised = raised_stay (table_after pinned es) d.value x (before pinned es d g can x k.there) ∙ k.raised;
      }

  kept_committed : (es : List Event) (z : Signed Structure) → CanCommit pinned es z → Good pinned es → is_committed (Committed z ∷ es) x ≡ false → is_committed es x ≡ false → Kept pinned earlier c es → Kept pinned earlier c (Committed z ∷ es)
  unfolding table_after
  kept_committed es z can g open' opened k =
      let same_user : z.value.plan.user ≡ user can.own = ap (λ (p : Plan). p.user) can.plan in
      let other : z.value.plan.user ≢ c.value.user = λ e.
      let same : x ≡ can.own = one_waits pinned es g x can.own k.there can.there opened can.opened (sym e ∙ same_user) in
      true≢false (sym (now_done pinned es z can.own g can.there can.opened can.plan can.records can.signed) ∙ ap (is_committed (Committed z ∷ es)) (sym same) ∙ open')
      in
      record {
        there = k.there;
        last = rw (ne_eqb z.value.plan.user c.value.user other) k.last;
        table = k.table;
        keys = k.keys;
        raised = k.raised;
      }

  -- as long as it is pending
  pub kept : (later : List Event) → Grown pinned (later ++ Placed c ∷ earlier) → is_committed (later ++ Placed c ∷ earlier) x ≡ false → Kept pinned earlier c (later ++ Placed c ∷ earlier)
  kept [] grown opened = record { there = inl refl; last = refl; table = λ zero. refl; keys = λ k has. has; raised = refl }
  kept (Placed d ∷ later) grown opened =
      kept_placed (later ++ Placed c ∷ earlier) d grown.0 grown.1 opened (kept later grown.2 opened)
  kept (Committed z ∷ later) grown opened =
      let es : List Event = later ++ Placed c ∷ earlier in
      let can = grown.0 in
      let before = still_open pinned es z can.own grown.1 can.there can.opened can.plan can.records can.signed x opened in
      kept_committed es z can grown.1 opened before (kept later grown.2 before)
