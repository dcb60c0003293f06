-- A reply that a client accepts, and the structure that it signs over it.
use Rattle.std.proofs.Common.{◌≡◌, ℕ, List, [], ◌∷◌, ◌++◌, map, Option, Some, refl, sym, ap, ◌∙◌, subst, inl, inr}
use Rattle.std.specs.Prelude.{◌==◌, find}
use Rattle.std.specs.List.{All, Contains}
use Rattle.std.specs.Option.{option_map_or}
use Rattle.layout.specs.Types.{Key}
use Rattle.principals.specs.Table.{Table}
use Rattle.version_order.specs.Plan.{Plan}
use Rattle.version_order.specs.Structure.{Structure}
use Rattle.update_cert.specs.Cert.{Cert}
use Rattle.pending_list.specs.declared.signed.Signed.{Signed}
use Rattle.pending_list.specs.Reply.{PendingItem}
use Rattle.client_tree.specs.View.{handle_in}
use Rattle.reply_rules.specs.Lists.{Lists, items}
use Rattle.consistency_server.specs.Event.{Event, Placed, Committed, committed, last_of, structures}
use Rattle.consistency_server.specs.State.{after_operation, next_item, next_placement, pending_after, state_after}
use Rattle.agreement.specs.Runs.{View}
use Rattle.agreement.specs.Runs as runs
use Rattle.agreement.proofs.Members.{In, contains_in, in-map, in_contains, map-in, to_all}
use Rattle.honest_history.specs.Placed.{lists_to, table_to}
use Rattle.honest_history.specs.Honest.{IsHonest, Naming, SignsOver}
use Rattle.honest_history.specs.Served.{IsTableOf}
use Rattle.honest_history.specs.OneLine.{IsOver}
use Rattle.honest_history.proofs.Events.{latests_after}
use Rattle.honest_history.proofs.Good.{item_of, pending_in}
use Rattle.honest_history.proofs.Members.{find_some}
use Rattle.honest_history.proofs.Named.{has_table, table_of_reply}
use Rattle.honest_history.proofs.Reached.{Reached, reach, reached, reached_before, still_kept}
use Rattle.honest_dialogues.specs.Dialogue.{Accepts, Declared, IsNaming, IsSealed, Move, Sealed, calls, stage_of, views}
use Rattle.honest_dialogues.specs.GoingOn.{events_of}
use Rattle.honest_dialogues.proofs.Moves.{InStep, others_stand}
use Rattle.honest_dialogues.proofs.Stages.{IsDeclaredAt, IsHeard, IsSealedAt, IsUnder, stands_seen}

-- no handle names two tables, so that a reply has one
pub one_table : (pinned : Key) (naming : Naming) → IsNaming pinned naming → (x : Lists) (t u : Table) → IsTableOf naming pinned x t → IsTableOf naming pinned x u → t ≡ u
one_table pinned naming is x t u a b =
    let users = is.once (handle_in pinned x.structures 0) a.users b.users a.named b.named in
    a.after
    ∙ ap (λ (w : Table). option_map_or (λ (i : PendingItem). after_operation i.cert w) (find (λ i. i.plan.user == 0) (items x)) w) users
    ∙ sym b.after

-- what was committed was so before
committed_since : (later first : List Event) (z : Signed Structure) → In z (committed first) → In z (committed (later ++ first))
committed_since [] first z h = h
committed_since (Placed c ∷ later) first z h = committed_since later first z h
committed_since (Committed y ∷ later) first z h = inr (committed_since later first z h)

module _ (pinned : Key) (naming : Naming) (is : IsNaming pinned naming) (older : List Move) (s : InStep pinned naming older) where
  abbrev es : List Event
  es = events_of pinned older

  module _ (u : ℕ) (last : Option (Signed Structure)) (c : Signed Cert) (x : Lists) (v : View) (z : Signed Structure) (d : IsDeclaredAt pinned es u last c (Some x)) (sealed : IsSealed pinned naming u last x v z) where
    heard : IsHeard pinned es c x
    heard = d.heard_is x refl

    reached_now : Reached naming pinned es
    reached_now = reach naming pinned (calls older) s.honest.bytes s.honest.honest

    -- when the operation was placed
    reached_then : Reached naming pinned (Placed c ∷ heard.earlier)
    reached_then = reached_before naming pinned heard.since.0 (Placed c ∷ heard.earlier) (subst (Reached naming pinned) heard.since.1 reached_now)

    table_is : v.table ≡ table_to pinned heard.earlier c
    table_is =
        one_table pinned naming is x v.table (table_to pinned heard.earlier c) sealed.table
        (subst (λ x. IsTableOf naming pinned x (table_to pinned heard.earlier c)) (sym heard.lists)
        (table_of_reply naming pinned heard.earlier c (has_table naming pinned is.first (Placed c ∷ heard.earlier) reached_then)))

    last_then : last ≡ last_of c.value.user heard.earlier
    last_then =
        let (g, grown) = reached naming pinned es reached_now in
        let w = next_placement (state_after pinned heard.earlier) c in
        let opened = (pending_in pinned es g w.item (map-in item_of (pending_after pinned es) w (contains_in w (pending_after pinned es) heard.pending))).1 in
        let k = still_kept pinned es heard.earlier c grown heard.since opened in
        d.last_is ∙ ap (λ v. last_of v es) (sym d.next.user) ∙ k.last

    pub now_honest : IsHonest naming pinned es z.value
    now_honest =
        record {
          earlier = heard.earlier;
          cert = c;
          since = heard.since;
          pending = heard.pending;
          over = subst (λ t. SignsOver naming t (last_of c.value.user heard.earlier) (lists_to pinned heard.earlier c) z.value) table_is
              (subst (λ o. SignsOver naming v.table o (lists_to pinned heard.earlier c) z.value) last_then
              (subst (λ x. SignsOver naming v.table last x z.value) heard.lists sealed.over));
        }

    -- under the key that the table names then
    now_under : IsUnder pinned (table_to pinned heard.earlier c) z
    now_under = subst (λ t. IsUnder pinned t z) table_is sealed.is_signed

    plan_is : z.value.plan ≡ (next_item (state_after pinned heard.earlier) c).plan
    plan_is = sealed.over.plan ∙ ap (λ (l : Lists). l.own.plan) heard.lists

    own_user : z.value.plan.user ≡ u
    own_user = ap (λ (p : Plan). p.user) plan_is ∙ d.next.user

    -- each structure of the reply was signed over an earlier view
    released : All (Contains (map (λ (y : View). y.signed) (views older))) (runs.structures v)
    released =
        to_all (Contains (map (λ (y : View). y.signed) (views older))) (runs.structures v) (λ y i.
        let (w, there, same) = in-map (λ (z : Signed Structure). z.value) v.lists.structures y i in
        let here : In w (structures heard.earlier) = subst (λ (l : Lists). In w l.structures) (sealed.lists ∙ heard.lists) there in
        let r = (latests_after heard.earlier).is_last w here in
        let old = (find_some (λ (z : Signed Structure). z.value.plan.user == r.0) (committed heard.earlier) w r.2).0 in
        let now : In w (committed es) = subst (λ es. In w (committed es)) (sym heard.since.1) (committed_since heard.since.0 (Placed c ∷ heard.earlier) w old) in
        let (k, ki, is) = s.shown w now in
        in_contains y (map (λ (y : View). y.signed) (views older)) (subst (λ y. In y (map (λ (y : View). y.signed) (views older))) (is ∙ sym same) (map-in (λ (y : View). y.signed) (views older) k ki)))

    over_now : IsOver pinned es (views older) v
    over_now =
        record {
          cert = c;
          earlier = heard.earlier;
          since = heard.since;
          lists = sealed.lists ∙ heard.lists;
          signed = ap (λ (z : Structure). z.plan) sealed.view_signed ∙ plan_is ∙ ap (λ (l : Lists). l.own.plan) (sym (sealed.lists ∙ heard.lists));
          released = released;
        }

    pub accepts : stage_of u older ≡ Declared last c (Some x) → InStep pinned naming (record { user = u; act = Accepts v; after = Sealed z } ∷ older)
    unfolding now_honest heard
    accepts at =
        let m : Move = record { user = u; act = Accepts v; after = Sealed z } in
        let more : (y : View) → In y (views older) → In y (v ∷ views older) = λ y i. inr i in
        let here : IsSealedAt pinned naming es (v ∷ views older) u z = record {
          user_is = own_user;
          fits = sealed.fits;
          bytes = sealed.bytes;
          seen = (v, inl refl, sealed.view_signed);
          sent = inr (now_honest, now_under);
        } in
        record {
          honest = s.honest;
          stands = others_stand pinned naming is es es (views older) (v ∷ views older) older m here (λ w n. stands_seen pinned naming es (views older) (v ∷ views older) w (stage_of w older) more (s.stands w));
          over = (over_now, s.over);
          shown = λ y i. (let k = s.shown y i in (k.0, inr k.1, k.2));
          answers = (rw at tt, s.answers);
        }
