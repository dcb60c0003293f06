-- What holds after the events of a server whose clients are honest.
use Rattle.std.proofs.Common.{◌≡◌, ℕ, List, [], ◌∷◌, map, reverse, Some, Bool, false, refl, sym, ap, ◌∙◌, subst, inl, inr, arith}
use Rattle.std.specs.Prelude.{◌==◌, ◌&&◌, not}
use Rattle.std.specs.List.{filter, list_any}
use Rattle.std.proofs.lemmas.Bool.{cases_lt, true≢false, not-true}
use Rattle.version_order.specs.Structure.{Structure}
use Rattle.pending_list.specs.declared.signed.Signed.{Signed}
use Rattle.pending_list.specs.Reply.{PendingItem}
use Rattle.consistency_server.specs.Event.{Event, Placed, Committed, committed, last_of}
use Rattle.consistency_server.specs.State.{Placement, next_item, pending_after, state_after, table_after, vector_after}
use Rattle.agreement.proofs.Members.{In, in-filter, in-kept}
use Rattle.honest_history.specs.Honest.{number_in}
use Rattle.honest_history.proofs.Chains.{Descending}
use Rattle.honest_history.proofs.Entries.{Commits, Entries, Links}
use Rattle.honest_history.proofs.Members.{in_reverse, in_unreverse}
use Rattle.honest_history.proofs.Tabled.{IsStructureSigned, RecordsOf, Tabled, latest_vector}
use Rattle.honest_history.proofs.Tables.{first_key, key_for, since_first}
use Rattle.honest_history.proofs.Timeline.{Latest, Placing, number, user}
use Rattle.honest_history.proofs.Vectors.{none_listed}

-- the operations as the server placed them, the newest first
abbrev pub items : List ℕ → List Event → List PendingItem
items pinned [] = []
items pinned (Placed c ∷ es) = next_item (state_after pinned es) c ∷ items pinned es
items pinned (Committed z ∷ es) = items pinned es

-- the structure is that of the operation: of its user and number
abbrev pub is_of : PendingItem → Signed Structure → Bool
is_of i z = (z.value.plan.user == i.plan.user) && (z.value.plan.number == i.plan.number)

-- the operation was committed
abbrev pub is_committed : List Event → PendingItem → Bool
is_committed es i = list_any (is_of i) (committed es)

abbrev pub is_open : List Event → PendingItem → Bool
is_open es i = not (is_committed es i)

abbrev pub item_of : Placement → PendingItem
item_of w = w.item

-- what is pending, in the order of placing
abbrev pub pending : List ℕ → List Event → List PendingItem
pending pinned es = map item_of (pending_after pinned es)

pub record Good (pinned : List ℕ) (es : List Event) : Type 0 where
  pub placing : Placing (items pinned es)
  pub latest : Latest (items pinned es) (vector_after pinned es)
  pub same : latest_vector (items pinned es) ≡ vector_after pinned es
  pub entries : Entries (items pinned es) (is_committed es)
  pub commits : Commits (items pinned es) (is_committed es) (λ u. last_of u es)
  pub made : (z : Signed Structure) → In z (committed es) → (i : PendingItem) × In i (items pinned es) × (z.value.plan ≡ i.plan)
  pub links : Links (items pinned es) (is_committed es) (λ u. last_of u es)
  pub tabled : Tabled (table_after pinned es) (items pinned es) (vector_after pinned es)
  pub descending : Descending (items pinned es)
  pub signed : (z : Signed Structure) → In z (committed es) → IsStructureSigned (table_after pinned es) z
  pub super_key : (v : ℕ) → key_for (table_after pinned es) 0 v ≡ Some pinned
  pub recorded : (u : ℕ) (z : Signed Structure) → last_of u es ≡ Some z → (k : PendingItem) → In k (items pinned es) → z.value.plan ≡ k.plan → RecordsOf (table_after pinned es) (items pinned es) k z.value
  pub waiting : pending pinned es ≡ reverse (filter (is_open es) (items pinned es))

-- what is pending was placed and isn't committed
pub pending_in : (pinned : List ℕ) (es : List Event) → Good pinned es → (i : PendingItem) → In i (pending pinned es) → In i (items pinned es) × (is_committed es i ≡ false)
pending_in pinned es g i h =
    let r = in-filter (is_open es) i (items pinned es) (in_unreverse i (filter (is_open es) (items pinned es)) (subst (In i) g.waiting h)) in
    (r.0, not-true (is_committed es i) r.1)

pub in_pending : (pinned : List ℕ) (es : List Event) → Good pinned es → (i : PendingItem) → In i (items pinned es) → is_committed es i ≡ false → In i (pending pinned es)
in_pending pinned es g i h f =
    subst (In i) (sym g.waiting) (in_reverse i (filter (is_open es) (items pinned es)) (in-kept (is_open es) i (items pinned es) h (ap not f)))

-- a user has at most one operation that is pending
pub one_waits : (pinned : List ℕ) (es : List Event) → Good pinned es → (i j : PendingItem) → In i (items pinned es) → In j (items pinned es) → is_committed es i ≡ false → is_committed es j ≡ false → user i ≡ user j → i ≡ j
one_waits pinned es g i j h k e f u =
    let a = g.commits.next i h in
    let b = g.commits.next j k in
    let m = ap (λ u. number_in (last_of u es)) u in
    elim (cases_lt (number_in (last_of (user i) es)) (number i)) [
      | inl l ↦ elim (cases_lt (number_in (last_of (user j) es)) (number j)) [
        | inl q ↦ g.placing.one_number i j h k u (omega arith)
        | inr q ↦ absurd (true≢false (sym (g.commits.late j k q) ∙ f))
      ]
      | inr l ↦ absurd (true≢false (sym (g.commits.late i h l) ∙ e))
    ]

pub good_start : (pinned : List ℕ) → Good pinned []
unfolding table_after vector_after pending_after
good_start pinned =
    record {
      placing = record {
        users = λ i h. absurd h;
        planned_user = λ i h. absurd h;
        planned_number = λ i h. absurd h;
        certificate = λ i h. absurd h;
        ascends = λ i h. absurd h;
        own = λ i h. absurd h;
        positive = λ i h. absurd h;
        deep = λ i h. absurd h;
        one_place = λ i j h. absurd h;
        one_number = λ i j h. absurd h;
        grown = λ i j h. absurd h;
        unseen = λ i j h. absurd h;
        counted = λ i u n h. absurd h;
      };
      latest = record { ascends = none_listed; deepest = λ i h. absurd h; grown = λ i h. absurd h; counted = λ u n l p le. absurd (omega arith) };
      same = refl;
      entries = record { from = λ i e h. absurd h; waiting = λ i j h. absurd h; kept = λ i j k h. absurd h; others = λ i j h. absurd h; order = λ i j k h. absurd h };
      commits = record { early = λ i h. absurd h; late = λ i h. absurd h; next = λ i h. absurd h; lasts = λ u z e. cc };
      made = λ z h. absurd h;
      links = λ i h. absurd h;
      tabled = record { listed = λ i h. absurd h; since = since_first pinned; follows = tt; signed = λ i h. absurd h };
      descending = tt;
      signed = λ z h. absurd h;
      super_key = first_key pinned;
      recorded = λ u z e. cc;
      waiting = refl;
    }
