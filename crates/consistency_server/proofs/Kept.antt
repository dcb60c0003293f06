-- What is kept after a change is what the events say.
use Rattle.std.proofs.Common.{◌≡◌, ℕ, List, [], ◌∷◌, ◌++◌, Option, sym, ap, subst, ◌∙◌}
use Rattle.std.specs.Prelude.{◌<◌, filter, not}
use Rattle.std.specs.Ordering.{nat_cmp}
use Rattle.layout.specs.Ascending.{with_row}
use Rattle.pending_list.specs.Reply.{user_of}
use Rattle.principals.specs.Table.{Table, genesis}
use Rattle.version_order.specs.declared.vector.Component.{Component}
use Rattle.version_order.specs.Structure.{Structure}
use Rattle.pending_list.specs.declared.signed.Signed.{Signed}
use Rattle.consistency_server.specs.declared.state.NewEvent.{NewEvent}
use Rattle.consistency_server.specs.declared.state.NewEvent.TheVariants.{Places, Commits}
use Rattle.consistency_server.specs.declared.state.Verdict.{Verdict}
use Rattle.consistency_server.specs.declared.state.Verdict.TheVariants as judged
use Rattle.consistency_server.specs.Event.{Event, Placed, Committed, structures}
use Rattle.consistency_server.specs.State.{State, Placement, next_vector, next_placement, table_after, vector_after, commits, pending_after, state_after}
use Rattle.consistency_server.specs.Answers.{Call, Outcome, answer, happened, cert_of}
use Rattle.consistency_server.specs.History.{logged_of}
use Rattle.consistency_server.specs.Judged.{table_or, changed, event_of, IsNext, Admits, JudgedAs, MayHappen, answer_by, logged_by}
use Rattle.consistency_server.specs.Judged as found
use Rattle.consistency_server.proofs.Rows.{no_structures, structures_committed}

pub kept_at_first : (pinned : List ℕ) → state_after pinned [] ≡ record { table = genesis pinned; vector = []; structures = []; pending = [] }
unfolding table_after vector_after pending_after
kept_at_first pinned = ap (λ ss. record { table = genesis pinned; vector = []; structures = ss; pending = [] }) no_structures

-- ---- one more event

placed_keeps : (pinned : List ℕ) (es : List Event) (t : Option Table) (v : List Component) (w : Placement) → IsNext (state_after pinned es) t v w
    → state_after pinned (Placed (cert_of w.item) ∷ es) ≡ record { table = table_or t (table_after pinned es); vector = v; structures = structures es; pending = pending_after pinned es ++ w ∷ [] }
unfolding table_after vector_after pending_after
placed_keeps pinned es t v w next =
    let ws : List Placement = pending_after pinned es in
    let table : Table = table_or t (table_after pinned es) in
    let made : Placement = next_placement (state_after pinned es) (cert_of w.item) in
    ap (λ x. record { table = x; vector = next_vector (table_after pinned es) (vector_after pinned es) w.item.cert; structures = structures es; pending = ws ++ made ∷ [] }) (sym next.table)
    ∙ ap (λ u. record { table = table; vector = u; structures = structures es; pending = ws ++ made ∷ [] }) (sym next.vector)
    ∙ ap (λ x. record { table = table; vector = v; structures = structures es; pending = ws ++ x ∷ [] }) (sym next.placement)

committed_keeps : (pinned : List ℕ) (es : List Event) (s : Signed Structure) → user_of s < 64 → state_after pinned (Committed s ∷ es) ≡ record { table = table_after pinned es; vector = vector_after pinned es; structures = with_row nat_cmp user_of (structures es) s; pending = filter (λ w. not (commits s w)) (pending_after pinned es) }
unfolding table_after vector_after pending_after
committed_keeps pinned es s user =
    ap (λ ss. record { table = table_after pinned es; vector = vector_after pinned es; structures = ss; pending = filter (λ w. not (commits s w)) (pending_after pinned es) }) (structures_committed s es user)

pub kept_changed : {A : Type 0} (pinned : List ℕ) (es : List Event) (change : NewEvent A) → Admits (state_after pinned es) change → changed (state_after pinned es) change ≡ state_after pinned (event_of change ∷ es)
kept_changed pinned es (Places t v w) next = sym (placed_keeps pinned es t v w next)
kept_changed pinned es (Commits s) user = sym (committed_keeps pinned es s user)

-- ---- what was found

pub may_happen : {A : Type 0} (state : State) (j : Verdict A) (o : Outcome) → JudgedAs state j o → MayHappen state j
may_happen state (judged.Refused s) o is = tt
may_happen state (judged.Repeated text) o is = tt
may_happen state (judged.Happens change text) o is = is.1

pub kept_after : {A : Type 0} (pinned : List ℕ) (es : List Event) (state : State) (j : Verdict A) (o : Outcome) → state ≡ state_after pinned es → JudgedAs state j o → found.state_after state j ≡ state_after pinned (happened o ++ es)
kept_after pinned es state (judged.Refused s) o kept is = kept ∙ ap (λ (p : Outcome). state_after pinned (happened p ++ es)) (sym is)
kept_after pinned es state (judged.Repeated text) o kept is = kept ∙ ap (λ (p : Outcome). state_after pinned (happened p ++ es)) (sym is)
kept_after pinned es state (judged.Happens change text) o kept is =
    ap (λ (s : State). changed s change) kept
    ∙ kept_changed pinned es change (subst (λ (s : State). Admits s change) kept is.1)
    ∙ ap (λ (p : Outcome). state_after pinned (happened p ++ es)) (sym is.0)

pub answer_judged : {A : Type 0} (state : State) (j : Verdict A) (o : Outcome) → JudgedAs state j o → answer o ≡ answer_by j
answer_judged state (judged.Refused s) o is = ap answer is
answer_judged state (judged.Repeated text) o is = ap answer is
answer_judged state (judged.Happens change text) o is = ap answer is.0

pub logged_judged : {A : Type 0} (state : State) (j : Verdict A) (o : Outcome) (call : Call) → JudgedAs state j o → logged_of (happened o) call ≡ logged_by j call
logged_judged state (judged.Refused s) o call is = ap (λ (p : Outcome). logged_of (happened p) call) is
logged_judged state (judged.Repeated text) o call is = ap (λ (p : Outcome). logged_of (happened p) call) is
logged_judged state (judged.Happens change text) o call is = ap (λ (p : Outcome). logged_of (happened p) call) is.0
