-- What holds of the lists that are kept goes on holding, and says that they aren't long.
use Rattle.std.proofs.Common.{◌≡◌, ℕ, suc, ◌+◌, ◌<◌, ◌≤◌, Bool, true, false, cond, List, [], ◌∷◌, ◌++◌, length, Option, Some, None, refl, sym, ap, subst, ◌∙◌, inl, inr, arith, length-append}
use Rattle.std.specs.Prelude.{filter, map, nat_eq, not}
use Rattle.std.specs.Cmp.{IsEquivalence}
use Rattle.std.specs.Int.{w8}
use Rattle.std.specs.List.{All, IsDistinct, AllByRecursion, list_any}
use Rattle.std.specs.Ordering.{nat_cmp, is_lt}
use Rattle.std.proofs.lemmas.Bool.{cases_eq, cases_order, eq-eqb, ne_eqb, eqb-true}
use Rattle.std.proofs.lemmas.Cmp.{nat_cmp_total}
use Rattle.std.proofs.lemmas.List.{map-append, length-map}
use Rattle.std.proofs.lemmas.List.Elements.{All-nil, All-cons, All-head, All-tail, All-append, All-filter, All-map}
use Rattle.std.proofs.lemmas.Map.Keys.{IsDistinct-head, IsDistinct-tail, IsDistinct-cons, IsDistinct-push}
use Rattle.std.proofs.lemmas.Map.Steps.{length-le_from_distinct_below}
use Rattle.layout.specs.Ascending.{above, Ascends, with_row}
use Rattle.layout.specs.AscendingLaws.{ascends_with_row, all_with_row}
use Rattle.layout.specs.Laws.{in_range}
use Rattle.version_order.specs.declared.vector.Component.{Component}
use Rattle.version_order.specs.Structure.{Structure}
use Rattle.pending_list.specs.declared.signed.Signed.{Signed}
use Rattle.pending_list.specs.Reply.{user_of}
use Rattle.principals.specs.Table.{Table}
use Rattle.consistency_server.specs.State.{State, Placement, pending_of, commits}
use Rattle.consistency_server.specs.Judged.{IsNext}
use Rattle.consistency_server.specs.Tidy.{placed_by, IsTidy}
use Rattle.consistency_server.proofs.Rows.{same, greater}

-- ---- structures

above_least : (a b : ℕ) → is_lt (nat_cmp a b) ≡ true → a < b
above_least a b h =
    elim (cases_order a b) [
      | inl e ↦ (let none : false ≡ true = sym (ap is_lt (same a b e)) ∙ h in absurd cc)
      | inr t ↦ elim t [
        | inl l ↦ l
        | inr g ↦ (let none : false ≡ true = sym (ap is_lt (greater a b g)) ∙ h in absurd cc)
      ]
    ]

-- the least user above the one before
abbrev least : Option (Signed Structure) → ℕ
least None = 0
least (Some s) = suc (user_of s)

from_least : (b : Option (Signed Structure)) (s : Signed Structure) → above nat_cmp user_of b (user_of s) ≡ true → least b ≤ user_of s
from_least None s h = omega arith
from_least (Some t) s h = above_least (user_of t) (user_of s) h

few_rows : (b : Option (Signed Structure)) (ss : List (Signed Structure)) → Ascends nat_cmp user_of b ss → All (λ s. user_of s < 64) ss → least b ≤ 64 → length ss + least b ≤ 64
unfolding Ascends
few_rows b [] up all le = omega arith
few_rows b (s ∷ ss) up all le =
    let here : user_of s < 64 = All-head (λ t. user_of t < 64) s ss all in
    let low : least b ≤ user_of s = from_least b s up.0 in
    let rest : length ss + suc (user_of s) ≤ 64 = few_rows (Some s) ss up.1 (All-tail (λ t. user_of t < 64) s ss all) here in
    omega arith

pub few_structures : (state : State) → IsTidy state → length state.structures ≤ 64
few_structures state tidy = omega (arith, few_rows None state.structures tidy.ascending tidy.of_users (omega arith))

-- ---- what is pending

-- nothing of a user who isn't found
none_by : (u : ℕ) (ws : List Placement) → pending_of u ws ≡ None → list_any (nat_eq u) (map placed_by ws) ≡ false
none_by u [] e = refl
none_by u (w ∷ ws) e =
    elim (cases_eq (placed_by w) u) [
      | inl own ↦ (let some : Some w ≡ None = rw (eq-eqb (placed_by w) u own) at e in absurd cc)
      | inr other ↦ (
          let rest : pending_of u ws ≡ None = rw (ne_eqb (placed_by w) u other) at e in
          rw (ne_eqb u (placed_by w) (λ is. other (sym is))) (none_by u ws rest))
    ]

alike : IsEquivalence nat_eq
alike = record {
  refl = λ x. eq-eqb x x refl;
  symm = λ x y. elim (cases_eq x y) [ inl e ↦ eq-eqb x y e ∙ sym (eq-eqb y x (sym e)) | inr n ↦ ne_eqb x y n ∙ sym (ne_eqb y x (λ e. n (sym e))) ];
  congr = λ x y z e. ap (λ q. nat_eq q z) (eqb-true x y e);
}

apart_and : (ws : List Placement) (u : ℕ) → IsDistinct nat_eq (map placed_by ws) → pending_of u ws ≡ None → IsDistinct nat_eq (map placed_by ws ++ u ∷ [])
apart_and ws u apart free = IsDistinct-push alike (map placed_by ws) u apart (none_by u ws free)

-- what is one of these numbers is below as much
one_below : (ns : List ℕ) → All (λ n. n < 64) ns → (q : ℕ) → list_any (nat_eq q) ns ≡ true → q < 64
one_below [] all q h = absurd cc
one_below (n ∷ ns) all q h =
    elim (cases_eq q n) [
      | inl own ↦ omega (arith, All-head (λ m. m < 64) n ns all)
      | inr other ↦ one_below ns (All-tail (λ m. m < 64) n ns all) q (rw (ne_eqb q n other) at h)
    ]

-- there is room for one more of a user who has none
pub few_pending : (state : State) (u : ℕ) → IsTidy state → u < 64 → pending_of u state.pending ≡ None → length state.pending < 64
few_pending state u tidy user free =
    let us : List ℕ = map placed_by state.pending ++ u ∷ [] in
    let all : All (λ n. n < 64) us = All-append (λ n. n < 64) (map placed_by state.pending) (u ∷ []) (All-map (λ n. n < 64) placed_by state.pending tidy.by_users) (All-cons (λ n. n < 64) u [] user (All-nil (λ n. n < 64))) in
    let few : length us ≤ 64 = length-le_from_distinct_below us 64 (apart_and state.pending u tidy.apart free) (one_below us all) in
    omega (arith, length-map state.pending placed_by, length-append (map placed_by state.pending) (u ∷ []))

apart_filter : (p : Placement → Bool) (u : ℕ) (ws : List Placement) → AllByRecursion (λ v. nat_eq u v ≡ false) (map placed_by ws) → AllByRecursion (λ v. nat_eq u v ≡ false) (map placed_by (filter p ws))
apart_filter p u [] all = tt
apart_filter p u (w ∷ ws) all =
    elim (p w) as (λ b. AllByRecursion (λ v. nat_eq u v ≡ false) (map placed_by (cond b (w ∷ filter p ws) (filter p ws)))) [
      | true ↦ (all.0, apart_filter p u ws all.1)
      | false ↦ apart_filter p u ws all.1
    ]

distinct_filter : (p : Placement → Bool) (ws : List Placement) → IsDistinct nat_eq (map placed_by ws) → IsDistinct nat_eq (map placed_by (filter p ws))
distinct_filter p [] apart = apart
distinct_filter p (w ∷ ws) apart =
    let rest = distinct_filter p ws (IsDistinct-tail nat_eq (placed_by w) (map placed_by ws) apart) in
    let head = apart_filter p (placed_by w) ws (IsDistinct-head nat_eq (placed_by w) (map placed_by ws) apart) in
    elim (p w) as (λ b. IsDistinct nat_eq (map placed_by (cond b (w ∷ filter p ws) (filter p ws)))) [
      | true ↦ IsDistinct-cons nat_eq (placed_by w) (map placed_by (filter p ws)) head rest
      | false ↦ rest
    ]

-- ---- changes

pub tidy_placed : (state : State) (t : Option Table) (table : Table) (v : List Component) (w : Placement) (ss : List (Signed Structure)) (ps : List Placement) → IsTidy state → IsNext state t v w → ss ≡ state.structures → ps ≡ state.pending ++ w ∷ [] → IsTidy (record { table = table; vector = v; structures = ss; pending = ps })
tidy_placed state t table v w ss ps tidy next same more =
    let same_user : placed_by w ≡ w.item.cert.user = ap placed_by next.placement in
    let free : pending_of (placed_by w) state.pending ≡ None = ap (λ u. pending_of u state.pending) same_user ∙ next.free in
    let user : placed_by w < 64 = omega (arith, same_user, (in_range w8 0 63 w.item.cert.user next.fits.0).1) in
    record {
      ascending = subst (Ascends nat_cmp user_of None) (sym same) tidy.ascending;
      of_users = subst (All (λ s. user_of s < 64)) (sym same) tidy.of_users;
      apart = rw (more, map-append placed_by state.pending (w ∷ [])) (apart_and state.pending (placed_by w) tidy.apart free);
      by_users = rw more (All-append (λ v. placed_by v < 64) state.pending (w ∷ []) tidy.by_users (All-cons (λ v. placed_by v < 64) w [] user (All-nil (λ v. placed_by v < 64))));
    }

pub tidy_committed : (state : State) (s : Signed Structure) (ss : List (Signed Structure)) (ps : List Placement) → IsTidy state → user_of s < 64 → ss ≡ with_row nat_cmp user_of state.structures s → ps ≡ filter (λ w. not (commits s w)) state.pending → IsTidy (record { table = state.table; vector = state.vector; structures = ss; pending = ps })
tidy_committed state s ss ps tidy user put left = record {
  ascending = rw put (ascends_with_row nat_cmp user_of nat_cmp_total None state.structures s refl tidy.ascending);
  of_users = rw put (all_with_row nat_cmp user_of nat_cmp_total (λ t. user_of t < 64) state.structures s user tidy.of_users);
  apart = rw left (distinct_filter (λ w. not (commits s w)) state.pending tidy.apart);
  by_users = rw left (All-filter (λ w. not (commits s w)) (λ w. placed_by w < 64) state.pending tidy.by_users);
}

pub tidy_start : (table : Table) (vector : List Component) (ss : List (Signed Structure)) (ps : List Placement) → ss ≡ [] → ps ≡ [] → IsTidy (record { table = table; vector = vector; structures = ss; pending = ps })
unfolding Ascends IsDistinct
tidy_start table vector ss ps none nothing = record {
  ascending = rw none tt;
  of_users = rw none (All-nil (λ s. user_of s < 64));
  apart = rw nothing tt;
  by_users = rw nothing (All-nil (λ w. placed_by w < 64));
}
