-- What a server keeps after a history fits the formats, so that the text of each reply is read back.
use Rattle.std.proofs.Common.{◌≡◌, ℕ, ◌+◌, ◌<◌, List, [], ◌∷◌, ◌++◌, map, Option, Some, None, true, false, refl, sym, ap, subst, inl, inr, arith, length-append}
use Rattle.std.specs.Prelude.{◌==◌, ◌&&◌, is_some, nat_lt, not}
use Rattle.std.specs.Int.{w8}
use Rattle.std.specs.Ordering.{nat_cmp}
use Rattle.std.specs.Str.{bytes_eq}
use Rattle.std.proofs.lemmas.Bool.{ltb-true, and_parts, not-false}
use Rattle.std.proofs.lemmas.Cmp.{nat_cmp_total}
use Rattle.std.proofs.lemmas.List.{length-map}
use Rattle.layout.specs.Ascending.{Ascends}
use Rattle.layout.specs.AscendingKeys.{less_from_lt}
use Rattle.layout.specs.AscendingLaws.{Ordered}
use Rattle.layout.specs.Format.{raw}
use Rattle.layout.specs.HashLaws.{hash_fits}
use Rattle.layout.specs.Laws.{in_range}
use Rattle.layout.specs.Ranges.{user as user_form, version as version_form}
use Rattle.version_order.specs.declared.plan.Entry.{Entry}
use Rattle.version_order.specs.declared.vector.Component.{Component}
use Rattle.version_order.specs.Plan.{entries, entry, plan, user_of}
use Rattle.version_order.specs.PlanLaws.{entries_ascend}
use Rattle.version_order.specs.Structure.{Structure, structure}
use Rattle.version_order.specs.Vector.{can_raise_all, raised, raised_all, vector, version_of}
use Rattle.version_order.proofs.Raising.{none_is_vector, vector_raised}
use Rattle.version_order.proofs.Rows.{are_listed}
use Rattle.update_cert.specs.Cert.{Cert, cert}
use Rattle.pending_list.specs.declared.signed.Signed.{Signed}
use Rattle.pending_list.specs.Signed.{signature, signed}
use Rattle.pending_list.specs.Groups.{groups, groups_at, raises_at}
use Rattle.pending_list.specs.Reply.{PendingItem, digest_of_last, pending_item, reply, signed_structure}
use Rattle.pending_list.specs.ReplyLaws.{pending_row_fits, reply_fits, structure_row_fits}
use Rattle.consistency_server.specs.Event.{Event, Placed, Committed, committed, structures}
use Rattle.consistency_server.specs.State.{Placement, entries_of, next_groups, next_item, next_placement, next_reply, pending_after, pending_of, state_after, table_after, vector_after}
use Rattle.consistency_server.specs.Answers.{at_limit, is_next, structure_of}
use Rattle.consistency_server.specs.Tidy.{IsTidy}
use Rattle.consistency_server.proofs.Rows.{no_structures, structures_committed}
use Rattle.consistency_server.proofs.Tidy.{few_pending, few_structures, tidy_committed, tidy_placed, tidy_start}
use Rattle.agreement.proofs.Members.{In, in-append, in-filter, in-map, to_all}
use Rattle.honest_history.specs.Honest.{Naming}
use Rattle.honest_history.proofs.Events.{entries_from, entry_users_ascend, latests_after}
use Rattle.honest_history.proofs.Good.{item_of, items}
use Rattle.honest_history.proofs.Groups.{group_range}
use Rattle.honest_history.proofs.Members.{find_some}
use Rattle.honest_history.proofs.Pairs.{Pairwise}
use Rattle.honest_history.proofs.Placing.{CanPlace}
use Rattle.honest_history.proofs.Reached.{Reached, none_pending}

-- ---- vectors

raised_fit : (ps : List ℕ) (v : List Component) → ((p : ℕ) → In p ps → p < 96) → can_raise_all ps v ≡ true → vector.Fits v → vector.Fits (raised_all ps v)
raised_fit [] v small room fits = fits
raised_fit (p ∷ ps) v small room fits =
    let parts = and_parts (nat_lt (version_of p v) 4294967295) (can_raise_all ps (raised p v)) room in
    raised_fit ps (raised p v) (λ q i. small q (inr i)) parts.1 (vector_raised p v (small p (inl refl)) (ltb-true _ _ parts.0) fits)

-- ---- entries

abbrev IsEntry : Entry → Type 0
IsEntry e = user_form.Fits e.user × version_form.Fits e.number × (raw 32).Fits e.plan

ordered : Ordered nat_cmp user_of nat_cmp_total entry IsEntry
ordered =
    record {
      splits = λ b e fits. ((fits.0.0, fits.1.0, fits.1.1), fits.0.1);
      joins = λ b e each up. ((each.0, up), (each.1, each.2));
    }

-- numbers that ascend, as rows do
ascending : (b : Option Entry) (es : List Entry) → Pairwise (λ d e. d.user < e.user) es → ((e : Entry) → In e es → (d : Entry) → b ≡ Some d → d.user < e.user) → Ascends nat_cmp user_of b es
unfolding Ascends
ascending b [] p h = tt
ascending None (e ∷ es) p h = (refl, ascending (Some e) es p.1 (λ f i d k. let same : e ≡ d = cc in subst (λ (d : Entry). d.user < f.user) same (p.0 f i)))
ascending (Some d) (e ∷ es) p h =
    (less_from_lt d.user e.user (h e (inl refl) d refl), ascending (Some e) es p.1 (λ f i g k. let same : e ≡ g = cc in subst (λ (g : Entry). g.user < f.user) same (p.0 f i)))

entries_fit : (ws : List Placement) → ((w : Placement) → In w ws → user_form.Fits w.item.plan.user × version_form.Fits w.item.plan.number) → entries.Fits (entries_of ws)
entries_fit ws each =
    are_listed entry user_of IsEntry ordered 0 64 entries_ascend (omega arith) (entries_of ws) (
      to_all IsEntry (entries_of ws) (λ e i. let (w, there, same) = entries_from ws e i in let k = each w there in subst IsEntry (sym same) (k.0, k.1, hash_fits (plan.spell w.item.plan))),
      ascending None (entries_of ws) (entry_users_ascend ws) (λ e i d k. cc),
    )

-- ---- what is kept

user_below : (c : Signed Cert) → (signed cert).Fits c → c.value.user < 64
user_below c fits = omega (arith, (in_range w8 0 63 c.value.user fits.0.0).1)

pub record IsFitted (i : PendingItem) : Type 0 where
  pub of_cert : cert.Fits i.cert
  pub of_signature : signature.Fits i.signature
  pub of_plan : plan.Fits i.plan

pub record Fitted (pinned : List ℕ) (es : List Event) : Type 0 where
  pub of_vector : vector.Fits (vector_after pinned es)
  pub of_items : (i : PendingItem) → In i (items pinned es) → IsFitted i
  pub of_structures : (z : Signed Structure) → In z (committed es) → (signed structure).Fits z
  pub tidy : IsTidy (state_after pinned es)

-- The certificate is of a user of whom nothing is pending, and the versions that it raises can grow.
pub record CanFit (pinned : List ℕ) (es : List Event) (c : Signed Cert) : Type 0 where
  pub fits : (signed cert).Fits c
  pub free : pending_of c.value.user (pending_after pinned es) ≡ None
  pub room : can_raise_all (c.value.user ∷ next_groups (table_after pinned es) (vector_after pinned es) c.value) (vector_after pinned es) ≡ true

-- so was each that was placed, and each structure that was committed fits
abbrev pub AreFitting : List ℕ → List Event → Type 0
AreFitting pinned [] = Unit {0}
AreFitting pinned (Placed c ∷ es) = CanFit pinned es c × AreFitting pinned es
AreFitting pinned (Committed z ∷ es) = (signed structure).Fits z × AreFitting pinned es

-- what is pending was placed
pending_item_in : (pinned : List ℕ) (es : List Event) (w : Placement) → In w (pending_after pinned es) → In w.item (items pinned es)
unfolding pending_after
pending_item_in pinned [] w i = absurd i
pending_item_in pinned (Placed c ∷ es) w i =
    elim (in-append w (pending_after pinned es) (next_placement (state_after pinned es) c ∷ []) i) [
      | inl k ↦ inr (pending_item_in pinned es w k)
      | inr k ↦ elim k [ inl e ↦ inl (ap item_of e) | inr none ↦ absurd none ]
    ]
pending_item_in pinned (Committed z ∷ es) w i = pending_item_in pinned es w (in-filter _ w (pending_after pinned es) i).0

module _ (pinned : List ℕ) where
  next_fits : (es : List Event) (c : Signed Cert) → CanFit pinned es c → Fitted pinned es → vector.Fits (next_item (state_after pinned es) c).plan.vector × IsFitted (next_item (state_after pinned es) c)
  next_fits es c can f =
      let fits = can.fits in
      let x = next_item (state_after pinned es) c in
      let gs = groups_at (table_after pinned es) (version_of 0 (vector_after pinned es)) c.value in
      let small : (p : ℕ) → In p (c.value.user ∷ gs) → p < 96 = λ p i. elim i [
        | inl e ↦ (let u = user_below c fits in omega arith)
        | inr k ↦ (group_range p (in-filter (raises_at (table_after pinned es) (version_of 0 (vector_after pinned es)) c.value) p groups k).0).1
      ] in
      let v : vector.Fits x.plan.vector = raised_fit (c.value.user ∷ gs) (vector_after pinned es) small can.room f.of_vector in
      let below = entries_fit (pending_after pinned es) (λ w i.
      let k = f.of_items w.item (pending_item_in pinned es w i) in
      (k.of_plan.0, k.of_plan.1.0)) in (
        v,
        record {
          of_cert = fits.0;
          of_signature = fits.1;
          of_plan = (fits.0.0, (fits.0.1.0, (hash_fits (cert.spell c.value), (v, below))));
        },
      )

  tidy_next : (es : List Event) (c : Signed Cert) → CanFit pinned es c → IsTidy (state_after pinned es) → IsTidy (state_after pinned (Placed c ∷ es))
  unfolding table_after vector_after pending_after
  tidy_next es c can tidy =
      let state = state_after pinned es in
      tidy_placed state (Some (table_after pinned (Placed c ∷ es))) (table_after pinned (Placed c ∷ es)) (vector_after pinned (Placed c ∷ es)) (next_placement state c) (structures es) (pending_after pinned es ++ next_placement state c ∷ []) tidy
      (record { fits = can.fits.0; free = can.free; table = refl; vector = refl; placement = refl }) refl refl

  tidy_less : (es : List Event) (z : Signed Structure) → z.value.plan.user < 64 → IsTidy (state_after pinned es) → IsTidy (state_after pinned (Committed z ∷ es))
  unfolding table_after vector_after pending_after
  tidy_less es z below tidy = tidy_committed (state_after pinned es) z (structures (Committed z ∷ es)) _ tidy below (structures_committed z es below) refl

  first_fits : Fitted pinned []
  unfolding table_after vector_after pending_after
  first_fits =
      record {
        of_vector = none_is_vector [] refl;
        of_items = λ i h. absurd h;
        of_structures = λ z h. absurd h;
        tidy = tidy_start _ _ (structures []) [] no_structures refl;
      }

  placed_fits : (es : List Event) (c : Signed Cert) → CanFit pinned es c → Fitted pinned es → Fitted pinned (Placed c ∷ es)
  unfolding vector_after
  placed_fits es c can f =
      let next = next_fits es c can f in
      record {
        of_vector = next.0;
        of_items = λ i h. (elim h [ inl e ↦ subst IsFitted (sym e) next.1 | inr k ↦ f.of_items i k ]);
        of_structures = f.of_structures;
        tidy = tidy_next es c can f.tidy;
      }

  committed_fits : (es : List Event) (z : Signed Structure) → (signed structure).Fits z → Fitted pinned es → Fitted pinned (Committed z ∷ es)
  unfolding vector_after
  committed_fits es z fits f =
      record {
        of_vector = f.of_vector;
        of_items = f.of_items;
        of_structures = λ y h. (elim h [ inl e ↦ subst (signed structure).Fits (sym e) fits | inr k ↦ f.of_structures y k ]);
        tidy = tidy_less es z (omega (arith, (in_range w8 0 63 z.value.plan.user fits.0.0.1.0).1)) f.tidy;
      }

  pub all_fitted : (es : List Event) → AreFitting pinned es → Fitted pinned es
  all_fitted [] are = first_fits
  all_fitted (Placed c ∷ es) are = placed_fits es c are.0 (all_fitted es are.1)
  all_fitted (Committed z ∷ es) are = committed_fits es z are.0 (all_fitted es are.1)

  pub can_fit : (es : List Event) (c : Signed Cert) → CanPlace pinned es c → (signed cert).Fits c → CanFit pinned es c
  can_fit es c can fits = record { fits = fits; free = can.free; room = can.room }

  -- so it is with the certificate of an operation that a server places
  pub can_fit_next : (es : List Event) (c : Signed Cert) → (signed cert).Fits c → is_next (state_after pinned es) c.value ≡ true → at_limit (state_after pinned es) c.value ≡ false → CanFit pinned es c
  can_fit_next es c fits next limit =
      let state = state_after pinned es in
      let free = not (is_some (pending_of c.value.user state.pending)) in
      let last = bytes_eq c.value.last (digest_of_last (structure_of c.value.user state)) in
      let parts = and_parts free last (and_parts (c.value.number == version_of c.value.user state.vector + 1) (free && last) next).1 in
      record {
        fits = fits;
        free = none_pending (pending_of c.value.user state.pending) parts.0;
        room = not-false (can_raise_all (c.value.user ∷ next_groups state.table state.vector c.value) state.vector) limit;
      }

  are_fitting : (names : Naming) (es : List Event) → Reached names pinned es → AreFitting pinned es
  are_fitting names [] r = tt
  are_fitting names (Placed c ∷ es) r = (can_fit es c r.0 r.1, are_fitting names es r.2)
  are_fitting names (Committed z ∷ es) r = (r.1, are_fitting names es r.3)

  pub fitted : (names : Naming) (es : List Event) → Reached names pinned es → Fitted pinned es
  fitted names es r = all_fitted es (are_fitting names es r)

  -- ---- the reply

  pub next_reply_fits : (es : List Event) (c : Signed Cert) → CanFit pinned es c → Fitted pinned es → reply.Fits (next_reply (state_after pinned es) c)
  next_reply_fits es c can f =
      let state = state_after pinned es in
      let ws = pending_after pinned es in
      let own = next_item state c in
      let few = few_pending state c.value.user f.tidy (user_below c can.fits) can.free in
      let one : (i : PendingItem) → IsFitted i → pending_item.Fits i = λ i k. pending_row_fits i k.of_cert k.of_signature k.of_plan in
      reply_fits (next_reply state c) (few_structures state f.tidy)
      (omega (arith, few, length-map ws item_of, length-append (map item_of ws) (own ∷ [])))
      (to_all signed_structure.Fits (structures es) (λ z h.
      let r = (latests_after es).is_last z h in
      let k = f.of_structures z (find_some (λ (z : Signed Structure). z.value.plan.user == r.0) (committed es) z r.2).0 in
      structure_row_fits z k.0 k.1))
      (to_all pending_item.Fits (map item_of ws ++ own ∷ []) (λ i h.
      elim (in-append i (map item_of ws) (own ∷ []) h) [
        | inl k ↦ (let (w, there, same) = in-map item_of ws i k in subst pending_item.Fits (sym same) (one w.item (f.of_items w.item (pending_item_in pinned es w there))))
        | inr k ↦ elim k [ inl e ↦ subst pending_item.Fits (sym e) (one own (next_fits es c can f).1) | inr none ↦ absurd none ]
      ]))
