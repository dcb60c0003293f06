-- The last structures of all users, ascending by user, and the entries of what is pending.
use Rattle.std.proofs.Common.{◌≡◌, ℕ, zero, suc, ◌<◌, List, [], ◌∷◌, Option, Some, None, refl, sym, ap, ◌∙◌, inl, inr, arith}
use Rattle.std.specs.Prelude.{◌==◌, find, filter_map}
use Rattle.std.specs.List.{cons_option}
use Rattle.std.specs.Option.{option_map}
use Rattle.std.proofs.lemmas.Bool.{eqb-true, eq-eqb, ne_eqb, cases_eq, true≢false}
use Rattle.version_order.specs.declared.plan.Entry.{Entry}
use Rattle.version_order.specs.Plan.{entry_of}
use Rattle.version_order.specs.Structure.{Structure}
use Rattle.pending_list.specs.declared.signed.Signed.{Signed}
use Rattle.pending_list.specs.Reply.{PendingItem}
use Rattle.consistency_server.specs.Event.{Event, committed, last_of, structures, users, users_below}
use Rattle.consistency_server.specs.State.{Placement, entries_of, pending_of}
use Rattle.agreement.proofs.Members.{In, in-append, in-left, in-right}
use Rattle.honest_history.proofs.Members.{filter_map_in, find_none, find_nothing, find_one, find_some, in_filter_map}
use Rattle.honest_history.proofs.Pairs.{Pairwise, pairwise_append, pairwise_more}
use Rattle.honest_history.proofs.Tops.{Latests}

users_in : (n u : ℕ) → u < n → In u (users_below n)
unfolding users_below
users_in zero u l = absurd (omega arith)
users_in (suc n) u l =
    elim (cases_eq u n) [
      | inl e ↦ in-right u (users_below n) (n ∷ []) (inl e)
      | inr m ↦ in-left u (users_below n) (n ∷ []) (users_in n u (omega arith))
    ]

users_less : (n u : ℕ) → In u (users_below n) → u < n
unfolding users_below
users_less zero u i = absurd i
users_less (suc n) u i =
    elim (in-append u (users_below n) (n ∷ []) i) [
      | inl k ↦ (let r = users_less n u k in omega arith)
      | inr k ↦ elim k [ inl e ↦ omega arith | inr z ↦ absurd z ]
    ]

users_ascend : (n : ℕ) → Pairwise (λ u v. u < v) (users_below n)
unfolding users_below
users_ascend zero = tt
users_ascend (suc n) =
    pairwise_append (λ u v. u < v) (users_below n) (n ∷ []) (users_ascend n) (λ y i. absurd i, tt)
    (λ a b i j. let r = users_less n a i in elim j [ inl e ↦ omega arith | inr z ↦ absurd z ])

pairwise_found : {A : Type 0} (R : A → A → Type 0) (h : ℕ → Option A) (us : List ℕ) → Pairwise (λ u v. (y z : A) → h u ≡ Some y → h v ≡ Some z → R y z) us → Pairwise R (filter_map h us)
pairwise_found R h [] p = tt
pairwise_found {A} R h (u ∷ us) p = go (h u) refl (pairwise_found R h us p.1) (λ y k z i. let r = in_filter_map h z us i in p.0 r.0 r.1 y z k r.2)
  where
    go : (o : Option A) → h u ≡ o → Pairwise R (filter_map h us) → ((y : A) → h u ≡ Some y → (z : A) → In z (filter_map h us) → R y z) → Pairwise R (cons_option o (filter_map h us))
    go None e q c = q
    go (Some y) e q c = (c y e, q)

-- the structures of all users are the last ones
pub latests : (last : ℕ → Option (Signed Structure)) → ((u : ℕ) (z : Signed Structure) → last u ≡ Some z → z.value.plan.user ≡ u) → Latests (filter_map last users) last
latests last own =
    record {
      of_user = λ u l. of_user u l (last u) refl;
      is_last = λ z i. (let r = in_filter_map last z users i in (r.0, users_less 64 r.0 r.1, r.2));
      is_in = λ u z l e. filter_map_in last u z users (users_in 64 u l) e;
      ascend = pairwise_found _ last users (pairwise_more _ _ users (users_ascend 64) (λ u v i j l y z e f. let a = own u y e in let b = own v z f in omega arith));
    }
  where
    of_user : (u : ℕ) → u < 64 → (o : Option (Signed Structure)) → last u ≡ o → find (λ z. z.value.plan.user == u) (filter_map last users) ≡ last u
    of_user u l None e =
        find_none (λ z. z.value.plan.user == u) (filter_map last users) (λ z i.
        let r = in_filter_map last z users i in
        ne_eqb z.value.plan.user u (λ f. let k : last u ≡ Some z = ap last (sym f ∙ own r.0 z r.2) ∙ r.2 in let m : None ≡ Some z = sym e ∙ k in cc))
        ∙ sym e
    of_user u l (Some z) e =
        find_one (λ z. z.value.plan.user == u) (filter_map last users) z (filter_map_in last u z users (users_in 64 u l) e) (eq-eqb z.value.plan.user u (own u z e)) (λ y i f.
        let r = in_filter_map last y users i in
        let k : last u ≡ Some y = ap last (sym (eqb-true y.value.plan.user u f) ∙ own r.0 y r.2) ∙ r.2 in
        let m : Some z ≡ Some y = sym e ∙ k in
        cc)
        ∙ sym e

pub last_own : (es : List Event) (u : ℕ) (z : Signed Structure) → last_of u es ≡ Some z → z.value.plan.user ≡ u
last_own es u z e = eqb-true z.value.plan.user u (find_some (λ (z : Signed Structure). z.value.plan.user == u) (committed es) z e).1

pub latests_after : (es : List Event) → Latests (structures es) (λ u. last_of u es)
latests_after es = latests (λ u. last_of u es) (last_own es)

-- ---- entries

pub entries_from : (ws : List Placement) (e : Entry) → In e (entries_of ws) → (w : Placement) × In w ws × (e ≡ entry_of w.item.plan)
entries_from ws e h =
    let r = in_filter_map (λ u. option_map (λ w. entry_of w.item.plan) (pending_of u ws)) e users h in
    go r.0 (pending_of r.0 ws) refl r.2
  where
    go : (u : ℕ) (o : Option Placement) → pending_of u ws ≡ o → option_map (λ w. entry_of w.item.plan) o ≡ Some e → (w : Placement) × In w ws × (e ≡ entry_of w.item.plan)
    go u None m k = cc
    go u (Some w) m k = let n : entry_of w.item.plan ≡ e = cc in (w, (find_some (λ (w : Placement). w.item.plan.user == u) ws w m).0, sym n)

pub entries_all : (ws : List Placement) (w : Placement) → In w ws → w.item.plan.user < 64 → ((v : Placement) → In v ws → v.item.plan.user ≡ w.item.plan.user → v.item ≡ w.item) → In (entry_of w.item.plan) (entries_of ws)
entries_all ws w h l once = go (pending_of w.item.plan.user ws) refl
  where
    go : (o : Option Placement) → pending_of w.item.plan.user ws ≡ o → In (entry_of w.item.plan) (entries_of ws)
    go None m = absurd (true≢false (sym (eq-eqb w.item.plan.user w.item.plan.user refl) ∙ find_nothing (λ (v : Placement). v.item.plan.user == w.item.plan.user) ws m w h))
    go (Some v) m =
        let r = find_some (λ (v : Placement). v.item.plan.user == w.item.plan.user) ws v m in
        let same = once v r.0 (eqb-true v.item.plan.user w.item.plan.user r.1) in
        filter_map_in (λ u. option_map (λ w. entry_of w.item.plan) (pending_of u ws)) w.item.plan.user (entry_of w.item.plan) users (users_in 64 w.item.plan.user l)
        (ap (option_map (λ (w : Placement). entry_of w.item.plan)) m ∙ ap (λ (i : PendingItem). Some (entry_of i.plan)) same)

-- they ascend by user
pub entry_users_ascend : (ws : List Placement) → Pairwise (λ d e. d.user < e.user) (entries_of ws)
entry_users_ascend ws =
    pairwise_found (λ (d e : Entry). d.user < e.user) entry_at users (pairwise_more _ _ users (users_ascend 64) (λ u v i j l d e k m. let a = entry_user u d k in let b = entry_user v e m in omega arith))
  where
    entry_at : ℕ → Option Entry
    entry_at u = option_map (λ w. entry_of w.item.plan) (pending_of u ws)

    entry_user : (u : ℕ) (e : Entry) → option_map (λ w. entry_of w.item.plan) (pending_of u ws) ≡ Some e → e.user ≡ u
    entry_user u e k = go (pending_of u ws) refl k
      where
        go : (o : Option Placement) → pending_of u ws ≡ o → option_map (λ w. entry_of w.item.plan) o ≡ Some e → e.user ≡ u
        go None m n = cc
        go (Some w) m n =
            let same : entry_of w.item.plan ≡ e = cc in
            ap (λ (e : Entry). e.user) (sym same) ∙ eqb-true w.item.plan.user u (find_some (λ (w : Placement). w.item.plan.user == u) ws w m).1
