-- Operations that are pending: their entries, and the next one.
use Rattle.std.proofs.Common.{◌≡◌, ℕ, suc, ◌+◌, ◌<◌, Bool, true, false, cond, ◌&&◌, List, [], ◌∷◌, ◌++◌, Option, Some, None, Result, Ok, refl, sym, ap, subst, ◌∙◌, arith}
use Rattle.std.specs.Prelude.{◌==◌, not, filter_map, nat_eq, is_some, IsNone, IfSome}
use Rattle.std.specs.List.{All, cons_option}
use Rattle.std.specs.Option.{option_map}
use Rattle.std.specs.Str.{bytes_eq}
use Rattle.std.proofs.lemmas.Bool.{eq-eqb, eqb-true}
use Rattle.std.proofs.lemmas.List.{append-nil}
use Rattle.layout.specs.declared.error.ReadError.{ReadError}
use Rattle.lms_sign.specs.Signature.{valid}
use Rattle.version_order.specs.declared.vector.Component.{Component}
use Rattle.version_order.specs.declared.plan.Entry.{Entry}
use Rattle.version_order.specs.Vector.{version_of, raised, raised_all, can_raise_all}
use Rattle.version_order.specs.Plan.{Plan, entry_of}
use Rattle.version_order.specs.Structure.{Structure}
use Rattle.update_cert.specs.Cert.{Cert, cert, digest_of}
use Rattle.pending_list.specs.declared.signed.Signed.{Signed}
use Rattle.pending_list.specs.Reply.{PendingItem, digest_of_last, reply}
use Rattle.principals.specs.Table.{Listing, Table, key_of, listing_of, lists_user, since}
use Rattle.principals.proofs.Users.{lists_is}
use Rattle.wire.specs.declared.kinds.Status.TheVariants as status
use Rattle.consistency_server.specs.Event.{Placed, users_below}
use Rattle.consistency_server.specs.State.{State, Placement, after_operation, next_groups, next_vector, pending_of, entries_of, next_plan, next_item, next_reply, next_placement}
use Rattle.consistency_server.specs.Answers.{Refused, Happens, structure_of, cert_of, committing, is_next, at_limit, placing, read_commit, update_beside, verified_update, verifies}
use Rattle.consistency_server.specs.Judged.{IsNext, table_or}
use Rattle.consistency_server.proofs.Rows.{find_holds, no_users, more, keys_below}

-- ---- entries

-- the entry of a user's operation, if one is pending
abbrev pub entry_at : List Placement → ℕ → Option Entry
entry_at ws u = option_map (λ w. entry_of w.item.plan) (pending_of u ws)

pub found_user : (ws : List Placement) (u : ℕ) (w : Placement) → pending_of u ws ≡ Some w → w.item.plan.user ≡ u
found_user ws u w is = eqb-true w.item.plan.user u (find_holds (λ v. v.item.plan.user == u) ws w is)

entry_own : (ws : List Placement) (u : ℕ) (e : Entry) → entry_at ws u ≡ Some e → e.user ≡ u
entry_own ws u e has =
    elim (pending_of u ws) as (λ o. pending_of u ws ≡ o → option_map (λ w. entry_of w.item.plan) o ≡ Some e → e.user ≡ u) [
      | Some w ↦ λ is f. let is' : entry_of w.item.plan ≡ e = cc in ap (λ (x : Entry). x.user) (sym is') ∙ found_user ws u w is
      | None ↦ λ is f. absurd cc
    ] refl has

pub entries_below : (ws : List Placement) (n : ℕ) → All (λ e. e.user < n) (filter_map (entry_at ws) (users_below n))
entries_below ws n = keys_below (λ e. e.user) (entry_at ws) (entry_own ws) n

pub entries_none : (ws : List Placement) → filter_map (entry_at ws) (users_below 0) ≡ []
entries_none ws = ap (filter_map (entry_at ws)) no_users

entries_more : (ws : List Placement) (n : ℕ) (o : Option Entry) → entry_at ws n ≡ o → filter_map (entry_at ws) (users_below (n + 1)) ≡ filter_map (entry_at ws) (users_below n) ++ cons_option o []
entries_more ws n o is =
    let next : n + 1 ≡ suc n = omega arith in
    ap (λ k. filter_map (entry_at ws) (users_below k)) next ∙ more (λ (e : Entry). e.user) (entry_at ws) (entry_own ws) n ∙ ap (λ p. filter_map (entry_at ws) (users_below n) ++ cons_option p []) is

pub entry_added : (ws : List Placement) (n : ℕ) (w : Placement) (es : List Entry) → pending_of n ws ≡ Some w → es ≡ filter_map (entry_at ws) (users_below n) → es ++ entry_of w.item.plan ∷ [] ≡ filter_map (entry_at ws) (users_below (n + 1))
entry_added ws n w es is so_far =
    ap (λ (xs : List Entry). xs ++ entry_of w.item.plan ∷ []) so_far ∙ sym (entries_more ws n (Some (entry_of w.item.plan)) (ap (option_map (λ v. entry_of v.item.plan)) is))

pub entry_missing : (ws : List Placement) (n : ℕ) (es : List Entry) → pending_of n ws ≡ None → es ≡ filter_map (entry_at ws) (users_below n) → es ≡ filter_map (entry_at ws) (users_below (n + 1))
entry_missing ws n es is so_far =
    so_far ∙ sym (entries_more ws n None (ap (option_map (λ v. entry_of v.item.plan)) is) ∙ append-nil (filter_map (entry_at ws) (users_below n)))

-- ---- the next operation

-- a certificate of the next number, of a user of whom nothing is pending, is the next where it names the last structure
pub next_by : (state : State) (c : Cert) → c.number ≡ version_of c.user state.vector + 1 → pending_of c.user state.pending ≡ None → bytes_eq c.last (digest_of_last (structure_of c.user state)) ≡ is_next state c
next_by state c number free =
    sym (ap (λ b. b && (not (is_some (pending_of c.user state.pending)) && bytes_eq c.last (digest_of_last (structure_of c.user state)))) (eq-eqb c.number (version_of c.user state.vector + 1) number)
    ∙ ap (λ o. not (is_some o) && bytes_eq c.last (digest_of_last (structure_of c.user state))) free)

module _ (state : State) (c : Cert) (u n : ℕ) (d gs : List ℕ) (v : List Component) (es : List Entry) (eu : u ≡ c.user) (en : n ≡ c.number) (ed : d ≡ digest_of c) (eg : gs ≡ next_groups state.table state.vector c) (ev : v ≡ state.vector) (ee : es ≡ entries_of state.pending) where
  pub planned : record { user = u; number = n; certificate = d; vector = raised_all gs (raised u v); entries = es } ≡ next_plan state c
  planned =
      ap (λ (k : ℕ). record { user = k; number = n; certificate = d; vector = raised_all gs (raised k v); entries = es }) eu
      ∙ ap (λ (k : ℕ). record { user = c.user; number = k; certificate = d; vector = raised_all gs (raised c.user v); entries = es }) en
      ∙ ap (λ (k : List ℕ). record { user = c.user; number = c.number; certificate = k; vector = raised_all gs (raised c.user v); entries = es }) ed
      ∙ ap (λ (k : List ℕ). record { user = c.user; number = c.number; certificate = digest_of c; vector = raised_all k (raised c.user v); entries = es }) eg
      ∙ ap (λ (k : List Component). record { user = c.user; number = c.number; certificate = digest_of c; vector = raised_all (next_groups state.table state.vector c) (raised c.user k); entries = es }) ev
      ∙ ap (λ (k : List Entry). record { user = c.user; number = c.number; certificate = digest_of c; vector = next_vector state.table state.vector c; entries = k }) ee

  pub limit_is : not (can_raise_all (u ∷ gs) v) ≡ at_limit state c
  limit_is =
      ap (λ (k : ℕ). not (can_raise_all (k ∷ gs) v)) eu ∙ ap (λ (k : List ℕ). not (can_raise_all (c.user ∷ k) v)) eg
      ∙ ap (λ (k : List Component). not (can_raise_all (c.user ∷ next_groups state.table state.vector c) k)) ev

-- a certificate that isn't pending, of a user who is listed and signed it
pub signed_update : (state : State) (c : Signed Cert) (key : List ℕ) → key_of c.value.user state.table ≡ Some key → valid key (cert.spell c.value) c.signature ≡ true → update_beside None state c ≡ placing state c
signed_update state c key known true' = ap (verified_update state c) known ∙ ap (λ b. cond b (placing state c) (Refused status.BadSignature)) true'

-- a structure that was read, of a user who is listed and signed it
pub signed_commit : (state : State) (s : Signed Structure) (r : Result (Signed Structure) ReadError) → r ≡ Ok s → lists_user state.table s.value.plan.user ≡ true → verifies state.table s ≡ true → read_commit state r ≡ committing state s
signed_commit state s r read listed signed = ap (read_commit state) read ∙ rw (listed, signed) refl

pub placed_judged : (state : State) (found : Signed Cert) (t : Option Table) (v : List Component) (w : Placement) (payload : List ℕ) → cert.Fits found.value → pending_of found.value.user state.pending ≡ None
    → table_or t state.table ≡ after_operation found.value state.table → v ≡ next_vector state.table state.vector found.value → w.item ≡ next_item state found → w.reply ≡ reply.spell (next_reply state found) → payload ≡ w.reply
    → (Happens (Placed found) (reply.spell (next_reply state found)) ≡ Happens (Placed (cert_of w.item)) payload) × IsNext state t v w
placed_judged state found t v w payload fits free table vector item text same =
    let own : cert_of w.item ≡ found = ap cert_of item in
    let of_cert : w.item.cert ≡ found.value = ap (λ (i : PendingItem). i.cert) item in (
      ap (λ (c : Signed Cert). Happens (Placed c) (reply.spell (next_reply state found))) (sym own) ∙ ap (Happens (Placed (cert_of w.item))) (sym (same ∙ text)),
      record {
        fits = subst cert.Fits (sym of_cert) fits;
        free = subst (λ (c : Cert). pending_of c.user state.pending ≡ None) (sym of_cert) free;
        table = table ∙ ap (λ (c : Cert). after_operation c state.table) (sym of_cert);
        vector = vector ∙ ap (next_vector state.table state.vector) (sym of_cert);
        placement = ap (λ (i : PendingItem). record { item = i; reply = w.reply }) item ∙ ap (λ (r : List ℕ). record { item = next_item state found; reply = r }) text ∙ ap (next_placement state) (sym own);
      },
    )

-- the table after an operation, where it was made if the operation may change it
pub table_made : (after : Option Table) (kept new : Table) → IfSome after (λ t. t ≡ new) → (IsNone after → new ≡ kept) → table_or after kept ≡ new
table_made None kept new changed same = sym (same refl)
table_made (Some t) kept new changed same = changed

-- a user is listed who is so since some number
pub listed_since : (t : Table) (u : ℕ) (o : Option ℕ) → o ≡ since u t → is_some o ≡ lists_user t u
listed_since t u o is = ap is_some is ∙ mapped (listing_of u t) ∙ lists_is t.users u
  where
    mapped : (l : Option Listing) → is_some (option_map (λ (x : Listing). x.since) l) ≡ is_some l
    mapped None = refl
    mapped (Some l) = refl
