-- How a user's client stands to the server, and that what others do leaves it so.
use Rattle.std.proofs.Common.{◌≡◌, ◌≢◌, ℕ, List, [], ◌∷◌, Option, Some, None, true, false, refl, sym, ap, ◌∙◌, inl, inr}
use Rattle.std.specs.Prelude.{◌⊎◌, ◌==◌, IfSome, not}
use Rattle.std.specs.List.{Contains}
use Rattle.std.proofs.lemmas.Bool.{eq-eqb, ne_eqb, and_left}
use Rattle.layout.specs.Format.{IsBytes}
use Rattle.layout.specs.Types.{Key}
use Rattle.lms_sign.specs.Signature.{valid}
use Rattle.principals.specs.Table.{Table}
use Rattle.version_order.specs.Plan.{Plan}
use Rattle.version_order.specs.Structure.{Structure, structure}
use Rattle.update_cert.specs.Cert.{Cert}
use Rattle.pending_list.specs.declared.signed.Signed.{Signed}
use Rattle.pending_list.specs.Signed.{signed}
use Rattle.reply_rules.specs.Lists.{Lists}
use Rattle.consistency_server.specs.Event.{Event, Placed, Committed, last_of}
use Rattle.consistency_server.specs.State.{Placement, commits, next_placement, pending_after, pending_of, state_after}
use Rattle.consistency_server.specs.Answers.{cert_of}
use Rattle.agreement.specs.Runs.{View}
use Rattle.agreement.proofs.Members.{In, contains_in, in-append, in-filter, in-kept, in-left, in_contains}
use Rattle.honest_history.specs.Placed.{IsSince, lists_to, table_to}
use Rattle.honest_history.specs.Honest.{IsHonest, Naming}
use Rattle.honest_history.proofs.Members.{find_none, find_nothing}
use Rattle.honest_dialogues.specs.Dialogue.{Declared, Declined, Idle, IsNextCert, Sealed, Stage, named_key}

-- nothing of the user is pending
abbrev pub Free : Key → List Event → ℕ → Type 0
Free pinned es u = pending_of u (pending_after pinned es) ≡ None

abbrev pub whose : Placement → ℕ
whose w = w.item.plan.user

-- these lists are those of the reply to the operation, which is pending
pub record IsHeard (pinned : Key) (es : List Event) (c : Signed Cert) (x : Lists) : Type 0 where
  pub earlier : List Event
  pub since : IsSince (Placed c ∷ earlier) es
  pub pending : Contains (pending_after pinned es) (next_placement (state_after pinned earlier) c)
  pub lists : x ≡ lists_to pinned earlier c

pub record IsDeclaredAt (pinned : Key) (es : List Event) (u : ℕ) (last : Option (Signed Structure)) (c : Signed Cert) (heard : Option Lists) : Type 0 where
  pub next : IsNextCert u last c
  pub last_is : last ≡ last_of u es
  pub alone : (w : Placement) → Contains (pending_after pinned es) w → whose w ≡ u → cert_of w.item ≡ c
  pub heard_is : (x : Lists) → heard ≡ Some x → IsHeard pinned es c x

-- nothing of the user's is pending
pub record IsDeclinedAt (pinned : Key) (es : List Event) (u : ℕ) (last : Option (Signed Structure)) (c : Signed Cert) : Type 0 where
  pub next : IsNextCert u last c
  pub last_is : last ≡ last_of u es
  pub free : Free pinned es u

-- the structure is signed under the key that this table names
abbrev pub IsUnder : Key → Table → Signed Structure → Type 0
IsUnder pinned t z = IfSome (named_key pinned t z.value.plan) (λ key. valid key (structure.spell z.value) z.signature ≡ true)

-- it is committed; or its operation is pending, and it is signed under the key that the table named as that was placed
abbrev pub IsSentAt : Key → Naming → List Event → ℕ → Signed Structure → Type 0
IsSentAt pinned naming es u z = ((last_of u es ≡ Some z) × Free pinned es u)
    ⊎ ((h : IsHonest naming pinned es z.value) × IsUnder pinned (table_to pinned h.earlier h.cert) z)

pub record IsSealedAt (pinned : Key) (naming : Naming) (es : List Event) (vs : List View) (u : ℕ) (z : Signed Structure) : Type 0 where
  pub user_is : z.value.plan.user ≡ u
  pub fits : (signed structure).Fits z
  pub bytes : IsBytes ((signed structure).spell z)
  pub seen : (y : View) × In y vs × (y.signed ≡ z.value)
  pub sent : IsSentAt pinned naming es u z

pub record IsIdleAt (pinned : Key) (naming : Naming) (es : List Event) (vs : List View) (u : ℕ) (last : Option (Signed Structure)) : Type 0 where
  pub last_is : last ≡ last_of u es
  pub free : Free pinned es u
  pub signed_is : (z : Signed Structure) → last ≡ Some z → IsSealedAt pinned naming es vs u z

abbrev pub StandsAt : Key → Naming → List Event → List View → ℕ → Stage → Type 0
StandsAt pinned naming es vs u (Idle last) = IsIdleAt pinned naming es vs u last
StandsAt pinned naming es vs u (Declared last c heard) = IsDeclaredAt pinned es u last c heard
StandsAt pinned naming es vs u (Declined last c) = IsDeclinedAt pinned es u last c
StandsAt pinned naming es vs u (Sealed z) = IsSealedAt pinned naming es vs u z

-- ---- what others do

-- the later events leave a user's last structure and what is pending of the user
pub record Leaves (pinned : Key) (es later : List Event) (u : ℕ) : Type 0 where
  pub last : last_of u later ≡ last_of u es
  pub kept : (w : Placement) → In w (pending_after pinned es) → whose w ≡ u → In w (pending_after pinned later)
  pub only : (w : Placement) → In w (pending_after pinned later) → whose w ≡ u → In w (pending_after pinned es)
  pub after : (first : List Event) → IsSince first es → IsSince first later

pub leaves_same : (pinned : Key) (es : List Event) (u : ℕ) → Leaves pinned es es u
leaves_same pinned es u = record { last = refl; kept = λ w i m. i; only = λ w i m. i; after = λ first s. s }

pub leaves_placed : (pinned : Key) (es : List Event) (c : Signed Cert) (u : ℕ) → c.value.user ≢ u → Leaves pinned es (Placed c ∷ es) u
unfolding pending_after
leaves_placed pinned es c u other =
    record {
      last = refl;
      kept = λ w i m. in-left w (pending_after pinned es) (next_placement (state_after pinned es) c ∷ []) i;
      only = λ w i m. (elim (in-append w (pending_after pinned es) (next_placement (state_after pinned es) c ∷ []) i) [
        | inl k ↦ k
        | inr k ↦ elim k [ inl e ↦ absurd (other (sym (ap whose e) ∙ m)) | inr none ↦ absurd none ]
      ]);
      after = λ first s. (Placed c ∷ s.0, ap (λ es. Placed c ∷ es) s.1);
    }

pub leaves_committed : (pinned : Key) (es : List Event) (z : Signed Structure) (u : ℕ) → z.value.plan.user ≢ u → Leaves pinned es (Committed z ∷ es) u
unfolding pending_after
leaves_committed pinned es z u other =
    record {
      last = rw (ne_eqb z.value.plan.user u other) refl;
      kept = λ w i m. in-kept (λ w. not (commits z w)) w (pending_after pinned es) i (ap not (and_left _ _ (ne_eqb z.value.plan.user (whose w) (λ e. other (e ∙ m)))));
      only = λ w i m. (in-filter (λ w. not (commits z w)) w (pending_after pinned es) i).0;
      after = λ first s. (Committed z ∷ s.0, ap (λ es. Committed z ∷ es) s.1);
    }

pub none_pending : (pinned : Key) (es : List Event) (u : ℕ) → Free pinned es u → (w : Placement) → In w (pending_after pinned es) → whose w ≢ u
none_pending pinned es u free w i e =
    let no_such = find_nothing (λ (w : Placement). whose w == u) (pending_after pinned es) free w i in
    let same : (whose w == u) ≡ true = eq-eqb (whose w) u e in
    let clash : true ≡ false = sym same ∙ no_such in
    cc

module _ (pinned : Key) (naming : Naming) (es later : List Event) (u : ℕ) (l : Leaves pinned es later u) where
  free_stays : Free pinned es u → Free pinned later u
  free_stays free =
      find_none (λ (w : Placement). whose w == u) (pending_after pinned later) (λ w i.
      ne_eqb (whose w) u (λ e. none_pending pinned es u free w (l.only w i e) e))

  -- what is pending of the user stays so
  pending_stays : (w : Placement) → whose w ≡ u → Contains (pending_after pinned es) w → Contains (pending_after pinned later) w
  pending_stays w m there = in_contains w (pending_after pinned later) (l.kept w (contains_in w (pending_after pinned es) there) m)

  heard_stays : (c : Signed Cert) (x : Lists) → c.value.user ≡ u → IsHeard pinned es c x → IsHeard pinned later c x
  heard_stays c x own h =
      record {
        earlier = h.earlier;
        since = l.after (Placed c ∷ h.earlier) h.since;
        pending = pending_stays (next_placement (state_after pinned h.earlier) c) own h.pending;
        lists = h.lists;
      }

  honest_stays : (z : Structure) → z.plan.user ≡ u → IsHonest naming pinned es z → IsHonest naming pinned later z
  honest_stays z own h =
      record {
        earlier = h.earlier;
        cert = h.cert;
        since = l.after (Placed h.cert ∷ h.earlier) h.since;
        pending = pending_stays (next_placement (state_after pinned h.earlier) h.cert) (ap (λ (p : Plan). p.user) (sym h.over.plan) ∙ own) h.pending;
        over = h.over;
      }

  sealed_stays : (vs : List View) (z : Signed Structure) → IsSealedAt pinned naming es vs u z → IsSealedAt pinned naming later vs u z
  unfolding honest_stays
  sealed_stays vs z s =
      record {
        user_is = s.user_is;
        fits = s.fits;
        bytes = s.bytes;
        seen = s.seen;
        sent = elim s.sent [ inl k ↦ inl (l.last ∙ k.0, free_stays k.1) | inr k ↦ inr (honest_stays z.value s.user_is k.0, k.1) ];
      }

  pub declared_stays : (last : Option (Signed Structure)) (c : Signed Cert) (heard : Option Lists) → IsDeclaredAt pinned es u last c heard → IsDeclaredAt pinned later u last c heard
  declared_stays last c heard d =
      record {
        next = d.next;
        last_is = d.last_is ∙ sym l.last;
        alone = λ w there m. d.alone w (in_contains w (pending_after pinned es) (l.only w (contains_in w (pending_after pinned later) there) m)) m;
        heard_is = λ x e. heard_stays c x d.next.user (d.heard_is x e);
      }

  declined_stays : (last : Option (Signed Structure)) (c : Signed Cert) → IsDeclinedAt pinned es u last c → IsDeclinedAt pinned later u last c
  declined_stays last c d = record { next = d.next; last_is = d.last_is ∙ sym l.last; free = free_stays d.free }

  pub stands_stays : (vs : List View) (s : Stage) → StandsAt pinned naming es vs u s → StandsAt pinned naming later vs u s
  stands_stays vs (Idle last) i =
      record { last_is = i.last_is ∙ sym l.last; free = free_stays i.free; signed_is = λ z e. sealed_stays vs z (i.signed_is z e) }
  stands_stays vs (Declared last c heard) d = declared_stays last c heard d
  stands_stays vs (Declined last c) d = declined_stays last c d
  stands_stays vs (Sealed z) s = sealed_stays vs z s

-- ---- more views

sealed_seen : (pinned : Key) (naming : Naming) (es : List Event) (vs more : List View) (u : ℕ) (z : Signed Structure) → ((y : View) → In y vs → In y more) → IsSealedAt pinned naming es vs u z → IsSealedAt pinned naming es more u z
sealed_seen pinned naming es vs more u z h s =
    record {
      user_is = s.user_is;
      fits = s.fits;
      bytes = s.bytes;
      seen = (s.seen.0, h s.seen.0 s.seen.1, s.seen.2);
      sent = s.sent;
    }

pub stands_seen : (pinned : Key) (naming : Naming) (es : List Event) (vs more : List View) (u : ℕ) (s : Stage) → ((y : View) → In y vs → In y more) → StandsAt pinned naming es vs u s → StandsAt pinned naming es more u s
stands_seen pinned naming es vs more u (Idle last) h i = record { last_is = i.last_is; free = i.free; signed_is = λ z e. sealed_seen pinned naming es vs more u z h (i.signed_is z e) }
stands_seen pinned naming es vs more u (Declared last c heard) h d = d
stands_seen pinned naming es vs more u (Declined last c) h d = d
stands_seen pinned naming es vs more u (Sealed z) h s = sealed_seen pinned naming es vs more u z h s
