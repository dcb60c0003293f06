-- What the newest table tells of each operation that was placed: what the table told when it was placed. And the
-- records of groups that structures have.
use Rattle.std.proofs.Common.{◌≡◌, ℕ, ◌+◌, ◌<◌, ◌≤◌, List, [], ◌∷◌, Some, true, refl, sym, ap, ◌∙◌, subst, inl, inr, arith}
use Rattle.std.proofs.lemmas.Bool.{eq-eqb, ne_eqb, cases_eq}
use Rattle.lms_sign.specs.Signature.{valid}
use Rattle.principals.specs.Table.{Table, is_listed, lists_user}
use Rattle.version_order.specs.declared.structure.GroupRecord.{GroupRecord}
use Rattle.version_order.specs.declared.vector.Component.{Component}
use Rattle.version_order.specs.Plan.{Plan}
use Rattle.version_order.specs.Structure.{Structure, structure}
use Rattle.version_order.specs.Vector.{raised, raised_all, version_of}
use Rattle.update_cert.specs.Cert.{Cert, cert}
use Rattle.pending_list.specs.declared.signed.Signed.{Signed}
use Rattle.pending_list.specs.Groups.{groups_at, raised_groups, raises, table_version}
use Rattle.pending_list.specs.Reply.{PendingItem}
use Rattle.consistency_server.specs.State.{after_operation}
use Rattle.agreement.proofs.Members.{In, one-other, one-same}
use Rattle.reply_rules.specs.Rules.{next_vector}
use Rattle.honest_history.proofs.Tables.{Since, groups_stay, key_for, key_listed, key_stays, listed_later, listed_since, listed_stays, since_after}
use Rattle.honest_history.proofs.Timeline.{Latest, Next, next_version, place, user, vector_in, version}

-- the vector of the newest of these
abbrev pub latest_vector : List PendingItem → List Component
latest_vector [] = []
latest_vector (i ∷ is) = i.plan.vector

-- each has the vector that follows from that of the one before it, by this table
abbrev pub Follows : Table → List PendingItem → Type 0
Follows t [] = Unit {0}
Follows t (i ∷ is) = (i.plan.vector ≡ next_vector t i (latest_vector is)) × Follows t is

-- the text is signed under the key that the table has of the user, where user 0's number is this one
abbrev pub IsSigned : Table → ℕ → ℕ → List ℕ → List ℕ → Type 0
IsSigned t u v text signature = (key : List ℕ) × (key_for t u v ≡ Some key) × (valid key text signature ≡ true)

abbrev pub IsCertSigned : Table → PendingItem → Type 0
IsCertSigned t i = IsSigned t i.cert.user (table_version i.plan) (cert.spell i.cert) i.signature

abbrev pub IsStructureSigned : Table → Signed Structure → Type 0
IsStructureSigned t z = IsSigned t z.value.plan.user (table_version z.value.plan) (structure.spell z.value) z.signature

-- The user of a plan has one key at the plan's table version and at its version of user 0: they differ for user 0 alone,
-- whose key is the same at each number.
pub plan_key : (b : Table) (pinned : List ℕ) (p : Plan) → ((v : ℕ) → key_for b 0 v ≡ Some pinned) → key_for b p.user (version_of 0 p.vector) ≡ key_for b p.user (table_version p)
plan_key b pinned p one =
    elim (cases_eq p.user 0) [
      | inl zero ↦ ap (λ u. key_for b u (version_of 0 p.vector)) zero ∙ one (version_of 0 p.vector) ∙ sym (ap (λ u. key_for b u (table_version p)) zero ∙ one (table_version p))
      | inr other ↦ (let at : table_version p ≡ version_of 0 p.vector = rw (ne_eqb p.user 0 other) refl in ap (key_for b p.user) (sym at))
    ]

pub record Tabled (b : Table) (is : List PendingItem) (v : List Component) : Type 0 where
  pub listed : (i : PendingItem) → In i is → is_listed b (user i) (version 0 i) ≡ true
  pub since : Since (version_of 0 v) b
  pub follows : Follows b is
  pub signed : (i : PendingItem) → In i is → IsCertSigned b i

pub version_before : (p : Plan) → table_version p ≤ version_of 0 p.vector
version_before p = elim (cases_eq p.user 0) [ inl e ↦ rw (eq-eqb p.user 0 e) (omega arith) | inr n ↦ rw (ne_eqb p.user 0 n) (omega arith) ]

-- an operation that user 0's operations before it know by their numbers
abbrev pub IsBefore : Cert → PendingItem → Type 0
IsBefore c i = c.user ≡ 0 → version 0 i < c.number

-- it raises the same groups after a later operation
pub raised_stay : (b : Table) (c : Cert) (i : PendingItem) → IsBefore c i → raised_groups (after_operation c b) i ≡ raised_groups b i
raised_stay b c i before = groups_stay c b (table_version i.plan) i.cert (λ zero. let k = before zero in let m = version_before i.plan in omega arith)

signed_stays : (b : Table) (c : Cert) (u v : ℕ) (text signature : List ℕ) → (c.user ≡ 0 → v < c.number) → IsSigned b u v text signature → IsSigned (after_operation c b) u v text signature
signed_stays b c u v text signature below h = (h.0, key_stays c b u v h.0 below h.1, h.2)

-- and its certificate stays signed
pub cert_stays : (b : Table) (c : Cert) (i : PendingItem) → IsBefore c i → IsCertSigned b i → IsCertSigned (after_operation c b) i
cert_stays b c i before h =
    signed_stays b c i.cert.user (table_version i.plan) (cert.spell i.cert) i.signature (λ zero. let k = before zero in let m = version_before i.plan in omega arith) h

-- and so does a structure of its plan
pub structure_stays : (b : Table) (c : Cert) (i : PendingItem) (z : Signed Structure) → z.value.plan ≡ i.plan → IsBefore c i → IsStructureSigned b z → IsStructureSigned (after_operation c b) z
structure_stays b c i z plan before h =
    signed_stays b c z.value.plan.user (table_version z.value.plan) (structure.spell z.value) z.signature (λ zero.
    let k = before zero in
    let m = version_before i.plan in
    let same = ap table_version plan in
    omega arith) h

follows_after : (b : Table) (c : Cert) (is : List PendingItem) → ((i : PendingItem) → In i is → IsBefore c i) → Follows b is → Follows (after_operation c b) is
follows_after b c [] h f = tt
follows_after b c (i ∷ is) h f = (
  f.0 ∙ ap (λ (gs : List ℕ). raised_all gs (raised i.plan.user (latest_vector is))) (sym (raised_stay b c i (h i (inl refl)))),
  follows_after b c is (λ j k. h j (inr k)) f.1,
)

-- the table version of an operation is user 0's number before it
pub table_version_is : (v : List Component) (x : PendingItem) → Next v x → table_version x.plan ≡ version_of 0 v
table_version_is v x n =
    let e = next_version v x n 0 (omega arith) in
    elim (cases_eq x.plan.user 0) [
      | inl k ↦ rw (eq-eqb x.plan.user 0 k) (let o = one-same 0 x.plan.user (sym k) in omega arith)
      | inr k ↦ rw (ne_eqb x.plan.user 0 k) (let o = one-other 0 x.plan.user (λ m. k (sym m)) in omega arith)
    ]

-- an operation of user 0 has its next number
pub super_number : (v : List Component) (x : PendingItem) → Next v x → x.cert.user ≡ 0 → x.cert.number ≡ version_of 0 v + 1
super_number v x n zero =
    let u : user x ≡ 0 = n.planned_user ∙ zero in
    let k = n.number in
    let m = n.planned_number in
    let w = ap (λ u. version_of u v) u in
    omega arith

-- earlier operations know it by that
pub are_before : (is : List PendingItem) (v : List Component) (x : PendingItem) → Latest is v → Next v x → (i : PendingItem) → In i is → IsBefore x.cert i
are_before is v x latest n i h zero = let g = latest.grown i h 0 in let k = super_number v x n zero in omega arith

module _ (b : Table) (is : List PendingItem) (v : List Component) (x : PendingItem) (latest : Latest is v) (n : Next v x) (tabled : Tabled b is v) where
  below : x.cert.user ≡ 0 → version_of 0 v < x.cert.number
  below zero = let k = super_number v x n zero in omega arith

  listed_next : lists_user b (user x) ≡ true → (i : PendingItem) → In i (x ∷ is) → is_listed (after_operation x.cert b) (user i) (version 0 i) ≡ true
  listed_next known i (inl a) =
      let e = next_version v x n 0 (omega arith) in
      let now = listed_stays x.cert b (user x) (version_of 0 v) (listed_since (version_of 0 v) (user x) b tabled.since known) in
      subst (λ i. is_listed (after_operation x.cert b) (user i) (version 0 i) ≡ true) (sym a)
      (listed_later (version_of 0 v) (version 0 x) (user x) (after_operation x.cert b) (omega arith) now)
  listed_next known i (inr k) = listed_stays x.cert b (user i) (version 0 i) (tabled.listed i k)

  since_next : Since (version 0 x) (after_operation x.cert b)
  since_next =
      let e = next_version v x n 0 (omega arith) in
      since_after x.cert b (version_of 0 v) (version 0 x) (omega arith) (λ zero.
      let k = super_number v x n zero in
      let o = one-same 0 (user x) (sym (n.planned_user ∙ zero)) in
      omega arith) tabled.since

  -- it follows, whether the groups are judged by the table before or after it
  follows_next : latest_vector is ≡ v → n.groups ≡ groups_at b (version_of 0 v) x.cert → Follows (after_operation x.cert b) (x ∷ is)
  follows_next same groups =
      let after : n.groups ≡ raised_groups (after_operation x.cert b) x
      = groups ∙ sym (groups_stay x.cert b (version_of 0 v) x.cert below) ∙ ap (λ k. groups_at (after_operation x.cert b) k x.cert) (sym (table_version_is v x n)) in (
        n.vector ∙ ap (λ (gs : List ℕ). raised_all gs (raised (user x) v)) after
            ∙ ap (λ (w : List Component). next_vector (after_operation x.cert b) x w) (sym same),
        follows_after b x.cert is (are_before is v x latest n) tabled.follows,
      )

  signed_next : (key : List ℕ) → key_for b x.cert.user (version_of 0 v) ≡ Some key → valid key (cert.spell x.cert) x.signature ≡ true → (i : PendingItem) → In i (x ∷ is) → IsCertSigned (after_operation x.cert b) i
  signed_next key has sign i (inl a) =
      let now = key_stays x.cert b x.cert.user (version_of 0 v) key below has in
      subst (IsCertSigned (after_operation x.cert b)) (sym a)
      (key, ap (key_for (after_operation x.cert b) x.cert.user) (table_version_is v x n) ∙ now, sign)
  signed_next key has sign i (inr k) = cert_stays b x.cert i (are_before is v x latest n i k) (tabled.signed i k)

  pub tabled_next : latest_vector is ≡ v → n.groups ≡ groups_at b (version_of 0 v) x.cert → (key : List ℕ) → key_for b x.cert.user (version_of 0 v) ≡ Some key → valid key (cert.spell x.cert) x.signature ≡ true
      → Tabled (after_operation x.cert b) (x ∷ is) (vector_in x)
  tabled_next same groups key has sign =
      record {
        listed = listed_next (ap (lists_user b) n.planned_user ∙ key_listed b x.cert.user (version_of 0 v) key has);
        since = since_next;
        follows = follows_next same groups;
        signed = signed_next key has sign;
      }

-- ---- records of groups

-- The structure of an operation has a record of each group that its user raised up to there, of that version or a later
-- one, and each record was made so.
pub record RecordsOf (b : Table) (is : List PendingItem) (k : PendingItem) (z : Structure) : Type 0 where
  pub from : (r : GroupRecord) → In r z.groups
      → (i : PendingItem) × In i is × (user i ≡ user k) × (place i ≤ place k) × (raises b r.group i ≡ true) × (r.version ≡ version r.group i) × (r.table ≡ table_version i.plan)
  pub all : (i : PendingItem) (g : ℕ) → In i is → user i ≡ user k → place i ≤ place k → raises b g i ≡ true
      → (r : GroupRecord) × In r z.groups × (r.group ≡ g) × (version g i ≤ r.version)
