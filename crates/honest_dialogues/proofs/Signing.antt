-- The records of the structure that a client signs over an accepted reply.
use Rattle.std.proofs.Common.{◌≡◌, ◌≢◌, ℕ, zero, suc, ◌+◌, List, [], ◌∷◌, map, refl, sym, ap, ◌∙◌, subst, inl, inr, arith}
use Rattle.std.specs.Prelude.{◌⊎◌, ◌==◌}
use Rattle.std.specs.List.{Contains}
use Rattle.std.specs.Ordering.{is_eq, is_lt, nat_cmp}
use Rattle.std.proofs.lemmas.Bool.{eq-eqb, cases_Bool, eqb-true, true≢false}
use Rattle.layout.specs.Ascending.{with_row}
use Rattle.layout.specs.AscendingKeys.{key_test}
use Rattle.principals.specs.Table.{Table}
use Rattle.version_order.specs.declared.structure.GroupRecord.{GroupRecord}
use Rattle.version_order.specs.Plan.{Plan}
use Rattle.version_order.specs.Structure.{Structure, group_of}
use Rattle.pending_list.specs.Groups.{groups, groups_below, raised_groups, raises, raises_at, table_version}
use Rattle.pending_list.specs.Reply.{PendingItem}
use Rattle.client_tree.specs.Tree.{Stored}
use Rattle.reply_check.specs.Good.{record_over}
use Rattle.client_verify.specs.State.{Ready, State, next_structure, with_records}
use Rattle.agreement.proofs.Members.{In, contains_in, in-map, in_contains, map-in}
use Rattle.honest_history.specs.Honest.{IsNew, Names, Naming, SignsOver, records_in}
use Rattle.honest_history.proofs.Groups.{groups_from, raises_in}
use Rattle.honest_history.proofs.Members.{any_from}
use Rattle.honest_history.proofs.Pairs.{Pairwise, pairwise_append, pairwise_filter}
use Rattle.honest_dialogues.specs.Signing.{HasRecords}

-- ---- one record among others

abbrev put : List GroupRecord → GroupRecord → List GroupRecord
put rs x = with_row nat_cmp group_of rs x

put_from : (rs : List GroupRecord) (x q : GroupRecord) → In q (put rs x) → (q ≡ x) ⊎ In q rs
put_from [] x q (inl e) = inl e
put_from [] x q (inr none) = absurd none
put_from (r ∷ rs) x q i =
    elim (cases_Bool (is_lt (nat_cmp r.group x.group))) [
      | inl l ↦ (
          let there : In q (r ∷ put rs x) = rw l at i in
          elim there [
            | inl e ↦ inr (inl e)
            | inr k ↦ elim (put_from rs x q k) [ inl e ↦ inl e | inr m ↦ inr (inr m) ]
          ])
      | inr l ↦ elim (cases_Bool (is_eq (nat_cmp r.group x.group))) [
        | inl e ↦ (let there : In q (x ∷ rs) = rw (l, e) at i in elim there [ inl k ↦ inl k | inr k ↦ inr (inr k) ])
        | inr e ↦ (let there : In q (x ∷ r ∷ rs) = rw (l, e) at i in elim there [ inl k ↦ inl k | inr k ↦ inr k ])
      ]
    ]

put_there : (rs : List GroupRecord) (x : GroupRecord) → In x (put rs x)
put_there [] x = inl refl
put_there (r ∷ rs) x =
    elim (cases_Bool (is_lt (nat_cmp r.group x.group))) [
      | inl l ↦ rw l (inr (put_there rs x))
      | inr l ↦ elim (cases_Bool (is_eq (nat_cmp r.group x.group))) [ inl e ↦ rw (l, e) (inl refl) | inr e ↦ rw (l, e) (inl refl) ]
    ]

put_keeps : (rs : List GroupRecord) (x q : GroupRecord) → q.group ≢ x.group → In q rs → In q (put rs x)
put_keeps [] x q n i = absurd i
put_keeps (r ∷ rs) x q n i =
    elim (cases_Bool (is_lt (nat_cmp r.group x.group))) [
      | inl l ↦ rw l (elim i [ inl e ↦ inl e | inr k ↦ inr (put_keeps rs x q n k) ])
      | inr l ↦ elim (cases_Bool (is_eq (nat_cmp r.group x.group))) [
        | inl e ↦ rw (l, e) (elim i [
          | inl k ↦ absurd (n (ap (λ (r : GroupRecord). r.group) k ∙ eqb-true r.group x.group (sym (key_test r.group x.group) ∙ e)))
          | inr k ↦ inr k
        ])
        | inr e ↦ rw (l, e) (inr i)
      ]
    ]

-- ---- all new ones

with_from : (old new : List GroupRecord) (q : GroupRecord) → In q (with_records old new) → In q new ⊎ In q old
with_from old [] q i = inr i
with_from old (r ∷ rs) q i =
    elim (with_from (put old r) rs q i) [
      | inl k ↦ inl (inr k)
      | inr k ↦ elim (put_from old r q k) [ inl e ↦ inl (inl e) | inr m ↦ inr m ]
    ]

with_old : (old new : List GroupRecord) (q : GroupRecord) → ((r : GroupRecord) → In r new → q.group ≢ r.group) → In q old → In q (with_records old new)
with_old old [] q other i = i
with_old old (r ∷ rs) q other i = with_old (put old r) rs q (λ s k. other s (inr k)) (put_keeps old r q (other r (inl refl)) i)

with_new : (old new : List GroupRecord) (q : GroupRecord) → Pairwise (λ r s. r.group ≢ s.group) new → In q new → In q (with_records old new)
with_new old [] q apart i = absurd i
with_new old (r ∷ rs) q apart (inl e) =
    with_old (put old r) rs q (λ s k m. apart.0 s k (ap (λ (r : GroupRecord). r.group) (sym e) ∙ m)) (subst (λ q. In q (put old r)) (sym e) (put_there old r))
with_new old (r ∷ rs) q apart (inr i) = with_new (put old r) rs q apart.1 i

-- ---- groups

groups_apart : (n : ℕ) → Pairwise (λ g h. g ≢ h) (groups_below n)
unfolding groups_below
groups_apart zero = tt
groups_apart (suc n) =
    pairwise_append _ (groups_below n) ((n + 64) ∷ []) (groups_apart n) (λ y i. absurd i, tt)
    (λ a b i j. let r = groups_from n a i in elim j [ inl e ↦ (λ k. omega arith) | inr none ↦ absurd none ])

raised_apart : (t : Table) (own : PendingItem) → Pairwise (λ g h. g ≢ h) (raised_groups t own)
raised_apart t own = pairwise_filter _ (raises_at t (table_version own.plan) own.cert) groups (groups_apart 32)

records_apart : (p : Plan) (parts : List Stored) → Pairwise (λ (g h : ℕ). g ≢ h) (map (λ s. s.principal) parts) → Pairwise (λ (r s : GroupRecord). r.group ≢ s.group) (map (record_over p) parts)
records_apart p [] apart = tt
records_apart p (s ∷ parts) apart = (
  λ r i e. let (q, there, same) = in-map (record_over p) parts r i in
      apart.0 q.principal (map-in (λ (s : Stored). s.principal) parts q there) (e ∙ ap (λ (r : GroupRecord). r.group) same),
  records_apart p parts apart.1,
)

-- ---- the structure

module _ (naming : Naming) (s : State) (r : Ready) (h : HasRecords r) (names : r.lists.own.plan.user ≡ 0 → Names naming r.handle r.table) where
  abbrev own : PendingItem
  own = r.lists.own

  abbrev new : List GroupRecord
  new = map (record_over own.plan) h.parts

  abbrev old : List GroupRecord
  old = records_in s.last

  abbrev z : Structure
  z = next_structure s r

  groups_are : z.groups ≡ with_records old new
  groups_are = ap (with_records old) h.records

  -- a new record is of a part that the operation raises
  of_part : (q : GroupRecord) → In q new → IsNew r.table own q
  of_part q i =
      let (part, there, same) = in-map (record_over own.plan) h.parts q i in
      let raised : In part.principal (raised_groups r.table own) = subst (In part.principal) h.principals (map-in (λ (s : Stored). s.principal) h.parts part there) in
      subst (IsNew r.table own) (sym same) (record {
        raised = any_from (λ g. g == part.principal) (raised_groups r.table own) part.principal raised (eq-eqb part.principal part.principal refl);
        version = refl;
        table = refl;
      })

  apart : Pairwise (λ (q p : GroupRecord). q.group ≢ p.group) new
  apart = records_apart own.plan h.parts (subst (Pairwise (λ (g h : ℕ). g ≢ h)) (sym h.principals) (raised_apart r.table own))

  new_there : (q : GroupRecord) → In q new → Contains z.groups q
  new_there q i = in_contains q z.groups (subst (In q) (sym groups_are) (with_new old new q apart i))

  pub signs_over : SignsOver naming r.table s.last r.lists z
  signs_over =
      record {
        plan = refl;
        handle = names;
        records = λ q there. (elim (with_from old new q (subst (In q) groups_are (contains_in q z.groups there))) [
          | inl k ↦ inl (of_part q k)
          | inr k ↦ inr (in_contains q old k)
        ]);
        raised = λ g raised.
            (let i : In g (map (λ (s : Stored). s.principal) h.parts) = subst (In g) (sym h.principals) (raises_in r.table g own raised) in
            let (part, there, same) = in-map (λ (s : Stored). s.principal) h.parts g i in
            let q = record_over own.plan part in
            let here = map-in (record_over own.plan) h.parts part there in
            (q, new_there q here, sym same, of_part q here));
        carried = λ q there no.
            (let i = contains_in q old there in
            in_contains q z.groups (subst (In q) (sym groups_are) (with_old old new q (λ p k e.
            true≢false (sym (of_part p k).raised ∙ ap (λ g. raises r.table g own) (sym e) ∙ no)) i)));
      }

pub each_signs_over : (naming : Naming) (s : State) (r : Ready) → HasRecords r → (r.lists.own.plan.user ≡ 0 → Names naming r.handle r.table) → SignsOver naming r.table s.last r.lists (next_structure s r)
each_signs_over = signs_over
