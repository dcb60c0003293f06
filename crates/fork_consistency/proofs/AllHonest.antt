-- The accepted views of a run are honest, and so the worlds of their lines.
use Rattle.std.proofs.Common.{◌≡◌, ◌≢◌, ℕ, ◌<◌, Bool, true, false, ◌==◌, ◌||◌, List, [], ◌∷◌, map, Option, Some, None, refl, sym, ap, ◌∙◌, subst, inl, inr, if◌then◌else◌, option_map, arith}
use Rattle.std.specs.Prelude.{◌⊎◌}
use Rattle.std.specs.List.{list_any}
use Rattle.std.specs.Option.{option_and_then}
use Rattle.std.specs.Ordering.{is_eq, nat_cmp}
use Rattle.std.proofs.lemmas.Bool.{eq-eqb, eqb-true, true≢false}
use Rattle.std.proofs.lemmas.Bool.Decides.{nat_tests}
use Rattle.std.proofs.lemmas.Cmp.{nat_cmp_total}
use Rattle.layout.specs.Ascending.{row_at, with_row}
use Rattle.layout.specs.AscendingLaws.{row_at-with_row}
use Rattle.layout.specs.Types.{Bytes, Group, Handle, Key, Principal}
use Rattle.itable.specs.File.{NoneCollide}
use Rattle.itable.specs.ITable.{digest_at}
use Rattle.principals.specs.Table.{Table, genesis as first_users}
use Rattle.principals.specs.TableText.{key as key_form, table}
use Rattle.principals.proofs.Users.{first_fits}
use Rattle.version_order.specs.declared.structure.GroupRecord.{GroupRecord}
use Rattle.version_order.specs.Structure.{Structure, group_of}
use Rattle.version_order.specs.Vector.{version_of}
use Rattle.update_cert.specs.World.{genesis}
use Rattle.update_cert.specs.Reading.{Reading}
use Rattle.tree_parts.specs.Blocks.{Agrees, Blocks}
use Rattle.pending_list.specs.declared.signed.Signed.{Signed}
use Rattle.pending_list.specs.Groups.{raised_groups, raises}
use Rattle.reply_rules.specs.Lists.{structure_of}
use Rattle.reply_check.specs.Good.{record_over}
use Rattle.client_tree.specs.Genesis.{first_blocks, first_handle, first_table, first_texts}
use Rattle.client_tree.specs.Held.{held}
use Rattle.checked_blocks.specs.CheckedBlocks.{at_first, known_blocks}
use Rattle.checked_blocks.proofs.BlockLaws.{known-at_first}
use Rattle.client_tree.specs.Tree.{IsStored, IsUntouched, Stored}
use Rattle.client_tree.specs.View.{handle_in, record_of, tree}
use Rattle.client_tree.specs.View as tree_spec
use Rattle.client_verify.specs.State.{groups as groups_of, with_records}
use Rattle.client_verify.proofs.GenesisLaws.{has_genesis}
use Rattle.agreement.specs.Runs.{View, user_of}
use Rattle.agreement.specs.Worlds.{IsHonest, NameFirst, Names, view_in}
use Rattle.agreement.proofs.Members.{In, contains_in, in-map, in_contains, map-in, of_all}
use Rattle.agreement.proofs.Tests.{any_in}
use Rattle.fork_consistency.proofs.Among.{agrees_within, among_all_kept, among_none, are_within}
use Rattle.fork_consistency.proofs.Judging.{value_of}
use Rattle.fork_consistency.specs.Handles.{NamesTableAmong, NamesWhole, told_by_texts}
use Rattle.fork_consistency.proofs.AllWhole.{part_before}
use Rattle.fork_consistency.proofs.Firsts.{first_told}
use Rattle.fork_consistency.proofs.HonestViews.{part_names}
use Rattle.fork_consistency.proofs.Origins.{IsKnown, IsMade}

-- ---- records

same_test : (a b : ℕ) → (a == b) ≡ is_eq (nat_cmp a b)
same_test a b = grind (arith, nat_tests)

record_is : (g : ℕ) (rs : List GroupRecord) → record_of g rs ≡ row_at nat_cmp group_of rs g
record_is g [] = refl
record_is g (r ∷ rs) =
    ap (λ (t : Bool). if t then Some r else record_of g rs) (same_test r.group g) ∙ ap (λ (o : Option GroupRecord). if is_eq (nat_cmp r.group g) then Some r else o) (record_is g rs)

record_with : (g : ℕ) (old : List GroupRecord) (r : GroupRecord) → record_of g (with_row nat_cmp group_of old r) ≡ (if r.group == g then Some r else record_of g old)
record_with g old r =
    record_is g (with_row nat_cmp group_of old r) ∙ row_at-with_row nat_cmp group_of nat_cmp_total old r g
    ∙ ap (λ (t : Bool). if t then Some r else row_at nat_cmp group_of old g) (sym (same_test r.group g)) ∙ ap (λ (o : Option GroupRecord). if r.group == g then Some r else o) (sym (record_is g old))

-- the record of a group is a new one of it, or, where there is none, the old one
pub records_then : (g : ℕ) (old new : List GroupRecord)
    → ((r : GroupRecord) × In r new × (r.group ≡ g) × (record_of g (with_records old new) ≡ Some r)) ⊎ (((r : GroupRecord) → In r new → r.group ≢ g) × (record_of g (with_records old new) ≡ record_of g old))
records_then g old [] = inr (λ r i. absurd i, refl)
records_then g old (r ∷ rs) =
    elim (records_then g (with_row nat_cmp group_of old r) rs) [
      | inl (q, i, same, at) ↦ inl (q, inr i, same, at)
      | inr (none, at) ↦ step (r.group == g) refl none (at ∙ record_with g old r)
    ]
  where
    step : (b : Bool) → (r.group == g) ≡ b → ((q : GroupRecord) → In q rs → q.group ≢ g) → record_of g (with_records old (r ∷ rs)) ≡ (if b then Some r else record_of g old)
        → ((q : GroupRecord) × In q (r ∷ rs) × (q.group ≡ g) × (record_of g (with_records old (r ∷ rs)) ≡ Some q)) ⊎ (((q : GroupRecord) → In q (r ∷ rs) → q.group ≢ g) × (record_of g (with_records old (r ∷ rs)) ≡ record_of g old))
    step true is none at = inl (r, inl refl, eqb-true r.group g is, at)
    step false other none at = inr (
      λ q i. elim i [
        | inl e ↦ λ same. absurd (cc (sym other ∙ eq-eqb r.group g (ap (λ (x : GroupRecord). x.group) (sym e) ∙ same)))
        | inr j ↦ none q j
      ],
      at,
    )

module _ (texts : List Bytes) (apart : NoneCollide texts texts) (key : Key) (pinned : key_form.Fits key) (inside : (t : Bytes) → In t (first_texts key) → In t texts) (reads : Reading) (agrees : Agrees (told_by_texts texts) reads) where
  -- ---- a view

  module _ (x : View) (known : IsKnown texts apart key x) (plan : x.lists.own.plan.user ≡ x.lists.own.cert.user) (low : (s : Stored) → In s (known.made.own ∷ known.made.raised) → s.principal < 96)
      (each : (z : Signed Structure) → In z x.lists.structures → NamesWhole texts z.value) (own_table : user_of x ≡ 0 → NamesTableAmong texts x.signed.handle x.table × table.Fits x.table) where
    abbrev v : tree_spec.View
    v = view_in key x

    abbrev m : IsMade texts apart key x.lists x.table x.signed.handle known.records known.lost
    m = known.made

    abbrev users : Table
    users = m.told.users

    abbrev principal_of : Stored → Principal
    principal_of s = s.principal

    names : (s : Stored) → In s (m.own ∷ m.raised) → ((t : Bytes) → In t s.texts → In t texts) → Names reads s.principal s.handle (tree reads users v)
    names s i into =
        part_names texts apart reads agrees users v m.blocks s m.among (of_all (λ (q : Stored). IsStored m.blocks v q ⊎ IsUntouched v q) (m.own ∷ m.raised) m.outcome.stored s i) into
        (part_before texts apart key inside x.lists.structures each s.principal (low s i))

    own_is : m.own.principal ≡ user_of x
    own_is = let e : m.own.principal ∷ map principal_of m.raised ≡ x.lists.own.cert.user ∷ raised_groups x.table x.lists.own = m.outcome.principals in let same : m.own.principal ≡ x.lists.own.cert.user = cc in same ∙ sym plan

    raised_are : map principal_of m.raised ≡ raised_groups x.table x.lists.own
    raised_are = let e : m.own.principal ∷ map principal_of m.raised ≡ x.lists.own.cert.user ∷ raised_groups x.table x.lists.own = m.outcome.principals in cc

    own_part : Names reads (user_of x) x.signed.handle (tree reads users v)
    own_part =
        subst (λ (h : Handle). Names reads (user_of x) h (tree reads users v)) (sym m.handle_is)
        (subst (λ (p : Principal). Names reads p m.own.handle (tree reads users v)) own_is (names m.own (inl refl) m.own_in))

    abbrev Record : Group → Type 0
    Record g = (r : GroupRecord) × (record_of g x.signed.groups ≡ Some r) × (r.version ≡ version_of g x.lists.own.plan.vector) × Names reads g r.handle (tree reads users v)

    raised_record : (g : Group) (r : GroupRecord) → In r known.records → r.group ≡ g → record_of g (with_records (groups_of known.last) known.records) ≡ Some r → Record g
    raised_record g r i same at =
        let (s, j, is) = in-map (record_over x.lists.own.plan) m.raised r (subst (λ (rs : List GroupRecord). In r rs) m.records_are i) in
        let of : s.principal ≡ g = ap (λ (q : GroupRecord). q.group) (sym is) ∙ same in
        let named : Names reads s.principal s.handle (tree reads users v) = names s (inr j) (m.raised_in s j) in
        let handle : s.handle ≡ r.handle = ap (λ (q : GroupRecord). q.handle) (sym is) in (
          r,
          ap (record_of g) known.groups_are ∙ at,
          ap (λ (q : GroupRecord). q.version) is ∙ ap (λ (p : Principal). version_of p x.lists.own.plan.vector) of,
          subst (λ (h : Handle). Names reads g h (tree reads users v)) handle (subst (λ (p : Principal). Names reads p s.handle (tree reads users v)) of named),
        )

    -- a group that is raised has a new record
    new_record : (g : Group) → raises x.table g x.lists.own ≡ true → (r : GroupRecord) × In r known.records × (r.group ≡ g)
    new_record g is =
        let (h, i, same) = any_in (λ (h : ℕ). h == g) (raised_groups x.table x.lists.own) is in
        let (s, j, of) = in-map principal_of m.raised h (subst (λ (ps : List ℕ). In h ps) (sym raised_are) i) in (
          record_over x.lists.own.plan s,
          subst (λ (rs : List GroupRecord). In (record_over x.lists.own.plan s) rs) (sym m.records_are) (map-in (record_over x.lists.own.plan) m.raised s j),
          sym of ∙ eqb-true h g same,
        )

    raised : (g : Group) → raises x.table g x.lists.own ≡ true → Record g
    raised g is =
        let (r, i, same) = new_record g is in
        elim (records_then g (groups_of known.last) known.records) [
          | inl (q, j, of, at) ↦ raised_record g q j of at
          | inr (none, at) ↦ absurd (none r i same)
        ]

    -- a new record is of a group that is raised
    not_raised : (g : Group) → raises x.table g x.lists.own ≡ false → (r : GroupRecord) → In r known.records → r.group ≡ g → ⊥
    not_raised g is r i same =
        let (s, j, of) = in-map (record_over x.lists.own.plan) m.raised r (subst (λ (rs : List GroupRecord). In r rs) m.records_are i) in
        let there = subst (λ (ps : List ℕ). In s.principal ps) raised_are (map-in principal_of m.raised s j) in
        let here : s.principal ≡ g = ap (λ (q : GroupRecord). q.group) (sym of) ∙ same in
        true≢false (sym (any_of (raised_groups x.table x.lists.own) s.principal there here) ∙ is)
      where
        any_of : (ps : List ℕ) (p : ℕ) → In p ps → p ≡ g → list_any (λ (h : ℕ). h == g) ps ≡ true
        any_of [] p k e = absurd k
        any_of (q ∷ qs) p (inl k) e = rw (eq-eqb q g (sym k ∙ e)) refl
        any_of (q ∷ qs) p (inr k) e = or_true (q == g) (any_of qs p k e)
          where
            or_true : (b : Bool) → list_any (λ (h : ℕ). h == g) qs ≡ true → (b || list_any (λ (h : ℕ). h == g) qs) ≡ true
            or_true true more = refl
            or_true false more = more

    kept : (g : Group) → raises x.table g x.lists.own ≡ false → record_of g x.signed.groups ≡ option_and_then (λ z. record_of g z.value.groups) (structure_of (user_of x) x.lists)
    kept g is =
        elim (records_then g (groups_of known.last) known.records) [
          | inl (q, j, of, at) ↦ absurd (not_raised g is q j of)
          | inr (none, at) ↦ ap (record_of g) known.groups_are ∙ at ∙ old known.last (structure_of (user_of x) x.lists) known.last_is
        ]
      where
        old : (last o : Option (Signed Structure)) → option_map value_of o ≡ option_map value_of last → record_of g (groups_of last) ≡ option_and_then (λ z. record_of g z.value.groups) o
        old None None same = refl
        old None (Some z) same = absurd (cc same)
        old (Some l) None same = absurd (cc same)
        old (Some l) (Some z) same = let value : l.value ≡ z.value = cc same in ap (λ (s : Structure). record_of g s.groups) value

    pub is_honest : IsHonest reads key x
    is_honest = record {
      users = users;
      users_fit = m.told.fits;
      named = m.told.named reads agrees;
      pending = m.told.pending.after reads;
      own_part = own_part;
      own_table = λ zero. ((own_table zero).0 reads agrees, (own_table zero).1);
      raised = raised;
      kept = kept;
    }

  -- ---- the beginning

  first_held : Agrees (held (first_blocks key)) reads
  unfolding first_blocks
  first_held = agrees_within (held (first_blocks key)) (told_by_texts texts) (are_within texts apart (held (first_blocks key)) (among_all_kept texts [] (first_texts key) inside (among_none texts))) reads agrees

  pub first_agrees : Agrees (known_blocks (at_first (first_blocks key))) reads
  first_agrees = subst (λ (f : Blocks). Agrees f reads) (sym (known-at_first (first_blocks key))) first_held

  pub apart_first : NoneCollide (first_texts key) (first_texts key)
  apart_first a b has_a has_b same =
      apart a b (in_contains a texts (inside a (contains_in a (first_texts key) has_a))) (in_contains b texts (inside b (contains_in b (first_texts key) has_b))) same

  pub first_names : (p : Principal) → p < 96 → Names reads p (first_handle p key) (genesis key)
  first_names p low = λ i other.
      ap (option_map reads.content) (agrees.inodes p (first_handle p key) i (digest_at (first_table p key) i) (first_told key texts apart inside p low i))
      ∙ has_genesis key (at_first (first_blocks key)) refl apart_first reads first_agrees p i other

  pub name_first : NamesTableAmong texts (first_handle 0 key) (first_users key) → NameFirst reads key
  name_first named = record { fits = first_fits key pinned; named = first_names; users = named reads agrees }
