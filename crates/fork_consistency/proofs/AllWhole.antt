-- Each handle that a structure of an accepted view names is whole among the texts of the run.
use Rattle.std.proofs.Common.{◌≡◌, ℕ, zero, suc, ◌+◌, ◌<◌, Bool, true, false, ◌==◌, List, [], ◌∷◌, map, Option, Some, None, refl, sym, ap, ◌∙◌, subst, inl, inr, if◌then◌else◌, option_map, arith}
use Rattle.std.specs.Prelude.{◌⊎◌, nat_lt}
use Rattle.std.specs.List.{All, Contains}
use Rattle.std.specs.Option.{option_map_or}
use Rattle.std.specs.Ordering.{nat_cmp}
use Rattle.std.proofs.lemmas.Bool.{eqb-true}
use Rattle.std.proofs.lemmas.Cmp.{nat_cmp_total}
use Rattle.std.proofs.lemmas.List.Elements.{All-head, All-nil, All-tail}
use Rattle.layout.specs.Ascending.{with_row}
use Rattle.layout.specs.AscendingLaws.{all_with_row}
use Rattle.layout.specs.Types.{Bytes, Handle, Key, Principal}
use Rattle.itable.specs.File.{NoneCollide}
use Rattle.version_order.specs.declared.structure.GroupRecord.{GroupRecord}
use Rattle.version_order.specs.Structure.{Structure, group_of}
use Rattle.update_cert.specs.Cert.{cert}
use Rattle.pending_list.specs.declared.signed.Signed.{Signed}
use Rattle.pending_list.specs.Groups.{groups, groups_below, raised_groups, raises_at, table_version}
use Rattle.pending_list.specs.Reply.{PendingItem}
use Rattle.reply_rules.specs.Lists.{items, structure_of}
use Rattle.reply_check.specs.FirstBroken.{view_over}
use Rattle.reply_check.specs.Good.{record_over}
use Rattle.client_tree.specs.Genesis.{first_handle, first_texts}
use Rattle.client_tree.specs.Tree.{IsStored, IsUntouched, Stored}
use Rattle.client_tree.specs.View.{handle_in, newer, newest, record_of, structure_of as shown_structure}
use Rattle.client_tree.specs.View as tree_spec
use Rattle.client_verify.specs.State.{groups as groups_of, with_records}
use Rattle.agreement.specs.Runs.{Accepted, View, reply_of, structures, user_of, AreAccepted}
use Rattle.agreement.proofs.Formed.{cert_fits, cert_user}
use Rattle.agreement.proofs.Members.{In, contains_in, in-append, in-filter, in-map, in-right, map-in, of_all, to_all}
use Rattle.fork_consistency.proofs.Judging.{value_of}
use Rattle.fork_consistency.proofs.Lists.{found_in}
use Rattle.fork_consistency.specs.Handles.{IsWhole, NamesWhole}
use Rattle.fork_consistency.proofs.Acting.{ordered}
use Rattle.fork_consistency.proofs.Firsts.{first_whole}
use Rattle.fork_consistency.proofs.Origins.{IsKnown, IsMade}
use Rattle.fork_consistency.proofs.Whole.{part_whole}

-- ---- records and structures that are found

-- the newest record of a group is one of a structure
pub newest_in : (g : ℕ) (zs : List (Signed Structure)) (r : GroupRecord) → newest g zs ≡ Some r → (z : Signed Structure) × In z zs × In r z.value.groups × (r.group ≡ g)
unfolding newest
newest_in g [] r e = absurd (cc e)
newest_in g (z ∷ zs) r e = go (newest_in g zs r) (record_of g z.value.groups) refl (newest g zs) refl e
  where
    here : record_of g z.value.groups ≡ Some r → (y : Signed Structure) × In y (z ∷ zs) × In r y.value.groups × (r.group ≡ g)
    here is = let f = found_in (λ (q : GroupRecord). q.group == g) z.value.groups r is in (z, inl refl, f.0, eqb-true r.group g f.1)

    go : (newest g zs ≡ Some r → (y : Signed Structure) × In y zs × In r y.value.groups × (r.group ≡ g)) → (a : Option GroupRecord) → record_of g z.value.groups ≡ a → (b : Option GroupRecord) → newest g zs ≡ b → newer a b ≡ Some r → (y : Signed Structure) × In y (z ∷ zs) × In r y.value.groups × (r.group ≡ g)
    go more None first b second is = let (y, i, j, k) = more (second ∙ is) in (y, inr i, j, k)
    go more (Some a) first b second is = either (option_map_or (λ s. nat_lt a.version s.version) b false) is
      where
        either : (t : Bool) → (if t then b else Some a) ≡ Some r → (y : Signed Structure) × In y (z ∷ zs) × In r y.value.groups × (r.group ≡ g)
        either true is = let (y, i, j, k) = more (second ∙ is) in (y, inr i, j, k)
        either false is = here (first ∙ is)

-- groups are below 96
pub group_low : (n g : ℕ) → In g (groups_below n) → g < 64 + n
unfolding groups_below
group_low zero g i = absurd i
group_low (suc n) g i =
    elim (in-append g (groups_below n) ((n + 64) ∷ []) i) [
      | inl j ↦ (let low = group_low n g j in omega arith)
      | inr j ↦ elim j [ inl e ↦ omega arith | inr none ↦ absurd none ]
    ]

-- what holds of all old records and of all new ones holds of each after the new ones took their places
pub with_all : (P : GroupRecord → Type 0) (old new : List GroupRecord) → All P old → All P new → All P (with_records old new)
with_all P old [] a b = a
with_all P old (r ∷ rs) a b = with_all P (with_row nat_cmp group_of old r) rs (all_with_row nat_cmp group_of nat_cmp_total P old r (All-head P r rs b) a) (All-tail P r rs b)

-- ---- what holds of handles

-- this holds of each handle that a structure names
pub record EachHandle (P : Principal → Handle → Type 0) (z : Structure) : Type 0 where
  pub own : P z.plan.user z.handle
  pub groups : All (λ r. P r.group r.handle) z.groups

-- Where it does so of those of the beginning, and of each of these structures, it holds of the handle on which a part stands.
pub part_by : (P : Principal → Handle → Type 0) (key : Key) → ((p : ℕ) → p < 96 → P p (first_handle p key)) → (zs : List (Signed Structure)) → ((z : Signed Structure) → In z zs → EachHandle P z.value) → (p : ℕ) → p < 96 → P p (handle_in key zs p)
part_by P key first zs each p low = go (nat_lt p 64)
  where
    of_user : (o : Option (Signed Structure)) → shown_structure p zs ≡ o → P p (option_map_or (λ z. z.value.handle) o (first_handle p key))
    of_user None none = first p low
    of_user (Some z) is =
        let f = found_in (λ (y : Signed Structure). y.value.plan.user == p) zs z is in
        subst (λ (q : Principal). P q z.value.handle) (eqb-true z.value.plan.user p f.1) (each z f.0).own

    of_group : (o : Option GroupRecord) → newest p zs ≡ o → P p (option_map_or (λ r. r.handle) o (first_handle p key))
    of_group None none = first p low
    of_group (Some r) is =
        let (z, i, j, same) = newest_in p zs r is in
        subst (λ (q : Principal). P q r.handle) same (of_all (λ (q : GroupRecord). P q.group q.handle) z.value.groups (each z i).groups r j)

    go : (b : Bool) → P p (if b then option_map_or (λ z. z.value.handle) (shown_structure p zs) (first_handle p key) else option_map_or (λ r. r.handle) (newest p zs) (first_handle p key))
    go true = of_user (shown_structure p zs) refl
    go false = of_group (newest p zs) refl

module _ (texts : List Bytes) (apart : NoneCollide texts texts) (key : Key) (inside : (t : Bytes) → In t (first_texts key) → In t texts) where
  first : (p : ℕ) → p < 96 → IsWhole texts p (first_handle p key)
  first = first_whole key texts inside

  each_handle : (z : Structure) → NamesWhole texts z → EachHandle (IsWhole texts) z
  each_handle z whole = record { own = whole.own; groups = whole.groups }

  -- each part stands on a handle that is whole
  pub part_before : (zs : List (Signed Structure)) → ((z : Signed Structure) → In z zs → NamesWhole texts z.value) → (p : ℕ) → p < 96 → IsWhole texts p (handle_in key zs p)
  part_before zs each p low = part_by (IsWhole texts) key first zs (λ z i. each_handle z.value (each z i)) p low

  -- the handles that are made of them are whole
  module _ (x : View) (known : IsKnown texts apart key x) (read : (i : PendingItem) → In i (items x.lists) → cert.Fits i.cert) (user : x.lists.own.plan.user ≡ x.lists.own.cert.user) (plan : x.signed.plan ≡ x.lists.own.plan)
      (each : (z : Signed Structure) → In z x.lists.structures → NamesWhole texts z.value) where
    abbrev v : tree_spec.View
    v = view_over key x.table x.lists

    abbrev m : IsMade texts apart key x.lists x.table x.signed.handle known.records known.lost
    m = known.made

    abbrev principal_of : Stored → Principal
    principal_of s = s.principal

    low_own : m.own.principal < 96
    low_own =
        let same = head_is m.own.principal x.lists.own.cert.user (map principal_of m.raised) (raised_groups x.table x.lists.own) m.outcome.principals in
        let low = cert_user x.lists.own.cert (read x.lists.own (in-right x.lists.own x.lists.others (x.lists.own ∷ []) (inl refl))) in
        omega (arith, same, low)
      where
        head_is : (a b : ℕ) (xs ys : List ℕ) → a ∷ xs ≡ b ∷ ys → a ≡ b
        head_is a b xs ys e = cc e

    own_is : m.own.principal ≡ x.lists.own.cert.user
    own_is = let e : m.own.principal ∷ map principal_of m.raised ≡ x.lists.own.cert.user ∷ raised_groups x.table x.lists.own = m.outcome.principals in cc

    raised_are : map principal_of m.raised ≡ raised_groups x.table x.lists.own
    raised_are = let e : m.own.principal ∷ map principal_of m.raised ≡ x.lists.own.cert.user ∷ raised_groups x.table x.lists.own = m.outcome.principals in cc

    low_raised : (s : Stored) → In s m.raised → s.principal < 96
    low_raised s i =
        let j = subst (λ (ps : List ℕ). In s.principal ps) raised_are (map-in principal_of m.raised s i) in
        let k = (in-filter (raises_at x.table (table_version x.lists.own.plan) x.lists.own.cert) s.principal groups j).0 in
        let low = group_low 32 s.principal k in
        omega (arith, low)

    pub low_all : (s : Stored) → In s (m.own ∷ m.raised) → s.principal < 96
    low_all s (inl e) = subst (λ (q : Stored). q.principal < 96) (sym e) low_own
    low_all s (inr i) = low_raised s i

    stored_whole : (s : Stored) → In s (m.own ∷ m.raised) → s.principal < 96 → ((t : Bytes) → In t s.texts → In t texts) → IsWhole texts s.principal s.handle
    stored_whole s i low into =
        part_whole texts apart m.blocks v s m.among (of_all (λ (q : Stored). IsStored m.blocks v q ⊎ IsUntouched v q) (m.own ∷ m.raised) m.outcome.stored s i) into (part_before x.lists.structures each s.principal low)

    -- what holds of each part that is stored, and of each handle that was named before, holds of each that is named now
    module _ (P : Principal → Handle → Type 0) (stored : (s : Stored) → In s (m.own ∷ m.raised) → ((t : Bytes) → In t s.texts → In t texts) → P s.principal s.handle) (named : (z : Signed Structure) → In z x.lists.structures → EachHandle P z.value) where
      own_by : P x.signed.plan.user x.signed.handle
      own_by =
          let same : m.own.principal ≡ x.signed.plan.user = own_is ∙ sym user ∙ sym (ap (λ p. p.user) plan) in
          subst (λ (h : Handle). P x.signed.plan.user h) (sym m.handle_is) (subst (λ (q : Principal). P q m.own.handle) same (stored m.own (inl refl) m.own_in))

      abbrev OfRecord : GroupRecord → Type 0
      OfRecord r = P r.group r.handle

      new_records : All OfRecord known.records
      new_records =
          subst (All OfRecord) (sym m.records_are)
          (to_all OfRecord (map (record_over x.lists.own.plan) m.raised)
          (λ r i. (
          let (s, j, same) = in-map (record_over x.lists.own.plan) m.raised r i in
          subst OfRecord (sym same) (stored s (inr j) (m.raised_in s j)))))

      old_records : All OfRecord (groups_of known.last)
      old_records = go known.last (structure_of (user_of x) x.lists) refl known.last_is
        where
          go : (last : Option (Signed Structure)) (o : Option (Signed Structure)) → structure_of (user_of x) x.lists ≡ o → option_map value_of o ≡ option_map value_of last → All OfRecord (groups_of last)
          go None o found same = All-nil OfRecord
          go (Some l) None found same = absurd (cc same)
          go (Some l) (Some z) found same =
              let f = found_in (λ (y : Signed Structure). y.value.plan.user == user_of x) x.lists.structures z found in
              let value : z.value ≡ l.value = cc same in
              subst (λ (s : Structure). All OfRecord s.groups) value (named z f.0).groups

      pub names_by : EachHandle P x.signed
      names_by = record {
        own = own_by;
        groups = subst (All OfRecord) (sym known.groups_are) (with_all OfRecord (groups_of known.last) known.records old_records new_records);
      }

    pub names_whole : NamesWhole texts x.signed
    names_whole =
        let is = names_by (IsWhole texts) (λ s i into. stored_whole s i (low_all s i) into) (λ z i. each_handle z.value (each z i)) in
        record { own = is.own; groups = is.groups }

  -- what is known of a view that is accepted after those whose structures are whole
  pub record IsPlain (x : View) : Type 0 where
    pub read : (i : PendingItem) → In i (items x.lists) → cert.Fits i.cert
    pub user : x.lists.own.plan.user ≡ x.lists.own.cert.user
    pub plan : x.signed.plan ≡ x.lists.own.plan
    pub each : (z : Signed Structure) → In z x.lists.structures → NamesWhole texts z.value

  pub plain : (older : List View) (y : View) → Accepted older y → ((x : View) → In x older → NamesWhole texts x.signed) → IsPlain y
  plain older y a before = record {
    read = λ i j. cert_fits (reply_of y) a.read i j;
    user = ((ordered (reply_of y) a.lists).planned y.lists.own (in-right y.lists.own y.lists.others (y.lists.own ∷ []) (inl refl))).0;
    plan = a.signed;
    each = λ z j.
        (let there = of_all (Contains (map (λ (w : View). w.signed) older)) (structures y) a.released z.value (map-in (λ (s : Signed Structure). s.value) y.lists.structures z j) in
        let (w, k, same) = in-map (λ (w : View). w.signed) older z.value (contains_in z.value (map (λ (w : View). w.signed) older) there) in
        subst (NamesWhole texts) (sym same) (before w k));
  }

  -- so it is over a run of accepted views
  pub all_whole : (run : List View) → AreAccepted run → ((x : View) → In x run → IsKnown texts apart key x) → (x : View) → In x run → IsPlain x × NamesWhole texts x.signed
  all_whole [] is known x i = absurd i
  all_whole (y ∷ older) is known x (inr i) = all_whole older is.1 (λ z j. known z (inr j)) x i
  all_whole (y ∷ older) is known x (inl e) =
      let p = plain older y is.0 (λ z j. (all_whole older is.1 (λ w k. known w (inr k)) z j).1) in
      subst (λ (w : View). IsPlain w × NamesWhole texts w.signed) (sym e) (p, names_whole y (known y (inl refl)) p.read p.user p.plan p.each)
