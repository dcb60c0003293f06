-- Parts of users, the table and membership: what a client reads of them is that of the world of its line.
use Rattle.std.proofs.Common.{◌≡◌, ◌≢◌, ℕ, zero, suc, ◌+◌, ◌<◌, ◌≤◌, List, [], ◌∷◌, ◌++◌, length, Option, Some, None, Bool, true, false, refl, sym, ap, ◌∙◌, subst, inl, inr, arith, append_assoc, length-append}
use Rattle.std.specs.Prelude.{◌==◌, ◌&&◌, find, map, nat_le, if◌then◌else◌}
use Rattle.std.specs.List.{Contains, filter}
use Rattle.std.specs.Option.{option_map, option_map_or}
use Rattle.std.proofs.lemmas.Bool.{eq-eqb, ne_eqb, cases_eq, eqb-true, lt-ltb, lt-leb, and_parts}
use Rattle.std.proofs.lemmas.List.{append_cancel_right, append-nil, map-append}
use Rattle.std.proofs.lemmas.List.Elements.{filter-append}
use Rattle.layout.specs.Types.{Handle, Key}
use Rattle.principals.specs.Table.{Table, genesis as first_table, is_member, is_member_now}
use Rattle.principals.specs.TableText.{table}
use Rattle.principals.specs.TableTextLaws.{lawful_table}
use Rattle.version_order.specs.declared.plan.Entry.{Entry}
use Rattle.version_order.specs.Plan.{Plan}
use Rattle.version_order.specs.Structure.{Structure}
use Rattle.version_order.specs.Vector.{version_of}
use Rattle.update_cert.specs.Reading.{Reading, after_read, read_changes}
use Rattle.update_cert.specs.World.{File, Principals, Tree, genesis, is_table, table_of}
use Rattle.pending_list.specs.declared.signed.Signed.{Signed}
use Rattle.pending_list.specs.Groups.{table_version}
use Rattle.pending_list.specs.Reply.{PendingItem}
use Rattle.reply_rules.specs.Lists.{shown, structure_of}
use Rattle.client_tree.specs.Genesis.{first_handle}
use Rattle.client_tree.specs.View.{actor_of, acts_for, after_items, comes_after, handle_of, named, tree, tree_before}
use Rattle.agreement.specs.Runs.{AreAccepted, NoViewCollision, View, structures}
use Rattle.agreement.specs.Lines.{line}
use Rattle.agreement.specs.Worlds.{IsHonest, NameFirst, Names, NamesTable, actor_in, acts_in, table_in, view_in, world}
use Rattle.agreement.proofs.Plans
use Rattle.agreement.proofs.Members.{In, contains_in, in-left, in-map, in-right, last_or_nil, last_same, map-in, of_all, one, one-other, one-same}
use Rattle.agreement.proofs.Formed.{same_spelled}
use Rattle.agreement.proofs.ByPlans.{Count, number_by_plans, plan_in_item, plan_shown, shape}
use Rattle.agreement.proofs.Runs.{none_collide, of_view, signed_plan, valid_by_plans}
use Rattle.agreement.proofs.Lines.{cert_in_item, line_numbered}
use Rattle.agreement.proofs.TableGrowth.{member_now}
use Rattle.agreement.proofs.TreeParts.{JudgedFrom, Kept, Numbered, Part, TableAt, after_part, count, funext, in_table, line_table, numbered_apart, numbered_from, part_after, part_forbidden, parts-append, parts_after, step, world-append, world_user}
use Rattle.agreement.proofs.LineItems.{IsOperation, bare, cut_whole, has_user, in_operations, in_run, in_whole, operations, operations_end, operations_plans, same_kept, whole, whole_certs, whole_ends, whole_length, whole_plans}

-- a list that ends with an element, cut in two of which the first is shorter
pub cut_end : {A : Type 0} (front rest before : List A) (x : A) → front ++ rest ≡ before ++ x ∷ [] → length front < length (before ++ x ∷ [])
    → (r : List A) × (rest ≡ r ++ x ∷ []) × (front ++ r ≡ before)
cut_end front rest before x e l =
    elim (last_or_nil rest) [
      | inl z ↦ absurd (
          let k = ap length (sym (append-nil front) ∙ ap (λ r. front ++ r) (sym z) ∙ e) in
          omega arith)
      | inr r ↦ (
          let f : (front ++ r.0) ++ r.1 ∷ [] ≡ before ++ x ∷ [] = append_assoc front r.0 (r.1 ∷ []) ∙ ap (λ t. front ++ t) (sym r.2) ∙ e in
          let m : r.1 ≡ x = last_same (front ++ r.0) before r.1 x f in
          (r.0, r.2 ∙ ap (λ y. r.0 ++ y ∷ []) m, append_cancel_right (front ++ r.0) before (x ∷ []) (ap (λ y. (front ++ r.0) ++ y ∷ []) (sym m) ∙ f)))
    ]

-- ---- the tree of a view, part by part

module _ (reads : Reading) (key : Key) (x : View) where
  items_part : (t : Table) (is : List PendingItem) (w : Tree) (p : ℕ) → after_items reads t is w p ≡ parts_after reads (actor_of t) p is (w p)
  unfolding after_items
  items_part t [] w p = refl
  items_part t (i ∷ is) w p =
      items_part t is (after_read reads (actor_of t i) i.cert.changes w) p
      ∙ ap (parts_after reads (actor_of t) p is) (after_part (actor_of t i) (read_changes reads i.cert.changes) w p)

  -- which operations come after a part doesn't depend on signatures
  bare_kept : (p : ℕ) (is : List PendingItem) (part : Part)
      → parts_after reads (actor_of x.table) p (filter (comes_after (view_in key x) p) is) part
      ≡ parts_after reads (actor_of x.table) p (filter (comes_after (view_in key x) p) (map bare is)) part
  unfolding comes_after
  bare_kept p [] part = refl
  bare_kept p (i ∷ is) part = go (comes_after (view_in key x) p i) (bare_kept p is)
    where
      go : (b : Bool) → ((part : Part) → parts_after reads (actor_of x.table) p (filter (comes_after (view_in key x) p) is) part ≡ parts_after reads (actor_of x.table) p (filter (comes_after (view_in key x) p) (map bare is)) part)
          → parts_after reads (actor_of x.table) p (if b then i ∷ filter (comes_after (view_in key x) p) is else filter (comes_after (view_in key x) p) is) part
          ≡ parts_after reads (actor_of x.table) p (if b then bare i ∷ filter (comes_after (view_in key x) p) (map bare is) else filter (comes_after (view_in key x) p) (map bare is)) part
      go true ih = ih (part_after (actor_of x.table i) p (read_changes reads i.cert.changes) part)
      go false ih = ih part

  pub before_part : (users : Table) (p : ℕ)
      → tree_before reads users (view_in key x) p
      ≡ parts_after reads (actor_of x.table) p (filter (comes_after (view_in key x) p) (map bare x.lists.others)) (named reads users (view_in key x) p)
  before_part users p =
      items_part x.table (filter (comes_after (view_in key x) p) x.lists.others) (named reads users (view_in key x)) p
      ∙ bare_kept p x.lists.others (named reads users (view_in key x) p)

  -- where the own operation comes after the part, or leaves it as it is
  pub tree_part : (users : Table) (p : ℕ)
      → (comes_after (view_in key x) p (bare x.lists.own) ≡ false → (part : Part) → part_after (actor_of x.table x.lists.own) p (read_changes reads x.lists.own.cert.changes) part ≡ part)
      → tree reads users (view_in key x) p
      ≡ parts_after reads (actor_of x.table) p (filter (comes_after (view_in key x) p) (operations x)) (named reads users (view_in key x) p)
  tree_part users p leaves =
      after_part (actor_of x.table x.lists.own) (read_changes reads x.lists.own.cert.changes) (tree_before reads users (view_in key x)) p
      ∙ ap (part_after (actor_of x.table x.lists.own) p (read_changes reads x.lists.own.cert.changes)) (before_part users p)
      ∙ last (comes_after (view_in key x) p (bare x.lists.own)) refl
      ∙ sym (ap (λ (is : List PendingItem). parts_after reads (actor_of x.table) p is (named reads users (view_in key x) p))
      (ap (filter (comes_after (view_in key x) p)) (operations_end x) ∙ filter-append (comes_after (view_in key x) p) (map bare x.lists.others) (bare x.lists.own ∷ [])))
    where
      front : List PendingItem
      front = filter (comes_after (view_in key x) p) (map bare x.lists.others)

      last : (b : Bool) → comes_after (view_in key x) p (bare x.lists.own) ≡ b
          → part_after (actor_of x.table x.lists.own) p (read_changes reads x.lists.own.cert.changes) (parts_after reads (actor_of x.table) p front (named reads users (view_in key x) p))
          ≡ parts_after reads (actor_of x.table) p (front ++ (if b then bare x.lists.own ∷ [] else [])) (named reads users (view_in key x) p)
      last true e = sym (parts-append reads (actor_of x.table) p front (bare x.lists.own ∷ []) (named reads users (view_in key x) p))
      last false e =
          leaves e (parts_after reads (actor_of x.table) p front (named reads users (view_in key x) p))
          ∙ sym (ap (λ (is : List PendingItem). parts_after reads (actor_of x.table) p is (named reads users (view_in key x) p)) (append-nil front))

  -- of a user
  abbrev pub of_user : ℕ → PendingItem → Bool
  of_user u i = i.cert.user == u

  pub user_comes_after : (u : ℕ) (i : PendingItem) → u < 64 → comes_after (view_in key x) u i ≡ of_user u i
  unfolding comes_after
  user_comes_after u i l = rw (lt-ltb u 64 l) refl

  user_kept : (u : ℕ) → u < 64 → (is : List PendingItem) → filter (comes_after (view_in key x) u) is ≡ filter (of_user u) is
  user_kept u l [] = refl
  user_kept u l (i ∷ is) = rw (user_comes_after u i l) (go (of_user u i) (user_kept u l is))
    where
      go : (b : Bool) → filter (comes_after (view_in key x) u) is ≡ filter (of_user u) is
          → (if b then i ∷ filter (comes_after (view_in key x) u) is else filter (comes_after (view_in key x) u) is) ≡ (if b then i ∷ filter (of_user u) is else filter (of_user u) is)
      go true ih = ap (λ (is : List PendingItem). i ∷ is) ih
      go false ih = ih

  pub user_tree_before : (users : Table) (u : ℕ) → u < 64
      → tree_before reads users (view_in key x) u ≡ parts_after reads (actor_of x.table) u (filter (of_user u) (map bare x.lists.others)) (named reads users (view_in key x) u)
  user_tree_before users u l =
      before_part users u ∙ ap (λ (is : List PendingItem). parts_after reads (actor_of x.table) u is (named reads users (view_in key x) u)) (user_kept u l (map bare x.lists.others))

  pub user_tree : (users : Table) (u : ℕ) → u < 64
      → tree reads users (view_in key x) u ≡ parts_after reads (actor_of x.table) u (filter (of_user u) (operations x)) (named reads users (view_in key x) u)
  user_tree users u l =
      tree_part users u leaves ∙ ap (λ (is : List PendingItem). parts_after reads (actor_of x.table) u is (named reads users (view_in key x) u)) (user_kept u l (operations x))
    where
      leaves : comes_after (view_in key x) u (bare x.lists.own) ≡ false → (part : Part) → part_after (actor_of x.table x.lists.own) u (read_changes reads x.lists.own.cert.changes) part ≡ part
      leaves e part =
          let other : u ≢ x.lists.own.cert.user = λ same. (let k : true ≡ false = sym (eq-eqb x.lists.own.cert.user u (sym same)) ∙ sym (user_comes_after u (bare x.lists.own) l) ∙ e in cc) in
          part_forbidden (actor_of x.table x.lists.own) u (read_changes reads x.lists.own.cert.changes) part
          (record { other = other; outside = rw (lt-leb 64 u l) refl })

-- ---- what handles name

is_place : (p i : ℕ) → is_table p i ≡ true → (p ≡ 0) × (i ≡ 1)
is_place p i e = let parts = and_parts (p == 0) (i == 1) e in (eqb-true p 0 parts.0, eqb-true i 1 parts.1)

pub same_table : (reads : Reading) (handle : Handle) (t u : Table) → table.Fits t → table.Fits u → NamesTable reads handle t → NamesTable reads handle u → t ≡ u
same_table reads handle t u fits_t fits_u names_t names_u =
    let files : Some (File (table.spell t)) ≡ Some (File (table.spell u)) = sym names_t ∙ names_u in
    same_spelled table lawful_table t u fits_t fits_u (file_bytes files)
  where
    file_bytes : {b c : List ℕ} → Some (File b) ≡ Some (File c) → b ≡ c
    file_bytes e = cc

-- where the handle of a part names what stands in a tree, and user 0's names the tree's table too
pub named_is : (reads : Reading) (key : Key) (x : View) (honest : IsHonest reads key x) (p : ℕ) (handle : Handle) (w : Tree) → handle_of (view_in key x) p ≡ handle → Names reads p handle w
    → (p ≡ 0 → (t : Table) × NamesTable reads handle t × table.Fits t × (w 0 1 ≡ Some (Principals t)))
    → named reads honest.users (view_in key x) p ≡ w p
named_is reads key x honest p handle w same names its_table = funext (named reads honest.users (view_in key x) p) (w p) (λ i. go i (is_table p i) refl)
  where
    go : (i : ℕ) (b : Bool) → is_table p i ≡ b → (if b then Some (Principals honest.users) else option_map reads.content (reads.inode p (handle_of (view_in key x) p) i)) ≡ w p i
    go i true e =
        let (zero_p, one_i) = is_place p i e in
        let (t, names_t, fits, stands) = its_table zero_p in
        let there : NamesTable reads handle honest.users = subst (λ h. NamesTable reads h honest.users) (ap (handle_of (view_in key x)) (sym zero_p) ∙ same) honest.named in
        ap (λ (t : Table). Some (Principals t)) (same_table reads handle honest.users t honest.users_fit fits there names_t)
        ∙ sym stands
        ∙ ap (λ q. w q 1) (sym zero_p)
        ∙ ap (w p) (sym one_i)
    go i false e = ap (λ h. option_map reads.content (reads.inode p h i)) same ∙ names i e

-- ---- what the world of a line has

module _ (reads : Reading) (key : Key) where
  first_stands : TableAt reads 0 (genesis key)
  first_stands = record { held = first_table key; stands = refl; bound = record { rows = λ r i. absurd i } }

  -- A part along a view's line: up to front the handle tells it, and after that the pending operations do.
  pub record Base (x : View) (line : List PendingItem) (p : ℕ) (of_line of_pending : PendingItem → Bool) (start : Part) : Type 0 where
    pub front : List PendingItem
    pub rest : List PendingItem
    pub is_whole : line ≡ front ++ (rest ++ bare x.lists.own ∷ [])
    pub own_alike : of_line (bare x.lists.own) ≡ of_pending (bare x.lists.own)
    pub alike : filter of_line (rest ++ bare x.lists.own ∷ []) ≡ filter of_pending (operations x)
    pub starts : world reads key (map cert_in_item front) p ≡ start

  -- the same without the own operation
  pub alike_before : (x : View) (line : List PendingItem) (p : ℕ) (t u : PendingItem → Bool) (start : Part) (b : Base x line p t u start) → filter t b.rest ≡ filter u (map bare x.lists.others)
  alike_before x line p t u start b =
      append_cancel_right (filter t b.rest) (filter u (map bare x.lists.others)) (filter t (bare x.lists.own ∷ []))
      (sym (filter-append t b.rest (bare x.lists.own ∷ [])) ∙ b.alike ∙ ap (filter u) (operations_end x) ∙ filter-append u (map bare x.lists.others) (bare x.lists.own ∷ [])
      ∙ ap (λ l. filter u (map bare x.lists.others) ++ l) (sym (one_kept b.own_alike)))
    where
      one_kept : t (bare x.lists.own) ≡ u (bare x.lists.own) → filter t (bare x.lists.own ∷ []) ≡ filter u (bare x.lists.own ∷ [])
      one_kept e = ap (λ c. if c then bare x.lists.own ∷ [] else []) e

  acts : (t : Table) (i : PendingItem) → (member : ℕ → Bool) × (actor_of t i ≡ record { user = i.cert.user; number = i.cert.number; member = member })
  acts t i = (acts_for t i, refl)

  -- a user's part, from a base
  module _ (x : View) (honest : IsHonest reads key x) (line : List PendingItem) (u : ℕ) (l : u < 64)
      (b : Base x line u (of_user reads key x u) (of_user reads key x u) (named reads honest.users (view_in key x) u)) where
    pub user_whole : tree reads honest.users (view_in key x) u ≡ world reads key (map cert_in_item line) u
    user_whole =
        let front = b.front in
        let rest = b.rest ++ bare x.lists.own ∷ [] in
        user_tree reads key x honest.users u l
        ∙ sym (ap (λ z. world reads key (map cert_in_item z) u) b.is_whole
        ∙ ap (λ z. world reads key z u) (map-append cert_in_item front rest)
        ∙ ap (λ (z : Tree). z u) (world-append reads (genesis key) (map cert_in_item front) (map cert_in_item rest))
        ∙ world_user reads (actor_of x.table) (acts x.table) u l (world reads key (map cert_in_item front)) rest
        ∙ ap (λ z. parts_after reads (actor_of x.table) u z (world reads key (map cert_in_item front) u)) b.alike
        ∙ ap (parts_after reads (actor_of x.table) u (filter (of_user reads key x u) (operations x))) b.starts)

    pub user_before : tree_before reads honest.users (view_in key x) u ≡ world reads key (map cert_in_item (b.front ++ b.rest)) u
    user_before =
        let front = b.front in
        let rest = b.rest in
        user_tree_before reads key x honest.users u l
        ∙ sym (ap (λ z. world reads key z u) (map-append cert_in_item front rest)
        ∙ ap (λ (z : Tree). z u) (world-append reads (genesis key) (map cert_in_item front) (map cert_in_item rest))
        ∙ world_user reads (actor_of x.table) (acts x.table) u l (world reads key (map cert_in_item front)) rest
        ∙ ap (λ z. parts_after reads (actor_of x.table) u z (world reads key (map cert_in_item front) u)) (alike_before x line u (of_user reads key x u) (of_user reads key x u) (named reads honest.users (view_in key x) u) b)
        ∙ ap (parts_after reads (actor_of x.table) u (filter (of_user reads key x u) (map bare x.lists.others))) b.starts)

  module _ (run : List View) (first : NameFirst reads key) (v : AreAccepted run) (nc : NoViewCollision run) (all : (x : View) → In x run → IsHonest reads key x) where
    released_in : (some : List View) → AreAccepted some → (x : View) → In x some → (z : Structure) → In z (structures x) → (y : View) × In y some × (y.signed ≡ z)
    released_in [] w x i z k = absurd i
    released_in (x' ∷ older) w x (inl i) z k =
        let there = of_all (Contains (map (λ (y : View). y.signed) older)) (structures x') w.0.released z (subst (λ (w : View). In z (structures w)) i k) in
        let (y, j, e) = in-map (λ (y : View). y.signed) older z (contains_in z (map (λ (y : View). y.signed) older) there) in
        (y, inr j, sym e)
    released_in (x' ∷ older) w x (inr i) z k = let r = released_in older w.1 x i z k in (r.0, inr r.1, r.2)

    -- a structure that is shown is that of a view
    pub structure_shown : (x : View) → In x run → (z : Signed Structure) → In z x.lists.structures
        → (y : View) × In y run × (y.signed ≡ z.value) × (y.lists.own.plan ≡ z.value.plan) × In y.lists.own.plan (shown x.lists)
    structure_shown x i z k =
        let (y, j, e) = released_in run v x i z.value (map-in (λ (z : Signed Structure). z.value) x.lists.structures z k) in
        let p : y.lists.own.plan ≡ z.value.plan = sym (signed_plan run v y j) ∙ ap (λ (z : Structure). z.plan) e in
        (y, j, e, p, subst (λ q. In q (shown x.lists)) (sym p) (map-in plan_shown x.lists.structures z k))

    abbrev plan_user : Signed Structure → ℕ
    plan_user z = z.value.plan.user

    -- the structure that is found for a user is one of the list
    pub structure_found : (u : ℕ) (zs : List (Signed Structure)) (z : Signed Structure) → find (λ z. z.value.plan.user == u) zs ≡ Some z → In z zs × (z.value.plan.user ≡ u)
    structure_found u [] z e = cc
    structure_found u (y ∷ zs) z e =
        elim (cases_eq y.value.plan.user u) [
          | inl m ↦ (
              let k : Some y ≡ Some z = rw (eq-eqb y.value.plan.user u m) at e in
              let f : z ≡ y = cc in
              (inl f, ap plan_user f ∙ m))
          | inr m ↦ (
              let k : find (λ z. z.value.plan.user == u) zs ≡ Some z = rw (ne_eqb y.value.plan.user u m) at e in
              let r = structure_found u zs z k in
              (inr r.0, r.1))
        ]

    handle_of_user : (x : View) (u : ℕ) → u < 64 → (o : Option (Signed Structure)) → structure_of u x.lists ≡ o → handle_of (view_in key x) u ≡ option_map_or (λ z. z.value.handle) o (first_handle u key)
    handle_of_user x u l o e = rw (lt-ltb u 64 l) (ap (λ o. option_map_or (λ z. z.value.handle) o (first_handle u key)) e)

    kept_by_plans : (u : ℕ) (is js : List PendingItem) → ((i : PendingItem) → In i is → IsOperation run v nc i) → ((j : PendingItem) → In j js → IsOperation run v nc j)
        → filter (λ (i : PendingItem). u == i.plan.user) is ≡ filter (λ (i : PendingItem). u == i.plan.user) js
        → (x : View) → filter (of_user reads key x u) is ≡ filter (of_user reads key x u) js
    kept_by_plans u is js o p e x = by_cert is o ∙ e ∙ sym (by_cert js p)
      where
        by_cert : (is : List PendingItem) → ((i : PendingItem) → In i is → IsOperation run v nc i) → filter (λ (i : PendingItem). i.cert.user == u) is ≡ filter (λ (i : PendingItem). u == i.plan.user) is
        by_cert [] o = refl
        by_cert (i ∷ is) o =
            let same = has_user run v nc i (o i (inl refl)) in
            elim (cases_eq i.cert.user u) [
              | inl m ↦ rw (eq-eqb i.cert.user u m, eq-eqb u i.plan.user (sym (same ∙ m))) (ap (λ (l : List PendingItem). i ∷ l) (by_cert is (λ j k. o j (inr k))))
              | inr m ↦ rw (ne_eqb i.cert.user u m, ne_eqb u i.plan.user (λ n. m (sym (n ∙ same)))) (by_cert is (λ j k. o j (inr k)))
            ]

    -- by induction on the length of the line: a structure is of a view with a shorter one
    pub user_base : (n : ℕ) (x : View) → (i : In x run) → length (whole run x) ≤ n → (u : ℕ) → u < 64
        → Base x (whole run x) u (of_user reads key x u) (of_user reads key x u) (named reads (all x i).users (view_in key x) u)
    user_base zero x i m u l =
        let (b, e) = whole_ends run v nc x i in
        let k = ap length e ∙ length-append b (bare x.lists.own ∷ []) in
        absurd (omega arith)
    user_base (suc n) x i m u l = go (λ (y : View) (j : In y run) (k : length (whole run y) ≤ n). user_base n y j k u l) (structure_of u x.lists) refl
      where
        prun : List (Plans.View Plan)
        prun = map of_view run

        go : ((y : View) → (j : In y run) → length (whole run y) ≤ n → Base y (whole run y) u (of_user reads key y u) (of_user reads key y u) (named reads (all y j).users (view_in key y) u))
            → (o : Option (Signed Structure)) → structure_of u x.lists ≡ o → Base x (whole run x) u (of_user reads key x u) (of_user reads key x u) (named reads (all x i).users (view_in key x) u)
        go shorter None e =
            let (b, f) = whole_ends run v nc x i in
            let z = number_by_plans u x.lists ∙ ap (λ o. option_map_or (λ (z : Signed Structure). z.value.plan.number) o 0) e in
            let k = Plans.user_pending Plan Entry shape (map of_view run) (valid_by_plans run v) (none_collide run v nc) (of_view x) (in_run run v nc x i) u z in
            let kept = same_kept run v nc (λ p. u == p.user) (λ p. u == p.user) (whole run x) (operations x) (in_whole run v nc x) (in_operations run v nc x i)
            (ap (filter (λ (p : Plan). u == p.user)) (whole_plans run x) ∙ k ∙ ap (filter (λ (p : Plan). u == p.user)) (sym (operations_plans x))) in
            record {
              front = [];
              rest = b;
              is_whole = f;
              own_alike = refl;
              alike = ap (filter (of_user reads key x u)) (sym f) ∙ kept_by_plans u (whole run x) (operations x) (in_whole run v nc x) (in_operations run v nc x i) kept x;
              starts =
                  sym (named_is reads key x (all x i) u (first_handle u key) (genesis key) (handle_of_user x u l None e) (first.named u (omega arith))
                  (λ zero_u. (first_table key, subst (λ w. NamesTable reads (first_handle w key) (first_table key)) (sym zero_u) first.users, first.fits, refl)));
            }
        go shorter (Some z) e =
            let (k, uz) = structure_found u x.lists.structures z e in
            let (y, j, ys, yp, sh) = structure_shown x i z k in
            let up : u ≡ y.lists.own.plan.user = sym uz ∙ ap (λ (p : Plan). p.user) (sym yp) in
            let (a, ea, fa) = Plans.user_part Plan Entry shape (map of_view run) (valid_by_plans run v) (none_collide run v nc) (of_view x) (of_view y) (in_run run v nc x i) (in_run run v nc y j) sh in
            let short = Plans.shorter Plan Entry shape (map of_view run) (valid_by_plans run v) (none_collide run v nc) (of_view x) (of_view y) (in_run run v nc x i) (in_run run v nc y j) sh in
            let (c, ec, mc) = cut_whole run v nc x y a ea in
            let (b, f) = whole_ends run v nc x i in
            let lx = whole_length run x in
            let ly = whole_length run y in
            let lf = ap length f in
            let (r, er, fr) = cut_end (whole run y) c b (bare x.lists.own) (sym ec ∙ f) (omega arith) in
            let fu : filter (λ (p : Plan). u == p.user) a ≡ filter (λ (p : Plan). u == p.user) (Plans.pending Plan Entry shape (of_view x))
            = subst (λ w. filter (λ (p : Plan). w == p.user) a ≡ filter (λ (p : Plan). w == p.user) (Plans.pending Plan Entry shape (of_view x))) (sym up) fa in
            let in_c = λ (q : PendingItem) (h : In q c). in_whole run v nc x q (subst (λ l. In q l) (sym ec) (in-right q (whole run y) c h)) in
            let kept = same_kept run v nc (λ p. u == p.user) (λ p. u == p.user) c (operations x) in_c (in_operations run v nc x i)
            (ap (filter (λ (p : Plan). u == p.user)) mc ∙ fu ∙ ap (filter (λ (p : Plan). u == p.user)) (sym (operations_plans x))) in
            let hy = all y j in
            let known = user_whole y hy (whole run y) u l (shorter y j (omega arith)) in
            let handle = handle_of_user x u l (Some z) e ∙ ap (λ (z : Structure). z.handle) (sym ys) in
            record {
              front = whole run y;
              rest = r;
              is_whole = ec ∙ ap (λ t. whole run y ++ t) er;
              own_alike = refl;
              alike = ap (filter (of_user reads key x u)) (sym er) ∙ kept_by_plans u c (operations x) in_c (in_operations run v nc x i) kept x;
              starts =
                  sym known
                  ∙ sym (named_is reads key x (all x i) u y.signed.handle (tree reads hy.users (view_in key y)) handle
                  (subst (λ w. Names reads w y.signed.handle (tree reads hy.users (view_in key y))) (sym up) hy.own_part)
                  (λ zero_u. (let t = hy.own_table (sym up ∙ zero_u) in (y.table, t.0, t.1, hy.pending))));
            }

    pub user_world : (x : View) → (i : In x run) → (u : ℕ) → u < 64 → tree reads (all x i).users (view_in key x) u ≡ world reads key (line run x) u
    user_world x i u l = user_whole x (all x i) (whole run x) u l (user_base (length (whole run x)) x i (omega arith) u l) ∙ ap (λ cs. world reads key cs u) (whole_certs run x)

    -- the table by which a view is judged is that of the world
    pub table_stands : (x : View) → In x run → world reads key (line run x) 0 1 ≡ Some (Principals x.table)
    table_stands x i = ap (λ (p : Part). p 1) (sym (user_world x i 0 (omega arith))) ∙ (all x i).pending

    pub table_world : (x : View) → In x run → table_in (world reads key (line run x)) ≡ x.table
    table_world x i = ap table_of (table_stands x i)

    -- ---- membership

    counts_same : (u : ℕ) (is : List PendingItem) → ((i : PendingItem) → In i is → IsOperation run v nc i) → Count u (map plan_in_item is) ≡ count reads u (map cert_in_item is)
    counts_same u [] o = refl
    counts_same u (i ∷ is) o =
        let ih = counts_same u is (λ j k. o j (inr k)) in
        let same = ap (one u) (has_user run v nc i (o i (inl refl))) in
        omega arith

    -- the line cut at an operation: the table version of its plan is the number of user 0's operations before it
    pub version_is : (x : View) → In x run → (b : List PendingItem) (o : PendingItem) (a : List PendingItem) → whole run x ≡ b ++ o ∷ a → table_version o.plan ≡ count reads 0 (map cert_in_item b)
    version_is x i b o a e =
        let c = Plans.counts Plan Entry shape (map of_view run) (valid_by_plans run v) (none_collide run v nc) (of_view x) (in_run run v nc x i) (map plan_in_item b) o.plan (map plan_in_item a)
        (sym (whole_plans run x) ∙ ap (map plan_in_item) e ∙ map-append plan_in_item b (o ∷ a)) in
        let n : version_of 0 o.plan.vector ≡ Count 0 (map plan_in_item b ++ o.plan ∷ []) = c.of_user 0 in
        let pushed = Plans.count-append Plan Entry shape 0 (map plan_in_item b) (o.plan ∷ []) in
        let same = counts_same 0 b (λ q r. in_whole run v nc x q (subst (λ l. In q l) (sym e) (in-left q b (o ∷ a) r))) in
        elim (cases_eq o.plan.user 0) [
          | inl m ↦ rw (eq-eqb o.plan.user 0 m) (let k = one-same 0 o.plan.user (sym m) in omega arith)
          | inr m ↦ rw (ne_eqb o.plan.user 0 m) (let k = one-other 0 o.plan.user (λ h. m (sym h)) in omega arith)
        ]

    -- the table in the world up to a place of the line, and what stays of it up to the line's end
    pub line_kept : (x : View) → In x run → (b a : List PendingItem) → whole run x ≡ b ++ a
        → TableAt reads (count reads 0 (map cert_in_item b)) (world reads key (map cert_in_item b))
        × Kept reads (count reads 0 (map cert_in_item b)) (world reads key (map cert_in_item b)) (world reads key (line run x))
        × Kept reads 0 (genesis key) (world reads key (map cert_in_item b))
    line_kept x i b a e =
        let before = map cert_in_item b in
        let after = map cert_in_item a in
        let split : line run x ≡ before ++ after = sym (whole_certs run x) ∙ ap (map cert_in_item) e ∙ map-append cert_in_item b a in
        let all_numbered = numbered_from reads [] (before ++ after) (λ f c g h. line_numbered run v nc x i f c g (split ∙ h)) in
        let parts = numbered_apart reads 0 before after all_numbered in
        let (here, kept) = line_table reads 0 (genesis key) before first_stands parts.0 in
        let z : 0 + count reads 0 before ≡ count reads 0 before = omega arith in
        let t = subst (λ k. TableAt reads k (world reads key before)) z here in
        let n = subst (λ k. Numbered reads k after) z parts.1 in
        let (there, later) = line_table reads (count reads 0 before) (world reads key before) after t n in (
          t,
          subst (λ w. Kept reads (count reads 0 before) (world reads key before) w) (sym (world-append reads (genesis key) before after) ∙ ap (world reads key) (sym split)) later,
          kept,
        )

    -- a member at the table version of an operation is one in the world before it
    pub judged : (x : View) → In x run → (b : List PendingItem) (o : PendingItem) (a : List PendingItem) → whole run x ≡ b ++ o ∷ a → (group user : ℕ)
        → is_member x.table group user (table_version o.plan) ≡ is_member_now (table_in (world reads key (map cert_in_item b))) group user
    judged x i b o a e group user =
        let (t, kept, since_first) = line_kept x i b (o ∷ a) e in
        let here = in_table reads (world reads key (map cert_in_item b)) t.held t.stands in
        ap (λ z. is_member z group user (table_version o.plan)) (sym (table_world x i))
        ∙ ap (is_member (table_in (world reads key (line run x))) group user) (version_is x i b o a e)
        ∙ kept.member_same group user (count reads 0 (map cert_in_item b)) (omega arith)
        ∙ ap (λ z. is_member z group user (count reads 0 (map cert_in_item b))) here
        ∙ member_now t.held (count reads 0 (map cert_in_item b)) t.bound group user
        ∙ ap (λ z. is_member_now z group user) (sym here)

    pub actor_is : (x : View) → In x run → (b : List PendingItem) (o : PendingItem) (a : List PendingItem) → whole run x ≡ b ++ o ∷ a → actor_of x.table o ≡ actor_in (world reads key (map cert_in_item b)) o.cert
    actor_is x i b o a e =
        ap (λ (m : ℕ → Bool). record { user = o.cert.user; number = o.cert.number; member = m })
        (funext (acts_for x.table o) (acts_in (world reads key (map cert_in_item b)) o.cert) (λ g. ap (λ c. nat_le 64 g && c) (judged x i b o a e g o.cert.user)))

    pub judged_from : (x : View) → In x run → (b a : List PendingItem) → whole run x ≡ b ++ a → JudgedFrom reads (actor_of x.table) (world reads key (map cert_in_item b)) a
    judged_from x i b [] e = tt
    judged_from x i b (o ∷ a) e =
        let ih = judged_from x i (b ++ o ∷ []) a (e ∙ sym (append_assoc b (o ∷ []) a)) in
        let w : world reads key (map cert_in_item (b ++ o ∷ [])) ≡ step reads (world reads key (map cert_in_item b)) o.cert
        = ap (world reads key) (map-append cert_in_item b (o ∷ [])) ∙ world-append reads (genesis key) (map cert_in_item b) (o.cert ∷ []) in
        (actor_is x i b o a e, subst (λ z. JudgedFrom reads (actor_of x.table) z a) w ih)
