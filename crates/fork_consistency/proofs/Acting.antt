-- The operations of user 0 that are pending in a reply: at most one, with the next number. What the pending operations
-- make of the table of principals, and that a part without changes leaves it.
use Rattle.std.proofs.Common.{◌≡◌, ◌≢◌, ℕ, ◌+◌, Bool, true, false, ◌==◌, ◌&&◌, not, List, [], ◌∷◌, ◌++◌, filter, map, Some, None, refl, sym, ap, ◌∙◌, inl, inr, if◌then◌else◌}
use Rattle.std.specs.Prelude.{◌⊎◌}
use Rattle.std.specs.List.{All, list_all, list_any}
use Rattle.std.proofs.lemmas.Bool.{and_parts, eq-eqb, eqb-true}
use Rattle.layout.specs.Types.{Digest}
use Rattle.principals.specs.Table.{Table}
use Rattle.update_cert.specs.Change.{Change, change}
use Rattle.update_cert.specs.Cert.{Cert, cert}
use Rattle.update_cert.specs.Reading.{Reading, after_read}
use Rattle.update_cert.specs.Tables.{table_after}
use Rattle.update_cert.specs.World.{Principals, Tree, is_of_table}
use Rattle.update_cert.proofs.EffectLaws.{at_table, table_place}
use Rattle.update_cert.proofs.TableLaws.{all_stay}
use Rattle.update_cert.proofs.TableStands.{changes_fit, stands}
use Rattle.std.proofs.lemmas.List.Elements.{All-head, All-tail}
use Rattle.tree_parts.specs.Asked.{covers}
use Rattle.tree_parts.specs.declared.scope.Scope.TheVariants as scopes
use Rattle.pending_list.specs.Reply.{PendingItem, Reply}
use Rattle.reply_rules.specs.declared.rule.Rule.TheVariants as rule
use Rattle.reply_rules.specs.Broken.{broken, later_rules}
use Rattle.reply_rules.specs.Lists.{Lists, items, number_of, pending}
use Rattle.reply_rules.specs.Rules.{lists, pending_ascends, pending_once, structures_ascend, each_once, entries, group_records, is_next, is_planned, link, numbers, pending_next, pending_numbered, structures_numbered, top_counts, unknown_user, vector}
use Rattle.reply_rules.specs.declared.rule.Rule.{Rule}
use Rattle.client_tree.specs.Opened.{has_change, items_on}
use Rattle.client_tree.specs.View.{View, actor_of, after_items, comes_after, named, tree, tree_before}
use Rattle.agreement.proofs.Members.{In, in-left, in-middle, in-right, map-in}
use Rattle.agreement.proofs.Tests.{all_in, first_holds}
use Rattle.fork_consistency.proofs.Lists.{neither}
use Rattle.fork_consistency.specs.ByCertificates.{tables_after}

-- ---- numbers

-- a pending plan has the number after that of its user's structure
pub next_number : (t : Table) (x : Lists) → broken t x ≡ None → (i : PendingItem) → In i (items x) → i.plan.number ≡ number_of i.plan.user x + 1
unfolding numbers
next_number t x unbroken i j =
    let one = first_holds rule.UnknownUser (unknown_user t x) (later_rules t x) unbroken in
    let rest : List (Rule × Bool) = (rule.Vector, vector t x) ∷ (rule.Entries, entries x) ∷ (rule.Link, link x) ∷ (rule.GroupRecord, group_records t x) ∷ [] in
    let two = first_holds rule.Numbers (structures_numbered x && (pending_numbered x && (pending_next x && top_counts x))) rest one.1 in
    let three = and_parts (structures_numbered x) (pending_numbered x && (pending_next x && top_counts x)) two.0 in
    let four = and_parts (pending_numbered x) (pending_next x && top_counts x) three.1 in
    let five = and_parts (pending_next x) (top_counts x) four.1 in
    eqb-true i.plan.number (number_of i.plan.user x + 1) (all_in (is_next x) (pending x) five.0 i.plan (map-in (λ (y : PendingItem). y.plan) (items x) i j))

-- each user is pending once, and each plan has its certificate's user and number
pub record IsOrdered (r : Reply) : Type 0 where
  pub once : pending_once r ≡ true
  pub planned : (i : PendingItem) → In i r.pending → (i.plan.user ≡ i.cert.user) × (i.plan.number ≡ i.cert.number)

pub ordered : (r : Reply) → lists r ≡ true → IsOrdered r
unfolding lists
ordered r holds =
    let one = and_parts (structures_ascend r) (pending_ascends r && (pending_once r && list_all is_planned r.pending)) holds in
    let two = and_parts (pending_ascends r) (pending_once r && list_all is_planned r.pending) one.1 in
    let three = and_parts (pending_once r) (list_all is_planned r.pending) two.1 in
    record {
      once = three.0;
      planned = λ i j.
          let tests = and_parts (i.plan.user == i.cert.user) (i.plan.number == i.cert.number) (all_in is_planned r.pending three.1 i j) in
          (eqb-true i.plan.user i.cert.user tests.0, eqb-true i.plan.number i.cert.number tests.1);
    }

-- ---- lists in which nothing stands twice

pub filter_none : {A : Type 0} (t : A → Bool) (xs : List A) → ((x : A) → In x xs → t x ≡ false) → filter t xs ≡ []
filter_none t [] none = refl
filter_none t (x ∷ xs) none = rw (none x (inl refl)) (filter_none t xs (λ y i. none y (inr i)))

differ : (n : ℕ) (b : Bool) → b ≡ true → not b ≡ true → ⊥
differ n true is other = cc other
differ n false is other = cc is

once_head : (n : ℕ) (ns : List ℕ) → each_once (n ∷ ns) ≡ true → (m : ℕ) → In m ns → n ≢ m
once_head n ns once m i same =
    let all = and_parts (list_all (λ k. not (n == k)) ns) (each_once ns) once in
    differ n (n == m) (eq-eqb n m same) (all_in (λ k. not (n == k)) ns all.0 m i)

once_tail : (n : ℕ) (ns : List ℕ) → each_once (n ∷ ns) ≡ true → each_once ns ≡ true
once_tail n ns once = (and_parts (list_all (λ k. not (n == k)) ns) (each_once ns) once).1

-- none is as the last one
pub none_before : {A : Type 0} (f : A → ℕ) (xs : List A) (y : A) → each_once (map f (xs ++ y ∷ [])) ≡ true → (x : A) → In x xs → f x ≢ f y
none_before f [] y once x i = absurd i
none_before f (z ∷ zs) y once x (inl e) = λ same. once_head (f z) (map f (zs ++ y ∷ [])) once (f y) (map-in f (zs ++ y ∷ []) y (in-middle y zs [])) (ap f (sym e) ∙ same)
none_before f (z ∷ zs) y once x (inr i) = none_before f zs y (once_tail (f z) (map f (zs ++ y ∷ [])) once) x i

-- at most one has the value of another that passes
pub at_most_one : {A : Type 0} (f : A → ℕ) (t : A → Bool) (n : ℕ) (xs : List A) → each_once (map f xs) ≡ true → ((x : A) → In x xs → t x ≡ true → f x ≡ n) → (filter t xs ≡ []) ⊎ ((x : A) × (filter t xs ≡ x ∷ []))
at_most_one f t n [] once each = inl refl
at_most_one {A} f t n (z ∷ zs) once each = go (t z) refl (at_most_one f t n zs (once_tail (f z) (map f zs) once) (λ x i. each x (inr i)))
  where
    go : (b : Bool) → t z ≡ b → (filter t zs ≡ []) ⊎ ((x : A) × (filter t zs ≡ x ∷ [])) → ((if b then z ∷ filter t zs else filter t zs) ≡ []) ⊎ ((x : A) × ((if b then z ∷ filter t zs else filter t zs) ≡ x ∷ []))
    go false is ih = ih
    go true is ih =
        let here : f z ≡ n = each z (inl refl) is in
        inr (z, ap (λ (ys : List A). z ∷ ys) (filter_none t zs (λ x i. none x i (t x) refl here)))
      where
        none : (x : A) → In x zs → (b : Bool) → t x ≡ b → f z ≡ n → t x ≡ false
        none x i false other here = other
        none x i true passes here = absurd (once_head (f z) (map f zs) once (f x) (map-in f zs x i) (here ∙ sym (each x (inr i) passes)))

pub once_front : {A : Type 0} (f : A → ℕ) (xs ys : List A) → each_once (map f (xs ++ ys)) ≡ true → each_once (map f xs) ≡ true
once_front f [] ys once = refl
once_front {A} f (z ∷ zs) ys once =
    rw (all_front (λ k. not (f z == k)) zs ys (and_parts (list_all (λ k. not (f z == k)) (map f (zs ++ ys))) (each_once (map f (zs ++ ys))) once).0) (once_front f zs ys (once_tail (f z) (map f (zs ++ ys)) once))
  where
    all_front : (t : ℕ → Bool) (zs ys : List A) → list_all t (map f (zs ++ ys)) ≡ true → list_all t (map f zs) ≡ true
    all_front t [] ys all = refl
    all_front t (w ∷ ws) ys all =
        let both = and_parts (t (f w)) (list_all t (map f (ws ++ ys))) all in
        rw both.0 (all_front t ws ys both.1)

-- ---- what operations make of the table of principals

-- the certificates of pending operations
abbrev pub certs : List PendingItem → List Cert
certs is = map (λ i. i.cert) is

pub items_stand : (reads : Reading) (t : Table) (is : List PendingItem) → ((i : PendingItem) → In i is → cert.Fits i.cert) → (w : Tree) (a : Table) → w 0 1 ≡ Some (Principals a) → after_items reads t is w 0 1 ≡ Some (Principals (tables_after (certs is) a))
unfolding after_items
items_stand reads t [] each w a stood = stood
items_stand reads t (i ∷ is) each w a stood =
    items_stand reads t is (λ j k. each j (inr k)) (after_read reads (actor_of t i) i.cert.changes w) (table_after i.cert.user i.cert.number i.cert.changes a)
    (stands reads (actor_of t i) i.cert.changes w a (changes_fit i.cert (each i (inl refl))) stood)

-- the view's table is what those on user 0's part make of the one that user 0's handle names
pub view_stands : (reads : Reading) (users : Table) (v : View) → ((i : PendingItem) → In i (items_on v 0) → cert.Fits i.cert)
    → tree reads users v 0 1 ≡ Some (Principals (table_after v.own.cert.user v.own.cert.number v.own.cert.changes (tables_after (certs (filter (comes_after v 0) v.others)) users)))
view_stands reads users v each =
    let others = filter (comes_after v 0) v.others in
    stands reads (actor_of v.table v.own) v.own.cert.changes (tree_before reads users v) (tables_after (certs others) users) (changes_fit v.own.cert (each v.own (in-right v.own others (v.own ∷ []) (inl refl))))
    (items_stand reads v.table others (λ i j. each i (in-left i others (v.own ∷ []) j)) (named reads users v) users refl)

-- another user's operation leaves the table
pub others_leave : (c : Cert) (t : Table) → (c.user == 0) ≡ false → table_after c.user c.number c.changes t ≡ t
others_leave c t other = all_stay c.user c.number c.changes t (ap (λ (b : Bool). b && list_any is_of_table c.changes) other)

-- on user 0's part come its own operations
pub super_comes : (v : View) (i : PendingItem) → comes_after v 0 i ≡ true → i.cert.user ≡ 0
unfolding comes_after
super_comes v i is = eqb-true i.cert.user 0 is

-- ---- a part without changes

none_of_table : (cs : List (Change Digest)) → All change.Fits cs → list_any (λ c. covers scopes.All c.i_number && (c.principal == 0)) cs ≡ false → list_any is_of_table cs ≡ false
none_of_table [] fits none = refl
none_of_table (c ∷ cs) fits none =
    let both = neither (c.principal == 0) (list_any (λ (d : Change Digest). covers scopes.All d.i_number && (d.principal == 0)) cs) none in
    rw (go (is_of_table c) refl both.0) (none_of_table cs (All-tail change.Fits c cs fits) both.1)
  where
    go : (b : Bool) → is_of_table c ≡ b → (c.principal == 0) ≡ false → is_of_table c ≡ false
    go false is other = is
    go true is other =
        let place = table_place c.principal c.i_number (at_table c (All-head change.Fits c cs fits) is) in
        absurd (cc (sym other ∙ eq-eqb c.principal 0 place.0))

and_false : (b : Bool) → (b && false) ≡ false
and_false true = refl
and_false false = refl

one_leaves : (c : Cert) (t : Table) → cert.Fits c → list_any (λ d. covers scopes.All d.i_number && (d.principal == 0)) c.changes ≡ false → table_after c.user c.number c.changes t ≡ t
one_leaves c t fits none =
    all_stay c.user c.number c.changes t (ap (λ (b : Bool). (c.user == 0) && b) (none_of_table c.changes (changes_fit c fits) none) ∙ and_false (c.user == 0))

-- operations without changes of user 0's part leave the table
pub untouched_leave : (is : List PendingItem) (t : Table) → ((i : PendingItem) → In i is → cert.Fits i.cert) → list_any (has_change scopes.All 0) is ≡ false → tables_after (certs is) t ≡ t
untouched_leave [] t each none = refl
untouched_leave (i ∷ is) t each none =
    let both = neither (has_change scopes.All 0 i) (list_any (has_change scopes.All 0) is) none in
    ap (tables_after (certs is)) (one_leaves i.cert t (each i (inl refl)) both.0) ∙ untouched_leave is t (λ j k. each j (inr k)) both.1

-- the last of operations is applied last
pub certs_last : (is : List PendingItem) (i : PendingItem) (t : Table) → tables_after (certs (is ++ i ∷ [])) t ≡ table_after i.cert.user i.cert.number i.cert.changes (tables_after (certs is) t)
certs_last [] i t = refl
certs_last (j ∷ js) i t = certs_last js i (table_after j.cert.user j.cert.number j.cert.changes t)
