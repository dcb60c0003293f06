-- What a client reads of an accepted view is the world of its line.
use Rattle.std.proofs.Common.{◌≡◌, ℕ, zero, suc, ◌+◌, ◌<◌, ◌≤◌, Bool, true, false, List, [], ◌∷◌, ◌++◌, length, Option, Some, None, refl, sym, ap, ◌∙◌, subst, inl, inr, arith, append_assoc, length-append}
use Rattle.std.specs.Prelude.{◌==◌, ◌&&◌, IsSomeAnd, map, nat_le, not, if◌then◌else◌}
use Rattle.std.specs.Int.{w8}
use Rattle.std.proofs.lemmas.Bool.{and_right, cases_Bool, cases_eq, cases_lt, eqb-true, ne_eqb}
use Rattle.std.proofs.lemmas.List.{append_cancel_right, map-append}
use Rattle.layout.specs.Format.{FitRows, after_row}
use Rattle.layout.specs.Laws.{in_range}
use Rattle.layout.specs.Types.{Digest, Key}
use Rattle.principals.specs.Table.{Table, is_listed, lists_user}
use Rattle.update_cert.specs.Cert.{Cert, cert, change_rows}
use Rattle.update_cert.specs.Change.{Action, Make, Put, Remove, Link, Unlink, AddUser, AddMember, DropMember, SetKey, Change, change}
use Rattle.update_cert.specs.Reading.{Reading, read_change, read_changes, void_read}
use Rattle.update_cert.specs.World.{Actor, Content, Tree, after_change, content_after, has_effect, void_from}
use Rattle.pending_list.specs.Reply.{PendingItem}
use Rattle.reply_rules.specs.Lists.{items, pending}
use Rattle.client_tree.specs.View.{actor_of, handle_of, lost, tree, tree_before}
use Rattle.agreement.specs.Runs.{AreAccepted, NoViewCollision, View, reply_of}
use Rattle.agreement.specs.Lines.{line}
use Rattle.agreement.specs.Worlds.{AreWorlds, IsGuarded, JudgeAsWorld, acts_in, IsHonest, LoseVoid, NameFirst, actor_in, view_in, world, AllListed, table_in}
use Rattle.agreement.proofs.Plans
use Rattle.agreement.proofs.Members.{In, contains_in, in-middle, map-in, in-left, in-split}
use Rattle.agreement.proofs.Formed.{cert_fits}
use Rattle.agreement.proofs.Runs.{accepted_in, none_collide, of_view, valid_by_plans}
use Rattle.agreement.proofs.Lines.{cert_in_item, unmap}
use Rattle.agreement.proofs.TreeParts.{Part, after_part, part_forbidden, count}
use Rattle.agreement.proofs.LineItems.{bare, has_number, has_user, in_whole, whole, whole_certs, whole_ends, is_line, operations, operations_plans, plan_line, same_operations, whole_plans}
use Rattle.agreement.proofs.UserParts.{actor_is, same_table, user_base, user_before, user_world, line_kept, table_world, version_is}
use Rattle.agreement.proofs.GroupParts.{group_base, group_before, group_whole, line_item, pending_in_line}
use Rattle.version_order.specs.Vector.{version_of}
use Rattle.version_order.specs.Plan.{Plan}
use Rattle.version_order.specs.declared.plan.Entry.{Entry}
use Rattle.pending_list.specs.Groups.{table_version}
use Rattle.reply_rules.specs.Rules.{is_known}
use Rattle.agreement.proofs.Tests.{all_in}
use Rattle.agreement.proofs.ByPlans.{parts, pending_plans, plan_in_item, shape}
use Rattle.agreement.proofs.TableGrowth.{listed_some}

-- ---- void changes are told by the parts of principals alone

in_place : {X : Type 0} (p i : ℕ) (first : Bool) (found : Option X) (P : X → Type 0) → (p == 0) ≡ first → IsSomeAnd (if (p == 0) && (i == 1) then found else None) P → p < 96
in_place p i true found P is fits = let zero = eqb-true p 0 is in omega (arith, zero)
in_place p i false found P is fits = absurd (rw is at fits)

below : (p i : ℕ) (a : Action Digest) → change.Fits (record { principal = p; i_number = i; action = a }) → p < 96
below p i (Make new) fits = let range = in_range w8 0 95 p fits.1.0 in omega (arith, range.1)
below p i (Put new) fits = let range = in_range w8 0 95 p fits.1.0 in omega (arith, range.1)
below p i Remove fits = let range = in_range w8 0 95 p fits.1.0 in omega (arith, range.1)
below p i (Link entry) fits = let range = in_range w8 0 95 p fits.1.0 in omega (arith, range.1)
below p i (Unlink name) fits = let range = in_range w8 0 95 p fits.1.0 in omega (arith, range.1)
below p i (AddUser u key) fits = in_place p i (p == 0) _ _ refl fits.1
below p i (AddMember g u) fits = in_place p i (p == 0) _ _ refl fits.1
below p i (DropMember g u) fits = in_place p i (p == 0) _ _ refl fits.1
below p i (SetKey u key) fits = in_place p i (p == 0) _ _ refl fits.1

rows_below : (b : Option (Change Digest)) (cs : List (Change Digest)) → FitRows (after_row change_rows) b cs → (c : Change Digest) → In c cs → c.principal < 96
unfolding FitRows
rows_below b [] fits c i = absurd i
rows_below b (d ∷ cs) fits c (inl i) = subst (λ (c : Change Digest). c.principal < 96) (sym i) (below d.principal d.i_number d.action fits.0)
rows_below b (d ∷ cs) fits c (inr i) = rows_below (Some d) cs fits.1 c i

cert_below : (c : Cert) → cert.Fits c → (d : Change Digest) → In d c.changes → d.principal < 96
cert_below c fits d i = rows_below None c.changes fits.1.1.1.1.1 d i

after_same : (a : Actor) (c : Change Content) (w u : Tree) (p : ℕ) → w p ≡ u p → after_change a c w p ≡ after_change a c u p
after_same a c w u p e = ap (λ (part : Part). λ (i : ℕ). if (p == c.principal) && (i == c.i_number) then content_after a c (part i) else part i) e

void_same : (reads : Reading) (n : ℕ) (a : Actor) (cs : List (Change Digest)) (w u : Tree) → ((c : Change Digest) → In c cs → c.principal < 96) → ((p : ℕ) → p < 96 → w p ≡ u p)
    → void_from n a (λ _. true) (read_changes reads cs) w ≡ void_from n a (λ _. true) (read_changes reads cs) u
unfolding void_from
void_same reads n a [] w u each same = refl
void_same reads n a (c ∷ cs) w u each same =
    go (has_effect a (read_change reads c) (w c.principal c.i_number)) (has_effect a (read_change reads c) (u c.principal c.i_number))
    (ap (λ (part : Part). has_effect a (read_change reads c) (part c.i_number)) (same c.principal (each c (inl refl))))
    (λ m. void_same reads m a cs (after_change a (read_change reads c) w) (after_change a (read_change reads c) u) (λ d i. each d (inr i)) (λ p l. after_same a (read_change reads c) w u p (same p l)))
  where
    go : (b d : Bool) → b ≡ d
        → ((m : ℕ) → void_from m a (λ _. true) (read_changes reads cs) (after_change a (read_change reads c) w) ≡ void_from m a (λ _. true) (read_changes reads cs) (after_change a (read_change reads c) u))
        → (if not b then n ∷ void_from (n + 1) a (λ _. true) (read_changes reads cs) (after_change a (read_change reads c) w) else void_from (n + 1) a (λ _. true) (read_changes reads cs) (after_change a (read_change reads c) w))
        ≡ (if not d then n ∷ void_from (n + 1) a (λ _. true) (read_changes reads cs) (after_change a (read_change reads c) u) else void_from (n + 1) a (λ _. true) (read_changes reads cs) (after_change a (read_change reads c) u))
    go true true e ih = ih (n + 1)
    go false false e ih = ap (λ (ns : List ℕ). n ∷ ns) (ih (n + 1))
    go true false e ih = cc
    go false true e ih = cc

-- ---- trees

module _ (reads : Reading) (key : Key) (run : List View) (first : NameFirst reads key) (v : AreAccepted run) (nc : NoViewCollision run) (all : (x : View) → In x run → IsHonest reads key x) where
  -- by induction on the length of the line
  group_world : (n : ℕ) (x : View) → (i : In x run) → length (whole run x) ≤ n → (g : ℕ) → 64 ≤ g → g < 96
      → tree reads (all x i).users (view_in key x) g ≡ world reads key (map cert_in_item (whole run x)) g
  group_world zero x i l g low high =
      let (b, e) = whole_ends run v nc x i in
      let k = ap length e ∙ length-append b (bare x.lists.own ∷ []) in
      absurd (omega arith)
  group_world (suc n) x i l g low high =
      group_whole reads key run first v nc all x i g low high
      (group_base reads key run first v nc all x i g low high (λ w j m. group_world n w j (omega arith) g low high))

  tree_is : (x : View) → (i : In x run) → (p : ℕ) → p < 96 → tree reads (all x i).users (view_in key x) p ≡ world reads key (line run x) p
  tree_is x i p l =
      elim (cases_lt p 64) [
        | inl user ↦ user_world reads key run first v nc all x i p user
        | inr group ↦ group_world (length (whole run x)) x i (omega arith) p group l ∙ ap (λ cs. world reads key cs p) (whole_certs run x)
      ]

  tree_before_is : (x : View) → (i : In x run) → (before : List PendingItem) → whole run x ≡ before ++ bare x.lists.own ∷ [] → (p : ℕ) → p < 96
      → tree_before reads (all x i).users (view_in key x) p ≡ world reads key (map cert_in_item before) p
  tree_before_is x i before e p l =
      elim (cases_lt p 64) [
        | inl user ↦ (
            let b = user_base reads key run first v nc all (length (whole run x)) x i (omega arith) p user in
            user_before reads key x (all x i) (whole run x) p user b ∙ ap (λ z. world reads key (map cert_in_item z) p) (cut b.front b.rest b.is_whole))
        | inr group ↦ (
            let b = group_base reads key run first v nc all x i p group l (λ w j m. group_world (length (whole run w)) w j (omega arith) p group l) in
            group_before reads key run first v nc all x i p group l b ∙ ap (λ z. world reads key (map cert_in_item z) p) (cut b.front b.rest b.is_whole))
      ]
    where
      cut : (front rest : List PendingItem) → whole run x ≡ front ++ (rest ++ bare x.lists.own ∷ []) → front ++ rest ≡ before
      cut front rest f = append_cancel_right (front ++ rest) before (bare x.lists.own ∷ []) (append_assoc front rest (bare x.lists.own ∷ []) ∙ sym f ∙ e)

  -- the table that a view's handle of user 0 names is told by the handle
  users_same : (x : View) (one other : IsHonest reads key x) → one.users ≡ other.users
  users_same x one other = same_table reads (handle_of (view_in key x) 0) one.users other.users one.users_fit other.users_fit one.named other.named

  pub are_worlds : AreWorlds reads key run
  are_worlds x contains honest p i l =
      let there = contains_in x run contains in
      ap (λ (users : Table). tree reads users (view_in key x) p i) (users_same x honest (all x there))
      ∙ ap (λ (part : Part). part i) (tree_is x there p l)

  pub lose_void : LoseVoid reads key run
  lose_void x contains honest before e =
      let i = contains_in x run contains in
      let (b, f) = whole_ends run v nc x i in
      let same : map cert_in_item b ≡ before
      = append_cancel_right (map cert_in_item b) before (x.lists.own.cert ∷ [])
      (sym (map-append cert_in_item b (bare x.lists.own ∷ [])) ∙ ap (map cert_in_item) (sym f) ∙ whole_certs run x ∙ e) in
      let fits = cert_fits (reply_of x) (accepted_in run v x i).1.read x.lists.own (in-middle x.lists.own x.lists.others []) in
      ap (λ (users : Table). lost reads users (view_in key x)) (users_same x honest (all x i))
      ∙ void_same reads 1 (actor_of x.table x.lists.own) x.lists.own.cert.changes (tree_before reads (all x i).users (view_in key x)) (world reads key (map cert_in_item b)) (cert_below x.lists.own.cert fits) (λ p l. tree_before_is x i b f p l)
      ∙ ap (λ a. void_read reads a x.lists.own.cert.changes (world reads key (map cert_in_item b))) (actor_is reads key run first v nc all x i b (bare x.lists.own) [] f)
      ∙ ap (λ (l : List Cert). void_read reads (actor_in (world reads key l) x.lists.own.cert) x.lists.own.cert.changes (world reads key l)) same

  pub judge_as_world : JudgeAsWorld reads key run
  judge_as_world x i contains pending before after e g =
      let there = contains_in x run contains in
      let (b, o, a, cut, of_b, of_o, of_a) = unmap cert_in_item (whole run x) before i.cert after (whole_certs run x ∙ e) in
      let o_in : In o (whole run x) = subst (λ l. In o l) (sym cut) (in-middle o b a) in
      let i_in = pending_in_line reads key run first v nc all x there (bare i) (map-in bare (items x.lists) i (contains_in i (items x.lists) pending)) in
      let o_is = in_whole run v nc x o o_in in
      let i_is = in_whole run v nc x (bare i) i_in in
      let user : o.plan.user ≡ i.plan.user = has_user run v nc o o_is ∙ ap (λ (c : Cert). c.user) of_o ∙ sym (has_user run v nc (bare i) i_is) in
      let number : o.plan.number ≡ i.plan.number = has_number run v nc o o_is ∙ ap (λ (c : Cert). c.number) of_o ∙ sym (has_number run v nc (bare i) i_is) in
      let same : o ≡ bare i = line_item reads key run first v nc all x there (bare i) o i_in o_in user number in
      let acts = ap (λ (a : Actor). a.member g) (actor_is reads key run first v nc all x there b (bare i) a (cut ∙ ap (λ (o : PendingItem). b ++ o ∷ a) same)) in
      acts ∙ ap (λ (l : List Cert). acts_in (world reads key l) i.cert g) of_b

  -- of an operation that is pending in a view
  listed_there : (y : View) → In y run → (b : List PendingItem) (o : PendingItem) (a : List PendingItem) → whole run y ≡ b ++ o ∷ a → In o (operations y)
      → lists_user (table_in (world reads key (map cert_in_item b))) o.plan.user ≡ true
  listed_there y j b o a e k =
      let (t, kept, since_first) = line_kept reads key run first v nc all y j b (o ∷ a) e in
      let w = world reads key (map cert_in_item b) in
      elim (cases_eq o.plan.user 0) [
        | inl z ↦ ap (lists_user (table_in w)) z ∙ listed_some (table_in w) 0 0 (since_first.listed_same 0 0 (omega arith))
        | inr n ↦ (
            let accepted = (accepted_in run v y j).1 in
            let is = version_is reads key run first v nc all y j b o a e in
            let at : table_version o.plan ≡ version_of 0 o.plan.vector = rw (ne_eqb o.plan.user 0 n) refl in
            let pending_plan = subst (λ (ps : List Plan). In o.plan ps) (operations_plans y ∙ sym (pending_plans y.lists)) (map-in plan_in_item (operations y) o k) in
            let rule = all_in (is_known y.table) (pending y.lists) (parts y.table y.lists accepted.read accepted.lists accepted.rules).known o.plan pending_plan in
            let known : is_listed (table_in (world reads key (line run y))) o.plan.user (count reads 0 (map cert_in_item b)) ≡ true
            = ap (is_listed (table_in (world reads key (line run y))) o.plan.user) (sym is ∙ at) ∙ ap (λ z. is_listed z o.plan.user (version_of 0 o.plan.vector)) (table_world reads key run first v nc all y j) ∙ rule in
            listed_some (table_in w) o.plan.user (count reads 0 (map cert_in_item b)) (sym (kept.listed_same o.plan.user (count reads 0 (map cert_in_item b)) (omega arith)) ∙ known))
      ]

  pub all_listed : AllListed reads key run
  all_listed x contains before c after e =
      let there = contains_in x run contains in
      let (b, o, a, cut, of_b, of_o, of_a) = unmap cert_in_item (whole run x) before c after (whole_certs run x ∙ e) in
      let o_in : In o (whole run x) = subst (λ l. In o l) (sym cut) (in-middle o b a) in
      let (i, (y, j, k), is) = in_whole run v nc x o o_in in
      let o_there : In o (operations y) = subst (λ o. In o (operations y)) (sym is) (map-in bare (items y.lists) i k) in
      let (front, back, cut_y) = in-split o (whole run y) (pending_in_line reads key run first v nc all y j o o_there) in
      let same_plans : map plan_in_item b ≡ map plan_in_item front
      = Plans.same_before Plan Entry shape (map of_view run) (valid_by_plans run v) (none_collide run v nc) (of_view x) (of_view y) (plan_line run x) (plan_line run y) (is_line run v nc x there) (is_line run v nc y j)
      (length (map plan_in_item b)) (map plan_in_item b) (map plan_in_item front) o.plan (map plan_in_item a) (map plan_in_item back) (omega arith)
      (sym (whole_plans run x) ∙ ap (map plan_in_item) cut ∙ map-append plan_in_item b (o ∷ a)) (sym (whole_plans run y) ∙ ap (map plan_in_item) cut_y ∙ map-append plan_in_item front (o ∷ back)) in
      let same : b ≡ front = same_operations run v nc b front
      (λ q r. in_whole run v nc x q (subst (λ l. In q l) (sym cut) (in-left q b (o ∷ a) r)))
      (λ q r. in_whole run v nc y q (subst (λ l. In q l) (sym cut_y) (in-left q front (o ∷ back) r))) same_plans in
      subst (λ (u : ℕ). lists_user (table_in (world reads key before)) u ≡ true) (has_user run v nc o (in_whole run v nc x o o_in) ∙ ap (λ (c : Cert). c.user) of_o)
      (subst (λ (l : List Cert). lists_user (table_in (world reads key l)) o.plan.user ≡ true) (ap (map cert_in_item) (sym same) ∙ of_b)
      (listed_there y j front o back cut_y o_there))

-- ---- any operation

pub guarded : (reads : Reading) (w : Tree) (c : Cert) → IsGuarded reads w c
guarded reads w c p =
    elim (cases_eq p c.user) [
      | inl own ↦ inl (inl own)
      | inr other ↦ elim (cases_Bool (acts_in w c p)) [
        | inl acts ↦ inl (inr acts)
        | inr out ↦ inr (λ i.
            ap (λ (part : Part). part i)
            (after_part (actor_in w c) (read_changes reads c.changes) w p
            ∙ part_forbidden (actor_in w c) p (read_changes reads c.changes) (w p) (record { other = other; outside = and_right (nat_le 64 p) (acts_in w c p) out })))
      ]
    ]
