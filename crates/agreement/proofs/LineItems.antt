-- The operations of a line with their plans, and without their signatures: so one operation is the same in all views.
use Rattle.std.proofs.Common.{◌≡◌, suc, List, [], ◌∷◌, ◌++◌, length, Bool, refl, sym, ap, ◌∙◌, subst, inl, inr}
use Rattle.std.specs.Prelude.{map}
use Rattle.std.specs.List.{filter}
use Rattle.std.proofs.lemmas.List.{map-append}
use Rattle.reply_rules.proofs.Tests.{filter-map}
use Rattle.version_order.specs.declared.plan.Entry.{Entry}
use Rattle.version_order.specs.Plan.{Plan}
use Rattle.update_cert.specs.Cert.{Cert}
use Rattle.pending_list.specs.Reply.{PendingItem}
use Rattle.reply_rules.specs.Lists.{items}
use Rattle.agreement.specs.Runs.{AreAccepted, NoViewCollision, View, number_of, user_of}
use Rattle.agreement.specs.Lines.{line}
use Rattle.agreement.proofs.Plans
use Rattle.agreement.proofs.Members.{In, in-filter, in-left, in-map, in-middle, in-right, map-in}
use Rattle.agreement.proofs.ByPlans.{pending_plans, plan_in_item, shape}
use Rattle.agreement.proofs.Runs.{IsPending, is_of_cert, none_collide, of_view, same_cert, valid_by_plans}
use Rattle.agreement.proofs.Lines.{cert_in_item, items_at, line_certs, line_pending, line_plans, unmap, unmap_front}

-- an operation without its signature
abbrev pub bare : PendingItem → PendingItem
bare i = record { cert = i.cert; signature = []; plan = i.plan }

bare_plans : (is : List PendingItem) → map plan_in_item (map bare is) ≡ map plan_in_item is
bare_plans [] = refl
bare_plans (i ∷ is) = ap (λ (ps : List Plan). i.plan ∷ ps) (bare_plans is)

bare_certs : (is : List PendingItem) → map cert_in_item (map bare is) ≡ map cert_in_item is
bare_certs [] = refl
bare_certs (i ∷ is) = ap (λ (cs : List Cert). i.cert ∷ cs) (bare_certs is)

-- the pending operations of a view
abbrev pub operations : View → List PendingItem
operations x = map bare (items x.lists)

pub operations_end : (x : View) → operations x ≡ map bare x.lists.others ++ bare x.lists.own ∷ []
operations_end x = map-append bare x.lists.others (x.lists.own ∷ [])

pub operations_plans : (x : View) → map plan_in_item (operations x) ≡ map plan_in_item x.lists.others ++ x.lists.own.plan ∷ []
operations_plans x = bare_plans (items x.lists) ∙ pending_plans x.lists

-- those of its line
abbrev pub whole : List View → View → List PendingItem
whole run x = map bare (items_at run (user_of x) (number_of x))

pub whole_certs : (run : List View) (x : View) → map cert_in_item (whole run x) ≡ line run x
whole_certs run x = bare_certs (items_at run (user_of x) (number_of x)) ∙ line_certs run (user_of x) (number_of x)

-- the plans of a line
abbrev pub plan_line : List View → View → List Plan
plan_line run x = Plans.line Plan Entry shape (map of_view run) (of_view x)

pub whole_plans : (run : List View) (x : View) → map plan_in_item (whole run x) ≡ plan_line run x
whole_plans run x = bare_plans (items_at run (user_of x) (number_of x)) ∙ line_plans run (user_of x) (number_of x)

map_length : (is : List PendingItem) → length (map plan_in_item is) ≡ length is
map_length [] = refl
map_length (i ∷ is) = ap suc (map_length is)

pub whole_length : (run : List View) (x : View) → length (whole run x) ≡ length (plan_line run x)
whole_length run x = sym (map_length (whole run x)) ∙ ap length (whole_plans run x)

module _ (run : List View) (v : AreAccepted run) (nc : NoViewCollision run) where
  -- an operation that is pending in a view of the run
  abbrev pub IsOperation : PendingItem → Type 0
  IsOperation i = (j : PendingItem) × IsPending run j × (i ≡ bare j)

  pub in_whole : (x : View) (i : PendingItem) → In i (whole run x) → IsOperation i
  in_whole x i h =
      let (j, k, e) = in-map bare (items_at run (user_of x) (number_of x)) i h in
      (j, line_pending run (user_of x) (number_of x) j k, e)

  pub in_operations : (x : View) → In x run → (i : PendingItem) → In i (operations x) → IsOperation i
  in_operations x there i h = let (j, k, e) = in-map bare (items x.lists) i h in (j, (x, there, k), e)

  pub same_operation : (i j : PendingItem) → IsOperation i → IsOperation j → i.plan ≡ j.plan → i ≡ j
  same_operation i j o p e =
      let plans : o.0.plan ≡ p.0.plan = sym (ap plan_in_item o.2) ∙ e ∙ ap plan_in_item p.2 in
      let certs : o.0.cert ≡ p.0.cert = same_cert run v nc o.0 p.0 o.1 p.1 plans in
      o.2
      ∙ ap (λ (c : Cert). record { cert = c; signature = []; plan = o.0.plan }) certs
      ∙ ap (λ (q : Plan). record { cert = p.0.cert; signature = []; plan = q }) plans
      ∙ sym p.2

  pub same_operations : (is js : List PendingItem) → ((i : PendingItem) → In i is → IsOperation i) → ((j : PendingItem) → In j js → IsOperation j)
      → map plan_in_item is ≡ map plan_in_item js → is ≡ js
  same_operations [] [] o p e = refl
  same_operations [] (j ∷ js) o p e = cc
  same_operations (i ∷ is) [] o p e = cc
  same_operations (i ∷ is) (j ∷ js) o p e =
      let head : i.plan ≡ j.plan = cc in
      let rest : map plan_in_item is ≡ map plan_in_item js = cc in
      let same = same_operation i j (o i (inl refl)) (p j (inl refl)) head in
      let ih = same_operations is js (λ k r. o k (inr r)) (λ k r. p k (inr r)) rest in
      ap (λ (k : PendingItem). k ∷ is) same ∙ ap (λ (ks : List PendingItem). j ∷ ks) ih

  -- an operation has its plan's user
  pub has_user : (i : PendingItem) → IsOperation i → i.plan.user ≡ i.cert.user
  has_user i o = ap (λ (i : PendingItem). i.plan.user) o.2 ∙ (is_of_cert run v nc o.0 o.1).0 ∙ sym (ap (λ (i : PendingItem). i.cert.user) o.2)

  -- and its number
  pub has_number : (i : PendingItem) → IsOperation i → i.plan.number ≡ i.cert.number
  has_number i o = ap (λ (i : PendingItem). i.plan.number) o.2 ∙ (is_of_cert run v nc o.0 o.1).1 ∙ sym (ap (λ (i : PendingItem). i.cert.number) o.2)

  pub own_operation : (x : View) → In x run → IsOperation (bare x.lists.own)
  own_operation x i = (x.lists.own, (x, i, in-middle x.lists.own x.lists.others []), refl)

  pub in_run : (x : View) → In x run → In (of_view x) (map of_view run)
  in_run x i = map-in of_view run x i

  pub is_line : (x : View) → In x run → Plans.IsLine Plan Entry shape (map of_view run) (of_view x) (plan_line run x)
  is_line x i = Plans.is_line Plan Entry shape (map of_view run) (valid_by_plans run v) (none_collide run v nc) (of_view x) (in_run x i)

  -- a line ends with the own operation
  pub whole_ends : (x : View) → In x run → (before : List PendingItem) × (whole run x ≡ before ++ bare x.lists.own ∷ [])
  whole_ends x i =
      let g = is_line x i in
      let (b, o, a, cut, of_b, of_o, of_a) = unmap plan_in_item (whole run x) g.ends.0 x.lists.own.plan [] (whole_plans run x ∙ g.ends.1) in
      let there = in_whole x o (subst (λ l. In o l) (sym cut) (in-middle o b a)) in
      let same : o ≡ bare x.lists.own = same_operation o (bare x.lists.own) there (own_operation x i) of_o in
      let none : a ≡ [] = same_operations a [] (λ q r. in_whole x q (subst (λ l. In q l) (sym cut) (in-right q b (o ∷ a) (inr r)))) (λ q r. absurd r) of_a in
      (b, cut ∙ ap (λ q. b ++ q ∷ a) same ∙ ap (λ l. b ++ bare x.lists.own ∷ l) none)

  -- a cut of the plans is one of the operations
  pub cut_whole : (x y : View) → (a : List Plan) → plan_line run x ≡ plan_line run y ++ a
      → (c : List PendingItem) × (whole run x ≡ whole run y ++ c) × (map plan_in_item c ≡ a)
  cut_whole x y a e =
      let t : map plan_in_item (whole run x) ≡ map plan_in_item (whole run y) ++ a = whole_plans run x ∙ e ∙ ap (λ l. l ++ a) (sym (whole_plans run y)) in
      let (front, back, cut, of_front, of_back) = unmap_front plan_in_item (whole run x) (map plan_in_item (whole run y)) a t in
      let same : front ≡ whole run y = same_operations front (whole run y) (λ q r. in_whole x q (subst (λ l. In q l) (sym cut) (in-left q front back r))) (λ q r. in_whole y q r) of_front in
      (back, cut ∙ ap (λ l. l ++ back) same, of_back)

  -- operations that are kept on both sides, by their plans
  pub same_kept : (t u : Plan → Bool) (is js : List PendingItem) → ((i : PendingItem) → In i is → IsOperation i) → ((j : PendingItem) → In j js → IsOperation j)
      → filter t (map plan_in_item is) ≡ filter u (map plan_in_item js) → filter (λ i. t i.plan) is ≡ filter (λ i. u i.plan) js
  same_kept t u is js o p e =
      same_operations (filter (λ (i : PendingItem). t i.plan) is) (filter (λ (i : PendingItem). u i.plan) js)
      (λ i k. o i (in-filter (λ (i : PendingItem). t i.plan) i is k).0) (λ j k. p j (in-filter (λ (i : PendingItem). u i.plan) j js k).0)
      (sym (filter-map t plan_in_item is) ∙ e ∙ filter-map u plan_in_item js)
