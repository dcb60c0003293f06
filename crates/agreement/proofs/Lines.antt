-- The lines of a run: those of its plans, with their certificates.
use Rattle.std.proofs.Common.{◌≡◌, ℕ, ◌+◌, List, [], ◌∷◌, ◌++◌, length, Option, Some, None, Bool, true, false, refl, sym, ap, ◌∙◌, subst, inl, inr, arith, append_assoc}
use Rattle.std.specs.Prelude.{◌==◌, ◌&&◌, map, if◌then◌else◌}
use Rattle.std.specs.List.{filter}
use Rattle.std.specs.Option.{option_map_or}
use Rattle.std.proofs.lemmas.Bool.{eq-eqb, ne_eqb}
use Rattle.std.proofs.lemmas.List.{map-append}
use Rattle.version_order.specs.declared.plan.Entry.{Entry}
use Rattle.version_order.specs.Plan.{Plan}
use Rattle.version_order.specs.Structure.{Structure}
use Rattle.update_cert.specs.Cert.{Cert}
use Rattle.pending_list.specs.declared.signed.Signed.{Signed}
use Rattle.pending_list.specs.Reply.{PendingItem}
use Rattle.reply_rules.specs.Lists.{Lists, items, pending, shown}
use Rattle.reply_rules.specs.Rules.{above, is_above, items_above, top_plan}
use Rattle.reply_rules.proofs.Above.{above_plans}
use Rattle.agreement.specs.Runs.{AreAccepted, NoViewCollision, View, number_of, structures, user_of}
use Rattle.agreement.specs.Lines.{Agree, AgreeByPlans, AreNumbered, EndWithOwn, EndsWith, Grow, Has, HasPlan, IsBeginning, IsNumbered, line, line_at}
use Rattle.agreement.proofs.Plans
use Rattle.agreement.proofs.Members.{In, contains_in, in_contains, in-append, in-filter, in-left, in-map, in-middle, in-right, map-in, one, one-cases, to_all}
use Rattle.agreement.proofs.ByPlans.{Count, pending_plans, plan_in_item, plan_shown, shape}
use Rattle.agreement.proofs.Runs.{IsPending, is_of_cert, names_cert, none_collide, of_view, same_cert, same_certs, signed_plan, valid_by_plans}

abbrev pub cert_in_item : PendingItem → Cert
cert_in_item i = i.cert

-- ---- a map that is cut

pub unmap : {A B : Type 0} (f : A → B) (xs : List A) (b : List B) (y : B) (a : List B) → map f xs ≡ b ++ y ∷ a
    → (front : List A) × (x : A) × (back : List A) × (xs ≡ front ++ x ∷ back) × (map f front ≡ b) × (f x ≡ y) × (map f back ≡ a)
unmap f [] [] y a e = cc
unmap f [] (z ∷ b) y a e = cc
unmap f (x ∷ xs) [] y a e = ([], x, xs, refl, refl, cc, cc)
unmap f (x ∷ xs) (z ∷ b) y a e =
    let h : f x ≡ z = cc in
    let t : map f xs ≡ b ++ y ∷ a = cc in
    let r = unmap f xs b y a t in
    (x ∷ r.0, r.1, r.2, ap (λ l. x ∷ l) r.3, cc (r.4), r.5, r.6)

pub unmap_front : {A B : Type 0} (f : A → B) (xs : List A) (b a : List B) → map f xs ≡ b ++ a → (front : List A) × (back : List A) × (xs ≡ front ++ back) × (map f front ≡ b) × (map f back ≡ a)
unmap_front f xs [] a e = ([], xs, refl, refl, e)
unmap_front f [] (z ∷ b) a e = cc
unmap_front f (x ∷ xs) (z ∷ b) a e =
    let h : f x ≡ z = cc in
    let t : map f xs ≡ b ++ a = cc in
    let r = unmap_front f xs b a t in
    (x ∷ r.0, r.1, ap (λ l. x ∷ l) r.2, cc (r.3), r.4)

-- ---- a line with its plans

-- the line of the view that this user accepted at this number, with the plans
abbrev pub items_at : List View → ℕ → ℕ → List PendingItem
items_at [] u n = []
items_at (x ∷ older) u n =
    if (user_of x == u) && (number_of x == n)
    then option_map_or (λ t. items_at older t.user t.number) (top_plan x.lists) [] ++ items_above x.lists
    else items_at older u n

pub line_certs : (run : List View) (u n : ℕ) → map cert_in_item (items_at run u n) ≡ line_at run u n
line_certs [] u n = refl
line_certs (x ∷ older) u n = go ((user_of x == u) && (number_of x == n)) (top_plan x.lists) (line_certs older)
  where
    go : (here : Bool) (t : Option Plan) → ((u n : ℕ) → map cert_in_item (items_at older u n) ≡ line_at older u n)
        → map cert_in_item (if here then option_map_or (λ t. items_at older t.user t.number) t [] ++ items_above x.lists else items_at older u n)
        ≡ (if here then option_map_or (λ t. line_at older t.user t.number) t [] ++ map cert_in_item (items_above x.lists) else line_at older u n)
    go false t ih = ih u n
    go true None ih = refl
    go true (Some t) ih = map-append cert_in_item (items_at older t.user t.number) (items_above x.lists) ∙ ap (λ l. l ++ map cert_in_item (items_above x.lists)) (ih t.user t.number)

pub line_plans : (run : List View) (u n : ℕ) → map plan_in_item (items_at run u n) ≡ Plans.line_at Plan Entry shape (map of_view run) u n
line_plans [] u n = refl
line_plans (x ∷ older) u n = go ((user_of x == u) && (number_of x == n)) (top_plan x.lists) (line_plans older)
  where
    go : (here : Bool) (t : Option Plan) → ((u n : ℕ) → map plan_in_item (items_at older u n) ≡ Plans.line_at Plan Entry shape (map of_view older) u n)
        → map plan_in_item (if here then option_map_or (λ t. items_at older t.user t.number) t [] ++ items_above x.lists else items_at older u n)
        ≡ (if here then Plans.base Plan Entry shape (Plans.line_at Plan Entry shape (map of_view older)) t ++ above x.lists else Plans.line_at Plan Entry shape (map of_view older) u n)
    go false t ih = ih u n
    go true None ih = sym (above_plans x.lists)
    go true (Some t) ih =
        map-append plan_in_item (items_at older t.user t.number) (items_above x.lists)
        ∙ ap (λ l. l ++ map plan_in_item (items_above x.lists)) (ih t.user t.number)
        ∙ ap (λ l. Plans.line_at Plan Entry shape (map of_view older) t.user t.number ++ l) (sym (above_plans x.lists))

above_in : (x : Lists) (i : PendingItem) → In i (items_above x) → In i (items x)
above_in x i h = (in-filter (λ i. is_above x i.plan) i (items x) h).0

-- each operation of a line is pending in a view of the run
pub line_pending : (run : List View) (u n : ℕ) (i : PendingItem) → In i (items_at run u n) → IsPending run i
line_pending [] u n i h = absurd h
line_pending (x ∷ older) u n i h = go ((user_of x == u) && (number_of x == n)) (top_plan x.lists) h (λ u n. line_pending older u n i)
  where
    go : (here : Bool) (t : Option Plan) → In i (if here then option_map_or (λ t. items_at older t.user t.number) t [] ++ items_above x.lists else items_at older u n)
        → ((u n : ℕ) → In i (items_at older u n) → IsPending older i) → IsPending (x ∷ older) i
    go false t h ih = let r = ih u n h in (r.0, inr r.1, r.2)
    go true None h ih = (x, inl refl, above_in x.lists i h)
    go true (Some t) h ih =
        elim (in-append i (items_at older t.user t.number) (items_above x.lists) h) [
          | inl k ↦ (let r = ih t.user t.number k in (r.0, inr r.1, r.2))
          | inr k ↦ (x, inl refl, above_in x.lists i k)
        ]

-- ---- the laws

module _ (run : List View) (v : AreAccepted run) (nc : NoViewCollision run) where
  abbrev line_items : View → List PendingItem
  line_items x = items_at run (user_of x) (number_of x)

  certs : (x : View) → map cert_in_item (line_items x) ≡ line run x
  certs x = line_certs run (user_of x) (number_of x)

  plans : (x : View) → map plan_in_item (line_items x) ≡ Plans.line Plan Entry shape (map of_view run) (of_view x)
  plans x = line_plans run (user_of x) (number_of x)

  are_pending : (x : View) (i : PendingItem) → In i (line_items x) → IsPending run i
  are_pending x i h = line_pending run (user_of x) (number_of x) i h

  in_run : (x : View) → In x run → In (of_view x) (map of_view run)
  in_run x i = map-in of_view run x i

  -- ---- numbers

  one_counted : (u w k : ℕ) (cs : List Cert) → k ≡ length (filter (λ c. c.user == u) cs) → (c : Cert) → c.user ≡ w → one u w + k ≡ length (filter (λ c. c.user == u) (c ∷ cs))
  one_counted u w k cs e c is =
      elim (one-cases u w) [
        | inl same ↦ (let o = same.1 in rw (eq-eqb c.user u (is ∙ sym same.0)) (omega arith))
        | inr other ↦ (let o = other.1 in rw (ne_eqb c.user u (λ m. other.0 (sym m ∙ is))) (omega arith))
      ]

  pub counted : (u : ℕ) (is : List PendingItem) → ((i : PendingItem) → In i is → IsPending run i) → Count u (map plan_in_item is) ≡ length (filter (λ c. c.user == u) (map cert_in_item is))
  counted u [] o = refl
  counted u (i ∷ is) o =
      one_counted u i.plan.user (Count u (map plan_in_item is)) (map cert_in_item is) (counted u is (λ j r. o j (inr r))) i.cert
      (sym (is_of_cert run v nc i (o i (inl refl))).0)

  pub line_numbered : (x : View) → In x run → IsNumbered (line run x)
  line_numbered x i before c after e =
      let (b, o, a, cut, of_b, of_o, of_a) = unmap cert_in_item (line_items x) before c after (certs x ∙ e) in
      let k = Plans.counts Plan Entry shape (map of_view run) (valid_by_plans run v) (none_collide run v nc) (of_view x) (in_run x i) (map plan_in_item b) o.plan (map plan_in_item a)
      (sym (plans x) ∙ ap (map plan_in_item) cut ∙ map-append plan_in_item b (o ∷ a)) in
      let n = k.of_number in
      let is_of = is_of_cert run v nc o (are_pending x o (subst (λ l. In o l) (sym cut) (in-middle o b a))) in
      let (of_user, of_number) = is_of in
      let last = Plans.count-append Plan Entry shape o.plan.user (map plan_in_item b) (o.plan ∷ []) in
      let own = one_self o.plan.user in
      let front = counted o.plan.user b (λ q r. are_pending x q (subst (λ l. In q l) (sym cut) (in-left q b (o ∷ a) r))) in
      let same = ap (λ cs. length (filter (λ b. b.user == o.plan.user) cs)) of_b in
      let user : o.plan.user ≡ c.user = of_user ∙ ap (λ (c : Cert). c.user) of_o in
      let turned = ap (λ u. length (filter (λ b. b.user == u) before)) user in
      let number = ap (λ (c : Cert). c.number) of_o in
      omega arith
    where
      one_self : (u : ℕ) → one u u ≡ 1
      one_self u = rw (eq-eqb u u refl) refl

  pub numbered : AreNumbered run
  numbered = to_all (λ x. IsNumbered (line run x)) run line_numbered

  -- ---- ends

  line_ends : (x : View) → In x run → EndsWith x.lists.own.cert (line run x)
  line_ends x i =
      let g = Plans.is_line Plan Entry shape (map of_view run) (valid_by_plans run v) (none_collide run v nc) (of_view x) (in_run x i) in
      let (b, o, a, cut, of_b, of_o, of_a) = unmap plan_in_item (line_items x) g.ends.0 x.lists.own.plan [] (plans x ∙ g.ends.1) in
      let there = are_pending x o (subst (λ l. In o l) (sym cut) (in-middle o b a)) in
      let own : o.cert ≡ x.lists.own.cert = same_cert run v nc o x.lists.own there (x, i, in-middle x.lists.own x.lists.others []) of_o in
      let last : map cert_in_item a ≡ [] = same_certs run v nc a [] (λ q r. are_pending x q (subst (λ l. In q l) (sym cut) (in-right q b (o ∷ a) (inr r)))) (λ q r. absurd r) of_a in (
        map cert_in_item b,
        sym (certs x) ∙ ap (map cert_in_item) cut ∙ map-append cert_in_item b (o ∷ a) ∙ ap (λ (c : Cert). map cert_in_item b ++ c ∷ map cert_in_item a) own
            ∙ ap (λ (l : List Cert). map cert_in_item b ++ x.lists.own.cert ∷ l) last,
      )

  pub ended : EndWithOwn run
  ended = to_all (λ x. EndsWith x.lists.own.cert (line run x)) run line_ends

  -- ---- growth

  pub growing : Grow run
  growing x y i j u n =
      let (a, e) = Plans.growth Plan Entry shape (map of_view run) (valid_by_plans run v) (none_collide run v nc) (of_view x) (of_view y) (in_run x (contains_in x run i)) (in_run y (contains_in y run j)) (sym u) (omega (arith, n)) in
      let grown : map plan_in_item (line_items y) ≡ map plan_in_item (line_items x) ++ a = plans y ∙ e ∙ ap (λ l. l ++ a) (sym (plans x)) in
      let (front, back, cut, of_front, of_back) = unmap_front plan_in_item (line_items y) (map plan_in_item (line_items x)) a grown in
      let same : map cert_in_item front ≡ map cert_in_item (line_items x)
      = same_certs run v nc front (line_items x) (λ q r. are_pending y q (subst (λ l. In q l) (sym cut) (in-left q front back r))) (λ q r. are_pending x q r) of_front in (
        map cert_in_item back,
        sym (certs y) ∙ ap (map cert_in_item) cut ∙ map-append cert_in_item front back ∙ ap (λ (l : List Cert). l ++ map cert_in_item back) (same ∙ certs x),
      )

  -- ---- agreement

  -- a plan that a view has is one of its plans
  has_plan : (x : View) (p : Plan) → HasPlan x p → Plans.OccursIn Plan Entry shape p (of_view x)
  has_plan x p has =
      elim (in-append p (shown x.lists) (pending x.lists) (contains_in p (shown x.lists ++ pending x.lists) has)) [
        | inl j ↦ inl j
        | inr j ↦ inr (subst (λ (ps : List Plan). In p ps) (pending_plans x.lists) j)
      ]

  -- the plan of a structure that a view has is one that it has
  has_its_plan : (x : View) (z : Structure) → In x run → Has x z → HasPlan x z.plan
  has_its_plan x z i has =
      in_contains z.plan (shown x.lists ++ pending x.lists)
      (elim (in-append z (structures x) (x.signed ∷ []) (contains_in z (structures x ++ x.signed ∷ []) has)) [
        | inl j ↦ (
            let (s, k, e) = in-map (λ (s : Signed Structure). s.value) x.lists.structures z j in
            in-left z.plan (shown x.lists) (pending x.lists)
            (subst (λ (p : Plan). In p (shown x.lists)) (sym (ap (λ (z : Structure). z.plan) e)) (map-in plan_shown x.lists.structures s k)))
        | inr j ↦ elim j [
          | inl e ↦ (
              let own = in-right x.lists.own.plan (shown x.lists) (pending x.lists) (map-in plan_in_item (items x.lists) x.lists.own (in-middle x.lists.own x.lists.others [])) in
              subst (λ (p : Plan). In p (shown x.lists ++ pending x.lists)) (sym (ap (λ (z : Structure). z.plan) e ∙ signed_plan run v x i)) own)
          | inr none ↦ absurd none
        ]
      ])

  -- a line begins with what is up to one of its operations
  begins : (l : List Cert) (is : List PendingItem) (front : List PendingItem) (o : PendingItem) (back : List PendingItem) (before : List Cert) (operation : Cert)
      → map cert_in_item is ≡ l → is ≡ front ++ o ∷ back → map cert_in_item front ≡ before → o.cert ≡ operation → IsBeginning (before ++ operation ∷ []) l
  begins l is front o back before operation of_line cut of_front of_o = (
    map cert_in_item back,
    sym of_line ∙ ap (map cert_in_item) cut ∙ map-append cert_in_item front (o ∷ back) ∙ ap (λ (cs : List Cert). cs ++ o.cert ∷ map cert_in_item back) of_front
        ∙ ap (λ (c : Cert). before ++ c ∷ map cert_in_item back) of_o ∙ sym (append_assoc before (operation ∷ []) (map cert_in_item back)),
  )

  pub agreed_by_plans : AgreeByPlans run
  agreed_by_plans x y s i j h k =
      let ix = contains_in x run i in
      let iy = contains_in y run j in
      let g = Plans.agreement Plan Entry shape (map of_view run) (valid_by_plans run v) (none_collide run v nc) (of_view x) (of_view y) (in_run x ix) (in_run y iy) s (has_plan x s h) (has_plan y s k) in
      let (b, o, a, cut, of_b, of_o, of_a) = unmap plan_in_item (line_items x) g.before s g.after_a (plans x ∙ g.of_a) in
      let (c, p, d, cut_y, of_c, of_p, of_d) = unmap plan_in_item (line_items y) g.before s g.after_b (plans y ∙ g.of_b) in
      let here = are_pending x o (subst (λ l. In o l) (sym cut) (in-middle o b a)) in
      let there = are_pending y p (subst (λ l. In p l) (sym cut_y) (in-middle p c d)) in
      let same : p.cert ≡ o.cert = same_cert run v nc p o there here (of_p ∙ sym of_o) in
      let same_before : map cert_in_item c ≡ map cert_in_item b
      = same_certs run v nc c b
      (λ q r. are_pending y q (subst (λ l. In q l) (sym cut_y) (in-left q c (p ∷ d) r)))
      (λ q r. are_pending x q (subst (λ l. In q l) (sym cut) (in-left q b (o ∷ a) r))) (of_c ∙ sym of_b) in
      let is_of = is_of_cert run v nc o here in
      record {
        before = map cert_in_item b;
        operation = o.cert;
        named = ap (λ (p : Plan). p.certificate) (sym of_o) ∙ names_cert run v nc o here;
        user = ap (λ (p : Plan). p.user) (sym of_o) ∙ is_of.0;
        number = ap (λ (p : Plan). p.number) (sym of_o) ∙ is_of.1;
        one = begins (line run x) (line_items x) b o a (map cert_in_item b) o.cert (certs x) cut refl refl;
        other = begins (line run y) (line_items y) c p d (map cert_in_item b) o.cert (certs y) cut_y same_before same;
      }

  -- so do views that have one structure: they have its plan
  pub agreed : Agree run
  agreed x y z i j h k = agreed_by_plans x y z.plan i j (has_its_plan x z (contains_in x run i) h) (has_its_plan y z (contains_in y run j) k)
