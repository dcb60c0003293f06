-- Runs by the plans of their views, and the operations that are pending in them.
use Rattle.std.proofs.Common.{◌≡◌, ℕ, List, [], ◌∷◌, ◌++◌, Option, Some, None, refl, sym, ap, ◌∙◌, subst, inl, inr}
use Rattle.std.specs.Prelude.{◌⊎◌, ◌==◌, ◌&&◌, map}
use Rattle.std.specs.List.{Contains, flat_map}
use Rattle.std.specs.Option.{option_map}
use Rattle.std.proofs.lemmas.Bool.{eqb-true, eq-eqb, ne_eqb, cases_eq, and_parts}
use Rattle.std.proofs.lemmas.Slice.Eq.{bytes_eq-Decides}
use Rattle.layout.specs.Hash.{hash}
use Rattle.version_order.specs.declared.plan.Entry.{Entry}
use Rattle.version_order.specs.Plan.{Plan, plan}
use Rattle.version_order.specs.PlanLaws.{lawful_plan}
use Rattle.version_order.specs.Structure.{Structure}
use Rattle.update_cert.specs.Cert.{Cert, cert, digest_of}
use Rattle.update_cert.specs.CertLaws.{lawful_cert}
use Rattle.pending_list.specs.declared.signed.Signed.{Signed}
use Rattle.pending_list.specs.Reply.{PendingItem}
use Rattle.reply_rules.specs.Lists.{items, pending, shown, structure_of}
use Rattle.reply_rules.specs.Rules.{is_planned, names_certificate, names_last}
use Rattle.agreement.specs.Runs.{Accepted, AreAccepted, NoViewCollision, View, last_signed, reply_of, structures, texts_of, user_of}
use Rattle.agreement.proofs.Plans
use Rattle.agreement.proofs.Members.{In, contains_in, flat_map-in, in-left, in-map, in-right, in_contains, map-in, of_all}
use Rattle.agreement.proofs.Tests.{all_in}
use Rattle.agreement.proofs.Formed.{cert_fits, same_spelled}
use Rattle.agreement.proofs.ByPlans.{by_plans, option_plan, parts, pending_fits, pending_plans, plan_in_item, plan_shown, rules_of, shape, shown_fits, structure_by_plans}

-- a view by its plans
abbrev pub of_view : View → Plans.View Plan
of_view x = by_plans x.lists

pub accepted_in : (run : List View) → AreAccepted run → (y : View) → In y run → (older : List View) × Accepted older y
accepted_in [] v y i = absurd i
accepted_in (x ∷ older) v y (inl i) = (older, subst (λ w. Accepted older w) (sym i) v.0)
accepted_in (x ∷ older) v y (inr i) = accepted_in older v.1 y i

pub signed_plan : (run : List View) → AreAccepted run → (y : View) → In y run → y.signed.plan ≡ y.lists.own.plan
signed_plan run v y i = (accepted_in run v y i).1.signed

-- ---- by plans

abbrev plan_signed : Option Structure → Option Plan
plan_signed o = option_map (λ z. z.plan) o

plan_of_structure : (o : Option (Signed Structure)) → option_plan o ≡ plan_signed (option_map (λ z. z.value) o)
plan_of_structure None = refl
plan_of_structure (Some z) = refl

last_by_plans : (u : ℕ) (run : List View) → AreAccepted run → Plans.last_own Plan Entry shape u (map of_view run) ≡ plan_signed (last_signed u run)
last_by_plans u [] v = refl
last_by_plans u (y ∷ ys) v =
    elim (cases_eq u y.lists.own.plan.user) [
      | inl e ↦ rw (eq-eqb u y.lists.own.plan.user e, eq-eqb y.lists.own.plan.user u (sym e)) (ap Some (sym v.0.signed))
      | inr e ↦ rw (ne_eqb u y.lists.own.plan.user e, ne_eqb y.lists.own.plan.user u (λ m. e (sym m))) (last_by_plans u ys v.1)
    ]

-- a structure's plan is the own one of an earlier view
released_plan : (older : List View) (x : View) → AreAccepted older → Accepted older x → (p : Plan) → In p (shown x.lists) → Plans.IsReleased Plan Entry shape (map of_view older) p
released_plan older x v a p i =
    let (z, j, e) = in-map plan_shown x.lists.structures p i in
    let there = of_all (Contains (map (λ (y : View). y.signed) older)) (structures x) a.released z.value (map-in (λ (z : Signed Structure). z.value) x.lists.structures z j) in
    let (y, k, same) = in-map (λ (y : View). y.signed) older z.value (contains_in z.value (map (λ (y : View). y.signed) older) there) in
    (of_view y, map-in of_view older y k, sym (signed_plan older v y k) ∙ ap (λ (z : Structure). z.plan) (sym same) ∙ sym e)

accepted_by_plans : (older : List View) (x : View) → AreAccepted older → Accepted older x → Plans.Accepted Plan Entry shape (map of_view older) (of_view x)
accepted_by_plans older x v a =
    record {
      rules = rules_of x.table x.lists a.read a.lists a.rules;
      own_last =
          structure_by_plans (user_of x) x.lists.structures ∙ plan_of_structure (structure_of (user_of x) x.lists)
          ∙ ap plan_signed a.own_last ∙ sym (last_by_plans (user_of x) older v);
      released = λ p i. released_plan older x v a p i;
    }

pub valid_by_plans : (run : List View) → AreAccepted run → Plans.Valid Plan Entry shape (map of_view run)
valid_by_plans [] v = tt
valid_by_plans (x ∷ older) v = (accepted_by_plans older x v.1 v.0, valid_by_plans older v.1)

-- ---- texts

-- an operation that is pending in a view of the run
abbrev pub IsPending : List View → PendingItem → Type 0
IsPending run i = (y : View) × In y run × In i (items y.lists)

module _ (run : List View) (v : AreAccepted run) (nc : NoViewCollision run) where
  -- texts of the run with one digest are the same
  same_text : (x y : View) → In x run → In y run → (s t : List ℕ) → In s (texts_of x) → In t (texts_of y) → hash s ≡ hash t → s ≡ t
  same_text x y i j s t k l e =
      nc s t
      (in_contains s (flat_map texts_of run) (flat_map-in texts_of run x s i k))
      (in_contains t (flat_map texts_of run) (flat_map-in texts_of run y t j l)) e

  plan_text : (x : View) (p : Plan) → In p (shown x.lists ++ pending x.lists) → In (plan.spell p) (texts_of x)
  plan_text x p i =
      in-left (plan.spell p) (map (λ p. plan.spell p) (shown x.lists ++ pending x.lists)) (map (λ i. cert.spell i.cert) (items x.lists))
      (map-in (λ (p : Plan). plan.spell p) (shown x.lists ++ pending x.lists) p i)

  cert_text : (x : View) (i : PendingItem) → In i (items x.lists) → In (cert.spell i.cert) (texts_of x)
  cert_text x i j =
      in-right (cert.spell i.cert) (map (λ p. plan.spell p) (shown x.lists ++ pending x.lists)) (map (λ i. cert.spell i.cert) (items x.lists))
      (map-in (λ (i : PendingItem). cert.spell i.cert) (items x.lists) i j)

  -- a plan of the run, by plans
  record Occurs (p : Plan) : Type 0 where
    pub view : View
    pub there : In view run
    pub text : In (plan.spell p) (texts_of view)
    pub fits : plan.Fits p

  occurs_from : (p : Plan) → Plans.Occurs Plan Entry shape p (map of_view run) → Occurs p
  occurs_from p o =
      let (x, i, e) = in-map of_view run o.0 o.1 in
      let a = (accepted_in run v x i).1 in
      elim (subst (λ (w : Plans.View Plan). In p w.structures ⊎ In p (w.others ++ w.own ∷ [])) e o.2) [
        | inl j ↦ record {
          view = x;
          there = i;
          text = plan_text x p (in-left p (shown x.lists) (pending x.lists) j);
          fits = shown_fits x.table x.lists a.read a.lists a.rules p j;
        }
        | inr j ↦ (
            let k : In p (pending x.lists) = subst (λ (ps : List Plan). In p ps) (sym (pending_plans x.lists)) j in
            record {
              view = x;
              there = i;
              text = plan_text x p (in-right p (shown x.lists) (pending x.lists) k);
              fits = pending_fits x.table x.lists a.read a.lists a.rules p k;
            })
      ]

  pub none_collide : Plans.NoCollision Plan Entry shape (map of_view run)
  none_collide p q i j e =
      let o = occurs_from p i in
      let r = occurs_from q j in
      same_spelled plan lawful_plan p q o.fits r.fits
      (same_text o.view r.view o.there r.there (plan.spell p) (plan.spell q) o.text r.text (ap (λ (e : Entry). e.plan) e))

  -- ---- operations that are pending

  -- a plan names its certificate
  pub names_cert : (i : PendingItem) → IsPending run i → i.plan.certificate ≡ digest_of i.cert
  names_cert i o =
      let a = (accepted_in run v o.0 o.1).1 in
      let told = all_in (λ i. names_certificate i && names_last o.0.lists i) (items o.0.lists) (parts o.0.table o.0.lists a.read a.lists a.rules).link i o.2 in
      (bytes_eq-Decides i.plan.certificate (digest_of i.cert)).0 (and_parts (names_certificate i) (names_last o.0.lists i) told).0

  -- and has its user and number
  pub is_of_cert : (i : PendingItem) → IsPending run i → (i.plan.user ≡ i.cert.user) × (i.plan.number ≡ i.cert.number)
  is_of_cert i o =
      let a = (accepted_in run v o.0 o.1).1 in
      let told = all_in is_planned (items o.0.lists) (parts o.0.table o.0.lists a.read a.lists a.rules).planned i o.2 in
      let both = and_parts (i.plan.user == i.cert.user) (i.plan.number == i.cert.number) told in
      (eqb-true i.plan.user i.cert.user both.0, eqb-true i.plan.number i.cert.number both.1)

  item_fits : (i : PendingItem) (o : IsPending run i) → cert.Fits i.cert
  item_fits i o = cert_fits (reply_of o.0) (accepted_in run v o.0 o.1).1.read i o.2

  -- so one plan is of one certificate
  pub same_cert : (i j : PendingItem) → IsPending run i → IsPending run j → i.plan ≡ j.plan → i.cert ≡ j.cert
  same_cert i j o p e =
      same_spelled cert lawful_cert i.cert j.cert (item_fits i o) (item_fits j p)
      (same_text o.0 p.0 o.1 p.1 (cert.spell i.cert) (cert.spell j.cert) (cert_text o.0 i o.2) (cert_text p.0 j p.2)
      (sym (names_cert i o) ∙ ap (λ (p : Plan). p.certificate) e ∙ names_cert j p))

  pub same_certs : (is js : List PendingItem) → ((i : PendingItem) → In i is → IsPending run i) → ((j : PendingItem) → In j js → IsPending run j)
      → map plan_in_item is ≡ map plan_in_item js → map (λ (i : PendingItem). i.cert) is ≡ map (λ (i : PendingItem). i.cert) js
  same_certs [] [] o p e = refl
  same_certs [] (j ∷ js) o p e = cc
  same_certs (i ∷ is) [] o p e = cc
  same_certs (i ∷ is) (j ∷ js) o p e =
      let head : i.plan ≡ j.plan = cc in
      let rest : map plan_in_item is ≡ map plan_in_item js = cc in
      let same = same_cert i j (o i (inl refl)) (p j (inl refl)) head in
      let ih = same_certs is js (λ k r. o k (inr r)) (λ k r. p k (inr r)) rest in
      ap (λ (c : Cert). c ∷ map (λ (i : PendingItem). i.cert) is) same ∙ ap (λ (cs : List Cert). j.cert ∷ cs) ih
