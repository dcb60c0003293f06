-- The line of each earlier view of a user is a beginning of that of a later one; and a view's line stays as it is when more
-- views are accepted.
use Rattle.std.proofs.Common.{◌≡◌, ℕ, zero, suc, ◌+◌, ◌-◌, ◌≤◌, Bool, true, false, ◌==◌, List, [], ◌∷◌, ◌++◌, append_assoc, find, Option, Some, None, refl, sym, ap, ◌∙◌, subst, inl, inr, option_map, if◌then◌else◌, arith}
use Rattle.std.specs.Option.{option_map_or}
use Rattle.std.proofs.lemmas.Bool.{and_left, and_right, cases_eq, eq-eqb, eqb-true, ne_eqb}
use Rattle.layout.specs.Types.{User}
use Rattle.version_order.specs.Plan.{Plan}
use Rattle.version_order.specs.Structure.{Structure}
use Rattle.update_cert.specs.Cert.{Cert}
use Rattle.pending_list.specs.declared.signed.Signed.{Signed}
use Rattle.reply_rules.specs.Lists.{Lists, structure_of}
use Rattle.reply_rules.specs.Lists as reply_lists
use Rattle.agreement.specs.Lines.{Grow, IsBeginning, line, line_at}
use Rattle.agreement.specs.Runs.{Accepted, AreAccepted, View, last_signed, number_of, user_of}
use Rattle.agreement.proofs.Members.{In, contains_in, in-right, in_contains, to_all}
use Rattle.agreement.proofs.Runs.{signed_plan}
use Rattle.client_runs.specs.Released.{accepted_by, tried_view, views}
use Rattle.client_runs.specs.Runs.{Event, client_of}
use Rattle.fork_consistency.proofs.Lists.{found_in}
use Rattle.fork_consistency.specs.ForkConsistent.{LinesStay, OnlyGrow}
use Rattle.fork_consistency.proofs.Acting.{next_number}

-- what a view met when it was accepted, and that those before it are of the run
record IsAfter (run : List View) (y : View) : Type 0 where
  pub older : List View
  pub accepted : Accepted older y
  pub within : (w : View) → In w older → In w run

is_after : (run : List View) → AreAccepted run → (y : View) → In y run → IsAfter run y
is_after [] v y i = absurd i
is_after (x ∷ older) v y (inl e) = record { older = older; accepted = subst (Accepted older) (sym e) v.0; within = λ w i. inr i }
is_after (x ∷ older) v y (inr i) = let a = is_after older v.1 y i in record { older = a.older; accepted = a.accepted; within = λ w j. inr (a.within w j) }

module _ (run : List View) (v : AreAccepted run) (growing : Grow run) where
  number_next : (y : View) → In y run → number_of y ≡ reply_lists.number_of (user_of y) y.lists + 1
  number_next y i =
      let a = is_after run v y i in
      next_number y.table y.lists a.accepted.rules y.lists.own (in-right y.lists.own y.lists.others (y.lists.own ∷ []) (inl refl))

  -- the user's view before one that isn't the first
  record HasBefore (y : View) : Type 0 where
    pub view : View
    pub there : In view run
    pub user : user_of view ≡ user_of y
    pub number : number_of y ≡ number_of view + 1

  before : (y : View) → In y run → 2 ≤ number_of y → HasBefore y
  before y i later =
      let a = is_after run v y i in
      go a.older a.within (structure_of (user_of y) y.lists) a.accepted.own_last (number_next y i)
    where
      go : (older : List View) → ((w : View) → In w older → In w run) → (o : Option (Signed Structure)) → option_map (λ z. z.value) o ≡ last_signed (user_of y) older → number_of y ≡ option_map_or (λ z. z.value.plan.number) o 0 + 1 → HasBefore y
      go older within None same number = absurd (omega (arith, number, later))
      go older within (Some z) same number = found (find (λ x. user_of x == user_of y) older) refl same
        where
          found : (f : Option View) → find (λ x. user_of x == user_of y) older ≡ f → Some z.value ≡ option_map (λ x. x.signed) f → HasBefore y
          found None at is = absurd (cc is)
          found (Some w) at is =
              let value : z.value ≡ w.signed = cc is in
              let f = found_in (λ (x : View). user_of x == user_of y) older w at in
              let there = within w f.0 in
              let plan = signed_plan run v w there in
              record {
                view = w;
                there = there;
                user = eqb-true (user_of w) (user_of y) f.1;
                number = number ∙ ap (λ (s : Structure). s.plan.number + 1) value ∙ ap (λ (p : Plan). p.number + 1) plan;
              }

  same_line : (x y : View) → user_of x ≡ user_of y → number_of x ≡ number_of y → line run x ≡ line run y
  same_line x y user number = ap (λ (u : ℕ). line_at run u (number_of x)) user ∙ ap (λ (n : ℕ). line_at run (user_of y) n) number

  joined : (a b c : List Cert) → IsBeginning a b → IsBeginning b c → IsBeginning a c
  joined a b c first second = (first.0 ++ second.0, second.1 ∙ ap (λ (l : List Cert). l ++ second.0) first.1 ∙ append_assoc a first.0 second.0)

  positive : (x : View) → In x run → 1 ≤ number_of x
  positive x i = let n = number_next x i in omega (arith, n)

  along : (n : ℕ) (x y : View) → In x run → In y run → user_of x ≡ user_of y → number_of y ≡ number_of x + n → IsBeginning (line run x) (line run y)
  along zero x y i j user number = ([], same_line y x (sym user) (number ∙ omega arith) ∙ nothing (line run x))
    where
      nothing : (l : List Cert) → l ≡ l ++ []
      nothing [] = refl
      nothing (c ∷ cs) = ap (λ (l : List Cert). c ∷ l) (nothing cs)
  along (suc n) x y i j user number =
      let low = positive x i in
      let b = before y j (omega (arith, low, number)) in
      let step : number_of b.view ≡ number_of x + n = omega (arith, b.number, number) in
      joined (line run x) (line run b.view) (line run y) (along n x b.view i b.there (user ∙ sym b.user) step)
      (growing b.view y (in_contains b.view run b.there) (in_contains y run j) (sym b.user) b.number)

  -- the line of a user's view is a beginning of that of each one of the user's with a number that isn't smaller
  pub by_number : (x y : View) → In x run → In y run → user_of x ≡ user_of y → number_of x ≤ number_of y → IsBeginning (line run x) (line run y)
  by_number x y i j user low = along (number_of y - number_of x) x y i j user (omega (arith, low))

-- ---- numbers rise

-- a user's view that is accepted after these has the number after that of the user's last one
next_after : (older : List View) (y w : View) → Accepted older y → AreAccepted older → find (λ x. user_of x == user_of y) older ≡ Some w → number_of y ≡ number_of w + 1
next_after older y w accepted v at =
    go (structure_of (user_of y) y.lists) accepted.own_last (next_number y.table y.lists accepted.rules y.lists.own (in-right y.lists.own y.lists.others (y.lists.own ∷ []) (inl refl)))
  where
    go : (o : Option (Signed Structure)) → option_map (λ z. z.value) o ≡ last_signed (user_of y) older → number_of y ≡ option_map_or (λ z. z.value.plan.number) o 0 + 1 → number_of y ≡ number_of w + 1
    go None same number = let none : None ≡ Some w.signed = same ∙ ap (option_map (λ (x : View). x.signed)) at in absurd (cc none)
    go (Some z) same number =
        let both : Some z.value ≡ Some w.signed = same ∙ ap (option_map (λ (x : View). x.signed)) at in
        let value : z.value ≡ w.signed = cc both in
        let f = found_in (λ (x : View). user_of x == user_of y) older w at in
        let plan = signed_plan older v w f.0 in
        number ∙ ap (λ (s : Structure). s.plan.number + 1) value ∙ ap (λ (p : Plan). p.number + 1) plan

-- a user's last view, whose number none of the user's is above
record IsLast (u : User) (run : List View) (x : View) : Type 0 where
  pub last : View
  pub is_last : find (λ y. user_of y == u) run ≡ Some last
  pub greatest : number_of x ≤ number_of last

-- one view more
one_later : (older : List View) (y : View) → Accepted older y → AreAccepted older → (u : User) (x : View) → user_of x ≡ u → (In x older → IsLast u older x) → (b : Bool) → (user_of y == u) ≡ b → In x (y ∷ older) → IsLast u (y ∷ older) x
one_later older y accepted v u x user ih true is i =
    elim i [
      | inl same ↦ record { last = y; is_last = here; greatest = subst (λ (z : View). number_of x ≤ number_of z) same (omega arith) }
      | inr j ↦ (
          let l = ih j in
          let at = ap (λ (w : User). find (λ z. user_of z == w) older) (eqb-true (user_of y) u is) ∙ l.is_last in
          let next = next_after older y l.last accepted v at in
          record { last = y; is_last = here; greatest = omega (arith, next, l.greatest) })
    ]
  where
    here : find (λ z. user_of z == u) (y ∷ older) ≡ Some y
    here = ap (λ (c : Bool). if c then Some y else find (λ z. user_of z == u) older) is
one_later older y accepted v u x user ih false is i =
    elim i [
      | inl same ↦ absurd (cc (sym is ∙ eq-eqb (user_of y) u (ap user_of (sym same) ∙ user)))
      | inr j ↦ (
          let l = ih j in
          record { last = l.last; is_last = ap (λ (c : Bool). if c then Some y else find (λ z. user_of z == u) older) is ∙ l.is_last; greatest = l.greatest })
    ]

last_of : (run : List View) → AreAccepted run → (u : User) (x : View) → user_of x ≡ u → In x run → IsLast u run x
last_of [] v u x user i = absurd i
last_of (y ∷ older) v u x user i = one_later older y v.0 v.1 u x user (last_of older v.1 u x user) (user_of y == u) refl i

-- a later view of a user has a greater number
rises : (older : List View) (y : View) → Accepted older y → AreAccepted older → (x : View) → In x older → user_of x ≡ user_of y → number_of x ≤ number_of y
rises older y accepted v x i user =
    let l = last_of older v (user_of y) x user i in
    let next = next_after older y l.last accepted v l.is_last in
    omega (arith, next, l.greatest)

-- what stands in the end of a run is a run
after_later : (later rest : List View) → AreAccepted (later ++ rest) → AreAccepted rest
after_later [] rest v = v
after_later (x ∷ later) rest v = after_later later rest v.1

pub only_grow : (run : List View) → AreAccepted run → Grow run → OnlyGrow run
only_grow run v growing later older x y at has user =
    let rest : AreAccepted (y ∷ older) = after_later later (y ∷ older) (subst AreAccepted at v) in
    let i = contains_in x older has in
    let within : (z : View) → In z (y ∷ older) → In z run = λ z j. subst (λ (vs : List View). In z vs) (sym at) (in-right z later (y ∷ older) j) in
    by_number run v growing x y (within x (inr i)) (within y (inl refl)) user (rises older y rest.0 rest.1 x i user)

-- ---- lines stay

-- one view more
same_with : (older : List View) (y : View) → Accepted older y → AreAccepted older → (x : View) → In x older → line (y ∷ older) x ≡ line older x
same_with older y accepted v x i =
    elim (cases_eq (user_of y) (user_of x)) [
      | inl same ↦ (
          let l = last_of older v (user_of y) x (sym same) i in
          let next = next_after older y l.last accepted v l.is_last in
          let less = l.greatest in
          rw (and_right (user_of y == user_of x) (number_of y == number_of x) (ne_eqb (number_of y) (number_of x) (λ m. omega (arith, next, less, m)))) refl)
      | inr other ↦ rw (and_left (user_of y == user_of x) (number_of y == number_of x) (ne_eqb (user_of y) (user_of x) other)) refl
    ]

same_below : (later rest : List View) → AreAccepted (later ++ rest) → (x : View) → In x rest → line (later ++ rest) x ≡ line rest x
same_below [] rest v x i = refl
same_below (y ∷ later) rest v x i = same_with (later ++ rest) y v.0 v.1 x (in-right x later rest i) ∙ same_below later rest v.1 x i

-- the views of a run end with those that it had before
views_before : (later older : List Event) → (more : List View) × (views (later ++ older) ≡ more ++ views older)
views_before [] older = ([], refl)
views_before (e ∷ later) older =
    let here = accepted_by e.call (client_of e.user (later ++ older)) e.after (tried_view e.user (later ++ older)) in
    let r = views_before later older in
    (here ++ r.0, ap (λ (vs : List View). here ++ vs) r.1 ∙ sym (append_assoc here r.0 (views older)))

pub lines_stay : (run : List Event) → AreAccepted (views run) → LinesStay run
lines_stay run v later older at =
    let (more, cut) = views_before later older in
    let same : views run ≡ more ++ views older = ap views at ∙ cut in
    to_all (λ x. line (views run) x ≡ line (views older) x) (views older)
    (λ x i. ap (λ (vs : List View). line vs x) same ∙ same_below more (views older) (subst AreAccepted same v) x i)
