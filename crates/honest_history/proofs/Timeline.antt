-- What holds of the operations that a server placed, the newest first, and stays so when it places one more: an
-- operation's place is its depth, and its vector tells how many operations each user has up to it.
use Rattle.std.proofs.Common.{◌≡◌, ℕ, ◌+◌, ◌<◌, ◌≤◌, List, ◌∷◌, sym, ap, ◌∙◌, subst, inl, inr, refl, arith}
use Rattle.std.proofs.lemmas.Bool.{cases_eq, cases_lt}
use Rattle.version_order.specs.declared.vector.Component.{Component}
use Rattle.version_order.specs.Vector.{depth, raised, raised_all, version_of}
use Rattle.version_order.proofs.Raising.{version_of-raised}
use Rattle.update_cert.specs.Cert.{digest_of}
use Rattle.pending_list.specs.Reply.{PendingItem}
use Rattle.agreement.proofs.Members.{In, one, one-other, one-same}
use Rattle.agreement.proofs.ByPlans.{one_turned}
use Rattle.agreement.proofs.Tests.{user_stays}
use Rattle.honest_history.proofs.Vectors.{Listed, all_raised_listed, depth_raised_all, depth_raised_user, raised_listed, version_grows}

-- whose operation it is, and its number
abbrev pub user : PendingItem → ℕ
user i = i.plan.user

abbrev pub number : PendingItem → ℕ
number i = i.plan.number

abbrev pub vector_in : PendingItem → List Component
vector_in i = i.plan.vector

-- its place among all operations, from 1
abbrev pub place : PendingItem → ℕ
place i = depth i.plan.vector

-- the version of a principal up to it
abbrev pub version : ℕ → PendingItem → ℕ
version u i = version_of u i.plan.vector

-- the vector of the operation placed last tells how many operations each user has
pub record Latest (is : List PendingItem) (v : List Component) : Type 0 where
  pub ascends : Listed v
  pub deepest : (i : PendingItem) → In i is → place i ≤ depth v
  pub grown : (i : PendingItem) → In i is → (u : ℕ) → version u i ≤ version_of u v
  pub counted : (u n : ℕ) → u < 64 → 0 < n → n ≤ version_of u v → (i : PendingItem) × In i is × (user i ≡ u) × (number i ≡ n)

-- places and numbers: an operation's place is its depth, and its vector tells how many operations each user has up to it
pub record Placing (is : List PendingItem) : Type 0 where
  pub users : (i : PendingItem) → In i is → user i < 64
  pub planned_user : (i : PendingItem) → In i is → user i ≡ i.cert.user
  pub planned_number : (i : PendingItem) → In i is → number i ≡ i.cert.number
  pub certificate : (i : PendingItem) → In i is → i.plan.certificate ≡ digest_of i.cert
  pub ascends : (i : PendingItem) → In i is → Listed (vector_in i)
  pub own : (i : PendingItem) → In i is → version (user i) i ≡ number i
  pub positive : (i : PendingItem) → In i is → 0 < number i
  pub deep : (i : PendingItem) → In i is → 0 < place i
  pub one_place : (i j : PendingItem) → In i is → In j is → place i ≡ place j → i ≡ j
  pub one_number : (i j : PendingItem) → In i is → In j is → user i ≡ user j → number i ≡ number j → i ≡ j
  pub grown : (i j : PendingItem) → In i is → In j is → place i < place j → (u : ℕ) → version u i ≤ version u j
  pub unseen : (i j : PendingItem) → In i is → In j is → place i < place j → version (user j) i < number j
  pub counted : (i : PendingItem) (u n : ℕ) → In i is → u < 64 → 0 < n → n ≤ version u i → (j : PendingItem) × In j is × (user j ≡ u) × (number j ≡ n)

-- of a user's operations the greater number has the later place
pub ordered_places : (is : List PendingItem) → Placing is → (i k : PendingItem) → In i is → In k is → user i ≡ user k → number i ≤ number k → place i ≤ place k
ordered_places is placing i k h j u n =
    elim (cases_lt (place k) (place i)) [
      | inl l ↦ absurd (let a = placing.unseen k i j h l in let o = placing.own k j in let m = ap (λ u. version u k) u in omega arith)
      | inr l ↦ l
    ]

-- an operation that is placed after one of this vector
pub record Next (v : List Component) (x : PendingItem) : Type 0 where
  pub users : user x < 64
  pub planned_user : user x ≡ x.cert.user
  pub planned_number : number x ≡ x.cert.number
  pub certificate : x.plan.certificate ≡ digest_of x.cert
  pub groups : List ℕ
  pub group : (g : ℕ) → In g groups → 64 ≤ g
  pub vector : vector_in x ≡ raised_all groups (raised (user x) v)
  pub number : number x ≡ version_of (user x) v + 1

pub next_version : (v : List Component) (x : PendingItem) → Next v x → (u : ℕ) → u < 64 → version u x ≡ version_of u v + one u (user x)
next_version v x n u l =
    let e = ap (version_of u) n.vector in
    let stays = user_stays u n.groups (raised (user x) v) l n.group in
    let r = version_of-raised (user x) u v in
    let turned = one_turned u (user x) in
    omega arith

next_grows : (v : List Component) (x : PendingItem) → Next v x → (u : ℕ) → version_of u v ≤ version u x
next_grows v x n u =
    let e = ap (version_of u) n.vector in
    let g = version_grows u n.groups (raised (user x) v) in
    let r = version_of-raised (user x) u v in
    omega arith

pub next_depth : (v : List Component) (x : PendingItem) → Listed v → Next v x → place x ≡ depth v + 1
next_depth v x a n =
    ap depth n.vector
    ∙ depth_raised_all n.groups (raised (user x) v) n.group (raised_listed (user x) v a)
    ∙ depth_raised_user (user x) v n.users a

next_listed : (v : List Component) (x : PendingItem) → Listed v → Next v x → Listed (vector_in x)
next_listed v x a n = subst Listed (sym n.vector) (all_raised_listed n.groups (raised (user x) v) (raised_listed (user x) v a))

module _ (is : List PendingItem) (v : List Component) (x : PendingItem) (placing : Placing is) (latest : Latest is v) (next : Next v x) where
  deeper : (i : PendingItem) → In i is → place i < place x
  deeper i h = let a = latest.deepest i h in let d = next_depth v x latest.ascends next in omega arith

  own_version : version (user x) x ≡ number x
  own_version = let e = next_version v x next (user x) next.users in let o = one-same (user x) (user x) refl in let n = next.number in omega arith

  -- no earlier operation of the user has this number
  below_next : (i : PendingItem) → In i is → user i ≡ user x → number i < number x
  below_next i h e =
      let a = placing.own i h in
      let g = latest.grown i h (user i) in
      let k = ap (λ u. version_of u v) e in
      let n = next.number in
      omega arith

  pub latest_next : Latest (x ∷ is) (vector_in x)
  latest_next = record {
    ascends = next_listed v x latest.ascends next;
    deepest = λ i h. elim h [ inl e ↦ (let d = ap place e in omega arith) | inr k ↦ (let d = deeper i k in omega arith) ];
    grown = λ i h u. elim h [
      | inl e ↦ (let d = ap (version u) e in omega arith)
      | inr k ↦ (let d = latest.grown i k u in let g = next_grows v x next u in omega arith)
    ];
    counted = λ u n l p le. count u n l p le;
  }
    where
      count : (u n : ℕ) → u < 64 → 0 < n → n ≤ version u x → (i : PendingItem) × In i (x ∷ is) × (user i ≡ u) × (number i ≡ n)
      count u n l p le =
          let e = next_version v x next u l in
          elim (cases_lt (version_of u v) n) [
            | inl k ↦ elim (cases_eq u (user x)) [
              | inl s ↦ (
                  let o = one-same u (user x) s in
                  let m = next.number in
                  let w = ap (λ u. version_of u v) s in
                  (x, inl refl, sym s, omega arith))
              | inr d ↦ (let o = one-other u (user x) d in absurd (omega arith))
            ]
            | inr k ↦ (let r = latest.counted u n l p k in (r.0, inr r.1, r.2, r.3))
          ]

  pub placing_next : Placing (x ∷ is)
  placing_next = record {
    users = λ i h. elim h [ inl e ↦ subst (λ i. user i < 64) (sym e) next.users | inr k ↦ placing.users i k ];
    planned_user = λ i h. elim h [ inl e ↦ subst (λ i. user i ≡ i.cert.user) (sym e) next.planned_user | inr k ↦ placing.planned_user i k ];
    planned_number = λ i h. elim h [ inl e ↦ subst (λ i. number i ≡ i.cert.number) (sym e) next.planned_number | inr k ↦ placing.planned_number i k ];
    certificate = λ i h. elim h [ inl e ↦ subst (λ i. i.plan.certificate ≡ digest_of i.cert) (sym e) next.certificate | inr k ↦ placing.certificate i k ];
    ascends = λ i h. elim h [ inl e ↦ subst (λ i. Listed (vector_in i)) (sym e) (next_listed v x latest.ascends next) | inr k ↦ placing.ascends i k ];
    own = λ i h. elim h [ inl e ↦ subst (λ i. version (user i) i ≡ number i) (sym e) own_version | inr k ↦ placing.own i k ];
    positive = λ i h. elim h [ inl e ↦ (let a = ap number e in let n = next.number in omega arith) | inr k ↦ placing.positive i k ];
    deep = λ i h. elim h [ inl e ↦ (let a = ap place e in let n = next_depth v x latest.ascends next in omega arith) | inr k ↦ placing.deep i k ];
    one_place = λ i j h k e. elim h [
      | inl a ↦ elim k [ inl b ↦ a ∙ sym b | inr b ↦ absurd (let d = deeper j b in let m = ap place a in omega arith) ]
      | inr a ↦ elim k [ inl b ↦ absurd (let d = deeper i a in let m = ap place b in omega arith) | inr b ↦ placing.one_place i j a b e ]
    ];
    one_number = λ i j h k u e. elim h [
      | inl a ↦ elim k [ inl b ↦ a ∙ sym b | inr b ↦ absurd (let d = below_next j b (sym u ∙ ap user a) in let m = ap number a in omega arith) ]
      | inr a ↦ elim k [ inl b ↦ absurd (let d = below_next i a (u ∙ ap user b) in let m = ap number b in omega arith) | inr b ↦ placing.one_number i j a b u e ]
    ];
    grown = λ i j h k l u. elim h [
      | inl a ↦ elim k [
        | inl b ↦ absurd (let m = ap place a in let n = ap place b in omega arith)
        | inr b ↦ absurd (let d = deeper j b in let m = ap place a in omega arith)
      ]
      | inr a ↦ elim k [
        | inl b ↦ (let m = ap (version u) b in let g = latest.grown i a u in let n = next_grows v x next u in omega arith)
        | inr b ↦ placing.grown i j a b l u
      ]
    ];
    unseen = λ i j h k l. elim h [
      | inl a ↦ elim k [
        | inl b ↦ absurd (let m = ap place a in let n = ap place b in omega arith)
        | inr b ↦ absurd (let d = deeper j b in let m = ap place a in omega arith)
      ]
      | inr a ↦ elim k [
        | inl b ↦ subst (λ j. version (user j) i < number j) (sym b) (let g = latest.grown i a (user x) in let n = next.number in omega arith)
        | inr b ↦ placing.unseen i j a b l
      ]
    ];
    counted = λ i u n h l p le. elim h [
      | inl a ↦ (let m = ap (version u) a in latest_next.counted u n l p (omega arith))
      | inr a ↦ (let r = placing.counted i u n a l p le in (r.0, inr r.1, r.2, r.3))
    ];
  }
