-- What was committed of the operations that a server placed, and the entries of their plans, which are the operations
-- that were pending when they were placed. All of it stays so when it places or commits one more.
use Rattle.std.proofs.Common.{◌≡◌, ◌≢◌, ℕ, ◌+◌, ◌<◌, ◌≤◌, List, ◌∷◌, Option, Some, None, Bool, true, false, cond, refl, sym, ap, ◌∙◌, subst, inl, inr, arith}
use Rattle.std.specs.Prelude.{◌==◌, ◌&&◌, ◌||◌}
use Rattle.std.proofs.lemmas.Bool.{eqb-true, eq-eqb, ne_eqb, cases_eq, cases_lt, and_parts, and_from, or_cases, or_left, or_right, true≢false, false_from_ne_true}
use Rattle.version_order.specs.declared.vector.Component.{Component}
use Rattle.version_order.specs.declared.plan.Entry.{Entry}
use Rattle.version_order.specs.Plan.{Plan, entry_of}
use Rattle.version_order.specs.Structure.{Structure}
use Rattle.version_order.specs.Vector.{version_of}
use Rattle.pending_list.specs.declared.signed.Signed.{Signed}
use Rattle.pending_list.specs.Reply.{PendingItem, digest_of_last}
use Rattle.agreement.proofs.Members.{In}
use Rattle.honest_history.specs.Honest.{number_in}
use Rattle.honest_history.proofs.Timeline.{Latest, Next, Placing, next_depth, number, place, user, version}

-- an operation is committed where its number is at most that of its user's last structure
pub record Commits (is : List PendingItem) (done : PendingItem → Bool) (last : ℕ → Option (Signed Structure)) : Type 0 where
  pub early : (i : PendingItem) → In i is → done i ≡ true → number i ≤ number_in (last (user i))
  pub late : (i : PendingItem) → In i is → number i ≤ number_in (last (user i)) → done i ≡ true
  pub next : (i : PendingItem) → In i is → number i ≤ number_in (last (user i)) + 1
  pub lasts : (u : ℕ) (z : Signed Structure) → last u ≡ Some z → (i : PendingItem) × In i is × (z.value.plan ≡ i.plan) × (user i ≡ u)

-- the entries of a plan are the operations that were pending when it was placed
pub record Entries (is : List PendingItem) (done : PendingItem → Bool) : Type 0 where
  pub from : (i : PendingItem) (e : Entry) → In i is → In e i.plan.entries → (j : PendingItem) × In j is × (place j < place i) × (e ≡ entry_of j.plan)
  -- what is pending now was so then
  pub waiting : (i j : PendingItem) → In i is → In j is → place j < place i → done j ≡ false → In (entry_of j.plan) i.plan.entries
  -- what was pending at a later placing was so at an earlier one
  pub kept : (i j k : PendingItem) → In i is → In j is → In k is → place j < place i → place i < place k → In (entry_of j.plan) k.plan.entries → In (entry_of j.plan) i.plan.entries
  pub others : (i j : PendingItem) → In i is → In j is → In (entry_of j.plan) i.plan.entries → user j ≢ user i
  -- the next operation of the same user came later
  pub order : (i j k : PendingItem) → In i is → In j is → In k is → user j ≡ user k → place j < place k → In (entry_of j.plan) i.plan.entries → place i < place k

-- a pending certificate names its user's last structure
abbrev pub Links : List PendingItem → (PendingItem → Bool) → (ℕ → Option (Signed Structure)) → Type 0
Links is done last = (i : PendingItem) → In i is → done i ≡ false → i.cert.last ≡ digest_of_last (last (user i))

module _ (is : List PendingItem) (done : PendingItem → Bool) (last : ℕ → Option (Signed Structure)) (v : List Component) (placing : Placing is) (latest : Latest is v) (commits : Commits is done last) where
  -- the number of a last structure was placed
  pub last_seen : (u : ℕ) → number_in (last u) ≤ version_of u v
  last_seen u = go (last u) refl
    where
      go : (z : Option (Signed Structure)) → last u ≡ z → number_in z ≤ version_of u v
      go None e = omega arith
      go (Some z) e =
          let r = commits.lasts u z e in
          let o = placing.own r.0 r.1 in
          let g = latest.grown r.0 r.1 u in
          let a = ap (λ (p : Plan). p.number) r.2 in
          let b = ap (λ u. version u r.0) r.3 in
          omega arith

  -- and no later one, where all operations of the user are committed
  pub last_all : (u : ℕ) → u < 64 → ((i : PendingItem) → In i is → user i ≡ u → done i ≡ true) → version_of u v ≤ number_in (last u)
  last_all u below free =
      elim (cases_lt 0 (version_of u v)) [
        | inl p ↦ (
            let r = latest.counted u (version_of u v) below p (omega arith) in
            let d = free r.0 r.1 r.2 in
            let e = commits.early r.0 r.1 d in
            let a = ap (λ u. number_in (last u)) r.2 in
            let b = r.3 in
            omega arith)
        | inr z ↦ omega arith
      ]

module _ (is : List PendingItem) (done : PendingItem → Bool) (last : ℕ → Option (Signed Structure)) (v : List Component) (x : PendingItem) (placing : Placing is) (latest : Latest is v) (next : Next v x) (commits : Commits is done last) (free : (i : PendingItem) → In i is → user i ≡ user x → done i ≡ true) where
  pub commits_next : done x ≡ false → Commits (x ∷ is) done last
  commits_next f = record {
    early = λ i h d. elim h [ inl e ↦ absurd (true≢false (sym d ∙ ap done e ∙ f)) | inr k ↦ commits.early i k d ];
    late = λ i h l. elim h [
      | inl e ↦ absurd (let a = ap number e in let b = ap (λ i. number_in (last (user i))) e in let s = last_seen is done last v placing latest commits (user x) in let n = next.number in omega arith)
      | inr k ↦ commits.late i k l
    ];
    next = λ i h. elim h [
      | inl e ↦ (let a = ap number e in let b = ap (λ i. number_in (last (user i))) e in let s = last_all is done last v placing latest commits (user x) next.users free in let n = next.number in omega arith)
      | inr k ↦ commits.next i k
    ];
    lasts = λ u z e. let r = commits.lasts u z e in (r.0, inr r.1, r.2, r.3);
  }

  module _ (entries : Entries is done) (entries_from : (e : Entry) → In e x.plan.entries → (j : PendingItem) × In j is × (done j ≡ false) × (e ≡ entry_of j.plan)) (entries_all : (j : PendingItem) → In j is → done j ≡ false → In (entry_of j.plan) x.plan.entries) where
    same_entry : (i j : PendingItem) → In i is → In j is → entry_of i.plan ≡ entry_of j.plan → i ≡ j
    same_entry i j h k e = placing.one_number i j h k (ap (λ (e : Entry). e.user) e) (ap (λ (e : Entry). e.number) e)

    deep : (i : PendingItem) → In i is → place i < place x
    deep i h = let a = latest.deepest i h in let d = next_depth v x latest.ascends next in omega arith

    -- the new operation is no entry
    not_new : (e : Entry) (j : PendingItem) → In j is → e ≡ entry_of j.plan → e ≡ entry_of x.plan → ⊥
    not_new e j h a b =
        let u : user j ≡ user x = ap (λ (e : Entry). e.user) (sym a ∙ b) in
        let n : number j ≡ number x = ap (λ (e : Entry). e.number) (sym a ∙ b) in
        let o = placing.own j h in
        let g = latest.grown j h (user j) in
        let k = ap (λ u. version_of u v) u in
        let m = next.number in
        omega arith

    -- an entry of the new plan is pending
    new_waits : (j : PendingItem) → In j is → In (entry_of j.plan) x.plan.entries → done j ≡ false
    new_waits j h i =
        let r = entries_from (entry_of j.plan) i in
        ap done (same_entry j r.0 h r.1 r.3) ∙ r.2

    -- an older plan has no entry of the new operation
    old_lacks : (i : PendingItem) → In i is → In (entry_of x.plan) i.plan.entries → ⊥
    old_lacks i h k = let r = entries.from i (entry_of x.plan) h k in not_new (entry_of x.plan) r.0 r.1 r.3 refl

    new_lacks : In (entry_of x.plan) x.plan.entries → ⊥
    new_lacks k = let r = entries_from (entry_of x.plan) k in not_new (entry_of x.plan) r.0 r.1 r.3 refl

    at_new : (j : PendingItem) → j ≡ x → (i : PendingItem) → In i (x ∷ is) → In (entry_of j.plan) i.plan.entries → ⊥
    at_new j e i h k =
        let m = subst (λ (j : PendingItem). In (entry_of j.plan) i.plan.entries) e k in
        elim h [ inl f ↦ new_lacks (subst (λ (i : PendingItem). In (entry_of x.plan) i.plan.entries) f m) | inr a ↦ old_lacks i a m ]

    others_new : (j : PendingItem) → In j is → In (entry_of j.plan) x.plan.entries → user j ≢ user x
    others_new j h i e = true≢false (sym (free j h e) ∙ new_waits j h i)

    -- a pending operation is its user's last
    newest : (j k : PendingItem) → In j is → In k is → user j ≡ user k → place j < place k → done j ≡ false → ⊥
    newest j k h i e l f =
        let a = placing.unseen j k h i l in
        let b = placing.own j h in
        let c = ap (λ u. version u j) e in
        let d = commits.next k i in
        let m = ap (λ u. number_in (last u)) e in
        elim (cases_lt (number_in (last (user j))) (number j)) [
          | inl q ↦ omega arith
          | inr q ↦ true≢false (sym (commits.late j h q) ∙ f)
        ]

    pub entries_next : Entries (x ∷ is) done
    entries_next = record {
      from = λ i e h k. elim h [
        | inl a ↦ (
            let r = entries_from e (subst (λ (i : PendingItem). In e i.plan.entries) a k) in
            let d = deep r.0 r.1 in
            let m = ap place a in
            (r.0, inr r.1, omega arith, r.3))
        | inr a ↦ (let r = entries.from i e a k in (r.0, inr r.1, r.2, r.3))
      ];
      waiting = λ i j h k l f. elim k [
        | inl b ↦ absurd (elim h [
          | inl a ↦ (let m = ap place a in let n = ap place b in omega arith)
          | inr a ↦ (let d = deep i a in let n = ap place b in omega arith)
        ])
        | inr b ↦ elim h [
          | inl a ↦ subst (λ (i : PendingItem). In (entry_of j.plan) i.plan.entries) (sym a) (entries_all j b f)
          | inr a ↦ entries.waiting i j a b l f
        ]
      ];
      kept = λ i j k h a b l m g. elim a [
        | inl e ↦ absurd (at_new j e k b g)
        | inr c ↦ elim h [
          | inl e ↦ absurd (elim b [
            | inl f ↦ (let p = ap place e in let q = ap place f in omega arith)
            | inr f ↦ (let d = deep k f in let p = ap place e in omega arith)
          ])
          | inr d ↦ elim b [
            | inl f ↦ entries.waiting i j d c l (new_waits j c (subst (λ (k : PendingItem). In (entry_of j.plan) k.plan.entries) f g))
            | inr f ↦ entries.kept i j k d c f l m g
          ]
        ]
      ];
      others = λ i j h a g. elim a [
        | inl e ↦ absurd (at_new j e i h g)
        | inr c ↦ elim h [
          | inl e ↦ subst (λ (i : PendingItem). user j ≢ user i) (sym e) (others_new j c (subst (λ (i : PendingItem). In (entry_of j.plan) i.plan.entries) e g))
          | inr d ↦ entries.others i j d c g
        ]
      ];
      order = λ i j k h a b e l g. elim a [
        | inl f ↦ absurd (at_new j f i h g)
        | inr c ↦ elim h [
          | inl f ↦ (
              let m = subst (λ (i : PendingItem). In (entry_of j.plan) i.plan.entries) f g in
              absurd (elim b [
                | inl q ↦ others_new j c m (e ∙ ap user q)
                | inr q ↦ newest j k c q e l (new_waits j c m)
              ]))
          | inr d ↦ elim b [
            | inl q ↦ (let p = deep i d in let n = ap place q in omega arith)
            | inr q ↦ entries.order i j k d c q e l g
          ]
        ]
      ];
    }

-- ---- a commit

module _ (is : List PendingItem) (done : PendingItem → Bool) (last : ℕ → Option (Signed Structure)) (z : Signed Structure) (x : PendingItem) (placing : Placing is) (commits : Commits is done last) (there : In x is) (free : done x ≡ false) (plan : z.value.plan ≡ x.plan) where
  abbrev pub done_by : PendingItem → Bool
  done_by i = ((z.value.plan.user == i.plan.user) && (z.value.plan.number == i.plan.number)) || done i

  abbrev pub last_by : ℕ → Option (Signed Structure)
  last_by u = cond (z.value.plan.user == u) (Some z) (last u)

  z_user : z.value.plan.user ≡ user x
  z_user = ap (λ (p : Plan). p.user) plan

  z_number : z.value.plan.number ≡ number x
  z_number = ap (λ (p : Plan). p.number) plan

  -- the number is the next one
  x_next : number x ≡ number_in (last (user x)) + 1
  x_next =
      let n = commits.next x there in
      elim (cases_lt (number_in (last (user x))) (number x)) [
        | inl l ↦ omega arith
        | inr l ↦ absurd (true≢false (sym (commits.late x there l) ∙ free))
      ]

  number_same : (u : ℕ) → u ≡ user x → number_in (last_by u) ≡ number x
  number_same u e = rw (eq-eqb z.value.plan.user u (z_user ∙ sym e)) z_number

  number_other : (u : ℕ) → u ≢ user x → number_in (last_by u) ≡ number_in (last u)
  number_other u n = rw (ne_eqb z.value.plan.user u (λ e. n (sym e ∙ z_user))) refl

  -- who isn't committed now wasn't before
  pub still : (i : PendingItem) → done_by i ≡ false → done i ≡ false
  still i e = false_from_ne_true (done i) (λ d. true≢false (sym (or_right ((z.value.plan.user == i.plan.user) && (z.value.plan.number == i.plan.number)) (done i) d) ∙ e))

  pub commits_commit : Commits is done_by last_by
  commits_commit = record {
    early = λ i h d. elim (cases_eq (user i) (user x)) [
      | inl e ↦ (
          let s = number_same (user i) e in
          elim (or_cases ((z.value.plan.user == i.plan.user) && (z.value.plan.number == i.plan.number)) (done i) d) [
            | inl k ↦ (let p = and_parts (z.value.plan.user == i.plan.user) (z.value.plan.number == i.plan.number) k in let q = eqb-true z.value.plan.number i.plan.number p.1 in let n = z_number in omega arith)
            | inr k ↦ (let a = commits.early i h k in let n = x_next in let m = ap (λ u. number_in (last u)) e in omega arith)
          ])
      | inr n ↦ (
          let s = number_other (user i) n in
          elim (or_cases ((z.value.plan.user == i.plan.user) && (z.value.plan.number == i.plan.number)) (done i) d) [
            | inl k ↦ absurd (n (let p = and_parts (z.value.plan.user == i.plan.user) (z.value.plan.number == i.plan.number) k in sym (eqb-true z.value.plan.user i.plan.user p.0) ∙ z_user))
            | inr k ↦ (let a = commits.early i h k in omega arith)
          ])
    ];
    late = λ i h l. elim (cases_eq (user i) (user x)) [
      | inl e ↦ (
          let s = number_same (user i) e in
          let m = ap (λ u. number_in (last u)) e in
          let n = x_next in
          elim (cases_lt (number_in (last (user i))) (number i)) [
            | inl k ↦ or_left _ (done i) (and_from _ _ (eq-eqb z.value.plan.user (user i) (z_user ∙ sym e)) (eq-eqb z.value.plan.number (number i) (let q = z_number in omega arith)))
            | inr k ↦ or_right _ (done i) (commits.late i h k)
          ])
      | inr n ↦ (let s = number_other (user i) n in or_right _ (done i) (commits.late i h (omega arith)))
    ];
    next = λ i h. elim (cases_eq (user i) (user x)) [
      | inl e ↦ (let s = number_same (user i) e in let a = commits.next i h in let n = x_next in let m = ap (λ u. number_in (last u)) e in omega arith)
      | inr n ↦ (let s = number_other (user i) n in let a = commits.next i h in omega arith)
    ];
    lasts = λ u y. after u y;
  }
    where
      after : (u : ℕ) (y : Signed Structure) → last_by u ≡ Some y → (i : PendingItem) × In i is × (y.value.plan ≡ i.plan) × (user i ≡ u)
      after u y h =
          elim (cases_eq z.value.plan.user u) [
            | inl e ↦ (
                let k : Some z ≡ Some y = rw (eq-eqb z.value.plan.user u e) at h in
                let m : z ≡ y = cc in
                (x, there, ap (λ (y : Signed Structure). y.value.plan) (sym m) ∙ plan, sym z_user ∙ e))
            | inr n ↦ (let k : last u ≡ Some y = rw (ne_eqb z.value.plan.user u n) at h in commits.lasts u y k)
          ]

  pub entries_commit : Entries is done → Entries is done_by
  entries_commit entries = record {
    from = entries.from;
    waiting = λ i j h k l f. entries.waiting i j h k l (still j f);
    kept = entries.kept;
    others = entries.others;
    order = entries.order;
  }

  pub links_commit : Links is done last → Links is done_by last_by
  links_commit links i h f =
      elim (cases_eq (user i) (user x)) [
        | inl e ↦ absurd (
            let a = commits.next i h in
            let n = x_next in
            let m = ap (λ u. number_in (last u)) e in
            true≢false (sym (commits_commit.late i h (let s = number_same (user i) e in omega arith)) ∙ f))
        | inr n ↦ links i h (still i f) ∙ ap digest_of_last (let k = ne_eqb z.value.plan.user (user i) (λ e. n (sym e ∙ z_user)) in rw k refl)
      ]
  -- ---- the table
