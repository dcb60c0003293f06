-- Trees part by part: what changes make of one principal's part, and what a line makes of it; and the table along a line.
use Rattle.std.proofs.Common.{◌≡◌, ◌≢◌, ℕ, suc, ◌+◌, ◌<◌, ◌≤◌, List, [], ◌∷◌, ◌++◌, length, Option, Some, Bool, true, false, refl, sym, ap, ◌∙◌, subst, inl, inr, arith, append_assoc}
use Rattle.std.specs.Prelude.{◌==◌, ◌&&◌, map, nat_le, if◌then◌else◌}
use Rattle.std.specs.List.{filter, list_any}
use Rattle.std.proofs.lemmas.Bool.{eq-eqb, eqb-true, eqb-false, ne_eqb, lt-leb, cases_eq, and_left, or_from}
use Rattle.layout.specs.Types.{Digest}
use Rattle.principals.specs.Table.{Table, is_member, is_listed}
use Rattle.update_cert.specs.Change.{Change}
use Rattle.update_cert.specs.Cert.{Cert}
use Rattle.update_cert.specs.Reading.{Reading, after_read, read_change, read_changes}
use Rattle.update_cert.specs.World.{Actor, Content, Principals, Tree, after, after_change, content_after, has_effect, permitted, table_of}
use Rattle.pending_list.specs.Groups.{touches}
use Rattle.pending_list.specs.Reply.{PendingItem}
use Rattle.agreement.specs.Worlds.{actor_in, table_in, world_from}
use Rattle.agreement.proofs.Members.{In, one, one-same, one-other, one-cases}
use Rattle.agreement.proofs.TableGrowth.{UpTo, Grows, grows_same, grows_more, table_stays, without_effect}

pub funext : {A B : Type 0} (f g : A → B) → ((x : A) → f x ≡ g x) → f ≡ g
funext f g h = λ j. λ x. h x j

-- what a principal has at each i-number
abbrev pub Part : Type 0
Part = ℕ → Option Content

-- a part after a change of it
abbrev pub changed : Actor → Change Content → Part → Part
changed actor c part i = if i == c.i_number then content_after actor c (part i) else part i

-- a part after those of these changes that are of it, in turn
abbrev pub part_after : Actor → ℕ → List (Change Content) → Part → Part
part_after actor p [] part = part
part_after actor p (c ∷ cs) part = part_after actor p cs (if p == c.principal then changed actor c part else part)

change_part : (a : Actor) (c : Change Content) (w : Tree) (p : ℕ) → after_change a c w p ≡ (if p == c.principal then changed a c (w p) else w p)
change_part a c w p = go (p == c.principal)
  where
    go : (b : Bool) → (λ (i : ℕ). if b && (i == c.i_number) then content_after a c (w p i) else w p i) ≡ (if b then changed a c (w p) else w p)
    go true = refl
    go false = refl

-- each part by itself
pub after_part : (a : Actor) (cs : List (Change Content)) (w : Tree) (p : ℕ) → after a cs w p ≡ part_after a p cs (w p)
unfolding after
after_part a [] w p = refl
after_part a (c ∷ cs) w p = after_part a cs (after_change a c w) p ∙ ap (part_after a p cs) (change_part a c w p)

-- ---- what leaves a part as it is

-- an actor who may not change this principal's part
pub record Forbidden (a : Actor) (p : ℕ) : Type 0 where
  pub other : p ≢ a.user
  pub outside : (nat_le 64 p && a.member p) ≡ false

no_effect : (a : Actor) (c : Change Content) (x : Option Content) → permitted a c ≡ false → has_effect a c x ≡ false
unfolding has_effect
no_effect a c x f = and_left (permitted a c) _ f

changed_nothing : (a : Actor) (c : Change Content) (part : Part) → permitted a c ≡ false → changed a c part ≡ part
changed_nothing a c part f = funext (changed a c part) part at_i
  where
    at_i : (i : ℕ) → changed a c part i ≡ part i
    at_i i =
        elim (cases_eq i c.i_number) [
          | inl m ↦ rw (eq-eqb i c.i_number m) (without_effect a c (part i) (no_effect a c (part i) f))
          | inr m ↦ rw (ne_eqb i c.i_number m) refl
        ]

forbidden_change : (a : Actor) (p : ℕ) (c : Change Content) → Forbidden a p → p ≡ c.principal → permitted a c ≡ false
forbidden_change a p c f e =
    let k : (nat_le 64 c.principal && a.member c.principal) ≡ false = subst (λ q. (nat_le 64 q && a.member q) ≡ false) e f.outside in
    or_from (c.principal == a.user) (nat_le 64 c.principal && a.member c.principal) (ne_eqb c.principal a.user (λ m. f.other (e ∙ m))) k

pub part_forbidden : (a : Actor) (p : ℕ) (cs : List (Change Content)) (part : Part) → Forbidden a p → part_after a p cs part ≡ part
part_forbidden a p [] part f = refl
part_forbidden a p (c ∷ cs) part f =
    elim (cases_eq p c.principal) [
      | inl m ↦ rw (eq-eqb p c.principal m) (ap (part_after a p cs) (changed_nothing a c part (forbidden_change a p c f m)) ∙ part_forbidden a p cs part f)
      | inr m ↦ rw (ne_eqb p c.principal m) (part_forbidden a p cs part f)
    ]

-- changes none of which is of this principal
pub part_untouched : (reads : Reading) (a : Actor) (p : ℕ) (cs : List (Change Digest)) (part : Part) → list_any (touches p) cs ≡ false → part_after a p (read_changes reads cs) part ≡ part
part_untouched reads a p [] part f = refl
part_untouched reads a p (c ∷ cs) part f = go (p == c.principal) refl (part_untouched reads a p cs part)
  where
    go : (b : Bool) → (p == c.principal) ≡ b → (list_any (touches p) cs ≡ false → part_after a p (read_changes reads cs) part ≡ part)
        → part_after a p (read_changes reads cs) (if b then changed a (read_change reads c) part else part) ≡ part
    go true e rest = absurd (let k : true ≡ false = rw (eq-eqb c.principal p (sym (eqb-true p c.principal e))) at f in cc)
    go false e rest =
        let k : list_any (touches p) cs ≡ false = rw (ne_eqb c.principal p (λ m. eqb-false p c.principal e (sym m))) at f in
        rest k

-- a user's own changes are permitted, whatever groups the user is a member of
own_content : (u n : ℕ) (m k : ℕ → Bool) (c : Change Content) (x : Option Content) → c.principal ≡ u
    → content_after (record { user = u; number = n; member = m }) c x ≡ content_after (record { user = u; number = n; member = k }) c x
unfolding content_after has_effect
own_content u n m k c x e = rw (eq-eqb c.principal u e) refl

own_after : (u n : ℕ) (m k : ℕ → Bool) (cs : List (Change Content)) (part : Part)
    → part_after (record { user = u; number = n; member = m }) u cs part ≡ part_after (record { user = u; number = n; member = k }) u cs part
own_after u n m k [] part = refl
own_after u n m k (c ∷ cs) part =
    elim (cases_eq u c.principal) [
      | inl e ↦ rw (eq-eqb u c.principal e) (ap (part_after (record { user = u; number = n; member = m }) u cs) (funext _ _ (at_i e)) ∙ own_after u n m k cs (changed (record { user = u; number = n; member = k }) c part))
      | inr e ↦ rw (ne_eqb u c.principal e) (own_after u n m k cs part)
    ]
  where
    at_i : u ≡ c.principal → (i : ℕ) → changed (record { user = u; number = n; member = m }) c part i ≡ changed (record { user = u; number = n; member = k }) c part i
    at_i e i =
        elim (cases_eq i c.i_number) [
          | inl j ↦ rw (eq-eqb i c.i_number j) (own_content u n m k c (part i) (sym e))
          | inr j ↦ rw (ne_eqb i c.i_number j) refl
        ]

-- ---- along a line

module _ (reads : Reading) where
  -- the tree after one operation more
  abbrev pub step : Tree → Cert → Tree
  step w c = after_read reads (actor_in w c) c.changes w

  pub world-append : (w : Tree) (a b : List Cert) → world_from reads w (a ++ b) ≡ world_from reads (world_from reads w a) b
  world-append w [] b = refl
  world-append w (c ∷ a) b = world-append (step w c) a b

  -- no one but a user changes the user's part
  pub user_forbidden : (w : Tree) (c : Cert) (u : ℕ) → u < 64 → u ≢ c.user → Forbidden (actor_in w c) u
  user_forbidden w c u l n = record { other = n; outside = and_left (nat_le 64 u) _ (lt-leb 64 u l) }

  pub step_other : (w : Tree) (c : Cert) (u : ℕ) → u < 64 → u ≢ c.user → step w c u ≡ w u
  step_other w c u l n = after_part (actor_in w c) (read_changes reads c.changes) w u ∙ part_forbidden (actor_in w c) u (read_changes reads c.changes) (w u) (user_forbidden w c u l n)

  -- the changes of these operations to a part, in turn, each by its actor
  abbrev pub parts_after : (PendingItem → Actor) → ℕ → List PendingItem → Part → Part
  parts_after act p [] part = part
  parts_after act p (i ∷ is) part = parts_after act p is (part_after (act i) p (read_changes reads i.cert.changes) part)

  pub parts-append : (act : PendingItem → Actor) (p : ℕ) (a b : List PendingItem) (part : Part) → parts_after act p (a ++ b) part ≡ parts_after act p b (parts_after act p a part)
  parts-append act p [] b part = refl
  parts-append act p (i ∷ a) b part = parts-append act p a b (part_after (act i) p (read_changes reads i.cert.changes) part)

  -- each operation is of its certificate's user and number
  abbrev pub Acts : (PendingItem → Actor) → Type 0
  Acts act = (i : PendingItem) → (member : ℕ → Bool) × (act i ≡ record { user = i.cert.user; number = i.cert.number; member = member })

  -- a user's part after a line is what the user's operations make of it
  pub world_user : (act : PendingItem → Actor) → Acts act → (u : ℕ) → u < 64 → (w : Tree) (is : List PendingItem)
      → world_from reads w (map (λ (i : PendingItem). i.cert) is) u ≡ parts_after act u (filter (λ i. i.cert.user == u) is) (w u)
  world_user act acts u l w [] = refl
  world_user act acts u l w (i ∷ is) =
      let ih = world_user act acts u l (step w i.cert) is in
      elim (cases_eq i.cert.user u) [
        | inl e ↦ rw (eq-eqb i.cert.user u e) (ih ∙ ap (parts_after act u (filter (λ i. i.cert.user == u) is)) (own e))
        | inr e ↦ rw (ne_eqb i.cert.user u e) (ih ∙ ap (parts_after act u (filter (λ i. i.cert.user == u) is)) (step_other w i.cert u l (λ k. e (sym k))))
      ]
    where
      own : i.cert.user ≡ u → step w i.cert u ≡ part_after (act i) u (read_changes reads i.cert.changes) (w u)
      own e =
          after_part (actor_in w i.cert) (read_changes reads i.cert.changes) w u
          ∙ subst (λ z. part_after (actor_in w i.cert) z (read_changes reads i.cert.changes) (w u) ≡ part_after (record { user = i.cert.user; number = i.cert.number; member = (acts i).0 }) z (read_changes reads i.cert.changes) (w u)) e
          (own_after i.cert.user i.cert.number (actor_in w i.cert).member (acts i).0 (read_changes reads i.cert.changes) (w u))
          ∙ ap (λ a. part_after a u (read_changes reads i.cert.changes) (w u)) (sym (acts i).1)

  -- each of these operations is judged as the world before it tells
  abbrev pub JudgedFrom : (PendingItem → Actor) → Tree → List PendingItem → Type 0
  JudgedFrom act w [] = Unit {0}
  JudgedFrom act w (i ∷ is) = (act i ≡ actor_in w i.cert) × JudgedFrom act (step w i.cert) is

  pub judged_front : (act : PendingItem → Actor) (w : Tree) (a b : List PendingItem) → JudgedFrom act w (a ++ b) → JudgedFrom act w a
  judged_front act w [] b j = tt
  judged_front act w (i ∷ a) b j = (j.0, judged_front act (step w i.cert) a b j.1)

  -- any part after a line, where some operations are known to leave it as it is
  pub world_part : (act : PendingItem → Actor) (r : PendingItem → Bool) (g : ℕ) (w : Tree) (is : List PendingItem) → JudgedFrom act w is
      → ((i : PendingItem) → In i is → r i ≡ false → (part : Part) → part_after (act i) g (read_changes reads i.cert.changes) part ≡ part)
      → world_from reads w (map (λ (i : PendingItem). i.cert) is) g ≡ parts_after act g (filter r is) (w g)
  world_part act r g w [] j h = refl
  world_part act r g w (i ∷ is) j h =
      let ih = world_part act r g (step w i.cert) is j.1 (λ k m. h k (inr m)) in
      let s : step w i.cert g ≡ part_after (act i) g (read_changes reads i.cert.changes) (w g)
      = after_part (actor_in w i.cert) (read_changes reads i.cert.changes) w g ∙ ap (λ a. part_after a g (read_changes reads i.cert.changes) (w g)) (sym j.0) in
      go (r i) refl ih s
    where
      go : (b : Bool) → r i ≡ b
          → world_from reads (step w i.cert) (map (λ (i : PendingItem). i.cert) is) g ≡ parts_after act g (filter r is) (step w i.cert g)
          → step w i.cert g ≡ part_after (act i) g (read_changes reads i.cert.changes) (w g)
          → world_from reads (step w i.cert) (map (λ (i : PendingItem). i.cert) is) g ≡ parts_after act g (if b then i ∷ filter r is else filter r is) (w g)
      go true e ih s = ih ∙ ap (parts_after act g (filter r is)) s
      go false e ih s = ih ∙ ap (parts_after act g (filter r is)) (s ∙ h i (inl refl) e (w g))

  -- ---- the table along a line

  pub record TableAt (k : ℕ) (w : Tree) : Type 0 where
    pub held : Table
    pub stands : w 0 1 ≡ Some (Principals held)
    pub bound : UpTo k held

  -- how many of these operations are the user's
  abbrev pub count : ℕ → List Cert → ℕ
  count u [] = 0
  count u (c ∷ cs) = one u c.user + count u cs

  abbrev pub Numbered : ℕ → List Cert → Type 0
  Numbered k [] = Unit {0}
  Numbered k (c ∷ cs) = (0 ≡ c.user → c.number ≡ suc k) × Numbered (k + one 0 c.user) cs

  -- who was a member, and who was listed, up to this number is as in the tree before
  pub record Kept (k : ℕ) (w u : Tree) : Type 0 where
    pub member_same : (group user v : ℕ) → v ≤ k → is_member (table_in u) group user v ≡ is_member (table_in w) group user v
    pub listed_same : (user v : ℕ) → v ≤ k → is_listed (table_in u) user v ≡ is_listed (table_in w) user v

  pub in_table : (w : Tree) (t : Table) → w 0 1 ≡ Some (Principals t) → table_in w ≡ t
  in_table w t e = ap table_of e

  table_changed : (a : Actor) (c : Change Content) (part : Part) (t : Table) → part 1 ≡ Some (Principals t) → (u : Table) × (changed a c part 1 ≡ Some (Principals u)) × Grows a.number t u
  table_changed a c part t e =
      elim (cases_eq 1 c.i_number) [
        | inl m ↦ (let k = table_stays a c t in (k.0, rw (eq-eqb 1 c.i_number m) (ap (content_after a c) e ∙ k.1), k.2))
        | inr m ↦ (t, rw (ne_eqb 1 c.i_number m) e, grows_same a.number t)
      ]

  table_grows : (a : Actor) (cs : List (Change Content)) (part : Part) (t : Table) → part 1 ≡ Some (Principals t)
      → (u : Table) × (part_after a 0 cs part 1 ≡ Some (Principals u)) × Grows a.number t u
  table_grows a [] part t e = (t, e, grows_same a.number t)
  table_grows a (c ∷ cs) part t e =
      elim (cases_eq 0 c.principal) [
        | inl m ↦ (
            let k = table_changed a c part t e in
            let r = table_grows a cs (changed a c part) k.0 k.1 in
            (r.0, rw (eq-eqb 0 c.principal m) r.1, grows_more a.number t k.0 r.0 k.2 r.2))
        | inr m ↦ (let r = table_grows a cs part t e in (r.0, rw (ne_eqb 0 c.principal m) r.1, r.2))
      ]

  step_table : (k : ℕ) (w : Tree) (c : Cert) → TableAt k w → (0 ≡ c.user → c.number ≡ suc k) → TableAt (k + one 0 c.user) (step w c) × Kept k w (step w c)
  step_table k w c t n =
      elim (cases_eq 0 c.user) [
        | inl e ↦ (
            let (u, is, grown) = table_grows (actor_in w c) (read_changes reads c.changes) (w 0) t.held t.stands in
            let m = n e in
            let o = one-same 0 c.user e in
            let stands : step w c 0 1 ≡ Some (Principals u) = ap (λ (p : Part). p 1) (after_part (actor_in w c) (read_changes reads c.changes) w 0) ∙ is in
            let old = in_table w t.held t.stands in
            let new = in_table (step w c) u stands in
            let more : c.number ≡ k + one 0 c.user = omega arith in (
              record { held = u; stands = stands; bound = subst (λ z. UpTo z u) more (grown.bounded k (omega arith) t.bound) },
              record {
                member_same = λ group user v l. ap (λ z. is_member z group user v) new ∙ grown.member_same group user v (omega arith) ∙ sym (ap (λ z. is_member z group user v) old);
                listed_same = λ user v l. ap (λ z. is_listed z user v) new ∙ grown.listed_same user v (omega arith) ∙ sym (ap (λ z. is_listed z user v) old);
              },
            ))
        | inr e ↦ (
            let same = step_other w c 0 (omega arith) e in
            let o = one-other 0 c.user e in
            let more : k ≡ k + one 0 c.user = omega arith in (
              record { held = t.held; stands = ap (λ (p : Part). p 1) same ∙ t.stands; bound = subst (λ z. UpTo z t.held) more t.bound },
              record {
                member_same = λ group user v l. ap (λ (p : Part). is_member (table_of (p 1)) group user v) same;
                listed_same = λ user v l. ap (λ (p : Part). is_listed (table_of (p 1)) user v) same;
              },
            ))
      ]

  pub line_table : (k : ℕ) (w : Tree) (cs : List Cert) → TableAt k w → Numbered k cs → TableAt (k + count 0 cs) (world_from reads w cs) × Kept k w (world_from reads w cs)
  line_table k w [] t n =
      let e : k ≡ k + count 0 [] = omega arith in
      (subst (λ z. TableAt z w) e t, record { member_same = λ group user v l. refl; listed_same = λ user v l. refl })
  line_table k w (c ∷ cs) t n =
      let (here, kept) = step_table k w c t n.0 in
      let (there, later) = line_table (k + one 0 c.user) (step w c) cs here n.1 in
      let e : (k + one 0 c.user) + count 0 cs ≡ k + count 0 (c ∷ cs) = omega arith in (
        subst (λ z. TableAt z (world_from reads (step w c) cs)) e there,
        record {
          member_same = λ group user v l. later.member_same group user v (omega arith) ∙ kept.member_same group user v l;
          listed_same = λ user v l. later.listed_same user v (omega arith) ∙ kept.listed_same user v l;
        },
      )

  count_push : (u : ℕ) (xs ys : List Cert) → count u (xs ++ ys) ≡ count u xs + count u ys
  count_push u [] ys = omega arith
  count_push u (x ∷ xs) ys = let ih = count_push u xs ys in omega arith

  pub count_is : (u : ℕ) (cs : List Cert) → length (filter (λ c. c.user == u) cs) ≡ count u cs
  count_is u [] = refl
  count_is u (c ∷ cs) =
      let ih = count_is u cs in
      elim (one-cases u c.user) [
        | inl same ↦ (let o = same.1 in rw (eq-eqb c.user u (sym same.0)) (omega arith))
        | inr other ↦ (let o = other.1 in rw (ne_eqb c.user u (λ m. other.0 (sym m))) (omega arith))
      ]

  -- where each number is one more than the user's operations before it
  pub numbered_from : (before rest : List Cert)
      → ((b : List Cert) (c : Cert) (a : List Cert) → before ++ rest ≡ b ++ c ∷ a → c.number ≡ length (filter (λ d. d.user == c.user) b) + 1)
      → Numbered (count 0 before) rest
  numbered_from before [] h = tt
  numbered_from before (c ∷ cs) h =
      let ih = numbered_from (before ++ c ∷ []) cs (λ b d a e. h b d a (sym (append_assoc before (c ∷ []) cs) ∙ e)) in
      let pushed = count_push 0 before (c ∷ []) in
      let e : count 0 (before ++ c ∷ []) ≡ count 0 before + one 0 c.user = omega arith in (
        (λ z. (let n = h before c cs refl in let k = ap (λ u. length (filter (λ d. d.user == u) before)) z in let m = count_is 0 before in omega arith)),
        subst (λ k. Numbered k cs) e ih,
      )

  pub numbered_apart : (k : ℕ) (a b : List Cert) → Numbered k (a ++ b) → Numbered k a × Numbered (k + count 0 a) b
  numbered_apart k [] b n = let e : k ≡ k + count 0 [] = omega arith in (tt, subst (λ z. Numbered z b) e n)
  numbered_apart k (c ∷ a) b n =
      let ih = numbered_apart (k + one 0 c.user) a b n.1 in
      let e : (k + one 0 c.user) + count 0 a ≡ k + count 0 (c ∷ a) = omega arith in
      ((n.0, ih.0), subst (λ z. Numbered z b) e ih.1)
