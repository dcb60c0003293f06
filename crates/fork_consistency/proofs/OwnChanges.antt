-- What a user makes of its own part doesn't depend on who is a member of a group, and nobody else changes it.
use Rattle.std.proofs.Common.{◌≡◌, ◌≢◌, ℕ, ◌<◌, Bool, true, false, ◌==◌, ◌&&◌, not, List, [], ◌∷◌, ◌++◌, Option, refl, sym, ap, ◌∙◌, if◌then◌else◌, arith}
use Rattle.std.specs.Prelude.{is_some, nat_le}
use Rattle.std.proofs.lemmas.Bool.{eq-eqb, eqb-true, ne_eqb}
use Rattle.std.proofs.lemmas.Bool.Decides.{nat_tests}
use Rattle.layout.specs.Types.{Digest}
use Rattle.update_cert.specs.Change.{Action, Make, Put, Remove, Link, Unlink, AddUser, AddMember, DropMember, SetKey, Change}
use Rattle.update_cert.specs.Cert.{Cert}
use Rattle.update_cert.specs.Reading.{Reading, after_read, read_changes}
use Rattle.update_cert.specs.World.{Actor, Content, Tree, action_fits, after, after_change, becomes, content_after, fits, has_effect, is_table, may_make, permitted, takes_key}
use Rattle.principals.specs.Table.{Table}
use Rattle.pending_list.specs.Reply.{PendingItem}
use Rattle.client_tree.specs.View.{actor_of, after_items}
use Rattle.agreement.specs.Worlds.{actor_in, world_from}

-- ---- of the user's own

own_effect : (a : Actor) (c : Change Content) (x : Option Content) → c.principal ≡ a.user → has_effect a c x ≡ fits a c x
unfolding has_effect
own_effect a c x own = rw (eq-eqb c.principal a.user own) refl

-- of an operation nothing but its user and number says whether a change fits
same_fits : (a b : Actor) (p i : ℕ) (c : Action Content) (x : Option Content) → a.user ≡ b.user → a.number ≡ b.number → action_fits a p i c x ≡ action_fits b p i c x
same_fits a b p i (Make new) x user number = ap (λ (u : ℕ). not (is_some x) && may_make u p i) user
same_fits a b p i (Put new) x user number = refl
same_fits a b p i Remove x user number = refl
same_fits a b p i (Link entry) x user number = refl
same_fits a b p i (Unlink name) x user number = refl
same_fits a b p i (AddUser u key) x user number = refl
same_fits a b p i (AddMember g u) x user number = refl
same_fits a b p i (DropMember g u) x user number = refl
same_fits a b p i (SetKey u key) x user number = ap (λ (n : ℕ). is_table p i && takes_key u n x) number

own_content : (a b : Actor) (c : Change Content) (x : Option Content) → a.user ≡ b.user → a.number ≡ b.number → c.principal ≡ a.user → content_after a c x ≡ content_after b c x
unfolding content_after
own_content a b c x user number own =
    ap (λ (t : Bool). if t then becomes a.number c.action x else x) (own_effect a c x own ∙ same_fits a b c.principal c.i_number c.action x user number ∙ sym (own_effect b c x (own ∙ user)))
    ∙ ap (λ (n : ℕ). if has_effect b c x then becomes n c.action x else x) number

own_change : (a b : Actor) (c : Change Content) (w v : Tree) (p i : ℕ) → a.user ≡ p → b.user ≡ p → a.number ≡ b.number → w p i ≡ v p i → after_change a c w p i ≡ after_change b c v p i
own_change a b c w v p i user_a user_b number same = go (p == c.principal) refl (i == c.i_number)
  where
    go : (s : Bool) → (p == c.principal) ≡ s → (t : Bool) → (if s && t then content_after a c (w p i) else w p i) ≡ (if s && t then content_after b c (v p i) else v p i)
    go true is true =
        let own : c.principal ≡ a.user = sym (eqb-true p c.principal is) ∙ sym user_a in
        own_content a b c (w p i) (user_a ∙ sym user_b) number own ∙ ap (content_after b c) same
    go true is false = same
    go false other t = same

own_changes : (a b : Actor) (cs : List (Change Content)) (w v : Tree) (p i : ℕ) → a.user ≡ p → b.user ≡ p → a.number ≡ b.number → w p i ≡ v p i → after a cs w p i ≡ after b cs v p i
unfolding after
own_changes a b [] w v p i user_a user_b number same = same
own_changes a b (c ∷ cs) w v p i user_a user_b number same =
    own_changes a b cs (after_change a c w) (after_change b c v) p i user_a user_b number (own_change a b c w v p i user_a user_b number same)

pub own_after : (reads : Reading) (a b : Actor) (cs : List (Change Digest)) (w v : Tree) (p i : ℕ) → a.user ≡ p → b.user ≡ p → a.number ≡ b.number → w p i ≡ v p i → after_read reads a cs w p i ≡ after_read reads b cs v p i
own_after reads a b cs w v p i user_a user_b number same = own_changes a b (read_changes reads cs) w v p i user_a user_b number same

-- ---- of another's

not_permitted : (a : Actor) (c : Change Content) (p : ℕ) → p < 64 → c.principal ≡ p → a.user ≢ p → permitted a c ≡ false
not_permitted a c p low of other =
    let apart : (c.principal == a.user) ≡ false = ne_eqb c.principal a.user (λ e. other (sym e ∙ of)) in
    let user : nat_le 64 c.principal ≡ false = below c.principal (omega (arith, low, of)) in
    rw (apart, user) refl
  where
    below : (n : ℕ) → n < 64 → nat_le 64 n ≡ false
    below n low = grind (arith, nat_tests)

foreign_content : (a : Actor) (c : Change Content) (x : Option Content) → permitted a c ≡ false → content_after a c x ≡ x
unfolding content_after has_effect
foreign_content a c x none = rw none refl

foreign_change : (a : Actor) (c : Change Content) (w : Tree) (p i : ℕ) → p < 64 → a.user ≢ p → after_change a c w p i ≡ w p i
foreign_change a c w p i low other = go (p == c.principal) refl (i == c.i_number)
  where
    go : (s : Bool) → (p == c.principal) ≡ s → (t : Bool) → (if s && t then content_after a c (w p i) else w p i) ≡ w p i
    go true is true = foreign_content a c (w p i) (not_permitted a c p low (sym (eqb-true p c.principal is)) other)
    go true is false = refl
    go false apart t = refl

foreign_changes : (a : Actor) (cs : List (Change Content)) (w : Tree) (p i : ℕ) → p < 64 → a.user ≢ p → after a cs w p i ≡ w p i
unfolding after
foreign_changes a [] w p i low other = refl
foreign_changes a (c ∷ cs) w p i low other = foreign_changes a cs (after_change a c w) p i low other ∙ foreign_change a c w p i low other

pub foreign_after : (reads : Reading) (a : Actor) (cs : List (Change Digest)) (w : Tree) (p i : ℕ) → p < 64 → a.user ≢ p → after_read reads a cs w p i ≡ w p i
foreign_after reads a cs w p i low other = foreign_changes a (read_changes reads cs) w p i low other

-- ---- operations

pub no_items : (reads : Reading) (t : Table) (w : Tree) (p i : ℕ) → after_items reads t [] w p i ≡ w p i
unfolding after_items
no_items reads t w p i = refl

pub one_item : (reads : Reading) (t : Table) (k : PendingItem) (w : Tree) (p i : ℕ) → after_items reads t (k ∷ []) w p i ≡ after_read reads (actor_of t k) k.cert.changes w p i
unfolding after_items
one_item reads t k w p i = refl

-- ---- worlds

-- one operation more
pub world_more : (reads : Reading) (w : Tree) (cs : List Cert) (c : Cert) → world_from reads w (cs ++ c ∷ []) ≡ after_read reads (actor_in (world_from reads w cs) c) c.changes (world_from reads w cs)
world_more reads w [] c = refl
world_more reads w (d ∷ ds) c = world_more reads (after_read reads (actor_in w d) d.changes w) ds c
