-- What a reply comes to by the blocks that are held, from what each step tells of its lists.
use Rattle.std.proofs.Common.{◌≡◌, ◌<◌, arith, List, [], ◌∷◌, length, true, refl, sym, ap, subst, ◌∙◌, slice_index_or}
use Rattle.std.specs.Prelude.{ℕ, Option, Some, None, Result, IsSomeAnd, IfOk}
use Rattle.std.specs.List.{remove}
use Rattle.layout.specs.Types.{Digest, Handle, Key}
use Rattle.principals.specs.Table.{Table}
use Rattle.version_order.specs.Structure.{Structure}
use Rattle.tree_parts.specs.Asked.{Lacks}
use Rattle.tree_parts.specs.Blocks.{Blocks}
use Rattle.tree_parts.specs.Spot.{lacks}
use Rattle.tree_parts.specs.declared.error.ApplyError.{ApplyError}
use Rattle.tree_parts.specs.declared.error.ApplyError.TheVariants as error
use Rattle.tree_parts.specs.declared.spot.Spot.{Spot}
use Rattle.pending_list.specs.declared.signed.Signed.{Signed}
use Rattle.pending_list.specs.Reply.{PendingItem}
use Rattle.reply_rules.specs.Lists.{Lists}
use Rattle.reply_rules.specs.declared.rule.Rule.{Rule}
use Rattle.client_tree.specs.View.{View, handle_in}
use Rattle.client_tree.specs.Principals.{IsNamed, IsOfNamed, IsPending}
use Rattle.reply_check.specs.declared.asked.Asked.{Asked}
use Rattle.reply_check.specs.declared.reaching.Written.{Written}
use Rattle.reply_check.specs.FirstBroken.{ByTable, IsRead, lists_break, view_over}
use Rattle.reply_check.specs.Good.{Good, view_of}
use Rattle.reply_check.specs.Reached.{CountsRaised, IsWritten}
use Rattle.reply_check.proofs.ReachedLaws.{counts_raised}

-- ---- the first of a list

-- a list that isn't empty has an element
pub some_length : {X : Type 0} (xs : List X) → (xs ≡ [] → ⊥) → 0 < length xs
some_length [] filled = absurd (filled refl)
some_length (x ∷ xs) filled = omega arith

-- the first element stands before those that are left without it
pub first_before : {X : Type 0} (xs left : List X) (first : X) → 0 < length xs → first ≡ slice_index_or xs 0 first → left ≡ remove xs 0 → xs ≡ first ∷ left
first_before [] left first some is rest = absurd (omega (arith, some))
first_before (x ∷ xs) left first some is rest =
    let here : first ≡ x = is in
    let later : left ≡ xs = rest in
    cc

-- ---- the table of principals

-- the block that is missing is the one that is asked for
missing_is : (blocks : Blocks) (IsAsked : Digest → Spot → Type 0) (e : ApplyError) (a : Asked) → e ≡ error.Missing a.digest a.spot → Lacks blocks IsAsked e → IsAsked a.digest a.spot × (lacks blocks a.digest a.spot ≡ true)
missing_is blocks IsAsked e a is missing = subst (Lacks blocks IsAsked) is missing

-- the handle by which the table of principals is read
handle_read : (key pinned : Key) (structures : List (Signed Structure)) (x : Lists) → key ≡ pinned → x.structures ≡ structures → handle_in key structures 0 ≡ handle_in pinned x.structures 0
handle_read key pinned structures x same shown =
    ap (λ (k : Key). handle_in k structures 0) same
    ∙ ap (λ (zs : List (Signed Structure)). handle_in pinned zs 0) (sym shown)

-- a block of the table is missing
table_lacks : (blocks : Blocks) (key pinned : Key) (structures : List (Signed Structure)) (x : Lists) (e : ApplyError) (a : Asked)
    → key ≡ pinned → x.structures ≡ structures → e ≡ error.Missing a.digest a.spot → Lacks blocks (IsOfNamed blocks (handle_in key structures 0)) e
    → IsOfNamed blocks (handle_in pinned x.structures 0) a.digest a.spot × (lacks blocks a.digest a.spot ≡ true)
table_lacks blocks key pinned structures x e a same shown is missing =
    subst (λ (h : Handle). IsOfNamed blocks h a.digest a.spot × (lacks blocks a.digest a.spot ≡ true)) (handle_read key pinned structures x same shown)
    (missing_is blocks (IsOfNamed blocks (handle_in key structures 0)) e a is missing)

abbrev pub view_of_parts : Key → Table → List (Signed Structure) → List PendingItem → PendingItem → View
view_of_parts key t structures others own = record { key = key; table = t; structures = structures; others = others; own = own }

-- the view of these parts of the lists
over_parts : (key pinned : Key) (t : Table) (structures : List (Signed Structure)) (others : List PendingItem) (own : PendingItem) (x : Lists) → key ≡ pinned → x.structures ≡ structures → (x.own ≡ own) × (x.others ≡ others)
    → view_of_parts key t structures others own ≡ view_over pinned t x
over_parts key pinned t structures others own x same shown split =
    ap (λ (k : Key). view_of_parts k t structures others own) same
    ∙ ap (λ (zs : List (Signed Structure)). view_of_parts pinned t zs others own) (sym shown)
    ∙ ap (λ (is : List PendingItem). view_of_parts pinned t x.structures is own) (sym split.1)
    ∙ ap (λ (i : PendingItem). view_of_parts pinned t x.structures x.others i) (sym split.0)

-- the table is read
table_read : (blocks : Blocks) (key pinned : Key) (t : Table) (void : List ℕ) (structures : List (Signed Structure)) (others : List PendingItem) (own : PendingItem) (x : Lists)
    → key ≡ pinned → x.structures ≡ structures → (x.own ≡ own) × (x.others ≡ others)
    → (users : Table) × IsNamed blocks (handle_in key structures 0) users × IsPending users (view_of_parts key t structures others own) void
    → IsRead blocks pinned x t void
table_read blocks key pinned t void structures others own x same shown split told = record {
  users = told.0;
  named = subst (λ (h : Handle). IsNamed blocks h told.0) (handle_read key pinned structures x same shown) told.1;
  pending = subst (λ (v : View). IsPending told.0 v void) (over_parts key pinned t structures others own x same shown split) told.2;
}

-- no other table can be read
abbrev pub IsOnlyTable : Blocks → Key → List (Signed Structure) → List PendingItem → PendingItem → Table → List ℕ → Type 0
IsOnlyTable blocks key structures others own t void =
    (users other : Table) (numbers : List ℕ) → IsNamed blocks (handle_in key structures 0) users → IsPending users (view_of_parts key other structures others own) numbers
    → (other ≡ t) × (numbers ≡ void)

-- so the lists break no rule by any
broken_by_none : (blocks : Blocks) (key pinned : Key) (t : Table) (void : List ℕ) (structures : List (Signed Structure)) (others : List PendingItem) (own : PendingItem) (x : Lists)
    → key ≡ pinned → x.structures ≡ structures → (x.own ≡ own) × (x.others ≡ others) → IsOnlyTable blocks key structures others own t void → lists_break t x ≡ None
    → ByTable blocks pinned x None
broken_by_none blocks key pinned t void structures others own x same shown split only none = λ other numbers is.
    let named = subst (λ (h : Handle). IsNamed blocks h is.users) (sym (handle_read key pinned structures x same shown)) is.named in
    let pending = subst (λ (v : View). IsPending is.users v numbers) (sym (over_parts key pinned other structures others own x same shown split)) is.pending in
    subst (λ (u : Table). lists_break u x ≡ None) (sym (only is.users other numbers named pending).0) none

-- ---- what is made

-- each group that the own operation raises has a version in its plan
pub counts_seen : (key : Key) (view : View) (t : Table) (x : Lists) → view ≡ view_over key t x → lists_break t x ≡ None → CountsRaised view
counts_seen key view t x is none = subst CountsRaised (sym is) (counts_raised key t x none)

-- what is made of a view is made of it by this key
written_by : {A E : Type 0} (r : Result (Written A) E) (blocks : Blocks) (key pinned : Key) (view : View) (t : Table) (void : List ℕ) (x : Lists) → key ≡ pinned → view ≡ view_over key t x → IfOk r (IsWritten blocks view void) → IfOk r (IsWritten blocks (view_over pinned t x) void)
written_by r blocks key pinned view t void x same is told =
    subst (λ (v : View). IfOk r (IsWritten blocks v void)) (is ∙ ap (λ (k : Key). view_over k t x) same) told

-- what is made of the tree of good lists
pub good_written : {A E : Type 0} (r : Result (Written A) E) (blocks : Blocks) (key pinned : Key) (view : View) (t : Table) (void : List ℕ) (x : Lists) (good : Good)
    → key ≡ pinned → view ≡ view_over key t x → record { lists = x; table = t; void = void } ≡ good → IfOk r (IsWritten blocks view void) → IfOk r (IsWritten blocks (view_of pinned good) good.void)
good_written r blocks key pinned view t void x good same is whole told =
    subst (λ (y : Good). IfOk r (IsWritten blocks (view_of pinned y) y.void)) whole (written_by r blocks key pinned view t void x same is told)

-- ---- of a reply

-- each group that the own operation of a reply raises has a version in its plan
pub reply_counts : (o : Option Lists) (key : Key) (view : View) (t : Table) → IsSomeAnd o (λ x. lists_break t x ≡ None) → IsSomeAnd o (λ x. view ≡ view_over key t x) → CountsRaised view
reply_counts None key view t none is = absurd none
reply_counts (Some x) key view t none is = counts_seen key view t x is none

-- what is made of the tree of a reply
pub reply_written : {A E : Type 0} (o : Option Lists) (r : Result (Written A) E) (blocks : Blocks) (key pinned : Key) (view : View) (t : Table) (void : List ℕ)
    → key ≡ pinned → IsSomeAnd o (λ x. view ≡ view_over key t x) → IfOk r (IsWritten blocks view void) → IfOk r (λ w. IsSomeAnd o (λ x. IsWritten blocks (view_over pinned t x) void w))
reply_written None r blocks key pinned view t void same is told = absurd is
reply_written (Some x) r blocks key pinned view t void same is told = written_by r blocks key pinned view t void x same is told

-- a block of the table is missing
pub reply_lacks : (o : Option Lists) (blocks : Blocks) (key pinned : Key) (structures : List (Signed Structure)) (e : ApplyError) (a : Asked)
    → key ≡ pinned → IsSomeAnd o (λ x. x.structures ≡ structures) → e ≡ error.Missing a.digest a.spot → Lacks blocks (IsOfNamed blocks (handle_in key structures 0)) e
    → IsSomeAnd o (λ x. IsOfNamed blocks (handle_in pinned x.structures 0) a.digest a.spot × (lacks blocks a.digest a.spot ≡ true))
reply_lacks None blocks key pinned structures e a same shown is missing = absurd shown
reply_lacks (Some x) blocks key pinned structures e a same shown is missing = table_lacks blocks key pinned structures x e a same shown is missing

-- the lists break a rule by the table that is read
pub reply_breaks : (o : Option Lists) (blocks : Blocks) (key pinned : Key) (t : Table) (void : List ℕ) (structures : List (Signed Structure)) (others : List PendingItem) (own : PendingItem) (first : Option Rule) (broken : Rule)
    → key ≡ pinned → IsSomeAnd o (λ x. x.structures ≡ structures) → IsSomeAnd o (λ x. (x.own ≡ own) × (x.others ≡ others))
    → (users : Table) × IsNamed blocks (handle_in key structures 0) users × IsPending users (view_of_parts key t structures others own) void
    → IsSomeAnd o (λ x. first ≡ lists_break t x) → first ≡ Some broken
    → IsSomeAnd o (λ x. ByTable blocks pinned x (Some broken))
reply_breaks None blocks key pinned t void structures others own first broken same shown split told judged is = absurd shown
reply_breaks (Some x) blocks key pinned t void structures others own first broken same shown split told judged is =
    (t, void, table_read blocks key pinned t void structures others own x same shown split told, sym judged ∙ is)

-- the lists break none, and the reply goes on
pub reply_goes : {A : Type 0} (o : Option Lists) (w : Written A) (blocks : Blocks) (key pinned : Key) (t : Table) (void : List ℕ) (structures : List (Signed Structure)) (others : List PendingItem) (own : PendingItem) (first : Option Rule)
    → key ≡ pinned → IsSomeAnd o (λ x. x.structures ≡ structures) → IsSomeAnd o (λ x. (x.own ≡ own) × (x.others ≡ others))
    → (users : Table) × IsNamed blocks (handle_in key structures 0) users × IsPending users (view_of_parts key t structures others own) void
    → IsOnlyTable blocks key structures others own t void
    → IsSomeAnd o (λ x. first ≡ lists_break t x) → first ≡ None
    → IsSomeAnd o (λ x. IsWritten blocks (view_over pinned t x) void w)
    → IsSomeAnd o (λ x. IsRead blocks pinned x t void × ByTable blocks pinned x None × IsWritten blocks (view_over pinned t x) void w)
reply_goes None w blocks key pinned t void structures others own first same shown split told only judged is made = absurd shown
reply_goes (Some x) w blocks key pinned t void structures others own first same shown split told only judged is made =
    (table_read blocks key pinned t void structures others own x same shown split told, broken_by_none blocks key pinned t void structures others own x same shown split only (sym judged ∙ is), made)
