-- What goes on is judged so, handed so, or given so.
use Rattle.std.proofs.Common.{◌≡◌, ◌∷◌, ℕ, List, Option, Some, None, true, refl, sym, ap, subst, ◌∙◌, inl, inr}
use Rattle.std.specs.Prelude.{IfSome, IsSomeAnd}
use Rattle.reply_rules.specs.Lists.{Lists, lists_of}
use Rattle.tree_parts.specs.Blocks.{Blocks}
use Rattle.checked_blocks.specs.CheckedBlocks.{CheckedBlocks, holding as with_held, known_blocks}
use Rattle.client_verify.specs.declared.view.Looking.{Looking}
use Rattle.client_verify.specs.declared.step.Step.{Step}
use Rattle.client_verify.specs.declared.step.Step.TheVariants as step
use Rattle.client_verify.specs.declared.look.Look.{Look}
use Rattle.client_verify.specs.declared.look.Look.TheVariants as look
use Rattle.layout.specs.Types.{Handle}
use Rattle.principals.specs.Table.{Table}
use Rattle.version_order.specs.declared.structure.GroupRecord.{GroupRecord}
use Rattle.client_tree.specs.Tree.{IsLost, IsOutcome, IsWanted}
use Rattle.client_tree.specs.View.{handle_in}
use Rattle.client_tree.specs.Principals.{IsOfNamed}
use Rattle.tree_parts.specs.Spot.{lacks}
use Rattle.pending_list.specs.Reply.{Reply}
use Rattle.reply_check.specs.declared.asked.Asked.{Asked}
use Rattle.reply_check.specs.FirstBroken.{view_over}
use Rattle.reply_check.specs.Good.{Good, view_of}
use Rattle.client_verify.specs.State.{State, AcceptedView, Checked, Reading, Ready, Writing, asked_of, holding, over}
use Rattle.reply_check.specs.AskedBlock.{block_breaks}
use Rattle.client_verify.specs.Judged.{AsksOrAccepts, GoesOn, Handed, IsGood, Taken}
use Rattle.client_verify.specs.Looked.{Answers, Given, Looked}
use Rattle.client_tree.specs.Questions.{IsAskedBy}
use Rattle.client_tree.specs.declared.questions.Question.{Question}
use Rattle.reply_check.specs.Reached.{IsAnswer}
use Rattle.reply_check.specs.declared.reaching.Shown.{Shown}

pub some_one : {A : Type 0} (o : Option A) (a : A) (P : A → Type 0) → o ≡ Some a → P a → IsSomeAnd o P
some_one {A} o a P is holds = subst (λ (x : Option A). IsSomeAnd x P) (sym is) holds

pub if_some : {A : Type 0} (o : Option A) (a : A) (P : A → Type 0) → o ≡ Some a → P a → IfSome o P
if_some {A} o a P is holds = subst (λ (x : Option A). IfSome x P) (sym is) holds

-- ---- a reply goes on

-- whether a reply was under check or accepted before doesn't matter
goes_anew : {A : Type 0} (s : State) (o : Option Checked) (q : Option Ready) (x : Good) (r : Step A) (new : State) → AsksOrAccepts (record s { checked = o; accepted = q }) x r new → AsksOrAccepts s x r new
goes_anew s o q x (step.Need d) new goes = goes
goes_anew s o q x (step.Store texts) new goes = goes
goes_anew s o q x (step.Broken rule) new goes = absurd goes

-- nor which blocks are held, where the same is known
pub goes_same : {A : Type 0} (s : State) (b : CheckedBlocks) (x : Good) (r : Step A) (new : State) → known_blocks b ≡ known_blocks s.blocks → AsksOrAccepts (over b s) x r new → AsksOrAccepts s x r new
goes_same s b x (step.Need d) new same (a, of_digest, is, wanted, lacking) = (
  a,
  of_digest,
  is,
  subst (λ (f : Blocks). IsWanted f (view_of s.pinned x) d a.spot) same wanted,
  subst (λ (f : Blocks). lacks f d a.spot ≡ true) same lacking,
)
goes_same s b x (step.Store texts) new same (own, groups, lost, is, outcome, of_lost, told) = (
  own,
  groups,
  lost,
  is,
  subst (λ (f : Blocks). IsOutcome f (view_of s.pinned x) (own ∷ groups)) same outcome,
  subst (λ (f : Blocks). IsLost f (view_of s.pinned x) x.void lost) same of_lost,
  told,
)
goes_same s b x (step.Broken rule) new same goes = absurd goes

pub goes_over : {A : Type 0} (v old : State) (b : CheckedBlocks) (x : Good) (r : Step A) (new : State) → v ≡ old → known_blocks b ≡ known_blocks old.blocks → AsksOrAccepts (over b v) x r new → AsksOrAccepts old x r new
goes_over {A} v old b x r new is known goes = goes_same {A = A} old b x r new known (subst (λ (s : State). AsksOrAccepts {A = A} (over b s) x r new) is goes)

-- what goes on from the state with a block more, where the reply under check was taken out, goes on from it
pub goes_from : {A : Type 0} (v old : State) (o : Option Checked) (q : Option Ready) (blocks : CheckedBlocks) (text : List ℕ) (x y : Good) (r : Step A) (new : State) → v ≡ old → known_blocks blocks ≡ known_blocks (with_held old.blocks text) → x ≡ y
    → AsksOrAccepts (record v { blocks = blocks; checked = o; accepted = q }) x r new → AsksOrAccepts (holding old text) y r new
goes_from {A} v old o q blocks text x y r new is known same goes =
    let of_old : AsksOrAccepts (record old { blocks = blocks; checked = o; accepted = q }) x r new = subst (λ (s : State). AsksOrAccepts {A = A} (record s { blocks = blocks; checked = o; accepted = q }) x r new) is goes in
    let of_good : AsksOrAccepts (record old { blocks = blocks; checked = o; accepted = q }) y r new = subst (λ (z : Good). AsksOrAccepts {A = A} (record old { blocks = blocks; checked = o; accepted = q }) z r new) same of_old in
    goes_same {A = A} (holding old text) blocks y r new known (goes_anew {A = A} (over blocks old) o q y r new of_good)

-- the blocks of a state in which nothing changed but the reply under check and the accepted one
pub with_blocks : (s new : State) (c : Option Checked) (q : Option Ready) → new ≡ record s { checked = c; accepted = q } → new ≡ record s { blocks = new.blocks; checked = c; accepted = q }
with_blocks s new c q is = is ∙ ap (λ (b : CheckedBlocks). record s { blocks = b; checked = c; accepted = q }) (sym (ap (λ (n : State). n.blocks) is))

-- a block is asked for that tells what the operation makes
pub goes_need : (A : Type 0) (s new : State) (x : Good) (a : Asked) (st : Step A) → st ≡ step.Need a.digest → new ≡ record s { checked = Some (Writing x a); accepted = None }
    → IsWanted (known_blocks s.blocks) (view_of s.pinned x) a.digest a.spot × (lacks (known_blocks s.blocks) a.digest a.spot ≡ true) → AsksOrAccepts s x st new
goes_need A s new x a st is made wanted = subst (λ (y : Step A). AsksOrAccepts s x y new) (sym is) (a, refl, with_blocks s new (Some (Writing x a)) None made, wanted.0, wanted.1)

-- the state with an accepted reply
pub ready_is : (s old new : State) (b : CheckedBlocks) (g good : Good) (one other : Handle) (made records : List GroupRecord) (lost : List ℕ) → s ≡ old → g ≡ good → one ≡ other → made ≡ records
    → new ≡ record s { blocks = b; checked = None; accepted = Some (record { lists = g.lists; table = g.table; handle = one; records = made; lost = lost }) }
    → new ≡ record old { blocks = new.blocks; checked = None; accepted = Some (record { lists = good.lists; table = good.table; handle = other; records = records; lost = lost }) }
ready_is s old new b g good one other made records lost is same handle of_groups made_so =
    let of_blocks : new.blocks ≡ b = ap (λ (n : State). n.blocks) made_so in
    made_so ∙ rw (is, same, handle, of_groups, of_blocks) refl

-- a block of the table of principals is asked for
pub taken_need : (A : Type 0) (s new : State) (r : Reply) (x : Lists) (a : Asked) → new ≡ record s { blocks = new.blocks; checked = Some (Reading r a); accepted = None }
    → IsOfNamed (known_blocks s.blocks) (handle_in s.pinned x.structures 0) a.digest a.spot × (lacks (known_blocks s.blocks) a.digest a.spot ≡ true) → Taken {A = A} s r x (step.Need a.digest) new
taken_need A s new r x a is lacks = inl (a, refl, is, lacks.0, lacks.1)

-- the lists break no rule by the table that was read
pub taken_goes : {A : Type 0} (s new : State) (r : Reply) (x : Lists) (good : Good) (st : Step A) → IsGood s x good → AsksOrAccepts s good st new → Taken s r x st new
taken_goes s new r x good (step.Need d) is goes = inr (good, is, goes)
taken_goes s new r x good (step.Store texts) is goes = (good, is, goes)
taken_goes s new r x good (step.Broken rule) is goes = absurd goes

-- what isn't broken by the lists isn't Broken
no_rule : (o : Option Lists) → IsSomeAnd o (λ x. ⊥) → ⊥
no_rule None none = none
no_rule (Some x) none = none

pub handed_goes : {A : Type 0} (old : State) (k : Checked) (block : Option (List ℕ)) (text : List ℕ) (st : Step A) (new : State) → block_breaks (known_blocks old.blocks) (asked_of k) block ≡ None → block ≡ Some text → GoesOn (holding old text) k st new → Handed old k block st new
handed_goes old k block text (step.Need d) new none is goes = (none, some_one block text _ is goes)
handed_goes old k block text (step.Store texts) new none is goes = (none, some_one block text _ is goes)
handed_goes old (Reading r a) block text (step.Broken rule) new none is goes = absurd (no_rule (lists_of r) goes)
handed_goes old (Writing x a) block text (step.Broken rule) new none is goes = absurd goes

pub given_looked : {A : Type 0} (old : State) (v : AcceptedView) (l : Looking) (block : Option (List ℕ)) (text : List ℕ) (s : Look A) (new : State) → block_breaks (known_blocks old.blocks) l.asked block ≡ None → block ≡ Some text → Looked (holding old text) v l.question s new → Given old v l block s new
given_looked old v l block text (look.Need d) new none is looked = (none, some_one block text _ is looked)
given_looked old v l block text (look.File bytes) new none is looked = (none, some_one block text _ is looked)
given_looked old v l block text (look.Dir entries) new none is looked = (none, some_one block text _ is looked)
given_looked old v l block text look.None new none is looked = (none, some_one block text _ is looked)
given_looked old v l block text (look.Kind kind) new none is looked = (none, some_one block text _ is looked)
given_looked old v l block text (look.Free found) new none is looked = (none, some_one block text _ is looked)
given_looked old v l block text (look.Broken rule) new none is looked = absurd looked

-- a look goes on whichever blocks are held, where the same is known
pub looked_same : {A : Type 0} (s : State) (b : CheckedBlocks) (v : AcceptedView) (q : Question) (a : Look A) (new : State) → known_blocks b ≡ known_blocks s.blocks → Looked (over b s) v q a new → Looked s v q a new
looked_same s b v q (look.Need d) new same (a, of_digest, is, asked, lacking) = (
  a,
  of_digest,
  is,
  subst (λ (f : Blocks). IsAskedBy f (view_over s.pinned v.table v.lists) q d a.spot) same asked,
  subst (λ (f : Blocks). lacks f d a.spot ≡ true) same lacking,
)
looked_same {A} s b v q (look.File bytes) new same (is, told) = (is, subst (λ (f : Blocks). Answers {A = A} f (view_over s.pinned v.table v.lists) q (look.File bytes)) same told)
looked_same {A} s b v q (look.Dir entries) new same (is, told) = (is, subst (λ (f : Blocks). Answers {A = A} f (view_over s.pinned v.table v.lists) q (look.Dir entries)) same told)
looked_same {A} s b v q look.None new same (is, told) = (is, subst (λ (f : Blocks). Answers {A = A} f (view_over s.pinned v.table v.lists) q look.None) same told)
looked_same {A} s b v q (look.Kind kind) new same (is, told) = (is, subst (λ (f : Blocks). Answers {A = A} f (view_over s.pinned v.table v.lists) q (look.Kind kind)) same told)
looked_same {A} s b v q (look.Free found) new same (is, told) = (is, subst (λ (f : Blocks). Answers {A = A} f (view_over s.pinned v.table v.lists) q (look.Free found)) same told)
looked_same s b v q (look.Broken rule) new same none = absurd none

-- what was told in the same view by the same blocks, however they are held
pub looked_from : {A : Type 0} (inner old s : State) (v : AcceptedView) (q : Question) (blocks : CheckedBlocks) (a : Look A) (new : State) → inner ≡ old → over blocks s ≡ over blocks old → known_blocks blocks ≡ known_blocks s.blocks → old.view ≡ Some v
    → IfSome inner.view (λ w. Looked (record inner { blocks = blocks }) w q a new) → Looked s v q a new
looked_from {A} inner old s v q blocks a new is over_s known there looked =
    let of_old : IfSome old.view (λ w. Looked {A = A} (over blocks old) w q a new) = subst (λ (x : State). IfSome x.view (λ w. Looked {A = A} (over blocks x) w q a new)) is looked in
    let of_view : Looked {A = A} (over blocks old) v q a new = subst (λ (o : Option AcceptedView). IfSome o (λ w. Looked {A = A} (over blocks old) w q a new)) there of_old in
    looked_same {A = A} s blocks v q a new known (subst (λ (x : State). Looked {A = A} x v q a new) (sym over_s) of_view)

-- what was told of a look with one block more that is held, is told of the look that was under way
pub given_from : {A : Type 0} (inner old : State) (v : AcceptedView) (l : Looking) (blocks : CheckedBlocks) (block : Option (List ℕ)) (text : List ℕ) (s : Look A) (new : State) → inner ≡ old → known_blocks blocks ≡ known_blocks (with_held old.blocks text) → old.view ≡ Some v
    → block_breaks (known_blocks old.blocks) l.asked block ≡ None → block ≡ Some text → IfSome inner.view (λ w. Looked (record inner { blocks = blocks }) w l.question s new) → Given old v l block s new
given_from {A} inner old v l blocks block text s new is known there none given looked =
    given_looked old v l block text s new none given (looked_from {A = A} inner old (holding old text) v l.question blocks s new is refl known there looked)

-- what is shown by blocks in a view is shown in the same view by blocks of which the same is known
pub shown_there : {A : Type 0} (before blocks : CheckedBlocks) (key same_key : List ℕ) (t : Table) (x : Lists) (v : AcceptedView) (q : Question) (s : Shown A) → known_blocks before ≡ known_blocks blocks → key ≡ same_key → t ≡ v.table → x ≡ v.lists
    → IsAnswer (known_blocks before) (view_over key t x) q s → IsAnswer (known_blocks blocks) (view_over same_key v.table v.lists) q s
shown_there {A} before blocks key same_key t x v q s same pinned of_table of_lists shown =
    let of_view : IsAnswer {A = A} (known_blocks before) (view_over key v.table v.lists) q s = subst (λ (y : Lists). IsAnswer {A = A} (known_blocks before) (view_over key v.table y) q s) of_lists (subst (λ (u : Table). IsAnswer {A = A} (known_blocks before) (view_over key u x) q s) of_table shown) in
    subst (λ (f : Blocks). IsAnswer {A = A} f (view_over same_key v.table v.lists) q s) same
    (subst (λ (k : List ℕ). IsAnswer {A = A} (known_blocks before) (view_over k v.table v.lists) q s) pinned of_view)
