-- What a reply comes to, and a block that was handed in for it: it breaks a rule, or it goes on.
use Rattle.std.proofs.Common.{◌≡◌, ℕ, List, Option, Some, None, sym, ap, refl, subst, ◌∙◌}
use Rattle.std.specs.Prelude.{IfSome, IsSomeAnd}
use Rattle.std.specs.Option.{option_and_then}
use Rattle.reply_rules.specs.Lists.{Lists, lists_of}
use Rattle.reply_rules.specs.declared.rule.Rule.{Rule}
use Rattle.pending_list.specs.Reply.{Reply}
use Rattle.checked_blocks.specs.CheckedBlocks.{CheckedBlocks, holding as with_held, known_blocks}
use Rattle.reply_check.specs.declared.asked.Asked.{Asked}
use Rattle.client_verify.specs.declared.step.Step.{Step}
use Rattle.client_verify.specs.declared.step.Step.TheVariants as step
use Rattle.reply_check.specs.declared.reaching.Reached.{Reached}
use Rattle.reply_check.specs.declared.reaching.Reached.TheVariants as reached
use Rattle.reply_check.specs.declared.reaching.Written.{Written}
use Rattle.reply_check.specs.Good.{Good, view_of}
use Rattle.reply_check.specs.FirstBroken.{Known, ByTable, IsFirstBroken, IsRead, lists_break, lists_in, reply_breaks, reply_in, view_over}
use Rattle.reply_check.specs.Reached.{IsReached, IsWritten}
use Rattle.client_verify.specs.State.{State, Checked, Reading, asked_of, blocks_with, holding, known}
use Rattle.reply_check.specs.AskedBlock.{block_breaks}
use Rattle.client_verify.specs.Judged.{AsksOrAccepts, Handed, Judged, ReadsOn, Taken, unjudged}
use Rattle.client_verify.proofs.Steps.{some_one, taken_goes, taken_need}

-- ---- what holds of an option's value

pub at_one : {A : Type 0} (o : Option A) (a : A) (P : A → Type 0) → o ≡ Some a → IsSomeAnd o P → P a
at_one {A} o a P is holds = subst (λ (x : Option A). IsSomeAnd x P) is holds

pub if_at : {A : Type 0} (o : Option A) (a : A) (P : A → Type 0) → o ≡ Some a → IfSome o P → P a
if_at {A} o a P is holds = subst (λ (x : Option A). IfSome x P) is holds

each_one : {A : Type 0} (o : Option A) (P Q : A → Type 0) → ((a : A) → P a → Q a) → IsSomeAnd o P → IsSomeAnd o Q
each_one None P Q each holds = holds
each_one (Some a) P Q each holds = each a holds

never : {A : Type 0} (o : Option A) (P : A → Type 0) → ((a : A) → P a → ⊥) → IsSomeAnd o P → ⊥
never None P none holds = holds
never (Some a) P none holds = none a holds

-- ---- a reply is taken

abbrev pub TakenOf : {A : Type 0} → State → Reply → Step A → State → Type 0
TakenOf s r st new = IsSomeAnd (lists_of r) (λ x. Taken s r x st new)

-- the lists of a reply, which break no rule by this table, and what their own operation makes
abbrev pub BreaksNoneAndMakes : {A : Type 0} → CheckedBlocks → List ℕ → Good → Written A → Lists → Type 0
BreaksNoneAndMakes blocks key g w x = IsRead (known_blocks blocks) key x g.table g.void × ByTable (known_blocks blocks) key x None × IsWritten (known_blocks blocks) (view_over key g.table x) g.void w

-- how far the reply comes by the blocks of the same state, and by the key that it knows
pub reached_there : {A : Type 0} (inner old : State) (k : Known) (r : Reply) (f g : Reached A) → inner ≡ old → k ≡ known old → f ≡ g → IsSomeAnd (lists_of r) (λ x. IsReached (known_blocks inner.blocks) k.pinned x f)
    → IsSomeAnd (lists_of r) (λ x. IsReached (known_blocks old.blocks) old.pinned x g)
reached_there {A} inner old k r f g same by is reaches =
    let of_key : IsSomeAnd (lists_of r) (λ x. IsReached {A = A} (known_blocks inner.blocks) old.pinned x f) = subst (λ (l : Known). IsSomeAnd (lists_of r) (λ x. IsReached {A = A} (known_blocks inner.blocks) l.pinned x f)) by reaches in
    let of_old : IsSomeAnd (lists_of r) (λ x. IsReached {A = A} (known_blocks old.blocks) old.pinned x f) = subst (λ (s : State). IsSomeAnd (lists_of r) (λ x. IsReached {A = A} (known_blocks s.blocks) old.pinned x f)) same of_key in
    subst (λ (h : Reached A). IsSomeAnd (lists_of r) (λ x. IsReached {A = A} (known_blocks old.blocks) old.pinned x h)) is of_old

-- the same with one block more, for the reply under check
pub reached_on : {A : Type 0} (inner old : State) (l : Known) (text : List ℕ) (k : Checked) (r : Reply) (a : Asked) (f : Reached A) → inner ≡ old → l ≡ known old → Reading r a ≡ k → IsSomeAnd (lists_of r) (λ x. IsReached (known_blocks (with_held inner.blocks text)) l.pinned x f)
    → IsSomeAnd (unjudged k) (λ x. IsReached (known_blocks (with_held old.blocks text)) old.pinned x f)
reached_on {A} inner old l text k r a f same by is reaches =
    let there = reached_there (holding inner text) (holding old text) l r f f (ap (λ (s : State). holding s text) same) by refl reaches in
    subst (λ (c : Checked). IsSomeAnd (unjudged c) (λ x. IsReached {A = A} (known_blocks (with_held old.blocks text)) old.pinned x f)) is there

-- and for the reply that was taken out
pub reached_taken : {A : Type 0} (old : State) (text : List ℕ) (k : Checked) (r : Reply) (a : Asked) (f g : Reached A) → Reading r a ≡ k → f ≡ g → IsSomeAnd (unjudged k) (λ x. IsReached (known_blocks (with_held old.blocks text)) old.pinned x f)
    → IsSomeAnd (lists_of r) (λ x. IsReached (known_blocks (with_held old.blocks text)) old.pinned x g)
reached_taken {A} old text k r a f g is same reaches =
    let of_reply : IsSomeAnd (lists_of r) (λ x. IsReached {A = A} (known_blocks (with_held old.blocks text)) old.pinned x f) = subst (λ (c : Checked). IsSomeAnd (unjudged c) (λ x. IsReached {A = A} (known_blocks (with_held old.blocks text)) old.pinned x f)) (sym is) reaches in
    subst (λ (h : Reached A). IsSomeAnd (lists_of r) (λ x. IsReached {A = A} (known_blocks (with_held old.blocks text)) old.pinned x h)) same of_reply

-- the lists break a rule by the table that is read with one block more
pub reads_broken : {A : Type 0} (old : State) (text : List ℕ) (o : Option Checked) (f : Reached A) (rule : Rule) → f ≡ reached.Breaks rule → IfSome o (λ k. IsSomeAnd (unjudged k) (λ x. IsReached (known_blocks (with_held old.blocks text)) old.pinned x f))
    → IfSome o (λ k. IsSomeAnd (unjudged k) (λ x. ByTable (known_blocks (with_held old.blocks text)) old.pinned x (Some rule)) × (old ≡ old))
reads_broken old text None f rule is reaches = tt
reads_broken {A} old text (Some k) f rule is reaches = (subst (λ (h : Reached A). IsSomeAnd (unjudged k) (λ x. IsReached {A = A} (known_blocks (with_held old.blocks text)) old.pinned x h)) is reaches, refl)

-- a block of the table of principals is asked for
pub taken_lacks : (A : Type 0) (s new : State) (r : Reply) (a : Asked) (st : Step A) → st ≡ step.Need a.digest → new ≡ record s { blocks = new.blocks; checked = Some (Reading r a); accepted = None }
    → IsSomeAnd (lists_of r) (λ x. IsReached {A = A} (known_blocks s.blocks) s.pinned x (reached.Lacks a)) → TakenOf s r st new
taken_lacks A s new r a st is made reaches =
    subst (λ (y : Step A). TakenOf s r y new) (sym is)
    (each_one (lists_of r) (λ x. IsReached {A = A} (known_blocks s.blocks) s.pinned x (reached.Lacks a)) (λ x. Taken {A = A} s r x (step.Need a.digest) new) (λ x lacks. taken_need A s new r x a made lacks) reaches)

-- the lists break no rule by this table
pub good_written : {A : Type 0} (blocks : CheckedBlocks) (key : List ℕ) (r : Reply) (g : Good) (w : Written A) → lists_of r ≡ Some g.lists → IsSomeAnd (lists_of r) (BreaksNoneAndMakes blocks key g w) → IsWritten (known_blocks blocks) (view_of key g) g.void w
good_written {A} blocks key r g w lists reaches = (at_one (lists_of r) g.lists (BreaksNoneAndMakes {A = A} blocks key g w) lists reaches).2

pub good_unbroken : {A : Type 0} (blocks : CheckedBlocks) (key : List ℕ) (r : Reply) (g : Good) (w : Written A) → lists_of r ≡ Some g.lists → IsSomeAnd (lists_of r) (BreaksNoneAndMakes blocks key g w) → lists_break g.table g.lists ≡ None
good_unbroken {A} blocks key r g w lists reaches =
    let here = at_one (lists_of r) g.lists (BreaksNoneAndMakes {A = A} blocks key g w) lists reaches in
    here.1 g.table g.void here.0

pub taken_good : {A : Type 0} (s new : State) (r : Reply) (g : Good) (w : Written A) (st : Step A) → lists_of r ≡ Some g.lists → IsSomeAnd (lists_of r) (BreaksNoneAndMakes s.blocks s.pinned g w) → AsksOrAccepts s g st new → TakenOf s r st new
taken_good {A} s new r g w st lists reaches goes =
    let here = at_one (lists_of r) g.lists (BreaksNoneAndMakes {A = A} s.blocks s.pinned g w) lists reaches in
    some_one (lists_of r) g.lists (λ x. Taken s r x st new) lists (taken_goes s new r g.lists g st (refl, here.0, here.1) goes)

-- ---- a reply is judged

pub judged_of : {A : Type 0} (old new : State) (text : List ℕ) (r : Reply) (st : Step A) → reply_breaks (known old) text ≡ None → reply_in text ≡ Some r → TakenOf old r st new → Judged old text st new
judged_of old new text r (step.Need d) none read taken = (none, some_one (reply_in text) r _ read taken)
judged_of old new text r (step.Store texts) none read taken = (none, some_one (reply_in text) r _ read taken)
judged_of {A} old new text r (step.Broken rule) none read taken = absurd (never (lists_of r) (λ x. Taken {A = A} old r x (step.Broken rule) new) (λ x t. t) taken)

-- the lists break a rule by the table that was read
pub judged_breaks : (old : State) (text : List ℕ) (r : Reply) (rule : Rule) → reply_breaks (known old) text ≡ None → reply_in text ≡ Some r → IsSomeAnd (lists_of r) (λ x. ByTable (known_blocks old.blocks) old.pinned x (Some rule))
    → IsFirstBroken (reply_breaks (known old) text) None (known_blocks old.blocks) old.pinned (lists_in text) rule
judged_breaks old text r rule none read breaks =
    let lists : lists_in text ≡ lists_of r = ap (option_and_then lists_of) read in
    let of_lists : IsSomeAnd (lists_in text) (λ x. ByTable (known_blocks old.blocks) old.pinned x (Some rule)) = subst (λ (o : Option Lists). IsSomeAnd o (λ x. ByTable (known_blocks old.blocks) old.pinned x (Some rule))) (sym lists) breaks in
    subst (λ (o : Option Rule). IsFirstBroken o None (known_blocks old.blocks) old.pinned (lists_in text) rule) (sym none) of_lists

-- ---- a block of the table was handed in

same_reply : (r other : Reply) (a b : Asked) → Reading r a ≡ Reading other b → r ≡ other
same_reply r other a b is = cc

-- two replies that are read are one where they are under check alike
pub reading_same : (r other : Reply) (a b : Asked) (k : Checked) → Reading r a ≡ k → Reading other b ≡ k → r ≡ other
reading_same r other a b k is also = same_reply r other a b (is ∙ sym also)

-- the state that asks for a block, whichever blocks are held
pub asked_is : (v old new : State) (blocks : CheckedBlocks) (j k : Checked) → v ≡ old → j ≡ k → new ≡ record v { blocks = blocks; checked = Some j; accepted = None } → new ≡ record old { blocks = new.blocks; checked = Some k; accepted = None }
asked_is v old new blocks j k is same made =
    let of_blocks : new.blocks ≡ blocks = ap (λ (n : State). n.blocks) made in
    made ∙ rw (is, same, of_blocks) refl

reading_on : {A : Type 0} (old new : State) (text : List ℕ) (r : Reply) (a : Asked) (st : Step A) → TakenOf (holding old text) r st new → ReadsOn old (Reading r a) text st new
reading_on old new text r a (step.Need d) taken = taken
reading_on old new text r a (step.Store texts) taken = taken
reading_on {A} old new text r a (step.Broken rule) taken = absurd (never (lists_of r) (λ x. Taken {A = A} (holding old text) r x (step.Broken rule) new) (λ x t. t) taken)

pub reads_taken : {A : Type 0} (old new : State) (k : Checked) (text : List ℕ) (r : Reply) (a : Asked) (st : Step A) → Reading r a ≡ k → TakenOf (holding old text) r st new → ReadsOn old k text st new
reads_taken {A} old new k text r a st is taken = subst (λ (c : Checked). ReadsOn {A = A} old c text st new) is (reading_on old new text r a st taken)

-- ---- a block is handed in

-- which rule a block breaks that was handed in for the same one, in the same state
pub breaks_before : (inner old : State) (a b : Asked) (block : Option (List ℕ)) (o : Option Rule) → inner ≡ old → a ≡ b → block_breaks (known_blocks old.blocks) b block ≡ o → block_breaks (known_blocks inner.blocks) a block ≡ o
breaks_before inner old a b block o same is breaks =
    let of_asked : block_breaks (known_blocks old.blocks) a block ≡ o = subst (λ (c : Asked). block_breaks (known_blocks old.blocks) c block ≡ o) (sym is) breaks in
    subst (λ (s : State). block_breaks (known_blocks s.blocks) a block ≡ o) (sym same) of_asked

-- and the other way about
pub breaks_after : (inner old : State) (a b : Asked) (block : Option (List ℕ)) (o : Option Rule) → inner ≡ old → a ≡ b → block_breaks (known_blocks inner.blocks) a block ≡ o → block_breaks (known_blocks old.blocks) b block ≡ o
breaks_after inner old a b block o same is breaks =
    let of_asked : block_breaks (known_blocks inner.blocks) b block ≡ o = subst (λ (c : Asked). block_breaks (known_blocks inner.blocks) c block ≡ o) is breaks in
    subst (λ (s : State). block_breaks (known_blocks s.blocks) b block ≡ o) same of_asked

pub handed_reads : {A : Type 0} (old new : State) (k : Checked) (block : Option (List ℕ)) (text : List ℕ) (st : Step A) → block_breaks (known_blocks old.blocks) (asked_of k) block ≡ None → block ≡ Some text → ReadsOn old k text st new → Handed old k block st new
handed_reads old new k block text (step.Need d) none is reads = (none, some_one block text _ is reads)
handed_reads old new k block text (step.Store texts) none is reads = (none, some_one block text _ is reads)
handed_reads old new k block text (step.Broken rule) none is reads =
    let of_block : IsFirstBroken None None (known_blocks (blocks_with old block)) old.pinned (unjudged k) rule = subst (λ (b : Option (List ℕ)). IsFirstBroken None None (known_blocks (blocks_with old b)) old.pinned (unjudged k) rule) (sym is) reads.0 in
    (subst (λ (o : Option Rule). IsFirstBroken None o (known_blocks (blocks_with old block)) old.pinned (unjudged k) rule) (sym none) of_block, reads.1)
