-- What a client asks for, and what it sees, is told alike wherever it lies in memory.
use Rattle.std.proofs.Common.{◌≡◌, List, [], ◌∷◌, map, Option, Some, None, Ok, Err, Result, IfOk, IsSomeAnd, refl, ap, ◌∙◌}
use Rattle.std.specs.Vec.{vec_items}
use Rattle.std.specs.declared.vec.Vec.{Vec}
use Rattle.layout.specs.Types.{Bytes}
use Rattle.pending_list.specs.Reply.{Reply}
use Rattle.reply_rules.specs.Lists.{Lists, lists_of}
use Rattle.tree_parts.specs.Blocks.{Blocks}
use Rattle.client_tree.specs.declared.questions.Question.{Question}
use Rattle.client_tree.specs.declared.questions.Question.TheVariants as question
use Rattle.checked_blocks.specs.CheckedBlocks.{known_blocks}
use Rattle.client_tree.specs.View.{View}
use Rattle.client_verify.specs.declared.look.Look.{Look}
use Rattle.client_verify.specs.declared.look.Look.TheVariants as look
use Rattle.client_verify.specs.declared.step.Step.{Step}
use Rattle.client_verify.specs.declared.step.Step.TheVariants as step
use Rattle.client_verify.specs.declared.view.Looking.{Looking}
use Rattle.reply_check.specs.FirstBroken.{reply_in, view_over}
use Rattle.reply_check.specs.Good.{Good}
use Rattle.client_verify.specs.State.{AcceptedView, Checked, Reading, State, Writing, holding}
use Rattle.client_verify.specs.Holding.{HoldsAfter, LookHoldsAfter}
use Rattle.client_verify.specs.Judged.{AsksOrAccepts, GoesOn, Handed, Judged, Taken}
use Rattle.client_verify.specs.Looked.{Answers, Given, Looked}
use Rattle.client_steps.specs.Anywhere.{asked, bytes_anywhere, on_ok, seen}

-- ---- what is stored

same_texts : {B A : Type 0} (texts : List (Vec B A)) → map vec_items (map bytes_anywhere texts) ≡ map vec_items texts
same_texts [] = refl
same_texts (x ∷ texts) = ap (λ ts. x.items ∷ ts) (same_texts texts)

-- ---- replies

goes : {A : Type 0} (s : State) (x : Good) (answer : Step A) (new : State) → AsksOrAccepts s x answer new → AsksOrAccepts s x (asked answer) new
goes s x (step.Need digest) new h = h
goes s x (step.Store texts) new h = (h.0, h.1, h.2, h.3, h.4, h.5, same_texts texts.items ∙ h.6)
goes s x (step.Broken rule) new h = h

taken : {A : Type 0} (s : State) (r : Reply) (x : Lists) (answer : Step A) (new : State) → Taken s r x answer new → Taken s r x (asked answer) new
taken s r x (step.Need digest) new h = h
taken s r x (step.Store texts) new h = (h.0, h.1, goes s h.0 (step.Store texts) new h.2)
taken s r x (step.Broken rule) new h = h

lists_taken : {A : Type 0} (s : State) (r : Reply) (lists : Option Lists) (answer : Step A) (new : State) → IsSomeAnd lists (λ x. Taken s r x answer new) → IsSomeAnd lists (λ x. Taken s r x (asked answer) new)
lists_taken s r None answer new h = h
lists_taken s r (Some x) answer new h = taken s r x answer new h

reply_taken : {A : Type 0} (s : State) (reply : Option Reply) (answer : Step A) (new : State) → IsSomeAnd reply (λ r. IsSomeAnd (lists_of r) (λ x. Taken s r x answer new)) → IsSomeAnd reply (λ r. IsSomeAnd (lists_of r) (λ x. Taken s r x (asked answer) new))
reply_taken s None answer new h = h
reply_taken s (Some r) answer new h = lists_taken s r (lists_of r) answer new h

judged_step : {A : Type 0} (s : State) (text : Bytes) (answer : Step A) (new : State) → Judged s text answer new → Judged s text (asked answer) new
judged_step {A} s text (step.Need digest) new h = (h.0, reply_taken {A = A} s (reply_in text) (step.Need digest) new h.1)
judged_step s text (step.Store texts) new h = (h.0, reply_taken s (reply_in text) (step.Store texts) new h.1)
judged_step s text (step.Broken rule) new h = h

pub judged : {A E : Type 0} (s : State) (text : Bytes) (answer : Result (Step A) E) (new : State) → IfOk answer (λ x. Judged s text x new) → IfOk (on_ok asked answer) (λ x. Judged s text x new)
judged s text (Ok x) new h = judged_step s text x new h
judged s text (Err e) new h = h

-- ---- blocks of a reply

goes_on : {A : Type 0} (s : State) (k : Checked) (answer : Step A) (new : State) → GoesOn s k answer new → GoesOn s k (asked answer) new
goes_on s (Reading r a) answer new h = lists_taken s r (lists_of r) answer new h
goes_on s (Writing x a) answer new h = goes s x answer new h

block_on : {A : Type 0} (s : State) (k : Checked) (block : Option Bytes) (answer : Step A) (new : State) → IsSomeAnd block (λ text. GoesOn (holding s text) k answer new) → IsSomeAnd block (λ text. GoesOn (holding s text) k (asked answer) new)
block_on s k None answer new h = h
block_on s k (Some text) answer new h = goes_on (holding s text) k answer new h

handed_step : {A : Type 0} (s : State) (k : Checked) (block : Option Bytes) (answer : Step A) (new : State) → Handed s k block answer new → Handed s k block (asked answer) new
handed_step {A} s k block (step.Need digest) new h = (h.0, block_on {A = A} s k block (step.Need digest) new h.1)
handed_step s k block (step.Store texts) new h = (h.0, block_on s k block (step.Store texts) new h.1)
handed_step s k block (step.Broken rule) new h = h

pub handed : {A E : Type 0} (s : State) (k : Checked) (block : Option Bytes) (answer : Result (Step A) E) (new : State) → IfOk answer (λ x. Handed s k block x new) → IfOk (on_ok asked answer) (λ x. Handed s k block x new)
handed s k block (Ok x) new h = handed_step s k block x new h
handed s k block (Err e) new h = h

-- ---- looks

answered : {A : Type 0} (blocks : Blocks) (x : View) (q : Question) (answer : Look A) → Answers blocks x q answer → Answers blocks x q (seen answer)
answered blocks x (question.At p i) (look.File bytes) h = h
answered blocks x (question.At p i) (look.Dir entries) h = h
answered blocks x (question.At p i) look.None h = h
answered blocks x (question.Kind p i) (look.Kind kind) h = h
answered blocks x (question.Free p first last) (look.Free found) h = h
answered blocks x q answer h = absurd h

looked_step : {A : Type 0} (s : State) (v : AcceptedView) (q : Question) (answer : Look A) (new : State) → Looked s v q answer new → Looked s v q (seen answer) new
looked_step s v q (look.Need digest) new h = h
looked_step s v q (look.Broken rule) new h = h
looked_step {A} s v q (look.File bytes) new h = (h.0, answered {A = A} (known_blocks s.blocks) (view_over s.pinned v.table v.lists) q (look.File bytes) h.1)
looked_step {A} s v q (look.Dir entries) new h = (h.0, answered {A = A} (known_blocks s.blocks) (view_over s.pinned v.table v.lists) q (look.Dir entries) h.1)
looked_step {A} s v q look.None new h = (h.0, answered {A = A} (known_blocks s.blocks) (view_over s.pinned v.table v.lists) q look.None h.1)
looked_step {A} s v q (look.Kind kind) new h = (h.0, answered {A = A} (known_blocks s.blocks) (view_over s.pinned v.table v.lists) q (look.Kind kind) h.1)
looked_step {A} s v q (look.Free found) new h = (h.0, answered {A = A} (known_blocks s.blocks) (view_over s.pinned v.table v.lists) q (look.Free found) h.1)

pub looked : {A E : Type 0} (s : State) (v : AcceptedView) (q : Question) (answer : Result (Look A) E) (new : State) → IfOk answer (λ x. Looked s v q x new) → IfOk (on_ok seen answer) (λ x. Looked s v q x new)
looked s v q (Ok x) new h = looked_step s v q x new h
looked s v q (Err e) new h = h

block_looked : {A : Type 0} (s : State) (v : AcceptedView) (l : Looking) (block : Option Bytes) (answer : Look A) (new : State) → IsSomeAnd block (λ text. Looked (holding s text) v l.question answer new) → IsSomeAnd block (λ text. Looked (holding s text) v l.question (seen answer) new)
block_looked s v l None answer new h = h
block_looked s v l (Some text) answer new h = looked_step (holding s text) v l.question answer new h

given_step : {A : Type 0} (s : State) (v : AcceptedView) (l : Looking) (block : Option Bytes) (answer : Look A) (new : State) → Given s v l block answer new → Given s v l block (seen answer) new
given_step {A} s v l block (look.Need digest) new h = (h.0, block_looked {A = A} s v l block (look.Need digest) new h.1)
given_step s v l block (look.File bytes) new h = (h.0, block_looked s v l block (look.File bytes) new h.1)
given_step {A} s v l block (look.Dir entries) new h = (h.0, block_looked {A = A} s v l block (look.Dir entries) new h.1)
given_step {A} s v l block look.None new h = (h.0, block_looked {A = A} s v l block look.None new h.1)
given_step {A} s v l block (look.Kind kind) new h = (h.0, block_looked {A = A} s v l block (look.Kind kind) new h.1)
given_step {A} s v l block (look.Free found) new h = (h.0, block_looked {A = A} s v l block (look.Free found) new h.1)
given_step s v l block (look.Broken rule) new h = h

pub given : {A E : Type 0} (s : State) (v : AcceptedView) (l : Looking) (block : Option Bytes) (answer : Result (Look A) E) (new : State) → IfOk answer (λ x. Given s v l block x new) → IfOk (on_ok seen answer) (λ x. Given s v l block x new)
given s v l block (Ok x) new h = given_step s v l block x new h
given s v l block (Err e) new h = h

-- ---- what is held

holds_step : {A : Type 0} (old : State) (block : Option Bytes) (answer : Step A) (new : State) → HoldsAfter old block answer new → HoldsAfter old block (asked answer) new
holds_step old block (step.Need digest) new h = h
holds_step old block (step.Store texts) new h = h
holds_step old block (step.Broken rule) new h = h

pub holds : {A E : Type 0} (old : State) (block : Option Bytes) (answer : Result (Step A) E) (new : State) → IfOk answer (λ x. HoldsAfter old block x new) → IfOk (on_ok asked answer) (λ x. HoldsAfter old block x new)
holds old block (Ok x) new h = holds_step old block x new h
holds old block (Err e) new h = h

look_holds_step : {A : Type 0} (old : State) (block : Option Bytes) (answer : Look A) (new : State) → LookHoldsAfter old block answer new → LookHoldsAfter old block (seen answer) new
look_holds_step old block (look.Need digest) new h = h
look_holds_step old block (look.File bytes) new h = h
look_holds_step old block (look.Dir entries) new h = h
look_holds_step old block look.None new h = h
look_holds_step old block (look.Kind kind) new h = h
look_holds_step old block (look.Free found) new h = h
look_holds_step old block (look.Broken rule) new h = h

pub look_holds : {A E : Type 0} (old : State) (block : Option Bytes) (answer : Result (Look A) E) (new : State) → IfOk answer (λ x. LookHoldsAfter old block x new) → IfOk (on_ok seen answer) (λ x. LookHoldsAfter old block x new)
look_holds old block (Ok x) new h = look_holds_step old block x new h
look_holds old block (Err e) new h = h
