-- What a look tells of an answer.
use Rattle.std.proofs.Common.{◌≡◌, ℕ, List, Option, None, Some, subst}
use Rattle.update_cert.specs.World.{Content}
use Rattle.layout.specs.Types.{INumber}
use Rattle.tree_parts.specs.Blocks.{Blocks}
use Rattle.client_tree.specs.View.{View}
use Rattle.client_tree.specs.Questions.{IsAnsweredBy, IsFreeIn, IsKindAt, IsSeenAt}
use Rattle.client_tree.specs.declared.contents.SeenKind.{SeenKind}
use Rattle.client_tree.specs.declared.questions.Question.{Question}
use Rattle.client_tree.specs.declared.questions.Question.TheVariants as question
use Rattle.client_tree.specs.declared.questions.Answer.{Answer}
use Rattle.client_tree.specs.declared.questions.Answer.TheVariants as answer
use Rattle.client_verify.specs.declared.look.Look.{Look}
use Rattle.client_verify.specs.declared.look.Look.TheVariants as look
use Rattle.client_verify.specs.Told.{IsTold}
use Rattle.client_verify.specs.Looked.{Answers, Looked}
use Rattle.client_verify.specs.State.{AcceptedView, State}
use Rattle.checked_blocks.specs.CheckedBlocks.{known_blocks}
use Rattle.reply_check.specs.FirstBroken.{view_over}

-- what is told is the answer to the question
answered : {A : Type 0} (blocks : Blocks) (x : View) (q : Question) (a : Answer A) (l : Look A) → IsTold a l → IsAnsweredBy blocks x q a → Answers blocks x q l
answered blocks x (question.At p i) (answer.Sees s) (look.Need d) told is = absurd told
answered blocks x (question.At p i) (answer.Sees s) (look.File bytes) told is = subst (λ (c : Option Content). IsSeenAt blocks x p i c) told is
answered blocks x (question.At p i) (answer.Sees s) (look.Dir entries) told is = subst (λ (c : Option Content). IsSeenAt blocks x p i c) told is
answered blocks x (question.At p i) (answer.Sees s) look.None told is = subst (λ (c : Option Content). IsSeenAt blocks x p i c) told is
answered blocks x (question.At p i) (answer.Sees s) (look.Kind k) told is = absurd told
answered blocks x (question.At p i) (answer.Sees s) (look.Free f) told is = absurd told
answered blocks x (question.At p i) (answer.Sees s) (look.Broken r) told is = absurd told
answered blocks x (question.At p i) (answer.Kind k) l told is = absurd is
answered blocks x (question.At p i) (answer.Free f) l told is = absurd is
answered blocks x (question.Kind p i) (answer.Sees s) l told is = absurd is
answered blocks x (question.Kind p i) (answer.Kind k) (look.Need d) told is = absurd told
answered blocks x (question.Kind p i) (answer.Kind k) (look.File bytes) told is = absurd told
answered blocks x (question.Kind p i) (answer.Kind k) (look.Dir entries) told is = absurd told
answered blocks x (question.Kind p i) (answer.Kind k) look.None told is = absurd told
answered blocks x (question.Kind p i) (answer.Kind k) (look.Kind other) told is = subst (λ (o : SeenKind). IsKindAt blocks x p i o) told is
answered blocks x (question.Kind p i) (answer.Kind k) (look.Free f) told is = absurd told
answered blocks x (question.Kind p i) (answer.Kind k) (look.Broken r) told is = absurd told
answered blocks x (question.Kind p i) (answer.Free f) l told is = absurd is
answered blocks x (question.Free p first last) (answer.Sees s) l told is = absurd is
answered blocks x (question.Free p first last) (answer.Kind k) l told is = absurd is
answered blocks x (question.Free p first last) (answer.Free f) (look.Need d) told is = absurd told
answered blocks x (question.Free p first last) (answer.Free f) (look.File bytes) told is = absurd told
answered blocks x (question.Free p first last) (answer.Free f) (look.Dir entries) told is = absurd told
answered blocks x (question.Free p first last) (answer.Free f) look.None told is = absurd told
answered blocks x (question.Free p first last) (answer.Free f) (look.Kind k) told is = absurd told
answered blocks x (question.Free p first last) (answer.Free f) (look.Free other) told is = subst (λ (o : Option INumber). IsFreeIn blocks x p first last o) told is
answered blocks x (question.Free p first last) (answer.Free f) (look.Broken r) told is = absurd told

asks_not : {A : Type 0} (a : Answer A) (d : List ℕ) → IsTold a (look.Need d) → ⊥
asks_not (answer.Sees s) d told = told
asks_not (answer.Kind k) d told = told
asks_not (answer.Free f) d told = told

-- so the look is over
pub looked_told : {A : Type 0} (s : State) (v : AcceptedView) (q : Question) (a : Answer A) (l : Look A) (new : State) → IsTold a l → new ≡ record s { blocks = new.blocks; view = Some (record v { looking = None }) } → IsAnsweredBy (known_blocks s.blocks) (view_over s.pinned v.table v.lists) q a → Looked s v q l new
looked_told s v q a (look.Need d) new told over is = absurd (asks_not a d told)
looked_told s v q a (look.File bytes) new told over is = (over, answered (known_blocks s.blocks) (view_over s.pinned v.table v.lists) q a (look.File bytes) told is)
looked_told s v q a (look.Dir entries) new told over is = (over, answered (known_blocks s.blocks) (view_over s.pinned v.table v.lists) q a (look.Dir entries) told is)
looked_told s v q a look.None new told over is = (over, answered (known_blocks s.blocks) (view_over s.pinned v.table v.lists) q a look.None told is)
looked_told s v q a (look.Kind k) new told over is = (over, answered (known_blocks s.blocks) (view_over s.pinned v.table v.lists) q a (look.Kind k) told is)
looked_told s v q a (look.Free f) new told over is = (over, answered (known_blocks s.blocks) (view_over s.pinned v.table v.lists) q a (look.Free f) told is)
looked_told s v q (answer.Sees x) (look.Broken r) new told over is = absurd told
looked_told s v q (answer.Kind k) (look.Broken r) new told over is = absurd told
looked_told s v q (answer.Free f) (look.Broken r) new told over is = absurd told
