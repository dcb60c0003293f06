-- What a client is told of its accepted view. What it knows of blocks then says Holding.antt.
use Rattle.std.specs.Prelude.{◌≡◌, Option, Some, None, IsSomeAnd, true}
use Rattle.layout.specs.Types.{Bytes}
use Rattle.update_cert.specs.World.{File, Directory}
use Rattle.tree_parts.specs.Blocks.{Blocks}
use Rattle.tree_parts.specs.Spot.{lacks}
use Rattle.checked_blocks.specs.CheckedBlocks.{known_blocks}
use Rattle.client_tree.specs.Questions.{IsAskedBy, IsFreeIn, IsKindAt, IsSeenAt}
use Rattle.client_tree.specs.View.{View}
use Rattle.client_tree.specs.declared.questions.Question.{Question}
use Rattle.client_tree.specs.declared.questions.Question.TheVariants as question
use Rattle.reply_check.specs.declared.asked.Asked.{Asked}
use Rattle.client_verify.specs.declared.view.Looking.{Looking}
use Rattle.client_verify.specs.declared.look.Look.{Look}
use Rattle.client_verify.specs.declared.look.Look.TheVariants as look
use Rattle.reply_check.specs.FirstBroken.{view_over}
use Rattle.client_verify.specs.State.{State, AcceptedView, holding}
use Rattle.reply_check.specs.AskedBlock.{block_breaks}

-- Each question has its answers: what stands at the i-number, of what kind and size it is, or the least i-number of the
-- range at which nothing stands. Nothing that is asked for is missing, and the answer is so in the tree of the view.
abbrev pub Answers : {A : Type 0} → Blocks → View → Question → Look A → Type 0
Answers blocks x (question.At p i) (look.File bytes) = IsSeenAt blocks x p i (Some (File bytes.items))
Answers blocks x (question.At p i) (look.Dir entries) = IsSeenAt blocks x p i (Some (Directory entries))
Answers blocks x (question.At p i) look.None = IsSeenAt blocks x p i None
Answers blocks x (question.Kind p i) (look.Kind kind) = IsKindAt blocks x p i kind
Answers blocks x (question.Free p first last) (look.Free found) = IsFreeIn blocks x p first last found
Answers blocks x q other = ⊥

-- A question about the view: a block is asked for that is needed to tell it, of which no text is known that its spot
-- takes; or, once none is wanted any more, it is answered.
abbrev pub Looked : {A : Type 0} → State → AcceptedView → Question → Look A → State → Type 0
Looked s v q (look.Need digest) new =
    (a : Asked) × (a.digest ≡ digest)
    × (new ≡ record s {
      blocks = new.blocks;
      view = Some (record v { looking = Some (record { question = q; asked = a }) });
    })
    × IsAskedBy (known_blocks s.blocks) (view_over s.pinned v.table v.lists) q digest a.spot
    × (lacks (known_blocks s.blocks) digest a.spot ≡ true)
Looked s v q (look.Broken rule) new = ⊥
Looked s v q answer new =
    (new ≡ record s { blocks = new.blocks; view = Some (record v { looking = None }) })
    × Answers (known_blocks s.blocks) (view_over s.pinned v.table v.lists) q answer

-- The block that a look asks for, or its absence: Broken where it isn't that block, and then the client is as before;
-- else it is held, and the look goes on.
abbrev pub Given : {A : Type 0} → State → AcceptedView → Looking → Option Bytes → Look A → State → Type 0
Given old v l block (look.Broken rule) new =
    (block_breaks (known_blocks old.blocks) l.asked block ≡ Some rule) × (new ≡ old)
Given old v l block answer new =
    (block_breaks (known_blocks old.blocks) l.asked block ≡ None)
    × IsSomeAnd block (λ text. Looked (holding old text) v l.question answer new)
