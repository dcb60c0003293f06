-- How a client stands after an answer to a reply or to a block, and that it holds more blocks then where it asks for
-- one: what a caller's loop over questions rests on.
use Rattle.std.specs.Prelude.{◌≡◌, ◌<◌, length, None, IsSome, IsSomeAnd, true}
use Rattle.tree_parts.specs.Spot.{lacks}
use Rattle.checked_blocks.specs.CheckedBlocks.{known_blocks}
use Rattle.reply_check.specs.declared.asked.Asked.{Asked}
use Rattle.client_verify.specs.declared.step.Step.{Step}
use Rattle.client_verify.specs.declared.step.Step.TheVariants.{Need, Store, Broken}
use Rattle.client_verify.specs.declared.look.Look.{Look}
use Rattle.client_verify.specs.declared.look.Look.TheVariants as look
use Rattle.client_verify.specs.State.{State, asked_of}

-- the block that is asked for is the one that it waits for, and of which no text is known that its spot takes; or the
-- reply is accepted, and can be signed; or all is as before
abbrev pub StandsAfter : {A : Type 0} → State → Step A → State → Type 0
StandsAfter old (Need digest) new =
    (new.accepted ≡ None) × IsSomeAnd new.checked
    (λ k. ((asked_of k).digest ≡ digest) × (lacks (known_blocks new.blocks) digest (asked_of k).spot ≡ true))
StandsAfter old (Store texts) new = (new.checked ≡ None) × IsSome new.accepted
StandsAfter old (Broken rule) new = new ≡ old

-- nothing changes but what is known of blocks, the reply under check, and the accepted one
abbrev pub OnlyJudges : State → State → Type 0
OnlyJudges old new = new ≡ record old { blocks = new.blocks; checked = new.checked; accepted = new.accepted }

-- no text of a block that is asked for is known that its spot takes
abbrev pub IsLacking : State → Asked → Type 0
IsLacking s a = lacks (known_blocks s.blocks) a.digest a.spot ≡ true

-- more blocks are held than before
abbrev pub HasMore : State → State → Type 0
HasMore old new = length old.blocks.held < length new.blocks.held

-- where one more is asked for
abbrev pub HoldsMore : {A : Type 0} → State → Step A → State → Type 0
HoldsMore old (Need digest) new = HasMore old new
HoldsMore old step new = Unit {0}

-- the block that is asked for is the one that the look waits for, and of which no text is known that its spot takes; or
-- the look is over; or all is as before
abbrev pub LookStandsAfter : {A : Type 0} → State → Look A → State → Type 0
LookStandsAfter old (look.Need digest) new = IsSomeAnd new.view
    (λ v. IsSomeAnd v.looking (λ l. (l.asked.digest ≡ digest) × IsLacking new l.asked))
LookStandsAfter old (look.Broken rule) new = new ≡ old
LookStandsAfter old answer new = IsSomeAnd new.view (λ v. v.looking ≡ None)

-- of a look nothing changes but what is known of blocks and the view, of which the look is part
abbrev pub OnlyLooks : State → State → Type 0
OnlyLooks old new = new ≡ record old { blocks = new.blocks; view = new.view }

-- more blocks are held than before, where one more is asked for
abbrev pub LookHoldsMore : {A : Type 0} → State → Look A → State → Type 0
LookHoldsMore old (look.Need digest) new = HasMore old new
LookHoldsMore old answer new = Unit {0}
