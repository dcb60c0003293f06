-- Calls that release nothing leave what was released as it was.
use Rattle.std.proofs.Common.{◌≡◌, Option, Some, None, Ok, Err, Result, IfSome, IsSome, IsSomeAnd, ap, inl, inr}
use Rattle.layout.specs.Types.{Bytes}
use Rattle.pending_list.specs.Reply.{Reply}
use Rattle.reply_rules.specs.Lists.{Lists, lists_of}
use Rattle.client_tree.specs.declared.questions.Question.{Question}
use Rattle.client_releases.specs.declared.error.ClientError.{ClientError}
use Rattle.client_verify.specs.declared.look.Look.TheVariants as look
use Rattle.client_verify.specs.declared.step.Step.TheVariants as step
use Rattle.client_verify.specs.declared.view.Looking.{Looking}
use Rattle.reply_check.specs.FirstBroken.{reply_in}
use Rattle.reply_check.specs.Good.{Good}
use Rattle.client_verify.specs.State.{AcceptedView, Checked, Reading, State, Writing, holding, released}
use Rattle.client_verify.specs.Judged.{AsksOrAccepts, GoesOn, Handed, Judged, Taken}
use Rattle.client_verify.specs.Looked.{Given, Looked}
use Rattle.client_runs.proofs.Replies.{kept}
use Rattle.client_steps.specs.Steps.{Asks, HasGiven, HasHeard, HasLooked, HasTaken, Sees}

-- what was released is as it was
abbrev pub IsQuiet : State → State → Type 0
IsQuiet s new = released new ≡ released s

-- ---- replies

goes : (s : State) (x : Good) (answer : Asks) (new : State) → AsksOrAccepts s x answer new → IsQuiet s new
goes s x (step.Need digest) new h = ap released h.2
goes s x (step.Store texts) new h = ap released h.3
goes s x (step.Broken rule) new h = absurd h

taken : (s : State) (r : Reply) (x : Lists) (answer : Asks) (new : State) → Taken s r x answer new → IsQuiet s new
taken s r x (step.Need digest) new (inl h) = ap released h.2
taken s r x (step.Need digest) new (inr h) = goes s h.0 (step.Need digest) new h.2
taken s r x (step.Store texts) new h = goes s h.0 (step.Store texts) new h.2
taken s r x (step.Broken rule) new h = absurd h

lists_taken : (s : State) (r : Reply) (lists : Option Lists) (answer : Asks) (new : State) → IsSomeAnd lists (λ x. Taken s r x answer new) → IsQuiet s new
lists_taken s r None answer new h = absurd h
lists_taken s r (Some x) answer new h = taken s r x answer new h

reply_taken : (s : State) (reply : Option Reply) (answer : Asks) (new : State) → IsSomeAnd reply (λ r. IsSomeAnd (lists_of r) (λ x. Taken s r x answer new)) → IsQuiet s new
reply_taken s None answer new h = absurd h
reply_taken s (Some r) answer new h = lists_taken s r (lists_of r) answer new h

judged : (s : State) (text : Bytes) (answer : Asks) (new : State) → Judged s text answer new → IsQuiet s new
judged s text (step.Need digest) new h = reply_taken s (reply_in text) (step.Need digest) new h.1
judged s text (step.Store texts) new h = reply_taken s (reply_in text) (step.Store texts) new h.1
judged s text (step.Broken rule) new h = ap released h.1

pub hears : (s : State) (text : Bytes) (answer : Result Asks ClientError) (new : State) → HasHeard s text answer new → IsQuiet s new
hears s text (Ok answer) new h = judged s text answer new h.judged
hears s text (Err e) new h = ap released h.err

-- ---- blocks of a reply

goes_on : (s : State) (k : Checked) (answer : Asks) (new : State) → GoesOn s k answer new → IsQuiet s new
goes_on s (Reading r a) answer new h = lists_taken s r (lists_of r) answer new h
goes_on s (Writing x a) answer new h = goes s x answer new h

block_on : (s : State) (k : Checked) (block : Option Bytes) (answer : Asks) (new : State) → IsSomeAnd block (λ text. GoesOn (holding s text) k answer new) → IsQuiet s new
block_on s k None answer new h = absurd h
block_on s k (Some text) answer new h = goes_on (holding s text) k answer new h

handed : (s : State) (k : Checked) (block : Option Bytes) (answer : Asks) (new : State) → Handed s k block answer new → IsQuiet s new
handed s k block (step.Need digest) new h = block_on s k block (step.Need digest) new h.1
handed s k block (step.Store texts) new h = block_on s k block (step.Store texts) new h.1
handed s k block (step.Broken rule) new h = ap released h.1

pub takes : (s : State) (block : Option Bytes) (answer : Result Asks ClientError) (new : State) → HasTaken s block answer new → IsQuiet s new
takes s block (Err e) new h = ap released h.err
takes s block (Ok answer) new h = go s.checked h.wants h.handed
  where
    go : (checked : Option Checked) → IsSome checked → IfSome checked (λ k. Handed s k block answer new) → IsQuiet s new
    go None some h = absurd (cc some)
    go (Some k) some h = handed s k block answer new h

-- ---- looks

-- a look leaves what was released, and what is under check or accepted

looked : (s : State) (v : AcceptedView) (q : Question) (answer : Sees) (new : State) → Looked s v q answer new → kept new ≡ kept s
looked s v q (look.Need digest) new h = ap kept h.2
looked s v q (look.File bytes) new h = ap kept h.0
looked s v q (look.Dir entries) new h = ap kept h.0
looked s v q look.None new h = ap kept h.0
looked s v q (look.Kind kind) new h = ap kept h.0
looked s v q (look.Free found) new h = ap kept h.0
looked s v q (look.Broken rule) new h = absurd h

pub looks : (s : State) (q : Question) (answer : Result Sees ClientError) (new : State) → HasLooked s q answer new → kept new ≡ kept s
looks s q (Err e) new h = ap kept h.err
looks s q (Ok answer) new h = go s.view h.sees h.looked
  where
    go : (view : Option AcceptedView) → IsSome view → IfSome view (λ v. Looked s v q answer new) → kept new ≡ kept s
    go None some h = absurd (cc some)
    go (Some v) some h = looked s v q answer new h

block_looked : (s : State) (v : AcceptedView) (l : Looking) (block : Option Bytes) (answer : Sees) (new : State) → IsSomeAnd block (λ text. Looked (holding s text) v l.question answer new) → kept new ≡ kept s
block_looked s v l None answer new h = absurd h
block_looked s v l (Some text) answer new h = looked (holding s text) v l.question answer new h

given : (s : State) (v : AcceptedView) (l : Looking) (block : Option Bytes) (answer : Sees) (new : State) → Given s v l block answer new → kept new ≡ kept s
given s v l block (look.Need digest) new h = block_looked s v l block (look.Need digest) new h.1
given s v l block (look.File bytes) new h = block_looked s v l block (look.File bytes) new h.1
given s v l block (look.Dir entries) new h = block_looked s v l block (look.Dir entries) new h.1
given s v l block look.None new h = block_looked s v l block look.None new h.1
given s v l block (look.Kind kind) new h = block_looked s v l block (look.Kind kind) new h.1
given s v l block (look.Free found) new h = block_looked s v l block (look.Free found) new h.1
given s v l block (look.Broken rule) new h = ap kept h.1

pub gives : (s : State) (block : Option Bytes) (answer : Result Sees ClientError) (new : State) → HasGiven s block answer new → kept new ≡ kept s
gives s block (Err e) new h = ap kept h.err
gives s block (Ok answer) new h = go s.view h.looks h.given
  where
    looking : (v : AcceptedView) (l : Option Looking) → IsSome l → IfSome l (λ x. Given s v x block answer new) → kept new ≡ kept s
    looking v None some h = absurd (cc some)
    looking v (Some l) some h = given s v l block answer new h

    go : (view : Option AcceptedView) → IsSomeAnd view (λ v. IsSome v.looking) → IfSome view (λ v. IfSome v.looking (λ l. Given s v l block answer new)) → kept new ≡ kept s
    go None some h = absurd some
    go (Some v) some h = looking v v.looking some h
