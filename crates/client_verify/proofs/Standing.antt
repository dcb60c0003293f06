-- How a client stands after an answer follows from what the answer says.
use Rattle.std.proofs.Common.{◌≡◌, Bool, true, false, [], ◌∷◌, Option, Some, None, Ok, Err, refl, sym, ap, subst, ◌∙◌, inl, inr, true≢false}
use Rattle.std.specs.Prelude.{◌&&◌, not, Result, IfOk, IfSome, IsSome, IsSomeAnd, OnOk, is_some}
use Rattle.std.specs.Option.{option_map_or}
use Rattle.std.specs.Str.{bytes_eq}
use Rattle.std.proofs.lemmas.Slice.Eq.{bytes_eq-Decides}
use Rattle.layout.specs.Hash.{hash}
use Rattle.layout.specs.Types.{Bytes}
use Rattle.tree_parts.specs.Spot.{lacks, takes}
use Rattle.tree_parts.specs.Blocks.{Blocks}
use Rattle.checked_blocks.specs.CheckedBlocks.{CheckedBlocks, LetsGo, TakesUp, holding as with_held, known_blocks}
use Rattle.checked_blocks.proofs.BlockLaws.{holds_more}
use Rattle.pending_list.specs.Reply.{Reply}
use Rattle.reply_rules.specs.Lists.{Lists, lists_of}
use Rattle.reply_rules.specs.Broken.{least}
use Rattle.reply_rules.specs.declared.rule.Rule.{Rule}
use Rattle.reply_rules.specs.declared.rule.Rule.TheVariants as rule
use Rattle.reply_check.specs.AskedBlock.{block, block_breaks, content, is_only}
use Rattle.reply_check.specs.declared.asked.Asked.{Asked}
use Rattle.reply_check.specs.FirstBroken.{reply_in}
use Rattle.reply_check.specs.Good.{Good}
use Rattle.client_verify.specs.declared.step.Step.{Step}
use Rattle.client_verify.specs.declared.step.Step.TheVariants as step
use Rattle.client_verify.specs.declared.look.Look.{Look}
use Rattle.client_verify.specs.declared.look.Look.TheVariants as look
use Rattle.client_verify.specs.declared.view.Looking.{Looking}
use Rattle.client_tree.specs.declared.questions.Question.{Question}
use Rattle.client_verify.specs.Looked.{Given, Looked}
use Rattle.client_verify.specs.State.{State, AcceptedView, Checked, Reading, Writing, asked_of, blocks_with, holding}
use Rattle.client_verify.specs.Judged.{AsksOrAccepts, GoesOn, Handed, Judged, Taken}
use Rattle.client_verify.specs.Holding.{HoldsAfter, HoldsMeanwhile, LookHoldsAfter}
use Rattle.client_verify.specs.Standing.{HasMore, HoldsMore, IsLacking, LookHoldsMore, LookStandsAfter, OnlyJudges, OnlyLooks, StandsAfter}
use Rattle.client_verify.proofs.Holds.{of_first, of_second}

-- what follows of an answer, in one
pub record After {A : Type 0} (old : State) (st : Step A) (new : State) : Type 0 where
  pub stands : StandsAfter old st new
  pub only : OnlyJudges old new

some_and : {X : Type 0} (P : X → Type 0) (Q : Type 0) (o : Option X) → IsSomeAnd o P → ((x : X) → P x → Q) → Q
some_and P Q None none go = absurd none
some_and P Q (Some x) holds go = go x holds

-- ---- a reply

-- where a block is asked for the same is known as before
abbrev KnowsSame : {A : Type 0} → CheckedBlocks → Step A → State → Type 0
KnowsSame known (step.Need d) new = known_blocks new.blocks ≡ known_blocks known
KnowsSame known other new = Unit {0}

waits : {A : Type 0} (s new : State) (k : Checked) (d : Bytes) → new ≡ record s { blocks = new.blocks; checked = Some k; accepted = None } → (asked_of k).digest ≡ d → known_blocks new.blocks ≡ known_blocks s.blocks
    → lacks (known_blocks s.blocks) d (asked_of k).spot ≡ true → After {A = A} s (step.Need d) new
waits {A} s new k d is of_digest same lacking =
    let still : lacks (known_blocks new.blocks) d (asked_of k).spot ≡ true = subst (λ (f : Blocks). lacks f d (asked_of k).spot ≡ true) (sym same) lacking in
    subst (λ (n : State). After {A = A} s (step.Need d) n) (sym is) (record { stands = (refl, (of_digest, still)); only = refl })

asked : {A : Type 0} (s : State) (x : Good) (st : Step A) (new : State) → KnowsSame s.blocks st new → AsksOrAccepts s x st new → After s st new
asked {A} s x (step.Need d) new known (a, same, is, wanted, lacking) = waits {A = A} s new (Writing x a) d is same known lacking
asked {A} s x (step.Store texts) new known (own, groups, lost, is, outcome, of_lost, told) =
    subst (λ (n : State). After {A = A} s (step.Store texts) n) (sym is) (record { stands = (refl, refl); only = refl })
asked s x (step.Broken rule) new known none = absurd none

taken : {A : Type 0} (s : State) (r : Reply) (x : Lists) (st : Step A) (new : State) → KnowsSame s.blocks st new → Taken s r x st new → After s st new
taken {A} s r x (step.Need d) new known (inl (a, same, is, of_named, lacking)) = waits {A = A} s new (Reading r a) d is same known lacking
taken s r x (step.Need d) new known (inr (good, is, goes)) = asked s good (step.Need d) new known goes
taken s r x (step.Store texts) new known (good, is, goes) = asked s good (step.Store texts) new known goes
taken s r x (step.Broken rule) new known none = absurd none

as_before : {A : Type 0} (old new : State) (rule : Rule) → new ≡ old → After {A = A} old (step.Broken rule) new
as_before {A} old new rule is = subst (λ (n : State). After {A = A} old (step.Broken rule) n) (sym is) (record { stands = refl; only = refl })

reply_on : {A : Type 0} (old : State) (text : Bytes) (st : Step A) (new : State) → KnowsSame old.blocks st new → Judged old text st new → After old st new
reply_on old text (step.Need d) new known (none, goes) =
    some_and _ _ (reply_in text) goes (λ r of_r. some_and _ _ (lists_of r) of_r (λ x of_x. taken old r x (step.Need d) new known of_x))
reply_on old text (step.Store texts) new known (none, goes) =
    some_and _ _ (reply_in text) goes (λ r of_r. some_and _ _ (lists_of r) of_r (λ x of_x. taken old r x (step.Store texts) new known of_x))
reply_on old text (step.Broken rule) new known (first, is) = as_before old new rule is

-- ---- a block

goes_stands : {A : Type 0} (s : State) (k : Checked) (st : Step A) (new : State) → KnowsSame s.blocks st new → GoesOn s k st new → After s st new
goes_stands s (Reading r a) st new known goes = some_and _ _ (lists_of r) goes (λ x of_x. taken s r x st new known of_x)
goes_stands s (Writing x a) st new known goes = asked s x st new known goes

-- ---- a block is asked for

-- the blocks are held that are, since the reply is under check
is_checked : (A : Type 0) (s : State) (x : Good) (d : Bytes) (new : State) → AsksOrAccepts {A = A} s x (step.Need d) new → IsSome new.checked
is_checked A s x d new (a, same, is, wanted, lacking) = ap (λ (n : State). is_some n.checked) is

taken_checked : (A : Type 0) (s : State) (r : Reply) (x : Lists) (d : Bytes) (new : State) → Taken {A = A} s r x (step.Need d) new → IsSome new.checked
taken_checked A s r x d new (inl (a, same, is, of_named, lacking)) = ap (λ (n : State). is_some n.checked) is
taken_checked A s r x d new (inr (good, is, goes)) = is_checked A s good d new goes

goes_checked : (A : Type 0) (s : State) (k : Checked) (d : Bytes) (new : State) → GoesOn {A = A} s k (step.Need d) new → IsSome new.checked
goes_checked A s (Reading r a) d new goes = some_and _ _ (lists_of r) goes (λ x of_x. taken_checked A s r x d new of_x)
goes_checked A s (Writing x a) d new goes = is_checked A s x d new goes

judged_checked : (A : Type 0) (old : State) (text : Bytes) (d : Bytes) (new : State) → Judged {A = A} old text (step.Need d) new → IsSome new.checked
judged_checked A old text d new (none, goes) =
    some_and _ _ (reply_in text) goes (λ r of_r. some_and _ _ (lists_of r) of_r (λ x of_x. taken_checked A old r x d new of_x))

-- so those of the cache that were read are held, too
taken_up : (known : CheckedBlocks) (new : State) → IsSome new.checked → HoldsMeanwhile known new → TakesUp known new.blocks
taken_up known new some h = of_first (is_some new.checked) _ (TakesUp known new.blocks) (LetsGo known new.blocks) some h

pub judged_stands : {A : Type 0} (old : State) (text : Bytes) (st : Step A) (new : State) → Judged old text st new → HoldsAfter old None st new → After old st new
judged_stands {A} old text (step.Need d) new judged holds = reply_on old text (step.Need d) new (taken_up old.blocks new (judged_checked A old text d new judged) holds).known judged
judged_stands old text (step.Store texts) new judged holds = reply_on old text (step.Store texts) new tt judged
judged_stands old text (step.Broken rule) new judged holds = reply_on old text (step.Broken rule) new tt judged

-- ---- one block more

parts : (x y : Bool) → (x && y) ≡ true → (x ≡ true) × (y ≡ true)
parts true true is = (refl, refl)
parts true false is = absurd cc
parts false y is = absurd cc

both : (b c : Bool) → least ((rule.Block, b) ∷ (rule.Content, c) ∷ []) ≡ None → (b ≡ true) × (c ≡ true)
both true true is = (refl, refl)
both true false is = absurd cc
both false c is = absurd cc

-- a text that is known under its digest is what the spot takes, so that the block wasn't lacking
not_known : (blocks : Blocks) (a : Asked) (text : Bytes) → block_breaks blocks a (Some text) ≡ None → lacks blocks a.digest a.spot ≡ true → blocks (hash text) ≡ None
not_known blocks a text good lacking =
    let held_all = both (block blocks a (Some text)) (content blocks a (Some text)) good in
    let of_block = parts (bytes_eq (hash text) a.digest) (is_only blocks text) held_all.0 in
    ask (blocks (hash text)) refl ((bytes_eq-Decides (hash text) a.digest).0 of_block.0) of_block.1 held_all.1
  where
    ask : (o : Option Bytes) → blocks (hash text) ≡ o → hash text ≡ a.digest → option_map_or (λ h. bytes_eq h text) o true ≡ true → takes blocks a.spot text ≡ true → o ≡ None
    ask None e digest only fits = refl
    ask (Some h) e digest only fits =
        let same : h ≡ text = (bytes_eq-Decides h text).0 only in
        let there : blocks a.digest ≡ Some text = ap blocks (sym digest) ∙ e ∙ ap (λ (t : Bytes). Some t) same in
        absurd (true≢false (sym lacking ∙ rw there (ap not fits)))

-- where it wasn't known more are held
more_held : (old new : State) (a : Asked) (text : Bytes) → block_breaks (known_blocks old.blocks) a (Some text) ≡ None → TakesUp (with_held old.blocks text) new.blocks → IsLacking old a → HasMore old new
more_held old new a text good taken lacking = holds_more old.blocks new.blocks text taken (not_known (known_blocks old.blocks) a text good lacking)

-- ---- a block is handed in

pub record Handing {A : Type 0} (old : State) (k : Checked) (st : Step A) (new : State) : Type 0 where
  pub stands : StandsAfter old st new
  pub only : OnlyJudges old new
  pub more : IsLacking old (asked_of k) → HoldsMore old st new

pub handed_stands : {A : Type 0} (old : State) (k : Checked) (given : Option Bytes) (st : Step A) (new : State) → Handed old k given st new → HoldsAfter old given st new → Handing old k st new
handed_stands old k None (step.Need d) new (none, goes) holds = absurd goes
handed_stands old k None (step.Store texts) new (none, goes) holds = absurd goes
handed_stands {A} old k (Some text) (step.Need d) new (none, goes) holds =
    let up = taken_up (with_held old.blocks text) new (goes_checked A (holding old text) k d new goes) holds in
    let after = goes_stands {A = A} (holding old text) k (step.Need d) new up.known goes in
    record { stands = after.stands; only = after.only; more = more_held old new (asked_of k) text none up }
handed_stands {A} old k (Some text) (step.Store texts) new (none, goes) holds =
    let after = goes_stands {A = A} (holding old text) k (step.Store texts) new tt goes in
    record { stands = after.stands; only = after.only; more = λ lacking. tt }
handed_stands {A} old k given (step.Broken rule) new (first, is) holds =
    let after = as_before {A = A} old new rule is in record { stands = after.stands; only = after.only; more = λ lacking. tt }

-- ---- the answers of calls

pub reply_stands : {A E : Type 0} (old : State) (text : Bytes) (r : Result (Step A) E) (new : State) → IfOk r (λ st. Judged old text st new) → IfOk r (λ st. HoldsAfter old None st new) → IfOk r (λ st. StandsAfter old st new)
reply_stands old text (Ok st) new is holds = (judged_stands old text st new is holds).stands
reply_stands old text (Err e) new is holds = tt

pub reply_only : {A E : Type 0} (old : State) (text : Bytes) (r : Result (Step A) E) (new : State) → IfOk r (λ st. Judged old text st new) → IfOk r (λ st. HoldsAfter old None st new) → OnOk r (OnlyJudges old new)
reply_only old text (Ok st) new is holds = (judged_stands old text st new is holds).only
reply_only old text (Err e) new is holds = tt

pub block_stands : {A E : Type 0} (old : State) (o : Option Checked) (given : Option Bytes) (r : Result (Step A) E) (new : State) → IsSome o → IfSome o (λ k. IfOk r (λ st. Handed old k given st new)) → IfOk r (λ st. HoldsAfter old given st new) → IfOk r (λ st. StandsAfter old st new)
block_stands old None given r new some is holds = absurd cc
block_stands old (Some k) given (Ok st) new some is holds = (handed_stands old k given st new is holds).stands
block_stands old (Some k) given (Err e) new some is holds = tt

pub block_only : {A E : Type 0} (old : State) (o : Option Checked) (given : Option Bytes) (r : Result (Step A) E) (new : State) → IsSome o → IfSome o (λ k. IfOk r (λ st. Handed old k given st new)) → IfOk r (λ st. HoldsAfter old given st new) → OnOk r (OnlyJudges old new)
block_only old None given r new some is holds = absurd cc
block_only old (Some k) given (Ok st) new some is holds = (handed_stands old k given st new is holds).only
block_only old (Some k) given (Err e) new some is holds = tt

pub block_more : {A E : Type 0} (old : State) (o : Option Checked) (given : Option Bytes) (r : Result (Step A) E) (new : State) → IfSome o (λ k. IfOk r (λ st. Handed old k given st new)) → IfOk r (λ st. HoldsAfter old given st new) → IfSome o (λ k. IsLacking old (asked_of k) → IfOk r (λ st. HoldsMore old st new))
block_more old None given r new is holds = tt
block_more old (Some k) given (Ok st) new is holds = λ lacking. (handed_stands old k given st new is holds).more lacking
block_more old (Some k) given (Err e) new is holds = λ lacking. tt

-- ---- a look

pub record LookedOn {A : Type 0} (old : State) (answer : Look A) (new : State) : Type 0 where
  pub stands : LookStandsAfter old answer new
  pub only : OnlyLooks old new

is_over : {A : Type 0} (s : State) (v : AcceptedView) (answer : Look A) (new : State) → new ≡ record s { blocks = new.blocks; view = Some (record v { looking = None }) } → LookStandsAfter s answer (record s { blocks = new.blocks; view = Some (record v { looking = None }) }) → LookedOn s answer new
is_over {A} s v answer new is over =
    subst (λ (n : State). LookedOn {A = A} s answer n) (sym is) (record { stands = over; only = refl })

-- where a block is asked for the same is known as before
abbrev LooksSame : {A : Type 0} → CheckedBlocks → Look A → State → Type 0
LooksSame known (look.Need d) new = known_blocks new.blocks ≡ known_blocks known
LooksSame known other new = Unit {0}

looked_on : {A : Type 0} (s : State) (v : AcceptedView) (q : Question) (answer : Look A) (new : State) → LooksSame s.blocks answer new → Looked s v q answer new → LookedOn s answer new
looked_on {A} s v q (look.Need d) new known (a, same, is, asked, lacking) =
    let still : lacks (known_blocks new.blocks) a.digest a.spot ≡ true = subst (λ (f : Blocks). lacks f a.digest a.spot ≡ true) (sym known) (ap (λ (x : Bytes). lacks (known_blocks s.blocks) x a.spot) same ∙ lacking) in
    subst (λ (n : State). LookedOn {A = A} s (look.Need d) n) (sym is) (record { stands = (same, still); only = refl })
looked_on s v q (look.File bytes) new known (is, rest) = is_over s v (look.File bytes) new is refl
looked_on s v q (look.Dir entries) new known (is, rest) = is_over s v (look.Dir entries) new is refl
looked_on s v q look.None new known (is, rest) = is_over s v look.None new is refl
looked_on s v q (look.Kind kind) new known (is, rest) = is_over s v (look.Kind kind) new is refl
looked_on s v q (look.Free found) new known (is, rest) = is_over s v (look.Free found) new is refl
looked_on s v q (look.Broken rule) new known none = absurd none

-- a look that asks for a block is under way
looks_up : (A : Type 0) (s : State) (v : AcceptedView) (q : Question) (d : Bytes) (known : CheckedBlocks) (new : State) → Looked {A = A} s v q (look.Need d) new → HoldsMeanwhile known new → TakesUp known new.blocks
looks_up A s v q d known new (a, same, is, asked, lacking) h =
    of_second (is_some new.checked) _ (TakesUp known new.blocks) (LetsGo known new.blocks) (ap (λ (n : State). option_map_or (λ w. is_some w.looking) n.view false) is) h

pub looked_stands : {A : Type 0} (s old : State) (block : Option Bytes) (v : AcceptedView) (q : Question) (answer : Look A) (new : State) → blocks_with old block ≡ s.blocks → Looked s v q answer new → LookHoldsAfter old block answer new → LookedOn s answer new
looked_stands {A} s old block v q (look.Need d) new are told holds = looked_on {A = A} s v q (look.Need d) new ((looks_up A s v q d (blocks_with old block) new told holds).known ∙ ap known_blocks are) told
looked_stands s old block v q (look.File bytes) new are told holds = looked_on s v q (look.File bytes) new tt told
looked_stands s old block v q (look.Dir entries) new are told holds = looked_on s v q (look.Dir entries) new tt told
looked_stands s old block v q look.None new are told holds = looked_on s v q look.None new tt told
looked_stands s old block v q (look.Kind kind) new are told holds = looked_on s v q (look.Kind kind) new tt told
looked_stands s old block v q (look.Free found) new are told holds = looked_on s v q (look.Free found) new tt told
looked_stands s old block v q (look.Broken rule) new are told holds = absurd told

-- ---- a block is handed in for it

pub record Giving {A : Type 0} (old : State) (l : Looking) (answer : Look A) (new : State) : Type 0 where
  pub stands : LookStandsAfter old answer new
  pub only : OnlyLooks old new
  pub more : IsLacking old l.asked → LookHoldsMore old answer new

pub given_stands : {A : Type 0} (old : State) (v : AcceptedView) (l : Looking) (given : Option Bytes) (answer : Look A) (new : State) → Given old v l given answer new → LookHoldsAfter old given answer new → Giving old l answer new
given_stands old v l given (look.Broken rule) new (breaks, is) holds =
    record { stands = is; only = subst (λ (n : State). OnlyLooks old n) (sym is) refl; more = λ lacking. tt }
given_stands old v l None (look.Need d) new (good, none) holds = absurd none
given_stands old v l None (look.File bytes) new (good, none) holds = absurd none
given_stands old v l None (look.Dir entries) new (good, none) holds = absurd none
given_stands old v l None look.None new (good, none) holds = absurd none
given_stands old v l None (look.Kind kind) new (good, none) holds = absurd none
given_stands old v l None (look.Free found) new (good, none) holds = absurd none
given_stands {A} old v l (Some text) (look.Need d) new (good, on) holds =
    let told = looked_stands {A = A} (holding old text) old (Some text) v l.question (look.Need d) new refl on holds in
    let up = looks_up A (holding old text) v l.question d (with_held old.blocks text) new on holds in
    record { stands = told.stands; only = told.only; more = more_held old new l.asked text good up }
given_stands {A} old v l (Some text) (look.File bytes) new (good, on) holds =
    let told = looked_stands {A = A} (holding old text) old (Some text) v l.question (look.File bytes) new refl on holds in record { stands = told.stands; only = told.only; more = λ lacking. tt }
given_stands {A} old v l (Some text) (look.Dir entries) new (good, on) holds =
    let told = looked_stands {A = A} (holding old text) old (Some text) v l.question (look.Dir entries) new refl on holds in record { stands = told.stands; only = told.only; more = λ lacking. tt }
given_stands {A} old v l (Some text) look.None new (good, on) holds =
    let told = looked_stands {A = A} (holding old text) old (Some text) v l.question look.None new refl on holds in record { stands = told.stands; only = told.only; more = λ lacking. tt }
given_stands {A} old v l (Some text) (look.Kind kind) new (good, on) holds =
    let told = looked_stands {A = A} (holding old text) old (Some text) v l.question (look.Kind kind) new refl on holds in record { stands = told.stands; only = told.only; more = λ lacking. tt }
given_stands {A} old v l (Some text) (look.Free found) new (good, on) holds =
    let told = looked_stands {A = A} (holding old text) old (Some text) v l.question (look.Free found) new refl on holds in record { stands = told.stands; only = told.only; more = λ lacking. tt }

-- the look of a view, if there is one
abbrev pub IfLooking : Option AcceptedView → (AcceptedView → Looking → Type 0) → Type 0
IfLooking view P = IfSome view (λ v. IfSome v.looking (P v))

pub look_only : {A E : Type 0} (old : State) (view : Option AcceptedView) (given : Option Bytes) (r : Result (Look A) E) (new : State) → IsSomeAnd view (λ v. IsSome v.looking)
    → IfLooking view (λ v l. IfOk r (λ answer. Given old v l given answer new)) → IfOk r (λ answer. LookHoldsAfter old given answer new) → OnOk r (OnlyLooks old new)
look_only old None given r new some is holds = absurd some
look_only {A} {E} old (Some v) given r new some is holds = at v.looking some is
  where
    at : (o : Option Looking) → IsSome o → IfSome o (λ l. IfOk r (λ answer. Given old v l given answer new)) → OnOk r (OnlyLooks old new)
    at None none told = absurd cc
    at (Some l) none told = by r told holds
      where
        by : (q : Result (Look A) E) → IfOk q (λ answer. Given old v l given answer new) → IfOk q (λ answer. LookHoldsAfter old given answer new) → OnOk q (OnlyLooks old new)
        by (Ok answer) is held = (given_stands old v l given answer new is held).only
        by (Err e) is held = tt

pub look_more : {A E : Type 0} (old : State) (view : Option AcceptedView) (given : Option Bytes) (r : Result (Look A) E) (new : State)
    → IfLooking view (λ v l. IfOk r (λ answer. Given old v l given answer new)) → IfOk r (λ answer. LookHoldsAfter old given answer new) → IfLooking view (λ v l. IsLacking old l.asked → IfOk r (λ answer. LookHoldsMore old answer new))
look_more old None given r new is holds = tt
look_more {A} {E} old (Some v) given r new is holds = at v.looking is
  where
    at : (o : Option Looking) → IfSome o (λ l. IfOk r (λ answer. Given old v l given answer new)) → IfSome o (λ l. IsLacking old l.asked → IfOk r (λ answer. LookHoldsMore old answer new))
    at None told = tt
    at (Some l) told = λ lacking. by r told holds lacking
      where
        by : (q : Result (Look A) E) → IfOk q (λ answer. Given old v l given answer new) → IfOk q (λ answer. LookHoldsAfter old given answer new) → IsLacking old l.asked → IfOk q (λ answer. LookHoldsMore old answer new)
        by (Ok answer) is held lacking = (given_stands old v l given answer new is held).more lacking
        by (Err e) is held lacking = tt

pub look_stands : {A E : Type 0} (old : State) (view : Option AcceptedView) (given : Option Bytes) (r : Result (Look A) E) (new : State) → IsSomeAnd view (λ v. IsSome v.looking)
    → IfLooking view (λ v l. IfOk r (λ answer. Given old v l given answer new)) → IfOk r (λ answer. LookHoldsAfter old given answer new) → IfOk r (λ answer. LookStandsAfter old answer new)
look_stands old None given r new some is holds = absurd some
look_stands {A} {E} old (Some v) given r new some is holds = at v.looking some is
  where
    at : (o : Option Looking) → IsSome o → IfSome o (λ l. IfOk r (λ answer. Given old v l given answer new)) → IfOk r (λ answer. LookStandsAfter old answer new)
    at None none told = absurd cc
    at (Some l) none told = by r told holds
      where
        by : (q : Result (Look A) E) → IfOk q (λ answer. Given old v l given answer new) → IfOk q (λ answer. LookHoldsAfter old given answer new) → IfOk q (λ answer. LookStandsAfter old answer new)
        by (Ok answer) is held = (given_stands old v l given answer new is held).stands
        by (Err e) is held = tt

-- ---- a look begins

pub begun_stands : {A E : Type 0} (old : State) (view : Option AcceptedView) (q : Question) (r : Result (Look A) E) (new : State) → IsSome view → IfSome view (λ v. IfOk r (λ answer. Looked old v q answer new))
    → IfOk r (λ answer. LookHoldsAfter old None answer new) → IfOk r (λ answer. LookStandsAfter old answer new)
begun_stands old None q r new some is holds = absurd cc
begun_stands old (Some v) q (Ok answer) new some is holds = (looked_stands old old None v q answer new refl is holds).stands
begun_stands old (Some v) q (Err e) new some is holds = tt

pub begun_only : {A E : Type 0} (old : State) (view : Option AcceptedView) (q : Question) (r : Result (Look A) E) (new : State) → IsSome view → IfSome view (λ v. IfOk r (λ answer. Looked old v q answer new))
    → IfOk r (λ answer. LookHoldsAfter old None answer new) → OnOk r (OnlyLooks old new)
begun_only old None q r new some is holds = absurd cc
begun_only old (Some v) q (Ok answer) new some is holds = (looked_stands old old None v q answer new refl is holds).only
begun_only old (Some v) q (Err e) new some is holds = tt
