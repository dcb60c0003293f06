-- What is known of blocks while a reply is under check or a look under way, and after.
use Rattle.std.proofs.Common.{◌≡◌, ℕ, Bool, true, false, List, Option, Some, None, refl, sym, ap, subst, ◌∙◌}
use Rattle.std.specs.Prelude.{◌||◌, ◌↔◌, IfOk, Result, IsSome, IsSomeAnd, IsTrue, MatchBool, is_some, if◌then◌else◌}
use Rattle.std.specs.Option.{option_map_or}
use Rattle.layout.specs.Types.{Bytes}
use Rattle.checked_blocks.specs.CheckedBlocks.{CheckedBlocks, Keeps, LetsGo, TakesUp, with_capacity, with_capacity_later}
use Rattle.checked_blocks.proofs.BlockLaws.{lets_go_after, takes_more, takes_none}
use Rattle.client_tree.specs.declared.questions.Question.{Question}
use Rattle.client_verify.specs.declared.step.Step.{Step}
use Rattle.client_verify.specs.declared.step.Step.TheVariants as step
use Rattle.client_verify.specs.declared.look.Look.{Look}
use Rattle.client_verify.specs.declared.look.Look.TheVariants as look
use Rattle.client_verify.specs.declared.view.Looking.{Looking}
use Rattle.reply_check.specs.Good.{Good}
use Rattle.client_verify.specs.State.{AcceptedView, Checked, State, blocks_with, over}
use Rattle.client_verify.specs.Holding.{HoldsAfter, HoldsMeanwhile, LaysOut, LookHoldsAfter, is_under_way, with_cache}
use Rattle.client_verify.specs.Judged.{AsksOrAccepts}
use Rattle.client_verify.specs.Looked.{Looked}

-- ---- one of two

pub of_first : (b c : Bool) (P Q : Type 0) → b ≡ true → MatchBool (b || c) P Q → P
of_first true c P Q is h = h
of_first false c P Q is h = absurd (cc is)

pub of_second : (b c : Bool) (P Q : Type 0) → c ≡ true → MatchBool (b || c) P Q → P
of_second true c P Q is h = h
of_second false true P Q is h = h
of_second false false P Q is h = absurd (cc is)

pub as_first : (b c : Bool) (P Q : Type 0) → b ≡ true → P → MatchBool (b || c) P Q
as_first true c P Q is h = h
as_first false c P Q is h = absurd (cc is)

pub as_second : (b c : Bool) (P Q : Type 0) → c ≡ true → P → MatchBool (b || c) P Q
as_second true c P Q is h = h
as_second false true P Q is h = h
as_second false false P Q is h = absurd (cc is)

-- ---- while something is under way

abbrev looks : State → Bool
looks s = option_map_or (λ v. is_some v.looking) s.view false

-- a block of a reply is asked for
pub asking_holds : (known b : CheckedBlocks) (new : State) (c : Checked) → new.checked ≡ Some c → new.blocks ≡ b → TakesUp known b → HoldsMeanwhile known new
asking_holds known b new c asks is taken =
    as_first (is_some new.checked) (looks new) (TakesUp known new.blocks) (LetsGo known new.blocks) (ap is_some asks) (subst (TakesUp known) (sym is) taken)

-- or one of a look
pub looking_holds : (known b : CheckedBlocks) (new : State) (v : AcceptedView) (l : Looking) → new.view ≡ Some v → v.looking ≡ Some l → new.blocks ≡ b → TakesUp known b → HoldsMeanwhile known new
looking_holds known b new v l sees asks is taken =
    as_second (is_some new.checked) (looks new) (TakesUp known new.blocks) (LetsGo known new.blocks)
    (ap (λ (o : Option AcceptedView). option_map_or (λ v. is_some v.looking) o false) sees ∙ ap is_some asks) (subst (TakesUp known) (sym is) taken)

-- what is held by then is held on
pub meanwhile_after : (known mid : CheckedBlocks) (new : State) → TakesUp known mid → HoldsMeanwhile mid new → HoldsMeanwhile known new
meanwhile_after known mid new taken h = go (is_under_way new) h
  where
    go : (b : Bool) → MatchBool b (TakesUp mid new.blocks) (LetsGo mid new.blocks) → MatchBool b (TakesUp known new.blocks) (LetsGo known new.blocks)
    go true h = takes_more known mid new.blocks taken h
    go false h = lets_go_after known mid new.blocks taken h

pub nothing_moved : (known : CheckedBlocks) (new : State) → new.blocks ≡ known → is_under_way new ≡ true → HoldsMeanwhile known new
nothing_moved known new is under = subst (λ (b : Bool). MatchBool b (TakesUp known new.blocks) (LetsGo known new.blocks)) (sym under) (subst (TakesUp known) (sym is) (takes_none known))

-- nothing is under way any more
pub all_let_go : (known : CheckedBlocks) (new : State) → is_under_way new ≡ false → LetsGo known new.blocks → HoldsMeanwhile known new
all_let_go known new rests gone = subst (λ (b : Bool). MatchBool b (TakesUp known new.blocks) (LetsGo known new.blocks)) (sym rests) gone

-- ---- whether something is

pub under_checked : (s : State) → IsSome s.checked → is_under_way s ≡ true
under_checked s some = ap (λ (b : Bool). b || looks s) some

looks_is : (o : Option AcceptedView) (b : Bool) → (IsTrue b ↔ IsSomeAnd o (λ v. IsSome v.looking)) → b ≡ option_map_or (λ v. is_some v.looking) o false
looks_is None true told = absurd (told.0 refl)
looks_is None false told = refl
looks_is (Some v) b told = same b (is_some v.looking) told
  where
    same : (b c : Bool) → (IsTrue b ↔ IsTrue c) → b ≡ c
    same true true told = refl
    same true false told = let other = told.0 refl in absurd (cc other)
    same false true told = let other = told.1 refl in absurd (cc other)
    same false false told = refl

pub under_looks : (s : State) (b : Bool) → (IsSome s.checked → ⊥) → (IsTrue b ↔ IsSomeAnd s.view (λ v. IsSome v.looking)) → b ≡ is_under_way s
under_looks s b none told = at s.checked none
  where
    at : (o : Option Checked) → (IsSome o → ⊥) → b ≡ (is_some o || looks s)
    at None none = looks_is s.view b told
    at (Some c) none = absurd (none refl)

-- ---- laid out, and the size of the cache

pub laid_not : (s : State) (laid : List Bytes) → is_under_way s ≡ true → LaysOut s laid s.blocks
laid_not s laid under = subst (λ (b : Bool). MatchBool b (s.blocks ≡ s.blocks) (Keeps s.blocks laid s.blocks)) (sym under) refl

pub laid_out : (s : State) (laid : List Bytes) (blocks : CheckedBlocks) → is_under_way s ≡ false → Keeps s.blocks laid blocks → LaysOut s laid blocks
laid_out s laid blocks rests kept = subst (λ (b : Bool). MatchBool b (blocks ≡ s.blocks) (Keeps s.blocks laid blocks)) (sym rests) kept

pub sized : (s : State) (capacity : ℕ) (under : Bool) → under ≡ is_under_way s → over (if under then with_capacity_later capacity s.blocks else with_capacity capacity s.blocks) s ≡ with_cache capacity s
sized s capacity under is = ap (λ (b : Bool). over (if b then with_capacity_later capacity s.blocks else with_capacity capacity s.blocks) s) is

-- ---- of answers

pub goes_holds : {A : Type 0} (s old : State) (block : Option Bytes) (x : Good) (st : Step A) (new : State) → AsksOrAccepts s x st new → HoldsMeanwhile (blocks_with old block) new → HoldsAfter old block st new
goes_holds s old block x (step.Need d) new goes h = h
goes_holds s old block x (step.Store texts) new goes h = h
goes_holds s old block x (step.Broken rule) new goes h = absurd goes

pub looked_holds : {A : Type 0} (s old : State) (block : Option Bytes) (v : AcceptedView) (q : Question) (a : Look A) (new : State) → Looked s v q a new → HoldsMeanwhile (blocks_with old block) new → LookHoldsAfter old block a new
looked_holds s old block v q (look.Need d) new told h = h
looked_holds s old block v q (look.File bytes) new told h = h
looked_holds s old block v q (look.Dir entries) new told h = h
looked_holds s old block v q look.None new told h = h
looked_holds s old block v q (look.Kind kind) new told h = h
looked_holds s old block v q (look.Free found) new told h = h
looked_holds s old block v q (look.Broken rule) new told h = absurd told

-- the block by another name
pub held_from : {A E : Type 0} (old new : State) (block same : Option Bytes) (r : Result (Step A) E) → same ≡ block → IfOk r (λ st. HoldsAfter old block st new) → IfOk r (λ st. HoldsAfter old same st new)
held_from {A} old new block same r is holds = subst (λ (b : Option Bytes). IfOk r (λ st. HoldsAfter {A = A} old b st new)) (sym is) holds
