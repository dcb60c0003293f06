-- What a client knows of blocks after a call. While a reply is under check or a look under way it holds what it was
-- handed in, and forgets nothing that it knew; once neither is, all that it holds goes into the cache.
use Rattle.std.specs.Prelude.{◌≡◌, ◌||◌, ℕ, Bool, false, List, Option, is_some, MatchBool, if◌then◌else◌}
use Rattle.std.specs.Option.{option_map_or}
use Rattle.layout.specs.Types.{Bytes}
use Rattle.checked_blocks.specs.CheckedBlocks.{CheckedBlocks, Keeps, LetsGo, TakesUp, with_capacity, with_capacity_later}
use Rattle.client_verify.specs.declared.step.Step.{Step}
use Rattle.client_verify.specs.declared.step.Step.TheVariants.{Broken}
use Rattle.client_verify.specs.declared.look.Look.{Look}
use Rattle.client_verify.specs.declared.look.Look.TheVariants as look
use Rattle.client_verify.specs.State.{State, blocks_with, over}

-- a reply is under check, or a look under way
abbrev pub is_under_way : State → Bool
is_under_way s = is_some s.checked || option_map_or (λ v. is_some v.looking) s.view false

-- while one is, nothing that was known is forgotten, and blocks of the cache may be held; once none is, all that are
-- held are let go
abbrev pub HoldsMeanwhile : CheckedBlocks → State → Type 0
HoldsMeanwhile blocks new = MatchBool (is_under_way new) (TakesUp blocks new.blocks) (LetsGo blocks new.blocks)

-- after a reply, and after a block that was asked for: where it breaks no rule it is held
abbrev pub HoldsAfter : {A : Type 0} → State → Option Bytes → Step A → State → Type 0
HoldsAfter old block (Broken rule) new = new.blocks ≡ old.blocks
HoldsAfter old block step new = HoldsMeanwhile (blocks_with old block) new

-- and of a look
abbrev pub LookHoldsAfter : {A : Type 0} → State → Option Bytes → Look A → State → Type 0
LookHoldsAfter old block (look.Broken rule) new = new.blocks ≡ old.blocks
LookHoldsAfter old block answer new = HoldsMeanwhile (blocks_with old block) new

-- texts that were laid out go into the cache, but not while something is under way, since they would push others out
abbrev pub LaysOut : State → List Bytes → CheckedBlocks → Type 0
LaysOut s laid blocks = MatchBool (is_under_way s) (blocks ≡ s.blocks) (Keeps s.blocks laid blocks)

-- the cache gets another size, a smaller one only once nothing is under way
abbrev pub with_cache : ℕ → State → State
with_cache capacity s =
    over (if is_under_way s then with_capacity_later capacity s.blocks else with_capacity capacity s.blocks) s
