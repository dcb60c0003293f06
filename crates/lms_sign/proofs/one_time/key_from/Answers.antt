use Rattle.std.proofs.Common.{◌≡◌, ◌++◌, [], slice_index_or, subst, sym, ap, ◌∙◌, ℕ, arith}
use Rattle.layout.specs.Hash.{hash}
use Rattle.layout.specs.Hasher.{Holds}
use Rattle.lms_sign.specs.Hashing.{headed, joined}
use Rattle.lms_sign.specs.OneTime.{key_from}
use Rattle.lms_sign.proofs.Joining.{joined_none, joined_on}
use Rattle.lms_sign.proofs.one_time.key_from.Goals as goal

pub loop-chain-init : goal.loop-chain-init
loop-chain-init c end known = subst (Holds c.headed_hasher-hasher.result) (sym (joined_none (headed c.args.id.now c.args.leaf 0x8080) end)) c.headed_hasher-hasher.ensures

pub loop-chain-preserved : goal.loop-chain-preserved
loop-chain-preserved c end known =
    let chain : ℕ = c.loop-chain.chain in
    subst (Holds c.update.new.self) (joined_on (headed c.args.id.now c.args.leaf 0x8080) (slice_index_or c.args.ends.now chain []) end chain (known chain (omega arith))) (c.update.ensures _ (c.loop-chain.invariant end known))

pub returns : goal.returns
unfolding key_from
returns c end known =
    let all : c.loop-chain.chain ≡ 67 = omega arith in
    c.finish.ensures _ (c.loop-chain.invariant end known) ∙ ap (λ (n : ℕ). hash (headed c.args.id.now c.args.leaf 0x8080 ++ joined n end)) all
