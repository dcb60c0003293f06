use Rattle.std.proofs.Common.{◌≡◌, ◌+◌, ◌*◌, ◌++◌, ℕ, [], slice_index_or, take, sym, ap, ◌∙◌, arith}
use Rattle.lms_sign.specs.Hashing.{joined}
use Rattle.lms_sign.specs.OneTime.{signed_value}
use Rattle.lms_sign.proofs.Joining.{joined_none, joined_grown}
use Rattle.lms_sign.proofs.one_time.put_values.Goals as goal

pub loop-chain-init : goal.loop-chain-init
loop-chain-init c = sym (joined_none (take 40 c.args.signature.now) (signed_value c.args.seed.now c.args.id.now c.args.leaf c.args.digest.now))

pub loop-chain-preserved : goal.loop-chain-preserved
loop-chain-preserved c =
    let chain = c.loop-chain.chain in
    joined_grown c.loop-chain.signature c.put.new.out (take 40 c.args.signature.now) (slice_index_or c.signing_values-values.result chain []) (signed_value c.args.seed.now c.args.id.now c.args.leaf c.args.digest.now) 40 chain c.put.ensures (omega arith) c.loop-chain.invariant (c.signing_values-values.ensures chain (omega arith))

pub returns : goal.returns
returns c =
    let all : c.loop-chain.chain ≡ 67 = omega arith in
    ap (λ (n : ℕ). take (40 + 32 * n) c.loop-chain.signature) (sym all) ∙ c.loop-chain.invariant ∙ ap (λ (n : ℕ). take 40 c.args.signature.now ++ joined n (signed_value c.args.seed.now c.args.id.now c.args.leaf c.args.digest.now)) all
