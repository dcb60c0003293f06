use Rattle.std.proofs.Common.{◌≡◌, ◌++◌, List, [], slice_index_or, subst, sym, ap, ◌∙◌, ℕ, arith}
use Rattle.layout.specs.Hash.{hash}
use Rattle.layout.specs.Hasher.{Holds}
use Rattle.lms_sign.specs.Hashing.{headed, joined}
use Rattle.lms_sign.specs.Chains.{value_of}
use Rattle.lms_sign.specs.OneTime.{key_of, key_from}
use Rattle.lms_sign.proofs.Joining.{joined_none, joined_on}
use Rattle.lms_sign.proofs.leaves.key_over.Goals as goal

pub loop-chain-init : goal.loop-chain-init
loop-chain-init c seed known = subst (Holds c.headed_hasher-hasher.result) (sym (joined_none (headed c.args.id.now c.args.leaf 0x8080) (value_of seed c.args.id.now c.args.leaf 15))) c.headed_hasher-hasher.ensures

pub loop-chain-preserved : goal.loop-chain-preserved
loop-chain-preserved c seed known =
    let value = value_of seed c.args.id.now c.args.leaf 15 in
    let end : ℕ → List ℕ = λ n. slice_index_or (slice_index_or c.args.all.now n []) c.args.place [] in
    let is : end c.from.result ≡ value c.loop-chain.chain = ap end c.from.ensures ∙ known c.loop-chain.chain (omega arith) in
    subst (Holds c.update.new.self) (joined_on (headed c.args.id.now c.args.leaf 0x8080) (end c.from.result) value c.loop-chain.chain is) (c.update.ensures _ (c.loop-chain.invariant seed known))

pub returns : goal.returns
unfolding key_of key_from
returns c seed known =
    let all : c.loop-chain.chain ≡ 67 = omega arith in
    c.finish.ensures _ (c.loop-chain.invariant seed known) ∙ ap (λ (n : ℕ). hash (headed c.args.id.now c.args.leaf 0x8080 ++ joined n (value_of seed c.args.id.now c.args.leaf 15))) all
