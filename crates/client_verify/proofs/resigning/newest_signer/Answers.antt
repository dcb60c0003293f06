use Rattle.std.proofs.Common.{◌≡◌, ℕ, ◌+◌, ◌-◌, ap, arith, sym, ◌∙◌}
use Rattle.client_verify.proofs.DeclaringKey.{below, here, signer_among, tested}
use Rattle.client_verify.proofs.resigning.newest_signer.Goals as goal

pub loop-key-init : goal.loop-key-init
loop-key-init g c = ap (λ (n : ℕ). signer_among c.args.text.now c.args.releases.now n) (sym c.key_count-key.ensures)

pub loop-key-preserved : goal.loop-key-preserved
loop-key-preserved g c =
    let text = c.args.text.now in
    let r = c.args.releases.now in
    let n = c.loop-key.key - 1 in
    let next : c.loop-key.key ≡ n + 1 = omega arith in
    let no = tested text r n c.is_signed_under.result c.key.result c.key.ensures c.is_signed_under.ensures in
    c.loop-key.invariant ∙ ap (λ (k : ℕ). signer_among text r k) next ∙ below text r n (no ∙ c.if-is_signed_under.false)

pub returns-then-is_signed_under : goal.returns-then-is_signed_under
returns-then-is_signed_under g c =
    let text = c.args.text.now in
    let r = c.args.releases.now in
    let n = c.loop-key.key - 1 in
    let next : c.loop-key.key ≡ n + 1 = omega arith in
    let yes = tested text r n c.is_signed_under.result c.key.result c.key.ensures c.is_signed_under.ensures in
    sym (c.loop-key.invariant ∙ ap (λ (k : ℕ). signer_among text r k) next ∙ here text r n (yes ∙ c.if-is_signed_under.true))
