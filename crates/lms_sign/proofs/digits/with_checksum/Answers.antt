use Rattle.std.proofs.Common.{◌++◌, ℕ, List, [], length, refl, sym, ap, ◌∙◌, arith}
use Rattle.std.specs.Int.{w16}
use Rattle.std.proofs.lemmas.List.{take_all}
use Rattle.layout.specs.Format.{be}
use Rattle.lms_sign.specs.Digits.{checksum}
use Rattle.lms_sign.proofs.Writing.{grown}
use Rattle.lms_sign.proofs.digits.with_checksum.Goals as goal

pub returns : goal.returns
unfolding be
returns c =
    let one = grown [] c.put.new.out [] c.as_bytes.result.now 0 32 c.put.ensures c.as_bytes.ensures.size refl in
    let two = grown _ c.put-2.new.out _ _ 32 2 c.put-2.ensures (ap length c.to_be_bytes.ensures) one in
    sym (take_all 34 c.put-2.new.out (omega arith)) ∙ two ∙ ap (λ (l : List ℕ). l ++ c.to_be_bytes.result) c.as_bytes.ensures.same
    ∙ ap (λ (l : List ℕ). c.args.digest.now ++ l) (c.to_be_bytes.ensures ∙ ap (be w16) (c.checksum.ensures ∙ ap checksum c.as_bytes-2.ensures.same))
