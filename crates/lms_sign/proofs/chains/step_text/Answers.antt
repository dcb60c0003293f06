use Rattle.std.proofs.Common.{◌≡◌, ℕ, ◌++◌, List, [], ◌∷◌, length, take, slice_set, refl, sym, ap, ◌∙◌, append_assoc, arith}
use Rattle.std.proofs.lemmas.List.{take_all, take_more_set}
use Rattle.std.specs.Int.{w16}
use Rattle.layout.specs.Format.{be}
use Rattle.lms_sign.specs.Hashing.{headed}
use Rattle.lms_sign.proofs.Writing.{be-byte, grown}
use Rattle.lms_sign.proofs.chains.step_text.Goals as goal

pub returns : goal.returns
unfolding headed be
returns c =
    let head = headed c.args.id.now c.args.leaf c.args.chain in
    let n = c.args.number in
    let one = grown [] c.put.new.out [] c.args.id.now 0 16 c.put.ensures c.told-id refl in
    let two = grown _ c.put-2.new.out _ _ 16 4 c.put-2.ensures (ap length c.to_be_bytes.ensures) one in
    let three = grown _ c.put-3.new.out _ _ 20 2 c.put-3.ensures (ap length c.to_be_bytes-2.ensures) two in
    let front : take 22 c.put-3.new.out ≡ head =
    three ∙ ap (λ (l : List ℕ). c.args.id.now ++ c.to_be_bytes.result ++ l) c.to_be_bytes-2.ensures ∙ ap (λ (l : List ℕ). c.args.id.now ++ l ++ be w16 c.args.chain) c.to_be_bytes.ensures in
    let next : take 23 (slice_set c.put-3.new.out 22 n) ≡ head ++ n ∷ [] =
    take_more_set c.put-3.new.out 22 n (omega arith) ∙ ap (λ (l : List ℕ). l ++ n ∷ []) front in
    let all = grown _ c.put-4.new.out _ c.args.value.now 23 32 c.put-4.ensures c.told-value next in
    sym (take_all 55 c.put-4.new.out (omega arith)) ∙ all ∙ append_assoc head (n ∷ []) c.args.value.now ∙ ap (λ (l : List ℕ). head ++ (l ++ c.args.value.now)) (sym (be-byte n (omega arith)))
