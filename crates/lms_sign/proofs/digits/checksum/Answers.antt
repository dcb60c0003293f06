use Rattle.std.proofs.Common.{◌≡◌, ◌-◌, ◌*◌, ◌∙◌, ℕ, ap, sum, map, arith}
use Rattle.std.specs.List.{range_with_len}
use Rattle.std.proofs.lemmas.List.FromFn.{sum_by-map-range_with_len_more}
use Rattle.lms_sign.specs.Digits.{coefficient, checksum}
use Rattle.lms_sign.proofs.digits.checksum.Goals as goal

pub loop-i-preserved : goal.loop-i-preserved
loop-i-preserved c =
    let more = sum_by-map-range_with_len_more (λ (x : ℕ). x) (λ (i : ℕ). 15 - coefficient c.args.digest.now i) 0 c.loop-i.i c.loop-i.i (omega arith) in
    record { small = omega arith; value = omega (arith, more, c.coefficient.ensures.value) }

pub returns : goal.returns
unfolding checksum
returns c =
    let all : c.loop-i.i ≡ 64 = omega arith in
    let whole : c.loop-i.sum ≡ sum (map (λ i. 15 - coefficient c.args.digest.now i) (range_with_len 0 64)) =
    c.loop-i.invariant.value ∙ ap (λ (n : ℕ). sum (map (λ i. 15 - coefficient c.args.digest.now i) (range_with_len 0 n))) all in
    ap (λ (n : ℕ). n * 16) whole
