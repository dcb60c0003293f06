use Rattle.std.proofs.Common.{◌≡◌, ◌-◌, ◌*◌, ◌≤◌, map, sum}
use Rattle.std.specs.List.{range_with_len}
use Rattle.lms_sign.specs.Digits.{coefficient}
use Rattle.lms_sign.proofs.digits.checksum.Given as goal

abbrev pub invariant-loop-i : goal.invariant-loop-i
invariant-loop-i l = record {
  small : l.sum ≤ 15 * l.i;
  value : l.sum ≡ sum (map (λ i. 15 - coefficient l.digest i) (range_with_len 0 l.i));
}
