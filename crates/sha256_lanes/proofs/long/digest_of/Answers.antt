use Rattle.std.proofs.Common.{rules, ◌≡◌, ℕ, ◌+◌, ◌-◌, ◌*◌, ◌++◌, List, slice_index, take, sym, ap, ◌∙◌, refl, arith}
use Rattle.std.proofs.lemmas.List.{take_all}
use Rattle.std.proofs.lemmas.Slice.{overwrites}
use Rattle.std.specs.Int.{to_be_bytes, w32}
use borrow.Rule.Slice.PartMut.{put_mid}
use Rattle.sha2.specs.Sha256.{digest_bytes}
use Rattle.sha256_lanes.proofs.Blocks.{digest_more}
use Rattle.sha256_lanes.proofs.long.digest_of.Goals as goal

pub words-init : goal.words-init
unfolding digest_bytes
words-init c = (refl, refl)

pub words-preserved : goal.words-preserved
words-preserved c =
    let h : List ℕ = c.args.state.now in
    let k : ℕ = c.words.k in
    let bytes : List ℕ = c.words.bytes in
    let wrote : c.copy_from_slice.new.self ≡ to_be_bytes w32 (slice_index h k) =
    c.copy_from_slice.ensures.after ∙ c.to_be_bytes.ensures in
    let end : 4 * (k + 1) ≡ 4 * k + 4 = omega arith in
    let grown : take (4 * k + 4) (put_mid (4 * k) (4 * k + 4 - 4 * k) bytes c.copy_from_slice.new.self) ≡ take (4 * k) bytes ++ c.copy_from_slice.new.self = search (rules, overwrites) in (
      search (rules, overwrites),
      ap (λ n. take n (put_mid (4 * k) (4 * k + 4 - 4 * k) bytes c.copy_from_slice.new.self)) end ∙ grown
          ∙ rw (c.words.invariant.1, wrote) (sym (digest_more h k)),
    )

pub returns : goal.returns
returns c =
    let end : c.words.k ≡ 8 = omega (arith, c.words.auto.k-end) in
    sym (take_all 32 c.words.bytes (omega arith)) ∙ rw end at c.words.invariant.1
