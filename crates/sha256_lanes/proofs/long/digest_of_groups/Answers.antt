use Rattle.std.proofs.Common.{◌≡◌, ℕ, ◌+◌, ◌*◌, List, length, sym, ap, ◌∙◌, refl, arith}
use Rattle.sha2.specs.Sha256.{compress, digest_bytes, hash_after, initial_hash_256, padding, sha256}
use Rattle.sha256_lanes.proofs.Blocks.{hashed_none, hashed_whole}
use Rattle.sha256_lanes.proofs.long.digest_of_groups.Goals as goal

pub groups-init : goal.groups-init
groups-init c = c.initial-state.ensures ∙ sym (hashed_none initial_hash_256 c.args.text.now)

pub groups-preserved : goal.groups-preserved
groups-preserved c =
    let next : 8 * c.groups.group + 8 ≡ 8 * (c.groups.group + 1) = omega arith in
    c.compress_eight.ensures initial_hash_256 c.groups.invariant ∙ ap (hash_after initial_hash_256 c.args.text.now) next

pub returns : goal.returns
unfolding sha256
returns c =
    let text : List ℕ = c.args.text.now in
    let n : ℕ = 8 * c.groups.group in
    let size : length text ≡ n * 64 = omega (arith, c.groups.auto.group-end, c.requires) in
    let before = ap (λ (h : List ℕ). compress h (padding (length text))) c.groups.invariant in
    c.digest_of.ensures
    ∙ ap (λ (h : List ℕ). digest_bytes h 8)
    (c.compress_padding.ensures.taken ∙ before ∙ hashed_whole initial_hash_256 text (padding (length text)) n size refl c.compress_padding.ensures.width)
