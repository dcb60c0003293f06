use Rattle.std.proofs.Common.{◌≡◌, ℕ, ◌+◌, ◌*◌, List, length, take, drop, sym, ap, ◌∙◌, arith}
use Rattle.std.proofs.lemmas.List.{take_all}
use Rattle.sha2.specs.Sha256.{compress}
use Rattle.sha256_lanes.specs.Lanes.{part}
use Rattle.sha256_lanes.proofs.long.compress_padding.Goals as goal

pub returns-clause-taken : goal.returns-clause-taken
returns-clause-taken c =
    let block : List ℕ = c.whole_padding.result in
    let first : 0 + 0 * 0 ≡ 0 = omega arith in
    let all : part (0 + 0 * 0) 64 block ≡ block = ap (λ (k : ℕ). take 64 (drop k block)) first ∙ take_all 64 block (omega arith) in
    c.compress_lane.ensures (part (0 + 0 * 0) 64 block) (c.fill.ensures 0 (part (0 + 0 * 0) 64 block) (omega arith) (c.loaded.ensures 0 (omega arith)))
    ∙ ap (compress c.args.state.now) (all ∙ c.whole_padding.ensures)

pub returns-clause-width : goal.returns-clause-width
returns-clause-width c =
    let width : length c.whole_padding.result ≡ 64 = omega arith in
    ap length (sym c.whole_padding.ensures) ∙ width
