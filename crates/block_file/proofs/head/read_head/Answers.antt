use Rattle.std.proofs.Common.{◌≡◌, List, ℕ, length, take, drop, ◌∙◌, ap, sym, arith}
use Rattle.std.proofs.lemmas.List.{take_all, length-drop}
use Rattle.std.specs.Int.{w32, from_be_bytes}
use Rattle.block_file.specs.Blocks.{head}
use Rattle.block_file.proofs.Heads.{four_cells, head_so}
use Rattle.block_file.proofs.head.read_head.Goals as goal

pub returns-clause-head : goal.returns-clause-head
returns-clause-head c =
    let bytes = c.args.bytes.now in
    let n = c.from_be_bytes-size.result in
    let size : length bytes ≡ 36 = c.told-bytes in
    let number : n ≡ from_be_bytes w32 (take 4 bytes) = c.from_be_bytes-size.ensures ∙ ap (λ (l : List ℕ). from_be_bytes w32 l) (four_cells bytes (omega (arith, size))) in
    let digest : c.from_bytes.result ≡ drop 4 bytes = c.from_bytes.ensures ∙ c.copy_from_slice.ensures.after ∙ take_all 32 (drop 4 bytes) (omega (arith, length-drop 4 bytes, size)) in
    head_so bytes n size c.fits-bytes number ∙ ap (λ (d : List ℕ). head n d) (sym digest)
