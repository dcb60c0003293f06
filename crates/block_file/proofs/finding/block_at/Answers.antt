use Rattle.std.proofs.Common.{◌≡◌, inl, inr, take, drop, sym, ◌∙◌, arith}
use Rattle.std.proofs.lemmas.List.{length-drop}
use Rattle.block_file.specs.Blocks.{head, size_told}
use Rattle.block_file.proofs.Heads.{told}
use Rattle.block_file.proofs.Chains.{begins_at}
use Rattle.block_file.proofs.finding.block_at.Goals as goal
use Rattle.block_file.proofs.finding.block_at.Goals.{then-length-gt-BLOCK_LIMIT-via-then-length-gt-BLOCK_LIMIT, then-length-gt-BLOCK_LIMIT-via-else-length-gt-BLOCK_LIMIT+then-size-from}

pub returns-then-length-gt-BLOCK_LIMIT-clause-none : goal.returns-then-length-gt-BLOCK_LIMIT-clause-none
returns-then-length-gt-BLOCK_LIMIT-clause-none g c tells =
    let text = (g.S.Storage.history c.args.storage.now).now.text in
    let bytes = drop c.args.from text in
    let h = c.read_head-length.result in
    let is : take 36 bytes ≡ head h.0 h.1 = sym (c.in_ok-read.ensures.bytes tells) ∙ c.read_head-length.ensures.head in
    let size : size_told bytes ≡ h.0 = told bytes h.0 h.1 c.read_head-length.ensures.small is in
    elim c.then-length-gt-BLOCK_LIMIT.branch [
      | then-length-gt-BLOCK_LIMIT-via-then-length-gt-BLOCK_LIMIT w ↦ inr (inl (omega (arith, size)))
      | then-length-gt-BLOCK_LIMIT-via-else-length-gt-BLOCK_LIMIT+then-size-from w ↦ inr (inr (omega (arith, size, length-drop c.args.from text, c.requires.size tells)))
    ]

pub returns-clause-some : goal.returns-clause-some
returns-clause-some g c tells =
    let text = (g.S.Storage.history c.args.storage.now).now.text in
    let h = c.read_head-length.result in
    let is : take 36 (drop c.args.from text) ≡ head h.0 h.1 = sym (c.in_ok-read.ensures.bytes tells) ∙ c.read_head-length.ensures.head in
    begins_at text c.args.from h.0 h.1 c.new.result c.read_head-length.ensures.size (omega arith) (omega (arith, c.requires.size tells)) is c.new.ensures
