use Rattle.std.proofs.Common.{◌≡◌, Option, Some, true, false, refl, sym, ap, ◌∙◌, rules}
use Rattle.std.specs.Option.{option_map_or}
use Rattle.itable.specs.Chunk.{Chunk}
use Rattle.tree_parts.specs.Blocks.{chunk_held}
use Rattle.tree_parts.specs.Spot.{takes_chunk}
use Rattle.tree_parts.proofs.ChunkLaws.{chunk_missing, chunk_of_it, chunk_taken}
use Rattle.tree_parts.proofs.chunks.chunk_of.Goals.{in_default-via-in-Some+else-takes_chunk, in_default-via-in_default}
use Rattle.tree_parts.proofs.chunks.chunk_of.Goals as goal

pub returns-in_default-clause-missing : goal.returns-in_default-clause-missing
returns-in_default-clause-missing g c =
    let held = g.B.Blocks.held c.args.blocks.now in
    let taken = λ (found : Option Chunk). option_map_or (takes_chunk c.args.principal c.args.listed.number) found false in
    let none : taken c.in_ok-chunk.field-0 ≡ false =
    elim c.in_default.branch [
      | in_default-via-in-Some+else-takes_chunk w ↦ ap taken w.in-Some.is ∙ sym w.takes_chunk.ensures ∙ w.if-takes_chunk.false
      | in_default-via-in_default w ↦ ap taken w.in_default.is
    ] in
    ((refl, refl), chunk_missing held c.args.principal c.args.listed.number c.args.listed.digest (ap taken (sym c.in_ok-chunk.ensures.found) ∙ none))

pub returns-in-Some-clause-number : goal.returns-in-Some-clause-number
returns-in-Some-clause-number g c =
    let taken : takes_chunk c.args.principal c.args.listed.number c.in-Some.chunk ≡ true = search rules in
    chunk_of_it c.args.principal c.args.listed.number c.in-Some.chunk taken

pub returns-in-Some-clause-taken : goal.returns-in-Some-clause-taken
returns-in-Some-clause-taken g c =
    let held = g.B.Blocks.held c.args.blocks.now in
    let at : chunk_held held c.args.listed.digest ≡ Some c.in-Some.chunk = sym c.in_ok-chunk.ensures.found ∙ c.in-Some.is in
    let taken : takes_chunk c.args.principal c.args.listed.number c.in-Some.chunk ≡ true = search rules in
    chunk_taken held c.args.principal c.args.listed.number c.args.listed.digest c.in-Some.chunk at taken
