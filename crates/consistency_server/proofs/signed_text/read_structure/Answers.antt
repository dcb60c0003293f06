-- A text that is too long spells none.
use Rattle.std.proofs.Common.{◌+◌, arith}
use Rattle.version_order.specs.declared.structure.TheConstants.{STRUCTURE_SIZE}
use Rattle.version_order.specs.Structure.{structure}
use Rattle.version_order.specs.StructureLaws.{lawful_structure, at_most_structure}
use Rattle.pending_list.specs.Signed.{signed}
use Rattle.pending_list.specs.SignedLaws.{lawful_signed, at_most_signed}
use Rattle.consistency_server.proofs.Long.{long_spells_nothing}
use Rattle.consistency_server.proofs.signed_text.read_structure.Goals as goal

pub returns-then-text-clause-exact : goal.returns-then-text-clause-exact
returns-then-text-clause-exact g c = long_spells_nothing (signed structure) (STRUCTURE_SIZE + 2508) (lawful_signed structure lawful_structure) (at_most_signed structure STRUCTURE_SIZE at_most_structure) c.args.text.now c.are_bytes.ensures (omega (arith, c.if-text.true))
