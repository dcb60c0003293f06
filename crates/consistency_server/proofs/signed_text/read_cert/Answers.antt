-- A text that is too long spells none.
use Rattle.std.proofs.Common.{◌+◌, arith}
use Rattle.update_cert.specs.declared.cert.TheConstants.{CERT_SIZE}
use Rattle.update_cert.specs.Cert.{cert}
use Rattle.update_cert.specs.CertLaws.{lawful_cert, at_most_cert}
use Rattle.pending_list.specs.Signed.{signed}
use Rattle.pending_list.specs.SignedLaws.{lawful_signed, at_most_signed}
use Rattle.consistency_server.proofs.Long.{long_spells_nothing}
use Rattle.consistency_server.proofs.signed_text.read_cert.Goals as goal

pub returns-then-text-clause-exact : goal.returns-then-text-clause-exact
returns-then-text-clause-exact g c = long_spells_nothing (signed cert) (CERT_SIZE + 2508) (lawful_signed cert lawful_cert) (at_most_signed cert CERT_SIZE at_most_cert) c.args.text.now c.are_bytes.ensures (omega (arith, c.if-text.true))
