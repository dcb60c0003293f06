-- Whose signature a text would bear, and by which key of that user it is judged.
use Rattle.std.specs.Prelude.{Option, Some, None, Result, Ok, Err}
use Rattle.layout.specs.declared.error.ReadError.{ReadError}
use Rattle.layout.specs.Format.{whole}
use Rattle.layout.specs.Types.{Bytes, Key, User, Version}
use Rattle.version_order.specs.Structure.{Structure, structure}
use Rattle.version_order.specs.Vector.{version_of}
use Rattle.update_cert.specs.Cert.{Cert, cert}
use Rattle.pending_list.specs.declared.signed.Signed.{Signed}
use Rattle.pending_list.specs.Signed.{signed}
use Rattle.principals.specs.Table.{Table, key_at, key_of}
use Rattle.consistency_server.specs.declared.call.CallKind.{CallKind}
use Rattle.consistency_server.specs.declared.call.CallKind.TheVariants.{Update, Commit}
use Rattle.consistency_server.specs.declared.signer.Signer.{Signer}

-- that of a certificate that is read: its user, by the key that came last
abbrev pub signer_of_cert : Result (Signed Cert) ReadError → Option Signer
signer_of_cert (Ok c) = Some (record { user = c.value.user; version = None })
signer_of_cert (Err e) = None

-- that of a structure: its user, by the key at its plan's version of user 0
abbrev pub signer_of_structure : Result (Signed Structure) ReadError → Option Signer
signer_of_structure (Ok s) = Some (record { user = s.value.plan.user; version = Some (version_of 0 s.value.plan.vector) })
signer_of_structure (Err e) = None

-- the signer of the certificate or the structure that the text spells with a signature, if it does
abbrev pub update_signer : Bytes → Option Signer
update_signer text = signer_of_cert (whole (signed cert) text)

abbrev pub commit_signer : Bytes → Option Signer
commit_signer text = signer_of_structure (whole (signed structure) text)

-- by the kind of the call
abbrev pub signer : CallKind → Bytes → Option Signer
signer Update text = update_signer text
signer Commit text = commit_signer text

-- the user's key at a number of user 0's, or the one that came last
abbrev pub key_by : User → Option Version → Table → Option Key
key_by user None table = key_of user table
key_by user (Some version) table = key_at user version table

-- the key by which a signer is judged
abbrev pub judging_key : Signer → Table → Option Key
judging_key s table = key_by s.user s.version table
