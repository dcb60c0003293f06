-- What is spelled is bytes: certificates and structures, and these with a signature.
use Rattle.std.proofs.Common.{ℕ, zero, suc, Option}
use Rattle.layout.specs.Types.{Bytes}
use Rattle.layout.specs.Format.{Format, IsBytes}
use Rattle.update_cert.specs.Change.{action, placed_fields, table_fields, fields, change}
use Rattle.update_cert.specs.Cert.{Cert, cert}
use Rattle.version_order.specs.declared.plan.Entry.{Entry}
use Rattle.version_order.specs.declared.vector.Component.{Component}
use Rattle.version_order.specs.declared.structure.GroupRecord.{GroupRecord}
use Rattle.version_order.specs.Vector.{component, vector}
use Rattle.version_order.specs.Plan.{entry, entries, plan}
use Rattle.version_order.specs.Structure.{Structure, group_record, group_records, structure}
use Rattle.lms_sign.specs.Secret.{Secret}
use Rattle.lms_sign.specs.Signature.{signature_of}
use Rattle.pending_list.specs.Signed.{signed}
use Rattle.honest_line.proofs.SignatureBytes.{signed_fits}
use Rattle.honest_line.proofs.SpellsBytes.{SpellsBytes, spelling}

-- ---- certificates

bytes_action : (k : ℕ) → SpellsBytes (action k)
bytes_action zero = search spelling
bytes_action (suc zero) = search spelling
bytes_action (suc (suc zero)) = search spelling
bytes_action (suc (suc (suc zero))) = search spelling
bytes_action (suc (suc (suc (suc zero)))) = search spelling depth 12
bytes_action (suc (suc (suc (suc (suc n))))) = search spelling depth 9

bytes_placed : (k : ℕ) → SpellsBytes (placed_fields k)
bytes_placed k = search (spelling, bytes_action) depth 9

bytes_table_fields : (k : ℕ) → SpellsBytes (table_fields k)
bytes_table_fields zero = search spelling depth 9
bytes_table_fields (suc zero) = search spelling depth 9
bytes_table_fields (suc (suc zero)) = search spelling depth 9
bytes_table_fields (suc (suc (suc n))) = search spelling depth 9

bytes_fields : (k : ℕ) → SpellsBytes (fields k)
bytes_fields zero = bytes_placed 0
bytes_fields (suc zero) = bytes_placed 1
bytes_fields (suc (suc zero)) = bytes_placed 2
bytes_fields (suc (suc (suc zero))) = bytes_placed 3
bytes_fields (suc (suc (suc (suc zero)))) = bytes_placed 4
bytes_fields (suc (suc (suc (suc (suc zero))))) = bytes_placed 5
bytes_fields (suc (suc (suc (suc (suc (suc n)))))) = bytes_table_fields n

bytes_change : SpellsBytes change
bytes_change = search (spelling, bytes_fields)

bytes_cert : SpellsBytes cert
bytes_cert = search (spelling, bytes_change) depth 12

pub cert_is_bytes : (c : Cert) → cert.Fits c → IsBytes (cert.spell c)
cert_is_bytes = bytes_cert.holds

-- ---- structures

bytes_component : (before : Option Component) → SpellsBytes (component before)
bytes_component before = search spelling depth 9

bytes_vector : SpellsBytes vector
bytes_vector = search (spelling, bytes_component)

bytes_entry : (before : Option Entry) → SpellsBytes (entry before)
bytes_entry before = search spelling depth 9

bytes_entries : SpellsBytes entries
bytes_entries = search (spelling, bytes_entry)

bytes_plan : SpellsBytes plan
bytes_plan = search (spelling, bytes_vector, bytes_entries) depth 12

bytes_group_record : (before : Option GroupRecord) → SpellsBytes (group_record before)
bytes_group_record before = search spelling depth 12

bytes_group_records : SpellsBytes group_records
bytes_group_records = search (spelling, bytes_group_record)

bytes_structure : SpellsBytes structure
bytes_structure = search (spelling, bytes_plan, bytes_group_records) depth 9

pub structure_is_bytes : (z : Structure) → structure.Fits z → IsBytes (structure.spell z)
structure_is_bytes = bytes_structure.holds

-- ---- with a signature

bytes_signed : {V : Type 0} (f : Format V) → SpellsBytes f → SpellsBytes (signed f)
bytes_signed f law = search spelling

signed_is_bytes : {V : Type 0} (f : Format V) → SpellsBytes f → (secret : Secret) (leaf : ℕ) (x : V) → f.Fits x
    → IsBytes ((signed f).spell (record { value = x; signature = signature_of secret leaf (f.spell x) }))
signed_is_bytes f law secret leaf x fits = (bytes_signed f law).holds (record { value = x; signature = signature_of secret leaf (f.spell x) }) (fits, signed_fits secret (f.spell x) leaf)

pub signed_cert_is_bytes : (secret : Secret) (leaf : ℕ) (c : Cert) → cert.Fits c
    → IsBytes ((signed cert).spell (record { value = c; signature = signature_of secret leaf (cert.spell c) }))
signed_cert_is_bytes = signed_is_bytes cert bytes_cert

pub signed_structure_is_bytes : (secret : Secret) (leaf : ℕ) (z : Structure) → structure.Fits z
    → IsBytes ((signed structure).spell (record { value = z; signature = signature_of secret leaf (structure.spell z) }))
signed_structure_is_bytes = signed_is_bytes structure bytes_structure
