use Rattle.std.proofs.Common.{◌≡◌, Ok, rules}
use Rattle.update_cert.specs.Cert.{cert}
use Rattle.update_cert.specs.CertLaws.{lawful_cert}
use Rattle.update_cert.proofs.cert.CertText.read_fields.Goals as goal

pub invariant_of-result : goal.invariant_of-result
invariant_of-result g c =
    let read : cert.read c.args.reader.now ≡ Ok (record { user = c.in_ok-user.user; number = c.in_ok-number.number; last = c.in_ok-last.last; changes = c.in_ok-changes.changes.items }, c.read_rows.new.reader) = search rules in
    (lawful_cert.takes _ _ _ c.tag.ensures.bytes read).fits
