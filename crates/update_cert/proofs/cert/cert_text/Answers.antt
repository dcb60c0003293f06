use Rattle.std.proofs.Common.{None, ℕ, List, [], arith, ap, ◌∙◌}
use Rattle.std.specs.Int.{w8}
use Rattle.layout.specs.Laws.{listed_fits, rows_fit}
use Rattle.update_cert.specs.Change.{change}
use Rattle.update_cert.specs.Cert.{Cert, cert, change_rows}
use Rattle.update_cert.specs.CertLaws.{lawful_cert}
use Rattle.update_cert.proofs.cert.cert_text.Goals as goal

pub returns-in_err-write_cert-clause-fits : goal.returns-in_err-write_cert-clause-fits
returns-in_err-write_cert-clause-fits g c =
    let changes = listed_fits w8 16 change_rows c.args.changes.now (omega arith) c.requires.few (rows_fit change None c.args.changes.now c.changes_fit.ensures) in
    (c.get.ensures.fits, (c.get-2.ensures.fits, (c.as_bytes-last.ensures.fits, changes)))

pub returns-clause-fits : goal.returns-clause-fits
returns-clause-fits g c =
    let changes = listed_fits w8 16 change_rows c.args.changes.now (omega arith) c.requires.few (rows_fit change None c.args.changes.now c.changes_fit.ensures) in
    (c.get.ensures.fits, (c.get-2.ensures.fits, (c.as_bytes-last.ensures.fits, changes)))

pub returns-clause-text : goal.returns-clause-text
returns-clause-text g c =
    let v : Cert = record { user = c.args.user; number = c.args.number; last = c.args.last; changes = c.args.changes.now } in
    c.finish.ensures ∙ c.in_ok-write_cert.ensures.ok ∙ ap (λ (old : List ℕ). cert.onto old v) c.new-writer.ensures ∙ lawful_cert.onto [] v
