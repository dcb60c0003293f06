-- Nobody has to believe this file: laws, which are proved.
-- Certificates: what is read is spelled so, what fits and is spelled so is read, and how long it is at most.
use Rattle.std.specs.Prelude.{codes}
use Rattle.std.specs.Int.{w8, w32}
use Rattle.layout.specs.Laws.{laws, wide8, wide32}
use Rattle.layout.specs.Format.{Lawful}
use Rattle.layout.specs.Sizes.{AtMost, at_most_headed, at_most_listed, at_most_mapped, at_most_pair, at_most_uint_in, at_most_raw}
use Rattle.update_cert.specs.declared.cert.TheConstants.{CERT_SIZE}
use Rattle.update_cert.specs.ChangeLaws.{lawful_change, at_most_change}
use Rattle.update_cert.specs.Cert.{change_rows, cert}

pub lawful_cert : Lawful cert
lawful_cert = search (laws, lawful_change) depth 12

pub at_most_cert : AtMost cert CERT_SIZE
at_most_cert =
    at_most_headed (codes "SUC1") _ 4246
    (at_most_mapped _ _ _ 4246 (at_most_pair _ _ 1 4245 (at_most_uint_in w8 0 63 wide8)
    (at_most_pair _ _ 4 4241 (at_most_uint_in w32 1 4294967295 wide32)
    (at_most_pair _ _ 32 4209 (at_most_raw 32) (at_most_listed w8 0 16 change_rows 263 wide8 (λ _. at_most_change))))))
