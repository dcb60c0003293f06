-- Certificates of updates: `SUC1`, user, number, the digest of the user's last signed structure (zeros at number 1,
-- which a rule above judges), and at most 16 changes.
-- The bytes stand in docs/FORMATS.md.
use Rattle.std.specs.Prelude.{List, codes}
use Rattle.std.specs.Int.{w8}
use Rattle.layout.specs.Format.{Format, RowAfter, uint_in, raw, pair, headed, mapped, listed}
use Rattle.layout.specs.Ranges.{user, version}
use Rattle.layout.specs.Hash.{hash}
use Rattle.layout.specs.Types.{Digest, User, Version}
use Rattle.update_cert.specs.Change.{Change, change}
use Rattle.update_cert.specs.declared.cert.TheConstants.{MOST_CHANGES}

-- a certificate without where it lies in memory
pub record Cert : Type 0 where
  pub user : User
  -- the number of the operation among the user's own
  pub number : Version
  -- the digest of the structure that the user signed last
  pub last : Digest
  pub changes : List (Change Digest)

abbrev pub change_rows : RowAfter (Change Digest)
change_rows before = change

abbrev pub changes : Format (List (Change Digest))
changes = listed (uint_in w8 0 MOST_CHANGES) change_rows

abbrev pub cert : Format Cert
cert =
    headed (codes "SUC1")
    (mapped (λ (user, (number, (last, changes))). record {
      user = user;
      number = number;
      last = last;
      changes = changes;
    }) (λ c. (c.user, (c.number, (c.last, c.changes))))
    (pair user (pair version (pair (raw 32) changes))))

-- the digest of a certificate is that of its text, without signature
abbrev pub digest_of : Cert → Digest
digest_of c = hash (cert.spell c)
