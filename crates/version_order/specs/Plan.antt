-- Plans: what the server expects of an operation. `SVP1`, user, number, the certificate's digest, the vector, and an
-- entry for each operation that was pending when this one was placed, ascending by user.
-- The bytes stand in docs/FORMATS.md.
use Rattle.std.specs.Prelude.{List, codes}
use Rattle.std.specs.Int.{w8}
use Rattle.std.specs.Ordering.{nat_cmp}
use Rattle.layout.specs.Types.{Digest, User, Version}
use Rattle.layout.specs.Format.{Format, RowAfter, uint_in, raw, pair, headed, guarded, mapped, listed}
use Rattle.layout.specs.Ranges.{user, version}
use Rattle.layout.specs.Ascending.{above}
use Rattle.layout.specs.Hash.{hash}
use Rattle.layout.specs.declared.error.ReadError.TheVariants.{Order}
use Rattle.version_order.specs.declared.plan.Entry.{Entry}
use Rattle.version_order.specs.declared.vector.Component.{Component}
use Rattle.version_order.specs.Vector.{vector}

-- a plan without where it lies in memory
pub record Plan : Type 0 where
  pub user : User
  pub number : Version
  pub certificate : Digest
  pub vector : List Component
  pub entries : List Entry

-- the key by which entries ascend
abbrev pub user_of : Entry → User
user_of e = e.user

abbrev pub entry : RowAfter Entry
entry before =
    mapped (λ (user, (number, plan)). record { user = user; number = number; plan = plan })
    (λ e. (e.user, (e.number, e.plan)))
    (pair (guarded user (above nat_cmp user_of before) Order) (pair version (raw 32)))

abbrev pub entries : Format (List Entry)
entries = listed (uint_in w8 0 255) entry

abbrev pub plan : Format Plan
plan =
    headed (codes "SVP1")
    (mapped (λ (user, (number, (certificate, (vector, entries)))). record {
      user = user;
      number = number;
      certificate = certificate;
      vector = vector;
      entries = entries;
    })
    (λ p. (p.user, (p.number, (p.certificate, (p.vector, p.entries)))))
    (pair user (pair version (pair (raw 32) (pair vector entries)))))

-- the digest of a plan is that of its text
abbrev pub digest_of_plan : Plan → Digest
digest_of_plan p = hash (plan.spell p)

-- the entry that a later plan has of a pending one
abbrev pub entry_of : Plan → Entry
entry_of p = record { user = p.user; number = p.number; plan = digest_of_plan p }
