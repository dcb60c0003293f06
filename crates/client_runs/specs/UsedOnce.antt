-- What a user's client releases: of each leaf of each key one text, and of each number one certificate, which may be
-- signed several times, and one structure.
use Rattle.std.specs.Prelude.{◌≡◌, ◌<◌, ℕ, List, Some, length, slice_index_or}
use Rattle.std.specs.List.{Contains}
use Rattle.layout.specs.Types.{Bytes, User}
use Rattle.lms_sign.specs.Signature.{signature_of}
use Rattle.client_journal.specs.Records.{signature_in, unsigned}
use Rattle.pending_list.specs.declared.signed.Signed.{Signed}
use Rattle.version_order.specs.Structure.{Structure}
use Rattle.update_cert.specs.Cert.{Cert}
use Rattle.client_releases.specs.Releasing.{no_secret}
use Rattle.client_releases.specs.Told.{cert_in, structure_in}
use Rattle.release_runs.specs.Released.{leaf_in}
use Rattle.client_runs.specs.Runs.{Event, IsRun, Keys}
use Rattle.client_runs.specs.Released.{released}

-- what holds of each run, for each user
abbrev pub EachClient : (Keys → User → List Event → Type 0) → Type 0
EachClient holds = (keys : Keys) (run : List Event) (u : User) → IsRun keys run → holds keys u run

-- Each released text is signed by one of the user's keys, by the leaf that it carries; and texts of one key that carry
-- one leaf number are one text. Keys are told apart by their place.
pub record LeavesOnce (keys : Keys) (u : User) (run : List Event) : Type 0 where
  pub key_of : Bytes → ℕ
  pub own : (a : Bytes) → Contains (released u run) a → key_of a < length (keys u)
  pub signed : (a : Bytes) → Contains (released u run) a
      → signature_in a ≡ signature_of (slice_index_or (keys u) (key_of a) no_secret) (leaf_in a) (unsigned a)
  pub once : (a b : Bytes) → Contains (released u run) a → Contains (released u run) b → key_of a ≡ key_of b
      → leaf_in a ≡ leaf_in b → a ≡ b

-- certificates of one number are one: they differ at most by their signatures
abbrev pub CertificatesOnce : Keys → User → List Event → Type 0
CertificatesOnce keys u run =
    (a b : Bytes) (c d : Signed Cert) → Contains (released u run) a → Contains (released u run) b
    → cert_in u a ≡ Some c → cert_in u b ≡ Some d → c.value.number ≡ d.value.number → c.value ≡ d.value

-- and structures of one number are one text
abbrev pub StructuresOnce : Keys → User → List Event → Type 0
StructuresOnce keys u run =
    (a b : Bytes) (y z : Signed Structure) → Contains (released u run) a → Contains (released u run) b
    → structure_in u a ≡ Some y → structure_in u b ≡ Some z → y.value.plan.number ≡ z.value.plan.number → a ≡ b
