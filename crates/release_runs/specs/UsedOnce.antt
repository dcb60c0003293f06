-- What a user's client releases: of each leaf of each key one text, and of each number one certificate, which may be
-- signed several times, and one structure.
use Rattle.std.specs.Prelude.{◌≡◌, ◌<◌, ℕ, List, Some, length, slice_index_or}
use Rattle.std.specs.List.{Contains}
use Rattle.layout.specs.Types.{Bytes}
use Rattle.lms_sign.specs.Secret.{Secret}
use Rattle.lms_sign.specs.Signature.{signature_of}
use Rattle.client_journal.specs.Records.{signature_in, unsigned}
use Rattle.pending_list.specs.declared.signed.Signed.{Signed}
use Rattle.version_order.specs.Structure.{Structure}
use Rattle.update_cert.specs.Cert.{Cert}
use Rattle.client_releases.specs.Releasing.{no_secret}
use Rattle.client_releases.specs.Told.{cert_in, structure_in}
use Rattle.release_runs.specs.Steps.{Owner, secret_of}
use Rattle.release_runs.specs.Runs.{AreInTurn, Event, IsRun}
use Rattle.release_runs.specs.Released.{leaf_in, released}

-- what holds of each run
abbrev pub EachRun : (Owner → List Event → Type 0) → Type 0
EachRun holds = (o : Owner) (run : List Event) → IsRun o run → holds o run

-- Each released text is signed by one of the owner's keys, by the leaf that it carries; and texts of one key that carry
-- one leaf number are one text. Keys are told apart by their place.
pub record LeavesOnce (o : Owner) (run : List Event) : Type 0 where
  pub key_of : Bytes → ℕ
  pub own : (a : Bytes) → Contains (released run) a → key_of a < length o.secrets
  pub signed : (a : Bytes) → Contains (released run) a
      → signature_in a ≡ signature_of (secret_of (key_of a) o) (leaf_in a) (unsigned a)
  pub once : (a b : Bytes) → Contains (released run) a → Contains (released run) b → key_of a ≡ key_of b
      → leaf_in a ≡ leaf_in b → a ≡ b

-- no two of these keys have one identifier, so that a leaf of one place is none of another's
abbrev pub AreApart : List Secret → Type 0
AreApart secrets =
    (m n : ℕ) → m < length secrets → n < length secrets
    → (slice_index_or secrets m no_secret).id ≡ (slice_index_or secrets n no_secret).id → m ≡ n

-- so of keys with one identifier no two texts carry one leaf number, whichever places they have
pub record IdentifiersOnce (o : Owner) (run : List Event) : Type 0 where
  pub leaves : LeavesOnce o run
  pub once : (a b : Bytes) → Contains (released run) a → Contains (released run) b
      → (secret_of (leaves.key_of a) o).id ≡ (secret_of (leaves.key_of b) o).id → leaf_in a ≡ leaf_in b → a ≡ b

abbrev pub EachIdentifierOnce : Type 0
EachIdentifierOnce = EachRun (λ o run. AreApart o.secrets → IdentifiersOnce o run)

-- Where each certificate that is declared has the next number, certificates of one number are one: they differ at most
-- by their signatures.
abbrev pub CertificatesOnce : Owner → List Event → Type 0
CertificatesOnce o run =
    AreInTurn run → (a b : Bytes) (c d : Signed Cert) → Contains (released run) a → Contains (released run) b
    → cert_in o.user a ≡ Some c → cert_in o.user b ≡ Some d → c.value.number ≡ d.value.number → c.value ≡ d.value

-- and structures of one number are one text
abbrev pub StructuresOnce : Owner → List Event → Type 0
StructuresOnce o run =
    AreInTurn run → (a b : Bytes) (y z : Signed Structure) → Contains (released run) a → Contains (released run) b
    → structure_in o.user a ≡ Some y → structure_in o.user b ≡ Some z → y.value.plan.number ≡ z.value.plan.number
    → a ≡ b
