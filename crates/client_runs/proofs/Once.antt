-- What a user's client releases it releases once.
use Rattle.std.proofs.Common.{◌≡◌, List, sym, subst}
use Rattle.std.specs.List.{Contains}
use Rattle.layout.specs.Types.{Bytes}
use Rattle.release_runs.specs.Released as low_released
use Rattle.release_runs.proofs.Runs.{certificates_once as low_certificates, leaves_once as low_leaves, structures_once as low_structures}
use Rattle.client_runs.specs.Released.{released}
use Rattle.client_runs.specs.Runs.{owner}
use Rattle.client_runs.specs.UsedOnce.{CertificatesOnce, EachClient, LeavesOnce, StructuresOnce}
use Rattle.client_runs.proofs.Lowering.{low_owner}
use Rattle.client_runs.proofs.Mirrors.{mirrors}

-- one of the texts of the mirror
in_mirror : (low texts : List Bytes) (a : Bytes) → low ≡ texts → Contains texts a → Contains low a
in_mirror low texts a same has = subst (λ (l : List Bytes). Contains l a) (sym same) has

-- each text was signed by one of its user's keys
pub leaves_once : EachClient LeavesOnce
leaves_once keys run u is =
    let m = mirrors keys u run is in
    let low = low_leaves (low_owner (owner keys u)) m.run m.is_run in
    let inside : (a : Bytes) → Contains (released u run) a → Contains (low_released.released m.run) a = λ a has. in_mirror (low_released.released m.run) (released u run) a m.texts_are has in
    record {
      key_of = low.key_of;
      own = λ a has. low.own a (inside a has);
      signed = λ a has. low.signed a (inside a has);
      once = λ a b has_a has_b. low.once a b (inside a has_a) (inside b has_b);
    }

pub certificates_once : EachClient CertificatesOnce
certificates_once keys run u is a b c d has_a has_b in_a in_b same =
    let m = mirrors keys u run is in
    low_certificates (low_owner (owner keys u)) m.run m.is_run m.in_turn a b c d (in_mirror (low_released.released m.run) (released u run) a m.texts_are has_a)
    (in_mirror (low_released.released m.run) (released u run) b m.texts_are has_b) in_a in_b same

pub structures_once : EachClient StructuresOnce
structures_once keys run u is a b y z has_a has_b in_a in_b same =
    let m = mirrors keys u run is in
    low_structures (low_owner (owner keys u)) m.run m.is_run m.in_turn a b y z (in_mirror (low_released.released m.run) (released u run) a m.texts_are has_a)
    (in_mirror (low_released.released m.run) (released u run) b m.texts_are has_b) in_a in_b same
