-- The laws on tables of principals by certificates.
use Rattle.std.proofs.Common.{◌≡◌, List, [], ◌∷◌, ap, ◌∙◌, refl}
use Rattle.std.specs.List.{All, flat_map}
use Rattle.std.proofs.lemmas.List.Elements.{All-weaker}
use Rattle.layout.specs.Types.{Bytes, User}
use Rattle.principals.specs.TableText.{table}
use Rattle.client_tree.specs.Genesis.{first_texts}
use Rattle.agreement.specs.Runs.{View}
use Rattle.agreement.proofs.Members.{In, in-left, in-right, to_all}
use Rattle.fork_consistency.specs.Premises.{AreKeysOf, IsGenuine, NoCollision, NoneForgedOf, PinnedIsKey}
use Rattle.client_runs.specs.Released.{Shown, hashed, hashed_at, shown_by, views}
use Rattle.client_runs.specs.Runs.{Event, IsRun, Keys, pinned as pinned_key}
use Rattle.client_runs.specs.UsedOnce.{LeavesOnce}
use Rattle.release_runs.specs.UsedOnce.{AreApart}
use Rattle.fork_consistency.proofs.Genuine.{AllGenuine, IsGenuineRun, IsReleasedText}
use Rattle.client_runs.proofs.Once.{leaves_once}
use Rattle.fork_consistency.specs.ByCertificates.{AreByCertificates, HaveTexts, IsByCertificates}
use Rattle.fork_consistency.specs.Handles.{SignsItsTable}
use Rattle.fork_consistency.proofs.Tables.{IsView, SuperGenuine, all_views}

-- ---- what user 0 signed is genuine

module _ (keys : Keys) (apart : (u : User) → u ≡ 0 → AreApart (keys u)) (whole : List Event) (once : (u : User) → LeavesOnce keys u whole) where
  super_genuine : (run : List Event) → NoneForgedOf (λ u. u ≡ 0) keys whole run → SuperGenuine keys run
  super_genuine [] none = tt
  super_genuine (e ∷ older) none =
      (All-weaker (λ (t : Shown). t.user ≡ 0 → IsGenuine keys whole older t) (λ (t : Shown). t.user ≡ 0 → IsReleasedText keys older t) (λ t g zero. g zero (apart t.user zero) (once t.user)) (shown_by e.call) none.0, super_genuine older none.1)

-- so it is where all is genuine
super_among : (keys : Keys) (run : List Event) → AllGenuine keys run → SuperGenuine keys run
super_among keys [] all = tt
super_among keys (e ∷ older) all =
    (All-weaker (IsReleasedText keys older) (λ (t : Shown). t.user ≡ 0 → IsReleasedText keys older t) (λ t g zero. g) (shown_by e.call) all.0, super_among keys older all.1)

-- where none is forged of some users, none is of some of these
pub fewer_forged : (some few : User → Type 0) → ((u : User) → few u → some u) → (keys : Keys) (whole run : List Event) → NoneForgedOf some keys whole run → NoneForgedOf few keys whole run
fewer_forged some few among keys whole [] none = tt
fewer_forged some few among keys whole (e ∷ older) none =
    (All-weaker (λ (t : Shown). some t.user → IsGenuine keys whole older t) (λ (t : Shown). few t.user → IsGenuine keys whole older t) (λ t g one. g (among t.user one)) (shown_by e.call) none.0, fewer_forged some few among keys whole older none.1)

-- What is shown as user 0's is, and no digest collides; user 0's key has the form of a key.
pub record SuperIsHonest (keys : Keys) (run : List Event) : Type 0 where
  pub genuine : SuperGenuine keys run
  pub no_collision : NoCollision keys run
  pub pinned : PinnedIsKey keys

pub super_honest : (keys : Keys) (run : List Event) → PinnedIsKey keys → IsGenuineRun keys run → SuperIsHonest keys run
super_honest keys run is_key p = record { genuine = super_among keys run p.genuine; no_collision = p.no_collision; pinned = is_key }

-- so it is where no signature of user 0's is forged
pub super_unforged : (keys : Keys) (run : List Event) → IsRun keys run → AreKeysOf (λ u. u ≡ 0) keys → NoneForgedOf (λ u. u ≡ 0) keys run run → NoCollision keys run → SuperIsHonest keys run
super_unforged keys run is are none apart = record { genuine = super_genuine keys are.apart run (λ u. leaves_once keys run u is) run none; no_collision = apart; pinned = are.pinned }

-- ---- the laws

module _ (keys : Keys) (run : List Event) (is : IsRun keys run) (honest : SuperIsHonest keys run) where
  abbrev texts : List Bytes
  texts = hashed keys run

  pub first_in : (t : Bytes) → In t (first_texts (pinned_key keys)) → In t texts
  first_in t i = in-right t (flat_map hashed_at run) (first_texts (pinned_key keys)) i

  pub view : (x : View) → In x (views run) → IsView keys run is honest.pinned texts honest.no_collision first_in x
  view =
      all_views keys run is honest.pinned texts honest.no_collision first_in run is honest.genuine (λ text has. has)
      (λ t i. in-left t (flat_map hashed_at run) (first_texts (pinned_key keys)) i)

  pub by_certificates : AreByCertificates keys run
  by_certificates = to_all (λ x. IsByCertificates (pinned_key keys) run x.table) (views run) (λ x i. let w = view x i in record { number = w.number; released = w.at.released; table = w.at.is })

  pub have_texts : HaveTexts keys run
  have_texts = to_all (λ x. table.Fits x.table) (views run) (λ x i. (view x i).at.fits)

  pub sign_tables : All (SignsItsTable keys run) (views run)
  sign_tables = to_all (SignsItsTable keys run) (views run) (λ x i zero. let w = view x i in w.named (ap (λ p. p.user) w.plan ∙ zero))
