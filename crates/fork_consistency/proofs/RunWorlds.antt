-- The laws on handles and worlds over runs.
use Rattle.std.proofs.Common.{◌≡◌, ℕ, ◌<◌, List, Some, sym, ap, ◌∙◌, arith}
use Rattle.std.specs.List.{All, flat_map}
use Rattle.layout.specs.Types.{Bytes, Key, Principal}
use Rattle.principals.specs.Table.{Table}
use Rattle.principals.specs.TableText.{table}
use Rattle.principals.specs.TableTextLaws.{lawful_table}
use Rattle.update_cert.specs.Reading.{Reading}
use Rattle.update_cert.specs.World.{File, table_of}
use Rattle.tree_parts.proofs.SomeReading.{some_reading}
use Rattle.client_tree.specs.Genesis.{first_texts}
use Rattle.client_tree.specs.View.{lost, tree}
use Rattle.agreement.specs.Lines.{line}
use Rattle.agreement.specs.Runs.{View}
use Rattle.agreement.specs.Worlds.{IsHonest, NameFirst, view_in, world}
use Rattle.agreement.proofs.Formed.{same_spelled}
use Rattle.agreement.proofs.Members.{In, in-left, in-right, in_contains, to_all}
use Rattle.agreement.proofs.Worlds.{all_listed, are_worlds, guarded as any_guarded, judge_as_world, lose_void}
use Rattle.fork_consistency.proofs.Genuine.{IsGenuineRun}
use Rattle.fork_consistency.specs.Premises.{PinnedIsKey}
use Rattle.client_runs.specs.Released.{hashed, hashed_at, views}
use Rattle.client_runs.specs.Runs.{Event, IsRun, Keys, pinned as pinned_key}
use Rattle.fork_consistency.proofs.Agreed.{apart, are_accepted}
use Rattle.fork_consistency.specs.Handles.{AllAreWhole, FirstAreWhole, NamesWhole, told_by_texts}
use Rattle.fork_consistency.specs.Worlds.{HasUsers, AreWorldsBy, AreWorldsIn, CanBeRead, IsReadingOf, IsUsersOf, LosesVoid, IsWorldsTable, TreeIsWorld}
use Rattle.fork_consistency.proofs.AllHonest.{is_honest, name_first}
use Rattle.fork_consistency.proofs.AllWhole.{IsPlain, all_whole, low_all}
use Rattle.fork_consistency.proofs.ByCertificates.{SuperIsHonest, super_honest, view}
use Rattle.fork_consistency.proofs.Firsts.{first_whole}
use Rattle.fork_consistency.proofs.Origins.{IsKnown, all_known}
use Rattle.fork_consistency.proofs.Tables.{first_table_named}

-- the texts of each run can be read
pub can_read : (keys : Keys) (run : List Event) → CanBeRead keys run
can_read keys run = some_reading (told_by_texts (hashed keys run))

module _ (keys : Keys) (run : List Event) (is : IsRun keys run) (is_key : PinnedIsKey keys) (premises : IsGenuineRun keys run) where
  abbrev key : Key
  key = pinned_key keys

  abbrev texts : List Bytes
  texts = hashed keys run

  honest : SuperIsHonest keys run
  honest = super_honest keys run is_key premises

  inside : (t : Bytes) → In t (first_texts key) → In t texts
  inside t i = in-right t (flat_map hashed_at run) (first_texts key) i

  known : (x : View) → In x (views run) → IsKnown texts premises.no_collision key x
  known x i = all_known keys texts premises.no_collision inside run is (λ t j. in-left t (flat_map hashed_at run) (first_texts key) j) x i

  plain_and_whole : (x : View) → In x (views run) → IsPlain texts premises.no_collision key inside x × NamesWhole texts x.signed
  plain_and_whole = all_whole texts premises.no_collision key inside (views run) (are_accepted keys run is is_key premises) known

  pub first_are_whole : FirstAreWhole keys run
  first_are_whole p low = first_whole key texts inside p low

  pub all_are_whole : AllAreWhole keys run
  all_are_whole = to_all (λ x. NamesWhole texts x.signed) (views run) (λ x i. (plain_and_whole x i).1)

  pub can_be_read : CanBeRead keys run
  can_be_read = some_reading (told_by_texts texts)

  -- ---- by one reading

  module _ (reads : Reading) (agrees : IsReadingOf keys run reads) where
    first_named : NameFirst reads key
    first_named = name_first texts premises.no_collision key is_key inside reads agrees (first_table_named keys run is is_key texts premises.no_collision inside)

    honest_view : (x : View) → In x (views run) → IsHonest reads key x
    honest_view x i =
        let p = (plain_and_whole x i).0 in
        let w = view keys run is honest x i in
        is_honest texts premises.no_collision key is_key inside reads agrees x (known x i) p.user (low_all texts premises.no_collision key inside x (known x i) p.read p.user p.plan p.each) p.each
        (λ zero. (w.named (ap (λ p. p.user) p.plan ∙ zero), w.at.fits))

    abbrev vs : List View
    vs = views run

    world_of : (x : View) → (i : In x vs) → (p : Principal) (n : ℕ) → p < 96 → tree reads (honest_view x i).users (view_in key x) p n ≡ world reads key (line vs x) p n
    world_of x i p n low = are_worlds reads key vs first_named (are_accepted keys run is is_key premises) (apart keys run is is_key premises) honest_view x (in_contains x vs i) (honest_view x i) p n low

    -- user 0's handle names one table
    users_are : (x : View) → (i : In x vs) → (users : Table) → IsUsersOf reads key x users → users ≡ (honest_view x i).users
    users_are x i users of =
        let h = honest_view x i in
        let same : Some (File (table.spell users)) ≡ Some (File (table.spell h.users)) = sym of.named ∙ h.named in
        let spelled : table.spell users ≡ table.spell h.users = cc same in
        same_spelled table lawful_table users h.users of.fits h.users_fit spelled

    users : All (HasUsers reads key) vs
    users = to_all (HasUsers reads key) vs (λ x i. let h = honest_view x i in (h.users, record { fits = h.users_fit; named = h.named }))

    trees : All (TreeIsWorld reads key vs) vs
    trees =
        to_all (TreeIsWorld reads key vs) vs
        (λ x i users of p n low. ap (λ (t : Table). tree reads t (view_in key x) p n) (users_are x i users of) ∙ world_of x i p n low)

    tables : All (λ x. IsWorldsTable reads key vs x x.table) vs
    tables = to_all (λ x. IsWorldsTable reads key vs x x.table) vs (λ x i. ap table_of (sym (honest_view x i).pending ∙ world_of x i 0 1 (omega arith)))

    losses : All (LosesVoid reads key vs) vs
    losses =
        to_all (LosesVoid reads key vs) vs
        (λ x i users of before e. (
        ap (λ (t : Table). lost reads t (view_in key x)) (users_are x i users of)
        ∙ lose_void reads key vs first_named (are_accepted keys run is is_key premises) (apart keys run is is_key premises) honest_view x (in_contains x vs i) (honest_view x i) before e))

    pub worlds_by : AreWorldsBy keys run reads
    worlds_by = record {
      users = users;
      listed = all_listed reads key vs first_named (are_accepted keys run is is_key premises) (apart keys run is is_key premises) honest_view;
      guarded = λ x i before c after e. any_guarded reads (world reads key before) c;
      trees = trees;
      tables = tables;
      losses = losses;
      judged = judge_as_world reads key vs first_named (are_accepted keys run is is_key premises) (apart keys run is is_key premises) honest_view;
    }

  pub are_worlds_in : AreWorldsIn keys run
  are_worlds_in reads agrees = worlds_by reads agrees
