-- What the operations of a line name was laid out when their users' clients began them.
use Rattle.std.proofs.Common.{◌≡◌, true, ◌||◌, List, [], ◌∷◌, ◌++◌, Option, Result, Ok, Err, IfErr, IsSomeAnd, refl, sym, ap, ◌∙◌, subst, inl, inr}
use Rattle.std.specs.Prelude.{◌⊎◌}
use Rattle.std.specs.List.{All, flat_map}
use Rattle.std.specs.Str.{bytes_eq}
use Rattle.std.proofs.lemmas.Bool.{or_cases}
use Rattle.std.proofs.lemmas.Slice.Eq.{bytes_eq-Decides}
use Rattle.layout.specs.Types.{Bytes, Digest, User}
use Rattle.itable.specs.File.{NoneCollide}
use Rattle.update_cert.specs.Change.{Action, Make, Put, Remove, Link, Unlink, AddUser, AddMember, DropMember, SetKey, Change}
use Rattle.update_cert.specs.Cert.{Cert, cert}
use Rattle.update_cert.specs.Reading.{Reading}
use Rattle.update_cert.specs.World.{Directory, File}
use Rattle.tree_parts.specs.Blocks.{Agrees}
use Rattle.client_releases.specs.declared.error.ClientError.{ClientError}
use Rattle.client_releases.specs.declared.error.ClientError.TheVariants as error
use Rattle.client_tree.specs.Genesis.{first_texts, inode_digest, root_inode}
use Rattle.client_verify.specs.Laid.{are_laid, is_file_laid, is_laid}
use Rattle.client_verify.specs.State.{State, next_cert}
use Rattle.client_steps.specs.Steps.{Begins, Call, Client, Open}
use Rattle.client_runs.specs.Released.{hashed, hashed_at, views}
use Rattle.client_runs.specs.Runs.{Event, IsRun, Keys, client_of, pinned as pinned_key}
use Rattle.agreement.specs.Lines.{line}
use Rattle.agreement.specs.Runs.{View}
use Rattle.agreement.proofs.Members.{In, contains_in, in-left, in_contains, of_all, to_all}
use Rattle.agreement.proofs.Tests.{all_in}
use Rattle.fork_consistency.specs.Handles.{told_by_texts}
use Rattle.fork_consistency.specs.LaidFiles.{NameLaidFiles, NamesLaid, NamesWhatWasLaid, StandsForFile, WereLaid}
use Rattle.fork_consistency.proofs.Genuine.{IsGenuineRun}
use Rattle.fork_consistency.specs.Premises.{HasReleased, PinnedIsKey}
use Rattle.fork_consistency.proofs.Agreed.{all_released}
use Rattle.fork_consistency.proofs.Among.{agrees_within, are_within, of_are_among}
use Rattle.fork_consistency.proofs.Begun.{AllLaySuch, AmongThem, IsBegun, LaysSuch, begun_where, in_run, in_split}
use Rattle.fork_consistency.proofs.BlocksOf.{are_hashed, blocks_by}
use Rattle.fork_consistency.proofs.Certificates.{text_of}
use Rattle.fork_consistency.proofs.Contents.{file_laid}
use Rattle.fork_consistency.proofs.OneWorld.{line_fits, root_of}

-- ---- what texts that were laid out tell

module _ (texts : List Bytes) (apart : NoneCollide texts texts) (reads : Reading) (agrees : Agrees (told_by_texts texts) reads) (root : reads.content (inode_digest root_inode) ≡ Directory [])
    (laid : List Bytes) (inside : (t : Bytes) → In t laid → In t texts) where
  laid_apart : NoneCollide laid laid
  laid_apart a b has_a has_b same =
      apart a b (in_contains a texts (inside a (contains_in a laid has_a))) (in_contains b texts (inside b (contains_in b laid has_b))) same

  agrees_with_laid : Agrees (told_by_texts laid) reads
  agrees_with_laid =
      agrees_within (told_by_texts laid) (told_by_texts texts)
      (are_within texts apart (told_by_texts laid) (λ digest text is. (let a = of_are_among laid digest text is in (inside text a.0, a.1)))) reads agrees

  stands_for_file : (d : Digest) → is_file_laid laid d ≡ true → StandsForFile reads laid d
  stands_for_file d is =
      let f = file_laid laid laid_apart laid (λ t i. i) d is in
      subst (λ (o : Option Bytes). IsSomeAnd o (λ bytes. reads.content d ≡ File bytes)) (sym f.told) (f.stands reads agrees_with_laid)

  stands_for_made : (d : Digest) → (is_file_laid laid d || bytes_eq d (inode_digest root_inode)) ≡ true → StandsForFile reads laid d ⊎ (reads.content d ≡ Directory [])
  stands_for_made d is =
      elim (or_cases (is_file_laid laid d) (bytes_eq d (inode_digest root_inode)) is) [
        | inl file ↦ inl (stands_for_file d file)
        | inr empty ↦ inr (ap reads.content ((bytes_eq-Decides d (inode_digest root_inode)).0 empty) ∙ root)
      ]

  names_laid : (a : Action Digest) → is_laid laid a ≡ true → NamesLaid reads laid a
  names_laid (Make d) is = stands_for_made d is
  names_laid (Put d) is = stands_for_file d is
  names_laid Remove is = tt
  names_laid (Link entry) is = tt
  names_laid (Unlink name) is = tt
  names_laid (AddUser u key) is = tt
  names_laid (AddMember g u) is = tt
  names_laid (DropMember g u) is = tt
  names_laid (SetKey u key) is = tt

  all_named : (cs : List (Change Digest)) → are_laid laid cs ≡ true → All (λ change. NamesLaid reads laid change.action) cs
  unfolding are_laid
  all_named cs are =
      to_all (λ (c : Change Digest). NamesLaid reads laid c.action) cs (λ c i. names_laid c.action (all_in (λ (d : Change Digest). is_laid laid d.action) cs are c i))

-- ---- over a run

module _ (keys : Keys) (run : List Event) (is : IsRun keys run) (is_key : PinnedIsKey keys) (premises : IsGenuineRun keys run) where
  abbrev texts : List Bytes
  texts = hashed keys run

  into : (t : Bytes) → In t (flat_map hashed_at run) → In t texts
  into t i = in-left t (flat_map hashed_at run) (first_texts (pinned_key keys)) i

  -- texts that are among those of the run, and were laid out by the user
  abbrev OfUser : User → Cert → List Bytes → Type 0
  OfUser u c laid = AmongThem texts c laid × (c.user ≡ u → WereLaid c run laid)

  module _ (u : User) (later older : List Event) (e : Event) (split : run ≡ later ++ e ∷ older) (own : e.user ≡ u) where
    were_laid : (s : State) → client_of u older ≡ Open s → (changes : List (Change Digest)) (laid : List Bytes) (answer : Result Bytes ClientError) → e.call ≡ Begins changes laid answer
        → IfErr answer (λ e. e ≡ error.Device) → (next_cert s changes).user ≡ u → WereLaid (next_cert s changes) run laid
    were_laid s was_open changes laid answer at tried user = record {
      step = e;
      later = later;
      older = older;
      at = split;
      user = own ∙ sym user;
      before = s;
      was_open = ap (λ (v : User). client_of v older) user ∙ was_open;
      operation = refl;
      answer = answer;
      begins = at;
      tried = tried;
    }

    lays : (client : Client) → client_of u older ≡ client → (call : Call) → e.call ≡ call → ((t : Bytes) → In t (blocks_by call) → In t texts) → LaysSuch (OfUser u) client call
    lays (Open s) was_open (Begins changes laid (Ok text)) at among = (among, were_laid s was_open changes laid (Ok text) at tt)
    lays (Open s) was_open (Begins changes laid (Err error.Device)) at among = (among, were_laid s was_open changes laid (Err error.Device) at refl)
    lays client was_open call at among = tt

  all_lay : (u : User) → AllLaySuch (OfUser u) u run
  all_lay u later older e split own =
      lays u later older e split own (client_of u older) refl e.call refl (in_run texts run (λ t j. into t (are_hashed run t j)) e (in_split run later older e split))

  begun : (x : View) → In x (views run) → (c : Cert) → In c (line (views run) x) → IsBegun (OfUser c.user) c
  begun x i c j =
      let all = all_released keys run is is_key premises in
      let of_x = of_all (λ (y : View). All (λ (d : Cert). HasReleased d.user run (cert.spell d)) (line (views run) y)) (views run) all x i in
      let has = of_all (λ (d : Cert). HasReleased d.user run (cert.spell d)) (line (views run) x) of_x c j in
      let t = text_of keys run is c.user c (line_fits keys run is is_key premises x c j) refl has in
      subst (IsBegun (OfUser c.user)) t.value (begun_where (OfUser c.user) keys c.user run is (all_lay c.user) t.text t.one t.there t.read)

  names_what_was_laid : (c : Cert) → IsBegun (OfUser c.user) c → NamesWhatWasLaid keys run c
  names_what_was_laid c b = record {
    laid = b.laid;
    were_laid = b.inside.1 refl;
    named = λ reads agrees.
        all_named texts premises.no_collision reads agrees (root_of keys run is premises.no_collision is_key reads agrees) b.laid b.inside.0 c.changes b.are;
  }

  pub name_laid_files : NameLaidFiles keys run
  name_laid_files =
      to_all (λ x. All (NamesWhatWasLaid keys run) (line (views run) x)) (views run)
      (λ x i. to_all (NamesWhatWasLaid keys run) (line (views run) x) (λ c j. names_what_was_laid c (begun x i c j)))
