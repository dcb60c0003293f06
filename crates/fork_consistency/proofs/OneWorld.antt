-- All readings of a run give one world to each line of an accepted view: each content that a released certificate names was
-- laid out, among the texts of the run.
use Rattle.std.proofs.Common.{◌≡◌, ◌<◌, true, ◌==◌, ◌||◌, List, [], ◌∷◌, Option, Some, None, refl, sym, ap, ◌∙◌, subst, inl, inr, option_map}
use Rattle.std.specs.List.{All, flat_map, list_all, range_with_len}
use Rattle.std.specs.Str.{bytes_eq}
use Rattle.std.proofs.lemmas.Bool.{and_parts, or_cases}
use Rattle.std.proofs.lemmas.Slice.Eq.{bytes_eq-Decides}
use Rattle.layout.specs.Types.{Bytes, Digest, INumber, Key, Principal, User}
use Rattle.principals.specs.TableText.{key as key_form}
use Rattle.itable.specs.File.{NoneCollide}
use Rattle.update_cert.specs.Change.{Action, Make, Put, Remove, Link, Unlink, AddUser, AddMember, DropMember, SetKey, Change}
use Rattle.update_cert.specs.Cert.{Cert, cert}
use Rattle.update_cert.specs.Reading.{Reading, read_action, read_change, read_changes}
use Rattle.update_cert.specs.World.{Content, Directory, Tree, after, genesis}
use Rattle.tree_parts.specs.Blocks.{Agrees}
use Rattle.pending_list.specs.declared.signed.Signed.{Signed}
use Rattle.pending_list.specs.Reply.{PendingItem}
use Rattle.client_releases.specs.Told.{cert_in}
use Rattle.checked_blocks.specs.CheckedBlocks.{at_first}
use Rattle.client_tree.specs.Genesis.{first_blocks, first_texts, inode_digest, root_inode}
use Rattle.client_verify.specs.Laid.{are_laid, is_file_laid, is_laid}
use Rattle.client_verify.proofs.GenesisLaws.{has_genesis}
use Rattle.agreement.specs.Lines.{line}
use Rattle.agreement.specs.Runs.{View, number_of, reply_of, user_of}
use Rattle.agreement.specs.Worlds.{actor_in, world, world_from}
use Rattle.agreement.proofs.Lines as lines
use Rattle.agreement.proofs.Members.{In, in-left, in-map, in-right, of_all, to_all}
use Rattle.agreement.proofs.Formed.{cert_fits}
use Rattle.agreement.proofs.Runs.{accepted_in}
use Rattle.fork_consistency.proofs.Genuine.{IsGenuineRun}
use Rattle.fork_consistency.specs.Premises.{HasReleased, NoCollision, PinnedIsKey}
use Rattle.client_runs.specs.Released.{hashed, hashed_at, released, views}
use Rattle.client_runs.specs.Runs.{Event, IsRun, Keys, pinned as pinned_key}
use Rattle.fork_consistency.proofs.Agreed.{all_released, are_accepted}
use Rattle.fork_consistency.specs.ByCertificates.{certificate, certificates, certificates_up_to}
use Rattle.fork_consistency.specs.Handles.{told_by_texts}
use Rattle.fork_consistency.specs.OwnParts.{OnePart}
use Rattle.fork_consistency.specs.Worlds.{IsReadingOf, OneWorld}
use Rattle.fork_consistency.proofs.AllHonest.{apart_first, first_agrees}
use Rattle.fork_consistency.proofs.Begun.{AmongThem, IsBegun, each_begun}
use Rattle.fork_consistency.proofs.Certificates.{text_of}
use Rattle.fork_consistency.proofs.Contents.{file_laid}
use Rattle.fork_consistency.proofs.Lists.{found_in, in-filter_map}

module _ (texts : List Bytes) (apart : NoneCollide texts texts) (a b : Reading) (of_a : Agrees (told_by_texts texts) a) (of_b : Agrees (told_by_texts texts) b)
    (root_a : a.content (inode_digest root_inode) ≡ Directory []) (root_b : b.content (inode_digest root_inode) ≡ Directory []) where
  -- ---- contents

  same_file : (laid : List Bytes) → ((t : Bytes) → In t laid → In t texts) → (d : Digest) → is_file_laid laid d ≡ true → a.content d ≡ b.content d
  same_file laid inside d is = let f = file_laid texts apart laid inside d is in f.stands a of_a ∙ sym (f.stands b of_b)

  same_made : (laid : List Bytes) → ((t : Bytes) → In t laid → In t texts) → (d : Digest) → (is_file_laid laid d || bytes_eq d (inode_digest root_inode)) ≡ true → a.content d ≡ b.content d
  same_made laid inside d is =
      elim (or_cases (is_file_laid laid d) (bytes_eq d (inode_digest root_inode)) is) [
        | inl file ↦ same_file laid inside d file
        | inr root ↦ (
            let same : d ≡ inode_digest root_inode = (bytes_eq-Decides d (inode_digest root_inode)).0 root in
            ap a.content same ∙ root_a ∙ sym root_b ∙ ap b.content (sym same))
      ]

  same_action : (laid : List Bytes) → ((t : Bytes) → In t laid → In t texts) → (c : Action Digest) → is_laid laid c ≡ true → read_action a c ≡ read_action b c
  same_action laid inside (Make d) is = ap (λ (x : Content). Make x) (same_made laid inside d is)
  same_action laid inside (Put d) is = ap (λ (x : Content). Put x) (same_file laid inside d is)
  same_action laid inside Remove is = refl
  same_action laid inside (Link entry) is = refl
  same_action laid inside (Unlink name) is = refl
  same_action laid inside (AddUser u key) is = refl
  same_action laid inside (AddMember g u) is = refl
  same_action laid inside (DropMember g u) is = refl
  same_action laid inside (SetKey u key) is = refl

  same_each : (laid : List Bytes) → ((t : Bytes) → In t laid → In t texts) → (cs : List (Change Digest)) → list_all (λ c. is_laid laid c.action) cs ≡ true → read_changes a cs ≡ read_changes b cs
  same_each laid inside [] are = refl
  same_each laid inside (c ∷ cs) are =
      let both = and_parts (is_laid laid c.action) (list_all (λ (d : Change Digest). is_laid laid d.action) cs) are in
      let one : read_change a c ≡ read_change b c = ap (λ (x : Action Content). let y : Change Content = record { principal = c.principal; i_number = c.i_number; action = x } in y) (same_action laid inside c.action both.0) in
      ap (λ (x : Change Content). x ∷ read_changes a cs) one ∙ ap (λ (xs : List (Change Content)). read_change b c ∷ xs) (same_each laid inside cs both.1)

  same_changes : (c : Cert) → IsBegun (AmongThem texts) c → read_changes a c.changes ≡ read_changes b c.changes
  unfolding are_laid
  same_changes c begun = same_each begun.laid begun.inside c.changes begun.are

  -- ---- worlds

  pub same_world : (l : List Cert) (w : Tree) → ((c : Cert) → In c l → IsBegun (AmongThem texts) c) → world_from a w l ≡ world_from b w l
  same_world [] w each = refl
  same_world (c ∷ cs) w each =
      ap (λ (changes : List (Change Content)). world_from a (after (actor_in w c) changes w) cs) (same_changes c (each c (inl refl)))
      ∙ same_world cs (after (actor_in w c) (read_changes b c.changes) w) (λ d i. each d (inr i))

module _ (keys : Keys) (run : List Event) (is : IsRun keys run) (apart : NoCollision keys run) (pinned : key_form.Fits (pinned_key keys)) where
  abbrev key : Key
  key = pinned_key keys

  abbrev texts : List Bytes
  texts = hashed keys run

  inside : (t : Bytes) → In t (first_texts key) → In t texts
  inside t i = in-right t (flat_map hashed_at run) (first_texts key) i

  -- the empty directory
  pub root_of : (reads : Reading) → IsReadingOf keys run reads → reads.content (inode_digest root_inode) ≡ Directory []
  root_of reads agrees =
      let same : Some (reads.content (inode_digest root_inode)) ≡ Some (Directory []) =
      has_genesis key (at_first (first_blocks key)) refl (apart_first texts apart key pinned inside reads agrees) reads (first_agrees texts apart key pinned inside reads agrees) 0 2 refl in
      cc same

  -- readings give one world to certificates that were begun
  pub one_of : (l : List Cert) → ((c : Cert) → In c l → IsBegun (AmongThem texts) c) → (a b : Reading) → IsReadingOf keys run a → IsReadingOf keys run b → (p : Principal) (n : INumber) → world a key l p n ≡ world b key l p n
  one_of l each a b of_a of_b p n =
      ap (λ (w : Tree). w p n) (same_world texts apart a b of_a of_b (root_of a of_a) (root_of b of_b) l (genesis key) each)

  -- what a user's client released was begun
  of_user : (u : User) (a : Bytes) (o : Option (Signed Cert)) (c : Cert) → In a (released u run) → cert_in u a ≡ o → option_map (λ (s : Signed Cert). s.value) o ≡ Some c → IsBegun (AmongThem texts) c
  of_user u a None c i at same = absurd (cc same)
  of_user u a (Some s) c i at same =
      let one : s.value ≡ c = cc same in
      subst (IsBegun (AmongThem texts)) one (each_begun texts keys u run is (λ y k. in-left y (flat_map hashed_at run) (first_texts key) k) a s i at)

  pub one_part : OnePart keys run
  one_part u n a b of_a of_b p i low = one_of (certificates_up_to n u run) each a b of_a of_b p i
    where
      each : (c : Cert) → In c (certificates_up_to n u run) → IsBegun (AmongThem texts) c
      each c j =
          let (k, l, at) = in-filter_map (certificate u run) (range_with_len 1 n) c j in
          let m = found_in (λ (d : Cert). d.number == k) (certificates u run) c at in
          let (text, q, is_cert) = in-filter_map (λ (t : Bytes). option_map (λ (s : Signed Cert). s.value) (cert_in u t)) (released u run) c m.0 in
          of_user u text (cert_in u text) c q refl is_cert

module _ (keys : Keys) (run : List Event) (is : IsRun keys run) (is_key : PinnedIsKey keys) (premises : IsGenuineRun keys run) where
  -- each certificate of a line was begun
  begun : (x : View) → In x (views run) → (c : Cert) → In c (line (views run) x) → cert.Fits c → IsBegun (AmongThem (hashed keys run)) c
  begun x i c j fits =
      let has = of_all (λ (d : Cert). HasReleased d.user run (cert.spell d)) (line (views run) x) (of_all (λ (y : View). All (λ (d : Cert). HasReleased d.user run (cert.spell d)) (line (views run) y)) (views run) (all_released keys run is is_key premises) x i) c j in
      let t = text_of keys run is c.user c fits refl has in
      subst (IsBegun (AmongThem (hashed keys run))) t.value (each_begun (hashed keys run) keys c.user run is (λ y k. in-left y (flat_map hashed_at run) (first_texts (pinned_key keys)) k) t.text t.one t.there t.read)

  abbrev vs : List View
  vs = views run

  pub line_fits : (x : View) (c : Cert) → In c (line vs x) → cert.Fits c
  line_fits x c j =
      let k = subst (λ (l : List Cert). In c l) (sym (lines.line_certs vs (user_of x) (number_of x))) j in
      let (i, m, same) = in-map (λ (i : PendingItem). i.cert) (lines.items_at vs (user_of x) (number_of x)) c k in
      let (y, n, p) = lines.line_pending vs (user_of x) (number_of x) i m in
      subst cert.Fits (sym same) (cert_fits (reply_of y) (accepted_in vs (are_accepted keys run is is_key premises) y n).1.read i p)

  pub one_world : OneWorld keys run
  one_world a b of_a of_b =
      to_all (λ x. (p : Principal) (n : INumber) → p < 96 → world a (pinned_key keys) (line vs x) p n ≡ world b (pinned_key keys) (line vs x) p n) vs
      (λ x i p n low. one_of keys run is premises.no_collision is_key (line vs x) (λ c j. begun x i c j (line_fits x c j)) a b of_a of_b p n)
