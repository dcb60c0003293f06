-- Accepted views of a run are honest: what their handles name, by any reading that the run's texts allow, is what the
-- client read and made.
use Rattle.std.proofs.Common.{◌≡◌, ℕ, Bool, true, false, ◌==◌, ◌&&◌, ◌||◌, List, [], ◌∷◌, ◌++◌, filter, Option, Some, None, refl, sym, ap, ◌∙◌, subst, inl, inr, if◌then◌else◌, option_map, arith}
use Rattle.std.specs.Prelude.{◌⊎◌}
use Rattle.std.specs.List.{All, list_all, list_any}
use Rattle.std.specs.Ordering.{is_eq, nat_cmp}
use Rattle.std.proofs.lemmas.Bool.{and_parts}
use Rattle.std.proofs.lemmas.Bool.Decides.{nat_tests}
use Rattle.layout.specs.Ascending.{row_at}
use Rattle.layout.specs.Types.{Bytes, Digest, Handle, Principal}
use Rattle.itable.specs.File.{NoneCollide}
use Rattle.itable.specs.ITable.{digest_at, loaded, new_texts}
use Rattle.directory.specs.Directory.{Entry}
use Rattle.update_cert.specs.Change.{Change}
use Rattle.update_cert.specs.Reading.{Reading, after_read, read_change}
use Rattle.update_cert.specs.World.{Actor, Principals, Tree, after, after_change, content_after}
use Rattle.principals.specs.Table.{Table}
use Rattle.tree_parts.specs.Asked.{covers}
use Rattle.tree_parts.specs.Blocks.{Agrees, Blocks, IsHeld}
use Rattle.tree_parts.specs.Part.{Changed, Open, Part, number_of, opened_at, slot_here, slot_of}
use Rattle.tree_parts.specs.Slots.{changed_texts, directory_digest, directory_texts, has_digest, holds, is_stored}
use Rattle.tree_parts.specs.declared.scope.Scope.TheVariants as scopes
use Rattle.pending_list.specs.Reply.{PendingItem}
use Rattle.client_tree.specs.Opened.{has_change, is_touched}
use Rattle.client_tree.specs.Tree.{IsStored, IsUntouched, ReadsChanged, Stored, principals_texts, stored_at}
use Rattle.client_tree.specs.View.{View, actor_of, after_items, comes_after, handle_of, named, tree, tree_before}
use Rattle.agreement.specs.Worlds.{Names}
use Rattle.agreement.proofs.Members.{In, flat_map-in, in-left, to_all}
use Rattle.agreement.proofs.Tests.{all_in}
use Rattle.fork_consistency.proofs.Among.{AreAmong, agrees_within, all_held, are_within}
use Rattle.fork_consistency.proofs.Lists.{neither}
use Rattle.fork_consistency.specs.Handles.{IsWhole, told_by_texts}
use Rattle.fork_consistency.proofs.SignedTable.{held_in}
use Rattle.fork_consistency.proofs.Whole.{told, told_after, told_unloaded}

-- ---- a part without changes

other_is : (a b : ℕ) → (a == b) ≡ false → (b == a) ≡ false
other_is a b e = grind (arith, nat_tests)

changes_leave : (reads : Reading) (actor : Actor) (cs : List (Change Digest)) (w : Tree) (p i : ℕ) → list_any (λ c. covers scopes.All c.i_number && (c.principal == p)) cs ≡ false → after_read reads actor cs w p i ≡ w p i
unfolding after
changes_leave reads actor [] w p i none = refl
changes_leave reads actor (c ∷ cs) w p i none =
    let both = neither (c.principal == p) (list_any (λ (d : Change Digest). covers scopes.All d.i_number && (d.principal == p)) cs) none in
    changes_leave reads actor cs (after_change actor (read_change reads c) w) p i both.1
    ∙ ap (λ (b : Bool). if b && (i == c.i_number) then content_after actor (read_change reads c) (w p i) else w p i) (other_is c.principal p both.0)

items_leave : (reads : Reading) (t : Table) (is : List PendingItem) (w : Tree) (p i : ℕ) → list_any (has_change scopes.All p) is ≡ false → after_items reads t is w p i ≡ w p i
unfolding after_items
items_leave reads t [] w p i none = refl
items_leave reads t (j ∷ js) w p i none =
    let both = neither (has_change scopes.All p j) (list_any (has_change scopes.All p) js) none in
    items_leave reads t js (after_read reads (actor_of t j) j.cert.changes w) p i both.1 ∙ changes_leave reads (actor_of t j) j.cert.changes w p i both.0

any_front : {A : Type 0} (t : A → Bool) (xs ys : List A) → list_any t (xs ++ ys) ≡ false → (list_any t xs ≡ false) × (list_any t ys ≡ false)
any_front t [] ys e = (refl, e)
any_front t (x ∷ xs) ys e =
    let both = neither (t x) (list_any t (xs ++ ys)) e in
    let rest = any_front t xs ys both.1 in
    (rw both.0 rest.0, rest.1)

-- what stands in such a part is what its handle names
pub untouched_tree : (reads : Reading) (users : Table) (v : View) (p i : ℕ) → is_touched v scopes.All p ≡ false → tree reads users v p i ≡ named reads users v p i
untouched_tree reads users v p i none =
    let others = filter (comes_after v p) v.others in
    let parts = any_front (has_change scopes.All p) others (v.own ∷ []) none in
    let own = neither (has_change scopes.All p v.own) false parts.1 in
    changes_leave reads (actor_of v.table v.own) v.own.cert.changes (tree_before reads users v) p i own.0 ∙ items_leave reads v.table others (named reads users v) p i parts.0

-- ---- a part that was made

opened_row : (os : List Open) (i : ℕ) (entries : List Entry) → option_map (λ o. o.entries) (row_at nat_cmp number_of os i) ≡ Some entries → (o : Open) × In o os × (o.entries ≡ entries)
opened_row [] i entries e = absurd (cc e)
opened_row (o ∷ os) i entries e = go (is_eq (nat_cmp o.i_number i)) e (opened_row os i entries)
  where
    go : (b : Bool) → option_map (λ x. x.entries) (if b then Some o else row_at nat_cmp number_of os i) ≡ Some entries → (option_map (λ x. x.entries) (row_at nat_cmp number_of os i) ≡ Some entries → (x : Open) × In x os × (x.entries ≡ entries))
        → (x : Open) × In x (o ∷ os) × (x.entries ≡ entries)
    go true here later = (o, inl refl, cc here)
    go false other later = let (x, j, same) = later other in (x, inr j, same)

opened_in : (p : Part) (i : ℕ) (entries : List Entry) → opened_at p i ≡ Some entries → (o : Open) × In o p.opened × (o.entries ≡ entries)
opened_in p i entries at = opened_row p.opened i entries at

changed_here : (p : Part) (i : ℕ) (digest : Digest) (entries : List Entry) → slot_here p i ≡ Some (Changed digest entries) → opened_at p i ≡ Some entries
changed_here p i digest entries at = go (opened_at p i) (digest_at p.table i) at
  where
    go : (o : Option (List Entry)) (d : Option Digest) → option_map (slot_of o) d ≡ Some (Changed digest entries) → o ≡ Some entries
    go None None e = absurd (cc e)
    go None (Some d) e = absurd (cc e)
    go (Some es) None e = absurd (cc e)
    go (Some es) (Some d) e = let same : es ≡ entries = cc e in ap (λ (x : List Entry). Some x) same

module _ (texts : List Bytes) (apart : NoneCollide texts texts) (reads : Reading) (agrees : Agrees (told_by_texts texts) reads) (users : Table) (v : View) where
  module _ (blocks : Blocks) (among : AreAmong texts blocks) (s : Stored) (st : IsStored blocks v s) (inside : (t : Bytes) → In t s.texts → In t texts) (old : IsWhole texts s.principal (handle_of v s.principal)) where
    by_blocks : Agrees blocks reads
    by_blocks = agrees_within blocks (told_by_texts texts) (are_within texts apart blocks among) reads agrees

    changed_in : (t : Bytes) → In t (changed_texts blocks st.part.before st.part.table st.part.opened) → In t texts
    changed_in t i =
        let changed = changed_texts blocks st.part.before st.part.table st.part.opened in
        let principals = principals_texts blocks st.part.before s.principal v.table in
        inside t (subst (λ (ts : List Bytes). In t ts) (sym st.stored) (in-left t (changed ++ principals) (new_texts st.part.before st.table) (in-left t changed principals i)))

    -- the texts of a directory that changed are among the texts, whether they are new or were held
    directory_in : (o : Open) → In o st.part.opened → (t : Bytes) → In t (directory_texts o.entries) → In t texts
    unfolding changed_texts
    directory_in o i t j = go (is_stored blocks st.part.before st.part.table o) refl
      where
        go : (b : Bool) → is_stored blocks st.part.before st.part.table o ≡ b → In t texts
        go true had =
            let all = (and_parts (has_digest st.part.before o.i_number (directory_digest o.entries) || has_digest st.part.table o.i_number (directory_digest o.entries)) (list_all (holds blocks) (directory_texts o.entries)) had).1 in
            held_in texts blocks among t (all_in (holds blocks) (directory_texts o.entries) all t j)
        go false new =
            changed_in t
            (flat_map-in (λ (x : Open). if is_stored blocks st.part.before st.part.table x then [] else directory_texts x.entries) st.part.opened o t i
            (subst (λ (b : Bool). In t (if b then [] else directory_texts o.entries)) (sym new) j))

    reads_changed : ReadsChanged reads st.part
    reads_changed i digest entries at =
        let (o, j, same) = opened_in st.part i entries (changed_here st.part i digest entries at) in
        let held : All (IsHeld (told_by_texts texts)) (directory_texts entries) =
        to_all (IsHeld (told_by_texts texts)) (directory_texts entries)
        (λ t k. all_held texts apart t (directory_in o j t (subst (λ (es : List Entry). In t (directory_texts es)) (sym same) k))) in
        (st.read_back i digest entries at).reads (told_by_texts texts) reads agrees held

    -- what the new handle names at an i-number is what was stored there
    stored_names : (i : ℕ) → reads.inode s.principal s.handle i ≡ stored_at reads (handle_of v s.principal) st.table i
    stored_names i = go (loaded st.table i) refl
      where
        go : (b : Bool) → loaded st.table i ≡ b → reads.inode s.principal s.handle i ≡ (if b then digest_at st.table i else reads.inode st.table.principal (handle_of v s.principal) i)
        go true here = agrees.inodes s.principal s.handle i (digest_at st.table i) (told_after texts apart blocks among v s st inside old i here)
        go false other =
            let (d, is) = told texts apart s.principal (handle_of v s.principal) old i in
            agrees.inodes s.principal s.handle i d (told_unloaded texts apart blocks among v s st inside old i other ∙ is) ∙ sym (agrees.inodes s.principal (handle_of v s.principal) i d is)
            ∙ ap (λ (p : Principal). reads.inode p (handle_of v s.principal) i) (sym st.principal)

    pub made_names : Names reads s.principal s.handle (tree reads users v)
    made_names i other =
        ap (option_map reads.content) (stored_names i) ∙ st.world reads by_blocks users reads_changed i other

  -- the part of a principal after the operation is what its handle names, whether it has changes of it or not
  pub part_names : (blocks : Blocks) (s : Stored) → AreAmong texts blocks → (IsStored blocks v s ⊎ IsUntouched v s) → ((t : Bytes) → In t s.texts → In t texts) → IsWhole texts s.principal (handle_of v s.principal) → Names reads s.principal s.handle (tree reads users v)
  part_names blocks s among (inl st) inside old = made_names blocks among s st inside old
  part_names blocks s among (inr u) inside old = λ i other.
      ap (λ (h : Handle). option_map reads.content (reads.inode s.principal h i)) u.named
      ∙ sym (untouched_tree reads users v s.principal i u.untouched ∙ ap (λ (b : Bool). if b then Some (Principals users) else option_map reads.content (reads.inode s.principal (handle_of v s.principal) i)) other)
