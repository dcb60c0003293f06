-- The file of the table comes last, and only where it is another one.
use Rattle.std.proofs.Common.{◌≡◌, Bool, true, false, ℕ, List, [], ◌∷◌, Some, sym, ap, ◌∙◌, map, append_assoc, Vec, rules}
use Rattle.std.proofs.lemmas.List.{append-nil, map-append}
use Rattle.std.specs.Prelude.{◌++◌, ◌==◌, ◌&&◌, if◌then◌else◌}
use Rattle.std.specs.List.{list_all}
use Rattle.std.specs.Vec.{vec_items}
use Rattle.layout.specs.Hash.{hash}
use Rattle.layout.specs.Types.{Bytes, Digest}
use Rattle.itable.specs.File.{inode_of}
use Rattle.itable.specs.Inode.{inode}
use Rattle.itable.specs.ITable.{ITable, digest_at, loaded}
use Rattle.principals.specs.Table.{Table}
use Rattle.principals.specs.TableText.{table as table_format}
use Rattle.tree_parts.specs.Blocks.{Blocks}
use Rattle.tree_parts.specs.Slots.{has_digest, holds}
use Rattle.client_tree.specs.Tree.{file_of_principals, has_principals, principals_digest, principals_texts}
use Rattle.client_tree.proofs.tree.with_principals.Goals.{then-not-stored+in_ok-append+in_ok-push, else-not-stored}
use Rattle.client_tree.proofs.tree.with_principals.Goals as goal

-- the blocks of a file and its i-node after other texts
file_last : {A : Type 0} (old blocks new : List (Vec ℕ A)) (last : Vec ℕ A) (file : List Bytes) (node : Bytes) → map vec_items blocks ≡ file → last.items ≡ node → new ≡ (old ++ blocks) ++ last ∷ []
    → map vec_items new ≡ map vec_items old ++ (file ++ node ∷ [])
file_last old blocks new last file node are is news =
    ap (map vec_items) news
    ∙ map-append vec_items (old ++ blocks) (last ∷ [])
    ∙ ap (λ (x : List Bytes). x ++ last.items ∷ []) (map-append vec_items old blocks ∙ ap (λ (x : List Bytes). map vec_items old ++ x) are)
    ∙ ap (λ (x : Bytes). (map vec_items old ++ file) ++ x ∷ []) is
    ∙ append_assoc (map vec_items old) file (node ∷ [])

with_texts : (blocks : Blocks) (before : ITable) (users : Table) (has : Bool) (old new : List Bytes) → has_principals blocks before users ≡ has
    → new ≡ (if has then old else old ++ file_of_principals users) → new ≡ old ++ principals_texts blocks before 0 users
with_texts blocks before users true old new is news = rw is (news ∙ sym (append-nil old))
with_texts blocks before users false old new is news = rw is news

pub returns-clause-digests : goal.returns-clause-digests
returns-clause-digests g c = λ i.
    let old = c.args.laid.table in
    let d = c.digest.result in
    let is : d ≡ principals_digest c.args.users.now = c.digest.ensures.hash ∙ ap hash (c.deref.ensures.value ∙ c.in_ok-file.ensures.inode) in
    c.in_ok-set.ensures.digests i
    ∙ ap (λ (n : ℕ). if n == i then Some d else digest_at old i) c.table-2.ensures
    ∙ ap (λ (x : Digest). if 1 == i then Some x else digest_at old i) is

pub returns-clause-texts : goal.returns-clause-texts
returns-clause-texts g c =
    let held = g.B.Blocks.held c.args.blocks.now in
    let before = c.args.laid.before in
    let users = c.args.users.now in
    let old = c.args.laid.texts.items in
    let new = c.if-not-stored.texts.items in
    let blocks = c.in_ok-file.ensures.blocks in
    let node = c.in_ok-file.ensures.inode in
    let told : has_principals held before users ≡ c.has_file-stored.result =
    sym (c.has_file-stored.ensures
    ∙ ap (λ (n : Bytes). has_digest before 1 (hash n) && list_all (holds held) (map vec_items c.in_ok-file.file.blocks.items ++ n ∷ [])) node
    ∙ ap (λ (x : List Bytes). has_digest before 1 (principals_digest users) && list_all (holds held) (x ++ inode.spell (inode_of (table_format.spell users)) ∷ [])) blocks) in
    elim c.if-not-stored.branch [
      | then-not-stored+in_ok-append+in_ok-push w ↦
          let items : new ≡ (old ++ c.in_ok-file.file.blocks.items) ++ c.in_ok-file.file.inode ∷ [] = search rules in
          with_texts held before users false (map vec_items old) (map vec_items new) (told ∙ w.if-not-stored.true)
          (file_last old c.in_ok-file.file.blocks.items new c.in_ok-file.file.inode _ _ blocks node items)
      | else-not-stored w ↦ with_texts held before users true (map vec_items old) (map vec_items new) (told ∙ w.if-not-stored.false) (ap (λ t. map vec_items t.items) w.texts-is)
    ]

pub returns-clause-principal : goal.returns-clause-principal
returns-clause-principal g c = ap (λ t. t.principal) c.in_ok-set.ensures.ok

pub returns-clause-unloaded : goal.returns-clause-unloaded
returns-clause-unloaded g c = ap (λ t. t.unloaded) c.in_ok-set.ensures.ok

pub has_file-stored-requires : goal.has_file-stored-requires
has_file-stored-requires g c = record { loaded = c.requires.before }

pub set-requires : goal.set-requires
set-requires g c = record { loaded = ap (loaded c.args.laid.table) c.table-2.ensures ∙ c.requires.table }
