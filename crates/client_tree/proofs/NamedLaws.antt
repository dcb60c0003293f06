-- User 0's root lists chunk 0, and that has i-number 1, where both are what their places take.
use Rattle.std.proofs.Common.{◌≡◌, ℕ, Bool, true, false, List, [], ◌∷◌, Option, Some, None, Result, Ok, Err, refl, sym, ap, subst, ◌∙◌, inl, inr, arith}
use Rattle.std.specs.Prelude.{◌==◌, ◌||◌, not, filter, IfOk, IsSomeAnd, OnOk, if◌then◌else◌}
use Rattle.std.specs.List.{find, list_any}
use Rattle.std.specs.Option.{option_and_then, option_map, option_map_or}
use Rattle.std.specs.Ordering.{nat_cmp, is_eq}
use Rattle.std.specs.Result.{result_ok}
use Rattle.std.proofs.lemmas.Bool.{and_parts, eqb-true}
use Rattle.std.proofs.lemmas.Bool.Decides.{nat_tests}
use Rattle.layout.specs.Ascending.{row_at}
use Rattle.layout.specs.Format.{whole}
use Rattle.layout.specs.Types.{Digest, Handle}
use Rattle.itable.specs.declared.chunk.Pair.{Pair}
use Rattle.itable.specs.declared.root.ListedChunk.{ListedChunk}
use Rattle.itable.specs.Chunk.{Chunk, chunk}
use Rattle.itable.specs.Root.{Root, root, chunk_at, number_of}
use Rattle.itable.specs.ITable.{digest_in}
use Rattle.tree_parts.specs.Blocks.{Agrees, Blocks, chunk_held, inode_told, root_at}
use Rattle.tree_parts.specs.Spot.{lacks, takes, takes_chunk, takes_root}
use Rattle.tree_parts.specs.declared.spot.Spot.{Spot}
use Rattle.tree_parts.specs.declared.spot.Spot.TheVariants as spot
use Rattle.tree_parts.specs.declared.error.ApplyError.{ApplyError}
use Rattle.tree_parts.specs.declared.error.ApplyError.TheVariants as error
use Rattle.update_cert.specs.World.{Actor, Content, File, Principals, Tree}
use Rattle.update_cert.specs.Reading.{Reading, after_read, void_of_table_read}
use Rattle.tree_parts.specs.Asked.{HasChunkFor, HasPrincipals, IsChunkFor, IsListed, IsOfPrincipals, Lacks}
use Rattle.principals.specs.Table.{Table}
use Rattle.principals.specs.TableText.{table}
use Rattle.client_tree.specs.Principals.{IsNamed, IsOfNamed, IsPending}
use Rattle.client_tree.specs.View.{View, actor_of, after_items, is_superusers, named, tree, tree_before}
use Rattle.client_tree.proofs.OpenedLaws.{superusers}
use Rattle.pending_list.specs.Reply.{PendingItem}
use Rattle.update_cert.specs.Cert.{Cert}
use Rattle.principals.specs.TableTextLaws.{lawful_table}
use Rattle.layout.specs.Laws.{whole_again}
use Rattle.tree_parts.proofs.SomeReading.{some_reading}

-- ---- the row of a key

row_step : {T : Type 0} (x : T) (rest : Option T) (k n : ℕ) (more here : Bool) → (k == n) ≡ here → (here || more) ≡ true → (more ≡ true → (y : T) × (rest ≡ Some y)) → (y : T) × ((if is_eq (nat_cmp k n) then Some x else rest) ≡ Some y)
row_step x rest k n more true is some later =
    let test : is_eq (nat_cmp k n) ≡ true = grind (arith, nat_tests) in
    (x, rw test refl)
row_step x rest k n more false is some later =
    let test : is_eq (nat_cmp k n) ≡ false = grind (arith, nat_tests) in
    let y = later some in
    (y.0, rw test y.1)

has_row : {T : Type 0} (key : T → ℕ) (xs : List T) (n : ℕ) → list_any (λ x. key x == n) xs ≡ true → (y : T) × (row_at nat_cmp key xs n ≡ Some y)
has_row key [] n some = absurd cc
has_row key (x ∷ xs) n some = row_step x (row_at nat_cmp key xs n) (key x) n (list_any (λ y. key y == n) xs) (key x == n) refl some (has_row key xs n)

same_test : (k n : ℕ) (b : Bool) → (k == n) ≡ b → is_eq (nat_cmp k n) ≡ b
same_test k n true is = grind (arith, nat_tests)
same_test k n false is = grind (arith, nat_tests)

key_is : (k n : ℕ) → is_eq (nat_cmp k n) ≡ true → k ≡ n
key_is k n is = grind (arith, nat_tests)

-- the first one of the key
pub first_row : {T : Type 0} (key : T → ℕ) (xs : List T) (n : ℕ) → find (λ x. key x == n) xs ≡ row_at nat_cmp key xs n
first_row key [] n = refl
first_row key (x ∷ xs) n = rw (same_test (key x) n (key x == n) refl, first_row key xs n) refl

key_step : {T : Type 0} (key : T → ℕ) (y : T) (rest : Option T) (n : ℕ) (x : T) (here : Bool) → is_eq (nat_cmp (key y) n) ≡ here → (rest ≡ Some x → key x ≡ n) → (if here then Some y else rest) ≡ Some x → key x ≡ n
key_step key y rest n x true is later found =
    let same : y ≡ x = cc in
    ap key (sym same) ∙ key_is (key y) n is
key_step key y rest n x false is later found = later found

-- and it has that key
pub row_key : {T : Type 0} (key : T → ℕ) (xs : List T) (n : ℕ) (x : T) → row_at nat_cmp key xs n ≡ Some x → key x ≡ n
row_key key [] n x at = absurd cc
row_key key (y ∷ ys) n x at = key_step key y (row_at nat_cmp key ys n) n x (is_eq (nat_cmp (key y) n)) refl (row_key key ys n x) at

-- ---- what a place takes

held_so : (b : Bool) → not b ≡ false → b ≡ true
held_so true is = refl
held_so false is = absurd cc

held_text : (blocks : Blocks) (s : Spot) (held : Option (List ℕ)) → not (option_map_or (takes blocks s) held false) ≡ false → (text : List ℕ) × (held ≡ Some text) × (takes blocks s text ≡ true)
held_text blocks s None is = absurd cc
held_text blocks s (Some text) is = (text, refl, held_so (takes blocks s text) is)

some_taken : {T : Type 0} (test : T → Bool) (found : Option T) → option_map_or test found false ≡ true → (x : T) × (found ≡ Some x) × (test x ≡ true)
some_taken test None is = absurd cc
some_taken test (Some x) is = (x, refl, is)

root_taken : (blocks : Blocks) (text : List ℕ) → takes blocks (spot.Root 0) text ≡ true → (r : Root) × (result_ok (whole root text) ≡ Some r) × (takes_root 0 r ≡ true)
unfolding takes
root_taken blocks text is = some_taken (takes_root 0) (result_ok (whole root text)) is

chunk_taken : (blocks : Blocks) (text : List ℕ) → takes blocks (spot.Chunk 0 0) text ≡ true → (c : Chunk) × (result_ok (whole chunk text) ≡ Some c) × (takes_chunk 0 0 c ≡ true)
unfolding takes
chunk_taken blocks text is = some_taken (takes_chunk 0 0) (result_ok (whole chunk text)) is

-- user 0's root lists chunk 0
root_has : (blocks : Blocks) (handle : Handle) → lacks blocks handle (spot.Root 0) ≡ false → (r : Root) × (c : ListedChunk) × (root_at blocks handle ≡ Some r) × (r.principal ≡ 0) × (chunk_at r 0 ≡ Some c)
root_has blocks handle there =
    let held = held_text blocks (spot.Root 0) (blocks handle) there in
    let read = root_taken blocks held.0 held.2 in
    let r = read.0 in
    let parts = and_parts (r.principal == 0) (list_any (λ c. c.number == 0) r.chunks) read.2 in
    let c = has_row number_of r.chunks 0 parts.1 in
    (r, c.0, ap (option_and_then (λ text. result_ok (whole root text))) held.1 ∙ read.1, eqb-true r.principal 0 parts.0, c.1)

-- and that has i-number 1
chunk_has : (blocks : Blocks) (digest : Digest) → lacks blocks digest (spot.Chunk 0 0) ≡ false → (x : Chunk) × (d : Digest) × (chunk_held blocks digest ≡ Some x) × (digest_in x.pairs 1 ≡ Some d)
chunk_has blocks digest there =
    let held = held_text blocks (spot.Chunk 0 0) (blocks digest) there in
    let read = chunk_taken blocks held.0 held.2 in
    let x = read.0 in
    let parts = and_parts (x.number == 0) (list_any (λ p. p.i_number == 1) x.pairs) read.2 in
    let p = has_row (λ (y : Pair). y.i_number) x.pairs 1 parts.1 in
    (x, p.0.digest, ap (option_and_then (λ text. result_ok (whole chunk text))) held.1 ∙ read.1, ap (option_map (λ (y : Pair). y.digest)) p.1)

-- ---- the chunk that the table is in

same_root : (a b : Root) (found : Option Root) → found ≡ Some a → found ≡ Some b → a ≡ b
same_root a b found first second = let both : Some a ≡ Some b = sym first ∙ second in cc

same_chunk : (a b : Chunk) (found : Option Chunk) → found ≡ Some a → found ≡ Some b → a ≡ b
same_chunk a b found first second = let both : Some a ≡ Some b = sym first ∙ second in cc

none_there : {T : Type 0} (x : T) (found : Option T) → found ≡ Some x → found ≡ None → ⊥
none_there x found some none = let clash : Some x ≡ None = sym some ∙ none in cc

-- a root that its place takes lists chunk 0
pub lists_first : (blocks : Blocks) (handle : Handle) (r : Root) → root_at blocks handle ≡ Some r → lacks blocks handle (spot.Root 0) ≡ false → chunk_at r 0 ≡ None → ⊥
lists_first blocks handle r held there none =
    let (other, c, found, of, at) = root_has blocks handle there in
    let same = same_root other r (root_at blocks handle) found held in
    none_there c (chunk_at r 0) (subst (λ (x : Root). chunk_at x 0 ≡ Some c) same at) none

-- and that chunk, where its place takes it, has i-number 1
pub has_first : (blocks : Blocks) (digest : Digest) (x : Chunk) → chunk_held blocks digest ≡ Some x → lacks blocks digest (spot.Chunk 0 0) ≡ false → digest_in x.pairs 1 ≡ None → ⊥
has_first blocks digest x held there none =
    let (other, d, found, at) = chunk_has blocks digest there in
    let same = same_chunk other x (chunk_held blocks digest) found held in
    none_there d (digest_in x.pairs 1) (subst (λ (y : Chunk). digest_in y.pairs 1 ≡ Some d) same at) none

-- the two of them are all that is asked for to know what stands there
pub has_both : (blocks : Blocks) (handle : Handle) (r : Root) (c : ListedChunk) → root_at blocks handle ≡ Some r → lacks blocks handle (spot.Root 0) ≡ false → chunk_at r 0 ≡ Some c → lacks blocks c.digest (spot.Chunk 0 0) ≡ false → HasChunkFor blocks 0 handle 1
has_both blocks handle r c held there at chunk_there digest s (inl (is, place)) = rw (place, is) there
has_both blocks handle r c held there at chunk_there digest s (inr (place, follows, listed)) =
    let is : option_map (λ y. y.digest) (chunk_at r 0) ≡ Some digest = subst (λ (o : Option Root). IsSomeAnd o (λ x. option_map (λ y. y.digest) (chunk_at x 0) ≡ Some digest)) held listed in
    let both : Some c.digest ≡ Some digest = sym (ap (option_map (λ (y : ListedChunk). y.digest)) at) ∙ is in
    let same : c.digest ≡ digest = cc in
    rw place (subst (λ (d : Digest). lacks blocks d (spot.Chunk 0 0) ≡ false) same chunk_there)

-- ---- the table that a handle names

one_digest : (a b : Digest) (told : Option (Option Digest)) → told ≡ Some (Some a) → told ≡ Some (Some b) → a ≡ b
one_digest a b told first second = let both : Some (Some a) ≡ Some (Some b) = sym first ∙ second in cc

nothing_lacks : (blocks : Blocks) (handle : Handle) (inode : Digest) → HasChunkFor blocks 0 handle 1 → inode_told blocks 0 handle 1 ≡ Some (Some inode) → HasPrincipals blocks inode
    → (digest : Digest) (s : Spot) → IsOfNamed blocks handle digest s → lacks blocks digest s ≡ false
nothing_lacks blocks handle inode first told has digest s (inl of) = first digest s of
nothing_lacks blocks handle inode first told has digest s (inr (found, there, at, of)) =
    has digest s (subst (λ (d : Digest). IsOfPrincipals blocks d digest s) (one_digest found inode (inode_told blocks 0 handle 1) at told) of)

named_is : (blocks : Blocks) (handle : Handle) (inode : Digest) (users : Table) → HasChunkFor blocks 0 handle 1 → inode_told blocks 0 handle 1 ≡ Some (Some inode)
    → table.Fits users → ((reads : Reading) → Agrees blocks reads → reads.content inode ≡ File (table.spell users)) → HasPrincipals blocks inode → IsNamed blocks handle users
named_is blocks handle inode users first told fits content has = record {
  fits = fits;
  file = λ reads agrees. ap (option_map reads.content) (agrees.inodes 0 handle 1 (Some inode) told) ∙ ap (λ (c : Content). Some c) (content reads agrees);
  taken = nothing_lacks blocks handle inode first told has;
}

-- what was read is named so
pub named_read : {E : Type 0} (blocks : Blocks) (handle : Handle) (inode : Digest) (r : Result Table E) → HasChunkFor blocks 0 handle 1 → inode_told blocks 0 handle 1 ≡ Some (Some inode)
    → IfOk r table.Fits → ((reads : Reading) → Agrees blocks reads → IfOk r (λ t. reads.content inode ≡ File (table.spell t))) → OnOk r (HasPrincipals blocks inode) → IfOk r (IsNamed blocks handle)
named_read blocks handle inode (Ok users) first told fits content has = named_is blocks handle inode users first told fits content has
named_read blocks handle inode (Err e) first told fits content has = tt

-- ---- what is missing of it

pub lacks_first_chunk : (blocks : Blocks) (handle : Handle) (r : Root) (c : ListedChunk) (e : ApplyError) → root_at blocks handle ≡ Some r → lacks blocks handle (spot.Root 0) ≡ false → chunk_at r 0 ≡ Some c → c.number ≡ 0 → Lacks blocks (IsListed 0 c) e → Lacks blocks (IsChunkFor blocks 0 handle 1) e
lacks_first_chunk blocks handle r c (error.Missing digest s) held there at first (is, none) =
    let listed : option_map (λ x. x.digest) (chunk_at r 0) ≡ Some digest = ap (option_map (λ (x : ListedChunk). x.digest)) at ∙ ap (λ (d : Digest). Some d) (sym is.0) in
    (inr (is.1 ∙ ap (spot.Chunk 0) first, there, subst (λ (o : Option Root). IsSomeAnd o (λ x. option_map (λ y. y.digest) (chunk_at x 0) ≡ Some digest)) (sym held) listed), none)
lacks_first_chunk blocks handle r c error.Memory held there at first none = tt

pub lacks_chunk : (blocks : Blocks) (handle : Handle) (e : ApplyError) → Lacks blocks (IsChunkFor blocks 0 handle 1) e → Lacks blocks (IsOfNamed blocks handle) e
lacks_chunk blocks handle (error.Missing digest s) (is, none) = (inl is, none)
lacks_chunk blocks handle error.Memory none = tt

-- ---- the table is one

spelled_once : (one other : Table) → table.Fits one → table.Fits other → table.spell one ≡ table.spell other → one ≡ other
spelled_once one other fits also same =
    let both : Ok one ≡ Ok other = sym (whole_again table lawful_table one fits) ∙ ap (whole table) same ∙ whole_again table lawful_table other also in
    cc

same_file : (one other : List ℕ) → Some (File one) ≡ Some (File other) → one ≡ other
same_file one other both = cc

-- blocks tell of one table that a handle names
pub one_named : (blocks : Blocks) (handle : Handle) (one other : Table) → IsNamed blocks handle one → IsNamed blocks handle other → one ≡ other
one_named blocks handle one other is also =
    let some = some_reading blocks in
    spelled_once one other is.fits also.fits (same_file (table.spell one) (table.spell other) (sym (is.file some.0 some.1) ∙ also.file some.0 some.1))

-- what the pending operations make of it is told by what they make of the table alone, whatever the view's table is
pub pending_then : (users : Table) (x : View) (first new : Table) (voids : List ℕ) (cert : Cert) → cert ≡ x.own.cert
    → ((reads : Reading) (t : Table) (tree : Tree) → tree 0 1 ≡ Some (Principals users) → after_items reads t (filter is_superusers x.others) tree 0 1 ≡ Some (Principals first))
    → ((reads : Reading) (tree : Tree) (actor : Actor) → tree 0 1 ≡ Some (Principals first) → actor.user ≡ cert.user → actor.number ≡ cert.number → after_read reads actor cert.changes tree 0 1 ≡ Some (Principals new))
    → ((reads : Reading) (tree : Tree) (actor : Actor) → tree 0 1 ≡ Some (Principals first) → actor.user ≡ cert.user → actor.number ≡ cert.number → voids ≡ void_of_table_read reads actor cert.changes tree)
    → (reads : Reading) → (tree reads users x 0 1 ≡ Some (Principals new)) × (voids ≡ void_of_table_read reads (actor_of x.table x.own) x.own.cert.changes (tree_before reads users x))
pending_then users x first new voids cert same others own void reads =
    let user = ap (λ (k : Cert). k.user) (sym same) in
    let number = ap (λ (k : Cert). k.number) (sym same) in
    let before : tree_before reads users x 0 1 ≡ Some (Principals first) = ap (λ (is : List PendingItem). after_items reads x.table is (named reads users x) 0 1) (superusers x x.others) ∙ others reads x.table (named reads users x) refl in (
      subst (λ (k : Cert). after_read reads (actor_of x.table x.own) k.changes (tree_before reads users x) 0 1 ≡ Some (Principals new)) same (own reads (tree_before reads users x) (actor_of x.table x.own) before user number),
      void reads (tree_before reads users x) (actor_of x.table x.own) before user number ∙ ap (λ (k : Cert). void_of_table_read reads (actor_of x.table x.own) k.changes (tree_before reads users x)) same,
    )

same_principals : (one other : Table) → Some (Principals one) ≡ Some (Principals other) → one ≡ other
same_principals one other both = cc

-- so no other table is the view's
pub one_pending : (users : Table) (x : View) (new : Table) (voids numbers : List ℕ) (reads : Reading) → (tree reads users x 0 1 ≡ Some (Principals new)) × (voids ≡ void_of_table_read reads (actor_of x.table x.own) x.own.cert.changes (tree_before reads users x)) → IsPending users x numbers
    → (x.table ≡ new) × (numbers ≡ voids)
one_pending users x new voids numbers reads (now, void) is = (same_principals x.table new (sym (is.after reads) ∙ now), is.void reads ∙ sym void)
