-- A block that is asked for is among these texts, and is what its place takes, where all that a handle names is among
-- them: the i-table, the i-node of each digest in it, and the blocks of that.
use Rattle.std.proofs.Common.{◌≡◌, ℕ, zero, suc, ◌+◌, ◌<◌, ◌≤◌, Bool, true, false, ◌==◌, ◌&&◌, List, [], ◌∷◌, ◌++◌, length, map, take, Option, Some, None, Ok, IsSome, IsSomeAnd, refl, sym, ap, ◌∙◌, subst, inl, inr, if◌then◌else◌, option_map, arith}
use Rattle.std.specs.Prelude.{◌||◌, not, is_some, nat_lt, slice_get}
use Rattle.std.specs.List.{concat, list_any}
use Rattle.std.specs.Option.{option_and_then, option_map_or}
use Rattle.std.specs.Ordering.{is_eq, nat_cmp}
use Rattle.std.specs.Result.{result_ok}
use Rattle.std.proofs.lemmas.Bool.{and_parts, cases_lt, eq-eqb, eqb-true, lt-ltb, ltb-false}
use Rattle.std.proofs.lemmas.Bool.Decides.{nat_tests}
use Rattle.std.proofs.lemmas.List.{append-nil, append_assoc, take-map}
use Rattle.std.proofs.lemmas.Option.{slice_get-map, slice_get_within}
use Rattle.layout.specs.Ascending.{row_at}
use Rattle.layout.specs.Format.{Format, whole}
use Rattle.layout.specs.Hash.{hash}
use Rattle.layout.specs.Laws.{whole_again}
use Rattle.layout.specs.Types.{Bytes, Digest, Handle, INumber, Principal}
use Rattle.itable.specs.declared.chunk.Pair.{Pair}
use Rattle.itable.specs.declared.inode.Kind.{Kind}
use Rattle.itable.specs.declared.inode.Kind.TheVariants as kinds
use Rattle.itable.specs.declared.root.ListedChunk.{ListedChunk}
use Rattle.itable.specs.File.{NoneCollide}
use Rattle.itable.specs.Chunk.{chunk, chunk_number, i_number_of}
use Rattle.itable.specs.ChunkLaws.{lawful_chunk}
use Rattle.itable.specs.Inode.{Inode, block_count, inode}
use Rattle.itable.specs.ITable.{root_of, root_text}
use Rattle.itable.specs.Root.{Root, chunk_at, number_of}
use Rattle.itable.proofs.RootLaws.{root_reads}
use Rattle.directory.specs.Directory.{directory}
use Rattle.principals.specs.TableText.{table}
use Rattle.update_cert.specs.World.{is_table}
use Rattle.tree_parts.specs.Blocks.{Blocks, inode_at, inode_told, joined, of_size, root_at, told_by}
use Rattle.tree_parts.specs.Spot.{completes, is_block_of, is_of_file, size_of_block, takes, takes_block, takes_chunk, takes_file_block, takes_root, takes_table_block}
use Rattle.tree_parts.specs.Asked.{IsBlock, IsBlockOf, IsBlockAfterHeld, IsChunkFor, IsInode, IsOfPrincipals, IsRoot}
use Rattle.tree_parts.specs.declared.spot.Spot.{Spot}
use Rattle.tree_parts.specs.declared.spot.Spot.TheVariants as spot
use Rattle.tree_parts.proofs.ReadingLaws.{after_is_block_of}
use Rattle.client_tree.specs.Principals.{IsOfNamed}
use Rattle.agreement.proofs.Members.{In, contains_in}
use Rattle.fork_consistency.specs.Handles.{HasChunk, IsWhole, told_by_texts}
use Rattle.fork_consistency.proofs.Among.{AreAmong, all_held, are_within, found, inode_within, joined_within, root_within, told_within}
use Rattle.fork_consistency.proofs.Chunks.{none_far, some_is}
use Rattle.fork_consistency.proofs.Whole.{named_under, told_listed, top_at}

-- ---- what is among the texts

-- One of the texts has this digest, and is what the place takes.
pub record IsServed (texts : List Bytes) (blocks : Blocks) (digest : Digest) (s : Spot) : Type 0 where
  pub text : Bytes
  pub there : In text texts
  pub named : hash text ≡ digest
  pub taken : takes blocks s text ≡ true

-- The digest is that of an i-node whose text is among these, as are its blocks, each of its size.
pub record IsLaidOut (texts : List Bytes) (digest : Digest) : Type 0 where
  pub text : Bytes
  pub there : In text texts
  pub named : hash text ≡ digest
  pub node : Inode
  pub reads : whole inode text ≡ Ok node
  pub blocks : List Bytes
  pub inside : (t : Bytes) → In t blocks → In t texts
  pub digests : node.blocks ≡ map hash blocks
  pub count : length blocks ≡ block_count node.size
  pub sizes : (k : ℕ) (t : Bytes) → slice_get blocks k ≡ Some t → length t ≡ size_of_block node.size k

-- its blocks spell a text of its size in a format
abbrev pub Spells : {T : Type 0} → Format T → (texts : List Bytes) (digest : Digest) → IsLaidOut texts digest → Type 0
Spells f texts digest laid = is_some (of_size f laid.node.size (concat laid.blocks)) ≡ true

-- The digest is that of a file or a directory all of whose texts are among these.
pub record IsContent (texts : List Bytes) (digest : Digest) : Type 0 where
  pub laid : IsLaidOut texts digest
  pub spells : laid.node.kind ≡ kinds.Directory → Spells directory texts digest laid

-- The digest is that of the file of a table of principals all of whose texts are among these.
pub record IsTableFile (texts : List Bytes) (digest : Digest) : Type 0 where
  pub laid : IsLaidOut texts digest
  pub of_file : laid.node.kind ≡ kinds.File
  pub positive : 0 < laid.node.size
  pub spells : Spells table texts digest laid

-- All that a handle names is among the texts: the i-table, and what each digest in it is of; at the place of the table of
-- principals that is one.
pub record IsFilled (texts : List Bytes) (p : Principal) (handle : Handle) : Type 0 where
  pub all : IsWhole texts p handle
  pub contents : (i : INumber) (d : Digest) → inode_told (told_by_texts texts) p handle i ≡ Some (Some d) → is_table p i ≡ false → IsContent texts d
  pub users : p ≡ 0 → (d : Digest) × (inode_told (told_by_texts texts) p handle 1 ≡ Some (Some d)) × IsTableFile texts d

-- ---- lists

-- one of the rows has the key at which one is found
row_any : {T : Type 0} (key : T → ℕ) (xs : List T) (k : ℕ) (x : T) → row_at nat_cmp key xs k ≡ Some x → list_any (λ y. key y == k) xs ≡ true
row_any key [] k x e = absurd (cc e)
row_any {T} key (y ∷ ys) k x e = go (is_eq (nat_cmp (key y) k)) refl (row_any key ys k x) e
  where
    same : is_eq (nat_cmp (key y) k) ≡ true → (key y == k) ≡ true
    same is = grind (arith, nat_tests)

    go : (b : Bool) → is_eq (nat_cmp (key y) k) ≡ b → (row_at nat_cmp key ys k ≡ Some x → list_any (λ z. key z == k) ys ≡ true) → (if b then Some y else row_at nat_cmp key ys k) ≡ Some x → ((key y == k) || list_any (λ z. key z == k) ys) ≡ true
    go true is ih at = rw (same is) refl
    go false is ih at = either (key y == k) (ih at)
      where
        either : (b : Bool) → list_any (λ z. key z == k) ys ≡ true → (b || list_any (λ z. key z == k) ys) ≡ true
        either true is = refl
        either false is = is

-- the last of the texts comes behind the others
last_block : (bs : List Bytes) (k : ℕ) (b : Bytes) → slice_get bs k ≡ Some b → length bs ≤ k + 1 → concat (take k bs) ++ b ≡ concat bs
last_block [] k b at long = absurd (cc at)
last_block (x ∷ []) zero b at long = let one : x ≡ b = cc at in sym one ∙ sym (append-nil x)
last_block (x ∷ y ∷ bs) zero b at long = absurd (omega (arith, long))
last_block (x ∷ bs) (suc k) b at long = append_assoc x (concat (take k bs)) b ∙ ap (λ (rest : Bytes). x ++ rest) (last_block bs k b at (omega (arith, long)))

-- what stands at a place of a list, or among the first of it, is of the list
in_at : {A : Type 0} (xs : List A) (k : ℕ) (x : A) → slice_get xs k ≡ Some x → In x xs
in_at [] k x at = absurd (cc at)
in_at (y ∷ ys) zero x at = let one : y ≡ x = cc at in inl (sym one)
in_at (y ∷ ys) (suc k) x at = inr (in_at ys k x at)

pub in_front : {A : Type 0} (xs : List A) (k : ℕ) (x : A) → In x (take k xs) → In x xs
in_front [] zero x i = absurd i
in_front [] (suc k) x i = absurd i
in_front (y ∷ ys) zero x i = absurd i
in_front (y ∷ ys) (suc k) x (inl e) = inl e
in_front (y ∷ ys) (suc k) x (inr i) = inr (in_front ys k x i)

pub both_true : (a b : Bool) → a ≡ true → b ≡ true → (a && b) ≡ true
both_true a b is also = rw (is, also) refl

some_at : {A : Type 0} (o : Option A) → IsSome o → (x : A) × (o ≡ Some x)
some_at None some = absurd (cc some)
some_at (Some x) some = (x, refl)

some_and : {A : Type 0} (o : Option A) (P : A → Type 0) → IsSomeAnd o P → (x : A) × (o ≡ Some x) × P x
some_and None P h = absurd h
some_and (Some x) P h = (x, refl, h)

module _ (texts : List Bytes) (apart : NoneCollide texts texts) (blocks : Blocks) (among : AreAmong texts blocks) where
  abbrev pub all : Blocks
  all = told_by_texts texts

  -- ---- blocks of an i-node

  joined_named : (bs : List Bytes) → ((t : Bytes) → In t bs → In t texts) → joined all (map hash bs) ≡ Some (concat bs)
  unfolding joined
  joined_named [] inside = refl
  joined_named (b ∷ bs) inside = rw (all_held texts apart b (inside b (inl refl))) (ap (option_map (λ (rest : Bytes). b ++ rest)) (joined_named bs (λ t i. inside t (inr i))))

  module _ (digest : Digest) (laid : IsLaidOut texts digest) where
    -- the i-node that the blocks have of this digest
    node_is : (n : Inode) → inode_at blocks digest ≡ Some n → n ≡ laid.node
    node_is n at =
        let there : all digest ≡ Some laid.text = found texts apart laid.text digest laid.there laid.named in
        let of : inode_at all digest ≡ Some laid.node = ap (option_and_then (λ text. result_ok (whole inode text))) there ∙ ap result_ok laid.reads in
        some_is (sym (inode_within blocks all (are_within texts apart blocks among) digest n at) ∙ of)

    -- its k-th block
    pub record IsAt (k : ℕ) (d : Digest) : Type 0 where
      pub text : Bytes
      pub at : slice_get laid.blocks k ≡ Some text
      pub named : hash text ≡ d

    at_place : (k : ℕ) (d : Digest) → slice_get laid.node.blocks k ≡ Some d → IsAt k d
    at_place k d at = go (slice_get laid.blocks k) refl (sym (slice_get-map hash laid.blocks k) ∙ sym (ap (λ (ds : List Digest). slice_get ds k) laid.digests) ∙ at)
      where
        go : (o : Option Bytes) → slice_get laid.blocks k ≡ o → option_map hash o ≡ Some d → IsAt k d
        go None none e = absurd (cc e)
        go (Some t) is e = record { text = t; at = is; named = some_is e }

    -- the blocks before it, where they are held
    before_is : (k : ℕ) (bytes : Bytes) → joined blocks (take k laid.node.blocks) ≡ Some bytes → bytes ≡ concat (take k laid.blocks)
    before_is k bytes is =
        let same : take k laid.node.blocks ≡ map hash (take k laid.blocks) = ap (take k) laid.digests ∙ take-map hash k laid.blocks in
        some_is (sym (joined_within blocks all (are_within texts apart blocks among) (take k laid.node.blocks) bytes is)
        ∙ ap (joined all) same ∙ joined_named (take k laid.blocks) (λ t i. laid.inside t (in_front laid.blocks k t i)))

    within_count : (k : ℕ) (text : Bytes) → slice_get laid.blocks k ≡ Some text → nat_lt k (block_count laid.node.size) ≡ true
    within_count k text at = lt-ltb k (block_count laid.node.size) (let inside = slice_get_within laid.blocks k text at in omega (arith, inside, laid.count))

    -- a block of a text in a format is one
    is_block : {T : Type 0} (f : Format T) → Spells f texts digest laid → (k : ℕ) (text before : Bytes) → slice_get laid.blocks k ≡ Some text → joined blocks (take k laid.node.blocks) ≡ Some before → is_block_of f blocks k text laid.node ≡ true
    is_block f spells k text before at so_far =
        let low = within_count k text at in
        let long = laid.sizes k text at in
        rw (low, eq-eqb (length text) (size_of_block laid.node.size k) long) (last (nat_lt (k + 1) (block_count laid.node.size)) refl)
      where
        last : (b : Bool) → nat_lt (k + 1) (block_count laid.node.size) ≡ b → (b || completes f blocks laid.node k text) ≡ true
        last true is = refl
        last false is =
            let least : length laid.blocks ≤ k + 1 = (let none : nat_lt (k + 1) (block_count laid.node.size) ≡ false = is in let high = ltb-false (k + 1) (block_count laid.node.size) none in omega (arith, high, laid.count)) in
            let whole_text : before ++ text ≡ concat laid.blocks = ap (λ (x : Bytes). x ++ text) (before_is k before so_far) ∙ last_block laid.blocks k text at least in
            ap (λ (o : Option Bytes). option_map_or (λ x. is_some (of_size f laid.node.size (x ++ text))) o false) so_far
            ∙ ap (λ (x : Bytes). is_some (of_size f laid.node.size x)) whole_text ∙ spells

    -- the i-node takes its place
    pub serve_inode : (p : Principal) (i : INumber) → is_table p i ≡ false → (d : Digest) (s : Spot) → IsInode p i digest d s → IsServed texts blocks d s
    unfolding takes
    serve_inode p i other d s is = record {
      text = laid.text;
      there = laid.there;
      named = laid.named ∙ sym is.0;
      taken = ap (λ (x : Spot). takes blocks x laid.text) is.1 ∙ (rw (laid.reads, other) refl);
    }

    -- the blocks before one, as far as they are held
    front : (k : ℕ) (n : Inode) → inode_at blocks digest ≡ Some n → IsSome (joined blocks (take k n.blocks)) → (bytes : Bytes) × (joined blocks (take k laid.node.blocks) ≡ Some bytes)
    front k n at held =
        let b = some_at (joined blocks (take k n.blocks)) held in
        (b.0, ap (λ (m : Inode). joined blocks (take k m.blocks)) (sym (node_is n at)) ∙ b.1)

    module _ (kind : Kind) (k : ℕ) (d : Digest) (is : IsBlockOf blocks kind digest k d) where
      at_node : (n : Inode) × (inode_at blocks digest ≡ Some n) × ((n.kind ≡ kind) × (slice_get n.blocks k ≡ Some d) × (kind ≡ kinds.Directory → IsSome (joined blocks (take k n.blocks))))
      at_node = some_and (inode_at blocks digest) (λ n. (n.kind ≡ kind) × (slice_get n.blocks k ≡ Some d) × (kind ≡ kinds.Directory → IsSome (joined blocks (take k n.blocks)))) is

      pub held_node : inode_at blocks digest ≡ Some laid.node
      held_node = at_node.1 ∙ ap (λ (n : Inode). Some n) (node_is at_node.0 at_node.1)

      pub kind_is : laid.node.kind ≡ kind
      kind_is = ap (λ (n : Inode). n.kind) (sym (node_is at_node.0 at_node.1)) ∙ at_node.2.0

      pub block_is : IsAt k d
      block_is = at_place k d (ap (λ (n : Inode). slice_get n.blocks k) (sym (node_is at_node.0 at_node.1)) ∙ at_node.2.1)

      pub before : kind ≡ kinds.Directory → (bytes : Bytes) × (joined blocks (take k laid.node.blocks) ≡ Some bytes)
      before of = front k at_node.0 at_node.1 (at_node.2.2 of)

    -- a block of a file takes its place
    serve_file_block : (k : ℕ) (d : Digest) → IsBlockOf blocks kinds.File digest k d → IsServed texts blocks d (spot.File digest k)
    unfolding takes
    serve_file_block k d is =
        let b = block_is kinds.File k d is in
        record {
          text = b.text;
          there = laid.inside b.text (in_at laid.blocks k b.text b.at);
          named = b.named;
          taken =
              ap (λ (o : Option Inode). option_map_or (takes_file_block k b.text) o false) (held_node kinds.File k d is)
              ∙ both_true (is_of_file laid.node.kind) _ (ap is_of_file (kind_is kinds.File k d is))
              (both_true (nat_lt k (block_count laid.node.size)) _ (within_count k b.text b.at) (eq-eqb (length b.text) (size_of_block laid.node.size k) (laid.sizes k b.text b.at)));
        }

    -- so does one of a directory, and of the table of principals
    serve_directory_block : (laid.node.kind ≡ kinds.Directory → Spells directory texts digest laid) → (k : ℕ) (d : Digest) → IsBlockOf blocks kinds.Directory digest k d → IsServed texts blocks d (spot.Directory digest k)
    unfolding takes
    serve_directory_block spells k d is =
        let b = block_is kinds.Directory k d is in
        let so_far = before kinds.Directory k d is refl in
        record {
          text = b.text;
          there = laid.inside b.text (in_at laid.blocks k b.text b.at);
          named = b.named;
          taken =
              ap (λ (o : Option Inode). option_map_or (takes_block blocks k b.text) o false) (held_node kinds.Directory k d is)
              ∙ both_true (not (is_of_file laid.node.kind)) _ (ap (λ (x : Kind). not (is_of_file x)) (kind_is kinds.Directory k d is)) (is_block directory (spells (kind_is kinds.Directory k d is)) k b.text so_far.0 b.at so_far.1);
        }

    serve_table_block : Spells table texts digest laid → (k : ℕ) (d : Digest) → IsBlockAfterHeld blocks kinds.File digest k d → IsServed texts blocks d (spot.Table digest k)
    unfolding takes
    serve_table_block spells k d next =
        let is = after_is_block_of blocks kinds.File digest k d next in
        let b = block_is kinds.File k d is in
        let node = some_and (inode_at blocks digest) (λ n. (n.kind ≡ kinds.File) × (slice_get n.blocks k ≡ Some d) × IsSome (joined blocks (take k n.blocks))) next in
        let so_far = front k node.0 node.1 node.2.2 in
        record {
          text = b.text;
          there = laid.inside b.text (in_at laid.blocks k b.text b.at);
          named = b.named;
          taken =
              ap (λ (o : Option Inode). option_map_or (takes_table_block blocks k b.text) o false) (held_node kinds.File k d is)
              ∙ both_true (is_of_file laid.node.kind) _ (ap is_of_file (kind_is kinds.File k d is)) (is_block table spells k b.text so_far.0 b.at so_far.1);
        }

  -- ---- contents

  -- a block of a content takes its place
  pub serve_block : (kind : Kind) (inode digest : Digest) (s : Spot) → IsContent texts inode → IsBlock blocks kind inode digest s → IsServed texts blocks digest s
  serve_block kinds.File inode digest s c is = subst (IsServed texts blocks digest) (sym is.1) (serve_file_block inode c.laid is.0 digest is.2)
  serve_block kinds.Directory inode digest s c is = subst (IsServed texts blocks digest) (sym is.1) (serve_directory_block inode c.laid c.spells is.0 digest is.2)

  -- so does all of the table of principals
  pub serve_users : (inode digest : Digest) (s : Spot) → IsTableFile texts inode → IsOfPrincipals blocks inode digest s → IsServed texts blocks digest s
  unfolding takes
  serve_users inode digest s c (inl is) = record {
    text = c.laid.text;
    there = c.laid.there;
    named = c.laid.named ∙ sym is.0;
    taken = ap (λ (x : Spot). takes blocks x c.laid.text) is.1 ∙ (rw (c.laid.reads, c.of_file, lt-ltb 0 c.laid.node.size c.positive) refl);
  }
  serve_users inode digest s c (inr is) = subst (IsServed texts blocks digest) (sym is.1) (serve_table_block inode c.laid c.spells is.0 digest is.2)

  -- ---- i-tables

  module _ (p : Principal) (h : Handle) (w : IsFilled texts p h) where
    -- user 0's root lists chunk 0, which has i-number 1
    pub record HasUsers : Type 0 where
      pub digest : Digest
      pub listed : ListedChunk
      pub at : chunk_at (root_of w.all.table) 0 ≡ Some listed
      pub told : inode_told all p h 1 ≡ Some (Some digest)

    has_users : p ≡ 0 → HasUsers
    has_users superuser =
        let users = w.users superuser in
        go users.0 users.1 (chunk_at (root_of w.all.table) 0) refl
      where
        go : (d : Digest) → inode_told all p h 1 ≡ Some (Some d) → (o : Option ListedChunk) → chunk_at (root_of w.all.table) 0 ≡ o → HasUsers
        go d told None at =
            let none : inode_told all p h 1 ≡ Some None = named_under texts apart p h w.all 1 ∙ ap (told_by all 1) at in
            let clash : None ≡ Some d = some_is (sym none ∙ told) in
            absurd (cc clash)
        go d told (Some c) at = record { digest = d; listed = c; at = at; told = told }

    -- the root takes its place
    pub serve_root : (digest : Digest) (s : Spot) → IsRoot p h digest s → IsServed texts blocks digest s
    unfolding takes
    serve_root digest s is = record {
      text = root_text w.all.table;
      there = contains_in (root_text w.all.table) texts w.all.root;
      named = sym w.all.named ∙ sym is.0;
      taken =
          ap (λ (x : Spot). takes blocks x (root_text w.all.table)) is.1
          ∙ ap (λ o. option_map_or (takes_root p) (result_ok o) false) (root_reads w.all.table w.all.is_table)
          ∙ (rw (eq-eqb w.all.table.principal p w.all.principal) (lists_users (p == 0) refl));
    }
      where
        lists_users : (b : Bool) → (p == 0) ≡ b → (not b || list_any (λ c. c.number == 0) (root_of w.all.table).chunks) ≡ true
        lists_users false is = refl
        lists_users true is = let u = has_users (eqb-true p 0 is) in row_any number_of (root_of w.all.table).chunks 0 u.listed u.at

    -- a chunk that it lists does
    served_chunk : (i : INumber) (c : ListedChunk) → chunk_at (root_of w.all.table) (chunk_number i) ≡ Some c → (x : HasChunk texts (chunk_number i) c.digest) → IsServed texts blocks c.digest (spot.Chunk p (chunk_number i))
    unfolding takes
    served_chunk i c at x = record {
      text = chunk.spell x.one;
      there = contains_in (chunk.spell x.one) texts x.there;
      named = sym x.named;
      taken =
          ap (λ o. option_map_or (takes_chunk p (chunk_number i)) (result_ok o) false) (whole_again chunk lawful_chunk x.one x.fits)
          ∙ (rw (eq-eqb x.one.number (chunk_number i) x.number) (has_one ((p == 0) && (chunk_number i == 0)) refl));
    }
      where
        any_of : (d : Digest) (o : Option Pair) → row_at nat_cmp i_number_of x.one.pairs 1 ≡ o → option_map (λ (y : Pair). y.digest) o ≡ Some d → list_any (λ y. y.i_number == 1) x.one.pairs ≡ true
        any_of d None none e = absurd (cc e)
        any_of d (Some y) is e = row_any i_number_of x.one.pairs 1 y is

        has_one : (b : Bool) → ((p == 0) && (chunk_number i == 0)) ≡ b → (not b || list_any (λ y. y.i_number == 1) x.one.pairs) ≡ true
        has_one false is = refl
        has_one true is =
            let both = and_parts (p == 0) (chunk_number i == 0) is in
            let u = has_users (eqb-true p 0 both.0) in
            let zero : chunk_number i ≡ 0 = eqb-true (chunk_number i) 0 both.1 in
            let at_zero : chunk_at (root_of w.all.table) 0 ≡ Some c = ap (chunk_at (root_of w.all.table)) (sym zero) ∙ at in
            let x_zero : HasChunk texts 0 c.digest = record { one = x.one; fits = x.fits; number = x.number ∙ zero; there = x.there; named = x.named } in
            any_of u.digest (row_at nat_cmp i_number_of x.one.pairs 1) refl (some_is (sym (told_listed texts apart p h w.all 1 c at_zero x_zero) ∙ u.told))

    pub serve_chunk : (i : INumber) (digest : Digest) (s : Spot) → IsChunkFor blocks p h i digest s → IsServed texts blocks digest s
    serve_chunk i digest s (inl is) = serve_root digest s is
    serve_chunk i digest s (inr is) =
        let r = some_and (root_at blocks h) (λ r. option_map (λ c. c.digest) (chunk_at r (chunk_number i)) ≡ Some digest) is.2 in
        let there : root_at all h ≡ Some (root_of w.all.table) = ap (root_at all) w.all.named ∙ top_at texts apart w.all.table w.all.is_table w.all.root in
        let same : r.0 ≡ root_of w.all.table = some_is (sym (root_within blocks all (are_within texts apart blocks among) h r.0 r.1) ∙ there) in
        go (chunk_at (root_of w.all.table) (chunk_number i)) refl (ap (λ (x : Root). option_map (λ c. c.digest) (chunk_at x (chunk_number i))) (sym same) ∙ r.2)
      where
        go : (o : Option ListedChunk) → chunk_at (root_of w.all.table) (chunk_number i) ≡ o → option_map (λ c. c.digest) o ≡ Some digest → IsServed texts blocks digest s
        go None at e = absurd (cc e)
        go (Some c) at e = elim (cases_lt (chunk_number i) 64) [
          | inl small ↦ subst (λ (d : Digest). IsServed texts blocks d s) (some_is e) (subst (IsServed texts blocks c.digest) (sym is.0) (served_chunk i c at (w.all.chunks (chunk_number i) c small at)))
          | inr far ↦ absurd (cc (sym at ∙ none_far w.all.table w.all.is_table (chunk_number i) far))
        ]

    -- what is told by the blocks that are held is told by all
    pub content_told : (i : INumber) (d : Digest) → inode_told blocks p h i ≡ Some (Some d) → is_table p i ≡ false → IsContent texts d
    content_told i d told other = w.contents i d (told_within blocks all (are_within texts apart blocks among) p h i (Some d) told) other

  -- all by which the table of principals is read takes its place
  pub serve_named : (h : Handle) → IsFilled texts 0 h → (digest : Digest) (s : Spot) → IsOfNamed blocks h digest s → IsServed texts blocks digest s
  serve_named h w digest s (inl is) = serve_chunk 0 h w 1 digest s is
  serve_named h w digest s (inr (inode, has, told, of)) =
      let users = w.users refl in
      let same : users.0 ≡ inode = some_is (some_is (sym users.1 ∙ told_within blocks all (are_within texts apart blocks among) 0 h 1 (Some inode) told)) in
      serve_users inode digest s (subst (IsTableFile texts) same users.2) of
