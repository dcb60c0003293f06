-- A part that stands on a handle, and the chunks that are loaded: what it has at each i-number stays.
use Rattle.std.proofs.Common.{◌≡◌, ◌≢◌, ℕ, ◌<◌, Bool, true, false, List, [], ◌∷◌, Option, Some, None, Result, Ok, Err, refl, sym, ap, subst, ◌∙◌, inl, inr, arith}
use Rattle.std.specs.Prelude.{◌==◌, ◌&&◌, ◌||◌, not, is_some, IsSome, IsSomeAnd, IfOk, OnOk, if◌then◌else◌}
use Rattle.std.specs.List.{All}
use Rattle.std.specs.Option.{option_map}
use Rattle.std.specs.Ordering.{nat_cmp, is_eq}
use Rattle.std.proofs.Math.Bool.{and-false}
use Rattle.std.proofs.lemmas.Bool.{cases_eq, eqb-true, eq-eqb, ne_eqb}
use Rattle.std.proofs.lemmas.Cmp.{nat_cmp_total}
use Rattle.std.proofs.lemmas.List.Elements.{All-head, All-tail}
use Rattle.layout.specs.Ascending.{Ascends, row_at, without_row}
use Rattle.layout.specs.AscendingLaws.{row_at-without_row}
use Rattle.layout.specs.Types.{Digest}
use Rattle.directory.specs.Directory.{Entry}
use Rattle.itable.specs.declared.chunk.Pair.{Pair}
use Rattle.itable.specs.declared.root.ListedChunk.{ListedChunk}
use Rattle.itable.specs.Chunk.{Chunk, chunk_number, i_number_of}
use Rattle.itable.specs.Root.{Root, chunk_at, number_of}
use Rattle.itable.specs.ITable.{ITable, IsTable, IsListed, digest_at, digest_in, handle_of, listings, loaded, root_of, unloaded_at}
use Rattle.itable.proofs.Runs.{other_key, same_key}
use Rattle.itable.proofs.RootLaws.{lists, unloaded_listed}
use Rattle.update_cert.specs.Change.{Action, Change}
use Rattle.update_cert.specs.World.{Actor, fits}
use Rattle.update_cert.specs.Reading.{Reading}
use Rattle.tree_parts.specs.Blocks.{Blocks, Agrees, chunk_held, inode_told, root_at, told_by}
use Rattle.tree_parts.specs.Spot.{lacks}
use Rattle.tree_parts.specs.Part.{Open, Part, Slot, Laid, IsPart, handle, opened_at, slot_at, slot_here, slot_of}
use Rattle.tree_parts.specs.Part.{number_of as number_of_open}
use Rattle.tree_parts.specs.Slots.{content_in, slot_becomes}
use Rattle.tree_parts.specs.Asked.{HasChunkFor, IsChunkFor, IsListed as IsListedAt, IsReadFrom, Lacks}
use Rattle.tree_parts.specs.Acts.{Acts, OnSame, change_at}
use Rattle.tree_parts.specs.declared.error.ApplyError.{ApplyError}
use Rattle.tree_parts.specs.declared.error.ApplyError.TheVariants as error
use Rattle.tree_parts.specs.declared.spot.Spot.{Spot}
use Rattle.tree_parts.specs.declared.spot.Spot.TheVariants as spot
use Rattle.tree_parts.proofs.OpenedLaws.{entries_in}
use Rattle.tree_parts.proofs.ActLaws.{Follows}

or_false : (t : Bool) → (t || false) ≡ t
or_false true = refl
or_false false = refl

-- ---- the slots of a part

pub slot_loaded : (reads : Reading) (part : Part) (i : ℕ) → loaded part.table i ≡ true → slot_at reads part i ≡ slot_here part i
unfolding slot_at
slot_loaded reads part i here = rw here refl

pub slot_unloaded : (reads : Reading) (part : Part) (i : ℕ) → loaded part.table i ≡ false → slot_at reads part i ≡ option_map Laid (reads.inode part.table.principal (handle part) i)
unfolding slot_at
slot_unloaded reads part i not_here = rw not_here refl

-- ---- a chunk that isn't loaded

row_step : {T : Type 0} (key : T → ℕ) (P : T → Type 0) (x : T) (xs : List T) (n : ℕ) (found : T) → P x → (row_at nat_cmp key xs n ≡ Some found → P found × (key found ≡ n))
    → (t : Bool) → is_eq (nat_cmp (key x) n) ≡ t → row_at nat_cmp key (x ∷ xs) n ≡ Some found → P found × (key found ≡ n)
row_step key P x xs n found here there true is at =
    let first : row_at nat_cmp key (x ∷ xs) n ≡ Some x = rw is refl in
    let same : x ≡ found = let both = sym first ∙ at in cc in
    (subst P same here, ap key (sym same) ∙ same_key (key x) n is)
row_step key P x xs n found here there false is at =
    let later : row_at nat_cmp key (x ∷ xs) n ≡ row_at nat_cmp key xs n = rw is refl in
    there (sym later ∙ at)

-- what holds of all rows holds of the one that is found, and it has the key
row_found : {T : Type 0} (key : T → ℕ) (P : T → Type 0) (xs : List T) (n : ℕ) (found : T) → All P xs → row_at nat_cmp key xs n ≡ Some found → P found × (key found ≡ n)
row_found key P [] n found all at = absurd cc
row_found key P (x ∷ xs) n found all at =
    row_step key P x xs n found (All-head P x xs all) (row_found key P xs n found (All-tail P x xs all)) (is_eq (nat_cmp (key x) n)) refl at

no_digest : (t : ITable) (i : ℕ) (row : Option Pair) → IsTable t → row_at nat_cmp i_number_of t.pairs i ≡ row → loaded t i ≡ false → option_map (λ (p : Pair). p.digest) row ≡ None
no_digest t i None is at not_here = refl
no_digest t i (Some p) is at not_here =
    let found = row_found i_number_of (λ (q : Pair). loaded t q.i_number ≡ true) t.pairs i p is.in_loaded at in
    let clash : true ≡ false = sym found.0 ∙ ap (loaded t) found.1 ∙ not_here in
    absurd cc

-- no i-number of it has a digest
pub bare : (t : ITable) (i : ℕ) → IsTable t → loaded t i ≡ false → digest_at t i ≡ None
bare t i is not_here = no_digest t i (row_at nat_cmp i_number_of t.pairs i) is refl not_here

mapped_step_at : (t : ITable) (i : ℕ) (b : Bool) → loaded t i ≡ b → IsTable t → IsSome (digest_at t i) → b ≡ true
mapped_step_at t i true is table some = refl
mapped_step_at t i false is table some = let clash : true ≡ false = sym some ∙ ap is_some (bare t i table is) in absurd cc

-- where one has, its chunk is loaded
pub mapped_loaded : (t : ITable) (i : ℕ) → IsTable t → IsSome (digest_at t i) → loaded t i ≡ true
mapped_loaded t i table some = mapped_step_at t i (loaded t i) refl table some

-- tables with the same chunks that aren't loaded
pub loaded_as : (t u : ITable) (i : ℕ) → t.unloaded ≡ u.unloaded → loaded t i ≡ loaded u i
loaded_as t u i same = ap (λ (cs : List ListedChunk). not (is_some (row_at nat_cmp number_of cs (chunk_number i)))) same

no_entries : (entries : Option (List Entry)) (digest : Option Digest) → (IsSome entries → IsSome digest) → digest ≡ None → entries ≡ None
no_entries None digest mapped none = refl
no_entries (Some es) digest mapped none = let has : IsSome digest = mapped refl in let clash = sym has ∙ ap is_some none in absurd cc

-- nor is a directory open there
pub unopened : (part : Part) (i : ℕ) → IsPart part → IsTable part.table → loaded part.table i ≡ false → opened_at part i ≡ None
unopened part i is table not_here = no_entries (opened_at part i) (digest_at part.table i) (is.mapped i) (bare part.table i table not_here)

unloaded_as : (o : Option ListedChunk) (c : ListedChunk) → o ≡ Some c → not (is_some o) ≡ false
unloaded_as o c is = ap (λ (x : Option ListedChunk). not (is_some x)) is

loaded_none : (o : Option ListedChunk) → not (is_some o) ≡ true → o ≡ None
loaded_none None is = refl
loaded_none (Some c) is = absurd cc

pub none_unloaded : (t : ITable) (i : ℕ) → loaded t i ≡ true → unloaded_at t (chunk_number i) ≡ None
none_unloaded t i here = loaded_none (unloaded_at t (chunk_number i)) here

-- the root lists it
pub listed_there : (part : Part) (n : ℕ) (c : ListedChunk) → IsPart part → IsTable part.before → unloaded_at part.table n ≡ Some c → chunk_at (root_of part.before) n ≡ Some c
listed_there part n c is before at =
    let here : unloaded_at part.before n ≡ Some c = ap (λ (cs : List ListedChunk). row_at nat_cmp number_of cs n) is.unloaded ∙ at in
    let of = row_found number_of IsListed part.before.unloaded n c before.of_unloaded here in
    let few : n < 64 = omega (arith, of.0.0, of.1) in
    lists part.before n before few ∙ unloaded_listed part.before n c here

-- ---- what the blocks tell of it

told_at : (blocks : Blocks) (p : ℕ) (handle : List ℕ) (i : ℕ) (r : Root) (listed : Option ListedChunk) (told : Option (Option Digest)) → root_at blocks handle ≡ Some r → r.principal ≡ p → chunk_at r (chunk_number i) ≡ listed → told_by blocks i listed ≡ told
    → inode_told blocks p handle i ≡ told
told_at blocks p handle i r listed told held of at is = rw (held, eq-eqb r.principal p of, at) is

laid_by : (digest : Option Digest) → option_map (slot_of None) digest ≡ option_map Laid digest
laid_by None = refl
laid_by (Some d) = refl

-- ---- a chunk is loaded

-- what is as it was, and what the chunk adds
pub record Loads (old new : Part) (x : Chunk) : Type 0 where
  pub opened : new.opened ≡ old.opened
  pub principal : new.table.principal ≡ old.table.principal
  pub before_principal : new.before.principal ≡ old.before.principal
  pub listed : listings new.before ≡ listings old.before
  pub stands : handle new ≡ handle old
  pub unloaded : new.table.unloaded ≡ without_row nat_cmp number_of old.table.unloaded x.number
  pub before_unloaded : new.before.unloaded ≡ without_row nat_cmp number_of old.before.unloaded x.number
  pub loaded_now : (i : ℕ) → loaded new.table i ≡ (loaded old.table i || (chunk_number i == x.number))
  pub digests : (i : ℕ) → digest_at new.table i ≡ (if chunk_number i == x.number then digest_in x.pairs i else digest_at old.table i)
  pub before_loaded : (i : ℕ) → loaded new.before i ≡ (loaded old.before i || (chunk_number i == x.number))
  pub before_digests : (i : ℕ) → digest_at new.before i ≡ (if chunk_number i == x.number then digest_in x.pairs i else digest_at old.before i)

-- the part, and the chunk, which the root lists, and which the blocks have
pub record IsToLoad (blocks : Blocks) (part : Part) (c : ListedChunk) (x : Chunk) : Type 0 where
  pub part_is : IsPart part
  pub before : IsTable part.before
  pub table : IsTable part.table
  pub read : IsReadFrom blocks part
  pub at : unloaded_at part.table c.number ≡ Some c
  pub held : chunk_held blocks c.digest ≡ Some x
  pub number : x.number ≡ c.number
  pub taken : lacks blocks c.digest (spot.Chunk part.table.principal c.number) ≡ false

module _ (blocks : Blocks) (old new : Part) (c : ListedChunk) (x : Chunk) (is : IsToLoad blocks old c x) (loads : Loads old new x) where
  inside_at : (i : ℕ) → chunk_number i ≡ x.number → unloaded_at old.table (chunk_number i) ≡ Some c
  inside_at i inside = ap (unloaded_at old.table) (inside ∙ is.number) ∙ is.at

  inside_was : (i : ℕ) → chunk_number i ≡ x.number → loaded old.table i ≡ false
  inside_was i inside = unloaded_as (unloaded_at old.table (chunk_number i)) c (inside_at i inside)

  told_listed : (i : ℕ) → chunk_number i ≡ x.number → inode_told blocks old.table.principal (handle old) i ≡ Some (digest_in x.pairs i)
  told_listed i inside =
      told_at blocks old.table.principal (handle old) i (root_of old.before) (Some c) (Some (digest_in x.pairs i)) is.read.root is.part_is.principal
      (listed_there old (chunk_number i) c is.part_is is.before (inside_at i inside))
      (ap (option_map (λ (y : Chunk). digest_in y.pairs i)) is.held)

  in_it : (reads : Reading) → Agrees blocks reads → (i : ℕ) → chunk_number i ≡ x.number → slot_at reads new i ≡ slot_at reads old i
  in_it reads agrees i inside =
      let was : loaded old.table i ≡ false = inside_was i inside in
      let here : loaded new.table i ≡ true = loads.loaded_now i ∙ rw (was, eq-eqb (chunk_number i) x.number inside) refl in
      let digest : digest_at new.table i ≡ digest_in x.pairs i = loads.digests i ∙ rw (eq-eqb (chunk_number i) x.number inside) refl in
      let closed : opened_at new i ≡ None = ap (λ (os : List Open). entries_in os i) loads.opened ∙ unopened old i is.part_is is.table was in
      slot_loaded reads new i here
      ∙ rw (closed, digest) (laid_by (digest_in x.pairs i))
      ∙ ap (option_map Laid) (sym (agrees.inodes old.table.principal (handle old) i (digest_in x.pairs i) (told_listed i inside)))
      ∙ sym (slot_unloaded reads old i was)

  same_slot : (reads : Reading) (i : ℕ) (t : Bool) → loaded old.table i ≡ t → loaded new.table i ≡ t → digest_at new.table i ≡ digest_at old.table i → slot_at reads new i ≡ slot_at reads old i
  same_slot reads i true was here digest =
      slot_loaded reads new i here
      ∙ ap (λ (os : List Open). option_map (slot_of (entries_in os i)) (digest_at new.table i)) loads.opened
      ∙ ap (option_map (slot_of (opened_at old i))) digest
      ∙ sym (slot_loaded reads old i was)
  same_slot reads i false was here digest =
      slot_unloaded reads new i here
      ∙ ap (λ (p : ℕ). option_map Laid (reads.inode p (handle new) i)) loads.principal
      ∙ ap (λ (h : Digest). option_map Laid (reads.inode old.table.principal h i)) loads.stands
      ∙ sym (slot_unloaded reads old i was)

  out_of_it : (reads : Reading) (i : ℕ) → (chunk_number i == x.number) ≡ false → slot_at reads new i ≡ slot_at reads old i
  out_of_it reads i outside =
      let here : loaded new.table i ≡ loaded old.table i = loads.loaded_now i ∙ rw outside (or_false (loaded old.table i)) in
      same_slot reads i (loaded old.table i) refl here (loads.digests i ∙ rw outside refl)

  either_way : (reads : Reading) → Agrees blocks reads → (i : ℕ) (t : Bool) → (chunk_number i == x.number) ≡ t → slot_at reads new i ≡ slot_at reads old i
  either_way reads agrees i true inside = in_it reads agrees i (eqb-true (chunk_number i) x.number inside)
  either_way reads agrees i false outside = out_of_it reads i outside

  -- what the part has at each i-number stays
  pub slots_stay : (reads : Reading) → Agrees blocks reads → (i : ℕ) → slot_at reads new i ≡ slot_at reads old i
  slots_stay reads agrees i = either_way reads agrees i (chunk_number i == x.number) refl

  pub loaded_then : (i : ℕ) → chunk_number i ≡ c.number → loaded new.table i ≡ true
  loaded_then i here =
      let inside : chunk_number i ≡ x.number = here ∙ sym is.number in
      loads.loaded_now i ∙ rw (inside_was i inside, eq-eqb (chunk_number i) x.number inside) refl

  mapped_step : (i : ℕ) (t : Bool) → (chunk_number i == x.number) ≡ t → IsSome (digest_at old.table i) → IsSome (digest_at new.table i)
  mapped_step i true inside some =
      let none : digest_at old.table i ≡ None = bare old.table i is.table (inside_was i (eqb-true (chunk_number i) x.number inside)) in
      let clash : true ≡ false = sym some ∙ ap is_some none in
      absurd cc
  mapped_step i false outside some = let digest : digest_at new.table i ≡ digest_at old.table i = loads.digests i ∙ rw outside refl in ap is_some digest ∙ some

  pub is_part_loaded : IsPart new
  is_part_loaded = record {
    principal = loads.before_principal ∙ is.part_is.principal ∙ sym loads.principal;
    unloaded = loads.before_unloaded ∙ ap (λ (cs : List ListedChunk). without_row nat_cmp number_of cs x.number) is.part_is.unloaded ∙ sym loads.unloaded;
    ascending = subst (Ascends nat_cmp number_of_open None) (sym loads.opened) is.part_is.ascending;
    mapped = λ i some. mapped_step i (chunk_number i == x.number) refl (is.part_is.mapped i (ap is_some (sym (ap (λ (os : List Open). entries_in os i) loads.opened)) ∙ some));
  }

  root_stays : root_of new.before ≡ root_of old.before
  root_stays =
      ap (λ (p : ℕ). record { principal = p; chunks = listings new.before }) loads.before_principal
      ∙ ap (λ (cs : List ListedChunk). record { principal = old.before.principal; chunks = cs }) loads.listed

  taken_here : (n : ℕ) (listed : ListedChunk) → n ≡ c.number → chunk_at (root_of old.before) n ≡ Some listed → lacks blocks listed.digest (spot.Chunk old.table.principal n) ≡ false
  taken_here n listed here found =
      let there : chunk_at (root_of old.before) n ≡ Some c = listed_there old n c is.part_is is.before (ap (unloaded_at old.table) here ∙ is.at) in
      let same : c ≡ listed = let both : Some c ≡ Some listed = sym there ∙ found in cc in
      subst (λ (k : ℕ). lacks blocks listed.digest (spot.Chunk old.table.principal k) ≡ false) (sym here)
      (subst (λ (y : ListedChunk). lacks blocks y.digest (spot.Chunk old.table.principal c.number) ≡ false) same is.taken)

  unloaded_still : (n : ℕ) → n ≢ c.number → unloaded_at new.before n ≡ None → unloaded_at old.before n ≡ None
  unloaded_still n other none =
      let apart : is_eq (nat_cmp x.number n) ≡ false = other_key x.number n (λ e. other (sym e ∙ is.number)) in
      sym (ap (λ (t : Bool). if t then None else unloaded_at old.before n) apart)
      ∙ sym (row_at-without_row nat_cmp number_of nat_cmp_total None old.before.unloaded x.number n is.before.unloaded_ascend)
      ∙ sym (ap (λ (cs : List ListedChunk). row_at nat_cmp number_of cs n) loads.before_unloaded)
      ∙ none

  taken_each : (n : ℕ) (listed : ListedChunk) → chunk_at (root_of old.before) n ≡ Some listed → unloaded_at new.before n ≡ None → lacks blocks listed.digest (spot.Chunk old.table.principal n) ≡ false
  taken_each n listed found none =
      elim (cases_eq n c.number) [
        | inl here ↦ taken_here n listed here found
        | inr other ↦ is.read.chunks n listed found (unloaded_still n other none)
      ]

  told_step : (i : ℕ) (t : Bool) → (chunk_number i == x.number) ≡ t → loaded new.before i ≡ true → inode_told blocks old.table.principal (handle old) i ≡ Some (digest_at new.before i)
  told_step i true inside here =
      let digest : digest_at new.before i ≡ digest_in x.pairs i = loads.before_digests i ∙ rw inside refl in
      told_listed i (eqb-true (chunk_number i) x.number inside) ∙ ap (λ (d : Option Digest). Some d) (sym digest)
  told_step i false outside here =
      let was : loaded old.before i ≡ true = sym (loads.before_loaded i ∙ rw outside (or_false (loaded old.before i))) ∙ here in
      let digest : digest_at new.before i ≡ digest_at old.before i = loads.before_digests i ∙ rw outside refl in
      is.read.told i was ∙ ap (λ (d : Option Digest). Some d) (sym digest)

  -- it is read from the same blocks
  pub is_read_loaded : IsReadFrom blocks new
  is_read_loaded = record {
    root = ap (root_at blocks) loads.stands ∙ is.read.root ∙ sym (ap (λ (r : Root). Some r) root_stays);
    takes_root = ap (λ (h : Digest). lacks blocks h (spot.Root new.table.principal)) loads.stands ∙ ap (λ (p : ℕ). lacks blocks (handle old) (spot.Root p)) loads.principal ∙ is.read.takes_root;
    chunks = λ n listed found none. ap (λ (p : ℕ). lacks blocks listed.digest (spot.Chunk p n)) loads.principal ∙ taken_each n listed (sym (ap (λ (r : Root). chunk_at r n) root_stays) ∙ found) none;
    told = λ i here.
        ap (λ (p : ℕ). inode_told blocks p (handle new) i) loads.principal
        ∙ ap (λ (h : Digest). inode_told blocks old.table.principal h i) loads.stands
        ∙ told_step i (chunk_number i == x.number) refl here;
  }

-- ---- what is missing, and what isn't

-- a chunk that the root lists and that isn't loaded is the i-number's
chunk_for : (blocks : Blocks) (part : Part) (i : ℕ) (c : ListedChunk) (digest : Digest) (s : Spot) → IsPart part → IsTable part.before → IsReadFrom blocks part → unloaded_at part.table (chunk_number i) ≡ Some c → c.number ≡ chunk_number i
    → IsListedAt part.table.principal c digest s → IsChunkFor blocks part.table.principal (handle part) i digest s
chunk_for blocks part i c digest s is before read at number (named, there) =
    let listed : option_map (λ (y : ListedChunk). y.digest) (chunk_at (root_of part.before) (chunk_number i)) ≡ Some digest =
    ap (option_map (λ (y : ListedChunk). y.digest)) (listed_there part (chunk_number i) c is before at) ∙ ap (λ (d : Digest). Some d) (sym named) in
    inr (
      there ∙ ap (λ (n : ℕ). spot.Chunk part.table.principal n) number,
      read.takes_root,
      subst (λ (o : Option Root). IsSomeAnd o (λ r. option_map (λ y. y.digest) (chunk_at r (chunk_number i)) ≡ Some digest)) (sym read.root) listed,
    )

pub lacks_chunk : (blocks : Blocks) (part : Part) (i : ℕ) (c : ListedChunk) (e : ApplyError) → IsPart part → IsTable part.before → IsReadFrom blocks part → unloaded_at part.table (chunk_number i) ≡ Some c → c.number ≡ chunk_number i
    → Lacks blocks (IsListedAt part.table.principal c) e → Lacks blocks (IsChunkFor blocks part.table.principal (handle part) i) e
lacks_chunk blocks part i c (error.Missing digest s) is before read at number (listed, none) = (chunk_for blocks part i c digest s is before read at number listed, none)
lacks_chunk blocks part i c error.Memory is before read at number missing = tt

listed_digest : (o : Option ListedChunk) (digest : Digest) → option_map (λ (y : ListedChunk). y.digest) o ≡ Some digest → (c : ListedChunk) × (o ≡ Some c) × (c.digest ≡ digest)
listed_digest None digest is = absurd cc
listed_digest (Some c) digest is = (c, refl, let same : c.digest ≡ digest = cc in same)

chunk_has : (blocks : Blocks) (part : Part) (i : ℕ) → IsPart part → IsReadFrom blocks part → loaded part.table i ≡ true → (digest : Digest) (s : Spot) → IsChunkFor blocks part.table.principal (handle part) i digest s → lacks blocks digest s ≡ false
chunk_has blocks part i is read here digest s (inl (named, there)) =
    subst (λ (x : Spot). lacks blocks digest x ≡ false) (sym there) (subst (λ (d : Digest). lacks blocks d (spot.Root part.table.principal) ≡ false) (sym named) read.takes_root)
chunk_has blocks part i is read here digest s (inr (there, root, told)) =
    let listed = listed_digest (chunk_at (root_of part.before) (chunk_number i)) digest (subst (λ (o : Option Root). IsSomeAnd o (λ r. option_map (λ y. y.digest) (chunk_at r (chunk_number i)) ≡ Some digest)) read.root told) in
    let none : unloaded_at part.before (chunk_number i) ≡ None = ap (λ (cs : List ListedChunk). row_at nat_cmp number_of cs (chunk_number i)) is.unloaded ∙ none_unloaded part.table i here in
    subst (λ (x : Spot). lacks blocks digest x ≡ false) (sym there)
    (subst (λ (d : Digest). lacks blocks d (spot.Chunk part.table.principal (chunk_number i)) ≡ false) listed.2 (read.chunks (chunk_number i) listed.0 listed.1 none))

-- where the chunk of an i-number is loaded, nothing of it is missing
pub has_chunk : (blocks : Blocks) (part : Part) (i : ℕ) → IsPart part → IsReadFrom blocks part → loaded part.table i ≡ true → HasChunkFor blocks part.table.principal (handle part) i
has_chunk blocks part i is read here = λ digest s asked. chunk_has blocks part i is read here digest s asked

-- nor was it before
pub has_chunk_as : (blocks : Blocks) (old new : Part) (i : ℕ) → new.table.principal ≡ old.table.principal → handle new ≡ handle old → HasChunkFor blocks new.table.principal (handle new) i → HasChunkFor blocks old.table.principal (handle old) i
has_chunk_as blocks old new i same stands has = subst (λ (h : Digest). HasChunkFor blocks old.table.principal h i) stands (subst (λ (p : ℕ). HasChunkFor blocks p (handle new) i) same has)

-- ---- a part that stands on a handle, with no chunk loaded

module _ (blocks : Blocks) (r : Root) (part : Part) (held : root_at blocks (handle part) ≡ Some r) (of : r.principal ≡ part.table.principal) (pairs : part.table.pairs ≡ []) (unloaded : part.table.unloaded ≡ r.chunks) (opened : part.opened ≡ []) where
  first_slot : (reads : Reading) → Agrees blocks reads → (i : ℕ) (t : Bool) → loaded part.table i ≡ t → slot_at reads part i ≡ option_map Laid (reads.inode part.table.principal (handle part) i)
  first_slot reads agrees i false away = slot_unloaded reads part i away
  first_slot reads agrees i true here =
      let none : chunk_at r (chunk_number i) ≡ None = sym (ap (λ (cs : List ListedChunk). row_at nat_cmp number_of cs (chunk_number i)) unloaded) ∙ none_unloaded part.table i here in
      let digest : digest_at part.table i ≡ None = ap (λ (ps : List Pair). digest_in ps i) pairs in
      let told : reads.inode part.table.principal (handle part) i ≡ None = agrees.inodes part.table.principal (handle part) i None (told_at blocks part.table.principal (handle part) i r None (Some None) held of none refl) in
      slot_loaded reads part i here ∙ ap (option_map (slot_of (opened_at part i))) digest ∙ sym (ap (option_map Laid) told)

  pub first_slots : (reads : Reading) → Agrees blocks reads → (i : ℕ) → slot_at reads part i ≡ option_map Laid (reads.inode part.table.principal (handle part) i)
  first_slots reads agrees i = first_slot reads agrees i (loaded part.table i) refl

  none_listed : (same : part.before ≡ part.table) (n : ℕ) (c : ListedChunk) → chunk_at r n ≡ Some c → unloaded_at part.before n ≡ None → ⊥
  none_listed same n c found none =
      let away : chunk_at r n ≡ None = sym (ap (λ (cs : List ListedChunk). row_at nat_cmp number_of cs n) unloaded) ∙ sym (ap (λ (t : ITable). unloaded_at t n) same) ∙ none in
      let clash : Some c ≡ None = sym found ∙ away in
      absurd cc

  first_told : part.before ≡ part.table → (i : ℕ) → loaded part.before i ≡ true → inode_told blocks part.table.principal (handle part) i ≡ Some (digest_at part.before i)
  first_told same i here =
      let none : chunk_at r (chunk_number i) ≡ None = sym (ap (λ (cs : List ListedChunk). row_at nat_cmp number_of cs (chunk_number i)) unloaded) ∙ sym (ap (λ (t : ITable). unloaded_at t (chunk_number i)) same) ∙ none_unloaded part.before i here in
      let digest : digest_at part.before i ≡ None = ap (λ (t : ITable). digest_at t i) same ∙ ap (λ (ps : List Pair). digest_in ps i) pairs in
      told_at blocks part.table.principal (handle part) i r None (Some None) held of none refl ∙ ap (λ (d : Option Digest). Some d) (sym digest)

  -- it is read from the blocks that hold its root
  pub first_read : part.before ≡ part.table → listings part.before ≡ r.chunks → lacks blocks (handle part) (spot.Root part.table.principal) ≡ false → IsReadFrom blocks part
  first_read same listed taken =
      let is : r ≡ root_of part.before = ap (λ (p : ℕ). record { principal = p; chunks = r.chunks }) (of ∙ sym (ap (λ (t : ITable). t.principal) same)) ∙ ap (λ (cs : List ListedChunk). record { principal = part.before.principal; chunks = cs }) (sym listed) in
      record {
        root = held ∙ ap (λ (x : Root). Some x) is;
        takes_root = taken;
        chunks = λ n c found none. absurd (none_listed same n c (ap (λ (x : Root). chunk_at x n) is ∙ found) none);
        told = first_told same;
      }

-- ---- an action at a loaded i-number, said of all i-numbers

module _ (reads : Reading) (actor : Actor) (i : ℕ) (a : Action Digest) (first old new : Part) (fitted : Bool) (whose : old.table.principal ≡ first.table.principal) (here : loaded old.table i ≡ true) (slots : (k : ℕ) → slot_at reads old k ≡ slot_at reads first k)
    (same : OnSame old new) where
  abbrev there : Change Digest
  there = change_at first i a

  loaded_still : (k : ℕ) → loaded new.table k ≡ loaded old.table k
  loaded_still k = ap (λ (cs : List ListedChunk). not (is_some (row_at nat_cmp number_of cs (chunk_number k)))) same.unloaded

  apart : (k : ℕ) → loaded old.table k ≡ false → (i == k) ≡ false
  apart k away = ne_eqb i k (λ e. let clash : true ≡ false = sym here ∙ ap (loaded old.table) e ∙ away in absurd cc)

  slot_first : (k : ℕ) → loaded old.table k ≡ true → slot_here old k ≡ slot_at reads first k
  slot_first k at = sym (slot_loaded reads old k at) ∙ slots k

  follow_step : (k : ℕ) (t : Bool) → loaded old.table k ≡ t → Acts reads actor there old new fitted
      → slot_at reads new k ≡ (if fitted && (i == k) then slot_becomes reads a (slot_at reads first k) else slot_at reads first k)
  follow_step k true at acts =
      slot_loaded reads new k (loaded_still k ∙ at)
      ∙ acts.slots k
      ∙ ap (λ (s : Option Slot). if fitted && (i == k) then slot_becomes reads a s else s) (slot_first k at)
  follow_step k false away acts =
      let stays : (fitted && (i == k)) ≡ false = ap (λ (t : Bool). fitted && t) (apart k away) ∙ and-false fitted in
      slot_unloaded reads new k (loaded_still k ∙ away)
      ∙ ap (λ (p : ℕ). option_map Laid (reads.inode p (handle new) k)) same.principal
      ∙ ap (λ (t : ITable). option_map Laid (reads.inode old.table.principal (handle_of t) k)) same.before
      ∙ sym (slot_unloaded reads old k away)
      ∙ slots k
      ∙ sym (ap (λ (t : Bool). if t then slot_becomes reads a (slot_at reads first k) else slot_at reads first k) stays)

  followed : Acts reads actor there old new fitted → Follows reads actor there first new fitted
  followed acts = record {
    is_fit = acts.is_fit ∙ ap (λ (s : Option Slot). fits actor there (content_in reads s)) (slot_first i here);
    slots = λ k. follow_step k (loaded old.table k) refl acts;
  }

  pub follows : Acts reads actor (change_at old i a) old new fitted → Follows reads actor there first new fitted
  follows acts = followed (subst (λ (p : ℕ). Acts reads actor (record { principal = p; i_number = i; action = a }) old new fitted) whose acts)

-- of what was tried
pub tried : (reads : Reading) (actor : Actor) (i : ℕ) (a : Action Digest) (first old new : Part) (r : Result Bool ApplyError) → old.table.principal ≡ first.table.principal → loaded old.table i ≡ true → ((k : ℕ) → slot_at reads old k ≡ slot_at reads first k) → OnOk r (OnSame old new)
    → IfOk r (λ fitted. Acts reads actor (change_at old i a) old new fitted) → IfOk r (λ fitted. Follows reads actor (change_at first i a) first new fitted)
tried reads actor i a first old new (Ok fitted) whose here slots same acts = follows reads actor i a first old new fitted whose here slots same acts
tried reads actor i a first old new (Err e) whose here slots same acts = tt
