-- What a client knows of checked blocks: those of the beginning, those that are held, and others in a cache.
use Rattle.std.specs.Prelude.{◌≡◌, ℕ, ◌≤◌, ◌⊎◌, List, [], ◌∷◌, ◌++◌, length, take, Option, Some, None, is_some, Contains, if◌then◌else◌}
use Rattle.std.specs.Map.{lookup, remove_entry}
use Rattle.std.specs.Option.{option_or}
use Rattle.std.specs.Str.{bytes_eq}
use Rattle.layout.specs.Hash.{hash}
use Rattle.layout.specs.Types.{Bytes, Digest}
use Rattle.tree_parts.specs.Blocks.{Blocks}
use Rattle.client_tree.specs.Held.{Block, held}
use Rattle.lru.specs.LruCache.{lru_cache, put_entries}

-- digests with their texts
abbrev pub Texts : Type 0
Texts = List (Digest × Bytes)

-- a text under its digest
abbrev pub with_digest : Bytes → Digest × Bytes
with_digest text = (hash text, text)

-- the text that stands at a digest
abbrev pub text_at : Texts → Digest → Option Bytes
text_at texts digest = lookup (bytes_eq digest) texts

-- the blocks of the beginning; those that are held, the newest last; those of the cache, the most recently used first;
-- and how many the cache may have once no block is held
pub record CheckedBlocks : Type 0 where
  pub first : List Block
  pub held : Texts
  pub cached : Texts
  pub capacity : ℕ

abbrev pub checked_blocks : List Block → Texts → Texts → ℕ → CheckedBlocks
checked_blocks first held cached capacity =
    record { first = first; held = held; cached = cached; capacity = capacity }

-- at first those of the beginning alone are known, and the cache may have 1,024
abbrev pub at_first : List Block → CheckedBlocks
at_first first = checked_blocks first [] [] 1024

-- the text of a digest, if it is known: of the beginning, else one that is held, else one of the cache
unfoldable pub known_blocks : CheckedBlocks → Blocks
known_blocks k digest = option_or (held k.first digest) (option_or (text_at k.held digest) (text_at k.cached digest))

-- how many blocks a cache may have at the most
abbrev pub most_cached : ℕ
most_cached = 4096

-- each text that is known has its digest, and the cache isn't too large
pub record AreChecked (k : CheckedBlocks) : Type 0 where
  pub hashed : (digest : Digest) (text : Bytes) → known_blocks k digest ≡ Some text → hash text ≡ digest
  pub fits : k.capacity ≤ most_cached

-- ---- holding

-- the blocks with this one; a text of its digest that is there already stays
unfoldable pub knowing : Blocks → Bytes → Blocks
knowing blocks text digest = option_or (blocks digest) (if bytes_eq digest (hash text) then Some text else None)

-- a checked text is held, if no text of its digest is known
unfoldable pub holding : CheckedBlocks → Bytes → CheckedBlocks
holding k text =
    if is_some (known_blocks k (hash text)) then k else record k { held = k.held ++ with_digest text ∷ [] }

-- ---- taking up

-- a cache without the blocks of these digests
abbrev pub without_all : List Digest → Texts → Texts
without_all [] cached = cached
without_all (digest ∷ digests) cached = without_all digests (remove_entry (bytes_eq digest) cached)

-- blocks go from the cache behind those that are held, and the others stay in their order: the same is known
pub record TakesUp (old new : CheckedBlocks) : Type 0 where
  pub known : known_blocks new ≡ known_blocks old
  pub held : (more : Texts) × (new.held ≡ old.held ++ more)
  pub cached : (gone : List Digest) × (new.cached ≡ without_all gone old.cached)
  pub first : new.first ≡ old.first
  pub capacity : new.capacity ≡ old.capacity

-- ---- into the cache

-- a block goes into a cache as the most recently used, and a new one pushes the last out of a full cache; or it is left
-- out, where no text of its digest is there
abbrev pub IsPut : ℕ → Texts → Digest × Bytes → Texts → Type 0
IsPut capacity cached block cached' =
    (cached' ≡ put_entries bytes_eq (lru_cache cached capacity) block.0 block.1)
    ⊎ ((cached' ≡ cached) × (text_at cached block.0 ≡ None))

-- blocks go into a cache in turn, or some of them do
abbrev pub ArePut : ℕ → Texts → Texts → Texts → Type 0
ArePut capacity [] cached cached' = cached' ≡ cached
ArePut capacity (block ∷ blocks) cached cached' =
    (between : Texts) × IsPut capacity cached block between × ArePut capacity blocks between cached'

-- texts go into a cache in turn; one of which memory refuses a copy is left out
abbrev pub AreCopied : ℕ → List Bytes → Texts → Texts → Type 0
AreCopied capacity [] cached cached' = cached' ≡ cached
AreCopied capacity (text ∷ texts) cached cached' =
    (between : Texts) × ((between ≡ cached) ⊎ IsPut capacity cached (with_digest text) between)
    × AreCopied capacity texts between cached'

-- each text that is known then was known before
abbrev pub KnowsPart : CheckedBlocks → CheckedBlocks → Type 0
KnowsPart old new =
    (digest : Digest) (text : Bytes) → known_blocks new digest ≡ Some text → known_blocks old digest ≡ Some text

-- no block is held any more: those that were, with any that were taken up before, go into the cache, behind which the
-- least recently used are left out
pub record LetsGo (old new : CheckedBlocks) : Type 0 where
  pub put : (between : CheckedBlocks) × TakesUp old between
      × ArePut old.capacity between.held (take old.capacity between.cached) new.cached
  pub known : KnowsPart old new
  pub few : length new.cached ≤ old.capacity
  pub held : new.held ≡ []
  pub first : new.first ≡ old.first
  pub capacity : new.capacity ≡ old.capacity

-- texts go into the cache: what is known then was known before, or is one of these under its digest
pub record Keeps (old : CheckedBlocks) (texts : List Bytes) (new : CheckedBlocks) : Type 0 where
  pub put : AreCopied old.capacity texts (take old.capacity old.cached) new.cached
  pub few : length new.cached ≤ old.capacity
  pub known : (digest : Digest) (text : Bytes) → known_blocks new digest ≡ Some text
      → (known_blocks old digest ≡ Some text) ⊎ (Contains texts text × (hash text ≡ digest))
  pub held : new.held ≡ old.held
  pub first : new.first ≡ old.first
  pub capacity : new.capacity ≡ old.capacity

-- the most recently used blocks of the cache, as many as fit
abbrev pub with_capacity : ℕ → CheckedBlocks → CheckedBlocks
with_capacity capacity k = record k { cached = take capacity k.cached; capacity = capacity }

-- the same, once no block is held: until then the cache keeps what it has
abbrev pub with_capacity_later : ℕ → CheckedBlocks → CheckedBlocks
with_capacity_later capacity k = record k { capacity = capacity }
