-- Nobody has to believe this file: an aid of private contracts.
-- How blocks go between a cache and the held blocks.
use Rattle.std.specs.Prelude.{◌≡◌, ◌⊎◌, List, [], ◌∷◌, ◌++◌, Option, Some, Contains, is_some, if◌then◌else◌}
use Rattle.std.specs.Option.{option_or}
use Rattle.layout.specs.Hash.{hash}
use Rattle.layout.specs.Types.{Bytes, Digest}
use Rattle.checked_blocks.specs.CheckedBlocks.{Texts, text_at, without_all}

-- the text of a digest among the held blocks, else among those of the cache
abbrev pub within : Texts → Texts → Digest → Option Bytes
within held cached digest = option_or (text_at held digest) (text_at cached digest)

-- one block more, behind the others, if its digest isn't among them
abbrev pub with_last : Texts → Digest → Bytes → Texts
with_last held digest text = if is_some (text_at held digest) then held else held ++ (digest, text) ∷ []

-- blocks went from the cache behind the held ones, if any did: the same is known
pub record Moved (held cached held' cached' : Texts) : Type 0 where
  pub same : (digest : Digest) → within held' cached' digest ≡ within held cached digest
  pub behind : (more : Texts) × (held' ≡ held ++ more)
  pub left : (gone : List Digest) × (cached' ≡ without_all gone cached)

-- blocks that were held were put into the cache: what is known then was known before
abbrev pub IsPart : Texts → Texts → Texts → Type 0
IsPart held cached cached' =
    (digest : Digest) (text : Bytes) → text_at cached' digest ≡ Some text → within held cached digest ≡ Some text

-- texts were put into the cache: what is there then was there before, or is one of them under its digest
abbrev pub AreOfTexts : List Bytes → Texts → Texts → Type 0
AreOfTexts texts cached cached' =
    (digest : Digest) (text : Bytes) → text_at cached' digest ≡ Some text
    → (text_at cached digest ≡ Some text) ⊎ (Contains texts text × (hash text ≡ digest))
