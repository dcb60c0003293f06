-- What a crash leaves of a client's files.
use Rattle.std.specs.Prelude.{◌≡◌, List, [], ◌∷◌}
use Rattle.layout.specs.Types.{Bytes}
use Rattle.leaf_ledger.specs.Device.{History, MayLeave, started}

-- of a file its text, and no history
pub record IsLeftOf (old new : History) : Type 0 where
  pub text : Bytes
  pub may : MayLeave old.now text
  pub is : new ≡ started text

-- of each of these files, in their order
abbrev pub AreLeft : List History → List History → Type 0
AreLeft [] [] = Unit {0}
AreLeft (old ∷ olds) (new ∷ news) = IsLeftOf old new × AreLeft olds news
AreLeft [] (new ∷ news) = ⊥
AreLeft (old ∷ olds) [] = ⊥
