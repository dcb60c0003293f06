-- What the changes of an operation name: the files that its user's client was handed when it began the operation.
use Rattle.std.specs.Prelude.{◌≡◌, ◌⊎◌, List, [], ◌∷◌, ◌++◌, Option, Result, IfErr, IsSomeAnd}
use Rattle.std.specs.List.{All}
use Rattle.std.specs.Option.{option_and_then}
use Rattle.layout.specs.Types.{Bytes, Digest}
use Rattle.update_cert.specs.Change.{Action, Make, Put}
use Rattle.update_cert.specs.Cert.{Cert}
use Rattle.update_cert.specs.Reading.{Reading}
use Rattle.update_cert.specs.World.{Directory, File}
use Rattle.tree_parts.specs.Blocks.{file_over, inode_at}
use Rattle.client_releases.specs.declared.error.ClientError.{ClientError}
use Rattle.client_releases.specs.declared.error.ClientError.TheVariants as error
use Rattle.client_verify.specs.State.{State, next_cert}
use Rattle.client_steps.specs.Steps.{Begins, Open}
use Rattle.agreement.specs.Lines.{line}
use Rattle.client_runs.specs.Released.{views}
use Rattle.client_runs.specs.Runs.{Event, Keys, client_of}
use Rattle.fork_consistency.specs.Handles.{told_by_texts}
use Rattle.fork_consistency.specs.Worlds.{IsReadingOf}

-- Its user's client was handed these texts at a step at which it was to begin this very operation. It was open then.
-- It did so, or a device failed, in which case the operation may be written all the same.
pub record WereLaid (c : Cert) (run : List Event) (laid : List Bytes) : Type 0 where
  pub step : Event
  pub later : List Event
  pub older : List Event
  pub at : run ≡ later ++ step ∷ older
  pub user : step.user ≡ c.user
  pub before : State
  pub was_open : client_of c.user older ≡ Open before
  pub operation : next_cert before c.changes ≡ c
  pub answer : Result Bytes ClientError
  pub begins : step.call ≡ Begins c.changes laid answer
  pub tried : IfErr answer (λ e. e ≡ error.Device)

-- the file whose i-node has this digest, where the i-node and its blocks are among the texts: what the blocks make
abbrev pub file_in : List Bytes → Digest → Option Bytes
file_in laid digest = option_and_then (file_over (told_by_texts laid)) (inode_at (told_by_texts laid) digest)

-- by this reading the digest stands for the file that it has among the texts
abbrev pub StandsForFile : Reading → List Bytes → Digest → Type 0
StandsForFile reads laid digest = IsSomeAnd (file_in laid digest) (λ bytes. reads.content digest ≡ File bytes)

-- what is put stands for such a file, and what is made for one, or for the empty directory
abbrev pub NamesLaid : Reading → List Bytes → Action Digest → Type 0
NamesLaid reads laid (Make digest) = StandsForFile reads laid digest ⊎ (reads.content digest ≡ Directory [])
NamesLaid reads laid (Put digest) = StandsForFile reads laid digest
NamesLaid reads laid other = Unit {0}

-- Each change of the operation names what the user's client was handed for it, as each reading of the run tells it.
pub record NamesWhatWasLaid (keys : Keys) (run : List Event) (c : Cert) : Type 0 where
  pub laid : List Bytes
  pub were_laid : WereLaid c run laid
  pub named : (reads : Reading) → IsReadingOf keys run reads
      → All (λ change. NamesLaid reads laid change.action) c.changes

-- so does each operation of the line of each accepted view
abbrev pub NameLaidFiles : Keys → List Event → Type 0
NameLaidFiles keys run = All (λ x. All (NamesWhatWasLaid keys run) (line (views run) x)) (views run)
