-- What holds of a user's client after each step of a run.
use Rattle.std.proofs.Common.{◌≡◌, ℕ, List, ◌++◌, Option, Some, None, IfSome, take, sym, ap, ◌∙◌, subst, inl, inr}
use Rattle.layout.specs.Types.{Bytes}
use Rattle.client_releases.specs.declared.phase.Phase.TheVariants as phase
use Rattle.client_releases.specs.Releasing.{OwnDevices}
use Rattle.client_releases.specs.Told.{IsPhase, Released}
use Rattle.release_runs.specs.Steps.{Call, Client, Closed, HasCommitted, Open, Owner, Parts, journal_of, ledgers_of}
use Rattle.release_runs.specs.Runs.{IsInTurn}
use Rattle.release_runs.specs.Released.{released_by}
use Rattle.release_runs.proofs.Files.{Lies, files_of, with_tried}
use Rattle.release_runs.proofs.Members.{In}
use Rattle.release_runs.proofs.Stories.{IsAfter, IsNumbered, IsStory, OfCert, OfStructure, Release, last_in, number_in, phase_in, text, text_in}

pub numbered_older : (story : List Release) (tried : Option Release) → IsNumbered (with_tried tried story) → IsNumbered story
numbered_older story None each = each
numbered_older story (Some (OfCert k c q)) each = each.1
numbered_older story (Some (OfStructure k z q)) each = each

module _ (o : Owner) where
  -- The client is as its story tells, and nothing was tried.
  pub record IsAt (story : List Release) (tried : Option Release) (s : Released) : Type 0 where
    pub none_tried : tried ≡ None
    pub number : s.number ≡ number_in story
    pub last : s.last ≡ last_in o story
    pub text : s.text ≡ text_in o story
    pub phase : IsPhase (phase_in story) s.phase

  -- So it is unless a device has failed.
  pub record IsOwn (story : List Release) (tried : Option Release) (s : Released) : Type 0 where
    pub user : s.user ≡ o.user
    pub opened : ℕ
    pub secrets : s.secrets ≡ take opened o.secrets
    pub stands : (s.phase ≡ phase.Failed → ⊥) → IsAt story tried s

  abbrev pub IsOwnClient : List Release → Option Release → Client → Type 0
  IsOwnClient story tried (Closed p) = Unit {0}
  IsOwnClient story tried (Open s) = IsOwn story tried s

  -- After a run the client has this story, which its devices tell, and this was tried since: the texts that it released are
  -- those of the story. Where all certificates of the run are in turn, so are those of the story.
  pub record Holds (InTurn : Type 0) (story : List Release) (tried : Option Release) (client : Client) (texts : List Bytes) : Type 0 where
    pub is_story : IsStory o story
    pub is_tried : IfSome tried (IsAfter o story)
    pub numbered : InTurn → IsNumbered (with_tried tried story)
    pub lies : Lies o story tried (ledgers_of client) (journal_of client)
    pub own : IsOwnClient story tried client
    pub released : (a : Bytes) → In a texts → (r : Release) × In r story × (a ≡ text o r)
    pub kept : (r : Release) → In r story → In (text o r) texts

  -- what holds on weaker terms
  pub where_in_turn : (A B : Type 0) (story : List Release) (tried : Option Release) (client : Client) (texts : List Bytes) → (B → A) → Holds A story tried client texts → Holds B story tried client texts
  where_in_turn A B story tried client texts turn h = record {
    is_story = h.is_story;
    is_tried = h.is_tried;
    numbered = λ t. h.numbered (turn t);
    lies = h.lies;
    own = h.own;
    released = h.released;
    kept = h.kept;
  }

  -- what holds after one step more
  abbrev pub HoldsAfter : Type 0 → List Release → Option Release → Client → List Bytes → Call → Client → Type 0
  HoldsAfter InTurn story tried before texts call after = Holds (IsInTurn before call × InTurn) story tried after (released_by call after ++ texts)

  -- ---- a step that releases nothing

  module _ (InTurn Now : Type 0) (story : List Release) (tried : Option Release) (texts : List Bytes) (turn : Now → InTurn) where
    -- it leaves the client closed
    pub closes : (before : Client) (p : Parts) → (h : Holds InTurn story tried before texts) → Lies o story tried p.ledgers p.journal → Holds Now story tried (Closed p) texts
    closes before p h lies = record {
      is_story = h.is_story;
      is_tried = h.is_tried;
      numbered = λ t. h.numbered (turn t);
      lies = lies;
      own = tt;
      released = h.released;
      kept = h.kept;
    }

    -- or the structure is committed
    pub commits : (s new : Released) → Holds InTurn story tried (Open s) texts → HasCommitted s new → Holds Now story tried (Open new) texts
    commits s new h is = record {
      is_story = h.is_story;
      is_tried = h.is_tried;
      numbered = λ t. h.numbered (turn t);
      lies = subst (λ (d : OwnDevices). Lies o story tried (files_of d) d.journal.file) (sym (ap (λ (r : Released). r.devices) is.state)) h.lies;
      own = record {
        user = ap (λ (r : Released). r.user) is.state ∙ h.own.user;
        opened = h.own.opened;
        secrets = ap (λ (r : Released). r.secrets) is.state ∙ h.own.secrets;
        stands = λ _. committed;
      };
      released = h.released;
      kept = h.kept;
    }
      where
        at : IsAt story tried s
        at = h.own.stands (λ down. let two : phase.Signed ≡ phase.Failed = sym is.signed ∙ down in cc two)

        idle : IsPhase (phase_in story) s.phase → IsPhase (phase_in story) new.phase
        idle (inl same) = inr (sym same ∙ is.signed, ap (λ (r : Released). r.phase) is.state)
        idle (inr other) = absurd (let two : phase.Signed ≡ phase.Idle = sym is.signed ∙ other.1 in cc two)

        committed : IsAt story tried new
        committed = record {
          none_tried = at.none_tried;
          number = ap (λ (r : Released). r.number) is.state ∙ at.number;
          last = ap (λ (r : Released). r.last) is.state ∙ at.last;
          text = ap (λ (r : Released). r.text) is.state ∙ at.text;
          phase = idle at.phase;
        }
