-- How far a user's client in a run is in a dialogue: what its journal tells is the stage, or what was tried since makes
-- a move of it.
use Rattle.std.proofs.Common.{◌≡◌, ℕ, List, [], ◌∷◌, Option, Some, None, IfSome, sym, subst}
use Rattle.std.specs.Prelude.{◌⊎◌}
use Rattle.layout.specs.Types.{Bytes, User}
use Rattle.lms_sign.specs.Signature.{signature_of}
use Rattle.leaf_ledger.specs.Ledger.{LeafNumber}
use Rattle.version_order.specs.Structure.{Structure}
use Rattle.update_cert.specs.Cert.{Cert, cert}
use Rattle.pending_list.specs.declared.signed.Signed.{Signed}
use Rattle.reply_rules.specs.Lists.{Lists}
use Rattle.client_releases.specs.declared.phase.Phase.{Phase}
use Rattle.client_releases.specs.declared.phase.Phase.TheVariants as phase
use Rattle.client_releases.specs.Told.{signed_by}
use Rattle.client_verify.specs.State.{Checked, Ready, State, lists_under}
use Rattle.client_steps.specs.Steps.{Client, Closed, IsSound, Open}
use Rattle.agreement.specs.Runs.{View, user_of}
use Rattle.release_runs.specs.Steps as low
use Rattle.release_runs.proofs.Holds as low_holds
use Rattle.release_runs.proofs.Stories.{OfCert, OfStructure, Release, last_in, phase_in, text}
use Rattle.client_runs.specs.Runs.{Keys, owner, pinned}
use Rattle.client_runs.proofs.Lowering.{low_client, low_owner}
use Rattle.honest_history.specs.Honest.{Names, Naming}
use Rattle.honest_dialogues.specs.Dialogue.{Act, Declared, Declined, HearsDeclined, Idle, IsNextCert, IsSealed, MayMove, Sealed, Stage, call_by, view_by}
use Rattle.consistency_server.specs.Answers.{Call as ServerCall}

-- a key, by its number, and a leaf of it
abbrev pub Mark : Type 0
Mark = ℕ × LeafNumber

module _ (keys : Keys) (naming : Naming) (u : User) where
  -- whose releases these are
  abbrev pub o : low.Owner
  o = low_owner (owner keys u)

  -- what is signed by a leaf of a key
  abbrev pub signed_cert : Cert → Mark → Signed Cert
  signed_cert c q = record { value = c; signature = signature_of (low.secret_of q.0 o) q.1 (cert.spell c) }

  abbrev pub signed_structure : Structure → Mark → Signed Structure
  signed_structure z q = signed_by (low.secret_of q.0 o) q.1 z

  -- and its text
  abbrev pub cert_text : Cert → Mark → Bytes
  cert_text c q = text o (OfCert q.0 c q.1)

  abbrev pub structure_text : Structure → Mark → Bytes
  structure_text z q = text o (OfStructure q.0 z q.1)

  -- ---- what may come

  -- the structure is signed over these lists, where a handle of user 0's names the table
  abbrev pub MaySeal : Option (Signed Structure) → Lists → View → Signed Structure → Type 0
  MaySeal last x v z = (user_of v ≡ 0 → Names naming v.signed.handle v.table) → IsSealed (pinned keys) naming u last x v z

  -- ---- closed clients

  -- the stage is what these releases tell, or the structure that was signed last is committed
  abbrev pub IsOfStory : List Release → Stage → Type 0
  IsOfStory [] stage = stage ≡ Idle None
  IsOfStory (OfCert n c q ∷ older) stage = ((heard : Option Lists) × (stage ≡ Declared (last_in o older) (signed_cert c (n, q)) heard))
      ⊎ (stage ≡ Declined (last_in o older) (signed_cert c (n, q)))
  IsOfStory (OfStructure n z q ∷ older) stage = (stage ≡ Sealed (signed_structure z (n, q))) ⊎ (stage ≡ Idle (Some (signed_structure z (n, q))))

  -- what was tried since is a move of it, once it is found
  abbrev pub IsTriedAt : List Release → Option Release → Option View → Stage → Type 0
  IsTriedAt story None None stage = Unit {0}
  IsTriedAt story None (Some v) stage = phase_in story ≡ phase.Declared
  IsTriedAt story (Some (OfCert n c q)) None stage = IsNextCert u (last_in o story) (signed_cert c (n, q))
      × ((stage ≡ Idle (last_in o story)) ⊎ ((d : Signed Cert) × (stage ≡ Declined (last_in o story) d) × (c ≡ d.value)))
  IsTriedAt story (Some (OfCert n c q)) (Some v) stage = ⊥
  IsTriedAt story (Some (OfStructure n z q)) None stage = ⊥
  IsTriedAt story (Some (OfStructure n z q)) (Some v) stage = (phase_in story ≡ phase.Declared)
      × ((c : Signed Cert) × (x : Lists) × (stage ≡ Declared (last_in o story) c (Some x)) × MaySeal (last_in o story) x v (signed_structure z (n, q)))

  -- ---- open clients

  -- the lists that are under check or accepted are those that were heard last
  pub record HoldsHeard (s : State) (heard : Option Lists) : Type 0 where
    pub checked : IfSome s.checked (λ k. IfSome (lists_under k) (λ x. heard ≡ Some x))
    pub accepted : IfSome s.accepted (λ y. heard ≡ Some y.lists)

  -- the stage of a client in this phase
  abbrev pub IsInPhase : Phase → State → Stage → Type 0
  IsInPhase phase.Idle s stage = stage ≡ Idle s.last
  IsInPhase phase.Declared s stage = (c : Cert) × (q : Mark) × (heard : Option Lists)
      × (stage ≡ Declared s.last (signed_cert c q) heard) × (s.text ≡ cert_text c q) × HoldsHeard s heard
  IsInPhase phase.Signed s stage = (z : Structure) × (q : Mark)
      × (stage ≡ Sealed (signed_structure z q)) × (s.last ≡ Some (signed_structure z q)) × (s.text ≡ structure_text z q)
  IsInPhase phase.Failed s stage = Unit {0}

  pub record IsOpenAt (s : State) (view : Option View) (stage : Stage) : Type 0 where
    pub no_view : (s.phase ≡ phase.Failed → ⊥) → view ≡ None
    pub in_phase : IsInPhase s.phase s stage
    pub always : IsSound (Open s)

  abbrev pub IsClientAt : Client → Option View → Stage → Type 0
  IsClientAt (Closed p) view stage = Unit {0}
  IsClientAt (Open s) view stage = IsOpenAt s view stage

  -- A client that released these texts, and tried to sign over this view, follows the dialogue: it is at this stage.
  pub record Follows (client : Client) (texts : List Bytes) (view : Option View) (stage : Stage) : Type 0 where
    pub story : List Release
    pub tried : Option Release
    pub low : low_holds.Holds o (Unit {0}) story tried (low_client client) texts
    pub of_story : IsOfStory story stage
    pub tries : IsTriedAt story tried view stage
    pub own : IsClientAt client view stage

  -- ---- a step

  -- It is a move from this stage, which sends these calls and accepts these views.
  pub record IsMove (history : List ServerCall) (before : Stage) (client : Client) (texts : List Bytes) (view : Option View) (sent : List ServerCall) (accepted : List View) : Type 0 where
    pub act : Act
    pub after : Stage
    pub may : MayMove (pinned keys) naming history u before act after
    pub sends : call_by act after ≡ sent
    pub accepts : view_by act ≡ accepted
    pub follows : Follows client texts view after

  -- or two, of which the first is that it hears that its certificate was declined
  pub record AreMoves (history : List ServerCall) (before : Stage) (client : Client) (texts : List Bytes) (view : Option View) (sent : List ServerCall) (accepted : List View) : Type 0 where
    pub between : Stage
    pub declined : MayMove (pinned keys) naming history u before HearsDeclined between
    pub then_is : IsMove history between client texts view sent accepted

  -- or none
  abbrev pub Goes : List ServerCall → Stage → Client → List Bytes → Option View → List ServerCall → List View → Type 0
  Goes history before client texts view sent accepted =
      ((sent ≡ []) × (accepted ≡ []) × Follows client texts view before)
      ⊎ (IsMove history before client texts view sent accepted ⊎ AreMoves history before client texts view sent accepted)

  -- ---- open clients that go on

  in_phase_of : (s : State) (stage : Stage) (f : Phase) → s.phase ≡ f → IsInPhase f s stage → IsInPhase s.phase s stage
  in_phase_of s stage f is at = subst (λ (f : Phase). IsInPhase f s stage) (sym is) at

  pub in_phase_at : (s : State) (stage : Stage) (f : Phase) → s.phase ≡ f → IsInPhase s.phase s stage → IsInPhase f s stage
  in_phase_at s stage f is at = subst (λ (f : Phase). IsInPhase f s stage) is at

  pub idle_at : (s : State) (stage : Stage) → s.phase ≡ phase.Idle → stage ≡ Idle s.last → IsInPhase s.phase s stage
  idle_at s stage is at = in_phase_of s stage phase.Idle is at

  pub declared_at : (s : State) (stage : Stage) → s.phase ≡ phase.Declared → IsInPhase phase.Declared s stage → IsInPhase s.phase s stage
  declared_at s stage is at = in_phase_of s stage phase.Declared is at

  pub signed_at : (s : State) (stage : Stage) → s.phase ≡ phase.Signed → IsInPhase phase.Signed s stage → IsInPhase s.phase s stage
  signed_at s stage is at = in_phase_of s stage phase.Signed is at

  pub failed_at : (s : State) (stage : Stage) → s.phase ≡ phase.Failed → IsInPhase s.phase s stage
  failed_at s stage is = in_phase_of s stage phase.Failed is tt

  -- nothing is in hand
  pub none_in_hand : (s : State) (heard : Option Lists) → s.checked ≡ None → s.accepted ≡ None → HoldsHeard s heard
  none_in_hand s heard c y = record {
    checked = subst (λ (k : Option Checked). IfSome k (λ c. IfSome (lists_under c) (λ x. heard ≡ Some x))) (sym c) tt;
    accepted = subst (λ (r : Option Ready). IfSome r (λ y. heard ≡ Some y.lists)) (sym y) tt;
  }
