-- What a client sends is a text that it released: a certificate of its user's, or a structure.
use Rattle.std.proofs.Common.{◌≡◌, List, [], ◌∷◌, ◌++◌, length, map, Some, refl, sym, ◌∙◌, subst, inl, inr}
use Rattle.std.specs.List.{Contains}
use Rattle.layout.specs.Types.{Bytes, User}
use Rattle.lms_sign.specs.Signature.{signature_of}
use Rattle.lms_sign.proofs.Validity.{length-signature}
use Rattle.version_order.specs.Structure.{Structure, structure}
use Rattle.update_cert.specs.Cert.{Cert, cert}
use Rattle.pending_list.specs.declared.signed.Signed.{Signed}
use Rattle.pending_list.specs.Signed.{signed}
use Rattle.client_releases.specs.declared.phase.Phase.{Phase}
use Rattle.client_releases.specs.declared.phase.Phase.TheVariants as phase
use Rattle.client_releases.specs.Told.{IsPhase}
use Rattle.client_journal.specs.Records.{unsigned}
use Rattle.release_runs.specs.Runs as low_run
use Rattle.release_runs.specs.Steps as low
use Rattle.release_runs.proofs.Runs.{HoldsSome, holds}
use Rattle.release_runs.proofs.Stories.{IsStory, OfCert, OfStructure, Release, phase_in, text as release_text, text_in}
use Rattle.client_releases.proofs.Again.{unsigned_of}
use Rattle.client_steps.specs.Steps.{Client, Closed, Open}
use Rattle.client_runs.specs.Clients.{certificate_in, certificate_of, structure_in, structure_of}
use Rattle.client_runs.specs.Released.{released}
use Rattle.client_runs.specs.Runs.{Event, IsRun, Keys, client_of, owner}
use Rattle.client_runs.proofs.Lowering.{low_client, low_owner}
use Rattle.client_runs.proofs.Mirrors.{Mirrors, mirrors}
use Rattle.agreement.proofs.Members.{In, in_contains, map-in}
use Rattle.fork_consistency.specs.Premises.{HasReleased}
use Rattle.honest_line.proofs.SignatureBytes.{signature_is_bytes}

-- the certificate fits its format, and its user's client released its text
pub record IsReleasedCert (run : List Event) (c : Signed Cert) : Type 0 where
  pub fits : (signed cert).Fits c
  pub released : HasReleased c.value.user run (cert.spell c.value)

-- and so it is with a structure
pub record IsReleasedStructure (run : List Event) (z : Signed Structure) : Type 0 where
  pub fits : (signed structure).Fits z
  pub released : HasReleased z.value.plan.user run (structure.spell z.value)

-- The text is such a certificate of this user's.
pub record IsOwnCert (run : List Event) (u : User) (text : Bytes) : Type 0 where
  pub value : Signed Cert
  pub spelled : text ≡ (signed cert).spell value
  pub user : value.value.user ≡ u
  pub is_released : IsReleasedCert run value

-- The text is such a structure.
pub record IsOwnStructure (run : List Event) (u : User) (text : Bytes) : Type 0 where
  pub value : Signed Structure
  pub spelled : text ≡ (signed structure).spell value
  pub user : value.value.plan.user ≡ u
  pub is_released : IsReleasedStructure run value

-- what isn't idle is as it is told
as_told : (told now : Phase) → IsPhase told now → (now ≡ phase.Idle → ⊥) → told ≡ now
as_told told now (inl same) busy = sym same
as_told told now (inr idle) busy = absurd (busy idle.1)

module _ (keys : Keys) (u : User) (run : List Event) (is : IsRun keys run) where
  abbrev o : low.Owner
  o = low_owner (owner keys u)

  abbrev m : Mirrors (owner keys u) (client_of u run) (released u run)
  m = mirrors keys u run is

  abbrev HoldsOf : Client → Type 0
  HoldsOf client = HoldsSome o (low_run.AreInTurn m.run) (low_client client) (released u run)

  held_now : HoldsOf (client_of u run)
  held_now =
      subst (λ (c : low.Client). HoldsSome o (low_run.AreInTurn m.run) c (released u run)) m.after
      (subst (λ (ts : List Bytes). HoldsSome o (low_run.AreInTurn m.run) (low_run.client_of m.run) ts) m.texts_are (holds o m.run m.is_run))

  -- ---- the latest release

  released_one : (message signature : Bytes) (v : User) → v ≡ u → length signature ≡ 2508 → In (message ++ signature) (released u run) → HasReleased v run message
  released_one message signature v own long i =
      subst (λ (w : User). HasReleased w run message) (sym own)
      (subst (λ (t : Bytes). Contains (map unsigned (released u run)) t) (unsigned_of message signature long)
      (in_contains (unsigned (message ++ signature)) (map unsigned (released u run)) (map-in unsigned (released u run) (message ++ signature) i)))

  abbrev AreReleased : List Release → Type 0
  AreReleased story = (r : Release) → In r story → In (release_text o r) (released u run)

  latest_cert : (story : List Release) → IsStory o story → AreReleased story → phase_in story ≡ phase.Declared → IsOwnCert run u (text_in o story)
  latest_cert [] story kept now = absurd (let two : phase.Idle ≡ phase.Declared = now in cc two)
  latest_cert (OfStructure n z q ∷ older) story kept now = absurd (let two : phase.Signed ≡ phase.Declared = now in cc two)
  latest_cert (OfCert n c q ∷ older) story kept now =
      let signature = signature_of (low.secret_of n o) q (cert.spell c) in
      let long = length-signature (low.secret_of n o) (cert.spell c) q in
      let next = story.0.next in
      record {
        value = record { value = c; signature = signature };
        spelled = refl;
        user = next.user;
        is_released = record {
          fits = (next.fits, (long, signature_is_bytes (low.secret_of n o) (cert.spell c) q));
          released = released_one (cert.spell c) signature c.user next.user long (kept (OfCert n c q) (inl refl));
        };
      }

  latest_structure : (story : List Release) → IsStory o story → AreReleased story → phase_in story ≡ phase.Signed → IsOwnStructure run u (text_in o story)
  latest_structure [] story kept now = absurd (let two : phase.Idle ≡ phase.Signed = now in cc two)
  latest_structure (OfCert n c q ∷ older) story kept now = absurd (let two : phase.Declared ≡ phase.Signed = now in cc two)
  latest_structure (OfStructure n z q ∷ older) story kept now =
      let signature = signature_of (low.secret_of n o) q (structure.spell z) in
      let long = length-signature (low.secret_of n o) (structure.spell z) q in
      let next = story.0.next in
      record {
        value = record { value = z; signature = signature };
        spelled = refl;
        user = next.user;
        is_released = record {
          fits = (next.fits, (long, signature_is_bytes (low.secret_of n o) (structure.spell z) q));
          released = released_one (structure.spell z) signature z.plan.user next.user long (kept (OfStructure n z q) (inl refl));
        };
      }

  -- ---- what is sent

  cert_by : (client : Client) → HoldsOf client → (text : Bytes) → certificate_of client ≡ Some text → IsOwnCert run u text
  cert_by (Closed p) h text sent = absurd (cc sent)
  cert_by (Open s) h text sent = go s.phase refl sent
    where
      go : (f : Phase) → s.phase ≡ f → certificate_in f s.text ≡ Some text → IsOwnCert run u text
      go phase.Declared now e =
          let at = h.held.own.stands (λ down. let two : phase.Declared ≡ phase.Failed = sym now ∙ down in cc two) in
          let told = as_told (phase_in h.story) s.phase at.phase (λ idle. let two : phase.Declared ≡ phase.Idle = sym now ∙ idle in cc two) ∙ now in
          let same : s.text ≡ text = cc e in
          subst (λ (t : Bytes). IsOwnCert run u t) (sym at.text ∙ same) (latest_cert h.story h.held.is_story h.held.kept told)
      go other now e = absurd (cc e)

  structure_by : (client : Client) → HoldsOf client → (text : Bytes) → structure_of client ≡ Some text → IsOwnStructure run u text
  structure_by (Closed p) h text sent = absurd (cc sent)
  structure_by (Open s) h text sent = go s.phase refl sent
    where
      go : (f : Phase) → s.phase ≡ f → structure_in f s.text ≡ Some text → IsOwnStructure run u text
      go phase.Signed now e =
          let at = h.held.own.stands (λ down. let two : phase.Signed ≡ phase.Failed = sym now ∙ down in cc two) in
          let told = as_told (phase_in h.story) s.phase at.phase (λ idle. let two : phase.Signed ≡ phase.Idle = sym now ∙ idle in cc two) ∙ now in
          let same : s.text ≡ text = cc e in
          subst (λ (t : Bytes). IsOwnStructure run u t) (sym at.text ∙ same) (latest_structure h.story h.held.is_story h.held.kept told)
      go other now e = absurd (cc e)

  -- a certificate that the user's client sends is one that it released
  pub sent_cert : (text : Bytes) → certificate_of (client_of u run) ≡ Some text → IsOwnCert run u text
  sent_cert text sent = cert_by (client_of u run) held_now text sent

  -- and so is a structure
  pub sent_structure : (text : Bytes) → structure_of (client_of u run) ≡ Some text → IsOwnStructure run u text
  sent_structure text sent = structure_by (client_of u run) held_now text sent
