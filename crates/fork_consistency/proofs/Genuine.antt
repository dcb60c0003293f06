-- Where no signature is forged, what is shown with a valid signature was released.
use Rattle.std.proofs.Common.{◌≡◌, ℕ, Bool, true, false, ◌==◌, List, [], ◌∷◌, ◌++◌, length, get_or, map, refl, sym, ap, ◌∙◌, subst, inl, inr, if◌then◌else◌, arith}
use Rattle.std.specs.List.{All, Contains}
use Rattle.std.proofs.lemmas.List.Elements.{All-weaker}
use Rattle.layout.specs.Types.{Bytes, Key, User}
use Rattle.lms_sign.specs.Signature.{signature_of, valid}
use Rattle.lms_sign.proofs.Validity.{length-signature}
use Rattle.version_order.specs.Structure.{Structure, structure}
use Rattle.version_order.specs.StructureLaws.{lawful_structure}
use Rattle.update_cert.specs.Cert.{cert}
use Rattle.client_releases.specs.Told.{cert_in}
use Rattle.agreement.proofs.Formed.{same_spelled}
use Rattle.agreement.proofs.Members.{In, contains_in, in-append, in-map, in-right, in_contains, map-in, of_all, to_all}
use Rattle.client_journal.specs.Records.{unsigned}
use Rattle.release_runs.specs.Steps as low
use Rattle.release_runs.proofs.Once.{came}
use Rattle.release_runs.proofs.Stories.{IsStory, OfCert, OfStructure, Release, cert_of, message, text as release_text}
use Rattle.client_releases.proofs.Again.{unsigned_of}
use Rattle.release_runs.proofs.Texts.{no_cert}
use Rattle.client_runs.specs.Runs.{Event, IsOwnKey, IsRun, Keys, owner, pinned, public_keys}
use Rattle.client_runs.specs.Released.{Shown, released, released_by, shown_by}
use Rattle.client_runs.proofs.Replies.{shown}
use Rattle.fork_consistency.specs.Premises.{AddsOwnKeys, AreKeys, EachRun, HasReleased, IsGenuine, NoCollision, NoForgery, NoneForgedOf, PinnedIsKey, Premises, everybody}
use Rattle.client_runs.specs.UsedOnce.{LeavesOnce}
use Rattle.release_runs.specs.UsedOnce.{AreApart}
use Rattle.fork_consistency.proofs.Holds.{structures}
use Rattle.client_runs.proofs.Lowering.{low_owner}
use Rattle.fork_consistency.proofs.Moves.{holds_at, signed_of}
use Rattle.client_runs.proofs.Once.{leaves_once}

pub released_later : (e : Event) (older : List Event) (u : User) (text : Bytes) → HasReleased u older text → HasReleased u (e ∷ older) text
released_later e older u text has = go (e.user == u)
  where
    more : Contains (map unsigned (released_by e.call e.after ++ released u older)) text
    more =
        let (a, i, same) = in-map unsigned (released u older) text (contains_in text (map unsigned (released u older)) has) in
        subst (λ (t : Bytes). Contains (map unsigned (released_by e.call e.after ++ released u older)) t) (sym same)
        (in_contains (unsigned a) (map unsigned (released_by e.call e.after ++ released u older))
        (map-in unsigned (released_by e.call e.after ++ released u older) a (in-right a (released_by e.call e.after) (released u older) i)))

    go : (b : Bool) → Contains (map unsigned (if b then released_by e.call e.after ++ released u older else released u older)) text
    go true = more
    go false = has

-- the key that every client knows is one of user 0's
pub pinned_own : (keys : Keys) → PinnedIsKey keys → IsOwnKey keys 0 (pinned keys)
pinned_own keys fits = go (public_keys keys 0) fits.0.0
  where
    go : (own : List Key) → length (get_or own 0 []) ≡ 56 → Contains own (get_or own 0 [])
    go [] size = absurd (omega (arith, size))
    go (k ∷ own) size = in_contains k (k ∷ own) (inl refl)

-- what verifies under one of the user's keys was released by the user's client
abbrev pub IsReleasedText : Keys → List Event → Shown → Type 0
IsReleasedText keys older t = (key : Key) → IsOwnKey keys t.user key → valid key t.text t.signature ≡ true → HasReleased t.user older t.text

-- so does each text that is shown, at an earlier step
abbrev pub AllGenuine : Keys → List Event → Type 0
AllGenuine keys [] = Unit {0}
AllGenuine keys (e ∷ older) = All (IsReleasedText keys older) (shown_by e.call) × AllGenuine keys older

-- no leaf of a key carries two texts, so that what the premise says under this condition holds
module _ (keys : Keys) (apart : (u : User) → AreApart (keys u)) (whole : List Event) (once : (u : User) → LeavesOnce keys u whole) where
  each_genuine : (run : List Event) → NoneForgedOf everybody keys whole run → AllGenuine keys run
  each_genuine [] none = tt
  each_genuine (e ∷ older) none =
      (to_all (IsReleasedText keys older) (shown_by e.call) (λ t j. of_all (λ (x : Shown). everybody x.user → IsGenuine keys whole older x) (shown_by e.call) none.0 t j tt (apart t.user) (once t.user)), each_genuine older none.1)

pub all_genuine : (keys : Keys) (run : List Event) → IsRun keys run → AreKeys keys → NoForgery keys run → AllGenuine keys run
all_genuine keys run is are none = each_genuine keys (λ u. are.apart u tt) run (λ u. leaves_once keys run u is) run none

-- and where what is shown was released, nothing is forged
pub none_forged : (keys : Keys) (whole run : List Event) → AllGenuine keys run → NoneForgedOf everybody keys whole run
none_forged keys whole [] all = tt
none_forged keys whole (e ∷ older) all =
    (All-weaker (IsReleasedText keys older) (λ (t : Shown). everybody t.user → IsGenuine keys whole older t) (λ t g one apart once. g) (shown_by e.call) all.0, none_forged keys whole older all.1)

-- What is shown with a valid signature was released, no digest collides, and user 0's client gave each user no key but
-- the user's own.
pub record IsGenuineRun (keys : Keys) (run : List Event) : Type 0 where
  pub genuine : AllGenuine keys run
  pub no_collision : NoCollision keys run
  pub added : AddsOwnKeys keys run

pub genuine_run : (keys : Keys) (run : List Event) → IsRun keys run → AreKeys keys → Premises keys run → IsGenuineRun keys run
genuine_run keys run is are p = record { genuine = all_genuine keys run is are p.no_forgery; no_collision = p.no_collision; added = p.added }

-- so what holds of such runs holds of each that meets the premises
pub of_premises : (holds : Keys → List Event → Type 0) → ((keys : Keys) (run : List Event) → IsRun keys run → PinnedIsKey keys → IsGenuineRun keys run → holds keys run) → EachRun holds
of_premises holds law keys run is are p = law keys run is are.pinned (genuine_run keys run is are p)

pub genuine : (keys : Keys) (run : List Event) → AllGenuine keys run → (t : Shown) → In t (shown run) → (key : Key) → IsOwnKey keys t.user key → valid key t.text t.signature ≡ true → HasReleased t.user run t.text
genuine keys [] none t i key own v = absurd i
genuine keys (e ∷ older) none t i key own v =
    elim (in-append t (shown_by e.call) (shown older) i) [
      | inl j ↦ released_later e older t.user t.text (of_all (IsReleasedText keys older) (shown_by e.call) none.0 t j key own v)
      | inr j ↦ released_later e older t.user t.text (genuine keys older none.1 t j key own v)
    ]

-- ---- structures

in_structures : (story : List Release) (n : ℕ) (y : Structure) (q : ℕ) → In (OfStructure n y q) story → In y (structures story)
in_structures [] n y q i = absurd i
in_structures (OfCert m c p ∷ older) n y q (inl e) = absurd cc
in_structures (OfCert m c p ∷ older) n y q (inr i) = in_structures older n y q i
in_structures (OfStructure m z p ∷ older) n y q (inl e) = inl cc
in_structures (OfStructure m z p ∷ older) n y q (inr i) = inr (in_structures older n y q i)

module _ (o : low.Owner) where
  pub message_of : (r : Release) → unsigned (release_text o r) ≡ message r
  message_of (OfCert n c q) = unsigned_of (cert.spell c) (signature_of (low.secret_of n o) q (cert.spell c)) (length-signature (low.secret_of n o) (cert.spell c) q)
  message_of (OfStructure n z q) = unsigned_of (structure.spell z) (signature_of (low.secret_of n o) q (structure.spell z)) (length-signature (low.secret_of n o) (structure.spell z) q)

module _ (o : low.Owner) (z : Structure) (fits : structure.Fits z) where
  of_release : (story : List Release) → IsStory o story → (r : Release) → In r story → structure.spell z ≡ message r → In z (structures story)
  of_release story is_story (OfStructure n y q) j spelled =
      let before = came o story is_story (OfStructure n y q) j in
      let one = same_spelled structure lawful_structure z y fits before.1.fits spelled in
      subst (λ (x : Structure). In x (structures story)) (sym one) (in_structures story n y q j)
  of_release story is_story (OfCert n c q) j spelled =
      let before = came o story is_story (OfCert n c q) j in
      let some = cert_of o n c q before.0 before.1 in
      let none = ap (λ (m : Bytes). cert_in o.user (m ++ signature_of (low.secret_of n o) q (cert.spell c))) (sym spelled) ∙ no_cert o.user z (signature_of (low.secret_of n o) q (cert.spell c)) in
      absurd (cc (sym some ∙ none))

-- a structure whose text was released is signed over an accepted view
pub released_structure : (keys : Keys) (run : List Event) → IsRun keys run → (u : User) (z : Structure) → structure.Fits z → HasReleased u run (structure.spell z) → In z (signed_of u run)
released_structure keys run is u z fits has =
    let h = holds_at keys u run is in
    let (a, i, same) = in-map unsigned (released u run) (structure.spell z) (contains_in (structure.spell z) (map unsigned (released u run)) has) in
    let (r, j, at) = h.low.released a i in
    subst (λ (l : List Structure). In z l) (sym h.viewed)
    (of_release (low_owner (owner keys u)) z fits h.story h.low.is_story r j (same ∙ ap unsigned at ∙ message_of (low_owner (owner keys u)) r))
