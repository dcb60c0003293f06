-- What a client declares and signs is what honest clients declare and sign.
use Rattle.std.proofs.Common.{◌≡◌, ◌+◌, ◌<◌, ℕ, true, List, [], ◌∷◌, length, get_or, take, arith, Option, Some, None, IfSome, refl, sym, ap, ◌∙◌, subst}
use Rattle.std.specs.Prelude.{◌==◌, if◌then◌else◌, min}
use Rattle.std.specs.List.{position}
use Rattle.std.specs.Option.{option_and_then}
use Rattle.std.proofs.Math.Nat.{min-le_left, min-le_right}
use Rattle.std.proofs.lemmas.List.{get_or-take, length-take}
use Rattle.std.proofs.lemmas.List.Quantifiers.{position-Some}
use Rattle.std.proofs.lemmas.Slice.Eq.{bytes_eq-Decides}
use Rattle.layout.specs.Types.{Key, User}
use Rattle.lms_sign.specs.Keys.{public_key_of}
use Rattle.lms_sign.specs.Secret.{HasLeaf, Secret}
use Rattle.lms_sign.specs.Signature.{valid}
use Rattle.lms_sign.proofs.Validity.{signed_valid}
use Rattle.leaf_ledger.specs.Ledger.{LeafNumber}
use Rattle.principals.specs.Table.{key_at}
use Rattle.version_order.specs.Structure.{Structure, structure}
use Rattle.version_order.specs.Vector.{version_of}
use Rattle.update_cert.specs.Cert.{Cert, cert}
use Rattle.pending_list.specs.declared.signed.Signed.{Signed}
use Rattle.pending_list.specs.Reply.{digest_of_last}
use Rattle.client_releases.specs.declared.phase.Phase.TheVariants as phase
use Rattle.client_releases.specs.Releasing.{no_secret}
use Rattle.client_releases.specs.Told.{HasKey, has_public}
use Rattle.client_verify.specs.State.{Ready, State, named_key as held_key, next_structure, released, signer_of, signing_key}
use Rattle.client_verify.proofs.Releasing.{no_signer, signer_is}
use Rattle.client_runs.specs.Released.{view_over}
use Rattle.client_runs.specs.Runs.{Keys, pinned}
use Rattle.release_runs.specs.Steps as low
use Rattle.release_runs.proofs.Stories.{IsStory, OfCert, OfStructure, Release, last_in, phase_in}
use Rattle.release_runs.proofs.Stories as stories
use Rattle.honest_history.specs.Honest.{Naming, number_in}
use Rattle.honest_history.specs.Served.{IsTableOf}
use Rattle.honest_dialogues.specs.Dialogue.{IsNextCert, named_key}
use Rattle.honest_dialogues.specs.Signing.{HasRecords}
use Rattle.honest_dialogues.proofs.Signing.{each_signs_over}
use Rattle.honest_line.proofs.Follows.{Mark, MaySeal, o, signed_cert, signed_structure}
use Rattle.honest_line.proofs.SignatureBytes.{signed_fits}
use Rattle.honest_line.proofs.Spelled.{signed_cert_is_bytes, signed_structure_is_bytes}

-- the key's identifier has 16 bytes, and each of its leaves can sign
abbrev pub IsSigner : Secret → Type 0
IsSigner secret = (length secret.id ≡ 16) × ((leaf : LeafNumber) → leaf < 1024 → HasLeaf secret leaf)

-- so is each key of a user
abbrev pub CanSign : Keys → User → Type 0
CanSign keys u = (n : ℕ) → n < length (keys u) → IsSigner (low.secret_of n (record { user = u; secrets = keys u }))

module _ (keys : Keys) (naming : Naming) (u : User) where
  -- the number of a client that has declared nothing is that of its last structure
  pub number_is : (story : List Release) → IsStory (o keys naming u) story → (phase_in story ≡ phase.Declared → ⊥) → stories.number_in story ≡ number_in (last_in (o keys naming u) story)
  number_is [] is up = refl
  number_is (OfCert n c q ∷ older) is up = absurd (up refl)
  number_is (OfStructure n z q ∷ older) is up = sym is.0.next.number

  pub may_declare : (last : Option (Signed Structure)) (c : Cert) (q : Mark) → cert.Fits c → c.user ≡ u → c.number ≡ number_in last + 1 → c.last ≡ digest_of_last last → IsNextCert u last (signed_cert keys naming u c q)
  may_declare last c q fits user number digest = record {
    user = user;
    number = number;
    last_digest = digest;
    fits = (fits, signed_fits (low.secret_of q.0 (o keys naming u)) (cert.spell c) q.1);
    bytes = signed_cert_is_bytes (low.secret_of q.0 (o keys naming u)) q.1 c fits;
  }

  -- the key of this number is the one that the table names
  abbrev pub IsNamed : Ready → Mark → Type 0
  IsNamed y q = IfSome (named_key (pinned keys) y.table y.lists.own.plan) (λ key. key ≡ public_key_of (low.secret_of q.0 (o keys naming u)))

  -- ---- the keys of a client

  module _ (s : State) (opened : ℕ) (own : s.secrets ≡ take opened (keys u)) where
    -- a key of the client is its user's
    pub own_number : (n : ℕ) → n < length s.secrets → n < length (keys u)
    own_number n has =
        let size : length s.secrets ≡ min opened (length (keys u)) = ap length own ∙ length-take opened (keys u) in
        omega (arith, min-le_right opened (length (keys u)))

    pub same_secret : (n : ℕ) → n < length s.secrets → get_or s.secrets n no_secret ≡ low.secret_of n (o keys naming u)
    same_secret n has =
        let size : length s.secrets ≡ min opened (length (keys u)) = ap length own ∙ length-take opened (keys u) in
        ap (λ (l : List Secret). get_or l n no_secret) own ∙ get_or-take opened (keys u) n no_secret (omega (arith, min-le_left opened (length (keys u))))

  -- ---- the key that signs

  module _ (s : State) (y : Ready) (opened : ℕ) (own : s.secrets ≡ take opened (keys u)) where
    abbrev IsHeldAs : Key → ℕ → Type 0
    IsHeldAs key n = (n < length s.secrets) × (public_key_of (get_or s.secrets n no_secret) ≡ key)

    found : (key : Key) (n : ℕ) → position (has_public key) s.secrets ≡ Some n → IsHeldAs key n
    found key n at =
        let p = position-Some (has_public key) s.secrets n no_secret at in
        (p.0, (bytes_eq-Decides (public_key_of (get_or s.secrets n no_secret)) key).0 p.1)

    -- the number of the key that is named
    signer : (k : Option ℕ) → signer_of s y ≡ k → HasKey (signing_key s y) (released s) → signer_of s y ≡ Some (signing_key s y)
    signer None is has = absurd (no_signer s y is has)
    signer (Some n) is has = is ∙ ap (λ (k : ℕ). Some k) (signer_is s y (Some n) (sym is))

    held_as_named : (k : Option Key) → held_key s.pinned s.user y ≡ k → (n : ℕ) → signer_of s y ≡ Some n → IfSome k (λ key. IsHeldAs key n)
    unfolding signer_of
    held_as_named None at n is = tt
    held_as_named (Some key) at n is = found key n (sym (ap (λ (k : Option Key). option_and_then (λ x. position (has_public x) s.secrets) k) at) ∙ is)

    -- what the client takes for it is what the table names
    same_named : s.pinned ≡ pinned keys → y.lists.own.plan.user ≡ s.user → named_key (pinned keys) y.table y.lists.own.plan ≡ held_key s.pinned s.user y
    same_named super user =
        ap (λ (v : User). if v == 0 then Some (pinned keys) else key_at v (version_of 0 y.lists.own.plan.vector) y.table) user
        ∙ ap (λ (k : Key). if s.user == 0 then Some k else key_at s.user (version_of 0 y.lists.own.plan.vector) y.table) (sym super)

    -- the key that signs is the one that the table names
    pub signs_named : s.pinned ≡ pinned keys → y.lists.own.plan.user ≡ s.user → HasKey (signing_key s y) (released s) → (q : LeafNumber) → IsNamed y (signing_key s y, q)
    signs_named super user has q =
        subst (λ (k : Option Key). IfSome k (λ key. key ≡ public_key_of (low.secret_of (signing_key s y) (o keys naming u)))) (sym (same_named super user))
        (go (held_key s.pinned s.user y) (held_as_named (held_key s.pinned s.user y) refl (signing_key s y) (signer (signer_of s y) refl has)))
      where
        go : (k : Option Key) → IfSome k (λ key. IsHeldAs key (signing_key s y)) → IfSome k (λ key. key ≡ public_key_of (low.secret_of (signing_key s y) (o keys naming u)))
        go None held = tt
        go (Some key) held = sym held.1 ∙ ap public_key_of (same_secret s opened own (signing_key s y) held.0)

  module _ (can : CanSign keys u) where
    pub may_seal : (s : State) (y : Ready) (q : Mark) → structure.Fits (next_structure s y) → q.0 < length (keys u) → q.1 < 1024 → IsNamed y q → IsTableOf naming (pinned keys) y.lists y.table → HasRecords y
        → MaySeal keys naming u s.last y.lists (view_over s y) (signed_structure keys naming u (next_structure s y) q)
    may_seal s y q fits own small named table records names =
        let secret : Secret = low.secret_of q.0 (o keys naming u) in
        let text = structure.spell (next_structure s y) in
        record {
          lists = refl;
          table = table;
          view_signed = refl;
          over = each_signs_over naming s y records names;
          fits = (fits, signed_fits secret text q.1);
          bytes = signed_structure_is_bytes secret q.1 (next_structure s y) fits;
          is_signed = under (named_key (pinned keys) y.table y.lists.own.plan) named;
        }
      where
        under : (o' : Option Key) → IfSome o' (λ key. key ≡ public_key_of (low.secret_of q.0 (o keys naming u)))
            → IfSome o' (λ key. valid key (structure.spell (next_structure s y)) (signed_structure keys naming u (next_structure s y) q).signature ≡ true)
        under None is = tt
        under (Some key) is =
            subst (λ (k : Key). valid k (structure.spell (next_structure s y)) (signed_structure keys naming u (next_structure s y) q).signature ≡ true) (sym is)
            (signed_valid (low.secret_of q.0 (o keys naming u)) (structure.spell (next_structure s y)) q.1 (can q.0 own).0 small ((can q.0 own).1 q.1 small))
