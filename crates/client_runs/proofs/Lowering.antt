-- What a client's calls are to client_releases.
use Rattle.std.proofs.Common.{◌≡◌, ◌<◌, ℕ, List, [], ◌∷◌, length, take, Option, Some, None, Result, Ok, Err, IfSome, IsSome, inl, inr, refl, sym, ap, ◌∙◌, subst, arith}
use Rattle.std.proofs.lemmas.List.{length-map, map-append}
use Rattle.std.specs.Prelude.{◌⊎◌, IsErrOf}
use Rattle.layout.specs.Types.{Bytes, Digest}
use Rattle.leaf_ledger.specs.Ledger.{LeafNumber}
use Rattle.version_order.specs.Structure.{structure}
use Rattle.update_cert.specs.Change.{Change}
use Rattle.client_releases.specs.declared.error.ClientError.{ClientError}
use Rattle.client_releases.specs.declared.error.ClientError.TheVariants as error
use Rattle.client_releases.specs.Releasing.{IsKept, IsTried, OthersStay, structure_record, under}
use Rattle.client_releases.specs.Told.{HasKey}
use Rattle.release_runs.specs.Steps as low
use Rattle.client_verify.specs.State.{IsOfDeclared, Ready, State, newest_key, next_cert, next_structure, on, over, released, signed_over, signed_text, signing_key}
use Rattle.client_steps.specs.Steps.{Client, Closed, Device, HasBegun, HasGained, HasResigned, HasSigned, IsHandedBack, IsLeft, IsOpened, IsSound, Open, Owner, Parts, empty, files_of}

-- the owner, the devices and the client, as client_releases has them
abbrev pub low_owner : Owner → low.Owner
low_owner o = record { user = o.user; secrets = o.secrets }

abbrev pub low_parts : Parts → low.Parts
low_parts p = record { ledgers = files_of p.ledgers; journal = p.journal.history }

abbrev pub low_client : Client → low.Client
low_client (Closed p) = low.Closed (low_parts p)
low_client (Open s) = low.Open (released s)

pub low_left : (before : Client) (p : Parts) → IsLeft before p → low.IsLeft (low_client before) (low_parts p)
low_left (Closed q) p is = record { ledgers = is.ledgers; journal = is.journal }
low_left (Open s) p is = record { ledgers = is.ledgers; journal = is.journal }

pub low_opened : (o : Owner) (p : Parts) (s : State) → IsOpened o p s → low.IsOpened (low_owner o) (low_parts p) (released s)
low_opened o p s is =
    let size : length p.ledgers ≡ length (files_of p.ledgers) = sym (length-map p.ledgers (λ (d : Device). d.history)) in
    record { user = is.user; secrets = is.secrets ∙ ap (λ n. take n o.secrets) size; told = is.told; moments = is.moments }

pub low_handed_back : (s : State) (p : Parts) → IsHandedBack s p → low.IsHandedBack (released s) (low_parts p)
low_handed_back s p is = record { ledgers = is.ledgers; journal = is.journal }

pub low_gained : (o : Owner) (p q : Parts) → HasGained o p q → low.HasGained (low_owner o) (low_parts p) (low_parts q)
low_gained o p q is = record {
  fewer = subst (λ n. n < length o.secrets) (sym (length-map p.ledgers (λ (d : Device). d.history))) is.fewer;
  ledgers = ap files_of is.ledgers ∙ map-append (λ (d : Device). d.history) p.ledgers (empty ∷ []);
  journal = ap (λ (d : Device). d.history) is.journal;
}

-- ---- certificates

-- there is a newest key
newest_held : (s : State) → HasKey 0 (released s) → HasKey (newest_key s) (released s)
unfolding newest_key
newest_held s some = omega (arith, some)

module _ (s new : State) (some : HasKey 0 (released s)) (changes : List (Change Digest)) (laid : List Bytes) where
  pub low_begun : (text : Bytes) → HasBegun s changes laid (Ok text) new → low.HasDeclared (released s) (newest_key s) (next_cert s changes) (Ok text) (released new)
  low_begun text b = record { idle = b.idle; has = newest_held s some; fits = b.fits; user = refl; declared = (b.declared.0, b.declared.1, ap released b.declared.2); text = b.text; tried = tt; others = b.others; err = tt }

  pub low_begin_failed : HasBegun s changes laid (Err error.Device) new → low.HasDeclared (released s) (newest_key s) (next_cert s changes) (Err error.Device) (released new)
  low_begin_failed b = record { idle = b.idle; has = newest_held s some; fits = b.fits_device refl; user = refl; declared = tt; text = tt; tried = b.tried; others = b.others; err = ap released (b.fails refl) }

module _ (s new : State) (n : ℕ) where
  pub low_resigned : (text : Bytes) → HasResigned s n (Ok text) new → low.HasResigned (released s) n (Ok text) (released new)
  low_resigned text b = record { declared = b.declared; has = b.has; resigned = (b.resigned.0, b.resigned.1, ap released b.resigned.2); text = b.text; tried = tt; others = b.others; err = tt }

  pub low_resign_failed : HasResigned s n (Err error.Device) new → low.HasResigned (released s) n (Err error.Device) (released new)
  low_resign_failed b = record { declared = b.declared; has = b.has; resigned = tt; text = tt; tried = b.tried; others = b.others; err = ap released (b.fails refl) }

-- ---- structures

pub with_ready : (s : State) (P : Type 0) → IsSome s.accepted → ((y : Ready) → s.accepted ≡ Some y → P) → P
with_ready s P some each = go s.accepted refl some
  where
    go : (a : Option Ready) → s.accepted ≡ a → IsSome a → P
    go None is some = absurd (cc some)
    go (Some y) is some = each y is

module _ (s new : State) (y : Ready) (ready : s.accepted ≡ Some y) where
  pub if_ready : (P : Ready → Type 0) → IfSome s.accepted P → P y
  if_ready P p = subst (λ (a : Option Ready). IfSome a P) ready p

  pub of_declared : IsSound (Open s) → IsOfDeclared (released s) y.lists.own.plan
  of_declared before = if_ready (λ r. IsOfDeclared (released s) r.lists.own.plan) before.1.of_accepted

  -- the key that signed is there
  if_held : (answer : Result Bytes ClientError) → IsErrOf answer error.NoKey ⊎ HasKey (signing_key s y) (released s) → (IsErrOf answer error.NoKey → ⊥) → HasKey (signing_key s y) (released s)
  if_held answer (inl lacks) other = absurd (other lacks)
  if_held answer (inr has) other = has

  pub low_signed : (text : Bytes) → IsSound (Open s) → HasSigned s (Ok text) new → low.HasSigned (released s) (signing_key s y) (next_structure s y) (Ok text) (released new)
  low_signed text before b =
      let declared = of_declared before in
      let done = if_ready (λ r. (leaf : LeafNumber) × IsKept leaf (structure_record (signed_text s leaf r)) (under (signing_key s r) s.devices) (under (signing_key s r) new.devices) × (new ≡ over new.blocks (on new.devices (signed_over s leaf r)))) b.signed in
      record {
        declared = declared.is_declared;
        has = if_held (Ok text) (if_ready (λ r. IsErrOf (Ok text) error.NoKey ⊎ HasKey (signing_key s r) (released s)) b.own) (λ is. cc is);
        fits = if_ready (λ r. structure.Fits (next_structure s r)) b.fits;
        user = declared.user;
        number = declared.number;
        signed = (done.0, done.1, ap released done.2);
        text = b.text;
        tried = tt;
        others = if_ready (λ r. OthersStay (signing_key s r) s.devices new.devices) b.others;
        err = tt;
      }

  pub low_sign_failed : IsSound (Open s) → HasSigned s (Err error.Device) new → low.HasSigned (released s) (signing_key s y) (next_structure s y) (Err error.Device) (released new)
  low_sign_failed before b =
      let declared = of_declared before in
      record {
        declared = declared.is_declared;
        has = if_held (Err error.Device) (if_ready (λ r. IsErrOf {T = Bytes} (Err error.Device) error.NoKey ⊎ HasKey (signing_key s r) (released s)) b.own) (λ is. cc is);
        fits = if_ready (λ r. structure.Fits (next_structure s r)) (b.fits_device refl);
        user = declared.user;
        number = declared.number;
        signed = tt;
        text = tt;
        tried = if_ready (λ r. IsTried (λ leaf. structure_record (signed_text s leaf r)) (under (signing_key s r) s.devices) (under (signing_key s r) new.devices)) b.tried;
        others = if_ready (λ r. OthersStay (signing_key s r) s.devices new.devices) b.others;
        err = ap released (b.fails refl);
      }
