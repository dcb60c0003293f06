-- The same of a client's fields and of what its callers see.
use Rattle.std.proofs.Common.{◌≡◌, ℕ, List, ◌++◌, Some, ◌∙◌, ap, subst}
use Rattle.lms_sign.specs.Signature.{signature_of}
use Rattle.leaf_ledger.specs.Ledger.{IsLeastFree, LeafNumber}
use Rattle.client_journal.specs.declared.kind.Kind.{Kind}
use Rattle.client_journal.specs.declared.kind.Kind.TheVariants as kind
use Rattle.version_order.specs.Structure.{Structure, structure}
use Rattle.pending_list.specs.declared.signed.Signed.{Signed}
use Rattle.client_releases.specs.Releasing.{AnyMoment, IsKept, IsTried, OneHasRisen, OwnDevices, cert_record, ledger_at, structure_record, under}
use Rattle.client_releases.specs.Told.{Released, secret_at, sent, signed_by}
use Rattle.client_releases.specs.declared.phase.Phase.TheVariants as phase

-- a client with what a call changes
abbrev pub declared_with : Released → OwnDevices → ℕ → List ℕ → Released
declared_with r new n text = record { user = r.user; secrets = r.secrets; devices = new; number = n; last = r.last; phase = phase.Declared; text = text }

abbrev pub again_with : Released → OwnDevices → List ℕ → Released
again_with r new text = record { user = r.user; secrets = r.secrets; devices = new; number = r.number; last = r.last; phase = r.phase; text = text }

abbrev pub signed_with : Released → OwnDevices → Signed Structure → List ℕ → Released
signed_with r new z text = record { user = r.user; secrets = r.secrets; devices = new; number = r.number; last = Some z; phase = phase.Signed; text = text }

abbrev pub failed_with : Released → OwnDevices → Released
failed_with r new = record { user = r.user; secrets = r.secrets; devices = new; number = r.number; last = r.last; phase = phase.Failed; text = r.text }

abbrev pub with_signature : Structure → List ℕ → Signed Structure
with_signature z signature = record { value = z; signature = signature }

module _ (r old : Released) (is : r ≡ old) (n : ℕ) (unsigned : List ℕ) (new : OwnDevices) where
  pub moments_of : (k : Kind) → ((leaf : LeafNumber) → IsLeastFree (ledger_at n r.devices).file.now.text leaf → AnyMoment leaf (record { kind = k; text = sent r n leaf unsigned }) (under n r.devices) (under n new))
      → (leaf : LeafNumber) → IsLeastFree (ledger_at n old.devices).file.now.text leaf → AnyMoment leaf (record { kind = k; text = sent old n leaf unsigned }) (under n old.devices) (under n new)
  moments_of k all = subst (λ (o : Released). (leaf : LeafNumber) → IsLeastFree (ledger_at n o.devices).file.now.text leaf → AnyMoment leaf (record { kind = k; text = sent o n leaf unsigned }) (under n o.devices) (under n new)) is all

  pub tried_of : (k : Kind) → IsTried (λ leaf. record { kind = k; text = sent r n leaf unsigned }) (under n r.devices) (under n new) → IsTried (λ leaf. record { kind = k; text = sent old n leaf unsigned }) (under n old.devices) (under n new)
  tried_of k tried = subst (λ (o : Released). IsTried (λ leaf. record { kind = k; text = sent o n leaf unsigned }) (under n o.devices) (under n new)) is tried

  pub risen_of : OneHasRisen (under n r.devices) (under n new) → OneHasRisen (under n old.devices) (under n new)
  risen_of risen = subst (λ (o : Released). OneHasRisen (under n o.devices) (under n new)) is risen

  module _ (signature text : List ℕ) (leaf : LeafNumber) (made : signature ≡ signature_of (secret_at n r) leaf unsigned) (all : text ≡ unsigned ++ signature) where
    text_is : text ≡ sent old n leaf unsigned
    text_is = all ∙ ap (λ (s : List ℕ). unsigned ++ s) made ∙ ap (λ (o : Released). sent o n leaf unsigned) is

    kept_of : (k : Kind) → IsKept leaf (record { kind = k; text = text }) (under n r.devices) (under n new) → IsKept leaf (record { kind = k; text = sent old n leaf unsigned }) (under n old.devices) (under n new)
    kept_of k kept = subst (λ (o : Released). IsKept leaf (record { kind = k; text = sent old n leaf unsigned }) (under n o.devices) (under n new)) is
        (subst (λ (t : List ℕ). IsKept leaf (record { kind = k; text = t }) (under n r.devices) (under n new)) text_is kept)

    pub declared_of : (a b : ℕ) → a ≡ b → IsKept leaf (record { kind = kind.Certificate; text = text }) (under n r.devices) (under n new)
        → (k : LeafNumber) × IsKept k (cert_record (sent old n k unsigned)) (under n old.devices) (under n new) × (declared_with r new a text ≡ declared_with old new b (sent old n k unsigned))
    declared_of a b number kept = (
      leaf,
      kept_of kind.Certificate kept,
      ap (λ (o : Released). declared_with o new a text) is ∙ ap (λ (t : List ℕ). declared_with old new a t) text_is ∙ ap (λ (k : ℕ). declared_with old new k (sent old n leaf unsigned)) number,
    )

    pub again_of : IsKept leaf (record { kind = kind.Certificate; text = text }) (under n r.devices) (under n new)
        → (k : LeafNumber) × IsKept k (cert_record (sent old n k unsigned)) (under n old.devices) (under n new) × (again_with r new text ≡ again_with old new (sent old n k unsigned))
    again_of kept = (leaf, kept_of kind.Certificate kept, ap (λ (o : Released). again_with o new text) is ∙ ap (λ (t : List ℕ). again_with old new t) text_is)

    signed_is : (z : Structure) → unsigned ≡ structure.spell z → with_signature z signature ≡ signed_by (secret_at n old) leaf z
    signed_is z spelled =
        let there : signature ≡ signature_of (secret_at n old) leaf (structure.spell z) =
        made ∙ ap (λ (o : Released). signature_of (secret_at n o) leaf unsigned) is ∙ ap (λ (u : List ℕ). signature_of (secret_at n old) leaf u) spelled in
        ap (λ (s : List ℕ). with_signature z s) there

    pub signed_of : (z : Structure) → unsigned ≡ structure.spell z → IsKept leaf (record { kind = kind.Structure; text = text }) (under n r.devices) (under n new)
        → (k : LeafNumber) × IsKept k (structure_record (sent old n k unsigned)) (under n old.devices) (under n new) × (signed_with r new (with_signature z signature) text ≡ signed_with old new (signed_by (secret_at n old) k z) (sent old n k unsigned))
    signed_of z spelled kept = (
      leaf,
      kept_of kind.Structure kept,
      ap (λ (o : Released). signed_with o new (with_signature z signature) text) is
          ∙ ap (λ (s : Signed Structure). signed_with old new s text) (signed_is z spelled)
          ∙ ap (λ (t : List ℕ). signed_with old new (signed_by (secret_at n old) leaf z) t) text_is,
    )

-- a client of which a device failed
pub failed_of : (r old : Released) → r ≡ old → (new : OwnDevices) → failed_with r new ≡ failed_with old new
failed_of r old is new = ap (λ (o : Released). failed_with o new) is
