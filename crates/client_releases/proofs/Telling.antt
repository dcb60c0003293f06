-- What records tell after one more.
use Rattle.std.proofs.Common.{◌≡◌, ◌==◌, ℕ, List, ◌++◌, Option, Some, None, IsSome, Bool, true, false, if◌then◌else◌, refl, sym, ◌∙◌, ap, subst, arith, inl, inr}
use Rattle.std.proofs.lemmas.Bool.Decides.{nat_tests}
use Rattle.std.specs.Option.{option_and_then, option_map}
use Rattle.layout.specs.Laws.{whole_again}
use Rattle.version_order.specs.Structure.{Structure, structure}
use Rattle.version_order.specs.StructureLaws.{lawful_structure}
use Rattle.update_cert.specs.Cert.{Cert, cert}
use Rattle.update_cert.specs.CertLaws.{lawful_cert}
use Rattle.pending_list.specs.declared.signed.Signed.{Signed}
use Rattle.pending_list.specs.Signed.{signed, signature as signature_format}
use Rattle.pending_list.specs.SignedLaws.{lawful_signed}
use Rattle.client_journal.specs.Records.{State as Recorded, Idle, Declared, Signed as Ended, next_state, same_unsigned}
use Rattle.client_journal.specs.declared.kind.Kind.TheVariants as kind
use Rattle.client_releases.specs.Told.{IsPhase, Told, after_cert, after_structure, cert_in, structure_in, told_by}
use Rattle.client_releases.specs.declared.phase.Phase.{Phase}
use Rattle.client_releases.specs.declared.phase.Phase.TheVariants as phase

same_user : (a b : ℕ) → a ≡ b → (a == b) ≡ true
same_user a b = grind (arith, nat_tests)

-- what this user signed is read again
pub cert_read : (user : ℕ) (c : Signed Cert) → (signed cert).Fits c → c.value.user ≡ user → cert_in user ((signed cert).spell c) ≡ Some c
cert_read user c fits own = rw (whole_again (signed cert) (lawful_signed cert lawful_cert) c fits, same_user c.value.user user own) refl

pub structure_read : (user : ℕ) (z : Signed Structure) → (signed structure).Fits z → z.value.plan.user ≡ user → structure_in user ((signed structure).spell z) ≡ Some z
structure_read user z fits own = rw (whole_again (signed structure) (lawful_signed structure lawful_structure) z fits, same_user z.value.plan.user user own) refl

pub cert_there : (user : ℕ) (c : Cert) (signature unsigned text : List ℕ) → cert.Fits c → signature_format.Fits signature → unsigned ≡ cert.spell c → text ≡ unsigned ++ signature → c.user ≡ user
    → cert_in user text ≡ Some (record { value = c; signature = signature })
cert_there user c signature unsigned text fits sign spelled all own =
    subst (λ (t : List ℕ). cert_in user t ≡ Some (record { value = c; signature = signature })) (sym (all ∙ ap (λ (u : List ℕ). u ++ signature) spelled))
    (cert_read user (record { value = c; signature = signature }) (fits, sign) own)

pub structure_there : (user : ℕ) (z : Structure) (signature unsigned text : List ℕ) → structure.Fits z → signature_format.Fits signature → unsigned ≡ structure.spell z → text ≡ unsigned ++ signature → z.plan.user ≡ user
    → structure_in user text ≡ Some (record { value = z; signature = signature })
structure_there user z signature unsigned text fits sign spelled all own =
    subst (λ (t : List ℕ). structure_in user t ≡ Some (record { value = z; signature = signature })) (sym (all ∙ ap (λ (u : List ℕ). u ++ signature) spelled))
    (structure_read user (record { value = z; signature = signature }) (fits, sign) own)

-- ---- which record may come, by the phase

after_cert_phase : (last : Option (Signed Structure)) (text : List ℕ) (o : Option (Signed Cert)) (t : Told) → option_map (after_cert last text) o ≡ Some t → t.phase ≡ phase.Declared
after_cert_phase last text None t e = absurd (cc e)
after_cert_phase last text (Some c) t e = let same : after_cert last text c ≡ t = cc in sym (ap (λ (x : Told). x.phase) same)

after_both_phase : (user : ℕ) (o : Option (Signed Structure)) (text : List ℕ) (t : Told) → option_and_then (λ z. option_map (after_cert (Some z) text) (cert_in user text)) o ≡ Some t → t.phase ≡ phase.Declared
after_both_phase user None text t e = absurd (cc e)
after_both_phase user (Some z) text t e = after_cert_phase (Some z) text (cert_in user text) t e

pub after_structure_phase : (text : List ℕ) (o : Option (Signed Structure)) (t : Told) → option_map (after_structure text) o ≡ Some t → t.phase ≡ phase.Signed
after_structure_phase text None t e = absurd (cc e)
after_structure_phase text (Some z) t e = let same : after_structure text z ≡ t = cc in sym (ap (λ (x : Told). x.phase) same)

not_idle : (p : Phase) → p ≡ phase.Declared → IsPhase p phase.Idle → ⊥
not_idle p told (inl same) = let two : phase.Idle ≡ phase.Declared = same ∙ told in cc two
not_idle p told (inr both) = let two : phase.Declared ≡ phase.Signed = sym told ∙ both.0 in cc two

pub idle_may : (user : ℕ) (recorded : Recorded) (t : Told) → told_by user recorded ≡ Some t → IsPhase t.phase phase.Idle → (text : List ℕ) → IsSome (next_state recorded kind.Certificate text)
idle_may user Idle t e is text = refl
idle_may user (Declared None before) t e is text = absurd (not_idle t.phase (after_cert_phase None before (cert_in user before) t e) is)
idle_may user (Declared (Some last) before) t e is text = absurd (not_idle t.phase (after_both_phase user (structure_in user last) before t e) is)
idle_may user (Ended before) t e is text = refl

pub not_declared : (p q : Phase) → p ≡ q → (phase.Declared ≡ q → ⊥) → IsPhase p phase.Declared → ⊥
not_declared p q told other (inl same) = other (same ∙ told)
not_declared p q told other (inr both) = let two : phase.Declared ≡ phase.Idle = both.1 in cc two

pub declared_may : (user : ℕ) (recorded : Recorded) (t : Told) → told_by user recorded ≡ Some t → IsPhase t.phase phase.Declared → (text : List ℕ) → IsSome (next_state recorded kind.Structure text)
declared_may user Idle t e is text =
    let idle : Some t.phase ≡ Some phase.Idle = sym (ap (λ (o : Option Told). option_map (λ x. x.phase) o) e) in
    let told : t.phase ≡ phase.Idle = cc in
    absurd (not_declared t.phase phase.Idle told (λ two. cc two) is)
declared_may user (Declared last before) t e is text = refl
declared_may user (Ended before) t e is text = absurd (not_declared t.phase phase.Signed (after_structure_phase before (structure_in user before) t e) (λ two. cc two) is)

-- ---- what is told then

-- the structure of which a certificate tells is the one before it
after_cert_last : (last : Option (Signed Structure)) (text : List ℕ) (o : Option (Signed Cert)) (t : Told) → option_map (after_cert last text) o ≡ Some t → t.last ≡ last
after_cert_last last text None t e = absurd (cc e)
after_cert_last last text (Some c) t e = let same : after_cert last text c ≡ t = cc in sym (ap (λ (x : Told). x.last) same)

-- what is chosen, where something is
chosen : (b : Bool) (s next : Recorded) → (if b then Some s else None) ≡ Some next → s ≡ next
chosen true s next is = cc
chosen false s next is = absurd (cc is)

-- a certificate that is the one before, signed once more, tells of the same structure
told_again : (user : ℕ) (last : Option (List ℕ)) (before text : List ℕ) (t : Told) (c : Signed Cert) → told_by user (Declared last before) ≡ Some t → cert_in user text ≡ Some c
    → told_by user (Declared last text) ≡ Some (after_cert t.last text c)
told_again user None before text t c e read =
    let none : t.last ≡ None = after_cert_last None before (cert_in user before) t e in
    rw (read, none) refl
told_again user (Some last) before text t c e read = from (structure_in user last) refl e
  where
    from : (o : Option (Signed Structure)) → structure_in user last ≡ o → option_and_then (λ z. option_map (after_cert (Some z) before) (cert_in user before)) o ≡ Some t → told_by user (Declared (Some last) text) ≡ Some (after_cert t.last text c)
    from None found same = absurd (cc same)
    from (Some z) found same =
        let one : t.last ≡ Some z = after_cert_last (Some z) before (cert_in user before) t same in
        rw (found, read, one) refl

-- the structure before a certificate that may come is the one that was told
pub told_cert : (user : ℕ) (recorded next : Recorded) (t : Told) (text : List ℕ) (c : Signed Cert) → told_by user recorded ≡ Some t → cert_in user text ≡ Some c
    → next_state recorded kind.Certificate text ≡ Some next → told_by user next ≡ Some (after_cert t.last text c)
told_cert user Idle next t text c e read step =
    let is : Declared None text ≡ next = cc in
    let last : Some t.last ≡ Some None = sym (ap (λ (o : Option Told). option_map (λ x. x.last) o) e) in
    let none : t.last ≡ None = cc in
    subst (λ (s : Recorded). told_by user s ≡ Some (after_cert t.last text c)) is (rw (read, none) refl)
told_cert user (Declared last before) next t text c e read step =
    let is : Declared last text ≡ next = chosen (same_unsigned before text) (Declared last text) next step in
    subst (λ (s : Recorded). told_by user s ≡ Some (after_cert t.last text c)) is (told_again user last before text t c e read)
told_cert user (Ended before) next t text c e read step = from (structure_in user before) refl e
  where
    from : (o : Option (Signed Structure)) → structure_in user before ≡ o → option_map (after_structure before) o ≡ Some t → told_by user next ≡ Some (after_cert t.last text c)
    from None found same = absurd (cc same)
    from (Some z) found same =
        let is : Declared (Some before) text ≡ next = cc in
        let told : after_structure before z ≡ t = cc in
        let last : t.last ≡ Some z = sym (ap (λ (x : Told). x.last) told) in
        subst (λ (s : Recorded). told_by user s ≡ Some (after_cert t.last text c)) is (rw (found, read, last) refl)

pub told_structure : (user : ℕ) (recorded next : Recorded) (text : List ℕ) (z : Signed Structure) → structure_in user text ≡ Some z → next_state recorded kind.Structure text ≡ Some next
    → told_by user next ≡ Some (after_structure text z)
told_structure user Idle next text z read step = absurd (cc step)
told_structure user (Declared last before) next text z read step =
    let is : Ended text ≡ next = cc in
    subst (λ (s : Recorded). told_by user s ≡ Some (after_structure text z)) is (rw read refl)
told_structure user (Ended before) next text z read step = absurd (cc step)
