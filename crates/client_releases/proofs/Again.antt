-- The certificate that is declared, signed once more.
use Rattle.std.proofs.Common.{◌≡◌, ℕ, ◌-◌, ◌<◌, List, ◌++◌, length, take, Option, Some, None, IsSome, Ok, Bool, true, if◌then◌else◌, refl, sym, ◌∙◌, ap, subst, arith}
use Rattle.std.proofs.lemmas.Bool.{lt-ltb}
use Rattle.std.proofs.lemmas.List.{length-append, take_at}
use Rattle.std.proofs.lemmas.Slice.Eq.{bytes_eq-Decides}
use Rattle.std.specs.Option.{option_and_then, option_map}
use Rattle.layout.specs.Format.{IsBytes}
use Rattle.layout.specs.Laws.{is_found}
use Rattle.version_order.specs.Structure.{Structure}
use Rattle.update_cert.specs.Cert.{Cert, cert}
use Rattle.update_cert.specs.CertLaws.{lawful_cert}
use Rattle.pending_list.specs.declared.signed.Signed.{Signed}
use Rattle.pending_list.specs.Signed.{signed, signature as signature_format}
use Rattle.pending_list.specs.SignedLaws.{lawful_signed}
use Rattle.client_journal.specs.Records.{State as Recorded, Idle, Declared, Signed as Ended, MayCome, next_state, same_unsigned, unsigned}
use Rattle.client_journal.specs.declared.kind.Kind.TheVariants as kind
use Rattle.client_releases.specs.Releasing.{cert_record}
use Rattle.client_releases.specs.Told.{IsPhase, Released, Stands, Told, after_cert, cert_in, structure_in, told_by, told_of}
use Rattle.client_releases.specs.declared.phase.Phase.{Phase}
use Rattle.client_releases.specs.declared.phase.Phase.TheVariants as phase
use Rattle.client_releases.proofs.Reading.{own_read}
use Rattle.client_releases.proofs.Telling.{after_structure_phase, not_declared}

-- ---- texts

-- what was signed of a text with its signature
pub unsigned_of : (text signature : List ℕ) → length signature ≡ 2508 → unsigned (text ++ signature) ≡ text
unsigned_of text signature size =
    let front : length (text ++ signature) - 2508 ≡ length text = omega (arith, length-append text signature) in
    ap (λ (n : ℕ). take n (text ++ signature)) front ∙ take_at text signature (length text) refl

-- of two texts the same was signed
pub same_again : (a b : List ℕ) → 2508 < length a → 2508 < length b → unsigned a ≡ unsigned b → same_unsigned a b ≡ true
unfolding same_unsigned
same_again a b long other same = rw (lt-ltb 2508 (length a) long, lt-ltb 2508 (length b) other) ((bytes_eq-Decides (unsigned a) (unsigned b)).1 same)

-- a certificate has a text
some_text : (c : Cert) → 0 < length (cert.spell c)
some_text c = omega arith

-- ---- what records tell of it

-- Records tell of a certificate, and of this one.
record TellsCert (user : ℕ) (recorded : Recorded) (t : Told) : Type 0 where
  before : Option (List ℕ)
  state : recorded ≡ Declared before t.text
  value : Signed Cert
  read : cert_in user t.text ≡ Some value
  number : value.value.number ≡ t.number

of_cert : (user : ℕ) (before : Option (List ℕ)) (last : Option (Signed Structure)) (text : List ℕ) (o : Option (Signed Cert)) (t : Told) → cert_in user text ≡ o → option_map (after_cert last text) o ≡ Some t
    → TellsCert user (Declared before text) t
of_cert user before last text None t read told = absurd (cc told)
of_cert user before last text (Some c) t read told =
    let same : after_cert last text c ≡ t = cc in
    subst (TellsCert user (Declared before text)) same (record { before = before; state = refl; value = c; read = read; number = refl })

of_both : (user : ℕ) (before text : List ℕ) (o : Option (Signed Structure)) (t : Told) → option_and_then (λ z. option_map (after_cert (Some z) text) (cert_in user text)) o ≡ Some t → TellsCert user (Declared (Some before) text) t
of_both user before text None t told = absurd (cc told)
of_both user before text (Some z) t told = of_cert user (Some before) (Some z) text (cert_in user text) t refl told

tells_cert : (user : ℕ) (recorded : Recorded) (t : Told) → told_by user recorded ≡ Some t → IsPhase t.phase phase.Declared → TellsCert user recorded t
tells_cert user Idle t told is =
    let idle : Some t.phase ≡ Some phase.Idle = sym (ap (λ (o : Option Told). option_map (λ x. x.phase) o) told) in
    let same : t.phase ≡ phase.Idle = cc in
    absurd (not_declared t.phase phase.Idle same (λ two. cc two) is)
tells_cert user (Declared None text) t told is = of_cert user None None text (cert_in user text) t refl told
tells_cert user (Declared (Some before) text) t told is = of_both user before text (structure_in user before) t told
tells_cert user (Ended text) t told is = absurd (not_declared t.phase phase.Signed (after_structure_phase text (structure_in user text) t told) (λ two. cc two) is)

-- ---- a client that has declared it

module _ (r : Released) (s : Stands r) (now : r.phase ≡ phase.Declared) (bytes : IsBytes r.text) where
  tells : TellsCert r.user s.recorded (told_of s.told_phase r)
  tells = tells_cert r.user s.recorded (told_of s.told_phase r) s.told (subst (λ (p : Phase). IsPhase s.told_phase p) now s.is_phase)

  spelled : (signed cert).Fits tells.value × (r.text ≡ (signed cert).spell tells.value)
  spelled = is_found (signed cert) (lawful_signed cert lawful_cert) (λ x. x) r.text (Ok tells.value) bytes (own_read (signed cert) (λ c. c.value.user) r.user r.text tells.value tells.read).0

  -- its text is that of a certificate of this client, of the number declared last
  pub declared_cert : (c : Cert) × (unsigned r.text ≡ cert.spell c) × cert.Fits c × (c.user ≡ r.user) × (c.number ≡ r.number)
  declared_cert = (
    tells.value.value,
    ap unsigned spelled.1 ∙ unsigned_of (cert.spell tells.value.value) tells.value.signature spelled.0.1.0,
    spelled.0.0,
    (own_read (signed cert) (λ c. c.value.user) r.user r.text tells.value tells.read).1,
    tells.number,
  )

  long_text : 2508 < length r.text
  long_text = omega (arith, ap length spelled.1, length-append (cert.spell tells.value.value) tells.value.signature, spelled.0.1.0, some_text tells.value.value)

  -- and with another signature it is in turn
  module _ (text signature : List ℕ) (fits : signature_format.Fits signature) (same : text ≡ unsigned r.text) where
    same_text : same_unsigned r.text (text ++ signature) ≡ true
    same_text =
        same_again r.text (text ++ signature) long_text (omega (arith, length-append text signature, fits.0, ap length same, ap length declared_cert.1, some_text declared_cert.0))
        (sym same ∙ sym (unsigned_of text signature fits.0))

    pub again_may : IsSome (next_state s.recorded kind.Certificate (text ++ signature))
    again_may =
        subst (λ (x : Recorded). IsSome (next_state x kind.Certificate (text ++ signature))) (sym tells.state)
        (subst (λ (b : Bool). IsSome (if b then Some (Declared tells.before (text ++ signature)) else None)) (sym same_text) refl)

    pub again_turn : MayCome (cert_record (text ++ signature)) r.devices.journal.file.now.text
    again_turn = record { state = s.recorded; tells = s.tells; in_turn = again_may }
