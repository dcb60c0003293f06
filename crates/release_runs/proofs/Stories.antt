-- Stories: what the client of a user released, one release after another, and what its journal tells of them.
use Rattle.std.proofs.Common.{◌≡◌, ℕ, ◌+◌, ◌<◌, Bool, true, if◌then◌else◌, List, [], ◌∷◌, ◌++◌, length, map, Option, Some, None, refl, sym, ap, ◌∙◌, inl, inr, arith}
use Rattle.std.proofs.lemmas.List.{length-append}
use Rattle.std.specs.Option.{option_and_then, option_map}
use Rattle.layout.specs.Types.{Bytes}
use Rattle.lms_sign.specs.Signature.{signature_of}
use Rattle.lms_sign.proofs.Validity.{length-signature}
use Rattle.leaf_ledger.specs.Ledger.{LeafNumber}
use Rattle.client_journal.specs.Records.{Record, State as Recorded, Idle, Declared, Signed as Ended, next_state, same_unsigned, state_after, state_of, unsigned}
use Rattle.version_order.specs.Structure.{Structure, structure}
use Rattle.update_cert.specs.Cert.{Cert, cert}
use Rattle.pending_list.specs.declared.signed.Signed.{Signed}
use Rattle.client_releases.specs.declared.phase.Phase.{Phase}
use Rattle.client_releases.specs.declared.phase.Phase.TheVariants as phase
use Rattle.client_releases.specs.Releasing.{cert_record, structure_record}
use Rattle.client_releases.specs.Told.{Told, after_cert, after_structure, cert_in, signed_by, structure_in, told_by}
use Rattle.client_releases.proofs.Again.{same_again, unsigned_of}
use Rattle.release_runs.specs.Steps.{Owner, secret_of}
use Rattle.release_runs.proofs.Members.{In}
use Rattle.release_runs.proofs.Texts.{cert_read, structure_read}

-- a text that was signed by a leaf of a key: a certificate's, or a structure's
pub data Release : Type 0 where
  OfCert : ℕ → Cert → LeafNumber → Release
  OfStructure : ℕ → Structure → LeafNumber → Release

abbrev pub leaf : Release → LeafNumber
leaf (OfCert k c q) = q
leaf (OfStructure k z q) = q

-- the number of its key, and that with the leaf
abbrev pub key : Release → ℕ
key (OfCert k c q) = k
key (OfStructure k z q) = k

abbrev pub mark : Release → ℕ × LeafNumber
mark r = (key r, leaf r)

-- the text that is signed
abbrev pub message : Release → Bytes
message (OfCert k c q) = cert.spell c
message (OfStructure k z q) = structure.spell z

-- ---- what releases tell, the latest first

-- the number of the operation that was declared last, 0 where none was
abbrev pub number_in : List Release → ℕ
number_in [] = 0
number_in (OfCert k c q ∷ older) = c.number
number_in (OfStructure k z q ∷ older) = number_in older

-- how far the last one is
abbrev pub phase_in : List Release → Phase
phase_in [] = phase.Idle
phase_in (OfCert k c q ∷ older) = phase.Declared
phase_in (OfStructure k z q ∷ older) = phase.Signed

-- after these a certificate has the next number, or that of the one that is declared
abbrev pub IsNumberAfter : List Release → ℕ → Type 0
IsNumberAfter [] n = n ≡ 1
IsNumberAfter (OfCert k c q ∷ older) n = n ≡ c.number
IsNumberAfter (OfStructure k z q ∷ older) n = n ≡ number_in older + 1

-- and so has each certificate
abbrev pub IsNumbered : List Release → Type 0
IsNumbered [] = Unit {0}
IsNumbered (OfCert k c q ∷ older) = IsNumberAfter older c.number × IsNumbered older
IsNumbered (OfStructure k z q ∷ older) = IsNumbered older

-- a certificate comes where none is declared, or is the one that is declared
abbrev pub IsCertAfter : List Release → Cert → Type 0
IsCertAfter [] c = Unit {0}
IsCertAfter (OfCert k d q ∷ older) c = c ≡ d
IsCertAfter (OfStructure k z q ∷ older) c = Unit {0}

module _ (o : Owner) where
  -- the text as it is sent
  abbrev pub text : Release → Bytes
  text (OfCert k c q) = cert.spell c ++ signature_of (secret_of k o) q (cert.spell c)
  text (OfStructure k z q) = structure.spell z ++ signature_of (secret_of k o) q (structure.spell z)

  abbrev pub record_of : Release → Record
  record_of (OfCert k c q) = cert_record (text (OfCert k c q))
  record_of (OfStructure k z q) = structure_record (text (OfStructure k z q))

  -- the records of a journal, the first of them first
  abbrev pub records : List Release → List Record
  records [] = []
  records (r ∷ older) = records older ++ record_of r ∷ []

  -- the structure that was signed last, and its text
  abbrev pub last_in : List Release → Option (Signed Structure)
  last_in [] = None
  last_in (OfCert k c q ∷ older) = last_in older
  last_in (OfStructure k z q ∷ older) = Some (signed_by (secret_of k o) q z)

  abbrev pub last_text : List Release → Option Bytes
  last_text [] = None
  last_text (OfCert k c q ∷ older) = last_text older
  last_text (OfStructure k z q ∷ older) = Some (text (OfStructure k z q))

  -- the text that was released last
  abbrev pub text_in : List Release → Bytes
  text_in [] = []
  text_in (r ∷ older) = text r

  -- ---- stories

  pub record IsNextCert (older : List Release) (c : Cert) : Type 0 where
    pub turn : IsCertAfter older c
    pub fits : cert.Fits c
    pub user : c.user ≡ o.user

  -- a structure comes after a certificate, and has its number
  pub record IsNextStructure (older : List Release) (z : Structure) : Type 0 where
    pub turn : phase_in older ≡ phase.Declared
    pub fits : structure.Fits z
    pub user : z.plan.user ≡ o.user
    pub number : z.plan.number ≡ number_in older

  abbrev pub IsNext : List Release → Release → Type 0
  IsNext older (OfCert k c q) = IsNextCert older c
  IsNext older (OfStructure k z q) = IsNextStructure older z

  -- and it is signed by a key of the owner's, by a leaf of it that signed none of those before
  pub record IsAfter (older : List Release) (r : Release) : Type 0 where
    pub next : IsNext older r
    pub own : key r < length o.secrets
    pub small : leaf r < 1024
    pub fresh : In (mark r) (map mark older) → ⊥

  abbrev pub IsStory : List Release → Type 0
  IsStory [] = Unit {0}
  IsStory (r ∷ older) = IsAfter older r × IsStory older

  -- ---- what a journal with these records tells

  abbrev pub state_in : List Release → Recorded
  state_in [] = Idle
  state_in (OfCert k c q ∷ older) = Declared (last_text older) (text (OfCert k c q))
  state_in (OfStructure k z q ∷ older) = Ended (text (OfStructure k z q))

  abbrev pub told_in : List Release → Told
  told_in story = record { number = number_in story; last = last_in story; phase = phase_in story; text = text_in story }

option_unit : {A : Type 0} (x : Option A) → option_and_then (λ n. Some n) x ≡ x
option_unit None = refl
option_unit (Some x) = refl

-- the state after one record more
pub one_more : (s : Recorded) (rs : List Record) (r : Record) → state_after s (rs ++ r ∷ []) ≡ option_and_then (λ t. next_state t r.kind r.text) (state_after s rs)
one_more s [] r = option_unit (next_state s r.kind r.text)
one_more s (x ∷ rs) r = go (next_state s x.kind x.text) (λ t. one_more t rs r)
  where
    go : (n : Option Recorded) → ((t : Recorded) → state_after t (rs ++ r ∷ []) ≡ option_and_then (λ u. next_state u r.kind r.text) (state_after t rs))
        → option_and_then (λ t. state_after t (rs ++ r ∷ [])) n ≡ option_and_then (λ t. next_state t r.kind r.text) (option_and_then (λ t. state_after t rs) n)
    go None ih = refl
    go (Some t) ih = ih t

-- a certificate is longer than its signature
some_cert : (c : Cert) → 0 < length (cert.spell c)
some_cert c = omega arith

module _ (o : Owner) where
  -- a certificate that was signed twice is one, but for its signatures
  signed_again : (j k : ℕ) (c d : Cert) (p q : LeafNumber) → c ≡ d → same_unsigned (text o (OfCert j d p)) (text o (OfCert k c q)) ≡ true
  signed_again j k c d p q same =
      same_again (text o (OfCert j d p)) (text o (OfCert k c q)) (long j d p) (long k c q) (unsigned_is j d p ∙ ap (λ (x : Cert). cert.spell x) (sym same) ∙ sym (unsigned_is k c q))
    where
      long : (n : ℕ) (x : Cert) (l : LeafNumber) → 2508 < length (text o (OfCert n x l))
      long n x l = omega (arith, length-append (cert.spell x) (signature_of (secret_of n o) l (cert.spell x)), length-signature (secret_of n o) (cert.spell x) l, some_cert x)

      unsigned_is : (n : ℕ) (x : Cert) (l : LeafNumber) → unsigned (text o (OfCert n x l)) ≡ cert.spell x
      unsigned_is n x l = unsigned_of (cert.spell x) (signature_of (secret_of n o) l (cert.spell x)) (length-signature (secret_of n o) (cert.spell x) l)

  step_of : (older : List Release) (r : Release) → IsNext o older r → next_state (state_in o older) (record_of o r).kind (record_of o r).text ≡ Some (state_in o (r ∷ older))
  step_of [] (OfCert k c q) next = refl
  step_of (OfCert j d p ∷ older) (OfCert k c q) next =
      ap (λ (b : Bool). if b then Some (Declared (last_text o older) (text o (OfCert k c q))) else None) (signed_again j k c d p q next.turn)
  step_of (OfStructure j z p ∷ older) (OfCert k c q) next = refl
  step_of [] (OfStructure k z q) next = absurd (let e = next.turn in cc)
  step_of (OfCert j d p ∷ older) (OfStructure k z q) next = refl
  step_of (OfStructure j y p ∷ older) (OfStructure k z q) next = absurd (let e = next.turn in cc)

  pub state_is : (story : List Release) → IsStory o story → state_of (records o story) ≡ Some (state_in o story)
  state_is [] is = refl
  state_is (r ∷ older) is =
      one_more Idle (records o older) (record_of o r)
      ∙ ap (option_and_then (λ t. next_state t (record_of o r).kind (record_of o r).text)) (state_is older is.1)
      ∙ step_of older r is.0.next

  pub size_of : (k : ℕ) (m : Bytes) (q : LeafNumber) → length (signature_of (secret_of k o) q m) ≡ 2508
  size_of k m q = length-signature (secret_of k o) m q

  pub cert_of : (k : ℕ) (c : Cert) (q : LeafNumber) (older : List Release) → IsNextCert o older c → cert_in o.user (text o (OfCert k c q)) ≡ Some (record { value = c; signature = signature_of (secret_of k o) q (cert.spell c) })
  cert_of k c q older next = cert_read o.user (signature_of (secret_of k o) q (cert.spell c)) (size_of k (cert.spell c) q) c next.fits next.user

  pub structure_of : (k : ℕ) (z : Structure) (q : LeafNumber) (older : List Release) → IsNextStructure o older z → structure_in o.user (text o (OfStructure k z q)) ≡ Some (signed_by (secret_of k o) q z)
  structure_of k z q older next = structure_read o.user (signature_of (secret_of k o) q (structure.spell z)) (size_of k (structure.spell z) q) z next.fits next.user

  -- what a certificate tells after a story
  told_cert : (k : ℕ) (c : Cert) (q : LeafNumber) → cert_in o.user (text o (OfCert k c q)) ≡ Some (record { value = c; signature = signature_of (secret_of k o) q (cert.spell c) }) → (older : List Release) → IsStory o older
      → told_by o.user (Declared (last_text o older) (text o (OfCert k c q))) ≡ Some (told_in o (OfCert k c q ∷ older))
  told_cert k c q read [] is = ap (option_map (after_cert None (text o (OfCert k c q)))) read
  told_cert k c q read (OfCert j d p ∷ older) is = told_cert k c q read older is.1
  told_cert k c q read (OfStructure j z p ∷ older) is =
      ap (option_and_then (λ y. option_map (after_cert (Some y) (text o (OfCert k c q))) (cert_in o.user (text o (OfCert k c q))))) (structure_of j z p older is.0.next)
      ∙ ap (option_map (after_cert (Some (signed_by (secret_of j o) p z)) (text o (OfCert k c q)))) read

  -- the journal tells number, structure, phase and text
  pub told_is : (story : List Release) → IsStory o story → told_by o.user (state_in o story) ≡ Some (told_in o story)
  told_is [] is = refl
  told_is (OfCert k c q ∷ older) is = told_cert k c q (cert_of k c q older is.0.next) older is.1
  told_is (OfStructure k z q ∷ older) is =
      ap (option_map (after_structure (text o (OfStructure k z q)))) (structure_of k z q older is.0.next)
      ∙ ap (λ n. Some (record { number = n; last = Some (signed_by (secret_of k o) q z); phase = phase.Signed; text = text o (OfStructure k z q) })) is.0.next.number

  -- the certificate that is declared, which may come once more
  pub declared_cert : (story : List Release) → IsStory o story → phase_in story ≡ phase.Declared
      → (c : Cert) × (unsigned (text_in o story) ≡ cert.spell c) × IsNextCert o story c × IsNumberAfter story c.number × (number_in story ≡ c.number)
  declared_cert [] is now = absurd (cc now)
  declared_cert (OfCert k c q ∷ older) is now = (
    c,
    unsigned_of (cert.spell c) (signature_of (secret_of k o) q (cert.spell c)) (size_of k (cert.spell c) q),
    record { turn = refl; fits = is.0.next.fits; user = is.0.next.user },
    refl,
    refl,
  )
  declared_cert (OfStructure k z q ∷ older) is now = absurd (cc now)

-- ---- numbers

-- no number is below those before
not_below : (older : List Release) (n : ℕ) → IsNumberAfter older n → number_in older < n + 1
not_below [] n is = omega (arith, is)
not_below (OfCert k c q ∷ older) n is = omega (arith, is)
not_below (OfStructure k z q ∷ older) n is = omega (arith, is)

-- a certificate that isn't signed again has the next number
pub next_number : (older : List Release) (n : ℕ) → (phase_in older ≡ phase.Declared → ⊥) → n ≡ number_in older + 1 → IsNumberAfter older n
next_number [] n turn is = is
next_number (OfCert k c q ∷ older) n turn is = absurd (turn refl)
next_number (OfStructure k z q ∷ older) n turn is = is

-- and it comes where none is declared
pub cert_turn : (older : List Release) (c : Cert) → (phase_in older ≡ phase.Declared → ⊥) → IsCertAfter older c
cert_turn [] c turn = tt
cert_turn (OfCert k d q ∷ older) c turn = absurd (turn refl)
cert_turn (OfStructure k z q ∷ older) c turn = tt

-- a certificate's number is at most that of the last one
pub number_within : (story : List Release) → IsNumbered story → (k : ℕ) (c : Cert) (q : LeafNumber) → In (OfCert k c q) story → c.number < number_in story + 1
number_within [] is k c q i = absurd i
number_within (OfCert j d p ∷ older) is k c q (inl e) = let same : c ≡ d = cc in let n = ap (λ (x : Cert). x.number) same in omega arith
number_within (OfCert j d p ∷ older) is k c q (inr i) = let below = number_within older is.1 k c q i in let n = not_below older d.number is.0 in omega arith
number_within (OfStructure j z p ∷ older) is k c q (inl e) = absurd cc
number_within (OfStructure j z p ∷ older) is k c q (inr i) = number_within older is k c q i

module _ (o : Owner) where
  -- and so is a structure's
  pub structure_within : (story : List Release) → IsStory o story → IsNumbered story → (k : ℕ) (z : Structure) (q : LeafNumber) → In (OfStructure k z q) story → z.plan.number < number_in story + 1
  structure_within [] is each k z q i = absurd i
  structure_within (OfCert j d p ∷ older) is each k z q (inl e) = absurd cc
  structure_within (OfCert j d p ∷ older) is each k z q (inr i) = let below = structure_within older is.1 each.1 k z q i in let n = not_below older d.number each.0 in omega arith
  structure_within (OfStructure j y p ∷ older) is each k z q (inl e) =
      let same : z ≡ y = cc in
      let n = ap (λ (x : Structure). x.plan.number) same in
      let m = is.0.next.number in
      omega arith
  structure_within (OfStructure j y p ∷ older) is each k z q (inr i) = structure_within older is.1 each k z q i

  -- below it, where a certificate was declared last
  pub structure_below : (story : List Release) → IsStory o story → IsNumbered story → phase_in story ≡ phase.Declared → (k : ℕ) (z : Structure) (q : LeafNumber) → In (OfStructure k z q) story → z.plan.number < number_in story
  structure_below [] is each declared k z q i = absurd i
  structure_below (OfCert j d p ∷ older) is each declared k z q (inl e) = absurd cc
  structure_below (OfCert j d p ∷ []) is each declared k z q (inr i) = absurd i
  structure_below (OfCert j d p ∷ (OfCert l b t ∷ older)) is each declared k z q (inr i) =
      let below = structure_below (OfCert l b t ∷ older) is.1 each.1 refl k z q i in
      let n = each.0 in
      omega arith
  structure_below (OfCert j d p ∷ (OfStructure l y t ∷ older)) is each declared k z q (inr i) =
      let below = structure_within (OfStructure l y t ∷ older) is.1 each.1 k z q i in
      let n = each.0 in
      omega arith
  structure_below (OfStructure j y p ∷ older) is each declared k z q i = absurd (let two : phase.Signed ≡ phase.Declared = declared in cc two)
