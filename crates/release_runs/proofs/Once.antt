-- The releases of a story: each has a leaf of its own of its key, of each number there is one certificate, which may be
-- signed several times, and one structure.
use Rattle.std.proofs.Common.{◌≡◌, ◌<◌, ℕ, Bool, true, false, List, [], ◌∷◌, ◌++◌, map, Some, None, length, refl, sym, ap, ◌∙◌, subst, inl, inr, arith, if◌then◌else◌}
use Rattle.std.specs.Str.{bytes_eq}
use Rattle.std.proofs.lemmas.Slice.Eq.{bytes_eq-Decides}
use Rattle.layout.specs.Types.{Bytes}
use Rattle.lms_sign.specs.Signature.{signature_of}
use Rattle.leaf_ledger.specs.Ledger.{LeafNumber}
use Rattle.version_order.specs.Structure.{Structure, structure}
use Rattle.update_cert.specs.Cert.{Cert, cert}
use Rattle.pending_list.specs.declared.signed.Signed.{Signed}
use Rattle.client_journal.specs.Records.{signature_in, unsigned}
use Rattle.client_releases.specs.Told.{cert_in, structure_in}
use Rattle.client_releases.proofs.Again.{unsigned_of}
use Rattle.release_runs.specs.Steps.{Owner, secret_of}
use Rattle.release_runs.specs.Released.{leaf_in}
use Rattle.release_runs.proofs.Members.{In, map-in}
use Rattle.release_runs.proofs.Stories.{IsNext, IsNumbered, IsStory, OfCert, OfStructure, Release, cert_of, key, leaf, mark, number_within, size_of, structure_below, structure_of, text}
use Rattle.release_runs.proofs.Texts.{leaf_in_sent, no_cert, no_structure, signature_at}

module _ (o : Owner) where
  -- what a release of the story met when it came
  pub came : (story : List Release) → IsStory o story → (r : Release) → In r story → (older : List Release) × IsNext o older r
  came [] is r i = absurd i
  came (x ∷ older) is r (inl e) = (older, subst (λ (y : Release). IsNext o older y) (sym e) is.0.next)
  came (x ∷ older) is r (inr i) = came older is.1 r i

  -- ---- leaves

  pub small_leaf : (story : List Release) → IsStory o story → (r : Release) → In r story → leaf r < 1024
  small_leaf [] is r i = absurd i
  small_leaf (x ∷ older) is r (inl e) = subst (λ (y : Release). leaf y < 1024) (sym e) is.0.small
  small_leaf (x ∷ older) is r (inr i) = small_leaf older is.1 r i

  pub own_key : (story : List Release) → IsStory o story → (r : Release) → In r story → key r < length o.secrets
  own_key [] is r i = absurd i
  own_key (x ∷ older) is r (inl e) = subst (λ (y : Release). key y < length o.secrets) (sym e) is.0.own
  own_key (x ∷ older) is r (inr i) = own_key older is.1 r i

  pub leaf_told : (r : Release) → leaf r < 1024 → leaf_in (text o r) ≡ leaf r
  leaf_told (OfCert k c q) small = leaf_in_sent (secret_of k o) (cert.spell c) q small
  leaf_told (OfStructure k z q) small = leaf_in_sent (secret_of k o) (structure.spell z) q small

  signed_so : (k : ℕ) (m : Bytes) (q : LeafNumber) → q < 1024
      → signature_in (m ++ signature_of (secret_of k o) q m) ≡ signature_of (secret_of k o) (leaf_in (m ++ signature_of (secret_of k o) q m)) (unsigned (m ++ signature_of (secret_of k o) q m))
  signed_so k m q small =
      let sig = signature_of (secret_of k o) q m in
      signature_at m sig (size_of o k m q)
      ∙ ap (λ (n : LeafNumber). signature_of (secret_of k o) n m) (sym (leaf_in_sent (secret_of k o) m q small))
      ∙ ap (signature_of (secret_of k o) (leaf_in (m ++ sig))) (sym (unsigned_of m sig (size_of o k m q)))

  -- a release is signed by its key, by the leaf that it carries
  pub signed_told : (r : Release) → leaf r < 1024 → signature_in (text o r) ≡ signature_of (secret_of (key r) o) (leaf_in (text o r)) (unsigned (text o r))
  signed_told (OfCert k c q) small = signed_so k (cert.spell c) q small
  signed_told (OfStructure k z q) small = signed_so k (structure.spell z) q small

  pub one_leaf : (story : List Release) → IsStory o story → (r s : Release) → In r story → In s story → mark r ≡ mark s → r ≡ s
  one_leaf [] is r s i j e = absurd i
  one_leaf (x ∷ older) is r s (inl i) (inl j) e = i ∙ sym j
  one_leaf (x ∷ older) is r s (inl i) (inr j) e = absurd (is.0.fresh (subst (λ (m : ℕ × LeafNumber). In m (map mark older)) (sym e ∙ ap mark i) (map-in mark older s j)))
  one_leaf (x ∷ older) is r s (inr i) (inl j) e = absurd (is.0.fresh (subst (λ (m : ℕ × LeafNumber). In m (map mark older)) (e ∙ ap mark j) (map-in mark older r i)))
  one_leaf (x ∷ older) is r s (inr i) (inr j) e = one_leaf older is.1 r s i j e

  -- ---- which key signed a text

  -- the key of the release of this text that came last, 0 where there is none
  abbrev pub key_by : List Release → Bytes → ℕ
  key_by [] a = 0
  key_by (r ∷ older) a = if bytes_eq (text o r) a then key r else key_by older a

  -- the release of this text that came last
  pub record IsBy (story : List Release) (a : Bytes) (r : Release) : Type 0 where
    pub inside : In r story
    pub text_is : a ≡ text o r
    pub key_is : key_by story a ≡ key r

  found_more : (x : Release) (older : List Release) (a : Bytes) (r : Release) → a ≡ text o r → (In r older → (s : Release) × IsBy older a s) → (b : Bool) → bytes_eq (text o x) a ≡ b → In r (x ∷ older) → (s : Release) × IsBy (x ∷ older) a s
  found_more x older a r e rest true is j = (x, record { inside = inl refl; text_is = sym ((bytes_eq-Decides (text o x) a).0 is); key_is = ap (λ (b : Bool). if b then key x else key_by older a) is })
  found_more x older a r e rest false is (inl same) = absurd (let no : true ≡ false = sym ((bytes_eq-Decides (text o x) a).1 (sym (ap (text o) same) ∙ sym e)) ∙ is in cc no)
  found_more x older a r e rest false is (inr j) =
      let s = rest j in
      (s.0, record { inside = inr s.1.inside; text_is = s.1.text_is; key_is = ap (λ (b : Bool). if b then key x else key_by older a) is ∙ s.1.key_is })

  pub found_by : (story : List Release) (a : Bytes) (r : Release) → In r story → a ≡ text o r → (s : Release) × IsBy story a s
  found_by [] a r i e = absurd i
  found_by (x ∷ older) a r i e = found_more x older a r e (λ j. found_by older a r j e) (bytes_eq (text o x) a) refl i

  -- ---- certificates

  -- the one that came last is those of its number
  last_cert : (m : ℕ) (b : Cert) (n : LeafNumber) (older : List Release) → IsStory o (OfCert m b n ∷ older) → IsNumbered (OfCert m b n ∷ older) → (l : ℕ) (d : Cert) (q : LeafNumber) → In (OfCert l d q) older → b.number ≡ d.number → b ≡ d
  last_cert m b n [] is each l d q i e = absurd i
  last_cert m b n (OfCert j c p ∷ older) is each l d q (inl i) e = let same : d ≡ c = cc in is.0.next.turn ∙ sym same
  last_cert m b n (OfCert j c p ∷ older) is each l d q (inr i) e =
      is.0.next.turn ∙ last_cert j c p older is.1 each.1 l d q i (sym each.0 ∙ e)
  last_cert m b n (OfStructure j z p ∷ older) is each l d q i e =
      let below = number_within (OfStructure j z p ∷ older) each.1 l d q i in
      let next = each.0 in
      absurd (omega arith)

  pub one_cert : (story : List Release) → IsStory o story → IsNumbered story → (k l : ℕ) (c d : Cert) (p q : LeafNumber) → In (OfCert k c p) story → In (OfCert l d q) story → c.number ≡ d.number → c ≡ d
  one_cert [] is each k l c d p q i j e = absurd i
  one_cert (OfCert m b n ∷ older) is each k l c d p q (inl i) (inl j) e =
      let first : c ≡ b = cc in
      let second : d ≡ b = cc in
      first ∙ sym second
  one_cert (OfCert m b n ∷ older) is each k l c d p q (inl i) (inr j) e =
      let same : c ≡ b = cc in
      same ∙ last_cert m b n older is each l d q j (sym (ap (λ (y : Cert). y.number) same) ∙ e)
  one_cert (OfCert m b n ∷ older) is each k l c d p q (inr i) (inl j) e =
      let same : d ≡ b = cc in
      sym (same ∙ last_cert m b n older is each k c p i (sym (e ∙ ap (λ (y : Cert). y.number) same)))
  one_cert (OfCert m b n ∷ older) is each k l c d p q (inr i) (inr j) e = one_cert older is.1 each.1 k l c d p q i j e
  one_cert (OfStructure m z n ∷ older) is each k l c d p q (inl i) j e = absurd (cc i)
  one_cert (OfStructure m z n ∷ older) is each k l c d p q (inr i) (inl j) e = absurd (cc j)
  one_cert (OfStructure m z n ∷ older) is each k l c d p q (inr i) (inr j) e = one_cert older is.1 each k l c d p q i j e

  -- the release of which a text is a certificate
  pub record ReleasesCert (r : Release) (c : Signed Cert) : Type 0 where
    pub by : ℕ
    pub one : Cert
    pub leaf : LeafNumber
    pub is : r ≡ OfCert by one leaf
    pub value : c.value ≡ one

  pub of_cert : (r : Release) (older : List Release) → IsNext o older r → (c : Signed Cert) → cert_in o.user (text o r) ≡ Some c → ReleasesCert r c
  of_cert (OfCert k d q) older next c e =
      let two : Some c ≡ Some (record { value = d; signature = signature_of (secret_of k o) q (cert.spell d) }) = sym e ∙ cert_of o k d q older next in
      let same : c ≡ record { value = d; signature = signature_of (secret_of k o) q (cert.spell d) } = cc in
      record { by = k; one = d; leaf = q; is = refl; value = ap (λ (s : Signed Cert). s.value) same }
  of_cert (OfStructure k z q) older next c e =
      let two : Some c ≡ None = sym e ∙ no_cert o.user z (signature_of (secret_of k o) q (structure.spell z)) in
      absurd cc

  -- ---- structures

  pub one_structure : (story : List Release) → IsStory o story → IsNumbered story → (r s : Release) (y z : Structure) (k l : ℕ) (p q : LeafNumber) → r ≡ OfStructure k y p → s ≡ OfStructure l z q → In r story → In s story
      → y.plan.number ≡ z.plan.number → r ≡ s
  one_structure [] is each r s y z k l p q r_is s_is i j e = absurd i
  one_structure (x ∷ older) is each r s y z k l p q r_is s_is (inl i) (inl j) e = i ∙ sym j
  one_structure (OfStructure m b n ∷ older) is each r s y z k l p q r_is s_is (inl i) (inr j) e =
      let two : OfStructure k y p ≡ OfStructure m b n = sym r_is ∙ i in
      let same : y ≡ b = cc in
      let number = ap (λ (x : Structure). x.plan.number) same in
      let below = structure_below o older is.1 each is.0.next.turn l z q (subst (λ (x : Release). In x older) s_is j) in
      let next = is.0.next.number in
      absurd (omega arith)
  one_structure (OfStructure m b n ∷ older) is each r s y z k l p q r_is s_is (inr i) (inl j) e =
      let two : OfStructure l z q ≡ OfStructure m b n = sym s_is ∙ j in
      let same : z ≡ b = cc in
      let number = ap (λ (x : Structure). x.plan.number) same in
      let below = structure_below o older is.1 each is.0.next.turn k y p (subst (λ (x : Release). In x older) r_is i) in
      let next = is.0.next.number in
      absurd (omega arith)
  one_structure (OfCert m c n ∷ older) is each r s y z k l p q r_is s_is (inl i) (inr j) e = absurd (let two : OfStructure k y p ≡ OfCert m c n = sym r_is ∙ i in cc two)
  one_structure (OfCert m c n ∷ older) is each r s y z k l p q r_is s_is (inr i) (inl j) e = absurd (let two : OfStructure l z q ≡ OfCert m c n = sym s_is ∙ j in cc two)
  one_structure (OfCert m c n ∷ older) is each r s y z k l p q r_is s_is (inr i) (inr j) e = one_structure older is.1 each.1 r s y z k l p q r_is s_is i j e
  one_structure (OfStructure m b n ∷ older) is each r s y z k l p q r_is s_is (inr i) (inr j) e = one_structure older is.1 each r s y z k l p q r_is s_is i j e

  -- the release of which a text is a structure
  pub record ReleasesStructure (r : Release) (s : Signed Structure) : Type 0 where
    pub by : ℕ
    pub one : Structure
    pub leaf : LeafNumber
    pub is : r ≡ OfStructure by one leaf
    pub value : s.value ≡ one

  pub of_structure : (r : Release) (older : List Release) → IsNext o older r → (s : Signed Structure) → structure_in o.user (text o r) ≡ Some s → ReleasesStructure r s
  of_structure (OfStructure k z q) older next s e =
      let two : Some s ≡ Some (record { value = z; signature = signature_of (secret_of k o) q (structure.spell z) }) = sym e ∙ structure_of o k z q older next in
      let same : s ≡ record { value = z; signature = signature_of (secret_of k o) q (structure.spell z) } = cc in
      record { by = k; one = z; leaf = q; is = refl; value = ap (λ (x : Signed Structure). x.value) same }
  of_structure (OfCert k c q) older next s e =
      let two : Some s ≡ None = sym e ∙ no_structure o.user c (signature_of (secret_of k o) q (cert.spell c)) in
      absurd cc
