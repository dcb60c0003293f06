-- The certificates that a user's client released, by number, and the tables that they make.
use Rattle.std.proofs.Common.{◌≡◌, ℕ, ◌+◌, ◌==◌, List, [], ◌∷◌, ◌++◌, Option, Some, None, IsSome, map, refl, sym, ap, ◌∙◌, subst}
use Rattle.std.specs.Prelude.{filter_map}
use Rattle.std.specs.List.{All, range_with_len}
use Rattle.std.specs.Option.{is_some, option_map}
use Rattle.std.proofs.lemmas.Bool.{eq-eqb, eqb-true}
use Rattle.std.proofs.lemmas.List.Elements.{All-cons, All-head, All-nil, All-push, All-tail}
use Rattle.layout.specs.Types.{Bytes, User}
use Rattle.lms_sign.specs.Signature.{signature_of}
use Rattle.lms_sign.proofs.Validity.{length-signature}
use Rattle.principals.specs.Table.{Table}
use Rattle.version_order.specs.Structure.{structure}
use Rattle.update_cert.specs.Cert.{Cert, cert}
use Rattle.update_cert.specs.CertLaws.{lawful_cert}
use Rattle.update_cert.specs.Tables.{table_after}
use Rattle.pending_list.specs.declared.signed.Signed.{Signed}
use Rattle.client_releases.specs.Told.{cert_in}
use Rattle.agreement.proofs.Formed.{same_spelled}
use Rattle.agreement.proofs.Members.{In, contains_in, in-map, in_contains}
use Rattle.client_journal.specs.Records.{unsigned}
use Rattle.release_runs.specs.Steps as low
use Rattle.release_runs.proofs.Once.{came}
use Rattle.release_runs.proofs.Stories.{OfCert, OfStructure, Release, cert_of, message, text as release_text}
use Rattle.release_runs.proofs.Texts.{cert_read, no_cert}
use Rattle.fork_consistency.specs.Premises.{HasReleased}
use Rattle.client_runs.specs.Released.{released}
use Rattle.client_runs.specs.Runs.{Event, IsRun, Keys, owner}
use Rattle.fork_consistency.proofs.Genuine.{message_of}
use Rattle.client_runs.proofs.Lowering.{low_owner}
use Rattle.fork_consistency.proofs.Moves.{holds_at}
use Rattle.client_runs.proofs.Once.{certificates_once}
use Rattle.fork_consistency.proofs.Lists.{filter_map-in, filter_map-last, found_in, found_some, in-filter_map, next_number}
use Rattle.fork_consistency.specs.ByCertificates.{HasAllUpTo, certificate, certificates, certificates_up_to, tables_after}

-- ---- tables

-- one certificate more
pub tables_more : (cs : List Cert) (c : Cert) (t : Table) → tables_after (cs ++ c ∷ []) t ≡ table_after c.user c.number c.changes (tables_after cs t)
tables_more [] c t = refl
tables_more (d ∷ ds) c t = tables_more ds c (table_after d.user d.number d.changes t)

-- ---- the certificates of a run

module _ (keys : Keys) (run : List Event) (is : IsRun keys run) (u : User) where
  abbrev own : low.Owner
  own = low_owner (owner keys u)

  -- the text of a certificate that was released
  pub record IsIn (c : Cert) : Type 0 where
    pub text : Bytes
    pub there : In text (released u run)
    pub one : Signed Cert
    pub read : cert_in u text ≡ Some one
    pub value : one.value ≡ c

  pub text_of : (c : Cert) → cert.Fits c → c.user ≡ u → HasReleased u run (cert.spell c) → IsIn c
  text_of c fits user has =
      let (a, i, same) = in-map unsigned (released u run) (cert.spell c) (contains_in (cert.spell c) (map unsigned (released u run)) has) in
      let (r, j, at) = (holds_at keys u run is).low.released a i in
      go a i r j at (same ∙ ap unsigned at ∙ message_of own r)
    where
      go : (a : Bytes) → In a (released u run) → (r : Release) → In r (holds_at keys u run is).story → a ≡ release_text own r → cert.spell c ≡ message r → IsIn c
      go a i (OfCert n d q) j at spelled =
          let before = came own (holds_at keys u run is).story (holds_at keys u run is).low.is_story (OfCert n d q) j in
          record {
            text = a;
            there = i;
            one = record { value = d; signature = signature_of (low.secret_of n own) q (cert.spell d) };
            read = ap (cert_in u) at ∙ cert_of own n d q before.0 before.1;
            value = same_spelled cert lawful_cert d c before.1.fits fits (sym spelled);
          }
      go a i (OfStructure n z q) j at spelled =
          let sig = signature_of (low.secret_of n own) q (structure.spell z) in
          let some = cert_read u sig (length-signature (low.secret_of n own) (structure.spell z) q) c fits user in
          let none = ap (λ (m : Bytes). cert_in u (m ++ sig)) spelled ∙ no_cert u z sig in
          absurd (cc (sym some ∙ none))

  -- it is the one of its number
  pub found : (c : Cert) → cert.Fits c → c.user ≡ u → HasReleased u run (cert.spell c) → certificate u run c.number ≡ Some c
  found c fits user has =
      let t = text_of c fits user has in
      let in_list : In c (certificates u run) =
      filter_map-in (λ text. option_map (λ (y : Signed Cert). y.value) (cert_in u text)) (released u run) t.text c t.there (ap (option_map (λ (y : Signed Cert). y.value)) t.read ∙ ap (λ (y : Cert). Some y) t.value) in
      let (d, at) = found_some (λ (y : Cert). y.number == c.number) (certificates u run) c in_list (eq-eqb c.number c.number refl) in
      let f = found_in (λ (y : Cert). y.number == c.number) (certificates u run) d at in
      at ∙ ap (λ (y : Cert). Some y) (same d t f.0 (eqb-true d.number c.number f.1))
    where
      same : (d : Cert) → IsIn c → In d (certificates u run) → d.number ≡ c.number → d ≡ c
      same d t i number =
          let (b, j, read) = in-filter_map (λ text. option_map (λ (y : Signed Cert). y.value) (cert_in u text)) (released u run) d i in
          go b j (cert_in u b) refl read
        where
          go : (b : Bytes) → In b (released u run) → (o : Option (Signed Cert)) → cert_in u b ≡ o → option_map (λ (y : Signed Cert). y.value) o ≡ Some d → d ≡ c
          go b j None at e = absurd (cc e)
          go b j (Some s) at e =
              let value : s.value ≡ d = cc e in
              let one : t.one.value ≡ s.value =
              certificates_once keys run u is t.text b t.one s (in_contains t.text (released u run) t.there) (in_contains b (released u run) j) t.read at (ap (λ (y : Cert). y.number) (t.value) ∙ sym number ∙ sym (ap (λ (y : Cert). y.number) value)) in
              sym value ∙ sym one ∙ t.value

  -- what is known of the certificate of a number
  pub record IsReleased (c : Cert) (k : ℕ) : Type 0 where
    pub fits : cert.Fits c
    pub user : c.user ≡ u
    pub number : c.number ≡ k
    pub text : IsIn c

  pub released_cert : (k : ℕ) (c : Cert) → certificate u run k ≡ Some c → IsReleased c k
  released_cert k c at =
      let f = found_in (λ (y : Cert). y.number == k) (certificates u run) c at in
      let (b, j, read) = in-filter_map (λ text. option_map (λ (y : Signed Cert). y.value) (cert_in u text)) (released u run) c f.0 in
      go b j (cert_in u b) refl read (eqb-true c.number k f.1)
    where
      go : (b : Bytes) → In b (released u run) → (o : Option (Signed Cert)) → cert_in u b ≡ o → option_map (λ (y : Signed Cert). y.value) o ≡ Some c → c.number ≡ k → IsReleased c k
      go b j None at e number = absurd (cc e)
      go b j (Some s) at e number =
          let value : s.value ≡ c = cc e in
          let (r, i, same) = (holds_at keys u run is).low.released b j in
          of r i (sym (ap (cert_in u) same) ∙ at) value
        where
          of : (r : Release) → In r (holds_at keys u run is).story → cert_in u (release_text own r) ≡ Some s → s.value ≡ c → IsReleased c k
          of (OfCert n d q) i some value =
              let before = came own (holds_at keys u run is).story (holds_at keys u run is).low.is_story (OfCert n d q) i in
              let two : Some (record { value = d; signature = signature_of (low.secret_of n own) q (cert.spell d) }) ≡ Some s = sym (cert_of own n d q before.0 before.1) ∙ some in
              let same : record { value = d; signature = signature_of (low.secret_of n own) q (cert.spell d) } ≡ s = cc two in
              let is_c : d ≡ c = ap (λ (y : Signed Cert). y.value) same ∙ value in
              record {
                fits = subst cert.Fits is_c before.1.fits;
                user = ap (λ (y : Cert). y.user) (sym is_c) ∙ before.1.user;
                number = number;
                text = record { text = b; there = j; one = s; read = at; value = value };
              }
          of (OfStructure n z q) i some value = absurd (cc (sym (no_cert u z (signature_of (low.secret_of n own) q (structure.spell z))) ∙ some))

all_front : (P : ℕ → Type 0) (xs : List ℕ) (y : ℕ) → All P (xs ++ y ∷ []) → All P xs × P y
all_front P [] y all = (All-nil P, All-head P y [] all)
all_front P (x ∷ xs) y all =
    let rest = all_front P xs y (All-tail P x (xs ++ y ∷ []) all) in
    (All-cons P x xs (All-head P x (xs ++ y ∷ []) all) rest.0, rest.1)

-- where all up to a number are there, so are those before it
pub all_before : (u : User) (run : List Event) (n : ℕ) → HasAllUpTo (n + 1) u run → HasAllUpTo n u run × IsSome (certificate u run (n + 1))
all_before u run n all =
    all_front (λ (k : ℕ). IsSome (certificate u run k)) (range_with_len 1 n) (n + 1) (subst (All (λ (k : ℕ). IsSome (certificate u run k))) (next_number n) all)

-- the certificates up to the next number
pub one_more : (u : User) (run : List Event) (n : ℕ) (c : Cert) → certificate u run (n + 1) ≡ Some c → certificates_up_to (n + 1) u run ≡ certificates_up_to n u run ++ c ∷ []
one_more u run n c at =
    ap (filter_map (certificate u run)) (next_number n) ∙ filter_map-last (certificate u run) (range_with_len 1 n) (n + 1) c at

pub all_more : (u : User) (run : List Event) (n : ℕ) (c : Cert) → certificate u run (n + 1) ≡ Some c → HasAllUpTo n u run → HasAllUpTo (n + 1) u run
all_more u run n c at all =
    subst (All (λ (k : ℕ). IsSome (certificate u run k))) (sym (next_number n))
    (All-push (λ (k : ℕ). IsSome (certificate u run k)) (range_with_len 1 n) (n + 1) all (ap is_some at))

pub none_first : (u : User) (run : List Event) → HasAllUpTo 0 u run
none_first u run = All-nil (λ (k : ℕ). IsSome (certificate u run k))
