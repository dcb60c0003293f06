-- Signed texts: their parts, and what is read from them.
use Rattle.std.proofs.Common.{◌≡◌, ℕ, ◌+◌, ◌-◌, ◌<◌, Bool, true, false, ◌==◌, List, [], ◌∷◌, ◌++◌, length, take, drop, Option, Some, None, Result, Ok, Err, refl, sym, ap, ◌∙◌, arith, nat_eq, nat_lt, if◌then◌else◌}
use Rattle.std.specs.Prelude.{codes}
use Rattle.std.specs.Int.{w32, from_be_bytes}
use Rattle.std.specs.List.{starts_with}
use Rattle.std.specs.Option.{option_and_then}
use Rattle.std.specs.Result.{result_ok}
use Rattle.std.proofs.lemmas.Bool.{eq-eqb, le-ltb}
use Rattle.std.proofs.lemmas.List.{append_assoc, length-append, take_all, drop_at}
use Rattle.std.proofs.lemmas.Nat.{from_be_bytes-to_be_bytes_4}
use Rattle.layout.specs.declared.error.ReadError.{ReadError}
use Rattle.layout.specs.declared.error.ReadError.TheVariants.{Short, BadTag, Trailing}
use Rattle.layout.specs.Format.{Answer, Format, be, ends, headed, mapped, nested, pair, raw, whole, ◌>>=◌, Lawful}
use Rattle.lms_sign.specs.Hashing.{joined}
use Rattle.lms_sign.specs.Keys.{lms_type, ots_type}
use Rattle.lms_sign.specs.OneTime.{digest_of, randomizer_of, signed_value}
use Rattle.lms_sign.specs.Secret.{Secret}
use Rattle.lms_sign.specs.Signature.{leaf_of, path_of, signature_of}
use Rattle.lms_sign.proofs.Validity.{length-signature}
use Rattle.layout.specs.Ranges.{size, user, version}
use Rattle.client_journal.specs.Records.{signature_in}
use Rattle.version_order.specs.Plan.{plan}
use Rattle.version_order.specs.Structure.{Structure, group_records, structure}
use Rattle.version_order.specs.StructureLaws.{lawful_structure}
use Rattle.update_cert.specs.Cert.{Cert, cert, changes}
use Rattle.update_cert.specs.CertLaws.{lawful_cert}
use Rattle.pending_list.specs.declared.signed.Signed.{Signed}
use Rattle.pending_list.specs.Signed.{signature, signed}
use Rattle.client_releases.specs.Told.{cert_in, own_in, structure_in}
use Rattle.release_runs.specs.Released.{leaf_in}

-- ---- the parts of a text with its signature

module _ (text sig : List ℕ) (long : length sig ≡ 2508) where
  front_size : length (text ++ sig) - 2508 ≡ length text
  front_size = omega (arith, length-append text sig)

  pub signature_at : signature_in (text ++ sig) ≡ sig
  signature_at = ap (λ n. drop n (text ++ sig)) front_size ∙ drop_at text sig (length text) refl

  pub long_text : length (text ++ sig) ≡ length text + 2508
  long_text = omega (arith, length-append text sig)

four_bytes : (q : ℕ) (rest : List ℕ) → take 4 (be w32 q ++ rest) ≡ be w32 q
unfolding be
four_bytes q rest = refl

read_back : (q : ℕ) → q < 1024 → from_be_bytes w32 (be w32 q) ≡ q
unfolding be
read_back q small = from_be_bytes-to_be_bytes_4 q (omega arith)

begins_with_leaf : (secret : Secret) (text : List ℕ) (q : ℕ) → (rest : List ℕ) × (signature_of secret q text ≡ be w32 q ++ rest)
unfolding signature_of
begins_with_leaf secret text q =
    let randomizer = randomizer_of secret.seed secret.id q in
    let values = joined 67 (signed_value secret.seed secret.id q (digest_of secret.id q randomizer text)) in
    let path = joined 10 (path_of secret q) in
    (ots_type ++ (randomizer ++ (values ++ (lms_type ++ path))), simp append_assoc)

-- a signature names the leaf that made it
pub leaf_of_signature : (secret : Secret) (text : List ℕ) (q : ℕ) → q < 1024 → leaf_of (signature_of secret q text) ≡ q
leaf_of_signature secret text q small =
    let b = begins_with_leaf secret text q in
    ap (λ (s : List ℕ). from_be_bytes w32 (take 4 s)) b.1 ∙ ap (from_be_bytes w32) (four_bytes q b.0) ∙ read_back q small

pub leaf_in_sent : (secret : Secret) (text : List ℕ) (q : ℕ) → q < 1024 → leaf_in (text ++ signature_of secret q text) ≡ q
leaf_in_sent secret text q small = ap leaf_of (signature_at text (signature_of secret q text) (length-signature secret text q)) ∙ leaf_of_signature secret text q small

-- ---- what is read from a signed text

nothing_left : (n : ℕ) (xs : List ℕ) → length xs ≡ n → drop n xs ≡ []
nothing_left n xs size = ap (λ l. drop n l) (sym (append_nil_right xs)) ∙ drop_at xs [] n size
  where
    append_nil_right : (ys : List ℕ) → ys ++ [] ≡ ys
    append_nil_right [] = refl
    append_nil_right (y ∷ ys) = ap (λ l. y ∷ l) (append_nil_right ys)

signature_read : (sig : List ℕ) → length sig ≡ 2508 → signature.read sig ≡ Ok (sig, [])
signature_read sig sized =
    let long : nat_lt (length sig) 2508 ≡ false = le-ltb _ _ (omega (arith, sized)) in
    rw long (ap (λ l. Ok (l, drop 2508 sig)) (take_all 2508 sig (omega (arith, sized))) ∙ ap (λ l. Ok (sig, l)) (nothing_left 2508 sig sized))

pub read_signed : {V : Type 0} (f : Format V) → Lawful f → (v : V) (sig : List ℕ) → f.Fits v → length sig ≡ 2508 → whole (signed f) (f.spell v ++ sig) ≡ Ok (record { value = v; signature = sig })
read_signed {V} f law v sig fits sized =
    let paired : V × List ℕ → Answer (V × List ℕ) = λ x. signature.read x.1 >>= λ y. Ok ((x.0, y.0), y.1) in
    let with_rest : List ℕ × List ℕ → Answer (V × List ℕ) = λ y. Ok ((v, y.0), y.1) in
    let made : (V × List ℕ) × List ℕ → Answer (Signed V) = λ x. Ok (record { value = x.0.0; signature = x.0.1 }, x.1) in
    let done : Signed V × List ℕ → Result (Signed V) ReadError = λ x. if ends x.1 then Ok x.0 else Err Trailing in
    ap (λ (r : Answer V). r >>= paired >>= made >>= done) (law.again v sig fits)
    ∙ ap (λ (r : Answer (List ℕ)). r >>= with_rest >>= made >>= done) (signature_read sig sized)

module _ (u : ℕ) (sig : List ℕ) (long : length sig ≡ 2508) where
  pub cert_read : (c : Cert) → cert.Fits c → c.user ≡ u → cert_in u (cert.spell c ++ sig) ≡ Some (record { value = c; signature = sig })
  cert_read c fits own =
      ap (λ r. option_and_then (λ (v : Signed Cert). if v.value.user == u then Some v else None) (result_ok r)) (read_signed cert lawful_cert c sig fits long)
      ∙ rw (eq-eqb c.user u own) refl

  pub structure_read : (z : Structure) → structure.Fits z → z.plan.user ≡ u → structure_in u (structure.spell z ++ sig) ≡ Some (record { value = z; signature = sig })
  structure_read z fits own =
      ap (λ r. option_and_then (λ (v : Signed Structure). if v.value.plan.user == u then Some v else None) (result_ok r)) (read_signed structure lawful_structure z sig fits long)
      ∙ rw (eq-eqb z.plan.user u own) refl

-- ---- other tags

abbrev tag_answer : Bool → Bool → List ℕ → Answer (Unit {0})
tag_answer short is rest = if short then Err Short else if is then Ok (tt, rest) else Err BadTag

tag_refused : {V : Type 0} (tag : List ℕ) (f : Format V) (bytes : List ℕ) → starts_with nat_eq bytes tag ≡ false → (e : ReadError) × ((headed tag f).read bytes ≡ Err e)
tag_refused {V} tag f bytes other = go (nat_lt (length bytes) (length tag)) (starts_with nat_eq bytes tag) other
  where
    go : (short is : Bool) → is ≡ false → (e : ReadError) × ((tag_answer short is (drop (length tag) bytes) >>= λ t. f.read t.1) ≡ Err e)
    go true is h = (Short, refl)
    go false true h = absurd (cc h)
    go false false h = (BadTag, refl)

-- what a signed text isn't, where its front isn't read
not_signed : {V : Type 0} (f : Format V) (user_of : V → ℕ) (u : ℕ) (bytes : List ℕ) → (e : ReadError) × (f.read bytes ≡ Err e) → own_in (signed f) (λ v. user_of v.value) u bytes ≡ None
not_signed {V} f user_of u bytes refused =
    let paired : V × List ℕ → Answer (V × List ℕ) = λ x. signature.read x.1 >>= λ y. Ok ((x.0, y.0), y.1) in
    let made : (V × List ℕ) × List ℕ → Answer (Signed V) = λ x. Ok (record { value = x.0.0; signature = x.0.1 }, x.1) in
    let done : Signed V × List ℕ → Result (Signed V) ReadError = λ x. if ends x.1 then Ok x.0 else Err Trailing in
    let own : Signed V → Option (Signed V) = λ v. if user_of v.value == u then Some v else None in
    ap (λ (r : Answer V). option_and_then own (result_ok (r >>= paired >>= made >>= done))) refused.1

-- the formats after the tags
cert_body : Format Cert
cert_body =
    mapped (λ p. record { user = p.0; number = p.1.0; last = p.1.1.0; changes = p.1.1.1 }) (λ c. (c.user, (c.number, (c.last, c.changes))))
    (pair user (pair version (pair (raw 32) changes)))

structure_body : Format Structure
structure_body =
    mapped (λ p. record { plan = p.0; handle = p.1.0; groups = p.1.1 }) (λ s. (s.plan, (s.handle, s.groups)))
    (pair (nested size plan) (pair (raw 32) group_records))

-- a structure's text is no certificate's
pub no_cert : (u : ℕ) (z : Structure) (sig : List ℕ) → cert_in u (structure.spell z ++ sig) ≡ None
unfolding cert_body
no_cert u z sig = not_signed cert (λ c. c.user) u (structure.spell z ++ sig) (tag_refused (codes "SUC1") cert_body (structure.spell z ++ sig) refl)

-- nor the other way round
pub no_structure : (u : ℕ) (c : Cert) (sig : List ℕ) → structure_in u (cert.spell c ++ sig) ≡ None
unfolding structure_body
no_structure u c sig = not_signed structure (λ z. z.plan.user) u (cert.spell c ++ sig) (tag_refused (codes "SVS1") structure_body (cert.spell c ++ sig) refl)
