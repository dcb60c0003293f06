-- What is signed, and so needn't be verified again.
use Rattle.std.proofs.Common.{◌≡◌, ◌≢◌, ℕ, List, [], ◌∷◌, ◌++◌, length, take, drop, Option, Some, None, Bool, true, false, refl, sym, ap, subst, ◌∙◌, inl, inr, arith}
use Rattle.std.specs.Prelude.{◌==◌, ◌||◌, find, IfSome}
use Rattle.std.specs.List.{list_all}
use Rattle.std.specs.Option.{option_map_or}
use Rattle.std.proofs.lemmas.Bool.{and_parts, cases_Bool, eqb-true, ne_eqb}
use Rattle.std.proofs.lemmas.List.{length-append}
use Rattle.std.proofs.lemmas.List.Folds.{list_all-append}
use Rattle.std.proofs.Math.Seq.{take-append_seam, drop-append_seam}
use Rattle.layout.specs.Types.{Bytes, Key}
use Rattle.lms_sign.specs.Signature.{valid}
use Rattle.principals.specs.Table.{Table, key_at}
use Rattle.version_order.specs.Structure.{Structure, structure}
use Rattle.version_order.specs.Vector.{version_of}
use Rattle.update_cert.specs.Cert.{Cert, cert}
use Rattle.pending_list.specs.declared.signed.Signed.{Signed}
use Rattle.pending_list.specs.Reply.{PendingItem, Reply}
use Rattle.reply_rules.specs.Lists.{Lists}
use Rattle.reply_rules.specs.Broken.{later_rules, least}
use Rattle.reply_rules.specs.Rules.{unknown_user}
use Rattle.reply_rules.specs.declared.rule.Rule.{Rule}
use Rattle.reply_rules.specs.declared.rule.Rule.TheVariants as rule
use Rattle.reply_check.specs.FirstBroken.{cert_is_signed, cert_verifies, certificates, lists_break, shown_of, signatures, structure_is_signed, structure_verifies, super_signature, verifies}
use Rattle.reply_check.specs.Verified.{AreOwn, AreSupers, IsCertSigned, IsJudgedBy, IsSealed, IsSigned}

-- what all items have that pass, the first one has that is found
found : {X : Type 0} (f p : X → Bool) (P : X → Type 0) → ((x : X) → f x ≡ true → p x ≡ true → P x) → (xs : List X) → list_all p xs ≡ true → IfSome (find f xs) P
found f p P each [] all = tt
found f p P each (x ∷ xs) all =
    let parts = and_parts (p x) (list_all p xs) all in
    elim (cases_Bool (f x)) [
      | inl here ↦ rw here (each x here parts.0)
      | inr other ↦ rw other (found f p P each xs parts.1)
    ]

-- ---- user 0

supers_structure : (x : Lists) (key : Key) → AreSupers x key → IfSome (shown_of 0 x.structures) (IsSigned key)
supers_structure x key are =
    found (λ (z : Signed Structure). z.value.plan.user == 0) (structure_verifies key) (IsSigned key) (λ z is holds. rw is at holds) x.structures are.structures

supers_cert : (x : Lists) (key : Key) → AreSupers x key → IfSome (find (λ i. i.cert.user == 0) x.others) (IsCertSigned key)
supers_cert x key are =
    let parts = and_parts (list_all (cert_verifies key) x.others) _ (sym (list_all-append (cert_verifies key) x.others (x.own ∷ [])) ∙ are.certs) in
    found (λ (i : PendingItem). i.cert.user == 0) (cert_verifies key) (IsCertSigned key) (λ i is holds. rw is at holds) x.others parts.0

-- user 0's signatures in a reply that meets the rule on them
pub reply_supers : (r : Reply) (key : Key) (others : List PendingItem) (own : PendingItem) → r.pending ≡ others ++ own ∷ [] → super_signature key r ≡ true
    → AreSupers (record { structures = r.structures; others = others; own = own }) key
unfolding super_signature
reply_supers r key others own is holds =
    let parts = and_parts (list_all (structure_verifies key) r.structures) (list_all (cert_verifies key) r.pending) holds in
    record { structures = parts.0; certs = subst (λ (xs : List PendingItem). list_all (cert_verifies key) xs ≡ true) is parts.1 }

-- ---- another user

-- a signature of a user who has this key by the table
verified : (t : Table) (user v : ℕ) (key : Key) → user ≢ 0 → key_at user v t ≡ Some key → (u : ℕ) (text signature : Bytes) → u ≡ user → verifies t u v text signature ≡ true → valid key text signature ≡ true
verified t user v key other listed u text signature same holds =
    let of_user : ((user == 0) || option_map_or (λ k. valid k text signature) (key_at user v t) false) ≡ true = subst (λ (w : ℕ). verifies t w v text signature ≡ true) same holds in
    rw (ne_eqb user 0 other, listed) at of_user

signed_next : (a b c : Bool) (rest : List (Rule × Bool)) → least ((rule.UnknownUser, a) ∷ (rule.Signature, b) ∷ (rule.Certificate, c) ∷ rest) ≡ None → (b ≡ true) × (c ≡ true)
signed_next true true true rest none = (refl, refl)
signed_next true true false rest none = absurd cc
signed_next true false c rest none = absurd cc
signed_next false b c rest none = absurd cc

-- ---- in lists that break no rule

module _ (t : Table) (x : Lists) (user : ℕ) (key : Key) (none : lists_break t x ≡ None) where
  signed : (signatures t x ≡ true) × (certificates t x ≡ true)
  signed = signed_next (unknown_user t x) (signatures t x) (certificates t x) (later_rules t x) none

  listed_structure : user ≢ 0 → IfSome (shown_of user x.structures) (λ z. key_at user (version_of 0 z.value.plan.vector) t ≡ Some key → IsSigned key z)
  unfolding signatures
  listed_structure other =
      found (λ (z : Signed Structure). z.value.plan.user == user) (structure_is_signed t) (λ z. key_at user (version_of 0 z.value.plan.vector) t ≡ Some key → IsSigned key z)
      (λ z is holds listed. verified t user (version_of 0 z.value.plan.vector) key other listed z.value.plan.user (structure.spell z.value) z.signature (eqb-true _ _ is) holds) x.structures signed.0

  listed_cert : user ≢ 0 → IfSome (find (λ i. i.cert.user == user) x.others) (λ i. key_at user (version_of 0 i.plan.vector) t ≡ Some key → IsCertSigned key i)
  unfolding certificates
  listed_cert other =
      let parts = and_parts (list_all (cert_is_signed t) x.others) _ (sym (list_all-append (cert_is_signed t) x.others (x.own ∷ [])) ∙ signed.1) in
      found (λ (i : PendingItem). i.cert.user == user) (cert_is_signed t) (λ i. key_at user (version_of 0 i.plan.vector) t ≡ Some key → IsCertSigned key i)
      (λ i is holds listed. verified t user (version_of 0 i.plan.vector) key other listed i.cert.user (cert.spell i.cert) i.signature (eqb-true _ _ is) holds) x.others parts.0

  -- a user's structure is signed under the key by which it was judged
  pub structure_under : (z : Signed Structure) → shown_of user x.structures ≡ Some z → IsJudgedBy x t user (version_of 0 z.value.plan.vector) key → IsSigned key z
  structure_under z at (inl super) =
      subst (λ (o : Option (Signed Structure)). IfSome o (IsSigned key)) (ap (λ (u : ℕ). shown_of u x.structures) (sym super.0) ∙ at) (supers_structure x key super.1)
  structure_under z at (inr listed) =
      subst (λ (o : Option (Signed Structure)). IfSome o (λ y. key_at user (version_of 0 y.value.plan.vector) t ≡ Some key → IsSigned key y)) at (listed_structure listed.0) listed.1

  -- and so is its pending certificate
  pub cert_under : (i : PendingItem) → find (λ i. i.cert.user == user) x.others ≡ Some i → IsJudgedBy x t user (version_of 0 i.plan.vector) key → IsCertSigned key i
  cert_under i at (inl super) =
      subst (λ (o : Option PendingItem). IfSome o (IsCertSigned key)) (ap (λ (u : ℕ). find (λ (k : PendingItem). k.cert.user == u) x.others) (sym super.0) ∙ at) (supers_cert x key super.1)
  cert_under i at (inr listed) =
      subst (λ (o : Option PendingItem). IfSome o (λ k. key_at user (version_of 0 k.plan.vector) t ≡ Some key → IsCertSigned key k)) at (listed_cert listed.0) listed.1

-- ---- what the client signs itself

same_ends : (a b s t : Bytes) → length s ≡ length t → a ++ s ≡ b ++ t → (a ≡ b) × (s ≡ t)
same_ends a b s t size is =
    let long : length a ≡ length b = omega (arith, size, ap length is, length-append a s, length-append b t) in
    let front : a ≡ b = sym (take-append_seam a s) ∙ ap (λ xs. take (length a) xs) is ∙ ap (λ n. take n (b ++ t)) long ∙ take-append_seam b t in
    let back : s ≡ t = sym (drop-append_seam a s) ∙ ap (λ xs. drop (length a) xs) is ∙ ap (λ n. drop n (b ++ t)) long ∙ drop-append_seam b t in
    (front, back)

pub seals : (key body signature : Bytes) → length signature ≡ 2508 → valid key body signature ≡ true → IsSealed key (body ++ signature)
seals key body signature size holds other ending long is =
    let parts = same_ends body other signature ending (size ∙ sym long) is in
    subst (λ (s : Bytes). valid key other s ≡ true) parts.1 (subst (λ (b : Bytes). valid key b signature ≡ true) parts.0 holds)

-- a pending certificate that is signed, with its signature
pub cert_there : (key : Key) (i : PendingItem) (z : Signed Cert) → z ≡ record { value = i.cert; signature = i.signature } → IsCertSigned key i → valid key (cert.spell z.value) z.signature ≡ true
cert_there key i z is holds = subst (λ (y : Signed Cert). valid key (cert.spell y.value) y.signature ≡ true) (sym is) holds

-- nothing ends in a signature
pub seals_nothing : (key : Bytes) → IsSealed key []
seals_nothing key body signature long is = absurd (omega (arith, long, ap length is, length-append body signature))

-- who signed nothing yet
pub owns_nothing : (key : Key) (last : Option (Signed Structure)) (text : Bytes) → last ≡ None → text ≡ [] → AreOwn key last text
owns_nothing key last text none empty = rw (none, empty) (record { structure = tt; sealed = seals_nothing key })
