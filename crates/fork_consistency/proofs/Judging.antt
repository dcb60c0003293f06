-- What a reply tells that breaks no rule.
use Rattle.std.proofs.Common.{◌≡◌, ℕ, Bool, true, false, ◌==◌, List, [], ◌∷◌, Option, Some, None, Ok, Err, IfSome, find, refl, sym, ap, ◌∙◌, subst, inl, inr, option_map, if◌then◌else◌, not, ◌||◌}
use Rattle.std.specs.Option.{option_map_or}
use Rattle.std.proofs.lemmas.Bool.{eqb-true, and_parts}
use Rattle.std.proofs.lemmas.Slice.Eq.{bytes_eq-Decides}
use Rattle.layout.specs.Format.{Answer, Format, FitRows, after_row}
use Rattle.layout.specs.Types.{Bytes, Key, User, Version}
use Rattle.lms_sign.specs.Signature.{valid}
use Rattle.principals.specs.Table.{Table, key_at}
use Rattle.version_order.specs.Structure.{Structure, structure}
use Rattle.version_order.specs.StructureLaws.{lawful_structure}
use Rattle.pending_list.specs.declared.signed.Signed.{Signed}
use Rattle.pending_list.specs.Reply.{PendingItem, Reply, reply, signed_structure}
use Rattle.reply_rules.specs.declared.rule.Rule.{Rule}
use Rattle.reply_rules.specs.declared.rule.Rule.TheVariants as rule
use Rattle.reply_rules.specs.Lists.{Lists, items}
use Rattle.reply_rules.specs.Rules.{lists, unknown_user}
use Rattle.reply_rules.specs.Broken.{broken, later_rules, least}
use Rattle.reply_check.specs.FirstBroken.{Known, cert_is_signed, cert_verifies, certificates, lists_break, of_reply, own_last, own_pending, same_bytes, shown_of, signatures, structure_is_signed, structure_sent, structure_verifies, super_signature, verifies}
use Rattle.agreement.proofs.Members.{In}
use Rattle.agreement.proofs.Tests.{all_in, first_holds}

-- ---- structures of a reply

each_fits : {A : Type 0} (f : Format A) (b : Option A) (xs : List A) → FitRows (after_row (λ _. f)) b xs → (x : A) → In x xs → f.Fits x
unfolding FitRows
each_fits f b [] fits x i = absurd i
each_fits {A} f b (y ∷ ys) fits x (inl i) = subst f.Fits (sym i) fits.0
each_fits f b (y ∷ ys) fits x (inr i) = each_fits f (Some y) ys fits.1 x i

pub structure_fits : (r : Reply) → reply.Fits r → (z : Signed Structure) → In z r.structures → structure.Fits z.value
structure_fits r fits z i = (each_fits signed_structure None r.structures fits.0.1.1 z i).0.1

-- ---- the rules on the reply itself

pub record IsUnbroken (k : Known) (r : Reply) : Type 0 where
  pub in_order : lists r ≡ true
  pub last_is : own_last k.user k.last r ≡ true
  pub by_super : super_signature k.pinned r ≡ true

pub unbroken : (k : Known) (r : Reply) → of_reply k r ≡ None → IsUnbroken k r
unfolding of_reply
unbroken k r e =
    let three : List (Rule × Bool) = (rule.SuperSignature, super_signature k.pinned r) ∷ [] in
    let two : List (Rule × Bool) = (rule.OwnPending, own_pending k.declared r) ∷ three in
    let one : List (Rule × Bool) = (rule.OwnLast, own_last k.user k.last r) ∷ two in
    let a = first_holds rule.Lists (lists r) one e in
    let b = first_holds rule.OwnLast (own_last k.user k.last r) two a.1 in
    let c = first_holds rule.OwnPending (own_pending k.declared r) three b.1 in
    let d = first_holds rule.SuperSignature (super_signature k.pinned r) [] c.1 in
    record { in_order = a.0; last_is = b.0; by_super = d.0 }

-- ---- the own structure

value_or : Answer Structure → Structure → Structure
value_or (Ok x) other = x.0
value_or (Err e) other = other

same_sent : (a b : Signed Structure) → structure.Fits a.value → structure.Fits b.value → structure_sent a ≡ structure_sent b → a.value ≡ b.value
unfolding value_or
same_sent a b fits_a fits_b e =
    ap (λ (r : Answer Structure). value_or r a.value)
    (sym (lawful_structure.again a.value a.signature fits_a) ∙ ap structure.read e ∙ lawful_structure.again b.value b.signature fits_b)

abbrev pub value_of : Signed Structure → Structure
value_of z = z.value

found_fits : (t : Signed Structure → Bool) (zs : List (Signed Structure)) → ((z : Signed Structure) → In z zs → structure.Fits z.value) → IfSome (find t zs) (λ z. structure.Fits z.value)
found_fits t [] each = tt
found_fits t (z ∷ zs) each = go (t z) (found_fits t zs (λ y i. each y (inr i)))
  where
    go : (b : Bool) → IfSome (find t zs) (λ z. structure.Fits z.value) → IfSome (if b then Some z else find t zs) (λ z. structure.Fits z.value)
    go true ih = each z (inl refl)
    go false ih = ih

pub own_last_is : (u : ℕ) (last : Option (Signed Structure)) (r : Reply) → reply.Fits r → IfSome last (λ z. structure.Fits z.value) → own_last u last r ≡ true
    → option_map value_of (shown_of u r.structures) ≡ option_map value_of last
unfolding own_last
own_last_is u last r fits last_fits e = go (shown_of u r.structures) last (found_fits (λ z. z.value.plan.user == u) r.structures (structure_fits r fits)) last_fits e
  where
    go : (a b : Option (Signed Structure)) → IfSome a (λ z. structure.Fits z.value) → IfSome b (λ z. structure.Fits z.value) → same_bytes (option_map structure_sent a) (option_map structure_sent b) ≡ true
        → option_map value_of a ≡ option_map value_of b
    go None None fits_a fits_b same = refl
    go None (Some b) fits_a fits_b same = absurd (cc same)
    go (Some a) None fits_a fits_b same = absurd (cc same)
    go (Some a) (Some b) fits_a fits_b same = ap Some (same_sent a b fits_a fits_b ((bytes_eq-Decides (structure_sent a) (structure_sent b)).0 same))

-- ---- the rules by the table

pub record IsUnbrokenBy (t : Table) (x : Lists) : Type 0 where
  pub structures : signatures t x ≡ true
  pub certs : certificates t x ≡ true
  pub rules : broken t x ≡ None

pub unbroken_by : (t : Table) (x : Lists) → lists_break t x ≡ None → IsUnbrokenBy t x
unbroken_by t x e =
    let two : List (Rule × Bool) = (rule.Certificate, certificates t x) ∷ later_rules t x in
    let one : List (Rule × Bool) = (rule.Signature, signatures t x) ∷ two in
    let a = first_holds rule.UnknownUser (unknown_user t x) one e in
    let b = first_holds rule.Signature (signatures t x) two a.1 in
    let c = first_holds rule.Certificate (certificates t x) (later_rules t x) b.1 in
    record { structures = b.0; certs = c.0; rules = ap (λ b. if b then least (later_rules t x) else Some rule.UnknownUser) a.0 ∙ c.1 }

-- ---- signatures

-- what verifies by a table that lists the users' own keys does so by one of these
pub verified : (Own : User → Key → Type 0) (super : Key) (t : Table) → ((u : User) (v : Version) (k : Key) → key_at u v t ≡ Some k → Own u k) → Own 0 super → (u : User) (v : Version) (text signature : Bytes)
    → verifies t u v text signature ≡ true → (not (u == 0) || valid super text signature) ≡ true → (k : Key) × Own u k × (valid k text signature ≡ true)
verified Own super t own mine u v text signature by_table by_super = go (u == 0) refl by_table by_super
  where
    listed : (k : Option Key) → key_at u v t ≡ k → option_map_or (λ k. valid k text signature) k false ≡ true → (k : Key) × Own u k × (valid k text signature ≡ true)
    listed None is h = absurd (cc h)
    listed (Some k) is h = (k, own u v k is, h)

    go : (b : Bool) → (u == 0) ≡ b → (b || option_map_or (λ k. valid k text signature) (key_at u v t) false) ≡ true → (not b || valid super text signature) ≡ true → (k : Key) × Own u k × (valid k text signature ≡ true)
    go true zero_is h g = (super, subst (λ (w : User). Own w super) (sym (eqb-true u 0 zero_is)) mine, g)
    go false other h g = listed (key_at u v t) refl h

pub structure_verified : (t : Table) (x : Lists) → signatures t x ≡ true → (z : Signed Structure) → In z x.structures → structure_is_signed t z ≡ true
unfolding signatures
structure_verified t x e z i = all_in (structure_is_signed t) x.structures e z i

pub cert_verified : (t : Table) (x : Lists) → certificates t x ≡ true → (i : PendingItem) → In i (items x) → cert_is_signed t i ≡ true
unfolding certificates
cert_verified t x e i j = all_in (cert_is_signed t) (items x) e i j

pub structure_by_super : (key : Key) (r : Reply) → super_signature key r ≡ true → (z : Signed Structure) → In z r.structures → structure_verifies key z ≡ true
unfolding super_signature
structure_by_super key r e z i = all_in (structure_verifies key) r.structures (and_parts _ _ e).0 z i

pub cert_by_super : (key : Key) (r : Reply) → super_signature key r ≡ true → (i : PendingItem) → In i r.pending → cert_verifies key i ≡ true
unfolding super_signature
cert_by_super key r e i j = all_in (cert_verifies key) r.pending (and_parts _ _ e).1 i j
