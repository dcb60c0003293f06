-- The first rule that lists break by a table of principals: the rules on signatures come after the one on users and before
-- the others.
use Rattle.std.proofs.Common.{◌≡◌, Bool, true, false, List, ◌∷◌, Option, Some, None, refl, ap, ◌∙◌}
use Rattle.std.specs.Prelude.{IsSomeAnd}
use Rattle.std.specs.List.{list_all}
use Rattle.std.specs.Option.{option_eq}
use Rattle.principals.specs.Table.{Table}
use Rattle.version_order.specs.Structure.{Structure}
use Rattle.pending_list.specs.declared.signed.Signed.{Signed}
use Rattle.pending_list.specs.Reply.{PendingItem}
use Rattle.reply_rules.specs.Lists.{Lists, items}
use Rattle.reply_rules.specs.Rules.{unknown_user}
use Rattle.reply_rules.specs.Broken.{broken, later_rules, least}
use Rattle.reply_rules.specs.declared.rule.Rule.{Rule}
use Rattle.reply_rules.specs.declared.rule.Rule.TheVariants as rule
use Rattle.reply_check.specs.FirstBroken.{cert_is_signed, certificates, lists_break, signatures, structure_is_signed}

-- where the rule on users isn't the first that is broken, it holds
users_hold : (same : Rule → Rule → Bool) (holds : Bool) (rest : List (Rule × Bool)) → same rule.UnknownUser rule.UnknownUser ≡ true → option_eq same (least ((rule.UnknownUser, holds) ∷ rest)) (Some rule.UnknownUser) ≡ false → holds ≡ true
users_hold same true rest itself other = refl
users_hold same false rest itself other = absurd cc

signature_next : (known signed : Bool) (rest : List (Rule × Bool)) → known ≡ true → signed ≡ false → Some rule.Signature ≡ least ((rule.UnknownUser, known) ∷ (rule.Signature, signed) ∷ rest)
signature_next known signed rest holds broken = rw (holds, broken) refl

certificate_next : (known signed certified : Bool) (rest : List (Rule × Bool)) → known ≡ true → signed ≡ true → certified ≡ false → Some rule.Certificate ≡ least ((rule.UnknownUser, known) ∷ (rule.Signature, signed) ∷ (rule.Certificate, certified) ∷ rest)
certificate_next known signed certified rest holds is broken = rw (holds, is, broken) refl

others_next : (known signed certified : Bool) (rest : List (Rule × Bool)) → signed ≡ true → certified ≡ true → least ((rule.UnknownUser, known) ∷ rest) ≡ least ((rule.UnknownUser, known) ∷ (rule.Signature, signed) ∷ (rule.Certificate, certified) ∷ rest)
others_next known signed certified rest is are = rw (is, are) refl

-- ---- of the lists of a reply

-- where the first broken rule of the others isn't the one on users, and a structure isn't signed
pub signature_breaks : (same : Rule → Rule → Bool) (o : Option Lists) (t : Table) (first : Option Rule) (zs : List (Signed Structure)) → same rule.UnknownUser rule.UnknownUser ≡ true
    → option_eq same first (Some rule.UnknownUser) ≡ false → IsSomeAnd o (λ x. first ≡ broken t x)
    → IsSomeAnd o (λ x. x.structures ≡ zs) → list_all (structure_is_signed t) zs ≡ false
    → IsSomeAnd o (λ x. Some rule.Signature ≡ lists_break t x)
unfolding signatures
signature_breaks same None t first zs itself other told shown signed = told
signature_breaks same (Some x) t first zs itself other told shown signed =
    let holds = users_hold same (unknown_user t x) (later_rules t x) itself (rw told at other) in
    signature_next (unknown_user t x) (signatures t x) ((rule.Certificate, certificates t x) ∷ later_rules t x) holds (ap (list_all (structure_is_signed t)) shown ∙ signed)

-- and the structures are, but a pending certificate isn't
pub certificate_breaks : (same : Rule → Rule → Bool) (o : Option Lists) (t : Table) (first : Option Rule) (zs : List (Signed Structure)) (is : List PendingItem) → same rule.UnknownUser rule.UnknownUser ≡ true
    → option_eq same first (Some rule.UnknownUser) ≡ false → IsSomeAnd o (λ x. first ≡ broken t x)
    → IsSomeAnd o (λ x. x.structures ≡ zs) → list_all (structure_is_signed t) zs ≡ true
    → IsSomeAnd o (λ x. items x ≡ is) → list_all (cert_is_signed t) is ≡ false
    → IsSomeAnd o (λ x. Some rule.Certificate ≡ lists_break t x)
unfolding signatures certificates
certificate_breaks same None t first zs is itself other told shown signed waiting certified = told
certificate_breaks same (Some x) t first zs is itself other told shown signed waiting certified =
    let holds = users_hold same (unknown_user t x) (later_rules t x) itself (rw told at other) in
    certificate_next (unknown_user t x) (signatures t x) (certificates t x) (later_rules t x) holds (ap (list_all (structure_is_signed t)) shown ∙ signed) (ap (list_all (cert_is_signed t)) waiting ∙ certified)

-- and where both are, it is the first of all
pub others_break : (o : Option Lists) (t : Table) (first : Option Rule) (zs : List (Signed Structure)) (is : List PendingItem)
    → IsSomeAnd o (λ x. first ≡ broken t x)
    → IsSomeAnd o (λ x. x.structures ≡ zs) → list_all (structure_is_signed t) zs ≡ true
    → IsSomeAnd o (λ x. items x ≡ is) → list_all (cert_is_signed t) is ≡ true
    → IsSomeAnd o (λ x. first ≡ lists_break t x)
unfolding signatures certificates
others_break None t first zs is told shown signed waiting certified = told
others_break (Some x) t first zs is told shown signed waiting certified =
    told ∙ others_next (unknown_user t x) (signatures t x) (certificates t x) (later_rules t x) (ap (list_all (structure_is_signed t)) shown ∙ signed) (ap (list_all (cert_is_signed t)) waiting ∙ certified)
