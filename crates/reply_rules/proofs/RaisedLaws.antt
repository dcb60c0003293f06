-- What raising versions does to a vector past the last version.
use Rattle.std.proofs.Common.{◌≡◌, ℕ, ◌+◌, ◌≤◌, List, [], ◌∷◌, true, false, cond, Some, refl, ap, arith}
use Rattle.std.specs.Int.{w32}
use Rattle.std.specs.List.{All}
use Rattle.std.specs.Option.{option_map_or}
use Rattle.std.specs.Ordering.{nat_cmp, is_eq}
use Rattle.std.proofs.lemmas.Bool.{eq-eqb}
use Rattle.std.proofs.lemmas.List.Elements.{All-head, All-tail}
use Rattle.layout.specs.Laws.{in_range}
use Rattle.layout.specs.Ascending.{row_at}
use Rattle.version_order.specs.declared.vector.Component.{Component}
use Rattle.version_order.specs.Vector.{principal_of, version_of, raised, raised_all, vector}
use Rattle.version_order.proofs.Raising.{IsComponent, listed_of, version_of-raised}
use Rattle.reply_rules.specs.Rules.{same_vector}
use Rattle.reply_rules.proofs.Tests.{is_false}
use Rattle.reply_rules.proofs.SameVector.{same_vector_is}

-- no version is past the last one
version_most : (p : ℕ) (v : List Component) → All IsComponent v → version_of p v ≤ 4294967295
version_most p [] each = omega arith
version_most p (c ∷ cs) each =
    let most : c.version ≤ 4294967295 = (in_range w32 1 4294967295 c.version (All-head IsComponent c cs each).1).1 in
    let later = version_most p cs (All-tail IsComponent c cs each) in
    elim (is_eq (nat_cmp c.principal p)) as (λ t. option_map_or (λ (d : Component). d.version) (cond t (Some c) (row_at nat_cmp principal_of cs p)) 0 ≤ 4294967295) [
      | true ↦ most
      | false ↦ later
    ]

-- a version falls by no raising
pub version-grows : (u : ℕ) (ps : List ℕ) (v : List Component) → version_of u v ≤ version_of u (raised_all ps v)
version-grows u [] v = omega arith
version-grows u (p ∷ ps) v = omega (arith, version-grows u ps (raised p v), version_of-raised p u v)

-- no vector that fits is one that was raised past the last version
pub too_great : (v w : List Component) (p : ℕ) (ps : List ℕ)
    → vector.Fits v
    → version_of p w ≡ 4294967295
    → same_vector v (raised_all ps (raised p w)) ≡ false
too_great v w p ps fits last =
    let here : version_of p (raised p w) ≡ version_of p w + 1 = rw (eq-eqb p p refl) at (version_of-raised p p w) in
    let later = version-grows p ps (raised p w) in
    let most = version_most p v (listed_of v fits).0 in
    is_false _ (λ h. let same = ap (version_of p) (same_vector_is v _ h) in absurd (omega arith))
