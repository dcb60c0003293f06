-- Components as rows that ascend, and what raising does.
use Rattle.std.proofs.Common.{◌≡◌, ℕ, ◌+◌, ◌<◌, List, [], Option, Some, Result, Ok, Err, refl, sym, ap, subst, ◌∙◌, cond, inl, inr, arith}
use Rattle.std.specs.Prelude.{◌==◌, if◌then◌else◌, OnOk, OnErr}
use Rattle.std.specs.Int.{w8, w32}
use Rattle.std.specs.Option.{option_map_or}
use Rattle.std.specs.Ordering.{nat_cmp}
use Rattle.std.proofs.lemmas.Bool.{cases_eq, eq-eqb, ne_eqb}
use Rattle.std.proofs.lemmas.Cmp.{nat_cmp_total}
use Rattle.std.proofs.lemmas.List.Elements.{All-nil}
use Rattle.layout.specs.Laws.{in_range_fits}
use Rattle.layout.specs.Ranges.{principal, version}
use Rattle.layout.specs.Ascending.{Ascends, row_at}
use Rattle.layout.specs.AscendingKeys.{key_test}
use Rattle.layout.specs.AscendingLaws.{Ordered, row_at-with_row}
use Rattle.version_order.specs.declared.vector.Component.{Component}
use Rattle.version_order.specs.Vector.{principal_of, component, vector, version_of, raised}
use Rattle.version_order.specs.VectorLaws.{components_ascend}
use Rattle.version_order.proofs.Rows.{AreRows, rows_of, are_listed, listed_with}

-- what each component is, wherever it stands
abbrev pub IsComponent : Component → Type 0
IsComponent c = principal.Fits c.principal × version.Fits c.version

ordered : Ordered nat_cmp principal_of nat_cmp_total component IsComponent
ordered = record {
  splits = λ b c fits. ((fits.0.0, fits.1), fits.0.1);
  joins = λ b c each up. ((each.0, up), each.1);
}

-- components that ascend by principal
abbrev pub Listed : List Component → Type 0
Listed = AreRows principal_of IsComponent

pub listed_of : (v : List Component) → vector.Fits v → Listed v
listed_of = rows_of component principal_of IsComponent ordered

pub none_is_vector : (v : List Component) → v ≡ [] → vector.Fits v
unfolding Ascends
none_is_vector v e = subst vector.Fits (sym e) (are_listed component principal_of IsComponent ordered 0 96 components_ascend (omega arith) [] (All-nil IsComponent, tt))

pub vector_raised : (p : ℕ) (v : List Component) → p < 96 → version_of p v < 4294967295 → vector.Fits v → vector.Fits (raised p v)
vector_raised p v small room fits =
    let new : Component = record { principal = p; version = version_of p v + 1 } in
    let one : IsComponent new = (
      in_range_fits w8 0 95 p (omega arith) (omega arith) (omega arith),
      in_range_fits w32 1 4294967295 (version_of p v + 1) (omega arith) (omega arith) (omega arith),
    ) in
    listed_with component principal_of IsComponent ordered 0 96 components_ascend (omega arith) v new one fits

-- raising adds one at the principal, and nothing elsewhere
pub version_of-raised : (p q : ℕ) (v : List Component) → version_of q (raised p v) ≡ version_of q v + (if p == q then 1 else 0)
version_of-raised p q v =
    let new : Component = record { principal = p; version = version_of p v + 1 } in
    ap (λ (o : Option Component). option_map_or (λ c. c.version) o 0) (row_at-with_row nat_cmp principal_of nat_cmp_total v new q)
    ∙ ap (λ t. option_map_or (λ (c : Component). c.version) (cond t (Some new) (row_at nat_cmp principal_of v q)) 0) (key_test p q)
    ∙ elim (cases_eq p q) [
      | inl e ↦ rw (eq-eqb p q e, ← e) refl
      | inr other ↦ rw (ne_eqb p q other) (omega arith)
    ]

-- so where raising was done
pub versions_raised : {X E : Type 0} (r : Result X E) (p : ℕ) (v w : List Component)
    → OnOk r (w ≡ raised p v)
    → OnOk r ((q : ℕ) → version_of q w ≡ version_of q v + (if p == q then 1 else 0))
versions_raised (Ok x) p v w e = λ q. ap (version_of q) e ∙ version_of-raised p q v
versions_raised (Err e) p v w other = tt

-- and the vector fits
pub fits_raised : {X E : Type 0} (r : Result X E) (p : ℕ) (v w : List Component)
    → p < 96
    → vector.Fits v
    → OnOk r (w ≡ raised p v)
    → OnOk r (version_of p v < 4294967295)
    → OnErr r (w ≡ v)
    → vector.Fits w
fits_raised (Ok x) p v w small fits ok within err = subst vector.Fits (sym ok) (vector_raised p v small within fits)
fits_raised (Err e) p v w small fits ok within err = subst vector.Fits (sym err) fits
