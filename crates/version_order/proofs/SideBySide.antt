-- Two vectors that are gone over side by side.
use Rattle.std.proofs.Common.{◌≡◌, ℕ, ◌<◌, ◌≤◌, true, false, List, [], ◌∷◌, length, Option, Some, None, refl, sym, ap, ◌∙◌, arith}
use Rattle.std.specs.Prelude.{◌&&◌, ◌==◌, nat_le}
use Rattle.std.specs.Int.{w32}
use Rattle.std.specs.Option.{option_map_or}
use Rattle.std.specs.Ordering.{nat_cmp, is_eq, is_lt}
use Rattle.std.proofs.lemmas.Bool.{ne_eqb}
use Rattle.std.proofs.lemmas.Bool.Decides.{nat_tests}
use Rattle.std.proofs.lemmas.Cmp.{nat_cmp_total}
use Rattle.std.proofs.lemmas.List.Elements.{All-head, All-tail}
use Rattle.layout.specs.Laws.{in_range}
use Rattle.layout.specs.Ascending.{Ascends}
use Rattle.layout.specs.AscendingKeys.{lt_from_less, less_from_lt}
use Rattle.layout.specs.AscendingLaws.{ascends_earlier, none_following}
use Rattle.version_order.specs.declared.vector.Component.{Component}
use Rattle.version_order.specs.Vector.{principal_of, version_of, is_below}
use Rattle.version_order.proofs.Raising.{IsComponent, Listed}

positive : (c : Component) → IsComponent c → 1 ≤ c.version
positive c is = (in_range w32 1 4294967295 c.version is.1).0

-- the rest after the first component
pub rest_listed : (c : Component) (cs : List Component) → Listed (c ∷ cs) → Listed cs
unfolding Ascends
rest_listed c cs listed =
    (All-tail IsComponent c cs listed.0, ascends_earlier nat_cmp principal_of nat_cmp_total None c cs refl listed.1.1)

apart : (d : Component) (q : ℕ) → d.principal < q → is_eq (nat_cmp d.principal q) ≡ false
apart d q lt = grind (arith, nat_tests)

same : (d : Component) (q : ℕ) → d.principal ≡ q → is_eq (nat_cmp d.principal q) ≡ true
same d q e = grind (arith, nat_tests)

-- a component below all of the first isn't asked for
unseen : (d : Component) (ds w : List Component) → Ascends nat_cmp principal_of (Some d) w → is_below w (d ∷ ds) ≡ is_below w ds
unfolding Ascends
unseen d ds [] up = refl
unseen d ds (c ∷ cs) up =
    let later = unseen d ds cs (ascends_earlier nat_cmp principal_of nat_cmp_total (Some d) c cs up.0 up.1) in
    let version : version_of c.principal (d ∷ ds) ≡ version_of c.principal ds = rw (apart d c.principal (lt_from_less d.principal c.principal up.0)) refl in
    ap (λ n. nat_le c.version n && is_below cs (d ∷ ds)) version ∙ ap (λ b. nat_le c.version (version_of c.principal ds) && b) later

-- the second's first has a lesser principal
pub skipped : (c : Component) (cs : List Component) (d : Component) (ds : List Component)
    → Listed (c ∷ cs)
    → d.principal < c.principal
    → is_below (c ∷ cs) (d ∷ ds) ≡ is_below (c ∷ cs) ds
unfolding Ascends
skipped c cs d ds listed lt = unseen d ds (c ∷ cs) (less_from_lt d.principal c.principal lt, listed.1.1)

after_same : (c d : Component) (cs : List Component) → c.principal ≡ d.principal → Ascends nat_cmp principal_of (Some c) cs → Ascends nat_cmp principal_of (Some d) cs
unfolding Ascends
after_same c d [] e up = tt
after_same c d (x ∷ xs) e up = (rw (← e) up.0, up.1)

-- both first are of one principal
pub paired : (c : Component) (cs : List Component) (d : Component) (ds : List Component)
    → Listed (c ∷ cs)
    → c.principal ≡ d.principal
    → is_below (c ∷ cs) (d ∷ ds) ≡ (nat_le c.version d.version && is_below cs ds)
unfolding Ascends
paired c cs d ds listed e =
    let version : version_of c.principal (d ∷ ds) ≡ d.version = rw (same d c.principal (sym e)) refl in
    ap (λ n. nat_le c.version n && is_below cs (d ∷ ds)) version
    ∙ ap (λ b. nat_le c.version d.version && b) (unseen d ds cs (after_same c d cs e listed.1.1))

-- the first's first has a lesser principal, and so a version that the second has not
pub missed : (c : Component) (cs : List Component) (d : Component) (ds : List Component)
    → Listed (c ∷ cs)
    → Listed (d ∷ ds)
    → c.principal < d.principal
    → is_below (c ∷ cs) (d ∷ ds) ≡ false
unfolding Ascends
missed c cs d ds listed others lt =
    let here : is_eq (nat_cmp d.principal c.principal) ≡ false = grind (arith, nat_tests) in
    let passed : is_lt (nat_cmp d.principal c.principal) ≡ false = grind (arith, nat_tests) in
    let none = none_following nat_cmp principal_of nat_cmp_total d ds c.principal others.1.1 passed in
    let version : version_of c.principal (d ∷ ds) ≡ 0 = rw here (ap (λ (o : Option Component). option_map_or (λ (x : Component). x.version) o 0) none) in
    let more = positive c (All-head IsComponent c cs listed.0) in
    let less : nat_le c.version 0 ≡ false = grind (arith, nat_tests) in
    ap (λ n. nat_le c.version n && is_below cs (d ∷ ds)) version ∙ ap (λ b. b && is_below cs (d ∷ ds)) less

-- the second is at its end
pub ended : (v : List Component) → Listed v → is_below v [] ≡ (length v == 0)
ended [] listed = refl
ended (c ∷ cs) listed =
    let more = positive c (All-head IsComponent c cs listed.0) in
    let less : nat_le c.version 0 ≡ false = grind (arith, nat_tests) in
    let some : (length (c ∷ cs) == 0) ≡ false = ne_eqb (length (c ∷ cs)) 0 (λ e. omega arith) in
    ap (λ b. b && is_below cs []) less ∙ sym some
