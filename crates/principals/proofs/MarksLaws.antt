-- The marks tell which pairs have an open row.
use Rattle.std.proofs.Common.{◌≡◌, ◌≢◌, ℕ, ◌<◌, ◌≤◌, Bool, true, false, List, [], ◌∷◌, replicate, refl, sym, ◌∙◌, ◌⊎◌, inl, inr, arith, map}
use Rattle.std.specs.Prelude.{◌==◌}
use Rattle.std.specs.List.{list_any, slice_set}
use Rattle.std.proofs.lemmas.Bool.{eqb-true, eq-eqb, ne_eqb, cases_eq}
use Rattle.std.proofs.lemmas.List.{length-replicate, length-set, get_or-replicate, get_or-set_same, get_or-set_other}
use Rattle.principals.specs.declared.table.Row.{Row}
use Rattle.principals.specs.Table.{is_row_of, is_open, ended}
use Rattle.principals.specs.Kept.{slot, Marks}
use Rattle.principals.proofs.Bools.{both, and_false}

-- ---- rows of pairs

row_here : (g u : ℕ) (r : Row) → is_row_of g u r ≡ true → (r.group ≡ g) × (r.user ≡ u)
row_here g u r h = let tests = both (r.group == g) (r.user == u) h in (eqb-true r.group g tests.0, eqb-true r.user u tests.1)

row_is : (g u : ℕ) (r : Row) → r.group ≡ g → r.user ≡ u → is_row_of g u r ≡ true
row_is g u r of by = rw (eq-eqb r.group g of, eq-eqb r.user u by) refl

row_apart : (g u : ℕ) (r : Row) → ((r.group ≢ g) ⊎ (r.user ≢ u)) → is_row_of g u r ≡ false
row_apart g u r (inl apart) = rw (ne_eqb r.group g apart) refl
row_apart g u r (inr apart) = rw (ne_eqb r.user u apart) (and_false (r.group == g))

-- a row of another pair isn't open for this one
open_apart : (g u : ℕ) (r : Row) → ((r.group ≢ g) ⊎ (r.user ≢ u)) → is_open g u r ≡ false
open_apart g u r apart = rw (row_apart g u r apart) refl

pub closed_is : (g u : ℕ) (r : Row) → r.until ≢ 0 → is_open g u r ≡ false
closed_is g u r closed = rw (ne_eqb r.until 0 closed) (and_false (is_row_of g u r))

-- ---- ends

ended_here : (n g u : ℕ) (r : Row) → n ≢ 0 → (t : Bool) → is_open g u r ≡ t → is_open g u (ended n g u r) ≡ false
ended_here n g u r positive true is = rw is (closed_is g u (record { group = r.group; user = r.user; begins = r.begins; until = n }) positive)
ended_here n g u r positive false is = rw is is

ended_apart : (n g u h v : ℕ) (r : Row) → ((g ≢ h) ⊎ (u ≢ v)) → (t : Bool) → is_open g u r ≡ t → is_open h v (ended n g u r) ≡ is_open h v r
ended_apart n g u h v r apart true is =
    let of = row_here g u r (both (is_row_of g u r) (r.until == 0) is).0 in
    let other : ((r.group ≢ h) ⊎ (r.user ≢ v)) = elim apart [ inl ne ↦ inl (λ e. ne (sym of.0 ∙ e)) | inr ne ↦ inr (λ e. ne (sym of.1 ∙ e)) ] in
    rw is (open_apart h v (record { group = r.group; user = r.user; begins = r.begins; until = n }) other ∙ sym (open_apart h v r other))
ended_apart n g u h v r apart false is = rw is refl

pub none_open : (n g u : ℕ) (rs : List Row) → n ≢ 0 → list_any (is_open g u) (map (ended n g u) rs) ≡ false
none_open n g u [] positive = refl
none_open n g u (r ∷ rs) positive = rw (ended_here n g u r positive (is_open g u r) refl) (none_open n g u rs positive)

pub others_open : (n g u h v : ℕ) (rs : List Row) → ((g ≢ h) ⊎ (u ≢ v)) → list_any (is_open h v) (map (ended n g u) rs) ≡ list_any (is_open h v) rs
others_open n g u h v [] apart = refl
others_open n g u h v (r ∷ rs) apart = rw (ended_apart n g u h v r apart (is_open g u r) refl, others_open n g u h v rs apart) refl

-- ---- slots

pair_is : (g u h v : ℕ) → 64 ≤ g → u < 64 → 64 ≤ h → v < 64 → slot g u ≡ slot h v → (g ≡ h) × (u ≡ v)
pair_is g u h v low small low' small' e = (omega arith, omega arith)

apart_is : (g u h v : ℕ) → 64 ≤ g → u < 64 → 64 ≤ h → v < 64 → slot g u ≢ slot h v → (g ≢ h) ⊎ (u ≢ v)
apart_is g u h v low small low' small' ne =
    elim (cases_eq g h) [
      | inl e ↦ inr (λ k. ne (omega arith))
      | inr apart ↦ inl apart
    ]

-- ---- marks

pub no_marks : (marks : List Bool) → marks ≡ replicate 2048 false → Marks marks []
no_marks marks is =
    rw is (record {
      size = length-replicate 2048 false;
      tells = λ g u low high small. get_or-replicate 2048 (slot g u) false false (omega (arith, low, high, small));
    })

-- a pair's mark is set, and the others tell what they told
marks_set : (marks : List Bool) (rows new : List Row) (g u : ℕ) (b : Bool) → 64 ≤ g → g < 96 → u < 64 → list_any (is_open g u) new ≡ b → ((h v : ℕ) → ((g ≢ h) ⊎ (u ≢ v)) → list_any (is_open h v) new ≡ list_any (is_open h v) rows)
    → Marks marks rows → Marks (slice_set marks (slot g u) b) new
marks_set marks rows new g u b low high small here others old = record {
  size = length-set marks (slot g u) b ∙ old.size;
  tells = λ h v low' high' small'.
      elim (cases_eq (slot h v) (slot g u)) [
        | inl e ↦ (
            let pair = pair_is h v g u low' small' low small e in
            rw (pair.0, pair.1) (get_or-set_same marks (slot g u) b false (omega (arith, old.size, low, high, small)) ∙ sym here))
        | inr ne ↦
            get_or-set_other marks (slot g u) (slot h v) b false ne ∙ old.tells h v low' high' small' ∙ sym (others h v (apart_is g u h v low small low' small' (λ e. ne (sym e))))
      ];
}

-- a pair's open rows end
pub marks_ended : (marks : List Bool) (rows : List Row) (n g u : ℕ) → 64 ≤ g → g < 96 → u < 64 → n ≢ 0 → Marks marks rows → Marks (slice_set marks (slot g u) false) (map (ended n g u) rows)
marks_ended marks rows n g u low high small positive old =
    marks_set marks rows (map (ended n g u) rows) g u false low high small (none_open n g u rows positive) (λ h v apart. others_open n g u h v rows apart) old
