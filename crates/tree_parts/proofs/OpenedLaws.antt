-- Opened directories, as a map from i-numbers to entries.
use Rattle.std.proofs.Common.{◌≡◌, ℕ, Bool, true, false, cond, List, Option, Some, None, refl, subst, sym, ap, ◌∙◌, arith}
use Rattle.std.specs.Prelude.{◌==◌, if◌then◌else◌, is_some, IsSome}
use Rattle.std.specs.Option.{option_map}
use Rattle.std.specs.Ordering.{nat_cmp, is_eq}
use Rattle.std.proofs.lemmas.Bool.{eqb-true}
use Rattle.std.proofs.lemmas.Bool.Decides.{nat_tests}
use Rattle.std.proofs.lemmas.Cmp.{nat_cmp_total}
use Rattle.layout.specs.Ascending.{Ascends, row_at, with_row, without_row}
use Rattle.layout.specs.AscendingLaws.{row_at-with_row, row_at-without_row, ascends_with_row, ascends_without_row}
use Rattle.directory.specs.Directory.{Entry}
use Rattle.itable.specs.ITable.{ITable, digest_at}
use Rattle.tree_parts.specs.Part.{Open, Part, IsPart, number_of}

-- the entries at an i-number
abbrev pub entries_in : List Open → ℕ → Option (List Entry)
entries_in opened i = option_map (λ o. o.entries) (row_at nat_cmp number_of opened i)

pub key_test : (a b : ℕ) → is_eq (nat_cmp a b) ≡ (a == b)
key_test a b = grind (arith, nat_tests)

mapped_cond : {A B : Type 0} (f : A → B) (t : Bool) (x y : Option A) → option_map f (cond t x y) ≡ cond t (option_map f x) (option_map f y)
mapped_cond f true x y = refl
mapped_cond f false x y = refl

-- with one more, or another in its place
pub entries_with : (opened : List Open) (o : Open) (i : ℕ) → entries_in (with_row nat_cmp number_of opened o) i ≡ (if o.i_number == i then Some o.entries else entries_in opened i)
entries_with opened o i =
    ap (option_map (λ o. o.entries)) (row_at-with_row nat_cmp number_of nat_cmp_total opened o i)
    ∙ mapped_cond (λ (o : Open). o.entries) (is_eq (nat_cmp o.i_number i)) (Some o) (row_at nat_cmp number_of opened i)
    ∙ ap (λ (b : Bool). cond b (Some o.entries) (entries_in opened i)) (key_test o.i_number i)

-- and with one less
pub entries_without : (opened : List Open) (k i : ℕ) → Ascends nat_cmp number_of None opened → entries_in (without_row nat_cmp number_of opened k) i ≡ (if k == i then None else entries_in opened i)
entries_without opened k i up =
    ap (option_map (λ o. o.entries)) (row_at-without_row nat_cmp number_of nat_cmp_total None opened k i up)
    ∙ mapped_cond (λ (o : Open). o.entries) (is_eq (nat_cmp k i)) None (row_at nat_cmp number_of opened i)
    ∙ ap (λ (b : Bool). cond b None (entries_in opened i)) (key_test k i)

pub entries_left : (opened left : List Open) (k i : ℕ) → Ascends nat_cmp number_of None opened → left ≡ without_row nat_cmp number_of opened k → entries_in left i ≡ (if k == i then None else entries_in opened i)
entries_left opened left k i up is = ap (λ (os : List Open). entries_in os i) is ∙ entries_without opened k i up

taken_mapped : {X Y : Type 0} (t : Bool) (x : Option X) (y : Option Y) → (IsSome x → IsSome y) → IsSome (if t then None else x) → IsSome (if t then None else y)
taken_mapped true x y mapped some = some
taken_mapped false x y mapped some = mapped some

-- where nothing stands at an i-number any more
pub is_part_taken : (old : Part) (table : ITable) (opened : List Open) (k : ℕ) → IsPart old → opened ≡ without_row nat_cmp number_of old.opened k → ((i : ℕ) → digest_at table i ≡ (if k == i then None else digest_at old.table i)) → table.principal ≡ old.table.principal → table.unloaded ≡ old.table.unloaded
    → IsPart (record { before = old.before; table = table; opened = opened })
is_part_taken old table opened k is left taken whose unloaded = record {
  principal = is.principal ∙ sym whose;
  unloaded = is.unloaded ∙ sym unloaded;
  ascending = subst (Ascends nat_cmp number_of None) (sym left) (ascends_without_row nat_cmp number_of nat_cmp_total None old.opened k is.ascending);
  mapped = λ i some.
      let there : IsSome (if k == i then None else entries_in old.opened i) = ap is_some (sym (entries_left old.opened opened k i is.ascending left)) ∙ some in
      ap is_some (taken i) ∙ taken_mapped (k == i) (entries_in old.opened i) (digest_at old.table i) (is.mapped i) there;
}

opened_mapped : (t : Bool) (o : Open) (i : ℕ) (table : ITable) (x : Option (List Entry)) → (o.i_number == i) ≡ t → IsSome (digest_at table o.i_number) → (IsSome x → IsSome (digest_at table i)) → IsSome (if t then Some o.entries else x) → IsSome (digest_at table i)
opened_mapped true o i table x same here mapped some = subst (λ (k : ℕ). IsSome (digest_at table k)) (eqb-true o.i_number i same) here
opened_mapped false o i table x same here mapped some = mapped some

-- where a directory is opened, or changes
pub is_part_with : (old : Part) (opened : List Open) (o : Open) → IsPart old → IsSome (digest_at old.table o.i_number) → opened ≡ with_row nat_cmp number_of old.opened o → IsPart (record { before = old.before; table = old.table; opened = opened })
is_part_with old opened o is here with = record {
  principal = is.principal;
  unloaded = is.unloaded;
  ascending = subst (Ascends nat_cmp number_of None) (sym with) (ascends_with_row nat_cmp number_of nat_cmp_total None old.opened o refl is.ascending);
  mapped = λ i some. opened_mapped (o.i_number == i) o i old.table (entries_in old.opened i) refl here (is.mapped i) (ap is_some (sym (ap (λ (os : List Open). entries_in os i) with ∙ entries_with old.opened o i)) ∙ some);
}
