-- Nobody has to believe this file: laws, which are proved.
-- The text of the table: what is read is spelled so, and what fits and is spelled so is read.
use Rattle.std.proofs.Common.{◌≡◌, ℕ, suc, ◌-◌, ◌≤◌, ◌==◌, Bool, true, false, cond, ◌||◌, List, [], ◌∷◌, ◌++◌, length, Option, Some, None, Result, Ok, Err, refl, sym, ap, subst, ◌∙◌, append_assoc, arith}
use Rattle.std.specs.Prelude.{codes, nat_le, nat_lt, not}
use Rattle.std.specs.Int.{w8, w16, w32}
use Rattle.std.proofs.lemmas.Bool.{and_parts, le-leb, le-ltb, leb-true}
use Rattle.std.proofs.lemmas.List.{length-append}
use Rattle.std.proofs.lemmas.List.Folds.{list_any-append}
use Rattle.layout.specs.declared.error.ReadError.{ReadError}
use Rattle.layout.specs.declared.error.ReadError.TheVariants.{BadTag, Order, Range}
use Rattle.layout.specs.Types.{Bytes}
use Rattle.layout.specs.Format.{Answer, Format, IsBytes, ◌>>=◌, tagged, FitRows, after_row, guarded, headed, uint_in, followed, pair, Lawful, Takes}
use Rattle.layout.specs.Laws.{laws, lawful_followed, lawful_headed, lawful_listed_from, lawful_mapped, lawful_rows_from, lawful_tagged, lawful_sized, lawful_uint_in, lawful_guarded, in_range, wide8, wide16}
use Rattle.principals.specs.declared.table.Renewal.{Renewal}
use Rattle.principals.specs.Table.{Table, Listing, last_since}
use Rattle.principals.specs.TableText.{within, Either, tag_or, by_tag, key, who, listed_at, dated, with_first, renewals, listing, single, keys_after, key_count, keys, listing_by, last_user, may_have, none_of, is_renewed, are_renewed, Users, may_come, user_rows, several, users, row, member_rows, without_rows, rows_of, table}

-- ---- forms of formats

abbrev done : {A : Type 0} → A → Result A ReadError
done x = Ok x

ok_is : {A : Type 0} (x y : A) → done x ≡ done y → x ≡ y
ok_is x y e = cc

bind_ok : {A B : Type 0} (r : Result A ReadError) (f : A → Result B ReadError) (y : B) → (r >>= f) ≡ Ok y → (x : A) × (r ≡ Ok x) × (f x ≡ Ok y)
bind_ok (Ok x) f y e = (x, refl, e)
bind_ok (Err d) f y e = absurd cc

pub lawful_within : {A B : Type 0} (to : A → B) (from : B → A) (f : Format A) → ((x : A) → from (to x) ≡ x) → Lawful f → Lawful (within to from f)
lawful_within {A} {B} to from f back law = record {
  takes = λ bytes y rest fits e.
      let a = bind_ok (f.read bytes) (λ (x : A × List ℕ). Ok (to x.0, x.1)) (y, rest) e in
      let t = law.takes bytes a.0.0 a.0.1 fits a.1 in
      let same : from (to a.0.0) ≡ a.0.0 = back a.0.0 in
      let made : Takes (within to from f) bytes (to a.0.0) a.0.1 = record { parts = rw same t.parts; rest_fits = t.rest_fits; fits = (rw same t.fits, ap to same) } in
      subst (λ (p : B × List ℕ). Takes (within to from f) bytes p.0 p.1) (ok_is (to a.0.0, a.0.1) (y, rest) a.2) made;
  onto = λ old y. law.onto old (from y);
  again = λ y rest fits. rw (law.again (from y) rest fits.0, fits.1) refl;
}

-- a text of the other tag hasn't the one
abbrev pub Apart : Bytes → Bytes → Type 0
Apart tag other = (rest : Bytes) → (e : ReadError) × ((tagged tag).read (other ++ rest) ≡ Err e)

module _ {A : Type 0} (test : A → Bool) (tag : Bytes) (f : Format A) (other : Bytes) (g : Format A) (one : (x : A) → f.Fits x → test x ≡ true) (two : (x : A) → g.Fits x → test x ≡ false) (apart : Apart tag other) (law : Lawful f) (law' : Lawful g) where
  takes_by : (bytes : List ℕ) (x : A) (rest : List ℕ) (t : Answer (Unit {0})) → IsBytes bytes → (tagged tag).read bytes ≡ t → tag_or t f.read ((headed other g).read bytes) ≡ Ok (x, rest) → Takes (by_tag test tag f other g) bytes x rest
  takes_by bytes x rest (Ok u) fits is e =
      let read : (headed tag f).read bytes ≡ Ok (x, rest) = ap (λ (r : Answer (Unit {0})). r >>= λ v. f.read v.1) is ∙ e in
      let t = (lawful_headed tag f law).takes bytes x rest fits read in
      let is = one x t.fits in
      record { parts = rw is t.parts; rest_fits = t.rest_fits; fits = rw is t.fits }
  takes_by bytes x rest (Err d) fits is e =
      let t = (lawful_headed other g law').takes bytes x rest fits e in
      let is = two x t.fits in
      record { parts = rw is t.parts; rest_fits = t.rest_fits; fits = rw is t.fits }

  onto_by : (old : List ℕ) (x : A) (b : Bool) → cond b ((headed tag f).onto old x) ((headed other g).onto old x) ≡ old ++ cond b ((headed tag f).spell x) ((headed other g).spell x)
  onto_by old x true = (lawful_headed tag f law).onto old x
  onto_by old x false = (lawful_headed other g law').onto old x

  again_by : (x : A) (rest : List ℕ) (b : Bool) → Either b (f.Fits x) (g.Fits x) → (by_tag test tag f other g).read (cond b ((headed tag f).spell x) ((headed other g).spell x) ++ rest) ≡ Ok (x, rest)
  again_by x rest true fits =
      let begins : (tagged tag).read ((tag ++ f.spell x) ++ rest) ≡ Ok (tt, f.spell x ++ rest) = ap (tagged tag).read (append_assoc tag (f.spell x) rest) ∙ (lawful_tagged tag).again tt (f.spell x ++ rest) tt in
      ap (λ (r : Answer (Unit {0})). tag_or r f.read ((headed other g).read ((tag ++ f.spell x) ++ rest))) begins ∙ law.again x rest fits
  again_by x rest false fits =
      let differs = apart (g.spell x ++ rest) in
      let begins : (tagged tag).read ((other ++ g.spell x) ++ rest) ≡ Err differs.0 = ap (tagged tag).read (append_assoc other (g.spell x) rest) ∙ differs.1 in
      ap (λ (r : Answer (Unit {0})). tag_or r f.read ((headed other g).read ((other ++ g.spell x) ++ rest))) begins ∙ (lawful_headed other g law').again x rest fits

  pub lawful_by_tag : Lawful (by_tag test tag f other g)
  lawful_by_tag = record {
    takes = λ bytes x rest fits e. takes_by bytes x rest ((tagged tag).read bytes) fits refl e;
    onto = λ old x. onto_by old x (test x);
    again = λ x rest fits. again_by x rest (test x) fits;
  }

-- ---- users

pub lawful_key : Lawful key
lawful_key = search laws

lawful_who : (before : Option Listing) → Lawful (who before)
lawful_who None = search laws
lawful_who (Some before) = search laws

lawful_listed_at : (before : Option Listing) → Lawful (listed_at before)
lawful_listed_at None = search laws
lawful_listed_at (Some before) = search laws

lawful_dated : (since : Format ℕ) → Lawful since → Lawful (dated since)
lawful_dated since law = lawful_mapped _ _ (pair since key) (λ y. refl) (λ x fits. refl) (lawful_followed since (λ _. key) law (λ _. lawful_key))

pub lawful_listing : (before : Option Listing) → Lawful (listing before)
lawful_listing before =
    lawful_within _ _ (followed (who before) (λ _. dated (listed_at before))) (λ x. refl)
    (lawful_followed (who before) (λ _. dated (listed_at before)) (lawful_who before) (λ _. lawful_dated (listed_at before) (lawful_listed_at before)))

pub lawful_single : Lawful single
lawful_single = search (laws, lawful_listing)

lawful_renewal : (l : Listing) → Lawful (renewals.row l)
lawful_renewal l = lawful_dated (guarded (uint_in w32 1 4294967295) (nat_lt (last_since l.since l.later)) Order) (search laws)

lawful_keys_after : (before : Option Listing) (user n : ℕ) → Lawful (keys_after before user n)
lawful_keys_after before user n =
    lawful_followed _ _ (lawful_dated (listed_at before) (lawful_listed_at before)) (λ first. lawful_rows_from renewals (with_first user first) (n - 1) lawful_renewal)

lawful_key_count : (may : ℕ → Bool) → Lawful (key_count may)
lawful_key_count may = lawful_guarded _ may Range (lawful_uint_in w8 1 16 wide8)

as_counted : (may : ℕ → Bool) (before : Option Listing) (user n : ℕ) (k : Renewal × List Renewal) → (key_count may).Fits n → (keys_after before user n).Fits k → suc (length k.1) ≡ n
as_counted may before user n k count fits = omega (arith, (in_range w8 1 16 n count.0).0, fits.1.0)

lawful_keys : (before : Option Listing) (may : ℕ → Bool) (user : ℕ) → Lawful (keys before may user)
lawful_keys before may user = lawful_sized _ _ _ (lawful_key_count may) (lawful_keys_after before user) (as_counted may before user)

pub lawful_listing_by : (before : Option Listing) (may : ℕ → Bool) → Lawful (listing_by before may)
lawful_listing_by before may =
    lawful_mapped _ _ (followed (who before) (keys before may)) (λ y. refl) (λ x fits. refl)
    (lawful_followed (who before) (keys before may) (lawful_who before) (lawful_keys before may))

pub lawful_several : Lawful several
lawful_several = lawful_sized _ _ _ (lawful_uint_in w8 1 255 wide8) (λ n. lawful_rows_from user_rows (none_of n) n (λ s. lawful_listing_by (last_user s.came) (may_come s))) (λ n x few fits. fits.0)

-- ---- which tag it is

no_more : (rs : List Renewal) → [] ≡ rs → nat_le 1 (length rs) ≡ false
no_more [] e = refl
no_more (r ∷ rs) e = absurd cc

none_renewed : (b : Option Listing) (ls : List Listing) → FitRows (after_row listing) b ls → are_renewed ls ≡ false
unfolding FitRows
none_renewed b [] fits = refl
none_renewed b (l ∷ ls) fits =
    let none : is_renewed l ≡ false = no_more l.later (ap (λ (x : Listing). x.later) fits.0.1) in
    rw none (none_renewed (Some l) ls fits.1)

more_is : (b : Bool) (n : ℕ) → (b || (not (1 == 1) || nat_le 2 (suc n))) ≡ true → (b || (nat_le 1 n || false)) ≡ true
more_is true n h = refl
more_is false n h =
    let two : 2 ≤ suc n = leb-true 2 (suc n) h in
    rw (le-leb 1 n (omega arith)) refl

joined : (a b c : Bool) → (a || (b || c)) ≡ ((a || (b || false)) || c)
joined true b c = refl
joined false true c = refl
joined false false c = refl

any_joined : (xs ys : List Listing) → are_renewed (xs ++ ys) ≡ (are_renewed xs || are_renewed ys)
any_joined xs ys = list_any-append is_renewed xs ys

one_renewed : (s : Users) (ls : List Listing) → s.left ≡ length ls → 1 ≤ length ls → FitRows user_rows s ls → (are_renewed s.came || are_renewed ls) ≡ true
unfolding FitRows
one_renewed s [] left some fits = absurd (omega arith)
one_renewed s (l ∷ []) left some fits =
    let may = (and_parts (may_have (last_user s.came) (suc (length l.later))) _ fits.0.1.0.1).1 in
    more_is (are_renewed s.came) (length l.later) (rw left at may)
one_renewed s (l ∷ m ∷ ls) left some fits =
    let next : Users = record { left = s.left - 1; came = s.came ++ l ∷ [] } in
    let later = one_renewed next (m ∷ ls) (omega (arith, left)) (omega arith) fits.1 in
    joined (are_renewed s.came) (is_renewed l) (are_renewed (m ∷ ls)) ∙ ap (λ b. b || are_renewed (m ∷ ls)) (sym (any_joined s.came (l ∷ []))) ∙ later

several_is : (ls : List Listing) → several.Fits ls → are_renewed ls ≡ true
several_is ls fits = one_renewed (none_of (length ls)) ls refl (in_range w8 1 255 (length ls) fits.0).0 fits.1.1

single_is : (ls : List Listing) → single.Fits ls → are_renewed ls ≡ false
single_is ls fits = none_renewed None ls fits.1.1

differs : (rest : List ℕ) → (tagged (codes "SPT2")).read (codes "SPT1" ++ rest) ≡ Err BadTag
differs rest =
    let long : nat_lt (length (codes "SPT1" ++ rest)) (length (codes "SPT2")) ≡ false = le-ltb _ _ (omega (arith, length-append (codes "SPT1") rest)) in
    rw long refl

pub lawful_users : Lawful users
lawful_users = lawful_by_tag are_renewed (codes "SPT2") several (codes "SPT1") single several_is single_is (λ rest. (BadTag, differs rest)) lawful_several lawful_single

-- ---- the table

pub lawful_row : (table : Table) → Lawful (row table)
lawful_row table = search laws depth 15

pub lawful_rows_of : (users : List Listing) → Lawful (rows_of users)
lawful_rows_of users = lawful_listed_from (uint_in w16 0 65535) member_rows (without_rows users) (lawful_uint_in w16 0 65535 wide16) lawful_row

pub lawful_table : Lawful table
lawful_table = search (laws, lawful_users, lawful_rows_of) depth 9
