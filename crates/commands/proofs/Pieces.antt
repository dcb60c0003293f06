-- Pieces that are written one after the other.
use Rattle.std.proofs.Common.{◌≡◌, List, ◌∷◌, ◌++◌, Option, sym, ap, ◌∙◌, append_assoc}
use Rattle.std.specs.Prelude.{Result, Ok, Err, OnErr}
use Rattle.std.specs.List.{flat_map}
use Rattle.std.specs.Io.KnownBytes.{Appends}
use Rattle.layout.specs.Types.{Bytes}
use Rattle.connection.specs.Written.{AppendsBeginning}
use Rattle.connection.proofs.Written.{appends_both, begins_first, begins_second, begins_as}

-- what was written so far is a beginning of all, and these pieces are left
abbrev pub PrintedSo : {P : Type 0} → (P → Bytes) → List P → List P → Option Bytes → Option Bytes → Type 0
PrintedSo text all left before now =
    (done : Bytes) × (flat_map text all ≡ done ++ flat_map text left) × Appends before now done

pub printed_on : {P : Type 0} (text : P → Bytes) (all left rest : List P) (p : P) (a b c : Option Bytes)
    → PrintedSo text all left a b → left ≡ p ∷ rest → Appends b c (text p) → PrintedSo text all rest a c
printed_on text all left rest p a b c (done, is, was) next more = (
  done ++ text p,
  is ∙ ap (λ l. done ++ flat_map text l) next ∙ sym (append_assoc done (text p) (flat_map text rest)),
  appends_both a b c done (text p) was more,
)

pub stopped_on : {P : Type 0} (text : P → Bytes) (all left rest : List P) (p : P) (a b c : Option Bytes)
    → PrintedSo text all left a b → left ≡ p ∷ rest → AppendsBeginning b c (text p) → AppendsBeginning a c (flat_map text all)
stopped_on text all left rest p a b c (done, is, was) next more =
    begins_as a c _ _ (begins_second a b c done _ was (begins_first b c (text p) (flat_map text rest) more))
    (sym (is ∙ ap (λ l. done ++ flat_map text l) next))

-- the same bytes by another equation
pub err_as : {X F : Type 0} (r : Result X F) (a b : Option Bytes) (x y : Bytes) → OnErr r (AppendsBeginning a b x) → x ≡ y
    → OnErr r (AppendsBeginning a b y)
err_as (Ok _) a b x y h is = tt
err_as (Err _) a b x y h is = begins_as a b x y h is

-- ---- pieces joined from the right, and from the left

three : (a b c : Bytes) → a ++ (b ++ c) ≡ (a ++ b) ++ c
three a b c = sym (append_assoc a b c)

pub four : (a b c d : Bytes) → a ++ (b ++ (c ++ d)) ≡ ((a ++ b) ++ c) ++ d
four a b c d = three a b (c ++ d) ∙ three (a ++ b) c d

pub five : (a b c d e : Bytes) → a ++ (b ++ (c ++ (d ++ e))) ≡ (((a ++ b) ++ c) ++ d) ++ e
five a b c d e = three a b (c ++ (d ++ e)) ∙ four (a ++ b) c d e

pub six : (a b c d e f : Bytes) → a ++ (b ++ (c ++ (d ++ (e ++ f)))) ≡ ((((a ++ b) ++ c) ++ d) ++ e) ++ f
six a b c d e f = three a b (c ++ (d ++ (e ++ f))) ∙ five (a ++ b) c d e f
