-- What is written in parts.
use Rattle.std.proofs.Common.{◌≡◌, ℕ, [], ◌++◌, Option, Some, None, sym, ap, ◌∙◌, append_assoc, subst}
use Rattle.std.proofs.lemmas.List.{append-nil, take-append-drop}
use Rattle.std.specs.Prelude.{take, drop, Result, Ok, Err, OnOk, OnErr}
use Rattle.std.specs.Io.KnownBytes.{Appends, Keeps}
use Rattle.layout.specs.Types.{Bytes}
use Rattle.connection.specs.Written.{AppendsBeginning}

pub appends_none : (o : Option Bytes) → Appends o o []
appends_none None = tt
appends_none (Some xs) = sym (append-nil xs)

pub appends_both : (a b c : Option Bytes) (x y : Bytes) → Appends a b x → Appends b c y → Appends a c (x ++ y)
appends_both None b c x y one two = tt
appends_both (Some p) None c x y one two = absurd one
appends_both (Some p) (Some q) None x y one two = absurd two
appends_both (Some p) (Some q) (Some r) x y one two = two ∙ ap (λ l. l ++ y) one ∙ append_assoc p x y

pub appends_as : (a b : Option Bytes) (x y : Bytes) → Appends a b x → x ≡ y → Appends a b y
appends_as a b x y one is = subst (λ l. Appends a b l) is one

-- one text, and then another
pub begins_first : (a b : Option Bytes) (x y : Bytes) → AppendsBeginning a b x → AppendsBeginning a b (x ++ y)
begins_first a b x y (part, rest, more, cut) = (part, rest ++ y, more, ap (λ l. l ++ y) cut ∙ append_assoc part rest y)

pub begins_second : (a b c : Option Bytes) (x y : Bytes) → Appends a b x → AppendsBeginning b c y → AppendsBeginning a c (x ++ y)
begins_second a b c x y one (part, rest, more, cut) = (x ++ part, rest, appends_both a b c x part one more, ap (λ l. x ++ l) cut ∙ sym (append_assoc x part rest))

pub on_err : {X F : Type 0} (r : Result X F) (P : Type 0) → P → OnErr r P
on_err (Ok x) P h = tt
on_err (Err e) P h = h

pub begins_as : (a b : Option Bytes) (x y : Bytes) → AppendsBeginning a b x → x ≡ y → AppendsBeginning a b y
begins_as a b x y one is = subst (λ l. AppendsBeginning a b l) is one

pub second_ok : {X F : Type 0} (r : Result X F) (a b c : Option Bytes) (x y z : Bytes) → x ++ y ≡ z → Appends a b x → OnOk r (Appends b c y) → OnOk r (Appends a c z)
second_ok (Ok _) a b c x y z is one two = appends_as a c _ _ (appends_both a b c x y one two) is
second_ok (Err _) a b c x y z is one two = tt

pub second_err : {X F : Type 0} (r : Result X F) (a b c : Option Bytes) (x y z : Bytes) → x ++ y ≡ z → Appends a b x → OnErr r (AppendsBeginning b c y) → OnErr r (AppendsBeginning a c z)
second_err (Ok _) a b c x y z is one two = tt
second_err (Err _) a b c x y z is one two = begins_as a c _ _ (begins_second a b c x y one two) is

-- ---- a write of all bytes, write by write

abbrev Written : Option Bytes → Option Bytes → Bytes → Bytes → Type 0
Written before now bytes rest = (done : Bytes) × (bytes ≡ done ++ rest) × Appends before now done

pub written_on : (a b c : Option Bytes) (bytes rest rest' : Bytes) (n : ℕ) → Written a b bytes rest → Appends b c (take n rest) → rest' ≡ drop n rest → Written a c bytes rest'
written_on a b c bytes rest rest' n (done, is, was) more left = (
  done ++ take n rest,
  is ∙ ap (λ l. done ++ l) (sym (take-append-drop n rest)) ∙ sym (append_assoc done (take n rest) (drop n rest)) ∙ ap (λ l. (done ++ take n rest) ++ l) (sym left),
  appends_both a b c done (take n rest) was more,
)

keeps_on : (a b c : Option Bytes) (done : Bytes) → Appends a b done → Keeps b c → Appends a c done
keeps_on None b c done was same = tt
keeps_on (Some p) None c done was same = absurd was
keeps_on (Some p) (Some q) None done was same = absurd same
keeps_on (Some p) (Some q) (Some r) done was same = same ∙ was

pub kept : (a b c : Option Bytes) (bytes rest rest' : Bytes) → Written a b bytes rest → Keeps b c → rest' ≡ rest → Written a c bytes rest'
kept a b c bytes rest rest' (done, is, was) same left = (done, is ∙ ap (λ l. done ++ l) (sym left), keeps_on a b c done was same)
