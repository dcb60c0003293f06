-- The numbers of changes that are void, in turn.
use Rattle.std.proofs.Common.{◌≡◌, ℕ, suc, ◌+◌, ◌<◌, Bool, true, false, List, [], ◌∷◌, ◌++◌, length, take, sym, ap, ◌∙◌, arith, add-one}
use Rattle.std.specs.Prelude.{if◌then◌else◌, slice_index_or}
use Rattle.std.proofs.lemmas.List.{append-nil}
use Rattle.std.proofs.Math.Seq.{take-suc}
use Rattle.layout.specs.Types.{Digest}
use Rattle.update_cert.specs.Change.{Change}

-- the number of a change, if it is void
abbrev pub if_void : Bool → ℕ → List ℕ
if_void t n = if t then n ∷ [] else []

pub void_step : (t : Bool) (n : ℕ) (all front : List ℕ) (last : List ℕ) → all ≡ front ++ last → (if t then n ∷ all else all) ≡ (if t then n ∷ front else front) ++ last
void_step true n all front last is = ap (λ (ns : List ℕ). n ∷ ns) is
void_step false n all front last is = is

pub more : (n k : ℕ) → (n + 1) + k ≡ n + suc k
more n k = omega arith

pub no_more : (n : ℕ) → n ≡ n + 0
no_more n = omega arith

pub pushed : (old new : List ℕ) (n : ℕ) (t : Bool) → t ≡ true → new ≡ old ++ n ∷ [] → new ≡ old ++ if_void t n
pushed old new n t is more = more ∙ ap (λ (b : Bool). old ++ if_void b n) (sym is)

pub not_pushed : (old new : List ℕ) (n : ℕ) (t : Bool) → t ≡ false → new ≡ old → new ≡ old ++ if_void t n
not_pushed old new n t is same = same ∙ sym (append-nil old) ∙ ap (λ (b : Bool). old ++ if_void b n) (sym is)

-- the first changes, and one more
pub take_next : (cs : List (Change Digest)) (k : ℕ) (c : Change Digest) → k < length cs → c ≡ slice_index_or cs k c → take (k + 1) cs ≡ take k cs ++ c ∷ []
take_next cs k c inside at = rw add-one (take-suc cs k c inside ∙ ap (λ (x : Change Digest). take k cs ++ x ∷ []) (sym at))
