-- A text that is longer than a format allows spells nothing.
use Rattle.std.proofs.Common.{◌≡◌, ◌<◌, ℕ, length, Bool, true, false, None, Ok, Err, arith, refl, ap, ◌∙◌}
use Rattle.std.specs.Prelude.{if◌then◌else◌}
use Rattle.std.proofs.lemmas.Bool.{eqb-true}
use Rattle.std.proofs.lemmas.List.{length-append}
use Rattle.layout.specs.declared.error.ReadError.TheVariants.{Trailing}
use Rattle.layout.specs.Format.{Format, Answer, IsBytes, Lawful, Takes, ends, whole, ◌>>=◌}
use Rattle.layout.specs.Sizes.{AtMost}
use Rattle.layout.specs.Types.{Bytes}
use Rattle.consistency_server.specs.Reading.{FoundIs}

-- where a value was read from the front, something is left
beside : {A : Type 0} (f : Format A) (most : ℕ) → AtMost f most → (text : Bytes) → most < length text → (x : A) (rest : Bytes)
    → f.read text ≡ Ok (x, rest) → Takes f text x rest → (none : Bool) → ends rest ≡ none → FoundIs None (whole f text)
beside f most few text long x rest read takes true is =
    absurd (omega (arith, eqb-true (length rest) 0 is, long, length-append (f.spell x) rest, few.holds x takes.fits, ap length takes.parts))
beside f most few text long x rest read takes false is = (Trailing, ap (λ r. r >>= λ p. if ends p.1 then Ok p.0 else Err Trailing) read ∙ ap (λ b. if b then Ok x else Err Trailing) is)

read_as : {A : Type 0} (f : Format A) (most : ℕ) → Lawful f → AtMost f most → (text : Bytes) → IsBytes text → most < length text
    → (answer : Answer A) → f.read text ≡ answer → FoundIs None (whole f text)
read_as f most law few text bytes long (Ok (x, rest)) read = beside f most few text long x rest read (law.takes text x rest bytes read) (ends rest) refl
read_as f most law few text bytes long (Err e) read = (e, ap (λ r. r >>= λ p. if ends p.1 then Ok p.0 else Err Trailing) read)

pub long_spells_nothing : {A : Type 0} (f : Format A) (most : ℕ) → Lawful f → AtMost f most → (text : Bytes) → IsBytes text → most < length text
    → FoundIs None (whole f text)
long_spells_nothing f most law few text bytes long = read_as f most law few text bytes long (f.read text) refl
