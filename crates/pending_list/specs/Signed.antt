-- Signed texts: the text, and after it a signature of 2,508 bytes.
-- The bytes stand in docs/FORMATS.md.
use Rattle.layout.specs.Types.{Signature}
use Rattle.layout.specs.Format.{Format, raw, pair, mapped}
use Rattle.pending_list.specs.declared.signed.Signed.{Signed}

abbrev pub signature : Format Signature
signature = raw 2508

abbrev pub signed : {V : Type 0} → Format V → Format (Signed V)
signed f = mapped (λ (value, signature). record { value = value; signature = signature }) (λ s. (s.value, s.signature))
    (pair f signature)
