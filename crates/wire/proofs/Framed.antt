-- What is framed is read back.
use Rattle.std.proofs.Common.{◌≡◌, ℕ, zero, suc, ◌<◌, List, ◌∷◌, length, Result, Ok, Err, refl, ap, ◌∙◌, arith}
use Rattle.std.specs.Prelude.{IfOk}
use Rattle.std.specs.Int.{w32}
use Rattle.layout.specs.Format.{IsBytes, whole}
use Rattle.layout.specs.Laws.{whole_again, in_range_fits}
use Rattle.wire.specs.Frame.{frame}
use Rattle.wire.specs.FrameLaws.{lawful_frame}

more_bytes : (head : ℕ) (payload : List ℕ) → head < 256 → IsBytes payload → IsBytes (head ∷ payload)
more_bytes head payload few fits zero = few
more_bytes head payload few fits (suc i) = fits i

body_fits : (head : ℕ) (payload : List ℕ) → head < 256 → IsBytes payload → length payload < 2097152 → frame.Fits (head ∷ payload)
body_fits head payload few fits small =
    (in_range_fits w32 1 2097152 (length (head ∷ payload)) (omega arith) (omega arith) (omega arith), (refl, more_bytes head payload few fits))

pub framed_again : {X E : Type 0} (r : Result X E) (text : X → List ℕ) (head : ℕ) (payload : List ℕ) → head < 256 → IsBytes payload → length payload < 2097152
    → IfOk r (λ x. text x ≡ frame.spell (head ∷ payload)) → IfOk r (λ x. whole frame (text x) ≡ Ok (head ∷ payload))
framed_again (Ok x) text head payload few fits small spelled = ap (whole frame) spelled ∙ whole_again frame lawful_frame (head ∷ payload) (body_fits head payload few fits small)
framed_again (Err e) text head payload few fits small spelled = tt
