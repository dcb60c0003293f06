-- Steps of chains that are hashed side by side.
use Rattle.std.proofs.Common.{◌≡◌, ℕ, suc, ◌+◌, ◌*◌, ◌/◌, ◌%◌, ◌<◌, List, [], ◌∷◌, ◌++◌, slice_index, sym, ap, ◌∙◌, refl, append_assoc, arith}
use Rattle.std.specs.Int.{w8, w16, w32}
use Rattle.layout.specs.Format.{be}
use Rattle.layout.specs.Hash.{hash}
use Rattle.sha2.specs.Sha256.{sha256}
use Rattle.sha256_lanes.specs.Lanes.{short_text}
use Rattle.lms_sign.specs.Hashing.{headed}
use Rattle.lms_sign.specs.Chains.{chained, drawn, step, value_of}

short_is : (id value : List ℕ) (leaf chain number : ℕ) → chain < 65536 → number < 256
    → short_text id leaf (chain * 256 + number) value ≡ headed id leaf chain ++ (be w8 number ++ value)
unfolding headed be
short_is id value leaf chain number small small' =
    let p : List ℕ = id ++ be w32 leaf in
    let mark : ℕ = chain * 256 + number in
    let first : mark / 65536 ≡ slice_index (be w16 chain) 0 = omega arith in
    let second : mark / 256 % 256 ≡ slice_index (be w16 chain) 1 = omega arith in
    let third : mark % 256 ≡ slice_index (be w8 number) 0 = omega arith in
    append_assoc p (mark / 65536 ∷ mark / 256 % 256 ∷ mark % 256 ∷ []) value
    ∙ (λ i. p ++ (first i ∷ second i ∷ third i ∷ value))
    ∙ sym (append_assoc p (be w16 chain) (be w8 number ++ value))

-- what is hashed is a step
pub short_step : (id value : List ℕ) (leaf chain number mark : ℕ) → chain < 65536 → number < 256 → mark ≡ chain * 256 + number
    → sha256 (short_text id leaf mark value) ≡ step id leaf chain number value
unfolding step hash
short_step id value leaf chain number mark small small' is =
    ap (λ m. sha256 (short_text id leaf m value)) is ∙ ap sha256 (short_is id value leaf chain number small small')

-- the start of a chain
pub drawn_is : (seed id : List ℕ) (leaf chain : ℕ) → step id leaf chain 255 seed ≡ value_of seed id leaf 0 chain
unfolding chained drawn
drawn_is seed id leaf chain = refl

-- one step more from there
pub value_more : (seed id : List ℕ) (leaf chain number : ℕ) → step id leaf chain number (value_of seed id leaf number chain) ≡ value_of seed id leaf (number + 1) chain
unfolding chained
value_more seed id leaf chain number =
    let next : number + 1 ≡ suc number = omega arith in
    let at : 0 + number ≡ number = omega arith in
    ap (λ n. step id leaf chain n (value_of seed id leaf number chain)) (sym at) ∙ ap (λ n. value_of seed id leaf n chain) (sym next)
