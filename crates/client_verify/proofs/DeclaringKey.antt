-- The newest key that signed a text: keys are tried from the last one down.
use Rattle.std.proofs.Common.{◌≡◌, ℕ, ◌+◌, List, [], ◌∷◌, ◌++◌, Option, Some, Bool, true, false, cond, reverse, sym, ap, ◌∙◌, arith}
use Rattle.std.specs.Prelude.{find}
use Rattle.std.specs.List.{range_with_len}
use Rattle.std.proofs.lemmas.List.{map-id, reverse-append}
use Rattle.std.proofs.lemmas.List.FromFn.{map-range_with_len_more}
use Rattle.layout.specs.Types.{Bytes}
use Rattle.lms_sign.specs.Keys.{public_key_of}
use Rattle.lms_sign.specs.Signature.{valid}
use Rattle.client_journal.specs.Records.{signature_in, unsigned}
use Rattle.client_releases.specs.Told.{Released, secret_at}
use Rattle.client_verify.specs.State.{signs_text}

-- the same among the first keys, so many
abbrev pub signer_among : Bytes → Released → ℕ → Option ℕ
signer_among text r n = find (λ k. signs_text text (secret_at k r)) (reverse (range_with_len 0 n))

one_more : (n : ℕ) → range_with_len 0 (n + 1) ≡ range_with_len 0 n ++ n ∷ []
one_more n =
    sym (map-id (range_with_len 0 (n + 1))) ∙ map-range_with_len_more (λ (x : ℕ). x) 0 n n (omega arith)
    ∙ ap (λ (l : List ℕ). l ++ n ∷ []) (map-id (range_with_len 0 n))

last_first : (n : ℕ) → reverse (range_with_len 0 (n + 1)) ≡ n ∷ reverse (range_with_len 0 n)
last_first n = ap (λ (l : List ℕ). reverse l) (one_more n) ∙ reverse-append (range_with_len 0 n) (n ∷ [])

-- the last of them is tried first
module _ (text : Bytes) (r : Released) (n : ℕ) where
  tried : signer_among text r (n + 1) ≡ cond (signs_text text (secret_at n r)) (Some n) (signer_among text r n)
  tried = ap (λ (l : List ℕ). find (λ k. signs_text text (secret_at k r)) l) (last_first n)

  pub here : signs_text text (secret_at n r) ≡ true → signer_among text r (n + 1) ≡ Some n
  here signs = tried ∙ ap (λ (b : Bool). cond b (Some n) (signer_among text r n)) signs

  pub below : signs_text text (secret_at n r) ≡ false → signer_among text r (n + 1) ≡ signer_among text r n
  below signs = tried ∙ ap (λ (b : Bool). cond b (Some n) (signer_among text r n)) signs

  -- what a test of its public key tells
  pub tested : (b : Bool) (key : Bytes) → key ≡ public_key_of (secret_at n r) → b ≡ valid key (unsigned text) (signature_in text) → signs_text text (secret_at n r) ≡ b
  tested b key is told = sym (told ∙ ap (λ (k : Bytes). valid k (unsigned text) (signature_in text)) is)
