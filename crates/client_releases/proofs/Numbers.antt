-- The number of a key with this public key is that of what it is made of.
use Rattle.std.proofs.Common.{◌≡◌, Bool, List, [], ◌∷◌, ◌+◌, cond, map, not, refl, ap}
use Rattle.std.proofs.lemmas.List.{length-map}
use Rattle.std.specs.List.{position, prefix_len}
use Rattle.layout.specs.Types.{Key}
use Rattle.lms_sign.specs.Secret.{Secret}
use Rattle.client_releases.specs.OwnKeys.{OwnKey, secrets_of}
use Rattle.client_releases.specs.Told.{has_public}

prefix_map : {X Y : Type 0} (f : X → Y) (p : Y → Bool) (xs : List X) → prefix_len p (map f xs) ≡ prefix_len (λ x. p (f x)) xs
prefix_map f p [] = refl
prefix_map f p (x ∷ xs) = ap (λ n. cond (p (f x)) (1 + n) 0) (prefix_map f p xs)

pub number_in : (key : Key) (own : List OwnKey) → position (λ k. has_public key k.secret) own ≡ position (has_public key) (secrets_of own)
number_in key own = rw (prefix_map (λ (k : OwnKey). k.secret) (λ s. not (has_public key s)) own, length-map own (λ (k : OwnKey). k.secret)) refl
