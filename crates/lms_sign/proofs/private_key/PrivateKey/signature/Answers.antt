use Rattle.std.proofs.Common.{◌≡◌, ◌++◌, ℕ, List, length, take, subst, sym, ap, ◌∙◌, true, arith}
use Rattle.std.specs.Int.{w32}
use Rattle.std.proofs.lemmas.List.{take_all}
use Rattle.layout.specs.Format.{be}
use Rattle.lms_sign.specs.Hashing.{joined}
use Rattle.lms_sign.specs.Keys.{public_key_of, lms_type, ots_type}
use Rattle.lms_sign.specs.OneTime.{randomizer_of, digest_of, signed_value}
use Rattle.lms_sign.specs.Secret.{HasLeaf, Secret}
use Rattle.lms_sign.specs.Signature.{path_of, signature_of, valid}
use Rattle.lms_sign.proofs.Validity.{signed_valid}
use Rattle.lms_sign.proofs.private_key.PrivateKey.signature.Goals as goal

pub returns-clause-signature : goal.returns-clause-signature
unfolding signature_of be
returns-clause-signature g c =
    let key = c.self.inside in
    let leaf = c.args.leaf in
    let text = c.args.text.now in
    let randomizer = randomizer_of key.seed key.id leaf in
    let digest : c.text_digest-digest.result ≡ digest_of key.id leaf randomizer text = c.text_digest-digest.ensures ∙ ap (λ (l : List ℕ). digest_of key.id leaf l text) c.randomizer-randomizer.ensures.value in
    let front : take 40 c.put_front.new.signature ≡ be w32 leaf ++ ots_type ++ randomizer = c.put_front.ensures ∙ ap (λ (l : List ℕ). be w32 leaf ++ ots_type ++ l) c.randomizer-randomizer.ensures.value in
    let value : ℕ → List ℕ = signed_value key.seed key.id leaf (digest_of key.id leaf randomizer text) in
    let values : take 2184 c.put_values.new.signature ≡ be w32 leaf ++ ots_type ++ randomizer ++ joined 67 value =
    c.put_values.ensures ∙ ap (λ (l : List ℕ). l ++ joined 67 (signed_value key.seed key.id leaf c.text_digest-digest.result)) front
    ∙ ap (λ (d : List ℕ). be w32 leaf ++ ots_type ++ randomizer ++ joined 67 (signed_value key.seed key.id leaf d)) digest in
    let types : take 2188 c.put.new.out ≡ be w32 leaf ++ ots_type ++ randomizer ++ joined 67 value ++ lms_type = c.put.ensures ∙ ap (λ (l : List ℕ). l ++ lms_type) values in
    let secret : Secret = record { seed = key.seed; id = key.id; leaf_keys = key.leaf_keys.items } in
    let made : c.put_path.new.signature ≡ signature_of secret leaf text =
    sym (take_all 2508 c.put_path.new.signature (omega arith)) ∙ c.put_path.ensures
    ∙ ap (λ (s : Secret). take 2188 c.put.new.out ++ joined 10 (path_of s leaf)) (sym c.self.view_is)
    ∙ ap (λ (l : List ℕ). l ++ joined 10 (path_of secret leaf)) types in
    made ∙ ap (λ (s : Secret). signature_of s leaf text) c.self.view_is

pub returns-clause-valid : goal.returns-clause-valid
returns-clause-valid g c =
    let secret : Secret = c.args.self.now in
    let text = c.args.text.now in
    let size : length secret.id ≡ 16 = ap (λ (s : Secret). length s.id) (sym c.self.view_is) ∙ c.randomizer-randomizer.ensures.id_size in
    ap (valid (public_key_of secret) text) (returns-clause-signature g c) ∙ signed_valid secret text c.args.leaf size c.requires.leaf c.requires.has
