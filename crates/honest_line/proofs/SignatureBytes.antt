-- What a leaf of a key signs with is 2,508 bytes.
use Rattle.std.proofs.Common.{ℕ, zero, suc, ◌+◌, ◌++◌}
use Rattle.std.specs.Int.{w32}
use Rattle.std.specs.List.{range_with_len}
use Rattle.layout.specs.Types.{Bytes}
use Rattle.layout.specs.Format.{IsBytes, be}
use Rattle.layout.specs.Hash.{hash}
use Rattle.layout.specs.HashLaws.{hash_fits}
use Rattle.lms_sign.specs.Hashing.{joined}
use Rattle.lms_sign.specs.Chains.{step, chained, drawn}
use Rattle.lms_sign.specs.Digits.{digit}
use Rattle.lms_sign.specs.OneTime.{randomizer_of, digest_of, signed_value}
use Rattle.lms_sign.specs.Secret.{Secret}
use Rattle.lms_sign.specs.Tree.{leaf_node, inner_node, node, ancestor, sibling}
use Rattle.lms_sign.specs.Keys.{lms_type, ots_type}
use Rattle.lms_sign.specs.Signature.{path_of, signature_of}
use Rattle.lms_sign.proofs.Validity.{length-signature}
use Rattle.pending_list.specs.Signed.{signature}
use Rattle.honest_line.proofs.SpellsBytes.{bytes_joined, each_is_bytes, number_is_bytes}

hash_is_bytes : (bytes : Bytes) → IsBytes (hash bytes)
hash_is_bytes bytes = (hash_fits bytes).1

drawn_is_bytes : (seed id : Bytes) (leaf chain : ℕ) → IsBytes (drawn seed id leaf chain)
unfolding drawn step
drawn_is_bytes seed id leaf chain = hash_is_bytes _

chained_is_bytes : (id value : Bytes) (leaf chain first count : ℕ) → IsBytes value → IsBytes (chained id leaf chain first count value)
unfolding chained step
chained_is_bytes id value leaf chain first zero bytes = bytes
chained_is_bytes id value leaf chain first (suc count) bytes = hash_is_bytes _

randomizer_is_bytes : (seed id : Bytes) (leaf : ℕ) → IsBytes (randomizer_of seed id leaf)
unfolding randomizer_of
randomizer_is_bytes seed id leaf = drawn_is_bytes seed id leaf 65533

signed_value_is_bytes : (seed id : Bytes) (leaf : ℕ) (digest : Bytes) (chain : ℕ) → IsBytes (signed_value seed id leaf digest chain)
unfolding signed_value
signed_value_is_bytes seed id leaf digest chain = chained_is_bytes id (drawn seed id leaf chain) leaf chain 0 (digit digest chain) (drawn_is_bytes seed id leaf chain)

node_is_bytes : (secret : Secret) (height number : ℕ) → IsBytes (node secret height number)
unfolding node leaf_node inner_node
node_is_bytes secret zero number = hash_is_bytes _
node_is_bytes secret (suc height) number = hash_is_bytes _

joined_is_bytes : (count : ℕ) (piece : ℕ → Bytes) → ((k : ℕ) → IsBytes (piece k)) → IsBytes (joined count piece)
unfolding joined
joined_is_bytes count piece all = each_is_bytes piece (range_with_len 0 count) all

-- six texts, joined
six_are_bytes : (a b c v l p : Bytes) → IsBytes a → IsBytes b → IsBytes c → IsBytes v → IsBytes l → IsBytes p → IsBytes (a ++ b ++ c ++ v ++ l ++ p)
six_are_bytes a b c v l p ha hb hc hv hl hp =
    bytes_joined (a ++ b ++ c ++ v ++ l) p (bytes_joined (a ++ b ++ c ++ v) l (bytes_joined (a ++ b ++ c) v (bytes_joined (a ++ b) c (bytes_joined a b ha hb) hc) hv) hl) hp

pub signature_is_bytes : (secret : Secret) (text : Bytes) (leaf : ℕ) → IsBytes (signature_of secret leaf text)
unfolding signature_of
signature_is_bytes secret text leaf =
    let seed = secret.seed in
    let id = secret.id in
    let randomizer = randomizer_of seed id leaf in
    let value : ℕ → Bytes = signed_value seed id leaf (digest_of id leaf randomizer text) in
    six_are_bytes (be w32 leaf) ots_type randomizer (joined 67 value) lms_type (joined 10 (path_of secret leaf))
    (number_is_bytes w32 leaf) (number_is_bytes w32 3) (randomizer_is_bytes seed id leaf)
    (joined_is_bytes 67 value (signed_value_is_bytes seed id leaf (digest_of id leaf randomizer text))) (number_is_bytes w32 6)
    (joined_is_bytes 10 (path_of secret leaf) (λ height. node_is_bytes secret height (sibling (ancestor (1024 + leaf) height))))

pub signed_fits : (secret : Secret) (text : Bytes) (leaf : ℕ) → signature.Fits (signature_of secret leaf text)
signed_fits secret text leaf = (length-signature secret text leaf, signature_is_bytes secret text leaf)
