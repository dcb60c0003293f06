-- What is signed is valid.
use Rattle.std.proofs.Common.{◌≡◌, ℕ, zero, suc, ◌+◌, ◌-◌, ◌*◌, ◌%◌, ◌<◌, Bool, true, false, cond, ◌&&◌, nat_eq, nat_lt, List, [], ◌++◌, length, slice_index_or, refl, sym, ap, ◌∙◌, append_assoc, length-append, eq-eqb, arith}
use Rattle.std.proofs.lemmas.Bool.{lt-ltb, eqb-true}
use Rattle.std.proofs.lemmas.Bool.Decides.{Decides-eqb}
use Rattle.std.proofs.lemmas.List.{append-nil}
use Rattle.std.proofs.lemmas.Nat.{from_be_bytes-to_be_bytes_4}
use Rattle.std.proofs.lemmas.Slice.Eq.{bytes_eq-Decides, starts_is}
use Rattle.std.specs.Int.{w32, from_be_bytes}
use Rattle.std.specs.List.{starts_with}
use Rattle.std.specs.Str.{bytes_eq}
use Rattle.layout.specs.Format.{be}
use Rattle.lms_sign.specs.Hashing.{hash_of, part, joined}
use Rattle.lms_sign.specs.Chains.{step, chained, drawn, value_of, end_from}
use Rattle.lms_sign.specs.Digits.{coefficient, digit}
use Rattle.lms_sign.specs.OneTime.{key_from, key_of, randomizer_of, digest_of, signed_value, candidate}
use Rattle.lms_sign.specs.Secret.{Secret, HasLeaf}
use Rattle.lms_sign.specs.Tree.{leaf_node, inner_node, node, ancestor, sibling, climbed, parent}
use Rattle.lms_sign.specs.Keys.{lms_type, ots_type, is_key, id_of, root_of, public_key_of}
use Rattle.lms_sign.specs.Signature.{path_of, signature_of, leaf_of, randomizer_in, value_in, path_in, is_signature, root_from, valid}
use Rattle.lms_sign.proofs.Joining.{joined_same, length-joined, part_of, joined_part}
use Rattle.lms_sign.proofs.Levels.{ancestor_within, climbed_is}
use Rattle.layout.specs.HashLaws.{length-hash}
use Rattle.lms_sign.proofs.Steps.{chained_chained}

-- ---- sizes

length-be32 : (number : ℕ) → length (be w32 number) ≡ 4
unfolding be
length-be32 number = refl

pub length-drawn : (seed id : List ℕ) (leaf chain : ℕ) → length (drawn seed id leaf chain) ≡ 32
unfolding drawn step
length-drawn seed id leaf chain = length-hash _

length-chained : (id value : List ℕ) (leaf chain first count : ℕ) → length value ≡ 32 → length (chained id leaf chain first count value) ≡ 32
unfolding chained step
length-chained id value leaf chain first zero size = size
length-chained id value leaf chain first (suc count) size = length-hash _

length-randomizer : (seed id : List ℕ) (leaf : ℕ) → length (randomizer_of seed id leaf) ≡ 32
unfolding randomizer_of
length-randomizer seed id leaf = length-drawn seed id leaf 65533

length-signed : (seed id : List ℕ) (leaf : ℕ) (digest : List ℕ) (chain : ℕ) → length (signed_value seed id leaf digest chain) ≡ 32
unfolding signed_value
length-signed seed id leaf digest chain = length-chained id (drawn seed id leaf chain) leaf chain 0 (digit digest chain) (length-drawn seed id leaf chain)

length-node : (secret : Secret) (height number : ℕ) → length (node secret height number) ≡ 32
unfolding node leaf_node inner_node
length-node secret zero number = length-hash _
length-node secret (suc height) number = length-hash _

-- ---- digits

coefficient_cases : (left : Bool) (x y : ℕ) → cond left (x % 16) (y % 16) < 16
coefficient_cases true x y = omega arith
coefficient_cases false x y = omega arith

digit_small : (digest : List ℕ) (i : ℕ) → digit digest i < 16
unfolding digit coefficient
digit_small digest i = coefficient_cases (nat_eq (i % 2) 0) _ _

-- ---- the way from the values to the root

-- the values of a signature lead to the leaf's key
candidate_is : (seed id : List ℕ) (leaf : ℕ) (digest : List ℕ) (value : ℕ → List ℕ) → ((k : ℕ) → k < 67 → value k ≡ signed_value seed id leaf digest k) → candidate id leaf digest value ≡ key_of seed id leaf
unfolding candidate key_of key_from signed_value
candidate_is seed id leaf digest value are =
    let end : ℕ → List ℕ = λ chain. end_from id leaf chain (digit digest chain) (value chain) in
    let ends : (k : ℕ) → k < 67 → end k ≡ value_of seed id leaf 15 k = λ k lt.
    let first = digit digest k in
    let small : first < 16 = digit_small digest k in
    let none : first ≡ 0 + first = omega arith in
    let all : first + (15 - first) ≡ 15 = omega arith in
    ap (end_from id leaf k first) (are k lt)
    ∙ ap (λ n. chained id leaf k n (15 - first) (chained id leaf k 0 first (drawn seed id leaf k))) none
    ∙ chained_chained id (drawn seed id leaf k) leaf k 0 first (15 - first)
    ∙ ap (λ n. chained id leaf k 0 n (drawn seed id leaf k)) all in
    ap (hash_of id leaf 0x8080) (joined_same 67 end (value_of seed id leaf 15) ends)

-- a path that is the same as far as it is climbed
climbed_same : (id : List ℕ) (number : ℕ) (path other : ℕ → List ℕ) (value : List ℕ) (height : ℕ) → ((k : ℕ) → k < height → path k ≡ other k) → climbed id number path value height ≡ climbed id number other value height
unfolding climbed
climbed_same id number path other value zero same = refl
climbed_same id number path other value (suc height) same =
    ap (λ (l : List ℕ). parent id (ancestor number height) l (climbed id number path value height)) (same height (omega arith))
    ∙ ap (parent id (ancestor number height) (other height)) (climbed_same id number path other value height (λ k lt. same k (omega arith)))

-- the leaf's node and its path lead to the root
climb_is : (secret : Secret) (leaf : ℕ) (path : ℕ → List ℕ) → leaf < 1024 → HasLeaf secret leaf → ((k : ℕ) → k < 10 → path k ≡ path_of secret leaf k)
    → climbed secret.id (1024 + leaf) path (leaf_node secret.id (1024 + leaf) (key_of secret.seed secret.id leaf)) 10 ≡ node secret 10 1
unfolding node
climb_is secret leaf path small has are =
    let within = ancestor_within (1024 + leaf) 10 1 (omega arith) (omega arith) refl in
    let top : ancestor (1024 + leaf) 10 ≡ 1 = omega (arith, within.0, within.1) in
    let same : leaf ≡ 1024 + leaf - 1024 = omega arith in
    let from : List ℕ → List ℕ = λ key. climbed secret.id (1024 + leaf) path (leaf_node secret.id (1024 + leaf) key) 10 in
    ap from (sym has) ∙ ap (λ n. from (slice_index_or secret.leaf_keys n [])) same
    ∙ climbed_same secret.id (1024 + leaf) path (path_of secret leaf) (node secret 0 (1024 + leaf)) 10 are
    ∙ climbed_is secret (1024 + leaf) 10
    ∙ ap (node secret 10) top

-- ---- the parts of a signature

-- the sizes of the parts before the values, before the path, and in all
front_size : (seed id : List ℕ) (leaf : ℕ) → length (be w32 leaf ++ ots_type ++ randomizer_of seed id leaf) ≡ 40
front_size seed id leaf =
    omega (arith, length-append (be w32 leaf ++ ots_type) (randomizer_of seed id leaf), length-append (be w32 leaf) ots_type, length-be32 leaf, length-be32 3, length-randomizer seed id leaf)

-- a signature with these parts
record Parts (secret : Secret) (text signature : List ℕ) (leaf : ℕ) : Type 0 where
  size : length signature ≡ 2508
  number : part 0 4 signature ≡ be w32 leaf
  ots : part 4 4 signature ≡ ots_type
  randomizer : randomizer_in signature ≡ randomizer_of secret.seed secret.id leaf
  values : (k : ℕ) → k < 67
      → value_in signature k ≡ signed_value secret.seed secret.id leaf (digest_of secret.id leaf (randomizer_of secret.seed secret.id leaf) text) k
  lms : part 2184 4 signature ≡ lms_type
  path : (k : ℕ) → k < 10 → path_in signature k ≡ path_of secret leaf k

-- any six texts of these sizes, joined
six : (a b c v l p : List ℕ) → length a ≡ 4 → length b ≡ 4 → length c ≡ 32 → length v ≡ 2144 → length l ≡ 4 → length p ≡ 320
    → (length (a ++ b ++ c ++ v ++ l ++ p) ≡ 2508) × (part 0 4 (a ++ b ++ c ++ v ++ l ++ p) ≡ a) × (part 4 4 (a ++ b ++ c ++ v ++ l ++ p) ≡ b)
    × (part 8 32 (a ++ b ++ c ++ v ++ l ++ p) ≡ c) × (part 2184 4 (a ++ b ++ c ++ v ++ l ++ p) ≡ l)
six a b c v l p la lb lc lv ll lp =
    let lab = length-append a b in
    let labc = length-append (a ++ b) c in
    let labcv = length-append (a ++ b ++ c) v in
    let labcvl = length-append (a ++ b ++ c ++ v) l in
    let all = length-append (a ++ b ++ c ++ v ++ l) p in
    let one : a ++ b ++ c ++ v ++ l ++ p ≡ [] ++ a ++ (b ++ (c ++ (v ++ (l ++ p)))) = simp append_assoc in
    let two : a ++ b ++ c ++ v ++ l ++ p ≡ a ++ b ++ (c ++ (v ++ (l ++ p))) = simp append_assoc in
    let three : a ++ b ++ c ++ v ++ l ++ p ≡ (a ++ b) ++ c ++ (v ++ (l ++ p)) = simp append_assoc in (
      omega arith,
      ap (part 0 4) one ∙ part_of [] a (b ++ (c ++ (v ++ (l ++ p)))) 0 4 refl la,
      ap (part 4 4) two ∙ part_of a b (c ++ (v ++ (l ++ p))) 4 4 la lb,
      ap (part 8 32) three ∙ part_of (a ++ b) c (v ++ (l ++ p)) 8 32 (omega arith) lc,
      part_of (a ++ b ++ c ++ v) l p 2184 4 (omega arith) ll,
    )

parts_of : (secret : Secret) (text : List ℕ) (leaf : ℕ) → Parts secret text (signature_of secret leaf text) leaf
unfolding signature_of
parts_of secret text leaf =
    let seed = secret.seed in
    let id = secret.id in
    let a = be w32 leaf in
    let c = randomizer_of seed id leaf in
    let value : ℕ → List ℕ = signed_value seed id leaf (digest_of id leaf c text) in
    let v = joined 67 value in
    let path : ℕ → List ℕ = path_of secret leaf in
    let p = joined 10 path in
    let lv : length v ≡ 2144 = length-joined 67 value (length-signed seed id leaf (digest_of id leaf c text)) in
    let path_sizes : (k : ℕ) → length (path k) ≡ 32 = λ k. length-node secret k (sibling (ancestor (1024 + leaf) k)) in
    let lp : length p ≡ 320 = length-joined 10 path path_sizes in
    let parts = six a ots_type c v lms_type p (length-be32 leaf) (length-be32 3) (length-randomizer seed id leaf) lv (length-be32 6) lp in
    let front : length (a ++ ots_type ++ c) ≡ 40 = front_size seed id leaf in
    let before : length (a ++ ots_type ++ c ++ v ++ lms_type) ≡ 2188 = omega (arith, length-append (a ++ ots_type ++ c) v, length-append (a ++ ots_type ++ c ++ v) lms_type, length-be32 6) in
    let tail : a ++ ots_type ++ c ++ v ++ lms_type ++ p ≡ a ++ ots_type ++ c ++ v ++ (lms_type ++ p) = append_assoc (a ++ ots_type ++ c ++ v) lms_type p in
    record {
      size = parts.0;
      number = parts.1;
      ots = parts.2;
      randomizer = parts.3;
      values = λ k lt. ap (part (40 + 32 * k) 32) tail ∙ joined_part 67 (a ++ ots_type ++ c) (lms_type ++ p) value 40 k (length-signed seed id leaf (digest_of id leaf c text)) front lt;
      lms = parts.4;
      path = λ k lt. ap (part (2188 + 32 * k) 32) (sym (append-nil (a ++ ots_type ++ c ++ v ++ lms_type ++ p))) ∙ joined_part 10 (a ++ ots_type ++ c ++ v ++ lms_type) [] path 2188 k path_sizes before lt;
    }

pub length-signature : (secret : Secret) (text : List ℕ) (leaf : ℕ) → length (signature_of secret leaf text) ≡ 2508
length-signature secret text leaf = (parts_of secret text leaf).size

-- ---- the public key

-- a key with these parts
record KeyParts (secret : Secret) (key : List ℕ) : Type 0 where
  form : is_key key ≡ true
  size : length key ≡ 56
  identifier : id_of key ≡ secret.id
  root : root_of key ≡ node secret 10 1

key_parts : (secret : Secret) → length secret.id ≡ 16 → KeyParts secret (public_key_of secret)
unfolding public_key_of is_key
key_parts secret size =
    let id = secret.id in
    let root = node secret 10 1 in
    let types = lms_type ++ ots_type in
    let lr : length root ≡ 32 = length-node secret 10 1 in
    let lt : length types ≡ 8 = omega (arith, length-append lms_type ots_type, length-be32 6, length-be32 3) in
    let front : length (types ++ id) ≡ 24 = omega (arith, length-append types id) in
    let all : length (types ++ id ++ root) ≡ 56 = omega (arith, length-append (types ++ id) root) in
    let key = types ++ id ++ root in
    let long : nat_eq (length key) 56 ≡ true = eq-eqb (length key) 56 all in
    let starts : starts_with nat_eq key types ≡ true = (starts_is Decides-eqb key types (starts_with nat_eq key types) refl).1 (id ++ root) (append_assoc types id root) in
    record {
      form = ap (λ b. b && starts_with nat_eq key types) long ∙ starts;
      size = all;
      identifier = part_of types id root 8 16 lt size;
      root = ap (part 24 32) (sym (append-nil key)) ∙ part_of (types ++ id) root [] 24 32 front lr;
    }

pub length-public_key : (secret : Secret) → length secret.id ≡ 16 → length (public_key_of secret) ≡ 56
length-public_key secret size = (key_parts secret size).size

-- ---- both

same_is_equal : (xs ys : List ℕ) → xs ≡ ys → bytes_eq xs ys ≡ true
same_is_equal xs ys = (bytes_eq-Decides xs ys).1

root_is : (secret : Secret) (text signature : List ℕ) (leaf : ℕ) → leaf < 1024 → HasLeaf secret leaf → leaf_of signature ≡ leaf → Parts secret text signature leaf
    → root_from secret.id text signature ≡ node secret 10 1
unfolding root_from
root_is secret text signature leaf small has names parts =
    let seed = secret.seed in
    let id = secret.id in
    let from : ℕ → List ℕ → List ℕ = λ q randomizer. climbed id (1024 + q) (path_in signature) (leaf_node id (1024 + q) (candidate id q (digest_of id q randomizer text) (value_in signature))) 10 in
    let digest = digest_of id leaf (randomizer_of seed id leaf) text in
    ap (λ q. from q (randomizer_in signature)) names ∙ ap (from leaf) parts.randomizer
    ∙ ap (λ (key : List ℕ). climbed id (1024 + leaf) (path_in signature) (leaf_node id (1024 + leaf) key) 10) (candidate_is seed id leaf digest (value_in signature) parts.values)
    ∙ climb_is secret leaf (path_in signature) small has parts.path

both : (a b : Bool) → a ≡ true → b ≡ true → (a && b) ≡ true
both true b p q = q
both false b p q = p

form_is : (secret : Secret) (text signature : List ℕ) (leaf : ℕ) → leaf < 1024 → leaf_of signature ≡ leaf → Parts secret text signature leaf → is_signature signature ≡ true
unfolding is_signature
form_is secret text signature leaf small names parts =
    let below : nat_lt (leaf_of signature) 1024 ≡ true = lt-ltb _ _ (omega (arith, names)) in
    both _ _ (both _ _ (both _ _ (eq-eqb (length signature) 2508 parts.size) (same_is_equal (part 4 4 signature) ots_type parts.ots)) (same_is_equal (part 2184 4 signature) lms_type parts.lms)) below

names_is : (leaf : ℕ) (bytes : List ℕ) → leaf < 1024 → bytes ≡ be w32 leaf → from_be_bytes w32 bytes ≡ leaf
unfolding be
names_is leaf bytes small is = ap (from_be_bytes w32) is ∙ from_be_bytes-to_be_bytes_4 leaf (omega arith)

-- what a leaf of a key signs is valid under its public key, where the leaf can sign
pub signed_valid : (secret : Secret) (text : List ℕ) (leaf : ℕ) → length secret.id ≡ 16 → leaf < 1024 → HasLeaf secret leaf → valid (public_key_of secret) text (signature_of secret leaf text) ≡ true
unfolding valid
signed_valid secret text leaf size small has =
    let key = public_key_of secret in
    let signature = signature_of secret leaf text in
    let k = key_parts secret size in
    let s = parts_of secret text leaf in
    let names : leaf_of signature ≡ leaf = names_is leaf (part 0 4 signature) small s.number in
    let root : root_from (id_of key) text signature ≡ root_of key =
    ap (λ (l : List ℕ). root_from l text signature) k.identifier ∙ root_is secret text signature leaf small has names s ∙ sym k.root in
    both _ _ (both _ _ k.form (form_is secret text signature leaf small names s)) (same_is_equal (root_from (id_of key) text signature) (root_of key) root)

-- ---- what is valid has the right size

left_true : (a b : Bool) → (a && b) ≡ true → a ≡ true
left_true true b h = refl
left_true false b h = h

right_true : (a b : Bool) → (a && b) ≡ true → b ≡ true
right_true true b h = h
right_true false b h = absurd cc

signature_size : (signature : List ℕ) → is_signature signature ≡ true → length signature ≡ 2508
unfolding is_signature
signature_size signature h = eqb-true (length signature) 2508 (left_true _ _ (left_true _ _ (left_true _ _ h)))

pub valid_size : (key text signature : List ℕ) → valid key text signature ≡ true → length signature ≡ 2508
unfolding valid
valid_size key text signature h = signature_size signature (right_true (is_key key) (is_signature signature) (left_true _ _ h))

pub key_size : (key : List ℕ) → is_key key ≡ true → length key ≡ 56
unfolding is_key
key_size key h = eqb-true (length key) 56 (left_true _ _ h)

pub is_key-public : (secret : Secret) → length secret.id ≡ 16 → is_key (public_key_of secret) ≡ true
is_key-public secret size = (key_parts secret size).form
