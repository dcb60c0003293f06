-- The root and the chunks of an i-table, as their spots take them.
use Rattle.std.proofs.Common.{◌≡◌, ℕ, Bool, true, false, List, Option, Some, None, refl, ap, ◌∙◌}
use Rattle.std.specs.Prelude.{not}
use Rattle.std.specs.Option.{option_and_then, option_map_or}
use Rattle.std.specs.Result.{result_ok}
use Rattle.std.proofs.lemmas.Bool.{and_parts, eqb-true}
use Rattle.layout.specs.Format.{Format, whole}
use Rattle.itable.specs.Chunk.{Chunk, chunk}
use Rattle.itable.specs.Root.{Root, root}
use Rattle.tree_parts.specs.Blocks.{Blocks, chunk_held, root_at}
use Rattle.tree_parts.specs.Spot.{takes, takes_chunk, takes_root, lacks}
use Rattle.tree_parts.specs.declared.spot.Spot.TheVariants as spot

-- ---- what a spot takes

no_value : {T : Type 0} (f : Format T) (is : T → Bool) (text : Option (List ℕ)) → option_map_or is (option_and_then (λ t. result_ok (whole f t)) text) false ≡ false
    → not (option_map_or (λ t. option_map_or is (result_ok (whole f t)) false) text false) ≡ true
no_value f is None none = refl
no_value f is (Some t) none = ap not none

one_value : {T : Type 0} (f : Format T) (is : T → Bool) (x : T) (text : Option (List ℕ)) → option_and_then (λ t. result_ok (whole f t)) text ≡ Some x → is x ≡ true
    → not (option_map_or (λ t. option_map_or is (result_ok (whole f t)) false) text false) ≡ false
one_value f is x None at taken = absurd cc
one_value f is x (Some t) at taken = ap (λ (found : Option _). not (option_map_or is found false)) at ∙ ap not taken

-- a root that its spot takes is there, and is the principal's
pub root_taken : (blocks : Blocks) (p : ℕ) (handle : List ℕ) (r : Root) → root_at blocks handle ≡ Some r → takes_root p r ≡ true → lacks blocks handle (spot.Root p) ≡ false
unfolding takes
root_taken blocks p handle r at taken = one_value root (takes_root p) r (blocks handle) at taken

pub root_of_it : (p : ℕ) (r : Root) → takes_root p r ≡ true → r.principal ≡ p
root_of_it p r taken = eqb-true _ _ (and_parts _ _ taken).0

pub root_missing : (blocks : Blocks) (p : ℕ) (handle : List ℕ) → option_map_or (takes_root p) (root_at blocks handle) false ≡ false → lacks blocks handle (spot.Root p) ≡ true
unfolding takes
root_missing blocks p handle none = no_value root (takes_root p) (blocks handle) none

-- a chunk that its spot takes is there, and has the number
pub chunk_taken : (blocks : Blocks) (p n : ℕ) (digest : List ℕ) (x : Chunk) → chunk_held blocks digest ≡ Some x → takes_chunk p n x ≡ true → lacks blocks digest (spot.Chunk p n) ≡ false
unfolding takes
chunk_taken blocks p n digest x at taken = one_value chunk (takes_chunk p n) x (blocks digest) at taken

pub chunk_of_it : (p n : ℕ) (x : Chunk) → takes_chunk p n x ≡ true → x.number ≡ n
chunk_of_it p n x taken = eqb-true _ _ (and_parts _ _ taken).0

pub chunk_missing : (blocks : Blocks) (p n : ℕ) (digest : List ℕ) → option_map_or (takes_chunk p n) (chunk_held blocks digest) false ≡ false → lacks blocks digest (spot.Chunk p n) ≡ true
unfolding takes
chunk_missing blocks p n digest none = no_value chunk (takes_chunk p n) (blocks digest) none
