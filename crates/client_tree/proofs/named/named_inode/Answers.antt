use Rattle.std.proofs.Common.{◌≡◌, ℕ, false, None, Some, sym, subst, ◌∙◌}
use Rattle.itable.specs.ITable.{digest_in}
use Rattle.itable.specs.Root.{chunk_at, number_of}
use Rattle.tree_parts.specs.Spot.{lacks}
use Rattle.tree_parts.specs.declared.spot.Spot.TheVariants as spot
use Rattle.tree_parts.specs.Asked.{IsChunkFor, IsListed, Lacks}
use Rattle.client_tree.proofs.NamedLaws.{has_both, has_first, lacks_first_chunk, lists_first, row_key}
use Rattle.client_tree.proofs.OpenedLaws.{handed_on}
use Rattle.client_tree.proofs.named.named_inode.Goals as goal

pub unreachable-requires : goal.unreachable-requires
unreachable-requires g c =
    let held = g.B.Blocks.held c.args.blocks.now in
    let first : c.from-superuser.result ≡ 0 = c.from-superuser.ensures ∙ c.superuser.ensures in
    let taken = subst (λ (p : ℕ). lacks held c.args.handle (spot.Root p) ≡ false) first c.in_ok-root.ensures.taken in
    let none : chunk_at c.in_ok-root.root 0 ≡ None = sym c.first_chunk.ensures ∙ c.in_default.is in
    lists_first held c.args.handle c.in_ok-root.root c.in_ok-root.ensures.found taken none

pub unreachable-requires-in-None : goal.unreachable-requires-in-None
unreachable-requires-in-None g c =
    let held = g.B.Blocks.held c.args.blocks.now in
    let listed = c.in-Some.listed in
    let first : c.from-superuser.result ≡ 0 = c.from-superuser.ensures ∙ c.superuser.ensures in
    let number = row_key number_of c.in_ok-root.root.chunks 0 listed (sym c.first_chunk.ensures ∙ c.in-Some.is) in
    let of_first = subst (λ (p : ℕ). lacks held listed.digest (spot.Chunk p listed.number) ≡ false) first c.in_ok-chunk.ensures.taken in
    let taken = subst (λ (n : ℕ). lacks held listed.digest (spot.Chunk 0 n) ≡ false) number of_first in
    let none : digest_in c.in_ok-chunk.chunk.pairs 1 ≡ None = sym c.inode_in.ensures ∙ c.in-None.is in
    has_first held listed.digest c.in_ok-chunk.chunk c.in_ok-chunk.ensures.found taken none

pub returns-in_err-chunk-clause-missing : goal.returns-in_err-chunk-clause-missing
returns-in_err-chunk-clause-missing g c =
    let held = g.B.Blocks.held c.args.blocks.now in
    let r = c.in_ok-root.root in
    let listed = c.in-Some.listed in
    let e = c.in_err-chunk.field-0.0 in
    let first : c.from-superuser.result ≡ 0 = c.from-superuser.ensures ∙ c.superuser.ensures in
    let root_taken = subst (λ (p : ℕ). lacks held c.args.handle (spot.Root p) ≡ false) first c.in_ok-root.ensures.taken in
    let at : chunk_at r 0 ≡ Some listed = sym c.first_chunk.ensures ∙ c.in-Some.is in
    let number = row_key number_of r.chunks 0 listed at in
    let missing = subst (λ (p : ℕ). Lacks held (IsListed p listed) e) first c.in_err-chunk.ensures.missing in
    handed_on c.from_residual-in_err-chunk.result e (Lacks held (IsChunkFor held 0 c.args.handle 1)) c.from_residual-in_err-chunk.ensures.1 (lacks_first_chunk held c.args.handle r listed e c.in_ok-root.ensures.found root_taken at number missing)

pub returns-clause-taken : goal.returns-clause-taken
returns-clause-taken g c =
    let held = g.B.Blocks.held c.args.blocks.now in
    let r = c.in_ok-root.root in
    let listed = c.in-Some.listed in
    let first : c.from-superuser.result ≡ 0 = c.from-superuser.ensures ∙ c.superuser.ensures in
    let root_taken = subst (λ (p : ℕ). lacks held c.args.handle (spot.Root p) ≡ false) first c.in_ok-root.ensures.taken in
    let at : chunk_at r 0 ≡ Some listed = sym c.first_chunk.ensures ∙ c.in-Some.is in
    let number = row_key number_of r.chunks 0 listed at in
    let of_first = subst (λ (p : ℕ). lacks held listed.digest (spot.Chunk p listed.number) ≡ false) first c.in_ok-chunk.ensures.taken in
    let taken = subst (λ (n : ℕ). lacks held listed.digest (spot.Chunk 0 n) ≡ false) number of_first in
    has_both held c.args.handle r listed c.in_ok-root.ensures.found root_taken at taken
