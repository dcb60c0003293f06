use Rattle.std.proofs.Common.{◌≡◌, Some, refl, sym, ap, subst, ◌∙◌}
use Rattle.std.specs.Prelude.{◌==◌, ◌||◌, if◌then◌else◌}
use Rattle.std.specs.Ordering.{nat_cmp}
use Rattle.layout.specs.Ascending.{without_row}
use Rattle.itable.specs.Chunk.{chunk_number}
use Rattle.itable.specs.ITable.{ITable, digest_at, digest_in, handle_of, listings, loaded, unloaded_at}
use Rattle.tree_parts.specs.Spot.{lacks}
use Rattle.tree_parts.specs.declared.spot.Spot.TheVariants as spot
use Rattle.tree_parts.specs.Part.{Part, handle}
use Rattle.tree_parts.specs.Asked.{IsChunkFor, IsListed, Lacks}
use Rattle.tree_parts.proofs.AskedLaws.{handed_on}
use Rattle.tree_parts.proofs.LoadLaws.{IsToLoad, Loads, has_chunk, has_chunk_as, is_part_loaded, is_read_loaded, lacks_chunk, loaded_then, slots_stay}
use Rattle.tree_parts.proofs.part.Part.load.Given as given
use Rattle.tree_parts.proofs.part.Part.load.Goals as goal

pub returns-in_err-chunk-clause-missing : goal.returns-in_err-chunk-clause-missing
returns-in_err-chunk-clause-missing g c =
    let blocks = g.B.Blocks.held c.args.blocks.now in
    let part = c.args.self.now in
    let i = c.args.i_number in
    let listed = c.in-Some.listed in
    let e = c.in_err-chunk.field-0.0 in
    let is = c.principal.ensures in
    let at : unloaded_at part.table (chunk_number i) ≡ Some listed = ap (λ (p : Part). unloaded_at p.table (chunk_number i)) (sym c.self.view_is) ∙ sym c.unloaded.ensures.found ∙ c.in-Some.is in
    let missing : Lacks blocks (IsListed part.table.principal listed) e = subst (λ p. Lacks blocks (IsListed p listed) e) is.same c.in_err-chunk.ensures.missing in
    handed_on c.from_residual.result e (Lacks blocks (IsChunkFor blocks part.table.principal (handle part) i)) c.from_residual.ensures.1
    (lacks_chunk blocks part i listed e is.is_part is.before c.requires.read at c.in-Some.ensures.number missing)

-- ---- the chunk is loaded

abbrev loaded_part : (g : given.Over) → goal.After-drop-chunk-inside-2 g → Part
loaded_part g c = record { before = c.put_in.new.place; table = c.load-2.new.self; opened = c.self.inside.opened.items }

to_load : (g : given.Over) (c : goal.After-drop-chunk-inside-2 g) → IsToLoad (g.B.Blocks.held c.args.blocks.now) c.args.self.now c.in-Some.listed c.in_ok-chunk.chunk
to_load g c =
    let blocks = g.B.Blocks.held c.args.blocks.now in
    let part = c.args.self.now in
    let listed = c.in-Some.listed in
    let is = c.principal.ensures in
    let at : unloaded_at part.table (chunk_number c.args.i_number) ≡ Some listed = ap (λ (p : Part). unloaded_at p.table (chunk_number c.args.i_number)) (sym c.self.view_is) ∙ sym c.unloaded.ensures.found ∙ c.in-Some.is in
    record {
      part_is = is.is_part;
      before = is.before;
      table = is.table;
      read = c.requires.read;
      at = ap (unloaded_at part.table) c.in-Some.ensures.number ∙ at;
      held = c.in_ok-chunk.ensures.found;
      number = c.in_ok-chunk.ensures.number;
      taken = ap (λ p. lacks blocks listed.digest (spot.Chunk p listed.number)) (sym is.same) ∙ c.in_ok-chunk.ensures.taken;
    }

loads : (g : given.Over) (c : goal.After-drop-chunk-inside-2 g) → Loads c.args.self.now (loaded_part g c) c.in_ok-chunk.chunk
loads g c =
    let was = c.self.view_is in
    let before : c.put_in.new.place ≡ c.load.new.self = c.put_in.ensures in
    let first : c.in_ok-before.before ≡ c.self.inside.before = c.in_ok-before.ensures in
    rw (← was) (record {
      opened = refl;
      principal = c.in_ok-load-2.ensures.principal;
      before_principal = ap (λ (t : ITable). t.principal) before ∙ c.in_ok-load.ensures.principal ∙ ap (λ (t : ITable). t.principal) first;
      listed = ap listings before ∙ c.in_ok-load.ensures.listed ∙ ap listings first;
      stands = ap handle_of before ∙ c.in_ok-load.ensures.handle ∙ ap handle_of first;
      unloaded = c.in_ok-load-2.ensures.unloaded;
      before_unloaded = ap (λ (t : ITable). t.unloaded) before ∙ c.in_ok-load.ensures.unloaded ∙ ap (λ (t : ITable). without_row nat_cmp (λ n. n.number) t.unloaded c.in_ok-chunk.chunk.number) first;
      loaded_now = c.in_ok-load-2.ensures.loaded;
      digests = c.in_ok-load-2.ensures.digests;
      before_loaded = λ i. ap (λ (t : ITable). loaded t i) before ∙ c.in_ok-load.ensures.loaded i ∙ ap (λ (t : ITable). loaded t i || (chunk_number i == c.in_ok-chunk.chunk.number)) first;
      before_digests = λ i. ap (λ (t : ITable). digest_at t i) before ∙ c.in_ok-load.ensures.digests i ∙ ap (λ (t : ITable). if chunk_number i == c.in_ok-chunk.chunk.number then digest_in c.in_ok-chunk.chunk.pairs i else digest_at t i) first;
    })

pub invariant_of-self-2 : goal.invariant_of-self-2
invariant_of-self-2 g c = is_part_loaded (g.B.Blocks.held c.args.blocks.now) c.args.self.now (loaded_part g c) c.in-Some.listed c.in_ok-chunk.chunk (to_load g c) (loads g c)

pub returns-clause-loaded : goal.returns-clause-loaded
returns-clause-loaded g c = loaded_then (g.B.Blocks.held c.args.blocks.now) c.args.self.now (loaded_part g c) c.in-Some.listed c.in_ok-chunk.chunk (to_load g c) (loads g c) c.args.i_number (sym c.in-Some.ensures.number)

pub returns-clause-slots : goal.returns-clause-slots
returns-clause-slots g c = slots_stay (g.B.Blocks.held c.args.blocks.now) c.args.self.now (loaded_part g c) c.in-Some.listed c.in_ok-chunk.chunk (to_load g c) (loads g c)

pub returns-clause-read : goal.returns-clause-read
returns-clause-read g c = is_read_loaded (g.B.Blocks.held c.args.blocks.now) c.args.self.now (loaded_part g c) c.in-Some.listed c.in_ok-chunk.chunk (to_load g c) (loads g c)

pub returns-clause-taken : goal.returns-clause-taken
returns-clause-taken g c =
    let blocks = g.B.Blocks.held c.args.blocks.now in
    let old = c.args.self.now in
    let new = loaded_part g c in
    let done = loads g c in
    let is = to_load g c in
    let here = loaded_then blocks old new c.in-Some.listed c.in_ok-chunk.chunk is done c.args.i_number (sym c.in-Some.ensures.number) in
    has_chunk_as blocks old new c.args.i_number done.principal done.stands
    (has_chunk blocks new c.args.i_number (is_part_loaded blocks old new c.in-Some.listed c.in_ok-chunk.chunk is done) (is_read_loaded blocks old new c.in-Some.listed c.in_ok-chunk.chunk is done) here)
