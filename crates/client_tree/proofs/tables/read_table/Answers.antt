use Rattle.std.proofs.Common.{◌≡◌, ℕ, ◌+◌, ◌<◌, ◌∙◌, List, ◌∷◌, Some, length, take, drop, get_or, sym, ap, subst}
use Rattle.std.proofs.lemmas.List.{drop_all, take_all}
use Rattle.std.proofs.lemmas.List.Elements.{All-nil}
use Rattle.itable.specs.Chunk.{chunk_number}
use Rattle.itable.specs.Root.{chunk_at, number_of}
use Rattle.std.specs.Ordering.{nat_cmp}
use Rattle.layout.specs.Ascending.{row_at, without_row}
use Rattle.std.specs.Prelude.{◌==◌, if◌then◌else◌}
use Rattle.tree_parts.specs.Blocks.{told_by}
use Rattle.tree_parts.specs.Asked.{Lacks}
use Rattle.std.specs.List.{All}
use Rattle.itable.specs.declared.root.ListedChunk.{ListedChunk}
use Rattle.itable.specs.ITable.{ITable, digest_at, digest_in, unloaded_at}
use Rattle.client_tree.specs.Tables.{IsOfTable}
use Rattle.client_tree.proofs.OpenedLaws.{handed_on}
use Rattle.client_tree.proofs.TableLaws.{IsTaken, all_told, below, first_row, found, handle_is, lacks_chunk, lacks_root, left_of, nothing_lacks, taken_next, told_next, without_first}
use Rattle.client_tree.proofs.tables.read_table.Goals as goal

pub returns-in_err-root-clause-missing : goal.returns-in_err-root-clause-missing
returns-in_err-root-clause-missing g c =
    let held = g.B.Blocks.held c.args.blocks.now in
    let e = c.in_err-root.field-0.0 in
    handed_on c.from_residual.result e (Lacks held (IsOfTable held c.args.principal c.args.handle)) c.from_residual.ensures.1 (lacks_root held c.args.principal c.args.handle e c.in_err-root.ensures.missing)

pub returns-in_err-chunk-clause-missing : goal.returns-in_err-chunk-clause-missing
returns-in_err-chunk-clause-missing g c =
    let held = g.B.Blocks.held c.args.blocks.now in
    let r = c.in_ok-root.root in
    let root = c.in_ok-root.ensures in
    let e = c.in_err-chunk.field-0.0 in
    let k = c.loop-listed.listed-index in
    let item = c.listed-item.result in
    let items : c.deref-listed-items.result.now ≡ r.chunks = c.deref-listed-items.ensures.value ∙ c.in_ok-chunks.ensures.items ∙ c.chunks.ensures in
    let inside : k < length r.chunks = subst (λ (cs : List ListedChunk). k < length cs) items c.loop-listed-test.true in
    let is : item ≡ get_or r.chunks k item = subst (λ (cs : List ListedChunk). item ≡ get_or cs k item) items c.listed-item.is in
    let at : chunk_at r item.number ≡ Some item = subst (λ (y : ListedChunk). chunk_at r y.number ≡ Some y) (sym is) (found r root.fits k item inside) in
    handed_on c.from_residual-in_err-chunk.result e (Lacks held (IsOfTable held c.args.principal c.args.handle)) c.from_residual-in_err-chunk.ensures.1
    (lacks_chunk held c.args.principal c.args.handle r item e root.found root.taken at c.in_err-chunk.ensures.missing)

-- ---- the loop

pub loop-listed-init : goal.loop-listed-init
loop-listed-init g c =
    let items : c.deref-listed-items.result.now ≡ c.in_ok-root.root.chunks = c.deref-listed-items.ensures.value ∙ c.in_ok-chunks.ensures.items ∙ c.chunks.ensures in
    let first = c.of_root-table.ensures in
    record {
      principal = ap (λ (t : ITable). t.principal) first.same ∙ c.in_ok-root.ensures.principal;
      listed = first.listed ∙ sym items;
      unloaded = ap (λ (t : ITable). t.unloaded) first.same ∙ sym items;
      told = λ i. ap (λ (t : ITable). Some (digest_at t i)) (sym first.same);
      taken = All-nil (IsTaken (g.B.Blocks.held c.args.blocks.now) c.args.principal);
    }

pub loop-listed-preserved : goal.loop-listed-preserved
loop-listed-preserved g c =
    let held = g.B.Blocks.held c.args.blocks.now in
    let inv = c.loop-listed.invariant in
    let items = c.deref-listed-items.result.now in
    let k = c.loop-listed.listed-index in
    let item = c.listed-item.result in
    let chunk = c.in_ok-chunk.ensures in
    let load = c.in_ok-load.ensures in
    record {
      principal = load.principal ∙ inv.principal;
      listed = load.listed ∙ inv.listed;
      unloaded = load.unloaded
          ∙ ap (λ (cs : List ListedChunk). without_row nat_cmp number_of cs c.in_ok-chunk.chunk.number) (inv.unloaded ∙ left_of items k item c.loop-listed-test.true c.listed-item.is)
          ∙ ap (λ (n : ℕ). without_row nat_cmp number_of (item ∷ drop (k + 1) items) n) chunk.number
          ∙ without_first item (drop (k + 1) items);
      told = λ i.
          let r = c.in_ok-root.root in
          let same : items ≡ r.chunks = c.deref-listed-items.ensures.value ∙ c.in_ok-chunks.ensures.items ∙ c.chunks.ensures in
          let inside : k < length r.chunks = subst (λ (cs : List ListedChunk). k < length cs) same c.loop-listed-test.true in
          let at : item ≡ get_or r.chunks k item = subst (λ (cs : List ListedChunk). item ≡ get_or cs k item) same c.listed-item.is in
          let lesser : All (λ x. x.number < item.number) (take k items) =
          subst (λ (cs : List ListedChunk). All (λ x. x.number < item.number) (take k cs)) (sym same) (subst (λ (y : ListedChunk). All (λ x. x.number < y.number) (take k r.chunks)) (sym at) (below r c.in_ok-root.ensures.fits k item inside)) in
          told_next held i items k item c.in_ok-chunk.chunk c.loop-listed.table c.load.new.self c.loop-listed-test.true c.listed-item.is lesser chunk.found
          (load.digests i ∙ ap (λ (n : ℕ). if chunk_number i == n then digest_in c.in_ok-chunk.chunk.pairs i else digest_at c.loop-listed.table i) chunk.number) (inv.told i);
      taken = taken_next held c.args.principal items k item c.loop-listed-test.true c.listed-item.is chunk.taken inv.taken;
    }

pub load-requires-clause-listed : goal.load-requires-clause-listed
load-requires-clause-listed g c =
    let items = c.deref-listed-items.result.now in
    let k = c.loop-listed.listed-index in
    let item = c.listed-item.result in
    let number = c.in_ok-chunk.ensures.number in
    ap (unloaded_at c.loop-listed.table) number
    ∙ ap (λ (cs : List ListedChunk). row_at nat_cmp number_of cs item.number) (c.loop-listed.invariant.unloaded ∙ left_of items k item c.loop-listed-test.true c.listed-item.is)
    ∙ first_row item (drop (k + 1) items)
    ∙ ap (λ (n : ℕ). Some (record { number = n; digest = item.digest })) (sym number)

pub returns-clause-read : goal.returns-clause-read
returns-clause-read g c =
    let held = g.B.Blocks.held c.args.blocks.now in
    let inv = c.loop-listed.invariant in
    let r = c.in_ok-root.root in
    let root = c.in_ok-root.ensures in
    let t = c.loop-listed.table in
    let k = c.loop-listed.listed-index in
    let now = c.deref-listed-items.result.now in
    let items : now ≡ r.chunks = c.deref-listed-items.ensures.value ∙ c.in_ok-chunks.ensures.items ∙ c.chunks.ensures in
    let all : take k now ≡ r.chunks = take_all k now c.loop-listed-test.false ∙ items in
    let taken : All (IsTaken held c.args.principal) r.chunks = subst (All (IsTaken held c.args.principal)) all inv.taken in
    record {
      is_table = c.principal-principal.ensures.is_table;
      whole = inv.unloaded ∙ drop_all k now c.loop-listed-test.false;
      principal = inv.principal;
      named = handle_is t r c.args.handle (inv.principal ∙ sym root.principal) (inv.listed ∙ items) root.hashed;
      told = λ i.
          let told = subst (λ (cs : List ListedChunk). told_by held i (row_at nat_cmp number_of cs (chunk_number i)) ≡ Some (digest_at t i)) all (inv.told i) in
          all_told held c.args.principal c.args.handle r t i root.found root.principal told;
      taken = nothing_lacks held c.args.principal c.args.handle r root.found root.taken taken;
    }
