use Rattle.std.proofs.Common.{◌≡◌, ◌++◌, ℕ, List, Some, true, false, map, sym, ap, subst, ◌∙◌}
use Rattle.std.specs.Vec.{vec_items}
use Rattle.itable.specs.ITable.{ITable, digest_at, loaded, new_texts}
use Rattle.principals.specs.Table.{Table}
use Rattle.std.specs.Option.{option_map}
use Rattle.update_cert.specs.World.{is_table as is_table_at}
use Rattle.tree_parts.specs.Part.{slot_here}
use Rattle.tree_parts.specs.Slots.{changed_texts, slot_digest}
use Rattle.tree_parts.proofs.LoadLaws.{loaded_as}
use Rattle.client_tree.specs.Tree.{principals_digest, principals_texts}
use Rattle.client_tree.proofs.TreeLaws.{world_is}
use Rattle.client_tree.proofs.tree.store_part.Goals as goal

pub with_table-requires-clause-table : goal.with_table-requires-clause-table
with_table-requires-clause-table g c = λ first. loaded_as c.in_ok-laid.laid.table c.args.opened.part.table 1 c.in_ok-laid.ensures.unloaded ∙ c.requires.loaded first

pub with_table-requires-clause-before : goal.with_table-requires-clause-before
with_table-requires-clause-before g c = λ first.
    let laid = c.in_ok-laid.ensures in
    let part = c.args.opened.part in
    loaded_as c.in_ok-laid.laid.before part.table 1 (ap (λ (t : ITable). t.unloaded) laid.before ∙ laid.is_part.unloaded) ∙ c.requires.loaded first

pub returns-clause-stored : goal.returns-clause-stored
returns-clause-stored g c = λ x is_table opened.
    let held = g.B.Blocks.held c.args.blocks.now in
    let part_laid = c.in_ok-laid.ensures in
    let laid = c.in_ok-laid-2.ensures in
    let table = c.in_ok-laid-2.laid.table in
    let before = c.args.opened.part.before in
    let part = c.args.opened.part in
    let p = c.args.principal in
    let own = laid.principal ∙ part_laid.principal ∙ opened.after.principal in
    let carried = laid.unloaded ∙ part_laid.unloaded in
    let digests : (i : ℕ) → loaded table i ≡ true → is_table_at p i ≡ false → digest_at table i ≡ option_map slot_digest (slot_here part i) = λ i here place. laid.digests i place ∙ part_laid.digests i in
    record {
      part = part;
      is_part = part_laid.is_part;
      before_well_formed = part_laid.before_is_table;
      opened = opened;
      table = table;
      well_formed = c.in_ok-handle.ensures.is_table;
      principal = own;
      carried = carried;
      digests = digests;
      users = λ first. subst (λ (t : Table). digest_at table 1 ≡ Some (principals_digest t)) (sym is_table) (laid.users first);
      named = c.in_ok-handle.ensures.handle;
      world = λ reads agrees users changed i place. world_is reads users x p part table i own opened.after.principal opened.after.stands_on carried (opened.stands reads agrees users) changed digests place;
      read_back = part_laid.read_back;
      stored = c.in_ok-handle.ensures.texts
          ∙ ap (λ (t : ITable). map vec_items c.in_ok-laid-2.laid.texts.items ++ new_texts t table) (laid.before ∙ part_laid.before)
          ∙ ap (λ (ts : List (List ℕ)). ts ++ new_texts before table) (laid.texts ∙ ap (λ (t : ITable). map vec_items c.in_ok-laid.laid.texts.items ++ principals_texts held t p c.args.users.now) part_laid.before ∙ ap (λ (ts : List (List ℕ)). ts ++ principals_texts held before p c.args.users.now) part_laid.texts)
          ∙ ap (λ (t : Table). changed_texts held before part.table part.opened ++ principals_texts held before p t ++ new_texts before table) (sym is_table);
    }
