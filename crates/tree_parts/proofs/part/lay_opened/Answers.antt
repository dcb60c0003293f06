use Rattle.std.proofs.Common.{◌≡◌, true, false, ℕ, List, [], ◌∷◌, Some, refl, subst, sym, ap, ◌∙◌, map, rules}
use Rattle.std.specs.Vec.{vec_items}
use Rattle.std.specs.Option.{option_map}
use Rattle.std.specs.Prelude.{◌++◌, ◌==◌, ◌||◌, ◌&&◌, if◌then◌else◌}
use Rattle.layout.specs.Hash.{hash}
use Rattle.std.proofs.lemmas.List.{append-nil, take_all}
use Rattle.std.proofs.lemmas.List.Elements.{All-nil}
use Rattle.std.specs.List.{All, list_all}
use Rattle.itable.specs.File.{blocks_of}
use Rattle.itable.specs.Inode.{inode}
use Rattle.itable.specs.ITable.{digest_at, loaded}
use Rattle.directory.specs.Directory.{Entry, directory}
use Rattle.tree_parts.specs.Part.{Open, Part, slot_here}
use Rattle.tree_parts.specs.Slots.{IsReadBack, changed_texts, directory_digest, directory_inode, has_digest, holds, is_stored, slot_digest}
use Rattle.tree_parts.proofs.LaidLaws.{open_loaded, read_at, read_next, laid_first, laid_next, stored_now, texts_first, texts_next, texts_laid}
use Rattle.tree_parts.proofs.LoadLaws.{loaded_as}
use Rattle.tree_parts.proofs.part.lay_opened.Goals.{then-not-stored+in_ok-append+in_ok-push, else-not-stored}
use Rattle.tree_parts.proofs.part.lay_opened.Goals as goal

pub loop-open-init : goal.loop-open-init
loop-open-init g c = record {
  principal = refl;
  unloaded = refl;
  digests = λ i. laid_first c.args.table.now i;
  texts = ap (map vec_items) c.new-texts.ensures.items ∙ sym (texts_first (g.B.Blocks.held c.args.blocks.now) c.args.before.now c.args.table.now);
  read_back = All-nil (λ o. IsReadBack o.entries);
}

pub loop-open-preserved : goal.loop-open-preserved
loop-open-preserved g c =
    let inv = c.loop-open.invariant in
    let earlier = c.args.before.now in
    let first = c.args.table.now in
    let all = c.args.opened.now in
    let k = c.loop-open.open-index in
    let o = c.open-item.result in
    let d = c.digest.result in
    let held = g.B.Blocks.held c.args.blocks.now in
    let whole = c.requires.is_part in
    let inside = c.loop-open-test.true in
    let at = c.open-item.is in
    let entries : c.directory.result.now ≡ o.entries = search rules in
    let laid : map vec_items c.in_ok-laid.laid.blocks.items ≡ blocks_of (directory.spell o.entries) = c.in_ok-laid.ensures.blocks ∙ ap (λ (es : List Entry). blocks_of (directory.spell es)) entries in
    let text : c.in_ok-laid.laid.inode.items ≡ inode.spell (directory_inode o.entries) = c.in_ok-laid.ensures.inode ∙ ap (λ (es : List Entry). inode.spell (directory_inode es)) entries in
    let is : d ≡ directory_digest o.entries = c.digest.ensures.hash ∙ ap hash (c.deref.ensures.value ∙ text) in
    let old = c.loop-open.table in
    let before = map vec_items c.loop-open.texts.items in
    let after = map vec_items c.if-not-stored.texts.items in
    let told : is_stored held earlier first o ≡ c.is_stored-stored.result =
    stored_now held earlier first old all k o (map vec_items c.in_ok-laid.laid.blocks.items) c.in_ok-laid.laid.inode.items whole.ascending inside at laid text inv.digests
    ∙ ap (λ (n : ℕ). (has_digest earlier n (hash c.in_ok-laid.laid.inode.items) || has_digest old n (hash c.in_ok-laid.laid.inode.items)) && list_all (holds held) (map vec_items c.in_ok-laid.laid.blocks.items ++ c.in_ok-laid.laid.inode.items ∷ [])) (sym c.i_number-i_number.ensures)
    ∙ sym c.is_stored-stored.ensures in
    record {
      principal = ap (λ t. t.principal) c.in_ok-set.ensures.ok ∙ inv.principal;
      unloaded = ap (λ t. t.unloaded) c.in_ok-set.ensures.ok ∙ inv.unloaded;
      digests = laid_next earlier first old c.set.new.self all k o d whole inside at is (λ i. c.in_ok-set.ensures.digests i ∙ ap (λ (n : ℕ). if n == i then Some d else digest_at old i) c.i_number-i_number.ensures) inv.digests;
      texts = elim c.if-not-stored.branch [
        | then-not-stored+in_ok-append+in_ok-push w ↦
            let items : c.if-not-stored.texts.items ≡ (c.loop-open.texts.items ++ c.in_ok-laid.laid.blocks.items) ++ c.in_ok-laid.laid.inode ∷ [] = search rules in
            texts_next held earlier first all k o before after false inside at (told ∙ w.if-not-stored.true) (texts_laid c.loop-open.texts.items c.in_ok-laid.laid.blocks.items c.if-not-stored.texts.items c.in_ok-laid.laid.inode o.entries laid text items) inv.texts
        | else-not-stored w ↦ texts_next held earlier first all k o before after true inside at (told ∙ w.if-not-stored.false) (ap (λ t. map vec_items t.items) w.texts-is ∙ sym (append-nil before)) inv.texts
      ];
      read_back = read_next all k o inside at (subst IsReadBack entries c.in_ok-laid.ensures.read_back) inv.read_back;
    }

-- ---- the directory's chunk is loaded

pub is_stored-stored-requires-clause-before : goal.is_stored-stored-requires-clause-before
is_stored-stored-requires-clause-before g c =
    let part : Part = record { before = c.args.before.now; table = c.args.table.now; opened = c.args.opened.now } in
    let is = c.requires.is_part in
    loaded_as part.before part.table c.i_number-i_number.result is.unloaded
    ∙ ap (loaded part.table) c.i_number-i_number.ensures
    ∙ open_loaded part c.loop-open.open-index c.open-item.result is c.requires.is_table c.loop-open-test.true c.open-item.is

pub is_stored-stored-requires-clause-table : goal.is_stored-stored-requires-clause-table
is_stored-stored-requires-clause-table g c =
    let part : Part = record { before = c.args.before.now; table = c.args.table.now; opened = c.args.opened.now } in
    loaded_as c.loop-open.table part.table c.i_number-i_number.result c.loop-open.invariant.unloaded
    ∙ ap (loaded part.table) c.i_number-i_number.ensures
    ∙ open_loaded part c.loop-open.open-index c.open-item.result c.requires.is_part c.requires.is_table c.loop-open-test.true c.open-item.is

pub set-requires : goal.set-requires
set-requires g c =
    let part : Part = record { before = c.args.before.now; table = c.args.table.now; opened = c.args.opened.now } in
    record {
      loaded =
          loaded_as c.loop-open.table part.table c.i_number-i_number.result c.loop-open.invariant.unloaded
          ∙ ap (loaded part.table) c.i_number-i_number.ensures
          ∙ open_loaded part c.loop-open.open-index c.open-item.result c.requires.is_part c.requires.is_table c.loop-open-test.true c.open-item.is;
    }

-- ---- after the last one

pub returns-clause-principal : goal.returns-clause-principal
returns-clause-principal g c = c.loop-open.invariant.principal

pub returns-clause-unloaded : goal.returns-clause-unloaded
returns-clause-unloaded g c = c.loop-open.invariant.unloaded

pub returns-clause-read_back : goal.returns-clause-read_back
returns-clause-read_back g c = λ i laid entries at.
    let all = take_all c.loop-open.open-index c.args.opened.now c.loop-open-test.false in
    read_at (record { before = c.args.before.now; table = c.args.table.now; opened = c.args.opened.now }) i laid entries (subst (All (λ o. IsReadBack o.entries)) all c.loop-open.invariant.read_back) at

pub returns-clause-digests : goal.returns-clause-digests
returns-clause-digests g c =
    let all = take_all c.loop-open.open-index c.args.opened.now c.loop-open-test.false in
    λ i. c.loop-open.invariant.digests i ∙ ap (λ (os : List Open). option_map slot_digest (slot_here (record { before = c.args.before.now; table = c.args.table.now; opened = os }) i)) all

pub returns-clause-texts : goal.returns-clause-texts
returns-clause-texts g c =
    let all = take_all c.loop-open.open-index c.args.opened.now c.loop-open-test.false in
    c.loop-open.invariant.texts ∙ ap (changed_texts (g.B.Blocks.held c.args.blocks.now) c.args.before.now c.args.table.now) all
