use Rattle.std.proofs.Common.{◌∷◌, [], map, sym, ap, ◌∙◌, arith}
use Rattle.std.proofs.lemmas.List.{map-append}
use Rattle.std.specs.Option.{option_map}
use Rattle.std.specs.Vec.{vec_items}
use Rattle.itable.specs.ITable.{new_chunk}
use Rattle.itable.proofs.RootLaws.{one_more, none_more, all_told}
use Rattle.itable.proofs.table.ITable.new_chunks.Goals.{in-Some+in_ok-push, in_default}
use Rattle.itable.proofs.table.ITable.new_chunks.Goals as goal

pub loop-number-preserved : goal.loop-number-preserved
loop-number-preserved g c =
    let f = new_chunk c.args.before.now c.args.self.now in
    let n = c.loop-number.number in
    let old = map vec_items c.loop-number.texts.items in
    let here = c.in_ok-text.ensures ∙ ap f c.at.ensures in
    elim c.match-branch-2.branch [
      | in-Some+in_ok-push w ↦
          let is = sym (ap (option_map vec_items) w.in-Some.is) ∙ here in
          let grown = ap (map vec_items) w.in_ok-push.ensures.items ∙ map-append vec_items c.loop-number.texts.items (w.in-Some.text ∷ []) in
          rw w.texts-is (one_more f n old (map vec_items w.push.new.self.items) w.in-Some.text.items c.loop-number.invariant is grown)
      | in_default w ↦
          let is = sym (ap (option_map vec_items) w.in_default.is) ∙ here in
          rw w.texts-is (none_more f n old c.loop-number.invariant is)
    ]

pub returns : goal.returns
returns g c = all_told (new_chunk c.args.before.now c.args.self.now) c.loop-number.number (map vec_items c.loop-number.texts.items) (omega arith) c.loop-number.invariant
