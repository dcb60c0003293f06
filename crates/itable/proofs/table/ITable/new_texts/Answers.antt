use Rattle.std.proofs.Common.{◌≡◌, ◌∷◌, ◌++◌, [], ℕ, List, map, ap, ◌∙◌, sym}
use Rattle.std.proofs.lemmas.List.{map-append}
use Rattle.std.specs.Str.{bytes_eq}
use Rattle.std.specs.Vec.{vec_items}
use Rattle.itable.specs.ITable.{root_text}
use Rattle.itable.proofs.NewTexts.{root_new, root_stays}
use Rattle.itable.proofs.table.ITable.new_texts.Goals.{then-not-stays+in_ok-push, else-not-stays}
use Rattle.itable.proofs.table.ITable.new_texts.Goals as goal

pub returns-clause-texts : goal.returns-clause-texts
returns-clause-texts g c =
    let t = c.args.self.now in
    let before = c.args.before.now in
    let chunks = map vec_items c.in_ok-texts.texts.items in
    let compared : bytes_eq (root_text t) (root_text before) ≡ c.eq-stays.result =
    ap (λ (text : List ℕ). bytes_eq text (root_text before)) (sym c.in_ok-root.ensures.text)
    ∙ ap (bytes_eq c.in_ok-root.root.items) (sym c.in_ok-root_text.ensures.text) ∙ sym c.eq-stays.ensures in
    elim c.if-not-stays.branch [
      | then-not-stays+in_ok-push w ↦
          let grown = ap (map vec_items) w.in_ok-push.ensures.items ∙ map-append vec_items c.in_ok-texts.texts.items (c.in_ok-root.root ∷ []) ∙ ap (λ (text : List ℕ). chunks ++ text ∷ []) c.in_ok-root.ensures.text in
          rw w.texts-is (root_new before t chunks (map vec_items w.push.new.self.items) c.in_ok-texts.ensures (compared ∙ w.if-not-stays.true) grown)
      | else-not-stays w ↦ rw w.texts-is (root_stays before t chunks c.in_ok-texts.ensures (compared ∙ w.if-not-stays.false))
    ]
