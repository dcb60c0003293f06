use Rattle.std.proofs.Common.{◌≡◌, List, ℕ, ◌∙◌, ap, subst}
use Rattle.std.proofs.lemmas.Result.{IfOk-weaker}
use Rattle.std.specs.BTreeMap.{get}
use Rattle.std.specs.Cmp.Lexicographic.{slice_cmp}
use Rattle.std.specs.Ordering.{nat_cmp}
use Rattle.layout.specs.Hash.{hash}
use Rattle.block_file.specs.Blocks.{BlockFile, Keeps}
use Rattle.block_file.proofs.Found.{text_kept, none_kept}
use Rattle.block_file.proofs.Options.{some_weaker, none_weaker}
use Rattle.block_file.proofs.blocks.BlockFile.fetch.Goals as goal

pub returns-clause-kept : goal.returns-clause-kept
returns-clause-kept g c =
    let s = c.self.inside in
    let usable = ap (λ (b : BlockFile). b.usable) c.self.view_is ∙ c.requires.usable in
    let look = get (slice_cmp nat_cmp) s.index in
    let file = (g.S.Storage.history s.storage).now.text in
    IfOk-weaker c.find_text.result _ _ (λ found. some_weaker found _ _ (λ text is tells.
    let sound = (c.self.invariant usable).1 tells in
    subst (λ (b : BlockFile). Keeps text.items b.file.now.text) c.self.view_is
    (text_kept file s.end look sound.blocks c.args.wanted.now text.items sound.ends.reaches (is tells sound.blocks sound.ends.reaches sound.index)))) c.find_text.ensures.some

pub returns-clause-absent : goal.returns-clause-absent
returns-clause-absent g c =
    let s = c.self.inside in
    let usable = ap (λ (b : BlockFile). b.usable) c.self.view_is ∙ c.requires.usable in
    let look = get (slice_cmp nat_cmp) s.index in
    let file = (g.S.Storage.history s.storage).now.text in
    IfOk-weaker c.find_text.result _ _ (λ found. none_weaker found _ _ (λ none tells.
    let sound = (c.self.invariant usable).1 tells in
    subst (λ (b : BlockFile). (text : List ℕ) → hash text ≡ c.args.wanted.now → Keeps text b.file.now.text → ⊥) c.self.view_is
    (none_kept file s.end sound.blocks c.args.wanted.now sound.ends (none tells sound.blocks sound.ends.reaches sound.index)))) c.find_text.ensures.none
