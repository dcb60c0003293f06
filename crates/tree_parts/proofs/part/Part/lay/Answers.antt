use Rattle.std.proofs.Common.{◌≡◌, ℕ, List, Some, sym, ap, subst, ◌∙◌, map}
use Rattle.std.specs.Option.{option_map}
use Rattle.std.specs.Vec.{vec_items}
use Rattle.directory.specs.Directory.{Entry}
use Rattle.itable.specs.ITable.{IsTable, digest_at}
use Rattle.tree_parts.specs.Part.{Changed, Open, Part, IsPart, slot_here}
use Rattle.tree_parts.specs.Slots.{IsReadBack, changed_texts, slot_digest}
use Rattle.tree_parts.proofs.part.Part.lay.Given as given
use Rattle.tree_parts.proofs.part.Part.lay.Goals as goal

-- what is laid is the part
the_part : (g : given.Over) (c : goal.After-deref g) → record { before = c.self.inside.before; table = c.self.inside.table; opened = c.deref.result.now } ≡ c.args.self
the_part g c = ap (λ (os : List Open). record { before = c.self.inside.before; table = c.self.inside.table; opened = os }) c.deref.ensures.value ∙ c.self.view_is

pub lay_opened-requires-clause-is_part : goal.lay_opened-requires-clause-is_part
lay_opened-requires-clause-is_part g c = subst IsPart (sym (the_part g c)) c.principal-principal.ensures.is_part

pub lay_opened-requires-clause-is_table : goal.lay_opened-requires-clause-is_table
lay_opened-requires-clause-is_table g c = subst (λ (p : Part). IsTable p.table) (sym c.self.view_is) c.principal-principal.ensures.table

-- ---- after the last one

pub returns-clause-digests : goal.returns-clause-digests
returns-clause-digests g c =
    let os = ap (λ (xs : List Open). record { before = c.self.inside.before; table = c.self.inside.table; opened = xs }) c.deref.ensures.value ∙ c.self.view_is in
    subst (λ (p : Part). (i : ℕ) → digest_at c.lay_opened.new.table i ≡ option_map slot_digest (slot_here p i)) os c.in_ok-texts.ensures.digests

pub returns-clause-texts : goal.returns-clause-texts
returns-clause-texts g c =
    let os = ap (λ (xs : List Open). record { before = c.self.inside.before; table = c.self.inside.table; opened = xs }) c.deref.ensures.value ∙ c.self.view_is in
    subst (λ (p : Part). map vec_items c.in_ok-texts.texts.items ≡ changed_texts (g.B.Blocks.held c.args.blocks.now) p.before p.table p.opened) os c.in_ok-texts.ensures.texts

pub returns-clause-read_back : goal.returns-clause-read_back
returns-clause-read_back g c =
    let os = ap (λ (xs : List Open). record { before = c.self.inside.before; table = c.self.inside.table; opened = xs }) c.deref.ensures.value ∙ c.self.view_is in
    subst (λ (p : Part). (i : ℕ) (digest : List ℕ) (entries : List Entry) → slot_here p i ≡ Some (Changed digest entries) → IsReadBack entries) os c.in_ok-texts.ensures.read_back
