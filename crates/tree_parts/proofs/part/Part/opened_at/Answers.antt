use Rattle.std.proofs.Common.{◌≡◌, Some, ap, subst, sym, ◌∙◌}
use Rattle.std.specs.Option.{option_map}
use Rattle.directory.specs.Directory.{Entry}
use Rattle.std.specs.Prelude.{List}
use Rattle.tree_parts.specs.Part.{IsPart, Open, opened_at}
use Rattle.tree_parts.proofs.part.Part.opened_at.Goals as goal

pub returns-in-Ok : goal.returns-in-Ok
returns-in-Ok g c =
    let at = rw c.deref.ensures.value at c.in-Ok.ensures in
    let whole : IsPart c.args.self.now = subst IsPart c.self.view_is c.self.invariant in
    let here = ap (λ (o : Open). o.entries) c.index.ensures in
    let found : opened_at c.args.self.now c.args.i_number ≡ Some c.index.result.now.entries =
    rw (← c.self.view_is) (ap (option_map (λ o. o.entries)) (at.found c.index.result.now) ∙ ap (λ (es : List Entry). Some es) (sym here)) in
    record {
      entries = sym (found ∙ ap (λ (es : List Entry). Some es) (sym c.directory.ensures));
      mapped = whole.mapped c.args.i_number;
    }

pub returns-in-Err : goal.returns-in-Err
returns-in-Err g c =
    let free = rw c.deref.ensures.value at c.in-Err.ensures in
    let whole : IsPart c.args.self.now = subst IsPart c.self.view_is c.self.invariant in
    record {
      entries = sym (rw (← c.self.view_is) (ap (option_map (λ o. o.entries)) free.found));
      mapped = whole.mapped c.args.i_number;
    }
