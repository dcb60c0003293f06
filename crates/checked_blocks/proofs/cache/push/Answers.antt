use Rattle.std.proofs.Common.{sym, ◌∙◌}
use Rattle.checked_blocks.proofs.MoveLaws.{with_last-there, with_last-new}
use Rattle.checked_blocks.proofs.cache.push.Goals as goal

pub returns-then-contains_key-clause-held : goal.returns-then-contains_key-clause-held
returns-then-contains_key-clause-held g c =
    with_last-there c.args.held.now.entries c.args.digest c.args.text (sym c.contains_key.ensures ∙ c.if-contains_key.true)

pub returns-clause-held : goal.returns-clause-held
returns-clause-held g c =
    with_last-new c.args.held.now.entries c.insert.new.self.entries c.args.digest c.args.text (sym c.contains_key.ensures ∙ c.if-contains_key.false) c.in-Ok.ensures.entries
