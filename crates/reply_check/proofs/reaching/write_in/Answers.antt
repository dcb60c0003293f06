use Rattle.std.proofs.Common.{◌<◌, ◌∷◌, length, sym, subst}
use Rattle.version_order.specs.Plan.{Plan}
use Rattle.client_tree.specs.Tree.{IsLost, IsOutcome}
use Rattle.reply_check.specs.Reached.{IsMade}
use Rattle.reply_check.proofs.ReachedLaws.{raised_parts, some_part}
use Rattle.reply_check.proofs.ReplyReached.{first_before, some_length}
use Rattle.reply_check.proofs.reaching.write_in.Goals as goal

pub gather-requires : goal.gather-requires
gather-requires g c =
    let held = g.B.Blocks.held c.args.blocks.now in
    let x = c.args.view.now in
    let parts = c.in-Ok.outcome.parts.items in
    let own = c.remove-own.result in
    let left = c.remove-own.new.self.items in
    let there : 0 < length parts = some_length parts (some_part held x parts c.in-Ok.ensures.outcome) in
    let outcome : IsOutcome held x (own ∷ left) = subst (IsOutcome held x) (first_before parts left own there c.remove-own.ensures.value c.remove-own.ensures.items) c.in-Ok.ensures.outcome in
    raised_parts held x c.args.plan.now own left c.requires.plan c.requires.raised outcome

pub returns-in_ok-gather-in-Ok : goal.returns-in_ok-gather-in-Ok
returns-in_ok-gather-in-Ok g c =
    let held = g.B.Blocks.held c.args.blocks.now in
    let x = c.args.view.now in
    let parts = c.in-Ok.outcome.parts.items in
    let own = c.remove-own.result in
    let left = c.remove-own.new.self.items in
    let made = c.in_ok-gather-in-Ok.field-0 in
    let there : 0 < length parts = some_length parts (some_part held x parts c.in-Ok.ensures.outcome) in
    let outcome : IsOutcome held x (own ∷ left) = subst (IsOutcome held x) (first_before parts left own there c.remove-own.ensures.value c.remove-own.ensures.items) c.in-Ok.ensures.outcome in (
      own,
      left,
      subst (λ (p : Plan). IsMade p own left made) c.requires.plan c.in_ok-gather-in-Ok.ensures.made,
      outcome,
      subst (IsLost held x c.args.voids.now) (sym c.in_ok-gather-in-Ok.ensures.lost) c.in-Ok.ensures.lost,
    )
