use Rattle.std.proofs.Common.{◌≡◌, subst, ◌∙◌}
use Rattle.std.specs.Prelude.{IsSomeAnd}
use Rattle.layout.specs.Types.{Key}
use Rattle.reply_rules.specs.Lists.{lists_of}
use Rattle.reply_check.specs.FirstBroken.{view_over}
use Rattle.reply_check.specs.Reached.{IsWritten}
use Rattle.reply_check.proofs.ReplyReached.{reply_breaks, reply_goes, reply_lacks}
use Rattle.reply_check.proofs.reaching.reach.Goals as goal

pub returns-in-Err : goal.returns-in-Err
returns-in-Err g c =
    let held = g.B.Blocks.held c.args.blocks.now in
    let same : c.as_bytes-key.result.now ≡ c.args.known.now.pinned = c.as_bytes-key.ensures.same ∙ c.pinned-pinned.ensures in
    reply_lacks (lists_of c.args.reply.now) held c.as_bytes-key.result.now c.args.known.now.pinned c.structures.result.now c.in-Err.error c.in_ok-wanted-in-Err.field-0 same c.structures.ensures c.in_ok-wanted-in-Err.ensures c.in-Err.ensures.missing

pub returns-in-Some : goal.returns-in-Some
returns-in-Some g c =
    let held = g.B.Blocks.held c.args.blocks.now in
    let same : c.as_bytes-key.result.now ≡ c.args.known.now.pinned = c.as_bytes-key.ensures.same ∙ c.pinned-pinned.ensures in
    let table = c.in-Ok.table in
    reply_breaks (lists_of c.args.reply.now) held c.as_bytes-key.result.now c.args.known.now.pinned table.table table.voids c.structures.result.now c.split.result.1.now c.split.result.0.now c.in_ok-rule.field-0 c.in-Some.rule
    same c.structures.ensures c.split.ensures c.in-Ok.ensures.table c.in_ok-rule.ensures c.in-Some.is

pub returns : goal.returns
returns g c =
    let held = g.B.Blocks.held c.args.blocks.now in
    let same : c.as_bytes-key.result.now ≡ c.args.known.now.pinned = c.as_bytes-key.ensures.same ∙ c.pinned-pinned.ensures in
    let table = c.in-Ok.table in
    let written = subst (λ (k : Key). IsSomeAnd (lists_of c.args.reply.now) (λ x. IsWritten held (view_over k table.table x) table.voids c.in_ok-written.written)) c.pinned-pinned.ensures c.in_ok-written.ensures in
    reply_goes (lists_of c.args.reply.now) c.in_ok-written.written held c.as_bytes-key.result.now c.args.known.now.pinned table.table table.voids c.structures.result.now c.split.result.1.now c.split.result.0.now c.in_ok-rule.field-0
    same c.structures.ensures c.split.ensures c.in-Ok.ensures.table c.in-Ok.ensures.only c.in_ok-rule.ensures c.in_default.is written
