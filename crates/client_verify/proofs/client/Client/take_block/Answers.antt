use Rattle.std.proofs.Common.{◌≡◌, Option, Some, None, ap, refl, subst, sym, ◌∙◌}
use Rattle.std.specs.Option.{option_copied}
use Rattle.std.proofs.lemmas.Result.{IfOk-from_err, IfOk-weaker}
use Rattle.reply_rules.specs.declared.rule.Rule.{Rule}
use Rattle.reply_rules.specs.declared.rule.Rule.TheVariants as rule
use Rattle.checked_blocks.specs.CheckedBlocks.{known_blocks}
use Rattle.client_verify.specs.Progress.{checked_of}
use Rattle.client_verify.specs.State.{State, asked_of, blocks_with}
use Rattle.reply_check.specs.AskedBlock.{block_breaks}
use Rattle.reply_check.specs.FirstBroken.{IsFirstBroken}
use Rattle.client_verify.specs.Judged.{IsReading, IsWriting, unjudged}
use Rattle.client_verify.proofs.Holds.{held_from}
use Rattle.client_verify.proofs.Steps.{handed_goes, if_some, some_one}
use Rattle.client_verify.proofs.Handing.{breaks_after, breaks_before, handed_reads, if_at}
use Rattle.client_verify.proofs.client.Client.take_block.Goals as goal

pub returns-in_err-text-clause-handed : goal.returns-in_err-text-clause-handed
returns-in_err-text-clause-handed g c =
    let old = c.args.self.now in
    let k = c.in-Checking.checked in
    let inner : checked_of c.self.inside.progress ≡ Some k = ap checked_of c.in-Checking.is in
    let there : old.checked ≡ Some k = ap (λ (s : State). s.checked) (sym c.self.view_is) ∙ inner in
    if_some old.checked k _ there (IfOk-from_err c.from_residual.result _ c.from_residual.ensures.0)

pub returns-in_err-text-clause-told : goal.returns-in_err-text-clause-told
returns-in_err-text-clause-told g c =
    let old = c.args.self.now in
    let k = c.in-Checking.checked in
    let inner : checked_of c.self.inside.progress ≡ Some k = ap checked_of c.in-Checking.is in
    let there : old.checked ≡ Some k = ap (λ (s : State). s.checked) (sym c.self.view_is) ∙ inner in
    let ok = λ (is : block_breaks (known_blocks old.blocks) (asked_of k) (option_copied c.args.block) ≡ Some rule.Block). c.in_err-text.ensures.told (breaks_before _ old c.asked-asked.result (asked_of k) (option_copied c.args.block) (Some rule.Block) c.self.view_is c.asked-asked.ensures is) in
    if_some old.checked k _ there (λ is. let h = ok is in absurd cc)

pub returns-in-Err-clause-handed : goal.returns-in-Err-clause-handed
returns-in-Err-clause-handed g c =
    let old = c.args.self.now in
    let k = c.in-Checking.checked in
    let block = option_copied c.args.block in
    let inner : checked_of c.self.inside.progress ≡ Some k = ap checked_of c.in-Checking.is in
    let there : old.checked ≡ Some k = ap (λ (s : State). s.checked) (sym c.self.view_is) ∙ inner in
    let inner_breaks : block_breaks (known_blocks c.self.inside.blocks) c.asked-asked.result block ≡ Some c.in-Err.rule = rw c.in-Err.is at c.in_ok-text.ensures.breaks in
    let breaks = breaks_after _ old c.asked-asked.result (asked_of k) block (Some c.in-Err.rule) c.self.view_is c.asked-asked.ensures inner_breaks in
    if_some old.checked k _ there (subst (λ (o : Option Rule). IsFirstBroken None o (known_blocks (blocks_with old block)) old.pinned (unjudged k) c.in-Err.rule) (sym breaks) refl, refl)

pub returns-in-Err-clause-told : goal.returns-in-Err-clause-told
returns-in-Err-clause-told g c =
    let old = c.args.self.now in
    let k = c.in-Checking.checked in
    let inner : checked_of c.self.inside.progress ≡ Some k = ap checked_of c.in-Checking.is in
    let there : old.checked ≡ Some k = ap (λ (s : State). s.checked) (sym c.self.view_is) ∙ inner in
    if_some old.checked k _ there (λ is. refl)

pub read_on-requires-clause-hashed : goal.read_on-requires-clause-hashed
read_on-requires-clause-hashed g c = rw c.in-Ok.is at c.in_ok-text.ensures.hashed

pub write_on-requires-clause-hashed : goal.write_on-requires-clause-hashed
write_on-requires-clause-hashed g c = rw c.in-Ok.is at c.in_ok-text.ensures.hashed

pub read_on-requires-clause-reading : goal.read_on-requires-clause-reading
read_on-requires-clause-reading g c =
    let old = c.args.self.now in
    let k = c.in-Checking.checked in
    let inner : checked_of c.self.inside.progress ≡ Some k = ap checked_of c.in-Checking.is in
    let there : old.checked ≡ Some k = ap (λ (s : State). s.checked) (sym c.self.view_is) ∙ inner in
    some_one old.checked k IsReading there (c.is_reading-reads.ensures.reading c.if-reads.true)

pub write_on-requires-clause-writing : goal.write_on-requires-clause-writing
write_on-requires-clause-writing g c =
    let old = c.args.self.now in
    let k = c.in-Checking.checked in
    let inner : checked_of c.self.inside.progress ≡ Some k = ap checked_of c.in-Checking.is in
    let there : old.checked ≡ Some k = ap (λ (s : State). s.checked) (sym c.self.view_is) ∙ inner in
    some_one old.checked k IsWriting there (c.is_reading-reads.ensures.writing c.if-reads.false)

pub returns-then-reads-clause-handed : goal.returns-then-reads-clause-handed
returns-then-reads-clause-handed g c =
    let old = c.args.self.now in
    let k = c.in-Checking.checked in
    let block = option_copied c.args.block in
    let text = c.in-Ok.text.now in
    let inner : checked_of c.self.inside.progress ≡ Some k = ap checked_of c.in-Checking.is in
    let there : old.checked ≡ Some k = ap (λ (s : State). s.checked) (sym c.self.view_is) ∙ inner in
    let inner_none : block_breaks (known_blocks c.self.inside.blocks) c.asked-asked.result block ≡ None = rw c.in-Ok.is at c.in_ok-text.ensures.breaks in
    let none = breaks_after _ old c.asked-asked.result (asked_of k) block None c.self.view_is c.asked-asked.ensures inner_none in
    let is : block ≡ Some text = rw c.in-Ok.is at c.in_ok-text.ensures.kept in
    if_some old.checked k _ there (IfOk-weaker c.read_on.result _ _ (λ st reads. handed_reads old c.read_on.new.self k block text st none is reads) (if_at old.checked k _ there c.read_on.ensures.goes))

pub returns-else-reads-clause-handed : goal.returns-else-reads-clause-handed
returns-else-reads-clause-handed g c =
    let old = c.args.self.now in
    let k = c.in-Checking.checked in
    let block = option_copied c.args.block in
    let text = c.in-Ok.text.now in
    let inner : checked_of c.self.inside.progress ≡ Some k = ap checked_of c.in-Checking.is in
    let there : old.checked ≡ Some k = ap (λ (s : State). s.checked) (sym c.self.view_is) ∙ inner in
    let inner_none : block_breaks (known_blocks c.self.inside.blocks) c.asked-asked.result block ≡ None = rw c.in-Ok.is at c.in_ok-text.ensures.breaks in
    let none = breaks_after _ old c.asked-asked.result (asked_of k) block None c.self.view_is c.asked-asked.ensures inner_none in
    let is : block ≡ Some text = rw c.in-Ok.is at c.in_ok-text.ensures.kept in
    if_some old.checked k _ there (IfOk-weaker c.write_on.result _ _ (λ st goes. handed_goes old k block text st c.write_on.new.self none is goes) (if_at old.checked k _ there c.write_on.ensures.goes))

pub returns-then-reads-clause-told : goal.returns-then-reads-clause-told
returns-then-reads-clause-told g c =
    let old = c.args.self.now in
    let k = c.in-Checking.checked in
    let block = option_copied c.args.block in
    let inner : checked_of c.self.inside.progress ≡ Some k = ap checked_of c.in-Checking.is in
    let there : old.checked ≡ Some k = ap (λ (s : State). s.checked) (sym c.self.view_is) ∙ inner in
    let inner_none : block_breaks (known_blocks c.self.inside.blocks) c.asked-asked.result block ≡ None = rw c.in-Ok.is at c.in_ok-text.ensures.breaks in
    let none = breaks_after _ old c.asked-asked.result (asked_of k) block None c.self.view_is c.asked-asked.ensures inner_none in
    if_some old.checked k _ there (λ is. absurd (cc (none, is)))

pub returns-else-reads-clause-told : goal.returns-else-reads-clause-told
returns-else-reads-clause-told g c =
    let old = c.args.self.now in
    let k = c.in-Checking.checked in
    let block = option_copied c.args.block in
    let inner : checked_of c.self.inside.progress ≡ Some k = ap checked_of c.in-Checking.is in
    let there : old.checked ≡ Some k = ap (λ (s : State). s.checked) (sym c.self.view_is) ∙ inner in
    let inner_none : block_breaks (known_blocks c.self.inside.blocks) c.asked-asked.result block ≡ None = rw c.in-Ok.is at c.in_ok-text.ensures.breaks in
    let none = breaks_after _ old c.asked-asked.result (asked_of k) block None c.self.view_is c.asked-asked.ensures inner_none in
    if_some old.checked k _ there (λ is. absurd (cc (none, is)))

pub returns-then-reads-clause-held : goal.returns-then-reads-clause-held
returns-then-reads-clause-held g c =
    let old = c.args.self.now in
    let is : option_copied c.args.block ≡ Some c.in-Ok.text.now = rw c.in-Ok.is at c.in_ok-text.ensures.kept in
    held_from old c.read_on.new.self (Some c.in-Ok.text.now) (option_copied c.args.block) c.read_on.result is c.read_on.ensures.held

pub returns-else-reads-clause-held : goal.returns-else-reads-clause-held
returns-else-reads-clause-held g c =
    let old = c.args.self.now in
    let is : option_copied c.args.block ≡ Some c.in-Ok.text.now = rw c.in-Ok.is at c.in_ok-text.ensures.kept in
    held_from old c.write_on.new.self (Some c.in-Ok.text.now) (option_copied c.args.block) c.write_on.result is c.write_on.ensures.held
