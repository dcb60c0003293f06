use Rattle.std.proofs.Common.{ap, map, refl, subst}
use Rattle.checked_blocks.specs.CheckedBlocks.{CheckedBlocks, known_blocks}
use Rattle.checked_blocks.proofs.BlockLaws.{takes_none}
use Rattle.reply_check.specs.declared.reaching.Written.{Written}
use Rattle.reply_check.specs.Reached.{IsWritten}
use Rattle.reply_check.specs.Good.{record_over, view_of}
use Rattle.client_verify.specs.Holding.{HoldsMeanwhile}
use Rattle.client_verify.specs.State.{State, Writing}
use Rattle.client_verify.proofs.Holds.{asking_holds}
use Rattle.client_verify.proofs.Steps.{goes_need, ready_is}
use Rattle.client_verify.proofs.client.Client.go.Goals as goal

pub returns-in-Lacks-clause-goes : goal.returns-in-Lacks-clause-goes
returns-in-Lacks-clause-goes g c =
    let old = c.args.self.now in
    let x = c.args.good in
    let wanted = subst (λ (w : Written _). IsWritten (known_blocks old.blocks) (view_of old.pinned x) x.void w) c.in-Lacks.is c.requires.written in
    goes_need _ old c.ask.new.self x c.in-Lacks.asked c.ask.result c.ask.ensures.step c.ask.ensures.state wanted

pub returns-in-Lacks-clause-held : goal.returns-in-Lacks-clause-held
returns-in-Lacks-clause-held g c =
    let old = c.args.self.now in
    let is = c.ask.ensures.state in
    asking_holds old.blocks old.blocks c.ask.new.self (Writing c.args.good c.in-Lacks.asked) (ap (λ (n : State). n.checked) is) (ap (λ (n : State). n.blocks) is) (takes_none old.blocks)

pub returns-in-Parts-clause-goes : goal.returns-in-Parts-clause-goes
returns-in-Parts-clause-goes g c =
    let old = c.args.self.now in
    let x = c.args.good in
    let made = c.in-Parts.made in
    let w = subst (λ (w : Written _). IsWritten (known_blocks old.blocks) (view_of old.pinned x) x.void w) c.in-Parts.is c.requires.written in
    let own = w.0 in
    let groups = w.1 in
    let is = w.2 in
    let new = c.let_blocks_go.new.self in
    (own, groups, made.lost.items, ready_is _ old new new.blocks x x made.handle own.handle made.records.items (map (record_over x.lists.own.plan) groups) made.lost.items c.self.view_is refl is.0 is.1 (rw c.put_in.ensures at c.let_blocks_go.ensures.over), w.3, w.4, is.2)

pub returns-in-Parts-clause-held : goal.returns-in-Parts-clause-held
returns-in-Parts-clause-held g c =
    subst (λ (b : CheckedBlocks). HoldsMeanwhile b c.let_blocks_go.new.self) (ap (λ (s : State). s.blocks) c.self.view_is) c.let_blocks_go.ensures.held
