use Rattle.std.proofs.Common.{◌≡◌, ◌+◌, ℕ, Bool, false, true, take, drop, sym, ◌∙◌, subst, arith}
use Rattle.std.specs.Str.{bytes_eq}
use Rattle.leaf_ledger.specs.Device.{History}
use Rattle.client_journal.proofs.Turns.{more_same, not_same}
use Rattle.client_journal.proofs.turn.same_part.Goals as goal

-- what was compared on a device that stayed as it was
compared_before : (old new : History) (a b n : ℕ) (answer : Bool) → new ≡ old → answer ≡ bytes_eq (take n (drop a new.now.text)) (take n (drop b new.now.text))
    → bytes_eq (take n (drop a old.now.text)) (take n (drop b old.now.text)) ≡ answer
compared_before old new a b n answer same is = sym (subst (λ (h : History). answer ≡ bytes_eq (take n (drop a h.now.text)) (take n (drop b h.now.text))) same is)

pub returns-then-not-branch-clause-bytes : goal.returns-then-not-branch-clause-bytes
returns-then-not-branch-clause-bytes g c =
    let file = (g.D.Device.history c.args.device.now).now.text in
    let done = c.loop-done.done in
    let count = c.min-count.result in
    let piece = compared_before (g.D.Device.history c.args.device.now) (g.D.Device.history c.loop-done.device) (c.args.a + done) (c.args.b + done) count false c.loop-done.invariant.same (sym c.if-not-branch.true ∙ c.in_ok-same_piece.ensures.bytes) in
    sym (not_same file c.args.a c.args.b done count c.args.size (omega arith) piece)

pub loop-done-preserved : goal.loop-done-preserved
loop-done-preserved g c =
    let file = (g.D.Device.history c.args.device.now).now.text in
    let done = c.loop-done.done in
    let count = c.min-count.result in
    let piece = compared_before (g.D.Device.history c.args.device.now) (g.D.Device.history c.loop-done.device) (c.args.a + done) (c.args.b + done) count true c.loop-done.invariant.same (sym c.if-not-branch.false ∙ c.in_ok-same_piece.ensures.bytes) in
    record {
      same = c.in_ok-same_piece.ensures.same ∙ c.loop-done.invariant.same;
      later = omega (arith, c.in_ok-same_piece.ensures.cause.later);
      within = omega arith;
      so_far = more_same file c.args.a c.args.b done count c.loop-done.invariant.so_far piece;
    }
