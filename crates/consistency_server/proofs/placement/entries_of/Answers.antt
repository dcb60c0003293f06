-- The entries of the users so far, and one more where an operation of the next user is pending.
use Rattle.std.proofs.Common.{◌≡◌, ◌∷◌, ◌++◌, [], ◌<◌, Some, sym, ap, subst, ◌∙◌, arith}
use Rattle.std.specs.List.{All}
use Rattle.std.specs.Option.{option_copied}
use Rattle.consistency_server.specs.State.{pending_of}
use Rattle.consistency_server.proofs.Placing.{found_user, entries_none, entries_below, entry_added, entry_missing}
use Rattle.consistency_server.proofs.placement.entries_of.Goals.{in-Some-pending_of+in_ok-push, in_default-pending_of}
use Rattle.consistency_server.proofs.placement.entries_of.Goals as goal

pub loop-number-init : goal.loop-number-init
loop-number-init g c = c.new-entries.ensures ∙ sym (entries_none c.args.pending.now)

pub push-requires : goal.push-requires
push-requires g c =
    let ws = c.args.pending.now in
    let n = c.loop-number.number in
    let is : pending_of c.in-Some.user ws ≡ Some c.in-Some-pending_of.placement.now = sym c.pending_of.ensures ∙ ap option_copied c.in-Some-pending_of.is in
    let own : c.entry.result.user ≡ n = ap (λ e. e.user) c.entry.ensures ∙ found_user ws c.in-Some.user c.in-Some-pending_of.placement.now is ∙ c.in-Some.ensures in
    let below : All (λ e. e.user < n) c.loop-number.entries = subst (All (λ e. e.user < n)) (sym c.loop-number.invariant) (entries_below ws n) in
    record { above = λ k d lt. omega (arith, below k d lt, own) }

pub loop-number-preserved : goal.loop-number-preserved
loop-number-preserved g c =
    let ws = c.args.pending.now in
    let n = c.loop-number.number in
    let found : pending_of n ws ≡ option_copied c.pending_of.result = ap (λ u. pending_of u ws) (sym c.in-Some.ensures) ∙ sym c.pending_of.ensures in
    elim c.match-pending_of.branch [
      | in-Some-pending_of+in_ok-push w ↦
          w.entries-is ∙ w.in_ok-push.ensures.ok ∙ ap (λ e. c.loop-number.entries ++ e ∷ []) w.entry.ensures
          ∙ entry_added ws n w.in-Some-pending_of.placement.now c.loop-number.entries (found ∙ ap option_copied w.in-Some-pending_of.is) c.loop-number.invariant
      | in_default-pending_of w ↦
          w.entries-is ∙ entry_missing ws n c.loop-number.entries (found ∙ ap option_copied w.in_default-pending_of.is) c.loop-number.invariant
    ]
