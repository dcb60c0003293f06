-- Over each dialogue the clients and the server are in step.
use Rattle.std.proofs.Common.{◌≡◌, ℕ, List, [], ◌∷◌, Option, Some, None, refl, sym, subst}
use Rattle.std.proofs.lemmas.List.Elements.{All-nil}
use Rattle.layout.specs.Types.{Key}
use Rattle.version_order.specs.Structure.{Structure}
use Rattle.update_cert.specs.Cert.{Cert}
use Rattle.pending_list.specs.declared.signed.Signed.{Signed}
use Rattle.reply_rules.specs.Lists.{Lists}
use Rattle.consistency_server.specs.State.{pending_after}
use Rattle.consistency_server.specs.History.{events}
use Rattle.honest_history.specs.Honest.{Naming}
use Rattle.honest_history.proofs.Lines.{each_line}
use Rattle.honest_dialogues.specs.Dialogue.{Accepts, Act, Commits, Declared, Declares, Declined, Ends, Forgets, Hears, HearsDeclined, Idle, IsDialogue, IsNaming, MayMove, Move, Reopens, Resigns, Sealed, Stage, Updates, calls, stage_of, views}
use Rattle.honest_dialogues.specs.OneLine.{AreUnbroken, IsOneLine}
use Rattle.honest_dialogues.specs.GoingOn.{events_of}
use Rattle.honest_dialogues.proofs.Accepting.{accepts}
use Rattle.honest_dialogues.proofs.Calls.{good_commit, good_update}
use Rattle.honest_dialogues.proofs.Moves.{InStep, commits_to, declares, ends, forgets, hears, hears_declined, quiet, resigns, stands_declared, updates}
use Rattle.honest_dialogues.proofs.Earlier.{are_unbroken, committed_then, heard_then}
use Rattle.honest_dialogues.proofs.Stages.{StandsAt}

module _ (pinned : Key) (naming : Naming) (is : IsNaming pinned naming) where
  start : InStep pinned naming []
  unfolding events pending_after
  start =
      record {
        honest = record { first = is.first; bytes = All-nil _; honest = tt };
        stands = λ u. record { last_is = refl; free = refl; signed_is = λ z e. cc };
        over = tt;
        shown = λ z i. absurd i;
        answers = tt;
      }

  -- one move more
  step : (older : List Move) (u : ℕ) → InStep pinned naming older → (stage : Stage) → stage_of u older ≡ stage → (act : Act) (after : Stage) → MayMove pinned naming (calls older) u stage act after → StandsAt pinned naming (events_of pinned older) (views older) u stage
      → InStep pinned naming (record { user = u; act = act; after = after } ∷ older)
  step older u s (Idle last) at Declares (Declared same c None) may i =
      quiet pinned naming is older u Declares (Declared same c None) s refl refl (rw at tt)
      (subst (λ o. StandsAt pinned naming (events_of pinned older) (views older) u (Declared o c None)) (sym may.0) (declares pinned naming is older u last c s i may.1))
  step older u s (Idle (Some z)) at Reopens after may i =
      quiet pinned naming is older u Reopens after s refl refl (rw at tt) (subst (StandsAt pinned naming (events_of pinned older) (views older) u) (sym may) (i.signed_is z refl))
  step older u s (Declared last c heard) at Updates after may d =
      let good = good_update pinned naming (calls older) s.honest u last c heard d in
      subst (λ after. InStep pinned naming (record { user = u; act = Updates; after = after } ∷ older)) (sym may)
      (updates pinned naming is older u Updates last c heard s d refl refl (rw at good))
  step older u s (Declared last c heard) at Hears (Declared same e (Some x)) may d =
      let good = are_unbroken pinned naming (calls older) s.honest u last c heard d in
      let then_is = heard_then pinned naming (calls older) s.honest u last c heard d may.2.payload may.2.answered x may.2.lists in
      subst (λ o. InStep pinned naming (record { user = u; act = Hears; after = Declared o e (Some x) } ∷ older)) (sym may.0)
      (subst (λ e. InStep pinned naming (record { user = u; act = Hears; after = Declared last e (Some x) } ∷ older)) (sym may.1)
      (quiet pinned naming is older u Hears (Declared last c (Some x)) s refl refl (rw at good) (hears pinned naming is (events_of pinned older) u last c heard x d then_is)))
  step older u s (Declared last c heard) at Forgets after may d =
      quiet pinned naming is older u Forgets after s refl refl (rw at tt) (subst (StandsAt pinned naming (events_of pinned older) (views older) u) (sym may) (forgets pinned naming is (events_of pinned older) u last c heard d))
  step older u s (Declared last c heard) at HearsDeclined after may d =
      quiet pinned naming is older u HearsDeclined after s refl refl (rw at tt) (subst (StandsAt pinned naming (events_of pinned older) (views older) u) (sym may.0)
      (hears_declined pinned naming is (calls older) s.honest u last c heard d may.1))
  step older u s (Declined last c) at Resigns (Declared same d None) may i =
      quiet pinned naming is older u Resigns (Declared same d None) s refl refl (rw at tt)
      (subst (λ o. StandsAt pinned naming (events_of pinned older) (views older) u (Declared o d None)) (sym may.0) (resigns pinned naming is (events_of pinned older) u last c d i may.2))
  step older u s (Declined last c) at Forgets after may i =
      quiet pinned naming is older u Forgets after s refl refl (rw at tt) (subst (StandsAt pinned naming (events_of pinned older) (views older) u) (sym may) (stands_declared pinned naming is (events_of pinned older) u last c i))
  step older u s (Declared last c (Some x)) at (Accepts v) (Sealed z) may d = accepts pinned naming is older s u last c x v z d may at
  step older u s (Sealed z) at Commits after may d =
      let good = good_commit pinned naming (calls older) s.honest (views older) u z d in
      subst (λ after. InStep pinned naming (record { user = u; act = Commits; after = after } ∷ older)) (sym may)
      (commits_to pinned naming is older u Commits z s d refl refl (rw at good))
  step older u s (Sealed z) at Ends after may d =
      quiet pinned naming is older u Ends after s refl refl (rw at tt) (subst (StandsAt pinned naming (events_of pinned older) (views older) u) (sym may.0)
      (ends pinned naming is (events_of pinned older) (views older) u z d (committed_then pinned naming (calls older) s.honest (views older) u z d may.1 may.2)))
  step older u s stage at act after may d = absurd may

  pub in_step : (moves : List Move) → IsDialogue pinned naming moves → InStep pinned naming moves
  in_step [] d = start
  in_step (m ∷ older) d =
      let s = in_step older d.1 in
      step older m.user s (stage_of m.user older) refl m.act m.after d.0 (s.stands m.user)

  -- each reply that a user's client may hear breaks no rule
  pub replies_unbroken : (moves : List Move) → IsDialogue pinned naming moves → (u : ℕ) (last : Option (Signed Structure)) (c : Signed Cert) (heard : Option Lists) → stage_of u moves ≡ Declared last c heard → AreUnbroken pinned naming (calls moves) u last c
  replies_unbroken moves d u last c heard at =
      let s = in_step moves d in
      are_unbroken pinned naming (calls moves) s.honest u last c heard (subst (StandsAt pinned naming (events_of pinned moves) (views moves) u) at (s.stands u))

  pub one_line : (moves : List Move) → IsDialogue pinned naming moves → IsOneLine pinned naming moves
  one_line moves d =
      let s = in_step moves d in
      record { answers = s.answers; lines = λ x there. each_line naming pinned (calls moves) s.honest (views moves) s.over x there }
