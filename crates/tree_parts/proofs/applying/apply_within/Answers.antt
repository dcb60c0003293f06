use Rattle.std.proofs.Common.{◌≡◌, ◌+◌, ℕ, List, [], ◌∷◌, length, take, sym, ap, ◌∙◌, refl, subst, arith}
use Rattle.std.proofs.lemmas.List.{length-take, take_all}
use Rattle.std.specs.Int.{w8}
use Rattle.std.specs.Vec.{vec_items}
use Rattle.layout.specs.Laws.{in_range}
use Rattle.update_cert.specs.declared.cert.TheConstants.{MOST_CHANGES}
use Rattle.update_cert.specs.Change.{Change}
use Rattle.layout.specs.Types.{Digest}
use Rattle.update_cert.specs.World.{after, void_from}
use Rattle.update_cert.specs.Reading.{after_read, void_of_read}
use Rattle.tree_parts.specs.Part.{IsPartOf, slot_at}
use Rattle.tree_parts.specs.Asked.{IsAskedFor, Lacks, covers, slot_within}
use Rattle.tree_parts.specs.declared.error.ApplyError.TheVariants as error
use Rattle.tree_parts.specs.Acts.{is_void_of}
use Rattle.tree_parts.proofs.AskedLaws.{all_met, handed_on, lacks_met, met_next}
use Rattle.tree_parts.proofs.TreeLaws.{part_next, voids_next, within_is, within_next, within_none}
use Rattle.update_cert.proofs.Numbers.{take_next, pushed, not_pushed}
use Rattle.tree_parts.proofs.applying.apply_within.Goals.{then-branch+in_ok-push, else-branch}
use Rattle.tree_parts.proofs.applying.apply_within.Goals as goal

pub loop-place-init : goal.loop-place-init
unfolding after void_from
loop-place-init g c =
    record {
      principal = refl;
      stands = refl;
      read = c.requires.read;
      part = λ reads agrees tree actor all is of one. is;
      voids = λ reads agrees tree actor all is of one. c.new-numbers.ensures.items;
      slots = λ reads agrees actor of one i. within_none reads actor c.args.part.table.principal i (slot_at reads c.args.part i) (covers c.args.scope.now i);
      taken = λ actor of one k change digest s lt there made met. absurd (omega (arith, lt));
    }

pub returns-in_err-apply_covered-clause-missing : goal.returns-in_err-apply_covered-clause-missing
returns-in_err-apply_covered-clause-missing g c = λ actor of one.
    let blocks = g.B.Blocks.held c.args.blocks.now in
    let inv = c.loop-place.invariant in
    let cs = c.args.cert.now.changes in
    let e = c.in_err-apply_covered.field-0.0 in
    let missing = c.in_err-apply_covered.ensures.missing actor (of ∙ sym c.user-user.ensures.same) (ap actor.member inv.principal ∙ one) in
    let inside = rw c.changes-change-items.ensures at c.loop-place-test.true in
    let at = rw c.changes-change-items.ensures at c.change-item.is in
    let lacks : Lacks blocks (IsAskedFor blocks c.args.scope.now actor cs c.args.part) e = lacks_met blocks c.args.scope.now actor c.args.part c.loop-place.changed cs c.loop-place.place c.change-item.result e inv.principal inv.stands missing.0 inside at (λ covered reads agrees. within_is (covers c.args.scope.now c.change-item.result.i_number) _ _ _ covered (inv.slots reads agrees actor of one c.change-item.result.i_number)) missing.1 in
    handed_on c.from_residual.result e (Lacks blocks (IsAskedFor blocks c.args.scope.now actor cs c.args.part)) c.from_residual.ensures.1 lacks

pub returns-in_err-push-clause-missing : goal.returns-in_err-push-clause-missing
returns-in_err-push-clause-missing g c = λ actor of one.
    let blocks = g.B.Blocks.held c.args.blocks.now in
    handed_on c.from_residual-in_err-push.result error.Memory (Lacks blocks (IsAskedFor blocks c.args.scope.now actor c.args.cert.now.changes c.args.part)) c.from_residual-in_err-push.ensures.1 tt

pub loop-place-preserved : goal.loop-place-preserved
loop-place-preserved g c =
    let inv = c.loop-place.invariant in
    let blocks = g.B.Blocks.held c.args.blocks.now in
    let first = c.args.part in
    let part = c.loop-place.changed in
    let new = c.apply_covered.new.part in
    let cs = c.args.cert.now.changes in
    let k = c.loop-place.place in
    let change = c.change-item.result in
    let done = c.in_ok-apply_covered.ensures in
    let inside = rw c.changes-change-items.ensures at c.loop-place-test.true in
    let at = rw c.changes-change-items.ensures at c.change-item.is in
    let front = take_next cs k change inside at in
    let long : length (take k cs) ≡ k = length-take k cs ∙ omega (arith, inside) in
    record {
      principal = done.principal ∙ inv.principal;
      stands = done.handle ∙ inv.stands;
      read = done.read;
      part = λ reads agrees tree actor all is of one.
          part_next reads actor (take k cs) (take (k + 1) cs) change new tree front
          (done.part reads agrees (after_read reads actor (take k cs) tree) actor all (inv.part reads agrees tree actor all is of one) (of ∙ sym c.user-user.ensures.same) (ap actor.member inv.principal ∙ one));
      voids = λ reads agrees tree actor all is of one.
          let told = done.void reads agrees (after_read reads actor (take k cs) tree) actor all (inv.part reads agrees tree actor all is of one) (of ∙ sym c.user-user.ensures.same) (ap actor.member inv.principal ∙ one) in
          voids_next reads actor first.table.principal k (take k cs) (take (k + 1) cs) change tree c.loop-place.numbers.items c.if-branch.numbers.items c.in_ok-apply_covered.field-0 front long
          (told ∙ ap (λ (p : ℕ). is_void_of actor p change (after_read reads actor (take k cs) tree)) inv.principal)
          (inv.voids reads agrees tree actor all is of one)
          (elim c.if-branch.branch [
            | then-branch+in_ok-push w ↦ pushed c.loop-place.numbers.items c.if-branch.numbers.items (k + 1) c.in_ok-apply_covered.field-0 w.if-branch.true (ap vec_items w.numbers-is ∙ w.in_ok-push.ensures.items)
            | else-branch w ↦ not_pushed c.loop-place.numbers.items c.if-branch.numbers.items (k + 1) c.in_ok-apply_covered.field-0 w.if-branch.false (ap vec_items w.numbers-is)
          ]);
      slots = λ reads agrees actor of one i.
          let p = first.table.principal in
          let old = slot_at reads part i in
          let more = done.slots reads agrees actor (of ∙ sym c.user-user.ensures.same) (ap actor.member inv.principal ∙ one) i ∙ ap (λ (q : ℕ). slot_within c.args.scope.now reads actor q i (change ∷ []) old) inv.principal in
          within_next reads actor p i (take k cs) (take (k + 1) cs) change (slot_at reads first i) old (slot_at reads new i) (covers c.args.scope.now i) front (inv.slots reads agrees actor of one i) more;
      taken = λ actor of one.
          met_next blocks c.args.scope.now actor first part cs k change inv.principal inv.stands inside at (λ covered reads agrees. within_is (covers c.args.scope.now change.i_number) _ _ _ covered (inv.slots reads agrees actor of one change.i_number))
          (done.taken actor (of ∙ sym c.user-user.ensures.same) (ap actor.member inv.principal ∙ one))
          (inv.taken actor of one);
    }

pub returns-clause-part : goal.returns-clause-part
returns-clause-part g c = λ reads agrees tree actor all is of one.
    let cs = c.args.cert.now.changes in
    let past = rw c.changes-change-items.ensures at c.loop-place-test.false in
    subst (λ (xs : List (Change Digest)). IsPartOf reads c.loop-place.changed (after_read reads actor xs tree)) (take_all c.loop-place.place cs past) (c.loop-place.invariant.part reads agrees tree actor all is of one)

pub returns-clause-voids : goal.returns-clause-voids
returns-clause-voids g c = λ reads agrees tree actor all is of one.
    let cs = c.args.cert.now.changes in
    let past = rw c.changes-change-items.ensures at c.loop-place-test.false in
    c.of.ensures
    ∙ subst (λ (xs : List (Change Digest)). c.loop-place.numbers.items ≡ void_of_read reads actor c.args.part.table.principal xs tree) (take_all c.loop-place.place cs past) (c.loop-place.invariant.voids reads agrees tree actor all is of one)

pub returns-clause-slots : goal.returns-clause-slots
returns-clause-slots g c = λ reads agrees actor of one i.
    let cs = c.args.cert.now.changes in
    let past = rw c.changes-change-items.ensures at c.loop-place-test.false in
    subst (λ (xs : List (Change Digest)). slot_at reads c.loop-place.changed i ≡ slot_within c.args.scope.now reads actor c.args.part.table.principal i xs (slot_at reads c.args.part i)) (take_all c.loop-place.place cs past) (c.loop-place.invariant.slots reads agrees actor of one i)

pub returns-clause-taken : goal.returns-clause-taken
returns-clause-taken g c = λ actor of one.
    let past = rw c.changes-change-items.ensures at c.loop-place-test.false in
    all_met (g.B.Blocks.held c.args.blocks.now) c.args.scope.now actor c.args.cert.now.changes c.args.part c.loop-place.place past (c.loop-place.invariant.taken actor of one)

pub returns-clause-principal : goal.returns-clause-principal
returns-clause-principal g c = c.loop-place.invariant.principal

pub returns-clause-handle : goal.returns-clause-handle
returns-clause-handle g c = c.loop-place.invariant.stands

pub returns-clause-read : goal.returns-clause-read
returns-clause-read g c = c.loop-place.invariant.read

pub apply_covered-requires : goal.apply_covered-requires
apply_covered-requires g c = record { read = c.loop-place.invariant.read }

-- ---- there are at most 16 changes

pub overflow_cast-place : goal.overflow_cast-place
overflow_cast-place g c =
    let few = in_range w8 0 MOST_CHANGES (length c.args.cert.now.changes) c.user-user.ensures.fits.1.1.1.0 in
    let inside = rw c.changes-change-items.ensures at c.loop-place-test.true in
    omega (arith, few.1, inside)

pub overflow_add-place : goal.overflow_add-place
overflow_add-place g c =
    let few = in_range w8 0 MOST_CHANGES (length c.args.cert.now.changes) c.user-user.ensures.fits.1.1.1.0 in
    let inside = rw c.changes-change-items.ensures at c.loop-place-test.true in
    omega (arith, few.1, inside)
