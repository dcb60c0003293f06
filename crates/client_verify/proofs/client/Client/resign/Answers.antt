use Rattle.std.proofs.Common.{ap, refl, subst, sym, ◌∙◌}
use Rattle.std.proofs.lemmas.Result.{on_err_weaker, on_ok_weaker}
use Rattle.layout.specs.Types.{Bytes}
use Rattle.leaf_ledger.specs.Ledger.{IsLeastFree, LeafNumber}
use Rattle.client_journal.specs.Records.{unsigned}
use Rattle.client_releases.specs.declared.error.ClientError.TheVariants as error
use Rattle.client_releases.specs.declared.phase.Phase.TheVariants as phase
use Rattle.client_releases.specs.Releasing.{AnyMoment, IsTried, OneHasRisen, OthersStay, cert_record, ledger_at, under}
use Rattle.client_releases.specs.Told.{HasKey, IsKeyUsedUp, Released, sent}
use Rattle.client_verify.specs.Progress.{accepted_of, checked_of}
use Rattle.client_verify.specs.State.{State, released, resigned_text}
use Rattle.client_verify.proofs.Releasing.{again_failed, at_device, but_device, err_at, kept_signer, never_else, no_full, none_used, only_device_again, own_after_again, refused_moments, refused_tried, seen, signed_again, stands_in}
use Rattle.client_verify.proofs.client.Client.resign.Goals as goal

-- ---- no leaf, or no memory

pub returns-then-not-has_free_leaf-clause-any_moment : goal.returns-then-not-has_free_leaf-clause-any_moment
returns-then-not-has_free_leaf-clause-any_moment g c leaf least =
    let s = c.args.self.now in
    let r = c.self.inside.releases in
    let stands = stands_in r phase.Declared c.type_invariant.ensures (ap (λ (q : State). q.phase) c.self.view_is ∙ c.requires.declared) (λ two. cc two) in
    let has = subst (λ (o : Released). HasKey c.args.key o) (sym (ap released c.self.view_is)) c.requires.key in
    refused_moments c.args.key r s s (ap released c.self.view_is) has stands refl (λ k. cert_record (resigned_text s c.args.key k)) leaf

pub returns-then-not-has_free_leaf-clause-tried : goal.returns-then-not-has_free_leaf-clause-tried
returns-then-not-has_free_leaf-clause-tried g c = refused_tried c.args.key c.args.self.now c.args.self.now refl (λ k. cert_record (resigned_text c.args.self.now c.args.key k))

pub returns-then-not-has_free_leaf-clause-others : goal.returns-then-not-has_free_leaf-clause-others
returns-then-not-has_free_leaf-clause-others g c = none_used c.args.key c.args.self.now c.args.self.now refl

pub returns-then-not-has_free_leaf-clause-no_leaf : goal.returns-then-not-has_free_leaf-clause-no_leaf
returns-then-not-has_free_leaf-clause-no_leaf g c =
    let full = subst (λ (o : Released). IsKeyUsedUp c.args.key o) (ap released c.self.view_is) (c.has_free_leaf.ensures.0 c.if-not-has_free_leaf.true) in
    (λ is. full, λ used. refl)

pub returns-in-Err-clause-any_moment : goal.returns-in-Err-clause-any_moment
returns-in-Err-clause-any_moment g c leaf least =
    let s = c.args.self.now in
    let r = c.self.inside.releases in
    let stands = stands_in r phase.Declared c.type_invariant.ensures (ap (λ (q : State). q.phase) c.self.view_is ∙ c.requires.declared) (λ two. cc two) in
    let has = subst (λ (o : Released). HasKey c.args.key o) (sym (ap released c.self.view_is)) c.requires.key in
    refused_moments c.args.key r s c.unsigned.new.self (ap released c.self.view_is) has stands c.unsigned.ensures.same (λ k. cert_record (resigned_text s c.args.key k)) leaf

pub returns-in-Err-clause-tried : goal.returns-in-Err-clause-tried
returns-in-Err-clause-tried g c = refused_tried c.args.key c.args.self.now c.unsigned.new.self c.unsigned.ensures.same (λ k. cert_record (resigned_text c.args.self.now c.args.key k))

pub returns-in-Err-clause-others : goal.returns-in-Err-clause-others
returns-in-Err-clause-others g c = none_used c.args.key c.args.self.now c.unsigned.new.self c.unsigned.ensures.same

pub returns-in-Err-clause-no_leaf : goal.returns-in-Err-clause-no_leaf
returns-in-Err-clause-no_leaf g c = (
  λ is. absurd (cc is),
  λ used. absurd (no_full c.args.key c.self.inside.releases (released c.args.self.now) c.has_free_leaf.result (ap released c.self.view_is) c.has_free_leaf.ensures c.if-not-has_free_leaf.false used),
)

-- ---- signed once more

pub key-requires : goal.key-requires
key-requires g c = subst (λ (o : Released). HasKey c.args.key o) (sym (ap released (c.self-2.view_is ∙ c.unsigned.ensures.same))) c.requires.key

pub has_free_leaf-requires-clause-key : goal.has_free_leaf-requires-clause-key
has_free_leaf-requires-clause-key g c = subst (λ (o : Released). HasKey c.args.key o) (sym (ap released c.self.view_is)) c.requires.key

pub resign-requires-clause-key : goal.resign-requires-clause-key
resign-requires-clause-key g c = subst (λ (o : Released). HasKey c.args.key o) (sym (ap released (c.self-2.view_is ∙ c.unsigned.ensures.same))) c.requires.key

pub resign-requires-clause-free : goal.resign-requires-clause-free
resign-requires-clause-free g c = no_full c.args.key c.self.inside.releases c.self-2.inside.releases c.has_free_leaf.result (ap released c.self.view_is ∙ sym (ap released (c.self-2.view_is ∙ c.unsigned.ensures.same))) c.has_free_leaf.ensures c.if-not-has_free_leaf.false

pub resign-requires-clause-same : goal.resign-requires-clause-same
resign-requires-clause-same g c = c.in-Ok.ensures.text ∙ ap (λ (q : State). unsigned q.text) (sym (c.self-2.view_is ∙ c.unsigned.ensures.same))

pub invariant_of-self : goal.invariant_of-self
invariant_of-self g c =
    let r = c.self-2.inside.releases in
    let n = c.args.key in
    let new = c.resign.new.self in
    let some : IsKeyUsedUp n r → ⊥ = no_full n c.self.inside.releases r c.has_free_leaf.result (ap released c.self.view_is ∙ sym (ap released (c.self-2.view_is ∙ c.unsigned.ensures.same))) c.has_free_leaf.ensures c.if-not-has_free_leaf.false in
    rw c.put_in.ensures (
      record { of_checked = tt; of_accepted = tt },
      kept_signer c.self-2.inside.signer c.if_same-self-inside.result n r new c.if_same-self-inside.ensures c.self-2.invariant.1
          (own_after_again c.resign.result n r new c.as_bytes-size.result.now c.in-Ok.unsigned (c.as_bytes-size.ensures.same ∙ c.key.ensures) c.as_bytes-size.ensures.size some c.resign.ensures.resigned c.resign.ensures.err),
    )

pub returns-clause-resigned : goal.returns-clause-resigned
returns-clause-resigned g c =
    let s = c.args.self.now in
    let r = c.self-2.inside.releases in
    let new = c.resign.new.self in
    rw c.put_in.ensures (on_ok_weaker c.resign.result
    (λ d. signed_again r new s c.self-2.inside.pinned c.self-2.inside.blocks (checked_of c.self-2.inside.progress) (accepted_of c.self-2.inside.progress) c.self-2.inside.view (c.self-2.view_is ∙ c.unsigned.ensures.same) c.args.key c.in-Ok.unsigned d.0 c.in-Ok.ensures.text d.1 d.2) c.resign.ensures.resigned)

pub returns-clause-any_moment : goal.returns-clause-any_moment
returns-clause-any_moment g c =
    let s = c.args.self.now in
    let r = c.self-2.inside.releases in
    let new = c.resign.new.self in
    let n = c.args.key in
    seen (λ (o : Released) (t : Bytes). (leaf : LeafNumber) → IsLeastFree (ledger_at n o.devices).file.now.text leaf → AnyMoment leaf (cert_record (sent o n leaf t)) (under n o.devices) (under n new.devices))
    r (released s) c.in-Ok.unsigned (unsigned s.text) (ap released (c.self-2.view_is ∙ c.unsigned.ensures.same)) c.in-Ok.ensures.text c.resign.ensures.any_moment

pub returns-clause-tried : goal.returns-clause-tried
returns-clause-tried g c =
    let s = c.args.self.now in
    let r = c.self-2.inside.releases in
    let new = c.resign.new.self in
    let n = c.args.key in
    on_err_weaker c.resign.result
    (seen (λ (o : Released) (t : Bytes). IsTried (λ leaf. cert_record (sent o n leaf t)) (under n o.devices) (under n new.devices)) r (released s) c.in-Ok.unsigned (unsigned s.text) (ap released (c.self-2.view_is ∙ c.unsigned.ensures.same)) c.in-Ok.ensures.text) c.resign.ensures.tried

pub returns-clause-no_leaf : goal.returns-clause-no_leaf
returns-clause-no_leaf g c = (
  λ is. absurd (never_else _ c.resign.result error.NoLeaf (λ two. cc two) c.resign.ensures.device is),
  λ used. absurd (no_full c.args.key c.self.inside.releases (released c.args.self.now) c.has_free_leaf.result (ap released c.self.view_is) c.has_free_leaf.ensures c.if-not-has_free_leaf.false used),
)

pub returns-clause-rose : goal.returns-clause-rose
returns-clause-rose g c fault =
    let n = c.args.key in
    let new = c.resign.new.self in
    subst (λ (o : Released). OneHasRisen (under n o.devices) (under n new.devices)) (ap released (c.self-2.view_is ∙ c.unsigned.ensures.same)) (at_device _ c.resign.result c.resign.ensures.device fault)

pub returns-clause-others : goal.returns-clause-others
returns-clause-others g c =
    let n = c.args.key in
    let new = c.resign.new.self in
    subst (λ (o : Released). OthersStay n o.devices new.devices) (ap released (c.self-2.view_is ∙ c.unsigned.ensures.same)) c.resign.ensures.others

pub returns-clause-fails : goal.returns-clause-fails
returns-clause-fails g c fault =
    let s = c.args.self.now in
    let r = c.self-2.inside.releases in
    let new = c.resign.new.self in
    rw c.put_in.ensures (again_failed r new s c.self-2.inside.pinned c.self-2.inside.blocks (checked_of c.self-2.inside.progress) (accepted_of c.self-2.inside.progress) c.self-2.inside.view (c.self-2.view_is ∙ c.unsigned.ensures.same) (err_at c.resign.result error.Device c.resign.ensures.err fault))

pub returns-clause-only : goal.returns-clause-only
returns-clause-only g c = only_device_again _ c.resign.result c.resign.ensures.device

pub returns-clause-err : goal.returns-clause-err
returns-clause-err g c = but_device _ _ c.resign.result c.resign.ensures.device
