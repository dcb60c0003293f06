use Rattle.std.proofs.Common.{◌≡◌, ap, map, subst, sym, ◌∙◌}
use Rattle.std.specs.Vec.{vec_items}
use Rattle.std.proofs.lemmas.Result.{on_err_weaker, on_ok_weaker}
use Rattle.layout.specs.Types.{Bytes}
use Rattle.lms_sign.specs.Keys.{public_key_of}
use Rattle.leaf_ledger.specs.Ledger.{IsLeastFree, LeafNumber}
use Rattle.update_cert.specs.Cert.{cert}
use Rattle.client_releases.specs.declared.error.ClientError.TheVariants as error
use Rattle.client_releases.specs.declared.phase.Phase.TheVariants as phase
use Rattle.client_releases.specs.Releasing.{AnyMoment, IsTried, OneHasRisen, OthersStay, cert_record, ledger_at, under}
use Rattle.client_releases.specs.Told.{HasKey, IsKeyUsedUp, Released, secret_at, sent}
use Rattle.checked_blocks.specs.CheckedBlocks.{CheckedBlocks}
use Rattle.client_verify.specs.Holding.{LaysOut}
use Rattle.client_verify.specs.Progress.{accepted_of, checked_of}
use Rattle.client_verify.specs.State.{State, declared_text, newest_key, next_cert, released}
use Rattle.client_verify.proofs.Releasing.{at_device, begun, begun_failed, but_device, err_at, held, kept_signer, never_else, none_used, ok_either, only_device, own_after, refused_moments, refused_tried, same_error, seen, stands_in}
use Rattle.client_verify.proofs.client.Client.begin.Goals as goal

pub returns-in-Err-clause-any_moment : goal.returns-in-Err-clause-any_moment
returns-in-Err-clause-any_moment g c leaf least =
    let s = c.args.self.now in
    let r = c.self.inside.releases in
    let stands = stands_in r phase.Idle c.type_invariant.ensures (ap (λ (q : State). q.phase) c.self.view_is ∙ c.requires.idle) (λ two. cc two) in
    let has = held c.newest_key-newest.result (newest_key s) r (released s) c.newest_key-newest.ensures.number (ap released c.self.view_is) c.newest_key-newest.ensures.has in
    refused_moments (newest_key s) r s c.prepare.new.self (ap released c.self.view_is) has stands c.in-Err.ensures.err (λ k. cert_record (declared_text s k c.args.changes.now)) leaf

pub returns-in-Err-clause-tried : goal.returns-in-Err-clause-tried
returns-in-Err-clause-tried g c = refused_tried (newest_key c.args.self.now) c.args.self.now c.prepare.new.self c.in-Err.ensures.err (λ k. cert_record (declared_text c.args.self.now k c.args.changes.now))

pub returns-in-Err-clause-others : goal.returns-in-Err-clause-others
returns-in-Err-clause-others g c = none_used (newest_key c.args.self.now) c.args.self.now c.prepare.new.self c.in-Err.ensures.err

pub returns-clause-others : goal.returns-clause-others
returns-clause-others g c =
    let new = c.declare.new.self in
    let is = c.self-2.view_is ∙ c.in-Ok.ensures.over in
    subst (λ (o : Released). OthersStay (newest_key c.args.self.now) o.devices new.devices) (ap released is) (rw c.newest_key-newest.ensures.number at c.declare.ensures.others)

pub returns-in-Err-clause-no_leaf : goal.returns-in-Err-clause-no_leaf
returns-in-Err-clause-no_leaf g c = same_error c.in-Err.error error.NoLeaf _ c.in-Err.ensures.no_leaf

pub returns-in-Err-clause-no_number : goal.returns-in-Err-clause-no_number
returns-in-Err-clause-no_number g c = same_error c.in-Err.error error.NoNumber _ c.in-Err.ensures.no_number

pub key-requires : goal.key-requires
key-requires g c = subst (λ (o : Released). HasKey c.newest_key-newest.result o) (sym (ap released c.self.view_is)) c.newest_key-newest.ensures.has

pub declare-requires-clause-key : goal.declare-requires-clause-key
declare-requires-clause-key g c =
    let is = c.self-2.view_is ∙ c.in-Ok.ensures.over in
    subst (λ (o : Released). HasKey c.newest_key-newest.result o) (sym (ap released is)) c.newest_key-newest.ensures.has

pub declare-requires-clause-free : goal.declare-requires-clause-free
declare-requires-clause-free g c full =
    let is = c.self-2.view_is ∙ c.in-Ok.ensures.over in
    c.in-Ok.ensures.free (subst (λ (o : Released). IsKeyUsedUp (newest_key c.args.self.now) o) (ap released is) (rw c.newest_key-newest.ensures.number at full))

pub declare-requires-clause-own : goal.declare-requires-clause-own
declare-requires-clause-own g c =
    let is = c.self-2.view_is ∙ c.in-Ok.ensures.over in
    (next_cert c.args.self.now c.args.changes.now, c.in-Ok.ensures.text, c.in-Ok.ensures.fits, sym (ap (λ (o : State). o.user) is), sym c.in-Ok.ensures.number)

pub invariant_of-self : goal.invariant_of-self
invariant_of-self g c =
    let s = c.args.self.now in
    let r = c.self-2.inside.releases in
    let n = c.newest_key-newest.result in
    let new = c.declare.new.self in
    let is = c.self-2.view_is ∙ c.in-Ok.ensures.over in
    let same : c.self.inside.releases ≡ r = ap released c.self.view_is ∙ sym (ap released is) in
    let key = c.as_bytes-size.ensures.same ∙ c.key.ensures ∙ ap (λ (o : Released). public_key_of (secret_at n o)) same in
    let some : IsKeyUsedUp n r → ⊥ = λ none. c.in-Ok.ensures.free (subst (λ (o : Released). IsKeyUsedUp (newest_key s) o) (ap released is) (rw c.newest_key-newest.ensures.number at none)) in
    rw c.put_in.ensures (
      record { of_checked = tt; of_accepted = tt },
      kept_signer c.self-2.inside.signer c.if_same-self-inside.result n r new c.if_same-self-inside.ensures c.self-2.invariant.1
          (own_after c.declare.result n r new c.as_bytes-size.result.now c.in-Ok.prepared.0 c.in-Ok.prepared.1 key c.as_bytes-size.ensures.size some c.declare.ensures.declared c.declare.ensures.err),
    )

pub returns-clause-declared : goal.returns-clause-declared
returns-clause-declared g c =
    let s = c.args.self.now in
    let r = c.self-2.inside.releases in
    let new = c.declare.new.self in
    let is = c.self-2.view_is ∙ c.in-Ok.ensures.over in
    rw c.put_in.ensures (on_ok_weaker c.declare.result
    (λ d. begun r new s c.self-2.inside.pinned c.self-2.inside.blocks (checked_of c.self-2.inside.progress) (accepted_of c.self-2.inside.progress) c.self-2.inside.view c.prepare.new.self.blocks is c.args.changes.now c.in-Ok.prepared.1 c.in-Ok.prepared.0 d.0 c.in-Ok.ensures.text c.in-Ok.ensures.number d.1 d.2) (rw c.newest_key-newest.ensures.number at c.declare.ensures.declared))

pub returns-clause-any_moment : goal.returns-clause-any_moment
returns-clause-any_moment g c =
    let s = c.args.self.now in
    let r = c.self-2.inside.releases in
    let new = c.declare.new.self in
    let is = c.self-2.view_is ∙ c.in-Ok.ensures.over in
    seen (λ (o : Released) (t : Bytes). (leaf : LeafNumber) → IsLeastFree (ledger_at (newest_key s) o.devices).file.now.text leaf → AnyMoment leaf (cert_record (sent o (newest_key s) leaf t)) (under (newest_key s) o.devices) (under (newest_key s) new.devices))
    r (released s) c.in-Ok.prepared.1 (cert.spell (next_cert s c.args.changes.now)) (ap released is) c.in-Ok.ensures.text (rw c.newest_key-newest.ensures.number at c.declare.ensures.any_moment)

pub returns-clause-tried : goal.returns-clause-tried
returns-clause-tried g c =
    let s = c.args.self.now in
    let r = c.self-2.inside.releases in
    let new = c.declare.new.self in
    let is = c.self-2.view_is ∙ c.in-Ok.ensures.over in
    on_err_weaker c.declare.result
    (seen (λ (o : Released) (t : Bytes). IsTried (λ leaf. cert_record (sent o (newest_key s) leaf t)) (under (newest_key s) o.devices) (under (newest_key s) new.devices)) r (released s) c.in-Ok.prepared.1 (cert.spell (next_cert s c.args.changes.now)) (ap released is) c.in-Ok.ensures.text) (rw c.newest_key-newest.ensures.number at c.declare.ensures.tried)

pub returns-clause-no_leaf : goal.returns-clause-no_leaf
returns-clause-no_leaf g c = (λ is. absurd (never_else _ c.declare.result error.NoLeaf (λ two. cc two) c.declare.ensures.device is), λ full. absurd (c.in-Ok.ensures.free full))

pub returns-clause-no_number : goal.returns-clause-no_number
returns-clause-no_number g c = (λ is. absurd (never_else _ c.declare.result error.NoNumber (λ two. cc two) c.declare.ensures.device is), λ both. absurd (c.in-Ok.ensures.below both.0))

pub returns-clause-rose : goal.returns-clause-rose
returns-clause-rose g c fault =
    let s = c.args.self.now in
    let r = c.self-2.inside.releases in
    let new = c.declare.new.self in
    let is = c.self-2.view_is ∙ c.in-Ok.ensures.over in
    subst (λ (o : Released). OneHasRisen (under (newest_key s) o.devices) (under (newest_key s) new.devices)) (ap released is) (at_device _ c.declare.result (rw c.newest_key-newest.ensures.number at c.declare.ensures.device) fault)

pub returns-clause-fails : goal.returns-clause-fails
returns-clause-fails g c fault =
    let s = c.args.self.now in
    let r = c.self-2.inside.releases in
    let new = c.declare.new.self in
    let is = c.self-2.view_is ∙ c.in-Ok.ensures.over in
    rw c.put_in.ensures (begun_failed r new s c.self-2.inside.pinned c.self-2.inside.blocks (checked_of c.self-2.inside.progress) (accepted_of c.self-2.inside.progress) c.self-2.inside.view c.prepare.new.self.blocks is (err_at c.declare.result error.Device c.declare.ensures.err fault))

pub returns-clause-fits : goal.returns-clause-fits
returns-clause-fits g c = ok_either c.declare.result c.in-Ok.ensures.fits

pub returns-clause-only : goal.returns-clause-only
returns-clause-only g c = only_device _ c.declare.result c.declare.ensures.device

pub returns-clause-err : goal.returns-clause-err
returns-clause-err g c = but_device _ _ c.declare.result c.declare.ensures.device

pub returns-clause-kept : goal.returns-clause-kept
returns-clause-kept g c =
    ok_either c.declare.result (subst (λ (b : CheckedBlocks). LaysOut c.args.self.now (map vec_items c.args.laid.now) b) (sym (ap (λ (s : State). s.blocks) c.self-2.view_is)) c.in-Ok.ensures.kept)

pub returns-clause-kept_device : goal.returns-clause-kept_device
returns-clause-kept_device g c = λ fault. subst (λ (b : CheckedBlocks). LaysOut c.args.self.now (map vec_items c.args.laid.now) b) (sym (ap (λ (s : State). s.blocks) c.self-2.view_is)) c.in-Ok.ensures.kept
