use Rattle.std.proofs.Common.{◌≡◌, Some, ap, refl, subst, sym, ◌∙◌}
use Rattle.layout.specs.Types.{Bytes}
use Rattle.leaf_ledger.specs.Ledger.{IsLeastFree, LeafNumber}
use Rattle.version_order.specs.Structure.{structure}
use Rattle.client_releases.specs.Releasing.{AnyMoment, IsTried, OneHasRisen, OthersStay, ledger_at, structure_record, under}
use Rattle.client_releases.specs.Told.{HasKey, IsKeyUsedUp, Released, secret_at, sent}
use Rattle.client_releases.proofs.UsedUp.{can_sign}
use Rattle.client_verify.specs.Progress.{accepted_of, checked_of}
use Rattle.client_verify.specs.State.{AcceptedView, State, next_structure, released, signing_key}
use Rattle.client_verify.proofs.Handing.{if_at}
use Rattle.client_verify.proofs.Steps.{if_some}
use Rattle.client_verify.proofs.Releasing.{at_signer, each_if, own_failed, own_signed, seen, shown_is, signed_of, signer_is, view_is}
use Rattle.client_verify.proofs.client.Client.sign_prepared.Goals as goal

pub sign-requires-clause-free : goal.sign-requires-clause-free
sign-requires-clause-free g c full =
    c.requires.free (subst (λ (o : Released). IsKeyUsedUp c.args.prepared.key o) (ap released c.self.view_is) full)

pub invariant_of-self : goal.invariant_of-self
invariant_of-self g c =
    let d = c.in-Ok.ensures.signed in
    let r = c.self.inside.releases in
    let n = c.args.prepared.key in
    let has = subst (λ (o : Released). HasKey n o) (sym (ap released c.self.view_is)) c.requires.has in
    let some : IsKeyUsedUp n r → ⊥ = λ full. c.requires.free (subst (λ (o : Released). IsKeyUsedUp n o) (ap released c.self.view_is) full) in
    rw c.take_accepted-ready.ensures.none (
      record { of_checked = tt; of_accepted = tt },
      own_signed n r c.as_bytes-size.result.now (c.as_bytes-size.ensures.same ∙ c.key.ensures) c.as_bytes-size.ensures.size d.0 d.1.least.below (can_sign (secret_at n r) (ledger_at n r.devices) d.0 d.1.least some) c.sign.new.self c.args.prepared.draft.structure c.args.prepared.draft.text d.2 has,
    )

pub invariant_of-self-in-Err : goal.invariant_of-self-in-Err
invariant_of-self-in-Err g c = rw c.take_accepted-ready.ensures.none (
  record { of_checked = tt; of_accepted = tt },
  each_if c.self.inside.signer _ _ (λ n both. own_failed n c.self.inside.releases c.sign.new.self c.in-Err.ensures.err both) c.self.invariant.1,
)

pub returns-in-Ok-clause-signed : goal.returns-in-Ok-clause-signed
returns-in-Ok-clause-signed g c =
    let s = c.args.self.now in
    let r = c.self.inside.releases in
    let new = c.sign.new.self in
    let p = c.args.prepared in
    let y = c.take_accepted-ready.result in
    let there : s.accepted ≡ Some y = ap (λ (q : State). q.accepted) (sym c.self.view_is) ∙ c.take_accepted-ready.ensures.taken in
    let key_is : p.key ≡ signing_key s y = signer_is s y (Some p.key) (if_at s.accepted y _ there c.requires.signer) in
    let next = if_at s.accepted y _ there c.requires.structure in
    let copied = if_at s.accepted y _ there c.requires.structures in
    let d = rw key_is at c.in-Ok.ensures.signed in
    let of_shown = shown_is r new s c.self.inside.pinned c.self.inside.blocks (checked_of c.self.inside.progress) (accepted_of c.self.inside.progress) c.self.inside.view c.self.view_is y d.0 p.draft.structure p.draft.shown c.in-Ok.signature (sent r (signing_key s y) d.0 p.draft.text) next c.requires.shown c.in-Ok.ensures.signature d.2 in
    let shown = ap (λ (v : AcceptedView). Some v) c.view_over.ensures ∙ view_is r new s c.self.inside.pinned c.self.inside.blocks (checked_of c.self.inside.progress) (accepted_of c.self.inside.progress) c.self.inside.view c.self.view_is y d.0 y.lists y.table _ _ p.copies.items y.lost refl refl refl of_shown refl copied in
    rw (c.take_accepted-ready.ensures.none, c.put_in.ensures) (if_some s.accepted y _ there (signed_of r new s c.self.inside.pinned c.self.inside.blocks (checked_of c.self.inside.progress) (accepted_of c.self.inside.progress) c.self.inside.view c.self.view_is _ y d.0 p.draft.structure p.draft.text _ next c.requires.text d.1 d.2 shown))

pub returns-in-Ok-clause-any_moment : goal.returns-in-Ok-clause-any_moment
returns-in-Ok-clause-any_moment g c =
    let s = c.args.self.now in
    let r = c.self.inside.releases in
    let new = c.sign.new.self in
    let p = c.args.prepared in
    let y = c.take_accepted-ready.result in
    let there : s.accepted ≡ Some y = ap (λ (q : State). q.accepted) (sym c.self.view_is) ∙ c.take_accepted-ready.ensures.taken in
    let key_is : p.key ≡ signing_key s y = signer_is s y (Some p.key) (if_at s.accepted y _ there c.requires.signer) in
    let spelled : p.draft.text ≡ structure.spell (next_structure s y) = c.requires.text ∙ ap structure.spell (if_at s.accepted y _ there c.requires.structure) in
    if_some s.accepted y _ there (seen (λ (o : Released) (t : Bytes). (leaf : LeafNumber) → IsLeastFree (ledger_at (signing_key s y) o.devices).file.now.text leaf → AnyMoment leaf (structure_record (sent o (signing_key s y) leaf t)) (under (signing_key s y) o.devices) (under (signing_key s y) new.devices))
    r (released s) p.draft.text (structure.spell (next_structure s y)) (ap released c.self.view_is) spelled (rw key_is at c.sign.ensures.any_moment))

pub returns-in-Ok-clause-others : goal.returns-in-Ok-clause-others
returns-in-Ok-clause-others g c =
    let s = c.args.self.now in
    at_signer s s.accepted c.args.prepared.key (λ y k. OthersStay k s.devices c.sign.new.self.devices) c.requires.signer (λ y. subst (λ (o : Released). OthersStay c.args.prepared.key o.devices c.sign.new.self.devices) (ap released c.self.view_is) c.sign.ensures.others)

pub returns-in-Err-clause-any_moment : goal.returns-in-Err-clause-any_moment
returns-in-Err-clause-any_moment g c =
    let s = c.args.self.now in
    let r = c.self.inside.releases in
    let new = c.sign.new.self in
    let p = c.args.prepared in
    let y = c.take_accepted-ready.result in
    let there : s.accepted ≡ Some y = ap (λ (q : State). q.accepted) (sym c.self.view_is) ∙ c.take_accepted-ready.ensures.taken in
    let key_is : p.key ≡ signing_key s y = signer_is s y (Some p.key) (if_at s.accepted y _ there c.requires.signer) in
    let spelled : p.draft.text ≡ structure.spell (next_structure s y) = c.requires.text ∙ ap structure.spell (if_at s.accepted y _ there c.requires.structure) in
    if_some s.accepted y _ there (seen (λ (o : Released) (t : Bytes). (leaf : LeafNumber) → IsLeastFree (ledger_at (signing_key s y) o.devices).file.now.text leaf → AnyMoment leaf (structure_record (sent o (signing_key s y) leaf t)) (under (signing_key s y) o.devices) (under (signing_key s y) new.devices))
    r (released s) p.draft.text (structure.spell (next_structure s y)) (ap released c.self.view_is) spelled (rw key_is at c.sign.ensures.any_moment))

pub returns-in-Err-clause-tried : goal.returns-in-Err-clause-tried
returns-in-Err-clause-tried g c =
    let s = c.args.self.now in
    let r = c.self.inside.releases in
    let new = c.sign.new.self in
    let p = c.args.prepared in
    let y = c.take_accepted-ready.result in
    let there : s.accepted ≡ Some y = ap (λ (q : State). q.accepted) (sym c.self.view_is) ∙ c.take_accepted-ready.ensures.taken in
    let key_is : p.key ≡ signing_key s y = signer_is s y (Some p.key) (if_at s.accepted y _ there c.requires.signer) in
    let spelled : p.draft.text ≡ structure.spell (next_structure s y) = c.requires.text ∙ ap structure.spell (if_at s.accepted y _ there c.requires.structure) in
    if_some s.accepted y _ there (seen (λ (o : Released) (t : Bytes). IsTried (λ leaf. structure_record (sent o (signing_key s y) leaf t)) (under (signing_key s y) o.devices) (under (signing_key s y) new.devices))
    r (released s) p.draft.text (structure.spell (next_structure s y)) (ap released c.self.view_is) spelled (rw key_is at c.in-Err.ensures.tried))

pub returns-in-Err-clause-rose : goal.returns-in-Err-clause-rose
returns-in-Err-clause-rose g c =
    let s = c.args.self.now in
    let n = c.args.prepared.key in
    let rose = subst (λ (o : Released). OneHasRisen (under n o.devices) (under n c.sign.new.self.devices)) (ap released c.self.view_is) c.in-Err.ensures.device.1 in
    at_signer s s.accepted n (λ y k. OneHasRisen (under k s.devices) (under k c.sign.new.self.devices)) c.requires.signer (λ y. rose)

pub returns-in-Err-clause-others : goal.returns-in-Err-clause-others
returns-in-Err-clause-others g c =
    let s = c.args.self.now in
    at_signer s s.accepted c.args.prepared.key (λ y k. OthersStay k s.devices c.sign.new.self.devices) c.requires.signer (λ y. subst (λ (o : Released). OthersStay c.args.prepared.key o.devices c.sign.new.self.devices) (ap released c.self.view_is) c.sign.ensures.others)
