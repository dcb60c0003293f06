use Rattle.std.proofs.Common.{◌≡◌, IfSome, IsSome, Option, Some, ap, refl, subst, sym}
use Rattle.client_releases.specs.declared.error.ClientError.TheVariants as error
use Rattle.client_releases.specs.Releasing.{structure_record}
use Rattle.client_releases.specs.Told.{HasKey, IsKeyUsedUp, Released}
use Rattle.client_verify.specs.Progress.{accepted_of}
use Rattle.client_verify.specs.State.{Ready, State, next_structure, released, signed_text, signer_of, signing_key}
use Rattle.client_verify.proofs.Releasing.{always, each_if, err_at, is_held, none_used, not_full, not_lacking, ok_either, refused_moments, refused_tried, stands_ready}
use Rattle.client_verify.proofs.ByDevices.{never_without, no_other, none_of_three}
use Rattle.client_verify.proofs.client.Client.sign.Goals as goal

-- ---- what was prepared is signed, or a device fails: the client in which room was made is as before

pub sign_prepared-requires-clause-signer : goal.sign_prepared-requires-clause-signer
sign_prepared-requires-clause-signer g c = subst (λ (t : State). IfSome t.accepted (λ r. Some c.in-Ok.prepared.key ≡ signer_of t r)) (sym c.make_room.ensures) c.in-Ok.ensures.signer

pub sign_prepared-requires-clause-free : goal.sign_prepared-requires-clause-free
sign_prepared-requires-clause-free g c = subst (λ (t : State). IsKeyUsedUp c.in-Ok.prepared.key (released t) → ⊥) (sym c.make_room.ensures) c.in-Ok.ensures.free

pub sign_prepared-requires-clause-structure : goal.sign_prepared-requires-clause-structure
sign_prepared-requires-clause-structure g c = subst (λ (t : State). IfSome t.accepted (λ r. c.in-Ok.prepared.draft.structure ≡ next_structure t r)) (sym c.make_room.ensures) c.in-Ok.ensures.structure

pub sign_prepared-requires-clause-structures : goal.sign_prepared-requires-clause-structures
sign_prepared-requires-clause-structures g c = subst (λ (t : State). IfSome t.accepted (λ r. c.in-Ok.prepared.copies.items ≡ r.lists.structures)) (sym c.make_room.ensures) c.in-Ok.ensures.structures

pub returns-clause-signed : goal.returns-clause-signed
returns-clause-signed g c = rw (sym c.make_room.ensures) c.sign_prepared.ensures.signed

pub returns-clause-any_moment : goal.returns-clause-any_moment
returns-clause-any_moment g c =
    rw (sym c.make_room.ensures) (each_if c.make_room.new.self.accepted _ _ (λ y moments has. moments) c.sign_prepared.ensures.any_moment)

pub returns-clause-tried : goal.returns-clause-tried
returns-clause-tried g c = rw (sym c.make_room.ensures) c.sign_prepared.ensures.tried

pub returns-clause-no_key : goal.returns-clause-no_key
returns-clause-no_key g c =
    not_lacking c.args.self.now c.args.self.now.accepted c.in-Ok.prepared.key _
    (λ is. no_other c.sign_prepared.result error.NoKey (λ two. cc two) c.sign_prepared.ensures.device is) c.in-Ok.ensures.signer

pub returns-clause-no_leaf : goal.returns-clause-no_leaf
returns-clause-no_leaf g c =
    not_full c.args.self.now c.args.self.now.accepted c.in-Ok.prepared.key _
    (λ is. no_other c.sign_prepared.result error.NoLeaf (λ two. cc two) c.sign_prepared.ensures.device is)
    c.in-Ok.ensures.free c.in-Ok.ensures.signer

pub returns-clause-own : goal.returns-clause-own
returns-clause-own g c =
    is_held c.args.self.now c.args.self.now.accepted c.in-Ok.prepared.key _ c.in-Ok.ensures.has c.in-Ok.ensures.signer

pub returns-clause-rose : goal.returns-clause-rose
returns-clause-rose g c =
    rw (sym c.make_room.ensures) (each_if c.make_room.new.self.accepted _ _ (λ y risen is. err_at c.sign_prepared.result error.Device risen is)
    c.sign_prepared.ensures.rose)

pub returns-clause-others : goal.returns-clause-others
returns-clause-others g c = rw (sym c.make_room.ensures) c.sign_prepared.ensures.others

pub returns-clause-fits : goal.returns-clause-fits
returns-clause-fits g c = rw (sym c.make_room.ensures) (ok_either c.sign_prepared.result c.sign_prepared.ensures.fits)

pub returns-clause-fits_device : goal.returns-clause-fits_device
returns-clause-fits_device g c is = rw (sym c.make_room.ensures) c.sign_prepared.ensures.fits

pub returns-clause-only : goal.returns-clause-only
returns-clause-only g c = none_of_three c.sign_prepared.result c.sign_prepared.ensures.device

pub returns-clause-err : goal.returns-clause-err
returns-clause-err g c = never_without _ c.sign_prepared.result c.sign_prepared.ensures.device

-- ---- there is no memory for its record

pub returns-then-is_err-clause-any_moment : goal.returns-then-is_err-clause-any_moment
returns-then-is_err-clause-any_moment g c =
    let s = c.args.self.now in
    let r = c.self.inside.releases in
    let some = subst (λ (o : Option Ready). IsSome o) (sym (ap (λ (q : State). q.accepted) c.self.view_is)) c.requires in
    let stands = stands_ready r (accepted_of c.self.inside.progress) c.type_invariant.ensures c.self.invariant.0.of_accepted some in
    always s.accepted _ (λ y has leaf least. refused_moments (signing_key s y) r s c.make_room.new.self (ap released c.self.view_is) (subst (λ (o : Released). HasKey (signing_key s y) o) (sym (ap released c.self.view_is)) has) stands c.make_room.ensures (λ k. structure_record (signed_text s k y)) leaf)

pub returns-then-is_err-clause-tried : goal.returns-then-is_err-clause-tried
returns-then-is_err-clause-tried g c = always c.args.self.now.accepted _ (λ y. refused_tried (signing_key c.args.self.now y) c.args.self.now c.make_room.new.self c.make_room.ensures (λ leaf. structure_record (signed_text c.args.self.now leaf y)))

pub returns-then-is_err-clause-no_key : goal.returns-then-is_err-clause-no_key
returns-then-is_err-clause-no_key g c = not_lacking c.args.self.now c.args.self.now.accepted c.in-Ok.prepared.key _ (λ is. cc is) c.in-Ok.ensures.signer

pub returns-then-is_err-clause-no_leaf : goal.returns-then-is_err-clause-no_leaf
returns-then-is_err-clause-no_leaf g c = not_full c.args.self.now c.args.self.now.accepted c.in-Ok.prepared.key _ (λ is. cc is) c.in-Ok.ensures.free c.in-Ok.ensures.signer

pub returns-then-is_err-clause-own : goal.returns-then-is_err-clause-own
returns-then-is_err-clause-own g c =
    is_held c.args.self.now c.args.self.now.accepted c.in-Ok.prepared.key _ c.in-Ok.ensures.has c.in-Ok.ensures.signer

pub returns-then-is_err-clause-rose : goal.returns-then-is_err-clause-rose
returns-then-is_err-clause-rose g c = always c.args.self.now.accepted _ (λ y is. absurd (cc is))

pub returns-then-is_err-clause-others : goal.returns-then-is_err-clause-others
returns-then-is_err-clause-others g c = always c.args.self.now.accepted _ (λ y. none_used (signing_key c.args.self.now y) c.args.self.now c.make_room.new.self c.make_room.ensures)

-- ---- nothing could be prepared

pub returns-in-Err-clause-any_moment : goal.returns-in-Err-clause-any_moment
returns-in-Err-clause-any_moment g c =
    let s = c.args.self.now in
    let r = c.self.inside.releases in
    let some = subst (λ (o : Option Ready). IsSome o) (sym (ap (λ (q : State). q.accepted) c.self.view_is)) c.requires in
    let stands = stands_ready r (accepted_of c.self.inside.progress) c.type_invariant.ensures c.self.invariant.0.of_accepted some in
    always s.accepted _ (λ y has leaf least. refused_moments (signing_key s y) r s s (ap released c.self.view_is) (subst (λ (o : Released). HasKey (signing_key s y) o) (sym (ap released c.self.view_is)) has) stands refl (λ k. structure_record (signed_text s k y)) leaf)

pub returns-in-Err-clause-tried : goal.returns-in-Err-clause-tried
returns-in-Err-clause-tried g c = always c.args.self.now.accepted _ (λ y. refused_tried (signing_key c.args.self.now y) c.args.self.now c.args.self.now refl (λ leaf. structure_record (signed_text c.args.self.now leaf y)))

pub returns-in-Err-clause-others : goal.returns-in-Err-clause-others
returns-in-Err-clause-others g c = always c.args.self.now.accepted _ (λ y. none_used (signing_key c.args.self.now y) c.args.self.now c.args.self.now refl)
