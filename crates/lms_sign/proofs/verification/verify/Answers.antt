use Rattle.std.proofs.Common.{◌≡◌, Bool, true, ◌&&◌, List, ℕ, sym, ap, ◌∙◌}
use Rattle.std.specs.Str.{bytes_eq}
use Rattle.lms_sign.specs.Keys.{is_key, root_of, id_of}
use Rattle.lms_sign.specs.Signature.{is_signature, root_from, valid}
use Rattle.lms_sign.proofs.verification.verify.Goals as goal

pub returns-clause-valid : goal.returns-clause-valid
unfolding valid
returns-clause-valid c =
    let key : is_key c.args.key.now ≡ true = c.id.ensures.key in
    let form : is_signature c.args.signature.now ≡ true = cc in
    let root : c.as_bytes.result.now ≡ root_from (id_of c.args.key.now) c.args.text.now c.args.signature.now =
    c.as_bytes.ensures.same ∙ c.root_from.ensures ∙ ap (λ (l : List ℕ). root_from l c.args.text.now c.args.signature.now) c.id.ensures.value in
    let other : c.as_bytes-2.result.now ≡ root_of c.args.key.now = c.as_bytes-2.ensures.same ∙ c.root.ensures in
    c.eq.ensures ∙ ap (λ (l : List ℕ). bytes_eq l c.as_bytes-2.result.now) root ∙ ap (bytes_eq (root_from (id_of c.args.key.now) c.args.text.now c.args.signature.now)) other
    ∙ sym (ap (λ (b : Bool). b && is_signature c.args.signature.now && bytes_eq (root_from (id_of c.args.key.now) c.args.text.now c.args.signature.now) (root_of c.args.key.now)) key
    ∙ ap (λ (b : Bool). b && bytes_eq (root_from (id_of c.args.key.now) c.args.text.now c.args.signature.now) (root_of c.args.key.now)) form)
