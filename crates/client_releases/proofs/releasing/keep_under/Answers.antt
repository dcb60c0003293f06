use Rattle.std.proofs.Common.{◌≡◌, ◌++◌, IfErr, IfOk, OnErr, get_or, true, ◌∙◌, ap}
use Rattle.lms_sign.specs.Secret.{Secret}
use Rattle.lms_sign.specs.Signature.{signature_of}
use Rattle.leaf_ledger.specs.Ledger.{IsFileOf, IsLeastFree, LeafNumber}
use Rattle.client_releases.specs.declared.error.ClientError.TheVariants as error
use Rattle.client_releases.specs.OwnKeys.{OwnKey}
use Rattle.client_releases.specs.Releasing.{AnyMoment, Devices, IsKept, IsTried, OneHasRisen}
use Rattle.client_releases.proofs.Keeping.{entry}
use Rattle.client_releases.proofs.Under.{others_stay, same_secrets, seen_under}
use Rattle.client_releases.proofs.releasing.keep_under.Goals as goal

pub returns-clause-kept : goal.returns-clause-kept
returns-clause-kept g c =
    let d = c.index_mut-own.result.now in
    let old : OwnKey = record { secret = c.own.inside.key; ledger = c.own.inside.ledger } in
    let new : OwnKey = record { secret = c.own.inside.key; ledger = c.keep.new.ledger } in
    let is : old ≡ get_or c.args.keys.now.items c.args.n d = c.own.view_is ∙ c.index_mut-own.ensures.value in
    let u = c.args.unsigned in
    seen_under c.args.keys.now.items c.args.n c.requires.inside d old new is c.args.journal.now c.keep.new.journal
    (λ (s : Secret) (a b : Devices). IfOk c.keep.result (λ x. (leaf : LeafNumber) × (x.signature ≡ signature_of s leaf u) × (x.kept.items ≡ u ++ x.signature) × IsKept leaf (entry c.args.kind x.kept.items) a b)) c.keep.ensures.kept

pub returns-clause-any_moment : goal.returns-clause-any_moment
returns-clause-any_moment g c =
    let d = c.index_mut-own.result.now in
    let old : OwnKey = record { secret = c.own.inside.key; ledger = c.own.inside.ledger } in
    let new : OwnKey = record { secret = c.own.inside.key; ledger = c.keep.new.ledger } in
    let is : old ≡ get_or c.args.keys.now.items c.args.n d = c.own.view_is ∙ c.index_mut-own.ensures.value in
    let u = c.args.unsigned in
    seen_under c.args.keys.now.items c.args.n c.requires.inside d old new is c.args.journal.now c.keep.new.journal
    (λ (s : Secret) (a b : Devices). (leaf : LeafNumber) → IsLeastFree a.ledger.file.now.text leaf → AnyMoment leaf (entry c.args.kind (u ++ signature_of s leaf u)) a b) c.keep.ensures.any_moment

pub returns-clause-tried : goal.returns-clause-tried
returns-clause-tried g c =
    let d = c.index_mut-own.result.now in
    let old : OwnKey = record { secret = c.own.inside.key; ledger = c.own.inside.ledger } in
    let new : OwnKey = record { secret = c.own.inside.key; ledger = c.keep.new.ledger } in
    let is : old ≡ get_or c.args.keys.now.items c.args.n d = c.own.view_is ∙ c.index_mut-own.ensures.value in
    let u = c.args.unsigned in
    seen_under c.args.keys.now.items c.args.n c.requires.inside d old new is c.args.journal.now c.keep.new.journal
    (λ (s : Secret) (a b : Devices). OnErr c.keep.result (IsTried (λ leaf. entry c.args.kind (u ++ signature_of s leaf u)) a b)) c.keep.ensures.tried

pub returns-clause-device : goal.returns-clause-device
returns-clause-device g c =
    let d = c.index_mut-own.result.now in
    let old : OwnKey = record { secret = c.own.inside.key; ledger = c.own.inside.ledger } in
    let new : OwnKey = record { secret = c.own.inside.key; ledger = c.keep.new.ledger } in
    let is : old ≡ get_or c.args.keys.now.items c.args.n d = c.own.view_is ∙ c.index_mut-own.ensures.value in
    seen_under c.args.keys.now.items c.args.n c.requires.inside d old new is c.args.journal.now c.keep.new.journal
    (λ (s : Secret) (a b : Devices). IfErr c.keep.result (λ e. (e ≡ error.Device) × OneHasRisen a b)) c.keep.ensures.device

pub returns-clause-usable : goal.returns-clause-usable
returns-clause-usable g c =
    let d = c.index_mut-own.result.now in
    let old : OwnKey = record { secret = c.own.inside.key; ledger = c.own.inside.ledger } in
    let new : OwnKey = record { secret = c.own.inside.key; ledger = c.keep.new.ledger } in
    let is : old ≡ get_or c.args.keys.now.items c.args.n d = c.own.view_is ∙ c.index_mut-own.ensures.value in
    seen_under c.args.keys.now.items c.args.n c.requires.inside d old new is c.args.journal.now c.keep.new.journal
    (λ (s : Secret) (a b : Devices). IfOk c.keep.result (λ x. (b.ledger.usable ≡ true) × (b.journal.usable ≡ true))) c.keep.ensures.usable

pub returns-clause-own_file : goal.returns-clause-own_file
returns-clause-own_file g c =
    let d = c.index_mut-own.result.now in
    let old : OwnKey = record { secret = c.own.inside.key; ledger = c.own.inside.ledger } in
    let new : OwnKey = record { secret = c.own.inside.key; ledger = c.keep.new.ledger } in
    let is : old ≡ get_or c.args.keys.now.items c.args.n d = c.own.view_is ∙ c.index_mut-own.ensures.value in
    seen_under c.args.keys.now.items c.args.n c.requires.inside d old new is c.args.journal.now c.keep.new.journal
    (λ (s : Secret) (a b : Devices). IsFileOf a.ledger.key b.ledger.file.now.text) c.keep.ensures.own_file

pub returns-clause-same_key : goal.returns-clause-same_key
returns-clause-same_key g c =
    let d = c.index_mut-own.result.now in
    let old : OwnKey = record { secret = c.own.inside.key; ledger = c.own.inside.ledger } in
    let new : OwnKey = record { secret = c.own.inside.key; ledger = c.keep.new.ledger } in
    let is : old ≡ get_or c.args.keys.now.items c.args.n d = c.own.view_is ∙ c.index_mut-own.ensures.value in
    seen_under c.args.keys.now.items c.args.n c.requires.inside d old new is c.args.journal.now c.keep.new.journal
    (λ (s : Secret) (a b : Devices). b.ledger.key ≡ a.ledger.key) c.keep.ensures.same_key

pub returns-clause-none_outstanding : goal.returns-clause-none_outstanding
returns-clause-none_outstanding g c =
    let d = c.index_mut-own.result.now in
    let old : OwnKey = record { secret = c.own.inside.key; ledger = c.own.inside.ledger } in
    let new : OwnKey = record { secret = c.own.inside.key; ledger = c.keep.new.ledger } in
    let is : old ≡ get_or c.args.keys.now.items c.args.n d = c.own.view_is ∙ c.index_mut-own.ensures.value in
    seen_under c.args.keys.now.items c.args.n c.requires.inside d old new is c.args.journal.now c.keep.new.journal
    (λ (s : Secret) (a b : Devices). b.ledger.outstanding ≡ 0) c.keep.ensures.none_outstanding

pub returns-clause-secrets : goal.returns-clause-secrets
returns-clause-secrets g c =
    let d = c.index_mut-own.result.now in
    let old : OwnKey = record { secret = c.own.inside.key; ledger = c.own.inside.ledger } in
    let new : OwnKey = record { secret = c.own.inside.key; ledger = c.keep.new.ledger } in
    let is : old ≡ get_or c.args.keys.now.items c.args.n d = c.own.view_is ∙ c.index_mut-own.ensures.value in
    same_secrets c.args.keys.now.items c.args.n d new c.requires.inside (ap (λ (x : OwnKey). x.secret) is)

pub returns-clause-others : goal.returns-clause-others
returns-clause-others g c =
    let d = c.index_mut-own.result.now in
    let new : OwnKey = record { secret = c.own.inside.key; ledger = c.keep.new.ledger } in
    others_stay c.args.keys.now.items c.args.n d c.requires.inside c.args.journal.now new c.keep.new.journal
