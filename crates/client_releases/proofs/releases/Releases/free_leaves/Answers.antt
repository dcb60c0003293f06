use Rattle.std.proofs.Common.{◌≡◌, ◌<◌, true, get_or, length, ap, sym, subst, ◌∙◌, arith}
use Rattle.std.proofs.lemmas.List.{length-map}
use Rattle.lms_sign.specs.Secret.{Secret}
use Rattle.leaf_ledger.specs.Ledger.{LedgerState, free_leaves}
use Rattle.client_releases.specs.OwnKeys.{OwnKey}
use Rattle.client_releases.specs.Releasing.{ledger_at, no_ledger}
use Rattle.client_releases.specs.Told.{HasKey, Released}
use Rattle.client_releases.proofs.Under.{ledger_is, seen_key}
use Rattle.client_releases.proofs.releases.Releases.free_leaves.Goals as goal

pub free_leaves-requires : goal.free_leaves-requires
free_leaves-requires g c =
    let keys = c.self.inside.keys.items in
    let n = c.args.key in
    let d = c.index-own.result.now in
    let has = subst (λ (r : Released). HasKey n r) (sym c.self.view_is) c.requires.key in
    let small : n < length keys = omega (arith, has, length-map keys (λ (k : OwnKey). k.secret)) in
    let stands = c.self.invariant.2.stands (λ failed. c.requires.stands (sym (ap (λ (r : Released). r.phase) c.self.view_is) ∙ failed)) in
    let old : OwnKey = record { secret = c.own.inside.key; ledger = c.own.inside.ledger } in
    let is : old ≡ get_or keys n d = c.own.view_is ∙ c.index-own.ensures in
    subst (λ (l : LedgerState). l.usable ≡ true) (ledger_is keys n d no_ledger small ∙ sym (ap (λ (x : OwnKey). x.ledger) is)) (stands.ledgers n has).usable

pub returns : goal.returns
returns g c =
    let keys = c.self.inside.keys.items in
    let n = c.args.key in
    let d = c.index-own.result.now in
    let has = subst (λ (r : Released). HasKey n r) (sym c.self.view_is) c.requires.key in
    let small : n < length keys = omega (arith, has, length-map keys (λ (k : OwnKey). k.secret)) in
    let old : OwnKey = record { secret = c.own.inside.key; ledger = c.own.inside.ledger } in
    let is : old ≡ get_or keys n d = c.own.view_is ∙ c.index-own.ensures in
    subst (λ (r : Released). c.free_leaves.result ≡ free_leaves (ledger_at n r.devices).file.now.text) c.self.view_is
    (seen_key keys n small d old is (λ (s : Secret) (l : LedgerState). c.free_leaves.result ≡ free_leaves l.file.now.text) c.free_leaves.ensures)
