use Rattle.std.proofs.Common.{ap, refl, subst, sym}
use Rattle.client_releases.specs.Told.{IsKeyUsedUp, Released}
use Rattle.client_verify.specs.State.{released}
use Rattle.client_verify.proofs.Releasing.{always, each_if, is_full, is_held, no_full, no_signer, not_full, not_lacking}
use Rattle.client_verify.proofs.client.Client.prepared.Goals as goal

pub returns-in_default-clause-no_leaf : goal.returns-in_default-clause-no_leaf
returns-in_default-clause-no_leaf g c =
    each_if c.args.self.now.accepted _ _
    (λ y is. (λ no. absurd (cc no), λ both. absurd (no_signer c.args.self.now y (sym is) both.0)))
    c.in_default.ensures.signer

pub returns-then-not-has_free_leaf-clause-no_leaf : goal.returns-then-not-has_free_leaf-clause-no_leaf
returns-then-not-has_free_leaf-clause-no_leaf g c =
    let full = subst (λ (o : Released). IsKeyUsedUp c.in-Some.key o) (ap released c.self.view_is) (c.has_free_leaf.ensures.0 c.if-not-has_free_leaf.true) in
    is_full c.args.self.now c.args.self.now.accepted c.in-Some.key _ refl c.in-Some.ensures.has full c.in-Some.ensures.signer

pub returns-then-not-has_free_leaf-clause-own : goal.returns-then-not-has_free_leaf-clause-own
returns-then-not-has_free_leaf-clause-own g c =
    is_held c.args.self.now c.args.self.now.accepted c.in-Some.key _ c.in-Some.ensures.has c.in-Some.ensures.signer

pub returns-in-Ok-clause-free : goal.returns-in-Ok-clause-free
returns-in-Ok-clause-free g c =
    no_full c.in-Some.key c.self.inside.releases (released c.args.self.now) c.has_free_leaf.result (ap released c.self.view_is) c.has_free_leaf.ensures c.if-not-has_free_leaf.false

pub returns-in-Ok-clause-no_key : goal.returns-in-Ok-clause-no_key
returns-in-Ok-clause-no_key g c =
    not_lacking c.args.self.now c.args.self.now.accepted c.in-Some.key _ (λ is. cc is) c.in-Some.ensures.signer

pub returns-in-Ok-clause-no_leaf : goal.returns-in-Ok-clause-no_leaf
returns-in-Ok-clause-no_leaf g c =
    not_full c.args.self.now c.args.self.now.accepted c.in-Some.key _ (λ is. cc is) (no_full c.in-Some.key c.self.inside.releases (released c.args.self.now) c.has_free_leaf.result (ap released c.self.view_is) c.has_free_leaf.ensures c.if-not-has_free_leaf.false) c.in-Some.ensures.signer

pub returns-in-Ok-clause-own : goal.returns-in-Ok-clause-own
returns-in-Ok-clause-own g c =
    is_held c.args.self.now c.args.self.now.accepted c.in-Some.key _ c.in-Some.ensures.has c.in-Some.ensures.signer

pub returns-in-Err-clause-no_leaf : goal.returns-in-Err-clause-no_leaf
returns-in-Err-clause-no_leaf g c =
    not_full c.args.self.now c.args.self.now.accepted c.in-Some.key _ (λ is. cc is) (no_full c.in-Some.key c.self.inside.releases (released c.args.self.now) c.has_free_leaf.result (ap released c.self.view_is) c.has_free_leaf.ensures c.if-not-has_free_leaf.false) c.in-Some.ensures.signer

pub returns-in-Err-clause-own : goal.returns-in-Err-clause-own
returns-in-Err-clause-own g c =
    is_held c.args.self.now c.args.self.now.accepted c.in-Some.key _ c.in-Some.ensures.has c.in-Some.ensures.signer

-- ---- of what isn't there nothing is said

pub returns-in_default-clause-signer : goal.returns-in_default-clause-signer
returns-in_default-clause-signer g c = always c.args.self.now.accepted _ (λ y. tt)

pub returns-in_default-clause-structure : goal.returns-in_default-clause-structure
returns-in_default-clause-structure g c = always c.args.self.now.accepted _ (λ y. tt)

pub returns-in_default-clause-structures : goal.returns-in_default-clause-structures
returns-in_default-clause-structures g c = always c.args.self.now.accepted _ (λ y. tt)

pub returns-then-not-has_free_leaf-clause-signer : goal.returns-then-not-has_free_leaf-clause-signer
returns-then-not-has_free_leaf-clause-signer g c = always c.args.self.now.accepted _ (λ y. tt)

pub returns-then-not-has_free_leaf-clause-structure : goal.returns-then-not-has_free_leaf-clause-structure
returns-then-not-has_free_leaf-clause-structure g c = always c.args.self.now.accepted _ (λ y. tt)

pub returns-then-not-has_free_leaf-clause-structures : goal.returns-then-not-has_free_leaf-clause-structures
returns-then-not-has_free_leaf-clause-structures g c = always c.args.self.now.accepted _ (λ y. tt)

pub returns-in-Err-clause-signer : goal.returns-in-Err-clause-signer
returns-in-Err-clause-signer g c = always c.args.self.now.accepted _ (λ y. tt)

pub returns-in-Err-clause-structure : goal.returns-in-Err-clause-structure
returns-in-Err-clause-structure g c = always c.args.self.now.accepted _ (λ y. tt)

pub returns-in-Err-clause-structures : goal.returns-in-Err-clause-structures
returns-in-Err-clause-structures g c = always c.args.self.now.accepted _ (λ y. tt)
