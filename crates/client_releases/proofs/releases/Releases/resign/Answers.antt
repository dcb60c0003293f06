use Rattle.std.proofs.Common.{◌∙◌, List, ℕ, IsSome, length, sym, ap, subst, arith}
use Rattle.layout.specs.Format.{IsBytes}
use Rattle.client_journal.specs.declared.kind.Kind.TheVariants as kind
use Rattle.update_cert.specs.CertLaws.{at_most_cert}
use Rattle.client_journal.specs.Records.{next_state, unsigned}
use Rattle.client_releases.specs.Releasing.{OwnDevices, own_devices}
use Rattle.client_releases.specs.Told.{HasKey, IsKeyUsedUp, Released}
use Rattle.client_releases.proofs.Again.{again_may, again_turn, declared_cert}
use Rattle.client_releases.proofs.Seen.{again_of, failed_of, moments_of, risen_of, tried_of}
use Rattle.client_releases.proofs.Standing.{after_certificate, after_fault, stands_declared}
use Rattle.client_releases.proofs.Telling.{cert_there}
use Rattle.client_releases.proofs.releases.Releases.resign.Goals as goal

pub keep_under-requires-clause-ledger_usable : goal.keep_under-requires-clause-ledger_usable
keep_under-requires-clause-ledger_usable g c =
    ((stands_declared _ c.self.invariant.2 (ap (λ (r : Released). r.phase) c.self.view_is ∙ c.requires.declared)).ledgers c.args.key (subst (λ (r : Released). HasKey c.args.key r) (sym c.self.view_is) c.requires.key)).usable

pub keep_under-requires-clause-own_key : goal.keep_under-requires-clause-own_key
keep_under-requires-clause-own_key g c = c.self.invariant.2.own_keys c.args.key (subst (λ (r : Released). HasKey c.args.key r) (sym c.self.view_is) c.requires.key)

pub keep_under-requires-clause-settled : goal.keep_under-requires-clause-settled
keep_under-requires-clause-settled g c = c.self.invariant.2.settled c.args.key (subst (λ (r : Released). HasKey c.args.key r) (sym c.self.view_is) c.requires.key)

pub keep_under-requires-clause-free : goal.keep_under-requires-clause-free
keep_under-requires-clause-free g c none = c.requires.free (subst (λ (r : Released). IsKeyUsedUp c.args.key r) c.self.view_is none)

pub keep_under-requires-clause-journal_usable : goal.keep_under-requires-clause-journal_usable
keep_under-requires-clause-journal_usable g c = (stands_declared _ c.self.invariant.2 (ap (λ (r : Released). r.phase) c.self.view_is ∙ c.requires.declared)).journal_usable

pub keep_under-requires-clause-journal_rests : goal.keep_under-requires-clause-journal_rests
keep_under-requires-clause-journal_rests g c = (stands_declared _ c.self.invariant.2 (ap (λ (r : Released). r.phase) c.self.view_is ∙ c.requires.declared)).journal_rests

pub keep_under-requires-clause-turn : goal.keep_under-requires-clause-turn
keep_under-requires-clause-turn g c signature fits =
    let now = ap (λ (r : Released). r.phase) c.self.view_is ∙ c.requires.declared in
    again_turn _ (stands_declared _ c.self.invariant.2 now) now (subst IsBytes c.deref.ensures.value c.are_bytes.ensures) c.args.unsigned signature fits (c.requires.same ∙ ap (λ (r : Released). unsigned r.text) (sym c.self.view_is))

pub keep_under-requires-clause-short : goal.keep_under-requires-clause-short
keep_under-requires-clause-short g c =
    let now = ap (λ (r : Released). r.phase) c.self.view_is ∙ c.requires.declared in
    let own = declared_cert _ (stands_declared _ c.self.invariant.2 now) now (subst IsBytes c.deref.ensures.value c.are_bytes.ensures) in
    omega (arith, at_most_cert.holds own.0 own.2, ap length own.1, ap length (c.requires.same ∙ ap (λ (r : Released). unsigned r.text) (sym c.self.view_is)))

pub returns-in-Ok-clause-resigned : goal.returns-in-Ok-clause-resigned
returns-in-Ok-clause-resigned g c =
    let new : OwnDevices = own_devices c.keep_under.new.keys.items c.keep_under.new.journal in
    let k = c.in-Ok.ensures.kept in
    rw c.keep_under.ensures.secrets (again_of _ c.args.self.now c.self.view_is c.args.key c.args.unsigned new _ _ k.0 k.1 k.2 k.3)

pub returns-in-Ok-clause-any_moment : goal.returns-in-Ok-clause-any_moment
returns-in-Ok-clause-any_moment g c =
    let new : OwnDevices = own_devices c.keep_under.new.keys.items c.keep_under.new.journal in
    moments_of _ c.args.self.now c.self.view_is c.args.key c.args.unsigned new kind.Certificate c.keep_under.ensures.any_moment

pub returns-in-Err-clause-any_moment : goal.returns-in-Err-clause-any_moment
returns-in-Err-clause-any_moment g c =
    let new : OwnDevices = own_devices c.keep_under.new.keys.items c.keep_under.new.journal in
    moments_of _ c.args.self.now c.self.view_is c.args.key c.args.unsigned new kind.Certificate c.keep_under.ensures.any_moment

pub returns-in-Err-clause-tried : goal.returns-in-Err-clause-tried
returns-in-Err-clause-tried g c =
    let new : OwnDevices = own_devices c.keep_under.new.keys.items c.keep_under.new.journal in
    tried_of _ c.args.self.now c.self.view_is c.args.key c.args.unsigned new kind.Certificate c.in-Err.ensures.tried

pub returns-in-Err-clause-device : goal.returns-in-Err-clause-device
returns-in-Err-clause-device g c =
    let new : OwnDevices = own_devices c.keep_under.new.keys.items c.keep_under.new.journal in
    let d = c.in-Err.ensures.device in
    (d.0, risen_of _ c.args.self.now c.self.view_is c.args.key c.args.unsigned new d.1)

pub returns-in-Err-clause-err : goal.returns-in-Err-clause-err
returns-in-Err-clause-err g c = rw c.keep_under.ensures.secrets (failed_of _ c.args.self.now c.self.view_is _)

pub invariant_of-self : goal.invariant_of-self
invariant_of-self g c =
    let new : OwnDevices = own_devices c.keep_under.new.keys.items c.keep_under.new.journal in
    let now = ap (λ (r : Released). r.phase) c.self.view_is ∙ c.requires.declared in
    let s = stands_declared _ c.self.invariant.2 now in
    let has = subst (λ (r : Released). HasKey c.args.key r) (sym c.self.view_is) c.requires.key in
    let k = c.in-Ok.ensures.kept in
    let own = declared_cert _ s now (subst IsBytes c.deref.ensures.value c.are_bytes.ensures) in
    let same = c.requires.same ∙ ap (λ (r : Released). unsigned r.text) (sym c.self.view_is) in
    let may = subst (λ (text : List ℕ). IsSome (next_state s.recorded kind.Certificate text)) (sym k.2) (again_may _ s now (subst IsBytes c.deref.ensures.value c.are_bytes.ensures) c.args.unsigned _ c.in-Ok.ensures.fits same) in
    let u = c.in-Ok.ensures.usable in
    let e = c.keep_under.ensures in
    let made =
    after_certificate _ c.self.invariant.2 c.args.key has new e.others u.0 u.1 e.same_key e.own_file e.none_outstanding k.0 _ _ s k.3 may (record { value = own.0; signature = c.in-Ok.sealed.signature })
    (cert_there _ own.0 _ c.args.unsigned _ own.2 c.in-Ok.ensures.fits (same ∙ own.1) k.2 own.3) (sym own.4) in
    (c.self.invariant.0, omega (arith, e.as_many, c.self.invariant.1), rw (e.secrets, now) made)

pub invariant_of-self-in-Err : goal.invariant_of-self-in-Err
invariant_of-self-in-Err g c =
    let new : OwnDevices = own_devices c.keep_under.new.keys.items c.keep_under.new.journal in
    let e = c.keep_under.ensures in
    (c.self.invariant.0, omega (arith, e.as_many, c.self.invariant.1), rw e.secrets (after_fault _ c.self.invariant.2 c.args.key new e.others e.same_key e.none_outstanding))
