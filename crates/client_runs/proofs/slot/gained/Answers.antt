use Rattle.std.proofs.Common.{◌≡◌, ◌++◌, [], ◌∷◌, ◌∙◌, ap, arith, length}
use Rattle.client_releases.specs.declared.parts.Parts.{Parts as Held}
use Rattle.client_steps.specs.Steps.{Device, empty}
use Rattle.client_runs.specs.Carried.{script_key}
use Rattle.client_runs.proofs.Gaining.{has_gained, own_more, within}
use Rattle.client_runs.proofs.slot.gained.Goals as goal

pub overflow_cast-len : goal.overflow_cast-len
overflow_cast-len g c = omega (arith, c.len.ensures, c.args.parts.keys.ok.0, within c.args.user (length c.args.parts.keys.items) c.requires.fewer)

pub new_key-made-requires : goal.new_key-made-requires
new_key-made-requires g c = omega (arith, c.len.ensures, c.args.parts.keys.ok.0, within c.args.user (length c.args.parts.keys.items) c.requires.fewer)

pub returns-clause-gained : goal.returns-clause-gained
returns-clause-gained g c =
    let p = c.args.parts in
    let b = c.in_ok-parts.ensures in
    let d = c.in_ok-journal.ensures in
    let key = c.in_ok-parts.key in
    let keys = c.in_ok-journal.keys in
    let pushed : keys.items ≡ p.keys.items ++ key ∷ [] = (rw d.ok at c.with_key-keys.ensures) ∙ ap (λ (q : Held Device Device g.row.A.Denot). q.keys.items ++ key ∷ []) b.same in
    let none : key.1 ≡ empty = rw b.ok at c.new_key-made.ensures.ledger in
    has_gained c.args.user p (record { keys = keys; journal = c.in_ok-journal.journal }) key pushed c.requires.fewer none (d.same ∙ ap (λ (q : Held Device Device g.row.A.Denot). q.journal) b.same)

pub returns-clause-own : goal.returns-clause-own
returns-clause-own g c =
    let p = c.args.parts in
    let b = c.in_ok-parts.ensures in
    let d = c.in_ok-journal.ensures in
    let key = c.in_ok-parts.key in
    let keys = c.in_ok-journal.keys in
    let pushed : keys.items ≡ p.keys.items ++ key ∷ [] = (rw d.ok at c.with_key-keys.ensures) ∙ ap (λ (q : Held Device Device g.row.A.Denot). q.keys.items ++ key ∷ []) b.same in
    let made : key.0 ≡ script_key c.args.user c.len.result = rw b.ok at c.new_key-made.ensures.key in
    own_more c.args.user p (record { keys = keys; journal = c.in_ok-journal.journal }) key pushed c.requires.fewer (made ∙ ap (λ n. script_key c.args.user n) (c.len.ensures ∙ p.keys.ok.0)) c.requires.own
