use Rattle.std.proofs.Common.{◌≡◌, ℕ, List, drop, get_or, inl, inr, sym, ◌∙◌, ap, arith, length-drop}
use Rattle.client_journal.specs.Records.{kind_of, length_told}
use Rattle.client_journal.proofs.Headers.{other_kind, tells_length, spells}
use Rattle.client_journal.proofs.chain.record_after.Goals as goal

pub returns-then-size-at-le-HEADER_SIZE-clause-damaged : goal.returns-then-size-at-le-HEADER_SIZE-clause-damaged
returns-then-size-at-le-HEADER_SIZE-clause-damaged g c e =
    let text = (g.D.Device.history c.args.device.now).now.text in
    inr (omega (arith, length-drop c.args.at text, c.requires.size))

pub returns-in_default-clause-damaged : goal.returns-in_default-clause-damaged
returns-in_default-clause-damaged g c e =
    let text = (g.D.Device.history c.args.device.now).now.text in
    inl (other_kind (drop c.args.at text) (omega (arith, length-drop c.args.at text, c.requires.size))
    (sym (ap (λ (l : List ℕ). kind_of (get_or l 0 0)) c.in_ok-read.ensures.bytes) ∙ c.in_default.ensures.other_kind))

pub returns-then-size-at-clause-damaged : goal.returns-then-size-at-clause-damaged
returns-then-size-at-clause-damaged g c e =
    let text = (g.D.Device.history c.args.device.now).now.text in
    let told : length_told (drop c.args.at text) ≡ c.in-Some.length = tells_length c.in-Some.kind c.in-Some.length (drop c.args.at text) c.in-Some.ensures.small (sym c.in_ok-read.ensures.bytes ∙ c.in-Some.ensures.header) in
    inr (omega (arith, length-drop c.args.at text, c.requires.size, told))

pub returns-clause-spelled : goal.returns-clause-spelled
returns-clause-spelled g c =
    let text = (g.D.Device.history c.args.device.now).now.text in
    spells text c.args.at c.in-Some.length c.in-Some.kind (omega (arith, c.requires.size)) (sym c.in_ok-read.ensures.bytes ∙ c.in-Some.ensures.header)
