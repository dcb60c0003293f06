use Rattle.std.proofs.Common.{◌≡◌, ◌+◌, ℕ, List, take, drop, ◌++◌, sym, ◌∙◌, ap, arith, length-drop}
use Rattle.leaf_ledger.specs.Device.{History}
use Rattle.record_log.specs.Records.{Record, length_told, spelled}
use Rattle.record_log.proofs.Headers.{tells_length, spells}
use Rattle.record_log.proofs.chain.read_record.Goals as goal

abbrev one : ℕ → List ℕ → Record
one kind text = record { kind = kind; text = text }

pub returns-then-size-at-le-HEADER_SIZE-clause-damaged : goal.returns-then-size-at-le-HEADER_SIZE-clause-damaged
returns-then-size-at-le-HEADER_SIZE-clause-damaged g c tells e =
    let text = (g.S.Storage.history c.args.storage.now).now.text in
    omega (arith, length-drop c.args.at text, c.requires.size tells)

pub returns-then-size-at-clause-damaged : goal.returns-then-size-at-clause-damaged
returns-then-size-at-clause-damaged g c tells e =
    let text = (g.S.Storage.history c.args.storage.now).now.text in
    let h = c.read_header-kind.result in
    let told : length_told (drop c.args.at text) ≡ h.1 = tells_length h.0 h.1 (drop c.args.at text) c.read_header-kind.ensures.small (sym (c.in_ok-read.ensures.bytes tells) ∙ c.read_header-kind.ensures.header) in
    omega (arith, length-drop c.args.at text, c.requires.size tells, told)

pub returns-clause-spelled : goal.returns-clause-spelled
returns-clause-spelled g c tells =
    let text = (g.S.Storage.history c.args.storage.now).now.text in
    let at = c.args.at in
    let h = c.read_header-kind.result in
    let bytes = c.in_ok-text.ensures.bytes tells ∙ ap (λ (x : History). take h.1 (drop (at + 5) x.now.text)) c.in_ok-read.ensures.same in
    let found : Record = c.in-Some.found in
    let is : found ≡ record { kind = h.0; text = take h.1 (drop (at + 5) text) } = c.in-Some.ensures.some ∙ ap (λ (t : List ℕ). one h.0 t) bytes in
    spells text at h.1 h.0 (omega (arith, c.requires.size tells)) (sym (c.in_ok-read.ensures.bytes tells) ∙ c.read_header-kind.ensures.header)
    ∙ ap (λ (r : Record). spelled r ++ drop (at + 5 + h.1) text) (sym is)
