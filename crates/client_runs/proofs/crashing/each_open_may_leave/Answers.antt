use Rattle.std.proofs.Common.{◌≡◌, ◌<◌, ◌∙◌, length, map, sym, arith}
use Rattle.std.proofs.lemmas.List.{length-map}
use Rattle.std.specs.Vec.{vec_items}
use Rattle.client_steps.specs.Steps.{Open, ledgers_of}
use Rattle.client_runs.proofs.Places.{all_of_them, ledger_count, ledger_file, none_may, not_as_many, one_may_not, one_more_may, text_in}
use Rattle.client_runs.proofs.crashing.each_open_may_leave.Goals as goal

pub returns-then-key_count-left-clause-no : goal.returns-then-key_count-left-clause-no
returns-then-key_count-left-clause-no g c =
    let s = c.args.client.now in
    let left = c.args.left.now in
    λ _. not_as_many (ledgers_of (Open s)) (map vec_items left) c.key_count.result (length left) (ledger_count s.devices.ledgers ∙ c.type_invariant.ensures.released.as_many ∙ sym c.key_count.ensures)
    (length-map left vec_items) c.if-key_count-left.true

pub loop-i-init : goal.loop-i-init
loop-i-init g c = none_may (ledgers_of (Open c.args.client.now)) (map vec_items c.args.left.now)

pub ledger_of-requires : goal.ledger_of-requires
ledger_of-requires g c = omega (arith, c.key_count.ensures, c.if-key_count-left.false, c.loop-i-test.true)

pub returns-then-not-may_leave-clause-no : goal.returns-then-not-may_leave-clause-no
returns-then-not-may_leave-clause-no g c =
    let s = c.args.client.now in
    let left = c.args.left.now in
    let i = c.loop-i.i in
    let inside : i < length s.devices.ledgers = omega (arith, c.type_invariant.ensures.released.as_many, c.key_count.ensures, c.if-key_count-left.false, c.loop-i-test.true) in
    λ _. one_may_not (ledgers_of (Open s)) (map vec_items left) i c.ledger_of.result.now.history c.deref.result.now (omega (arith, inside, ledger_count s.devices.ledgers))
    (ledger_file s.devices.ledgers i inside ∙ sym c.ledger_of.ensures.file)
    (text_in left i c.index-left-i.result c.loop-i-test.true c.index-left-i.is ∙ sym c.deref.ensures.value) (c.may_leave.ensures.no c.if-not-may_leave.true)

pub loop-i-preserved : goal.loop-i-preserved
loop-i-preserved g c =
    let s = c.args.client.now in
    let left = c.args.left.now in
    let i = c.loop-i.i in
    let inside : i < length s.devices.ledgers = omega (arith, c.type_invariant.ensures.released.as_many, c.key_count.ensures, c.if-key_count-left.false, c.loop-i-test.true) in
    one_more_may (ledgers_of (Open s)) (map vec_items left) i c.ledger_of.result.now.history c.deref.result.now (ledger_file s.devices.ledgers i inside ∙ sym c.ledger_of.ensures.file)
    (text_in left i c.index-left-i.result c.loop-i-test.true c.index-left-i.is ∙ sym c.deref.ensures.value) (c.may_leave.ensures.yes c.if-not-may_leave.false) c.loop-i.invariant

pub returns-clause-yes : goal.returns-clause-yes
returns-clause-yes g c =
    let s = c.args.client.now in
    let left = c.args.left.now in
    let same : length (ledgers_of (Open s)) ≡ length (map vec_items left) =
    ledger_count s.devices.ledgers ∙ c.type_invariant.ensures.released.as_many ∙ sym c.key_count.ensures ∙ c.if-key_count-left.false ∙ sym (length-map left vec_items) in
    λ _. all_of_them (ledgers_of (Open s)) (map vec_items left) c.loop-i.i same (omega (arith, length-map left vec_items, c.loop-i-test.false)) c.loop-i.invariant
