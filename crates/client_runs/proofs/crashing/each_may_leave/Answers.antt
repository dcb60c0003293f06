use Rattle.std.proofs.Common.{◌≡◌, ◌<◌, ◌∙◌, get_or, length, map, sym, arith}
use Rattle.std.proofs.lemmas.List.{length-map}
use Rattle.std.specs.Vec.{vec_items}
use Rattle.client_runs.specs.Slots.{files_in}
use Rattle.client_runs.proofs.Places.{all_of_them, file_count, file_in, none_may, not_as_many, one_may_not, one_more_may, text_in}
use Rattle.client_runs.proofs.crashing.each_may_leave.Goals as goal

pub returns-then-keys-left-clause-no : goal.returns-then-keys-left-clause-no
returns-then-keys-left-clause-no g c =
    let keys = c.args.keys.now in
    let left = c.args.left.now in
    λ _. not_as_many (files_in keys) (map vec_items left) (length keys) (length left) (file_count keys) (length-map left vec_items) c.if-keys-left.true

pub loop-i-init : goal.loop-i-init
loop-i-init g c = none_may (files_in c.args.keys.now) (map vec_items c.args.left.now)

pub returns-then-not-may_leave-clause-no : goal.returns-then-not-may_leave-clause-no
returns-then-not-may_leave-clause-no g c =
    let keys = c.args.keys.now in
    let left = c.args.left.now in
    let i = c.loop-i.i in
    let k = c.index-keys-i.result in
    let inside : i < length keys = omega (arith, c.if-keys-left.false, c.loop-i-test.true) in
    λ _. one_may_not (files_in keys) (map vec_items left) i (get_or keys i k).1.history c.deref.result.now (omega (arith, inside, file_count keys)) (file_in keys i k inside)
    (text_in left i c.index-left-i.result c.loop-i-test.true c.index-left-i.is ∙ sym c.deref.ensures.value) (c.may_leave.ensures.no c.if-not-may_leave.true)

pub loop-i-preserved : goal.loop-i-preserved
loop-i-preserved g c =
    let keys = c.args.keys.now in
    let left = c.args.left.now in
    let i = c.loop-i.i in
    let k = c.index-keys-i.result in
    let inside : i < length keys = omega (arith, c.if-keys-left.false, c.loop-i-test.true) in
    one_more_may (files_in keys) (map vec_items left) i (get_or keys i k).1.history c.deref.result.now (file_in keys i k inside)
    (text_in left i c.index-left-i.result c.loop-i-test.true c.index-left-i.is ∙ sym c.deref.ensures.value) (c.may_leave.ensures.yes c.if-not-may_leave.false) c.loop-i.invariant

pub returns-clause-yes : goal.returns-clause-yes
returns-clause-yes g c =
    let keys = c.args.keys.now in
    let left = c.args.left.now in
    let same : length (files_in keys) ≡ length (map vec_items left) = file_count keys ∙ c.if-keys-left.false ∙ sym (length-map left vec_items) in
    λ _. all_of_them (files_in keys) (map vec_items left) c.loop-i.i same (omega (arith, length-map left vec_items, c.loop-i-test.false)) c.loop-i.invariant
