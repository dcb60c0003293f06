use Rattle.std.proofs.Common.{◌≡◌, ◌<◌, ◌∙◌, get_or, length, map, refl, sym, arith}
use Rattle.std.proofs.lemmas.List.{length-map}
use Rattle.std.specs.Vec.{vec_items}
use Rattle.lms_sign.specs.Secret.{Secret}
use Rattle.client_steps.specs.Steps.{Device}
use Rattle.client_runs.proofs.Places.{all_anew, none_anew, one_more_anew, secrets_set, text_in}
use Rattle.client_runs.proofs.crashing.start_each_over.Goals as goal

pub loop-i-init : goal.loop-i-init
loop-i-init g c = record { anew = none_anew c.args.keys.now (map vec_items c.args.left.now); secrets = refl }

pub loop-i-preserved : goal.loop-i-preserved
loop-i-preserved g c =
    let keys = c.loop-i.keys in
    let left = c.args.left.now in
    let i = c.loop-i.i in
    let found = c.index-keys-i.result in
    let made : Secret × Device = ((get_or keys i found).0, c.start_over.new.self) in
    let inside : i < length keys = omega (arith, c.requires, c.loop-i.auto.keys, c.loop-i-test.true) in
    record {
      anew = one_more_anew keys (map vec_items left) i made c.deref.result.now inside (omega (arith, length-map left vec_items, c.loop-i-test.true))
          (text_in left i c.index-left-i.result c.loop-i-test.true c.index-left-i.is ∙ sym c.deref.ensures.value) c.in_ok-start_over.ensures c.loop-i.invariant.anew;
      secrets = secrets_set keys i made found inside refl ∙ c.loop-i.invariant.secrets;
    }

pub returns-clause-files : goal.returns-clause-files
returns-clause-files g c =
    let left = c.args.left.now in
    all_anew c.loop-i.keys (map vec_items left) c.loop-i.i (c.loop-i.auto.keys ∙ c.requires ∙ sym (length-map left vec_items)) (omega (arith, length-map left vec_items, c.loop-i-test.false)) c.loop-i.invariant.anew
