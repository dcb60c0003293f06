use Rattle.std.proofs.Common.{◌+◌, ◌∙◌, List, Option, ap, sym}
use Rattle.std.specs.Prelude.{◌++◌, ◌∷◌, [], reverse, take}
use Rattle.std.proofs.lemmas.List.{take_all, take_more}
use Rattle.honest_runs.specs.HonestRuns.{Exchange}
use Rattle.honest_runs.specs.Town.{is_declined}
use Rattle.honest_runs.proofs.Declining.{declined_more}
use Rattle.honest_runs.proofs.exchange.was_declined.Goals as goal

pub loop-exchange-preserved : goal.loop-exchange-preserved
loop-exchange-preserved g c =
    let xs = c.args.exchanges.now in
    let i = c.loop-exchange.exchange-index in
    let x = c.exchange-item.result in
    declined_more c.args.text.now (take i xs) (take (i + 1) xs) x
    (take_more xs i x c.loop-exchange-test.true ∙ ap (λ (y : Option Exchange). take i xs ++ y ∷ []) (sym c.exchange-item.is))
    c.loop-exchange.declined c.still_declined-declined.result c.loop-exchange.invariant c.still_declined-declined.ensures

pub returns : goal.returns
returns g c =
    c.loop-exchange.invariant
    ∙ ap (λ (xs : List (Option Exchange)). is_declined c.args.text.now (reverse xs)) (take_all c.loop-exchange.exchange-index c.args.exchanges.now c.loop-exchange-test.false)
