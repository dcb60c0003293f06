use Rattle.std.proofs.Common.{rules, ◌≡◌, [], length, map, sym, ap, ◌∙◌, arith, length-append}
use Rattle.std.proofs.lemmas.List.{length-map}
use Rattle.server_log.specs.KeptLog.{record_of}
use Rattle.kept_server.proofs.Ends.{same_ends}
use Rattle.kept_server.proofs.Pushes.{all_taken}
use Rattle.kept_server.proofs.waiting.Waiting.take.Goals as goal

pub invariant_of-self : goal.invariant_of-self
invariant_of-self g c =
    let none : c.replace-records.new.dest.items ≡ [] = search rules in
    all_taken _ _ none

pub returns-clause-taken : goal.returns-clause-taken
returns-clause-taken g c =
    let i = c.self.invariant in
    let b = c.in_ok-more.ensures.begins in
    let rest = b.0.0 in
    let split = b.0.1 ∙ c.so_far-all.ensures ∙ i.2 in
    let more : c.in_ok-more.more ≡ length c.self.inside.records.items = search rules in
    let size : length rest ≡ length i.1 = omega (arith, more, b.1, ap length b.0.1, length-append c.args.in_log.now rest, ap length i.3, length-map i.1 record_of) in
    let same = same_ends c.args.in_log.now rest i.0 i.1 split size in
    let were : c.replace-records.result.items ≡ c.self.inside.records.items = search rules in
    (rest, c.again-events.ensures ∙ sym b.0.1, were ∙ i.3 ∙ ap (map record_of) (sym same.1))
