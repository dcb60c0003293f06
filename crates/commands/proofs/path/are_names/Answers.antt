use Rattle.std.proofs.Common.{rules, tests, ◌≡◌, true, false, arith}
use Rattle.std.proofs.lemmas.Iterator.{cases_from_all}
use Rattle.std.proofs.lemmas.Iterator.Splits.{YieldsList-from_str_split}
use Rattle.layout.specs.Types.{Bytes}
use Rattle.directory.specs.Name.{is_name}
use Rattle.commands.specs.Paths.{parts}
use Rattle.commands.proofs.PathText.{all_is}
use Rattle.commands.proofs.path.are_names.Goals as goal

pub returns : goal.returns
returns c =
    let e = c.split.ensures in
    let cases = cases_from_all _ _ _ (λ (x : Bytes). is_name x ≡ true) (λ (x : Bytes). is_name x ≡ false) c.all.ensures.ran
    (YieldsList-from_str_split 47 c.args.text.now (omega arith) e.text e.has_more e.pattern) (λ x r k. search (rules, tests)) (λ x r k. search (rules, tests)) in
    all_is is_name (parts c.args.text.now) c.all.result cases
