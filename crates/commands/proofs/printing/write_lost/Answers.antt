use Rattle.std.proofs.Common.{◌++◌, codes, append_assoc}
use Rattle.std.specs.List.{flat_map}
use Rattle.connection.proofs.Written.{on_err, appends_both, begins_first, begins_second, second_err}
use Rattle.commands.specs.Answers.{number_text}
use Rattle.commands.proofs.printing.write_lost.Goals as goal

pub returns-in_err-write_whole-clause-err : goal.returns-in_err-write_whole-clause-err
returns-in_err-write_whole-clause-err g c =
    on_err _ _ (begins_first _ _ (codes "lost") (flat_map number_text c.args.numbers.now ++ codes "\n") c.in_err-write_whole.ensures.err)

pub returns-in_err-print_all-clause-err : goal.returns-in_err-print_all-clause-err
returns-in_err-print_all-clause-err g c =
    let numbers = flat_map number_text c.args.numbers.now in
    on_err _ _ (begins_second _ _ _ (codes "lost") (numbers ++ codes "\n") c.in_ok-write_whole.ensures.ok (begins_first _ _ numbers (codes "\n") c.in_err-print_all.ensures.err))

pub returns-clause-err : goal.returns-clause-err
returns-clause-err g c =
    let numbers = flat_map number_text c.args.numbers.now in
    second_err _ _ _ _ (codes "lost" ++ numbers) (codes "\n") _ (append_assoc (codes "lost") numbers (codes "\n"))
    (appends_both _ _ _ (codes "lost") numbers c.in_ok-write_whole.ensures.ok c.in_ok-print_all.ensures.ok) c.write_whole-2.ensures.err
