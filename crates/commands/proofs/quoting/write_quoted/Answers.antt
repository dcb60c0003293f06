use Rattle.std.proofs.Common.{◌++◌, codes, append_assoc}
use Rattle.std.specs.List.{flat_map}
use Rattle.connection.proofs.Written.{on_err, appends_both, begins_first, begins_second, second_err}
use Rattle.commands.specs.Quoting.{escaped}
use Rattle.commands.proofs.quoting.write_quoted.Goals as goal

pub returns-in_err-write_whole-clause-err : goal.returns-in_err-write_whole-clause-err
returns-in_err-write_whole-clause-err g c =
    on_err _ _ (begins_first _ _ (codes "\"") (flat_map escaped c.args.name.now ++ codes "\"") c.in_err-write_whole.ensures.err)

pub returns-in_err-write_all_escaped-clause-err : goal.returns-in_err-write_all_escaped-clause-err
returns-in_err-write_all_escaped-clause-err g c =
    let text = flat_map escaped c.args.name.now in
    on_err _ _ (begins_second _ _ _ (codes "\"") (text ++ codes "\"") c.in_ok-write_whole.ensures.ok (begins_first _ _ text (codes "\"") c.in_err-write_all_escaped.ensures.err))

pub returns-clause-err : goal.returns-clause-err
returns-clause-err g c =
    let text = flat_map escaped c.args.name.now in
    second_err _ _ _ _ (codes "\"" ++ text) (codes "\"") _ (append_assoc (codes "\"") text (codes "\""))
    (appends_both _ _ _ (codes "\"") text c.in_ok-write_whole.ensures.ok c.in_ok-write_all_escaped.ensures.ok) c.write_whole-2.ensures.err
