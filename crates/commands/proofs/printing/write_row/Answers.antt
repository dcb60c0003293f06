use Rattle.std.proofs.Common.{◌++◌, codes, refl}
use Rattle.connection.proofs.Written.{on_err, appends_both, begins_first, begins_second, second_err, second_ok}
use Rattle.commands.specs.Answers.{kind_text, target_text}
use Rattle.commands.specs.Quoting.{shown_name}
use Rattle.commands.proofs.printing.write_row.Goals as goal

pub returns-in_err-write_kind-clause-err : goal.returns-in_err-write_kind-clause-err
returns-in_err-write_kind-clause-err g c =
    let kind = kind_text c.args.kind in
    let target = target_text c.args.target in
    let name = shown_name c.args.name.now in
    on_err _ _ (begins_first _ _ (kind ++ target ++ name) (codes "\n") (begins_first _ _ (kind ++ target) name (begins_first _ _ kind target c.in_err-write_kind.ensures.err)))

pub returns-in_err-write_target-clause-err : goal.returns-in_err-write_target-clause-err
returns-in_err-write_target-clause-err g c =
    let kind = kind_text c.args.kind in
    let target = target_text c.args.target in
    let name = shown_name c.args.name.now in
    on_err _ _ (begins_first _ _ (kind ++ target ++ name) (codes "\n") (begins_first _ _ (kind ++ target) name
    (begins_second _ _ _ kind target c.in_ok-write_kind.ensures.ok c.in_err-write_target.ensures.err)))

pub returns-in_err-write_name-clause-err : goal.returns-in_err-write_name-clause-err
returns-in_err-write_name-clause-err g c =
    let kind = kind_text c.args.kind in
    let target = target_text c.args.target in
    let name = shown_name c.args.name.now in
    on_err _ _ (begins_first _ _ (kind ++ target ++ name) (codes "\n")
    (begins_second _ _ _ (kind ++ target) name (appends_both _ _ _ kind target c.in_ok-write_kind.ensures.ok c.in_ok-write_target.ensures.ok) c.in_err-write_name.ensures.err))

pub returns-clause-ok : goal.returns-clause-ok
returns-clause-ok g c =
    let kind = kind_text c.args.kind in
    let target = target_text c.args.target in
    let name = shown_name c.args.name.now in
    second_ok _ _ _ _ (kind ++ target ++ name) (codes "\n") _ refl
    (appends_both _ _ _ (kind ++ target) name (appends_both _ _ _ kind target c.in_ok-write_kind.ensures.ok c.in_ok-write_target.ensures.ok) c.in_ok-write_name.ensures.ok) c.write_whole.ensures.ok

pub returns-clause-err : goal.returns-clause-err
returns-clause-err g c =
    let kind = kind_text c.args.kind in
    let target = target_text c.args.target in
    let name = shown_name c.args.name.now in
    second_err _ _ _ _ (kind ++ target ++ name) (codes "\n") _ refl
    (appends_both _ _ _ (kind ++ target) name (appends_both _ _ _ kind target c.in_ok-write_kind.ensures.ok c.in_ok-write_target.ensures.ok) c.in_ok-write_name.ensures.ok) c.write_whole.ensures.err
