-- The head, and then the text.
use Rattle.std.proofs.Common.{rules, ◌≡◌, ◌++◌}
use Rattle.server_workers.specs.Records.{record_of}
use Rattle.connection.proofs.Written.{on_err, begins_first, begins_as, second_ok, second_err}
use Rattle.server_workers.proofs.writing.write_record.Goals as goal

pub returns-in_err-write_whole-clause-err : goal.returns-in_err-write_whole-clause-err
returns-in_err-write_whole-clause-err g c =
    let is : c.head_of.result ++ c.text-text.result.now ≡ record_of c.args.call.now = search rules in
    on_err _ _ (begins_as _ _ _ _ (begins_first _ _ _ _ c.in_err-write_whole.ensures.err) is)

pub returns-clause-ok : goal.returns-clause-ok
returns-clause-ok g c =
    let is : c.head_of.result ++ c.text-text.result.now ≡ record_of c.args.call.now = search rules in
    second_ok _ _ _ _ _ _ _ is c.in_ok-write_whole.ensures.ok c.write_whole-2.ensures.ok

pub returns-clause-err : goal.returns-clause-err
returns-clause-err g c =
    let is : c.head_of.result ++ c.text-text.result.now ≡ record_of c.args.call.now = search rules in
    second_err _ _ _ _ _ _ _ is c.in_ok-write_whole.ensures.ok c.write_whole-2.ensures.err
