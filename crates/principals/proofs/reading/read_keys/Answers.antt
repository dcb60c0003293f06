use Rattle.std.specs.Option.{option_copied}
use Rattle.principals.specs.TableText.{with_first}
use Rattle.principals.proofs.KeysRead.{keys_are}
use Rattle.principals.proofs.Parts.{first_kept}
use Rattle.principals.proofs.reading.read_keys.Goals as goal

pub returns-clause-reads : goal.returns-clause-reads
returns-clause-reads g c =
    let state = rw (c.from.ensures, c.new-later.ensures.items) at c.in_ok-read_rows_into.ensures.reads in
    keys_are (option_copied c.args.before) c.args.user c.args.count c.args.reader.now c.read_since.new.reader c.read_key.new.reader c.read_rows_into.new.reader c.in_ok-since.since c.in_ok-key.key c.read_rows_into.new.state c.in_ok-since.ensures.reads c.in_ok-key.ensures.reads state

pub returns-clause-user : goal.returns-clause-user
returns-clause-user g c =
    let state = rw (c.from.ensures, c.new-later.ensures.items) at c.in_ok-read_rows_into.ensures.reads in
    (first_kept (with_first c.args.user (record { since = c.in_ok-since.since; key = c.in_ok-key.key })) _ c.read_key.new.reader c.read_rows_into.new.state c.read_rows_into.new.reader state).0
