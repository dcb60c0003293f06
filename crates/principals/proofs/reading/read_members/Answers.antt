use Rattle.std.proofs.Common.{◌≡◌, Ok, rules, ap, subst, ◌∙◌}
use Rattle.layout.specs.Format.{read_rows, read_state}
use Rattle.principals.specs.Table.{Table}
use Rattle.principals.specs.TableText.{member_rows, without_rows}
use Rattle.principals.proofs.Parts.{made, rows_in, rows_read, users_kept}
use Rattle.principals.proofs.reading.read_members.Goals as goal

pub returns-clause-reads : goal.returns-clause-reads
returns-clause-reads g c =
    let us = c.args.table.users in
    let start : c.args.table ≡ without_rows us = ap (made us) c.requires in
    let state = subst (λ (t : Table). read_state member_rows c.from.result t c.u16_in.new.self ≡ Ok (c.read_rows_into.new.state, c.read_rows_into.new.reader)) start c.in_ok-read_rows_into.ensures.reads in
    let rows : read_rows member_rows c.from.result (without_rows us) c.u16_in.new.self ≡ Ok (c.read_rows_into.new.state.rows, c.read_rows_into.new.reader) = rows_read us c.from.result c.u16_in.new.self ∙ ap rows_in state in
    let same : read_rows member_rows c.in_ok-count.count (without_rows us) c.u16_in.new.self ≡ Ok (c.filling.inside.table.rows, c.read_rows_into.new.reader) = rw (← c.from.ensures, ap (λ (t : Table). t.rows) c.filling.view_is) rows in
    search rules

pub returns-clause-users : goal.returns-clause-users
returns-clause-users g c =
    let us = c.args.table.users in
    let start : c.args.table ≡ without_rows us = ap (made us) c.requires in
    let state = subst (λ (t : Table). read_state member_rows c.from.result t c.u16_in.new.self ≡ Ok (c.read_rows_into.new.state, c.read_rows_into.new.reader)) start c.in_ok-read_rows_into.ensures.reads in
    ap (λ (t : Table). t.users) c.filling.view_is ∙ users_kept us c.from.result c.u16_in.new.self c.read_rows_into.new.state c.read_rows_into.new.reader state
