use Rattle.std.proofs.Common.{◌<◌, length, sym, ap, subst, ◌∙◌, arith}
use Rattle.principals.specs.Table.{Table}
use Rattle.principals.specs.TableText.{table}
use Rattle.principals.proofs.FitLaws.{member_fits}
use Rattle.principals.proofs.table.Table.open_row.Goals as goal

pub returns-clause-fits : goal.returns-clause-fits
returns-clause-fits g c = λ fits order.
    let t = c.args.self.now in
    let few : length t.rows < 65535 = omega (arith, c.if-len-ge-MOST_ROWS.false, c.len.ensures, c.self.inside.rows.ok, ap (λ (s : Table). length s.rows) c.self.view_is) in
    let listed = sym c.lists_user.ensures ∙ c.if-not-lists_user.false in
    let free = sym c.is_member_now.ensures ∙ c.if-is_member_now.false in
    subst table.Fits (sym c.in_ok-push.ensures.ok)
    (member_fits t.users t.rows c.args.number c.args.group c.args.user fits few order c.get.ensures.fits c.get-2.ensures.fits c.get-3.ensures.fits listed free)
