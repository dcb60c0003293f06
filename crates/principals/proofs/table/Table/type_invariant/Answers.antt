use Rattle.std.proofs.Common.{◌≤◌, ◌∷◌, length, subst}
use Rattle.principals.specs.Table.{Table}
use Rattle.principals.specs.TableText.{table}
use Rattle.principals.specs.declared.table.TheConstants.{TABLE_SIZE}
use Rattle.principals.proofs.SizeLaws.{text_size}
use Rattle.principals.proofs.Users.{have_text}
use Rattle.principals.proofs.table.Table.type_invariant.Goals as goal

pub returns : goal.returns
returns g c =
    let inside = c.self.inside in
    subst (λ (t : Table). length (table.spell t) ≤ TABLE_SIZE) c.self.view_is
    (text_size (record { users = inside.superuser ∷ inside.others.items; rows = inside.rows.items }) (have_text (inside.superuser ∷ inside.others.items) c.self.invariant.listed) c.self.invariant.few)
