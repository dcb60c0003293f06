use Rattle.std.proofs.Common.{◌≡◌, take}
use Rattle.principals.specs.TableText.{table as table_format, NoneAfter}
use Rattle.update_cert.specs.Tables.{table_after}
use Rattle.update_cert.specs.TableVoids.{table_voids}
use Rattle.update_cert.proofs.tables.apply_each.Given as goal

abbrev pub invariant-loop-place : goal.invariant-loop-place
invariant-loop-place g l = record {
  table : l.table ≡ table_after l.cert.user l.cert.number (take l.place l.cert.changes) l.fn.table;
  voids : l.numbers.items ≡ table_voids 1 l.cert.user l.cert.number (take l.place l.cert.changes) l.fn.table;
  fits : table_format.Fits l.fn.table → NoneAfter l.cert.number l.fn.table → table_format.Fits l.table;
}
