use Rattle.std.proofs.Common.{ap}
use Rattle.principals.specs.TableText.{Users}
use Rattle.principals.proofs.KeysRead.{several_are}
use Rattle.principals.proofs.reading.read_several.Goals as goal

pub returns : goal.returns
returns g c =
    let state = rw (c.from-count.ensures, c.new-came.ensures.items) at c.in_ok-read_rows_into.ensures.reads in
    record {
      reads = rw (ap (λ (s : Users). s.came) c.coming.view_is) (several_are c.args.reader.now c.u8_in.new.self c.read_rows_into.new.reader c.in_ok-u8_in.field-0 c.read_rows_into.new.state c.in_ok-u8_in.ensures.reads state);
    }
