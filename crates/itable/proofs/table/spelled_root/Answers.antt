use Rattle.std.proofs.Common.{◌≡◌, [], rules}
use Rattle.layout.specs.Laws.{is_text}
use Rattle.itable.specs.Root.{Root, root}
use Rattle.itable.specs.RootLaws.{lawful_root}
use Rattle.itable.proofs.table.spelled_root.Goals as goal

pub returns : goal.returns
returns g c =
    let whole : Root = record { principal = c.args.principal; chunks = c.args.chunks.now } in
    let written : c.finish.result.items ≡ root.onto [] whole = search rules in
    is_text root lawful_root whole c.finish.result.items written
