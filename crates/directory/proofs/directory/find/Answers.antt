use Rattle.std.proofs.Common.{rules}
use Rattle.std.proofs.lemmas.Fn.{always_returns_same}
use Rattle.directory.specs.Directory.{by_bytes}
use Rattle.directory.proofs.Linking.{found}
use Rattle.directory.proofs.directory.find.Goals as goal

pub returns : goal.returns
returns g c =
    found c.args.entries.now c.requires c.args.name.now c.binary_search_by.result c.binary_search_by.ensures.bound
    (c.binary_search_by.ensures.position (λ e. by_bytes e.name c.args.name.now) (always_returns_same _ _ _ (λ a r f called. search rules)))
