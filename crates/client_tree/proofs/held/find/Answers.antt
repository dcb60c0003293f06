use Rattle.std.proofs.Common.{rules}
use Rattle.std.proofs.lemmas.Fn.{always_returns_same}
use Rattle.client_tree.specs.Held.{by_bytes}
use Rattle.client_tree.proofs.HeldLaws.{found}
use Rattle.client_tree.proofs.held.find.Goals as goal

pub returns : goal.returns
returns g c =
    found c.args.blocks.now c.requires c.args.digest c.binary_search_by.result c.binary_search_by.ensures.bound
    (c.binary_search_by.ensures.position (λ b. by_bytes b.digest c.args.digest) (always_returns_same _ _ _ (λ a r f called. search rules)))
