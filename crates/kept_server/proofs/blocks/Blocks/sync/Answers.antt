use Rattle.std.proofs.Common.{rules, ◌≡◌, true, subst}
use Rattle.block_file.specs.Blocks.{BlockFile}
use Rattle.kept_server.specs.Synced.{AllSafe}
use Rattle.kept_server.proofs.blocks.Blocks.sync.Goals as goal

pub returns-else-not-self-clause-safe : goal.returns-else-not-self-clause-safe
returns-else-not-self-clause-safe g c =
    let synced : c.self.inside.is_synced ≡ true = search rules in
    let usable : c.self.inside.file.usable ≡ true = search rules in
    let seen : c.self.inside.file ≡ c.args.self.now = search rules in
    subst (λ (b : BlockFile). g.T.Storage.tells ≡ true → AllSafe b.file) seen (c.self.invariant synced usable)
