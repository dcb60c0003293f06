use Rattle.std.proofs.lemmas.Bool.{ne_eqb}
use Rattle.std.proofs.lemmas.Result.{on_ok_weaker}
use Rattle.file_commands.proofs.Splits.{begins_kept}
use Rattle.file_commands.proofs.splitting.Splitting.begin.Goals as goal

pub returns-else-c-eq92 : goal.returns-else-c-eq92
returns-else-c-eq92 c = on_ok_weaker c.keep.result (λ k. begins_kept c.args.self.now c.keep.new.self c.args.c c.requires
    (ne_eqb c.args.c 39 c.if-c-eq39.false) (ne_eqb c.args.c 34 c.if-c-eq34.false) (ne_eqb c.args.c 92 c.if-c-eq92.false) k) c.keep.ensures
