use Rattle.std.proofs.Common.{refl}
use Rattle.std.specs.Prelude.{encode_utf8}
use Rattle.std.proofs.lemmas.Bool.{ne_eqb}
use Rattle.std.proofs.lemmas.Result.{on_ok_weaker}
use Rattle.file_commands.specs.declared.splitting.Place.TheVariants.{Single}
use Rattle.file_commands.proofs.Splits.{reads_kept}
use Rattle.file_commands.proofs.splitting.Splitting.in_single.Goals as goal

pub returns : goal.returns
returns c =
    on_ok_weaker c.keep.result (λ k. reads_kept c.args.self.now c.keep.new.self c.args.c (encode_utf8 c.args.c) Single Single
    c.requires.place tt tt (λ rest. rw (ne_eqb c.args.c 39 c.if-c-eq39.false) refl) k) c.keep.ensures
