use Rattle.std.proofs.Common.{refl}
use Rattle.std.specs.Prelude.{encode_utf8}
use Rattle.std.proofs.lemmas.Result.{on_ok_weaker}
use Rattle.file_commands.specs.declared.splitting.Place.TheVariants.{Escaped, Word}
use Rattle.file_commands.proofs.Splits.{reads_kept}
use Rattle.file_commands.proofs.splitting.Splitting.take.Goals as goal

pub returns-in-Escaped : goal.returns-in-Escaped
returns-in-Escaped c =
    on_ok_weaker c.keep.result (λ k. reads_kept c.args.self.now c.keep.new.self c.args.c (encode_utf8 c.args.c) Escaped Word
    c.in-Escaped.is tt tt (λ rest. refl) k) c.keep.ensures
