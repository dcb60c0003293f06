use Rattle.std.proofs.Common.{◌∙◌, map, sym}
use Rattle.std.specs.Prelude.{string_bytes}
use Rattle.std.proofs.lemmas.Bool.{ne_eqb}
use Rattle.std.proofs.lemmas.Result.{on_ok_weaker}
use Rattle.file_commands.proofs.Splits.{word_begins}
use Rattle.file_commands.proofs.splitting.Splitting.between.Goals as goal

pub returns : goal.returns
returns c =
    let old = c.args.self.now in
    on_ok_weaker c.begin.result (λ b. record {
      sound = b.sound;
      same = λ rest.
          word_begins old.place (map string_bytes old.words.items) (string_bytes old.word) c.args.c rest c.requires.place
          (c.requires.sound c.requires.place) (sym c.is_blank.ensures ∙ c.if-is_blank.false) (ne_eqb c.args.c 35 c.if-c-eq35.false) ∙ b.same rest;
    }) c.begin.ensures
