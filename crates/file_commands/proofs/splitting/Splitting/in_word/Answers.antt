use Rattle.std.proofs.Common.{◌∙◌, ◌≡◌, ◌∷◌, ◌++◌, [], ap, map, sym, true}
use Rattle.std.specs.Prelude.{string_bytes}
use Rattle.std.proofs.lemmas.List.{map-append}
use Rattle.file_commands.specs.Splitting.{is_blank}
use Rattle.file_commands.proofs.Splits.{word_ends}
use Rattle.file_commands.proofs.splitting.Splitting.in_word.Goals as goal

pub returns : goal.returns
returns c =
    let old = c.args.self.now in
    let blank : is_blank c.args.c ≡ true = sym c.is_blank.ensures ∙ c.if-not-is_blank.false in
    let more : map string_bytes c.push.new.self.items ≡ map string_bytes old.words.items ++ string_bytes old.word ∷ [] =
    ap (map string_bytes) c.in_ok-push.ensures.items ∙ map-append string_bytes old.words.items _
    ∙ ap (λ w. map string_bytes old.words.items ++ string_bytes w ∷ []) c.replace-word.ensures.value in
    record {
      sound = λ is. ap string_bytes c.replace-word.ensures.after ∙ c.new.ensures.bytes;
      same = λ rest. word_ends old.place (map string_bytes old.words.items) (map string_bytes c.push.new.self.items) (string_bytes old.word) (string_bytes c.replace-word.new.dest) c.args.c rest c.requires.place blank more;
    }
