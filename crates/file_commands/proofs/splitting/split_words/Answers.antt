use Rattle.std.proofs.Common.{◌≡◌, ◌∙◌, [], ap, sym, map-id}
use Rattle.std.proofs.lemmas.List.{append-nil}
use Rattle.std.proofs.lemmas.Iterator.{YieldsList-from_chars}
use Rattle.std.proofs.lemmas.Iterator.Consumers.{YieldsList-end}
use Rattle.std.specs.Prelude.{chars}
use Rattle.std.proofs.lemmas.Result.{IfOk-weaker}
use Rattle.file_commands.specs.Splitting.{words_in}
use Rattle.file_commands.specs.Gathering.{gathered}
use Rattle.file_commands.proofs.splitting.split_words.Goals as goal

pub returns-clause-words : goal.returns-clause-words
returns-clause-words c =
    let end = YieldsList-end (YieldsList-from_chars c.args.line.now c.utf8.line cc) c.loop-c.yielded _ c.loop-c.yielded_by _ _ c.in-None.is c.next.ensures.steps in
    let all : c.loop-c.yielded ≡ chars c.args.line.now = sym (map-id c.loop-c.yielded) ∙ end.0 in
    let same : words_in (chars c.args.line.now) ≡ gathered c.loop-c.splitting [] =
    ap words_in (sym all ∙ sym (append-nil c.loop-c.yielded)) ∙ c.loop-c.invariant.1 [] in
    IfOk-weaker c.finish.result _ _ (λ words h. same ∙ h) c.finish.ensures.words

pub returns-clause-unclosed : goal.returns-clause-unclosed
returns-clause-unclosed c =
    let end = YieldsList-end (YieldsList-from_chars c.args.line.now c.utf8.line cc) c.loop-c.yielded _ c.loop-c.yielded_by _ _ c.in-None.is c.next.ensures.steps in
    let all : c.loop-c.yielded ≡ chars c.args.line.now = sym (map-id c.loop-c.yielded) ∙ end.0 in
    let same : words_in (chars c.args.line.now) ≡ gathered c.loop-c.splitting [] =
    ap words_in (sym all ∙ sym (append-nil c.loop-c.yielded)) ∙ c.loop-c.invariant.1 [] in
    λ is. same ∙ c.finish.ensures.unclosed is
