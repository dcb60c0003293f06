use Rattle.std.proofs.Common.{◌≡◌, ◌∙◌, refl, sym, true}
use Rattle.std.specs.Prelude.{encode_utf8}
use Rattle.std.proofs.lemmas.Result.{on_ok_weaker}
use Rattle.file_commands.specs.declared.splitting.Place.TheVariants.{Double, DoubleEscaped}
use Rattle.file_commands.specs.Splitting.{is_escapable}
use Rattle.file_commands.proofs.Splits.{reads_both, reads_kept}
use Rattle.file_commands.proofs.splitting.Splitting.after_backslash.Goals as goal

pub returns-then-is_escapable : goal.returns-then-is_escapable
returns-then-is_escapable c =
    let escapable : is_escapable c.args.c ≡ true = sym c.is_escapable.ensures ∙ c.if-is_escapable.true in
    on_ok_weaker c.keep.result (λ k. reads_kept c.args.self.now c.keep.new.self c.args.c (encode_utf8 c.args.c) DoubleEscaped Double
    c.requires.place tt tt (λ rest. rw (escapable) refl) k) c.keep.ensures

pub returns : goal.returns
returns c = on_ok_weaker c.keep-3.result (λ k. reads_both c.args.self.now c.keep-2.new.self c.keep-3.new.self c.args.c c.requires.place
    (sym c.is_escapable.ensures ∙ c.if-is_escapable.false) c.in_ok-keep.ensures k) c.keep-3.ensures
