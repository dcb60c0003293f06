use Rattle.std.proofs.Common.{◌≡◌, ◌++◌, Err, sym, ap, ◌∙◌, subst, refl}
use Rattle.wire.specs.Frame.{frame}
use Rattle.wire.specs.Stream.{BeginsFrame, BeginsAtFault}
use Rattle.wire.proofs.Streams.{reads_frame, range_is_fault, neither_begins}
use Rattle.wire.proofs.stream.Frames.next_body.Goals as goal

pub returns-in-Ok-clause-frame : goal.returns-in-Ok-clause-frame
returns-in-Ok-clause-frame g c =
    let here : c.args.self.now ≡ c.new-reader.result = sym c.waiting.ensures ∙ sym c.new-reader.ensures in
    let t = reads_frame c.new-reader.result c.first_body.ensures.bytes c.in-Ok.body.now c.first_body.new.reader c.in-Ok.ensures.reads in
    (t.0, here ∙ t.1 ∙ ap (λ l. frame.spell c.in-Ok.body.now ++ l) (sym c.left.ensures))

pub returns-in-Err-clause-err : goal.returns-in-Err-clause-err
returns-in-Err-clause-err g c =
    let here : c.args.self.now ≡ c.new-reader.result = sym c.waiting.ensures ∙ sym c.new-reader.ensures in
    let read = c.in-Err.ensures.reads c.in-Err.ensures.no_memory ∙ ap (λ f. Err f) c.if-is_range.ensures in
    (refl, subst BeginsAtFault (sym here) (range_is_fault c.new-reader.result c.first_body.ensures.bytes read))

pub returns-in-Err-2-clause-none : goal.returns-in-Err-2-clause-none
returns-in-Err-2-clause-none g c =
    let here : c.args.self.now ≡ c.new-reader.result = sym c.waiting.ensures ∙ sym c.new-reader.ensures in
    subst (λ bytes. (¬ BeginsFrame bytes) × (¬ BeginsAtFault bytes)) (sym here) (neither_begins c.new-reader.result c.in-Err.fault c.if-is_range.ensures (c.in-Err.ensures.reads c.in-Err.ensures.no_memory))
