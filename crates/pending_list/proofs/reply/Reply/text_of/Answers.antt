-- What was written into an empty text is the spelling, and that of a reply has so many bytes at most.
use Rattle.std.proofs.Common.{◌≡◌, ◌≤◌, ◌<◌, ◌+◌, ◌++◌, [], ◌∷◌, ap, sym, subst, ◌∙◌, List, ℕ, length, None, arith}
use Rattle.std.specs.Prelude.{map}
use Rattle.std.proofs.lemmas.List.{length-map}
use Rattle.layout.specs.Laws.{is_text}
use Rattle.pending_list.specs.declared.reply.TheConstants.{REPLY_SIZE}
use Rattle.pending_list.specs.Reply.{Reply, reply}
use Rattle.pending_list.specs.ReplyLaws.{lawful_reply, size_of}
use Rattle.pending_list.proofs.Rows.{text_onto, answer_fits}
use Rattle.pending_list.proofs.reply.Reply.text_of.Given as given
use Rattle.pending_list.proofs.reply.Reply.text_of.Goals as goal

abbrev lists : (g : given.Over) → goal.After-finish g → Reply
lists g c = record { structures = c.args.structures.now; pending = map g.H.HasItem.item c.args.others.now ++ c.args.own.now ∷ [] }

written : (g : given.Over) (c : goal.After-finish g) → c.finish.result.items ≡ reply.spell (lists g c)
written g c =
    is_text reply lawful_reply (lists g c) c.finish.result.items
    (c.finish.ensures
    ∙ text_onto c.args.structures.now (map g.H.HasItem.item c.args.others.now) c.args.own.now c.new-writer.result c.tag.new.self c.u8.new.self c.write_rows.new.writer c.u8-2.new.self c.write_others.new.writer c.write_row.new.writer (length c.args.others.now + 1)
    c.new-writer.ensures c.in_ok-tag.ensures.ok c.in_ok-u8.ensures.ok c.in_ok-write_rows.ensures.ok (ap (λ k. k + 1) (sym (length-map c.args.others.now g.H.HasItem.item))) c.in_ok-u8-2.ensures.ok c.in_ok-write_others.ensures (c.in_ok-write_row.ensures.ok None))

pub returns-clause-text : goal.returns-clause-text
returns-clause-text g c = written g c

pub returns-clause-size : goal.returns-clause-size
returns-clause-size g c =
    let few : length (map g.H.HasItem.item c.args.others.now) < 64 = omega (arith, c.requires.few_others, length-map c.args.others.now g.H.HasItem.item) in
    let fits = answer_fits c.args.structures.now (map g.H.HasItem.item c.args.others.now) c.args.own.now c.requires.few_structures few c.structures_fit.ensures c.others_fit.ensures c.fits.ensures in
    subst (λ (t : List ℕ). length t ≤ REPLY_SIZE) (sym (written g c)) (size_of (lists g c) fits)
