use Rattle.std.proofs.Common.{◌≡◌, Err, Ok, arith, rules}
use Rattle.std.proofs.lemmas.Grind.{common_steps}
use Rattle.pending_list.specs.Reply.{reply}
use Rattle.pending_list.specs.ReplyLaws.{lawful_reply}
use Rattle.pending_list.proofs.reply.ReplyText.read_fields.Goals as goal

pub invariant_of-result : goal.invariant_of-result
invariant_of-result g c =
    let read : reply.read c.args.reader.now ≡ Ok (record { structures = c.in_ok-structures.structures.items; pending = c.in-Ok.pending.items }, c.read_list-2.new.reader) = search rules in
    (lawful_reply.takes _ _ _ c.tag.ensures.bytes read).fits

pub returns-clause-reads : goal.returns-clause-reads
returns-clause-reads g c = grind (arith, common_steps)

pub returns-in-Err-clause-reads : goal.returns-in-Err-clause-reads
returns-in-Err-clause-reads g c = λ some.
    let rest = c.in-Err.ensures some in
    let read : reply.read c.args.reader.now ≡ Err c.in-Err.error = search rules in read

pub returns-in_err-structures-clause-reads : goal.returns-in_err-structures-clause-reads
returns-in_err-structures-clause-reads g c = grind (arith, common_steps)

pub returns-in_err-tag-clause-reads : goal.returns-in_err-tag-clause-reads
returns-in_err-tag-clause-reads g c = grind (arith, common_steps)

pub returns-clause-bytes : goal.returns-clause-bytes
returns-clause-bytes g c = c.tag.ensures.bytes

pub returns-in-Err-clause-bytes : goal.returns-in-Err-clause-bytes
returns-in-Err-clause-bytes g c = c.tag.ensures.bytes

pub returns-in_err-structures-clause-bytes : goal.returns-in_err-structures-clause-bytes
returns-in_err-structures-clause-bytes g c = c.tag.ensures.bytes

pub returns-in_err-tag-clause-bytes : goal.returns-in_err-tag-clause-bytes
returns-in_err-tag-clause-bytes g c = c.tag.ensures.bytes
