-- After a refusal the text begins with what it was.
use Rattle.std.proofs.Common.{◌≡◌, List, ℕ, ◌++◌, Ok, Err, Result}
use Rattle.std.specs.Prelude.{OnErr}
use Rattle.std.proofs.Math.Seq.{take-append_seam}
use Rattle.layout.specs.Format.{BeginsWith}
use Rattle.layout.specs.Fronts.{begins_then}
use Rattle.pending_list.proofs.reply.write_lists.Goals as goal

begins_append : (text front rest : List ℕ) → text ≡ front ++ rest → BeginsWith text front
begins_append text front rest e = rw e (take-append_seam front rest)

on_err : {A E : Type 0} (r : Result A E) (P : Type 0) → P → OnErr r P
on_err (Ok x) P p = tt
on_err (Err e) P p = p

pub returns-in_err-write_rows-clause-front : goal.returns-in_err-write_rows-clause-front
returns-in_err-write_rows-clause-front g c =
    let tag = begins_append c.tag.new.self c.args.writer.now _ c.in_ok-tag.ensures.ok in
    let count = begins_then c.u8.new.self _ _ (begins_append c.u8.new.self c.tag.new.self _ c.in_ok-u8.ensures.ok) tag in
    on_err _ _ (begins_then c.write_rows.new.writer _ _ c.write_rows.ensures.front count)

pub returns-in_err-u8-2-clause-front : goal.returns-in_err-u8-2-clause-front
returns-in_err-u8-2-clause-front g c =
    let tag = begins_append c.tag.new.self c.args.writer.now _ c.in_ok-tag.ensures.ok in
    let count = begins_then c.u8.new.self _ _ (begins_append c.u8.new.self c.tag.new.self _ c.in_ok-u8.ensures.ok) tag in
    let rows : BeginsWith c.write_rows.new.writer c.args.writer.now = begins_then c.write_rows.new.writer _ _ c.write_rows.ensures.front count in
    let same : BeginsWith c.u8-2.new.self c.args.writer.now = rw c.in_err-u8-2.ensures.err rows in
    on_err _ _ same

pub returns-clause-front : goal.returns-clause-front
returns-clause-front g c =
    let tag = begins_append c.tag.new.self c.args.writer.now _ c.in_ok-tag.ensures.ok in
    let count = begins_then c.u8.new.self _ _ (begins_append c.u8.new.self c.tag.new.self _ c.in_ok-u8.ensures.ok) tag in
    let rows = begins_then c.write_rows.new.writer _ _ c.write_rows.ensures.front count in
    let second = begins_then c.u8-2.new.self _ _ (begins_append c.u8-2.new.self c.write_rows.new.writer _ c.in_ok-u8-2.ensures.ok) rows in
    on_err _ _ (begins_then c.write_rows-2.new.writer _ _ c.write_rows-2.ensures.front second)
