-- After a refusal the text begins with what it was.
use Rattle.std.proofs.Common.{◌≡◌, List, ℕ, ◌++◌, Ok, Err, Result}
use Rattle.std.specs.Prelude.{OnErr}
use Rattle.std.proofs.Math.Seq.{take-append_seam}
use Rattle.layout.specs.Format.{BeginsWith}
use Rattle.layout.specs.Fronts.{begins_then}
use Rattle.update_cert.proofs.cert.write_cert.Goals as goal

begins_append : (text front rest : List ℕ) → text ≡ front ++ rest → BeginsWith text front
begins_append text front rest e = rw e (take-append_seam front rest)

on_err : {A E : Type 0} (r : Result A E) (P : Type 0) → P → OnErr r P
on_err (Ok x) P p = tt
on_err (Err e) P p = p

pub returns-in_err-version-clause-front : goal.returns-in_err-version-clause-front
returns-in_err-version-clause-front g c =
    let tag = begins_append c.tag.new.self c.args.writer.now _ c.in_ok-tag.ensures.ok in
    let user = begins_then c.user.new.self _ _ (begins_append c.user.new.self c.tag.new.self _ c.in_ok-user.ensures.ok) tag in
    let same : BeginsWith c.version.new.self c.args.writer.now = rw c.in_err-version.ensures.err user in
    on_err _ _ same

pub returns-in_err-digest-clause-front : goal.returns-in_err-digest-clause-front
returns-in_err-digest-clause-front g c =
    let tag = begins_append c.tag.new.self c.args.writer.now _ c.in_ok-tag.ensures.ok in
    let user = begins_then c.user.new.self _ _ (begins_append c.user.new.self c.tag.new.self _ c.in_ok-user.ensures.ok) tag in
    let number = begins_then c.version.new.self _ _ (begins_append c.version.new.self c.user.new.self _ c.in_ok-version.ensures.ok) user in
    let same : BeginsWith c.digest.new.self c.args.writer.now = rw c.in_err-digest.ensures.err number in
    on_err _ _ same

pub returns-in_err-u8-clause-front : goal.returns-in_err-u8-clause-front
returns-in_err-u8-clause-front g c =
    let tag = begins_append c.tag.new.self c.args.writer.now _ c.in_ok-tag.ensures.ok in
    let user = begins_then c.user.new.self _ _ (begins_append c.user.new.self c.tag.new.self _ c.in_ok-user.ensures.ok) tag in
    let number = begins_then c.version.new.self _ _ (begins_append c.version.new.self c.user.new.self _ c.in_ok-version.ensures.ok) user in
    let last = begins_then c.digest.new.self _ _ (begins_append c.digest.new.self c.version.new.self _ c.in_ok-digest.ensures.ok) number in
    let same : BeginsWith c.u8.new.self c.args.writer.now = rw c.in_err-u8.ensures.err last in
    on_err _ _ same

pub returns-clause-front : goal.returns-clause-front
returns-clause-front g c =
    let tag = begins_append c.tag.new.self c.args.writer.now _ c.in_ok-tag.ensures.ok in
    let user = begins_then c.user.new.self _ _ (begins_append c.user.new.self c.tag.new.self _ c.in_ok-user.ensures.ok) tag in
    let number = begins_then c.version.new.self _ _ (begins_append c.version.new.self c.user.new.self _ c.in_ok-version.ensures.ok) user in
    let last = begins_then c.digest.new.self _ _ (begins_append c.digest.new.self c.version.new.self _ c.in_ok-digest.ensures.ok) number in
    let count = begins_then c.u8.new.self _ _ (begins_append c.u8.new.self c.digest.new.self _ c.in_ok-u8.ensures.ok) last in
    on_err _ _ (begins_then c.write_rows.new.writer _ _ c.write_rows.ensures.front count)
