use Rattle.std.proofs.Common.{ap, ◌∙◌}
use Rattle.std.proofs.lemmas.Result.{err_from_is_err_and}
use Rattle.directory.specs.Directory.{target_of}
use Rattle.file_session.proofs.Looks.{looked_next, looked_so}
use Rattle.file_session.proofs.Walks.{new_place, no_place, old_place}
use Rattle.file_session.proofs.conversation.Conversation.site_in.Goals as goal

pub returns-in_default-clause-looked : goal.returns-in_default-clause-looked
returns-in_default-clause-looked g c =
    looked_so _ c.in_ok-entries.ensures.looked (λ tree is. no_place tree _ _ c.in_ok-entries.field-0 _ c.in_default.not-Some is)

pub returns-in_default-get-clause-looked : goal.returns-in_default-get-clause-looked
returns-in_default-get-clause-looked g c =
    let got = c.get.ensures ∙ ap (target_of c.in-Some.entries) c.as_bytes.ensures.value in
    looked_so _ c.in_ok-entries.ensures.looked (λ tree is. new_place tree _ _ c.in_ok-entries.field-0 c.in-Some.entries _ c.get.result c.in-Some.is is got c.in_default-get.not-Some)

pub returns-in_err-kind-clause-looked : goal.returns-in_err-kind-clause-looked
returns-in_err-kind-clause-looked g c =
    let p = err_from_is_err_and c.from_residual-in_err-kind.result c.from_residual-in_err-kind.ensures.1 in
    rw (p.1, p.2) (looked_next _ c.in_ok-entries.ensures.looked c.in_err-kind.ensures.looked (λ tree p r. tt))

pub returns-clause-looked : goal.returns-clause-looked
returns-clause-looked g c =
    let got = c.get.ensures ∙ ap (target_of c.in-Some.entries) c.as_bytes.ensures.value in
    looked_next _ c.in_ok-entries.ensures.looked c.in_ok-kind.ensures.looked (λ tree is r.
    old_place tree _ _ c.in_ok-entries.field-0 c.in-Some.entries _ c.get.result c.in-Some-get.target c.stands_for.result c.in-Some.is is got c.in-Some-get.is (c.stands_for.ensures _ r))
