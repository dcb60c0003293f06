use Rattle.std.proofs.Common.{ap, ◌∙◌}
use Rattle.directory.specs.Directory.{target_of}
use Rattle.file_session.proofs.Looks.{looked_so}
use Rattle.file_session.proofs.Walks.{no_entry, one_entry}
use Rattle.file_session.proofs.conversation.Conversation.entry.Goals as goal

pub returns-in_default-clause-looked : goal.returns-in_default-clause-looked
returns-in_default-clause-looked g c =
    looked_so _ c.in_ok-directory.ensures.looked (λ tree is. no_entry c.in_ok-directory.field-0 _ _ c.in_default.not-Some is)

pub returns-clause-looked : goal.returns-clause-looked
returns-clause-looked g c =
    let got = c.get.ensures ∙ ap (target_of c.in-Some.directory) c.as_bytes.ensures.value in
    looked_so _ c.in_ok-directory.ensures.looked (λ tree is. one_entry c.in_ok-directory.field-0 c.in-Some.directory _ _ _ c.in-Some.is is got)
