use Rattle.std.proofs.Common.{ap, ◌∙◌}
use Rattle.layout.specs.Types.{Digest}
use Rattle.update_cert.specs.Change.{Change, Put}
use Rattle.update_cert.specs.World.{File}
use Rattle.client_verify.specs.Laid.{is_laid}
use Rattle.file_session.specs.Declaring.{texts_of_content}
use Rattle.file_session.proofs.Plans.{begins_one, file_is_laid}
use Rattle.file_session.proofs.planning.put.Goals as goal

pub returns-clause-can_begin : goal.returns-clause-can_begin
returns-clause-can_begin g c =
    let bytes = c.args.bytes.now in
    let laid = texts_of_content (File bytes) in
    let digest = c.in_ok-inode.ensures.inode in
    let is = ap (λ (ch : Change Digest). is_laid laid ch.action) c.at.ensures ∙ ap (λ (d : Digest). is_laid laid (Put d)) digest ∙ file_is_laid bytes c.requires in
    begins_one laid _ _ _ c.at.result c.in_ok-inode.ensures.texts c.new-changes.ensures.items c.in_ok-push.ensures.items is
