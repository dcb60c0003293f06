use Rattle.std.proofs.Common.{[], ◌∷◌, refl}
use Rattle.update_cert.specs.Change.{AddUser, AddMember, DropMember, SetKey, of_table}
use Rattle.commands.specs.Asked.{Writes, all_on_table}
use Rattle.file_session.proofs.Choices.{at_once_is, of_add_member, of_add_name, of_add_user, of_admin, of_cat, of_details, of_drop_member, of_drop_name, of_link, of_link_not, of_ls, of_mkdir, of_put, of_put_all, of_rm, of_set_key, on_err, planned_as, planned_by, planned_now}
use Rattle.file_session.proofs.Looks.{quiet}
use Rattle.file_session.proofs.Runs.{went_none}
use Rattle.file_session.proofs.conversation.Conversation.plan.Goals as goal

pub returns-in-Ls-clause-planned : goal.returns-in-Ls-clause-planned
returns-in-Ls-clause-planned g c = planned_as _ _ (λ tree. of_ls c.args.user _ c.in-Ls.path tree c.in-Ls.is) (at_once_is c.list.result c.at_once.result c.at_once.ensures c.list.ensures.planned)

pub returns-in-Details-clause-planned : goal.returns-in-Details-clause-planned
returns-in-Details-clause-planned g c = planned_as _ _ (λ tree. of_details c.args.user _ c.in-Details.path tree c.in-Details.is) (at_once_is c.detail.result c.at_once-in-Details.result c.at_once-in-Details.ensures c.detail.ensures.planned)

pub returns-in-Cat-clause-planned : goal.returns-in-Cat-clause-planned
returns-in-Cat-clause-planned g c = planned_as _ _ (λ tree. of_cat c.args.user _ c.in-Cat.path tree c.in-Cat.is) (at_once_is c.read.result c.at_once-in-Cat.result c.at_once-in-Cat.ensures c.read.ensures.planned)

pub returns-in-Put-clause-planned : goal.returns-in-Put-clause-planned
returns-in-Put-clause-planned g c = planned_as _ _ (λ tree. of_put c.args.user _ c.in-Put.path c.in-Put.content tree c.in-Put.is) c.put.ensures.planned

pub returns-in-PutAll-clause-planned : goal.returns-in-PutAll-clause-planned
returns-in-PutAll-clause-planned g c = planned_as _ _ (λ tree. of_put_all c.args.user _ c.in-PutAll.directory c.in-PutAll.files tree c.in-PutAll.is) c.put_all.ensures.planned

pub returns-in-AddName-clause-planned : goal.returns-in-AddName-clause-planned
returns-in-AddName-clause-planned g c = planned_as _ _ (λ tree. of_add_name c.args.user _ c.in-AddName.path c.in-AddName.to tree c.in-AddName.is) (c.add_name.ensures.planned c.args.user)

pub returns-in-DropName-clause-planned : goal.returns-in-DropName-clause-planned
returns-in-DropName-clause-planned g c = planned_as _ _ (λ tree. of_drop_name c.args.user _ c.in-DropName.path c.in-DropName.to tree c.in-DropName.is) (c.drop_name.ensures.planned c.args.user)

pub returns-in-Mkdir-clause-planned : goal.returns-in-Mkdir-clause-planned
returns-in-Mkdir-clause-planned g c = planned_as _ _ (λ tree. of_mkdir c.args.user _ c.in-Mkdir.path tree c.in-Mkdir.is) c.make.ensures.planned

pub returns-in-Rm-clause-planned : goal.returns-in-Rm-clause-planned
returns-in-Rm-clause-planned g c = planned_as _ _ (λ tree. of_rm c.args.user _ c.in-Rm.path tree c.in-Rm.is) (c.remove.ensures.planned c.args.user)

pub returns-in-Some-clause-planned : goal.returns-in-Some-clause-planned
returns-in-Some-clause-planned g c =
    planned_as _ _ (λ tree. of_link c.args.user _ c.in-Link.path c.in-Link.target tree _ c.in-Some.target c.in-Link.is c.place_of.ensures c.in-Some.is) (c.link.ensures.planned c.args.user)

pub returns-in-None-clause-planned : goal.returns-in-None-clause-planned
returns-in-None-clause-planned g c =
    planned_now _ _ _ (quiet _ (went_none _) (λ tree. of_link_not c.args.user _ c.in-Link.path c.in-Link.target tree _ c.in-Link.is c.place_of.ensures c.in-None.is)) c.refused.ensures.plan c.refused.ensures.can_begin

pub returns-in-AddUser-clause-planned : goal.returns-in-AddUser-clause-planned
returns-in-AddUser-clause-planned g c =
    let e = c.plan_of_table.ensures in
    let s = c.or_stop.ensures in
    planned_by _ (Writes (of_table (AddUser c.in-AddUser.user c.in-AddUser.key) ∷ [])) c.or_stop.result (quiet _ (went_none _) (λ tree. of_add_user c.args.user c.in-AddUser.user _ c.in-AddUser.key tree c.in-AddUser.is))
    (s.plan (Writes ((of_table (AddUser c.in-AddUser.user c.in-AddUser.key)) ∷ [])) (e.plan (of_table (AddUser c.in-AddUser.user c.in-AddUser.key)) refl refl)) (s.can_begin e.can_begin) s.memory (on_err _ tt)

pub returns-in-SetKey-clause-planned : goal.returns-in-SetKey-clause-planned
returns-in-SetKey-clause-planned g c =
    let e = c.plan_of_table-in-SetKey.ensures in
    let s = c.or_stop-in-SetKey.ensures in
    planned_by _ (Writes (of_table (SetKey c.in-SetKey.user c.in-SetKey.key) ∷ [])) c.or_stop-in-SetKey.result (quiet _ (went_none _) (λ tree. of_set_key c.args.user c.in-SetKey.user _ c.in-SetKey.key tree c.in-SetKey.is))
    (s.plan (Writes ((of_table (SetKey c.in-SetKey.user c.in-SetKey.key)) ∷ [])) (e.plan (of_table (SetKey c.in-SetKey.user c.in-SetKey.key)) refl refl)) (s.can_begin e.can_begin) s.memory (on_err _ tt)

pub returns-in-AddMember-clause-planned : goal.returns-in-AddMember-clause-planned
returns-in-AddMember-clause-planned g c =
    let e = c.plan_of_table-in-AddMember.ensures in
    let s = c.or_stop-in-AddMember.ensures in
    planned_by _ (Writes (of_table (AddMember c.in-AddMember.group c.in-AddMember.user) ∷ [])) c.or_stop-in-AddMember.result (quiet _ (went_none _) (λ tree. of_add_member c.args.user c.in-AddMember.user c.in-AddMember.group _ tree c.in-AddMember.is))
    (s.plan (Writes ((of_table (AddMember c.in-AddMember.group c.in-AddMember.user)) ∷ [])) (e.plan (of_table (AddMember c.in-AddMember.group c.in-AddMember.user)) refl refl)) (s.can_begin e.can_begin) s.memory (on_err _ tt)

pub returns-in-DropMember-clause-planned : goal.returns-in-DropMember-clause-planned
returns-in-DropMember-clause-planned g c =
    let e = c.plan_of_table-in-DropMember.ensures in
    let s = c.or_stop-in-DropMember.ensures in
    planned_by _ (Writes (of_table (DropMember c.in-DropMember.group c.in-DropMember.user) ∷ [])) c.or_stop-in-DropMember.result (quiet _ (went_none _) (λ tree. of_drop_member c.args.user c.in-DropMember.user c.in-DropMember.group _ tree c.in-DropMember.is))
    (s.plan (Writes ((of_table (DropMember c.in-DropMember.group c.in-DropMember.user)) ∷ [])) (e.plan (of_table (DropMember c.in-DropMember.group c.in-DropMember.user)) refl refl)) (s.can_begin e.can_begin) s.memory (on_err _ tt)

pub returns-in-Admin-clause-planned : goal.returns-in-Admin-clause-planned
returns-in-Admin-clause-planned g c =
    let e = c.plan_of_all.ensures in
    let s = c.or_stop-in-Admin.ensures in
    let wanted = Writes (all_on_table c.in-Admin.changes.now) in
    planned_by _ wanted c.or_stop-in-Admin.result (quiet _ (went_none _) (λ tree. of_admin c.args.user _ c.in-Admin.changes tree c.in-Admin.is))
    (s.plan wanted e.plan) (s.can_begin e.can_begin) s.memory (on_err _ tt)
