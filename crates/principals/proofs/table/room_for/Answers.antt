use Rattle.std.proofs.Common.{sym, ◌∙◌, inl}
use Rattle.principals.proofs.Users.{others_ascend, listed_some, listed_none, refused_there, refused_none, positive}
use Rattle.principals.proofs.table.room_for.Goals as goal

pub place_of-requires : goal.place_of-requires
place_of-requires g c = others_ascend c.args.superuser.now c.args.others.now c.requires

pub returns-in-Ok-clause-told : goal.returns-in-Ok-clause-told
returns-in-Ok-clause-told g c =
    inl (refused_there c.args.superuser.now c.args.others.now c.args.user (listed_some c.args.others.now c.args.user _ (c.in-Ok.ensures.found c.args.superuser.now)))

pub returns-in-Err-clause-told : goal.returns-in-Err-clause-told
returns-in-Err-clause-told g c =
    refused_none c.args.superuser.now c.args.others.now c.args.user (sym c.is_of.ensures ∙ c.if-is_of.false) (listed_none c.args.others.now c.args.user c.in-Err.ensures.found)

pub returns-in-Err-clause-other : goal.returns-in-Err-clause-other
returns-in-Err-clause-other g c = positive c.args.superuser.now c.args.others.now c.args.user c.requires (sym c.is_of.ensures ∙ c.if-is_of.false)
