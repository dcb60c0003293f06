use Rattle.std.proofs.Common.{[], refl}
use Rattle.std.proofs.lemmas.Result.{err_from_is_err_and}
use Rattle.file_session.proofs.Looks.{looked_next, looked_so}
use Rattle.file_session.proofs.TwoPlaces.{both_sites, no_other_site, no_site}
use Rattle.file_session.proofs.conversation.Conversation.sites.Goals as goal

pub returns-in_err-site-clause-looked : goal.returns-in_err-site-clause-looked
returns-in_err-site-clause-looked g c =
    let p = err_from_is_err_and c.from_residual.result c.from_residual.ensures.1 in
    rw (p.1, p.2) (looked_so _ c.in_err-site.ensures.looked (λ tree is. tt))

pub returns-in_default-clause-looked : goal.returns-in_default-clause-looked
returns-in_default-clause-looked g c =
    looked_so _ c.in_ok-site.ensures.looked (λ tree is. λ user comes. no_site user tree comes _ _ _ [] c.in_ok-site.field-0 c.in_default.not-Some is)

pub returns-in_err-other-clause-looked : goal.returns-in_err-other-clause-looked
returns-in_err-other-clause-looked g c =
    let p = err_from_is_err_and c.from_residual-in_err-other.result c.from_residual-in_err-other.ensures.1 in
    rw (p.1, p.2) (looked_next _ c.in_ok-site.ensures.looked c.in_err-other.ensures.looked (λ tree p r. tt))

pub returns-in_default-2-clause-looked : goal.returns-in_default-2-clause-looked
returns-in_default-2-clause-looked g c =
    looked_next _ c.in_ok-site.ensures.looked c.in_ok-other.ensures.looked (λ tree is new. λ user comes.
    no_other_site user tree comes _ _ _ _ c.in_ok-site.field-0 c.in_ok-other.field-0 c.in-Some.site c.in-Some.is is c.in_default-2.not-Some new)

pub returns-clause-looked : goal.returns-clause-looked
returns-clause-looked g c =
    looked_next _ c.in_ok-site.ensures.looked c.in_ok-other.ensures.looked (λ tree is new. λ user comes.
    both_sites user tree comes _ _ _ _ c.in_ok-site.field-0 c.in_ok-other.field-0 c.in-Some.site c.in-Some-2.other _ c.in-Some.is is c.in-Some-2.is new refl)
