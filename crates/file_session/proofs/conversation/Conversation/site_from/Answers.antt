use Rattle.std.proofs.Common.{rules, refl, sym, ◌∙◌}
use Rattle.std.proofs.lemmas.Result.{err_from_is_err_and}
use Rattle.file_session.proofs.Looks.{looked_next, looked_so, quiet}
use Rattle.file_session.proofs.Runs.{went_none}
use Rattle.file_session.proofs.Last.{last_first, last_on}
use Rattle.file_session.proofs.Walks.{first_name, named_end, no_names, place_off, place_on, site_end}
use Rattle.file_session.proofs.conversation.Conversation.site_from.Goals as goal

pub returns-in_default-clause-looked : goal.returns-in_default-clause-looked
returns-in_default-clause-looked g c =
    looked_so _ c.in_ok-kind.ensures.looked (λ tree is.
    no_names tree _ _ _ _ c.stands_for.result c.start-here.ensures c.names-names.ensures c.in_default.ensures.0 (c.stands_for.ensures _ is))

pub loop-name-init : goal.loop-name-init
loop-name-init g c =
    let is = c.in-Some.ensures.0 in (
      search rules,
      record {
        looked = quiet _ (went_none _) (λ tree. first_name tree _ _ _ _ _ _ c.start-here.ensures c.names-names.ensures is);
        name = c.in-Some.ensures.1;
        last = last_first _ _ _ _ c.names-names.ensures is;
        phase = refl;
        view = c.requires;
      },
    )

pub returns-in_err-next-clause-looked : goal.returns-in_err-next-clause-looked
returns-in_err-next-clause-looked g c =
    let p = err_from_is_err_and c.from_residual-in_err-next.result c.from_residual-in_err-next.ensures.1 in
    rw (p.1, p.2) (looked_next _ c.loop-name.invariant.1.looked c.in_err-next.ensures.looked (λ tree p r. tt))

pub returns-in-None-clause-looked : goal.returns-in-None-clause-looked
returns-in-None-clause-looked g c =
    looked_next _ c.loop-name.invariant.1.looked c.in_ok-next.ensures.looked (λ tree before found. place_off tree _ _ _ _ _ _ _ before c.in-Some-next.ensures.0 (sym c.in-None.is ∙ found))

pub loop-name-preserved : goal.loop-name-preserved
loop-name-preserved g c =
    let i = c.loop-name.invariant.1 in
    let e = c.in_ok-next.ensures in
    let is = c.in-Some-next.ensures.0 in (
      search rules,
      record {
        looked = looked_next _ i.looked e.looked (λ tree before found. place_on tree _ _ _ _ _ _ _ _ before is (sym c.in-Some-2.is ∙ found));
        name = c.in-Some-next.ensures.1;
        last = last_on _ _ _ _ c.args.path.names i.last is;
        phase = e.phase ∙ i.phase;
        view = e.view;
      },
    )

pub returns-clause-looked : goal.returns-clause-looked
returns-clause-looked g c =
    let i = c.loop-name.invariant.1 in
    looked_next _ i.looked c.site_in.ensures.looked (λ tree before leads. site_end tree _ _ _ _ _ c.site_in.result before c.in_default-next.ensures.0 i.last leads)

pub returns-clause-named : goal.returns-clause-named
returns-clause-named g c = named_end c.args.path.names _ _ c.site_in.result c.in_default-next.ensures.0 c.loop-name.invariant.1.last c.site_in.ensures.named
