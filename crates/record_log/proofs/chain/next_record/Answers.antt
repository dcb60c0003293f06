use Rattle.std.proofs.Common.{◌≡◌, Err, IsErrOf, ◌+◌, ◌++◌, drop, get_or, sym, ◌∙◌, ap, subst, arith}
use Rattle.std.proofs.lemmas.Bool.{eqb-true}
use Rattle.leaf_ledger.specs.Device.{History}
use Rattle.record_log.specs.Records.{spelled, EndsEarly}
use Rattle.record_log.proofs.Reached.{further, damaged}
use Rattle.record_log.proofs.chain.next_record.Goals as goal

-- the same error of another result
other_err : {T U E : Type 0} (a b : E) → IsErrOf {T = T} (Err a) b → IsErrOf {T = U} (Err a) b
other_err a b is = let same : a ≡ b = cc in ap Err same

pub returns-in-Ok-clause-reaches : goal.returns-in-Ok-clause-reaches
returns-in-Ok-clause-reaches g c tells rs here =
    let old = g.S.Storage.history c.args.storage.now in
    let gate = c.args.gate.now in
    let one = c.in-Ok.one in
    let next = c.in-Ok.next in
    let is_open = eqb-true (get_or old.now.text gate 0) 1 (sym (c.in_ok-is_open.ensures.open tells) ∙ c.if-not-branch.false) in
    let spells : drop (gate + 1) old.now.text ≡ spelled one ++ drop next old.now.text =
    subst (λ (h : History). drop (gate + 1) h.now.text ≡ spelled one ++ drop next h.now.text) c.in_ok-is_open.ensures.same (c.in-Ok.ensures.spelled tells) in
    further old.now.text gate rs here one next is_open (omega (arith, c.in-Ok.ensures.place.1, c.requires.size tells)) c.in-Ok.ensures.short spells

pub returns-in-Err-clause-damaged : goal.returns-in-Err-clause-damaged
returns-in-Err-clause-damaged g c tells is rs here =
    let old = g.S.Storage.history c.args.storage.now in
    let gate = c.args.gate.now in
    let is_open = eqb-true (get_or old.now.text gate 0) 1 (sym (c.in_ok-is_open.ensures.open tells) ∙ c.if-not-branch.false) in
    let early = subst (λ (h : History). EndsEarly (drop (gate + 1) h.now.text)) c.in_ok-is_open.ensures.same (c.in-Err.ensures.damaged tells (other_err c.in-Err.error _ is)) in
    damaged old.now.text gate rs here (omega (arith, c.requires.long, c.requires.size tells)) is_open early
