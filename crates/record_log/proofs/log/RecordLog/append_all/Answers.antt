use Rattle.std.proofs.Common.{◌≡◌, ◌<◌, ◌+◌, ◌-◌, ℕ, [], ◌∷◌, length, inl, sym, ◌∙◌, ap, subst, arith}
use Rattle.std.proofs.lemmas.Bool.Decides.{nat_tests}
use Rattle.std.proofs.lemmas.Result.{err_from_is_err_and}
use Rattle.std.proofs.lemmas.List.{length-append}
use Rattle.leaf_ledger.specs.Device.{at_rest}
use Rattle.record_log.specs.Records.{LogFile, chain}
use Rattle.record_log.specs.Places.{IsReady, IsLaidOut, MayAddAll, AddsAll}
use Rattle.record_log.proofs.Appended.{untouched, none_more}
use Rattle.record_log.proofs.Lives.{tried, refused, answered}
use Rattle.record_log.proofs.log.RecordLog.append_all.Goals as goal

pub returns-then-is_empty-clause-any_moment : goal.returns-then-is_empty-clause-any_moment
returns-then-is_empty-clause-any_moment g c tells =
    let s = c.self.inside in
    let usable = ap (λ (l : LogFile). l.usable) c.self.view_is ∙ c.requires.usable in
    let bs = c.args.added.now in
    let may = subst (λ (l : LogFile). MayAddAll bs l.file l.file) c.self.view_is (untouched (g.S.Storage.history s.storage) s.gate ((c.self.invariant usable).1 tells) bs) in
    may.any_moment

pub returns-then-is_empty-clause-at_rest : goal.returns-then-is_empty-clause-at_rest
returns-then-is_empty-clause-at_rest g c tells =
    let usable = ap (λ (l : LogFile). l.usable) c.self.view_is ∙ c.requires.usable in
    let ready = (c.self.invariant usable).1 tells in
    subst (λ (l : LogFile). l.file.now ≡ at_rest l.file.now.text) c.self.view_is ready.rest

pub returns-then-is_empty-clause-step : goal.returns-then-is_empty-clause-step
returns-then-is_empty-clause-step g c tells =
    let bs = c.args.added.now in
    let file = c.args.self.now.file in
    let none : length bs ≡ 0 = grind (arith, nat_tests) in
    answered file file bs (returns-then-is_empty-clause-any_moment g c tells) file.now.text (returns-then-is_empty-clause-at_rest g c tells) (none_more file.now.text bs none)

pub returns-in_default-clause-any_moment : goal.returns-in_default-clause-any_moment
returns-in_default-clause-any_moment g c tells =
    let s = c.self.inside in
    let usable = ap (λ (l : LogFile). l.usable) c.self.view_is ∙ c.requires.usable in
    let bs = c.args.added.now in
    let may = subst (λ (l : LogFile). MayAddAll bs l.file l.file) c.self.view_is (untouched (g.S.Storage.history s.storage) s.gate ((c.self.invariant usable).1 tells) bs) in
    may.any_moment

pub returns-in_default-clause-step : goal.returns-in_default-clause-step
returns-in_default-clause-step g c tells = tried c.args.self.now.file c.args.self.now.file c.args.added.now (returns-in_default-clause-any_moment g c tells) (λ rs told. inl told)

pub returns-in_err-put-clause-any_moment : goal.returns-in_err-put-clause-any_moment
returns-in_err-put-clause-any_moment g c tells =
    let s = c.self.inside in
    let bs = c.args.added.now in
    let new = g.S.Storage.history c.put.new.storage in
    let some : 0 < length bs = grind (arith, nat_tests) in
    let laid : IsLaidOut bs c.deref.result.now = record { some = some; short = c.in-Ok.ensures.short; laid = c.deref.ensures.value ∙ c.in-Ok.ensures.bytes } in
    let may = subst (λ (l : LogFile). MayAddAll bs l.file new) c.self.view_is (c.in_err-put.ensures.err tells bs laid) in
    may.any_moment

pub returns-in_err-put-clause-reads : goal.returns-in_err-put-clause-reads
returns-in_err-put-clause-reads g c tells =
    let s = c.self.inside in
    let bs = c.args.added.now in
    let new = g.S.Storage.history c.put.new.storage in
    let some : 0 < length bs = grind (arith, nat_tests) in
    let laid : IsLaidOut bs c.deref.result.now = record { some = some; short = c.in-Ok.ensures.short; laid = c.deref.ensures.value ∙ c.in-Ok.ensures.bytes } in
    let may = subst (λ (l : LogFile). MayAddAll bs l.file new) c.self.view_is (c.in_err-put.ensures.err tells bs laid) in
    may.reads

pub returns-in_err-put-clause-step : goal.returns-in_err-put-clause-step
returns-in_err-put-clause-step g c tells =
    let e = err_from_is_err_and c.from_residual.result c.from_residual.ensures.1 in
    let file = c.args.self.now.file in
    let new = g.S.Storage.history c.put.new.storage in
    refused c.from_residual.result e.0 e.1 file new c.args.added.now
    (tried file new c.args.added.now (returns-in_err-put-clause-any_moment g c tells) (returns-in_err-put-clause-reads g c tells))

pub invariant_of-self-2 : goal.invariant_of-self-2
invariant_of-self-2 g c _ =
    let s = c.self.inside in
    let bs = c.args.added.now in
    let new = g.S.Storage.history c.put.new.storage in
    let some : 0 < length bs = grind (arith, nat_tests) in
    let laid : IsLaidOut bs c.deref.result.now = record { some = some; short = c.in-Ok.ensures.short; laid = c.deref.ensures.value ∙ c.in-Ok.ensures.bytes } in
    let size : length c.deref.result.now ≡ length (chain bs) + 1 = omega (arith, ap length laid.laid, length-append (chain bs) (0 ∷ [])) in
    let same : length c.deref.result.now ≡ c.len.result = c.deref.ensures.len ∙ sym c.len.ensures in
    (omega (arith, c.in_ok-put.ensures.bounded, size, same), λ tells. subst (λ (n : ℕ). IsReady new.now (s.gate + (n - 1))) same (c.in_ok-put.ensures.ready tells bs laid))

pub returns-clause-any_moment : goal.returns-clause-any_moment
returns-clause-any_moment g c tells =
    let s = c.self.inside in
    let bs = c.args.added.now in
    let new = g.S.Storage.history c.put.new.storage in
    let some : 0 < length bs = grind (arith, nat_tests) in
    let laid : IsLaidOut bs c.deref.result.now = record { some = some; short = c.in-Ok.ensures.short; laid = c.deref.ensures.value ∙ c.in-Ok.ensures.bytes } in
    let adds = subst (λ (l : LogFile). AddsAll bs l.file new) c.self.view_is (c.in_ok-put.ensures.ok tells bs laid) in
    adds.may.any_moment

pub returns-clause-appended : goal.returns-clause-appended
returns-clause-appended g c tells =
    let s = c.self.inside in
    let bs = c.args.added.now in
    let new = g.S.Storage.history c.put.new.storage in
    let some : 0 < length bs = grind (arith, nat_tests) in
    let laid : IsLaidOut bs c.deref.result.now = record { some = some; short = c.in-Ok.ensures.short; laid = c.deref.ensures.value ∙ c.in-Ok.ensures.bytes } in
    let adds = subst (λ (l : LogFile). AddsAll bs l.file new) c.self.view_is (c.in_ok-put.ensures.ok tells bs laid) in
    adds.appended

pub returns-clause-file : goal.returns-clause-file
returns-clause-file g c tells some =
    let s = c.self.inside in
    let bs = c.args.added.now in
    let new = g.S.Storage.history c.put.new.storage in
    let laid : IsLaidOut bs c.deref.result.now = record { some = some; short = c.in-Ok.ensures.short; laid = c.deref.ensures.value ∙ c.in-Ok.ensures.bytes } in
    let adds = subst (λ (l : LogFile). AddsAll bs l.file new) c.self.view_is (c.in_ok-put.ensures.ok tells bs laid) in
    adds.file

pub returns-clause-at_rest : goal.returns-clause-at_rest
returns-clause-at_rest g c tells =
    let bs = c.args.added.now in
    let some : 0 < length bs = grind (arith, nat_tests) in
    let laid : IsLaidOut bs c.deref.result.now = record { some = some; short = c.in-Ok.ensures.short; laid = c.deref.ensures.value ∙ c.in-Ok.ensures.bytes } in
    let adds = c.in_ok-put.ensures.ok tells bs laid in
    adds.rest

pub returns-clause-reads : goal.returns-clause-reads
returns-clause-reads g c tells =
    let s = c.self.inside in
    let bs = c.args.added.now in
    let new = g.S.Storage.history c.put.new.storage in
    let some : 0 < length bs = grind (arith, nat_tests) in
    let laid : IsLaidOut bs c.deref.result.now = record { some = some; short = c.in-Ok.ensures.short; laid = c.deref.ensures.value ∙ c.in-Ok.ensures.bytes } in
    let adds = subst (λ (l : LogFile). AddsAll bs l.file new) c.self.view_is (c.in_ok-put.ensures.ok tells bs laid) in
    adds.may.reads

pub returns-clause-step : goal.returns-clause-step
returns-clause-step g c tells =
    let new = g.S.Storage.history c.put.new.storage in
    answered c.args.self.now.file new c.args.added.now (returns-clause-any_moment g c tells) new.now.text (returns-clause-at_rest g c tells) (returns-clause-appended g c tells)
