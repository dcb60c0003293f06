-- What an append makes of a log that keeps events.
use Rattle.std.proofs.Common.{◌≡◌, true, false, true≢false, List, [], ◌∷◌, ◌++◌, refl, sym, ap, ◌∙◌, subst, append_assoc, IsErrOf, Err}
use Rattle.std.specs.Prelude.{map}
use Rattle.std.proofs.lemmas.List.{append-nil, map-append}
use Rattle.leaf_ledger.specs.Device.{History, started}
use Rattle.consistency_server.specs.Answers.{Call}
use Rattle.server_log.specs.KeptLog.{record_of}
use Rattle.record_log.specs.Records.{Record, LogFile, Tells}
use Rattle.record_log.specs.declared.error.LogError.{LogError}
use Rattle.record_log.specs.declared.error.LogError.TheVariants as error
use Rattle.record_log.specs.Life as life
use Rattle.record_log.specs.Life.{Addition, Called, IsLife, IsPossible, Event, end_of}
use Rattle.kept_server.specs.Kept.{HasJust, HasSynced, IsCalled}

-- before the first event
pub opened : (start : History) → HasJust start [] start
opened start told tell file possible = subst (λ (rs : List Record). Tells rs file) (sym (append-nil told)) (tell file possible)

-- just these are these, at least
pub at_least : (start : History) (calls : List Call) (h : History) → HasJust start calls h → HasSynced start calls h
at_least start calls h just told tell file possible = ([], subst (λ (rs : List Record). Tells rs file) (sym (append-nil (told ++ map record_of calls))) (just told tell file possible))

-- whatever is added, what was there stays
pub stays : (start : History) (calls : List Call) (adds : Addition) (old new : History) → HasJust start calls old → life.Call adds old new → HasSynced start calls new
stays start calls adds old new just call told tell file possible =
    let f = call.after file possible in
    let t = f.tells (told ++ map record_of calls) (just told tell f.before f.possible) in
    (t.0, t.2)

-- a call that adds nothing leaves just these
pub nothing_added : (start : History) (calls : List Call) (old new : History) → HasJust start calls old → life.Call life.Nothing old new → HasJust start calls new
nothing_added start calls old new just call told tell file possible =
    let f = call.after file possible in
    let t = f.tells (told ++ map record_of calls) (just told tell f.before f.possible) in
    subst (λ (rs : List Record). Tells rs file) (ap (λ l. (told ++ map record_of calls) ++ l) t.1 ∙ append-nil (told ++ map record_of calls)) t.2

-- an append that is done adds just its records
pub appended : (start : History) (calls left : List Call) (records : List Record) (old new : History) → HasJust start calls old → records ≡ map record_of left → life.Call (life.Appended records) old new
    → HasJust start (calls ++ left) new
appended start calls left records old new just are call told tell file possible =
    let f = call.after file possible in
    let t = f.tells (told ++ map record_of calls) (just told tell f.before f.possible) in
    let added : t.0 ≡ map record_of left = t.1.1 ∙ ap (λ l. records ++ l) t.1.2 ∙ append-nil records ∙ are in
    subst (λ (rs : List Record). Tells rs file) (ap (λ l. (told ++ map record_of calls) ++ l) added ∙ append_assoc told (map record_of calls) (map record_of left) ∙ ap (λ l. told ++ l) (sym (map-append record_of calls left))) t.2

-- an append that fails with the storage usable changed nothing
pub unchanged : {T : Type 0} (start : History) (calls : List Call) (old new : LogFile) (e : LogError) → (IsErrOf {T = T} (Err e) error.Memory → new ≡ old) → (IsErrOf {T = T} (Err e) error.Device → new.usable ≡ false)
    → (IsErrOf {T = T} (Err e) error.Damaged → ⊥) → HasJust start calls old.file → new.usable ≡ true → HasJust start calls new.file
unchanged start calls old new error.Device same failed ours just usable = absurd (true≢false (sym usable ∙ failed refl))
unchanged start calls old new error.Memory same failed ours just usable = subst (λ (l : LogFile). HasJust start calls l.file) (sym (same refl)) just
unchanged start calls old new error.Damaged same failed ours just usable = absurd (ours refl)

-- ---- what becomes of the file

pub no_call : (h : History) → IsCalled h h
no_call h = record { calls = []; life = tt; ends = refl }

pub one_call : (adds : Addition) (old new : History) → life.Call adds old new → IsCalled old new
one_call adds old new call = record { calls = Called adds new ∷ []; life = (call, tt); ends = refl }

both_lives : (h : History) (some others : List Event) → IsLife h some → IsLife (end_of h some) others → IsLife h (some ++ others) × (end_of h (some ++ others) ≡ end_of (end_of h some) others)
both_lives h [] others first then = (then, refl)
both_lives h (Called adds new ∷ some) others first then = let rest = both_lives new some others first.1 then in ((first.0, rest.0), rest.1)
both_lives h (life.Crashed adds new left ∷ some) others first then = let rest = both_lives (started left) some others first.2 then in ((first.0, first.1, rest.0), rest.1)

pub calls_more : (a b c : History) → IsCalled a b → IsCalled b c → IsCalled a c
calls_more a b c first then =
    let all = both_lives a first.calls then.calls first.life (subst (λ (h : History). IsLife h then.calls) (sym first.ends) then.life) in
    record {
      calls = first.calls ++ then.calls;
      life = all.0;
      ends = all.1 ∙ ap (λ (h : History). end_of h then.calls) first.ends ∙ then.ends;
    }
