-- What is written for a call more.
use Rattle.std.proofs.Common.{◌≡◌, List, [], ◌∷◌, ◌++◌, Bool, true, false, true≢false, Option, sym, ap, ◌∙◌, append_assoc, subst}
use Rattle.std.proofs.lemmas.List.{append-nil}
use Rattle.std.specs.Io.KnownBytes.{Appends}
use Rattle.layout.specs.Types.{Bytes}
use Rattle.connection.specs.Written.{AppendsBeginning}
use Rattle.connection.proofs.Written.{appends_none, appends_both, appends_as}
use Rattle.consistency_server.specs.Answers.{Call}
use Rattle.server_workers.specs.Records.{records, record_of}
use Rattle.server_workers.specs.Flushing.{Wrote}

pub records_snoc : (taken : List Call) (x : Call) → records (taken ++ x ∷ []) ≡ records taken ++ record_of x
unfolding records
records_snoc [] x = append-nil (record_of x)
records_snoc (y ∷ ys) x = ap (λ l. record_of y ++ l) (records_snoc ys x) ∙ sym (append_assoc (record_of y) (records ys) (record_of x))

pub wrote_nothing : (before now : Option Bytes) (taken : List Call) → now ≡ before → taken ≡ [] → Wrote false before now taken
unfolding records
wrote_nothing before now taken same none = subst (λ o. Appends before o (records taken)) (sym same) (subst (λ l. Appends before before (records l)) (sym none) (appends_none before))

pub writes : (failed : Bool) (before now now' : Option Bytes) (taken got : List Call) (x : Call) → failed ≡ false → Wrote failed before now taken → Appends now now' (record_of x) → got ≡ taken ++ x ∷ [] → Wrote failed before now' got
writes true before now now' taken got x is was more grown = absurd (true≢false is)
writes false before now now' taken got x is was more grown =
    appends_as before now' _ _ (appends_both before now now' (records taken) (record_of x) was more) (sym (records_snoc taken x) ∙ ap records (sym grown))

pub fails : (failed : Bool) (before now now' : Option Bytes) (taken got : List Call) (x : Call) → failed ≡ false → Wrote failed before now taken → AppendsBeginning now now' (record_of x) → got ≡ taken ++ x ∷ [] → Wrote true before now' got
fails true before now now' taken got x is was (part, rest, more, cut) grown = absurd (true≢false is)
fails false before now now' taken got x is was (part, rest, more, cut) grown = (
  records taken ++ part,
  rest,
  appends_both before now now' (records taken) part was more,
  ap records grown ∙ records_snoc taken x ∙ ap (λ l. records taken ++ l) cut ∙ sym (append_assoc (records taken) part rest),
)
