-- What was told stays told.
use Rattle.std.proofs.Common.{◌≡◌, ◌⊎◌, inl, inr, List, [], ◌∷◌, ◌++◌, refl, sym, ap, ◌∙◌, subst, append_assoc}
use Rattle.std.specs.Prelude.{map}
use Rattle.std.proofs.lemmas.List.{append-nil, map-append}
use mathlib.Core.List.{IsPrefix}
use Rattle.layout.specs.Types.{Bytes, Key}
use Rattle.leaf_ledger.specs.Device.{History, IsAtMostSynced, Leaves, LeftDuring, Throughout, at_rest, synced}
use Rattle.leaf_ledger.specs.Moments.{at_end, left_has, one_more, rest_only, stayed}
use Rattle.record_log.specs.Records.{Record, Tells}
use Rattle.record_log.specs.Life.{Event, Follows, IsLife, IsPossible, Nothing, end_of}
use Rattle.record_log.specs.Life as life
use Rattle.record_log.proofs.Lives.{all_follow}
use Rattle.consistency_server.specs.declared.call.CallKind.{CallKind}
use Rattle.consistency_server.specs.declared.call.CallKind.TheVariants.{Update, Commit}
use Rattle.consistency_server.specs.Answers.{Answer, Call}
use Rattle.consistency_server.specs.History.{log_of}
use Rattle.server_log.specs.KeptLog.{IsLogOf, beginning, number_of, record_of, records_of}
use Rattle.server_workers.specs.Conversation.{TellsSynced}
use Rattle.kept_server.specs.Kept.{HasSynced, Tell, TellAtLeast}
use Rattle.kept_server.specs.Stays.{ToldStays, WasTold}

-- ---- calls by their records

kind_of : (a b : CallKind) → number_of a ≡ number_of b → a ≡ b
kind_of Update Update same = refl
kind_of Commit Commit same = refl
kind_of Update Commit same = absurd (cc same)
kind_of Commit Update same = absurd (cc same)

abbrev call : CallKind → Bytes → Call
call kind text = record { kind = kind; text = text }

call_of : (a b : Call) → record_of a ≡ record_of b → a ≡ b
call_of a b same =
    let kinds = kind_of a.kind b.kind (ap (λ (r : Record). r.kind) same) in
    let texts : a.text ≡ b.text = ap (λ (r : Record). r.text) same in
    ap (λ (k : CallKind). call k a.text) kinds ∙ ap (call b.kind) texts

-- calls whose records are the first of others' records are the first of these
first_calls : (xs ys : List Call) (rest : List Record) → map record_of ys ≡ map record_of xs ++ rest → IsPrefix xs ys
first_calls [] ys rest is = (ys, refl)
first_calls (x ∷ xs) [] rest is = absurd (cc is)
first_calls (x ∷ xs) (y ∷ ys) rest is =
    let head = call_of x y (cc is) in
    let tail = first_calls xs ys rest (cc is) in
    (tail.0, cc (head, tail.1))

-- ---- what a later file tells

-- the records at the moment of an answer are the first of those that a file tells later
later_records : (records : List Record) (log : History) → TellAtLeast records log → (events : List Event) → IsLife log events
    → (file : Bytes) → IsPossible (end_of log events) file → (more : List Record) × Tells (records ++ more) file
later_records records log tell events life file here =
    let f = all_follow log events life file here in
    let was = tell f.before f.possible in
    let now = f.tells (records ++ was.0) was.1 in
    (was.0 ++ now.0, subst (λ (rs : List Record). Tells rs file) (append_assoc records was.0 now.0) now.2)

tells_more : (p : Key) (synced calls : List Call) (call : Call) (reply : Answer) → IsPrefix synced calls → TellsSynced p synced call reply → TellsSynced p calls call reply
tells_more p synced calls call reply more t = record {
  history = t.history;
  answers = t.answers;
  kept = (t.kept.0 ++ more.0, sym (append_assoc (log_of p (call ∷ t.history)) t.kept.0 more.0) ∙ ap (λ (l : List Call). l ++ more.0) t.kept.1 ∙ more.1);
}

module _ (one : (file : Bytes) (some others : List Record) → Tells some file → Tells others file → some ≡ others) where
  -- the calls of a log whose file begins with the records of these calls
  found : (p : Key) (synced calls : List Call) (more : List Record) (file : Bytes) → Tells (records_of p synced ++ more) file → IsLogOf p calls file → IsPrefix synced calls
  found p synced calls more file tells (inl is) =
      let same : records_of p calls ≡ records_of p synced ++ more = one file (records_of p calls) (records_of p synced ++ more) is tells in
      first_calls synced calls more (cc same)
  found p synced calls more file tells (inr none) =
      let same : [] ≡ records_of p synced ++ more = one file [] (records_of p synced ++ more) none.0 tells in
      absurd (cc same)

  pub stays : ToldStays
  stays p opened told call reply log w events life file here calls is =
      let records = records_of p told ++ map record_of w.since in
      let are : records ≡ records_of p (told ++ w.since) = ap (λ (l : List Record). beginning p ∷ l) (sym (map-append record_of told w.since)) in
      let tell : TellAtLeast (records_of p (told ++ w.since)) log = subst (λ (rs : List Record). TellAtLeast rs log) are (w.synced (records_of p told) w.tell) in
      let later = later_records (records_of p (told ++ w.since)) log tell events life file here in
      tells_more p (told ++ w.since) calls call reply (found p (told ++ w.since) calls later.0 file later.1 is) w.tells

-- ---- a start

adds_none : (old : History) (file : Bytes) → IsPossible old file → Follows (Nothing ∷ []) old file
adds_none old file here = record {
  before = file;
  possible = here;
  tells = λ rs told. ([], refl, subst (λ (l : List Record). Tells l file) (sym (append-nil rs)) told);
}

throughout : (old new : History) → IsAtMostSynced old new → Throughout (IsPossible old) old new
throughout old new (inl same) = subst (λ (h : History). Throughout (IsPossible old) old h) (sym same) (stayed (IsPossible old) old (λ left may. inr may))
throughout old new (inr after) =
    let sure : Leaves (IsPossible old) (at_rest old.now.text) = λ left may. inl (rest_only old.now.text left may) in
    subst (λ (h : History). Throughout (IsPossible old) old h) (sym after) (one_more (IsPossible old) old old (at_rest old.now.text) (stayed (IsPossible old) old (λ left may. inr may)) sure)

same_text : (old new : History) → IsAtMostSynced old new → new.now.text ≡ old.now.text
same_text old new (inl same) = ap (λ (h : History). h.now.text) same
same_text old new (inr after) = ap (λ (h : History). h.now.text) after

pub starts : (old new : History) → IsAtMostSynced old new → life.Call Nothing old new
starts old new at_most = record { after = after; inside = λ left during. adds_none old left (left_has (IsPossible old) old new left (throughout old new at_most) during) }
  where
    after : (file : Bytes) → IsPossible new file → Follows (Nothing ∷ []) old file
    after file (inl same) = adds_none old file (inl (same ∙ same_text old new at_most))
    after file (inr may) = adds_none old file (at_end (IsPossible old) old new (throughout old new at_most) file may)
