use Rattle.std.proofs.Common.{◌≡◌, ℕ, List, [], Err, inl, inr, refl, sym, ◌∙◌, ap, subst, arith}
use Rattle.layout.specs.Types.{Bytes}
use Rattle.leaf_ledger.specs.Device.{History, Throughout, IsAtMostSynced, HasRisen, at_rest}
use Rattle.record_log.specs.Records.{LogFile, Tells, MayBeLeft}
use Rattle.record_log.specs.declared.error.LogError.TheVariants as log
use Rattle.consistency_server.specs.Answers.{Call}
use Rattle.consistency_server.specs.History.{log_of}
use Rattle.server_log.specs.declared.error.OpenError.{OpenError}
use Rattle.server_log.specs.KeptLog.{records_of, IsLogOf, IsReason}
use Rattle.server_log.proofs.Opened.{IsMachines, any_moment, as_logged, at_most_synced, begun, begun_reads, its_log, no_log, none_logged, none_of, only, ours, reads, risen, synced_once}
use Rattle.server_log.proofs.Reasons.{log_device, log_reason, machines}
use Rattle.server_log.proofs.opening.open_order.Goals as goal

pub returns-in-Err-clause-any_moment_err : goal.returns-in-Err-clause-any_moment_err
returns-in-Err-clause-any_moment_err g c tells =
    any_moment c.args.pinned (g.S.Storage.history c.args.storage) (g.S.Storage.history c.in-Err.storage) (c.in-Err.ensures.left_err tells)

pub returns-in-Err-clause-reads_err : goal.returns-in-Err-clause-reads_err
returns-in-Err-clause-reads_err g c tells =
    reads c.args.pinned (g.S.Storage.history c.args.storage) (g.S.Storage.history c.in-Err.storage) (c.in-Err.ensures.kept_err tells) (c.in-Err.ensures.new_err tells)

pub returns-in-Err-clause-kept_err : goal.returns-in-Err-clause-kept_err
returns-in-Err-clause-kept_err g c tells =
    at_most_synced (g.S.Storage.history c.args.storage) (g.S.Storage.history c.in-Err.storage) (c.in-Err.ensures.kept_err tells)

pub returns-in-Err-clause-untouched : goal.returns-in-Err-clause-untouched
returns-in-Err-clause-untouched g c tells =
    inl (inl refl)

pub returns-in-Err-clause-ours : goal.returns-in-Err-clause-ours
returns-in-Err-clause-ours g c tells history is =
    inl refl

pub returns-in-Ok-Some-clause-logged : goal.returns-in-Ok-Some-clause-logged
returns-in-Ok-Some-clause-logged g c =
    let old = g.S.Storage.history c.args.storage in
    let order = c.in-Ok-Some.order in
    let same = rw c.in-Ok-Some.field-0-is at c.in-Ok-Some.ensures.pinned in
    let all = rw c.in-Ok-Some.field-0-is at c.in-Ok-Some.ensures.logged in
    its_log c.args.pinned order same all

pub returns-in-Ok-Some-clause-was : goal.returns-in-Ok-Some-clause-was
returns-in-Ok-Some-clause-was g c tells =
    let old = g.S.Storage.history c.args.storage in
    let order = c.in-Ok-Some.order in
    let same = rw c.in-Ok-Some.field-0-is at c.in-Ok-Some.ensures.pinned in
    let all = rw c.in-Ok-Some.field-0-is at c.in-Ok-Some.ensures.logged in
    let here = rw c.in-Ok-Some.field-0-is at c.in-Ok-Some.ensures.some in
    let told = as_logged c.args.pinned order c.in-Ok.reader.file.now.text same all (here tells (c.in-Ok.ensures.begins tells)) in
    let before = c.in-Ok.ensures.records tells (records_of c.args.pinned (log_of c.args.pinned order.history)) told in
    inl before

pub returns-in-Ok-Some-clause-tells : goal.returns-in-Ok-Some-clause-tells
returns-in-Ok-Some-clause-tells g c tells =
    let old = g.S.Storage.history c.args.storage in
    let order = c.in-Ok-Some.order in
    let same = rw c.in-Ok-Some.field-0-is at c.in-Ok-Some.ensures.pinned in
    let all = rw c.in-Ok-Some.field-0-is at c.in-Ok-Some.ensures.logged in
    let here = rw c.in-Ok-Some.field-0-is at c.in-Ok-Some.ensures.some in
    let told = as_logged c.args.pinned order c.in-Ok.reader.file.now.text same all (here tells (c.in-Ok.ensures.begins tells)) in
    let before = c.in-Ok.ensures.records tells (records_of c.args.pinned (log_of c.args.pinned order.history)) told in
    let file : c.into_log.result.file ≡ c.in-Ok.reader.file = ap (λ (l : LogFile). l.file) c.into_log.ensures ∙ c.read_back.ensures.file in
    subst (λ (h : History). Tells (records_of c.args.pinned (log_of c.args.pinned order.history)) h.now.text) (sym file) told

pub returns-in-Ok-Some-clause-only : goal.returns-in-Ok-Some-clause-only
returns-in-Ok-Some-clause-only g c tells calls is =
    let old = g.S.Storage.history c.args.storage in
    let order = c.in-Ok-Some.order in
    let same = rw c.in-Ok-Some.field-0-is at c.in-Ok-Some.ensures.pinned in
    let all = rw c.in-Ok-Some.field-0-is at c.in-Ok-Some.ensures.logged in
    let here = rw c.in-Ok-Some.field-0-is at c.in-Ok-Some.ensures.some in
    let told = as_logged c.args.pinned order c.in-Ok.reader.file.now.text same all (here tells (c.in-Ok.ensures.begins tells)) in
    let before = c.in-Ok.ensures.records tells (records_of c.args.pinned (log_of c.args.pinned order.history)) told in
    only c.args.pinned old.now.text (log_of c.args.pinned order.history) calls before is

pub returns-in-Ok-Some-clause-at_rest : goal.returns-in-Ok-Some-clause-at_rest
returns-in-Ok-Some-clause-at_rest g c tells =
    let file : c.into_log.result.file ≡ c.in-Ok.reader.file = ap (λ (l : LogFile). l.file) c.into_log.ensures ∙ c.read_back.ensures.file in
    subst (λ (h : History). h.now ≡ at_rest h.now.text) (sym file) (c.in-Ok.ensures.at_rest tells)

pub returns-in-Ok-Some-clause-any_moment : goal.returns-in-Ok-Some-clause-any_moment
returns-in-Ok-Some-clause-any_moment g c tells =
    let old = g.S.Storage.history c.args.storage in
    let file : c.into_log.result.file ≡ c.in-Ok.reader.file = ap (λ (l : LogFile). l.file) c.into_log.ensures ∙ c.read_back.ensures.file in
    any_moment c.args.pinned old c.into_log.result.file (subst (λ (h : History). Throughout (MayBeLeft old) old h) (sym file) (c.in-Ok.ensures.left tells))

pub returns-in-Ok-Some-clause-kept : goal.returns-in-Ok-Some-clause-kept
returns-in-Ok-Some-clause-kept g c tells some =
    let old = g.S.Storage.history c.args.storage in
    let file : c.into_log.result.file ≡ c.in-Ok.reader.file = ap (λ (l : LogFile). l.file) c.into_log.ensures ∙ c.read_back.ensures.file in
    subst (λ (h : History). IsAtMostSynced old h) (sym file) (at_most_synced old c.in-Ok.reader.file (c.in-Ok.ensures.kept tells) some)

pub begin-requires-clause-at_rest : goal.begin-requires-clause-at_rest
begin-requires-clause-at_rest g c tells =
    let file : c.into_log-log.result.file ≡ c.in-Ok.reader.file = ap (λ (l : LogFile). l.file) c.into_log-log.ensures ∙ c.read_back.ensures.file in
    subst (λ (h : History). h.now ≡ at_rest h.now.text) (sym file) (c.in-Ok.ensures.at_rest tells)

pub begin-requires-clause-empty : goal.begin-requires-clause-empty
begin-requires-clause-empty g c tells =
    let file : c.into_log-log.result.file ≡ c.in-Ok.reader.file = ap (λ (l : LogFile). l.file) c.into_log-log.ensures ∙ c.read_back.ensures.file in
    let none = rw c.in-Ok-None.field-0-is at c.in-Ok-None.ensures.none in
    let here = none tells (c.in-Ok.ensures.begins tells) in
    subst (λ (h : History). Tells [] h.now.text) (sym file) here

pub returns-in-Ok-begin-clause-logged : goal.returns-in-Ok-begin-clause-logged
returns-in-Ok-begin-clause-logged g c =
    none_logged c.args.pinned c.genesis.result c.genesis.ensures

pub returns-in-Ok-begin-clause-was : goal.returns-in-Ok-begin-clause-was
returns-in-Ok-begin-clause-was g c tells =
    let none = rw c.in-Ok-None.field-0-is at c.in-Ok-None.ensures.none in
    let here = none tells (c.in-Ok.ensures.begins tells) in
    let before = c.in-Ok.ensures.records tells [] here in
    inr (before, no_log c.args.pinned c.genesis.result c.genesis.ensures)

pub returns-in-Ok-begin-clause-tells : goal.returns-in-Ok-begin-clause-tells
returns-in-Ok-begin-clause-tells g c tells =
    subst (λ (calls : List Call). Tells (records_of c.args.pinned calls) c.begin.new.log.file.now.text) (sym (no_log c.args.pinned c.genesis.result c.genesis.ensures)) (c.in-Ok-begin.ensures.begun tells)

pub returns-in-Ok-begin-clause-only : goal.returns-in-Ok-begin-clause-only
returns-in-Ok-begin-clause-only g c tells calls is =
    let none = rw c.in-Ok-None.field-0-is at c.in-Ok-None.ensures.none in
    let here = none tells (c.in-Ok.ensures.begins tells) in
    let before = c.in-Ok.ensures.records tells [] here in
    none_of c.args.pinned (g.S.Storage.history c.args.storage).now.text calls before is ∙ sym (no_log c.args.pinned c.genesis.result c.genesis.ensures)

pub returns-in-Ok-begin-clause-any_moment : goal.returns-in-Ok-begin-clause-any_moment
returns-in-Ok-begin-clause-any_moment g c tells =
    let old = g.S.Storage.history c.args.storage in
    let file : c.into_log-log.result.file ≡ c.in-Ok.reader.file = ap (λ (l : LogFile). l.file) c.into_log-log.ensures ∙ c.read_back.ensures.file in
    let none = rw c.in-Ok-None.field-0-is at c.in-Ok-None.ensures.none in
    let here = none tells (c.in-Ok.ensures.begins tells) in
    let before = c.in-Ok.ensures.records tells [] here in
    let left = subst (λ (h : History). Throughout (MayBeLeft old) old h) (sym file) (c.in-Ok.ensures.left tells) in
    begun c.args.pinned old c.into_log-log.result.file c.begin.new.log.file left (c.begin.ensures.any_moment tells) before

pub returns-in-Ok-begin-clause-kept : goal.returns-in-Ok-begin-clause-kept
returns-in-Ok-begin-clause-kept g c tells some =
    let none = rw c.in-Ok-None.field-0-is at c.in-Ok-None.ensures.none in
    let here = none tells (c.in-Ok.ensures.begins tells) in
    let before = c.in-Ok.ensures.records tells [] here in
    absurd (some before)

pub returns-in-Err-begin-clause-any_moment_err : goal.returns-in-Err-begin-clause-any_moment_err
returns-in-Err-begin-clause-any_moment_err g c tells calls is leaves =
    let old = g.S.Storage.history c.args.storage in
    let file : c.into_log-log.result.file ≡ c.in-Ok.reader.file = ap (λ (l : LogFile). l.file) c.into_log-log.ensures ∙ c.read_back.ensures.file in
    let none = rw c.in-Ok-None.field-0-is at c.in-Ok-None.ensures.none in
    let here = none tells (c.in-Ok.ensures.begins tells) in
    let before = c.in-Ok.ensures.records tells [] here in
    let left = subst (λ (h : History). Throughout (MayBeLeft old) old h) (sym file) (c.in-Ok.ensures.left tells) in
    subst (λ (h : History). Throughout (IsLogOf c.args.pinned calls) old h) (sym c.close.ensures.file)
    (begun c.args.pinned old c.into_log-log.result.file c.begin.new.log.file left (c.begin.ensures.any_moment tells) before calls is leaves)

pub returns-in-Err-begin-clause-reads_err : goal.returns-in-Err-begin-clause-reads_err
returns-in-Err-begin-clause-reads_err g c tells calls is =
    let old = g.S.Storage.history c.args.storage in
    let none = rw c.in-Ok-None.field-0-is at c.in-Ok-None.ensures.none in
    let here = none tells (c.in-Ok.ensures.begins tells) in
    let before = c.in-Ok.ensures.records tells [] here in
    subst (λ (h : History). IsLogOf c.args.pinned calls h.now.text) (sym c.close.ensures.file)
    (begun_reads c.args.pinned old.now.text c.begin.new.log.file.now.text before (c.begin.ensures.reads tells) calls is)

pub returns-in-Err-begin-clause-kept_err : goal.returns-in-Err-begin-clause-kept_err
returns-in-Err-begin-clause-kept_err g c tells some =
    let none = rw c.in-Ok-None.field-0-is at c.in-Ok-None.ensures.none in
    let here = none tells (c.in-Ok.ensures.begins tells) in
    let before = c.in-Ok.ensures.records tells [] here in
    absurd (some before)

pub returns-in-Err-begin-clause-reason : goal.returns-in-Err-begin-clause-reason
returns-in-Err-begin-clause-reason g c tells =
    let old = g.S.Storage.history c.args.storage in
    let other = λ (is : c.in-Err-begin.e ≡ log.Damaged). c.in-Err-begin.ensures.ours (ap Err is) in
    subst (λ (x : OpenError). IsReason x c.args.pinned old.now.text) (sym c.from.ensures) (log_reason c.in-Err-begin.e c.args.pinned old.now.text (λ is. absurd (other is)))

pub returns-in-Err-begin-clause-untouched : goal.returns-in-Err-begin-clause-untouched
returns-in-Err-begin-clause-untouched g c tells =
    let other = λ (is : c.in-Err-begin.e ≡ log.Damaged). c.in-Err-begin.ensures.ours (ap Err is) in
    inl (subst (λ (x : OpenError). IsMachines x) (sym c.from.ensures) (machines c.in-Err-begin.e other))

pub returns-in-Err-begin-clause-ours : goal.returns-in-Err-begin-clause-ours
returns-in-Err-begin-clause-ours g c tells history is =
    let other = λ (is : c.in-Err-begin.e ≡ log.Damaged). c.in-Err-begin.ensures.ours (ap Err is) in
    subst (λ (x : OpenError). IsMachines x) (sym c.from.ensures) (machines c.in-Err-begin.e other)

pub returns-in-Err-begin-clause-device : goal.returns-in-Err-begin-clause-device
returns-in-Err-begin-clause-device g c is =
    let rose = c.in-Err-begin.ensures.device (ap Err (log_device c.in-Err-begin.e (sym c.from.ensures ∙ is))) in
    let faults = ap (λ (l : LogFile). l.faults) c.into_log-log.ensures in
    subst (λ (n : ℕ). HasRisen (g.S.Storage.fault_count c.args.storage) n) (sym c.close.ensures.faults)
    (risen (g.S.Storage.fault_count c.args.storage) c.into_log-log.result.faults c.begin.new.log.faults (omega (arith, c.in-Ok.ensures.later, c.read_back.ensures.later, faults)) rose)

pub returns-in-Err-read_back-clause-any_moment_err : goal.returns-in-Err-read_back-clause-any_moment_err
returns-in-Err-read_back-clause-any_moment_err g c tells =
    let old = g.S.Storage.history c.args.storage in
    let file : g.S.Storage.history c.close-in-Err-read_back.result ≡ c.in-Ok.reader.file = c.close-in-Err-read_back.ensures.file ∙ c.read_back.ensures.file in
    any_moment c.args.pinned old (g.S.Storage.history c.close-in-Err-read_back.result) (subst (λ (h : History). Throughout (MayBeLeft old) old h) (sym file) (c.in-Ok.ensures.left tells))

pub returns-in-Err-read_back-clause-reads_err : goal.returns-in-Err-read_back-clause-reads_err
returns-in-Err-read_back-clause-reads_err g c tells calls is =
    let file : g.S.Storage.history c.close-in-Err-read_back.result ≡ c.in-Ok.reader.file = c.close-in-Err-read_back.ensures.file ∙ c.read_back.ensures.file in
    let same = c.in-Ok.ensures.same tells c.in-Err-read_back.ensures.more in
    subst (IsLogOf c.args.pinned calls) (sym (ap (λ (h : History). h.now.text) file ∙ same)) is

pub returns-in-Err-read_back-clause-kept_err : goal.returns-in-Err-read_back-clause-kept_err
returns-in-Err-read_back-clause-kept_err g c tells some =
    let old = g.S.Storage.history c.args.storage in
    let file : g.S.Storage.history c.close-in-Err-read_back.result ≡ c.in-Ok.reader.file = c.close-in-Err-read_back.ensures.file ∙ c.read_back.ensures.file in
    subst (λ (h : History). IsAtMostSynced old h) (sym file) (at_most_synced old c.in-Ok.reader.file (c.in-Ok.ensures.kept tells) some)

pub returns-in-Err-read_back-clause-reason : goal.returns-in-Err-read_back-clause-reason
returns-in-Err-read_back-clause-reason g c tells =
    let same = c.in-Ok.ensures.same tells c.in-Err-read_back.ensures.more in
    subst (λ (file : Bytes). IsReason c.in-Err-read_back.e c.args.pinned file) same (c.in-Err-read_back.ensures.reason tells (c.in-Ok.ensures.begins tells))

pub returns-in-Err-read_back-clause-untouched : goal.returns-in-Err-read_back-clause-untouched
returns-in-Err-read_back-clause-untouched g c tells =
    let old = g.S.Storage.history c.args.storage in
    let file : g.S.Storage.history c.close-in-Err-read_back.result ≡ c.in-Ok.reader.file = c.close-in-Err-read_back.ensures.file ∙ c.read_back.ensures.file in
    inr (subst (λ (h : History). IsAtMostSynced old h) (sym file) (synced_once old c.in-Ok.reader.file (c.in-Ok.ensures.kept tells) (c.in-Ok.ensures.more tells c.in-Err-read_back.ensures.more)))

pub returns-in-Err-read_back-clause-ours : goal.returns-in-Err-read_back-clause-ours
returns-in-Err-read_back-clause-ours g c tells history is =
    let old = g.S.Storage.history c.args.storage in
    let same = c.in-Ok.ensures.same tells c.in-Err-read_back.ensures.more in
    let why = subst (λ (file : Bytes). IsReason c.in-Err-read_back.e c.args.pinned file) same (c.in-Err-read_back.ensures.reason tells (c.in-Ok.ensures.begins tells)) in
    ours c.in-Err-read_back.e c.args.pinned old.now.text history why is

pub returns-in-Err-read_back-clause-device : goal.returns-in-Err-read_back-clause-device
returns-in-Err-read_back-clause-device g c is =
    let rose = c.in-Err-read_back.ensures.device (ap Err is) in
    subst (λ (n : ℕ). HasRisen (g.S.Storage.fault_count c.args.storage) n) (sym c.close-in-Err-read_back.ensures.faults)
    (risen (g.S.Storage.fault_count c.args.storage) c.in-Ok.reader.faults c.read_back.new.reader.faults c.in-Ok.ensures.later rose)
