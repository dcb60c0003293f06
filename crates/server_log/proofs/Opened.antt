-- Logs that are read back, and those that are refused.
use Rattle.std.proofs.Common.{◌≡◌, ◌⊎◌, inl, inr, ℕ, ◌≤◌, ◌<◌, List, [], ◌∷◌, ◌++◌, map, reverse, length, drop, refl, sym, ◌∙◌, ap, subst, arith}
use Rattle.std.proofs.lemmas.List.{append_assoc}
use Rattle.layout.specs.Types.{Bytes, Key}
use Rattle.std.proofs.lemmas.Bool.{cases_lt}
use Rattle.leaf_ledger.specs.Device.{History, Leaves, Throughout, IsAtMostSynced, HasRisen, at_rest}
use Rattle.leaf_ledger.specs.Moments.{along, rests, stayed, weakened}
use Rattle.record_log.specs.Records.{Record, Reaches, Tells, TellsWithOrWithout, IsNew, KeepsLog, MayBeLeft}
use Rattle.record_log.proofs.Chains.{first_told, one_telling, in_new, not_both}
use Rattle.consistency_server.specs.declared.call.CallKind.{CallKind}
use Rattle.consistency_server.specs.declared.call.CallKind.TheVariants.{Update, Commit}
use Rattle.consistency_server.specs.Answers.{Call}
use Rattle.consistency_server.specs.History.{Ordered, log_of, logged}
use Rattle.server_log.specs.declared.error.OpenError.{OpenError}
use Rattle.server_log.specs.declared.error.OpenError.TheVariants.{OtherKey, NoBeginning, NoCall, Foreign, Damaged, Device, Memory}
use Rattle.server_log.specs.KeptLog.{number_of, record_of, beginning, records_of, IsLogOf, IsReason}
use Rattle.server_log.specs.Reading.{AllLogged}
use Rattle.server_log.proofs.Replays.{each}

-- ---- records of calls

same_kind : (a b : CallKind) → number_of a ≡ number_of b → a ≡ b
same_kind Update Update is = refl
same_kind Update Commit is = absurd (omega (arith, is))
same_kind Commit Update is = absurd (omega (arith, is))
same_kind Commit Commit is = refl

call : CallKind → Bytes → Call
call kind text = record { kind = kind; text = text }

same_call : (a b : Call) → record_of a ≡ record_of b → a ≡ b
unfolding call
same_call a b is =
    ap (λ (k : CallKind). call k a.text) (same_kind a.kind b.kind (ap (λ (r : Record). r.kind) is))
    ∙ ap (λ (t : Bytes). call b.kind t) (ap (λ (r : Record). r.text) is)

heads : (x y : Record) (a b : List Record) → x ∷ a ≡ y ∷ b → x ≡ y
heads x y a b is = cc

tails : (x y : Record) (a b : List Record) → x ∷ a ≡ y ∷ b → a ≡ b
tails x y a b is = ap (λ (l : List Record). drop 1 l) is

no_more : (x : Record) (a : List Record) → [] ≡ x ∷ a → ⊥
no_more x a is = cc

same_calls : (a b : List Call) → map record_of a ≡ map record_of b → a ≡ b
same_calls [] [] is = refl
same_calls [] (y ∷ b) is = absurd (no_more (record_of y) (map record_of b) is)
same_calls (x ∷ a) [] is = absurd (no_more (record_of x) (map record_of a) (sym is))
same_calls (x ∷ a) (y ∷ b) is =
    ap (λ (c : Call). c ∷ a) (same_call x y (heads (record_of x) (record_of y) (map record_of a) (map record_of b) is))
    ∙ ap (λ (l : List Call). y ∷ l) (same_calls a b (tails (record_of x) (record_of y) (map record_of a) (map record_of b) is))

-- a record among those of calls is that of one
record One (calls : List Call) (front : List Record) (r : Record) : Type 0 where
  pub before : List Call
  pub after : List Call
  pub one : Call
  pub split : calls ≡ before ++ one ∷ after
  pub front_is : map record_of before ≡ front
  pub is : record_of one ≡ r

one_of : (calls : List Call) (front : List Record) (r : Record) (more : List Record) → map record_of calls ≡ front ++ r ∷ more → One calls front r
one_of [] [] r more is = absurd (no_more r more is)
one_of [] (x ∷ front) r more is = absurd (no_more x (front ++ r ∷ more) is)
one_of (c ∷ calls) [] r more is = record {
  before = [];
  after = calls;
  one = c;
  split = refl;
  front_is = refl;
  is = heads (record_of c) r (map record_of calls) more is;
}
one_of (c ∷ calls) (x ∷ front) r more is =
    let rest = one_of calls front r more (tails (record_of c) x (map record_of calls) (front ++ r ∷ more) is) in
    record {
      before = c ∷ rest.before;
      after = rest.after;
      one = rest.one;
      split = ap (λ (l : List Call). c ∷ l) rest.split;
      front_is = ap (λ (l : List Record). record_of c ∷ l) rest.front_is ∙ ap (λ (y : Record). y ∷ front) (heads (record_of c) x (map record_of calls) (front ++ r ∷ more) is);
      is = rest.is;
    }

-- ---- one log

not_empty : (key : Key) (calls : List Call) → records_of key calls ≡ [] → ⊥
not_empty key calls is = no_more (beginning key) (map record_of calls) (sym is)

-- a file with a beginning is the log of no other calls
pub only : (key : Key) (file : Bytes) (calls others : List Call) → Tells (records_of key calls) file → IsLogOf key others file → others ≡ calls
only key file calls others told (inl tells) =
    same_calls others calls (tails (beginning key) (beginning key) (map record_of others) (map record_of calls) (one_telling file (records_of key others) (records_of key calls) tells told))
only key file calls others told (inr none) = absurd (not_empty key calls (one_telling file (records_of key calls) [] told none.0))

-- a file without records is the log of no calls
pub none_of : (key : Key) (file : Bytes) (calls : List Call) → Tells [] file → IsLogOf key calls file → calls ≡ []
none_of key file calls told (inl tells) = absurd (not_empty key calls (one_telling file (records_of key calls) [] tells told))
none_of key file calls told (inr none) = none.1

-- ---- crashes while it is opened

both_new : (key : Key) (calls : List Call) (old left : Bytes) → IsNew old → IsNew left → IsLogOf key calls old → IsLogOf key calls left
both_new key calls old left few few' (inl tells) = absurd (not_empty key calls (in_new old (records_of key calls) tells few))
both_new key calls old left few few' (inr none) = inr (inl (few', refl), none.1)

pub any_moment : (key : Key) (old new : History) → Throughout (MayBeLeft old) old new → (calls : List Call) → IsLogOf key calls old.now.text → Leaves (IsLogOf key calls) old.now → Throughout (IsLogOf key calls) old new
any_moment key old new all calls told before = weakened (MayBeLeft old) (IsLogOf key calls) old new each_left all
  where
    each_left : (left : Bytes) → MayBeLeft old left → IsLogOf key calls left
    each_left left (inl may) = before left may
    each_left left (inr (inl same)) = subst (IsLogOf key calls) (sym same) told
    each_left left (inr (inr new)) = both_new key calls old.now.text left new.0 new.1 told

-- ---- what is done to it

-- a file that tells some record, or is damaged, has more than one byte
not_new : (file : Bytes) → (Tells [] file → ⊥) → 1 < length file
not_new file some = elim (cases_lt 1 (length file)) [
  | inl long ↦ long
  | inr few ↦ absurd (some (inl (few, refl)))
]

pub at_most_synced : (old new : History) → KeepsLog old new → (Tells [] old.now.text → ⊥) → IsAtMostSynced old new
at_most_synced old new keeps some = keeps (not_new old.now.text some)

pub synced_once : (old new : History) → KeepsLog old new → (IsNew old.now.text → ⊥) → IsAtMostSynced old new
synced_once old new keeps some = elim (cases_lt 1 (length old.now.text)) [
  | inl long ↦ keeps long
  | inr few ↦ absurd (some few)
]

same_text : (old new : History) → IsAtMostSynced old new → new.now.text ≡ old.now.text
same_text old new (inl same) = ap (λ (h : History). h.now.text) same
same_text old new (inr after) = ap (λ (h : History). h.now.text) after

-- what is read afterwards is the log of the same calls
pub reads : (key : Key) (old new : History) → KeepsLog old new → (IsNew old.now.text → IsNew new.now.text) → (calls : List Call) → IsLogOf key calls old.now.text → IsLogOf key calls new.now.text
reads key old new keeps still calls is = elim (cases_lt 1 (length old.now.text)) [
  | inl long ↦ subst (IsLogOf key calls) (sym (same_text old new (keeps long))) is
  | inr few ↦ both_new key calls old.now.text new.now.text few (still few) is
]

-- ---- a log without records is given its beginning

-- before it is written
pub no_calls : (key : Key) (h : History) → h.now ≡ at_rest h.now.text → Tells [] h.now.text → Throughout (IsLogOf key []) h h
no_calls key h rest none = stayed (IsLogOf key []) h (rests (IsLogOf key []) h.now h.now.text rest (inr (none, refl)))

pub with_beginning : (key : Key) (added : List Record) (file : Bytes) → added ≡ beginning key ∷ [] → TellsWithOrWithout [] added file → IsLogOf key [] file
with_beginning key added file is (inl none) = inr (none, refl)
with_beginning key added file is (inr told) = inl (subst (λ (rs : List Record). Tells rs file) is told)

pub while_written : (key : Key) (added : List Record) (old new : History) → added ≡ beginning key ∷ [] → Throughout (TellsWithOrWithout [] added) old new → Throughout (IsLogOf key []) old new
while_written key added old new is = weakened (TellsWithOrWithout [] added) (IsLogOf key []) old new (λ file. with_beginning key added file is)

-- the beginning, pushed alone
pub one_added : (added items first : List Record) (r b : Record) → added ≡ items → items ≡ first ++ r ∷ [] → first ≡ [] → r ≡ b → added ≡ b ∷ []
one_added added items first r b is pushed none same =
    is ∙ pushed ∙ ap (λ (l : List Record). l ++ r ∷ []) none ∙ ap (λ (x : Record). x ∷ []) same

-- from before it was opened
pub begun : (key : Key) (old mid new : History) → Throughout (MayBeLeft old) old mid → Throughout (IsLogOf key []) mid new → Tells [] old.now.text
    → (calls : List Call) → IsLogOf key calls old.now.text → Leaves (IsLogOf key calls) old.now → Throughout (IsLogOf key calls) old new
begun key old mid new left written told calls is before =
    along (IsLogOf key calls) old mid new (any_moment key old mid left calls is before)
    (subst (λ (cs : List Call). Throughout (IsLogOf key cs) mid new) (sym (none_of key old.now.text calls told is)) written)

-- what is read then
pub begun_reads : (key : Key) (old new : Bytes) → Tells [] old → IsLogOf key [] new → (calls : List Call) → IsLogOf key calls old → IsLogOf key calls new
begun_reads key old new told is calls before = subst (λ (cs : List Call). IsLogOf key cs new) (sym (none_of key old calls told before)) is

-- ---- the order that is answered

pub its_log : (key : Key) (order : Ordered) → order.pinned ≡ key → AllLogged order → log_of key order.history ≡ reverse order.history
its_log key order same all = subst (λ (k : Key). log_of k order.history ≡ reverse order.history) same all

pub as_logged : (key : Key) (order : Ordered) (file : Bytes) → order.pinned ≡ key → AllLogged order → Tells (records_of key (reverse order.history)) file → Tells (records_of key (log_of key order.history)) file
as_logged key order file same all told = subst (λ (calls : List Call). Tells (records_of key calls) file) (sym (its_log key order same all)) told

pub no_log : (key : Key) (order : Ordered) → order ≡ record { pinned = key; history = [] } → log_of key order.history ≡ []
unfolding log_of
no_log key order is = ap (λ (o : Ordered). log_of key o.history) is

pub none_logged : (key : Key) (order : Ordered) → order ≡ record { pinned = key; history = [] } → log_of key order.history ≡ reverse order.history
none_logged key order is = no_log key order is ∙ sym (ap (λ (o : Ordered). reverse o.history) is)

-- ---- faults

pub risen : (before now after : ℕ) → before ≤ now → HasRisen now after → HasRisen before after
risen before now after later rose below = let more = rose below in omega (arith, later, more)

-- ---- refusals

abbrev pub IsMachines : OpenError → Type 0
IsMachines e = (e ≡ Device) ⊎ (e ≡ Memory)

-- the log of an order has none of what is wrong with files that are refused
pub ours : (e : OpenError) (key : Key) (file : Bytes) (history : List Call) → IsReason e key file → IsLogOf key (log_of key history) file → IsMachines e
ours OtherKey key file history why (inl tells) =
    let more = first_told file why.2.0 (beginning why.0 ∷ []) (records_of key (log_of key history)) why.2.1 tells in
    absurd (why.1 (sym (ap (λ (r : Record). r.text) (heads (beginning key) (beginning why.0) (map record_of (log_of key history)) more.0 more.1))))
ours OtherKey key file history why (inr none) =
    let more = first_told file why.2.0 (beginning why.0 ∷ []) [] why.2.1 none.0 in
    absurd (no_more (beginning why.0) more.0 more.1)
ours NoBeginning key file history why (inl tells) =
    let more = first_told file why.2.0 (why.0 ∷ []) (records_of key (log_of key history)) why.2.1 tells in
    absurd (why.1 (sym (ap (λ (r : Record). r.kind) (heads (beginning key) why.0 (map record_of (log_of key history)) more.0 more.1))))
ours NoBeginning key file history why (inr none) =
    let more = first_told file why.2.0 (why.0 ∷ []) [] why.2.1 none.0 in
    absurd (no_more why.0 more.0 more.1)
ours NoCall key file history why (inl tells) = absurd (no_call (log_of key history) why.0 why.1 why.2 why.3.0 why.3.1 tells)
  where
    no_call : (calls cs : List Call) (r : Record) → ((kind : CallKind) → number_of kind ≡ r.kind → ⊥) → (gate : ℕ) → Reaches file gate (records_of key cs ++ r ∷ []) → Tells (records_of key calls) file → ⊥
    no_call calls cs r none gate reaches told =
        let more = first_told file gate (records_of key cs ++ r ∷ []) (records_of key calls) reaches told in
        let one = one_of calls (map record_of cs) r more.0 (tails (beginning key) (beginning key) (map record_of calls) ((map record_of cs ++ r ∷ []) ++ more.0) more.1 ∙ append_assoc (map record_of cs) (r ∷ []) more.0) in
        none one.one.kind (ap (λ (x : Record). x.kind) one.is)
ours NoCall key file history why (inr none) =
    let more = first_told file why.3.0 (records_of key why.0 ++ why.1 ∷ []) [] why.3.1 none.0 in
    absurd (no_more (beginning key) ((map record_of why.0 ++ why.1 ∷ []) ++ more.0) more.1)
ours Foreign key file history why (inl tells) = absurd (foreign (log_of key history) refl why.0 why.1 why.2 why.3.0 why.3.1 tells)
  where
    both : (c : Call) → c ∷ [] ≡ [] → ⊥
    both c is = cc

    foreign : (calls : List Call) → log_of key history ≡ calls → (cs : List Call) (c : Call) → logged (record { pinned = key; history = reverse cs }) c ≡ []
        → (gate : ℕ) → Reaches file gate (records_of key cs ++ record_of c ∷ []) → Tells (records_of key calls) file → ⊥
    foreign calls is cs c none gate reaches told =
        let more = first_told file gate (records_of key cs ++ record_of c ∷ []) (records_of key calls) reaches told in
        let one = one_of calls (map record_of cs) (record_of c) more.0 (tails (beginning key) (beginning key) (map record_of calls) ((map record_of cs ++ record_of c ∷ []) ++ more.0) more.1 ∙ append_assoc (map record_of cs) (record_of c ∷ []) more.0) in
        let before : one.before ≡ cs = same_calls one.before cs one.front_is in
        let same : one.one ≡ c = same_call one.one c one.is in
        let split : log_of key history ≡ cs ++ c ∷ one.after =
        is ∙ one.split ∙ ap (λ (l : List Call). l ++ one.one ∷ one.after) before ∙ ap (λ (x : Call). cs ++ x ∷ one.after) same in
        both c (sym (each key history cs one.after c split) ∙ none)
ours Foreign key file history why (inr none) =
    let more = first_told file why.3.0 (records_of key why.0 ++ record_of why.1 ∷ []) [] why.3.1 none.0 in
    absurd (no_more (beginning key) ((map record_of why.0 ++ record_of why.1 ∷ []) ++ more.0) more.1)
ours Damaged key file history why (inl tells) = absurd (not_both file (records_of key (log_of key history)) tells why)
ours Damaged key file history why (inr none) = absurd (not_both file [] none.0 why)
ours Device key file history why log = inl refl
ours Memory key file history why log = inr refl
