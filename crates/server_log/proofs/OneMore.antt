-- One record more of a log that is read back.
use Rattle.std.proofs.Common.{◌≡◌, ℕ, List, [], ◌∷◌, ◌++◌, map, reverse, refl, sym, ◌∙◌, ap, subst}
use Rattle.std.proofs.lemmas.List.{map-append, reverse-append}
use Rattle.layout.specs.Types.{Bytes, Key}
use Rattle.record_log.specs.Records.{Record, Reading, HasRead}
use Rattle.consistency_server.specs.declared.call.CallKind.{CallKind}
use Rattle.consistency_server.specs.Answers.{Call}
use Rattle.consistency_server.specs.History.{Ordered, call_of, log_of, logged}
use Rattle.server_log.specs.KeptLog.{number_of, record_of, beginning, records_of}
use Rattle.server_log.specs.Reading.{AllLogged, IsReadBack}

of : ℕ → Bytes → Record
of kind text = record { kind = kind; text = text }

-- the record of this key, or of this call
pub is_beginning : (r : Record) (key : Key) → r.kind ≡ 3 → r.text ≡ key → r ≡ beginning key
unfolding of
is_beginning r key kind text = ap (λ (k : ℕ). of k r.text) kind ∙ ap (λ (t : Bytes). of 3 t) text

pub is_call : (r : Record) (kind : CallKind) (text : Bytes) → number_of kind ≡ r.kind → text ≡ r.text → record_of (call_of kind text) ≡ r
unfolding of
is_call r kind text number same = ap (λ (k : ℕ). of k text) number ∙ ap (λ (t : Bytes). of r.kind t) same

-- the beginning alone
pub read_first : (key : Key) (r : Record) (order : Ordered) (new : Reading) → r ≡ beginning key → order ≡ record { pinned = key; history = [] }
    → HasRead (r ∷ []) new → IsReadBack order new
read_first key r order new is same read =
    subst (λ (o : Ordered). IsReadBack o new) (sym same) (subst (λ (x : Record). HasRead (x ∷ []) new) is read)

pub none_yet : (key : Key) (order : Ordered) → order ≡ record { pinned = key; history = [] } → AllLogged order
unfolding log_of
none_yet key order same = subst (λ (o : Ordered). AllLogged o) (sym same) refl

reversed : (c : Call) (h : List Call) → reverse (c ∷ h) ≡ reverse h ++ c ∷ []
reversed c h = reverse-append (c ∷ []) h

-- the records of a call more
pub one_more : (key : Key) (c : Call) (h : List Call) → records_of key (reverse (c ∷ h)) ≡ records_of key (reverse h) ++ record_of c ∷ []
one_more key c h =
    ap (λ (l : List Record). beginning key ∷ l) (ap (λ (l : List Call). map record_of l) (reversed c h) ∙ map-append record_of (reverse h) (c ∷ []))

pub logged_more : (order : Ordered) (c : Call) → AllLogged order → logged order c ≡ c ∷ [] → AllLogged (record order { history = c ∷ order.history })
unfolding log_of
logged_more order c all is = ap (λ (l : List Call). l ++ logged order c) all ∙ ap (λ (l : List Call). reverse order.history ++ l) is ∙ sym (reversed c order.history)

pub read_more : (order : Ordered) (c : Call) (r : Record) (new : Reading) → record_of c ≡ r → HasRead (records_of order.pinned (reverse order.history) ++ r ∷ []) new
    → IsReadBack (record order { history = c ∷ order.history }) new
read_more order c r new is read =
    subst (λ (rs : List Record). HasRead rs new) (ap (λ (x : Record). records_of order.pinned (reverse order.history) ++ x ∷ []) (sym is) ∙ sym (one_more order.pinned c order.history)) read
