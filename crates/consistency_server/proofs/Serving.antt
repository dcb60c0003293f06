-- What a call leaves that was carried out, in the words of the history.
use Rattle.std.proofs.Common.{◌≡◌, ℕ, Bool, true, false, cond, List, [], ◌∷◌, ◌++◌, Option, Some, None, Result, Ok, Err, refl, sym, ap, ◌∙◌, subst}
use Rattle.std.specs.Prelude.{OnOk, OnErr, not, find, map, reverse}
use Rattle.std.specs.Option.{option_map_or}
use Rattle.layout.specs.declared.error.ReadError.{ReadError}
use Rattle.layout.specs.Format.{whole}
use Rattle.lms_sign.specs.Signature.{valid}
use Rattle.version_order.specs.Structure.{Structure, structure}
use Rattle.update_cert.specs.Cert.{Cert, cert}
use Rattle.pending_list.specs.declared.signed.Signed.{Signed}
use Rattle.pending_list.specs.Signed.{signed}
use Rattle.pending_list.specs.Reply.{reply}
use Rattle.principals.specs.Table.{genesis, key_of, lists_user}
use Rattle.wire.specs.declared.kinds.Status.TheVariants as status
use Rattle.consistency_server.specs.declared.call.CallKind.{CallKind}
use Rattle.consistency_server.specs.declared.call.CallKind.TheVariants.{Update, Commit}
use Rattle.consistency_server.specs.declared.state.Verdict.{Verdict}
use Rattle.consistency_server.specs.Event.{Placed, Committed}
use Rattle.consistency_server.specs.State.{Placement, State, next_reply}
use Rattle.consistency_server.specs.Answers.{Call, Outcome, Refused, Repeated, Happens, answer, outcome_of, by_kind, same_cert, is_next, at_limit, placing, verified_update, update_beside, read_update, structure_of, same_structure, is_pending, committing, verifies, read_commit}
use Rattle.consistency_server.specs.History.{events, kept, is_carried_out}
use Rattle.consistency_server.specs.Judged.{JudgedAs, state_after}
use Rattle.consistency_server.proofs.Kept.{kept_at_first, kept_after}

-- ---- each outcome is carried out

abbrev Serves : Outcome → Type 0
Serves o = is_carried_out (answer o).status ≡ true

either_serves : (b : Bool) (x y : Outcome) → Serves x → Serves y → Serves (cond b x y)
either_serves true x y p q = p
either_serves false x y p q = q

placing_serves : (state : State) (c : Signed Cert) → Serves (placing state c)
placing_serves state c =
    either_serves (not (is_next state c.value)) (Refused status.WrongNumber) _ refl
    (either_serves (at_limit state c.value) (Refused status.TooLarge) (Happens (Placed c) (reply.spell (next_reply state c))) refl refl)

verified_update_serves : (state : State) (c : Signed Cert) (key : Option (List ℕ)) → Serves (verified_update state c key)
verified_update_serves state c None = refl
verified_update_serves state c (Some key) =
    either_serves (valid key (cert.spell c.value) c.signature) (placing state c) (Refused status.BadSignature) (placing_serves state c) refl

beside_serves : (o : Option Placement) (state : State) (c : Signed Cert) → Serves (update_beside o state c)
beside_serves (Some w) state c = refl
beside_serves None state c = verified_update_serves state c (key_of c.value.user state.table)

read_update_serves : (state : State) (r : Result (Signed Cert) ReadError) → Serves (read_update state r)
read_update_serves state (Err e) = refl
read_update_serves state (Ok c) = beside_serves (find (same_cert c) state.pending) state c

committing_serves : (state : State) (s : Signed Structure) → Serves (committing state s)
committing_serves state s =
    either_serves (option_map_or (same_structure s) (structure_of s.value.plan.user state) false) (Repeated []) _ refl
    (either_serves (is_pending state s.value) (Happens (Committed s) []) (Refused status.NotPending) refl refl)

read_commit_serves : (state : State) (r : Result (Signed Structure) ReadError) → Serves (read_commit state r)
read_commit_serves state (Err e) = refl
read_commit_serves state (Ok s) =
    either_serves (not (lists_user state.table s.value.plan.user)) (Refused status.UnknownUser) _ refl
    (either_serves (not (verifies state.table s)) (Refused status.BadSignature) (committing state s) refl (committing_serves state s))

by_kind_serves : (state : State) (text : List ℕ) (kind : CallKind) → Serves (by_kind state text kind)
by_kind_serves state text Update = read_update_serves state (whole (signed cert) text)
by_kind_serves state text Commit = read_commit_serves state (whole (signed structure) text)

pub serves : (state : State) (call : Call) → Serves (outcome_of state call)
unfolding outcome_of
serves state call = by_kind_serves state call.text call.kind

-- ---- a call that was judged

pub kept_genesis : (pinned : List ℕ) (history : List Call) (state : State) → history ≡ [] → state ≡ record { table = genesis pinned; vector = []; structures = []; pending = [] } → state ≡ kept pinned history
unfolding events
kept_genesis pinned history state empty start = start ∙ sym (ap (kept pinned) empty ∙ kept_at_first pinned)

pub none_so_far : {X : Type 0} (value : X → Call) (xs : List X) → xs ≡ [] → reverse (map value xs) ≡ []
none_so_far value xs is = ap (λ ys. reverse (map value ys)) is

pub on_ok : {X E : Type 0} (r : Result X E) (P Q : Type 0) → (P → Q) → OnOk r P → OnOk r Q
on_ok (Ok x) P Q more h = more h
on_ok (Err e) P Q more h = tt

-- a call is its kind and its text
pub same_call : (kind : CallKind) (text : List ℕ) (call : Call) → kind ≡ call.kind → text ≡ call.text → record { kind = kind; text = text } ≡ call
same_call kind text call of said = ap (λ k. record { kind = k; text = text }) of ∙ ap (λ t. record { kind = call.kind; text = t }) said

pub kept_after_verdict : {A X E : Type 0} (r : Result X E) (pinned : List ℕ) (old new : List Call) (call : Call) (state state' : State) (j : Verdict A) → state ≡ kept pinned old → JudgedAs state j (outcome_of state call)
    → OnOk r (state' ≡ state_after state j) → OnOk r (new ≡ call ∷ old) → OnErr r (state' ≡ state) → OnErr r (new ≡ old) → state' ≡ kept pinned new
unfolding events
kept_after_verdict (Ok x) pinned old new call state state' j is found moved more none none' =
    moved
    ∙ kept_after pinned (events pinned old) state j (outcome_of (kept pinned old) call) is (subst (λ (s : State). JudgedAs state j (outcome_of s call)) is found)
    ∙ ap (kept pinned) (sym more)
kept_after_verdict (Err x) pinned old new call state state' j is found moved more same same' = same ∙ is ∙ ap (kept pinned) (sym same')
