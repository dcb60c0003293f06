-- Runs with a server that ends and is started again: what is left of them is an honest run, and what was told stays.
use Rattle.std.proofs.Common.{◌≡◌, ◌≢◌, ◌≤◌, ◌⊎◌, inl, inr, ℕ, Bool, true, false, if◌then◌else◌, List, [], ◌∷◌, ◌++◌, Option, Some, None, IfSome, length, drop, reverse, option_to_list, refl, sym, ◌∙◌, ap, subst, arith}
use Rattle.std.specs.Prelude.{IsSomeAnd, MatchOption}
use Rattle.std.specs.List.{flat_map}
use Rattle.std.specs.Option.{option_and_then, option_map_or}
use Rattle.std.proofs.lemmas.List.{append-nil, append_assoc, length-append, reverse-append}
use Rattle.layout.specs.Types.{Bytes, Key, User}
use Rattle.itable.specs.File.{NoneCollide}
use Rattle.tree_parts.specs.Blocks.{Blocks}
use Rattle.client_tree.specs.Held.{Block, held, keeping_all}
use Rattle.wire.specs.declared.kinds.Status.{Status}
use Rattle.wire.specs.declared.kinds.Status.TheVariants as status
use Rattle.client_steps.specs.Steps.{Begins, Caches, Call as ClientCall, Client, Closes, Commits, Crashes, Gains, Gives, Hears, IsSound, IsStep, Looks, Opens, Resigns, Signs, StepTaken, Takes}
use Rattle.client_runs.specs.Released.{hashed}
use Rattle.client_runs.specs.Runs.{Event, Keys, client_of, owner, pinned}
use Rattle.fork_consistency.specs.Premises.{AddsOwnKeys}
use Rattle.consistency_server.specs.declared.call.CallKind.{CallKind}
use Rattle.consistency_server.specs.declared.call.CallKind.TheVariants.{Update, Commit}
use Rattle.consistency_server.specs.Event.{Event as ServerEvent}
use Rattle.consistency_server.specs.State.{State}
use Rattle.consistency_server.specs.Answers.{Answer, Call, answer, happened, outcome_of}
use Rattle.consistency_server.specs.History.{call_of, is_carried_out, kept, log_of, logged, logged_of, outcome_after, update_of}
use Rattle.honest_runs.specs.HonestRuns.{Exchange, HonestEvent, IsAnswered, IsHandedIn, IsHonestRun, IsHonestStep, LastAnswered, TookPlace, WasTold, carried_out, client_before, events, history, sent_by, stored}
use Rattle.honest_runs.proofs.Events.{events_with, with_exchange, with_step}
use Rattle.honest_line.specs.OneLine.{HonestPremises}
use Rattle.honest_line.proofs.OneLine.{each_honest_run}
use Rattle.restarted_runs.specs.Restarts.{Does, EachKeptRun, IsDone, IsHandedInOf, IsKeptRun, IsStarted, IsUnanswered, KeptStep, LastTold, Starts, ToldStays, Unanswered, calls_after, log_after, synced_after, told_steps, waits}

-- ---- lists

heads : (x y : Call) (a b : List Call) → x ∷ a ≡ y ∷ b → x ≡ y
heads x y a b is = cc

tails : (x y : Call) (a b : List Call) → x ∷ a ≡ y ∷ b → a ≡ b
tails x y a b is = ap (λ (l : List Call). drop 1 l) is

-- of two lists that go on to be one, the longer one begins with the other
beginning_of : (first later given lost : List Call) → first ++ later ≡ given ++ lost → length first ≤ length given
    → (more : List Call) × (given ≡ first ++ more)
beginning_of [] later given lost is fits = (given, refl)
beginning_of (x ∷ first) later [] lost is fits = absurd (omega (arith, fits))
beginning_of (x ∷ first) later (y ∷ given) lost is fits = one (beginning_of first later given lost (tails x y (first ++ later) (given ++ lost) is) (omega (arith, fits)))
  where
    one : (more : List Call) × (given ≡ first ++ more) → (more : List Call) × (y ∷ given ≡ x ∷ (first ++ more))
    one m = (m.0, ap (λ (z : Call). z ∷ given) (sym (heads x y (first ++ later) (given ++ lost) is)) ∙ ap (λ (l : List Call). x ∷ l) m.1)

-- a list with one more, cut in two: the one more is in the second part, or there is none
cut : (l : List Call) (c : Call) (calls lost : List Call) → l ++ c ∷ [] ≡ calls ++ lost → (lost ≡ []) ⊎ ((before : List Call) × (l ≡ calls ++ before))
cut l c [] lost is = inr (l, refl)
cut [] c (k ∷ []) lost is = inl (sym (tails c k [] lost is))
cut [] c (k ∷ j ∷ calls) lost is = absurd (omega (arith, ap length is, length-append calls lost))
cut (y ∷ l) c (k ∷ calls) lost is = one (cut l c calls lost (tails y k (l ++ c ∷ []) (calls ++ lost) is))
  where
    one : (lost ≡ []) ⊎ ((before : List Call) × (l ≡ calls ++ before)) → (lost ≡ []) ⊎ ((before : List Call) × (y ∷ l ≡ k ∷ (calls ++ before)))
    one (inl none) = inl none
    one (inr b) = inr (b.0, ap (λ (z : Call). z ∷ l) (heads y k (l ++ c ∷ []) (calls ++ lost) is) ∙ ap (λ (m : List Call). k ∷ m) b.1)

all_of : (l calls lost : List Call) → l ≡ calls ++ lost → length l ≤ length calls → l ≡ calls
all_of l calls [] is fits = is ∙ append-nil calls
all_of l calls (c ∷ lost) is fits = absurd (omega (arith, ap length is, length-append calls (c ∷ lost), fits))

none_of : (calls lost : List Call) → [] ≡ calls ++ lost → [] ≡ calls
none_of [] lost is = refl
none_of (c ∷ calls) lost is = absurd (omega (arith, ap length is))

-- ---- answers that wait

some_same : (x y : Exchange) → Some x ≡ Some y → x ≡ y
some_same x y is = cc

not_waiting : (s : Status) → waits s ≡ false → is_carried_out s ≡ false
not_waiting status.Ok v = absurd (cc v)
not_waiting status.Form v = absurd (cc v)
not_waiting status.UnknownUser v = absurd (cc v)
not_waiting status.BadSignature v = absurd (cc v)
not_waiting status.WrongNumber v = absurd (cc v)
not_waiting status.NotPending v = absurd (cc v)
not_waiting status.Busy v = absurd (cc v)
not_waiting status.TooLarge v = absurd (cc v)
not_waiting status.Absent v = absurd (cc v)
not_waiting status.Memory v = refl

-- no answer goes out in a step, or one that doesn't wait
abbrev Quiet : HonestEvent → Type 0
Quiet h = (h.exchange ≡ None) ⊎ ((x : Exchange) × ((h.exchange ≡ Some x) × (waits x.answer.status ≡ false)))

-- one goes out that waits
abbrev Loud : HonestEvent → Type 0
Loud h = (x : Exchange) × ((h.exchange ≡ Some x) × (waits x.answer.status ≡ true))

kind_of : (h : HonestEvent) → Quiet h ⊎ Loud h
kind_of h = by h.exchange refl
  where
    of : (x : Exchange) → h.exchange ≡ Some x → (b : Bool) → waits x.answer.status ≡ b → Quiet h ⊎ Loud h
    of x w false v = inl (inr (x, (w, v)))
    of x w true v = inr (x, (w, v))

    by : (e : Option Exchange) → h.exchange ≡ e → Quiet h ⊎ Loud h
    by None w = inl (inl w)
    by (Some x) w = of x w (waits x.answer.status) refl

-- what is synced after a step in which this was answered
abbrev synced_by : ℕ → ℕ → Option Exchange → ℕ
synced_by all before e = option_map_or (λ x. if waits x.answer.status then all else before) e before

quiet_same : (p : Key) (older : List KeptStep) (h : HonestEvent) → Quiet h → synced_after p (Does h ∷ older) ≡ synced_after p older
quiet_same p older h (inl w) = ap (synced_by (length (log_after p (Does h ∷ older))) (synced_after p older)) w
quiet_same p older h (inr q) =
    ap (synced_by (length (log_after p (Does h ∷ older))) (synced_after p older)) q.1.0
    ∙ ap (λ (b : Bool). if b then length (log_after p (Does h ∷ older)) else synced_after p older) q.1.1

loud_all : (p : Key) (older : List KeptStep) (h : HonestEvent) → Loud h → synced_after p (Does h ∷ older) ≡ length (log_after p (Does h ∷ older))
loud_all p older h l =
    ap (synced_by (length (log_after p (Does h ∷ older))) (synced_after p older)) l.1.0
    ∙ ap (λ (b : Bool). if b then length (log_after p (Does h ∷ older)) else synced_after p older) l.1.1

silent : (h : HonestEvent) → Quiet h → (x : Exchange) → h.exchange ≡ Some x → waits x.answer.status ≡ false
silent h (inl w) x is = (let clash : None ≡ Some x = sym w ∙ is in absurd (cc clash))
silent h (inr q) x is = subst (λ (y : Exchange). waits y.answer.status ≡ false) (some_same q.0 x (sym q.1.0 ∙ is)) q.1.1

-- so nothing is carried out
nothing_done : (h : HonestEvent) → Quiet h → option_and_then carried_out h.exchange ≡ None
nothing_done h (inl w) = ap (option_and_then carried_out) w
nothing_done h (inr q) = ap (option_and_then carried_out) q.1.0 ∙ ap (λ (b : Bool). if b then Some (q.0).call else None) (not_waiting (q.0).answer.status q.1.1)

-- want of memory may be answered after any calls
answered_anywhere : (p : Key) (h g : List Call) (e : Option Exchange) → ((x : Exchange) → e ≡ Some x → waits x.answer.status ≡ false) → IfSome e (IsAnswered p h) → IfSome e (IsAnswered p g)
answered_anywhere p h g None silent a = a
answered_anywhere p h g (Some x) silent a = record {
  carried_out = λ w. (let clash : false ≡ true = sym (not_waiting x.answer.status (silent x refl)) ∙ w in absurd (cc clash));
  bare = a.bare;
  full = λ w. (let clash : false ≡ true = sym (silent x refl) ∙ ap waits w in absurd (cc clash));
  logged_it = λ w. (let clash : false ≡ true = sym (silent x refl) ∙ ap waits w in absurd (cc clash));
}

-- ---- by the law of logs: a log, replayed, leads to what was kept, and each of its calls goes to the log again

module _ (same_kept : (p : Key) (h : List Call) → kept p (reverse (log_of p h)) ≡ kept p h)
    (each : (p : Key) (h before after : List Call) (c : Call) → log_of p h ≡ before ++ c ∷ after → logged (record { pinned = p; history = reverse before }) c ≡ c ∷ []) where
  -- ---- logs

  first_log : (p : Key) → log_of p [] ≡ []
  unfolding log_of
  first_log p = refl

  -- servers of one log keep the same
  kept_by : (p : Key) (h g : List Call) → log_of p h ≡ log_of p g → kept p h ≡ kept p g
  kept_by p h g is = sym (same_kept p h) ∙ ap (λ (l : List Call). kept p (reverse l)) is ∙ same_kept p g

  -- what of a call goes to the log, if there is one
  abbrev added : Key → List Call → Option Call → List Call
  added p h None = []
  added p h (Some c) = logged (record { pinned = p; history = h }) c

  grown : (p : Key) (h : List Call) (o : Option Call) → log_of p (option_to_list o ++ h) ≡ log_of p h ++ added p h o
  unfolding log_of
  grown p h None = sym (append-nil (log_of p h))
  grown p h (Some c) = refl

  added_by : (p : Key) (h g : List Call) (o : Option Call) → log_of p h ≡ log_of p g → added p h o ≡ added p g o
  added_by p h g None is = refl
  added_by p h g (Some c) is = ap (λ (s : State). logged_of (happened (outcome_of s c)) c) (kept_by p h g is)

  single : (p : Key) (h : List Call) (o : Option Call) → (added p h o ≡ []) ⊎ ((c : Call) × (added p h o ≡ c ∷ []))
  single p h None = inl refl
  single p h (Some c) = of (happened (outcome_after (record { pinned = p; history = h }) c)) refl
    where
      of : (es : List ServerEvent) → happened (outcome_after (record { pinned = p; history = h }) c) ≡ es → (added p h (Some c) ≡ []) ⊎ ((d : Call) × (added p h (Some c) ≡ d ∷ []))
      of [] w = inl (ap (λ (es : List ServerEvent). logged_of es c) w)
      of (e ∷ es) w = inr (c, ap (λ (fs : List ServerEvent). logged_of fs c) w)

  answered_by : (p : Key) (h g : List Call) (x : Exchange) → log_of p h ≡ log_of p g → IsAnswered p h x → IsAnswered p g x
  answered_by p h g x is a = record {
    carried_out = λ w. a.carried_out w ∙ ap (λ (s : State). answer (outcome_of s x.call)) (kept_by p h g is);
    bare = a.bare;
    full = λ w. subst (λ (l : List Call). 1024 ≤ length l) is (a.full w);
    logged_it = λ w. subst (λ (s : State). logged_of (happened (outcome_of s x.call)) x.call ≢ []) (kept_by p h g is) (a.logged_it w);
  }

  -- ---- a beginning of a log is the log of its calls

  one_again : (p : Key) (h before after : List Call) (c : Call) → log_of p h ≡ before ++ c ∷ after → log_of p (reverse before) ≡ before
      → log_of p (reverse (before ++ c ∷ [])) ≡ before ++ c ∷ []
  unfolding log_of
  one_again p h before after c is so =
      ap (log_of p) (reverse-append before (c ∷ []))
      ∙ ap (λ (l : List Call). l ++ logged (record { pinned = p; history = reverse before }) c) so
      ∙ ap (λ (l : List Call). before ++ l) (each p h before after c is)

  again_from : (p : Key) (h before rest after : List Call) → log_of p h ≡ (before ++ rest) ++ after → log_of p (reverse before) ≡ before
      → log_of p (reverse (before ++ rest)) ≡ before ++ rest
  again_from p h before [] after is so = subst (λ (l : List Call). log_of p (reverse l) ≡ l) (sym (append-nil before)) so
  again_from p h before (c ∷ rest) after is so =
      subst (λ (l : List Call). log_of p (reverse l) ≡ l) (append_assoc before (c ∷ []) rest)
      (again_from p h (before ++ c ∷ []) rest after (is ∙ ap (λ (l : List Call). l ++ after) (sym (append_assoc before (c ∷ []) rest)))
      (one_again p h before (rest ++ after) c (is ∙ append_assoc before (c ∷ rest) after) so))

  beginning_again : (p : Key) (h before after : List Call) → log_of p h ≡ before ++ after → log_of p (reverse before) ≡ before
  beginning_again p h before after is = again_from p h [] before after is (first_log p)

  -- ---- what is synced is in the log

  fits_quiet : (p : Key) (older : List KeptStep) (h : HonestEvent) → synced_after p older ≤ length (log_after p older) → Quiet h ⊎ Loud h
      → synced_after p (Does h ∷ older) ≤ length (log_after p (Does h ∷ older))
  fits_quiet p older h before (inl q) =
      omega (arith, before, quiet_same p older h q, ap length (grown p (calls_after older) (option_and_then carried_out h.exchange)), length-append (log_after p older) (added p (calls_after older) (option_and_then carried_out h.exchange)))
  fits_quiet p older h before (inr l) = omega (arith, loud_all p older h l)

  fits : (keys : Keys) (run : List KeptStep) → IsKeptRun keys run → synced_after (pinned keys) run ≤ length (log_after (pinned keys) run)
  fits keys [] is = omega (arith)
  fits keys (Does h ∷ older) is = fits_quiet (pinned keys) older h (fits keys older is.1) (kind_of h)
  fits keys (Unanswered u x ∷ older) is =
      omega (arith, fits keys older is.1, ap length (grown (pinned keys) (calls_after older) (carried_out x)), length-append (log_after (pinned keys) older) (added (pinned keys) (calls_after older) (carried_out x)))
  fits keys (Starts calls ∷ older) is =
      subst (λ (l : List Call). synced_after (pinned keys) older ≤ length l) (sym (beginning_again (pinned keys) (calls_after older) calls (is.0).lost (is.0).log)) (is.0).synced

  -- ---- what was told stays

  -- after these steps so much is synced, and the log begins with these calls
  abbrev Holds : Keys → List KeptStep → List Call → Type 0
  Holds keys run first = (length first ≤ synced_after (pinned keys) run) × ((later : List Call) × (log_after (pinned keys) run ≡ first ++ later))

  with_more : (p : Key) (calls first : List Call) (o : Option Call) → (later : List Call) × (log_of p calls ≡ first ++ later) → (later : List Call) × (log_of p (option_to_list o ++ calls) ≡ first ++ later)
  with_more p calls first o has = (has.0 ++ added p calls o, grown p calls o ∙ ap (λ (l : List Call). l ++ added p calls o) has.1 ∙ append_assoc first has.0 (added p calls o))

  synced_still : (keys : Keys) (run : List KeptStep) (h : HonestEvent) (first : List Call) → Holds keys run first → ((later : List Call) × (log_after (pinned keys) (Does h ∷ run) ≡ first ++ later))
      → Quiet h ⊎ Loud h → length first ≤ synced_after (pinned keys) (Does h ∷ run)
  synced_still keys run h first has more (inl q) = omega (arith, has.0, quiet_same (pinned keys) run h q)
  synced_still keys run h first has more (inr l) = omega (arith, loud_all (pinned keys) run h l, ap length more.1, length-append first more.0)

  after_step : (keys : Keys) (run : List KeptStep) (h : HonestEvent) (first : List Call) → Holds keys run first → Holds keys (Does h ∷ run) first
  after_step keys run h first has =
      let more = with_more (pinned keys) (calls_after run) first (option_and_then carried_out h.exchange) has.1 in
      (synced_still keys run h first has more (kind_of h), more)

  after_start : (keys : Keys) (run : List KeptStep) (calls first : List Call) → IsStarted keys run calls → Holds keys run first → Holds keys (Starts calls ∷ run) first
  after_start keys run calls first is has =
      let more = beginning_of first (has.1).0 calls is.lost (sym (has.1).1 ∙ is.log) (omega (arith, has.0, is.synced)) in
      (has.0, (more.0, beginning_again (pinned keys) (calls_after run) calls is.lost is.log ∙ more.1))

  later_on : (keys : Keys) (newer older : List KeptStep) → IsKeptRun keys (newer ++ older) → (first : List Call) → Holds keys older first → Holds keys (newer ++ older) first
  later_on keys [] older is first has = has
  later_on keys (Does h ∷ newer) older is first has = after_step keys (newer ++ older) h first (later_on keys newer older is.1 first has)
  later_on keys (Unanswered u x ∷ newer) older is first has =
      let before = later_on keys newer older is.1 first has in
      (before.0, with_more (pinned keys) (calls_after (newer ++ older)) first (carried_out x) before.1)
  later_on keys (Starts calls ∷ newer) older is first has = after_start keys (newer ++ older) calls first is.0 (later_on keys newer older is.1 first has)

  told_by : (keys : Keys) (newer : List KeptStep) (h : HonestEvent) (older : List KeptStep) → IsKeptRun keys (newer ++ Does h ∷ older) → (e : Option Exchange) → h.exchange ≡ e
      → IfSome e (λ x. waits x.answer.status ≡ true → (later : List Call) × (log_after (pinned keys) (newer ++ Does h ∷ older) ≡ log_after (pinned keys) (Does h ∷ older) ++ later))
  told_by keys newer h older is None w = tt
  told_by keys newer h older is (Some x) w =
      λ v. (later_on keys newer (Does h ∷ older) is (log_after (pinned keys) (Does h ∷ older)) (
        omega (arith, loud_all (pinned keys) older h (x, (w, v))),
        ([], sym (append-nil (log_after (pinned keys) (Does h ∷ older)))),
      )).1

  pub told_stays : ToldStays
  told_stays keys newer h older is = told_by keys newer h older is h.exchange refl

  -- ---- what is left of a run whose log is cut

  -- an honest run in which clients do the same, and whose log has these calls
  record Left (keys : Keys) (run : List KeptStep) (calls : List Call) : Type 0 where
    left : List HonestEvent
    is_run : IsHonestRun keys left
    clients : events left ≡ events (told_steps run)
    log : log_of (pinned keys) (history left) ≡ calls
    put : flat_map (λ (h : HonestEvent). h.put) left ≡ flat_map (λ (h : HonestEvent). h.put) (told_steps run)
    blocks : stored left ≡ stored (told_steps run)
    took : (x : Exchange) → TookPlace (told_steps run) x → TookPlace left x
    last : (call : Call) (s : Status) → LastTold run call s → LastAnswered left call s

  -- so it is for each beginning of the log that has what is synced
  abbrev AreLeft : Keys → List KeptStep → Type 0
  AreLeft keys run = (calls lost : List Call) → log_after (pinned keys) run ≡ calls ++ lost → synced_after (pinned keys) run ≤ length calls → Left keys run calls

  some_by : (o : Option Bytes) (P Q : Bytes → Type 0) → ((t : Bytes) → P t → Q t) → IsSomeAnd o P → IsSomeAnd o Q
  some_by None P Q f a = a
  some_by (Some t) P Q f a = f t a

  answered_if : (p : Key) (h g : List Call) → log_of p h ≡ log_of p g → (e : Option Exchange) → IfSome e (IsAnswered p h) → IfSome e (IsAnswered p g)
  answered_if p h g is None a = a
  answered_if p h g is (Some x) a = answered_by p h g x is a

  -- the log with a step more
  log_with : (p : Key) (h : HonestEvent) (left : List HonestEvent) (calls : List Call) → log_of p (history left) ≡ log_of p calls
      → log_of p (history (h ∷ left)) ≡ log_of p (option_to_list (option_and_then carried_out h.exchange) ++ calls)
  log_with p h left calls is =
      let o = option_and_then carried_out h.exchange in
      ap (log_of p) (with_exchange h left)
      ∙ grown p (history left) o
      ∙ ap (λ (l : List Call). l ++ added p (history left) o) is
      ∙ ap (λ (l : List Call). log_of p calls ++ l) (added_by p (history left) calls o is)
      ∙ sym (grown p calls o)

  -- ---- a step of an honest run

  module _ (keys : Keys) (older : List KeptStep) (h : HonestEvent) (is : IsDone keys older h) (calls : List Call) (l : Left keys older calls) where
    took_place : (x : Exchange) → TookPlace (h ∷ told_steps older) x → TookPlace (h ∷ l.left) x
    took_place x (inl here) = inl here
    took_place x (inr before) = inr (l.took x before)

    last_by : (call : Call) (s : Status) (e : Option Exchange) → MatchOption e (LastTold older call s) (λ x. ((x.call ≡ call) × (x.answer.status ≡ s)) ⊎ ((x.call ≢ call) × LastTold older call s))
        → MatchOption e (LastAnswered l.left call s) (λ x. ((x.call ≡ call) × (x.answer.status ≡ s)) ⊎ ((x.call ≢ call) × LastAnswered l.left call s))
    last_by call s None t = l.last call s t
    last_by call s (Some x) (inl here) = inl here
    last_by call s (Some x) (inr before) = inr (before.0, l.last call s before.1)

    was_told : (client : Client) (kind : CallKind) (a : Answer) → WasTold (h ∷ told_steps older) client kind a → WasTold (h ∷ l.left) client kind a
    was_told client kind a = some_by (sent_by client kind)
        (λ t. TookPlace (h ∷ told_steps older) (record { call = call_of kind t; answer = a }))
        (λ t. TookPlace (h ∷ l.left) (record { call = call_of kind t; answer = a }))
        (λ t. took_place (record { call = call_of kind t; answer = a }))

    handed : (client : Client) (blocks : Blocks) (call : ClientCall) → IsHandedInOf (Does h ∷ older) client blocks call → IsHandedIn (h ∷ l.left) client blocks call
    handed client blocks (Hears text a) given = was_told client Update (record { status = status.Ok; payload = text }) given
    handed client blocks (Takes block a) given = given
    handed client blocks (Commits s) given = (given.0, was_told client Commit (record { status = s; payload = given.0 }) given.1)
    handed client blocks (Gives block a) given = given
    handed client blocks (Resigns n a) given = some_by (sent_by client Update)
        (λ t. LastTold (Does h ∷ older) (update_of t) status.BadSignature)
        (λ t. LastAnswered (h ∷ l.left) (update_of t) status.BadSignature)
        (λ t. last_by (update_of t) status.BadSignature h.exchange) given
    handed client blocks (Opens r) given = given
    handed client blocks Closes given = given
    handed client blocks Gains given = given
    handed client blocks (Begins changes laid r) given = given
    handed client blocks (Signs r) given = given
    handed client blocks (Looks q r) given = given
    handed client blocks (Caches n) given = given
    handed client blocks Crashes given = given

    handed_by : (o : Option StepTaken) → IfSome o (λ s. IsHandedInOf (Does h ∷ older) (client_before h l.left) (held (stored l.left)) s.call)
        → IfSome o (λ s. IsHandedIn (h ∷ l.left) (client_before h l.left) (held (stored l.left)) s.call)
    handed_by None given = given
    handed_by (Some s) given = handed (client_before h l.left) (held (stored l.left)) s.call given

    is_step : IfSome h.exchange (IsAnswered (pinned keys) (history l.left)) → IsHonestStep keys l.left h
    is_step answered = record {
      sent = subst (λ (es : List Event). IfSome h.exchange (λ x. sent_by (client_of h.user es) x.call.kind ≡ Some x.call.text)) (sym l.clients) is.sent;
      answered = answered;
      taken = subst (λ (es : List Event). IfSome h.step (λ s. IsStep (owner keys h.user) (client_of h.user es) s.call s.after × IsSound s.after)) (sym l.clients) is.taken;
      handed_in = handed_by h.step
          (subst (λ (es : List Event). IfSome h.step (λ s. IsHandedInOf (Does h ∷ older) (client_of h.user es) (held (stored l.left)) s.call)) (sym l.clients)
          (subst (λ (bs : List Block). IfSome h.step (λ s. IsHandedInOf (Does h ∷ older) (client_before h (told_steps older)) (held bs) s.call)) (sym l.blocks) is.handed_in));
      put = is.put;
    }

    with_it : (more : List Call) → IfSome h.exchange (IsAnswered (pinned keys) (history l.left)) → log_of (pinned keys) (history (h ∷ l.left)) ≡ more → Left keys (Does h ∷ older) more
    with_it more answered log = record {
      left = h ∷ l.left;
      is_run = (is_step answered, l.is_run);
      clients = with_step h l.left ∙ ap (λ (es : List Event). events_with h.user h.step es) l.clients ∙ sym (with_step h (told_steps older));
      log = log;
      put = ap (λ (ts : List Bytes). h.put ++ ts) l.put;
      blocks = ap (λ (bs : List Block). keeping_all bs h.put) l.blocks;
      took = took_place;
      last = λ call s. last_by call s h.exchange;
    }

  -- no answer goes out in it that waits
  quiet : (keys : Keys) (older : List KeptStep) (h : HonestEvent) (is : IsDone keys older h) → AreLeft keys older → Quiet h → AreLeft keys (Does h ∷ older)
  quiet keys older h is before q calls lost log synced =
      let p = pinned keys in
      let l = before calls lost (ap (λ (o : Option Call). log_of p (option_to_list o ++ calls_after older)) (sym (nothing_done h q)) ∙ log) (omega (arith, synced, quiet_same p older h q)) in
      with_it keys older h is calls l calls
      (answered_anywhere p (calls_after older) (history l.left) h.exchange (silent h q) is.answered)
      (ap (log_of p) (with_exchange h l.left) ∙ ap (λ (o : Option Call). log_of p (option_to_list o ++ history l.left)) (nothing_done h q) ∙ l.log)

  -- one goes out that waits: so all of the log is synced
  loud : (keys : Keys) (older : List KeptStep) (h : HonestEvent) (is : IsDone keys older h) → AreLeft keys older
      → synced_after (pinned keys) older ≤ length (log_after (pinned keys) older) → Loud h → AreLeft keys (Does h ∷ older)
  loud keys older h is before in_log o calls lost log synced =
      let p = pinned keys in
      let l = before (log_after p older) [] (sym (append-nil (log_after p older))) in_log in
      with_it keys older h is (log_after p older) l calls
      (answered_if p (calls_after older) (history l.left) (sym l.log) h.exchange is.answered)
      (log_with p h l.left (calls_after older) l.log ∙ all_of (log_after p (Does h ∷ older)) calls lost log (omega (arith, synced, loud_all p older h o)))

  done_by : (keys : Keys) (older : List KeptStep) (h : HonestEvent) (is : IsDone keys older h) → AreLeft keys older
      → synced_after (pinned keys) older ≤ length (log_after (pinned keys) older) → Quiet h ⊎ Loud h → AreLeft keys (Does h ∷ older)
  done_by keys older h is before in_log (inl q) = quiet keys older h is before q
  done_by keys older h is before in_log (inr o) = loud keys older h is before in_log o

  -- ---- a call of which nobody is told

  nothing_put : (bs : List Block) → keeping_all bs [] ≡ bs
  unfolding keeping_all
  nothing_put bs = refl

  abbrev untold : User → Exchange → HonestEvent
  untold u x = record { user = u; put = []; exchange = Some x; step = None }

  module _ (keys : Keys) (older : List KeptStep) (u : User) (x : Exchange) (is : IsUnanswered keys older u x) (before : AreLeft keys older)
      (in_log : synced_after (pinned keys) older ≤ length (log_after (pinned keys) older)) where
    -- it was lost, or did nothing
    without : (calls lost : List Call) → log_after (pinned keys) older ≡ calls ++ lost → synced_after (pinned keys) older ≤ length calls → Left keys (Unanswered u x ∷ older) calls
    without calls lost log synced =
        let l = before calls lost log synced in
        record {
          left = l.left;
          is_run = l.is_run;
          clients = l.clients;
          log = l.log;
          put = l.put;
          blocks = l.blocks;
          took = l.took;
          last = λ call s told. l.last call s told.1;
        }

    -- it stays
    with_call : (calls : List Call) → log_after (pinned keys) (Unanswered u x ∷ older) ≡ calls → Left keys (Unanswered u x ∷ older) calls
    with_call calls all =
        let p = pinned keys in
        let l = before (log_after p older) [] (sym (append-nil (log_after p older))) in_log in
        record {
          left = untold u x ∷ l.left;
          is_run = (
            record {
              sent = subst (λ (es : List Event). sent_by (client_of u es) x.call.kind ≡ Some x.call.text) (sym l.clients) is.sent;
              answered = answered_by p (calls_after older) (history l.left) x (sym l.log) is.answered;
              taken = tt;
              handed_in = tt;
              put = tt;
            },
            l.is_run,
          );
          clients = l.clients;
          log = log_with p (untold u x) l.left (calls_after older) l.log ∙ all;
          put = l.put;
          blocks = nothing_put (stored l.left) ∙ l.blocks;
          took = λ y there. inr (l.took y there);
          last = λ call s told. inr (told.0, l.last call s told.1);
        }

    lost_or_not : (calls lost : List Call) → log_after (pinned keys) (Unanswered u x ∷ older) ≡ calls ++ lost → synced_after (pinned keys) older ≤ length calls
        → (lost ≡ []) ⊎ ((rest : List Call) × (log_after (pinned keys) older ≡ calls ++ rest)) → Left keys (Unanswered u x ∷ older) calls
    lost_or_not calls lost log synced (inl none) = with_call calls (log ∙ ap (λ (l : List Call). calls ++ l) none ∙ append-nil calls)
    lost_or_not calls lost log synced (inr rest) = without calls rest.0 rest.1 synced

    by_entry : (calls lost : List Call) → log_after (pinned keys) (Unanswered u x ∷ older) ≡ calls ++ lost → synced_after (pinned keys) older ≤ length calls
        → (added (pinned keys) (calls_after older) (carried_out x) ≡ []) ⊎ ((c : Call) × (added (pinned keys) (calls_after older) (carried_out x) ≡ c ∷ []))
        → Left keys (Unanswered u x ∷ older) calls
    by_entry calls lost log synced (inl none) =
        without calls lost
        (sym (append-nil (log_after (pinned keys) older)) ∙ ap (λ (l : List Call). log_after (pinned keys) older ++ l) (sym none) ∙ sym (grown (pinned keys) (calls_after older) (carried_out x)) ∙ log)
        synced
    by_entry calls lost log synced (inr one) =
        lost_or_not calls lost log synced
        (cut (log_after (pinned keys) older) one.0 calls lost
        (ap (λ (l : List Call). log_after (pinned keys) older ++ l) (sym one.1) ∙ sym (grown (pinned keys) (calls_after older) (carried_out x)) ∙ log))

    unanswered : AreLeft keys (Unanswered u x ∷ older)
    unanswered calls lost log synced = by_entry calls lost log synced (single (pinned keys) (calls_after older) (carried_out x))

  -- ---- a start

  started : (keys : Keys) (older : List KeptStep) (given : List Call) → IsStarted keys older given → AreLeft keys older → AreLeft keys (Starts given ∷ older)
  started keys older given is before calls lost log synced =
      let p = pinned keys in
      let l = before calls (lost ++ is.lost) (is.log ∙ ap (λ (m : List Call). m ++ is.lost) (sym (beginning_again p (calls_after older) given is.lost is.log) ∙ log) ∙ append_assoc calls lost is.lost) synced in
      record {
        left = l.left;
        is_run = l.is_run;
        clients = l.clients;
        log = l.log;
        put = l.put;
        blocks = l.blocks;
        took = l.took;
        last = l.last;
      }

  -- ---- all of it

  at_first : (keys : Keys) → AreLeft keys []
  at_first keys calls lost log synced = record {
    left = [];
    is_run = tt;
    clients = refl;
    log = first_log (pinned keys) ∙ none_of calls lost (sym (first_log (pinned keys)) ∙ log);
    put = refl;
    blocks = refl;
    took = λ x there. there;
    last = λ call s told. told;
  }

  leaves : (keys : Keys) (run : List KeptStep) → IsKeptRun keys run → AreLeft keys run
  leaves keys [] is = at_first keys
  leaves keys (Does h ∷ older) is = done_by keys older h is.0 (leaves keys older is.1) (fits keys older is.1) (kind_of h)
  leaves keys (Unanswered u x ∷ older) is = unanswered keys older u x is.0 (leaves keys older is.1) (fits keys older is.1)
  leaves keys (Starts given ∷ older) is = started keys older given is.0 (leaves keys older is.1)

  same_premises : (keys : Keys) (left run : List HonestEvent) → events left ≡ events run → flat_map (λ (h : HonestEvent). h.put) left ≡ flat_map (λ (h : HonestEvent). h.put) run
      → HonestPremises keys run → HonestPremises keys left
  same_premises keys left run clients put p = record {
    no_collision = subst (λ (ts : List Bytes). NoneCollide ts ts)
        (ap (λ (ts : List Bytes). ts ++ hashed keys (events run)) (sym put) ∙ ap (λ (es : List Event). flat_map (λ (h : HonestEvent). h.put) left ++ hashed keys es) (sym clients))
        p.no_collision;
    added = subst (λ (es : List Event). AddsOwnKeys keys es) (sym clients) p.added;
  }

  pub each_kept_run : EachKeptRun
  each_kept_run keys run is =
      let l = leaves keys run is (log_after (pinned keys) run) [] (sym (append-nil (log_after (pinned keys) run))) (fits keys run is) in
      record {
        left = l.left;
        is_run = l.is_run;
        clients = l.clients;
        told = l.took;
        log = l.log;
        one_line = λ are p. each_honest_run keys l.left l.is_run are (same_premises keys l.left (told_steps run) l.clients l.put p);
      }
