-- What happens in a step of a town, by what was told to its client.
use Rattle.std.proofs.Common.{◌≡◌, ◌≢◌, ℕ, zero, suc, Bool, true, false, List, [], ◌∷◌, ◌++◌, map, Option, Some, None, Ok, Err, Result, IfOk, IfSome, IsSomeAnd, option_map, option_and_then, refl, sym, ap, subst, ◌∙◌, inl, inr}
use Rattle.std.specs.Prelude.{◌⊎◌, option_to_list}
use Rattle.std.proofs.lemmas.Bool.{true≢false}
use Rattle.std.proofs.lemmas.List.{append-nil, reverse-append}
use Rattle.std.proofs.lemmas.Slice.Eq.{bytes_eq-Decides}
use Rattle.std.specs.Vec.{vec_items}
use Rattle.std.specs.declared.vec.Vec.{Vec}
use Rattle.layout.specs.Types.{Bytes, User}
use Rattle.client_tree.specs.Held.{Block, held, keeping, keeping_all}
use Rattle.wire.specs.declared.kinds.Status.{Status}
use Rattle.wire.specs.declared.kinds.Status.TheVariants as status
use Rattle.client_steps.specs.Steps.{Client, IsSound, IsStep, Owner, StepTaken}
use Rattle.client_runs.specs.declared.world.Act.{Act}
use Rattle.client_runs.specs.declared.world.Act.TheVariants as act
use Rattle.client_runs.specs.declared.world.Answer.{Answer}
use Rattle.client_runs.specs.declared.world.Answer.TheVariants as answer
use Rattle.client_runs.specs.Runs.{client_of, owner, pinned}
use Rattle.client_runs.specs.Told.{call_of}
use Rattle.client_runs.specs.Carried.{ComesOf, script_keys}
use Rattle.client_runs.specs.Clients.{client_at, structure_of}
use Rattle.consistency_server.specs.declared.call.CallKind.{CallKind}
use Rattle.consistency_server.specs.declared.call.CallKind.TheVariants.{Update, Commit}
use Rattle.consistency_server.specs.Answers.{Answer as ServerAnswer, Call}
use Rattle.honest_runs.specs.declared.step.Delivery.{Delivery}
use Rattle.honest_runs.specs.declared.step.Delivery.TheVariants as delivery
use Rattle.honest_runs.specs.declared.step.HonestAct.{HonestAct}
use Rattle.honest_runs.specs.declared.step.HonestAct.TheVariants as honest
use Rattle.honest_runs.specs.declared.step.HonestStep.{HonestStep}
use Rattle.honest_runs.specs.declared.town.Town.{Town}
use Rattle.honest_runs.specs.HonestRuns.{Exchange, HonestEvent, IsAnswered, IsHandedIn, IsHonestStep, TookPlace, WasTold, carried_out, events, put_with, sent_by, stored}
use Rattle.honest_runs.specs.Served.{Calls, Comes, ComesLate, HearsAnswer, HearsReply, IsDelivered, IsEventOf, exchange_at, exchanges, laid_by, laid_for}
use Rattle.honest_runs.specs.Town.{Acknowledges, AreNoted, Arrives, ComesOfReply, ComesTo, Happens, IsDeliveredTo, IsSent, IsTold, LeadsTo, calling, handed_out, has_text, may_alone, wanted_at}
use Rattle.honest_runs.proofs.Declining.{may_do, may_not_do, still_may}
use Rattle.honest_runs.proofs.Telling.{IsDone, acknowledged, alone_handed, block_handed, does_alone, given_handed, is_done, none_laid, not_alone, reply_handed, status_handed}

-- nothing more is kept of no texts
pub none_kept : (blocks : List Block) → keeping_all blocks [] ≡ blocks
unfolding keeping_all
none_kept blocks = refl

-- texts that are kept after others
pub kept_after : (blocks : List Block) (xs ys : List Bytes) → keeping_all blocks (xs ++ ys) ≡ keeping_all (keeping_all blocks xs) ys
unfolding keeping_all
kept_after blocks [] ys = refl
kept_after blocks (x ∷ xs) ys = kept_after (keeping blocks x) xs ys

if_some : {X : Type 0} (o : Option X) (P Q : X → Type 0) → IfSome o P → ((x : X) → P x → Q x) → IfSome o Q
if_some None P Q p follows = tt
if_some (Some x) P Q p follows = follows x p

if_both : {X : Type 0} (o : Option X) (P Q R : X → Type 0) → IfSome o P → IfSome o Q → ((x : X) → P x → Q x → R x) → IfSome o R
if_both None P Q R p q follows = tt
if_both (Some x) P Q R p q follows = follows x p q

-- ---- what was exchanged

-- this exchange is one of these
abbrev IsAmong : List (Option Exchange) → Exchange → Type 0
IsAmong [] x = ⊥
IsAmong (o ∷ os) x = (o ≡ Some x) ⊎ IsAmong os x

found_among : (os : List (Option Exchange)) (n : ℕ) (x : Exchange) → exchange_at os n ≡ Some x → IsAmong os x
found_among [] n x is = absurd (cc is)
found_among (o ∷ os) zero x is = inl is
found_among (o ∷ os) (suc n) x is = inr (found_among os n x is)

of_both : (os ps : List (Option Exchange)) (x : Exchange) → IsAmong (os ++ ps) x → IsAmong os x ⊎ IsAmong ps x
of_both [] ps x i = inr i
of_both (o ∷ os) ps x (inl e) = inl (inl e)
of_both (o ∷ os) ps x (inr i) = elim (of_both os ps x i) [ inl j ↦ inl (inr j) | inr j ↦ inr j ]

among_run : (run : List HonestEvent) (x : Exchange) → IsAmong (exchanges run) x → TookPlace run x
among_run [] x i = absurd i
among_run (h ∷ older) x i =
    elim (of_both (exchanges older) (h.exchange ∷ []) x (subst (λ (os : List (Option Exchange)). IsAmong os x) (reverse-append (h.exchange ∷ []) (map (λ h. h.exchange) older)) i)) [
      | inl before ↦ inr (among_run older x before)
      | inr now ↦ elim now [ inl e ↦ inl e | inr none ↦ absurd none ]
    ]

-- what stands at a step took place
took_place : (run : List HonestEvent) (n : ℕ) (x : Exchange) → exchange_at (exchanges run) n ≡ Some x → TookPlace run x
took_place run n x is = among_run run x (found_among (exchanges run) n x is)

-- ---- a step

-- what is a step in this town is one after each run that leads to it
step_after : {A : Type 0} (old : Town A) (h : HonestEvent) → IfSome h.exchange (λ x. sent_by (client_at old.clients h.user) x.call.kind ≡ Some x.call.text) → IfSome h.exchange (IsAnswered (pinned script_keys) old.server)
    → IfSome h.step (λ s. IsStep (owner script_keys h.user) (client_at old.clients h.user) s.call s.after × IsSound s.after) → ((older : List HonestEvent) → LeadsTo older old → IfSome h.step (λ s. IsHandedIn (h ∷ older) (client_at old.clients h.user) (held old.store) s.call))
    → IfSome h.step (λ s. h.put ≡ put_with s.call) → (older : List HonestEvent) → LeadsTo older old → IsHonestStep script_keys older h
step_after old h sent answered taken handed put older l =
    let same : client_at old.clients h.user ≡ client_of h.user (events older) = sym (l.clients h.user) in
    record {
      sent = subst (λ (c : Client). IfSome h.exchange (λ x. sent_by c x.call.kind ≡ Some x.call.text)) same sent;
      answered = subst (λ (cs : List Call). IfSome h.exchange (IsAnswered (pinned script_keys) cs)) (sym l.calls) answered;
      taken = subst (λ (c : Client). IfSome h.step (λ s. IsStep (owner script_keys h.user) c s.call s.after × IsSound s.after)) same taken;
      handed_in = subst (λ (c : Client). IfSome h.step (λ s. IsHandedIn (h ∷ older) c (held (stored older)) s.call)) same
          (subst (λ (b : List Block). IfSome h.step (λ s. IsHandedIn (h ∷ older) (client_at old.clients h.user) (held b) s.call)) (sym l.blocks) (handed older l));
      put = put;
    }

module _ {A : Type 0} (todo : HonestStep A) (old new : Town A) where
  abbrev now : Client
  now = client_at old.clients todo.user

  abbrev Others : Type 0
  Others = (v : ℕ) → v ≢ todo.user → client_at new.clients v ≡ client_at old.clients v

  -- what comes of a step comes of it after each run that leads to the town
  abbrev ComesThen : HonestEvent → Answer A → Type 0
  ComesThen h a = (older : List HonestEvent) → LeadsTo older old → Comes older todo.user now todo.act h a

  event_of_step : (h : HonestEvent) (a : Answer A) → h.user ≡ todo.user → ComesThen h a → (h.step ≡ None → h.put ≡ laid_for todo.act) → (older : List HonestEvent) → LeadsTo older old → IsEventOf older todo a h
  event_of_step h a user comes laid older l = record {
    user = user;
    comes = subst (λ (c : Client). Comes older todo.user c todo.act h a) (sym (l.clients todo.user)) (comes older l);
    laid = laid;
  }

  module _ (x : Option Exchange) (sent : IfSome x (λ y. sent_by now y.call.kind ≡ Some y.call.text)) (answered : IfSome x (IsAnswered (pinned script_keys) old.server)) (a : Answer A)
      (others : Others) (calls : new.server ≡ option_to_list (option_and_then carried_out x) ++ old.server) (noted : AreNoted new.clients new.wanted.items) (exchanges : new.exchanges ≡ old.exchanges) where
    -- what the client was told to do
    abbrev event_by : List Bytes → Option StepTaken → HonestEvent
    event_by put step = record { user = todo.user; put = put; exchange = x; step = step }

    happens_by : (t : Act A) (told : Answer A) (d : IsDone todo.user now t told (client_at new.clients todo.user))
        → ((older : List HonestEvent) → LeadsTo older old → IfSome d.step (λ s. IsHandedIn (event_by (laid_by t ++ handed_out told) d.step ∷ older) now (held old.store) s.call))
        → ComesThen (event_by (laid_by t ++ handed_out told) d.step) a
        → (d.step ≡ None → laid_by t ++ handed_out told ≡ laid_for todo.act)
        → new.store ≡ keeping_all old.store (laid_by t ++ handed_out told)
        → Happens todo a x old new
    happens_by t told d handed comes laid stored =
        let h : HonestEvent = event_by (laid_by t ++ handed_out told) d.step in
        record {
          event = h;
          call = refl;
          is_step = step_after old h sent answered d.taken handed d.put;
          is_event = event_of_step h a refl comes laid;
          client = d.client;
          others = others;
          calls = calls;
          stored = stored;
          noted = noted;
          exchanges = exchanges;
        }

    -- it wasn't told anything
    untold : ComesThen (event_by [] None) a → [] ≡ laid_for todo.act → client_at new.clients todo.user ≡ now → new.store ≡ old.store → Happens todo a x old new
    untold comes laid same stored = record {
      event = event_by [] None;
      call = refl;
      is_step = step_after old (event_by [] None) sent answered tt (λ older l. tt) tt;
      is_event = event_of_step (event_by [] None) a refl comes (λ w. laid);
      client = same;
      others = others;
      calls = calls;
      stored = stored ∙ sym (none_kept old.store);
      noted = noted;
      exchanges = exchanges;
    }

  -- what comes of a step comes of it by another name
  comes_as : (h : HonestEvent) (a : Answer A) (what : HonestAct A) → todo.act ≡ what → ((older : List HonestEvent) → LeadsTo older old → Comes older todo.user now what h a) → ComesThen h a
  comes_as h a what is comes older l = subst (λ (w : HonestAct A). Comes older todo.user now w h a) (sym is) (comes older l)

  laid_as : (texts : List Bytes) (what : HonestAct A) → todo.act ≡ what → texts ≡ laid_for what → texts ≡ laid_for todo.act
  laid_as texts what is laid = laid ∙ ap laid_for (sym is)

-- ---- alone

module _ {A : Type 0} (todo : HonestStep A) (old new : Town A) (t : Act A) (is : todo.act ≡ honest.Alone t) where
  -- it may not do it
  pub refused : may_alone old.exchanges.items (client_at old.clients todo.user) t ≡ false → new ≡ old → AreNoted old.clients old.wanted.items → Happens todo answer.NotTaken None old new
  refused cannot same noted =
      let client : Client = client_at old.clients todo.user in
      subst (λ (n : Town A). Happens todo answer.NotTaken None old n) (sym same)
      (untold todo old old None tt tt answer.NotTaken (λ v other. refl) refl noted refl
      (comes_as todo old old (record { user = todo.user; put = []; exchange = None; step = None }) answer.NotTaken (honest.Alone t) is
      (λ older l. (refl, not_alone older todo.user client t (may_not_do older old.exchanges.items l.answers client t cannot))))
      (laid_as todo old old [] (honest.Alone t) is (sym (none_laid old.exchanges.items client t cannot))) refl refl)

  pub alone : (mid : Town A) (a : Answer A) → may_alone old.exchanges.items (client_at old.clients todo.user) t ≡ true → mid.clients ≡ old.clients → mid.server ≡ old.server → mid.store ≡ keeping_all old.store (laid_by t)
      → mid.exchanges ≡ old.exchanges → ComesTo todo.user t a mid new → IsTold todo.user a mid new → Happens todo a None old new
  alone mid a lone same_clients same_server laid same_exchanges comes told =
      let u = todo.user in
      let client : Client = client_at old.clients u in
      let same : client_at mid.clients u ≡ client = ap (λ (cs : List Client). client_at cs u) same_clients in
      let d : IsDone u client t a (client_at new.clients u) = subst (λ (c : Client). IsDone u c t a (client_at new.clients u)) same (is_done u (client_at mid.clients u) t (client_at new.clients u) a comes) in
      happens_by todo old new None tt tt a (λ v other. told.others v other ∙ ap (λ (cs : List Client). client_at cs v) same_clients) (told.server ∙ same_server) told.noted (told.exchanges ∙ same_exchanges)
      t a d
      (λ older l. let run : List HonestEvent = record { user = u; put = laid_by t ++ handed_out a; exchange = None; step = d.step } ∷ older in
      let may = still_may older client t u (laid_by t ++ handed_out a) d.step (may_do older old.exchanges.items l.answers client t lone) in
      if_some d.step (λ s. call_of t a ≡ Some s.call) (λ s. IsHandedIn run client (held old.store) s.call) d.is_call (λ s call. alone_handed run client (held old.store) t a s.call may call))
      (comes_as todo old new (record { user = u; put = laid_by t ++ handed_out a; exchange = None; step = d.step }) a (honest.Alone t) is
      (λ older l. (refl, does_alone older u client t d.step a (may_do older old.exchanges.items l.answers client t lone) d.does)))
      (λ w. laid_as todo old new (laid_by t ++ handed_out a) (honest.Alone t) is (ap (λ (xs : List Bytes). laid_by t ++ xs) (d.none w) ∙ append-nil (laid_by t)))
      (told.stored ∙ ap (λ (b : List Block). keeping_all b (handed_out a)) laid ∙ sym (kept_after old.store (laid_by t) (handed_out a)))

  -- whatever the client answers
  pub alone_told : {E : Type 0} (mid : Town A) (r : Result (Answer A) E) → may_alone old.exchanges.items (client_at old.clients todo.user) t ≡ true → mid.clients ≡ old.clients → mid.server ≡ old.server
      → mid.store ≡ keeping_all old.store (laid_by t) → mid.exchanges ≡ old.exchanges → IfOk r (λ a. ComesTo todo.user t a mid new) → IfOk r (λ a. IsTold todo.user a mid new) → IfOk r (λ a. Happens todo a None old new)
  alone_told mid (Ok a) lone same_clients same_server laid same_exchanges comes told = alone mid a lone same_clients same_server laid same_exchanges comes told
  alone_told mid (Err e) lone same_clients same_server laid same_exchanges comes told = tt

-- ---- blocks

module _ {A : Type 0} (todo : HonestStep A) (old new : Town A) (noted : AreNoted old.clients old.wanted.items) (block : Option (Vec ℕ A)) where
  abbrev client_now : Client
  client_now = client_at old.clients todo.user

  block_happens : (a : Answer A) → todo.act ≡ honest.Block → option_map vec_items block ≡ option_and_then (held old.store) (wanted_at old.wanted.items todo.user).reply
      → ComesTo todo.user (act.Block block) a old new → IsTold todo.user a old new → Happens todo a None old new
  block_happens a is same comes told =
      let o : Owner = owner script_keys todo.user in
      let d : IsDone todo.user client_now (act.Block block) a (client_at new.clients todo.user) = is_done todo.user client_now (act.Block block) (client_at new.clients todo.user) a comes in
      happens_by todo old new None tt tt a told.others told.server told.noted told.exchanges (act.Block block) a d
      (λ older l. let run : List HonestEvent = record { user = todo.user; put = handed_out a; exchange = None; step = d.step } ∷ older in
      if_both d.step (λ s. call_of (act.Block block) a ≡ Some s.call) (λ s. IsStep o client_now s.call s.after × IsSound s.after) (λ s. IsHandedIn run client_now (held old.store) s.call) d.is_call d.taken
      (λ s call step. block_handed run client_now (held old.store) o (wanted_at old.wanted.items todo.user) (noted.each todo.user) block a s.call s.after same call step.0))
      (comes_as todo old new (record { user = todo.user; put = handed_out a; exchange = None; step = d.step }) a honest.Block is (λ older l. (refl, (block, d.does))))
      (λ w. laid_as todo old new (handed_out a) honest.Block is (d.none w))
      told.stored

  give_happens : (a : Answer A) → todo.act ≡ honest.Give → option_map vec_items block ≡ option_and_then (held old.store) (wanted_at old.wanted.items todo.user).look
      → ComesTo todo.user (act.Give block) a old new → IsTold todo.user a old new → Happens todo a None old new
  give_happens a is same comes told =
      let o : Owner = owner script_keys todo.user in
      let d : IsDone todo.user client_now (act.Give block) a (client_at new.clients todo.user) = is_done todo.user client_now (act.Give block) (client_at new.clients todo.user) a comes in
      happens_by todo old new None tt tt a told.others told.server told.noted told.exchanges (act.Give block) a d
      (λ older l. let run : List HonestEvent = record { user = todo.user; put = handed_out a; exchange = None; step = d.step } ∷ older in
      if_both d.step (λ s. call_of (act.Give block) a ≡ Some s.call) (λ s. IsStep o client_now s.call s.after × IsSound s.after) (λ s. IsHandedIn run client_now (held old.store) s.call) d.is_call d.taken
      (λ s call step. given_handed run client_now (held old.store) o (wanted_at old.wanted.items todo.user) (noted.each todo.user) block a s.call s.after same call step.0))
      (comes_as todo old new (record { user = todo.user; put = handed_out a; exchange = None; step = d.step }) a honest.Give is (λ older l. (refl, (block, d.does))))
      (λ w. laid_as todo old new (handed_out a) honest.Give is (d.none w))
      told.stored

  pub block_told : {E : Type 0} (r : Result (Answer A) E) → todo.act ≡ honest.Block → option_map vec_items block ≡ option_and_then (held old.store) (wanted_at old.wanted.items todo.user).reply
      → IfOk r (λ a. ComesTo todo.user (act.Block block) a old new) → IfOk r (λ a. IsTold todo.user a old new) → IfOk r (λ a. Happens todo a None old new)
  block_told (Ok a) is same comes told = block_happens a is same comes told
  block_told (Err e) is same comes told = tt

  pub give_told : {E : Type 0} (r : Result (Answer A) E) → todo.act ≡ honest.Give → option_map vec_items block ≡ option_and_then (held old.store) (wanted_at old.wanted.items todo.user).look
      → IfOk r (λ a. ComesTo todo.user (act.Give block) a old new) → IfOk r (λ a. IsTold todo.user a old new) → IfOk r (λ a. Happens todo a None old new)
  give_told (Ok a) is same comes told = give_happens a is same comes told
  give_told (Err e) is same comes told = tt

-- ---- calls of the server

module _ {A : Type 0} (todo : HonestStep A) (old new : Town A) where
  abbrev o : Owner
  o = owner script_keys todo.user

  abbrev caller : Client
  caller = client_at old.clients todo.user

  abbrev after : Client
  after = client_at new.clients todo.user

  -- the client is told to do nothing
  abbrev alone_event : Option Exchange → HonestEvent
  alone_event x = record { user = todo.user; put = []; exchange = x; step = None }

  -- ---- nothing is sent

  module _ (kind : CallKind) (how : Delivery) (is : todo.act ≡ calling kind how) where
    nothing_laid : (k : CallKind) → [] ≡ laid_for {A = A} (calling k how)
    nothing_laid Update = refl
    nothing_laid Commit = refl

    -- what comes of a call comes of the step
    call_comes : (older : List HonestEvent) (h : HonestEvent) (a : Answer A) (k : CallKind) → Calls todo.user caller k how h a → Comes older todo.user caller (calling k how) h a
    call_comes older h a Update c = c
    call_comes older h a Commit c = c

    pub unsent : sent_by caller kind ≡ None → new ≡ old → AreNoted old.clients old.wanted.items → Happens todo answer.NotTaken None old new
    unsent none same noted =
        subst (λ (n : Town A). Happens todo answer.NotTaken None old n) (sym same)
        (untold todo old old None tt tt answer.NotTaken (λ v other. refl) refl noted refl
        (comes_as todo old old (alone_event None) answer.NotTaken (calling kind how) is (λ older l. call_comes older (alone_event None) answer.NotTaken kind (none, (refl, refl))))
        (laid_as todo old old [] (calling kind how) is (nothing_laid kind)) refl refl)

  -- ---- an answer arrives

  -- The answer to the text that the client has now, which was given in this step, in which this call was made, or before.
  module _ (mid : Town A) (same : mid.clients ≡ old.clients) (same_store : mid.store ≡ old.store) (same_exchanges : mid.exchanges ≡ old.exchanges) (call : Option Exchange)
      (sent : IfSome call (λ y. sent_by caller y.call.kind ≡ Some y.call.text)) (answered : IfSome call (IsAnswered (pinned script_keys) old.server)) (calls : mid.server ≡ option_to_list (option_and_then carried_out call) ++ old.server)
      (x : Exchange) (own : sent_by caller x.call.kind ≡ Some x.call.text) (place : (older : List HonestEvent) → LeadsTo older old → (call ≡ Some x) ⊎ TookPlace older x)
      (laid : [] ≡ laid_for todo.act) where
    -- what comes of it, where this comes of the client
    abbrev ComesSo : Answer A → Type 0
    ComesSo a = (step : Option StepTaken) (put : List Bytes) → HearsAnswer todo.user caller x.call.kind x.answer step a → ComesThen todo old new (record { user = todo.user; put = put; exchange = call; step = step }) a

    told_so : (older : List HonestEvent) → LeadsTo older old → (put : List Bytes) (step : Option StepTaken) (kind : CallKind) (given : ServerAnswer) → x.call.kind ≡ kind → x.answer ≡ given → WasTold (record { user = todo.user; put = put; exchange = call; step = step } ∷ older) caller kind given
    told_so older l put step kind given is_kind is_answer =
        let run : List HonestEvent = record { user = todo.user; put = put; exchange = call; step = step } ∷ older in
        subst (λ (k : CallKind). WasTold run caller k given) is_kind (subst (λ (a : ServerAnswer). WasTold run caller x.call.kind a) is_answer
        (subst (λ (own : Option Bytes). IsSomeAnd own (λ text. TookPlace run (record { call = record { kind = x.call.kind; text = text }; answer = x.answer }))) (sym own) (place older l)))

    before_now : (told : Answer A) → IsTold todo.user told mid new → (v : ℕ) → v ≢ todo.user → client_at new.clients v ≡ client_at old.clients v
    before_now told t v other = t.others v other ∙ ap (λ (cs : List Client). client_at cs v) same

    -- what comes of the client that is told so
    done_by : (t : Act A) (told : Answer A) → ComesTo todo.user t told mid new → IsDone todo.user caller t told after
    done_by t told comes = is_done todo.user caller t after told (subst (λ (c : Client). ComesOf o c t told after) (ap (λ (cs : List Client). client_at cs todo.user) same) comes)

    -- a reply, or a status of which nothing is handed in
    heard : (status : Status) (payload : Bytes) → x.call.kind ≡ Update → x.answer ≡ record { status = status; payload = payload }
        → (told : Answer A) → ComesSo told → ComesOfReply todo.user status payload told mid new → IsTold todo.user told mid new → Happens todo told call old new
    heard status.Ok payload is_kind is_answer told comes h t =
        let reply : Act A = act.Reply h.0 in
        let d = done_by reply told h.2 in
        happens_by todo old new call sent answered told (before_now told t) (t.server ∙ calls) t.noted (t.exchanges ∙ same_exchanges) reply told d
        (λ older l. let run : List HonestEvent = record { user = todo.user; put = handed_out told; exchange = call; step = d.step } ∷ older in
        if_some d.step (λ st. call_of reply told ≡ Some st.call) (λ st. IsHandedIn run caller (held old.store) st.call) d.is_call
        (λ st call_is. reply_handed run caller (held old.store) h.0 told st.call (λ r. subst (λ (b : Bytes). WasTold run caller Update (record { status = status.Ok; payload = b })) (sym h.1)
        (told_so older l (handed_out told) d.step Update (record { status = status.Ok; payload = payload }) is_kind is_answer)) call_is))
        (comes d.step (handed_out told) (subst (λ (k : CallKind). HearsAnswer todo.user caller k x.answer d.step told) (sym is_kind) (subst (λ (a : ServerAnswer). HearsReply todo.user caller a.status a.payload d.step told) (sym is_answer) (h.0, h.1, d.does))))
        (λ w. d.none w ∙ laid)
        (t.stored ∙ ap (λ (b : List Block). keeping_all b (handed_out told)) same_store)
    heard other payload is_kind is_answer told comes h t =
        untold todo old new call sent answered told (before_now told t) (t.server ∙ calls) t.noted (t.exchanges ∙ same_exchanges)
        (comes None [] (subst (λ (k : CallKind). HearsAnswer todo.user caller k x.answer None told) (sym is_kind) (subst (λ (a : ServerAnswer). HearsReply todo.user caller a.status a.payload None told) (sym is_answer) (refl, h.0))))
        laid (h.1 ∙ ap (λ (cs : List Client). client_at cs todo.user) same)
        (t.stored ∙ ap (λ (a : Answer A). keeping_all mid.store (handed_out a)) h.0 ∙ none_kept mid.store ∙ same_store)

    -- the status of a structure
    acknowledges : x.call.kind ≡ Commit → (said : Answer A) → ComesSo said → Acknowledges todo.user x.answer.status said mid new → Happens todo said call old new
    acknowledges is_kind said comes k =
        let given : Act A = act.Committed x.answer.status in
        let of_caller : ComesOf o caller given k.told after = subst (λ (c : Client). ComesOf o c given k.told after) (ap (λ (cs : List Client). client_at cs todo.user) same) k.comes in
        let own_structure : structure_of caller ≡ Some x.call.text = subst (λ (kind : CallKind). sent_by caller kind ≡ Some x.call.text) is_kind own in
        let committed : k.told ≡ answer.Committed = acknowledged o caller after x.answer.status k.told x.call.text own_structure of_caller in
        let d : IsDone todo.user caller given answer.Committed after = subst (λ (t : Answer A). IsDone todo.user caller given t after) committed (is_done todo.user caller given after k.told of_caller) in
        let t = k.is_told in
        happens_by todo old new call sent answered said (before_now k.told t) (t.server ∙ calls) t.noted (t.exchanges ∙ same_exchanges) given answer.Committed d
        (λ older l. let run : List HonestEvent = record { user = todo.user; put = []; exchange = call; step = d.step } ∷ older in
        if_some d.step (λ st. call_of given answer.Committed ≡ Some st.call) (λ st. IsHandedIn run caller (held old.store) st.call) d.is_call
        (λ st call_is. status_handed run caller (held old.store) {A = A} x.answer.status answer.Committed st.call (x.answer.payload, told_so older l [] d.step Commit x.answer is_kind refl) call_is))
        (comes d.step [] (subst (λ (kind : CallKind). HearsAnswer todo.user caller kind x.answer d.step said) (sym is_kind) (d.does, k.is)))
        (λ w. laid)
        (t.stored ∙ ap (λ (y : Answer A). keeping_all mid.store (handed_out y)) committed ∙ none_kept mid.store ∙ same_store ∙ sym (none_kept old.store))

    pub arrives : (kind : CallKind) → x.call.kind ≡ kind → (a : Answer A) → ComesSo a → Arrives todo.user kind x.answer a mid new → Happens todo a call old new
    arrives Update is_kind a comes h = heard x.answer.status x.answer.payload is_kind refl a comes h.0 h.1
    arrives Commit is_kind a comes h = acknowledges is_kind a comes h

  -- ---- an answer to this call

  module _ (kind : CallKind) (how : Delivery) (is : todo.act ≡ calling kind how) (noted : AreNoted old.clients old.wanted.items) (x : Exchange) (calls : List Call) (s : IsSent kind caller old.server x calls) where
    -- once the server has answered
    abbrev mid : Town A
    mid = record old { server = calls }

    pub delivered : (a : Answer A) (d : Delivery) → how ≡ d → IsDeliveredTo todo.user d x a mid new → Happens todo a (Some x) old new
    delivered a delivery.Lost at h =
        subst (λ (told : Answer A). Happens todo told (Some x) old new) (sym h.0)
        (subst (λ (n : Town A). Happens todo (answer.Served x.answer.status) (Some x) old n) (sym h.1)
        (untold todo old mid (Some x) s.sent s.answered (answer.Served x.answer.status) (λ v other. refl) s.history noted refl
        (comes_as todo old mid (alone_event (Some x)) (answer.Served x.answer.status) (calling kind how) is
        (λ older l. call_comes kind how is older (alone_event (Some x)) (answer.Served x.answer.status) kind (s.made, subst (λ (e : Delivery). IsDelivered {A = A} todo.user caller e x None (answer.Served x.answer.status)) (sym at) (refl, refl))))
        (laid_as todo old mid [] (calling kind how) is (nothing_laid kind how is kind)) refl refl))
    delivered a delivery.Arrives at h =
        arrives mid refl refl refl (Some x) s.sent s.answered s.history x s.sent (λ older l. inl refl) (laid_as todo old new [] (calling kind how) is (nothing_laid kind how is kind)) x.call.kind refl a
        (λ step put hears. comes_as todo old new (record { user = todo.user; put = put; exchange = Some x; step = step }) a (calling kind how) is
        (λ older l. call_comes kind how is older (record { user = todo.user; put = put; exchange = Some x; step = step }) a kind (s.made, subst (λ (e : Delivery). IsDelivered todo.user caller e x step a) (sym at) hears))) h

  -- ---- a late answer

  module _ (n : ℕ) (is : todo.act ≡ honest.Late n) (seen : List (Option Exchange)) (same_seen : seen ≡ old.exchanges.items) (found : Option Exchange) (at : found ≡ exchange_at seen n) where
    -- what is found was exchanged in a step of each run that leads here
    in_run : (older : List HonestEvent) → LeadsTo older old → exchange_at (exchanges older) n ≡ found
    in_run older l = ap (λ (xs : List (Option Exchange)). exchange_at xs n) (l.answers ∙ sym same_seen) ∙ sym at

    late_comes : (step : Option StepTaken) (put : List Bytes) (a : Answer A) → ComesLate todo.user caller found step a → ComesThen todo old new (record { user = todo.user; put = put; exchange = None; step = step }) a
    late_comes step put a comes =
        comes_as todo old new (record { user = todo.user; put = put; exchange = None; step = step }) a (honest.Late n) is
        (λ older l. (refl, subst (λ (o : Option Exchange). ComesLate todo.user caller o step a) (sym (in_run older l)) comes))

    none_late : new ≡ old → AreNoted old.clients old.wanted.items → ComesLate {A = A} todo.user caller found None answer.NotTaken → Happens todo answer.NotTaken None old new
    none_late same noted comes =
        untold todo old new None tt tt answer.NotTaken (λ v other. ap (λ (t : Town A). client_at t.clients v) same) (ap (λ (t : Town A). t.server) same) (subst (λ (t : Town A). AreNoted t.clients t.wanted.items) (sym same) noted)
        (ap (λ (t : Town A). t.exchanges) same) (late_comes None [] answer.NotTaken comes) (laid_as todo old new [] (honest.Late n) is refl) (ap (λ (t : Town A). client_at t.clients todo.user) same) (ap (λ (t : Town A). t.store) same)

    -- nothing was exchanged in that step
    pub not_exchanged : found ≡ None → new ≡ old → AreNoted old.clients old.wanted.items → Happens todo answer.NotTaken None old new
    not_exchanged none same noted = none_late same noted (subst (λ (o : Option Exchange). ComesLate {A = A} todo.user caller o None answer.NotTaken) (sym none) (refl, refl))

    module _ (x : Exchange) (some : found ≡ Some x) where
      -- it was another text
      pub not_own : (own : Bool) → own ≡ has_text (sent_by caller x.call.kind) x.call.text → own ≡ false → new ≡ old → AreNoted old.clients old.wanted.items → Happens todo answer.NotTaken None old new
      not_own own told other same noted =
          none_late same noted (subst (λ (o : Option Exchange). ComesLate {A = A} todo.user caller o None answer.NotTaken) (sym some) (inr (λ sent. true≢false (sym (is_own sent) ∙ sym told ∙ other), (refl, refl))))
        where
          is_own : sent_by caller x.call.kind ≡ Some x.call.text → has_text (sent_by caller x.call.kind) x.call.text ≡ true
          is_own sent = ap (λ (o : Option Bytes). has_text o x.call.text) sent ∙ (bytes_eq-Decides x.call.text x.call.text).1 refl

      of_own : (o : Option Bytes) → has_text o x.call.text ≡ true → o ≡ Some x.call.text
      of_own None is = absurd (true≢false (sym is))
      of_own (Some text) is = ap (λ (t : Bytes). Some t) ((bytes_eq-Decides text x.call.text).0 is)

      pub arrives_late : {E : Type 0} (own : Bool) → own ≡ has_text (sent_by caller x.call.kind) x.call.text → own ≡ true → (r : Result (Answer A) E) → IfOk r (λ a. Arrives todo.user x.call.kind x.answer a old new) → IfOk r (λ a. Happens todo a None old new)
      arrives_late own told is_true (Err e) h = tt
      arrives_late own told is_true (Ok a) h =
          let is_own = of_own (sent_by caller x.call.kind) (sym told ∙ is_true) in
          arrives old refl refl refl None tt tt refl x is_own (λ older l. inr (took_place older n x (in_run older l ∙ some))) (laid_as todo old new [] (honest.Late n) is refl) x.call.kind refl a
          (λ step put hears. late_comes step put a (subst (λ (o : Option Exchange). ComesLate todo.user caller o step a) (sym some) (inl (is_own, hears)))) h

-- ---- a reply

-- a reply is handed in
pub heard_as : {A E : Type 0} (u : User) (given : Status) (payload : Bytes) (text : Vec ℕ A) (old new : Town A) (r : Result (Answer A) E) → given ≡ status.Ok → text.items ≡ payload
    → IfOk r (λ told. ComesTo u (act.Reply text) told old new) → IfOk r (λ told. ComesOfReply u given payload told old new)
heard_as {A} u given payload text old new (Ok told) is same comes = subst (λ (n : Status). ComesOfReply u n payload told old new) (sym is) (text, same, comes)
heard_as u given payload text old new (Err e) is same comes = tt

-- with another status nothing is
pub not_heard : {A : Type 0} (u : User) (given : Status) (payload : Bytes) (town : Town A) (a : Answer A) → (given ≡ status.Ok → ⊥) → a ≡ answer.Served given → ComesOfReply u given payload a town town
not_heard u status.Ok payload town a other is = absurd (other refl)
not_heard u given payload town a other is = (is, refl)

pub nothing_told : {A : Type 0} (u : User) (given : Status) (town : Town A) (a : Answer A) → a ≡ answer.Served given → AreNoted town.clients town.wanted.items → IsTold u a town town
nothing_told {A} u given town a is noted = record {
  others = λ v other. refl;
  stored = sym (none_kept town.store) ∙ ap (λ (y : Answer A). keeping_all town.store (handed_out y)) (sym is);
  noted = noted;
  server = refl;
  exchanges = refl;
}
