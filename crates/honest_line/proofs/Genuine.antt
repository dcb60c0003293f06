-- In an honest run nothing is forged: what a client is shown, in the reply that it is handed, was released by the user's
-- client whose it is.
use Rattle.std.proofs.Common.{◌≡◌, Bool, true, false, List, [], ◌∷◌, ◌++◌, Option, Some, None, Result, Ok, Err, IfSome, sym, ap, ◌∙◌, subst, option_to_list, inl, inr}
use Rattle.std.specs.Prelude.{if◌then◌else◌}
use Rattle.std.specs.Option.{option_and_then, option_map_or}
use Rattle.layout.specs.Types.{Bytes, Key, User}
use Rattle.update_cert.specs.Cert.{cert}
use Rattle.version_order.specs.Structure.{structure}
use Rattle.reply_check.specs.FirstBroken.{reply_in}
use Rattle.tree_parts.specs.Blocks.{Blocks}
use Rattle.client_tree.specs.Held.{held}
use Rattle.client_releases.specs.declared.error.ClientError.{ClientError}
use Rattle.client_releases.specs.declared.error.ClientError.TheVariants as error
use Rattle.client_steps.specs.Steps.{Call as ClientCall, Client, Hears, StepTaken}
use Rattle.client_runs.specs.Released.{Shown, shown_by, shown_in, unless_memory}
use Rattle.client_runs.specs.Runs.{Event, IsRun, Keys, client_of, pinned}
use Rattle.consistency_server.specs.declared.call.CallKind.{CallKind}
use Rattle.consistency_server.specs.declared.call.CallKind.TheVariants.{Update, Commit}
use Rattle.consistency_server.specs.Event as placed
use Rattle.consistency_server.specs.Event.{Placed, Committed}
use Rattle.consistency_server.specs.Answers.{Answer, Call}
use Rattle.consistency_server.specs.History as server
use Rattle.consistency_server.specs.History.{is_carried_out}
use Rattle.agreement.proofs.Members.{In, to_all}
use Rattle.fork_consistency.specs.Premises.{HasReleased}
use Rattle.fork_consistency.proofs.Genuine.{AllGenuine, IsReleasedText, none_forged, released_later}
use Rattle.honest_runs.specs.HonestRuns.{Exchange, HonestEvent, IsAnswered, IsHandedIn, IsHonestRun, TookPlace, WasTold, carried_out, events, history, sent_by, stored}
use Rattle.honest_runs.proofs.Events.{are_runs, events_with, with_exchange, with_step}
use Rattle.honest_dialogues.specs.Dialogue.{success}
use Rattle.honest_line.specs.Genuine.{NothingIsForged}
use Rattle.honest_line.proofs.Answering.{told_of}
use Rattle.honest_line.proofs.Sent.{sent_cert, sent_structure}
use Rattle.honest_line.proofs.Shown.{AreReleased, IsOfReleased, ShowsReleased, answer_shows, still_released}

module _ (keys : Keys) where
  abbrev key : Key
  key = pinned keys

  -- ---- what was released stays so

  released_then : (e : Event) (older : List Event) (es : List placed.Event) → AreReleased key older es → AreReleased key (e ∷ older) es
  released_then e older [] are = tt
  released_then e older (Placed c ∷ es) are =
      (are.0, record { fits = are.1.fits; released = released_later e older c.value.user (cert.spell c.value) are.1.released }, released_then e older es are.2)
  released_then e older (Committed z ∷ es) are =
      (record { fits = are.0.fits; released = released_later e older z.value.plan.user (structure.spell z.value) are.0.released }, released_then e older es are.1)

  released_with : (u : User) (s : Option StepTaken) (older : List Event) (es : List placed.Event) → AreReleased key older es → AreReleased key (events_with u s older) es
  released_with u None older es are = are
  released_with u (Some s) older es are = released_then (record { user = u; call = s.call; after = s.after }) older es are

  -- so does what a reply shows
  shows_with : (u : User) (s : Option StepTaken) (older : List Event) (text : Bytes) → ShowsReleased key older text → ShowsReleased key (events_with u s older) text
  shows_with u None older text shows t i = shows t i
  shows_with u (Some s) older text shows t i = released_later (record { user = u; call = s.call; after = s.after }) older t.user t.text (shows t i)

  -- ---- a call of the server

  module _ (older : List Event) (is : IsRun keys older) (calls : List Call) (are : AreReleased key older (server.events key calls)) (u : User) where
    -- what a client sends with it was released
    of_client : (kind : CallKind) (text : Bytes) → sent_by (client_of u older) kind ≡ Some text → IsOfReleased key older kind text
    of_client Update text sent = let own = sent_cert keys u older is text sent in (own.value, own.spelled, own.is_released)
    of_client Commit text sent = let own = sent_structure keys u older is text sent in (own.value, own.spelled, own.is_released)

    abbrev Sent : Option Exchange → Type 0
    Sent exchange = IfSome exchange (λ x. sent_by (client_of u older) x.call.kind ≡ Some x.call.text)

    after_exchange : (exchange : Option Exchange) → Sent exchange → AreReleased key older (server.events key (option_to_list (option_and_then carried_out exchange) ++ calls))
    after_exchange None sent = are
    after_exchange (Some x) sent = go (is_carried_out x.answer.status)
      where
        go : (b : Bool) → AreReleased key older (server.events key (option_to_list (if b then Some x.call else None) ++ calls))
        go true = still_released key older calls are x.call (of_client x.call.kind x.call.text sent)
        go false = are

    answer_released : (exchange : Option Exchange) → Sent exchange → IfSome exchange (IsAnswered key calls) → (x : Exchange) → exchange ≡ Some x → (text : Bytes) → x.answer ≡ success text → ShowsReleased key older text
    answer_released exchange sent answered x is text ok =
        let own = of_client x.call.kind x.call.text (subst Sent is sent) in
        let done : is_carried_out x.answer.status ≡ true = ap (λ (a : Answer). is_carried_out a.status) ok in
        let answer = (subst (λ (o : Option Exchange). IfSome o (IsAnswered key calls)) is answered).carried_out done in
        answer_shows key older calls are x.call own text (sym answer ∙ ok)

  -- ---- runs

  -- what the server placed and committed was released
  pub history_released : (run : List HonestEvent) → IsHonestRun keys run → AreReleased key (events run) (server.events key (history run))
  unfolding server.events
  history_released [] is = tt
  history_released (h ∷ older) is =
      let before = history_released older is.1 in
      let now = after_exchange (events older) (are_runs keys older is.1) (history older) before h.user h.exchange is.0.sent in
      let called = subst (λ (calls : List Call). AreReleased key (events older) (server.events key calls)) (sym (with_exchange h older)) now in
      subst (λ (es : List Event). AreReleased key es (server.events key (history (h ∷ older)))) (sym (with_step h older))
      (released_with h.user h.step (events older) (server.events key (history (h ∷ older))) called)

  -- ---- what a client is handed

  -- a reply of a step, or of an earlier one
  took_released : (h : HonestEvent) (older : List HonestEvent) → IsHonestRun keys (h ∷ older) → (x : Exchange) → TookPlace (h ∷ older) x → (text : Bytes) → x.answer ≡ success text → ShowsReleased key (events older) text
  took_released h older is x (inl now) text ok =
      answer_released (events older) (are_runs keys older is.1) (history older) (history_released older is.1) h.user h.exchange is.0.sent is.0.answered x now text ok
  took_released h (g ∷ older) is x (inr before) text ok =
      subst (λ (es : List Event). ShowsReleased key es text) (sym (with_step g older))
      (shows_with g.user g.step (events older) text (took_released g older is.1 x before text ok))
  took_released h [] is x (inr before) text ok = absurd before

  pub reply_released : (h : HonestEvent) (older : List HonestEvent) → IsHonestRun keys (h ∷ older) → (client : Client) (text : Bytes) → WasTold (h ∷ older) client Update (success text) → ShowsReleased key (events older) text
  reply_released h older is client text was =
      let told = told_of (h ∷ older) (sent_by client Update) Update (success text) was in
      took_released h older is told.0 told.1 text told.2

  -- so was all that is shown in what a client is handed
  some_shown : {A : Type 0} (answer : Result A ClientError) (texts : List Shown) (t : Shown) → In t (unless_memory answer texts) → In t texts
  some_shown (Ok x) texts t i = i
  some_shown (Err error.Memory) texts t i = absurd i
  some_shown (Err other) texts t i = i

  pub shown_here : (h : HonestEvent) (older : List HonestEvent) → IsHonestRun keys (h ∷ older) → (client : Client) (blocks : Blocks) (call : ClientCall) → IsHandedIn (h ∷ older) client blocks call
      → (t : Shown) → In t (shown_by call) → HasReleased t.user (events older) t.text
  shown_here h older is client blocks (Hears text answer) handed t i =
      reply_released h older is client text handed t (some_shown answer (option_map_or shown_in (reply_in text) []) t i)
  shown_here h older is client blocks call handed t i = absurd i

  -- so was all that is shown in the run
  pub all_shown : (run : List HonestEvent) → IsHonestRun keys run → AllGenuine keys (events run)
  all_shown [] is = tt
  all_shown (h ∷ older) is =
      subst (λ (es : List Event). AllGenuine keys es) (sym (with_step h older)) (go h.step is.0.handed_in (all_shown older is.1))
    where
      go : (s : Option StepTaken) → IfSome s (λ t. IsHandedIn (h ∷ older) (client_of h.user (events older)) (held (stored older)) t.call) → AllGenuine keys (events older)
          → AllGenuine keys (events_with h.user s (events older))
      go None handed ih = ih
      go (Some s) handed ih = (
        to_all (IsReleasedText keys (events older)) (shown_by s.call) (λ t i k own v.
            shown_here h older is (client_of h.user (events older)) (held (stored older)) s.call handed t i),
        ih,
      )

pub nothing_forged : NothingIsForged
nothing_forged keys run is = none_forged keys (events run) (events run) (all_shown keys run is)
