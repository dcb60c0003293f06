-- What is promised of each step of an honest run.
use Rattle.std.proofs.Common.{◌≡◌, ℕ, Bool, true, false, List, [], ◌∷◌, Option, Some, None, Result, Ok, Err, IfSome, IsSome, IsSomeAnd, refl, sym, ap, ◌∙◌, subst, inl, inr, if◌then◌else◌, option_to_list}
use Rattle.std.specs.Prelude.{find, is_ok}
use Rattle.std.specs.List.{All, flat_map, list_any}
use Rattle.std.specs.Option.{option_and_then}
use Rattle.std.specs.Result.{result_ok}
use Rattle.std.proofs.lemmas.Bool.{true≢false}
use Rattle.std.proofs.lemmas.List.Elements.{All-cons, All-nil}
use Rattle.layout.specs.declared.error.ReadError.{ReadError}
use Rattle.layout.specs.Format.{IsBytes, whole}
use Rattle.layout.specs.Laws.{is_found, whole_again}
use Rattle.layout.specs.Types.{Bytes, Key, User}
use Rattle.principals.specs.Table.{Table}
use Rattle.tree_parts.specs.Blocks.{Blocks}
use Rattle.pending_list.specs.declared.signed.Signed.{Signed}
use Rattle.pending_list.specs.Signed.{signed}
use Rattle.pending_list.specs.SignedLaws.{lawful_signed}
use Rattle.pending_list.specs.Reply.{Reply, reply}
use Rattle.pending_list.specs.ReplyLaws.{lawful_reply}
use Rattle.version_order.specs.Structure.{Structure}
use Rattle.update_cert.specs.Cert.{Cert, cert}
use Rattle.update_cert.specs.CertLaws.{lawful_cert}
use Rattle.reply_rules.specs.Lists.{Lists, lists_of}
use Rattle.reply_rules.specs.Rules.{lists}
use Rattle.reply_rules.specs.declared.rule.Rule.{Rule}
use Rattle.reply_rules.specs.declared.rule.Rule.TheVariants as rule
use Rattle.wire.specs.declared.kinds.Status.{Status}
use Rattle.wire.specs.declared.kinds.Status.TheVariants as status
use Rattle.client_tree.specs.Held.{held}
use Rattle.checked_blocks.specs.CheckedBlocks.{known_blocks}
use Rattle.client_releases.specs.declared.phase.Phase.{Phase}
use Rattle.client_releases.specs.declared.phase.Phase.TheVariants as phase
use Rattle.client_verify.specs.declared.look.Look.TheVariants as look
use Rattle.client_verify.specs.declared.step.Step.TheVariants as step
use Rattle.reply_check.specs.AskedBlock.{block, block_breaks}
use Rattle.reply_check.specs.declared.asked.Asked.{Asked}
use Rattle.reply_check.specs.FirstBroken.{ByTable, IsFirstBroken, IsRead, Known, lists_break, lists_in, of_reply, reply_breaks}
use Rattle.client_tree.specs.declared.questions.Question.{Question}
use Rattle.client_verify.specs.declared.view.Looking.{Looking}
use Rattle.client_verify.specs.State.{AcceptedView, Checked, IsOfDeclared, Reading, State, Writing, asked_of, blocks_with, known, lists_under, released}
use Rattle.client_verify.specs.Looked.{Given, Looked}
use Rattle.client_verify.specs.Judged.{Handed, unjudged}
use Rattle.client_steps.specs.Steps.{Call, Client, Closed, Gives, HasGiven, HasHeard, HasLooked, HasTaken, Hears, IsSound, IsStep, Looks, Open, StepTaken, Takes}
use Rattle.agreement.proofs.Formed.{same_spelled}
use Rattle.agreement.proofs.Members.{In, in-left}
use Rattle.client_runs.specs.Clients.{certificate_in, structure_in}
use Rattle.client_runs.specs.Released.{hashed_at, released as released_in, tried_view}
use Rattle.client_runs.specs.Runs.{Event, Keys, client_of, owner, pinned}
use Rattle.client_runs.proofs.Replies.{IsUnder, lists_back, of_lists}
use Rattle.consistency_server.specs.declared.call.CallKind.{CallKind}
use Rattle.consistency_server.specs.declared.call.CallKind.TheVariants.{Update, Commit}
use Rattle.consistency_server.specs.Answers.{Answer, Call as ServerCall, answer, outcome_of, read_update, same_cert, update_beside}
use Rattle.consistency_server.specs.History.{answer_of, commit_of, events as server_events, is_carried_out, update_of}
use Rattle.consistency_server.specs.State.{Placement, State as ServerState, state_after}
use Rattle.fork_consistency.proofs.Among.{AreAmong, agrees_within, among_kept, are_within}
use Rattle.fork_consistency.proofs.Judging.{unbroken}
use Rattle.fork_consistency.proofs.Origins.{IsTold}
use Rattle.fork_consistency.specs.Handles.{told_by_texts}
use Rattle.honest_history.specs.Honest.{Naming}
use Rattle.honest_history.proofs.Members.{any_none, find_nothing}
use Rattle.honest_history.specs.Served.{IsTableOf}
use Rattle.honest_dialogues.specs.Dialogue.{Commits, Declared, IsNextCert, MayMove, Move, Sealed, Stage, Updates, WasAnswered, calls, commit_by, stage_of, success, update_by, views as shown_views}
use Rattle.honest_dialogues.specs.GoingOn.{events_of}
use Rattle.honest_dialogues.specs.OneLine.{IsGoodAnswer, IsGoodCommit, IsGoodUpdate, known_to}
use Rattle.honest_dialogues.proofs.Accepting.{one_table}
use Rattle.honest_dialogues.proofs.Dialogues.{in_step, one_line, replies_unbroken}
use Rattle.honest_dialogues.proofs.Stages.{StandsAt}
use Rattle.honest_runs.specs.HonestRuns.{Exchange, HonestEvent, IsAnswered, IsHandedIn, IsHonestRun, events, history, sent_by, stored}
use Rattle.honest_runs.proofs.Events.{events_with, with_step}
use Rattle.honest_line.specs.Answered.{AreAnswered, IsCertOf, IsKnown, MayAnswer, is_at_limit, is_known, is_listed}
use Rattle.honest_line.specs.GoingOn.{HasGoodReply, IsBelowLimit, IsPending}
use Rattle.honest_line.specs.OneLine.{IsUnbroken}
use Rattle.honest_line.proofs.Answering.{reply_answered}
use Rattle.honest_line.proofs.Blocks.{AreRight, IsRight}
use Rattle.honest_line.proofs.Follows.{Follows, IsInPhase, in_phase_at, signed_cert, signed_structure}
use Rattle.honest_line.proofs.Simulated.{Grounds, KeepsTo, Simulates, keeps_with, knows, own, after_exchange, call_sent, placed_table, simulates, table_read, table_then, unbroken_then}

-- ---- statuses

not_carried_out : (pinned : Key) (sent : List ServerCall) (u : User) (x : ServerCall) (st : Status) → is_carried_out st ≡ false → MayAnswer pinned sent u x st
not_carried_out pinned sent u x status.Busy is = tt
not_carried_out pinned sent u x status.Memory is = tt
not_carried_out pinned sent u x status.Ok is = absurd (true≢false is)
not_carried_out pinned sent u x status.Form is = absurd (true≢false is)
not_carried_out pinned sent u x status.UnknownUser is = absurd (true≢false is)
not_carried_out pinned sent u x status.BadSignature is = absurd (true≢false is)
not_carried_out pinned sent u x status.WrongNumber is = absurd (true≢false is)
not_carried_out pinned sent u x status.NotPending is = absurd (true≢false is)
not_carried_out pinned sent u x status.TooLarge is = absurd (true≢false is)
not_carried_out pinned sent u x status.Absent is = absurd (true≢false is)

-- ---- texts

-- what two certificates spell alike is one
pub same_signed : (c e : Signed Cert) → (signed cert).Fits c → (signed cert).Fits e → (signed cert).spell c ≡ (signed cert).spell e → c ≡ e
same_signed c e fits fits_too same = same_spelled (signed cert) (lawful_signed cert lawful_cert) c e fits fits_too same

-- the reply to an operation that is pending comes again
pending_succeeds : (state : ServerState) (c : Signed Cert) → (signed cert).Fits c → list_any (same_cert c) state.pending ≡ true → (answer (outcome_of state (update_by c))).status ≡ status.Ok
unfolding outcome_of
pending_succeeds state c fits some =
    subst (λ (r : Result (Signed Cert) ReadError). (answer (read_update state r)).status ≡ status.Ok) (sym (whole_again (signed cert) (lawful_signed cert lawful_cert) c fits))
    (go (find (same_cert c) state.pending) refl)
  where
    go : (o : Option Placement) → find (same_cert c) state.pending ≡ o → (answer (update_beside o state c)).status ≡ status.Ok
    go (Some w) at = refl
    go None at = absurd (true≢false (sym some ∙ any_none (same_cert c) state.pending (find_nothing (same_cert c) state.pending at)))

-- ---- the lists of a reply

-- a reply that breaks none of the rules on itself is in order
pub record IsInOrder (x : Lists) : Type 0 where
  pub ordered : lists (of_lists x) ≡ true
  pub fits : reply.Fits (of_lists x)

in_order : (k : Known) (text : Bytes) (x : Lists) → IsBytes text → reply_breaks k text ≡ None → lists_in text ≡ Some x → IsInOrder x
unfolding reply_breaks
in_order k text x bytes none are = go (whole reply text) refl none are
  where
    of : (r : Reply) → whole reply text ≡ Ok r → of_reply k r ≡ None → lists_of r ≡ Some x → IsInOrder x
    of r is none are =
        let back = lists_back r x are in
        record {
          ordered = ap lists back ∙ (unbroken k r none).in_order;
          fits = subst reply.Fits (sym back) (is_found reply lawful_reply (λ v. v) text (Ok r) bytes is).0;
        }

    go : (read : Result Reply ReadError) → whole reply text ≡ read → (if is_ok read then option_and_then (of_reply k) (result_ok read) else Some rule.Form) ≡ None → option_and_then lists_of (result_ok read) ≡ Some x → IsInOrder x
    go (Ok r) is none are = of r is none are
    go (Err e) is none are = absurd (let two : Some rule.Form ≡ None = none in cc two)

module _ (keys : Keys) (naming : Naming) (texts : List Bytes) (g : Grounds keys naming texts) where
  abbrev pk : Key
  pk = pinned keys

  -- ---- tables

  -- a table that is read from blocks among the texts
  told : (blocks : Blocks) → AreAmong texts blocks → (x : Lists) (t : Table) (void : List ℕ) → IsRead blocks pk x t void → IsTold texts g.apart pk x t
  told blocks among x t void read = record {
    users = read.users;
    fits = read.named.fits;
    named = λ reads agrees. read.named.file reads (agrees_within blocks (told_by_texts texts) (are_within texts g.apart blocks among) reads agrees);
    void = void;
    pending = read.pending;
  }

  -- by it no rule is broken that isn't by the table that user 0's handle names
  none_by_table : (blocks : Blocks) → AreAmong texts blocks → (x : Lists) → IsInOrder x → (t : Table) → IsTableOf naming pk x t → lists_break t x ≡ None → (rule : Rule) → ByTable blocks pk x (Some rule) → ⊥
  none_by_table blocks among x order t is none rule by =
      let read = table_read keys naming texts g x by.0 t is order.ordered order.fits (told blocks among x by.0 by.1 by.2) in
      let same : by.0 ≡ t = one_table pk naming g.is_naming x by.0 t read is in
      let two : Some rule ≡ None = sym by.3 ∙ ap (λ (u : Table). lists_break u x) same ∙ none in
      cc two

  module _ (sent : List ServerCall) (es : List Event) (s : Simulates keys naming texts g sent es) (k : KeepsTo keys naming texts es) (u : User) where
    abbrev stage : Stage
    stage = stage_of u s.moves

    module _ (t : State) (is : client_of u es ≡ Open t) where
      pub follows : Follows keys naming u (Open t) (released_in u es) (tried_view u es) stage
      follows = subst (λ (c : Client). Follows keys naming u c (released_in u es) (tried_view u es) stage) is (s.follow u)

      -- ---- answers

      good_update : (last : Option (Signed Structure)) (c : Signed Cert) (heard : Option Lists) → stage ≡ Declared last c heard → IsGoodUpdate pk naming (calls s.moves) u last c
      good_update last c heard at =
          let m : Move = record { user = u; act = Updates; after = stage } in
          let may : MayMove pk naming (calls s.moves) u stage Updates stage = subst (λ (b : Stage). MayMove pk naming (calls s.moves) u b Updates b) (sym at) refl in
          subst (λ (b : Stage). IsGoodAnswer pk naming (calls s.moves) u b Updates) at (one_line pk naming g.is_naming (m ∷ s.moves) (may, s.is)).answers.0

      good_commit : (z : Signed Structure) → stage ≡ Sealed z → IsGoodCommit pk (calls s.moves) z
      good_commit z at =
          let m : Move = record { user = u; act = Commits; after = stage } in
          let may : MayMove pk naming (calls s.moves) u stage Commits stage = subst (λ (b : Stage). MayMove pk naming (calls s.moves) u b Commits b) (sym at) refl in
          subst (λ (b : Stage). IsGoodAnswer pk naming (calls s.moves) u b Commits) at (one_line pk naming g.is_naming (m ∷ s.moves) (may, s.is)).answers.0

      -- the certificate is the user's next one
      next_then : (last : Option (Signed Structure)) (c : Signed Cert) (heard : Option Lists) → stage ≡ Declared last c heard → IsNextCert u last c
      next_then last c heard at = (subst (StandsAt pk naming (events_of pk s.moves) (shown_views s.moves) u) at ((in_step pk naming g.is_naming s.moves s.is).stands u)).next

      answer_is : (x : Exchange) → IsAnswered pk sent x → is_carried_out x.answer.status ≡ true → x.answer ≡ answer_of pk (calls s.moves) x.call
      answer_is x answered carried = answered.carried_out carried ∙ ap (λ (cs : List ServerCall). answer_of pk cs x.call) (sym s.calls_are)

      update_status : (f : Phase) → t.phase ≡ f → (sent_text : Bytes) → certificate_in f t.text ≡ Some sent_text → MayAnswer pk (calls s.moves) u (update_of sent_text) (answer_of pk (calls s.moves) (update_of sent_text)).status
      update_status phase.Declared at sent_text by =
          let d = in_phase_at keys naming u t stage phase.Declared at follows.own.in_phase in
          let same : t.text ≡ sent_text = (let two : Some t.text ≡ Some sent_text = by in cc two) in
          let c = signed_cert keys naming u d.0 d.1 in
          let good = good_update t.last c d.2 d.3 in
          let may = MayAnswer pk (calls s.moves) u (update_by c) in
          subst (λ (b : Bytes). MayAnswer pk (calls s.moves) u (update_of b) (answer_of pk (calls s.moves) (update_of b)).status) (sym d.4 ∙ same) (elim good.answered [
            | inl ok ↦ subst may (sym ok) tt
            | inr (inl unknown) ↦ subst may (sym unknown.0) (refl, subst (λ (v : User). is_listed pk (calls s.moves) v ≡ false) (next_then t.last c d.2 d.3).user unknown.1)
            | inr (inr (inl bad)) ↦ subst may (sym bad.0) (refl, (c, ((next_then t.last c d.2 d.3).fits, refl), bad.1))
            | inr (inr (inr large)) ↦ subst may (sym large.0) (refl, (c, ((next_then t.last c d.2 d.3).fits, refl), large.1))
          ])
      update_status phase.Idle at sent_text by = absurd (let two : None ≡ Some sent_text = by in cc two)
      update_status phase.Signed at sent_text by = absurd (let two : None ≡ Some sent_text = by in cc two)
      update_status phase.Failed at sent_text by = absurd (let two : None ≡ Some sent_text = by in cc two)

      commit_status : (f : Phase) → t.phase ≡ f → (sent_text : Bytes) → structure_in f t.text ≡ Some sent_text → MayAnswer pk (calls s.moves) u (commit_of sent_text) (answer_of pk (calls s.moves) (commit_of sent_text)).status
      commit_status phase.Signed at sent_text by =
          let d = in_phase_at keys naming u t stage phase.Signed at follows.own.in_phase in
          let same : t.text ≡ sent_text = (let two : Some t.text ≡ Some sent_text = by in cc two) in
          let z = signed_structure keys naming u d.0 d.1 in
          subst (λ (b : Bytes). MayAnswer pk (calls s.moves) u (commit_of b) (answer_of pk (calls s.moves) (commit_of b)).status) (sym d.4 ∙ same)
          (subst (MayAnswer pk (calls s.moves) u (commit_by z)) (sym (good_commit z d.2)) tt)
      commit_status phase.Idle at sent_text by = absurd (let two : None ≡ Some sent_text = by in cc two)
      commit_status phase.Declared at sent_text by = absurd (let two : None ≡ Some sent_text = by in cc two)
      commit_status phase.Failed at sent_text by = absurd (let two : None ≡ Some sent_text = by in cc two)

    carried_status : (client : Client) → client_of u es ≡ client → (kind : CallKind) (sent_text : Bytes) → sent_by client kind ≡ Some sent_text
        → MayAnswer pk (calls s.moves) u (record { kind = kind; text = sent_text }) (answer_of pk (calls s.moves) (record { kind = kind; text = sent_text })).status
    carried_status (Closed p) is Update sent_text by = absurd (let two : None ≡ Some sent_text = by in cc two)
    carried_status (Closed p) is Commit sent_text by = absurd (let two : None ≡ Some sent_text = by in cc two)
    carried_status (Open t) is Update sent_text by = update_status t is t.phase refl sent_text by
    carried_status (Open t) is Commit sent_text by = commit_status t is t.phase refl sent_text by

    pub status_is : (x : Exchange) → sent_by (client_of u es) x.call.kind ≡ Some x.call.text → IsAnswered pk sent x → MayAnswer pk sent u x.call x.answer.status
    status_is x sends answered = go (is_carried_out x.answer.status) refl
      where
        go : (b : Bool) → is_carried_out x.answer.status ≡ b → MayAnswer pk sent u x.call x.answer.status
        go false is = not_carried_out pk sent u x.call x.answer.status is
        go true is =
            let same : x.answer ≡ answer_of pk (calls s.moves) x.call = answered.carried_out is ∙ ap (λ (cs : List ServerCall). answer_of pk cs x.call) (sym s.calls_are) in
            subst (λ (cs : List ServerCall). MayAnswer pk cs u x.call x.answer.status) s.calls_are
            (subst (λ (a : Answer). MayAnswer pk (calls s.moves) u x.call a.status) (sym same) (carried_status (client_of u es) refl x.call.kind x.call.text sends))

    -- ---- refusals

    -- a reply that was answered breaks none
    hears_unbroken : (t new : State) → client_of u es ≡ Open t → (text : Bytes) (rule : Rule) → HasHeard t text (Ok (step.Broken rule)) new → WasAnswered pk sent (update_of t.text) (success text) → ⊥
    hears_unbroken t new is text rule b was =
        let f = follows t is in
        let d = in_phase_at keys naming u t stage phase.Declared b.declared f.own.in_phase in
        let c = signed_cert keys naming u d.0 d.1 in
        let was_own : WasAnswered pk (calls s.moves) (update_by c) (success text) =
        subst (λ (own : Bytes). WasAnswered pk (calls s.moves) (update_of own) (success text)) d.4
        (subst (λ (cs : List ServerCall). WasAnswered pk cs (update_of t.text) (success text)) (sym s.calls_are) was) in
        let good = replies_unbroken pk naming g.is_naming s.moves s.is u t.last c d.2 d.3 text was_own in
        let y = good.0 in
        let table = good.1 in
        let unbroken = good.2 in
        let known_is : known t ≡ known_to pk u t.last c =
        ap (λ (v : User). let k : Known = record { user = v; pinned = t.pinned; last = t.last; declared = t.text } in k) f.low.own.user
        ∙ ap (λ (p : Key). let k : Known = record { user = u; pinned = p; last = t.last; declared = t.text } in k) (knows keys naming texts g sent es s k u t is).pinned
        ∙ ap (λ (b : Bytes). let k : Known = record { user = u; pinned = pk; last = t.last; declared = b } in k) d.4 in
        let itself : reply_breaks (known t) text ≡ None = ap (λ (k : Known). reply_breaks k text) known_is ∙ unbroken.itself in
        let first = subst (λ (o : Option Rule). IsFirstBroken o None (known_blocks t.blocks) t.pinned (lists_in text) rule) itself b.judged.0 in
        let lists = subst (λ (o : Option Lists). IsSomeAnd o (λ y. ByTable (known_blocks t.blocks) t.pinned y (Some rule))) unbroken.lists first in
        let by = subst (λ (p : Key). ByTable (known_blocks t.blocks) p y (Some rule)) (knows keys naming texts g sent es s k u t is).pinned lists in
        none_by_table (known_blocks t.blocks) (knows keys naming texts g sent es s k u t is).among y (in_order (known t) text y b.bytes itself unbroken.lists) table unbroken.table unbroken.by_table rule by

    -- and a signed structure is taken
    pub next_commit : (t : State) → client_of u es ≡ Open t → t.phase ≡ phase.Signed → (answer_of pk sent (commit_of t.text)).status ≡ status.Ok
    next_commit t is at =
        let d = in_phase_at keys naming u t stage phase.Signed at (follows t is).own.in_phase in
        let z = signed_structure keys naming u d.0 d.1 in
        ap (λ (cs : List ServerCall). (answer_of pk cs (commit_of t.text)).status) (sym s.calls_are)
        ∙ ap (λ (b : Bytes). (answer_of pk (calls s.moves) (commit_of b)).status) d.4 ∙ good_commit t is z d.2

    -- nor do its lists once a block of it was handed in
    module _ (t new : State) (is : client_of u es ≡ Open t) (handed : Option Bytes) (rule : Rule) (among : AreAmong texts (known_blocks (blocks_with t handed))) where
      pinned_is : t.pinned ≡ pk
      pinned_is = (knows keys naming texts g sent es s k u t is).pinned

      by_lists : (r : Reply) (a : Asked) → t.checked ≡ Some (Reading r a) → (o : Option Lists) → lists_of r ≡ o → IsSomeAnd o (λ y. ByTable (known_blocks (blocks_with t handed)) t.pinned y (Some rule)) → ⊥
      by_lists r a at None of by = absurd by
      by_lists r a at (Some y) of by =
          let judged = subst (λ (o : Option Checked). IfSome o (IsUnder es (record { user = t.user; pinned = t.pinned; last = t.last; declared = t.text }))) at (own keys naming texts g sent es s k u t is).own.replies.checked in
          let back = lists_back r y of in
          let order : IsInOrder y = record {
            ordered = ap lists back ∙ (unbroken (record { user = t.user; pinned = t.pinned; last = t.last; declared = t.text }) r judged.unbroken).in_order;
            fits = subst reply.Fits (sym back) judged.fits;
          } in
          let f = follows t is in
          let declared : t.phase ≡ phase.Declared = checked_declared r a at y of in
          let d = in_phase_at keys naming u t stage phase.Declared declared f.own.in_phase in
          let c = signed_cert keys naming u d.0 d.1 in
          let in_hand = subst (λ (o : Option Checked). IfSome o (λ k. IfSome (lists_under k) (λ x. d.2 ≡ Some x))) at d.5.checked in
          let heard : d.2 ≡ Some y = subst (λ (o : Option Lists). IfSome o (λ x. d.2 ≡ Some x)) of in_hand in
          let at_stage = d.3 ∙ ap (Declared t.last c) heard in
          none_by_table (known_blocks (blocks_with t handed)) among y order (placed_table keys naming texts g sent es s u t.last c y at_stage) (table_then keys naming texts g sent es s u t.last c y at_stage)
          (unbroken_then keys naming texts g sent es s u t.last c y at_stage) rule (subst (λ (p : Key). ByTable (known_blocks (blocks_with t handed)) p y (Some rule)) pinned_is by)
        where
          checked_declared : (r : Reply) (a : Asked) → t.checked ≡ Some (Reading r a) → (y : Lists) → lists_of r ≡ Some y → t.phase ≡ phase.Declared
          checked_declared r a at y of =
              let one = subst (λ (o : Option Checked). IfSome o (λ k. IsSomeAnd (lists_under k) (λ x. IsOfDeclared (released t) x.own.plan))) at (follows t is).own.always.1.of_checked in
              (subst (λ (o : Option Lists). IsSomeAnd o (λ x. IsOfDeclared (released t) x.own.plan)) of one).is_declared

      by_check : (c : Checked) → t.checked ≡ Some c → IsSomeAnd (unjudged c) (λ y. ByTable (known_blocks (blocks_with t handed)) t.pinned y (Some rule)) → ⊥
      by_check (Reading r a) at by = by_lists r a at (lists_of r) refl by
      by_check (Writing x a) at by = absurd by

      takes_unbroken : IfSome t.checked (λ c. block_breaks (known_blocks t.blocks) (asked_of c) handed ≡ None) → HasTaken t handed (Ok (step.Broken rule)) new → ⊥
      takes_unbroken right b = go t.checked refl b.wants right b.handed
        where
          go : (o : Option Checked) → t.checked ≡ o → IsSome o → IfSome o (λ c. block_breaks (known_blocks t.blocks) (asked_of c) handed ≡ None) → IfSome o (λ c. Handed {A = Unit {0}} t c handed (step.Broken rule) new) → ⊥
          go None at some right h = absurd (cc some)
          go (Some c) at some right h = by_check c at (subst (λ (first : Option Rule). IsFirstBroken None first (known_blocks (blocks_with t handed)) t.pinned (unjudged c) rule) right h.0)

    gives_unbroken : (t new : State) (handed : Option Bytes) (rule : Rule) → IfSome t.view (λ v. IfSome v.looking (λ l. block_breaks (known_blocks t.blocks) l.asked handed ≡ None)) → HasGiven t handed (Ok (look.Broken rule)) new → ⊥
    gives_unbroken t new handed rule right b = go t.view b.looks right b.given
      where
        looking : (v : AcceptedView) (l : Option Looking) → IsSome l → IfSome l (λ l. block_breaks (known_blocks t.blocks) l.asked handed ≡ None) → IfSome l (λ x. Given {A = Unit {0}} t v x handed (look.Broken rule) new) → ⊥
        looking v None some right h = absurd (cc some)
        looking v (Some l) some right h = absurd (let two : None ≡ Some rule = sym right ∙ h.0 in cc two)

        go : (view : Option AcceptedView) → IsSomeAnd view (λ v. IsSome v.looking) → IfSome view (λ v. IfSome v.looking (λ l. block_breaks (known_blocks t.blocks) l.asked handed ≡ None))
            → IfSome view (λ v. IfSome v.looking (λ l. Given {A = Unit {0}} t v l handed (look.Broken rule) new)) → ⊥
        go None some right h = absurd some
        go (Some v) some right h = looking v v.looking some right h

    looks_unbroken : (t new : State) (q : Question) (rule : Rule) → HasLooked t q (Ok (look.Broken rule)) new → ⊥
    looks_unbroken t new q rule b = go t.view b.sees b.looked
      where
        go : (view : Option AcceptedView) → IsSome view → IfSome view (λ v. Looked {A = Unit {0}} t v q (look.Broken rule) new) → ⊥
        go None some h = absurd (cc some)
        go (Some v) some h = absurd h

    with_block : (t : State) → client_of u es ≡ Open t → (handed : Option Bytes) → ((x : Bytes) → In x (option_to_list handed) → In x texts) → AreAmong texts (known_blocks (blocks_with t handed))
    with_block t is None here = (knows keys naming texts g sent es s k u t is).among
    with_block t is (Some x) here = among_kept texts t.blocks x (here x (inl refl)) (knows keys naming texts g sent es s k u t is).among

  -- what comes next of an open client: the reply to a declared operation is good
  module _ (sent : List ServerCall) (es : List Event) (s : Simulates keys naming texts g sent es) (k : KeepsTo keys naming texts es) (u : User) (t : State) (is : client_of u es ≡ Open t) (at : t.phase ≡ phase.Declared) where
    abbrev d : IsInPhase keys naming u phase.Declared t (stage_of u s.moves)
    d = in_phase_at keys naming u t (stage_of u s.moves) phase.Declared at (follows sent es s k u t is).own.in_phase

    abbrev pub c : Signed Cert
    c = signed_cert keys naming u d.0 d.1

    pub next : IsNextCert u t.last c
    next = next_then sent es s k u t is t.last c d.2 d.3

    -- its text is the certificate's, and that of no other
    pub text_is : t.text ≡ (signed cert).spell c
    text_is = d.4

    pub only_cert : (e : Signed Cert) → IsCertOf t.text e → e ≡ c
    only_cert e of = same_signed e c of.0 next.fits (of.1 ∙ text_is)

    abbrev given : Answer
    given = answer_of pk sent (update_of t.text)

    -- if there is one
    good_reply : given.status ≡ status.Ok → HasGoodReply pk sent t
    good_reply succeeds =
        let same : given ≡ success given.payload = ap (λ (st : Status). record { status = st; payload = given.payload }) succeeds in
        let sends : certificate_in t.phase t.text ≡ Some t.text = ap (λ (f : Phase). certificate_in f t.text) at in
        let once_sent = call_sent keys naming texts g sent es s u (Open t) is Update t.text sends in (
          given.payload,
          same,
          λ rule new b. hears_unbroken (update_of t.text ∷ sent) es once_sent k u t new is given.payload rule b (inl (refl, same)),
        )

    pub next_reply : is_listed pk sent u ≡ true → IsKnown true pk sent t.text → IsBelowLimit pk sent t.text → HasGoodReply pk sent t
    next_reply listed known below =
        let good = good_update sent es s k u t is t.last c d.2 d.3 in
        let answer = answer_of pk (calls s.moves) (update_by c) in
        let now = λ (P : List ServerCall → Type 0) (p : P sent). subst P (sym s.calls_are) p in
        let is_listed_now : is_listed pk (calls s.moves) c.value.user ≡ true =
        now (λ cs. is_listed pk cs c.value.user ≡ true) (ap (is_listed pk sent) next.user ∙ listed) in
        let is_known_now : is_known pk (calls s.moves) c ≡ true =
        now (λ cs. is_known pk cs c ≡ true) (ap (is_known pk sent) (sym (only_cert known.0 known.1)) ∙ known.2) in
        let is_below_now : is_at_limit pk (calls s.moves) c ≡ false =
        now (λ cs. is_at_limit pk cs c ≡ false) (below c (next.fits, sym text_is)) in
        let succeeds : answer.status ≡ status.Ok =
        elim good.answered [
          | inl ok ↦ ok
          | inr (inl unknown) ↦ absurd (true≢false (sym is_listed_now ∙ unknown.1))
          | inr (inr (inl bad)) ↦ absurd (true≢false (sym is_known_now ∙ bad.1))
          | inr (inr (inr large)) ↦ absurd (true≢false (sym large.1 ∙ is_below_now))
        ] in
        good_reply (
        ap (λ (cs : List ServerCall). (answer_of pk cs (update_of t.text)).status) (sym s.calls_are)
        ∙ ap (λ (b : Bytes). (answer_of pk (calls s.moves) (update_of b)).status) text_is
        ∙ succeeds
        )

    pub next_pending : IsPending pk sent t.text → HasGoodReply pk sent t
    next_pending p = good_reply (ap (λ (b : Bytes). (answer_of pk sent (update_of b)).status) (sym p.1.1) ∙ pending_succeeds (state_after pk (server_events pk sent)) p.0 p.1.0 p.2)

  -- ---- a step

  module _ (older : List HonestEvent) (s : Simulates keys naming texts g (history older) (events older)) (h : HonestEvent) (is : IsHonestRun keys (h ∷ older)) (k : KeepsTo keys naming texts (events older)) where
    abbrev es : List Event
    es = events older

    pub statuses : IfSome h.exchange (λ x. MayAnswer pk (history older) h.user x.call x.answer.status)
    statuses = go h.exchange is.0.sent is.0.answered
      where
        go : (o : Option Exchange) → IfSome o (λ x. sent_by (client_of h.user es) x.call.kind ≡ Some x.call.text) → IfSome o (IsAnswered (pinned keys) (history older)) → IfSome o (λ x. MayAnswer pk (history older) h.user x.call x.answer.status)
        go None sends answered = tt
        go (Some x) sends answered = status_is (history older) es s k h.user x sends answered

    -- once the client has sent what it sends
    abbrev sent : List ServerCall
    sent = history (h ∷ older)

    abbrev once_sent : Simulates keys naming texts g (history (h ∷ older)) (events older)
    once_sent = after_exchange keys naming texts g older s h is

    -- the texts of a step are among the texts
    abbrev AreIn : Call → Client → Type 0
    AreIn call after = (x : Bytes) → In x (hashed_at (record { user = h.user; call = call; after = after })) → In x texts

    by_call : (before : Client) → client_of h.user es ≡ before → (call : Call) (after : Client) → IsStep (owner keys h.user) before call after → IsHandedIn (h ∷ older) before (held (stored older)) call → AreIn call after → IsRight before call → IsUnbroken call
    by_call (Closed p) same (Hears text answer) after step handed inside right = absurd step
    by_call (Closed p) same (Takes block answer) after step handed inside right = absurd step
    by_call (Closed p) same (Looks q answer) after step handed inside right = absurd step
    by_call (Closed p) same (Gives block answer) after step handed inside right = absurd step
    by_call (Open t) same (Hears text answer) (Closed q) step handed inside right = absurd step
    by_call (Open t) same (Takes block answer) (Closed q) step handed inside right = absurd step
    by_call (Open t) same (Looks q answer) (Closed p) step handed inside right = absurd step
    by_call (Open t) same (Gives block answer) (Closed q) step handed inside right = absurd step
    by_call (Open t) same (Hears text (Ok (step.Broken rule))) (Open new) taken handed inside right =
        hears_unbroken sent es once_sent k h.user t new same text rule taken (reply_answered keys (h ∷ older) is t text taken.declared handed)
    by_call (Open t) same (Takes block (Ok (step.Broken rule))) (Open new) taken handed inside right =
        takes_unbroken sent es once_sent k h.user t new same block rule
        (with_block sent es once_sent k h.user t same block (λ x i. inside x (in-left x _ _ (in-left x (option_to_list block) _ i)))) right taken
    by_call (Open t) same (Looks q (Ok (look.Broken rule))) (Open new) taken handed inside right = looks_unbroken sent es once_sent k h.user t new q rule taken
    by_call (Open t) same (Gives block (Ok (look.Broken rule))) (Open new) taken handed inside right = gives_unbroken sent es once_sent k h.user t new block rule right taken
    by_call before same call after taken handed inside right = tt

    pub unbroken_step : (AreHashedIn : (t : StepTaken) → h.step ≡ Some t → AreIn t.call t.after) → IfSome h.step (λ t. IsRight (client_of h.user es) t.call) → IfSome h.step (λ t. IsUnbroken t.call)
    unbroken_step inside right = go h.step refl is.0.taken is.0.handed_in right
      where
        go : (o : Option StepTaken) → h.step ≡ o → IfSome o (λ t. IsStep (owner keys h.user) (client_of h.user es) t.call t.after × IsSound t.after) → IfSome o (λ t. IsHandedIn (h ∷ older) (client_of h.user es) (held (stored older)) t.call) → IfSome o (λ t. IsRight (client_of h.user es) t.call) → IfSome o (λ t. IsUnbroken t.call)
        go None at taken handed right = tt
        go (Some t) at taken handed right = by_call (client_of h.user es) refl t.call t.after taken.0 handed (inside t at) right

  -- ---- runs

  pub each : (run : List HonestEvent) → IsHonestRun keys run → KeepsTo keys naming texts (events run) → AreRight run
      → All (λ h. IfSome h.step (λ t. IsUnbroken t.call)) run × AreAnswered keys run
  each [] is k right = (All-nil (λ (h : HonestEvent). IfSome h.step (λ t. IsUnbroken t.call)), tt)
  each (h ∷ older) is k right =
      let now = subst (λ (es : List Event). KeepsTo keys naming texts es) (with_step h older) k in
      let before = keeps_with keys naming texts g h.user h.step (events older) now in
      let s = simulates keys naming texts g older is.1 before in
      let rest = each older is.1 before right.1 in
      let inside : (t : StepTaken) → h.step ≡ Some t → (x : Bytes) → In x (hashed_at (record { user = h.user; call = t.call; after = t.after })) → In x texts =
      λ t at x i. (let kept = subst (λ (o : Option StepTaken). KeepsTo keys naming texts (events_with h.user o (events older))) at now in kept.hashed_in x (in-left x (hashed_at (record { user = h.user; call = t.call; after = t.after })) (flat_map hashed_at (events older)) i)) in (
        All-cons (λ (h : HonestEvent). IfSome h.step (λ t. IsUnbroken t.call)) h older (unbroken_step older s h is before inside right.0) rest.0,
        (statuses older s h is before, rest.1),
      )
