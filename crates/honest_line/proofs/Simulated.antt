-- An honest run is a dialogue: what its clients do are moves, which send what the server carries out.
use Rattle.std.proofs.Common.{◌≡◌, ◌≢◌, Bool, true, false, ◌==◌, ℕ, List, [], ◌∷◌, ◌++◌, length, Option, Some, None, Result, Ok, Err, IfSome, IsSomeAnd, refl, sym, ap, ◌∙◌, subst, inl, inr, if◌then◌else◌, option_to_list}
use Rattle.std.specs.Prelude.{option_and_then}
use Rattle.std.specs.List.{flat_map}
use Rattle.std.proofs.lemmas.Bool.{eq-eqb, eqb-true, eqb-false, ne_eqb}
use Rattle.layout.specs.Types.{Bytes, Digest, Handle, Key, User}
use Rattle.itable.specs.File.{NoneCollide}
use Rattle.principals.specs.Table.{Table, key_at}
use Rattle.principals.specs.TableText.{table}
use Rattle.version_order.specs.Plan.{Plan}
use Rattle.version_order.specs.Structure.{Structure}
use Rattle.version_order.specs.Vector.{version_of}
use Rattle.update_cert.specs.Change.{Change}
use Rattle.update_cert.specs.Cert.{Cert, cert}
use Rattle.tree_parts.specs.Blocks.{ForEachReading}
use Rattle.pending_list.specs.declared.signed.Signed.{Signed}
use Rattle.pending_list.specs.Groups.{table_version}
use Rattle.pending_list.specs.Reply.{reply}
use Rattle.reply_rules.specs.Lists.{Lists, items}
use Rattle.reply_rules.specs.Rules.{lists}
use Rattle.wire.specs.declared.kinds.Status.TheVariants as status
use Rattle.client_tree.specs.Genesis.{first_texts}
use Rattle.client_tree.specs.Held.{held}
use Rattle.client_tree.specs.View.{handle_in}
use Rattle.client_releases.specs.declared.error.ClientError.{ClientError}
use Rattle.client_releases.specs.declared.error.ClientError.TheVariants as error
use Rattle.client_releases.specs.declared.phase.Phase.{Phase}
use Rattle.client_releases.specs.declared.phase.Phase.TheVariants as phase
use Rattle.client_verify.specs.State.{Ready, State}
use Rattle.client_steps.specs.Steps.{Asks, Begins, Caches, Call, Client, Closed, Closes, Commits, Crashes, Gains, Gives, HasBegun, HasCommitted, HasHeard, HasResigned, HasSigned, HasTaken, Hears, IsSound, IsStep, Looks, Open, Opens, Resigns, Signs, StepTaken, Takes}
use Rattle.agreement.specs.Runs.{View, user_of}
use Rattle.agreement.specs.Worlds.{NamesTable}
use Rattle.agreement.proofs.Formed.{cert_fits}
use Rattle.agreement.proofs.Members.{In, contains_in, in-left, in-right, map-in, to_all}
use Rattle.release_runs.proofs.Runs as low_runs
use Rattle.release_runs.proofs.Stories.{text}
use Rattle.client_runs.specs.Clients.{certificate_in, structure_in}
use Rattle.client_runs.specs.Released.{accepted_by, hashed_at, released as released_in, released_by, tried_by, tried_view, views}
use Rattle.client_runs.specs.Runs.{Event, IsRun, Keys, client_of, owner, pinned}
use Rattle.client_runs.proofs.Lowering.{low_owner, of_declared, with_ready}
use Rattle.client_runs.proofs.Quiet as quiet
use Rattle.client_runs.proofs.Replies.{IsGoodBy, Kept, kept, of_lists}
use Rattle.consistency_server.specs.declared.call.CallKind.{CallKind}
use Rattle.consistency_server.specs.declared.call.CallKind.TheVariants.{Update, Commit}
use Rattle.consistency_server.specs.Answers.{Call as ServerCall}
use Rattle.consistency_server.specs.Event as placed
use Rattle.consistency_server.specs.Event.{Placed}
use Rattle.consistency_server.specs.State.{next_item, next_placement, pending_after, state_after, table_after}
use Rattle.consistency_server.specs.History.{commit_of, events as server_events, is_carried_out, update_of}
use Rattle.fork_consistency.proofs.Holds.{Holds}
use Rattle.fork_consistency.proofs.Judging.{unbroken}
use Rattle.fork_consistency.proofs.Moves.{holds_at, signed_of}
use Rattle.fork_consistency.proofs.Origins.{IsReady, IsTold, KnowsClient, known_at}
use Rattle.fork_consistency.specs.Handles.{told_by_texts}
use Rattle.honest_history.specs.Honest.{Names, Naming}
use Rattle.honest_history.specs.Placed.{table_to}
use Rattle.honest_history.specs.Served.{IsTableOf}
use Rattle.honest_history.proofs.Named.{has_table, table_of_reply}
use Rattle.honest_history.proofs.Good.{item_of, pending_in}
use Rattle.honest_history.proofs.Reached.{Reached, reach, reached, reached_before, still_kept}
use Rattle.honest_history.proofs.Replies.{unbroken_at}
use Rattle.honest_history.proofs.Tabled.{plan_key}
use Rattle.honest_history.proofs.Tables.{key_for}
use Rattle.reply_check.specs.FirstBroken.{lists_break}
use Rattle.honest_dialogues.specs.GoingOn.{events_of}
use Rattle.honest_dialogues.specs.Dialogue.{Act, Commits as Sends_structure, Declared, HearsDeclined, IsDialogue, IsNaming, IsNextCert, IsReply, LastAnswered, MayMove, Move, Sealed, Stage, Updates, WasAnswered, call_by, calls, commit_by, stage_of, success, update_by, views as shown_views}
use Rattle.honest_dialogues.specs.Signing.{HasRecords}
use Rattle.honest_dialogues.proofs.Accepting.{one_table}
use Rattle.honest_dialogues.proofs.Dialogues.{in_step}
use Rattle.honest_dialogues.proofs.Reading.{each_read}
use Rattle.honest_dialogues.proofs.Stages.{IsDeclaredAt, IsHeard, StandsAt}
use Rattle.honest_runs.specs.HonestRuns.{Exchange, HonestEvent, IsHandedIn, IsHonestRun, LastAnswered as WasLast, carried_out, events, history, sent_by, stored}
use Rattle.honest_runs.proofs.Events.{events_with, with_exchange, with_step}
use Rattle.honest_line.proofs.Answering.{commit_answered, reply_answered}
use Rattle.honest_line.proofs.Declined.{last_answered}
use Rattle.honest_line.proofs.Follows.{Follows, Goes, IsMove, in_phase_at, signed_cert, signed_structure}
use Rattle.honest_line.proofs.InHand as hand
use Rattle.honest_line.proofs.Signing.{CanSign}
use Rattle.honest_line.proofs.Stepping as stepping

-- What an honest run is compared with: naming of handles, and texts of which no two have one digest.
pub record Grounds (keys : Keys) (naming : Naming) (texts : List Bytes) : Type 0 where
  pub signers : (u : User) → CanSign keys u
  pub is_naming : IsNaming (pinned keys) naming
  pub apart : NoneCollide texts texts
  pub first_in : (t : Bytes) → In t (first_texts (pinned keys)) → In t texts
  pub one_named : (h : Handle) (t users : Table) → table.Fits users → Names naming h t → ForEachReading (told_by_texts texts) (λ reads. NamesTable reads h users) → users ≡ t

-- What a run's events keep to.
pub record KeepsTo (keys : Keys) (naming : Naming) (texts : List Bytes) (es : List Event) : Type 0 where
  pub is_run : IsRun keys es
  pub hashed_in : (t : Bytes) → In t (flat_map hashed_at es) → In t texts
  pub covers : (v : View) → In v (views es) → user_of v ≡ 0 → Names naming v.signed.handle v.table

-- so do those before the latest
keeps_older : (keys : Keys) (naming : Naming) (texts : List Bytes) (e : Event) (es : List Event) → KeepsTo keys naming texts (e ∷ es) → KeepsTo keys naming texts es
keeps_older keys naming texts e es k = record {
  is_run = k.is_run.2;
  hashed_in = λ t i. k.hashed_in t (in-right t (hashed_at e) (flat_map hashed_at es) i);
  covers = λ v i. k.covers v (in-right v (accepted_by e.call (client_of e.user es) e.after (tried_view e.user es)) (views es) i);
}

module _ (keys : Keys) (naming : Naming) (texts : List Bytes) (g : Grounds keys naming texts) where
  abbrev pk : Key
  pk = pinned keys

  -- the table that is read of such a reply is the one that user 0's handle names
  pub table_read : (x : Lists) (read known : Table) → IsTableOf naming pk x known → lists (of_lists x) ≡ true → reply.Fits (of_lists x) → IsTold texts g.apart pk x read → IsTableOf naming pk x read
  table_read x read known of ordered fits told =
      let h = handle_in pk x.structures 0 in
      let same : told.users ≡ of.users = g.one_named h of.users told.users told.fits of.named told.named in
      each_read naming pk x told.users read told.void ordered (to_all (λ i. cert.Fits i.cert) (items x) (λ i j. cert_fits (of_lists x) fits i j))
      (subst (λ (w : Table). Names naming h w) (sym same) of.named) told.pending

  -- The key of its user that the table of an accepted reply has at the number of the own plan is one that the server's
  -- table has there still.
  pub record HasNamed (sent : List ServerCall) (u : User) (y : Ready) : Type 0 where
    pub key : Key
    pub named : key_at u (version_of 0 y.lists.own.plan.vector) y.table ≡ Some key
    pub still : key_at u (version_of 0 y.lists.own.plan.vector) (table_after pk (server_events pk sent)) ≡ Some key
    pub super : u ≡ 0 → key ≡ pk

  -- The run so far is this dialogue.
  pub record Simulates (sent : List ServerCall) (es : List Event) : Type 0 where
    pub moves : List Move
    pub is : IsDialogue pk naming moves
    pub calls_are : calls moves ≡ sent
    pub views_are : shown_views moves ≡ views es
    pub follow : (u : User) → Follows keys naming u (client_of u es) (released_in u es) (tried_view u es) (stage_of u moves)

  start : Simulates [] []
  start = record {
    moves = [];
    is = tt;
    calls_are = refl;
    views_are = refl;
    follow = λ u. record { story = []; tried = None; low = low_runs.at_first (low_owner (owner keys u)); of_story = refl; tries = tt; own = tt };
  }

  -- ---- what a client sends

  module _ (sent : List ServerCall) (es : List Event) (s : Simulates sent es) where
    -- a move that leaves its client where it is
    module _ (u : User) (act : Act) (may : MayMove pk naming (calls s.moves) u (stage_of u s.moves) act (stage_of u s.moves)) where
      abbrev m : Move
      m = record { user = u; act = act; after = stage_of u s.moves }

      same_stage : (w : User) → stage_of w (m ∷ s.moves) ≡ stage_of w s.moves
      same_stage w = go (u == w) refl
        where
          go : (b : Bool) → (u == w) ≡ b → (if b then stage_of u s.moves else stage_of w s.moves) ≡ stage_of w s.moves
          go true same = ap (λ (v : User). stage_of v s.moves) (eqb-true u w same)
          go false other = refl

      remains : (more : List ServerCall) → calls (m ∷ s.moves) ≡ more ++ calls s.moves → shown_views (m ∷ s.moves) ≡ shown_views s.moves → Simulates (more ++ sent) es
      remains more sends none = record {
        moves = m ∷ s.moves;
        is = (may, s.is);
        calls_are = sends ∙ ap (λ (cs : List ServerCall). more ++ cs) s.calls_are;
        views_are = none ∙ s.views_are;
        follow = λ w. subst (λ (stage : Stage). Follows keys naming w (client_of w es) (released_in w es) (tried_view w es) stage) (sym (same_stage w)) (s.follow w);
      }

    module _ (u : User) where
      abbrev stage : Stage
      stage = stage_of u s.moves

      -- a declared certificate is sent
      update_sent : (last : Option (Signed Structure)) (c : Signed Cert) (heard : Option Lists) → stage ≡ Declared last c heard → Simulates (update_by c ∷ sent) es
      update_sent last c heard at =
          remains u Updates (subst (λ (b : Stage). MayMove pk naming (calls s.moves) u b Updates b) (sym at) refl) (update_by c ∷ [])
          (ap (λ (b : Stage). call_by Updates b ++ calls s.moves) at) refl

      -- a structure is
      commit_sent : (z : Signed Structure) → stage ≡ Sealed z → Simulates (commit_by z ∷ sent) es
      commit_sent z at =
          remains u Sends_structure (subst (λ (b : Stage). MayMove pk naming (calls s.moves) u b Sends_structure b) (sym at) refl) (commit_by z ∷ [])
          (ap (λ (b : Stage). call_by Sends_structure b ++ calls s.moves) at) refl

      module _ (t : State) (is : client_of u es ≡ Open t) where
        follows : Follows keys naming u (Open t) (released_in u es) (tried_view u es) stage
        follows = subst (λ (c : Client). Follows keys naming u c (released_in u es) (tried_view u es) stage) is (s.follow u)

        update_in : (f : Phase) → t.phase ≡ f → (sent_text : Bytes) → certificate_in f t.text ≡ Some sent_text → Simulates (update_of sent_text ∷ sent) es
        update_in phase.Idle at sent_text by = absurd (let two : None ≡ Some sent_text = by in cc two)
        update_in phase.Declared at sent_text by =
            let d = in_phase_at keys naming u t stage phase.Declared at follows.own.in_phase in
            let same : t.text ≡ sent_text = (let two : Some t.text ≡ Some sent_text = by in cc two) in
            subst (λ (b : Bytes). Simulates (update_of b ∷ sent) es) (sym d.4 ∙ same) (update_sent t.last (signed_cert keys naming u d.0 d.1) d.2 d.3)
        update_in phase.Signed at sent_text by = absurd (let two : None ≡ Some sent_text = by in cc two)
        update_in phase.Failed at sent_text by = absurd (let two : None ≡ Some sent_text = by in cc two)

        commit_in : (f : Phase) → t.phase ≡ f → (sent_text : Bytes) → structure_in f t.text ≡ Some sent_text → Simulates (commit_of sent_text ∷ sent) es
        commit_in phase.Idle at sent_text by = absurd (let two : None ≡ Some sent_text = by in cc two)
        commit_in phase.Declared at sent_text by = absurd (let two : None ≡ Some sent_text = by in cc two)
        commit_in phase.Signed at sent_text by =
            let d = in_phase_at keys naming u t stage phase.Signed at follows.own.in_phase in
            let same : t.text ≡ sent_text = (let two : Some t.text ≡ Some sent_text = by in cc two) in
            subst (λ (b : Bytes). Simulates (commit_of b ∷ sent) es) (sym d.4 ∙ same) (commit_sent (signed_structure keys naming u d.0 d.1) d.2)
        commit_in phase.Failed at sent_text by = absurd (let two : None ≡ Some sent_text = by in cc two)

      -- whatever it sends
      pub call_sent : (client : Client) → client_of u es ≡ client → (kind : CallKind) (sent_text : Bytes) → sent_by client kind ≡ Some sent_text → Simulates (record { kind = kind; text = sent_text } ∷ sent) es
      call_sent (Closed p) is Update sent_text by = absurd (let two : None ≡ Some sent_text = by in cc two)
      call_sent (Closed p) is Commit sent_text by = absurd (let two : None ≡ Some sent_text = by in cc two)
      call_sent (Open t) is Update sent_text by = update_in t is t.phase refl sent_text by
      call_sent (Open t) is Commit sent_text by = commit_in t is t.phase refl sent_text by

      -- the server carries it out, or doesn't
      exchanged : (x : Option Exchange) → IfSome x (λ x. sent_by (client_of u es) x.call.kind ≡ Some x.call.text) → Simulates (option_to_list (option_and_then carried_out x) ++ sent) es
      exchanged None by = s
      exchanged (Some x) by = go (is_carried_out x.answer.status)
        where
          go : (b : Bool) → Simulates (option_to_list (if b then Some x.call else None) ++ sent) es
          go true = call_sent (client_of u es) refl x.call.kind x.call.text by
          go false = s

    -- ---- the reply that was heard last

    -- it is to an operation that the server placed
    module _ (u : User) (last : Option (Signed Structure)) (c : Signed Cert) (x : Lists) (at : stage_of u s.moves ≡ Declared last c (Some x)) where
      pub heard : IsHeard pk (events_of pk s.moves) c x
      heard =
          let stands = (in_step pk naming g.is_naming s.moves s.is).stands u in
          let d : IsDeclaredAt pk (events_of pk s.moves) u last c (Some x) = subst (λ (b : Stage). StandsAt pk naming (events_of pk s.moves) (shown_views s.moves) u b) at stands in
          d.heard_is x refl

      placed_then : Reached naming pk (Placed c ∷ heard.earlier)
      placed_then =
          let i = in_step pk naming g.is_naming s.moves s.is in
          let now : Reached naming pk (events_of pk s.moves) = reach naming pk (calls s.moves) i.honest.bytes i.honest.honest in
          reached_before naming pk heard.since.0 (Placed c ∷ heard.earlier) (subst (Reached naming pk) heard.since.1 now)

      abbrev pub placed_table : Table
      placed_table = table_to pk heard.earlier c

      -- its table is the one after the operation
      pub table_then : IsTableOf naming pk x placed_table
      table_then =
          subst (λ (l : Lists). IsTableOf naming pk l placed_table) (sym heard.lists)
          (table_of_reply naming pk heard.earlier c (has_table naming pk g.is_naming.first (Placed c ∷ heard.earlier) placed_then))

      -- by which no rule is broken
      pub unbroken_then : lists_break placed_table x ≡ None
      unbroken_then = ap (lists_break placed_table) heard.lists ∙ (unbroken_at naming pk g.is_naming.first heard.earlier c placed_then).by_table

    -- ---- what a client knows

    module _ (k : KeepsTo keys naming texts es) (u : User) (t : State) (is : client_of u es ≡ Open t) where
      pub own : Holds (owner keys u) es (Open t) (released_in u es) (signed_of u es) (tried_view u es)
      own = subst (λ (c : Client). Holds (owner keys u) es c (released_in u es) (signed_of u es) (tried_view u es)) is (holds_at keys u es k.is_run)

      pub knows : KnowsClient texts g.apart pk (Open t)
      knows = subst (λ (c : Client). KnowsClient texts g.apart pk c) is (known_at keys texts g.apart g.first_in u es k.is_run k.hashed_in).0

      module _ (y : Ready) (ready : t.accepted ≡ Some y) where
        good : IsGoodBy es (record { user = t.user; pinned = t.pinned; last = t.last; declared = t.text }) y.lists y.table
        good = subst (λ (r : Option Ready). IfSome r (λ z. IsGoodBy es (record { user = t.user; pinned = t.pinned; last = t.last; declared = t.text }) z.lists z.table)) ready own.own.replies.accepted

        made : IsReady texts g.apart pk y
        made = subst (λ (r : Option Ready). IfSome r (IsReady texts g.apart pk)) ready knows.accepted

        is_declared : t.phase ≡ phase.Declared
        is_declared = (of_declared t t y ready own.own.always).is_declared

        heard_now : (c : Signed Cert) × (stage_of u s.moves ≡ Declared t.last c (Some y.lists))
        heard_now =
            let f : Follows keys naming u (Open t) (released_in u es) (tried_view u es) (stage_of u s.moves) = subst (λ (c : Client). Follows keys naming u c (released_in u es) (tried_view u es) (stage_of u s.moves)) is (s.follow u) in
            let d = in_phase_at keys naming u t (stage_of u s.moves) phase.Declared is_declared f.own.in_phase in
            let same : d.2 ≡ Some y.lists = subst (λ (r : Option Ready). IfSome r (λ a. d.2 ≡ Some a.lists)) ready d.5.accepted in
            (signed_cert keys naming u d.0 d.1, d.3 ∙ ap (Declared t.last (signed_cert keys naming u d.0 d.1)) same)

        pub accepted_table : IsTableOf naming pk y.lists y.table
        accepted_table =
            let then_is = table_then u t.last heard_now.0 y.lists heard_now.1 in
            table_read y.lists y.table (placed_table u t.last heard_now.0 y.lists heard_now.1) then_is (unbroken (record { user = t.user; pinned = t.pinned; last = t.last; declared = t.text }) (of_lists y.lists) good.judged.unbroken).in_order good.judged.fits made.told

        -- it is the one that the server had when the operation was placed
        pub accepted_named : HasNamed sent u y
        accepted_named =
            let c = heard_now.0 in
            let h = heard u t.last c y.lists heard_now.1 in
            let es_now : List placed.Event = events_of pk s.moves in
            let i = in_step pk naming g.is_naming s.moves s.is in
            let reached_now : Reached naming pk es_now = reach naming pk (calls s.moves) i.honest.bytes i.honest.honest in
            let now = reached naming pk es_now reached_now in
            let good_then = (reached naming pk (Placed c ∷ h.earlier) (placed_then u t.last c y.lists heard_now.1)).0 in
            let own = next_item (state_after pk h.earlier) c in
            let opened = (pending_in pk es_now now.0 own (map-in item_of (pending_after pk es_now) (next_placement (state_after pk h.earlier) c) (contains_in (next_placement (state_after pk h.earlier) c) (pending_after pk es_now) h.pending))).1 in
            let kept = still_kept pk es_now h.earlier c now.1 h.since opened in
            let signed = good_then.tabled.signed own (inl refl) in
            let plan : y.lists.own.plan ≡ own.plan = ap (λ (l : Lists). l.own.plan) h.lists in
            let user : own.plan.user ≡ u = (subst (λ (b : Stage). StandsAt pk naming (events_of pk s.moves) (shown_views s.moves) u b) heard_now.1 (i.stands u)).next.user in
            let same = one_table pk naming g.is_naming y.lists y.table (table_to pk h.earlier c) accepted_table (table_then u t.last c y.lists heard_now.1) in
            let at_plan = λ (w : Table). ap (λ (p : Plan). key_at u (version_of 0 p.vector) w) plan ∙ ap (λ (v : User). key_at v (version_of 0 own.plan.vector) w) (sym user) in
            record {
              key = signed.0;
              named = ap (λ (w : Table). key_at u (version_of 0 y.lists.own.plan.vector) w) same ∙ at_plan (table_to pk h.earlier c) ∙ plan_key (table_to pk h.earlier c) pk own.plan good_then.super_key ∙ signed.1;
              still =
                  subst (λ (cs : List ServerCall). key_at u (version_of 0 y.lists.own.plan.vector) (table_after pk (server_events pk cs)) ≡ Some signed.0) s.calls_are
                  (at_plan (table_after pk es_now) ∙ plan_key (table_after pk es_now) pk own.plan now.0.super_key ∙ kept.keys signed.0 signed.1);
              super = λ zero.
                  (let one : Some signed.0 ≡ Some pk = sym signed.1 ∙ ap (λ (v : User). key_for (table_to pk h.earlier c) v (table_version own.plan)) (user ∙ zero) ∙ good_then.super_key (table_version own.plan) in cc one);
            }

        pub accepted_records : HasRecords y
        accepted_records = record {
          parts = made.raised;
          principals = (let both = made.outcome.principals in cc both);
          records = made.records_are;
        }

  -- ---- a step

  module _ (sent : List ServerCall) (es : List Event) (s : Simulates sent es) (e : Event) (k : KeepsTo keys naming texts (e ∷ es)) where
    abbrev u : User
    u = e.user

    covers : (v : View) → In v (accepted_by e.call (client_of u es) e.after (tried_view u es)) → user_of v ≡ 0 → Names naming v.signed.handle v.table
    covers v i = k.covers v (in-left v (accepted_by e.call (client_of u es) e.after (tried_view u es)) (views es) i)

    -- what it comes to is one step more of the dialogue
    abbrev Comes : List ServerCall → Type 0
    Comes more = Goes keys naming u (calls s.moves) (stage_of u s.moves) e.after (released_by e.call e.after ++ released_in u es) (tried_by e.call (client_of u es) (tried_view u es)) more (accepted_by e.call (client_of u es) e.after (tried_view u es))

    next_follow : (stages : User → Stage) → Follows keys naming u e.after (released_by e.call e.after ++ released_in u es) (tried_by e.call (client_of u es) (tried_view u es)) (stages u)
        → ((w : User) → u ≢ w → stages w ≡ stage_of w s.moves) → (w : User) → Follows keys naming w (client_of w (e ∷ es)) (released_in w (e ∷ es)) (tried_view w (e ∷ es)) (stages w)
    next_follow stages f others w = go (u == w) refl
      where
        go : (b : Bool) → (u == w) ≡ b → Follows keys naming w (if b then e.after else client_of w es) (if b then released_by e.call e.after ++ released_in w es else released_in w es)
            (if b then tried_by e.call (client_of w es) (tried_view w es) else tried_view w es) (stages w)
        go true same =
            subst (λ (v : User). Follows keys naming v e.after (released_by e.call e.after ++ released_in v es) (tried_by e.call (client_of v es) (tried_view v es)) (stages v)) (eqb-true u w same) f
        go false other =
            subst (λ (b : Stage). Follows keys naming w (client_of w es) (released_in w es) (tried_view w es) b) (sym (others w (eqb-false u w other))) (s.follow w)

    moved : (more : List ServerCall) → Comes more → Simulates (more ++ sent) (e ∷ es)
    moved more (inl (none, no_view, f)) = record {
      moves = s.moves;
      is = s.is;
      calls_are = s.calls_are ∙ ap (λ (cs : List ServerCall). cs ++ sent) (sym none);
      views_are = s.views_are ∙ ap (λ (vs : List View). vs ++ views es) (sym no_view);
      follow = next_follow (λ w. stage_of w s.moves) f (λ w n. refl);
    }
    moved more (inr (inl m)) = record {
      moves = move ∷ s.moves;
      is = (m.may, s.is);
      calls_are = ap (λ (cs : List ServerCall). cs ++ calls s.moves) m.sends ∙ ap (λ (cs : List ServerCall). more ++ cs) s.calls_are;
      views_are = ap (λ (vs : List View). vs ++ shown_views s.moves) m.accepts ∙ ap (λ (vs : List View). accepted_by e.call (client_of u es) e.after (tried_view u es) ++ vs) s.views_are;
      follow = next_follow (λ w. stage_of w (move ∷ s.moves)) (subst (λ (b : Bool). Follows keys naming u e.after (released_by e.call e.after ++ released_in u es) (tried_by e.call (client_of u es) (tried_view u es)) (if b then m.after else stage_of u s.moves)) (sym (eq-eqb u u refl)) m.follows)
          (λ w n. subst (λ (b : Bool). (if b then m.after else stage_of w s.moves) ≡ stage_of w s.moves) (sym (ne_eqb u w n)) refl);
    }
      where
        move : Move
        move = record { user = u; act = m.act; after = m.after }
    moved more (inr (inr two)) = record {
      moves = second ∷ first ∷ s.moves;
      is = (subst (λ (b : Bool). MayMove pk naming (calls s.moves) u (if b then two.between else stage_of u s.moves) m.act m.after) (sym (eq-eqb u u refl)) m.may, (two.declined, s.is));
      calls_are = ap (λ (cs : List ServerCall). cs ++ calls s.moves) m.sends ∙ ap (λ (cs : List ServerCall). more ++ cs) s.calls_are;
      views_are = ap (λ (vs : List View). vs ++ shown_views s.moves) m.accepts ∙ ap (λ (vs : List View). accepted_by e.call (client_of u es) e.after (tried_view u es) ++ vs) s.views_are;
      follow = next_follow (λ w. stage_of w (second ∷ first ∷ s.moves))
          (subst (λ (b : Bool). Follows keys naming u e.after (released_by e.call e.after ++ released_in u es) (tried_by e.call (client_of u es) (tried_view u es)) (if b then m.after else if b then two.between else stage_of u s.moves)) (sym (eq-eqb u u refl)) m.follows)
          (λ w n. subst (λ (b : Bool). (if b then m.after else if b then two.between else stage_of w s.moves) ≡ stage_of w s.moves) (sym (ne_eqb u w n)) refl);
    }
      where
        m : IsMove keys naming u (calls s.moves) two.between e.after (released_by e.call e.after ++ released_in u es) (tried_by e.call (client_of u es) (tried_view u es)) more (accepted_by e.call (client_of u es) e.after (tried_view u es))
        m = two.then_is

        first : Move
        first = record { user = u; act = HearsDeclined; after = two.between }

        second : Move
        second = record { user = u; act = m.act; after = m.after }

  -- ---- a step that asks no server

  -- nothing came of a reply or of a status
  abbrev IsSilent : Call → Client → Client → Type 0
  IsSilent (Hears text answer) (Open s) (Open new) = new ≡ s
  IsSilent (Commits st) (Open s) (Open new) = new ≡ s
  IsSilent (Resigns n (Ok text)) before after = ⊥
  IsSilent (Resigns n (Err e)) (Open s) (Open new) = new ≡ s
  IsSilent call before after = Unit {0}

  module _ (sent : List ServerCall) (es : List Event) (s : Simulates sent es) (u : User) where
    abbrev event : Call → Client → Event
    event call after = record { user = u; call = call; after = after }

    abbrev Keeps : Call → Client → Type 0
    Keeps call after = KeepsTo keys naming texts (event call after ∷ es)

    abbrev stage_now : Stage
    stage_now = stage_of u s.moves

    abbrev given : List Bytes
    given = released_in u es

    abbrev view : Option View
    view = tried_view u es

    abbrev From : Client → Call → Client → Type 0
    From before call after = Goes keys naming u (calls s.moves) stage_now after (released_by call after ++ given) (tried_by call before view) [] (accepted_by call before after view)

    module _ (before : Client) (is : client_of u es ≡ before) (call : Call) (after : Client) (k : Keeps call after) where
      f : Follows keys naming u before given view stage_now
      f = subst (λ (c : Client). Follows keys naming u c given view stage_now) is (s.follow u)

      covers_now : (v : View) → In v (accepted_by call before after view) → user_of v ≡ 0 → Names naming v.signed.handle v.table
      covers_now v i = covers sent es s (event call after) k v (subst (λ (c : Client). In v (accepted_by call c after view)) (sym is) i)

    module _ (t new : State) (is : client_of u es ≡ Open t) (sound : IsSound (Open new)) where
      same : (call : Call) → Keeps call (Open new) → new ≡ t → Follows keys naming u (Open new) given view stage_now
      same call k e = stepping.same_as keys naming u (g.signers u) (calls s.moves) given view stage_now t new sound (f (Open t) is call (Open new) k) e

      begins : (changes : List (Change Digest)) (laid : List Bytes) (answer : Result Bytes ClientError) → Keeps (Begins changes laid answer) (Open new) → HasBegun t changes laid answer new → From (Open t) (Begins changes laid answer) (Open new)
      begins changes laid (Ok answer) k b =
          let call = Begins changes laid (Ok answer) in
          inr (inl (stepping.begins keys naming u (g.signers u) (calls s.moves) given view stage_now t new (f (Open t) is call (Open new) k) sound changes laid answer b))
      begins changes laid (Err error.Device) k b =
          inl (refl, refl, stepping.begin_fails keys naming u (g.signers u) (calls s.moves) given view stage_now t new (f (Open t) is (Begins changes laid (Err error.Device)) (Open new) k) sound changes laid b)
      begins changes laid (Err error.Memory) k b = inl (refl, refl, same (Begins changes laid (Err error.Memory)) k (b.err (λ d. cc d)))
      begins changes laid (Err error.NoLeaf) k b = inl (refl, refl, same (Begins changes laid (Err error.NoLeaf)) k (b.err (λ d. cc d)))
      begins changes laid (Err error.NoNumber) k b = inl (refl, refl, same (Begins changes laid (Err error.NoNumber)) k (b.err (λ d. cc d)))
      begins changes laid (Err error.NoKey) k b = inl (refl, refl, same (Begins changes laid (Err error.NoKey)) k (b.err (λ d. cc d)))
      begins changes laid (Err error.Foreign) k b = inl (refl, refl, same (Begins changes laid (Err error.Foreign)) k (b.err (λ d. cc d)))
      begins changes laid (Err error.Damaged) k b = inl (refl, refl, same (Begins changes laid (Err error.Damaged)) k (b.err (λ d. cc d)))

      signs : (answer : Result Bytes ClientError) → (k : Keeps (Signs answer) (Open new)) → HasSigned t answer new → From (Open t) (Signs answer) (Open new)
      signs (Ok answer) k b =
          let call = Signs (Ok answer) in
          with_ready t (From (Open t) call (Open new)) b.ready (λ y ready.
          inr (inl (stepping.signs_ok keys naming u (g.signers u) (calls s.moves) given view stage_now t new (f (Open t) is call (Open new) k) sound y ready
          (knows sent es s (keeps_older keys naming texts (event call (Open new)) es k) u t is).pinned
          (accepted_table sent es s (keeps_older keys naming texts (event call (Open new)) es k) u t is y ready)
          (accepted_records sent es s (keeps_older keys naming texts (event call (Open new)) es k) u t is y ready) answer b (covers_now (Open t) is call (Open new) k))))
      signs (Err error.Device) k b =
          let call = Signs (Err error.Device) in
          with_ready t (From (Open t) call (Open new)) b.ready (λ y ready.
          inl (
            refl,
            refl,
            stepping.sign_fails_here keys naming u (g.signers u) (calls s.moves) given view stage_now t new (f (Open t) is call (Open new) k) sound y ready
                (knows sent es s (keeps_older keys naming texts (event call (Open new)) es k) u t is).pinned
                (accepted_table sent es s (keeps_older keys naming texts (event call (Open new)) es k) u t is y ready)
                (accepted_records sent es s (keeps_older keys naming texts (event call (Open new)) es k) u t is y ready) b,
          ))
      signs (Err error.Memory) k b = inl (refl, refl, same (Signs (Err error.Memory)) k (b.err (λ d. cc d)))
      signs (Err error.NoLeaf) k b = inl (refl, refl, same (Signs (Err error.NoLeaf)) k (b.err (λ d. cc d)))
      signs (Err error.NoNumber) k b = inl (refl, refl, same (Signs (Err error.NoNumber)) k (b.err (λ d. cc d)))
      signs (Err error.NoKey) k b = inl (refl, refl, same (Signs (Err error.NoKey)) k (b.err (λ d. cc d)))
      signs (Err error.Foreign) k b = inl (refl, refl, same (Signs (Err error.Foreign)) k (b.err (λ d. cc d)))
      signs (Err error.Damaged) k b = inl (refl, refl, same (Signs (Err error.Damaged)) k (b.err (λ d. cc d)))

      -- the certificate that is declared is a next one
      next_then : (c : Signed Cert) (lists : Option Lists) → stage_now ≡ Declared t.last c lists → IsNextCert u t.last c
      next_then c lists at = (subst (StandsAt pk naming (events_of pk s.moves) (shown_views s.moves) u) at ((in_step pk naming g.is_naming s.moves s.is).stands u)).next

      resigns : (n : ℕ) (answer : Result Bytes ClientError) → Keeps (Resigns n answer) (Open new) → HasResigned t n answer new → LastAnswered pk (calls s.moves) (update_of t.text) status.BadSignature → From (Open t) (Resigns n answer) (Open new)
      resigns n (Ok answer) k b was =
          let call = Resigns n (Ok answer) in
          inr (inr (stepping.resigns_ok keys naming u (g.signers u) (calls s.moves) given view stage_now t new (f (Open t) is call (Open new) k) sound n b.declared next_then was answer b))
      resigns n (Err error.Device) k b was =
          let call = Resigns n (Err error.Device) in
          inr (inl (stepping.resign_fails_here keys naming u (g.signers u) (calls s.moves) given view stage_now t new (f (Open t) is call (Open new) k) sound n b.declared next_then was b))
      resigns n (Err error.Memory) k b was = inl (refl, refl, same (Resigns n (Err error.Memory)) k (b.err (λ d. cc d)))
      resigns n (Err error.NoLeaf) k b was = inl (refl, refl, same (Resigns n (Err error.NoLeaf)) k (b.err (λ d. cc d)))
      resigns n (Err error.NoNumber) k b was = inl (refl, refl, same (Resigns n (Err error.NoNumber)) k (b.err (λ d. cc d)))
      resigns n (Err error.NoKey) k b was = inl (refl, refl, same (Resigns n (Err error.NoKey)) k (b.err (λ d. cc d)))
      resigns n (Err error.Foreign) k b was = inl (refl, refl, same (Resigns n (Err error.Foreign)) k (b.err (λ d. cc d)))
      resigns n (Err error.Damaged) k b was = inl (refl, refl, same (Resigns n (Err error.Damaged)) k (b.err (λ d. cc d)))

      takes : (block : Option Bytes) (answer : Result Asks ClientError) → Keeps (Takes block answer) (Open new) → HasTaken t block answer new → From (Open t) (Takes block answer) (Open new)
      takes block answer k b =
          inl (refl, refl, stepping.stays keys naming u (g.signers u) (calls s.moves) given view stage_now t new sound (f (Open t) is (Takes block answer) (Open new) k) (quiet.takes t block answer new b) (hand.takes keys naming u t block answer new b))

      kept_on : (call : Call) → Keeps call (Open new) → kept new ≡ kept t → Follows keys naming u (Open new) given view stage_now
      kept_on call k e =
          stepping.stays keys naming u (g.signers u) (calls s.moves) given view stage_now t new sound (f (Open t) is call (Open new) k) (ap (λ (x : Kept). x.0) e) (λ heard h. hand.kept_in_hand keys naming u t new heard e h)

    goes : (before : Client) → client_of u es ≡ before → (call : Call) (after : Client) → Keeps call after → IsStep (owner keys u) before call after → IsSound after → IsSilent call before after → From before call after
    goes (Closed p) is (Opens (Ok x)) (Open t) k step sound silent =
        stepping.opens keys naming u (g.signers u) (calls s.moves) given view stage_now p t x (f (Closed p) is (Opens (Ok x)) (Open t) k) step sound
        (covers_now (Closed p) is (Opens (Ok x)) (Open t) k)
    goes (Closed p) is (Opens (Err e)) (Closed q) k step sound silent =
        inl (refl, refl, stepping.refused keys naming u (g.signers u) (calls s.moves) given view stage_now p e q (f (Closed p) is (Opens (Err e)) (Closed q) k) step)
    goes (Closed p) is Gains (Closed q) k step sound silent =
        inl (refl, refl, stepping.gained keys naming u (g.signers u) (calls s.moves) given view stage_now p q (f (Closed p) is Gains (Closed q) k) step)
    goes (Closed p) is Crashes (Closed q) k step sound silent =
        inl (refl, refl, stepping.left keys naming u (g.signers u) (calls s.moves) given view stage_now (Closed p) q (f (Closed p) is Crashes (Closed q) k) step)
    goes (Closed p) is call after k step sound silent = absurd step
    goes (Open t) is Closes (Closed p) k step sound silent =
        inl (refl, refl, stepping.handed_back keys naming u (g.signers u) (calls s.moves) given view stage_now t p (f (Open t) is Closes (Closed p) k) step)
    goes (Open t) is Crashes (Closed p) k step sound silent =
        inl (refl, refl, stepping.left keys naming u (g.signers u) (calls s.moves) given view stage_now (Open t) p (f (Open t) is Crashes (Closed p) k) step)
    goes (Open t) is (Begins changes laid answer) (Open new) k step sound silent = begins t new is sound changes laid answer k step
    goes (Open t) is (Resigns n (Ok text)) (Open new) k step sound silent = absurd silent
    goes (Open t) is (Resigns n (Err e)) (Open new) k step sound silent = inl (refl, refl, same t new is sound (Resigns n (Err e)) k silent)
    goes (Open t) is (Hears text answer) (Open new) k step sound silent = inl (refl, refl, same t new is sound (Hears text answer) k silent)
    goes (Open t) is (Takes block answer) (Open new) k step sound silent = takes t new is sound block answer k step
    goes (Open t) is (Signs answer) (Open new) k step sound silent = signs t new is sound answer k step
    goes (Open t) is (Commits st) (Open new) k step sound silent = inl (refl, refl, same t new is sound (Commits st) k silent)
    goes (Open t) is (Looks q answer) (Open new) k step sound silent = inl (refl, refl, kept_on t new is sound (Looks q answer) k (quiet.looks t q answer new step))
    goes (Open t) is (Caches capacity) (Open new) k step sound silent = inl (refl, refl, kept_on t new is sound (Caches capacity) k (ap kept step.state))
    goes (Open t) is (Gives block answer) (Open new) k step sound silent = inl (refl, refl, kept_on t new is sound (Gives block answer) k (quiet.gives t block answer new step))
    goes (Open t) is call after k step sound silent = absurd step

    pub silent_step : (call : Call) (after : Client) → Keeps call after → IsStep (owner keys u) (client_of u es) call after → IsSound after → IsSilent call (client_of u es) after → Simulates sent (event call after ∷ es)
    silent_step call after k step sound silent = moved sent es s (event call after) k [] (goes (client_of u es) refl call after k step sound silent)

    -- ---- a step in which an answer is heard

    module _ (t new : State) (is : client_of u es ≡ Open t) (sound : IsSound (Open new)) where
      here : (call : Call) → Keeps call (Open new) → Follows keys naming u (Open t) given view stage_now
      here call k = f (Open t) is call (Open new) k

      -- a reply, which was given to the text that the client has
      heard_step : (reply_text : Bytes) (answer : Asks) → Keeps (Hears reply_text (Ok answer)) (Open new) → HasHeard t reply_text (Ok answer) new → WasAnswered pk sent (update_of t.text) (success reply_text)
          → hand.Heard keys naming u reply_text new → Simulates sent (event (Hears reply_text (Ok answer)) (Open new) ∷ es)
      heard_step reply_text answer k b was heard =
          let call = Hears reply_text (Ok answer) in
          let h = here call k in
          let d = in_phase_at keys naming u t stage_now phase.Declared b.declared h.own.in_phase in
          let c = signed_cert keys naming u d.0 d.1 in
          let is_reply : IsReply pk (calls s.moves) c heard.lists = record {
            payload = reply_text;
            answered = subst (λ (text : Bytes). WasAnswered pk (calls s.moves) (update_of text) (success reply_text)) d.4 (subst (λ (cs : List ServerCall). WasAnswered pk cs (update_of t.text) (success reply_text)) (sym s.calls_are) was);
            lists = heard.are;
          } in
          moved sent es s (event call (Open new)) k []
          (inr (inl (stepping.hears keys naming u (g.signers u) (calls s.moves) given view stage_now t new h sound d.0 d.1 d.2 d.3 b.declared (quiet.hears t reply_text (Ok answer) new b) heard.lists heard.in_hand is_reply d.4)))

      -- the structure was taken
      committed_step : Keeps (Commits status.Ok) (Open new) → HasCommitted t status.Ok new → (payload : Bytes) → WasAnswered pk sent (commit_of t.text) (success payload) → Simulates sent (event (Commits status.Ok) (Open new) ∷ es)
      committed_step k b payload was =
          let call = Commits status.Ok in
          let done = subst (λ (cs : List ServerCall). WasAnswered pk cs (commit_of t.text) (success payload)) (sym s.calls_are) was in
          moved sent es s (event call (Open new)) k []
          (inr (inl (stepping.commits keys naming u (g.signers u) (calls s.moves) given view stage_now t new (here call k) sound b.state b.signed payload done)))

      -- the certificate is signed again, after it was declined
      resigned_step : (n : ℕ) (answer : Result Bytes ClientError) → Keeps (Resigns n answer) (Open new) → HasResigned t n answer new → LastAnswered pk sent (update_of t.text) status.BadSignature → Simulates sent (event (Resigns n answer) (Open new) ∷ es)
      resigned_step n answer k b was =
          moved sent es s (event (Resigns n answer) (Open new)) k []
          (resigns t new is sound n answer k b (subst (λ (cs : List ServerCall). LastAnswered pk cs (update_of t.text) status.BadSignature) (sym s.calls_are) was))

  -- ---- an honest step

  module _ (older : List HonestEvent) (s : Simulates (history older) (events older)) (h : HonestEvent) (is : IsHonestRun keys (h ∷ older)) where
    abbrev es : List Event
    es = events older

    -- what is sent comes first
    pub after_exchange : Simulates (history (h ∷ older)) es
    after_exchange = subst (λ (cs : List ServerCall). Simulates cs es) (sym (with_exchange h older)) (exchanged (history older) es s h.user h.exchange is.0.sent)

    abbrev Then : Call → Client → Type 0
    Then call after = Simulates (history (h ∷ older)) (record { user = h.user; call = call; after = after } ∷ es)

    abbrev KeepsNow : Call → Client → Type 0
    KeepsNow call after = KeepsTo keys naming texts (record { user = h.user; call = call; after = after } ∷ es)

    silently : (call : Call) (after : Client) → KeepsNow call after → IsStep (owner keys h.user) (client_of h.user es) call after → IsSound after → IsSilent call (client_of h.user es) after → Then call after
    silently call after k step sound silent = silent_step (history (h ∷ older)) es after_exchange h.user call after k step sound silent

    step_of : (before : Client) → client_of h.user es ≡ before → (call : Call) (after : Client) → KeepsNow call after → IsStep (owner keys h.user) before call after → IsSound after → IsHandedIn (h ∷ older) before (held (stored older)) call → Then call after
    step_of before same (Opens answer) after k step sound handed = silently (Opens answer) after k (subst (λ (c : Client). IsStep (owner keys h.user) c (Opens answer) after) (sym same) step) sound tt
    step_of before same Closes after k step sound handed = silently Closes after k (subst (λ (c : Client). IsStep (owner keys h.user) c Closes after) (sym same) step) sound tt
    step_of before same Gains after k step sound handed = silently Gains after k (subst (λ (c : Client). IsStep (owner keys h.user) c Gains after) (sym same) step) sound tt
    step_of before same (Begins changes laid answer) after k step sound handed = silently (Begins changes laid answer) after k (subst (λ (c : Client). IsStep (owner keys h.user) c (Begins changes laid answer) after) (sym same) step) sound tt
    step_of before same (Takes block answer) after k step sound handed = silently (Takes block answer) after k (subst (λ (c : Client). IsStep (owner keys h.user) c (Takes block answer) after) (sym same) step) sound tt
    step_of before same (Signs answer) after k step sound handed = silently (Signs answer) after k (subst (λ (c : Client). IsStep (owner keys h.user) c (Signs answer) after) (sym same) step) sound tt
    step_of before same (Looks q answer) after k step sound handed = silently (Looks q answer) after k (subst (λ (c : Client). IsStep (owner keys h.user) c (Looks q answer) after) (sym same) step) sound tt
    step_of before same (Caches capacity) after k step sound handed = silently (Caches capacity) after k (subst (λ (c : Client). IsStep (owner keys h.user) c (Caches capacity) after) (sym same) step) sound tt
    step_of before same (Gives block answer) after k step sound handed = silently (Gives block answer) after k (subst (λ (c : Client). IsStep (owner keys h.user) c (Gives block answer) after) (sym same) step) sound tt
    step_of before same Crashes after k step sound handed = silently Crashes after k (subst (λ (c : Client). IsStep (owner keys h.user) c Crashes after) (sym same) step) sound tt
    step_of (Closed p) same (Hears text answer) after k step sound handed = absurd step
    step_of (Closed p) same (Commits st) after k step sound handed = absurd step
    step_of (Closed p) same (Resigns n answer) after k step sound handed = absurd step
    step_of (Open t) same (Resigns n answer) (Closed q) k step sound handed = absurd step
    step_of (Open t) same (Resigns n answer) (Open new) k step sound handed =
        resigned_step (history (h ∷ older)) es after_exchange h.user t new same sound n answer k step
        (last_answered keys (update_of t.text) status.BadSignature (h ∷ older) is refl
        (subst (λ (f : Phase). IsSomeAnd (certificate_in f t.text) (λ own. WasLast (h ∷ older) (update_of own) status.BadSignature)) step.declared handed))
    step_of (Open t) same (Hears text answer) (Closed q) k step sound handed = absurd step
    step_of (Open t) same (Commits st) (Closed q) k step sound handed = absurd step
    step_of (Open t) same (Hears text (Err e)) (Open new) k step sound handed =
        let call = Hears text (Err e) in
        silently call (Open new) k (subst (λ (c : Client). IsStep (owner keys h.user) c call (Open new)) (sym same) step) sound (subst (λ (c : Client). IsSilent call c (Open new)) (sym same) step.err)
    step_of (Open t) same (Hears text (Ok answer)) (Open new) k step sound handed =
        let call = Hears text (Ok answer) in
        elim (hand.judged keys naming h.user t text answer new step.judged) [
          | inl e ↦ silently call (Open new) k (subst (λ (c : Client). IsStep (owner keys h.user) c call (Open new)) (sym same) step) sound (subst (λ (c : Client). IsSilent call c (Open new)) (sym same) e)
          | inr heard ↦ heard_step (history (h ∷ older)) es after_exchange h.user t new same sound text answer k step (reply_answered keys (h ∷ older) is t text step.declared handed) heard
        ]
    step_of (Open t) same (Commits status.Ok) (Open new) k step sound handed =
        committed_step (history (h ∷ older)) es after_exchange h.user t new same sound k step handed.0 (commit_answered keys (h ∷ older) is t handed.0 step.signed handed.1)
    step_of (Open t) same (Commits other) (Open new) k step sound handed =
        let call = Commits other in
        silently call (Open new) k (subst (λ (c : Client). IsStep (owner keys h.user) c call (Open new)) (sym same) step) sound (subst (λ (c : Client). IsSilent call c (Open new)) (sym same) step.state)

    honest_step : (st : Option StepTaken) → h.step ≡ st → KeepsTo keys naming texts (events_with h.user st es) → Simulates (history (h ∷ older)) (events_with h.user st es)
    honest_step None at k = after_exchange
    honest_step (Some t) at k =
        let taken = subst (λ (o : Option StepTaken). IfSome o (λ t. IsStep (owner keys h.user) (client_of h.user es) t.call t.after × IsSound t.after)) at is.0.taken in
        let handed = subst (λ (o : Option StepTaken). IfSome o (λ t. IsHandedIn (h ∷ older) (client_of h.user es) (held (stored older)) t.call)) at is.0.handed_in in
        step_of (client_of h.user es) refl t.call t.after k taken.0 taken.1 handed

  -- ---- runs

  pub keeps_with : (u : User) (st : Option StepTaken) (es : List Event) → KeepsTo keys naming texts (events_with u st es) → KeepsTo keys naming texts es
  keeps_with u None older k = k
  keeps_with u (Some t) older k = keeps_older keys naming texts (record { user = u; call = t.call; after = t.after }) older k

  pub simulates : (run : List HonestEvent) → IsHonestRun keys run → KeepsTo keys naming texts (events run) → Simulates (history run) (events run)
  simulates [] is k = start
  simulates (h ∷ older) is k =
      let now = subst (λ (es : List Event). KeepsTo keys naming texts es) (with_step h older) k in
      let s = simulates older is.1 (keeps_with h.user h.step (events older) now) in
      subst (λ (es : List Event). Simulates (history (h ∷ older)) es) (sym (with_step h older)) (honest_step older s h is h.step refl now)
