-- What an answer tells of the call that it is one to, and what comes of a client that is told to do something.
use Rattle.std.proofs.Common.{◌≡◌, ℕ, true, false, List, [], ◌∷◌, ◌++◌, Option, Some, None, Ok, Err, Result, IfSome, IsSome, IsSomeAnd, map, option_map, option_and_then, refl, sym, ap, subst, ◌∙◌, inl, inr}
use Rattle.std.specs.Vec.{vec_items}
use Rattle.std.specs.declared.vec.Vec.{Vec}
use Rattle.std.proofs.lemmas.List.{append-nil}
use Rattle.layout.specs.Types.{Bytes, Digest, User}
use Rattle.tree_parts.specs.Blocks.{Blocks}
use Rattle.wire.specs.declared.kinds.Status.{Status}
use Rattle.client_releases.specs.declared.error.ClientError.{ClientError}
use Rattle.client_releases.specs.declared.phase.Phase.{Phase}
use Rattle.client_releases.specs.declared.phase.Phase.TheVariants as phase
use Rattle.client_verify.specs.declared.look.Look.{Look}
use Rattle.client_verify.specs.declared.look.Look.TheVariants as look
use Rattle.client_verify.specs.declared.step.Step.{Step}
use Rattle.client_verify.specs.declared.step.Step.TheVariants as step
use Rattle.client_verify.specs.State.{AcceptedView, Checked, asked_of}
use Rattle.client_verify.specs.declared.view.Looking.{Looking}
use Rattle.client_steps.specs.Steps.{Asks, Begins, Caches, Call, Client, Closed, Closes, Commits, Crashes, Gains, Gives, Hears, IsSound, IsStep, Looks, Open, Opens, Owner, Resigns, Sees, Signs, StepTaken, Takes}
use Rattle.client_steps.specs.Anywhere.{asked, bytes_anywhere, on_ok, seen}
use Rattle.client_tree.specs.declared.questions.Question.{Question}
use Rattle.client_tree.specs.declared.questions.Question.TheVariants as question
use Rattle.client_runs.specs.declared.world.Accepted.{Accepted}
use Rattle.client_runs.specs.declared.world.Act.{Act}
use Rattle.client_runs.specs.declared.world.Act.TheVariants as act
use Rattle.client_runs.specs.declared.world.Answer.{Answer}
use Rattle.client_runs.specs.declared.world.Answer.TheVariants as answer
use Rattle.client_runs.specs.Clients.{structure_in, structure_of}
use Rattle.client_runs.specs.Runs.{owner}
use Rattle.client_runs.specs.Told.{call_of, texts_in}
use Rattle.client_runs.specs.NotTaken.{CantBeTaken}
use Rattle.client_runs.specs.Carried.{ComesOf, IsTaken, script_keys}
use Rattle.honest_runs.specs.declared.wanted.Wanted.{Wanted}
use Rattle.honest_runs.specs.HonestRuns.{Exchange, HonestEvent, IsFound, IsHandedIn, looked_for_by, put_with, wanted_by}
use Rattle.honest_runs.specs.Served.{Does, DoesAlone, laid_by}
use Rattle.honest_runs.specs.Town.{IsNoted, client_after, handed_out, may_alone, noting}
use Rattle.honest_runs.proofs.Declining.{MayAlone}
use Rattle.honest_runs.proofs.Noting.{asking, noted_after}

-- what holds of the call of a step holds of it by its other name
by_call : (P : Call → Type 0) (given call : Call) → Some given ≡ Some call → P given → P call
by_call P given call is p = subst P (cc is) p

-- ---- what is asked for

asks_same : {A : Type 0} (w : Wanted) (text : Bytes) (r : Result (Step A) ClientError) → asking w (Hears text (on_ok asked r)) ≡ noting w (answer.Asks r)
asks_same w text (Ok (step.Need digest)) = refl
asks_same w text (Ok (step.Store texts)) = refl
asks_same w text (Ok (step.Broken rule)) = refl
asks_same w text (Err e) = refl

takes_same : {A : Type 0} (w : Wanted) (block : Option Bytes) (r : Result (Step A) ClientError) → asking w (Takes block (on_ok asked r)) ≡ noting w (answer.Asks r)
takes_same w block (Ok (step.Need digest)) = refl
takes_same w block (Ok (step.Store texts)) = refl
takes_same w block (Ok (step.Broken rule)) = refl
takes_same w block (Err e) = refl

looks_same : {A : Type 0} (w : Wanted) (q : Question) (r : Result (Look A) ClientError) → asking w (Looks q (on_ok seen r)) ≡ noting w (answer.Sees r)
looks_same w q (Ok (look.Need digest)) = refl
looks_same w q (Ok (look.File bytes)) = refl
looks_same w q (Ok (look.Dir entries)) = refl
looks_same w q (Ok look.None) = refl
looks_same w q (Ok (look.Kind kind)) = refl
looks_same w q (Ok (look.Free found)) = refl
looks_same w q (Ok (look.Broken rule)) = refl
looks_same w q (Err e) = refl

gives_same : {A : Type 0} (w : Wanted) (block : Option Bytes) (r : Result (Look A) ClientError) → asking w (Gives block (on_ok seen r)) ≡ noting w (answer.Sees r)
gives_same w block (Ok (look.Need digest)) = refl
gives_same w block (Ok (look.File bytes)) = refl
gives_same w block (Ok (look.Dir entries)) = refl
gives_same w block (Ok look.None) = refl
gives_same w block (Ok (look.Kind kind)) = refl
gives_same w block (Ok (look.Free found)) = refl
gives_same w block (Ok (look.Broken rule)) = refl
gives_same w block (Err e) = refl

module _ {A : Type 0} (w : Wanted) where
  -- an answer tells what its call asks for
  asking_noted : (t : Act A) (a : Answer A) (call : Call) → call_of t a ≡ Some call → asking w call ≡ noting w a
  asking_noted act.Open (answer.Opened how text) call is = by_call (λ c. asking w c ≡ w) (Opens (Ok tt)) call is refl
  asking_noted act.Open (answer.Refused e) call is = by_call (λ c. asking w c ≡ w) (Opens (Err e)) call is refl
  asking_noted act.Close answer.Closed call is = by_call (λ c. asking w c ≡ w) Closes call is refl
  asking_noted act.Gain answer.Gained call is = by_call (λ c. asking w c ≡ w) Gains call is refl
  asking_noted (act.Resign n) (answer.Begun r) call is = by_call (λ c. asking w c ≡ w) (Resigns n (on_ok vec_items r)) call is refl
  asking_noted (act.Begin changes laid) (answer.Begun r) call is = by_call (λ c. asking w c ≡ w) (Begins changes.items (texts_in laid) (on_ok vec_items r)) call is refl
  asking_noted (act.Reply text) (answer.Asks r) call is = by_call (λ c. asking w c ≡ noting w (answer.Asks r)) (Hears text.items (on_ok asked r)) call is (asks_same w text.items r)
  asking_noted (act.Block block) (answer.Asks r) call is = by_call (λ c. asking w c ≡ noting w (answer.Asks r)) (Takes (option_map vec_items block) (on_ok asked r)) call is (takes_same w (option_map vec_items block) r)
  asking_noted act.Sign (answer.Signed r) call is = by_call (λ c. asking w c ≡ w) (Signs (on_ok (λ (x : Accepted A). x.text.items) r)) call is refl
  asking_noted (act.Committed status) answer.Committed call is = by_call (λ c. asking w c ≡ w) (Commits status) call is refl
  asking_noted (act.Look p i) (answer.Sees r) call is = by_call (λ c. asking w c ≡ noting w (answer.Sees r)) (Looks (question.At p i) (on_ok seen r)) call is (looks_same w (question.At p i) r)
  asking_noted (act.Kind p i) (answer.Sees r) call is = by_call (λ c. asking w c ≡ noting w (answer.Sees r)) (Looks (question.Kind p i) (on_ok seen r)) call is (looks_same w (question.Kind p i) r)
  asking_noted (act.Free p first last) (answer.Sees r) call is = by_call (λ c. asking w c ≡ noting w (answer.Sees r)) (Looks (question.Free p first last) (on_ok seen r)) call is (looks_same w (question.Free p first last) r)
  asking_noted (act.Give block) (answer.Sees r) call is = by_call (λ c. asking w c ≡ noting w (answer.Sees r)) (Gives (option_map vec_items block) (on_ok seen r)) call is (gives_same w (option_map vec_items block) r)
  asking_noted (act.Cache capacity) answer.Cached call is = by_call (λ c. asking w c ≡ w) (Caches capacity) call is refl
  asking_noted (act.Crash ledgers journal) answer.Crashed call is = by_call (λ c. asking w c ≡ w) Crashes call is refl
  asking_noted t a call is = absurd (cc is)

-- ---- what is put

same_texts : {A : Type 0} (texts : List (Vec ℕ A)) → map vec_items (map bytes_anywhere texts) ≡ map vec_items texts
same_texts [] = refl
same_texts (x ∷ texts) = ap (λ (xs : List Bytes). x.items ∷ xs) (same_texts texts)

reply_put : {A : Type 0} (text : Bytes) (r : Result (Step A) ClientError) → put_with (Hears text (on_ok asked r)) ≡ handed_out (answer.Asks r)
reply_put text (Ok (step.Need digest)) = refl
reply_put text (Ok (step.Store texts)) = same_texts texts.items
reply_put text (Ok (step.Broken rule)) = refl
reply_put text (Err e) = refl

block_put : {A : Type 0} (block : Option Bytes) (r : Result (Step A) ClientError) → put_with (Takes block (on_ok asked r)) ≡ handed_out (answer.Asks r)
block_put block (Ok (step.Need digest)) = refl
block_put block (Ok (step.Store texts)) = same_texts texts.items
block_put block (Ok (step.Broken rule)) = refl
block_put block (Err e) = refl

module _ {A : Type 0} where
  -- what a call puts is what was laid out for it, and what the client hands out
  put_told : (t : Act A) (a : Answer A) (call : Call) → call_of t a ≡ Some call → put_with call ≡ laid_by t ++ handed_out a
  put_told act.Open (answer.Opened how text) call is = by_call (λ c. put_with c ≡ []) (Opens (Ok tt)) call is refl
  put_told act.Open (answer.Refused e) call is = by_call (λ c. put_with c ≡ []) (Opens (Err e)) call is refl
  put_told act.Close answer.Closed call is = by_call (λ c. put_with c ≡ []) Closes call is refl
  put_told act.Gain answer.Gained call is = by_call (λ c. put_with c ≡ []) Gains call is refl
  put_told (act.Resign n) (answer.Begun r) call is = by_call (λ c. put_with c ≡ []) (Resigns n (on_ok vec_items r)) call is refl
  put_told (act.Begin changes laid) (answer.Begun r) call is =
      by_call (λ c. put_with c ≡ texts_in laid ++ []) (Begins changes.items (texts_in laid) (on_ok vec_items r)) call is (sym (append-nil (texts_in laid)))
  put_told (act.Reply text) (answer.Asks r) call is = by_call (λ c. put_with c ≡ handed_out (answer.Asks r)) (Hears text.items (on_ok asked r)) call is (reply_put text.items r)
  put_told (act.Block block) (answer.Asks r) call is = by_call (λ c. put_with c ≡ handed_out (answer.Asks r)) (Takes (option_map vec_items block) (on_ok asked r)) call is (block_put (option_map vec_items block) r)
  put_told act.Sign (answer.Signed r) call is = by_call (λ c. put_with c ≡ []) (Signs (on_ok (λ (x : Accepted A). x.text.items) r)) call is refl
  put_told (act.Committed status) answer.Committed call is = by_call (λ c. put_with c ≡ []) (Commits status) call is refl
  put_told (act.Look p i) (answer.Sees r) call is = by_call (λ c. put_with c ≡ []) (Looks (question.At p i) (on_ok seen r)) call is refl
  put_told (act.Kind p i) (answer.Sees r) call is = by_call (λ c. put_with c ≡ []) (Looks (question.Kind p i) (on_ok seen r)) call is refl
  put_told (act.Free p first last) (answer.Sees r) call is = by_call (λ c. put_with c ≡ []) (Looks (question.Free p first last) (on_ok seen r)) call is refl
  put_told (act.Give block) (answer.Sees r) call is = by_call (λ c. put_with c ≡ []) (Gives (option_map vec_items block) (on_ok seen r)) call is refl
  put_told (act.Cache capacity) answer.Cached call is = by_call (λ c. put_with c ≡ []) (Caches capacity) call is refl
  put_told (act.Crash ledgers journal) answer.Crashed call is = by_call (λ c. put_with c ≡ []) Crashes call is refl
  put_told t a call is = absurd (cc is)

-- ---- what is handed in

-- a client that takes a block has a question
wants : (o : Owner) (c : Client) (block : Option Bytes) (r : Result Asks ClientError) (after : Client) → IsStep o c (Takes block r) after → IsSome (wanted_by c)
wants o (Open s) block r (Open new) h = mapped s.checked h.wants
  where
    mapped : (k : Option Checked) → IsSome k → IsSome (option_map (λ (y : Checked). (asked_of y).digest) k)
    mapped None some = absurd (cc some)
    mapped (Some y) some = refl
wants o c block r after h = absurd h

looks_for : (o : Owner) (c : Client) (block : Option Bytes) (r : Result Sees ClientError) (after : Client) → IsStep o c (Gives block r) after → IsSome (looked_for_by c)
looks_for o (Open s) block r (Open new) h = mapped s.view h.looks
  where
    asked_by : (l : Option Looking) → IsSome l → IsSome (option_map (λ (y : Looking). y.asked.digest) l)
    asked_by None some = absurd (cc some)
    asked_by (Some y) some = refl

    mapped : (v : Option AcceptedView) → IsSomeAnd v (λ y. IsSome y.looking) → IsSome (option_map (λ (y : Looking). y.asked.digest) (option_and_then (λ (y : AcceptedView). y.looking) v))
    mapped None some = absurd some
    mapped (Some y) some = asked_by y.looking some
looks_for o c block r after h = absurd h

module _ (run : List HonestEvent) (client : Client) (blocks : Blocks) where
  abbrev Handed : Call → Type 0
  Handed call = IsHandedIn run client blocks call

  -- a client that takes a block asks for it
  found : (asks remembered : Option Digest) (block : Option Bytes) → IsSome asks → IfSome asks (λ d. remembered ≡ Some d) → block ≡ option_and_then blocks remembered
      → IsFound blocks asks block
  found None remembered block some same is = absurd (cc some)
  found (Some d) remembered block some same is = sym (is ∙ ap (option_and_then blocks) same)

  module _ {A : Type 0} where
    -- nothing, to a client that does something alone
    pub alone_handed : (t : Act A) (a : Answer A) (call : Call) → MayAlone run client t → call_of t a ≡ Some call → Handed call
    alone_handed act.Open (answer.Opened how text) call lone is = by_call Handed (Opens (Ok tt)) call is tt
    alone_handed act.Open (answer.Refused e) call lone is = by_call Handed (Opens (Err e)) call is tt
    alone_handed act.Close answer.Closed call lone is = by_call Handed Closes call is tt
    alone_handed act.Gain answer.Gained call lone is = by_call Handed Gains call is tt
    alone_handed (act.Resign n) (answer.Begun r) call lone is = by_call Handed (Resigns n (on_ok vec_items r)) call is lone
    alone_handed (act.Begin changes laid) (answer.Begun r) call lone is = by_call Handed (Begins changes.items (texts_in laid) (on_ok vec_items r)) call is tt
    alone_handed (act.Reply text) a call lone is = absurd lone
    alone_handed (act.Block block) a call lone is = absurd lone
    alone_handed act.Sign (answer.Signed r) call lone is = by_call Handed (Signs (on_ok (λ (y : Accepted A). y.text.items) r)) call is tt
    alone_handed (act.Committed status) a call lone is = absurd lone
    alone_handed (act.Look p i) (answer.Sees r) call lone is = by_call Handed (Looks (question.At p i) (on_ok seen r)) call is tt
    alone_handed (act.Kind p i) (answer.Sees r) call lone is = by_call Handed (Looks (question.Kind p i) (on_ok seen r)) call is tt
    alone_handed (act.Free p first last) (answer.Sees r) call lone is = by_call Handed (Looks (question.Free p first last) (on_ok seen r)) call is tt
    alone_handed (act.Give block) a call lone is = absurd lone
    alone_handed (act.Cache capacity) answer.Cached call lone is = by_call Handed (Caches capacity) call is tt
    alone_handed (act.Crash ledgers journal) answer.Crashed call lone is = by_call Handed Crashes call is tt
    alone_handed t a call lone is = absurd (cc is)

    -- the reply of an answer
    pub reply_handed : (text : Vec ℕ A) (a : Answer A) (call : Call) → ((r : Result Asks ClientError) → Handed (Hears text.items r)) → call_of (act.Reply text) a ≡ Some call → Handed call
    reply_handed text (answer.Asks r) call given is = by_call Handed (Hears text.items (on_ok asked r)) call is (given (on_ok asked r))
    reply_handed text a call given is = absurd (cc is)

    -- its status
    pub status_handed : (given : Status) (a : Answer A) (call : Call) → Handed (Commits given) → call_of (act.Committed given) a ≡ Some call → Handed call
    status_handed given answer.Committed call handed is = by_call Handed (Commits given) call is handed
    status_handed given a call handed is = absurd (cc is)

    module _ (o : Owner) (w : Wanted) (noted : IsNoted client w) where
      -- the stored block
      pub block_handed : (block : Option (Vec ℕ A)) (a : Answer A) (call : Call) (after : Client) → option_map vec_items block ≡ option_and_then blocks w.reply
          → call_of (act.Block block) a ≡ Some call → IsStep o client call after → Handed call
      block_handed block (answer.Asks r) call after same is h =
          let taken : IsStep o client (Takes (option_map vec_items block) (on_ok asked r)) after = subst (λ (c : Call). IsStep o client c after) (sym (cc is)) h in
          by_call Handed (Takes (option_map vec_items block) (on_ok asked r)) call is
          (found (wanted_by client) w.reply (option_map vec_items block) (wants o client (option_map vec_items block) (on_ok asked r) after taken) noted.0 same)
      block_handed block a call after same is h = absurd (cc is)

      pub given_handed : (block : Option (Vec ℕ A)) (a : Answer A) (call : Call) (after : Client) → option_map vec_items block ≡ option_and_then blocks w.look
          → call_of (act.Give block) a ≡ Some call → IsStep o client call after → Handed call
      given_handed block (answer.Sees r) call after same is h =
          let taken : IsStep o client (Gives (option_map vec_items block) (on_ok seen r)) after = subst (λ (c : Call). IsStep o client c after) (sym (cc is)) h in
          by_call Handed (Gives (option_map vec_items block) (on_ok seen r)) call is
          (found (looked_for_by client) w.look (option_map vec_items block) (looks_for o client (option_map vec_items block) (on_ok seen r) after taken) noted.1 same)
      given_handed block a call after same is h = absurd (cc is)

-- ---- what comes of a client that is told to do something

-- the step that it takes, if it does, with what is put, and what is noted
pub record IsDone {A : Type 0} (u : User) (before : Client) (t : Act A) (a : Answer A) (after : Client) : Type 0 where
  pub step : Option StepTaken
  pub does : Does u before t step a
  pub taken : IfSome step (λ s. IsStep (owner script_keys u) before s.call s.after × IsSound s.after)
  pub is_call : IfSome step (λ s. call_of t a ≡ Some s.call)
  pub client : after ≡ client_after before step
  pub put : IfSome step (λ s. laid_by t ++ handed_out a ≡ put_with s.call)
  pub none : step ≡ None → handed_out a ≡ []

module _ {A : Type 0} (u : User) (before : Client) (t : Act A) (after : Client) where
  abbrev o : Owner
  o = owner script_keys u

  takes_it : (a : Answer A) → IsTaken o before t a after → IsDone u before t a after
  takes_it a h = record {
    step = Some (record { call = h.call; after = after });
    does = (h.is_call, h.told);
    taken = (h.step, h.sound);
    is_call = h.is_call;
    client = refl;
    put = sym (put_told t a h.call h.is_call);
    none = λ w. absurd (cc w);
  }

  pub is_done : (a : Answer A) → ComesOf o before t a after → IsDone u before t a after
  is_done answer.NotTaken h = record { step = None; does = h.1; taken = tt; is_call = tt; client = h.0; put = tt; none = λ w. refl }
  is_done (answer.Opened how text) h = takes_it (answer.Opened how text) h
  is_done (answer.Refused error) h = takes_it (answer.Refused error) h
  is_done answer.Closed h = takes_it answer.Closed h
  is_done answer.Gained h = takes_it answer.Gained h
  is_done (answer.Begun r) h = takes_it (answer.Begun r) h
  is_done (answer.Asks r) h = takes_it (answer.Asks r) h
  is_done (answer.Signed r) h = takes_it (answer.Signed r) h
  is_done answer.Committed h = takes_it answer.Committed h
  is_done (answer.Sees r) h = takes_it (answer.Sees r) h
  is_done answer.Cached h = takes_it answer.Cached h
  is_done answer.Crashed h = takes_it answer.Crashed h
  is_done (answer.Served status) h = takes_it (answer.Served status) h

  module _ (w : Wanted) (noted : IsNoted before w) where
    still_noted : (a : Answer A) → IsTaken o before t a after → IsNoted after (noting w a)
    still_noted a h = subst (λ (v : Wanted). IsNoted after v) (asking_noted w t a h.call h.is_call) (noted_after w o before h.call after noted h.step)

    pub is_noted : (a : Answer A) → ComesOf o before t a after → IsNoted after (noting w a)
    is_noted answer.NotTaken h = subst (λ (c : Client). IsNoted c w) (sym h.0) noted
    is_noted (answer.Opened how text) h = still_noted (answer.Opened how text) h
    is_noted (answer.Refused error) h = still_noted (answer.Refused error) h
    is_noted answer.Closed h = still_noted answer.Closed h
    is_noted answer.Gained h = still_noted answer.Gained h
    is_noted (answer.Begun r) h = still_noted (answer.Begun r) h
    is_noted (answer.Asks r) h = still_noted (answer.Asks r) h
    is_noted (answer.Signed r) h = still_noted (answer.Signed r) h
    is_noted answer.Committed h = still_noted answer.Committed h
    is_noted (answer.Sees r) h = still_noted (answer.Sees r) h
    is_noted answer.Cached h = still_noted answer.Cached h
    is_noted answer.Crashed h = still_noted answer.Crashed h
    is_noted (answer.Served status) h = still_noted (answer.Served status) h

-- ---- single acts

-- what a client may do alone, and is told to do, it does alone
pub does_alone : {A : Type 0} (older : List HonestEvent) (u : User) (client : Client) (t : Act A) (s : Option StepTaken) (a : Answer A) → MayAlone older client t → Does u client t s a → DoesAlone older u client t s a
does_alone older u client (act.Reply text) s a lone h = absurd lone
does_alone older u client (act.Block block) s a lone h = absurd lone
does_alone older u client (act.Committed status) s a lone h = absurd lone
does_alone older u client (act.Give block) s a lone h = absurd lone
does_alone older u client (act.Resign n) s a lone h = inl (lone, h)
does_alone older u client t s a lone h = h

-- and what it may not it doesn't
pub not_alone : {A : Type 0} (older : List HonestEvent) (u : User) (client : Client) (t : Act A) → (MayAlone older client t → ⊥) → DoesAlone older u client t None answer.NotTaken
not_alone older u client (act.Reply text) cannot = (refl, refl)
not_alone older u client (act.Block block) cannot = (refl, refl)
not_alone older u client (act.Committed status) cannot = (refl, refl)
not_alone older u client (act.Give block) cannot = (refl, refl)
not_alone older u client (act.Resign n) cannot = inr (cannot, (refl, refl))
not_alone older u client t cannot = absurd (cannot tt)

-- nothing is laid out for it
pub none_laid : {A : Type 0} (xs : List (Option Exchange)) (client : Client) (t : Act A) → may_alone xs client t ≡ false → laid_by t ≡ []
none_laid xs client (act.Begin changes laid) cannot = absurd (cc cannot)
none_laid xs client t cannot = refl

-- one that is open in this phase can't but take the status
signed_takes : (how : Phase) (text own : Bytes) → structure_in how own ≡ Some text → (how ≡ phase.Signed → ⊥) → ⊥
signed_takes phase.Signed text own is cannot = cannot refl
signed_takes how text own is cannot = cc is

takes_status : (A : Type 0) (o : Owner) (c : Client) (status : Status) (text : Bytes) → structure_of c ≡ Some text → CantBeTaken {A = A} o c (act.Committed status) → ⊥
takes_status A o (Closed p) status text is cannot = cc is
takes_status A o (Open s) status text is cannot = signed_takes s.phase text s.text is cannot

-- a client that has a structure to send takes the status
pub acknowledged : {A : Type 0} (o : Owner) (before after : Client) (status : Status) (a : Answer A) (text : Bytes) → structure_of before ≡ Some text
    → ComesOf o before (act.Committed status) a after → a ≡ answer.Committed
acknowledged o before after status answer.Committed text sent h = refl
acknowledged {A = A} o before after status answer.NotTaken text sent h = absurd (takes_status A o before status text sent h.1)
acknowledged o before after status a text sent h = absurd (cc h.is_call)
