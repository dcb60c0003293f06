-- In an honest run no block that a client asks for is refused: it was put into the store before, and is what its place takes.
use Rattle.std.proofs.Common.{◌≡◌, ◌<◌, Bool, true, false, ◌==◌, List, [], ◌∷◌, ◌++◌, Option, Some, None, Result, Ok, Err, IfSome, IsSomeAnd, refl, sym, ap, subst, inl, inr, if◌then◌else◌}
use Rattle.std.specs.List.{flat_map}
use Rattle.std.specs.Option.{option_and_then, option_map, option_map_or}
use Rattle.std.specs.Result.{result_ok}
use Rattle.layout.specs.declared.error.ReadError.{ReadError}
use Rattle.layout.specs.Format.{IsBytes, whole}
use Rattle.layout.specs.Laws.{is_found}
use Rattle.layout.specs.Types.{Bytes, Digest, Key, User}
use Rattle.itable.specs.File.{NoneCollide}
use Rattle.principals.specs.Table.{Table}
use Rattle.pending_list.specs.Reply.{Reply, reply}
use Rattle.pending_list.specs.ReplyLaws.{lawful_reply}
use Rattle.reply_rules.specs.Lists.{Lists, lists_of}
use Rattle.tree_parts.specs.Blocks.{Blocks}
use Rattle.reply_check.specs.AskedBlock.{block_breaks}
use Rattle.reply_check.specs.declared.asked.Asked.{Asked}
use Rattle.reply_check.specs.FirstBroken.{Known, reply_in, view_over}
use Rattle.client_tree.specs.Genesis.{first_texts}
use Rattle.client_tree.specs.Held.{held}
use Rattle.checked_blocks.specs.CheckedBlocks.{known_blocks}
use Rattle.client_verify.specs.declared.view.Looking.{Looking}
use Rattle.client_verify.specs.State.{AcceptedView, Checked, Reading, State, Writing, asked_of, known, lists_under}
use Rattle.client_steps.specs.Steps.{Call, Client, Closed, Gives, Hears, IsSound, IsStep, Looks, Open, StepTaken, Takes, principal_of}
use Rattle.client_runs.specs.Released.{Shown, hashed, hashed_at, released, released_by, shown_by, shown_in, tried_view, views}
use Rattle.client_runs.specs.Runs.{Event, IsRun, Keys, client_of, owner, pinned}
use Rattle.client_runs.proofs.Replies.{IsJudged, IsUnder, lists_back, of_lists, shown}
use Rattle.agreement.specs.Runs.{View, user_of}
use Rattle.agreement.proofs.Formed.{cert_fits}
use Rattle.agreement.proofs.Members.{In, contains_in, in-append, in-left, in-right, in_contains, of_all, to_all}
use Rattle.fork_consistency.specs.Premises.{HasReleased, NoCollision, TextAddsOwnKeysOf, everybody}
use Rattle.fork_consistency.proofs.Genuine.{IsGenuineRun}
use Rattle.fork_consistency.specs.Shown.{last_view}
use Rattle.fork_consistency.proofs.AllFilled.{lists_backed, view_backed}
use Rattle.fork_consistency.proofs.Among.{AreAmong}
use Rattle.fork_consistency.proofs.Backed.{IsBacked}
use Rattle.fork_consistency.proofs.BlocksOf.{blocks_at}
use Rattle.fork_consistency.proofs.Genuine.{released_later}
use Rattle.fork_consistency.proofs.Holds.{Holds}
use Rattle.fork_consistency.proofs.LastViews.{HasLastView, IsOf, has_last_view}
use Rattle.fork_consistency.proofs.Lists.{found_in}
use Rattle.fork_consistency.proofs.Moves.{holds_at, signed_of}
use Rattle.fork_consistency.proofs.Origins.{KnowsClient, known_by_blocks}
use Rattle.fork_consistency.proofs.Serving.{AsksServed, CountsOn, HasKnown, IsInHand, ServesClient, handed_right, serves_more, step}
use Rattle.honest_runs.specs.HonestRuns.{HonestEvent, IsFound, IsHandedIn, IsHonestRun, events, looked_for_by, put_with, stored, wanted_by}
use Rattle.honest_runs.proofs.Events.{are_runs, events_with, with_step}
use Rattle.honest_line.proofs.Genuine.{reply_released, shown_here}
use Rattle.honest_line.proofs.Naming.{KeysTrue, premises}
use Rattle.honest_line.proofs.Put.{blocks_put, call_put, put_texts, stored_has}
use Rattle.honest_line.proofs.Shown.{ShowsReleased}
use Rattle.honest_line.specs.OneLine.{all_texts}

-- ---- what is asked of a run

-- An honest run, in which no two texts have one digest and keys are true.
pub record IsGoodRun (keys : Keys) (run : List HonestEvent) : Type 0 where
  pub is_run : IsHonestRun keys run
  pub apart : NoneCollide (all_texts keys run) (all_texts keys run)
  pub true_keys : KeysTrue keys (events run)

-- no block that is handed in with this call is refused
abbrev pub IsRight : Client → Call → Type 0
IsRight (Open s) (Takes block answer) = IfSome s.checked (λ c. block_breaks (known_blocks s.blocks) (asked_of c) block ≡ None)
IsRight (Open s) (Gives block answer) = IfSome s.view (λ v. IfSome v.looking (λ l. block_breaks (known_blocks s.blocks) l.asked block ≡ None))
IsRight client call = Unit {0}

abbrev pub AreRight : List HonestEvent → Type 0
AreRight [] = Unit {0}
AreRight (h ∷ older) = IfSome h.step (λ s. IsRight (client_of h.user (events older)) s.call) × AreRight older

-- ---- earlier

pub fewer_collide : (more few : List Bytes) → ((t : Bytes) → In t few → In t more) → NoneCollide more more → NoneCollide few few
fewer_collide more few into apart a b i j same = apart a b (in_contains a more (into a (contains_in a few i))) (in_contains b more (into b (contains_in b few j))) same

module _ (keys : Keys) where
  abbrev key : Key
  key = pinned keys

  event_hashed : (u : User) (s : Option StepTaken) (es : List Event) (t : Bytes) → In t (hashed keys es) → In t (hashed keys (events_with u s es))
  event_hashed u None es t i = i
  event_hashed u (Some s) es t i =
      let e : Event = record { user = u; call = s.call; after = s.after } in
      elim (in-append t (flat_map hashed_at es) (first_texts key) i) [
        | inl j ↦ in-left t (flat_map hashed_at (e ∷ es)) (first_texts key) (in-right t (hashed_at e) (flat_map hashed_at es) j)
        | inr j ↦ in-right t (flat_map hashed_at (e ∷ es)) (first_texts key) j
      ]

  earlier_texts : (h : HonestEvent) (older : List HonestEvent) (t : Bytes) → In t (all_texts keys older) → In t (all_texts keys (h ∷ older))
  earlier_texts h older t i =
      elim (in-append t (put_texts older) (hashed keys (events older)) i) [
        | inl j ↦ in-left t (h.put ++ put_texts older) (hashed keys (events (h ∷ older))) (in-right t h.put (put_texts older) j)
        | inr j ↦ in-right t (h.put ++ put_texts older) (hashed keys (events (h ∷ older)))
            (subst (λ (es : List Event). In t (hashed keys es)) (sym (with_step h older)) (event_hashed h.user h.step (events older) t j))
      ]

  event_released : (u : User) (s : Option StepTaken) (es : List Event) (t : Bytes) → In t (released 0 es) → In t (released 0 (events_with u s es))
  event_released u None es t i = i
  event_released u (Some s) es t i = go (u == 0)
    where
      go : (b : Bool) → In t (if b then released_by s.call s.after ++ released 0 es else released 0 es)
      go true = in-right t (released_by s.call s.after) (released 0 es) i
      go false = i

  pub earlier : (h : HonestEvent) (older : List HonestEvent) → IsGoodRun keys (h ∷ older) → IsGoodRun keys older
  earlier h older g = record {
    is_run = g.is_run.1;
    apart = fewer_collide (all_texts keys (h ∷ older)) (all_texts keys older) (earlier_texts h older) g.apart;
    true_keys = record {
      pinned = g.true_keys.pinned;
      added =
          to_all (TextAddsOwnKeysOf everybody keys) (released 0 (events older))
          (λ t i. of_all (TextAddsOwnKeysOf everybody keys) (released 0 (events (h ∷ older))) g.true_keys.added t
          (subst (λ (es : List Event). In t (released 0 es)) (sym (with_step h older)) (event_released h.user h.step (events older) t i)));
    };
  }

  -- ---- texts

  in_hashed : (run : List HonestEvent) (t : Bytes) → In t (hashed keys (events run)) → In t (all_texts keys run)
  in_hashed run t i = in-right t (put_texts run) (hashed keys (events run)) i

  in_known : (run : List HonestEvent) (t : Bytes) → In t (put_texts run ++ first_texts key) → In t (all_texts keys run)
  in_known run t i =
      elim (in-append t (put_texts run) (first_texts key) i) [
        | inl j ↦ in-left t (put_texts run) (hashed keys (events run)) j
        | inr j ↦ in_hashed run t (in-right t (flat_map hashed_at (events run)) (first_texts key) j)
      ]

  pub apart_known : (run : List HonestEvent) → IsGoodRun keys run → NoneCollide (put_texts run ++ first_texts key) (put_texts run ++ first_texts key)
  apart_known run g = fewer_collide (all_texts keys run) (put_texts run ++ first_texts key) (in_known run) g.apart

  -- no digest that is taken collides
  pub apart_hashed : (run : List HonestEvent) → NoneCollide (all_texts keys run) (all_texts keys run) → NoCollision keys (events run)
  apart_hashed run apart = fewer_collide (all_texts keys run) (hashed keys (events run)) (in_hashed run) apart

  premises_of : (run : List HonestEvent) → IsGoodRun keys run → IsGenuineRun keys (events run)
  premises_of run g = premises keys run g.is_run (apart_hashed run g.apart) g.true_keys

  -- ---- what was shown

  pub shown_released : (run : List HonestEvent) → IsHonestRun keys run → (t : Shown) → In t (shown (events run)) → HasReleased t.user (events run) t.text
  shown_released [] is t i = absurd i
  shown_released (h ∷ older) is t i =
      subst (λ (es : List Event). HasReleased t.user es t.text) (sym (with_step h older))
      (go h.step is.0.handed_in (subst (λ (es : List Event). In t (shown es)) (with_step h older) i) (shown_released older is.1 t))
    where
      go : (s : Option StepTaken) → IfSome s (λ s. IsHandedIn (h ∷ older) (client_of h.user (events older)) (held (stored older)) s.call) → In t (shown (events_with h.user s (events older)))
          → (In t (shown (events older)) → HasReleased t.user (events older) t.text) → HasReleased t.user (events_with h.user s (events older)) t.text
      go None handed j ih = ih j
      go (Some s) handed j ih =
          let e : Event = record { user = h.user; call = s.call; after = s.after } in
          elim (in-append t (shown_by s.call) (shown (events older)) j) [
            | inl here ↦ released_later e (events older) t.user t.text
                (shown_here keys h older is (client_of h.user (events older)) (held (stored older)) s.call handed t here)
            | inr before ↦ released_later e (events older) t.user t.text (ih before)
          ]

  -- ---- a step

  module _ (h : HonestEvent) (older : List HonestEvent) (g : IsGoodRun keys (h ∷ older)) where
    abbrev es : List Event
    es = events older

    abbrev before : IsGoodRun keys older
    before = earlier h older g

    abbrev run_is : IsRun keys (events older)
    run_is = are_runs keys older g.is_run.1

    abbrev put : List Bytes
    put = put_texts (h ∷ older)

    abbrev apart_now : NoneCollide (put_texts (h ∷ older) ++ first_texts key) (put_texts (h ∷ older) ++ first_texts key)
    apart_now = apart_known (h ∷ older) g

    first_now : (t : Bytes) → In t (first_texts key) → In t (put_texts (h ∷ older) ++ first_texts key)
    first_now t i = in-right t (put_texts (h ∷ older)) (first_texts key) i

    inside_now : (t : Bytes) → In t (flat_map blocks_at (events older)) → In t (put_texts (h ∷ older) ++ first_texts key)
    inside_now t i = in-left t (put_texts (h ∷ older)) (first_texts key) (in-right t h.put (put_texts older) (blocks_put keys older g.is_run.1 t i))

    hand_of : (x : Lists) → reply.Fits (of_lists x) → ((t : Shown) → In t (shown_in (of_lists x)) → HasReleased t.user es t.text) → IsInHand put key apart_now x
    hand_of x fits released_all = record {
      backed = λ t. lists_backed keys es run_is before.true_keys.pinned (premises_of older before) (put ++ first_texts key) apart_now first_now inside_now x fits released_all t;
      own = cert_fits (of_lists x) fits x.own (in-right x.own x.others (x.own ∷ []) (inl refl));
    }

    -- the lists of a reply that is heard
    hand_heard : (text : Bytes) → IsBytes text → ShowsReleased key es text → IfSome (option_and_then lists_of (reply_in text)) (IsInHand put key apart_now)
    hand_heard text bytes shows = go (whole reply text) refl
      where
        of : (r : Reply) → whole reply text ≡ Ok r → (o : Option Lists) → lists_of r ≡ o → IfSome o (IsInHand put key apart_now)
        of r read None are = tt
        of r read (Some x) are =
            let back = lists_back r x are in
            hand_of x (subst reply.Fits (sym back) (is_found reply lawful_reply (λ v. v) text (Ok r) bytes read).0)
            (λ t i. shows t (subst (λ (o : Option Reply). In t (option_map_or shown_in o [])) (sym (ap result_ok read)) (subst (λ (q : Reply). In t (shown_in q)) back i)))

        go : (r : Result Reply ReadError) → whole reply text ≡ r → IfSome (option_and_then lists_of (result_ok r)) (IsInHand put key apart_now)
        go (Err e) read = tt
        go (Ok r) read = of r read (lists_of r) refl

    -- those of one under check
    hand_judged : (k : Known) (x : Lists) → IsJudged es k (of_lists x) → IsInHand put key apart_now x
    hand_judged k x j = hand_of x j.fits (λ t i. shown_released older g.is_run.1 t (j.was_shown t i))

    hand_under : (k : Known) (c : Checked) → IsUnder es k c → IfSome (lists_under c) (IsInHand put key apart_now)
    hand_under k (Writing x a) u = hand_judged k x.lists u.judged
    hand_under k (Reading r a) u = go (lists_of r) refl
      where
        go : (o : Option Lists) → lists_of r ≡ o → IfSome o (IsInHand put key apart_now)
        go None are = tt
        go (Some x) are = hand_judged k x (subst (IsJudged es k) (sym (lists_back r x are)) u)

    hand_checked : (s : State) → client_of h.user es ≡ Open s → IfSome s.checked (λ c. IfSome (lists_under c) (IsInHand put key apart_now))
    hand_checked s is =
        let held_now = subst (λ (c : Client). Holds (owner keys h.user) es c (released h.user es) (signed_of h.user es) (tried_view h.user es)) is (holds_at keys h.user es run_is) in
        go s.checked held_now.own.replies.checked
      where
        go : (o : Option Checked) → IfSome o (IsUnder es (known s)) → IfSome o (λ c. IfSome (lists_under c) (IsInHand put key apart_now))
        go None u = tt
        go (Some c) u = hand_under (known s) c u

    -- the view that is looked into
    view_now : (s : State) → client_of h.user es ≡ Open s → IfSome s.view (λ v. IsBacked (put ++ first_texts key) (view_over key v.table v.lists))
    view_now s is =
        go s.view
        (subst (λ (c : Client). HasLastView (hashed keys es) (premises_of older before).no_collision key (last_view h.user es) c) is
        (has_last_view keys (hashed keys es) (premises_of older before).no_collision (λ t i. in-right t (flat_map hashed_at es) (first_texts key) i) h.user es run_is (λ t i. in-left t (flat_map hashed_at es) (first_texts key) i)))
      where
        of : (v : AcceptedView) (o : Option View) → last_view h.user es ≡ o → IsSomeAnd o (IsOf (hashed keys es) (premises_of older before).no_collision key v) → IsBacked (put ++ first_texts key) (view_over key v.table v.lists)
        of v None last has = absurd has
        of v (Some x) last has =
            let there = (found_in (λ (y : View). user_of y == h.user) (views es) x last).0 in
            let backed = view_backed keys es run_is before.true_keys.pinned (premises_of older before) (put ++ first_texts key) apart_now first_now inside_now x there in
            subst (λ (l : Lists). IsBacked (put ++ first_texts key) (view_over key v.table l)) (sym has.lists)
            (subst (λ (t : Table). IsBacked (put ++ first_texts key) (view_over key t x.lists)) (sym has.table) backed)

        go : (o : Option AcceptedView) → IfSome o (λ v. IsSomeAnd (last_view h.user es) (IsOf (hashed keys es) (premises_of older before).no_collision key v)) → IfSome o (λ v. IsBacked (put ++ first_texts key) (view_over key v.table v.lists))
        go None has = tt
        go (Some v) has = of v (last_view h.user es) refl has

    counts_on : (client : Client) → client_of h.user es ≡ client → (call : Call) (after : Client) → IsStep (owner keys h.user) client call after → IsHandedIn (h ∷ older) client (held (stored older)) call
        → CountsOn put key apart_now client call
    counts_on (Open s) is (Hears text answer) (Closed p) taken handed = absurd taken
    counts_on (Open s) is (Hears text answer) (Open new) taken handed =
        hand_heard text taken.bytes (reply_released keys h older g.is_run (Open s) text handed)
    counts_on (Open s) is (Takes block answer) after taken handed = hand_checked s is
    counts_on (Open s) is (Looks q answer) after taken handed = view_now s is
    counts_on (Open s) is (Gives block answer) after taken handed = view_now s is
    counts_on client is call after taken handed = tt

    knows_now : (u : User) → HasKnown put key apart_now (client_of u es)
    knows_now u = go (client_of u es) (known_by_blocks keys (put ++ first_texts key) apart_now first_now u es run_is inside_now).0
      where
        go : (c : Client) → KnowsClient (put ++ first_texts key) apart_now key c → HasKnown put key apart_now c
        go (Closed p) k = tt
        go (Open s) k = (k.pinned, k.among)

    next : (s : Option StepTaken) → h.step ≡ s → IfSome s (λ s. IsStep (owner keys h.user) (client_of h.user es) s.call s.after × IsSound s.after) → IfSome s (λ s. IsHandedIn (h ∷ older) (client_of h.user es) (held (stored older)) s.call)
        → ((u : User) → ServesClient put key apart_now (client_of u es)) → (u : User) → ServesClient put key apart_now (client_of u (events_with h.user s es))
    next None at taken handed k u = k u
    next (Some s) at taken handed k u = go (h.user == u) refl
      where
        go : (b : Bool) → (h.user == u) ≡ b → ServesClient put key apart_now (if b then s.after else client_of u es)
        go true same =
            step put key apart_now (owner keys h.user) refl (client_of h.user es) s.call s.after
            (λ t i. in-left t put (first_texts key) (call_put keys h older (client_of h.user es) s.call handed put_is t i))
            (counts_on (client_of h.user es) refl s.call s.after taken.0 handed) taken.0 (knows_now h.user) (k h.user)
          where
            put_is : h.put ≡ put_with s.call
            put_is = subst (λ (o : Option StepTaken). IfSome o (λ r. h.put ≡ put_with r.call)) at g.is_run.0.put
        go false other = k u

  -- ---- runs

  -- what each client asks for was put into the store
  pub serves_at : (run : List HonestEvent) → (g : IsGoodRun keys run) → (u : User) → ServesClient (put_texts run) key (apart_known run g) (client_of u (events run))
  serves_at [] g u = tt
  serves_at (h ∷ older) g u =
      let k = λ (w : User). serves_more (put_texts older) (put_texts (h ∷ older)) key (apart_known older (earlier h older g)) (apart_known (h ∷ older) g) (λ t i. in-right t h.put (put_texts older) i)
      (client_of w (events older)) (serves_at older (earlier h older g) w) in
      subst (λ (es : List Event). ServesClient (put_texts (h ∷ older)) key (apart_known (h ∷ older) g) (client_of u es)) (sym (with_step h older))
      (next h older g h.step refl g.is_run.0.taken g.is_run.0.handed_in k u)

  -- so no block is refused
  module _ (h : HonestEvent) (older : List HonestEvent) (g : IsGoodRun keys (h ∷ older)) where
    abbrev was : IsGoodRun keys older
    was = earlier h older g

    abbrev apart_was : NoneCollide (put_texts older ++ first_texts key) (put_texts older ++ first_texts key)
    apart_was = apart_known older (earlier h older g)

    put_in : (t : Bytes) → In t (put_texts older) → In t (put_texts older ++ first_texts key)
    put_in t i = in-left t (put_texts older) (first_texts key) i

    first_was : (t : Bytes) → In t (first_texts key) → In t (put_texts older ++ first_texts key)
    first_was t i = in-right t (put_texts older) (first_texts key) i

    inside_was : (t : Bytes) → In t (flat_map blocks_at (events older)) → In t (put_texts older ++ first_texts key)
    inside_was t i = put_in t (blocks_put keys older g.is_run.1 t i)

    module _ (s : State) (is : client_of h.user (events older) ≡ Open s) where
      among_was : AreAmong (put_texts older ++ first_texts key) (known_blocks s.blocks)
      among_was =
          (subst (λ (c : Client). KnowsClient (put_texts older ++ first_texts key) apart_was key c) is (known_by_blocks keys (put_texts older ++ first_texts key) apart_was first_was h.user (events older) (are_runs keys older g.is_run.1) inside_was).0).among

      serves_was : ServesClient (put_texts older) key apart_was (Open s)
      serves_was = subst (λ (c : Client). ServesClient (put_texts older) key apart_was c) is (serves_at older was h.user)

      takes_right : (block : Option Bytes) → IsFound (held (stored older)) (wanted_by (Open s)) block → IfSome s.checked (λ c. block_breaks (known_blocks s.blocks) (asked_of c) block ≡ None)
      takes_right block found = go s.checked serves_was.checked found
        where
          go : (o : Option Checked) → IfSome o (λ c. AsksServed (put_texts older) key apart_was (known_blocks s.blocks) (asked_of c)) → IsFound (held (stored older)) (option_map (λ k. (asked_of k).digest) o) block → IfSome o (λ c. block_breaks (known_blocks s.blocks) (asked_of c) block ≡ None)
          go None w f = tt
          go (Some c) w f =
              handed_right (put_texts older ++ first_texts key) (put_texts older) apart_was put_in (known_blocks s.blocks) among_was (asked_of c) w (held (stored older))
              (stored_has (put_texts older ++ first_texts key) apart_was older put_in) block f

      gives_right : (block : Option Bytes) → IsFound (held (stored older)) (looked_for_by (Open s)) block → IfSome s.view (λ v. IfSome v.looking (λ l. block_breaks (known_blocks s.blocks) l.asked block ≡ None))
      gives_right block found = of_view s.view serves_was.keeps.looking found
        where
          of_look : (o : Option Looking) → IfSome o (λ l. AsksServed (put_texts older) key apart_was (known_blocks s.blocks) l.asked × (principal_of l.question < 96)) → IsFound (held (stored older)) (option_map (λ l. l.asked.digest) o) block → IfSome o (λ l. block_breaks (known_blocks s.blocks) l.asked block ≡ None)
          of_look None w f = tt
          of_look (Some l) w f =
              handed_right (put_texts older ++ first_texts key) (put_texts older) apart_was put_in (known_blocks s.blocks) among_was l.asked w.0 (held (stored older))
              (stored_has (put_texts older ++ first_texts key) apart_was older put_in) block f

          of_view : (o : Option AcceptedView) → IfSome o (λ v. IfSome v.looking (λ l. AsksServed (put_texts older) key apart_was (known_blocks s.blocks) l.asked × (principal_of l.question < 96))) → IsFound (held (stored older)) (option_map (λ l. l.asked.digest) (option_and_then (λ v. v.looking) o)) block
              → IfSome o (λ v. IfSome v.looking (λ l. block_breaks (known_blocks s.blocks) l.asked block ≡ None))
          of_view None w f = tt
          of_view (Some v) w f = of_look v.looking w f

    right_call : (client : Client) → client_of h.user (events older) ≡ client → (call : Call) → IsHandedIn (h ∷ older) client (held (stored older)) call → IsRight client call
    right_call (Open s) is (Takes block answer) handed = takes_right s is block handed
    right_call (Open s) is (Gives block answer) handed = gives_right s is block handed
    right_call client is call handed = tt

    right_step : (s : Option StepTaken) → IfSome s (λ s. IsHandedIn (h ∷ older) (client_of h.user (events older)) (held (stored older)) s.call) → IfSome s (λ s. IsRight (client_of h.user (events older)) s.call)
    right_step None handed = tt
    right_step (Some s) handed = right_call (client_of h.user (events older)) refl s.call handed

  pub no_block_refused : (run : List HonestEvent) → IsGoodRun keys run → AreRight run
  no_block_refused [] g = tt
  no_block_refused (h ∷ older) g = (right_step h older g h.step g.is_run.0.handed_in, no_block_refused older (earlier h older g))

  -- what a client asks for is stored
  module _ (run : List HonestEvent) (g : IsGoodRun keys run) where
    abbrev IsThere : Digest → Type 0
    IsThere digest = (text : Bytes) × (held (stored run) digest ≡ Some text)

    there : (blocks : Blocks) (a : Asked) → AsksServed (put_texts run) key (apart_known run g) blocks a → IsThere a.digest
    there blocks a w =
        let has = stored_has (put_texts run ++ first_texts key) (apart_known run g) run (λ t i. in-left t (put_texts run) (first_texts key) i) w.text w.there in
        (w.text, subst (λ (digest : Digest). held (stored run) digest ≡ Some w.text) w.named has)

    pub asked_of_reply : (u : User) (s : State) → client_of u (events run) ≡ Open s → IfSome s.checked (λ c. IsThere (asked_of c).digest)
    asked_of_reply u s is = go s.checked (subst (λ (c : Client). ServesClient (put_texts run) key (apart_known run g) c) is (serves_at run g u)).checked
      where
        go : (o : Option Checked) → IfSome o (λ c. AsksServed (put_texts run) key (apart_known run g) (known_blocks s.blocks) (asked_of c)) → IfSome o (λ c. IsThere (asked_of c).digest)
        go None w = tt
        go (Some c) w = there (known_blocks s.blocks) (asked_of c) w

    pub asked_of_look : (u : User) (s : State) → client_of u (events run) ≡ Open s → IfSome s.view (λ v. IfSome v.looking (λ l. IsThere l.asked.digest))
    asked_of_look u s is = of_view s.view (subst (λ (c : Client). ServesClient (put_texts run) key (apart_known run g) c) is (serves_at run g u)).keeps.looking
      where
        of_look : (o : Option Looking) → IfSome o (λ l. AsksServed (put_texts run) key (apart_known run g) (known_blocks s.blocks) l.asked × (principal_of l.question < 96)) → IfSome o (λ l. IsThere l.asked.digest)
        of_look None w = tt
        of_look (Some l) w = there (known_blocks s.blocks) l.asked w.0

        of_view : (o : Option AcceptedView) → IfSome o (λ v. IfSome v.looking (λ l. AsksServed (put_texts run) key (apart_known run g) (known_blocks s.blocks) l.asked × (principal_of l.question < 96)))
            → IfSome o (λ v. IfSome v.looking (λ l. IsThere l.asked.digest))
        of_view None w = tt
        of_view (Some v) w = of_look v.looking w
