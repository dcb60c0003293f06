-- What would come next in an honest run is taken.
use Rattle.std.proofs.Common.{◌≡◌, ◌≢◌, Bool, true, false, ◌==◌, List, [], ◌∷◌, ◌++◌, Option, Some, None, Ok, IfSome, IsSomeAnd, refl, sym, subst, inl, inr, if◌then◌else◌}
use Rattle.std.specs.Prelude.{◌⊎◌}
use Rattle.std.specs.List.{flat_map}
use Rattle.std.specs.Option.{option_and_then, option_map}
use Rattle.std.proofs.lemmas.List.Elements.{All-head}
use Rattle.layout.specs.Types.{Bytes, Digest, Key, User}
use Rattle.reply_rules.specs.declared.rule.Rule.{Rule}
use Rattle.client_tree.specs.Genesis.{first_texts}
use Rattle.client_tree.specs.Held.{held}
use Rattle.client_verify.specs.declared.look.Look.TheVariants as look
use Rattle.client_verify.specs.declared.step.Step.TheVariants as step
use Rattle.client_verify.specs.declared.view.Looking.{Looking}
use Rattle.client_verify.specs.Judged.{Handed}
use Rattle.client_verify.specs.Looked.{Given}
use Rattle.client_verify.specs.State.{AcceptedView, Checked, Ready, State, asked_of, signer_of}
use Rattle.client_steps.specs.Steps.{Call, Client, Closed, Gives, HasGiven, HasTaken, IsSound, IsStep, Open, Takes}
use Rattle.client_runs.specs.Released.{hashed, hashed_at, released, released_by, tried_view}
use Rattle.client_runs.specs.Runs.{Event, Keys, client_of, owner, pinned}
use Rattle.agreement.proofs.Members.{In, in-append, in-left, in-right, of_all, to_all}
use Rattle.fork_consistency.specs.Premises.{TextAddsOwnKeysOf, everybody}
use Rattle.fork_consistency.proofs.Holds.{Holds}
use Rattle.fork_consistency.proofs.Moves.{holds_at, signed_of}
use Rattle.honest_runs.specs.HonestRuns.{HonestEvent, IsHandedIn, IsHonestRun, IsHonestStep, events, history, put_with, stored}
use Rattle.honest_runs.proofs.Events.{are_runs, with_step}
use Rattle.honest_line.specs.GoingOn.{CanGoOn, ClientCanGoOn, HasGoodBlock, HasListedKeys, LooksAtGoodBlock}
use Rattle.honest_line.specs.OneLine.{IsUnbroken, all_texts}
use Rattle.honest_line.proofs.Naming.{IsAssumed}
use Rattle.honest_line.proofs.Blocks.{asked_of_look, asked_of_reply, fewer_collide}
use Rattle.honest_line.proofs.Line.{good, grounds, keeps, naming, promised, simulated, texts}
use Rattle.honest_line.proofs.Again.{good_again}
use Rattle.honest_line.proofs.Promises.{next_commit, next_pending, next_reply}
use Rattle.honest_line.proofs.Signers.{has_signer}
use Rattle.honest_line.proofs.Put.{put_texts, stored_among}

module _ (keys : Keys) (run : List HonestEvent) (is : IsHonestRun keys run) (p : IsAssumed keys run) (u : User) (s : State) (open_is : client_of u (events run) ≡ Open s) where
  abbrev es : List Event
  es = events run

  abbrev key : Key
  key = pinned keys

  sound : IsSound (Open s)
  sound =
      (subst (λ (c : Client). Holds (owner keys u) es c (released u es) (signed_of u es) (tried_view u es)) open_is (holds_at keys u es (are_runs keys run is))).own.always

  -- ---- a step in which nothing new is put, hashed or released

  module _ (call : Call) (new : State) (put : put_with call ≡ []) (silent : released_by call (Open new) ≡ []) where
    abbrev e : Event
    e = record { user = u; call = call; after = Open new }

    abbrev h : HonestEvent
    h = record { user = u; put = []; exchange = None; step = Some (record { call = call; after = Open new }) }

    module _ (here : (t : Bytes) → In t (hashed_at e) → In t (put_texts run)) where
      no_more : (t : Bytes) → In t (all_texts keys (h ∷ run)) → In t (all_texts keys run)
      no_more t i =
          elim (in-append t (put_texts run) (hashed keys (events (h ∷ run))) i) [
            | inl j ↦ in-left t (put_texts run) (hashed keys es) j
            | inr j ↦ of_hashed (in-append t (flat_map hashed_at (e ∷ es)) (first_texts key) (subst (λ (es : List Event). In t (hashed keys es)) (with_step h run) j))
          ]
        where
          of_event : In t (hashed_at e) ⊎ In t (flat_map hashed_at es) → In t (all_texts keys run)
          of_event (inl j) = in-left t (put_texts run) (hashed keys es) (here t j)
          of_event (inr j) = in-right t (put_texts run) (hashed keys es) (in-left t (flat_map hashed_at es) (first_texts key) j)

          of_hashed : In t (flat_map hashed_at (e ∷ es)) ⊎ In t (first_texts key) → In t (all_texts keys run)
          of_hashed (inl j) = of_event (in-append t (hashed_at e) (flat_map hashed_at es) j)
          of_hashed (inr j) = in-right t (put_texts run) (hashed keys es) (in-right t (flat_map hashed_at es) (first_texts key) j)

      none_released : (t : Bytes) → In t (released 0 (events (h ∷ run))) → In t (released 0 es)
      none_released t i = go (u == 0) (subst (λ (es : List Event). In t (released 0 es)) (with_step h run) i)
        where
          go : (b : Bool) → In t (if b then released_by call (Open new) ++ released 0 es else released 0 es) → In t (released 0 es)
          go true j = subst (λ (ts : List Bytes). In t (ts ++ released 0 es)) silent j
          go false j = j

      premises : IsAssumed keys (h ∷ run)
      premises = record {
        no_collision = fewer_collide (all_texts keys run) (all_texts keys (h ∷ run)) no_more p.no_collision;
        true_keys = record {
          pinned = p.true_keys.pinned;
          added =
              to_all (TextAddsOwnKeysOf everybody keys) (released 0 (events (h ∷ run)))
              (λ t i. of_all (TextAddsOwnKeysOf everybody keys) (released 0 es) p.true_keys.added t (none_released t i));
        };
        signers = p.signers;
      }

      honest : IsStep (owner keys u) (Open s) call (Open new) → IsHandedIn (h ∷ run) (Open s) (held (stored run)) call → new ≡ s → IsHonestStep keys run h
      honest taken handed same = record {
        sent = tt;
        answered = tt;
        taken = (subst (λ (c : Client). IsStep (owner keys u) c call (Open new)) (sym open_is) taken, subst (λ (n : State). IsSound (Open n)) (sym same) sound);
        handed_in = subst (λ (c : Client). IsHandedIn (h ∷ run) c (held (stored run)) call) (sym open_is) handed;
        put = sym put;
      }

      finds_none_broken : IsStep (owner keys u) (Open s) call (Open new) → IsHandedIn (h ∷ run) (Open s) (held (stored run)) call → new ≡ s → IsUnbroken call
      finds_none_broken taken handed same =
          All-head (λ (h : HonestEvent). IfSome h.step (λ s. IsUnbroken s.call)) h run (promised keys (h ∷ run) (honest taken handed same, is) premises).0

  -- ---- blocks

  -- a block that is stored was put
  one_put : (digest : Digest) (text : Bytes) → held (stored run) digest ≡ Some text → (t : Bytes) → In t (text ∷ []) → In t (put_texts run)
  one_put digest text at t (inl same) = subst (λ (x : Bytes). In x (put_texts run)) (sym same) (stored_among run digest text at).0
  one_put digest text at t (inr none) = absurd none

  next_block : (k : Checked) → s.checked ≡ Some k → (text : Bytes) → held (stored run) (asked_of k).digest ≡ Some text → (rule : Rule) (new : State) → HasTaken s (Some text) (Ok (step.Broken rule)) new → ⊥
  next_block k at text there rule new b =
      finds_none_broken (Takes (Some text) (Ok (step.Broken rule))) new refl refl (one_put (asked_of k).digest text there) b
      (subst (λ (o : Option Checked). IsSomeAnd (option_map (λ k. (asked_of k).digest) o) (λ digest. held (stored run) digest ≡ Some text)) (sym at) there)
      (subst (λ (o : Option Checked). IfSome o (λ k. Handed {A = Unit {0}} s k (Some text) (step.Broken rule) new)) at b.handed).1

  next_of_look : (v : AcceptedView) → s.view ≡ Some v → (l : Looking) → v.looking ≡ Some l → (text : Bytes) → held (stored run) l.asked.digest ≡ Some text → (rule : Rule) (new : State) → HasGiven s (Some text) (Ok (look.Broken rule)) new → ⊥
  next_of_look v of l at text there rule new b =
      finds_none_broken (Gives (Some text) (Ok (look.Broken rule))) new refl refl (one_put l.asked.digest text there) b
      (subst (λ (o : Option AcceptedView). IsSomeAnd (option_map (λ l. l.asked.digest) (option_and_then (λ v. v.looking) o)) (λ digest. held (stored run) digest ≡ Some text)) (sym of)
      (subst (λ (o : Option Looking). IsSomeAnd (option_map (λ l. l.asked.digest) o) (λ digest. held (stored run) digest ≡ Some text)) (sym at) there))
      (subst (λ (o : Option Looking). IfSome o (λ l. Given {A = Unit {0}} s v l (Some text) (look.Broken rule) new)) at
      (subst (λ (o : Option AcceptedView). IfSome o (λ v. IfSome v.looking (λ l. Given {A = Unit {0}} s v l (Some text) (look.Broken rule) new))) of b.given)).1

  -- ---- an open client

  abbrev IsThere : Digest → Type 0
  IsThere digest = (text : Bytes) × (held (stored run) digest ≡ Some text)

  pub can_go_on : CanGoOn keys run u s
  can_go_on = record {
    update = next_reply keys (naming keys run is p) (texts keys run is p) (grounds keys run is p) (history run) es (simulated keys run is p) (keeps keys run is p) u s open_is;
    pending = next_pending keys (naming keys run is p) (texts keys run is p) (grounds keys run is p) (history run) es (simulated keys run is p) (keeps keys run is p) u s open_is;
    resign = λ declined below n last new again. good_again keys run is p u s open_is declined n new again last below;
    block = of_reply s.checked refl (asked_of_reply keys run (good keys run is p) u s open_is);
    look = of_view s.view refl (asked_of_look keys run (good keys run is p) u s open_is);
    sign = of_accepted s.accepted refl;
    commit = next_commit keys (naming keys run is p) (texts keys run is p) (grounds keys run is p) (history run) es (simulated keys run is p) (keeps keys run is p) u s open_is;
  }
    where
      of_accepted : (o : Option Ready) → s.accepted ≡ o → IfSome o (λ r. HasListedKeys (pinned keys) (history run) u s → signer_of s r ≢ None)
      of_accepted None at = tt
      of_accepted (Some y) at = has_signer keys run is p u s open_is y at

      of_reply : (o : Option Checked) → s.checked ≡ o → IfSome o (λ k. IsThere (asked_of k).digest) → IfSome o (HasGoodBlock run s)
      of_reply None at w = tt
      of_reply (Some k) at w = (w.0, w.1, next_block k at w.0 w.1)

      of_look : (v : AcceptedView) → s.view ≡ Some v → (o : Option Looking) → v.looking ≡ o → IfSome o (λ l. IsThere l.asked.digest) → IfSome o (LooksAtGoodBlock run s)
      of_look v of None at w = tt
      of_look v of (Some l) at w = (w.0, w.1, next_of_look v of l at w.0 w.1)

      of_view : (o : Option AcceptedView) → s.view ≡ o → IfSome o (λ v. IfSome v.looking (λ l. IsThere l.asked.digest)) → IfSome o (λ v. IfSome v.looking (LooksAtGoodBlock run s))
      of_view None of w = tt
      of_view (Some v) of w = of_look v of v.looking refl w

pub each_can_go_on : (keys : Keys) (run : List HonestEvent) → IsHonestRun keys run → IsAssumed keys run → (u : User) → ClientCanGoOn keys run u (client_of u (events run))
each_can_go_on keys run is p u = go (client_of u (events run)) refl
  where
    go : (c : Client) → client_of u (events run) ≡ c → ClientCanGoOn keys run u c
    go (Closed parts) at = tt
    go (Open s) at = can_go_on keys run is p u s at
