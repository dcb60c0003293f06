-- The lists that a client has in hand, under check or accepted, are those of the reply that it heard last.
use Rattle.std.proofs.Common.{◌≡◌, Option, Some, None, Result, Ok, Err, IfSome, IsSome, IsSomeAnd, refl, sym, ap, ◌∙◌, subst, inl, inr}
use Rattle.std.specs.Prelude.{◌⊎◌}
use Rattle.std.specs.Option.{option_and_then}
use Rattle.layout.specs.Types.{Bytes, User}
use Rattle.pending_list.specs.Reply.{Reply}
use Rattle.reply_rules.specs.Lists.{Lists, lists_of}
use Rattle.reply_check.specs.FirstBroken.{lists_in, reply_in}
use Rattle.reply_check.specs.Good.{Good}
use Rattle.client_releases.specs.declared.error.ClientError.{ClientError}
use Rattle.client_verify.specs.declared.step.Step.TheVariants.{Need, Store, Broken}
use Rattle.client_verify.specs.State.{Checked, Reading, Ready, State, Writing, holding, lists_under}
use Rattle.client_verify.specs.Judged.{AsksOrAccepts, GoesOn, Handed, Judged, Taken}
use Rattle.client_steps.specs.Steps.{Asks, HasTaken}
use Rattle.client_runs.specs.Runs.{Keys}
use Rattle.client_runs.proofs.Replies.{kept, Kept}
use Rattle.honest_history.specs.Honest.{Naming}
use Rattle.honest_line.proofs.Follows.{HoldsHeard}

module _ (keys : Keys) (naming : Naming) (u : User) where
  abbrev Holds : State → Option Lists → Type 0
  Holds = HoldsHeard keys naming u

  -- where both are as before
  pub same_in_hand : (s new : State) (heard : Option Lists) → new.checked ≡ s.checked → new.accepted ≡ s.accepted → Holds s heard → Holds new heard
  same_in_hand s new heard c y h = record {
    checked = subst (λ (k : Option Checked). IfSome k (λ c. IfSome (lists_under c) (λ x. heard ≡ Some x))) (sym c) h.checked;
    accepted = subst (λ (r : Option Ready). IfSome r (λ y. heard ≡ Some y.lists)) (sym y) h.accepted;
  }

  module _ (x : Lists) where
    if_these : (lists : Option Lists) → lists ≡ Some x → IfSome lists (λ y. let heard : Option Lists = Some x in heard ≡ Some y)
    if_these lists is = subst (λ (l : Option Lists). IfSome l (λ y. let heard : Option Lists = Some x in heard ≡ Some y)) (sym is) refl

    goes : (s : State) (good : Good) (step : Asks) (new : State) → good.lists ≡ x → AsksOrAccepts s good step new → Holds new (Some x)
    goes s good (Need digest) new is h =
        subst (λ (n : State). Holds n (Some x)) (sym h.2) (record { checked = ap Some (sym is); accepted = tt })
    goes s good (Store texts) new is h =
        subst (λ (n : State). Holds n (Some x)) (sym h.3) (record { checked = tt; accepted = ap Some (sym is) })
    goes s good (Broken rule) new is h = absurd h

    pub taken : (s : State) (r : Reply) (step : Asks) (new : State) → lists_of r ≡ Some x → Taken s r x step new → Holds new (Some x)
    taken s r (Need digest) new of (inl h) =
        subst (λ (n : State). Holds n (Some x)) (sym h.2) (record { checked = if_these (lists_of r) of; accepted = tt })
    taken s r (Need digest) new of (inr h) = goes s h.0 (Need digest) new h.1.0 h.2
    taken s r (Store texts) new of h = goes s h.0 (Store texts) new h.1.0 h.2
    taken s r (Broken rule) new of h = absurd h

  -- ---- a reply

  -- A reply that goes on has lists, and the client has them in hand.
  pub record Heard (text : Bytes) (new : State) : Type 0 where
    pub lists : Lists
    pub are : lists_in text ≡ Some lists
    pub in_hand : Holds new (Some lists)

  abbrev Goes : State → Bytes → Asks → State → Type 0
  Goes s text step new = IsSomeAnd (reply_in text) (λ r. IsSomeAnd (lists_of r) (λ x. Taken s r x step new))

  some_lists : (s : State) (text : Bytes) (step : Asks) (new : State) (r : Reply) → reply_in text ≡ Some r → (lists : Option Lists) → lists_of r ≡ lists → IsSomeAnd lists (λ x. Taken s r x step new) → Heard text new
  some_lists s text step new r at None of h = absurd h
  some_lists s text step new r at (Some x) of h =
      record { lists = x; are = ap (option_and_then lists_of) at ∙ of; in_hand = taken x s r step new of h }

  some_reply : (s : State) (text : Bytes) (step : Asks) (new : State) → Goes s text step new → Heard text new
  some_reply s text step new h = go (reply_in text) refl h
    where
      go : (reply : Option Reply) → reply_in text ≡ reply → IsSomeAnd reply (λ r. IsSomeAnd (lists_of r) (λ x. Taken s r x step new)) → Heard text new
      go None at h = absurd h
      go (Some r) at h = some_lists s text step new r at (lists_of r) refl h

  -- ---- a block

  goes_on : (s : State) (k : Checked) (step : Asks) (new : State) (heard : Option Lists) → IfSome (lists_under k) (λ x. heard ≡ Some x) → GoesOn s k step new → Holds new heard
  goes_on s (Reading r a) step new heard is h = go (lists_of r) refl is h
    where
      go : (lists : Option Lists) → lists_of r ≡ lists → IfSome lists (λ x. heard ≡ Some x) → IsSomeAnd lists (λ x. Taken s r x step new) → Holds new heard
      go None of is h = absurd h
      go (Some x) of is h = subst (λ (l : Option Lists). Holds new l) (sym is) (taken x s r step new of h)
  goes_on s (Writing x a) step new heard is h = subst (λ (l : Option Lists). Holds new l) (sym is) (goes x.lists s x step new refl h)

  block_on : (s : State) (k : Checked) (block : Option Bytes) (step : Asks) (new : State) (heard : Option Lists) → IfSome (lists_under k) (λ x. heard ≡ Some x)
      → IsSomeAnd block (λ text. GoesOn (holding s text) k step new) → Holds new heard
  block_on s k None step new heard is h = absurd h
  block_on s k (Some text) step new heard is h = goes_on (holding s text) k step new heard is h

  handed : (s : State) (k : Checked) (block : Option Bytes) (step : Asks) (new : State) (heard : Option Lists) → IfSome (lists_under k) (λ x. heard ≡ Some x) → Holds s heard → Handed s k block step new → Holds new heard
  handed s k block (Broken rule) new heard is had h = subst (λ (n : State). Holds n heard) (sym h.1) had
  handed s k block (Need digest) new heard is had h = block_on s k block (Need digest) new heard is h.1
  handed s k block (Store texts) new heard is had h = block_on s k block (Store texts) new heard is h.1

  pub takes : (s : State) (block : Option Bytes) (answer : Result Asks ClientError) (new : State) → HasTaken s block answer new → (heard : Option Lists) → Holds s heard → Holds new heard
  takes s block (Err e) new h heard had = subst (λ (n : State). Holds n heard) (sym h.err) had
  takes s block (Ok step) new h heard had = go s.checked h.wants had.checked h.handed
    where
      go : (k : Option Checked) → IsSome k → IfSome k (λ c. IfSome (lists_under c) (λ x. heard ≡ Some x)) → IfSome k (λ c. Handed s c block step new) → Holds new heard
      go None some is h = absurd (cc some)
      go (Some k) some is h = handed s k block step new heard is had h

  -- what it goes on with
  pub judged : (s : State) (text : Bytes) (step : Asks) (new : State) → Judged s text step new → (new ≡ s) ⊎ Heard text new
  judged s text (Broken rule) new h = inl h.1
  judged s text (Need digest) new h = inr (some_reply s text (Need digest) new h.1)
  judged s text (Store texts) new h = inr (some_reply s text (Store texts) new h.1)

  -- ---- looks

  pub kept_in_hand : (s new : State) (heard : Option Lists) → kept new ≡ kept s → Holds s heard → Holds new heard
  kept_in_hand s new heard same h = same_in_hand s new heard (ap (λ (k : Kept). k.2) same) (ap (λ (k : Kept). k.3) same) h
