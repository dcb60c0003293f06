-- What a run says of a certificate that was declined is what its exchanges say.
use Rattle.std.proofs.Common.{◌≡◌, ◌≢◌, ℕ, Bool, true, false, List, [], ◌∷◌, ◌++◌, map, Option, Some, None, IsSomeAnd, if◌then◌else◌, refl, sym, ap, subst, ◌∙◌, inl, inr}
use Rattle.std.specs.Prelude.{◌⊎◌, MatchOption, reverse}
use Rattle.std.specs.Option.{option_map_or}
use Rattle.std.proofs.lemmas.Bool.{cases_Bool, false_from_ne_true, true≢false}
use Rattle.std.proofs.lemmas.List.{reverse-append, reverse-reverse}
use Rattle.std.proofs.lemmas.Slice.Eq.{bytes_eq-Decides}
use Rattle.std.specs.Str.{bytes_eq}
use Rattle.layout.specs.Types.{Bytes, User}
use Rattle.wire.specs.declared.kinds.Status.{Status}
use Rattle.wire.specs.declared.kinds.Status.TheVariants as status
use Rattle.client_steps.specs.Steps.{Client, StepTaken}
use Rattle.client_runs.specs.declared.world.Act.{Act}
use Rattle.client_runs.specs.declared.world.Act.TheVariants as act
use Rattle.client_runs.specs.Clients.{certificate_of}
use Rattle.consistency_server.specs.declared.call.CallKind.{CallKind}
use Rattle.consistency_server.specs.declared.call.CallKind.TheVariants.{Update, Commit}
use Rattle.consistency_server.specs.Answers.{Call}
use Rattle.consistency_server.specs.History.{update_of}
use Rattle.honest_runs.specs.HonestRuns.{Exchange, HonestEvent, LastAnswered, WasDeclined}
use Rattle.honest_runs.specs.Served.{exchanges}
use Rattle.honest_runs.specs.Town.{by_update, declined_with, has_declined, is_declined, is_update_of, may_alone, speaks_of_signature}

-- ---- one text

speaks : (s : Status) → speaks_of_signature s ≡ true → s ≡ status.BadSignature
speaks status.BadSignature is = refl
speaks other is = absurd (cc is)

module _ (text : Bytes) where
  -- an UPDATE with this text is this call
  is_call : (call : Call) → is_update_of text call ≡ true → call ≡ update_of text
  is_call call is = go call.kind refl is
    where
      go : (kind : CallKind) → call.kind ≡ kind → by_update kind (bytes_eq call.text text) ≡ true → call ≡ update_of text
      go Update at same =
          ap (λ (k : CallKind). record { kind = k; text = call.text }) at
          ∙ ap (λ (t : Bytes). update_of t) ((bytes_eq-Decides call.text text).0 same)
      go Commit at same = absurd (cc same)

  of_call : (call : Call) → call ≡ update_of text → is_update_of text call ≡ true
  of_call call same = ap (is_update_of text) same ∙ (bytes_eq-Decides text text).1 refl

  -- it was declined when it was made last
  abbrev Last : List HonestEvent → Type 0
  Last run = LastAnswered run (update_of text) status.BadSignature

  -- so it was, after one exchange more
  abbrev LastWith : Option Exchange → Type 0 → Type 0
  LastWith o Before =
      MatchOption o Before (λ x. ((x.call ≡ update_of text) × (x.answer.status ≡ status.BadSignature)) ⊎ ((x.call ≢ update_of text) × Before))

  one_more : (o : Option Exchange) (declined : Bool) (Before : Type 0) → (declined ≡ true → Before) → declined_with text declined o ≡ true → LastWith o Before
  one_more None declined Before so is = so is
  one_more (Some x) declined Before so is =
      elim (cases_Bool (is_update_of text x.call)) [
        | inl own ↦ inl (
          is_call x.call own,
          speaks x.answer.status (subst (λ (b : Bool). (if b then speaks_of_signature x.answer.status else declined) ≡ true) own is),
        )
        | inr other ↦ inr (
          (λ same. true≢false (sym (of_call x.call same) ∙ other)),
          so (subst (λ (b : Bool). (if b then speaks_of_signature x.answer.status else declined) ≡ true) other is),
        )
      ]

  none_more : (o : Option Exchange) (declined : Bool) (Before : Type 0) → (declined ≡ false → Before → ⊥) → declined_with text declined o ≡ false → LastWith o Before → ⊥
  none_more None declined Before so is was = so is was
  none_more (Some x) declined Before so is (inl now) =
      true≢false (
      sym (ap speaks_of_signature now.1)
      ∙ subst (λ (b : Bool). (if b then speaks_of_signature x.answer.status else declined) ≡ false) (of_call x.call now.0) is
      )
  none_more (Some x) declined Before so is (inr then_was) =
      let other : is_update_of text x.call ≡ false = false_from_ne_true (is_update_of text x.call) (λ own. then_was.0 (is_call x.call own)) in
      so (subst (λ (b : Bool). (if b then speaks_of_signature x.answer.status else declined) ≡ false) other is) then_was.1

  abbrev declined_in : List HonestEvent → Bool
  declined_in run = is_declined text (map (λ h. h.exchange) run)

  was_last : (run : List HonestEvent) → declined_in run ≡ true → Last run
  was_last [] is = absurd (cc is)
  was_last (h ∷ older) is = one_more h.exchange (declined_in older) (Last older) (was_last older) is

  was_not_last : (run : List HonestEvent) → declined_in run ≡ false → Last run → ⊥
  was_not_last [] is was = was
  was_not_last (h ∷ older) is was = none_more h.exchange (declined_in older) (Last older) (was_not_last older) is was

-- ---- a client's

module _ (run : List HonestEvent) (xs : List (Option Exchange)) (are : exchanges run ≡ xs) (client : Client) where
  -- the latest first
  latest : reverse xs ≡ map (λ h. h.exchange) run
  latest = ap reverse (sym are) ∙ reverse-reverse (map (λ (h : HonestEvent). h.exchange) run)

  abbrev declined_of : Option Bytes → List (Option Exchange) → Bool
  declined_of o ys = option_map_or (λ text. is_declined text ys) o false

  yes : (o : Option Bytes) → declined_of o (map (λ h. h.exchange) run) ≡ true → IsSomeAnd o (λ text. LastAnswered run (update_of text) status.BadSignature)
  yes None is = absurd (cc is)
  yes (Some text) is = was_last text run is

  no : (o : Option Bytes) → declined_of o (map (λ h. h.exchange) run) ≡ false → IsSomeAnd o (λ text. LastAnswered run (update_of text) status.BadSignature) → ⊥
  no None is was = was
  no (Some text) is was = was_not_last text run is was

  is_as : (b : Bool) → has_declined xs client ≡ b → declined_of (certificate_of client) (map (λ h. h.exchange) run) ≡ b
  is_as b is = ap (declined_of (certificate_of client)) (sym latest) ∙ is

  was_declined : has_declined xs client ≡ true → WasDeclined run client
  was_declined is = yes (certificate_of client) (is_as true is)

  was_not_declined : has_declined xs client ≡ false → WasDeclined run client → ⊥
  was_not_declined is was = no (certificate_of client) (is_as false is) was

-- ---- what a client may do alone

-- after these steps
abbrev pub MayAlone : {A : Type 0} → List HonestEvent → Client → Act A → Type 0
MayAlone run client (act.Reply text) = ⊥
MayAlone run client (act.Block block) = ⊥
MayAlone run client (act.Committed status) = ⊥
MayAlone run client (act.Give block) = ⊥
MayAlone run client (act.Resign n) = WasDeclined run client
MayAlone run client other = Unit {0}

pub may_do : {A : Type 0} (run : List HonestEvent) (xs : List (Option Exchange)) → exchanges run ≡ xs → (client : Client) (t : Act A) → may_alone xs client t ≡ true → MayAlone run client t
may_do run xs are client (act.Reply text) is = absurd (cc is)
may_do run xs are client (act.Block block) is = absurd (cc is)
may_do run xs are client (act.Committed status) is = absurd (cc is)
may_do run xs are client (act.Give block) is = absurd (cc is)
may_do run xs are client (act.Resign n) is = was_declined run xs are client is
may_do run xs are client t is = tt

pub may_not_do : {A : Type 0} (run : List HonestEvent) (xs : List (Option Exchange)) → exchanges run ≡ xs → (client : Client) (t : Act A) → may_alone xs client t ≡ false → MayAlone run client t → ⊥
may_not_do run xs are client (act.Reply text) is may = may
may_not_do run xs are client (act.Block block) is may = may
may_not_do run xs are client (act.Committed status) is may = may
may_not_do run xs are client (act.Give block) is may = may
may_not_do run xs are client (act.Resign n) is may = was_not_declined run xs are client is may
may_not_do run xs are client t is may = absurd (cc is)

-- still, in a step that asks no server
pub still_may : {A : Type 0} (run : List HonestEvent) (client : Client) (t : Act A) (u : User) (put : List Bytes) (step : Option StepTaken) → MayAlone run client t
    → MayAlone (record { user = u; put = put; exchange = None; step = step } ∷ run) client t
still_may run client (act.Reply text) u put step may = absurd may
still_may run client (act.Block block) u put step may = absurd may
still_may run client (act.Committed status) u put step may = absurd may
still_may run client (act.Give block) u put step may = absurd may
still_may run client (act.Resign n) u put step may = may
still_may run client t u put step may = tt

-- ---- one exchange more, in memory

-- what was declined among the first of these, and among one more
pub declined_more : (text : Bytes) (xs ys : List (Option Exchange)) (x : Option Exchange) → ys ≡ xs ++ x ∷ [] → (before after : Bool) → before ≡ is_declined text (reverse xs) → after ≡ declined_with text before x → after ≡ is_declined text (reverse ys)
declined_more text xs ys x is before after was now =
    now
    ∙ ap (λ (b : Bool). declined_with text b x) was
    ∙ sym (ap (is_declined text) (ap reverse is ∙ reverse-append xs (x ∷ [])))
