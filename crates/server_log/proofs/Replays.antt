-- The log of a history, replayed.
use Rattle.std.proofs.Common.{◌≡◌, List, [], ◌∷◌, ◌++◌, length, drop, reverse, refl, sym, ◌∙◌, ap, subst, arith}
use Rattle.std.proofs.lemmas.List.{append-nil, reverse-append, length-append}
use Rattle.layout.specs.Types.{Key}
use Rattle.consistency_server.specs.Event.{Event}
use Rattle.consistency_server.specs.State.{State, state_after}
use Rattle.consistency_server.specs.Answers.{Call, outcome_of, happened, answer}
use Rattle.consistency_server.specs.History.{events, kept, log_of, logged_of, answer_of}

-- what a call does after these events
abbrev done : Key → List Event → Call → List Event
done pinned es c = happened (outcome_of (state_after pinned es) c)

one_more : (pinned : Key) (h : List Call) (c : Call) → events pinned (reverse (log_of pinned h)) ≡ events pinned h
    → (es : List Event) → done pinned (events pinned h) c ≡ es
    → events pinned (reverse (log_of pinned h ++ logged_of es c)) ≡ es ++ events pinned h
unfolding events
one_more pinned h c old [] is = ap (λ (l : List Call). events pinned (reverse l)) (append-nil (log_of pinned h)) ∙ old
one_more pinned h c old (e ∷ es) is =
    ap (events pinned) (reverse-append (log_of pinned h) (c ∷ []))
    ∙ ap (λ (before : List Event). done pinned before c ++ before) old
    ∙ ap (λ (l : List Event). l ++ events pinned h) is

pub replayed : (pinned : Key) (h : List Call) → events pinned (reverse (log_of pinned h)) ≡ events pinned h
unfolding events log_of
replayed pinned [] = refl
replayed pinned (c ∷ h) = one_more pinned h c (replayed pinned h) (done pinned (events pinned h) c) refl

pub same_kept : (pinned : Key) (h : List Call) → kept pinned (reverse (log_of pinned h)) ≡ kept pinned h
same_kept pinned h = ap (state_after pinned) (replayed pinned h)

pub same_answer : (pinned : Key) (h : List Call) (c : Call) → answer_of pinned (reverse (log_of pinned h)) c ≡ answer_of pinned h c
same_answer pinned h c = ap (λ (s : State). answer (outcome_of s c)) (same_kept pinned h)

-- ---- the log of a log

again_with : (pinned : Key) (h : List Call) (c : Call) → log_of pinned (reverse (log_of pinned h)) ≡ log_of pinned h
    → (es : List Event) → done pinned (events pinned h) c ≡ es
    → log_of pinned (reverse (log_of pinned h ++ logged_of es c)) ≡ log_of pinned h ++ logged_of es c
unfolding log_of
again_with pinned h c old [] is =
    ap (λ (l : List Call). log_of pinned (reverse l)) (append-nil (log_of pinned h)) ∙ old ∙ sym (append-nil (log_of pinned h))
again_with pinned h c old (e ∷ es) is =
    ap (log_of pinned) (reverse-append (log_of pinned h) (c ∷ []))
    ∙ ap (λ (l : List Call). l ++ logged_of (done pinned (events pinned (reverse (log_of pinned h))) c) c) old
    ∙ ap (λ (before : List Event). log_of pinned h ++ logged_of (done pinned before c) c) (replayed pinned h)
    ∙ ap (λ (l : List Event). log_of pinned h ++ logged_of l c) is

pub again : (pinned : Key) (h : List Call) → log_of pinned (reverse (log_of pinned h)) ≡ log_of pinned h
unfolding log_of
again pinned [] = refl
again pinned (c ∷ h) = again_with pinned h c (again pinned h) (done pinned (events pinned h) c) refl

-- ---- each call of a log

heads : (x y : Call) (a b : List Call) → x ∷ a ≡ y ∷ b → x ≡ y
heads x y a b is = cc

-- in a list whose last is c0: this call is the last, or what comes before the last has it
data Found (l : List Call) (c0 : Call) (before : List Call) (c : Call) : Type 0 where
  Last : before ≡ l → c ≡ c0 → Found l c0 before c
  Earlier : (rest : List Call) → l ≡ before ++ c ∷ rest → Found l c0 before c

found : (l : List Call) (c0 : Call) (before : List Call) (c : Call) (after : List Call) → l ++ c0 ∷ [] ≡ before ++ c ∷ after → Found l c0 before c
found [] c0 [] c after is = Last refl (sym (heads c0 c [] after is))
found [] c0 (x ∷ before) c after is = absurd (omega (arith, ap length is, length-append before (c ∷ after)))
found (x ∷ l) c0 [] c after is = Earlier l (ap (λ (y : Call). y ∷ l) (heads x c (l ++ c0 ∷ []) after is))
found (x ∷ l) c0 (y ∷ before) c after is = further (found l c0 before c after (ap (λ (z : List Call). drop 1 z) is))
  where
    first : x ≡ y
    first = heads x y (l ++ c0 ∷ []) (before ++ c ∷ after) is

    further : Found l c0 before c → Found (x ∷ l) c0 (y ∷ before) c
    further (Last same one) = Last (ap (λ (z : List Call). y ∷ z) same ∙ ap (λ (z : Call). z ∷ l) (sym first)) one
    further (Earlier rest same) = Earlier rest (ap (λ (z : List Call). x ∷ z) same ∙ ap (λ (z : Call). z ∷ (before ++ c ∷ rest)) first)

-- the last call of the log of a history that placed or committed with it
last_one : (pinned : Key) (h : List Call) (c0 : Call) (e : Event) (es : List Event) → done pinned (events pinned h) c0 ≡ e ∷ es → logged_of (done pinned (events pinned (reverse (log_of pinned h))) c0) c0 ≡ c0 ∷ []
last_one pinned h c0 e es is =
    ap (λ (before : List Event). logged_of (done pinned before c0) c0) (replayed pinned h)
    ∙ ap (λ (l : List Event). logged_of l c0) is

-- where each call of an earlier log goes to it again, and one call more was made
module _ (pinned : Key) (h before : List Call) (c0 c : Call)
    (earlier : (rest : List Call) → log_of pinned h ≡ before ++ c ∷ rest → logged_of (done pinned (events pinned (reverse before)) c) c ≡ c ∷ []) where
  placed : (e : Event) (es : List Event) → done pinned (events pinned h) c0 ≡ e ∷ es → Found (log_of pinned h) c0 before c
      → logged_of (done pinned (events pinned (reverse before)) c) c ≡ c ∷ []
  placed e es some (Last all one) =
      ap (λ (l : List Call). logged_of (done pinned (events pinned (reverse l)) c) c) all
      ∙ subst (λ (x : Call). logged_of (done pinned (events pinned (reverse (log_of pinned h))) x) x ≡ x ∷ []) (sym one) (last_one pinned h c0 e es some)
  placed e es some (Earlier rest there) = earlier rest there

  by : (after : List Call) (es : List Event) → done pinned (events pinned h) c0 ≡ es → log_of pinned h ++ logged_of es c0 ≡ before ++ c ∷ after
      → logged_of (done pinned (events pinned (reverse before)) c) c ≡ c ∷ []
  by after [] none same = earlier after (sym (append-nil (log_of pinned h)) ∙ same)
  by after (e ∷ es) some same = placed e es some (found (log_of pinned h) c0 before c after same)

pub each : (pinned : Key) (h before after : List Call) (c : Call) → log_of pinned h ≡ before ++ c ∷ after → logged_of (done pinned (events pinned (reverse before)) c) c ≡ c ∷ []
unfolding log_of
each pinned [] before after c is = absurd (omega (arith, ap length is, length-append before (c ∷ after)))
each pinned (c0 ∷ h) before after c is =
    by pinned h before c0 c (λ rest there. each pinned h before rest c there) after (done pinned (events pinned h) c0) refl is
