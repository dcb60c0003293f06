-- Steps that are taken: what a call ensures is what its step tells.
use Rattle.std.proofs.Common.{◌≡◌, ℕ, List, map, Option, Ok, Err, Result, IfOk, OnOk, option_map, refl, sym, ap, subst, ◌∙◌}
use Rattle.std.specs.Vec.{vec_items}
use Rattle.std.specs.declared.vec.Vec.{Vec}
use Rattle.layout.specs.Types.{Bytes, Digest, INumber, Key, Principal}
use Rattle.lms_sign.specs.Secret.{Secret}
use Rattle.leaf_ledger.specs.Device.{started}
use Rattle.update_cert.specs.Change.{Change}
use Rattle.client_tree.specs.declared.questions.Question.TheVariants as question
use Rattle.wire.specs.declared.kinds.Status.{Status}
use Rattle.client_releases.specs.declared.error.ClientError.{ClientError}
use Rattle.client_releases.specs.declared.parts.Parts.{Parts as Held}
use Rattle.client_releases.specs.declared.phase.Phase.{Phase}
use Rattle.client_verify.specs.declared.look.Look.{Look}
use Rattle.client_verify.specs.declared.step.Step.{Step}
use Rattle.client_verify.specs.State.{State}
use Rattle.client_runs.specs.declared.world.Accepted.{Accepted}
use Rattle.client_runs.specs.declared.world.Act.{Act}
use Rattle.client_runs.specs.declared.world.Act.TheVariants as act
use Rattle.client_runs.specs.declared.world.Answer.{Answer}
use Rattle.client_runs.specs.declared.world.Answer.TheVariants as answer
use Rattle.client_runs.specs.declared.slot.Slot.{Slot}
use Rattle.client_runs.specs.declared.slot.Slot.TheVariants as slot
use Rattle.client_steps.specs.Steps.{Begins, Caches, Client, Closed, Closes, Commits, Device, Gains, Gives, HasBegun, HasCached, HasCommitted, HasFirst, HasGained, HasGiven, HasHeard, HasLooked, HasResigned, HasSigned, HasTaken, Hears, IsHandedBack, IsOpened, IsRefused, IsSound, Looks, Open, Opens, Owner, Parts, Resigns, Signs, Takes, journal_of, ledgers_of, secrets_in}
use Rattle.client_runs.specs.Carried.{ComesOf}
use Rattle.client_runs.specs.NotTaken.{CantFromClosed, CantFromOpen, MayLeaveAll, NoneLeaves}
use Rattle.client_runs.specs.Slots.{AreFirst, AreSame, IsLeftWith, IsOf, StaysOpen, client_in, files_in, parts_in}
use Rattle.client_steps.specs.Anywhere.{asked, on_ok, seen}
use Rattle.client_runs.specs.Told.{IsAcceptedBy, IsTold, resent, texts_in}
use Rattle.client_runs.proofs.Same as unchanged
use Rattle.client_runs.proofs.NotTaken.{crashes, open_stays}

-- what comes of a client comes of it by another name
pub comes_from : {A : Type 0} (o : Owner) (old before : Client) (t : Act A) (a : Answer A) (new : Client) → old ≡ before → ComesOf o old t a new → ComesOf o before t a new
comes_from o old before t a new same comes = subst (λ (c : Client). ComesOf o c t a new) same comes

-- and what comes of a step by its other name
pub by_act : {A : Type 0} (o : Owner) (before : Client) (t u : Act A) (a : Answer A) (after : Client) → t ≡ u → ComesOf o before u a after → ComesOf o before t a after
by_act {A} o before t u a after is comes = subst (λ (x : Act A). ComesOf o before x a after) (sym is) comes

-- what follows of each value follows of a result's
pub on_each : {T E : Type 0} (r : Result T E) (P Q : T → Type 0) → IfOk r P → ((x : T) → P x → Q x) → IfOk r Q
on_each (Ok x) P Q given follows = follows x given
on_each (Err e) P Q given follows = tt

pub on_both : {T E : Type 0} (r : Result T E) (P Q R : T → Type 0) → IfOk r P → IfOk r Q → ((x : T) → P x → Q x → R x) → IfOk r R
on_both (Ok x) P Q R first second follows = follows x first second
on_both (Err e) P Q R first second follows = tt

-- what holds anyway holds of a result
pub when_ok : {T E : Type 0} (r : Result T E) (P : Type 0) → P → OnOk r P
when_ok (Ok x) P p = p
when_ok (Err e) P p = tt

-- a result that is told is that
pub of_ok : {T E : Type 0} (r : Result T E) (P : T → Type 0) (x : T) → r ≡ Ok x → P x → IfOk r P
of_ok {T} {E} r P x is p = subst (λ (s : Result T E). IfOk s P) (sym is) p

pub of_err : {T E : Type 0} (r : Result T E) (P : T → Type 0) (e : E) → r ≡ Err e → IfOk r P
of_err {T} {E} r P e is = subst (λ (s : Result T E). IfOk s P) (sym is) tt

-- ---- calls of an open client

told_signed : {A : Type 0} (r : Result (Accepted A) ClientError) (new : State) → IfOk r (λ x. IsAcceptedBy x new.view) → IsTold act.Sign (answer.Signed r) (Open new)
told_signed (Ok x) new view = view
told_signed (Err e) new view = tt

module _ {A : Type 0} (o : Owner) (old new : State) (t : Act A) where
  -- what comes of a step comes of the same one by another name
  same_step : (u : Act A) (a : Answer A) (after : Client) → t ≡ u → ComesOf o (Open old) u a after → ComesOf o (Open old) t a after
  same_step u a after is comes = subst (λ (x : Act A). ComesOf o (Open old) x a after) (sym is) comes

  pub begins : (changes : Vec (Change Digest) A) (laid : Vec (Vec ℕ A) A) (r : Result (Vec ℕ A) ClientError) → t ≡ act.Begin changes laid
      → HasBegun old changes.items (texts_in laid) (on_ok vec_items r) new → IsSound (Open new) → ComesOf o (Open old) t (answer.Begun r) (Open new)
  begins changes laid r is b sound =
      same_step (act.Begin changes laid) (answer.Begun r) (Open new) is
      (record { call = Begins changes.items (texts_in laid) (on_ok vec_items r); is_call = refl; told = tt; step = b; sound = sound })

  pub resigns : (n : ℕ) (r : Result (Vec ℕ A) ClientError) → t ≡ act.Resign n
      → HasResigned old n (on_ok vec_items r) new → IsSound (Open new) → ComesOf o (Open old) t (answer.Begun r) (Open new)
  resigns n r is b sound =
      same_step (act.Resign n) (answer.Begun r) (Open new) is
      (record { call = Resigns n (on_ok vec_items r); is_call = refl; told = tt; step = b; sound = sound })

  pub hears : (text : Vec ℕ A) (r : Result (Step A) ClientError) → t ≡ act.Reply text
      → HasHeard old text.items (on_ok asked r) new → IsSound (Open new) → ComesOf o (Open old) t (answer.Asks r) (Open new)
  hears text r is b sound =
      same_step (act.Reply text) (answer.Asks r) (Open new) is
      (record { call = Hears text.items (on_ok asked r); is_call = refl; told = tt; step = b; sound = sound })

  pub takes : (block : Option (Vec ℕ A)) (r : Result (Step A) ClientError) → t ≡ act.Block block
      → HasTaken old (option_map vec_items block) (on_ok asked r) new → IsSound (Open new) → ComesOf o (Open old) t (answer.Asks r) (Open new)
  takes block r is b sound =
      same_step (act.Block block) (answer.Asks r) (Open new) is
      (record { call = Takes (option_map vec_items block) (on_ok asked r); is_call = refl; told = tt; step = b; sound = sound })

  pub signs : (r : Result (Accepted A) ClientError) → t ≡ act.Sign
      → HasSigned old (on_ok (λ (x : Accepted A). x.text.items) r) new → IfOk r (λ x. IsAcceptedBy x new.view) → IsSound (Open new)
      → ComesOf o (Open old) t (answer.Signed r) (Open new)
  signs r is b view sound =
      same_step act.Sign (answer.Signed r) (Open new) is
      (record { call = Signs (on_ok (λ (x : Accepted A). x.text.items) r); is_call = refl; told = told_signed r new view; step = b; sound = sound })

  pub commits : (status : Status) → t ≡ act.Committed status → HasCommitted old status new → IsSound (Open new) → ComesOf o (Open old) t answer.Committed (Open new)
  commits status is b sound =
      same_step (act.Committed status) answer.Committed (Open new) is
      (record { call = Commits status; is_call = refl; told = tt; step = b; sound = sound })

  pub looks : (p : Principal) (i : INumber) (r : Result (Look A) ClientError) → t ≡ act.Look p i
      → HasLooked old (question.At p i) (on_ok seen r) new → IsSound (Open new) → ComesOf o (Open old) t (answer.Sees r) (Open new)
  looks p i r is b sound =
      same_step (act.Look p i) (answer.Sees r) (Open new) is
      (record { call = Looks (question.At p i) (on_ok seen r); is_call = refl; told = tt; step = b; sound = sound })

  pub kinds : (p : Principal) (i : INumber) (r : Result (Look A) ClientError) → t ≡ act.Kind p i
      → HasLooked old (question.Kind p i) (on_ok seen r) new → IsSound (Open new) → ComesOf o (Open old) t (answer.Sees r) (Open new)
  kinds p i r is b sound =
      same_step (act.Kind p i) (answer.Sees r) (Open new) is
      (record { call = Looks (question.Kind p i) (on_ok seen r); is_call = refl; told = tt; step = b; sound = sound })

  pub frees : (p : Principal) (first last : INumber) (r : Result (Look A) ClientError) → t ≡ act.Free p first last
      → HasLooked old (question.Free p first last) (on_ok seen r) new → IsSound (Open new) → ComesOf o (Open old) t (answer.Sees r) (Open new)
  frees p first last r is b sound =
      same_step (act.Free p first last) (answer.Sees r) (Open new) is
      (record { call = Looks (question.Free p first last) (on_ok seen r); is_call = refl; told = tt; step = b; sound = sound })

  pub gives : (block : Option (Vec ℕ A)) (r : Result (Look A) ClientError) → t ≡ act.Give block
      → HasGiven old (option_map vec_items block) (on_ok seen r) new → IsSound (Open new) → ComesOf o (Open old) t (answer.Sees r) (Open new)
  gives block r is b sound =
      same_step (act.Give block) (answer.Sees r) (Open new) is
      (record { call = Gives (option_map vec_items block) (on_ok seen r); is_call = refl; told = tt; step = b; sound = sound })

  pub caches : (capacity : ℕ) → t ≡ act.Cache capacity → HasCached old capacity new → IsSound (Open new) → ComesOf o (Open old) t answer.Cached (Open new)
  caches capacity is b sound =
      same_step (act.Cache capacity) answer.Cached (Open new) is
      (record { call = Caches capacity; is_call = refl; told = tt; step = b; sound = sound })

  -- it stays as it was where the step can't be taken
  pub stays : (u : Act A) → t ≡ u → new ≡ old → CantFromOpen old u → ComesOf o (Open old) t answer.NotTaken (Open new)
  stays u is same cant = same_step u answer.NotTaken (Open new) is (open_stays o old new u same cant)

  pub closes : (p : Parts) → t ≡ act.Close → IsHandedBack old p → ComesOf o (Open old) t answer.Closed (Closed p)
  closes p is back =
      same_step act.Close answer.Closed (Closed p) is
      (record { call = Closes; is_call = refl; told = tt; step = back; sound = tt })

-- what is neither a close nor a crash leaves it open
pub stays_open : {A : Type 0} (t : Act A) → (t ≡ act.Close → ⊥) → ((ledgers : Vec (Vec ℕ A) A) (journal : Vec ℕ A) → t ≡ act.Crash ledgers journal → ⊥) → StaysOpen t
stays_open act.Close no_close no_crash = no_close refl
stays_open (act.Crash ledgers journal) no_close no_crash = no_crash ledgers journal refl
stays_open other no_close no_crash = tt

-- whatever comes of an open client, it is of the same key while it stays open
pub same_key : {A : Type 0} (o : Owner) (old new : State) (t : Act A) (a : Answer A) → ComesOf o (Open old) t a (Open new) → AreSame old new
same_key o old new t answer.NotTaken h = let is : new ≡ old = cc h.0 in unchanged.stays old new is
same_key o old new t (answer.Opened how text) h = unchanged.steps old new h.call h.step
same_key o old new t (answer.Refused error) h = unchanged.steps old new h.call h.step
same_key o old new t answer.Closed h = unchanged.steps old new h.call h.step
same_key o old new t answer.Gained h = unchanged.steps old new h.call h.step
same_key o old new t (answer.Begun r) h = unchanged.steps old new h.call h.step
same_key o old new t (answer.Asks r) h = unchanged.steps old new h.call h.step
same_key o old new t (answer.Signed r) h = unchanged.steps old new h.call h.step
same_key o old new t answer.Committed h = unchanged.steps old new h.call h.step
same_key o old new t (answer.Sees r) h = unchanged.steps old new h.call h.step
same_key o old new t answer.Cached h = unchanged.steps old new h.call h.step
same_key o old new t answer.Crashed h = unchanged.steps old new h.call h.step
same_key o old new t (answer.Served status) h = unchanged.steps old new h.call h.step

-- ---- crashes

-- the texts of a vector, lent
pub lent_texts : {A : Type 0} (lent : List (Vec ℕ A)) (ledgers : Vec (Vec ℕ A) A) → lent ≡ ledgers.items → map vec_items lent ≡ texts_in ledgers
lent_texts {A} lent ledgers is = ap (λ (l : List (Vec ℕ A)). map vec_items l) is

-- What a step has left on the devices is what it is told to leave, by other names.
module _ {A : Type 0} (ledgers : Vec (Vec ℕ A) A) (journal : Vec ℕ A) (left : List (Vec ℕ A)) (kept : Bytes) (at_left : left ≡ ledgers.items) (at_kept : kept ≡ journal.items) where
  pub by_name : (c : Client) → MayLeaveAll (ledgers_of c) (journal_of c) (map vec_items left) kept → MayLeaveAll (ledgers_of c) (journal_of c) (texts_in ledgers) journal.items
  by_name c may =
      subst (λ (k : Bytes). MayLeaveAll (ledgers_of c) (journal_of c) (texts_in ledgers) k) at_kept
      (subst (λ (l : List Bytes). MayLeaveAll (ledgers_of c) (journal_of c) l kept) (lent_texts left ledgers at_left) may)

  -- what it may not leave it doesn't
  none_leaves : (c : Client) → (MayLeaveAll (ledgers_of c) (journal_of c) (map vec_items left) kept → ⊥) → NoneLeaves c (texts_in ledgers) journal.items
  none_leaves c none =
      λ may. none (subst (λ (k : Bytes). MayLeaveAll (ledgers_of c) (journal_of c) (map vec_items left) k) (sym at_kept)
      (subst (λ (l : List Bytes). MayLeaveAll (ledgers_of c) (journal_of c) l journal.items) (sym (lent_texts left ledgers at_left)) may))

  module _ (t : Act A) (is : t ≡ act.Crash ledgers journal) where
    pub not_left : (s : State) → (MayLeaveAll (ledgers_of (Open s)) (journal_of (Open s)) (map vec_items left) kept → ⊥) → CantFromOpen s t
    not_left s none = subst (λ (x : Act A). CantFromOpen s x) (sym is) (none_leaves (Open s) none)

    pub not_left_closed : (o : Owner) (p : Parts) → (MayLeaveAll (ledgers_of (Closed p)) (journal_of (Closed p)) (map vec_items left) kept → ⊥) → CantFromClosed o p t
    not_left_closed o p none = subst (λ (x : Act A). CantFromClosed o p x) (sym is) (none_leaves (Closed p) none)

    -- a crash leaves what it may
    pub crashed : (o : Owner) (before : Client) → MayLeaveAll (ledgers_of before) (journal_of before) (texts_in ledgers) journal.items
        → (secrets : List Secret) (after : Slot A) (a : Answer A) → IsLeftWith (map vec_items left) kept secrets after → a ≡ answer.Crashed → ComesOf o before t a (client_in after)
    crashed o before may secrets slot.Unmade a h at = absurd h
    crashed o before may secrets (slot.Open s) a h at = absurd h
    crashed o before may secrets (slot.Closed p) a h at =
        subst (λ (b : Answer A). ComesOf o before t b (Closed (parts_in p))) (sym at)
        (subst (λ (x : Act A). ComesOf o before x answer.Crashed (Closed (parts_in p))) (sym is)
        (crashes o before ledgers journal (parts_in p) may (h.0 ∙ ap (λ (l : List Bytes). map started l) (lent_texts left ledgers at_left)) (h.1 ∙ ap started at_kept)))

-- so it is with what a crash left, by another name
pub left_with : {A : Type 0} (ledgers : List Bytes) (journal : Bytes) (secrets : List Secret) (p made : Held Device Device A) → made ≡ p → files_in p.keys.items ≡ map started ledgers → p.journal.history ≡ started journal
    → secrets_in p.keys.items ≡ secrets → IsLeftWith ledgers journal secrets (slot.Closed made)
left_with {A} ledgers journal secrets p made same l j s = (
  ap (λ (q : Held Device Device A). files_in q.keys.items) same ∙ l,
  ap (λ (q : Held Device Device A). q.journal.history) same ∙ j,
  ap (λ (q : Held Device Device A). secrets_in q.keys.items) same ∙ s,
)

-- a client that crashed is of the same keys
pub left_own : {A : Type 0} (o : Owner) (ledgers : List Bytes) (journal : Bytes) (secrets : List Secret) (after : Slot A) → IsLeftWith ledgers journal secrets after → AreFirst secrets o.secrets → IsOf o after
left_own o ledgers journal secrets slot.Unmade h own = absurd h
left_own o ledgers journal secrets (slot.Open s) h own = absurd h
left_own o ledgers journal secrets (slot.Closed p) h own = subst (λ (l : List Secret). AreFirst l o.secrets) (sym h.2) own

-- ---- a closed client

-- it does nothing else than open, gain a key, or crash
pub stays_closed : {A : Type 0} (o : Owner) (p : Parts) (t : Act A) → (t ≡ act.Open → ⊥) → (t ≡ act.Gain → ⊥) → ((ledgers : Vec (Vec ℕ A) A) (journal : Vec ℕ A) → t ≡ act.Crash ledgers journal → ⊥) → CantFromClosed o p t
stays_closed o p act.Open no_open no_gain no_crash = no_open refl
stays_closed o p act.Gain no_open no_gain no_crash = absurd (no_gain refl)
stays_closed o p (act.Crash ledgers journal) no_open no_gain no_crash = absurd (no_crash ledgers journal refl)
stays_closed o p other no_open no_gain no_crash = tt

-- it has its owner's first keys, also by another name
pub has_first : (o : Owner) (pinned : Key) (secrets : List Secret) → pinned ≡ o.pinned → AreFirst secrets o.secrets → HasFirst o.user pinned secrets o
has_first o pinned secrets is own = record { user_is = refl; pinned_is = sym is; first = own.1 }

pub same_first : (all some other : List Secret) → other ≡ some → AreFirst some all → AreFirst other all
same_first all some other is own = subst (λ (l : List Secret). AreFirst l all) (sym is) own

module _ (o : Owner) (p : Parts) where
  pub opens : {A : Type 0} (s : State) (how : Phase) (text : Vec ℕ A) → IsOpened o p s → IsSound (Open s) → how ≡ s.phase → text.items ≡ resent s.phase s.text
      → ComesOf o (Closed p) act.Open (answer.Opened how text) (Open s)
  opens s how text is sound told_phase told_text = record { call = Opens (Ok tt); is_call = refl; told = (told_phase, told_text); step = is; sound = sound }

  pub refuses : {A : Type 0} (q : Parts) (e : ClientError) → IsRefused o p e q → ComesOf {A = A} o (Closed p) act.Open (answer.Refused e) (Closed q)
  refuses q e is = record { call = Opens (Err e); is_call = refl; told = tt; step = is; sound = tt }

  pub gains : {A : Type 0} (q : Parts) → HasGained o p q → ComesOf {A = A} o (Closed p) act.Gain answer.Gained (Closed q)
  gains q is = record { call = Gains; is_call = refl; told = tt; step = is; sound = tt }
