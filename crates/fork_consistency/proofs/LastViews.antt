-- The view that an open client has is the one that it accepted last.
use Rattle.std.proofs.Common.{◌≡◌, ℕ, Bool, true, false, ◌==◌, List, [], ◌∷◌, ◌++◌, find, Option, Some, None, Result, Ok, Err, IfSome, IsSome, IsSomeAnd, refl, sym, ap, ◌∙◌, subst, inl, inr, if◌then◌else◌, option_map, option_to_list}
use Rattle.std.specs.List.{flat_map}
use Rattle.std.proofs.lemmas.Bool.{eqb-true}
use Rattle.layout.specs.Types.{Bytes, Digest, Key, User}
use Rattle.leaf_ledger.specs.Ledger.{LeafNumber}
use Rattle.itable.specs.File.{NoneCollide}
use Rattle.update_cert.specs.Change.{Change}
use Rattle.update_cert.specs.Reading.{Reading as Reads}
use Rattle.tree_parts.specs.Blocks.{Agrees}
use Rattle.pending_list.specs.Reply.{Reply}
use Rattle.reply_rules.specs.Lists.{Lists, lists_of}
use Rattle.wire.specs.declared.kinds.Status.{Status}
use Rattle.wire.specs.declared.kinds.Status.TheVariants as status
use Rattle.client_tree.specs.Genesis.{first_texts}
use Rattle.client_tree.specs.View.{lost as lost_of}
use Rattle.client_tree.specs.declared.questions.Question.{Question}
use Rattle.client_releases.specs.declared.error.ClientError.{ClientError}
use Rattle.client_releases.specs.declared.error.ClientError.TheVariants as error
use Rattle.client_releases.specs.Releasing.{IsKept, structure_record, under}
use Rattle.client_verify.specs.declared.look.Look.TheVariants as look
use Rattle.client_verify.specs.declared.step.Step.TheVariants.{Need, Store, Broken}
use Rattle.client_verify.specs.declared.view.Looking.{Looking}
use Rattle.reply_check.specs.FirstBroken.{reply_in, view_over}
use Rattle.reply_check.specs.Good.{Good}
use Rattle.client_verify.specs.State.{AcceptedView, Checked, Reading, Ready, State, Writing, committed, holding, on, over as over_blocks, signed_over, signed_structure, signed_text, signing_key}
use Rattle.client_verify.specs.Judged.{AsksOrAccepts, GoesOn, Handed, Judged, Taken}
use Rattle.client_verify.specs.Looked.{Given, Looked}
use Rattle.agreement.specs.Runs.{View, user_of}
use Rattle.agreement.proofs.Members.{In, in-right}
use Rattle.client_steps.specs.Steps.{Asks, Begins, Caches, Call, Client, Closed, Closes, Commits, Crashes, Gains, Gives, HasBegun, HasCached, HasGiven, HasHeard, HasLooked, HasResigned, HasSigned, HasTaken, Hears, IsStep, Looks, Open, Opens, Owner, Resigns, Sees, Signs, Takes}
use Rattle.client_runs.specs.Released.{accepted_by, hashed_at, tried_view, view_over as over, views}
use Rattle.client_runs.specs.Runs.{Event, IsRun, Keys, client_of, owner, pinned as pinned_key}
use Rattle.fork_consistency.proofs.Among.{agrees_within, are_within}
use Rattle.fork_consistency.proofs.Views.{over_here}
use Rattle.fork_consistency.specs.Handles.{told_by_texts}
use Rattle.fork_consistency.specs.Shown.{AreWithOwn, last_view}
use Rattle.fork_consistency.proofs.Origins.{AreIn, IsReady, IsTold, KnowsClient, known_at}

-- ---- calls that keep the view

abbrev SameView : AcceptedView → AcceptedView → Type 0
SameView v w = (v.lists ≡ w.lists) × (v.table ≡ w.table) × (v.lost ≡ w.lost) × (v.structures ≡ w.structures)

-- the view is the one before, whatever is looked for in it
abbrev Keeps : Option AcceptedView → Option AcceptedView → Type 0
Keeps before None = Unit {0}
Keeps before (Some v) = IsSomeAnd before (SameView v)

keeps_same : (o : Option AcceptedView) → Keeps o o
keeps_same None = tt
keeps_same (Some v) = (refl, refl, refl, refl)

module _ (s new : State) where
  same : new.view ≡ s.view → Keeps s.view new.view
  same is = subst (Keeps s.view) (sym is) (keeps_same s.view)

  of_state : (t : State) → t.view ≡ s.view → new ≡ t → Keeps s.view new.view
  of_state t kept is = same (ap (λ (n : State). n.view) is ∙ kept)

  goes : (t : State) → t.view ≡ s.view → (good : Good) (step : Asks) → AsksOrAccepts t good step new → Keeps s.view new.view
  goes t kept good (Need digest) h = same (ap (λ (n : State). n.view) h.2 ∙ kept)
  goes t kept good (Store texts) h = same (ap (λ (n : State). n.view) h.3 ∙ kept)
  goes t kept good (Broken rule) h = absurd h

  taken : (t : State) → t.view ≡ s.view → (r : Reply) (x : Lists) (step : Asks) → Taken t r x step new → Keeps s.view new.view
  taken t kept r x (Need digest) (inl h) = same (ap (λ (n : State). n.view) h.2 ∙ kept)
  taken t kept r x (Need digest) (inr h) = goes t kept h.0 (Need digest) h.2
  taken t kept r x (Store texts) h = goes t kept h.0 (Store texts) h.2
  taken t kept r x (Broken rule) h = absurd h

  some_taken : (t : State) → t.view ≡ s.view → (r : Reply) (lists : Option Lists) (step : Asks) → IsSomeAnd lists (λ x. Taken t r x step new) → Keeps s.view new.view
  some_taken t kept r None step h = absurd h
  some_taken t kept r (Some x) step h = taken t kept r x step h

  some_read : (reply : Option Reply) (step : Asks) → IsSomeAnd reply (λ r. IsSomeAnd (lists_of r) (λ x. Taken s r x step new)) → Keeps s.view new.view
  some_read None step h = absurd h
  some_read (Some r) step h = some_taken s refl r (lists_of r) step h

  judged : (text : Bytes) (step : Asks) → Judged s text step new → Keeps s.view new.view
  judged text (Broken rule) h = of_state s refl h.1
  judged text (Need digest) h = some_read (reply_in text) (Need digest) h.1
  judged text (Store texts) h = some_read (reply_in text) (Store texts) h.1

  goes_on : (text : Bytes) (c : Checked) (step : Asks) → GoesOn (holding s text) c step new → Keeps s.view new.view
  goes_on text (Reading r a) step h = some_taken (holding s text) refl r (lists_of r) step h
  goes_on text (Writing x a) step h = goes (holding s text) refl x step h

  block_on : (c : Checked) (block : Option Bytes) (step : Asks) → IsSomeAnd block (λ text. GoesOn (holding s text) c step new) → Keeps s.view new.view
  block_on c None step h = absurd h
  block_on c (Some text) step h = goes_on text c step h

  handed : (c : Checked) (block : Option Bytes) (step : Asks) → Handed s c block step new → Keeps s.view new.view
  handed c block (Broken rule) h = of_state s refl h.1
  handed c block (Need digest) h = block_on c block (Need digest) h.1
  handed c block (Store texts) h = block_on c block (Store texts) h.1

  -- ---- looks

  module _ (v : AcceptedView) (at : s.view ≡ Some v) where
    of_view : (w : AcceptedView) → SameView w v → new.view ≡ Some w → Keeps s.view new.view
    of_view w kept is = subst (Keeps s.view) (sym is) (subst (λ (o : Option AcceptedView). IsSomeAnd o (SameView w)) (sym at) kept)

    looked : (t : State) (q : Question) (answer : Sees) → Looked t v q answer new → Keeps s.view new.view
    looked t q (look.Need digest) h = of_view (record v { looking = Some (record { question = q; asked = h.0 }) }) (refl, refl, refl, refl) (ap (λ (n : State). n.view) h.2)
    looked t q (look.File bytes) h = of_view (record v { looking = None }) (refl, refl, refl, refl) (ap (λ (n : State). n.view) h.0)
    looked t q (look.Dir entries) h = of_view (record v { looking = None }) (refl, refl, refl, refl) (ap (λ (n : State). n.view) h.0)
    looked t q look.None h = of_view (record v { looking = None }) (refl, refl, refl, refl) (ap (λ (n : State). n.view) h.0)
    looked t q (look.Kind kind) h = of_view (record v { looking = None }) (refl, refl, refl, refl) (ap (λ (n : State). n.view) h.0)
    looked t q (look.Free found) h = of_view (record v { looking = None }) (refl, refl, refl, refl) (ap (λ (n : State). n.view) h.0)
    looked t q (look.Broken rule) h = absurd h

    block_looked : (l : Looking) (block : Option Bytes) (answer : Sees) → IsSomeAnd block (λ text. Looked (holding s text) v l.question answer new) → Keeps s.view new.view
    block_looked l None answer h = absurd h
    block_looked l (Some text) answer h = looked (holding s text) l.question answer h

    given : (l : Looking) (block : Option Bytes) (answer : Sees) → Given s v l block answer new → Keeps s.view new.view
    given l block (look.Need digest) h = block_looked l block (look.Need digest) h.1
    given l block (look.File bytes) h = block_looked l block (look.File bytes) h.1
    given l block (look.Dir entries) h = block_looked l block (look.Dir entries) h.1
    given l block look.None h = block_looked l block look.None h.1
    given l block (look.Kind kind) h = block_looked l block (look.Kind kind) h.1
    given l block (look.Free found) h = block_looked l block (look.Free found) h.1
    given l block (look.Broken rule) h = of_state s refl h.1

  -- ---- calls

  begins : (changes : List (Change Digest)) (laid : List Bytes) (answer : Result Bytes ClientError) → HasBegun s changes laid answer new → Keeps s.view new.view
  begins changes laid answer b = go answer b
    where
      go : (a : Result Bytes ClientError) → HasBegun s changes laid a new → Keeps s.view new.view
      go (Ok text) h = same (ap (λ (n : State). n.view) h.declared.2)
      go (Err error.Device) h = same (ap (λ (n : State). n.view) (h.fails refl))
      go (Err error.Memory) h = of_state s refl (h.err (λ d. cc d))
      go (Err error.NoLeaf) h = of_state s refl (h.err (λ d. cc d))
      go (Err error.NoNumber) h = of_state s refl (h.err (λ d. cc d))
      go (Err error.NoKey) h = of_state s refl (h.err (λ d. cc d))
      go (Err error.Foreign) h = of_state s refl (h.err (λ d. cc d))
      go (Err error.Damaged) h = of_state s refl (h.err (λ d. cc d))

  resigns : (n : ℕ) (answer : Result Bytes ClientError) → HasResigned s n answer new → Keeps s.view new.view
  resigns n answer b = go answer b
    where
      go : (a : Result Bytes ClientError) → HasResigned s n a new → Keeps s.view new.view
      go (Ok text) h = same (ap (λ (m : State). m.view) h.resigned.2)
      go (Err error.Device) h = same (ap (λ (m : State). m.view) (h.fails refl))
      go (Err error.Memory) h = of_state s refl (h.err (λ d. cc d))
      go (Err error.NoLeaf) h = of_state s refl (h.err (λ d. cc d))
      go (Err error.NoNumber) h = of_state s refl (h.err (λ d. cc d))
      go (Err error.NoKey) h = of_state s refl (h.err (λ d. cc d))
      go (Err error.Foreign) h = of_state s refl (h.err (λ d. cc d))
      go (Err error.Damaged) h = of_state s refl (h.err (λ d. cc d))

  hears : (text : Bytes) (answer : Result Asks ClientError) → HasHeard s text answer new → Keeps s.view new.view
  hears text (Ok step) h = judged text step h.judged
  hears text (Err e) h = of_state s refl h.err

  takes : (block : Option Bytes) (answer : Result Asks ClientError) → HasTaken s block answer new → Keeps s.view new.view
  takes block (Err e) h = of_state s refl h.err
  takes block (Ok step) h = go s.checked h.wants h.handed
    where
      go : (c : Option Checked) → IsSome c → IfSome c (λ c. Handed s c block step new) → Keeps s.view new.view
      go None some h = absurd (cc some)
      go (Some c) some h = handed c block step h

  sign_fails : (e : ClientError) → HasSigned s (Err e) new → Keeps s.view new.view
  sign_fails error.Device h = same (ap (λ (n : State). n.view) (h.fails refl))
  sign_fails error.Memory h = of_state s refl (h.err (λ d. cc d))
  sign_fails error.NoLeaf h = of_state s refl (h.err (λ d. cc d))
  sign_fails error.NoNumber h = of_state s refl (h.err (λ d. cc d))
  sign_fails error.NoKey h = of_state s refl (h.err (λ d. cc d))
  sign_fails error.Foreign h = of_state s refl (h.err (λ d. cc d))
  sign_fails error.Damaged h = of_state s refl (h.err (λ d. cc d))

  commits : (st : Status) → new ≡ committed st s → Keeps s.view new.view
  commits status.Ok is = same (ap (λ (n : State). n.view) is)
  commits other is = of_state s refl is

  looks : (q : Question) (answer : Result Sees ClientError) → HasLooked s q answer new → Keeps s.view new.view
  looks q (Err e) h = of_state s refl h.err
  looks q (Ok answer) h = go s.view refl h.sees h.looked
    where
      go : (view : Option AcceptedView) → s.view ≡ view → IsSome view → IfSome view (λ v. Looked s v q answer new) → Keeps s.view new.view
      go None at some h = absurd (cc some)
      go (Some v) at some h = looked v at s q answer h

  gives : (block : Option Bytes) (answer : Result Sees ClientError) → HasGiven s block answer new → Keeps s.view new.view
  gives block (Err e) h = of_state s refl h.err
  gives block (Ok answer) h = go s.view refl h.looks h.given
    where
      looking : (v : AcceptedView) → s.view ≡ Some v → (l : Option Looking) → IsSome l → IfSome l (λ x. Given s v x block answer new) → Keeps s.view new.view
      looking v at None some h = absurd (cc some)
      looking v at (Some l) some h = given v at l block answer h

      go : (view : Option AcceptedView) → s.view ≡ view → IsSomeAnd view (λ v. IsSome v.looking) → IfSome view (λ v. IfSome v.looking (λ l. Given s v l block answer new)) → Keeps s.view new.view
      go None at some h = absurd some
      go (Some v) at some h = looking v at v.looking some h

  caches : (capacity : ℕ) → HasCached s capacity new → Keeps s.view new.view
  caches capacity h = same (ap (λ (n : State). n.view) h.state)

-- ---- the view that was accepted last

module _ (texts : List Bytes) (apart : NoneCollide texts texts) (key : Key) where
  -- It is that view, and what it lost are the numbers of the own changes without effect.
  pub record IsOf (v : AcceptedView) (x : View) : Type 0 where
    pub lists : v.lists ≡ x.lists
    pub table : v.table ≡ x.table
    pub told : IsTold texts apart key x.lists x.table
    pub lost : (reads : Reads) → Agrees (told_by_texts texts) reads → v.lost ≡ lost_of reads told.users (view_over key x.table x.lists)
    pub structures : AreWithOwn x v.structures

  abbrev pub HasLastView : Option View → Client → Type 0
  HasLastView last (Closed p) = Unit {0}
  HasLastView last (Open s) = IfSome s.view (λ v. IsSomeAnd last (IsOf v))

  kept : (last : Option View) (s new : State) → Keeps s.view new.view → HasLastView last (Open s) → HasLastView last (Open new)
  kept last s new keeps has = go s.view new.view keeps has
    where
      moved : (v w : AcceptedView) → SameView v w → (l : Option View) → IsSomeAnd l (IsOf w) → IsSomeAnd l (IsOf v)
      moved v w same None has = absurd has
      moved v w same (Some x) has = record {
        lists = same.0 ∙ has.lists;
        table = same.1 ∙ has.table;
        told = has.told;
        lost = λ reads agrees. same.2 ∙ has.lost reads agrees;
        structures = (has.structures.0, has.structures.1, same.3 ∙ has.structures.2);
      }

      go : (o n : Option AcceptedView) → Keeps o n → IfSome o (λ v. IsSomeAnd last (IsOf v)) → IfSome n (λ v. IsSomeAnd last (IsOf v))
      go o None keeps has = tt
      go None (Some v) keeps has = absurd keeps
      go (Some w) (Some v) keeps has = moved v w keeps last has

  -- a view that is signed over
  signed_view : (s new : State) (y : Ready) (leaf : LeafNumber) → new ≡ over_blocks new.blocks (on new.devices (signed_over s leaf y)) → IsReady texts apart key y → HasLastView (Some (over s y)) (Open new)
  signed_view s new y leaf is made =
      subst (λ (o : Option AcceptedView). IfSome o (λ v. IsSomeAnd (Some (over s y)) (IsOf v))) (sym (ap (λ (n : State). n.view) is))
      (record {
        lists = refl;
        table = refl;
        told = made.told;
        lost = λ reads agrees. made.lost_are made.told.users made.told.pending reads (agrees_within made.blocks (told_by_texts texts) (are_within texts apart made.blocks made.among) reads agrees);
        structures = (signed_structure s leaf y, refl, refl);
      })

  -- the last view after a step that accepts these
  abbrev pub next : List View → Option View → Option View
  next [] last = last
  next (x ∷ xs) last = Some x

  signs : (s new : State) (text : Bytes) (last : Option View) → HasSigned s (Ok text) new → KnowsClient texts apart key (Open s) → HasLastView (next (option_to_list (option_map (over s) s.accepted)) last) (Open new)
  signs s new text last h knows = go s.accepted h.ready h.signed knows.accepted
    where
      go : (o : Option Ready) → IsSome o → IfSome o (λ r. (leaf : LeafNumber) × IsKept leaf (structure_record (signed_text s leaf r)) (under (signing_key s r) s.devices) (under (signing_key s r) new.devices) × (new ≡ over_blocks new.blocks (on new.devices (signed_over s leaf r)))) → IfSome o (IsReady texts apart key)
          → HasLastView (next (option_to_list (option_map (over s) o)) last) (Open new)
      go None some h made = absurd (cc some)
      go (Some y) some h made = signed_view s new y h.0 h.2 made

  step : (o : Owner) (before : Client) (call : Call) (after : Client) (tried : Option View) (last : Option View) → IsStep o before call after → KnowsClient texts apart key before → HasLastView last before → HasLastView (next (accepted_by call before after tried) last) after
  step o (Closed p) (Opens (Ok x)) (Open s) tried last is knows has =
      subst (λ (v : Option AcceptedView). IfSome v (λ w. IsSomeAnd (next (accepted_by (Opens (Ok x)) (Closed p) (Open s) tried) last) (IsOf w))) (sym (ap (λ (n : State). n.view) is.state)) tt
  step o (Closed p) (Opens (Err e)) (Closed q) tried last is knows has = tt
  step o (Closed p) Gains (Closed q) tried last is knows has = tt
  step o (Closed p) Crashes (Closed q) tried last is knows has = tt
  step o (Closed p) call after tried last is knows has = absurd is
  step o (Open s) Closes (Closed p) tried last is knows has = tt
  step o (Open s) Crashes (Closed p) tried last is knows has = tt
  step o (Open s) (Begins changes laid answer) (Open new) tried last is knows has = kept last s new (begins s new changes laid answer is) has
  step o (Open s) (Resigns n answer) (Open new) tried last is knows has = kept last s new (resigns s new n answer is) has
  step o (Open s) (Hears text answer) (Open new) tried last is knows has = kept last s new (hears s new text answer is) has
  step o (Open s) (Takes block answer) (Open new) tried last is knows has = kept last s new (takes s new block answer is) has
  step o (Open s) (Signs (Ok text)) (Open new) tried last is knows has = signs s new text last is knows
  step o (Open s) (Signs (Err e)) (Open new) tried last is knows has = kept last s new (sign_fails s new e is) has
  step o (Open s) (Commits st) (Open new) tried last is knows has = kept last s new (commits s new st is.state) has
  step o (Open s) (Looks q answer) (Open new) tried last is knows has = kept last s new (looks s new q answer is) has
  step o (Open s) (Gives block answer) (Open new) tried last is knows has = kept last s new (gives s new block answer is) has
  step o (Open s) (Caches capacity) (Open new) tried last is knows has = kept last s new (caches s new capacity is) has
  step o (Open s) call after tried last is knows has = absurd is

  found_other : (u w : User) (xs ys : List View) → ((x : View) → In x xs → user_of x ≡ w) → (w == u) ≡ false → find (λ x. user_of x == u) (xs ++ ys) ≡ find (λ x. user_of x == u) ys
  found_other u w [] ys each other = refl
  found_other u w (x ∷ xs) ys each other =
      rw (ap (λ (n : ℕ). n == u) (each x (inl refl)) ∙ other) (found_other u w xs ys (λ y i. each y (inr i)) other)

  found_here : (u w : User) (xs ys : List View) → ((x : View) → In x xs → user_of x ≡ w) → (w == u) ≡ true → find (λ x. user_of x == u) (xs ++ ys) ≡ next xs (find (λ x. user_of x == u) ys)
  found_here u w [] ys each here = refl
  found_here u w (x ∷ xs) ys each here = rw (ap (λ (n : ℕ). n == u) (each x (inl refl)) ∙ here) refl

-- ---- runs

module _ (keys : Keys) (texts : List Bytes) (apart : NoneCollide texts texts) (first : AreIn texts apart (pinned_key keys) (first_texts (pinned_key keys))) where
  abbrev key : Key
  key = pinned_key keys

  -- each open client has the view that it accepted last
  pub has_last_view : (u : User) (run : List Event) → IsRun keys run → ((t : Bytes) → In t (flat_map hashed_at run) → In t texts) → HasLastView texts apart key (last_view u run) (client_of u run)
  has_last_view u [] is inside = tt
  has_last_view u (e ∷ older) is inside = go (e.user == u) refl (has_last_view u older is.2 later)
    where
      later : (t : Bytes) → In t (flat_map hashed_at older) → In t texts
      later t i = inside t (in-right t (hashed_at e) (flat_map hashed_at older) i)

      accepted : List View
      accepted = accepted_by e.call (client_of e.user older) e.after (tried_view e.user older)

      each : (x : View) → In x accepted → user_of x ≡ e.user
      each x i = (over_here keys e older is x i).user

      go : (b : Bool) → (e.user == u) ≡ b → HasLastView texts apart key (last_view u older) (client_of u older) → HasLastView texts apart key (last_view u (e ∷ older)) (if b then e.after else client_of u older)
      go true same has =
          let user : e.user ≡ u = eqb-true e.user u same in
          let knows = (known_at keys texts apart first e.user older is.2 later).0 in
          let had : HasLastView texts apart key (last_view u older) (client_of e.user older) = subst (λ (w : User). HasLastView texts apart key (last_view u older) (client_of w older)) (sym user) has in
          subst (λ (l : Option View). HasLastView texts apart key l e.after) (sym (found_here texts apart key u e.user accepted (views older) each same))
          (step texts apart key (owner keys e.user) (client_of e.user older) e.call e.after (tried_view e.user older) (last_view u older) is.0 knows had)
      go false other has =
          subst (λ (l : Option View). HasLastView texts apart key l (client_of u older)) (sym (found_other texts apart key u e.user accepted (views older) each other)) has
