-- What clients ask for is noted.
use Rattle.std.proofs.Common.{◌≡◌, ℕ, List, Option, Some, None, Ok, Err, Result, IfSome, IsSome, IsSomeAnd, option_and_then, option_map, refl, sym, ap, subst, inl, inr}
use Rattle.layout.specs.Types.{Bytes, Digest}
use Rattle.leaf_ledger.specs.Ledger.{LeafNumber}
use Rattle.update_cert.specs.Change.{Change}
use Rattle.pending_list.specs.Reply.{Reply}
use Rattle.wire.specs.declared.kinds.Status.{Status}
use Rattle.wire.specs.declared.kinds.Status.TheVariants as status
use Rattle.reply_rules.specs.Lists.{Lists, lists_of}
use Rattle.client_tree.specs.declared.questions.Question.{Question}
use Rattle.client_releases.specs.declared.error.ClientError.{ClientError}
use Rattle.client_releases.specs.declared.error.ClientError.TheVariants as error
use Rattle.client_releases.specs.Releasing.{IsKept, structure_record, under}
use Rattle.reply_check.specs.FirstBroken.{reply_in}
use Rattle.reply_check.specs.Good.{Good}
use Rattle.client_verify.specs.declared.look.Look.TheVariants as look
use Rattle.client_verify.specs.declared.step.Step.TheVariants as step
use Rattle.client_verify.specs.declared.view.Looking.{Looking}
use Rattle.client_verify.specs.State.{AcceptedView, Checked, Reading, State, Writing, asked_of, holding, on, over, signed_over, signed_text, signing_key}
use Rattle.client_verify.specs.Judged.{AsksOrAccepts, GoesOn, Handed, Judged, Taken}
use Rattle.client_verify.specs.Looked.{Given, Looked}
use Rattle.client_steps.specs.Steps.{Asks, Begins, Caches, Call, Client, Closed, Closes, Commits, Crashes, FromOpen, Gains, Gives, HasBegun, HasCommitted, HasGiven, HasHeard, HasLooked, HasResigned, HasSigned, HasTaken, Hears, IsOpened, IsStep, Looks, Open, Opens, Owner, Parts, Resigns, Sees, Signs, Takes}
use Rattle.client_runs.proofs.Lowering.{if_ready, with_ready}
use Rattle.honest_runs.specs.declared.wanted.Wanted.{Wanted}
use Rattle.honest_runs.specs.Town.{IsNoted}

-- what a client asks for after a call
abbrev pub asking : Wanted → Call → Wanted
asking w (Hears text (Ok (step.Need digest))) = record { reply = Some digest; look = w.look }
asking w (Takes block (Ok (step.Need digest))) = record { reply = Some digest; look = w.look }
asking w (Looks q (Ok (look.Need digest))) = record { reply = w.reply; look = Some digest }
asking w (Gives block (Ok (look.Need digest))) = record { reply = w.reply; look = Some digest }
asking w other = w

module _ (w : Wanted) where
  -- the reply's question is noted, and so is the look's
  abbrev ReplyNoted : Option Checked → Type 0
  ReplyNoted checked = IfSome (option_map (λ k. (asked_of k).digest) checked) (λ d. w.reply ≡ Some d)

  abbrev LookNoted : Option AcceptedView → Type 0
  LookNoted view = IfSome (option_map (λ l. l.asked.digest) (option_and_then (λ v. v.looking) view)) (λ d. w.look ≡ Some d)

  -- by what is under check, and by the view
  noted_by : (s : State) (checked : Option Checked) (view : Option AcceptedView) → s.checked ≡ checked → s.view ≡ view → ReplyNoted checked → LookNoted view → IsNoted (Open s) w
  noted_by s checked view at_checked at_view reply look =
      (subst (λ (k : Option Checked). ReplyNoted k) (sym at_checked) reply, subst (λ (v : Option AcceptedView). LookNoted v) (sym at_view) look)

  module _ (s new : State) (old : IsNoted (Open s) w) where
    same : new ≡ s → IsNoted (Open new) w
    same is = subst (λ (n : State). IsNoted (Open n) w) (sym is) old

    unasked : new.checked ≡ None → new.view ≡ s.view → IsNoted (Open new) w
    unasked none view = noted_by new None s.view none view tt old.1

    -- an error other than Device
    unless_device : (e : ClientError) → (e ≡ error.Device → IsNoted (Open new) w) → ((e ≡ error.Device → ⊥) → new ≡ s) → IsNoted (Open new) w
    unless_device error.Device failed else_same = failed refl
    unless_device error.Memory failed else_same = same (else_same (λ e. cc e))
    unless_device error.NoLeaf failed else_same = same (else_same (λ e. cc e))
    unless_device error.NoNumber failed else_same = same (else_same (λ e. cc e))
    unless_device error.NoKey failed else_same = same (else_same (λ e. cc e))
    unless_device error.Foreign failed else_same = same (else_same (λ e. cc e))
    unless_device error.Damaged failed else_same = same (else_same (λ e. cc e))

    begins : (changes : List (Change Digest)) (laid : List Bytes) (answer : Result Bytes ClientError) → HasBegun s changes laid answer new → IsNoted (Open new) w
    begins changes laid (Ok text) b = unasked (ap (λ (n : State). n.checked) b.declared.2) (ap (λ (n : State). n.view) b.declared.2)
    begins changes laid (Err e) b =
        unless_device e (λ is. let left = b.fails (ap (λ (x : ClientError). Err x) is) in unasked (ap (λ (n : State). n.checked) left) (ap (λ (n : State). n.view) left)) b.err

    resigns : (n : ℕ) (answer : Result Bytes ClientError) → HasResigned s n answer new → IsNoted (Open new) w
    resigns n (Ok text) b = unasked (ap (λ (n : State). n.checked) b.resigned.2) (ap (λ (n : State). n.view) b.resigned.2)
    resigns n (Err e) b =
        unless_device e (λ is. let left = b.fails (ap (λ (x : ClientError). Err x) is) in unasked (ap (λ (n : State). n.checked) left) (ap (λ (n : State). n.view) left)) b.err

    signs : (answer : Result Bytes ClientError) → HasSigned s answer new → IsNoted (Open new) w
    signs (Ok text) b =
        with_ready s (IsNoted (Open new) w) b.ready
        (λ y is. let done = if_ready s new y is (λ r. (leaf : LeafNumber) × IsKept leaf (structure_record (signed_text s leaf r)) (under (signing_key s r) s.devices) (under (signing_key s r) new.devices) × (new ≡ over new.blocks (on new.devices (signed_over s leaf r)))) b.signed in
        noted_by new None (on new.devices (signed_over s done.0 y)).view (ap (λ (n : State). n.checked) done.2) (ap (λ (n : State). n.view) done.2) tt tt)
    signs (Err e) b =
        unless_device e (λ is. let left = b.fails (ap (λ (x : ClientError). Err x) is) in unasked (ap (λ (n : State). n.checked) left) (ap (λ (n : State). n.view) left)) b.err

    commits : (answer : Status) → HasCommitted s answer new → IsNoted (Open new) w
    commits status.Ok b = noted_by new s.checked s.view (ap (λ (n : State). n.checked) b.state) (ap (λ (n : State). n.view) b.state) old.0 old.1
    commits status.Form b = same b.state
    commits status.UnknownUser b = same b.state
    commits status.BadSignature b = same b.state
    commits status.WrongNumber b = same b.state
    commits status.NotPending b = same b.state
    commits status.Busy b = same b.state
    commits status.TooLarge b = same b.state
    commits status.Absent b = same b.state
    commits status.Memory b = same b.state

-- ---- replies

-- the question of a reply under check is noted now
asks_now : (w : Wanted) (s new : State) (k : Checked) (d : Digest) → IsNoted (Open s) w → (asked_of k).digest ≡ d → new.checked ≡ Some k → new.view ≡ s.view
    → IsNoted (Open new) (record { reply = Some d; look = w.look })
asks_now w s new k d old is checked view = noted_by (record { reply = Some d; look = w.look }) new (Some k) s.view checked view (ap (λ (x : Digest). Some x) (sym is)) old.1

-- what a client asks for after an answer to a reply, or to a block of it
abbrev after_reply : Wanted → Result Asks ClientError → Wanted
after_reply w (Ok (step.Need digest)) = record { reply = Some digest; look = w.look }
after_reply w other = w

module _ (w : Wanted) where
  goes : (s : State) (x : Good) (answer : Asks) (new : State) → IsNoted (Open s) w → AsksOrAccepts s x answer new → IsNoted (Open new) (after_reply w (Ok answer))
  goes s x (step.Need digest) new old h = asks_now w s new (Writing x h.0) digest old h.1 (ap (λ (n : State). n.checked) h.2) (ap (λ (n : State). n.view) h.2)
  goes s x (step.Store texts) new old h = unasked w s new old (ap (λ (n : State). n.checked) h.3) (ap (λ (n : State). n.view) h.3)
  goes s x (step.Broken rule) new old h = absurd h

  taken : (s : State) (r : Reply) (x : Lists) (answer : Asks) (new : State) → IsNoted (Open s) w → Taken s r x answer new → IsNoted (Open new) (after_reply w (Ok answer))
  taken s r x (step.Need digest) new old (inl h) = asks_now w s new (Reading r h.0) digest old h.1 (ap (λ (n : State). n.checked) h.2) (ap (λ (n : State). n.view) h.2)
  taken s r x (step.Need digest) new old (inr h) = goes s h.0 (step.Need digest) new old h.2
  taken s r x (step.Store texts) new old h = goes s h.0 (step.Store texts) new old h.2
  taken s r x (step.Broken rule) new old h = absurd h

  lists_taken : (s : State) (r : Reply) (lists : Option Lists) (answer : Asks) (new : State) → IsNoted (Open s) w → IsSomeAnd lists (λ x. Taken s r x answer new) → IsNoted (Open new) (after_reply w (Ok answer))
  lists_taken s r None answer new old h = absurd h
  lists_taken s r (Some x) answer new old h = taken s r x answer new old h

  reply_taken : (s : State) (reply : Option Reply) (answer : Asks) (new : State) → IsNoted (Open s) w → IsSomeAnd reply (λ r. IsSomeAnd (lists_of r) (λ x. Taken s r x answer new)) → IsNoted (Open new) (after_reply w (Ok answer))
  reply_taken s None answer new old h = absurd h
  reply_taken s (Some r) answer new old h = lists_taken s r (lists_of r) answer new old h

  judged : (s : State) (text : Bytes) (answer : Asks) (new : State) → IsNoted (Open s) w → Judged s text answer new → IsNoted (Open new) (after_reply w (Ok answer))
  judged s text (step.Need digest) new old h = reply_taken s (reply_in text) (step.Need digest) new old h.1
  judged s text (step.Store texts) new old h = reply_taken s (reply_in text) (step.Store texts) new old h.1
  judged s text (step.Broken rule) new old h = same w s new old h.1

  hears : (s : State) (text : Bytes) (answer : Result Asks ClientError) (new : State) → IsNoted (Open s) w → HasHeard s text answer new → IsNoted (Open new) (after_reply w answer)
  hears s text (Ok answer) new old h = judged s text answer new old h.judged
  hears s text (Err e) new old h = same w s new old h.err

  goes_on : (s : State) (k : Checked) (answer : Asks) (new : State) → IsNoted (Open s) w → GoesOn s k answer new → IsNoted (Open new) (after_reply w (Ok answer))
  goes_on s (Reading r a) answer new old h = lists_taken s r (lists_of r) answer new old h
  goes_on s (Writing x a) answer new old h = goes s x answer new old h

  block_on : (s : State) (k : Checked) (block : Option Bytes) (answer : Asks) (new : State) → IsNoted (Open s) w → IsSomeAnd block (λ text. GoesOn (holding s text) k answer new) → IsNoted (Open new) (after_reply w (Ok answer))
  block_on s k None answer new old h = absurd h
  block_on s k (Some text) answer new old h = goes_on (holding s text) k answer new old h

  handed : (s : State) (k : Checked) (block : Option Bytes) (answer : Asks) (new : State) → IsNoted (Open s) w → Handed s k block answer new → IsNoted (Open new) (after_reply w (Ok answer))
  handed s k block (step.Need digest) new old h = block_on s k block (step.Need digest) new old h.1
  handed s k block (step.Store texts) new old h = block_on s k block (step.Store texts) new old h.1
  handed s k block (step.Broken rule) new old h = same w s new old h.1

  takes : (s : State) (block : Option Bytes) (answer : Result Asks ClientError) (new : State) → IsNoted (Open s) w → HasTaken s block answer new → IsNoted (Open new) (after_reply w answer)
  takes s block (Err e) new old h = same w s new old h.err
  takes s block (Ok answer) new old h = go s.checked h.wants h.handed
    where
      go : (checked : Option Checked) → IsSome checked → IfSome checked (λ k. Handed s k block answer new) → IsNoted (Open new) (after_reply w (Ok answer))
      go None some given = absurd (cc some)
      go (Some k) some given = handed s k block answer new old given

-- ---- looks

-- what a client asks for after an answer to a look, or to a block of it
abbrev after_look : Wanted → Result Sees ClientError → Wanted
after_look w (Ok (look.Need digest)) = record { reply = w.reply; look = Some digest }
after_look w other = w

module _ (w : Wanted) where
  -- the look has ended
  ended : (s new : State) (v : AcceptedView) → IsNoted (Open s) w → new ≡ record s { blocks = new.blocks; view = Some (record v { looking = None }) } → IsNoted (Open new) w
  ended s new v old is = noted_by w new s.checked (Some (record v { looking = None })) (ap (λ (n : State). n.checked) is) (ap (λ (n : State). n.view) is) old.0 tt

  looked : (s : State) (v : AcceptedView) (q : Question) (answer : Sees) (new : State) → IsNoted (Open s) w → Looked s v q answer new → IsNoted (Open new) (after_look w (Ok answer))
  looked s v q (look.Need digest) new old h =
      noted_by (record { reply = w.reply; look = Some digest }) new s.checked (Some (record v { looking = Some (record { question = q; asked = h.0 }) }))
      (ap (λ (n : State). n.checked) h.2) (ap (λ (n : State). n.view) h.2) old.0 (ap (λ (x : Digest). Some x) (sym h.1))
  looked s v q (look.File bytes) new old h = ended s new v old h.0
  looked s v q (look.Dir entries) new old h = ended s new v old h.0
  looked s v q look.None new old h = ended s new v old h.0
  looked s v q (look.Kind kind) new old h = ended s new v old h.0
  looked s v q (look.Free found) new old h = ended s new v old h.0
  looked s v q (look.Broken rule) new old h = absurd h

  looks : (s : State) (q : Question) (answer : Result Sees ClientError) (new : State) → IsNoted (Open s) w → HasLooked s q answer new → IsNoted (Open new) (after_look w answer)
  looks s q (Err e) new old h = same w s new old h.err
  looks s q (Ok answer) new old h = go s.view h.sees h.looked
    where
      go : (view : Option AcceptedView) → IsSome view → IfSome view (λ v. Looked s v q answer new) → IsNoted (Open new) (after_look w (Ok answer))
      go None some given = absurd (cc some)
      go (Some v) some given = looked s v q answer new old given

  block_looked : (s : State) (v : AcceptedView) (l : Looking) (block : Option Bytes) (answer : Sees) (new : State) → IsNoted (Open s) w → IsSomeAnd block (λ text. Looked (holding s text) v l.question answer new) → IsNoted (Open new) (after_look w (Ok answer))
  block_looked s v l None answer new old h = absurd h
  block_looked s v l (Some text) answer new old h = looked (holding s text) v l.question answer new old h

  given_block : (s : State) (v : AcceptedView) (l : Looking) (block : Option Bytes) (answer : Sees) (new : State) → IsNoted (Open s) w → Given s v l block answer new → IsNoted (Open new) (after_look w (Ok answer))
  given_block s v l block (look.Need digest) new old h = block_looked s v l block (look.Need digest) new old h.1
  given_block s v l block (look.File bytes) new old h = block_looked s v l block (look.File bytes) new old h.1
  given_block s v l block (look.Dir entries) new old h = block_looked s v l block (look.Dir entries) new old h.1
  given_block s v l block look.None new old h = block_looked s v l block look.None new old h.1
  given_block s v l block (look.Kind kind) new old h = block_looked s v l block (look.Kind kind) new old h.1
  given_block s v l block (look.Free found) new old h = block_looked s v l block (look.Free found) new old h.1
  given_block s v l block (look.Broken rule) new old h = same w s new old h.1

  gives : (s : State) (block : Option Bytes) (answer : Result Sees ClientError) (new : State) → IsNoted (Open s) w → HasGiven s block answer new → IsNoted (Open new) (after_look w answer)
  gives s block (Err e) new old h = same w s new old h.err
  gives s block (Ok answer) new old h = go s.view h.looks h.given
    where
      looking : (v : AcceptedView) (l : Option Looking) → IsSome l → IfSome l (λ x. Given s v x block answer new) → IsNoted (Open new) (after_look w (Ok answer))
      looking v None some given = absurd (cc some)
      looking v (Some l) some given = given_block s v l block answer new old given

      go : (view : Option AcceptedView) → IsSomeAnd view (λ v. IsSome v.looking) → IfSome view (λ v. IfSome v.looking (λ l. Given s v l block answer new)) → IsNoted (Open new) (after_look w (Ok answer))
      go None some given = absurd some
      go (Some v) some given = looking v v.looking some given

-- ---- steps

-- the answers that ask for something, and all others
reply_asking : (w : Wanted) (text : Bytes) (answer : Result Asks ClientError) → after_reply w answer ≡ asking w (Hears text answer)
reply_asking w text (Ok (step.Need digest)) = refl
reply_asking w text (Ok (step.Store texts)) = refl
reply_asking w text (Ok (step.Broken rule)) = refl
reply_asking w text (Err e) = refl

block_asking : (w : Wanted) (block : Option Bytes) (answer : Result Asks ClientError) → after_reply w answer ≡ asking w (Takes block answer)
block_asking w block (Ok (step.Need digest)) = refl
block_asking w block (Ok (step.Store texts)) = refl
block_asking w block (Ok (step.Broken rule)) = refl
block_asking w block (Err e) = refl

look_asking : (w : Wanted) (q : Question) (answer : Result Sees ClientError) → after_look w answer ≡ asking w (Looks q answer)
look_asking w q (Ok (look.Need digest)) = refl
look_asking w q (Ok (look.File bytes)) = refl
look_asking w q (Ok (look.Dir entries)) = refl
look_asking w q (Ok look.None) = refl
look_asking w q (Ok (look.Kind kind)) = refl
look_asking w q (Ok (look.Free found)) = refl
look_asking w q (Ok (look.Broken rule)) = refl
look_asking w q (Err e) = refl

give_asking : (w : Wanted) (block : Option Bytes) (answer : Result Sees ClientError) → after_look w answer ≡ asking w (Gives block answer)
give_asking w block (Ok (look.Need digest)) = refl
give_asking w block (Ok (look.File bytes)) = refl
give_asking w block (Ok (look.Dir entries)) = refl
give_asking w block (Ok look.None) = refl
give_asking w block (Ok (look.Kind kind)) = refl
give_asking w block (Ok (look.Free found)) = refl
give_asking w block (Ok (look.Broken rule)) = refl
give_asking w block (Err e) = refl

module _ (w : Wanted) where
  -- what is noted may be noted by another name
  noted_as : (client : Client) (v x : Wanted) → v ≡ x → IsNoted client v → IsNoted client x
  noted_as client v x is noted = subst (λ (y : Wanted). IsNoted client y) is noted

  from_open : (s : State) (call : Call) (after : Client) → IsNoted (Open s) w → FromOpen s call after → IsNoted after (asking w call)
  from_open s Closes (Closed p) old b = (tt, tt)
  from_open s Crashes (Closed p) old b = (tt, tt)
  from_open s (Begins changes laid answer) (Open new) old b = begins w s new old changes laid answer b
  from_open s (Resigns n answer) (Open new) old b = resigns w s new old n answer b
  from_open s (Hears text answer) (Open new) old b = noted_as (Open new) (after_reply w answer) (asking w (Hears text answer)) (reply_asking w text answer) (hears w s text answer new old b)
  from_open s (Takes block answer) (Open new) old b = noted_as (Open new) (after_reply w answer) (asking w (Takes block answer)) (block_asking w block answer) (takes w s block answer new old b)
  from_open s (Signs answer) (Open new) old b = signs w s new old answer b
  from_open s (Commits status) (Open new) old b = commits w s new old status b
  from_open s (Looks q answer) (Open new) old b = noted_as (Open new) (after_look w answer) (asking w (Looks q answer)) (look_asking w q answer) (looks w s q answer new old b)
  from_open s (Caches capacity) (Open new) old b = noted_by w new s.checked s.view (ap (λ (n : State). n.checked) b.state) (ap (λ (n : State). n.view) b.state) old.0 old.1
  from_open s (Gives block answer) (Open new) old b = noted_as (Open new) (after_look w answer) (asking w (Gives block answer)) (give_asking w block answer) (gives w s block answer new old b)
  from_open s call after old b = absurd b

  opened_nothing : (o : Owner) (p : Parts) (new : State) → IsOpened o p new → IsNoted (Open new) w
  opened_nothing o p new is = noted_by w new None None (ap (λ (n : State). n.checked) is.state) (ap (λ (n : State). n.view) is.state) tt tt

  -- a step asks for what its call says
  pub noted_after : (o : Owner) (before : Client) (call : Call) (after : Client) → IsNoted before w → IsStep o before call after → IsNoted after (asking w call)
  noted_after o (Open s) call after old b = from_open s call after old b
  noted_after o (Closed p) (Opens (Ok x)) (Open new) old b = opened_nothing o p new b
  noted_after o (Closed p) (Opens (Err e)) (Closed q) old b = (tt, tt)
  noted_after o (Closed p) Gains (Closed q) old b = (tt, tt)
  noted_after o (Closed p) Crashes (Closed q) old b = (tt, tt)
  noted_after o (Closed p) call after old b = absurd b
