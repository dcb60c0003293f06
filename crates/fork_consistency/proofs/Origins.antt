-- How accepted views come about: by blocks that are among the texts of a run, from which a client reads the table of
-- principals by which each was judged, and makes the parts whose handles are signed over it.
use Rattle.std.proofs.Common.{◌≡◌, ℕ, Bool, true, false, ◌==◌, List, [], ◌∷◌, ◌++◌, map, Option, Some, None, Result, Ok, Err, IfSome, IsSome, IsSomeAnd, refl, sym, ap, ◌∙◌, subst, inl, inr, if◌then◌else◌, option_map, option_to_list}
use Rattle.std.specs.List.{flat_map}
use Rattle.std.proofs.lemmas.Bool.{eqb-true}
use Rattle.leaf_ledger.specs.Ledger.{LeafNumber}
use Rattle.layout.specs.Types.{Bytes, Digest, Handle, Key, User}
use Rattle.itable.specs.File.{NoneCollide}
use Rattle.principals.specs.Table.{Table}
use Rattle.principals.specs.TableText.{table}
use Rattle.version_order.specs.declared.structure.GroupRecord.{GroupRecord}
use Rattle.update_cert.specs.Change.{Change}
use Rattle.tree_parts.specs.Blocks.{Blocks, ForEachReading}
use Rattle.pending_list.specs.declared.signed.Signed.{Signed}
use Rattle.pending_list.specs.Reply.{Reply}
use Rattle.reply_rules.specs.Lists.{Lists, lists_of, structure_of}
use Rattle.wire.specs.declared.kinds.Status.{Status}
use Rattle.wire.specs.declared.kinds.Status.TheVariants as status
use Rattle.client_tree.specs.Genesis.{first_blocks, first_texts}
use Rattle.checked_blocks.specs.CheckedBlocks.{at_first, known_blocks, with_capacity, with_capacity_later}
use Rattle.checked_blocks.proofs.BlockLaws.{known-at_first, known-later, knows_part_cached}
use Rattle.client_tree.specs.Held.{held}
use Rattle.client_tree.specs.Principals.{IsPending}
use Rattle.client_tree.specs.Tree.{IsLost, IsOutcome, Stored}
use Rattle.client_tree.specs.View.{handle_in}
use Rattle.client_tree.specs.declared.questions.Question.{Question}
use Rattle.client_releases.specs.declared.error.ClientError.{ClientError}
use Rattle.client_releases.specs.declared.error.ClientError.TheVariants as error
use Rattle.client_releases.specs.declared.phase.Phase.{Phase}
use Rattle.client_releases.specs.Releasing.{IsKept, structure_record, under}
use Rattle.client_releases.specs.declared.phase.Phase.TheVariants as phase
use Rattle.client_verify.specs.declared.look.Look.TheVariants as look
use Rattle.client_verify.specs.declared.step.Step.TheVariants.{Need, Store, Broken}
use Rattle.client_verify.specs.declared.view.Looking.{Looking}
use Rattle.reply_check.specs.FirstBroken.{IsRead, reply_in, shown_of, view_over}
use Rattle.reply_check.specs.Good.{Good, record_over, view_of}
use Rattle.client_verify.specs.State.{AcceptedView, Checked, Reading, Ready, State, Writing, blocks_with, committed, known, holding, on, over as over_blocks, groups, signed_over, signed_text, signing_key, with_records}
use Rattle.client_verify.specs.Holding.{HoldsAfter, HoldsMeanwhile, LaysOut, LookHoldsAfter, is_under_way}
use Rattle.client_verify.specs.Judged.{AsksOrAccepts, GoesOn, Handed, IsGood, Judged, Taken}
use Rattle.client_verify.specs.Looked.{Given, Looked}
use Rattle.agreement.specs.Runs.{View, user_of}
use Rattle.agreement.specs.Worlds.{NamesTable}
use Rattle.agreement.proofs.Members.{In, flat_map-in, in-append, in-left, in-right}
use Rattle.client_steps.specs.Steps.{Asks, Begins, Caches, Call, Client, Closed, Closes, Commits, Crashes, Gains, Gives, HasBegun, HasCached, HasGiven, HasHeard, HasLooked, HasResigned, HasSigned, HasTaken, Hears, IsStep, Looks, Open, Opens, Owner, Resigns, Sees, Signs, Takes}
use Rattle.client_runs.specs.Runs.{Event, IsRun, Keys, client_of, owner, pinned as pinned_key}
use Rattle.client_runs.specs.Released.{accepted_by, hashed_at, in_hand, released, stored_texts, tried_by, tried_view, unless_memory, views, where_signed, view_over as over}
use Rattle.fork_consistency.proofs.BlocksOf.{are_hashed, blocks_at, blocks_by}
use Rattle.fork_consistency.proofs.Among.{AreAmong, agrees_within, among_after, among_all_kept, among_kept, among_laid, among_none, among_part, among_same, are_within}
use Rattle.fork_consistency.proofs.Holds.{Holds}
use Rattle.fork_consistency.proofs.Judging.{own_last_is, unbroken, value_of}
use Rattle.client_runs.proofs.Lowering.{low_owner, of_declared}
use Rattle.fork_consistency.proofs.Moves.{holds_at, signed_of}
use Rattle.client_runs.proofs.Replies.{IsGoodBy, of_lists}
use Rattle.release_runs.specs.Steps as low
use Rattle.release_runs.proofs.Stories.{IsStory, OfCert, OfStructure, Release, last_in}
use Rattle.version_order.specs.Structure.{Structure, structure}
use Rattle.fork_consistency.specs.Handles.{told_by_texts}

module _ (texts : List Bytes) (apart : NoneCollide texts texts) (key : Key) where
  -- The table of principals of these lists, as blocks among the texts tell it.
  pub record IsTold (x : Lists) (t : Table) : Type 0 where
    pub users : Table
    pub fits : table.Fits users
    pub named : ForEachReading (told_by_texts texts) (λ reads. NamesTable reads (handle_in key x.structures 0) users)
    pub void : List ℕ
    pub pending : IsPending users (view_over key t x) void

  -- all these are among the texts
  abbrev pub AreIn : List Bytes → Type 0
  AreIn some = (t : Bytes) → In t some → In t texts

  -- What a client makes of these lists, by blocks that are among the texts: the parts that the own operation may change,
  -- whose new texts are among the texts, too.
  pub record IsMade (x : Lists) (t : Table) (handle : Handle) (records : List GroupRecord) (lost : List ℕ) : Type 0 where
    pub told : IsTold x t
    pub blocks : Blocks
    pub among : AreAmong texts blocks
    pub own : Stored
    pub raised : List Stored
    pub outcome : IsOutcome blocks (view_over key t x) (own ∷ raised)
    pub own_in : AreIn own.texts
    pub raised_in : (g : Stored) → In g raised → AreIn g.texts
    pub handle_is : handle ≡ own.handle
    pub records_are : records ≡ map (record_over x.own.plan) raised
    pub lost_are : IsLost blocks (view_over key t x) told.void lost

  -- A view, and the structure that was signed over it after the one that its user signed last.
  pub record IsKnown (x : View) : Type 0 where
    pub records : List GroupRecord
    pub lost : List ℕ
    pub made : IsMade x.lists x.table x.signed.handle records lost
    pub last : Option (Signed Structure)
    pub last_is : option_map value_of (structure_of (user_of x) x.lists) ≡ option_map value_of last
    pub groups_are : x.signed.groups ≡ with_records (groups last) records

  -- ---- what holds of an open client

  -- the table of good lists, with the numbers of the own changes of it that have no effect
  abbrev IsToldOf : Good → Type 0
  IsToldOf good = (is : IsTold good.lists good.table) × (is.void ≡ good.void)

  abbrev IsUnder : Checked → Type 0
  IsUnder (Reading r a) = Unit {0}
  IsUnder (Writing x a) = IsToldOf x

  abbrev pub IsReady : Ready → Type 0
  IsReady y = IsMade y.lists y.table y.handle y.records y.lost

  pub record Knows (s : State) : Type 0 where
    pub pinned : s.pinned ≡ key
    pub among : AreAmong texts (known_blocks s.blocks)
    pub checked : IfSome s.checked IsUnder
    pub accepted : IfSome s.accepted IsReady

  abbrev pub KnowsClient : Client → Type 0
  KnowsClient (Closed p) = Unit {0}
  KnowsClient (Open s) = Knows s

  -- ---- replies

  told : (s : State) (x : Lists) (good : Good) → Knows s → IsGood s x good → IsToldOf good
  told s x good k is =
      let read = subst (λ (y : Lists). IsRead (known_blocks s.blocks) s.pinned y good.table good.void) (sym is.0) is.1 in
      let at = subst (λ (p : Key). IsRead (known_blocks s.blocks) p good.lists good.table good.void) k.pinned read in (
        record {
          users = at.users;
          fits = at.named.fits;
          named = λ reads agrees. at.named.file reads (agrees_within (known_blocks s.blocks) (told_by_texts texts) (are_within texts apart (known_blocks s.blocks) k.among) reads agrees);
          void = good.void;
          pending = at.pending;
        },
        refl,
      )

  parts_made : (s : State) (good : Good) (own : Stored) (raised : List Stored) (lost : List ℕ) → Knows s → (is : IsTold good.lists good.table) → is.void ≡ good.void → IsOutcome (known_blocks s.blocks) (view_of s.pinned good) (own ∷ raised) → IsLost (known_blocks s.blocks) (view_of s.pinned good) good.void lost
      → AreIn (own.texts ++ flat_map (λ g. g.texts) raised) → IsMade good.lists good.table own.handle (map (record_over good.lists.own.plan) raised) lost
  parts_made s good own raised lost k is void outcome loses inside = record {
    told = is;
    blocks = known_blocks s.blocks;
    among = k.among;
    own = own;
    raised = raised;
    outcome = subst (λ (p : Key). IsOutcome (known_blocks s.blocks) (view_of p good) (own ∷ raised)) k.pinned outcome;
    own_in = λ t i. inside t (in-left t own.texts (flat_map (λ g. g.texts) raised) i);
    raised_in = λ g j t i. inside t (in-right t own.texts (flat_map (λ g. g.texts) raised) (flat_map-in (λ (g : Stored). g.texts) raised g t j i));
    handle_is = refl;
    records_are = refl;
    lost_are =
        subst (λ (v : List ℕ). IsLost (known_blocks s.blocks) (view_of key good) v lost) (sym void)
        (subst (λ (p : Key). IsLost (known_blocks s.blocks) (view_of p good) good.void lost) k.pinned loses);
  }

  -- what is known of blocks after a call is among the texts
  abbrev AmongNew : State → Type 0
  AmongNew new = AreAmong texts (known_blocks new.blocks)

  goes : (s : State) (good : Good) (step : Asks) (new : State) → Knows s → AmongNew new → IsToldOf good → AreIn (stored_texts (Ok step)) → AsksOrAccepts s good step new → Knows new
  goes s good (Need digest) new k among is inside h =
      subst (λ (n : State). Knows n) (sym h.2) (record { pinned = k.pinned; among = among; checked = is; accepted = tt })
  goes s good (Store texts) new k among is inside h =
      subst (λ (n : State). Knows n) (sym h.3) (record {
        pinned = k.pinned;
        among = among;
        checked = tt;
        accepted = parts_made s good h.0 h.1 h.2 k is.0 is.1 h.4 h.5 (λ t i. inside t (subst (λ (ts : List Bytes). In t ts) (sym h.6) i));
      })
  goes s good (Broken rule) new k among is inside h = absurd h

  taken : (s : State) (r : Reply) (x : Lists) (step : Asks) (new : State) → Knows s → AmongNew new → AreIn (stored_texts (Ok step)) → Taken s r x step new → Knows new
  taken s r x (Need digest) new k among inside (inl h) = subst (λ (n : State). Knows n) (sym h.2) (record { pinned = k.pinned; among = among; checked = tt; accepted = tt })
  taken s r x (Need digest) new k among inside (inr h) = goes s h.0 (Need digest) new k among (told s x h.0 k h.1) inside h.2
  taken s r x (Store texts) new k among inside h = goes s h.0 (Store texts) new k among (told s x h.0 k h.1) inside h.2
  taken s r x (Broken rule) new k among inside h = absurd h

  some_taken : (s : State) (r : Reply) (lists : Option Lists) (step : Asks) (new : State) → Knows s → AmongNew new → AreIn (stored_texts (Ok step)) → IsSomeAnd lists (λ x. Taken s r x step new) → Knows new
  some_taken s r None step new k among inside h = absurd h
  some_taken s r (Some x) step new k among inside h = taken s r x step new k among inside h

  some_read : (s : State) (reply : Option Reply) (step : Asks) (new : State) → Knows s → AmongNew new → AreIn (stored_texts (Ok step)) → IsSomeAnd reply (λ r. IsSomeAnd (lists_of r) (λ x. Taken s r x step new)) → Knows new
  some_read s None step new k among inside h = absurd h
  some_read s (Some r) step new k among inside h = some_taken s r (lists_of r) step new k among inside h

  judged : (s : State) (text : Bytes) (step : Asks) (new : State) → Knows s → AreIn (stored_texts (Ok step)) → Judged s text step new → HoldsAfter s None step new → Knows new
  judged s text (Broken rule) new k inside h holds = subst (λ (n : State). Knows n) (sym h.1) k
  judged s text (Need digest) new k inside h holds = some_read s (reply_in text) (Need digest) new k (among_after texts s.blocks new k.among holds) inside h.1
  judged s text (Store texts') new k inside h holds = some_read s (reply_in text) (Store texts') new k (among_after texts s.blocks new k.among holds) inside h.1

  -- ---- blocks

  held_too : (s : State) (text : Bytes) → Knows s → In text texts → Knows (holding s text)
  held_too s text k i = record { pinned = k.pinned; among = among_kept texts s.blocks text i k.among; checked = k.checked; accepted = k.accepted }

  goes_on : (s : State) (c : Checked) (step : Asks) (new : State) → Knows s → AmongNew new → IsUnder c → AreIn (stored_texts (Ok step)) → GoesOn s c step new → Knows new
  goes_on s (Reading r a) step new k among u inside h = some_taken s r (lists_of r) step new k among inside h
  goes_on s (Writing x a) step new k among u inside h = goes s x step new k among u inside h

  block_on : (s : State) (c : Checked) (block : Option Bytes) (step : Asks) (new : State) → Knows s → IsUnder c → AreIn (option_to_list block) → AreIn (stored_texts (Ok step)) → IsSomeAnd block (λ text. GoesOn (holding s text) c step new)
      → HoldsMeanwhile (blocks_with s block) new → Knows new
  block_on s c None step new k u here inside h holds = absurd h
  block_on s c (Some text) step new k u here inside h holds =
      let l = held_too s text k (here text (inl refl)) in
      goes_on (holding s text) c step new l (among_after texts (holding s text).blocks new l.among holds) u inside h

  handed : (s : State) (c : Checked) (block : Option Bytes) (step : Asks) (new : State) → Knows s → IsUnder c → AreIn (option_to_list block) → AreIn (stored_texts (Ok step)) → Handed s c block step new → HoldsAfter s block step new → Knows new
  handed s c block (Broken rule) new k u here inside h holds = subst (λ (n : State). Knows n) (sym h.1) k
  handed s c block (Need digest) new k u here inside h holds = block_on s c block (Need digest) new k u here inside h.1 holds
  handed s c block (Store texts') new k u here inside h holds = block_on s c block (Store texts') new k u here inside h.1 holds

  -- ---- looks

  looked : (s : State) (v : AcceptedView) (q : Question) (answer : Sees) (new : State) → Knows s → AmongNew new → Looked s v q answer new → Knows new
  looked s v q (look.Need digest) new k among h = subst (λ (n : State). Knows n) (sym h.2) (record { pinned = k.pinned; among = among; checked = k.checked; accepted = k.accepted })
  looked s v q (look.File bytes) new k among h = subst (λ (n : State). Knows n) (sym h.0) (record { pinned = k.pinned; among = among; checked = k.checked; accepted = k.accepted })
  looked s v q (look.Dir entries) new k among h = subst (λ (n : State). Knows n) (sym h.0) (record { pinned = k.pinned; among = among; checked = k.checked; accepted = k.accepted })
  looked s v q look.None new k among h = subst (λ (n : State). Knows n) (sym h.0) (record { pinned = k.pinned; among = among; checked = k.checked; accepted = k.accepted })
  looked s v q (look.Kind kind) new k among h = subst (λ (n : State). Knows n) (sym h.0) (record { pinned = k.pinned; among = among; checked = k.checked; accepted = k.accepted })
  looked s v q (look.Free found) new k among h = subst (λ (n : State). Knows n) (sym h.0) (record { pinned = k.pinned; among = among; checked = k.checked; accepted = k.accepted })
  looked s v q (look.Broken rule) new k among h = absurd h

  -- an answer of a look: what is held then is said but where a block was refused
  look_among : (s : State) (block : Option Bytes) (answer : Sees) (new : State) → AreAmong texts (known_blocks (blocks_with s block)) → ((rule : _) → answer ≡ look.Broken rule → ⊥) → LookHoldsAfter s block answer new → AmongNew new
  look_among s block (look.Need digest) new among other h = among_after texts (blocks_with s block) new among h
  look_among s block (look.File bytes) new among other h = among_after texts (blocks_with s block) new among h
  look_among s block (look.Dir entries) new among other h = among_after texts (blocks_with s block) new among h
  look_among s block look.None new among other h = among_after texts (blocks_with s block) new among h
  look_among s block (look.Kind kind) new among other h = among_after texts (blocks_with s block) new among h
  look_among s block (look.Free found) new among other h = among_after texts (blocks_with s block) new among h
  look_among s block (look.Broken rule) new among other h = absurd (other rule refl)

  block_looked : (s : State) (v : AcceptedView) (l : Looking) (block : Option Bytes) (answer : Sees) (new : State) → Knows s → AreIn (option_to_list block) → IsSomeAnd block (λ text. Looked (holding s text) v l.question answer new)
      → HoldsMeanwhile (blocks_with s block) new → Knows new
  block_looked s v l None answer new k here h holds = absurd h
  block_looked s v l (Some text) answer new k here h holds =
      let m = held_too s text k (here text (inl refl)) in
      looked (holding s text) v l.question answer new m (among_after texts (holding s text).blocks new m.among holds) h

  given : (s : State) (v : AcceptedView) (l : Looking) (block : Option Bytes) (answer : Sees) (new : State) → Knows s → AreIn (option_to_list block) → Given s v l block answer new → LookHoldsAfter s block answer new → Knows new
  given s v l block (look.Need digest) new k here h holds = block_looked s v l block (look.Need digest) new k here h.1 holds
  given s v l block (look.File bytes) new k here h holds = block_looked s v l block (look.File bytes) new k here h.1 holds
  given s v l block (look.Dir entries) new k here h holds = block_looked s v l block (look.Dir entries) new k here h.1 holds
  given s v l block look.None new k here h holds = block_looked s v l block look.None new k here h.1 holds
  given s v l block (look.Kind kind) new k here h holds = block_looked s v l block (look.Kind kind) new k here h.1 holds
  given s v l block (look.Free found) new k here h holds = block_looked s v l block (look.Free found) new k here h.1 holds
  given s v l block (look.Broken rule) new k here h holds = subst (λ (n : State). Knows n) (sym h.1) k

  -- ---- calls

  module _ (s new : State) (k : Knows s) where
    same : new ≡ s → Knows new
    same is = subst (λ (n : State). Knows n) (sym is) k

    begins : (changes : List (Change Digest)) (laid : List Bytes) (answer : Result Bytes ClientError) → AreIn (unless_memory answer laid) → HasBegun s changes laid answer new → Knows new
    begins changes laid answer inside b = go answer inside b
      where
        laid_too : AreIn laid → LaysOut s laid new.blocks → AmongNew new
        laid_too all kept = among_laid texts s laid new.blocks all k.among kept

        go : (a : Result Bytes ClientError) → AreIn (unless_memory a laid) → HasBegun s changes laid a new → Knows new
        go (Ok text) all h = subst (λ (n : State). Knows n) (sym h.declared.2) (record { pinned = k.pinned; among = laid_too all h.kept; checked = tt; accepted = tt })
        go (Err error.Device) all h = subst (λ (n : State). Knows n) (sym (h.fails refl)) (record { pinned = k.pinned; among = laid_too all (h.kept_device refl); checked = tt; accepted = tt })
        go (Err error.Memory) all h = same (h.err (λ d. cc d))
        go (Err error.NoLeaf) all h = same (h.err (λ d. cc d))
        go (Err error.NoNumber) all h = same (h.err (λ d. cc d))
        go (Err error.NoKey) all h = same (h.err (λ d. cc d))
        go (Err error.Foreign) all h = same (h.err (λ d. cc d))
        go (Err error.Damaged) all h = same (h.err (λ d. cc d))

    resigns : (n : ℕ) (answer : Result Bytes ClientError) → HasResigned s n answer new → Knows new
    resigns n answer b = go answer b
      where
        go : (a : Result Bytes ClientError) → HasResigned s n a new → Knows new
        go (Ok text) h = subst (λ (m : State). Knows m) (sym h.resigned.2) (record { pinned = k.pinned; among = k.among; checked = tt; accepted = tt })
        go (Err error.Device) h = subst (λ (m : State). Knows m) (sym (h.fails refl)) (record { pinned = k.pinned; among = k.among; checked = tt; accepted = tt })
        go (Err error.Memory) h = same (h.err (λ d. cc d))
        go (Err error.NoLeaf) h = same (h.err (λ d. cc d))
        go (Err error.NoNumber) h = same (h.err (λ d. cc d))
        go (Err error.NoKey) h = same (h.err (λ d. cc d))
        go (Err error.Foreign) h = same (h.err (λ d. cc d))
        go (Err error.Damaged) h = same (h.err (λ d. cc d))

    hears : (text : Bytes) (answer : Result Asks ClientError) → AreIn (blocks_by (Hears text answer)) → HasHeard s text answer new → Knows new
    hears text (Ok step) inside h = judged s text step new k inside h.judged h.held
    hears text (Err e) inside h = same h.err

    takes : (block : Option Bytes) (answer : Result Asks ClientError) → AreIn (blocks_by (Takes block answer)) → HasTaken s block answer new → Knows new
    takes block (Err e) inside h = same h.err
    takes block (Ok step) inside h = go s.checked h.wants h.handed k.checked
      where
        here : AreIn (option_to_list block)
        here t i = inside t (in-left t (option_to_list block) (stored_texts (Ok step)) i)

        stored : AreIn (stored_texts (Ok step))
        stored t i = inside t (in-right t (option_to_list block) (stored_texts (Ok step)) i)

        go : (c : Option Checked) → IsSome c → IfSome c (λ c. Handed s c block step new) → IfSome c IsUnder → Knows new
        go None some h u = absurd (cc some)
        go (Some c) some handed_so u = handed s c block step new k u here stored handed_so h.held

    signs : (answer : Result Bytes ClientError) → HasSigned s answer new → Knows new
    signs (Ok text) h = go s.accepted h.ready h.signed
      where
        go : (y : Option Ready) → IsSome y → IfSome y (λ r. (leaf : LeafNumber) × IsKept leaf (structure_record (signed_text s leaf r)) (under (signing_key s r) s.devices) (under (signing_key s r) new.devices) × (new ≡ over_blocks new.blocks (on new.devices (signed_over s leaf r)))) → Knows new
        go None some h = absurd (cc some)
        go (Some y) some signed_so = subst (λ (n : State). Knows n) (sym signed_so.2) (record { pinned = k.pinned; among = among_part texts s.blocks new.blocks k.among h.gone.known; checked = tt; accepted = tt })
    signs (Err error.Device) h = subst (λ (n : State). Knows n) (sym (h.fails refl)) (record { pinned = k.pinned; among = k.among; checked = tt; accepted = tt })
    signs (Err error.Memory) h = same (h.err (λ d. cc d))
    signs (Err error.NoLeaf) h = same (h.err (λ d. cc d))
    signs (Err error.NoNumber) h = same (h.err (λ d. cc d))
    signs (Err error.NoKey) h = same (h.err (λ d. cc d))
    signs (Err error.Foreign) h = same (h.err (λ d. cc d))
    signs (Err error.Damaged) h = same (h.err (λ d. cc d))

    commits : (st : Status) → new ≡ committed st s → Knows new
    commits status.Ok is = subst (λ (n : State). Knows n) (sym is) (record { pinned = k.pinned; among = k.among; checked = k.checked; accepted = k.accepted })
    commits other is = same is

    looks : (q : Question) (answer : Result Sees ClientError) → HasLooked s q answer new → Knows new
    looks q (Err e) h = same h.err
    looks q (Ok answer) h = go s.view h.sees h.looked
      where
        go : (view : Option AcceptedView) → IsSome view → IfSome view (λ v. Looked s v q answer new) → Knows new
        go None some h = absurd (cc some)
        go (Some v) some told_so = answered answer h.held told_so
          where
            answered : (a : Sees) → LookHoldsAfter s None a new → Looked s v q a new → Knows new
            answered (look.Broken rule) held none = absurd none
            answered a held so = looked s v q a new k (look_among s None a new k.among (λ rule is. subst (λ (b : Sees). Looked s v q b new) is so) held) so

    gives : (block : Option Bytes) (answer : Result Sees ClientError) → AreIn (blocks_by (Gives block answer)) → HasGiven s block answer new → Knows new
    gives block (Err e) here h = same h.err
    gives block (Ok answer) here h = go s.view h.looks h.given
      where
        looking : (v : AcceptedView) (l : Option Looking) → IsSome l → IfSome l (λ x. Given s v x block answer new) → Knows new
        looking v None some h = absurd (cc some)
        looking v (Some l) some told_so = given s v l block answer new k here told_so h.held

        go : (view : Option AcceptedView) → IsSomeAnd view (λ v. IsSome v.looking) → IfSome view (λ v. IfSome v.looking (λ l. Given s v l block answer new)) → Knows new
        go None some h = absurd some
        go (Some v) some h = looking v v.looking some h

    caches : (capacity : ℕ) → HasCached s capacity new → Knows new
    caches capacity h =
        subst (λ (n : State). Knows n) (sym h.state) (record {
          pinned = k.pinned;
          among = sized (is_under_way s);
          checked = k.checked;
          accepted = k.accepted;
        })
      where
        sized : (under : Bool) → AreAmong texts (known_blocks (if under then with_capacity_later capacity s.blocks else with_capacity capacity s.blocks))
        sized true = among_same texts s.blocks (with_capacity_later capacity s.blocks) k.among (known-later s.blocks capacity)
        sized false = among_part texts s.blocks (with_capacity capacity s.blocks) k.among (knows_part_cached s.blocks capacity)

  -- ---- steps

  opens : (o : Owner) (s : State) → o.pinned ≡ key → AreIn (first_texts key) → s.pinned ≡ o.pinned → s.blocks ≡ at_first (first_blocks o.pinned) → s.checked ≡ None → s.accepted ≡ None → Knows s
  unfolding first_blocks
  opens o s own inside pinned blocks checked accepted = record {
    pinned = pinned ∙ own;
    among =
        subst (λ (f : Blocks). AreAmong texts f) (sym (ap known_blocks blocks ∙ known-at_first (first_blocks o.pinned) ∙ ap (λ (p : Key). held (first_blocks p)) own))
        (among_all_kept texts [] (first_texts key) inside (among_none texts));
    checked = subst (λ (c : Option Checked). IfSome c IsUnder) (sym checked) tt;
    accepted = subst (λ (y : Option Ready). IfSome y IsReady) (sym accepted) tt;
  }

  pub step : (o : Owner) → o.pinned ≡ key → AreIn (first_texts key) → (before : Client) (call : Call) (after : Client) → AreIn (blocks_by call) → IsStep o before call after → KnowsClient before → KnowsClient after
  step o own first (Closed p) (Opens (Ok x)) (Open s) inside is k =
      opens o s own first (ap (λ (n : State). n.pinned) is.state) (ap (λ (n : State). n.blocks) is.state) (ap (λ (n : State). n.checked) is.state) (ap (λ (n : State). n.accepted) is.state)
  step o own first (Closed p) (Opens (Err e)) (Closed q) inside is k = tt
  step o own first (Closed p) Gains (Closed q) inside is k = tt
  step o own first (Closed p) Crashes (Closed q) inside is k = tt
  step o own first (Closed p) call after inside is k = absurd is
  step o own first (Open s) Closes (Closed p) inside is k = tt
  step o own first (Open s) Crashes (Closed p) inside is k = tt
  step o own first (Open s) (Begins changes laid answer) (Open new) inside is k = begins s new k changes laid answer inside is
  step o own first (Open s) (Resigns n answer) (Open new) inside is k = resigns s new k n answer is
  step o own first (Open s) (Hears text answer) (Open new) inside is k = hears s new k text answer inside is
  step o own first (Open s) (Takes block answer) (Open new) inside is k = takes s new k block answer inside is
  step o own first (Open s) (Signs answer) (Open new) inside is k = signs s new k answer is
  step o own first (Open s) (Commits st) (Open new) inside is k = commits s new k st is.state
  step o own first (Open s) (Looks q answer) (Open new) inside is k = looks s new k q answer is
  step o own first (Open s) (Gives block answer) (Open new) inside is k = gives s new k block answer inside is
  step o own first (Open s) (Caches capacity) (Open new) inside is k = caches s new k capacity is
  step o own first (Open s) call after inside is k = absurd is

  -- ---- views

  -- the reply that is accepted has the structure that was signed last
  abbrev pub HasLast : State → Ready → Type 0
  HasLast s y = (y.lists.own.plan.user ≡ s.user) × (option_map value_of (shown_of s.user y.lists.structures) ≡ option_map value_of s.last)

  abbrev pub ClientHasLast : Client → Type 0
  ClientHasLast (Closed p) = Unit {0}
  ClientHasLast (Open s) = IfSome s.accepted (HasLast s)

  hand_known : (s : State) → Knows s → IfSome s.accepted (HasLast s) → IfSome (option_map (over s) s.accepted) IsKnown
  hand_known s k l = go s.accepted k.accepted l
    where
      go : (y : Option Ready) → IfSome y IsReady → IfSome y (HasLast s) → IfSome (option_map (over s) y) IsKnown
      go None h l = tt
      go (Some y) h l = record {
        records = y.records;
        lost = y.lost;
        made = h;
        last = s.last;
        last_is = ap (λ (u : User). option_map value_of (shown_of u y.lists.structures)) l.0 ∙ l.1;
        groups_are = refl;
      }

  in_hand_known : (before : Client) → KnowsClient before → ClientHasLast before → IfSome (in_hand before) IsKnown
  in_hand_known (Closed p) k l = tt
  in_hand_known (Open s) k l = hand_known s k l

  pub tries : (call : Call) (before : Client) (tried : Option View) → KnowsClient before → ClientHasLast before → IfSome tried IsKnown → IfSome (tried_by call before tried) IsKnown
  tries (Signs (Err error.Device)) before tried k l t = in_hand_known before k l
  tries (Opens (Ok x)) before tried k l t = tt
  tries call before tried k l t = t

  listed : (v : Option View) → IfSome v IsKnown → (x : View) → In x (option_to_list v) → IsKnown x
  listed None h x i = absurd i
  listed (Some y) h x (inl e) = subst (λ (v : View). IsKnown v) (sym e) h
  listed (Some y) h x (inr none) = absurd none

  found : (f : Phase) (v : Option View) → IfSome v IsKnown → (x : View) → In x (where_signed f v) → IsKnown x
  found phase.Signed v h x i = listed v h x i
  found other v h x i = absurd i

  pub accepts : (call : Call) (before after : Client) (tried : Option View) → KnowsClient before → ClientHasLast before → IfSome tried IsKnown → (x : View) → In x (accepted_by call before after tried) → IsKnown x
  accepts (Signs (Ok text)) before after tried k l t x i = listed (in_hand before) (in_hand_known before k l) x i
  accepts (Opens (Ok u)) before (Closed p) tried k l t x i = absurd i
  accepts (Opens (Ok u)) before (Open s) tried k l t x i = found s.phase tried t x i
  accepts call before after tried k l t x i = absurd i

-- ---- the structure that was signed last

last_fits : (o : low.Owner) (story : List Release) → IsStory o story → IfSome (last_in o story) (λ z. structure.Fits z.value)
last_fits o [] is = tt
last_fits o (OfCert n c q ∷ older) is = last_fits o older is.1
last_fits o (OfStructure n z q ∷ older) is = is.0.next.fits

module _ (texts : List Bytes) (apart : NoneCollide texts texts) (key : Key) (keys : Keys) (u : User) (run : List Event) (is : IsRun keys run) where
  open_has_last : (s : State) (signed : List Structure) (view : Option View) → Holds (owner keys u) run (Open s) (released u run) signed view → IfSome s.accepted (HasLast texts apart key s)
  open_has_last s signed view h = go s.accepted refl h.own.replies.accepted
    where
      go : (o : Option Ready) → s.accepted ≡ o → IfSome o (λ y. IsGoodBy run (known s) y.lists y.table) → IfSome o (HasLast texts apart key s)
      go None none good = tt
      go (Some y) ready good =
          let of = of_declared s s y ready h.own.always in
          let up : s.phase ≡ phase.Failed → ⊥ = λ down. let two : phase.Declared ≡ phase.Failed = sym of.is_declared ∙ down in cc two in
          let at = h.low.own.stands up in
          let fits = subst (λ (l : Option (Signed Structure)). IfSome l (λ z. structure.Fits z.value)) (sym at.last) (last_fits (low_owner (owner keys u)) h.story h.low.is_story) in
          (of.user, own_last_is s.user s.last (of_lists y.lists) good.judged.fits fits (unbroken (known s) (of_lists y.lists) good.judged.unbroken).last_is)

  pub has_last : ClientHasLast texts apart key (client_of u run)
  has_last = go (client_of u run) (signed_of u run) (tried_view u run) (holds_at keys u run is)
    where
      go : (c : Client) (signed : List Structure) (view : Option View) → Holds (owner keys u) run c (released u run) signed view → ClientHasLast texts apart key c
      go (Closed p) signed view h = tt
      go (Open s) signed view h = open_has_last s signed view h

-- ---- runs

module _ (keys : Keys) (texts : List Bytes) (apart : NoneCollide texts texts) (first : AreIn texts apart (pinned_key keys) (first_texts (pinned_key keys))) where
  abbrev key : Key
  key = pinned_key keys

  abbrev AreHashed : List Event → Type 0
  AreHashed run = (t : Bytes) → In t (flat_map hashed_at run) → In t texts

  -- so are all that are blocks
  abbrev pub AreBlocks : List Event → Type 0
  AreBlocks run = (t : Bytes) → In t (flat_map blocks_at run) → In t texts

  -- what each client holds, and the view over which it tried to sign
  pub known_by_blocks : (u : User) (run : List Event) → IsRun keys run → AreBlocks run → KnowsClient texts apart key (client_of u run) × IfSome (tried_view u run) (IsKnown texts apart key)
  known_by_blocks u [] is inside = (tt, tt)
  known_by_blocks u (e ∷ older) is inside =
      go (e.user == u) refl (known_by_blocks u older is.2 (λ t i. inside t (in-right t (blocks_at e) (flat_map blocks_at older) i)))
    where
      here : AreIn texts apart key (blocks_by e.call)
      here t i = inside t (in-left t (blocks_at e) (flat_map blocks_at older) i)

      go : (b : Bool) → (e.user == u) ≡ b → KnowsClient texts apart key (client_of u older) × IfSome (tried_view u older) (IsKnown texts apart key)
          → KnowsClient texts apart key (if b then e.after else client_of u older) × IfSome (if b then tried_by e.call (client_of u older) (tried_view u older) else tried_view u older) (IsKnown texts apart key)
      go true same k =
          let is_step = subst (λ (v : User). IsStep (owner keys v) (client_of v older) e.call e.after) (eqb-true e.user u same) is.0 in
          (step texts apart key (owner keys u) refl first (client_of u older) e.call e.after here is_step k.0, tries texts apart key e.call (client_of u older) (tried_view u older) k.0 (has_last texts apart key keys u older is.2) k.1)
      go false other k = k

  pub known_at : (u : User) (run : List Event) → IsRun keys run → AreHashed run → KnowsClient texts apart key (client_of u run) × IfSome (tried_view u run) (IsKnown texts apart key)
  known_at u run is inside = known_by_blocks u run is (λ t i. inside t (are_hashed run t i))

  pub views_known : (run : List Event) → IsRun keys run → AreBlocks run → (x : View) → In x (views run) → IsKnown texts apart key x
  views_known [] is inside x i = absurd i
  views_known (e ∷ older) is inside x i =
      let before = λ (t : Bytes) (j : In t (flat_map blocks_at older)). inside t (in-right t (blocks_at e) (flat_map blocks_at older) j) in
      let k = known_by_blocks e.user older is.2 before in
      elim (in-append x (accepted_by e.call (client_of e.user older) e.after (tried_view e.user older)) (views older) i) [
        | inl here ↦ accepts texts apart key e.call (client_of e.user older) e.after (tried_view e.user older) k.0 (has_last texts apart key keys e.user older is.2) k.1 x here
        | inr there ↦ views_known older is.2 before x there
      ]

  pub all_known : (run : List Event) → IsRun keys run → AreHashed run → (x : View) → In x (views run) → IsKnown texts apart key x
  all_known run is inside = views_known run is (λ t i. inside t (are_hashed run t i))
