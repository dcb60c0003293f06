-- What a client asks for is among the stored texts, and is what its place takes: so no block is refused that the store hands
-- out. A client never asks for the texts of the beginning, which it holds.
use Rattle.std.proofs.Common.{◌≡◌, ℕ, ◌+◌, ◌<◌, Bool, true, false, ◌==◌, ◌&&◌, List, [], ◌∷◌, ◌++◌, take, Option, Some, None, Result, Ok, Err, IfSome, IsSome, IsSomeAnd, refl, sym, ap, ◌∙◌, subst, inl, inr, option_to_list, arith}
use Rattle.std.specs.Prelude.{◌⊎◌, ◌||◌, MatchBool, is_some, length, not, nat_lt, if◌then◌else◌}
use Rattle.std.specs.Option.{option_and_then, option_map_or}
use Rattle.std.specs.Str.{bytes_eq}
use Rattle.std.proofs.lemmas.Slice.Eq.{bytes_eq-Decides}
use Rattle.layout.specs.Format.{Format}
use Rattle.layout.specs.Hash.{hash}
use Rattle.layout.specs.Types.{Bytes, Digest, Key}
use Rattle.leaf_ledger.specs.Ledger.{LeafNumber}
use Rattle.itable.specs.File.{NoneCollide}
use Rattle.itable.specs.Inode.{Inode, block_count}
use Rattle.directory.specs.Directory.{directory}
use Rattle.principals.specs.Table.{genesis}
use Rattle.principals.specs.Table as principals
use Rattle.principals.specs.TableText.{table}
use Rattle.update_cert.specs.Cert.{cert}
use Rattle.update_cert.specs.Change.{Change}
use Rattle.tree_parts.specs.Blocks.{Blocks, inode_at, joined, of_size}
use Rattle.tree_parts.specs.Spot.{completes, is_block_of, is_of_file, lacks, size_of_block, takes, takes_block, takes_table_block, takes_file_block}
use Rattle.tree_parts.specs.declared.spot.Spot.{Spot}
use Rattle.tree_parts.specs.declared.spot.Spot.TheVariants as spot
use Rattle.pending_list.specs.Groups.{groups, raises_at, table_version}
use Rattle.pending_list.specs.Reply.{Reply}
use Rattle.reply_rules.specs.Broken.{least}
use Rattle.reply_rules.specs.Lists.{Lists, lists_of}
use Rattle.reply_rules.specs.declared.rule.Rule.TheVariants as rule
use Rattle.client_tree.specs.Genesis.{first_blocks, first_texts}
use Rattle.client_tree.specs.Held.{Block, held}
use Rattle.client_tree.specs.Principals.{IsOfNamed}
use Rattle.client_tree.specs.Questions.{IsAskedBy}
use Rattle.client_tree.specs.Tree.{IsWanted}
use Rattle.client_tree.specs.View.{handle_in, written}
use Rattle.client_tree.specs.declared.questions.Question.{Question}
use Rattle.checked_blocks.specs.CheckedBlocks.{CheckedBlocks, LetsGo, TakesUp, at_first, holding as with_held, known_blocks, with_capacity, with_capacity_later}
use Rattle.checked_blocks.specs.CheckedBlocks as checked_blocks
use Rattle.checked_blocks.proofs.BlockLaws.{first-holding, known-later, known_first, with_old}
use Rattle.reply_check.specs.AskedBlock.{block, block_breaks, content, is_only}
use Rattle.reply_check.specs.FirstBroken.{reply_in, view_over}
use Rattle.reply_check.specs.Good.{Good, view_of}
use Rattle.reply_check.specs.declared.asked.Asked.{Asked}
use Rattle.wire.specs.declared.kinds.Status.{Status}
use Rattle.wire.specs.declared.kinds.Status.TheVariants as status
use Rattle.client_releases.specs.declared.error.ClientError.{ClientError}
use Rattle.client_releases.specs.declared.error.ClientError.TheVariants as error
use Rattle.client_releases.specs.Releasing.{IsKept, structure_record, under}
use Rattle.client_verify.specs.declared.look.Look.TheVariants as look
use Rattle.client_verify.specs.declared.step.Step.TheVariants.{Need, Store, Broken}
use Rattle.client_verify.specs.declared.view.Looking.{Looking}
use Rattle.client_verify.specs.Holding.{HoldsAfter, HoldsMeanwhile, LaysOut, LookHoldsAfter, is_under_way}
use Rattle.client_verify.specs.Judged.{AsksOrAccepts, GoesOn, Handed, Judged, Taken}
use Rattle.client_verify.specs.Looked.{Given, Looked}
use Rattle.client_verify.specs.State.{AcceptedView, Checked, Reading, Ready, State, Writing, asked_of, blocks_with, committed, holding, lists_under, on, over, signed_over, signed_text, signing_key}
use Rattle.client_verify.proofs.GenesisLaws.{held_at_first}
use Rattle.client_steps.specs.Steps.{Asks, Begins, Caches, Call, Client, Closed, Closes, Commits, Crashes, Gains, Gives, HasBegun, HasCached, HasGiven, HasHeard, HasLooked, HasResigned, HasSigned, HasTaken, Hears, IsStep, Looks, Open, Opens, Owner, Resigns, Sees, Signs, Takes, principal_of}
use Rattle.agreement.proofs.Formed.{cert_user}
use Rattle.agreement.proofs.Members.{In, contains_in, in-append, in-filter, in-left, in-right, in_contains}
use Rattle.fork_consistency.proofs.AllWhole.{group_low}
use Rattle.fork_consistency.proofs.Among.{AreAmong, AreWithin, among_kept, inode_within, joined_within}
use Rattle.fork_consistency.proofs.Backed.{IsBacked, serve_look, serve_wanted}
use Rattle.fork_consistency.proofs.BlocksOf.{blocks_by}
use Rattle.fork_consistency.proofs.Served.{IsFilled, IsServed, both_true, serve_named}

-- ---- with more blocks

some_true : {A : Type 0} (g h : A → Bool) (o p : Option A) → ((x : A) → o ≡ Some x → p ≡ Some x) → ((x : A) → g x ≡ true → h x ≡ true) → option_map_or g o false ≡ true → option_map_or h p false ≡ true
some_true g h None p within more e = absurd (cc e)
some_true g h (Some x) p within more e = ap (λ o. option_map_or h o false) (within x refl) ∙ more x e

and_more : (a b c : Bool) → (b ≡ true → c ≡ true) → (a && b) ≡ true → (a && c) ≡ true
and_more true b c more e = more e
and_more false b c more e = absurd (cc e)

or_more : (a b c : Bool) → (b ≡ true → c ≡ true) → (a || b) ≡ true → (a || c) ≡ true
or_more true b c more e = refl
or_more false b c more e = more e

module _ (some all : Blocks) (within : AreWithin some all) where
  block_within : {T : Type 0} (f : Format T) (k : ℕ) (text : Bytes) (n : Inode) → is_block_of f some k text n ≡ true → is_block_of f all k text n ≡ true
  block_within f k text n =
      let long = length text == size_of_block n.size k in
      let later = nat_lt (k + 1) (block_count n.size) in
      and_more (nat_lt k (block_count n.size)) (long && (later || completes f some n k text)) (long && (later || completes f all n k text))
      (and_more long (later || completes f some n k text) (later || completes f all n k text)
      (or_more later (completes f some n k text) (completes f all n k text)
      (some_true (λ before. is_some (of_size f n.size (before ++ text))) (λ before. is_some (of_size f n.size (before ++ text))) (joined some (take k n.blocks)) (joined all (take k n.blocks)) (joined_within some all within (take k n.blocks)) (λ x e. e))))

  -- what a place takes it takes with more blocks
  takes_within : (s : Spot) (text : Bytes) → takes some s text ≡ true → takes all s text ≡ true
  unfolding takes
  takes_within (spot.Root p) text e = e
  takes_within (spot.Chunk p n) text e = e
  takes_within (spot.Inode p i) text e = e
  takes_within (spot.File d k) text e = some_true (takes_file_block k text) (takes_file_block k text) (inode_at some d) (inode_at all d) (inode_within some all within d) (λ n e. e) e
  takes_within (spot.Directory d k) text e =
      some_true (takes_block some k text) (takes_block all k text) (inode_at some d) (inode_at all d) (inode_within some all within d)
      (λ n. and_more (not (is_of_file n.kind)) (is_block_of directory some k text n) (is_block_of directory all k text n) (block_within directory k text n)) e
  takes_within (spot.Table d k) text e =
      some_true (takes_table_block some k text) (takes_table_block all k text) (inode_at some d) (inode_at all d) (inode_within some all within d)
      (λ n. and_more (is_of_file n.kind) (is_block_of table some k text n) (is_block_of table all k text n) (block_within table k text n)) e

  pub served_within : (texts : List Bytes) (digest : Digest) (s : Spot) → IsServed texts some digest s → IsServed texts all digest s
  served_within texts digest s w = record { text = w.text; there = w.there; named = w.named; taken = takes_within s w.text w.taken }

-- with more texts
pub served_among : (texts more : List Bytes) → ((t : Bytes) → In t texts → In t more) → (blocks : Blocks) (digest : Digest) (s : Spot) → IsServed texts blocks digest s → IsServed more blocks digest s
served_among texts more into blocks digest s w = record { text = w.text; there = into w.text w.there; named = w.named; taken = w.taken }

within_held : (blocks : CheckedBlocks) (text : Bytes) → AreWithin (known_blocks blocks) (known_blocks (with_held blocks text))
within_held blocks text d x is = sym (with_old blocks text d x is)

-- ---- nothing is under way

none_checked : (c : Option Checked) (looks : Bool) (P : Checked → Type 0) → (is_some c || looks) ≡ false → IfSome c P
none_checked None looks P is = tt
none_checked (Some c) looks P is = absurd (cc is)

looks_not : (checks looks : Bool) → (checks || looks) ≡ false → looks ≡ false
looks_not true looks is = absurd (cc is)
looks_not false looks is = is

none_looks : (o : Option AcceptedView) (P : AcceptedView → Looking → Type 0) → option_map_or (λ v. is_some v.looking) o false ≡ false → IfSome o (λ v. IfSome v.looking (P v))
none_looks None P is = tt
none_looks (Some v) P is = go v.looking is
  where
    go : (l : Option Looking) → is_some l ≡ false → IfSome l (P v)
    go None is = tt
    go (Some l) is = absurd (cc is)

-- ---- a block that is handed in

both_hold : (a b : Bool) → a ≡ true → b ≡ true → least ((rule.Block, a) ∷ (rule.Content, b) ∷ []) ≡ None
both_hold a b is also = rw (is, also) refl

-- Where the store has what is asked for under its digest, what it hands out breaks neither rule on blocks.
pub handed_right : (texts put : List Bytes) → NoneCollide texts texts → ((t : Bytes) → In t put → In t texts) → (blocks : Blocks) → AreAmong texts blocks → (a : Asked) → IsServed put blocks a.digest a.spot
    → (store : Blocks) → ((t : Bytes) → In t put → store (hash t) ≡ Some t) → (handed : Option Bytes) → store a.digest ≡ handed → block_breaks blocks a handed ≡ None
handed_right texts put apart into blocks among a w store stored handed is =
    let found : Some w.text ≡ handed = sym (stored w.text w.there) ∙ ap store w.named ∙ is in
    subst (λ (o : Option Bytes). block_breaks blocks a o ≡ None) found (both_hold (block blocks a (Some w.text)) (content blocks a (Some w.text)) block_is w.taken)
  where
    only : (o : Option Bytes) → blocks (hash w.text) ≡ o → option_map_or (λ held. bytes_eq held w.text) o true ≡ true
    only None at = refl
    only (Some y) at =
        let of = among (hash w.text) y at in
        (bytes_eq-Decides y w.text).1 (apart y w.text (in_contains y texts of.0) (in_contains w.text texts (into w.text w.there)) of.1)

    block_is : block blocks a (Some w.text) ≡ true
    block_is = both_true (bytes_eq (hash w.text) a.digest) (is_only blocks w.text) ((bytes_eq-Decides (hash w.text) a.digest).1 w.named) (only (blocks (hash w.text)) refl)

-- ---- what a client asks for

module _ (put : List Bytes) (key : Key) (apart : NoneCollide (put ++ first_texts key) (put ++ first_texts key)) where
  abbrev pub known_texts : List Bytes
  known_texts = put ++ first_texts key

  abbrev pub AsksServed : Blocks → Asked → Type 0
  AsksServed blocks a = IsServed put blocks a.digest a.spot

  -- the texts of the beginning are known for good, and what a look asks for is stored
  pub record Keeps (s : State) : Type 0 where
    pub firsts : (t : Bytes) → In t (first_texts key) → held s.blocks.first (hash t) ≡ Some t
    pub looking : IfSome s.view (λ v. IfSome v.looking (λ l. AsksServed (known_blocks s.blocks) l.asked × (principal_of l.question < 96)))

  -- and so is what a reply under check asks for
  pub record Serves (s : State) : Type 0 where
    pub keeps : Keeps s
    pub checked : IfSome s.checked (λ c. AsksServed (known_blocks s.blocks) (asked_of c))

  abbrev pub ServesClient : Client → Type 0
  ServesClient (Closed p) = Unit {0}
  ServesClient (Open s) = Serves s

  -- the parts of these lists stand on what is among the texts
  pub record IsInHand (x : Lists) : Type 0 where
    pub backed : (t : principals.Table) → IsBacked known_texts (view_over key t x)
    pub own : cert.Fits x.own.cert

  -- ---- what isn't held was put into the store

  stored : (blocks : Blocks) → ((t : Bytes) → In t (first_texts key) → blocks (hash t) ≡ Some t) → (digest : Digest) (s : Spot) → IsServed known_texts blocks digest s → lacks blocks digest s ≡ true → IsServed put blocks digest s
  stored blocks firsts digest s w missing = go (in-append w.text put (first_texts key) w.there)
    where
      go : In w.text put ⊎ In w.text (first_texts key) → IsServed put blocks digest s
      go (inl there) = record { text = w.text; there = there; named = w.named; taken = w.taken }
      go (inr first) =
          let here : blocks digest ≡ Some w.text = ap blocks (sym w.named) ∙ firsts w.text first in
          let has : lacks blocks digest s ≡ false = ap (λ (o : Option Bytes). not (option_map_or (takes blocks s) o false)) here ∙ ap not w.taken in
          absurd (let clash : true ≡ false = sym missing ∙ has in cc clash)

  written_low : (x : Lists) → cert.Fits x.own.cert → (t : principals.Table) (p : ℕ) → In p (written (view_over key t x)) → p < 96
  written_low x fits t p (inl e) = let low = cert_user x.own.cert fits in omega (arith, e, low)
  written_low x fits t p (inr i) =
      let low = group_low 32 p (in-filter (raises_at t (table_version x.own.plan) x.own.cert) p groups i).0 in
      omega (arith, low)

  -- ---- what is known after a call

  -- where the same is known
  serves_same : (b : CheckedBlocks) (n : State) → n.blocks.first ≡ b.first → known_blocks n.blocks ≡ known_blocks b → Serves (over b n) → Serves n
  serves_same b n first known k = record {
    keeps = record {
      firsts = λ t i. subst (λ (f : List Block). held f (hash t) ≡ Some t) (sym first) (k.keeps.firsts t i);
      looking = subst (λ (f : Blocks). IfSome n.view (λ v. IfSome v.looking (λ l. AsksServed f l.asked × (principal_of l.question < 96)))) (sym known) k.keeps.looking;
    };
    checked = subst (λ (f : Blocks). IfSome n.checked (λ c. AsksServed f (asked_of c))) (sym known) k.checked;
  }

  -- where nothing is under way
  serves_none : (b : CheckedBlocks) (n : State) → n.blocks.first ≡ b.first → is_under_way n ≡ false → Serves (over b n) → Serves n
  serves_none b n first none k = record {
    keeps = record {
      firsts = λ t i. subst (λ (f : List Block). held f (hash t) ≡ Some t) (sym first) (k.keeps.firsts t i);
      looking =
          none_looks n.view (λ v l. AsksServed (known_blocks n.blocks) l.asked × (principal_of l.question < 96))
          (looks_not (is_some n.checked) (option_map_or (λ v. is_some v.looking) n.view false) none);
    };
    checked = none_checked n.checked (option_map_or (λ v. is_some v.looking) n.view false) (λ c. AsksServed (known_blocks n.blocks) (asked_of c)) none;
  }

  -- after an answer
  serves_after : (b : CheckedBlocks) (n : State) → HoldsMeanwhile b n → Serves (over b n) → Serves n
  serves_after b n holds k = go (is_under_way n) refl holds
    where
      go : (under : Bool) → is_under_way n ≡ under → MatchBool under (TakesUp b n.blocks) (LetsGo b n.blocks) → Serves n
      go true is taken = serves_same b n taken.first taken.known k
      go false is gone = serves_none b n gone.first is k

  module _ (s : State) (pinned : s.pinned ≡ key) (among : AreAmong known_texts (known_blocks s.blocks)) (keeps : Keeps s) where
    firsts_known : (t : Bytes) → In t (first_texts key) → known_blocks s.blocks (hash t) ≡ Some t
    firsts_known t i = sym (known_first s.blocks (hash t) t (sym (keeps.firsts t i)))

    goes : (good : Good) (step : Asks) (new : State) → IsInHand good.lists → AsksOrAccepts s good step new → Serves (over s.blocks new)
    goes good (Need digest) new hand h =
        subst (λ (n : State). Serves n) (sym (ap (over s.blocks) h.2))
        (record {
          keeps = record { firsts = keeps.firsts; looking = keeps.looking };
          checked =
              subst (λ (d : Digest). IsServed put (known_blocks s.blocks) d h.0.spot) (sym h.1)
              (stored (known_blocks s.blocks) firsts_known digest h.0.spot
              (serve_wanted known_texts apart (known_blocks s.blocks) among (view_over key good.table good.lists) (hand.backed good.table) (written_low good.lists hand.own good.table) digest h.0.spot
              (subst (λ (p : Key). IsWanted (known_blocks s.blocks) (view_of p good) digest h.0.spot) pinned h.3)) h.4);
        })
    goes good (Store texts) new hand h =
        subst (λ (n : State). Serves n) (sym (ap (over s.blocks) h.3)) (record { keeps = record { firsts = keeps.firsts; looking = keeps.looking }; checked = tt })
    goes good (Broken rule) new hand h = absurd h

    taken : (r : Reply) (x : Lists) (step : Asks) (new : State) → IsInHand x → Taken s r x step new → Serves (over s.blocks new)
    taken r x (Need digest) new hand (inl h) =
        let w : IsFilled known_texts 0 (handle_in key x.structures 0) = (hand.backed (genesis key)).handles 0 (omega arith) in
        subst (λ (n : State). Serves n) (sym (ap (over s.blocks) h.2))
        (record {
          keeps = record { firsts = keeps.firsts; looking = keeps.looking };
          checked =
              subst (λ (d : Digest). IsServed put (known_blocks s.blocks) d h.0.spot) (sym h.1)
              (stored (known_blocks s.blocks) firsts_known digest h.0.spot
              (serve_named known_texts apart (known_blocks s.blocks) among (handle_in key x.structures 0) w digest h.0.spot
              (subst (λ (p : Key). IsOfNamed (known_blocks s.blocks) (handle_in p x.structures 0) digest h.0.spot) pinned h.3)) h.4);
        })
    taken r x (Need digest) new hand (inr h) = goes h.0 (Need digest) new (subst IsInHand (sym h.1.0) hand) h.2
    taken r x (Store texts) new hand h = goes h.0 (Store texts) new (subst IsInHand (sym h.1.0) hand) h.2
    taken r x (Broken rule) new hand h = absurd h

    some_taken : (r : Reply) (lists : Option Lists) (step : Asks) (new : State) → IfSome lists IsInHand → IsSomeAnd lists (λ x. Taken s r x step new) → Serves (over s.blocks new)
    some_taken r None step new hand h = absurd h
    some_taken r (Some x) step new hand h = taken r x step new hand h

    goes_on : (c : Checked) (step : Asks) (new : State) → IfSome (lists_under c) IsInHand → GoesOn s c step new → Serves (over s.blocks new)
    goes_on (Reading r a) step new hand h = some_taken r (lists_of r) step new hand h
    goes_on (Writing x a) step new hand h = goes x step new hand h

    some_read : (reply : Option Reply) (step : Asks) (new : State) → IfSome (option_and_then lists_of reply) IsInHand → IsSomeAnd reply (λ r. IsSomeAnd (lists_of r) (λ x. Taken s r x step new)) → Serves (over s.blocks new)
    some_read None step new hand h = absurd h
    some_read (Some r) step new hand h = some_taken r (lists_of r) step new hand h

    looked : (checked : IfSome s.checked (λ c. AsksServed (known_blocks s.blocks) (asked_of c))) (v : AcceptedView) → IsBacked known_texts (view_over key v.table v.lists) → (q : Question) → principal_of q < 96 → (answer : Sees) (new : State) → Looked s v q answer new → Serves (over s.blocks new)
    looked checked v backed q low (look.Need digest) new h =
        subst (λ (n : State). Serves n) (sym (ap (over s.blocks) h.2))
        (record {
          keeps = record {
            firsts = keeps.firsts;
            looking = (
              subst (λ (d : Digest). IsServed put (known_blocks s.blocks) d h.0.spot) (sym h.1)
                  (stored (known_blocks s.blocks) firsts_known digest h.0.spot
                  (serve_look known_texts apart (known_blocks s.blocks) among (view_over key v.table v.lists) backed q low digest h.0.spot
                  (subst (λ (p : Key). IsAskedBy (known_blocks s.blocks) (view_over p v.table v.lists) q digest h.0.spot) pinned h.3)) h.4),
              low,
            );
          };
          checked = checked;
        })
    looked checked v backed q low (look.File bytes) new h = subst (λ (n : State). Serves n) (sym (ap (over s.blocks) h.0)) (record { keeps = record { firsts = keeps.firsts; looking = tt }; checked = checked })
    looked checked v backed q low (look.Dir entries) new h = subst (λ (n : State). Serves n) (sym (ap (over s.blocks) h.0)) (record { keeps = record { firsts = keeps.firsts; looking = tt }; checked = checked })
    looked checked v backed q low look.None new h = subst (λ (n : State). Serves n) (sym (ap (over s.blocks) h.0)) (record { keeps = record { firsts = keeps.firsts; looking = tt }; checked = checked })
    looked checked v backed q low (look.Kind kind) new h = subst (λ (n : State). Serves n) (sym (ap (over s.blocks) h.0)) (record { keeps = record { firsts = keeps.firsts; looking = tt }; checked = checked })
    looked checked v backed q low (look.Free found) new h = subst (λ (n : State). Serves n) (sym (ap (over s.blocks) h.0)) (record { keeps = record { firsts = keeps.firsts; looking = tt }; checked = checked })
    looked checked v backed q low (look.Broken rule) new h = absurd h

  -- ---- one block more

  more_looking : (some all : Blocks) → AreWithin some all → (view : Option AcceptedView) → IfSome view (λ v. IfSome v.looking (λ l. AsksServed some l.asked × (principal_of l.question < 96)))
      → IfSome view (λ v. IfSome v.looking (λ l. AsksServed all l.asked × (principal_of l.question < 96)))
  more_looking some all within None k = tt
  more_looking some all within (Some v) k = go v.looking k
    where
      go : (o : Option Looking) → IfSome o (λ l. AsksServed some l.asked × (principal_of l.question < 96)) → IfSome o (λ l. AsksServed all l.asked × (principal_of l.question < 96))
      go None k = tt
      go (Some l) k = (served_within some all within put l.asked.digest l.asked.spot k.0, k.1)

  more_checked : (some all : Blocks) → AreWithin some all → (c : Option Checked) → IfSome c (λ c. AsksServed some (asked_of c)) → IfSome c (λ c. AsksServed all (asked_of c))
  more_checked some all within None k = tt
  more_checked some all within (Some c) k = served_within some all within put (asked_of c).digest (asked_of c).spot k

  keeps_one_more : (s : State) (text : Bytes) → Keeps s → Keeps (holding s text)
  keeps_one_more s text k = record {
    firsts = λ t i. subst (λ (f : List Block). held f (hash t) ≡ Some t) (sym (first-holding s.blocks text)) (k.firsts t i);
    looking = more_looking (known_blocks s.blocks) (known_blocks (with_held s.blocks text)) (within_held s.blocks text) s.view k.looking;
  }

  -- where nothing is under way before an operation is declared, nothing is after
  begun_rests : (s n : State) → n.checked ≡ None → n.view ≡ s.view → is_under_way s ≡ false → is_under_way n ≡ false
  begun_rests s n checked view rests =
      let looks : option_map_or (λ v. is_some v.looking) n.view false ≡ false =
      ap (λ (o : Option AcceptedView). option_map_or (λ v. is_some v.looking) o false) view ∙ looks_not (is_some s.checked) (option_map_or (λ v. is_some v.looking) s.view false) rests in
      rw (checked, looks) refl

  module _ (s new : State) (pinned : s.pinned ≡ key) (among : AreAmong known_texts (known_blocks s.blocks)) (k : Serves s) where
    same : new ≡ s → Serves new
    same is = subst (λ (n : State). Serves n) (sym is) k

    begun : (laid : List Bytes) → new.checked ≡ None → new.view ≡ s.view → LaysOut s laid new.blocks → Serves new
    begun laid checked view kept = go (is_under_way s) refl kept
      where
        with_old_blocks : Serves (over s.blocks new)
        with_old_blocks = record {
          keeps = record {
            firsts = k.keeps.firsts;
            looking = subst (λ (o : Option AcceptedView). IfSome o (λ v. IfSome v.looking (λ l. AsksServed (known_blocks s.blocks) l.asked × (principal_of l.question < 96)))) (sym view) k.keeps.looking;
          };
          checked = subst (λ (o : Option Checked). IfSome o (λ c. AsksServed (known_blocks s.blocks) (asked_of c))) (sym checked) tt;
        }

        go : (under : Bool) → is_under_way s ≡ under → MatchBool under (new.blocks ≡ s.blocks) (checked_blocks.Keeps s.blocks laid new.blocks) → Serves new
        go true is same = serves_same s.blocks new (ap (λ (b : CheckedBlocks). b.first) same) (ap known_blocks same) with_old_blocks
        go false is kept = serves_none s.blocks new kept.first (begun_rests s new checked view is) with_old_blocks

    begins : (changes : List (Change Digest)) (laid : List Bytes) (answer : Result Bytes ClientError) → HasBegun s changes laid answer new → Serves new
    begins changes laid answer b = go answer b
      where
        go : (a : Result Bytes ClientError) → HasBegun s changes laid a new → Serves new
        go (Ok text) h = begun laid (ap (λ (n : State). n.checked) h.declared.2) (ap (λ (n : State). n.view) h.declared.2) h.kept
        go (Err error.Device) h = begun laid (ap (λ (n : State). n.checked) (h.fails refl)) (ap (λ (n : State). n.view) (h.fails refl)) (h.kept_device refl)
        go (Err error.Memory) h = same (h.err (λ d. cc d))
        go (Err error.NoLeaf) h = same (h.err (λ d. cc d))
        go (Err error.NoNumber) h = same (h.err (λ d. cc d))
        go (Err error.NoKey) h = same (h.err (λ d. cc d))
        go (Err error.Foreign) h = same (h.err (λ d. cc d))
        go (Err error.Damaged) h = same (h.err (λ d. cc d))

    resigns : (n : ℕ) (answer : Result Bytes ClientError) → HasResigned s n answer new → Serves new
    resigns n answer b = go answer b
      where
        go : (a : Result Bytes ClientError) → HasResigned s n a new → Serves new
        go (Ok text) h = subst (λ (m : State). Serves m) (sym h.resigned.2) (record { keeps = record { firsts = k.keeps.firsts; looking = k.keeps.looking }; checked = tt })
        go (Err error.Device) h = subst (λ (m : State). Serves m) (sym (h.fails refl)) (record { keeps = record { firsts = k.keeps.firsts; looking = k.keeps.looking }; checked = tt })
        go (Err error.Memory) h = same (h.err (λ d. cc d))
        go (Err error.NoLeaf) h = same (h.err (λ d. cc d))
        go (Err error.NoNumber) h = same (h.err (λ d. cc d))
        go (Err error.NoKey) h = same (h.err (λ d. cc d))
        go (Err error.Foreign) h = same (h.err (λ d. cc d))
        go (Err error.Damaged) h = same (h.err (λ d. cc d))

    judged : (text : Bytes) (step : Asks) → IfSome (option_and_then lists_of (reply_in text)) IsInHand → HoldsAfter s None step new → Judged s text step new → Serves new
    judged text (Broken rule) hand held h = same h.1
    judged text (Need digest) hand held h = serves_after s.blocks new held (some_read s pinned among k.keeps (reply_in text) (Need digest) new hand h.1)
    judged text (Store texts) hand held h = serves_after s.blocks new held (some_read s pinned among k.keeps (reply_in text) (Store texts) new hand h.1)

    hears : (text : Bytes) (answer : Result Asks ClientError) → IfSome (option_and_then lists_of (reply_in text)) IsInHand → HasHeard s text answer new → Serves new
    hears text (Ok step) hand h = judged text step hand h.held h.judged
    hears text (Err e) hand h = same h.err

    -- a block that is held then
    block_on : (c : Checked) (block : Option Bytes) (step : Asks) → IfSome (lists_under c) IsInHand → ((t : Bytes) → In t (option_to_list block) → In t known_texts) → HoldsMeanwhile (blocks_with s block) new
        → IsSomeAnd block (λ text. GoesOn (holding s text) c step new) → Serves new
    block_on c None step hand here held h = absurd h
    block_on c (Some text) step hand here held h =
        serves_after (with_held s.blocks text) new held
        (goes_on (holding s text) pinned (among_kept known_texts s.blocks text (here text (inl refl)) among) (keeps_one_more s text k.keeps) c step new hand h)

    handed : (c : Checked) (block : Option Bytes) (step : Asks) → IfSome (lists_under c) IsInHand → ((t : Bytes) → In t (option_to_list block) → In t known_texts) → HoldsAfter s block step new → Handed s c block step new → Serves new
    handed c block (Broken rule) hand here held h = same h.1
    handed c block (Need digest) hand here held h = block_on c block (Need digest) hand here held h.1
    handed c block (Store texts) hand here held h = block_on c block (Store texts) hand here held h.1

    takes_block_in : (block : Option Bytes) (answer : Result Asks ClientError) → IfSome s.checked (λ c. IfSome (lists_under c) IsInHand) → ((t : Bytes) → In t (blocks_by (Takes block answer)) → In t known_texts) → HasTaken s block answer new → Serves new
    takes_block_in block (Err e) hand here h = same h.err
    takes_block_in block (Ok step) hand here h = go s.checked h.wants hand h.handed
      where
        go : (o : Option Checked) → IsSome o → IfSome o (λ c. IfSome (lists_under c) IsInHand) → IfSome o (λ c. Handed s c block step new) → Serves new
        go None some hand so = absurd (cc some)
        go (Some c) some hand so = handed c block step hand (λ t i. here t (in-left t (option_to_list block) _ i)) h.held so

    -- an answer of a look
    looked_after : (v : AcceptedView) → IsBacked known_texts (view_over key v.table v.lists) → (q : Question) → principal_of q < 96 → (answer : Sees) → LookHoldsAfter s None answer new → Looked s v q answer new → Serves new
    looked_after v backed q low (look.Need digest) held h = serves_after s.blocks new held (looked s pinned among k.keeps k.checked v backed q low (look.Need digest) new h)
    looked_after v backed q low (look.File bytes) held h = serves_after s.blocks new held (looked s pinned among k.keeps k.checked v backed q low (look.File bytes) new h)
    looked_after v backed q low (look.Dir entries) held h = serves_after s.blocks new held (looked s pinned among k.keeps k.checked v backed q low (look.Dir entries) new h)
    looked_after v backed q low look.None held h = serves_after s.blocks new held (looked s pinned among k.keeps k.checked v backed q low look.None new h)
    looked_after v backed q low (look.Kind kind) held h = serves_after s.blocks new held (looked s pinned among k.keeps k.checked v backed q low (look.Kind kind) new h)
    looked_after v backed q low (look.Free found) held h = serves_after s.blocks new held (looked s pinned among k.keeps k.checked v backed q low (look.Free found) new h)
    looked_after v backed q low (look.Broken rule) held h = absurd h

    looks : (q : Question) (answer : Result Sees ClientError) → IfSome s.view (λ v. IsBacked known_texts (view_over key v.table v.lists)) → HasLooked s q answer new → Serves new
    looks q (Err e) backed h = same h.err
    looks q (Ok answer) backed h = go s.view h.sees backed h.looked
      where
        go : (o : Option AcceptedView) → IsSome o → IfSome o (λ v. IsBacked known_texts (view_over key v.table v.lists)) → IfSome o (λ v. Looked s v q answer new) → Serves new
        go None some backed l = absurd (cc some)
        go (Some v) some backed l = looked_after v backed q h.principal answer h.held l

    -- a block of a look
    looked_on : (v : AcceptedView) → IsBacked known_texts (view_over key v.table v.lists) → (l : Looking) → principal_of l.question < 96 → (block : Option Bytes) (answer : Sees) → ((t : Bytes) → In t (option_to_list block) → In t known_texts)
        → HoldsMeanwhile (blocks_with s block) new → IsSomeAnd block (λ text. Looked (holding s text) v l.question answer new) → Serves new
    looked_on v backed l low None answer here held h = absurd h
    looked_on v backed l low (Some text) answer here held h =
        serves_after (with_held s.blocks text) new held
        (looked (holding s text) pinned (among_kept known_texts s.blocks text (here text (inl refl)) among) (keeps_one_more s text k.keeps)
        (more_checked (known_blocks s.blocks) (known_blocks (with_held s.blocks text)) (within_held s.blocks text) s.checked k.checked) v backed l.question low answer new h)

    given : (v : AcceptedView) → IsBacked known_texts (view_over key v.table v.lists) → (l : Looking) → principal_of l.question < 96 → (block : Option Bytes) (answer : Sees) → ((t : Bytes) → In t (option_to_list block) → In t known_texts)
        → LookHoldsAfter s block answer new → Given s v l block answer new → Serves new
    given v backed l low block (look.Need digest) here held h = looked_on v backed l low block (look.Need digest) here held h.1
    given v backed l low block (look.File bytes) here held h = looked_on v backed l low block (look.File bytes) here held h.1
    given v backed l low block (look.Dir entries) here held h = looked_on v backed l low block (look.Dir entries) here held h.1
    given v backed l low block look.None here held h = looked_on v backed l low block look.None here held h.1
    given v backed l low block (look.Kind kind) here held h = looked_on v backed l low block (look.Kind kind) here held h.1
    given v backed l low block (look.Free found) here held h = looked_on v backed l low block (look.Free found) here held h.1
    given v backed l low block (look.Broken rule) here held h = same h.1

    gives : (block : Option Bytes) (answer : Result Sees ClientError) → IfSome s.view (λ v. IsBacked known_texts (view_over key v.table v.lists)) → ((t : Bytes) → In t (blocks_by (Gives block answer)) → In t known_texts) → HasGiven s block answer new → Serves new
    gives block (Err e) backed here h = same h.err
    gives block (Ok answer) backed here h = go s.view h.looks backed k.keeps.looking h.given
      where
        looking : (v : AcceptedView) → IsBacked known_texts (view_over key v.table v.lists) → (o : Option Looking) → IsSome o → IfSome o (λ l. AsksServed (known_blocks s.blocks) l.asked × (principal_of l.question < 96)) → IfSome o (λ l. Given s v l block answer new) → Serves new
        looking v backed None some low so = absurd (cc some)
        looking v backed (Some l) some low so = given v backed l low.1 block answer here h.held so

        go : (o : Option AcceptedView) → IsSomeAnd o (λ v. IsSome v.looking) → IfSome o (λ v. IsBacked known_texts (view_over key v.table v.lists))
            → IfSome o (λ v. IfSome v.looking (λ l. AsksServed (known_blocks s.blocks) l.asked × (principal_of l.question < 96))) → IfSome o (λ v. IfSome v.looking (λ l. Given s v l block answer new)) → Serves new
        go None some backed low so = absurd some
        go (Some v) some backed low so = looking v backed v.looking some low so

    signs : (answer : Result Bytes ClientError) → HasSigned s answer new → Serves new
    signs (Ok text) h = go s.accepted h.ready h.signed
      where
        go : (y : Option Ready) → IsSome y → IfSome y (λ r. (leaf : LeafNumber) × IsKept leaf (structure_record (signed_text s leaf r)) (under (signing_key s r) s.devices) (under (signing_key s r) new.devices) × (new ≡ over new.blocks (on new.devices (signed_over s leaf r)))) → Serves new
        go None some so = absurd (cc some)
        go (Some y) some so =
            serves_none s.blocks new h.gone.first (ap is_under_way so.2)
            (subst (λ (n : State). Serves n) (sym (ap (over s.blocks) so.2)) (record { keeps = record { firsts = k.keeps.firsts; looking = tt }; checked = tt }))
    signs (Err error.Device) h = subst (λ (n : State). Serves n) (sym (h.fails refl)) (record { keeps = record { firsts = k.keeps.firsts; looking = k.keeps.looking }; checked = tt })
    signs (Err error.Memory) h = same (h.err (λ d. cc d))
    signs (Err error.NoLeaf) h = same (h.err (λ d. cc d))
    signs (Err error.NoNumber) h = same (h.err (λ d. cc d))
    signs (Err error.NoKey) h = same (h.err (λ d. cc d))
    signs (Err error.Foreign) h = same (h.err (λ d. cc d))
    signs (Err error.Damaged) h = same (h.err (λ d. cc d))

    commits : (st : Status) → new ≡ committed st s → Serves new
    commits status.Ok is = subst (λ (n : State). Serves n) (sym is) (record { keeps = record { firsts = k.keeps.firsts; looking = k.keeps.looking }; checked = k.checked })
    commits other is = same is

    caches : (capacity : ℕ) → HasCached s capacity new → Serves new
    caches capacity h = subst (λ (n : State). Serves n) (sym h.state) (go (is_under_way s) refl)
      where
        go : (under : Bool) → is_under_way s ≡ under → Serves (over (if under then with_capacity_later capacity s.blocks else with_capacity capacity s.blocks) s)
        go true is = serves_same s.blocks (over (with_capacity_later capacity s.blocks) s) refl (known-later s.blocks capacity) k
        go false is = serves_none s.blocks (over (with_capacity capacity s.blocks) s) refl is k

  -- ---- steps

  -- what a call may count on: the lists that are heard, or under check, and the view that is looked into, stand on what is
  -- among the texts
  abbrev pub CountsOn : Client → Call → Type 0
  CountsOn (Open s) (Hears text answer) = IfSome (option_and_then lists_of (reply_in text)) IsInHand
  CountsOn (Open s) (Takes block answer) = IfSome s.checked (λ c. IfSome (lists_under c) IsInHand)
  CountsOn (Open s) (Looks q answer) = IfSome s.view (λ v. IsBacked known_texts (view_over key v.table v.lists))
  CountsOn (Open s) (Gives block answer) = IfSome s.view (λ v. IsBacked known_texts (view_over key v.table v.lists))
  CountsOn client call = Unit {0}

  apart_first : NoneCollide (first_texts key) (first_texts key)
  apart_first a b i j same =
      apart a b (in_contains a known_texts (in-right a put (first_texts key) (contains_in a (first_texts key) i))) (in_contains b known_texts (in-right b put (first_texts key) (contains_in b (first_texts key) j))) same

  opens : (o : Owner) (s : State) → o.pinned ≡ key → s.blocks ≡ at_first (first_blocks o.pinned) → s.checked ≡ None → s.view ≡ None → Serves s
  opens o s own blocks checked view = record {
    keeps = record {
      firsts = λ t i.
          ap (λ (b : CheckedBlocks). held b.first (hash t)) blocks ∙ ap (λ (p : Key). held (first_blocks p) (hash t)) own ∙ held_at_first key apart_first t (in_contains t (first_texts key) i);
      looking = subst (λ (o : Option AcceptedView). IfSome o (λ v. IfSome v.looking (λ l. AsksServed (known_blocks s.blocks) l.asked × (principal_of l.question < 96)))) (sym view) tt;
    };
    checked = subst (λ (o : Option Checked). IfSome o (λ c. AsksServed (known_blocks s.blocks) (asked_of c))) (sym checked) tt;
  }

  abbrev pub HasKnown : Client → Type 0
  HasKnown (Closed p) = Unit {0}
  HasKnown (Open s) = (s.pinned ≡ key) × AreAmong known_texts (known_blocks s.blocks)

  pub step : (o : Owner) → o.pinned ≡ key → (before : Client) (call : Call) (after : Client) → ((t : Bytes) → In t (blocks_by call) → In t known_texts) → CountsOn before call → IsStep o before call after → HasKnown before → ServesClient before → ServesClient after
  step o own (Closed p) (Opens (Ok x)) (Open s) inside on is known k =
      opens o s own (ap (λ (n : State). n.blocks) is.state) (ap (λ (n : State). n.checked) is.state) (ap (λ (n : State). n.view) is.state)
  step o own (Closed p) (Opens (Err e)) (Closed q) inside on is known k = tt
  step o own (Closed p) Gains (Closed q) inside on is known k = tt
  step o own (Closed p) Crashes (Closed q) inside on is known k = tt
  step o own (Closed p) call after inside on is known k = absurd is
  step o own (Open s) Closes (Closed p) inside on is known k = tt
  step o own (Open s) Crashes (Closed p) inside on is known k = tt
  step o own (Open s) (Begins changes laid answer) (Open new) inside on is known k = begins s new known.0 known.1 k changes laid answer is
  step o own (Open s) (Resigns n answer) (Open new) inside on is known k = resigns s new known.0 known.1 k n answer is
  step o own (Open s) (Hears text answer) (Open new) inside on is known k = hears s new known.0 known.1 k text answer on is
  step o own (Open s) (Takes block answer) (Open new) inside on is known k = takes_block_in s new known.0 known.1 k block answer on inside is
  step o own (Open s) (Signs answer) (Open new) inside on is known k = signs s new known.0 known.1 k answer is
  step o own (Open s) (Commits st) (Open new) inside on is known k = commits s new known.0 known.1 k st is.state
  step o own (Open s) (Looks q answer) (Open new) inside on is known k = looks s new known.0 known.1 k q answer on is
  step o own (Open s) (Gives block answer) (Open new) inside on is known k = gives s new known.0 known.1 k block answer on inside is
  step o own (Open s) (Caches capacity) (Open new) inside on is known k = caches s new known.0 known.1 k capacity is
  step o own (Open s) call after inside on is known k = absurd is

-- with more texts in the store
pub serves_more : (put more : List Bytes) (key : Key) (apart : NoneCollide (put ++ first_texts key) (put ++ first_texts key)) (apart_more : NoneCollide (more ++ first_texts key) (more ++ first_texts key)) → ((t : Bytes) → In t put → In t more)
    → (client : Client) → ServesClient put key apart client → ServesClient more key apart_more client
serves_more put more key apart apart_more into (Closed p) k = tt
serves_more put more key apart apart_more into (Open s) k = record {
  keeps = record { firsts = k.keeps.firsts; looking = of_view s.view k.keeps.looking };
  checked = of_check s.checked k.checked;
}
  where
    of_check : (o : Option Checked) → IfSome o (λ c. AsksServed put key apart (known_blocks s.blocks) (asked_of c)) → IfSome o (λ c. AsksServed more key apart_more (known_blocks s.blocks) (asked_of c))
    of_check None h = tt
    of_check (Some c) h = served_among put more into (known_blocks s.blocks) (asked_of c).digest (asked_of c).spot h

    of_look : (o : Option Looking) → IfSome o (λ l. AsksServed put key apart (known_blocks s.blocks) l.asked × (principal_of l.question < 96)) → IfSome o (λ l. AsksServed more key apart_more (known_blocks s.blocks) l.asked × (principal_of l.question < 96))
    of_look None h = tt
    of_look (Some l) h = (served_among put more into (known_blocks s.blocks) l.asked.digest l.asked.spot h.0, h.1)

    of_view : (o : Option AcceptedView) → IfSome o (λ v. IfSome v.looking (λ l. AsksServed put key apart (known_blocks s.blocks) l.asked × (principal_of l.question < 96)))
        → IfSome o (λ v. IfSome v.looking (λ l. AsksServed more key apart_more (known_blocks s.blocks) l.asked × (principal_of l.question < 96)))
    of_view None h = tt
    of_view (Some v) h = of_look v.looking h
