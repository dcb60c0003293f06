-- What clients are told of their accepted views is so in the trees of the views, and in the worlds of the views' lines.
use Rattle.std.proofs.Common.{◌≡◌, ◌<◌, Bool, true, false, List, [], ◌∷◌, Option, Some, None, Ok, Err, IfSome, IsSome, IsSomeAnd, refl, sym, ap, ◌∙◌, subst, inl, if◌then◌else◌, option_map}
use Rattle.std.specs.Prelude.{◌==◌}
use Rattle.std.specs.List.{All, flat_map}
use Rattle.std.specs.Option.{option_and_then}
use Rattle.std.proofs.lemmas.Bool.{eq-eqb}
use Rattle.layout.specs.Types.{Bytes, INumber, Key, Principal}
use Rattle.principals.specs.Table.{Table}
use Rattle.principals.specs.TableText.{table}
use Rattle.principals.specs.TableTextLaws.{lawful_table}
use Rattle.update_cert.specs.Reading.{Reading}
use Rattle.update_cert.specs.World.{Content, File, Tree, is_table}
use Rattle.tree_parts.specs.Blocks.{Agrees, Blocks}
use Rattle.client_tree.specs.Genesis.{first_texts}
use Rattle.checked_blocks.specs.CheckedBlocks.{known_blocks}
use Rattle.client_tree.specs.Questions.{IsKindOf, IsLeastFree}
use Rattle.client_tree.specs.View.{shown, tree, lost as lost_of}
use Rattle.client_tree.specs.View as tree_spec
use Rattle.client_tree.specs.declared.questions.Question.{Question}
use Rattle.client_tree.specs.declared.questions.Question.TheVariants as question
use Rattle.client_verify.specs.declared.look.Look.TheVariants as look
use Rattle.client_verify.specs.declared.view.Looking.{Looking}
use Rattle.reply_check.specs.FirstBroken.{view_over}
use Rattle.client_verify.specs.Looked.{Answers, Given, Looked}
use Rattle.client_verify.specs.State.{AcceptedView, State, holding}
use Rattle.agreement.specs.Lines.{line}
use Rattle.agreement.specs.Runs.{View, user_of}
use Rattle.agreement.specs.Worlds.{table_in, view_in, world}
use Rattle.agreement.proofs.Formed.{same_spelled}
use Rattle.agreement.proofs.Members.{In, in-left, in-right, of_all, to_all}
use Rattle.client_steps.specs.Steps.{Call, Client, Closed, Gives, HasGiven, HasLooked, IsStep, Looks, Open, Owner, Sees}
use Rattle.client_runs.specs.Released.{accepted_by, hashed, hashed_at, hashed_by, tried_view, views}
use Rattle.client_runs.specs.Runs.{Event, IsRun, Keys, client_of, owner, pinned as pinned_key}
use Rattle.fork_consistency.specs.Handles.{told_by_texts}
use Rattle.fork_consistency.proofs.Genuine.{IsGenuineRun}
use Rattle.fork_consistency.specs.Premises.{NoCollision, PinnedIsKey}
use Rattle.fork_consistency.specs.Shown.{EachTells, HaveTrees, IsOfView, IsOfWorld, IsTrueInView, IsTrueInWorld, IsTrueOf, ShowTrees, ShowWorlds, answered, last_view, seen_in, view_told}
use Rattle.fork_consistency.specs.Worlds.{AreWorldsBy, HasUsers, IsReadingOf, IsUsersOf, LosesVoid, IsWorldsTable, TreeIsWorld}
use Rattle.fork_consistency.proofs.Among.{AreAmong, agrees_within, among_kept, are_within}
use Rattle.fork_consistency.proofs.LastViews.{HasLastView, IsOf, has_last_view}
use Rattle.fork_consistency.proofs.Lists.{found_in}
use Rattle.fork_consistency.proofs.Origins.{Knows, KnowsClient, all_known, known_at}
use Rattle.fork_consistency.proofs.RunWorlds.{worlds_by}

-- ---- answers

-- what holds of a tree at a principal holds of one that is the same there
module _ (w v : Tree) (p : Principal) (same : (i : INumber) → w p i ≡ v p i) where
  kind_moved : (kind : _) (i : INumber) → IsKindOf kind (w p i) → IsKindOf kind (v p i)
  kind_moved kind i is = subst (IsKindOf kind) (same i) is

  free_moved : (first last : INumber) (found : Option INumber) → IsLeastFree (w p) first last found → IsLeastFree (v p) first last found
  free_moved first last (Some i) is = (is.0, is.1, sym (same i) ∙ is.2, λ j low high. subst (λ (c : Option Content). IsSome c) (same j) (is.3 j low high))
  free_moved first last None is = λ j low high. subst (λ (c : Option Content). IsSome c) (same j) (is j low high)

needs_true : (w : Tree) (q : Question) (digest : _) → IsTrueOf w q (look.Need digest)
needs_true w (question.At p i) digest = tt
needs_true w (question.Kind p i) digest = tt
needs_true w (question.Free p first last) digest = tt

broken_true : (w : Tree) (q : Question) (rule : _) → IsTrueOf w q (look.Broken rule)
broken_true w (question.At p i) rule = tt
broken_true w (question.Kind p i) rule = tt
broken_true w (question.Free p first last) rule = tt

-- what is so in a tree is so in one that is the same
moved : (w v : Tree) → ((p : Principal) (i : INumber) → p < 96 → w p i ≡ v p i) → (q : Question) (answer : Sees) → IsTrueOf w q answer → IsTrueOf v q answer
moved w v same (question.At p i) (look.Need digest) h = tt
moved w v same (question.Kind p i) (look.Need digest) h = tt
moved w v same (question.Free p first last) (look.Need digest) h = tt
moved w v same (question.At p i) (look.Broken rule) h = tt
moved w v same (question.Kind p i) (look.Broken rule) h = tt
moved w v same (question.Free p first last) (look.Broken rule) h = tt
moved w v same (question.At p i) (look.File bytes) h = λ low. sym (same p i low) ∙ h low
moved w v same (question.At p i) (look.Dir entries) h = λ low. sym (same p i low) ∙ h low
moved w v same (question.At p i) look.None h = λ low. sym (same p i low) ∙ h low
moved w v same (question.Kind p i) (look.Kind kind) h = λ low. kind_moved w v p (λ j. same p j low) kind i (h low)
moved w v same (question.Free p first last) (look.Free found) h = λ low. free_moved w v p (λ j. same p j low) first last found (h low)
moved w v same q answer h = absurd h

-- what a client answers by its blocks is so in the view's tree
answers_true : (blocks : Blocks) (x : tree_spec.View) (reads : Reading) (agrees : Agrees blocks reads) (users : Table) → (q : Question) (answer : Sees) → Answers blocks x q answer → IsTrueOf (shown reads users x) q answer
answers_true blocks x reads agrees users (question.At p i) (look.File bytes) h = λ low. sym (h.1 reads agrees users)
answers_true blocks x reads agrees users (question.At p i) (look.Dir entries) h = λ low. sym (h.1 reads agrees users)
answers_true blocks x reads agrees users (question.At p i) look.None h = λ low. sym (h.1 reads agrees users)
answers_true blocks x reads agrees users (question.Kind p i) (look.Kind kind) h = λ low. h.1 reads agrees users
answers_true blocks x reads agrees users (question.Free p first last) (look.Free found) h = λ low. h.1 reads agrees users
answers_true blocks x reads agrees users q answer h = absurd h

-- ---- the trees of views

module _ (keys : Keys) (run : List Event) (is : IsRun keys run) (apart : NoCollision keys run) (reads : Reading) (agrees : IsReadingOf keys run reads) where
  abbrev key : Key
  key = pinned_key keys

  abbrev texts : List Bytes
  texts = hashed keys run

  first_in : (t : Bytes) → In t (first_texts key) → In t texts
  first_in t i = in-right t (flat_map hashed_at run) (first_texts key) i

  module _ (v : AcceptedView) (x : View) (of : IsOf texts apart key v x) where
    looked_true : (s : State) → s.pinned ≡ key → AreAmong texts (known_blocks s.blocks) → (q : Question) (answer : Sees) (new : State) → Looked s v q answer new → IsTrueInView reads key x q answer
    looked_true s pinned among q answer new h users is_users = go answer h
      where
        told : (a : Sees) → Answers (known_blocks s.blocks) (view_over s.pinned v.table v.lists) q a → IsTrueOf (shown reads users (view_in key x)) q a
        told a answers =
            let same : view_over s.pinned v.table v.lists ≡ view_in key x =
            ap (λ (k : Key). view_over k v.table v.lists) pinned ∙ ap (λ (t : Table). view_over key t v.lists) of.table ∙ ap (view_over key x.table) of.lists in
            answers_true (known_blocks s.blocks) (view_in key x) reads (agrees_within (known_blocks s.blocks) (told_by_texts texts) (are_within texts apart (known_blocks s.blocks) among) reads agrees) users q a
            (subst (λ (y : tree_spec.View). Answers (known_blocks s.blocks) y q a) same answers)

        go : (a : Sees) → Looked s v q a new → IsTrueOf (shown reads users (view_in key x)) q a
        go (look.Need digest) h = needs_true (shown reads users (view_in key x)) q digest
        go (look.File bytes) h = told (look.File bytes) h.1
        go (look.Dir entries) h = told (look.Dir entries) h.1
        go look.None h = told look.None h.1
        go (look.Kind kind) h = told (look.Kind kind) h.1
        go (look.Free found) h = told (look.Free found) h.1
        go (look.Broken rule) h = absurd h

    block_true : (s : State) → s.pinned ≡ key → AreAmong texts (known_blocks s.blocks) → (q : Question) (block : Option Bytes) (answer : Sees) (new : State) → IfSome block (λ t. In t texts) → IsSomeAnd block (λ text. Looked (holding s text) v q answer new) → IsTrueInView reads key x q answer
    block_true s pinned among q None answer new into h = absurd h
    block_true s pinned among q (Some text) answer new into h = looked_true (holding s text) pinned (among_kept texts s.blocks text into among) q answer new h

    given_true : (s : State) → s.pinned ≡ key → AreAmong texts (known_blocks s.blocks) → (l : Looking) (block : Option Bytes) (answer : Sees) (new : State) → IfSome block (λ t. In t texts) → Given s v l block answer new → IsTrueInView reads key x l.question answer
    given_true s pinned among l block (look.Need digest) new into h = block_true s pinned among l.question block (look.Need digest) new into h.1
    given_true s pinned among l block (look.File bytes) new into h = block_true s pinned among l.question block (look.File bytes) new into h.1
    given_true s pinned among l block (look.Dir entries) new into h = block_true s pinned among l.question block (look.Dir entries) new into h.1
    given_true s pinned among l block look.None new into h = block_true s pinned among l.question block look.None new into h.1
    given_true s pinned among l block (look.Kind kind) new into h = block_true s pinned among l.question block (look.Kind kind) new into h.1
    given_true s pinned among l block (look.Free found) new into h = block_true s pinned among l.question block (look.Free found) new into h.1
    given_true s pinned among l block (look.Broken rule) new into h = λ users is_users. broken_true (shown reads users (view_in key x)) l.question rule

    -- user 0's handle names one table
    users_are : (users : Table) → IsUsersOf reads key x users → of.told.users ≡ users
    users_are users is_users =
        let same : Some (File (table.spell of.told.users)) ≡ Some (File (table.spell users)) = sym (of.told.named reads agrees) ∙ is_users.named in
        same_spelled table lawful_table of.told.users users of.told.fits is_users.fits (cc same)

    -- what the client tells itself
    of_view : IsOfView reads key x v
    of_view = record {
      structures = of.structures;
      table = of.table;
      lost = λ users is_users. of.lost reads agrees ∙ ap (λ (t : Table). lost_of reads t (view_in key x)) (users_are users is_users);
    }

  -- ---- events

  abbrev AreTrue : Option View → Option (Question × Sees) → Type 0
  AreTrue last a = IfSome a (λ (q, answer). IsSomeAnd last (λ x. IsTrueInView reads key x q answer))

  module _ (last : Option View) where
    some_last : {P : View → Type 0} (v : AcceptedView) → IsSomeAnd last (IsOf texts apart key v) → ((x : View) → IsOf texts apart key v x → P x) → IsSomeAnd last P
    some_last {P} v has each = go last has
      where
        go : (l : Option View) → IsSomeAnd l (IsOf texts apart key v) → IsSomeAnd l P
        go None of = absurd of
        go (Some x) of = each x of

    look_told : (s : State) → Knows texts apart key s → HasLastView texts apart key last (Open s) → (q : Question) (answer : Sees) (new : State) → HasLooked s q (Ok answer) new → AreTrue last (Some (q, answer))
    look_told s knows has q answer new h = go s.view has h.sees h.looked
      where
        go : (o : Option AcceptedView) → IfSome o (λ v. IsSomeAnd last (IsOf texts apart key v)) → IsSome o → IfSome o (λ v. Looked s v q answer new) → AreTrue last (Some (q, answer))
        go None of some h = absurd (cc some)
        go (Some v) of some h = some_last {P = λ x. IsTrueInView reads key x q answer} v of (λ x is_of. looked_true v x is_of s knows.pinned knows.among q answer new h)

    give_told : (s : State) → Knows texts apart key s → HasLastView texts apart key last (Open s) → (block : Option Bytes) (answer : Sees) (new : State) → IfSome block (λ t. In t texts) → HasGiven s block (Ok answer) new
        → AreTrue last (option_and_then (λ v. option_map (λ l. (l.question, answer)) v.looking) s.view)
    give_told s knows has block answer new into h = go s.view has h.looks h.given
      where
        looking : (v : AcceptedView) → IsSomeAnd last (IsOf texts apart key v) → (l : Option Looking) → IsSome l → IfSome l (λ x. Given s v x block answer new) → AreTrue last (option_map (λ l. (l.question, answer)) l)
        looking v of None some h = absurd (cc some)
        looking v of (Some l) some h = some_last {P = λ x. IsTrueInView reads key x l.question answer} v of (λ x is_of. given_true v x is_of s knows.pinned knows.among l block answer new into h)

        go : (o : Option AcceptedView) → IfSome o (λ v. IsSomeAnd last (IsOf texts apart key v)) → IsSomeAnd o (λ v. IsSome v.looking) → IfSome o (λ v. IfSome v.looking (λ l. Given s v l block answer new))
            → AreTrue last (option_and_then (λ v. option_map (λ l. (l.question, answer)) v.looking) o)
        go None of some h = absurd some
        go (Some v) of some h = looking v of v.looking some h

    block_in : (block : Option Bytes) (answer : Sees) → ((t : Bytes) → In t (hashed_by (Gives block (Ok answer))) → In t texts) → IfSome block (λ t. In t texts)
    block_in None answer into = tt
    block_in (Some text) answer into = into text (inl refl)

    answers : (o : Owner) (before : Client) (call : Call) (after : Client) → IsStep o before call after → KnowsClient texts apart key before → HasLastView texts apart key last before → ((t : Bytes) → In t (hashed_by call) → In t texts) → AreTrue last (answered call before)
    answers o (Closed p) (Looks q answer) after step knows has into = absurd step
    answers o (Closed p) (Gives block answer) after step knows has into = absurd step
    answers o (Open s) (Looks q (Err e)) after step knows has into = tt
    answers o (Open s) (Gives block (Err e)) after step knows has into = tt
    answers o (Open s) (Looks q (Ok answer)) (Closed p) step knows has into = absurd step
    answers o (Open s) (Looks q (Ok answer)) (Open new) step knows has into = look_told s knows has q answer new step
    answers o (Open s) (Gives block (Ok answer)) (Closed p) step knows has into = absurd step
    answers o (Open s) (Gives block (Ok answer)) (Open new) step knows has into = give_told s knows has block answer new (block_in block answer into) step
    answers o before call after step knows has into = tt

    tells : (c : Client) → HasLastView texts apart key last c → IfSome (view_told c) (λ v. IsSomeAnd last (λ x. IsOfView reads key x v))
    tells (Closed p) has = tt
    tells (Open s) has = go s.view has
      where
        go : (o : Option AcceptedView) → IfSome o (λ v. IsSomeAnd last (IsOf texts apart key v)) → IfSome o (λ v. IsSomeAnd last (λ x. IsOfView reads key x v))
        go None of = tt
        go (Some v) of = some_last {P = λ x. IsOfView reads key x v} v of (λ x is_of. of_view v x is_of)

  each_tells : (part : List Event) → IsRun keys part → ((t : Bytes) → In t (flat_map hashed_at part) → In t texts) → EachTells (IsTrueInView reads key) (IsOfView reads key) part
  each_tells [] step into = tt
  each_tells (e ∷ older) step into = (record { answer = answer_here; view = view_here }, each_tells older step.2 later)
    where
      later : (t : Bytes) → In t (flat_map hashed_at older) → In t texts
      later t i = into t (in-right t (hashed_at e) (flat_map hashed_at older) i)

      here : (t : Bytes) → In t (hashed_by e.call) → In t texts
      here t i = into t (in-left t (hashed_at e) (flat_map hashed_at older) (in-left t (hashed_by e.call) _ i))

      answer_here : AreTrue (last_view e.user older) (answered e.call (client_of e.user older))
      answer_here =
          answers (last_view e.user older) (owner keys e.user) (client_of e.user older) e.call e.after step.0
          (known_at keys texts apart first_in e.user older step.2 later).0 (has_last_view keys texts apart first_in e.user older step.2 later) here

      view_here : IfSome (view_told e.after) (λ v. IsSomeAnd (last_view e.user (e ∷ older)) (λ x. IsOfView reads key x v))
      view_here =
          let has = has_last_view keys texts apart first_in e.user (e ∷ older) step into in
          let at : HasLastView texts apart key (last_view e.user (e ∷ older)) e.after = rw (eq-eqb e.user e.user refl) at has in
          tells (last_view e.user (e ∷ older)) e.after at

  inside : (t : Bytes) → In t (flat_map hashed_at run) → In t texts
  inside t i = in-left t (flat_map hashed_at run) (first_texts key) i

  -- user 0's handle names a table in each accepted view
  users_named : All (HasUsers reads key) (views run)
  users_named =
      to_all (HasUsers reads key) (views run)
      (λ x i. let told = (all_known keys texts apart first_in run is inside x i).made.told in (told.users, record { fits = told.fits; named = told.named reads agrees }))

  have_trees : HaveTrees keys run reads
  have_trees = record { users = users_named; told = each_tells run is inside }

pub show_trees : (keys : Keys) (run : List Event) → IsRun keys run → NoCollision keys run → ShowTrees keys run
show_trees keys run is apart reads agrees = have_trees keys run is apart reads agrees

-- ---- what is told of each view

-- what is told of accepted views is told of them in other words
module _ (accepted : List View) (P Q : View → Question → Sees → Type 0) (R S : View → AcceptedView → Type 0)
    (answers : (x : View) → In x accepted → (q : Question) (answer : Sees) → P x q answer → Q x q answer) (tells : (x : View) → In x accepted → (v : AcceptedView) → R x v → S x v) where
  some_other : {F G : View → Type 0} (last : Option View) → ((x : View) → last ≡ Some x → In x accepted) → ((x : View) → In x accepted → F x → G x) → IsSomeAnd last F → IsSomeAnd last G
  some_other None there each h = absurd h
  some_other (Some x) there each h = each x (there x refl) h

  one_answer : (last : Option View) → ((x : View) → last ≡ Some x → In x accepted) → (a : Option (Question × Sees)) → IfSome a (λ (q, answer). IsSomeAnd last (λ x. P x q answer)) → IfSome a (λ (q, answer). IsSomeAnd last (λ x. Q x q answer))
  one_answer last there None h = tt
  one_answer last there (Some (q, answer)) h = some_other {F = λ x. P x q answer} {G = λ x. Q x q answer} last there (λ x i p. answers x i q answer p) h

  one_view : (last : Option View) → ((x : View) → last ≡ Some x → In x accepted) → (o : Option AcceptedView) → IfSome o (λ v. IsSomeAnd last (λ x. R x v)) → IfSome o (λ v. IsSomeAnd last (λ x. S x v))
  one_view last there None h = tt
  one_view last there (Some v) h = some_other {F = λ x. R x v} {G = λ x. S x v} last there (λ x i r. tells x i v r) h

  in_other_words : (part : List Event) → ((x : View) → In x (views part) → In x accepted) → EachTells P R part → EachTells Q S part
  in_other_words [] within told = tt
  in_other_words (e ∷ older) within told = (
    record {
      answer = one_answer (last_view e.user older) (λ x at. within_later x (last_in older x at)) (answered e.call (client_of e.user older)) told.0.answer;
      view = one_view (last_view e.user (e ∷ older)) (λ x at. within x (last_in (e ∷ older) x at)) (view_told e.after) told.0.view;
    },
    in_other_words older within_later told.1,
  )
    where
      last_in : (some : List Event) (x : View) → last_view e.user some ≡ Some x → In x (views some)
      last_in some x at = (found_in (λ (y : View). user_of y == e.user) (views some) x at).0

      within_later : (x : View) → In x (views older) → In x accepted
      within_later x i = within x (in-right x (accepted_by e.call (client_of e.user older) e.after (tried_view e.user older)) (views older) i)

-- ---- the worlds of lines

module _ (keys : Keys) (run : List Event) (is : IsRun keys run) (is_key : PinnedIsKey keys) (premises : IsGenuineRun keys run) (reads : Reading) (agrees : IsReadingOf keys run reads) where
  abbrev pinned : Key
  pinned = pinned_key keys

  by_reading : AreWorldsBy keys run reads
  by_reading = worlds_by keys run is is_key premises reads agrees

  abbrev seen : View → Tree
  seen x = seen_in reads pinned (line (views run) x)

  table_is : (x : View) → In x (views run) → IsWorldsTable reads pinned (views run) x x.table
  table_is x i = of_all (λ y. IsWorldsTable reads pinned (views run) y y.table) (views run) by_reading.tables x i

  -- what is shown of a view is what is seen in the world of its line
  shown_is : (x : View) → In x (views run) → (users : Table) → IsUsersOf reads pinned x users → (p : Principal) (n : INumber) → p < 96 → shown reads users (view_in pinned x) p n ≡ seen x p n
  shown_is x i users of p n low = go (is_table p n)
    where
      go : (b : Bool) → (if b then Some (File (table.spell x.table)) else tree reads users (view_in pinned x) p n) ≡ (if b then Some (File (table.spell (table_in (world reads pinned (line (views run) x))))) else world reads pinned (line (views run) x) p n)
      go true = ap (λ (t : Table). Some (File (table.spell t))) (table_is x i)
      go false = of_all (TreeIsWorld reads pinned (views run)) (views run) by_reading.trees x i users of p n low

  has_users : (x : View) → In x (views run) → HasUsers reads pinned x
  has_users x i = of_all (HasUsers reads pinned) (views run) by_reading.users x i

  answer_in_world : (x : View) → In x (views run) → (q : Question) (answer : Sees) → IsTrueInView reads pinned x q answer → IsTrueInWorld reads pinned (views run) x q answer
  answer_in_world x i q answer h =
      let u = has_users x i in
      moved (shown reads u.0 (view_in pinned x)) (seen x) (shown_is x i u.0 u.1) q answer (h u.0 u.1)

  view_in_world : (x : View) → In x (views run) → (v : AcceptedView) → IsOfView reads pinned x v → IsOfWorld reads pinned (views run) x v
  view_in_world x i v h =
      let u = has_users x i in
      record {
        structures = h.structures;
        table = h.table ∙ table_is x i;
        lost = λ before e. h.lost u.0 u.1 ∙ of_all (LosesVoid reads pinned (views run)) (views run) by_reading.losses x i u.0 u.1 before e;
      }

  each_world : EachTells (IsTrueInWorld reads pinned (views run)) (IsOfWorld reads pinned (views run)) run
  each_world =
      in_other_words (views run) (IsTrueInView reads pinned) (IsTrueInWorld reads pinned (views run)) (IsOfView reads pinned) (IsOfWorld reads pinned (views run)) answer_in_world view_in_world run (λ x i. i)
      (show_trees keys run is premises.no_collision reads agrees).told

pub show_worlds : (keys : Keys) (run : List Event) → IsRun keys run → PinnedIsKey keys → IsGenuineRun keys run → ShowWorlds keys run
show_worlds keys run is is_key premises reads agrees = each_world keys run is is_key premises reads agrees
