-- What user 0's handles name in a run: no handle names two tables, and what a client reads on a handle from its blocks is
-- the table that the handle names.
use Rattle.std.proofs.Common.{◌≡◌, ℕ, ◌==◌, List, ◌∷◌, Option, Some, None, Ok, refl, sym, ap, ◌∙◌, subst, inl, inr, option_to_list}
use Rattle.std.specs.Prelude.{filter, length}
use Rattle.std.specs.List.{flat_map}
use Rattle.std.proofs.lemmas.Bool.{eq-eqb, eqb-true}
use Rattle.layout.specs.Types.{Bytes, Handle, Key, User}
use Rattle.itable.specs.File.{NoneCollide}
use Rattle.principals.specs.Table.{Table, genesis}
use Rattle.principals.specs.TableText.{table}
use Rattle.principals.proofs.Users.{first_fits}
use Rattle.tree_parts.specs.Blocks.{Blocks}
use Rattle.client_tree.specs.Genesis.{first_handle}
use Rattle.checked_blocks.specs.CheckedBlocks.{holding, known_blocks}
use Rattle.client_tree.specs.Principals.{IsNamed, IsPending}
use Rattle.client_tree.specs.View.{handle_in}
use Rattle.reply_rules.specs.Lists.{Lists}
use Rattle.reply_check.specs.FirstBroken.{IsRead, view_over}
use Rattle.client_verify.specs.State.{State, blocks_with}
use Rattle.agreement.specs.Runs.{View, user_of}
use Rattle.agreement.proofs.Members.{In, contains_in, in-filter, in-kept, in-left, in-map, in-right, in_contains, map-in}
use Rattle.client_steps.specs.Steps.{Asks, Client, Open, Takes}
use Rattle.client_runs.specs.Released.{hashed, hashed_at, views}
use Rattle.client_runs.specs.Runs.{Event, IsRun, Keys, client_of, pinned}
use Rattle.fork_consistency.specs.Handles.{NamesTableAmong, told_by_texts}
use Rattle.fork_consistency.specs.Premises.{AddsOwnKeys, NoCollision, PinnedIsKey}
use Rattle.fork_consistency.proofs.Genuine.{IsGenuineRun}
use Rattle.fork_consistency.proofs.Among.{AreAmong, agrees_within, among_kept, are_within}
use Rattle.fork_consistency.proofs.ByCertificates.{SuperIsHonest, first_in, super_honest, view}
use Rattle.fork_consistency.proofs.Origins.{Knows, KnowsClient, known_at}
use Rattle.fork_consistency.proofs.Tables.{first_table_named, one_table}
use Rattle.honest_history.specs.Honest.{NamedTable, Names}
use Rattle.honest_dialogues.specs.Dialogue.{IsNaming}
use Rattle.honest_runs.specs.HonestRuns.{HonestEvent, IsHonestRun, events}
use Rattle.honest_line.specs.OneLine.{all_texts}
use Rattle.honest_line.specs.Naming.{first_named, named_by, naming_of}
use Rattle.honest_line.proofs.Genuine.{all_shown}
use Rattle.honest_line.proofs.Signing.{CanSign}

-- ---- premises

-- User 0's key has the form of a key, and user 0's client added each user with the user's own key.
pub record KeysTrue (keys : Keys) (run : List Event) : Type 0 where
  pub pinned : PinnedIsKey keys
  pub added : AddsOwnKeys keys run

-- What is assumed of an honest run and its keys.
pub record IsAssumed (keys : Keys) (run : List HonestEvent) : Type 0 where
  pub no_collision : NoneCollide (all_texts keys run) (all_texts keys run)
  pub true_keys : KeysTrue keys (events run)
  pub signers : (u : User) → CanSign keys u

-- of an honest run the premise on forgery is none
pub premises : (keys : Keys) (run : List HonestEvent) → IsHonestRun keys run → NoCollision keys (events run) → KeysTrue keys (events run) → IsGenuineRun keys (events run)
premises keys run is apart true_keys = record { genuine = all_shown keys run is; no_collision = apart; added = true_keys.added }

pub super_is_honest : (keys : Keys) (run : List HonestEvent) → IsHonestRun keys run → NoCollision keys (events run) → KeysTrue keys (events run) → SuperIsHonest keys (events run)
super_is_honest keys run is apart true_keys = super_honest keys (events run) true_keys.pinned (premises keys run is apart true_keys)

-- ---- hashed texts

-- what is hashed in this run is among the texts
abbrev pub AreHashed : List Bytes → List Event → Type 0
AreHashed texts run = (t : Bytes) → In t (flat_map hashed_at run) → In t texts

pub all_hashed : (keys : Keys) (run : List Event) → AreHashed (hashed keys run) run
all_hashed keys run t i = in-left t (flat_map hashed_at run) _ i

pub hashed_before : (texts : List Bytes) (e : Event) (older : List Event) → AreHashed texts (e ∷ older) → AreHashed texts older
hashed_before texts e older inside t i = inside t (in-right t (hashed_at e) (flat_map hashed_at older) i)

-- a block that was handed in is
pub taken_in : (texts : List Bytes) (u : User) (text : Bytes) (step : Asks) (after : Client) (older : List Event) → AreHashed texts (record { user = u; call = Takes (Some text) (Ok step); after = after } ∷ older) → In text texts
taken_in texts u text step after older inside = inside text (inl refl)

-- ---- naming

module _ (keys : Keys) (run : List Event) (is : IsRun keys run) (honest : SuperIsHonest keys run) where
  abbrev key : Key
  key = pinned keys

  abbrev texts : List Bytes
  texts = hashed keys run

  -- the handle names this table among the texts of the run
  record IsTableAt (h : Handle) (t : Table) : Type 0 where
    fits : table.Fits t
    named : NamesTableAmong texts h t

  same_table : (h : Handle) (t u : Table) → IsTableAt h t → IsTableAt h u → t ≡ u
  same_table h t u a b = one_table keys run is honest.pinned texts honest.no_collision (first_in keys run is honest) h t u a.fits b.fits a.named b.named

  first_is : IsTableAt (first_handle 0 key) (genesis key)
  first_is = record {
    fits = first_fits key honest.pinned;
    named = first_table_named keys run is honest.pinned texts honest.no_collision (first_in keys run is honest);
  }

  view_is : (x : View) → In x (views run) → user_of x ≡ 0 → IsTableAt x.signed.handle x.table
  view_is x i zero = let w = view keys run is honest x i in record { fits = w.at.fits; named = w.named (ap (λ p. p.user) w.plan ∙ zero) }

  abbrev IsAt : NamedTable → Type 0
  IsAt n = IsTableAt n.handle n.table

  abbrev supers : List View
  supers = filter (λ x. user_of x == 0) (views run)

  named_is : (h : Handle) (t : Table) → Names (naming_of keys run) h t → IsTableAt h t
  named_is h t has = go (contains_in n (naming_of keys run) has)
    where
      n : NamedTable
      n = record { handle = h; table = t }

      go : In n (naming_of keys run) → IsTableAt h t
      go (inl e) = subst IsAt (sym e) first_is
      go (inr i) =
          let (x, there, same) = in-map named_by supers n i in
          let kept = in-filter (λ (y : View). user_of y == 0) x (views run) there in
          subst IsAt (sym same) (view_is x kept.0 (eqb-true (user_of x) 0 kept.1))

  -- what a handle that names a table names among the texts is that table
  pub one_named : (h : Handle) (t users : Table) → table.Fits users → Names (naming_of keys run) h t → NamesTableAmong texts h users → users ≡ t
  one_named h t users fits names named = same_table h users t (record { fits = fits; named = named }) (named_is h t names)

  -- user 0's handle names the table of its view
  pub signed_named : (x : View) → In x (views run) → user_of x ≡ 0 → Names (naming_of keys run) x.signed.handle x.table
  signed_named x i zero =
      in_contains (named_by x) (naming_of keys run) (inr (map-in named_by supers x (in-kept (λ (y : View). user_of y == 0) x (views run) i (eq-eqb (user_of x) 0 zero))))

  -- The handle of the beginning names the table of the beginning, and no handle names two.
  pub is_naming : IsNaming (pinned keys) (naming_of keys run)
  is_naming = record {
    first = in_contains (first_named key) (naming_of keys run) (inl refl);
    once = λ h t u a b. same_table h t u (named_is h t a) (named_is h u b);
  }

  -- ---- reading

  module _ (blocks : Blocks) (among : AreAmong texts blocks) where
    read_is : (h : Handle) (users : Table) → IsNamed blocks h users → IsTableAt h users
    read_is h users read = record {
      fits = read.fits;
      named = λ reads agrees. read.file reads (agrees_within blocks (told_by_texts texts) (are_within texts honest.no_collision blocks among) reads agrees);
    }

    -- what is read on a handle, from blocks that are among the texts, is the table that the handle names
    pub reads_named : (h : Handle) (t users : Table) → Names (naming_of keys run) h t → IsNamed blocks h users → users ≡ t
    reads_named h t users named read = same_table h users t (read_is h users read) (named_is h t named)

    -- so the table of a reply is read on it
    pub read_on_named : (x : Lists) (t users : Table) (void : List ℕ) → Names (naming_of keys run) (handle_in key x.structures 0) users → IsRead blocks key x t void → IsPending users (view_over key t x) void
    read_on_named x t users void named read =
        subst (λ (u : Table). IsPending u (view_over key t x) void) (reads_named (handle_in key x.structures 0) users read.users named read.named) read.pending

  -- ---- what clients hold

  module _ (older : List Event) (is_older : IsRun keys older) (inside : AreHashed texts older) (u : User) (s : State) (now : client_of u older ≡ Open s) where
    known : Knows texts honest.no_collision key s
    known =
        subst (λ (c : Client). KnowsClient texts honest.no_collision key c) now
        (known_at keys texts honest.no_collision (first_in keys run is honest) u older is_older inside).0

    -- each block that a client holds is among the texts
    pub held_among : AreAmong texts (known_blocks s.blocks)
    held_among = known.among

    -- so it is with one more that is handed in
    pub holding_among : (text : Bytes) → In text texts → AreAmong texts (known_blocks (holding s.blocks text))
    holding_among text i = among_kept texts s.blocks text i held_among

    pub with_block_among : (block : Option Bytes) → ((t : Bytes) → In t (option_to_list block) → In t texts) → AreAmong texts (known_blocks (blocks_with s block))
    with_block_among None here = held_among
    with_block_among (Some text) here = holding_among text (here text (inl refl))
