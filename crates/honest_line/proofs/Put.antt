-- The texts that were put into the store in an honest run: what clients lay out, are handed and are to store is among them,
-- and the store has each, where no two have one digest.
use Rattle.std.proofs.Common.{◌≡◌, List, [], ◌∷◌, ◌++◌, Option, Some, None, Result, Ok, Err, IfSome, refl, sym, ap, ◌∙◌, subst, inl, inr, option_to_list}
use Rattle.std.specs.List.{flat_map}
use Rattle.layout.specs.Hash.{hash}
use Rattle.layout.specs.Types.{Bytes, Digest}
use Rattle.itable.specs.File.{NoneCollide}
use Rattle.tree_parts.specs.Blocks.{Blocks}
use Rattle.client_tree.specs.Held.{Block, held, keeping, keeping_all}
use Rattle.client_tree.proofs.HeldLaws.{with_new, with_old}
use Rattle.client_releases.specs.declared.error.ClientError.{ClientError}
use Rattle.client_releases.specs.declared.error.ClientError.TheVariants as error
use Rattle.client_steps.specs.Steps.{Begins, Caches, Call, Client, Closes, Commits, Crashes, Gains, Gives, Hears, Looks, Opens, Resigns, Signs, StepTaken, Takes}
use Rattle.client_runs.specs.Released.{stored_texts, unless_memory}
use Rattle.client_runs.specs.Runs.{Event, Keys, client_of}
use Rattle.agreement.proofs.Members.{In, in-append, in-left, in-right, in_contains}
use Rattle.fork_consistency.proofs.Among.{AreAmong, among_all_kept, among_listed, among_none, within_all_kept}
use Rattle.fork_consistency.proofs.BlocksOf.{blocks_at, blocks_by}
use Rattle.honest_runs.specs.HonestRuns.{HonestEvent, IsFound, IsHandedIn, IsHonestRun, events, looked_for_by, put_with, stored, wanted_by}
use Rattle.honest_runs.proofs.Events.{events_with, with_step}

-- all texts that were put into the store
abbrev pub put_texts : List HonestEvent → List Bytes
put_texts run = flat_map (λ h. h.put) run

more_among : (some all : List Bytes) → ((t : Bytes) → In t some → In t all) → (blocks : Blocks) → AreAmong some blocks → AreAmong all blocks
more_among some all into blocks among digest text is = let a = among digest text is in (into text a.0, a.1)

-- what is stored was put there
pub stored_among : (run : List HonestEvent) → AreAmong (put_texts run) (held (stored run))
stored_among [] = among_none []
stored_among (h ∷ older) =
    among_all_kept (h.put ++ put_texts older) (stored older) h.put (λ t i. in-left t h.put (put_texts older) i)
    (more_among (put_texts older) (h.put ++ put_texts older) (λ t i. in-right t h.put (put_texts older) i) (held (stored older)) (stored_among older))

-- ---- what was put is stored

module _ (texts : List Bytes) (apart : NoneCollide texts texts) where
  kept_one : (blocks : List Block) → AreAmong texts (held blocks) → (t : Bytes) → In t texts → held (keeping blocks t) (hash t) ≡ Some t
  kept_one blocks among t i = go (held blocks (hash t)) refl
    where
      go : (o : Option Bytes) → held blocks (hash t) ≡ o → held (keeping blocks t) (hash t) ≡ Some t
      go None none = sym (with_new blocks t (hash t) none refl)
      go (Some y) was =
          let of = among (hash t) y was in
          let same : y ≡ t = apart y t (in_contains y texts of.0) (in_contains t texts i) of.1 in
          sym (with_old blocks t (hash t) y was) ∙ ap (λ (x : Bytes). Some x) same

  all_kept : (more : List Bytes) → ((t : Bytes) → In t more → In t texts) → (blocks : List Block) → AreAmong texts (held blocks) → (t : Bytes) → In t more → held (keeping_all blocks more) (hash t) ≡ Some t
  unfolding keeping_all
  all_kept [] into blocks among t i = absurd i
  all_kept (x ∷ xs) into blocks among t (inl e) =
      within_all_kept (keeping blocks x) xs (hash t) t
      (subst (λ (y : Bytes). held (keeping blocks y) (hash t) ≡ Some t) e (kept_one blocks among t (subst (λ (y : Bytes). In y texts) (sym e) (into x (inl refl)))))
  all_kept (x ∷ xs) into blocks among t (inr i) = all_kept xs (λ y j. into y (inr j)) (keeping blocks x) (among_listed texts blocks x (into x (inl refl)) among) t i

pub stored_has : (texts : List Bytes) → NoneCollide texts texts → (run : List HonestEvent) → ((t : Bytes) → In t (put_texts run) → In t texts) → (t : Bytes) → In t (put_texts run) → held (stored run) (hash t) ≡ Some t
stored_has texts apart [] into t i = absurd i
stored_has texts apart (h ∷ older) into t i =
    elim (in-append t h.put (put_texts older) i) [
      | inl here ↦ all_kept texts apart h.put (λ y j. into y (in-left y h.put (put_texts older) j)) (stored older)
          (more_among (put_texts older) texts (λ y j. into y (in-right y h.put (put_texts older) j)) (held (stored older)) (stored_among older)) t here
      | inr before ↦ within_all_kept (stored older) h.put (hash t) t (stored_has texts apart older (λ y j. into y (in-right y h.put (put_texts older) j)) t before)
    ]

-- ---- blocks of clients

in_answer : {A : Type 0} (answer : Result A ClientError) (texts : List Bytes) (t : Bytes) → In t (unless_memory answer texts) → In t texts
in_answer (Ok x) texts t i = i
in_answer (Err error.Memory) texts t i = absurd i
in_answer (Err other) texts t i = i

module _ (keys : Keys) where
  module _ (h : HonestEvent) (older : List HonestEvent) (client : Client) where
    abbrev now : List Bytes
    now = h.put ++ put_texts older

    found_block : (asked : Option Digest) (block : Option Bytes) → IsFound (held (stored older)) asked block → (t : Bytes) → In t (option_to_list block) → In t now
    found_block None block found t i = absurd found
    found_block (Some digest) None found t i = absurd i
    found_block (Some digest) (Some x) found t (inr none) = absurd none
    found_block (Some digest) (Some x) found t (inl e) =
        subst (λ (y : Bytes). In y now) (sym e) (in-right x h.put (put_texts older) (stored_among older digest x found).0)

    pub call_put : (call : Call) → IsHandedIn (h ∷ older) client (held (stored older)) call → h.put ≡ put_with call → (t : Bytes) → In t (blocks_by call) → In t now
    call_put (Begins changes laid answer) handed put t i = in-left t h.put (put_texts older) (subst (λ (ts : List Bytes). In t ts) (sym put) (in_answer answer laid t i))
    call_put (Hears text answer) handed put t i = in-left t h.put (put_texts older) (subst (λ (ts : List Bytes). In t ts) (sym put) i)
    call_put (Takes block answer) handed put t i =
        elim (in-append t (option_to_list block) (stored_texts answer) (in_answer answer (option_to_list block ++ stored_texts answer) t i)) [
          | inl here ↦ found_block (wanted_by client) block handed t here
          | inr new ↦ in-left t h.put (put_texts older) (subst (λ (ts : List Bytes). In t ts) (sym put) new)
        ]
    call_put (Gives block answer) handed put t i = found_block (looked_for_by client) block handed t (in_answer answer (option_to_list block) t i)
    call_put (Opens answer) handed put t i = absurd i
    call_put Closes handed put t i = absurd i
    call_put Gains handed put t i = absurd i
    call_put (Resigns n answer) handed put t i = absurd i
    call_put Crashes handed put t i = absurd i
    call_put (Signs answer) handed put t i = absurd i
    call_put (Commits st) handed put t i = absurd i
    call_put (Looks q answer) handed put t i = absurd i
    call_put (Caches capacity) handed put t i = absurd i

  -- the blocks of a run were put
  pub blocks_put : (run : List HonestEvent) → IsHonestRun keys run → (t : Bytes) → In t (flat_map blocks_at (events run)) → In t (put_texts run)
  blocks_put [] is t i = absurd i
  blocks_put (h ∷ older) is t i =
      go h.step is.0.handed_in is.0.put (subst (λ (es : List Event). In t (flat_map blocks_at es)) (with_step h older) i) (blocks_put older is.1 t)
    where
      go : (s : Option StepTaken) → IfSome s (λ s. IsHandedIn (h ∷ older) (client_of h.user (events older)) (held (stored older)) s.call) → IfSome s (λ s. h.put ≡ put_with s.call)
          → In t (flat_map blocks_at (events_with h.user s (events older))) → (In t (flat_map blocks_at (events older)) → In t (put_texts older)) → In t (h.put ++ put_texts older)
      go None handed put j ih = in-right t h.put (put_texts older) (ih j)
      go (Some s) handed put j ih =
          elim (in-append t (blocks_by s.call) (flat_map blocks_at (events older)) j) [
            | inl here ↦ call_put h older (client_of h.user (events older)) s.call handed put t here
            | inr before ↦ in-right t h.put (put_texts older) (ih before)
          ]
