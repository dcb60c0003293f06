-- Steps that were carried out to the end, and the table of clients.
use Rattle.std.proofs.Common.{◌≡◌, ◌≢◌, ℕ, zero, suc, ◌<◌, ◌≤◌, ◌+◌, take, List, [], ◌∷◌, ◌++◌, length, get_or, set, true, false, ◌==◌, refl, sym, ap, subst, ◌∙◌}
use Rattle.std.proofs.lemmas.Bool.{eqb-true, eqb-false}
use Rattle.std.proofs.lemmas.List.{get_or-set_other, get_or-set_same, get_or_read, length-set, take_all, take_more}
use Rattle.layout.specs.Types.{Key, User}
use Rattle.lms_sign.specs.Keys.{public_key_of}
use Rattle.lms_sign.specs.Secret.{Secret}
use Rattle.client_runs.specs.declared.slot.Slot.{Slot}
use Rattle.client_runs.specs.declared.slot.Slot.TheVariants as slot
use Rattle.client_runs.specs.declared.world.Act.{Act}
use Rattle.client_runs.specs.declared.world.Answer.{Answer}
use Rattle.client_runs.specs.declared.world.WorldStep.{WorldStep}
use Rattle.client_steps.specs.Steps.{Client, Owner, first}
use Rattle.client_runs.specs.Runs.{owner, pinned}
use Rattle.client_runs.specs.UsedOnce.{CertificatesOnce, EachClient, LeavesOnce, StructuresOnce}
use Rattle.client_runs.specs.Carried.{AreCarriedOut, ComesOf, script_key, script_keys}
use Rattle.client_runs.specs.Clients.{client_at}
use Rattle.client_runs.specs.Slots.{AreOwn, AreReady, IsOf, client_in, clients_in}
use Rattle.client_runs.proofs.OneMore.{StandsSoFar, more}

-- ---- the end of a run

module _ (leaves : EachClient LeavesOnce) (certificates : EachClient CertificatesOnce) (structures : EachClient StructuresOnce) where
  pub carried_out : {A : Type 0} (steps : List (WorldStep A)) (answers : List (Answer A)) (clients : List Client) → StandsSoFar steps answers clients → AreCarriedOut steps answers
  carried_out steps answers clients s = record {
    events = s.events;
    is_run = s.is_run;
    kept = s.kept;
    leaves = λ u. leaves script_keys s.events u s.is_run;
    certificates = λ u. certificates script_keys s.events u s.is_run;
    structures = λ u. structures script_keys s.events u s.is_run;
  }

-- before the first step nothing happened
pub none_yet : {A : Type 0} (answers : List (Answer A)) (clients : List Client) → answers ≡ [] → ((u : ℕ) → client_at clients u ≡ first) → StandsSoFar [] answers clients
none_yet {A} answers clients none firsts =
    let stands : StandsSoFar [] [] clients = record { events = []; is_run = tt; kept = tt; clients = λ u. sym (firsts u) } in
    subst (λ (given : List (Answer A)). StandsSoFar [] given clients) (sym none) stands

-- ---- one step more

-- the first steps, with the next one, and the answers with its answer
pub step_more : {A : Type 0} (xs : List (WorldStep A)) (i : ℕ) (t : WorldStep A) → i < length xs → t ≡ get_or xs i t
    → (answers after : List (Answer A)) (a : Answer A) (clients new : List Client) → after ≡ answers ++ a ∷ []
    → ((u : ℕ) → u ≢ t.user → client_at new u ≡ client_at clients u) → StandsSoFar (take i xs) answers clients
    → ComesOf (owner script_keys t.user) (client_at clients t.user) t.act a (client_at new t.user) → StandsSoFar (take (i + 1) xs) after new
step_more {A} xs i t within is answers after a clients new pushed others stands comes =
    let next : take (i + 1) xs ≡ take i xs ++ t ∷ [] = take_more xs i t within ∙ ap (λ (s : WorldStep A). take i xs ++ s ∷ []) (sym is) in
    subst (λ (given : List (Answer A)). StandsSoFar (take (i + 1) xs) given new) (sym pushed)
    (subst (λ (done : List (WorldStep A)). StandsSoFar done (answers ++ a ∷ []) new) (sym next) (more (take i xs) answers t a clients new others stands comes))

-- the first steps are all of them
pub all_steps : {A : Type 0} (xs : List (WorldStep A)) (i : ℕ) (answers : List (Answer A)) (clients : List Client) → length xs ≤ i
    → StandsSoFar (take i xs) answers clients → StandsSoFar xs answers clients
all_steps {A} xs i answers clients past stands = subst (λ (done : List (WorldStep A)). StandsSoFar done answers clients) (take_all i xs past) stands

-- ---- tables

-- a table of one value, and one more of it
pub one_more : {X : Type 0} (xs : List X) (x : X) → ((u : ℕ) → get_or xs u x ≡ x) → (u : ℕ) → get_or (xs ++ x ∷ []) u x ≡ x
one_more [] x same zero = refl
one_more [] x same (suc u) = refl
one_more (y ∷ ys) x same zero = same zero
one_more (y ∷ ys) x same (suc u) = one_more ys x (λ v. same (suc v)) u

-- a table of clients that were never named: each is of its user, and as at first
pub none_own : {A : Type 0} (slots : List (Slot A)) → ((u : ℕ) → get_or slots u slot.Unmade ≡ slot.Unmade) → AreOwn slots
none_own {A} slots none u = subst (λ (z : Slot A). IsOf (owner script_keys u) z) (sym (none u)) tt

-- a user's client among those of a table is that in the user's slot
pub in_table : {A : Type 0} (slots : List (Slot A)) (u : ℕ) → client_at (clients_in slots) u ≡ client_in (get_or slots u slot.Unmade)
in_table [] u = refl
in_table (s ∷ slots) zero = refl
in_table (s ∷ slots) (suc u) = in_table slots u

pub none_named : {A : Type 0} (slots : List (Slot A)) → ((u : ℕ) → get_or slots u slot.Unmade ≡ slot.Unmade) → (u : ℕ) → client_at (clients_in slots) u ≡ first
none_named {A} slots none u = in_table slots u ∙ ap (λ (z : Slot A). client_in z) (none u)

-- the key that every client knows
pub pinned_by : (key : Key) (u : User) (secret : Secret) → key ≡ public_key_of secret → secret ≡ script_key u 0 → u ≡ 0 → key ≡ pinned script_keys
pinned_by key u secret made same is = made ∙ ap public_key_of same ∙ ap (λ (n : User). public_key_of (script_key n 0)) is

-- a table whose slot at one place is taken out, and another put there
module _ {A : Type 0} (slots : List (Slot A)) (place : ℕ) (within : place < length slots) (x y : Slot A) where
  abbrev pub rewritten : List (Slot A)
  rewritten = set (set slots place x) place y

  pub length_rewritten : length rewritten ≡ length slots
  length_rewritten = length-set (set slots place x) place y ∙ length-set slots place x

  pub at_place : get_or rewritten place slot.Unmade ≡ y
  at_place =
      get_or-set_same (set slots place x) place y slot.Unmade (subst (λ (n : ℕ). place < n) (sym (length-set slots place x)) within)

  pub elsewhere : (u : ℕ) → u ≢ place → get_or rewritten u slot.Unmade ≡ get_or slots u slot.Unmade
  elsewhere u other = get_or-set_other (set slots place x) place u y slot.Unmade other ∙ get_or-set_other slots place u x slot.Unmade other

  -- each client is still of its user, where the new one is
  pub still_own : AreOwn slots → IsOf (owner script_keys place) y → AreOwn rewritten
  still_own own is u =
      elim (u == place) as (λ b. (u == place) ≡ b → IsOf (owner script_keys u) (get_or rewritten u slot.Unmade)) [
        | true ↦ (λ eq. subst (λ (n : ℕ). IsOf (owner script_keys n) (get_or rewritten n slot.Unmade)) (sym (eqb-true u place eq)) (subst (λ (z : Slot A). IsOf (owner script_keys place) z) (sym at_place) is))
        | false ↦ (λ eq. subst (λ (z : Slot A). IsOf (owner script_keys u) z) (sym (elsewhere u (eqb-false u place eq))) (own u))
      ] refl

-- a table with another slot at one place, of the same user
module _ {A : Type 0} (slots : List (Slot A)) (place : ℕ) (within : place < length slots) (y : Slot A) where
  own_with : AreOwn slots → IsOf (owner script_keys place) y → AreOwn (set slots place y)
  own_with own is u =
      elim (u == place) as (λ b. (u == place) ≡ b → IsOf (owner script_keys u) (get_or (set slots place y) u slot.Unmade)) [
        | true ↦ (λ eq. subst (λ (n : ℕ). IsOf (owner script_keys n) (get_or (set slots place y) n slot.Unmade)) (sym (eqb-true u place eq)) (subst (λ (z : Slot A). IsOf (owner script_keys place) z) (sym (get_or-set_same slots place y slot.Unmade within)) is))
        | false ↦ (λ eq. subst (λ (z : Slot A). IsOf (owner script_keys u) z) (sym (get_or-set_other slots place u y slot.Unmade (eqb-false u place eq))) (own u))
      ] refl

-- and with none there
pub ready_without : {A : Type 0} (pinned : Key) (slots : List (Slot A)) (place u : ℕ) (at : place ≡ u) → u < 64 → (x : Slot A) → x ≡ slot.Unmade → AreReady pinned slots → AreReady pinned (set slots place x)
ready_without {A} pinned slots place u at small x is ready =
    let within : place < length slots = subst (λ (n : ℕ). place < n) (sym ready.size) (subst (λ (n : ℕ). n < 64) (sym at) small) in
    record {
      pinned_is = ready.pinned_is;
      size = length-set slots place x ∙ ready.size;
      own = own_with slots place within x ready.own (subst (λ (z : Slot A). IsOf (owner script_keys place) z) (sym is) tt);
    }

-- The client of a user is taken out of its place, and another put there.
module _ {A : Type 0} (slots : List (Slot A)) (place u : ℕ) (at : place ≡ u) (small : u < 64) (size : length slots ≡ 64) (found taken : Slot A)
    (is : found ≡ get_or slots place found) (same : taken ≡ found) where
  pub inside : place < length slots
  inside = subst (λ (n : ℕ). place < n) (sym size) (subst (λ (n : ℕ). n < 64) (sym at) small)

  pub taken_out : taken ≡ get_or slots u slot.Unmade
  taken_out = same ∙ get_or_read slots place found inside is slot.Unmade ∙ ap (λ (n : ℕ). get_or slots n slot.Unmade) at

  pub still_of : AreOwn slots → IsOf (owner script_keys u) taken
  still_of own = subst (λ (z : Slot A). IsOf (owner script_keys u) z) (sym taken_out) (own u)

  module _ (x y : Slot A) where
    put_there : client_at (clients_in (set (set slots place x) place y)) u ≡ client_in y
    put_there =
        in_table (set (set slots place x) place y) u
        ∙ ap (λ (z : Slot A). client_in z)
        (subst (λ (n : ℕ). get_or (set (set slots place x) place y) n slot.Unmade ≡ y) at (at_place slots place inside x y))

    pub carried : (o : Owner) (t : Act A) (a : Answer A) → ComesOf o (client_in taken) t a (client_in y)
        → ComesOf o (client_at (clients_in slots) u) t a (client_at (clients_in (set (set slots place x) place y)) u)
    carried o t a comes =
        subst (λ (k : Client). ComesOf o k t a (client_at (clients_in (set (set slots place x) place y)) u))
        (ap (λ (z : Slot A). client_in z) taken_out ∙ sym (in_table slots u))
        (subst (λ (k : Client). ComesOf o (client_in taken) t a k) (sym put_there) comes)

    pub all_own : AreOwn slots → IsOf (owner script_keys u) y → AreOwn (set (set slots place x) place y)
    all_own own of_user = still_own slots place inside x y own (subst (λ (n : ℕ). IsOf (owner script_keys n) y) (sym at) of_user)

    pub others_stay : (v : ℕ) → v ≢ u → client_at (clients_in (set (set slots place x) place y)) v ≡ client_at (clients_in slots) v
    others_stay v other =
        in_table (set (set slots place x) place y) v
        ∙ ap (λ (z : Slot A). client_in z) (elsewhere slots place inside x y v (λ w. other (w ∙ at)))
        ∙ sym (in_table slots v)

    pub same_length : length (set (set slots place x) place y) ≡ 64
    same_length = length_rewritten slots place inside x y ∙ size
