-- A client that has each key that the server's table has of its user has the one by which it is to sign the structure over
-- an accepted reply.
use Rattle.std.proofs.Common.{◌≡◌, ◌≢◌, ◌<◌, ℕ, suc, Bool, true, List, [], ◌∷◌, length, map, get_or, arith, Option, Some, None, sym, ap, ◌∙◌, inl, inr, if◌then◌else◌}
use Rattle.std.specs.Prelude.{◌==◌, cond}
use Rattle.std.specs.List.{position, position_or_len}
use Rattle.std.specs.Option.{option_and_then}
use Rattle.std.proofs.lemmas.Bool.{cases_eq, cases_lt, lt-ltb, ne_eqb, true≢false}
use Rattle.std.proofs.lemmas.List.Sums.{fails_before_first}
use Rattle.std.proofs.lemmas.Slice.Eq.{bytes_eq-Decides}
use Rattle.layout.specs.Types.{Key, User}
use Rattle.lms_sign.specs.Keys.{public_key_of}
use Rattle.principals.specs.Table.{key_at}
use Rattle.version_order.specs.Vector.{version_of}
use Rattle.client_releases.specs.Told.{has_public}
use Rattle.client_verify.specs.State.{Ready, State, named_key as held_key, signer_of}
use Rattle.client_steps.specs.Steps.{Open}
use Rattle.client_runs.specs.Released.{released, tried_view}
use Rattle.client_runs.specs.Runs.{Event, Keys, client_of, pinned}
use Rattle.agreement.proofs.Members.{In, contains_in, in-map}
use Rattle.honest_dialogues.specs.Dialogue.{stage_of}
use Rattle.honest_runs.specs.HonestRuns.{HonestEvent, IsHonestRun, events, history}
use Rattle.honest_line.specs.GoingOn.{HasListedKeys}
use Rattle.honest_line.proofs.Follows.{Follows}
use Rattle.honest_line.proofs.Line.{grounds, keeps, naming, simulated, texts}
use Rattle.honest_line.proofs.Naming.{IsAssumed}
use Rattle.honest_line.proofs.Promises.{follows}
use Rattle.honest_line.proofs.Simulated.{HasNamed, accepted_named, knows}

-- ---- where an element stands

index : {X : Type 0} (xs : List X) (x d : X) → In x xs → (k : ℕ) × (k < length xs) × (get_or xs k d ≡ x)
index [] x d i = absurd i
index (y ∷ ys) x d (inl e) = (0, omega arith, sym e)
index (y ∷ ys) x d (inr i) = let (k, small, at) = index ys x d i in (suc k, omega (arith, small), at)

-- what passes stands somewhere
some_position : {X : Type 0} (p : X → Bool) (xs : List X) (x : X) → In x xs → p x ≡ true → position p xs ≢ None
some_position p xs x i passes none =
    let (k, small, at) = index xs x x i in
    elim (cases_lt k (position_or_len p xs)) [
      | inl below ↦ true≢false (sym passes ∙ ap p (sym at) ∙ fails_before_first p xs k x below)
      | inr first ↦ (
          let inside : position_or_len p xs < length xs = omega (arith, small, first) in
          let two : Some (position_or_len p xs) ≡ None = sym (ap (λ (b : Bool). cond b (Some (position_or_len p xs)) None) (lt-ltb (position_or_len p xs) (length xs) inside)) ∙ none in
          cc two)
    ]

-- ---- the key that is named

module _ (keys : Keys) (run : List HonestEvent) (is : IsHonestRun keys run) (p : IsAssumed keys run) (u : User) (s : State) (open_is : client_of u (events run) ≡ Open s) (y : Ready) (ready : s.accepted ≡ Some y) where
  abbrev es : List Event
  es = events run

  f : Follows keys (naming keys run is p) u (Open s) (released u es) (tried_view u es) (stage_of u (simulated keys run is p).moves)
  f = follows keys (naming keys run is p) (texts keys run is p) (grounds keys run is p) (history run) es (simulated keys run is p) (keeps keys run is p) u s open_is

  super : s.pinned ≡ pinned keys
  super = (knows keys (naming keys run is p) (texts keys run is p) (grounds keys run is p) (history run) es (simulated keys run is p) (keeps keys run is p) u s open_is).pinned

  n : HasNamed keys (naming keys run is p) (texts keys run is p) (grounds keys run is p) (history run) u y
  n = accepted_named keys (naming keys run is p) (texts keys run is p) (grounds keys run is p) (history run) es (simulated keys run is p) (keeps keys run is p) u s open_is y ready

  -- by it the client is to sign
  is_held : held_key s.pinned s.user y ≡ Some n.key
  is_held = elim (cases_eq u 0) [
    | inl zero ↦ ap (λ (v : User). held_key s.pinned v y) (f.low.own.user ∙ zero) ∙ ap (λ (k : Key). Some k) (super ∙ sym (n.super zero))
    | inr other ↦ ap (λ (v : User). held_key s.pinned v y) f.low.own.user
        ∙ ap (λ (b : Bool). if b then Some s.pinned else key_at u (version_of 0 y.lists.own.plan.vector) y.table) (ne_eqb u 0 other)
        ∙ n.named
  ]

  pub has_signer : HasListedKeys (pinned keys) (history run) u s → signer_of s y ≢ None
  unfolding signer_of
  has_signer has none =
      let (secret, i, same) = in-map public_key_of s.secrets n.key (contains_in n.key (map public_key_of s.secrets) (has (version_of 0 y.lists.own.plan.vector) n.key n.still)) in
      let passes : has_public n.key secret ≡ true = (bytes_eq-Decides (public_key_of secret) n.key).1 (sym same) in
      some_position (has_public n.key) s.secrets secret i passes
      (sym (ap (λ (k : Option Key). option_and_then (λ x. position (has_public x) s.secrets) k) is_held) ∙ none)
