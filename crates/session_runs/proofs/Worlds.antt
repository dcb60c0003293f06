-- Each deed of each life tells what is so in the worlds of accepted views.
use Rattle.std.proofs.Common.{◌≡◌, List, [], ◌∷◌, Option, None, refl, sym, ◌∙◌, subst, inl, inr}
use Rattle.std.specs.List.{flat_map}
use Rattle.layout.specs.Types.{Key, User}
use Rattle.update_cert.specs.Reading.{Reading}
use Rattle.agreement.specs.Runs.{View}
use Rattle.agreement.proofs.Members.{In, to_all}
use Rattle.client_steps.specs.Steps.{Client, Open, Owner, StepTaken, first}
use Rattle.client_runs.specs.Released.{views}
use Rattle.client_runs.specs.Runs.{IsRun, client_of, owner, pinned}
use Rattle.fork_consistency.specs.Shown.{IsOfWorld, IsTrueInWorld, last_view}
use Rattle.fork_consistency.proofs.Consistent.{consistent}
use Rattle.client_releases.specs.declared.phase.Phase.TheVariants as phase
use Rattle.file_session.specs.Order.{Ready}
use Rattle.file_session.specs.Went.{Answering, point}
use Rattle.session_runs.specs.Lives.{Carries, Deed, IsCut, IsLife, Leads, Reads, Takes, start, steps_by}
use Rattle.session_runs.specs.Told.{IsTold, OfNumber, SessionsTellWorlds, signed_texts}
use Rattle.session_runs.proofs.Along.{Along, Has, along_run, has_along, in_two, same_end}
use Rattle.session_runs.proofs.Begun.{at_start}
use Rattle.session_runs.proofs.Commands.{command_tells, read_tells}
use Rattle.session_runs.proofs.Lives.{deed_is_steps, lives_are_runs}
use Rattle.session_runs.proofs.Looking.{resuming}
use Rattle.session_runs.proofs.Told.{moves_told}
use Rattle.session_runs.proofs.Users.{IsUsers, steps_users}

module _ {T : Type 0} (answers : Answering T) (reads : Reading) (key : Key) (accepted : List View) (u : User) (o : Owner) (whose : o.user ≡ u) where
  abbrev OwnAlong : Option View → Client → List StepTaken → Option View → Client → Type 0
  OwnAlong = Along (IsTrueInWorld reads key accepted) (IsOfWorld reads key accepted) accepted u

  -- from a client by its other name
  from : (before c : Client) (last next : Option View) (steps : List StepTaken) (after : Client) → before ≡ c → OwnAlong last before steps next after → OwnAlong last c steps next after
  from before c last next steps after same along = subst (λ (b : Client). OwnAlong last b steps next after) same along

  -- an open client's view is told of the view that was accepted last
  abbrev HasOwn : Option View → Client → Type 0
  HasOwn = Has (IsTrueInWorld reads key accepted) (IsOfWorld reads key accepted) accepted u

  deed_told : (before : Client) (d : Deed answers) (mid : Client) (last next : Option View) (after : Client) → Leads answers o before d mid → IsUsers o before → HasOwn last before → OwnAlong last before (steps_by answers d) next after → IsTold answers reads key accepted u d
  deed_told before (Carries c) mid last next after leads own has along =
      command_tells reads key accepted u answers c (subst (IsUsers o) leads.0 own ∙ whose)
      (last, moves_told reads key accepted u (signed_texts c.ran.moves) answers (start c.before c.over) c.ran.moves _ c.ran.run last next (OfNumber c.before.number) after (from before (Open c.before) last next (steps_by answers (Carries c)) after leads.0 along) (resuming c.before.phase c.before.text c.before) (at_start c.before.phase c.before.text c.before) (λ t i. i))
  deed_told before (Reads c) mid last next after leads own has along =
      let held = subst (HasOwn last) leads.0 has in
      read_tells reads key accepted u answers c last (subst (IsUsers o) leads.0 own ∙ whose) held.0 (λ x at. let is = held.1 x at in (is.among, is.user))
      (moves_told reads key accepted u (signed_texts c.told.moves) answers (point c.before c.over (Ready [])) c.told.moves _ c.told.run last next (OfNumber c.before.number) after (from before (Open c.before) last next (steps_by answers (Reads c)) after leads.0 along) (resuming phase.Idle [] c.before) (at_start phase.Idle [] c.before) (λ t i. i))
  deed_told before (IsCut c) mid last next after leads own has along =
      (last, moves_told reads key accepted u (signed_texts c.moves) answers (start c.before c.over) c.moves c.reached c.run last next (OfNumber c.before.number) after (from before (Open c.before) last next (steps_by answers (IsCut c)) after leads.0 along) (resuming c.before.phase c.before.text c.before) (at_start c.before.phase c.before.text c.before) (λ t i. i))
  deed_told before (Takes s) mid last next after leads own has along = tt

  life_told : (before : Client) (deeds : List (Deed answers)) (end : Client) (last next : Option View) (after : Client) → IsLife answers o before deeds end → IsUsers o before → HasOwn last before → OwnAlong last before (flat_map (steps_by answers) deeds) next after
      → (d : Deed answers) → In d deeds → IsTold answers reads key accepted u d
  life_told before [] end last next after life own has along d i = absurd i
  life_told before (x ∷ later) end last next after (mid, one, more) own has along d (inl is) =
      let (l, c, here, rest) = in_two (IsTrueInWorld reads key accepted) (IsOfWorld reads key accepted) accepted u last before (steps_by answers x) (flat_map (steps_by answers) later) next after along in
      subst (IsTold answers reads key accepted u) (sym is) (deed_told before x mid last l c one own has here)
  life_told before (x ∷ later) end last next after (mid, one, more) own has along d (inr i) =
      let (l, c, here, rest) = in_two (IsTrueInWorld reads key accepted) (IsOfWorld reads key accepted) accepted u last before (steps_by answers x) (flat_map (steps_by answers) later) next after along in
      let at = same_end (IsTrueInWorld reads key accepted) (IsOfWorld reads key accepted) accepted u o last before (steps_by answers x) l c mid here (deed_is_steps answers o before x mid one) in
      life_told mid later end l next after more (steps_users o before (steps_by answers x) mid (deed_is_steps answers o before x mid one) own)
      (subst (HasOwn l) at (has_along (IsTrueInWorld reads key accepted) (IsOfWorld reads key accepted) accepted u last before (steps_by answers x) l c has here)) (from c mid l next (flat_map (steps_by answers) later) after at rest) d i

pub sessions_tell_worlds : {T : Type 0} (answers : Answering T) → SessionsTellWorlds answers
sessions_tell_worlds answers keys lives run are keys_are premises reads agrees u =
    let is : IsRun keys run = lives_are_runs answers keys lives run are in
    let told = (consistent keys run is keys_are premises).lines.shown reads agrees in
    let key = pinned keys in
    let whole = along_run (IsTrueInWorld reads key (views run)) (IsOfWorld reads key (views run)) (views run) u keys run is told (λ x i. i) in
    to_all (IsTold answers reads key (views run) u) (lives u)
    (life_told answers reads key (views run) u (owner keys u) refl first (lives u) (client_of u run) None (last_view u run) (client_of u run) (are.lived u) tt (tt, λ x at. cc at)
    (subst (λ (steps : List StepTaken). Along (IsTrueInWorld reads key (views run)) (IsOfWorld reads key (views run)) (views run) u None first steps (last_view u run) (client_of u run)) (are.steps u) whole))
