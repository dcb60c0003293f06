-- What a command comes to, from looks.
use Rattle.std.proofs.Common.{◌≡◌, List, [], ◌∷◌, ◌++◌, map, Option, Some, None, Result, Ok, Err, IfOk, inl, inr, ap, refl, subst, sym, ◌∙◌, append_assoc}
use Rattle.std.specs.Prelude.{◌⊎◌, IfErr, OnErr}
use Rattle.std.specs.Borrow.{Bor}
use Rattle.std.specs.Option.{option_map_or}
use Rattle.layout.specs.Types.{Bytes, Group, Key, User}
use Rattle.directory.specs.Directory.{Entry}
use Rattle.directory.specs.declared.target.Target.{Target}
use Rattle.update_cert.specs.Change.{AddUser, AddMember, DropMember, SetKey, of_table}
use Rattle.update_cert.specs.declared.change.TableChange.{TableChange}
use Rattle.update_cert.specs.World.{Tree}
use Rattle.client_steps.specs.Anywhere.{on_ok}
use Rattle.client_verify.specs.State.{State}
use Rattle.commands.specs.Answers.{Details, answer_of}
use Rattle.commands.specs.Asked.{Outcome, Tells, Writes, adds_name, all_on_table, at_both, at_end, at_place, both, drops_name, links, lists, makes, outcome, puts, puts_all, reads, refuses, removes, row_of, tells_rows}
use Rattle.commands.specs.declared.answer.Answer.{Answer}
use Rattle.commands.specs.declared.files.NewFile.{NewFile}
use Rattle.commands.specs.Paths.{path_of, place_of}
use Rattle.commands.specs.declared.command.Command.{Command}
use Rattle.commands.specs.declared.command.Command.TheVariants as command
use Rattle.commands.specs.declared.answer.Refusal.TheVariants as refusal
use Rattle.file_session.specs.declared.planning.Plan.{Plan}
use Rattle.file_session.specs.declared.planning.Plan.TheVariants as plan
use Rattle.file_session.specs.declared.stop.Stop.{Stop}
use Rattle.file_session.specs.declared.stop.Stop.TheVariants as stop
use Rattle.file_session.specs.Order.{Ready, ready_or}
use Rattle.file_session.specs.Parts.{CanBegin, CantPlan, IsChange, IsPlanOf, LacksRows, LookedFor, Planned}
use Rattle.file_session.specs.Sessions.{NeedsMemory}
use Rattle.file_session.specs.Went.{Agrees, Answering, At, Event, Looked, Seen, Unplanned, looks, point}
use Rattle.file_session.proofs.Looks.{agrees_left, agrees_right, looked_next, looked_so}
use Rattle.file_session.proofs.Runs.{lacks_plan, looks_join, went_as, went_then}

pub on_err : {X E : Type 0} (r : Result X E) {P : Type 0} → P → OnErr r P
on_err (Ok x) h = tt
on_err (Err e) h = h

-- ---- each command

pub of_ls : (u : User) (c : Command) (path : Bor Bytes) (tree : Tree) → c ≡ command.Ls path → outcome u c tree ≡ at_end tree lists (path_of path.now)
unfolding outcome
of_ls u c path tree is = ap (λ (x : Command). outcome u x tree) is

pub of_cat : (u : User) (c : Command) (path : Bor Bytes) (tree : Tree) → c ≡ command.Cat path → outcome u c tree ≡ at_end tree reads (path_of path.now)
unfolding outcome
of_cat u c path tree is = ap (λ (x : Command). outcome u x tree) is

pub of_details : (u : User) (c : Command) (path : Bor Bytes) (tree : Tree) → c ≡ command.Details path → outcome u c tree ≡ at_end tree (tells_rows tree) (path_of path.now)
unfolding outcome
of_details u c path tree is = ap (λ (x : Command). outcome u x tree) is

pub of_put_all : (u : User) (c : Command) (directory : Bor Bytes) (files : Bor (List NewFile)) (tree : Tree) → c ≡ command.PutAll directory files → outcome u c tree ≡ puts_all u tree files.now (path_of directory.now)
unfolding outcome
of_put_all u c directory files tree is = ap (λ (x : Command). outcome u x tree) is

pub of_add_name : (u : User) (c : Command) (path to : Bor Bytes) (tree : Tree) → c ≡ command.AddName path to → outcome u c tree ≡ at_both u tree adds_name (path_of path.now) (path_of to.now)
unfolding outcome
of_add_name u c path to tree is = ap (λ (x : Command). outcome u x tree) is

pub of_drop_name : (u : User) (c : Command) (path to : Bor Bytes) (tree : Tree) → c ≡ command.DropName path to → outcome u c tree ≡ at_both u tree drops_name (path_of path.now) (path_of to.now)
unfolding outcome
of_drop_name u c path to tree is = ap (λ (x : Command). outcome u x tree) is

pub of_put : (u : User) (c : Command) (path content : Bor Bytes) (tree : Tree) → c ≡ command.Put path content → outcome u c tree ≡ at_place u tree (puts content.now) (path_of path.now)
unfolding outcome
of_put u c path content tree is = ap (λ (x : Command). outcome u x tree) is

pub of_mkdir : (u : User) (c : Command) (path : Bor Bytes) (tree : Tree) → c ≡ command.Mkdir path → outcome u c tree ≡ at_place u tree makes (path_of path.now)
unfolding outcome
of_mkdir u c path tree is = ap (λ (x : Command). outcome u x tree) is

pub of_rm : (u : User) (c : Command) (path : Bor Bytes) (tree : Tree) → c ≡ command.Rm path → outcome u c tree ≡ at_place u tree (λ place _. removes place) (path_of path.now)
unfolding outcome
of_rm u c path tree is = ap (λ (x : Command). outcome u x tree) is

abbrev by_target : User → Tree → Bor Bytes → Option Target → Outcome
by_target u tree path o = option_map_or (λ t. at_place u tree (λ place _. links t place) (path_of path.now)) o (refuses refusal.NoPath)

of_link_at : (u : User) (c : Command) (path target : Bor Bytes) (tree : Tree) (o : Option Target) → c ≡ command.Link path target → o ≡ place_of target.now → outcome u c tree ≡ by_target u tree path o
unfolding outcome
of_link_at u c path target tree o is found = ap (λ (x : Command). outcome u x tree) is ∙ ap (by_target u tree path) (sym found)

pub of_link : (u : User) (c : Command) (path target : Bor Bytes) (tree : Tree) (o : Option Target) (t : Target) → c ≡ command.Link path target → o ≡ place_of target.now → o ≡ Some t → outcome u c tree ≡ at_place u tree (λ place _. links t place) (path_of path.now)
of_link u c path target tree o t is found some = of_link_at u c path target tree o is found ∙ ap (by_target u tree path) some

pub of_link_not : (u : User) (c : Command) (path target : Bor Bytes) (tree : Tree) (o : Option Target) → c ≡ command.Link path target → o ≡ place_of target.now → o ≡ None → outcome u c tree ≡ refuses refusal.NoPath
of_link_not u c path target tree o is found none = of_link_at u c path target tree o is found ∙ ap (by_target u tree path) none

pub of_add_user : (u who : User) (c : Command) (key : Key) (tree : Tree) → c ≡ command.AddUser who key → outcome u c tree ≡ Writes (of_table (AddUser who key) ∷ [])
unfolding outcome
of_add_user u who c key tree is = ap (λ (x : Command). outcome u x tree) is

pub of_add_member : (u who : User) (group : Group) (c : Command) (tree : Tree) → c ≡ command.AddMember group who → outcome u c tree ≡ Writes (of_table (AddMember group who) ∷ [])
unfolding outcome
of_add_member u who group c tree is = ap (λ (x : Command). outcome u x tree) is

pub of_drop_member : (u who : User) (group : Group) (c : Command) (tree : Tree) → c ≡ command.DropMember group who → outcome u c tree ≡ Writes (of_table (DropMember group who) ∷ [])
unfolding outcome
of_drop_member u who group c tree is = ap (λ (x : Command). outcome u x tree) is

pub of_set_key : (u who : User) (c : Command) (key : Key) (tree : Tree) → c ≡ command.SetKey who key → outcome u c tree ≡ Writes (of_table (SetKey who key) ∷ [])
unfolding outcome
of_set_key u who c key tree is = ap (λ (x : Command). outcome u x tree) is

pub of_admin : (u : User) (c : Command) (changes : Bor (List TableChange)) (tree : Tree) → c ≡ command.Admin changes → outcome u c tree ≡ Writes (all_on_table changes.now)
unfolding outcome
of_admin u c changes tree is = ap (λ (x : Command). outcome u x tree) is

-- what is needed is so by more looks, and by another name
needs_as : (comes other : Tree → Outcome) (s t : List Seen) → ((tree : Tree) → Agrees tree t → other tree ≡ comes tree) → ((tree : Tree) → Agrees tree t → Agrees tree s) → NeedsMemory comes s → NeedsMemory other t
needs_as comes other s t same fewer (inl (wanted, asked)) = inl (wanted, λ tree agrees. same tree agrees ∙ asked tree (fewer tree agrees))
needs_as comes other s t same fewer (inr (entries, rows)) = inr (entries, λ tree agrees. same tree agrees ∙ rows tree (fewer tree agrees))

-- memory is needed for what comes of it after changes, too
needs_on : (first : Outcome) (comes : Tree → Outcome) (seen : List Seen) → IsChange first → NeedsMemory comes seen → NeedsMemory (λ tree. both first (comes tree)) seen
needs_on (Tells told) comes seen change needs = absurd change
needs_on (Writes changes) comes seen change (inl (wanted, asked)) = inl (changes ++ wanted, λ tree agrees. ap (both (Writes changes)) (asked tree agrees))
needs_on (Writes changes) comes seen change (inr (entries, rows)) = inr (entries, λ tree agrees. ap (both (Writes changes)) (rows tree agrees))

looked_as : {T X : Type 0} (answers : Answering T) (a b : At T) (r : Result X Stop) (comes other : Tree → Outcome) (o : Outcome) → ((tree : Tree) → other tree ≡ comes tree) → LookedFor answers a b comes o r → LookedFor answers a b other o r
looked_as answers a b (Ok x) comes other o same h = looked_so _ h (λ tree is. same tree ∙ is)
looked_as answers a b (Err e) comes other o same (inl h) = inl h
looked_as answers a b (Err e) comes other o same (inr h) = inr (record { seen = h.seen; went = h.went; needs = needs_as comes other h.seen h.seen (λ tree agrees. same tree) (λ tree agrees. agrees) h.needs })

lacks_join : (s t : List Seen) → looks s ++ (looks t ++ Unplanned ∷ []) ≡ looks (s ++ t) ++ Unplanned ∷ []
lacks_join s t = sym (append_assoc (looks s) (looks t) (Unplanned ∷ [])) ∙ ap (λ (es : List Event). es ++ Unplanned ∷ []) (looks_join s t)

module _ {T : Type 0} {answers : Answering T} where
  -- a look was stopped
  pub planned_not : {A : Type 0} {a b : At T} (comes : Tree → Outcome) (e : Stop) → Looked answers a b (λ tree. Unit {0}) → Planned {A = A} answers a b comes (Err e)
  planned_not comes e h = record { outcome = refuses refusal.NoPath; looked = inl h; is_plan = tt; can_begin = tt }

  -- this follows from the looks
  pub planned_now : {A : Type 0} {a b : At T} (comes : Tree → Outcome) (o : Outcome) (p : Plan A) → Looked answers a b (λ tree. comes tree ≡ o) → IsPlanOf o p → CanBegin p → Planned answers a b comes (Ok p)
  planned_now comes o p h is can = record { outcome = o; looked = h; is_plan = is; can_begin = can }

  -- unless memory runs out
  pub planned_by : {A : Type 0} {a : At T} {m : State} {t : T} (comes : Tree → Outcome) (o : Outcome) (r : Result (Plan A) Stop) → Looked answers a (point m t (Ready [])) (λ tree. comes tree ≡ o) → IfOk r (IsPlanOf o) → IfOk r CanBegin → IfErr r (λ e. e ≡ stop.Memory) → OnErr r (IsChange o) → Planned answers a (point m t (ready_or r)) comes r
  planned_by comes o (Ok p) h is can none change = planned_now comes o p h is can
  planned_by comes (Tells told) (Err e) h is can memory change = absurd change
  planned_by {m = m} {t = t} comes (Writes wanted) (Err e) h is can memory change = record {
    outcome = Writes wanted;
    looked = inr (record { seen = h.seen; went = went_then h.went (lacks_plan m t e memory); needs = inl (wanted, h.tells) });
    is_plan = tt;
    can_begin = tt;
  }

  -- an answer at once
  pub told_now : {A : Type 0} {a b : At T} (comes : Tree → Outcome) (x : Answer A) → Looked answers a b (λ tree. comes tree ≡ Tells (answer_of x)) → Planned answers a b comes (Ok (plan.Tells x))
  told_now comes x h = planned_now comes (Tells (answer_of x)) (plan.Tells x) h refl tt

  -- memory is refused for the rows of a directory
  pub rows_not : {A : Type 0} {a b c : At T} {P : Tree → Type 0} (comes : Tree → Outcome) (entries : List Entry) (e : Stop) → Looked answers a b P → (Looked answers b c (λ tree. Unit {0}) ⊎ LacksRows answers b c)
      → ((tree : Tree) → P tree → comes tree ≡ Tells (Details (map (row_of tree) entries))) → Planned {A = A} answers a c comes (Err e)
  rows_not comes entries e h (inl k) rows = planned_not comes e (looked_next _ h k (λ tree p r. tt))
  rows_not comes entries e h (inr k) rows = record {
    outcome = refuses refusal.NoPath;
    looked = inr (record {
      seen = h.seen ++ k.seen;
      went = went_as (went_then h.went k.went) (lacks_join h.seen k.seen);
      needs = inr (entries, λ tree agrees. rows tree (h.tells tree (agrees_left tree h.seen k.seen agrees)));
    });
    is_plan = tt;
    can_begin = tt;
  }

  -- what comes of it after looks
  looked_after : {X : Type 0} {a b : At T} {P : Tree → Type 0} (c : At T) (r : Result X Stop) (comes other : Tree → Outcome) (o : Outcome) → Looked answers a b P → ((tree : Tree) → P tree → other tree ≡ comes tree) → LookedFor answers b c comes o r → LookedFor answers a c other o r
  looked_after c (Ok x) comes other o h same k = looked_next _ h k (λ tree p is. same tree p ∙ is)
  looked_after c (Err e) comes other o h same (inl k) = inl (looked_next _ h k (λ tree p r. tt))
  looked_after c (Err e) comes other o h same (inr k) = inr (record {
    seen = h.seen ++ k.seen;
    went = went_as (went_then h.went k.went) (lacks_join h.seen k.seen);
    needs = needs_as comes other k.seen (h.seen ++ k.seen) (λ tree agrees. same tree (h.tells tree (agrees_left tree h.seen k.seen agrees))) (λ tree agrees. agrees_right tree h.seen k.seen agrees) k.needs;
  })

  pub planned_after : {A : Type 0} {a b c : At T} {P : Tree → Type 0} {r : Result (Plan A) Stop} (comes other : Tree → Outcome) → Looked answers a b P → ((tree : Tree) → P tree → other tree ≡ comes tree) → Planned answers b c comes r → Planned answers a c other r
  planned_after {c = c} {r = r} comes other h same p = record { outcome = p.outcome; looked = looked_after c r comes other p.outcome h same p.looked; is_plan = p.is_plan; can_begin = p.can_begin }

  -- what comes after changes isn't planned
  pub planned_on : {A : Type 0} {b c : At T} (comes : Tree → Outcome) (first : Outcome) (e : Stop) → IsChange first → Planned {A = A} answers b c comes (Err e) → Planned {A = A} answers b c (λ tree. both first (comes tree)) (Err e)
  planned_on {b = b} {c = c} comes first e change p = record { outcome = p.outcome; looked = on p.looked; is_plan = tt; can_begin = tt }
    where
      on : (Looked answers b c (λ tree. Unit {0}) ⊎ CantPlan answers b c comes) → Looked answers b c (λ tree. Unit {0}) ⊎ CantPlan answers b c (λ tree. both first (comes tree))
      on (inl h) = inl h
      on (inr h) = inr (record { seen = h.seen; went = h.went; needs = needs_on first comes h.seen change h.needs })

  -- what comes of it is the same by another name
  pub planned_as : {A : Type 0} {a b : At T} {r : Result (Plan A) Stop} (comes other : Tree → Outcome) → ((tree : Tree) → other tree ≡ comes tree) → Planned answers a b comes r → Planned answers a b other r
  planned_as {a = a} {b = b} {r = r} comes other same p = record {
    outcome = p.outcome;
    looked = looked_as answers a b r comes other p.outcome same p.looked;
    is_plan = p.is_plan;
    can_begin = p.can_begin;
  }

  -- the plan of an answer
  same_next : {A : Type 0} {a : At T} {m : State} {t : T} {comes : Tree → Outcome} (r : Result (Answer A) Stop) → Planned answers a (point m t (ready_or r)) comes (on_ok plan.Tells r) → Planned answers a (point m t (ready_or (on_ok plan.Tells r))) comes (on_ok plan.Tells r)
  same_next (Ok y) k = k
  same_next (Err e) k = k

  pub at_once_is : {A : Type 0} {a : At T} {m : State} {t : T} {comes : Tree → Outcome} (r : Result (Answer A) Stop) (p : Result (Plan A) Stop) → p ≡ on_ok plan.Tells r → Planned answers a (point m t (ready_or r)) comes (on_ok plan.Tells r) → Planned answers a (point m t (ready_or p)) comes p
  at_once_is {A = A} {a = a} {m = m} {t = t} {comes = comes} r p is h =
      let P : Result (Plan A) Stop → Type 0 = λ x. Planned answers a (point m t (ready_or x)) comes x in subst P (sym is) (same_next r h)
