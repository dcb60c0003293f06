-- Sessions, from their parts.
use Rattle.std.proofs.Common.{◌≡◌, ◌⊎◌, inl, inr, ℕ, false, List, [], ◌∷◌, ◌++◌, Option, None, Result, Ok, Err, refl, sym, ap, ◌∙◌, subst, map, append-nil}
use Rattle.std.specs.Vec.{vec_items}
use Rattle.std.specs.declared.vec.Vec.{Vec}
use Rattle.client_steps.specs.Anywhere.{on_ok}
use Rattle.layout.specs.Types.{Bytes, Digest, User}
use Rattle.update_cert.specs.Change.{Change}
use Rattle.update_cert.specs.World.{Tree}
use Rattle.client_releases.specs.declared.error.ClientError.TheVariants as error
use Rattle.client_verify.specs.State.{State}
use Rattle.commands.specs.Answers.{Answer, answer_of}
use Rattle.commands.specs.Asked.{Outcome, Tells, Writes, outcome, told_of_lost}
use Rattle.commands.specs.declared.command.Command.{Command}
use Rattle.file_session.specs.declared.planning.Plan.TheVariants as plan
use Rattle.file_session.specs.declared.planning.Operation.{Operation}
use Rattle.file_session.specs.declared.stop.Stop.{Stop}
use Rattle.file_session.specs.declared.stop.Stop.TheVariants as stop
use Rattle.file_session.specs.Order.{Next, Ready, Over, ready_or, resuming}
use Rattle.file_session.specs.Parts.{CantPlan, Carried, IsEnded, IsPlanOf, IsWrite, Planned, Wrote}
use Rattle.file_session.specs.Sessions.{IsAsked, IsDone, IsFinished, IsResumed, IsUncommitted, IsUnfinished, Ran, Resumed}
use Rattle.file_session.specs.Tries.{can_declare}
use Rattle.file_session.specs.Went.{Agrees, Answering, At, point, Event, Begun, Saw, Seen, Signed, Unbegun, Unplanned, Looked, looks, signs, Went, Finished, Operated}
use Rattle.file_session.proofs.Given.{given_from}
use Rattle.file_session.proofs.Once.{asked_once}
use Rattle.file_session.proofs.Runs.{lacks_leaves, went_as, went_then}
use Rattle.file_session.proofs.Synced.{all_sign_synced, at_start}

pub tells_are : {A : Type 0} (o : Outcome) (x : _) → IsPlanOf {A = A} o (plan.Tells x) → o ≡ Tells (answer_of x)
tells_are (Tells told) x is = ap Tells (sym is)
tells_are (Writes wanted) x is = absurd is

-- an operation that is asked for
asks : {A : Type 0} {u : User} {command : Command} (op : Operation A) (o : Outcome) (seen : List Seen) → ((tree : Tree) → Agrees tree seen → outcome u command tree ≡ o) → IsPlanOf {A = A} o (plan.Writes op) → IsAsked u command seen op.changes.items (map vec_items op.texts.items)
asks op (Tells told) seen agrees is = absurd is
asks op (Writes wanted) seen agrees is = record { wanted = wanted; asked = agrees; changes_are = is.0; laid_are = is.1 }

-- once the command was reached, what was to be finished first is
reached : {X : Type 0} (s : State) (signed : List (List ℕ)) (es : List Event) (r : Result X Stop) (resumed : Option Resumed) (new : State) → (es ≡ [] → ⊥) → IsFinished s signed resumed → IsResumed s signed es r resumed new
reached s signed [] r resumed new some h = absurd (some refl)
reached s signed (e ∷ es) r resumed new some h = h

-- what is told of an operation, by what it lost or by what stopped it
abbrev pub told_by : Result (List ℕ) Stop → Result Answer Stop
told_by (Ok lost) = Ok (told_of_lost lost)
told_by (Err e) = Err e

done_by : {u : User} {command : Command} {seen : List Seen} (new : State) (changes : List (Change Digest)) (laid : List Bytes) (es : List Event) (r : Result (List ℕ) Stop) → IsAsked u command seen changes laid → IsWrite changes laid es r new → IsDone u command seen es (told_by r) new
done_by new changes laid [] (Ok lost) asked is = absurd is
done_by new changes laid [] (Err e) asked is = tt
done_by {u} {command} {seen} new changes laid (Begun begun texts ∷ es) (Ok lost) asked is =
    (subst (λ (p : List (Change Digest) × List Bytes). IsAsked u command seen p.0 p.1) (both (sym is.0) (sym is.1)) asked, (lost, is.2, refl))
  where
    both : changes ≡ begun → laid ≡ texts → ◌≡◌ {A = List (Change Digest) × List Bytes} (changes, laid) (begun, texts)
    both one other = λ i. (one i, other i)
done_by {u} {command} {seen} new changes laid (Begun begun texts ∷ es) (Err e) asked is =
    (subst (λ (p : List (Change Digest) × List Bytes). IsAsked u command seen p.0 p.1) (both (sym is.0) (sym is.1)) asked, is.2)
  where
    both : changes ≡ begun → laid ≡ texts → ◌≡◌ {A = List (Change Digest) × List Bytes} (changes, laid) (begun, texts)
    both one other = λ i. (one i, other i)
done_by new changes laid (Unbegun ∷ []) (Ok lost) asked is = absurd is
done_by new changes laid (Unbegun ∷ []) (Err e) asked is = (asked.wanted, asked.asked)
done_by new changes laid (Unbegun ∷ (x ∷ es)) r asked is = absurd is
done_by new changes laid (Saw s ∷ es) r asked is = absurd is
done_by new changes laid (Signed lost ∷ es) r asked is = absurd is
done_by new changes laid (Unplanned ∷ es) r asked is = absurd is

pub ready_same : {X Y : Type 0} (f : X → Y) (r : Result X Stop) → ready_or r ≡ ready_or (on_ok f r)
ready_same f (Ok x) = refl
ready_same f (Err e) = refl

module _ {T : Type 0} {answers : Answering T} where
  -- the texts were stored, and the operation made
  pub wrote : {a b : At T} {m : State} {t : T} {changes : List (Change Digest)} {laid : List Bytes} (lost : List ℕ) → Went answers a (point m t (Ready laid)) [] → Operated answers (point m t (Ready laid)) b changes laid (λ signed. signed ≡ lost ∷ []) → Wrote answers a b changes laid (Ok lost)
  wrote {changes = changes} {laid = laid} lost h k = record { es = Begun changes laid ∷ signs k.signed; went = went_then h k.went; written = (refl, refl, ap signs k.lost) }

  -- or the operation was refused
  pub wrote_not : {a b : At T} {m : State} {t : T} {changes : List (Change Digest)} {laid : List Bytes} {e : Stop} → Went answers a (point m t (Ready laid)) [] → Operated answers (point m t (Ready laid)) b changes laid (λ signed. IsUncommitted signed b.client) → Wrote answers a b changes laid (Err e)
  wrote_not {changes = changes} {laid = laid} h k = record { es = Begun changes laid ∷ signs k.signed; went = went_then h k.went; written = (refl, refl, (k.signed, refl, k.lost)) }

  -- whichever came of it
  pub wrote_by : {A : Type 0} {a b : At T} {m : State} {t : T} {changes : List (Change Digest)} {laid : List Bytes} (r : Result (Vec ℕ A) Stop) → Went answers a (point m t (Ready laid)) [] → Operated answers (point m t (Ready laid)) b changes laid (IsEnded r b.client) → Wrote answers a b changes laid (on_ok vec_items r)
  wrote_by (Ok lost) h k = wrote lost.items h k
  wrote_by (Err e) h k = wrote_not h k

  -- or it wasn't begun, for want of leaves
  pub wrote_none : {changes : List (Change Digest)} {laid : List Bytes} (m : State) (t : T) (e : Stop) → can_declare m ≡ false → e ≡ stop.Client error.NoLeaf → Wrote answers (point m t (Ready [])) (point m t (Over e)) changes laid (Err e)
  wrote_none m t e lacks is = record { es = Unbegun ∷ []; went = lacks_leaves m t e lacks is; written = tt }

  -- ---- a command

  -- the look wasn't begun, for want of leaves
  pub carried_none : (u : User) (c : Command) (m : State) (t : T) (e : Stop) → can_declare m ≡ false → e ≡ stop.Client error.NoLeaf → Carried answers (point m t (Ready [])) (point m t (Over e)) u c (Err e)
  carried_none u c m t e lacks is = record { es = Unbegun ∷ []; went = lacks_leaves m t e lacks is; some = λ none. cc none; carried = tt }

  -- the look was stopped, before or after it was signed
  stopped_at : {a b : At T} (u : User) (c : Command) (e : Stop) (signed : List (List ℕ)) → Went answers a b (Begun [] [] ∷ signs signed) → IsUncommitted signed b.client → Carried answers a b u c (Err e)
  stopped_at u c e [] went uncommitted = record {
    es = Begun [] [] ∷ [];
    went = went;
    some = λ none. cc none;
    carried = record { signed = []; seen = []; written = []; order = refl; done = inl (refl, refl, refl, tt) };
  }
  stopped_at u c e (lost ∷ []) went uncommitted = record {
    es = Begun [] [] ∷ (Signed lost ∷ []);
    went = went;
    some = λ none. cc none;
    carried = record { signed = lost ∷ []; seen = []; written = []; order = refl; done = inr (lost, refl, tt) };
  }
  stopped_at u c e (lost ∷ (other ∷ signed)) went uncommitted = absurd uncommitted

  pub carried_not : {a b : At T} (u : User) (c : Command) (e : Stop) → Operated answers a b [] [] (λ signed. IsUncommitted signed b.client) → Carried answers a b u c (Err e)
  carried_not u c e k = stopped_at u c e k.signed k.went k.lost

  -- the look has its view, and these are the looks in it, and what is done after them
  after_looks : {a b c : At T} {u : User} {command : Command} {result : Result Answer Stop} (k : Operated answers a b [] [] (λ signed. (lost : List ℕ) × (signed ≡ lost ∷ []))) (seen : List Seen) (written : List Event)
      → Went answers b c (looks seen ++ written) → IsDone u command seen written result c.client → Carried answers a c u command result
  after_looks k seen written went done = record {
    es = Begun [] [] ∷ (signs k.signed ++ (looks seen ++ written));
    went = went_then k.went went;
    some = λ none. cc none;
    carried = record { signed = k.signed; seen = seen; written = written; order = refl; done = inr (k.lost.0, k.lost.1, done) };
  }

  -- a look in it was stopped, or memory was refused for the operation that is asked for
  by_look : {a b c : At T} {u : User} {command : Command} (e : Stop) → Operated answers a b [] [] (λ signed. (lost : List ℕ) × (signed ≡ lost ∷ [])) → (Looked answers b c (λ tree. Unit {0}) ⊎ CantPlan answers b c (outcome u command)) → Carried answers a c u command (Err e)
  by_look e k (inl p) = after_looks k p.seen [] (went_as p.went (sym (append-nil (looks p.seen)))) tt
  by_look e k (inr p) = after_looks k p.seen (Unplanned ∷ []) p.went p.needs

  pub looked_not : {A : Type 0} {a b c : At T} {u : User} {command : Command} (e : Stop) → Operated answers a b [] [] (λ signed. (lost : List ℕ) × (signed ≡ lost ∷ [])) → Planned {A = A} answers b c (outcome u command) (Err e) → Carried answers a c u command (Err e)
  looked_not e k p = by_look e k p.looked

  -- an answer at once
  pub tells : {A : Type 0} {a b c : At T} {u : User} {command : Command} (x : _) → Operated answers a b [] [] (λ signed. (lost : List ℕ) × (signed ≡ lost ∷ [])) → Planned {A = A} answers b c (outcome u command) (Ok (plan.Tells x)) → Carried answers a c u command (Ok (answer_of x))
  tells x k p = after_looks k p.looked.seen [] (went_as p.looked.went (sym (append-nil (looks p.looked.seen)))) (λ tree agrees. p.looked.tells tree agrees ∙ tells_are p.outcome x p.is_plan)

  pub writes : {A : Type 0} {a b c d : At T} {u : User} {command : Command} (op : Operation A) (r : Result (List ℕ) Stop) → Operated answers a b [] [] (λ signed. (lost : List ℕ) × (signed ≡ lost ∷ [])) → Planned {A = A} answers b c (outcome u command) (Ok (plan.Writes op)) → Wrote answers c d op.changes.items (map vec_items op.texts.items) r → Carried answers a d u command (told_by r)
  writes {d = d} op r k p w = after_looks k p.looked.seen w.es (went_then p.looked.went w.went) (done_by d.client op.changes.items (map vec_items op.texts.items) w.es r (asks op p.outcome p.looked.seen p.looked.tells p.is_plan) w.written)

  -- by another name
  pub writes_as : {A : Type 0} {a b c d : At T} {u : User} {command : Command} (op : Operation A) (changes : List (Change Digest)) (laid : List Bytes) (r : Result (List ℕ) Stop) → Operated answers a b [] [] (λ signed. (lost : List ℕ) × (signed ≡ lost ∷ [])) → Planned {A = A} answers b c (outcome u command) (Ok (plan.Writes op)) → changes ≡ op.changes.items → laid ≡ map vec_items op.texts.items → Wrote answers c d changes laid r → Carried answers a d u command (told_by r)
  writes_as {c = c} {d = d} op changes laid r k p one other w =
      writes op r k p (subst (λ (t : List Bytes). Wrote answers c d op.changes.items t r) other (subst (λ (cs : List (Change Digest)). Wrote answers c d cs laid r) one w))

  pub carried_to : {a : At T} {m : State} {t : T} {now next : Next} {u : User} {c : Command} {r : Result Answer Stop} → now ≡ next → Carried answers a (point m t now) u c r → Carried answers a (point m t next) u c r
  carried_to {a} {m} {t} {u = u} {c = c} {r = r} is h = let P : Next → Type 0 = λ n. Carried answers a (point m t n) u c r in subst P is h

  -- ---- a session

  -- what was to be finished first was stopped
  pub ran_not : (s new : State) (t t' : T) (u : User) (c : Command) (resumed : Option Resumed) (e : Stop) {P : List (List ℕ) → Type 0} → resumed ≡ None → IsUnfinished new → Finished answers (point s t (resuming s.phase s.text)) (point new t' (Over e)) P → Ran answers s t u c new t' resumed (Err e)
  ran_not s new t t' u c resumed e none unfinished h = record {
    moves = h.went.moves;
    signed = h.signed;
    es = [];
    run = h.went.run;
    order = h.went.told ∙ sym (append-nil (signs h.signed));
    finished = (tt, none, unfinished);
    carried = tt;
    given = given_from answers (point s t (resuming s.phase s.text)) (point new t' (Over e)) s.phase s.text h.went.moves (Err e) refl refl h.went.run;
    synced = all_sign_synced answers (point s t (resuming s.phase s.text)) h.went.moves (point new t' (Over e)) false (at_start s.phase s.text) h.went.run;
    once = asked_once answers (point s t (resuming s.phase s.text)) h.went.moves (point new t' (Over e)) h.went.run;
  }

  -- it was finished, and the command carried out
  pub ran : (s mid new : State) (t t1 t' : T) (u : User) (c : Command) (resumed : Option Resumed) (r : Result Answer Stop) → Finished answers (point s t (resuming s.phase s.text)) (point mid t1 (Ready [])) (λ signed. IsFinished s signed resumed) → Carried answers (point mid t1 (Ready [])) (point new t' (ready_or r)) u c r → Ran answers s t u c new t' resumed r
  ran s mid new t t1 t' u c resumed r h k =
      let both = went_then h.went k.went in
      record {
        moves = both.moves;
        signed = h.signed;
        es = k.es;
        run = both.run;
        order = both.told;
        finished = reached s h.signed k.es r resumed new k.some h.lost;
        carried = k.carried;
        given = given_from answers (point s t (resuming s.phase s.text)) (point new t' (ready_or r)) s.phase s.text both.moves r refl refl both.run;
        synced = all_sign_synced answers (point s t (resuming s.phase s.text)) both.moves (point new t' (ready_or r)) false (at_start s.phase s.text) both.run;
        once = asked_once answers (point s t (resuming s.phase s.text)) both.moves (point new t' (ready_or r)) both.run;
      }
