-- What a command tells, by what its session's moves tell.
use Rattle.std.proofs.Common.{◌≡◌, ℕ, Bool, true, false, ◌&&◌, List, [], ◌∷◌, ◌++◌, Option, Some, None, Result, Ok, IfSome, IsSome, IsSomeAnd, refl, sym, ap, ◌∙◌, subst, inl, inr}
use Rattle.std.specs.Prelude.{◌⊎◌, is_some}
use Rattle.std.specs.List.{Contains}
use Rattle.layout.specs.Types.{Bytes, Key, User}
use Rattle.update_cert.specs.Reading.{Reading}
use Rattle.agreement.specs.Runs.{View, user_of}
use Rattle.client_verify.specs.State.{AcceptedView, State}
use Rattle.commands.specs.Answers.{Answer}
use Rattle.commands.specs.Asked.{Tells, only_reads, outcome}
use Rattle.commands.specs.declared.command.Command.{Command}
use Rattle.file_session.specs.declared.stop.Stop.{Stop}
use Rattle.file_session.specs.Sessions.{IsCarriedOut, IsCommand, IsDone, IsResumed, Resumed}
use Rattle.file_session.specs.Told.{IsShown, can_tell, is_idle}
use Rattle.file_session.specs.Went.{Agrees, Answering, Begun, Event, Saw, Seen, Signed, Unbegun, Unplanned, events, looks, signs}
use Rattle.session_runs.specs.Lives.{Carried, Showing}
use Rattle.fork_consistency.specs.Shown.{IsOfWorld}
use Rattle.fork_consistency.specs.Worlds.{AreLost}
use Rattle.session_runs.specs.Told.{AreTold, AreWritten, IsAnswered, IsOwn, IsOwnOperation, MovesTell, OfChanges, OfNumber, Operation, ReadsWorld, TellsWorlds, seen_by, signed_texts}

module _ (reads : Reading) (key : Key) (accepted : List View) (u : User) (texts : List Bytes) where
  abbrev Told : Option View → Operation → List Event → Type 0
  Told = AreTold reads key accepted u texts

  -- what comes after signed views is told from some view on
  past_signs : (signed : List (List ℕ)) (es : List Event) (last : Option View) (begun : Operation) → Told last begun (signs signed ++ es) → (mid : Option View) × Told mid begun es
  past_signs [] es last begun told = (last, told)
  past_signs (lost ∷ signed) es last begun told = past_signs signed es (Some told.0) begun told.4

  -- the looks agree with the world of the view, and what comes then is told
  past_looks : (seen : List Seen) (es : List Event) (x : View) (begun : Operation) → Told (Some x) begun (looks seen ++ es) → Agrees (seen_by reads key accepted x) seen × Told (Some x) begun es
  past_looks [] es x begun told = (tt, told)
  past_looks (s ∷ seen) es x begun told = let more = past_looks seen es x begun told.1 in ((told.0, more.0), more.1)

  -- ---- the answer

  module _ (c : Command) (answer : Answer) (new : State) where
    written : (x : View) (begun : Operation) (seen : List Seen) (es : List Event) → Agrees (seen_by reads key accepted x) seen → IsDone u c seen es (Ok answer) new → Told (Some x) begun es
        → (outcome u c (seen_by reads key accepted x) ≡ Tells answer) ⊎ AreWritten reads key accepted u texts c (seen_by reads key accepted x) answer
    written x begun seen [] agrees done told = inl (done (seen_by reads key accepted x) agrees)
    written x begun seen (Begun changes laid ∷ es) agrees done told =
        let asked = done.0 in
        let w = done.1 in
        let of : Told (Some x) (OfChanges changes) (Signed w.0 ∷ []) = subst (Told (Some x) (OfChanges changes)) w.1 told in
        inr (record { wanted = asked.wanted; asked = asked.asked (seen_by reads key accepted x) agrees; view = of.0; own = of.1; declared = of.2 ∙ asked.changes_are; lost = w.0; loses = of.3; told = w.2 })
    written x begun seen (Unbegun ∷ []) agrees done told = absurd done
    written x begun seen (Unbegun ∷ (e ∷ es)) agrees done told = absurd done
    written x begun seen (Saw s ∷ es) agrees done told = absurd done
    written x begun seen (Signed lost ∷ es) agrees done told = absurd done
    written x begun seen (Unplanned ∷ []) agrees done told = absurd done
    written x begun seen (Unplanned ∷ (e ∷ es)) agrees done told = absurd done

    carried : (es : List Event) → IsCarriedOut u c es (Ok answer) new → (last : Option View) (begun : Operation) → Told last begun es → IsAnswered reads key accepted u texts c answer
    carried es k last begun told = go k.done
      where
        go : ((k.signed ≡ []) × (k.seen ≡ []) × (k.written ≡ []) × ⊥) ⊎ ((lost : List ℕ) × (k.signed ≡ lost ∷ []) × IsDone u c k.seen k.written (Ok answer) new) → IsAnswered reads key accepted u texts c answer
        go (inl none) = absurd none.3
        go (inr (lost, one, done)) =
            let all : Told last (OfChanges []) (signs k.signed ++ (looks k.seen ++ k.written)) = subst (Told last begun) k.order told in
            let of : Told last (OfChanges []) (Signed lost ∷ (looks k.seen ++ k.written)) = subst (λ (l : List (List ℕ)). Told last (OfChanges []) (signs l ++ (looks k.seen ++ k.written))) one all in
            let rest = past_looks k.seen k.written of.0 (OfChanges []) of.4 in
            record { view = of.0; own = of.1; looked = of.2; comes = written of.0 (OfChanges []) k.seen k.written rest.0 done rest.1 }

    -- the answer of a command that was reached
    answered : (es : List Event) → IsCommand u c es (Ok answer) new → (es ≡ [] → ⊥) → (last : Option View) (begun : Operation) → Told last begun es → IsAnswered reads key accepted u texts c answer
    answered [] command some last begun told = absurd (some refl)
    answered (Unbegun ∷ []) command some last begun told = absurd command
    answered (Unbegun ∷ (e ∷ es)) command some last begun told = carried (Unbegun ∷ (e ∷ es)) command last begun told
    answered (e ∷ es) command some last begun told = carried (e ∷ es) command last begun told

  -- ---- what was finished first

  -- where there is an answer, the command was reached
  reached : (s : State) (signed : List (List ℕ)) (es : List Event) (answer : Answer) (resumed : Option Resumed) (new : State) → IsResumed s signed es (Ok answer) resumed new → es ≡ [] → ⊥
  reached s signed [] answer resumed new is none = absurd is.0
  reached s signed (e ∷ es) answer resumed new is none = cc none

  -- the numbers of the operation that was finished first
  resumed_told : (s : State) (signed : List (List ℕ)) (es : List Event) (result : Result Answer Stop) (resumed : Option Resumed) (new : State) → IsResumed s signed es result resumed new
      → (last : Option View) → Told last (OfNumber s.number) (signs signed ++ es) → (r : Resumed) → resumed ≡ Some r
      → (x : View) × IsOwn accepted u texts x × IsOwnOperation (OfNumber r.number) x × AreLost reads key accepted x r.lost
  resumed_told s signed [] result resumed new is last told r at = absurd (let none : None ≡ Some r = sym is.1 ∙ at in cc none)
  resumed_told s signed (e ∷ es) result None new is last told r at = absurd (cc at)
  resumed_told s signed (e ∷ es) result (Some q) new is last told r at =
      let same : q ≡ r = cc at in
      let of : Told last (OfNumber s.number) (Signed q.lost ∷ (e ∷ es)) = subst (λ (l : List (List ℕ)). Told last (OfNumber s.number) (signs l ++ (e ∷ es))) is.2 told in
      (of.0, of.1, of.2 ∙ sym is.1 ∙ ap (λ (y : Resumed). y.number) same, subst (λ (y : Resumed). AreLost reads key accepted of.0 y.lost) same of.3)

-- ---- a command

-- a command that is told is told in a view
viewed : (s : State) (c : Command) → can_tell s c ≡ true → IsSome s.view
viewed s c can = go (only_reads c) s.view can
  where
    go : (b : Bool) (o : Option AcceptedView) → (b && (is_some o && is_idle s.phase)) ≡ true → IsSome o
    go true (Some v) can = refl
    go true None can = cc can
    go false o can = cc can

-- where there is an answer, looks are all
nothing_more : (u : User) (c : Command) (seen : List Seen) (e : Event) (es : List Event) (answer : Answer) → IsShown u c seen (e ∷ es) (Ok answer) → ⊥
nothing_more u c seen Unplanned [] answer is = is
nothing_more u c seen Unplanned (e ∷ es) answer is = is
nothing_more u c seen Unbegun es answer is = is
nothing_more u c seen (Begun changes laid) es answer is = is
nothing_more u c seen (Saw s) es answer is = is
nothing_more u c seen (Signed lost) es answer is = is

module _ (reads : Reading) (key : Key) (accepted : List View) (u : User) where
  pub command_tells : {T : Type 0} (answers : Answering T) (c : Carried answers) → c.before.user ≡ u → MovesTell reads key accepted u c.before.number c.ran.moves → TellsWorlds answers reads key accepted u c
  command_tells answers c own_user (last, told) =
      let texts : List Bytes = signed_texts c.ran.moves in
      let all : AreTold reads key accepted u texts last (OfNumber c.before.number) (signs c.ran.signed ++ c.ran.es) = subst (AreTold reads key accepted u texts last (OfNumber c.before.number)) c.ran.order told in
      let own = past_signs reads key accepted u texts c.ran.signed c.ran.es last (OfNumber c.before.number) all in
      record {
        told = (last, told);
        answer = λ answer is.
            let finished : IsResumed c.before c.ran.signed c.ran.es (Ok answer) c.resumed c.after = subst (λ (r : Result Answer Stop). IsResumed c.before c.ran.signed c.ran.es r c.resumed c.after) is c.ran.finished in
            let command : IsCommand u c.command c.ran.es (Ok answer) c.after = subst (λ (v : User). IsCommand v c.command c.ran.es (Ok answer) c.after) own_user (subst (λ (r : Result Answer Stop). IsCommand c.before.user c.command c.ran.es r c.after) is c.ran.carried) in
            answered reads key accepted u texts c.command answer c.after c.ran.es command (reached reads key accepted u texts c.before c.ran.signed c.ran.es answer c.resumed c.after finished) own.0 (OfNumber c.before.number) own.1;
        resumed = resumed_told reads key accepted u texts c.before c.ran.signed c.ran.es c.result c.resumed c.after c.ran.finished last all;
      }

  -- ---- a command that is told in the view that the client has

  pub read_tells : {T : Type 0} (answers : Answering T) (c : Showing answers) (last : Option View) → c.before.user ≡ u
      → IfSome c.before.view (λ v. IsSomeAnd last (λ x. IsOfWorld reads key accepted x v)) → ((x : View) → last ≡ Some x → Contains accepted x × (user_of x ≡ u))
      → AreTold reads key accepted u (signed_texts c.told.moves) last (OfNumber c.before.number) (events c.told.moves) → ReadsWorld answers reads key accepted u c
  read_tells answers c last own_user has own told =
      let r = go c.before.view last (viewed c.before c.command c.can) has own (subst (Told last (OfNumber c.before.number)) c.told.order told) in
      record { view = r.0; among = r.1.0; user = r.1.1; held = r.2; answer = r.3 }
    where
      texts : List Bytes
      texts = signed_texts c.told.moves

      Told : Option View → Operation → List Event → Type 0
      Told = AreTold reads key accepted u texts

      shown : (x : View) (seen : List Seen) (es : List Event) (answer : Answer) → IsShown c.before.user c.command seen es (Ok answer) → Agrees (seen_by reads key accepted x) seen → outcome u c.command (seen_by reads key accepted x) ≡ Tells answer
      shown x seen [] answer is agrees = ap (λ (v : User). outcome v c.command (seen_by reads key accepted x)) (sym own_user) ∙ is (seen_by reads key accepted x) agrees
      shown x seen (e ∷ es) answer is agrees = absurd (nothing_more c.before.user c.command seen e es answer is)

      go : (o : Option AcceptedView) (l : Option View) → IsSome o → IfSome o (λ v. IsSomeAnd l (λ x. IsOfWorld reads key accepted x v)) → ((x : View) → l ≡ Some x → Contains accepted x × (user_of x ≡ u)) → Told l (OfNumber c.before.number) (looks c.told.seen ++ c.told.es)
          → (x : View) × (Contains accepted x × (user_of x ≡ u)) × IsSomeAnd o (IsOfWorld reads key accepted x) × ((answer : Answer) → c.result ≡ Ok answer → outcome u c.command (seen_by reads key accepted x) ≡ Tells answer)
      go None l some has own told = absurd (cc some)
      go (Some v) None some has own told = absurd has
      go (Some v) (Some x) some has own told =
          (x, own x refl, has, λ answer is. shown x c.told.seen c.told.es answer (subst (IsShown c.before.user c.command c.told.seen c.told.es) is c.told.shown) (past_looks reads key accepted u texts c.told.seen c.told.es x (OfNumber c.before.number) told).0)
