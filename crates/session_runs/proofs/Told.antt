-- What sessions tell is so in the worlds of accepted views.
use Rattle.std.proofs.Common.{◌≡◌, ◌<◌, ℕ, List, [], ◌∷◌, ◌++◌, Option, Some, None, Result, Ok, Err, IfSome, IsSome, IsSomeAnd, refl, sym, ap, ◌∙◌, subst, inl, option_map}
use Rattle.std.specs.Option.{option_and_then}
use Rattle.layout.specs.Types.{Bytes, Key, User}
use Rattle.leaf_ledger.specs.Ledger.{LeafNumber}
use Rattle.update_cert.specs.Reading.{Reading}
use Rattle.update_cert.specs.World.{Tree}
use Rattle.client_tree.specs.declared.questions.Question.{Question}
use Rattle.client_tree.specs.declared.questions.Question.TheVariants as question
use Rattle.client_releases.specs.declared.error.ClientError.{ClientError}
use Rattle.client_releases.specs.Releasing.{IsKept, structure_record, under}
use Rattle.client_verify.specs.declared.look.Look.TheVariants as look
use Rattle.client_verify.specs.declared.view.Looking.{Looking}
use Rattle.client_verify.specs.State.{AcceptedView, Ready, State, on, over, signed_over, signed_structure, signed_text, signing_key}
use Rattle.agreement.specs.Runs.{View}
use Rattle.agreement.proofs.Members.{In, in-left, in-right, in_contains}
use Rattle.client_runs.specs.Released.{in_hand, view_over}
use Rattle.client_steps.specs.Steps.{Client, HasSigned, Open, Sees, StepTaken, principal_of}
use Rattle.client_steps.specs.Steps as steps
use Rattle.fork_consistency.specs.Shown.{IsOfWorld, IsTrueInWorld, IsTrueOf, answered}
use Rattle.file_session.specs.Calls.{Begins, Call, Commits, Gives, Hears, Looks, Resigns, Signs, Takes, lost_in, step_of}
use Rattle.file_session.specs.Calls as session
use Rattle.file_session.specs.Order.{Calls, Follows, LacksLeaves, LacksNumbers, LacksPlan, Move, Next, Sends}
use Rattle.file_session.specs.Went.{Answering, At, Event, IsSeenIn, Moves, Signed, events, looks, seen_by as seen_in_call}
use Rattle.session_runs.specs.Told.{AreTold, IsOwn, IsOwnOperation, IsTextOf, OfChanges, Operation, seen_by, signed_by, signed_texts}
use Rattle.session_runs.specs.Lives.{steps_in}
use Rattle.session_runs.proofs.Along.{Along, Step}
use Rattle.session_runs.proofs.Begun.{IsUnderWay, after_call as after_begun, begun_after, lacks_leaves as way_lacks_leaves, lacks_numbers as way_lacks_numbers, lacks_plan as way_lacks_plan, sent as way_sent, signs_it, stays as way_stays}
use Rattle.session_runs.proofs.Declared.{IsOwnText, of_begun}
use Rattle.session_runs.proofs.Looking.{IsLooking, LooksFor, after_call, asked_for, lacks_leaves, lacks_numbers, lacks_plan, sent}

-- ---- an answer

-- it tells something
abbrev IsAnswer : Sees → Type 0
IsAnswer (look.Need digest) = ⊥
IsAnswer (look.Broken rule) = ⊥
IsAnswer other = Unit {0}

seen_so : (w : Tree) (q : Question) (answer : Sees) → principal_of q < 96 → IsTrueOf w q answer → IsAnswer answer → IsSeenIn w q answer
seen_so w (question.At p i) (look.File bytes) low is some = is low
seen_so w (question.At p i) (look.Dir entries) low is some = is low
seen_so w (question.At p i) look.None low is some = is low
seen_so w (question.At p i) (look.Kind kind) low is some = absurd is
seen_so w (question.At p i) (look.Free found) low is some = absurd is
seen_so w (question.Kind p i) (look.Kind kind) low is some = is low
seen_so w (question.Kind p i) (look.File bytes) low is some = absurd is
seen_so w (question.Kind p i) (look.Dir entries) low is some = absurd is
seen_so w (question.Kind p i) look.None low is some = absurd is
seen_so w (question.Kind p i) (look.Free found) low is some = absurd is
seen_so w (question.Free p first last) (look.Free found) low is some = is low
seen_so w (question.Free p first last) (look.File bytes) low is some = absurd is
seen_so w (question.Free p first last) (look.Dir entries) low is some = absurd is
seen_so w (question.Free p first last) look.None low is some = absurd is
seen_so w (question.Free p first last) (look.Kind kind) low is some = absurd is
seen_so w q (look.Need digest) low is some = absurd some
seen_so w q (look.Broken rule) low is some = absurd some

module _ (reads : Reading) (key : Key) (accepted : List View) (u : User) (texts : List Bytes) where
  abbrev Told : Option View → Operation → List Event → Type 0
  Told = AreTold reads key accepted u texts

  abbrev OwnStep : Option View → Client → StepTaken → Option View → Type 0
  OwnStep = Step (IsTrueInWorld reads key accepted) (IsOfWorld reads key accepted) accepted u

  abbrev OwnAlong : Option View → Client → List StepTaken → Option View → Client → Type 0
  OwnAlong = Along (IsTrueInWorld reads key accepted) (IsOfWorld reads key accepted) accepted u

  -- what is true of an answer is so in the world of the last view
  some_seen : (last : Option View) (q : Question) (answer : Sees) → principal_of q < 96 → IsAnswer answer → IsSomeAnd last (λ x. IsTrueInWorld reads key accepted x q answer)
      → IsSomeAnd last (λ x. IsSeenIn (seen_by reads key accepted x) q answer)
  some_seen None q answer low some is = absurd is
  some_seen (Some x) q answer low some is = seen_so (seen_by reads key accepted x) q answer low is some

  -- what a look tells
  look_told : (last : Option View) (begun : Operation) (q : Question) (x : Result Sees ClientError) (es : List Event) → principal_of q < 96
      → ((answer : Sees) → x ≡ Ok answer → IsSomeAnd last (λ v. IsTrueInWorld reads key accepted v q answer)) → Told last begun es → Told last begun (looks (seen_in_call q x) ++ es)
  look_told last begun q (Ok (look.Need digest)) es low is told = told
  look_told last begun q (Ok (look.Broken rule)) es low is told = told
  look_told last begun q (Ok (look.File bytes)) es low is told = (some_seen last q (look.File bytes) low tt (is (look.File bytes) refl), told)
  look_told last begun q (Ok (look.Dir entries)) es low is told = (some_seen last q (look.Dir entries) low tt (is (look.Dir entries) refl), told)
  look_told last begun q (Ok look.None) es low is told = (some_seen last q look.None low tt (is look.None refl), told)
  look_told last begun q (Ok (look.Kind kind)) es low is told = (some_seen last q (look.Kind kind) low tt (is (look.Kind kind) refl), told)
  look_told last begun q (Ok (look.Free found)) es low is told = (some_seen last q (look.Free found) low tt (is (look.Free found) refl), told)
  look_told last begun q (Err e) es low is told = told

  -- ---- a call

  -- what a block tells is told of the question
  given_is : (q : Question) (s : State) (answer : Sees) (last : Option View) → LooksFor q s
      → IfSome (option_and_then (λ v. option_map (λ l. (l.question, answer)) v.looking) s.view) (λ (p, a). IsSomeAnd last (λ x. IsTrueInWorld reads key accepted x p a))
      → IsSomeAnd last (λ x. IsTrueInWorld reads key accepted x q answer)
  given_is q s answer last looks is = go s.view looks.1 is
    where
      in_view : (o : Option Looking) → IsSomeAnd o (λ l. l.question ≡ q) → IfSome (option_map (λ l. (l.question, answer)) o) (λ (p, a). IsSomeAnd last (λ x. IsTrueInWorld reads key accepted x p a))
          → IsSomeAnd last (λ x. IsTrueInWorld reads key accepted x q answer)
      in_view None same is = absurd same
      in_view (Some l) same is = subst (λ (p : Question). IsSomeAnd last (λ x. IsTrueInWorld reads key accepted x p answer)) same is

      go : (o : Option AcceptedView) → IsSomeAnd o (λ v. IsSomeAnd v.looking (λ l. l.question ≡ q))
          → IfSome (option_and_then (λ v. option_map (λ l. (l.question, answer)) v.looking) o) (λ (p, a). IsSomeAnd last (λ x. IsTrueInWorld reads key accepted x p a))
          → IsSomeAnd last (λ x. IsTrueInWorld reads key accepted x q answer)
      go None same is = absurd same
      go (Some v) same is = in_view v.looking same is

  -- a client that signed has a view
  has_view : (s new : State) (text : Bytes) → HasSigned s (Ok text) new → IsSome new.view
  has_view s new text h = go s.accepted h.ready h.signed
    where
      go : (o : Option Ready) → IsSome o → IfSome o (λ r. (leaf : LeafNumber) × IsKept leaf (structure_record (signed_text s leaf r)) (under (signing_key s r) s.devices) (under (signing_key s r) new.devices) × (new ≡ over new.blocks (on new.devices (signed_over s leaf r)))) → IsSome new.view
      go None some is = absurd (cc some)
      go (Some r) some is = subst IsSome (sym (ap (λ (n : State). n.view) is.2)) refl

  -- the text that was signed is of the view in hand
  signed_text_of : (s new : State) (text : Bytes) (next : Option View) → HasSigned s (Ok text) new → (IsSome (in_hand (Open s)) → next ≡ in_hand (Open s)) → (x : View) → next ≡ Some x → IsTextOf text x
  signed_text_of s new text next h hand x at = go s.accepted h.ready h.signed hand
    where
      of_ready : (r : Ready) (leaf : LeafNumber) → new ≡ over new.blocks (on new.devices (signed_over s leaf r)) → Some x ≡ Some (view_over s r) → IsTextOf text x
      of_ready r leaf is same =
          let here : x ≡ view_over s r = cc same in
          (signed_structure s leaf r, sym (ap (λ (v : View). v.signed) here), h.text ∙ ap (λ (n : State). n.text) is)

      go : (o : Option Ready) → IsSome o → IfSome o (λ r. (leaf : LeafNumber) × IsKept leaf (structure_record (signed_text s leaf r)) (under (signing_key s r) s.devices) (under (signing_key s r) new.devices) × (new ≡ over new.blocks (on new.devices (signed_over s leaf r))))
          → (IsSome (option_map (view_over s) o) → next ≡ option_map (view_over s) o) → IsTextOf text x
      go None some is hand = absurd (cc some)
      go (Some r) some is hand = of_ready r is.0 is.2 (sym at ∙ hand refl)

  -- its own certificate is the client's text
  own_in_hand : (s : State) (next : Option View) → IsSome s.accepted → (IsSome (in_hand (Open s)) → next ≡ in_hand (Open s)) → IfSome (in_hand (Open s)) (IsOwnText s) → (x : View) → next ≡ Some x → IsOwnText s x
  own_in_hand s next ready hand own x at = go s.accepted ready hand own
    where
      go : (o : Option Ready) → IsSome o → (IsSome (option_map (view_over s) o) → next ≡ option_map (view_over s) o) → IfSome (option_map (view_over s) o) (IsOwnText s) → IsOwnText s x
      go None some hand own = absurd (cc some)
      go (Some r) some hand own =
          let same : Some (view_over s r) ≡ Some x = sym (hand refl) ∙ at in
          let here : view_over s r ≡ x = cc same in
          subst (IsOwnText s) here own

  -- the view that was signed, its own operation and what it loses
  signed_told : (begun : Operation) (o : Option AcceptedView) (next : Option View) (lost : List ℕ) (es : List Event) → IsSome o → lost ≡ lost_in o → IfSome o (λ v. IsSomeAnd next (λ x. IsOfWorld reads key accepted x v))
      → ((x : View) → next ≡ Some x → IsOwn accepted u texts x) → ((x : View) → next ≡ Some x → IsOwnOperation begun x) → Told next begun es → (last : Option View) → Told last begun (Signed lost ∷ es)
  signed_told begun None next lost es some is of own changed told last = absurd (cc some)
  signed_told begun (Some v) None lost es some is of own changed told last = absurd of
  signed_told begun (Some v) (Some x) lost es some is of own changed told last = (x, own x refl, changed x refl, (λ before at. is ∙ of.lost before at), told)

  -- the last view stays where no other is accepted
  told_as : (last mid : Option View) (begun : Operation) (es : List Event) → mid ≡ last → Told mid begun es → Told last begun es
  told_as last mid begun es same told = subst (λ (l : Option View). Told l begun es) same told

  call_told : (n m : Next) (s new : State) (call : Call) (last mid : Option View) (begun : Operation) (ms : List Move) → session.Leads s call new → Follows s n (Calls call) m → IsLooking n s → IsUnderWay n begun s
      → OwnStep last (Open s) (record { call = step_of call; after = Open new }) mid → ((t : Bytes) → In t (signed_by (Calls call)) → In t texts) → Told mid (begun_after call begun) (events ms) → Told last begun (events (Calls call ∷ ms))
  unfolding session.Leads
  call_told n m s new (Begins changes texts x) last mid begun ms leads follows looking way step inside told = told_as last mid (OfChanges changes) (events ms) (step.same tt) told
  call_told n m s new (Resigns k x) last mid begun ms leads follows looking way step inside told = told_as last mid begun (events ms) (step.same tt) told
  call_told n m s new (Hears text x) last mid begun ms leads follows looking way step inside told = told_as last mid begun (events ms) (step.same tt) told
  call_told n m s new (Takes block x) last mid begun ms leads follows looking way step inside told = told_as last mid begun (events ms) (step.same tt) told
  call_told n m s new (Commits st) last mid begun ms leads follows looking way step inside told = told_as last mid begun (events ms) (step.same tt) told
  call_told n m s new (Signs (Err e) lost) last mid begun ms leads follows looking way step inside told = told_as last mid begun (events ms) (step.same tt) told
  call_told n m s new (Signs (Ok text) lost) last mid begun ms leads follows looking way step inside told =
      signed_told begun new.view mid lost (events ms) (has_view s new text leads.0) leads.2 step.view
      (λ x at. record {
        among = (step.own x at).among;
        user = (step.own x at).user;
        signed = (text, in_contains text texts (inside text (inl refl)), signed_text_of s new text mid leads.0 (step.hand tt) x at);
      })
      (λ x at. of_begun begun s x (signs_it begun s n (Ok text) lost m follows way) (own_in_hand s mid leads.0.ready (step.hand tt) step.declared x at))
      told last
  call_told n m s new (Looks q x) last mid begun ms leads follows looking way step inside told =
      look_told last begun q x (events ms) leads.0.principal
      (λ answer same. subst (λ (a : Result Sees ClientError). IfSome (answered (steps.Looks q a) (Open s)) (λ (p, b). IsSomeAnd last (λ v. IsTrueInWorld reads key accepted v p b))) same step.answer)
      (told_as last mid begun (events ms) (step.same tt) told)
  call_told n m s new (Gives q block x) last mid begun ms leads follows looking way step inside told =
      let looks = asked_for n q block x m s follows looking in
      look_told last begun q x (events ms) looks.0
      (λ answer same. given_is q s answer last looks
      (subst (λ (a : Result Sees ClientError). IfSome (answered (steps.Gives block a) (Open s)) (λ (p, b). IsSomeAnd last (λ v. IsTrueInWorld reads key accepted v p b))) same step.answer))
      (told_as last mid begun (events ms) (step.same tt) told)

  -- ---- moves

  module _ {T : Type 0} (answers : Answering T) where
    -- an exchange leaves the client, and tells nothing
    exchanged : (a mid : At T) (last next : Option View) (steps : List StepTaken) (after : Client) → mid.client ≡ a.client → OwnAlong last (Open a.client) steps next after → OwnAlong last (Open mid.client) steps next after
    exchanged a mid last next steps after same along = subst (λ (s : State). OwnAlong last (Open s) steps next after) (sym same) along

    looks_still : (a mid : At T) (n : Next) → mid.client ≡ a.client → IsLooking n a.client → IsLooking n mid.client
    looks_still a mid n same is = subst (IsLooking n) (sym same) is

    pub moves_told : (a : At T) (ms : List Move) (b : At T) → (run : Moves answers a ms b) → (last next : Option View) (begun : Operation) (after : Client) → OwnAlong last (Open a.client) (steps_in answers a ms b run) next after → IsLooking a.next a.client → IsUnderWay a.next begun a.client → ((t : Bytes) → In t (signed_texts ms) → In t texts) → Told last begun (events ms)
    moves_told a [] b run last next begun after along looking way inside = tt
    moves_told a (Calls call ∷ ms) b (mid, one, more) last next begun after (m, step, rest) looking way inside =
        call_told a.next mid.next a.client mid.client call last m begun ms one.0 one.2 looking way step
        (λ t i. inside t (in-left t (signed_by (Calls call)) (signed_texts ms) i))
        (moves_told mid ms b more m next (begun_after call begun) after rest (after_call a.next mid.next call a.client mid.client one.0 one.2 looking) (after_begun a.next mid.next call a.client mid.client begun one.0 one.2 way) (λ t i. inside t (in-right t (signed_by (Calls call)) (signed_texts ms) i)))
    moves_told a (Sends r x ∷ ms) b (mid, one, more) last next begun after along looking way inside =
        moves_told mid ms b more last next begun after (exchanged a mid last next (steps_in answers mid ms b more) after one.1 along)
        (looks_still a mid mid.next one.1 (sent a.next r x mid.next a.client one.2 looking)) (way_stays mid.next begun a.client mid.client one.1 (way_sent begun a.client a.next r x mid.next one.2 way)) inside
    moves_told a (LacksLeaves ∷ ms) b (mid, one, more) last next begun after along looking way inside =
        moves_told mid ms b more last next begun after (exchanged a mid last next (steps_in answers mid ms b more) after one.0 along)
        (looks_still a mid mid.next one.0 (lacks_leaves a.next mid.next a.client one.2)) (way_stays mid.next begun a.client mid.client one.0 (way_lacks_leaves begun a.client a.next mid.next one.2)) inside
    moves_told a (LacksPlan ∷ ms) b (mid, one, more) last next begun after along looking way inside =
        moves_told mid ms b more last next begun after (exchanged a mid last next (steps_in answers mid ms b more) after one.0 along)
        (looks_still a mid mid.next one.0 (lacks_plan a.next mid.next a.client one.2)) (way_stays mid.next begun a.client mid.client one.0 (way_lacks_plan begun a.client a.next mid.next one.2)) inside
    moves_told a (LacksNumbers ∷ ms) b (mid, one, more) last next begun after along looking way inside =
        moves_told mid ms b more last next begun after (exchanged a mid last next (steps_in answers mid ms b more) after one.0 along)
        (looks_still a mid mid.next one.0 (lacks_numbers a.next mid.next a.client one.2)) (way_stays mid.next begun a.client mid.client one.0 (way_lacks_numbers begun a.client a.next mid.next one.2)) inside
