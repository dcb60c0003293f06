-- Runs, one move after another.
use Rattle.std.proofs.Common.{◌≡◌, ℕ, true, false, List, [], ◌∷◌, ◌++◌, Option, Result, Ok, Err, refl, sym, ap, ◌∙◌, subst, append_assoc, append-nil, inl, inr}
use Rattle.std.specs.Option.{unwrap_or}
use Rattle.layout.specs.Types.{Bytes, Digest}
use Rattle.update_cert.specs.Change.{Change}
use Rattle.client_tree.specs.declared.questions.Question.{Question}
use Rattle.wire.specs.declared.kinds.Status.{Status}
use Rattle.client_releases.specs.declared.error.ClientError.{ClientError}
use Rattle.client_releases.specs.declared.error.ClientError.TheVariants as error
use Rattle.client_verify.specs.State.{State}
use Rattle.client_steps.specs.Steps.{Asks, Sees}
use Rattle.file_session.specs.declared.stop.Stop.{Stop}
use Rattle.file_session.specs.declared.stop.Stop.TheVariants as stop
use Rattle.transport.specs.declared.transport.TransportError.{TransportError}
use Rattle.file_session.specs.Replies.{payload_in, block_in, status_in, synced_in}
use Rattle.file_session.specs.Calls.{Begins, Resigns, Hears, Takes, Signs, Commits, Looks, Gives, Leads}
use Rattle.file_session.specs.Order.{Move, Calls, Sends, LacksLeaves, LacksPlan, LacksNumbers, Next, Ready, Unsynced, Update, Hear, Resign, Fetch, Take, Store, Sync, CommitNew, Commit, Tell, FetchAt, GiveAt, Over}
use Rattle.file_session.specs.Order.{laying, declaring, hearing, resigning, checking, taking, storing, syncing, committing, telling, committed, looking, giving, ready_or}
use Rattle.file_session.specs.Order.{put as put_of, sync, update, get, commit}
use Rattle.file_session.specs.Tries.{can_declare, keys_to_try}
use Rattle.file_session.specs.Went.{Answering, At, point, IsMove, Moves, Event, Begun, Saw, Unbegun, Unplanned, looks, signs, seen_by, signed_by, events_of, events, Went, Seen}

pub events_join : (ms ns : List Move) → events (ms ++ ns) ≡ events ms ++ events ns
events_join [] ns = refl
events_join (m ∷ ms) ns = ap (λ l. events_of m ++ l) (events_join ms ns) ∙ sym (append_assoc (events_of m) (events ms) (events ns))

pub looks_join : (s t : List Seen) → looks s ++ looks t ≡ looks (s ++ t)
looks_join [] t = refl
looks_join (x ∷ s) t = ap (λ l. Saw x ∷ l) (looks_join s t)

pub moves_join : {T : Type 0} (answers : Answering T) (a b c : At T) (ms ns : List Move) → Moves answers a ms b → Moves answers b ns c → Moves answers a (ms ++ ns) c
moves_join {T} answers a b c [] ns h k = subst (λ (x : At T). Moves answers x ns c) h k
moves_join answers a b c (m ∷ ms) ns (mid, one, more) k = (mid, one, moves_join answers mid b c ms ns more k)

first_new : {T : Type 0} (answers : Answering T) (m : State) (t : T) (text : Bytes) (lost : List ℕ) (move : Move) (b : At T) → IsMove answers (point m t (Commit text)) move b → IsMove answers (point m t (CommitNew text lost)) move b
first_new answers m t text lost (Calls call) b h = absurd h.2
first_new answers m t text lost (Sends r x) b h = h
first_new answers m t text lost LacksLeaves b h = absurd h.2
first_new answers m t text lost LacksPlan b h = absurd h.2
first_new answers m t text lost LacksNumbers b h = absurd h.2

no_commit : {X : Type 0} (text : Bytes) (r : Result X Stop) → ready_or r ≡ Commit text → ⊥
no_commit text (Ok x) is = absurd cc
no_commit text (Err e) is = absurd cc

-- these texts were stored for an operation, one after another
abbrev pub laid_so_far : List Bytes → Next
laid_so_far [] = Ready []
laid_so_far (text ∷ texts) = Unsynced (text ∷ texts)

module _ {T : Type 0} {answers : Answering T} where
  pub went_then : {a b c : At T} {s t : List Event} → Went answers a b s → Went answers b c t → Went answers a c (s ++ t)
  went_then {a} {b} {c} h k = record {
    moves = h.moves ++ k.moves;
    run = moves_join answers a b c h.moves k.moves h.run k.run;
    told = events_join h.moves k.moves ∙ (λ i. h.told i ++ k.told i);
  }

  pub went_one : (a : At T) (m : Move) (b : At T) → IsMove answers a m b → Went answers a b (events_of m)
  went_one a m b h = record { moves = m ∷ []; run = (b, h, refl); told = append-nil (events_of m) }

  pub went_none : (a : At T) → Went answers a a []
  went_none a = record { moves = []; run = refl; told = refl }

  pub went_as : {a b : At T} {s t : List Event} → Went answers a b s → s ≡ t → Went answers a b t
  went_as h e = record { moves = h.moves; run = h.run; told = h.told ∙ e }

  -- ---- each move

  pub begun : (m m' : State) (t : T) (changes : List (Change Digest)) (texts : List Bytes) (x : Result Bytes ClientError) → can_declare m ≡ true → Leads m (Begins changes texts x) m' → Went answers (point m t (Ready texts)) (point m' t (declaring x)) (Begun changes texts ∷ [])
  begun m m' t changes texts x can h = went_one (point m t (Ready texts)) (Calls (Begins changes texts x)) (point m' t (declaring x)) (h, refl, (can, refl, refl))

  pub laid : (m m' : State) (t t' : T) (before : List Bytes) (text : Bytes) (r : Result Bytes Stop) → m' ≡ m → ((x : Result Bytes TransportError) × answers t (put_of text) x t' × (r ≡ payload_in x)) → Went answers (point m t (laid_so_far before)) (point m' t' (laying before text r)) []
  laid m m' t t' [] text r same (x, h, is) = went_one (point m t (Ready [])) (Sends (put_of text) x) (point m' t' (laying [] text r)) (h, same, (refl, ap (laying [] text) is))
  laid m m' t t' (first ∷ before) text r same (x, h, is) =
      let all = first ∷ before in went_one (point m t (Unsynced all)) (Sends (put_of text) x) (point m' t' (laying all text r)) (h, same, inl (refl, ap (laying all text) is))

  pub synced_laid : (m m' : State) (t t' : T) (texts : List Bytes) (r : Result (Unit {0}) Stop) → m' ≡ m → ((x : Result Bytes TransportError) × answers t sync x t' × (r ≡ synced_in x)) → Went answers (point m t (Unsynced texts)) (point m' t' (syncing (Ready texts) r)) []
  synced_laid m m' t t' texts r same (x, h, is) = went_one (point m t (Unsynced texts)) (Sends sync x) (point m' t' (syncing (Ready texts) r)) (h, same, inr (refl, ap (syncing (Ready texts)) is))

  pub updated : (m m' : State) (t t' : T) (text : Bytes) (left : Option (List ℕ)) (r : Result Bytes Stop) → m' ≡ m → ((x : Result Bytes TransportError) × answers t (update text) x t' × (r ≡ payload_in x)) → Went answers (point m t (Update text left)) (point m' t' (hearing (unwrap_or left (keys_to_try m)) r)) []
  updated m m' t t' text left r same (x, h, is) =
      let next = hearing (unwrap_or left (keys_to_try m)) in went_one (point m t (Update text left)) (Sends (update text) x) (point m' t' (next r)) (h, same, (refl, ap next is))

  pub resigned : (m m' : State) (t : T) (n : ℕ) (keys : List ℕ) (x : Result Bytes ClientError) → Leads m (Resigns n x) m' → Went answers (point m t (Resign n keys)) (point m' t (resigning keys x)) []
  resigned m m' t n keys x h = went_one (point m t (Resign n keys)) (Calls (Resigns n x)) (point m' t (resigning keys x)) (h, refl, (refl, refl))

  pub heard : (m m' : State) (t : T) (text : Bytes) (x : Result Asks ClientError) → Leads m (Hears text x) m' → Went answers (point m t (Hear text)) (point m' t (checking x)) []
  heard m m' t text x h = went_one (point m t (Hear text)) (Calls (Hears text x)) (point m' t (checking x)) (h, refl, (refl, refl))

  pub fetched : (m m' : State) (t t' : T) (digest : Digest) (r : Result (Option Bytes) Stop) → m' ≡ m → ((x : Result Bytes TransportError) × answers t (get digest) x t' × (r ≡ block_in x)) → Went answers (point m t (Fetch digest)) (point m' t' (taking r)) []
  fetched m m' t t' digest r same (x, h, is) = went_one (point m t (Fetch digest)) (Sends (get digest) x) (point m' t' (taking r)) (h, same, (refl, ap taking is))

  pub took : (m m' : State) (t : T) (block : Option Bytes) (x : Result Asks ClientError) → Leads m (Takes block x) m' → Went answers (point m t (Take block)) (point m' t (checking x)) []
  took m m' t block x h = went_one (point m t (Take block)) (Calls (Takes block x)) (point m' t (checking x)) (h, refl, (refl, refl))

  pub put : (m m' : State) (t t' : T) (text : Bytes) (texts : List Bytes) (r : Result Bytes Stop) → m' ≡ m → ((x : Result Bytes TransportError) × answers t (put_of text) x t' × (r ≡ payload_in x)) → Went answers (point m t (Store (text ∷ texts))) (point m' t' (storing texts r)) []
  put m m' t t' text texts r same (x, h, is) = went_one (point m t (Store (text ∷ texts))) (Sends (put_of text) x) (point m' t' (storing texts r)) (h, same, (refl, ap (storing texts) is))

  pub synced : (m m' : State) (t t' : T) (r : Result (Unit {0}) Stop) → m' ≡ m → ((x : Result Bytes TransportError) × answers t sync x t' × (r ≡ synced_in x)) → Went answers (point m t Sync) (point m' t' (syncing (Store []) r)) []
  synced m m' t t' r same (x, h, is) = went_one (point m t Sync) (Sends sync x) (point m' t' (syncing (Store []) r)) (h, same, (refl, ap (syncing (Store [])) is))

  pub signed : (m m' : State) (t : T) (x : Result Bytes ClientError) (lost : List ℕ) → Leads m (Signs x lost) m' → Went answers (point m t (Store [])) (point m' t (committing x lost)) (signs (signed_by x lost))
  signed m m' t x lost h = went_one (point m t (Store [])) (Calls (Signs x lost)) (point m' t (committing x lost)) (h, refl, refl)

  pub sent : (m m' : State) (t t' : T) (text : Bytes) (r : Result Status Stop) → m' ≡ m → ((x : Result Bytes TransportError) × answers t (commit text) x t' × (r ≡ status_in x)) → Went answers (point m t (Commit text)) (point m' t' (telling r)) []
  sent m m' t t' text r same (x, h, is) = went_one (point m t (Commit text)) (Sends (commit text) x) (point m' t' (telling r)) (h, same, (refl, ap telling is))

  pub told : (m m' : State) (t : T) (status : Status) → Leads m (Commits status) m' → Went answers (point m t (Tell status)) (point m' t (committed status)) []
  told m m' t status h = went_one (point m t (Tell status)) (Calls (Commits status)) (point m' t (committed status)) (h, refl, (refl, refl))

  pub looked : (m m' : State) (t : T) (q : Question) (x : Result Sees ClientError) → Leads m (Looks q x) m' → Went answers (point m t (Ready [])) (point m' t (looking q x)) (looks (seen_by q x))
  looked m m' t q x h = went_one (point m t (Ready [])) (Calls (Looks q x)) (point m' t (looking q x)) (h, refl, (refl, refl))

  pub fetched_at : (m m' : State) (t t' : T) (q : Question) (digest : Digest) (r : Result (Option Bytes) Stop) → m' ≡ m → ((x : Result Bytes TransportError) × answers t (get digest) x t' × (r ≡ block_in x)) → Went answers (point m t (FetchAt q digest)) (point m' t' (giving q r)) []
  fetched_at m m' t t' q digest r same (x, h, is) = went_one (point m t (FetchAt q digest)) (Sends (get digest) x) (point m' t' (giving q r)) (h, same, (refl, ap (giving q) is))

  pub gave : (m m' : State) (t : T) (q : Question) (block : Option Bytes) (x : Result Sees ClientError) → Leads m (Gives q block x) m' → Went answers (point m t (GiveAt q block)) (point m' t (looking q x)) (looks (seen_by q x))
  gave m m' t q block x h = went_one (point m t (GiveAt q block)) (Calls (Gives q block x)) (point m' t (looking q x)) (h, refl, (refl, refl, refl))

  -- the newest key lacks leaves for an operation
  pub lacks_leaves : (m : State) (t : T) (e : Stop) → can_declare m ≡ false → e ≡ stop.Client error.NoLeaf → Went answers (point m t (Ready [])) (point m t (Over e)) (Unbegun ∷ [])
  lacks_leaves m t e lacks is = went_one (point m t (Ready [])) LacksLeaves (point m t (Over e)) (refl, refl, (lacks, ap Over is))

  -- memory runs out for an operation that is planned, or for the numbers of lost changes before a new structure is sent
  pub lacks_plan : (m : State) (t : T) (e : Stop) → e ≡ stop.Memory → Went answers (point m t (Ready [])) (point m t (Over e)) (Unplanned ∷ [])
  lacks_plan m t e is = went_one (point m t (Ready [])) LacksPlan (point m t (Over e)) (refl, refl, ap Over is)

  pub lacks_numbers : (m : State) (t : T) (text : Bytes) (lost : List ℕ) (e : Stop) → (lost ≡ [] → ⊥) → e ≡ stop.Memory → Went answers (point m t (CommitNew text lost)) (point m t (Over e)) []
  lacks_numbers m t text [] e some is = absurd (some refl)
  lacks_numbers m t text (n ∷ lost) e some is = went_one (point m t (CommitNew text (n ∷ lost))) LacksNumbers (point m t (Over e)) (refl, refl, ap Over is)

  -- a new structure is sent as one that was signed before
  pub commits_new : {X : Type 0} {es : List Event} (m m' : State) (t t' : T) (text : Bytes) (lost : List ℕ) (r : Result X Stop) → Went answers (point m t (Commit text)) (point m' t' (ready_or r)) es → Went answers (point m t (CommitNew text lost)) (point m' t' (ready_or r)) es
  commits_new {X} m m' t t' text lost r h = record { moves = h.moves; run = as_new h.moves h.run; told = h.told }
    where
      as_new : (ms : List Move) → Moves answers (point m t (Commit text)) ms (point m' t' (ready_or r)) → Moves answers (point m t (CommitNew text lost)) ms (point m' t' (ready_or r))
      as_new [] is = absurd (no_commit text r (ap (λ x. x.next) is))
      as_new (move ∷ ms) (mid, one, more) = (mid, first_new answers m t text lost move mid one, more)
