-- Looks, and what they tell.
use Rattle.std.proofs.Common.{◌≡◌, ℕ, suc, List, [], ◌∷◌, ◌++◌, Option, Result, Ok, Err}
use Rattle.layout.specs.Types.{Bytes, Digest}
use Rattle.update_cert.specs.World.{Tree}
use Rattle.client_tree.specs.declared.questions.Question.{Question}
use Rattle.client_releases.specs.declared.error.ClientError.{ClientError}
use Rattle.client_verify.specs.declared.look.Look.{Look}
use Rattle.client_verify.specs.declared.look.Look.TheVariants as look
use Rattle.client_verify.specs.State.{State}
use Rattle.client_steps.specs.Steps.{Sees}
use Rattle.file_session.specs.declared.stop.Stop.{Stop}
use Rattle.transport.specs.declared.transport.TransportError.{TransportError}
use Rattle.file_session.specs.Replies.{block_in}
use Rattle.file_session.specs.Calls.{Looks, Gives, Leads}
use Rattle.file_session.specs.Order.{Ready, FetchAt, Over, looking, get}
use Rattle.file_session.specs.Went.{Agrees, Answering, At, IsSeenIn, Looked, Seen, Went, point, seen_by}
use Rattle.file_session.proofs.Runs.{went_then, went_as, looks_join, looked, fetched_at, gave}

pub agrees_left : (tree : Tree) (s t : List Seen) → Agrees tree (s ++ t) → Agrees tree s
agrees_left tree [] t h = tt
agrees_left tree (x ∷ s) t h = (h.0, agrees_left tree s t h.1)

pub agrees_right : (tree : Tree) (s t : List Seen) → Agrees tree (s ++ t) → Agrees tree t
agrees_right tree [] t h = h
agrees_right tree (x ∷ s) t h = agrees_right tree s t h.1

-- what an answer of a look says of a tree
abbrev pub ShowsIn : Question → Result Sees ClientError → Tree → Type 0
ShowsIn q (Ok (look.Need digest)) tree = Unit {0}
ShowsIn q (Ok (look.Broken rule)) tree = Unit {0}
ShowsIn q (Ok told) tree = IsSeenIn tree q told
ShowsIn q (Err e) tree = Unit {0}

pub shows_in : (q : Question) (x : Result Sees ClientError) (tree : Tree) → Agrees tree (seen_by q x) → ShowsIn q x tree
shows_in q (Ok (look.Need digest)) tree h = tt
shows_in q (Ok (look.Broken rule)) tree h = tt
shows_in q (Ok (look.File bytes)) tree h = h.0
shows_in q (Ok (look.Dir entries)) tree h = h.0
shows_in q (Ok look.None) tree h = h.0
shows_in q (Ok (look.Kind kind)) tree h = h.0
shows_in q (Ok (look.Free found)) tree h = h.0
shows_in q (Err e) tree h = tt

module _ {T : Type 0} {answers : Answering T} where
  pub looked_then : {a b c : At T} {P Q : Tree → Type 0} → Looked answers a b P → Looked answers b c Q → Looked answers a c (λ tree. P tree × Q tree)
  looked_then h k = record {
    seen = h.seen ++ k.seen;
    went = went_as (went_then h.went k.went) (looks_join h.seen k.seen);
    tells = λ tree agrees. (h.tells tree (agrees_left tree h.seen k.seen agrees), k.tells tree (agrees_right tree h.seen k.seen agrees));
  }

  pub looked_so : {a b : At T} {P : Tree → Type 0} (Q : Tree → Type 0) → Looked answers a b P → ((tree : Tree) → P tree → Q tree) → Looked answers a b Q
  looked_so Q h so = record { seen = h.seen; went = h.went; tells = λ tree agrees. so tree (h.tells tree agrees) }

  -- where no look is made
  pub quiet : {a b : At T} (Q : Tree → Type 0) → Went answers a b [] → ((tree : Tree) → Q tree) → Looked answers a b Q
  quiet Q h so = record { seen = []; went = h; tells = λ tree agrees. so tree }

  -- from one look to the next
  pub looked_next : {a b c : At T} {P Q : Tree → Type 0} (R : Tree → Type 0) → Looked answers a b P → Looked answers b c Q → ((tree : Tree) → P tree → Q tree → R tree) → Looked answers a c R
  looked_next R h k so = looked_so R (looked_then h k) (λ tree both. so tree both.0 both.1)

  pub looks_at : (m m' : State) (t : T) (q : Question) (x : Result Sees ClientError) → Leads m (Looks q x) m' → Looked answers (point m t (Ready [])) (point m' t (looking q x)) (ShowsIn q x)
  looks_at m m' t q x h = record { seen = seen_by q x; went = looked m m' t q x h; tells = shows_in q x }

  -- a block was asked for, and came or is absent, and the look goes on
  pub looks_on : (a : At T) (m n m' : State) (t t' : T) (q : Question) (digest : Digest) (block : Option Bytes) (x : Result Sees ClientError)
      → Looked answers a (point m t (FetchAt q digest)) (λ tree. Unit {0})
      → n ≡ m → ((y : Result Bytes TransportError) × answers t (get digest) y t' × (Ok block ≡ block_in y))
      → Leads n (Gives q block x) m'
      → Looked answers a (point m' t' (looking q x)) (ShowsIn q x)
  looks_on a m n m' t t' q digest block x before same came given =
      looked_next (ShowsIn q x) (looked_next (λ tree. Unit {0}) before (quiet (λ tree. Unit {0}) (fetched_at m n t t' q digest (Ok block) same came) (λ tree. tt)) (λ tree p r. tt))
      (record { seen = seen_by q x; went = gave n m' t' q block x given; tells = shows_in q x }) (λ tree p r. r)

  -- or it didn't come
  pub looks_no_more : (a : At T) (m n : State) (t t' : T) (q : Question) (digest : Digest) (e : Stop) (Q : Tree → Type 0)
      → Looked answers a (point m t (FetchAt q digest)) (λ tree. Unit {0})
      → n ≡ m → ((y : Result Bytes TransportError) × answers t (get digest) y t' × (Err e ≡ block_in y))
      → ((tree : Tree) → Q tree) → Looked answers a (point n t' (Over e)) Q
  looks_no_more a m n t t' q digest e Q before same came so =
      looked_next Q before (quiet (λ tree. Unit {0}) (fetched_at m n t t' q digest (Err e) same came) (λ tree. tt)) (λ tree p r. so tree)

-- ---- how long a look goes on

-- as long as blocks are asked for of those that are left
abbrev pub rounds : {A : Type 0} → Result (Look A) ClientError → ℕ → ℕ
rounds (Ok (look.Need digest)) left = suc left
rounds other left = 0
