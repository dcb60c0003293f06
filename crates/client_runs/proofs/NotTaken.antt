-- Steps that aren't taken, and crashes.
use Rattle.std.proofs.Common.{◌≡◌, ℕ, zero, suc, ◌<◌, List, [], ◌∷◌, length, get_or, map, refl, ap, arith}
use Rattle.std.specs.declared.vec.Vec.{Vec}
use Rattle.layout.specs.Types.{Bytes}
use Rattle.leaf_ledger.specs.Device.{History, MayLeave, started}
use Rattle.release_runs.specs.Crashes.{AreLeft}
use Rattle.client_verify.specs.State.{State}
use Rattle.client_runs.specs.declared.world.Act.{Act}
use Rattle.client_runs.specs.declared.world.Act.TheVariants as act
use Rattle.client_runs.specs.declared.world.Answer.TheVariants as answer
use Rattle.client_steps.specs.Steps.{Client, Closed, Crashes, IsLeft, Open, Owner, Parts, files_of, journal_of, ledgers_of}
use Rattle.client_runs.specs.Carried.{ComesOf}
use Rattle.client_runs.specs.NotTaken.{CantFromOpen, MayLeaveAll, MayLeaveEach}
use Rattle.client_runs.specs.Told.{texts_in}

-- an open client stays as it was where the step can't be taken
pub open_stays : {A : Type 0} (o : Owner) (old new : State) (t : Act A) → new ≡ old → CantFromOpen old t → ComesOf o (Open old) t answer.NotTaken (Open new)
open_stays o old new t same cant = (ap (λ s. Open s) same, cant)

-- what a crash leaves of files that may leave it
each_left : (files new : List History) (texts : List Bytes) → MayLeaveEach files texts → new ≡ map started texts → AreLeft files new
each_left [] [] [] may is = tt
each_left [] (n ∷ new) [] may is = absurd (cc is)
each_left [] new (t ∷ texts) may is = absurd may
each_left (f ∷ files) new [] may is = absurd may
each_left (f ∷ files) [] (t ∷ texts) may is = absurd (cc is)
each_left (f ∷ files) (n ∷ new) (t ∷ texts) may is =
    let head : n ≡ started t = cc is in
    let rest : new ≡ map started texts = cc is in
    (record { text = t; may = may.0; is = head }, each_left files new texts may.1 rest)

left_by : {A : Type 0} (before : Client) (ledgers : Vec (Vec ℕ A) A) (journal : Vec ℕ A) (p : Parts)
    → MayLeaveAll (ledgers_of before) (journal_of before) (texts_in ledgers) journal.items
    → files_of p.ledgers ≡ map started (texts_in ledgers) → p.journal.history ≡ started journal.items → IsLeft before p
left_by before ledgers journal p may l j = record {
  ledgers = each_left (ledgers_of before) (files_of p.ledgers) (texts_in ledgers) may.0 l;
  journal = record { text = journal.items; may = may.1; is = j };
}

-- so the step is taken
pub crashes : {A : Type 0} (o : Owner) (before : Client) (ledgers : Vec (Vec ℕ A) A) (journal : Vec ℕ A) (p : Parts)
    → MayLeaveAll (ledgers_of before) (journal_of before) (texts_in ledgers) journal.items
    → files_of p.ledgers ≡ map started (texts_in ledgers) → p.journal.history ≡ started journal.items
    → ComesOf o before (act.Crash ledgers journal) answer.Crashed (Closed p)
crashes o (Closed q) ledgers journal p may l j = record { call = Crashes; is_call = refl; told = (l, j); step = left_by (Closed q) ledgers journal p may l j; sound = tt }
crashes o (Open s) ledgers journal p may l j = record { call = Crashes; is_call = refl; told = (l, j); step = left_by (Open s) ledgers journal p may l j; sound = tt }

-- ---- by the places of files

module _ (d : History) (e : Bytes) where
  -- each text may be left in its place
  pub each_at : (files : List History) (texts : List Bytes) (n : ℕ) → n < length files → MayLeaveEach files texts → MayLeave (get_or files n d).now (get_or texts n e)
  each_at [] texts n inside may = absurd (omega (arith, inside))
  each_at (f ∷ files) [] n inside may = absurd may
  each_at (f ∷ files) (t ∷ texts) zero inside may = may.0
  each_at (f ∷ files) (t ∷ texts) (suc n) inside may = each_at files texts n (omega (arith, inside)) may.1

  -- so all may be left
  pub all_may : (files : List History) (texts : List Bytes) → length files ≡ length texts → ((n : ℕ) → n < length files → MayLeave (get_or files n d).now (get_or texts n e)) → MayLeaveEach files texts
  all_may [] [] same each = tt
  all_may [] (t ∷ texts) same each = absurd (omega (arith, same))
  all_may (f ∷ files) [] same each = absurd (omega (arith, same))
  all_may (f ∷ files) (t ∷ texts) same each = (each 0 (omega arith), all_may files texts (omega (arith, same)) (λ n inside. each (suc n) (omega (arith, inside))))

-- as many files as texts
pub as_many : (files : List History) (texts : List Bytes) → MayLeaveEach files texts → length files ≡ length texts
as_many [] [] may = refl
as_many [] (t ∷ texts) may = absurd may
as_many (f ∷ files) [] may = absurd may
as_many (f ∷ files) (t ∷ texts) may = ap (λ n. suc n) (as_many files texts may.1)
