-- Each block that is asked for is lacking, and within one reply, and within one look, none is taken twice.
use Rattle.std.proofs.Common.{List, [], ◌∷◌}
use Rattle.file_session.specs.Order.{Move, Calls, Sends, LacksLeaves, LacksPlan, LacksNumbers}
use Rattle.file_session.specs.Sessions.{AreAskedOnce}
use Rattle.file_session.specs.Went.{Answering, At, Moves}
use Rattle.file_session.proofs.Steps.{asks_for_lacking}

module _ {T : Type 0} (answers : Answering T) where
  pub asked_once : (a : At T) (ms : List Move) (b : At T) (run : Moves answers a ms b) → AreAskedOnce answers a ms b run
  asked_once a [] b run = tt
  asked_once a (Calls call ∷ ms) b (mid, one, more) = (asks_for_lacking a.client call mid.client one.0, asked_once mid ms b more)
  asked_once a (Sends r x ∷ ms) b (mid, one, more) = asked_once mid ms b more
  asked_once a (LacksLeaves ∷ ms) b (mid, one, more) = asked_once mid ms b more
  asked_once a (LacksPlan ∷ ms) b (mid, one, more) = asked_once mid ms b more
  asked_once a (LacksNumbers ∷ ms) b (mid, one, more) = asked_once mid ms b more
