-- Nobody has to believe this file: an aid of private contracts.
-- The events of a server: one list, which only grows.
use Rattle.std.specs.Prelude.{◌≡◌, ◌==◌, ℕ, true, List, [], ◌∷◌, ◌++◌, length, MatchBool}
use Rattle.logbook.specs.Pages.{Cell, Step, View, Book, Named}
use Rattle.consistency_server.specs.Answers.{Call}

-- the first word is how many they are. A book has two words, of which this one leaves the second at 0
abbrev pub AreCounted : List Cell → List Call → Type 0
AreCounted cells events = cells ≡ (length events, true) ∷ (0, true) ∷ []

abbrev pub count_of : Book → Named
count_of book = record { tracked = true; key = 0; book = book }

-- the name of no list
abbrev pub no_book : Book
no_book = record { number = 0; log_name = 0; cells_name = 0 }

-- the event comes after all that were seen; or there were more, which are seen now
abbrev pub Adds : Step Call → View Call ℕ → ℕ → View Call ℕ → Type 0
Adds s v found w = MatchBool (found == s.old) (w.0 ≡ v.0 ++ s.ask ∷ []) (length w.0 ≡ found)
