use Rattle.std.proofs.Common.{◌≡◌, ◌++◌, ℕ, List}
use Rattle.file_commands.specs.Splitting.{words_in}
use Rattle.file_commands.specs.Gathering.{IsSound, gathered}
use Rattle.file_commands.proofs.splitting.split_words.Given as goal

abbrev pub invariant-loop-c : goal.invariant-loop-c
invariant-loop-c l = IsSound l.splitting × ((rest : List ℕ) → words_in (l.yielded ++ rest) ≡ gathered l.splitting rest)
