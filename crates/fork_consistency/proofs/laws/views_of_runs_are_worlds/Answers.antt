use Rattle.fork_consistency.specs.LaidFiles.{NameLaidFiles}
use Rattle.fork_consistency.specs.Shown.{ShowWorlds}
use Rattle.fork_consistency.specs.Worlds.{AreWorldsIn, CanBeRead, OneWorld}
use Rattle.fork_consistency.proofs.Genuine.{of_premises}
use Rattle.fork_consistency.proofs.LaidFiles.{name_laid_files}
use Rattle.fork_consistency.proofs.OneWorld.{one_world}
use Rattle.fork_consistency.proofs.RunWorlds.{are_worlds_in, can_be_read}
use Rattle.fork_consistency.proofs.Shown.{show_worlds}
use Rattle.fork_consistency.proofs.laws.views_of_runs_are_worlds.Goals as goal

pub returns-clause-worlds : goal.returns-clause-worlds
returns-clause-worlds c = of_premises AreWorldsIn are_worlds_in

pub returns-clause-readings : goal.returns-clause-readings
returns-clause-readings c = of_premises CanBeRead can_be_read

pub returns-clause-one : goal.returns-clause-one
returns-clause-one c = of_premises OneWorld one_world

pub returns-clause-shown : goal.returns-clause-shown
returns-clause-shown c = of_premises ShowWorlds show_worlds

pub returns-clause-laid : goal.returns-clause-laid
returns-clause-laid c = of_premises NameLaidFiles name_laid_files
