use Rattle.fork_consistency.proofs.Shown.{show_trees}
use Rattle.fork_consistency.proofs.laws.looks_tell_of_one_tree.Goals as goal

pub returns : goal.returns
returns c = show_trees
