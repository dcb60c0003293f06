-- The entries of a directory, with what stands at each.
use Rattle.directory.specs.Directory.{Entry}
use Rattle.commands.specs.declared.row.Kind.{Kind}

pub record Row : Type 0 where
  pub entry : Entry
  pub kind : Kind
