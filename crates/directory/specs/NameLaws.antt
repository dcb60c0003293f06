-- Nobody has to believe this file: laws, which are proved.
-- Names: what is read is spelled so, and what fits and is spelled so is read.
use Rattle.layout.specs.Laws.{laws}
use Rattle.layout.specs.Format.{Lawful}
use Rattle.directory.specs.Name.{name}

pub lawful_name : Lawful name
lawful_name = search laws depth 9
