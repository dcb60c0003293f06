use Rattle.update_cert.proofs.TableLaws.{all_stay}
use Rattle.update_cert.proofs.TableStands.{changes_fit, stands}
use Rattle.update_cert.proofs.laws.table_in_trees.Goals as goal

pub returns-clause-stands : goal.returns-clause-stands
returns-clause-stands _ = λ reads actor c tree t fits stood. stands reads actor c.changes tree t (changes_fit c fits) stood

pub returns-clause-stays : goal.returns-clause-stays
returns-clause-stays _ = λ c t none. all_stay c.user c.number c.changes t none
