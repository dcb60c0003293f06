use Rattle.fork_consistency.specs.Premises.{everybody}
use Rattle.fork_consistency.proofs.ByCertificates.{by_certificates, have_texts, sign_tables, super_unforged}
use Rattle.fork_consistency.proofs.ListedKeys.{list_own_keys}
use Rattle.fork_consistency.proofs.laws.tables_are_by_certificates.Goals as goal

pub returns-clause-tables : goal.returns-clause-tables
returns-clause-tables c = λ keys run is keys_are unforged apart. by_certificates keys run is (super_unforged keys run is keys_are unforged apart)

pub returns-clause-texts : goal.returns-clause-texts
returns-clause-texts c = λ keys run is keys_are unforged apart. have_texts keys run is (super_unforged keys run is keys_are unforged apart)

pub returns-clause-signed : goal.returns-clause-signed
returns-clause-signed c = λ keys run is keys_are unforged apart. sign_tables keys run is (super_unforged keys run is keys_are unforged apart)

pub returns-clause-keys : goal.returns-clause-keys
returns-clause-keys c = λ keys run is keys_are unforged apart added. list_own_keys everybody keys run is (super_unforged keys run is keys_are unforged apart) added
