-- Changes of the table of principals alone: nothing is stored for them.
use Rattle.std.proofs.Common.{◌≡◌, List, [], ◌∷◌, map, refl, true}
use Rattle.layout.specs.Types.{Bytes, Digest}
use Rattle.update_cert.specs.Change.{Change, of_table, table_action_of}
use Rattle.update_cert.specs.declared.change.TableChange.{TableChange}
use Rattle.update_cert.specs.declared.change.TableChange.TheVariants as table_change
use Rattle.client_verify.specs.Laid.{are_laid}
use Rattle.commands.specs.Asked.{all_on_table, on_table}
use Rattle.file_session.specs.Declaring.{all_declared, all_texts, declared_action}

-- the changes in memory
abbrev pub in_memory : List TableChange → List (Change Digest)
in_memory changes = map (λ c. of_table (table_action_of c)) changes

same_action : (c : TableChange) → table_action_of c ≡ declared_action (on_table c)
same_action (table_change.AddUser u key) = refl
same_action (table_change.AddMember g u) = refl
same_action (table_change.DropMember g u) = refl
same_action (table_change.SetKey u key) = refl

pub are_declared : (changes : List TableChange) → in_memory changes ≡ all_declared (all_on_table changes)
are_declared [] = refl
are_declared (c ∷ changes) = λ i. of_table (same_action c i) ∷ are_declared changes i

pub need_no_texts : (changes : List TableChange) → all_texts (all_on_table changes) ≡ []
need_no_texts [] = refl
need_no_texts (table_change.AddUser u key ∷ changes) = need_no_texts changes
need_no_texts (table_change.AddMember g u ∷ changes) = need_no_texts changes
need_no_texts (table_change.DropMember g u ∷ changes) = need_no_texts changes
need_no_texts (table_change.SetKey u key ∷ changes) = need_no_texts changes

pub need_nothing_laid : (laid : List Bytes) (changes : List TableChange) → are_laid laid (in_memory changes) ≡ true
unfolding are_laid
need_nothing_laid laid [] = refl
need_nothing_laid laid (table_change.AddUser u key ∷ changes) = need_nothing_laid laid changes
need_nothing_laid laid (table_change.AddMember g u ∷ changes) = need_nothing_laid laid changes
need_nothing_laid laid (table_change.DropMember g u ∷ changes) = need_nothing_laid laid changes
need_nothing_laid laid (table_change.SetKey u key ∷ changes) = need_nothing_laid laid changes
