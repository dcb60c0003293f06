-- The numbers of the rules.
-- The rules stand in docs/RULES.md.
use Rattle.std.specs.Prelude.{ℕ}
use Rattle.reply_rules.specs.declared.rule.Rule.{Rule}
use Rattle.reply_rules.specs.declared.rule.Rule.TheVariants.{Form, Lists, OwnLast, OwnPending, SuperSignature, Block, Content, UnknownUser, Signature, Certificate, Numbers, Vector, Entries, Link, GroupRecord}

abbrev pub number_of : Rule → ℕ
number_of Form = 1
number_of Lists = 2
number_of OwnLast = 3
number_of OwnPending = 4
number_of SuperSignature = 5
number_of Block = 6
number_of Content = 7
number_of UnknownUser = 8
number_of Signature = 9
number_of Certificate = 10
number_of Numbers = 11
number_of Vector = 12
number_of Entries = 13
number_of Link = 14
number_of GroupRecord = 15
