-- The first broken rule of those that speak of the lists of a reply and the table alone.
-- The rules stand in docs/RULES.md.
use Rattle.std.specs.Prelude.{List, [], ◌∷◌, Option, Some, None, Bool, if◌then◌else◌}
use Rattle.principals.specs.Table.{Table}
use Rattle.reply_rules.specs.Lists.{Lists}
use Rattle.reply_rules.specs.Rules.{unknown_user, numbers, vector, entries, link, group_records}
use Rattle.reply_rules.specs.declared.rule.Rule.{Rule}
use Rattle.reply_rules.specs.declared.rule.Rule.TheVariants as rule

-- of rules and their tests, the first whose test doesn't hold
abbrev pub least : List (Rule × Bool) → Option Rule
least [] = None
least (t ∷ ts) = if t.1 then least ts else Some t.0

-- the rules after those on users and their signatures
abbrev pub later_rules : Table → Lists → List (Rule × Bool)
later_rules t x =
    (rule.Numbers, numbers x)
    ∷ (rule.Vector, vector t x)
    ∷ (rule.Entries, entries x)
    ∷ (rule.Link, link x)
    ∷ (rule.GroupRecord, group_records t x)
    ∷ []

-- the rules, in their order
abbrev pub rules_of : Table → Lists → List (Rule × Bool)
rules_of t x = (rule.UnknownUser, unknown_user t x) ∷ later_rules t x

-- the first of them that doesn't hold
abbrev pub broken : Table → Lists → Option Rule
broken t x = least (rules_of t x)
