-- The table of principals that clients read of a reply is the one that user 0's handle names.
use Rattle.std.specs.Prelude.{◌≡◌, ℕ, List, true}
use Rattle.std.specs.List.{All}
use Rattle.layout.specs.Types.{Key}
use Rattle.principals.specs.Table.{Table}
use Rattle.update_cert.specs.Cert.{cert}
use Rattle.pending_list.specs.Reply.{Reply}
use Rattle.client_tree.specs.Principals.{IsPending}
use Rattle.client_tree.specs.View.{handle_in}
use Rattle.reply_rules.specs.Lists.{Lists, items}
use Rattle.reply_rules.specs.Rules.{lists}
use Rattle.reply_check.specs.FirstBroken.{view_over}
use Rattle.honest_history.specs.Honest.{Names, Naming}
use Rattle.honest_history.specs.Served.{IsTableOf}

-- the reply of which these are the lists
abbrev pub reply_of : Lists → Reply
reply_of x = record { structures = x.structures; pending = items x }

-- Where the reply keeps the rule on lists, and its certificates are such, what a client reads of it, on a table that
-- user 0's handle names, is the table of the lists.
abbrev pub EachReadTableIsNamed : Type 0
EachReadTableIsNamed =
    (naming : Naming) (pinned : Key) (x : Lists) (users t : Table) (void : List ℕ)
    → lists (reply_of x) ≡ true → All (λ i. cert.Fits i.cert) (items x)
    → Names naming (handle_in pinned x.structures 0) users → IsPending users (view_over pinned t x) void
    → IsTableOf naming pinned x t
