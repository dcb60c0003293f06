-- Nobody has to believe this file: an aid of private contracts.
-- Entries as the code compares them: by the entries of plans, which are made once.
use Rattle.std.specs.Prelude.{ℕ, List, Option, Bool, ◌&&◌, ◌||◌, not, ◌==◌}
use Rattle.std.specs.List.{list_all}
use Rattle.version_order.specs.declared.plan.Entry.{Entry}
use Rattle.version_order.specs.Plan.{Plan}
use Rattle.reply_rules.specs.Lists.{Lists}
use Rattle.reply_rules.specs.Rules.{lists_entry, left_of, within, top_entries, own_entry_of_top}

-- A plan of this user and with these entries shows what it has to, where those left of them without those before are
-- these: told by the entries of top, top's own, those that wait, and those before.
abbrev pub shows_left : List Entry → List Entry → List Entry → List Entry → List Entry → Option (List Entry) → List Entry → ℕ → Bool
shows_left top own waiting before left rest es user =
    list_all (lists_entry es) before
    && (list_all (λ e. lists_entry top e || lists_entry own e) left
    && (list_all (lists_entry left) waiting && (list_all (λ e. not (e.user == user)) left && within left rest)))

-- a plan above shows what it has to, told by the entries of those that wait and of those before it
abbrev pub shows_by : Lists → List Entry → List Entry → Option (List Entry) → Plan → Bool
shows_by x waiting before rest p =
    shows_left (top_entries x) (own_entry_of_top x) waiting before (left_of before p.entries) rest p.entries p.user
