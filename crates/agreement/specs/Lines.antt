-- The line of an accepted view: the operations, of all users, that led to it, in order. And that views agree on their
-- lines.
use Rattle.std.specs.Prelude.{◌≡◌, ◌+◌, ◌==◌, ◌&&◌, List, [], ◌∷◌, ◌++◌, filter, length, map, if◌then◌else◌}
use Rattle.std.specs.List.{All, Contains}
use Rattle.std.specs.Option.{option_map_or}
use Rattle.layout.specs.Types.{User, Version}
use Rattle.version_order.specs.Plan.{Plan}
use Rattle.version_order.specs.Structure.{Structure}
use Rattle.update_cert.specs.Cert.{Cert, digest_of}
use Rattle.reply_rules.specs.Lists.{pending, shown}
use Rattle.reply_rules.specs.Rules.{items_above, top_plan}
use Rattle.agreement.specs.Runs.{View, number_of, structures, user_of}

-- The line of the view that this user accepted at this number: the line of the view over which top was signed, and then
-- the operations above, in order.
abbrev pub line_at : List View → User → Version → List Cert
line_at [] u n = []
line_at (x ∷ older) u n =
    if (user_of x == u) && (number_of x == n)
    then option_map_or (λ t. line_at older t.user t.number) (top_plan x.lists) []
    ++ map (λ i. i.cert) (items_above x.lists)
    else line_at older u n

abbrev pub line : List View → View → List Cert
line run x = line_at run (user_of x) (number_of x)

-- ---- lines

-- each user's numbers are 1, 2, 3 and so on: each is one more than there are operations of the user before it
abbrev pub IsNumbered : List Cert → Type 0
IsNumbered l = (before : List Cert) (c : Cert) (after : List Cert) → l ≡ before ++ c ∷ after
    → c.number ≡ length (filter (λ b. b.user == c.user) before) + 1

abbrev pub EndsWith : Cert → List Cert → Type 0
EndsWith c l = (before : List Cert) × (l ≡ before ++ c ∷ [])

abbrev pub IsBeginning : List Cert → List Cert → Type 0
IsBeginning l m = (after : List Cert) × (m ≡ l ++ after)

-- The plan's operation stands in both lines, and up to it they are the same.
pub record SameUpTo (p : Plan) (l m : List Cert) : Type 0 where
  pub before : List Cert
  pub operation : Cert
  pub named : p.certificate ≡ digest_of operation
  pub user : p.user ≡ operation.user
  pub number : p.number ≡ operation.number
  pub one : IsBeginning (before ++ operation ∷ []) l
  pub other : IsBeginning (before ++ operation ∷ []) m

-- ---- the lines of a run

-- each line is numbered
abbrev pub AreNumbered : List View → Type 0
AreNumbered run = All (λ x. IsNumbered (line run x)) run

-- each ends with the own operation
abbrev pub EndWithOwn : List View → Type 0
EndWithOwn run = All (λ x. EndsWith x.lists.own.cert (line run x)) run

-- the line of a user's view is a beginning of that of the user's next one
abbrev pub Grow : List View → Type 0
Grow run =
    (x y : View) → Contains run x → Contains run y → user_of y ≡ user_of x → number_of y ≡ number_of x + 1
    → IsBeginning (line run x) (line run y)

-- the plan is one of the view's: of a structure, or of a pending operation, the own one among them
abbrev pub HasPlan : View → Plan → Type 0
HasPlan x p = Contains (shown x.lists ++ pending x.lists) p

-- views that have one plan, committed or pending, have the same line up to its operation
abbrev pub AgreeByPlans : List View → Type 0
AgreeByPlans run =
    (x y : View) (p : Plan) → Contains run x → Contains run y → HasPlan x p → HasPlan y p
    → SameUpTo p (line run x) (line run y)

-- the structure is one of the view's, or its own new one
abbrev pub Has : View → Structure → Type 0
Has x z = Contains (structures x ++ x.signed ∷ []) z

-- views that have one structure have the same line up to it
abbrev pub Agree : List View → Type 0
Agree run =
    (x y : View) (z : Structure) → Contains run x → Contains run y → Has x z → Has y z
    → SameUpTo z.plan (line run x) (line run y)
