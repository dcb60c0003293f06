-- What lists that break no rule say of the groups that the own operation raises, and of the parts that it writes.
use Rattle.std.proofs.Common.{◌≡◌, ℕ, zero, suc, ◌+◌, ◌<◌, ◌≤◌, Bool, true, false, ◌||◌, List, [], ◌∷◌, ◌++◌, None, map, filter, refl, sym, ap, subst, ◌∙◌, arith, append_assoc}
use Rattle.std.specs.Prelude.{◌==◌}
use Rattle.std.specs.List.{All, flat_map, list_any}
use Rattle.std.proofs.lemmas.List.{append-nil}
use Rattle.std.proofs.lemmas.Bool.{eq-eqb}
use Rattle.std.proofs.lemmas.List.Elements.{All-append, All-cons, All-head, All-nil, All-tail, All-weaker}
use Rattle.layout.specs.Types.{Key}
use Rattle.principals.specs.Table.{Table}
use Rattle.version_order.specs.Plan.{Plan}
use Rattle.pending_list.specs.Groups.{groups, groups_below, raised_groups, raises}
use Rattle.reply_rules.specs.Lists.{Lists}
use Rattle.reply_rules.specs.Rules.{entries, group_records, link, numbers, unknown_user, vector}
use Rattle.reply_rules.specs.Broken.{later_rules, least}
use Rattle.reply_rules.specs.declared.rule.Rule.{Rule}
use Rattle.reply_rules.specs.declared.rule.Rule.TheVariants as rule
use Rattle.reply_rules.proofs.OwnRaised.{own_counts}
use Rattle.client_tree.specs.View.{View, written}
use Rattle.client_tree.specs.Tree.{IsOutcome, Stored}
use Rattle.tree_parts.specs.Blocks.{Blocks}
use Rattle.reply_check.specs.FirstBroken.{certificates, lists_break, signatures, view_over}
use Rattle.reply_check.specs.Reached.{CountsRaised, IsRaisedIn}

-- ---- the rules hold

-- where none is broken, the first holds, and so do the others
none_broken : (r : Rule) (holds : Bool) (rest : List (Rule × Bool)) → least ((r, holds) ∷ rest) ≡ None → (holds ≡ true) × (least rest ≡ None)
none_broken r true rest none = (refl, none)
none_broken r false rest none = absurd cc

vector_holds : (t : Table) (x : Lists) → lists_break t x ≡ None → vector t x ≡ true
vector_holds t x none =
    let after_vector = (rule.Entries, entries x) ∷ (rule.Link, link x) ∷ (rule.GroupRecord, group_records t x) ∷ [] in
    let of_vector = (rule.Vector, vector t x) ∷ after_vector in
    let users = none_broken rule.UnknownUser (unknown_user t x) ((rule.Signature, signatures t x) ∷ (rule.Certificate, certificates t x) ∷ later_rules t x) none in
    let signed = none_broken rule.Signature (signatures t x) ((rule.Certificate, certificates t x) ∷ later_rules t x) users.1 in
    let certified = none_broken rule.Certificate (certificates t x) (later_rules t x) signed.1 in
    let numbered = none_broken rule.Numbers (numbers x) of_vector certified.1 in
    (none_broken rule.Vector (vector t x) after_vector numbered.1).0

-- each group that the own operation raises has a version in its plan
pub counts_raised : (key : Key) (t : Table) (x : Lists) → lists_break t x ≡ None → CountsRaised (view_over key t x)
counts_raised key t x none = λ g is. own_counts t x g (vector_holds t x none) is

-- ---- groups that are raised

abbrev IsGroup : ℕ → Type 0
IsGroup g = (64 ≤ g) × (g < 96)

below : (n : ℕ) → n ≤ 32 → All IsGroup (groups_below n)
unfolding groups_below
below zero few = All-nil IsGroup
below (suc n) few = All-append IsGroup (groups_below n) ((n + 64) ∷ []) (below n (omega (arith, few))) (All-cons IsGroup (n + 64) [] (omega arith, omega (arith, few)) (All-nil IsGroup))

kept_one : {X : Type 0} (P : X → Type 0) (f : X → Bool) (x : X) (xs : List X) (t : Bool) → f x ≡ t → P x → All P (filter f xs) → All P (filter f (x ∷ xs))
kept_one P f x xs true is holds rest = rw is (All-cons P x (filter f xs) holds rest)
kept_one P f x xs false is holds rest = rw is rest

kept : {X : Type 0} (P : X → Type 0) (f : X → Bool) (xs : List X) → All P xs → All P (filter f xs)
kept P f [] all = All-nil P
kept P f (x ∷ xs) all = kept_one P f x xs (f x) refl (All-head P x xs all) (kept P f xs (All-tail P x xs all))

all_groups : (x : View) → All IsGroup (raised_groups x.table x.own)
all_groups x = kept IsGroup _ groups (below 32 (omega arith))

-- each of a list is one of it
either : (b : Bool) → (b || true) ≡ true
either true = refl
either false = refl

each_in : (gs : List ℕ) → All (λ g. list_any (λ h. h == g) gs ≡ true) gs
each_in [] = All-nil (λ g. list_any (λ h. h == g) [] ≡ true)
each_in (g ∷ gs) =
    All-cons (λ k. list_any (λ h. h == k) (g ∷ gs) ≡ true) g gs (rw (eq-eqb g g refl) refl)
    (All-weaker (λ k. list_any (λ h. h == k) gs ≡ true) (λ k. list_any (λ h. h == k) (g ∷ gs) ≡ true) (λ k is. rw is (either (g == k))) gs (each_in gs))

-- the parts of these groups
of_parts : (P : ℕ → Type 0) (parts : List Stored) (gs : List ℕ) → map (λ (s : Stored). s.principal) parts ≡ gs → All P gs → All (λ (s : Stored). P s.principal) parts
of_parts P [] gs is all = All-nil (λ (s : Stored). P s.principal)
of_parts P (s ∷ ss) gs is all =
    let here = subst (All P) (sym is) all in
    All-cons (λ (s : Stored). P s.principal) s ss (All-head P s.principal (map (λ (s : Stored). s.principal) ss) here) (of_parts P ss (map (λ (s : Stored). s.principal) ss) refl (All-tail P s.principal (map (λ (s : Stored). s.principal) ss) here))

abbrev IsRaisedBy : View → ℕ → Type 0
IsRaisedBy x g = IsGroup g × (raises x.table g x.own ≡ true)

both : {X : Type 0} (P Q : X → Type 0) (xs : List X) → All P xs → All Q xs → All (λ x. P x × Q x) xs
both P Q [] ps qs = All-nil (λ x. P x × Q x)
both P Q (x ∷ xs) ps qs = All-cons (λ x. P x × Q x) x xs (All-head P x xs ps, All-head Q x xs qs) (both P Q xs (All-tail P x xs ps) (All-tail Q x xs qs))

tail_is : (a b : ℕ) (as' bs : List ℕ) → a ∷ as' ≡ b ∷ bs → as' ≡ bs
tail_is a b as' bs is = cc

-- the own part comes first, and the others are of groups that the plan has a version of
pub raised_parts : (blocks : Blocks) (x : View) (plan : Plan) (own : Stored) (parts : List Stored) → plan ≡ x.own.plan → CountsRaised x → IsOutcome blocks x (own ∷ parts) → All (IsRaisedIn plan) parts
raised_parts blocks x plan own parts same counts outcome =
    let gs = raised_groups x.table x.own in
    let names : map (λ (s : Stored). s.principal) parts ≡ gs = tail_is own.principal x.own.cert.user (map (λ (s : Stored). s.principal) parts) gs outcome.principals in
    let raised = both IsGroup (λ g. raises x.table g x.own ≡ true) gs (all_groups x) (each_in gs) in
    subst (λ (p : Plan). All (IsRaisedIn p) parts) (sym same)
    (All-weaker (λ (s : Stored). IsRaisedBy x s.principal) (IsRaisedIn x.own.plan) (λ s is. (is.0.0, is.0.1, counts s.principal is.1)) parts (of_parts (IsRaisedBy x) parts gs names raised))

pub some_part : (blocks : Blocks) (x : View) (parts : List Stored) → IsOutcome blocks x parts → parts ≡ [] → ⊥
some_part blocks x parts outcome none =
    let clash : [] ≡ written x = ap (map (λ (s : Stored). s.principal)) (sym none) ∙ outcome.principals in
    absurd cc

-- ---- the records and the texts of parts, in turn

pub records_next : {X Y : Type 0} (f : X → Y) (old new all : List Y) (x : X) (left later : List X) → new ≡ old ++ f x ∷ [] → left ≡ x ∷ later → old ++ map f left ≡ all → new ++ map f later ≡ all
records_next f old new all x left later is next so_far = rw is (append_assoc old (f x ∷ []) (map f later) ∙ (rw next at so_far))

pub texts_next : {X Y : Type 0} (f : X → List Y) (old new all : List Y) (x : X) (left later : List X) → new ≡ old ++ f x → left ≡ x ∷ later → old ++ flat_map f left ≡ all → new ++ flat_map f later ≡ all
texts_next f old new all x left later is next so_far = rw is (append_assoc old (f x) (flat_map f later) ∙ (rw next at so_far))

pub all_done : {Y : Type 0} (old all left : List Y) → left ≡ [] → old ++ left ≡ all → old ≡ all
all_done old all left none so_far = sym (append-nil old) ∙ (rw none at so_far)
