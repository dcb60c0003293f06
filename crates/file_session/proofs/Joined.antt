-- Two operations in one: what was laid out for each is laid out for both.
use Rattle.std.proofs.Common.{◌≡◌, ◌≤◌, ◌+◌, ℕ, Bool, true, false, ◌&&◌, ◌||◌, List, [], ◌∷◌, ◌++◌, Option, Some, None, Result, IfOk, length, map, refl, sym, ap, ◌∙◌, arith, subst}
use Rattle.std.specs.List.{list_any}
use Rattle.std.specs.Option.{option_map_or}
use Rattle.std.specs.Result.{result_ok}
use Rattle.std.specs.Str.{bytes_eq}
use Rattle.std.specs.Vec.{vec_items}
use Rattle.std.proofs.lemmas.Grind.{flat_map-append}
use Rattle.std.proofs.lemmas.List.{length-append, map-append}
use Rattle.std.proofs.lemmas.List.Folds.{Any-from_list_any, list_all-append, list_any-append, list_any-from_Any}
use Rattle.layout.specs.Format.{whole}
use Rattle.layout.specs.Hash.{hash}
use Rattle.layout.specs.Types.{Bytes, Digest}
use Rattle.itable.specs.Inode.{Inode, inode}
use Rattle.update_cert.specs.Change.{Action, Make, Put, Remove, Link, Unlink, AddUser, AddMember, DropMember, SetKey, Change}
use Rattle.update_cert.specs.World.{Content}
use Rattle.update_cert.specs.declared.cert.TheConstants.{MOST_CHANGES}
use Rattle.tree_parts.specs.Spot.{is_of_file}
use Rattle.client_tree.specs.Genesis.{inode_digest, root_inode}
use Rattle.client_verify.specs.Laid.{are_blocks_laid, are_laid, is_file_laid, is_laid, is_whole_file}
use Rattle.commands.specs.Asked.{Outcome, Tells, Writes, both, outcome_of}
use Rattle.commands.specs.declared.place.Course.{Course}
use Rattle.commands.specs.declared.place.Course.TheVariants as course
use Rattle.file_session.specs.declared.planning.Operation.{Operation}
use Rattle.file_session.specs.declared.planning.Plan.{Plan}
use Rattle.file_session.specs.declared.planning.Plan.TheVariants as plan
use Rattle.file_session.specs.Declaring.{declared, texts_for}
use Rattle.file_session.specs.Parts.{CanBegin, HasFew, IsChange, IsPlanOf}

or_true : (b : Bool) → (b || true) ≡ true
or_true true = refl
or_true false = refl

and_left : (a b : Bool) → (a && b) ≡ true → a ≡ true
and_left true b is = refl
and_left false b is = cc is

and_right : (a b : Bool) → (a && b) ≡ true → b ≡ true
and_right true b is = is
and_right false b is = cc is

and_both : (a b : Bool) → a ≡ true → b ≡ true → (a && b) ≡ true
and_both a b one other = rw (one, other) refl

-- a test that passes on some of these texts passes on some of those
abbrev Within : List Bytes → List Bytes → Type 0
Within few many = (p : Bytes → Bool) → list_any p few ≡ true → list_any p many ≡ true

in_first : (a b : List Bytes) → Within a (a ++ b)
in_first a b p is = list_any-append p a b ∙ ap (λ x. x || list_any p b) is

in_second : (a b : List Bytes) → Within b (a ++ b)
in_second a b p is = list_any-append p a b ∙ ap (λ x. list_any p a || x) is ∙ or_true (list_any p a)

any_weaker : (p q : Bytes → Bool) (xs : List Bytes) → ((x : Bytes) → p x ≡ true → q x ≡ true) → list_any p xs ≡ true → list_any q xs ≡ true
any_weaker p q xs weaker is =
    let (k, x, inside, at, holds) = Any-from_list_any p xs is in
    list_any-from_Any q xs (k, x, inside, at, weaker x holds)

module _ (few many : List Bytes) (within : Within few many) where
  blocks_within : (size k : ℕ) (ds : List Digest) → are_blocks_laid few size k ds ≡ true → are_blocks_laid many size k ds ≡ true
  unfolding are_blocks_laid
  blocks_within size k [] is = refl
  blocks_within size k (d ∷ ds) is = and_both _ _ (within _ (and_left _ _ is)) (blocks_within size (k + 1) ds (and_right _ _ is))

  whole_within : (text : Bytes) → is_whole_file few text ≡ true → is_whole_file many text ≡ true
  whole_within text is = go (result_ok (whole inode text)) is
    where
      go : (o : Option Inode) → option_map_or (λ n. is_of_file n.kind && are_blocks_laid few n.size 0 n.blocks) o false ≡ true
          → option_map_or (λ n. is_of_file n.kind && are_blocks_laid many n.size 0 n.blocks) o false ≡ true
      go None is = is
      go (Some n) is = and_both _ _ (and_left _ _ is) (blocks_within n.size 0 n.blocks (and_right _ _ is))

  file_within : (digest : Digest) → is_file_laid few digest ≡ true → is_file_laid many digest ≡ true
  file_within digest is =
      within _ (any_weaker (λ text. bytes_eq (hash text) digest && is_whole_file few text) (λ text. bytes_eq (hash text) digest && is_whole_file many text) few
      (λ text both. and_both _ _ (and_left _ _ both) (whole_within text (and_right _ _ both))) is)

  made_within : (digest : Digest) (root : Bool) → (is_file_laid few digest || root) ≡ true → (is_file_laid many digest || root) ≡ true
  made_within digest root is = go (is_file_laid few digest) refl is
    where
      go : (b : Bool) → is_file_laid few digest ≡ b → (b || root) ≡ true → (is_file_laid many digest || root) ≡ true
      go true at is = rw (file_within digest at) refl
      go false at is = rw is (or_true (is_file_laid many digest))

  action_within : (action : Action Digest) → is_laid few action ≡ true → is_laid many action ≡ true
  action_within (Make digest) is = made_within digest (bytes_eq digest (inode_digest root_inode)) is
  action_within (Put digest) is = file_within digest is
  action_within Remove is = refl
  action_within (Link entry) is = refl
  action_within (Unlink name) is = refl
  action_within (AddUser u key) is = refl
  action_within (AddMember g u) is = refl
  action_within (DropMember g u) is = refl
  action_within (SetKey u key) is = refl

  laid_within : (cs : List (Change Digest)) → are_laid few cs ≡ true → are_laid many cs ≡ true
  unfolding are_laid
  laid_within [] is = refl
  laid_within (c ∷ cs) is = and_both _ _ (action_within c.action (and_left _ _ is)) (laid_within cs (and_right _ _ is))

all_in : (laid : List Bytes) (cs ds : List (Change Digest)) → are_laid laid cs ≡ true → are_laid laid ds ≡ true → are_laid laid (cs ++ ds) ≡ true
unfolding are_laid
all_in laid cs ds one other = list_all-append (λ c. is_laid laid c.action) cs ds ∙ and_both _ _ one other

pub both_are_laid : (a b : List Bytes) (cs ds : List (Change Digest)) → are_laid a cs ≡ true → are_laid b ds ≡ true → are_laid (a ++ b) (cs ++ ds) ≡ true
both_are_laid a b cs ds one other = all_in (a ++ b) cs ds (laid_within a (a ++ b) (in_first a b) cs one) (laid_within b (a ++ b) (in_second a b) ds other)

-- ---- plans

-- an answer at once after changes
pub tells_on : {A : Type 0} (first later : Outcome) (x : _) → IsChange first → IsPlanOf {A = A} later (plan.Tells x) → IsPlanOf {A = A} (both first later) (plan.Tells x)
tells_on (Tells told) later x change is = absurd change
tells_on (Writes wanted) (Tells told) x change is = is
tells_on (Writes wanted) (Writes more) x change is = absurd is

-- changes after changes
pub writes_on : {A : Type 0} (first later : Outcome) (p q r : Operation A) → IsPlanOf first (plan.Writes p) → IsPlanOf later (plan.Writes q)
    → r.changes.items ≡ p.changes.items ++ q.changes.items → map vec_items r.texts.items ≡ map vec_items p.texts.items ++ map vec_items q.texts.items → IsPlanOf (both first later) (plan.Writes r)
writes_on (Tells told) later p q r one other changes texts = absurd one
writes_on (Writes wanted) (Tells told) p q r one other changes texts = absurd other
writes_on (Writes wanted) (Writes more) p q r one other changes texts = (
  changes ∙ (λ i. one.0 i ++ other.0 i) ∙ sym (map-append declared wanted more),
  texts ∙ (λ i. one.1 i ++ other.1 i) ∙ sym (flat_map-append (λ c. texts_for c.action) wanted more),
)

-- an operation is asked for, where changes come after changes
pub changes_on : {A : Type 0} (first later : Outcome) (q : Operation A) → IsChange first → IsPlanOf later (plan.Writes q) → IsChange (both first later)
changes_on (Tells told) later q change is = absurd change
changes_on (Writes wanted) (Tells told) q change is = absurd is
changes_on (Writes wanted) (Writes more) q change is = tt

-- no answer at once is planned where changes are asked for
pub no_answer : {A : Type 0} (o : Outcome) (x : _) → IsChange o → IsPlanOf {A = A} o (plan.Tells x) → ⊥
no_answer (Tells told) x change is = change
no_answer (Writes wanted) x change is = is

-- a course has two changes at most
pub two_at_most : {A : Type 0} (new : Content) (c : Course) (p : Operation A) → IsPlanOf (outcome_of new c) (plan.Writes p) → length p.changes.items ≤ 2
two_at_most new (course.Refuse why) p is = absurd is
two_at_most new (course.Put t) p is = omega (arith, ap length is.0)
two_at_most new (course.Make t) p is = omega (arith, ap length is.0)
two_at_most new (course.MakeNamed directory name i) p is = omega (arith, ap length is.0)
two_at_most new (course.Remove t) p is = omega (arith, ap length is.0)
two_at_most new (course.Unlink directory name) p is = omega (arith, ap length is.0)
two_at_most new (course.UnlinkAndRemove directory name t) p is = omega (arith, ap length is.0)
two_at_most new (course.Link directory name t) p is = omega (arith, ap length is.0)
two_at_most new (course.LinkAndUnlink to to_name t directory name) p is = omega (arith, ap length is.0)

pub few_on : {A : Type 0} (n : ℕ) (p q r : Operation A) → length p.changes.items ≤ 2 → length q.changes.items ≤ n → r.changes.items ≡ p.changes.items ++ q.changes.items → length r.changes.items ≤ n + 2
few_on n p q r one other changes = omega (arith, one, other, ap length changes, length-append p.changes.items q.changes.items)

pub begins_on : {A : Type 0} (n : ℕ) (p q r : Operation A) → n + 2 ≤ MOST_CHANGES → length p.changes.items ≤ 2 → length q.changes.items ≤ n
    → CanBegin (plan.Writes p) → CanBegin (plan.Writes q)
    → r.changes.items ≡ p.changes.items ++ q.changes.items → map vec_items r.texts.items ≡ map vec_items p.texts.items ++ map vec_items q.texts.items → CanBegin (plan.Writes r)
begins_on n p q r most one other first later changes texts = (
  omega (arith, most, few_on n p q r one other changes),
  (λ i. are_laid (texts i) (changes i)) ∙ both_are_laid _ _ _ _ first.1 later.1,
)

-- what comes to nothing is refused
pub is_change : (new : Content) (c : Course) → ((why : _) → c ≡ course.Refuse why → ⊥) → IsChange (outcome_of new c)
is_change new (course.Refuse why) not = absurd (not why refl)
is_change new (course.Put t) not = tt
is_change new (course.Make t) not = tt
is_change new (course.MakeNamed directory name i) not = tt
is_change new (course.Remove t) not = tt
is_change new (course.Unlink directory name) not = tt
is_change new (course.UnlinkAndRemove directory name t) not = tt
is_change new (course.Link directory name t) not = tt
is_change new (course.LinkAndUnlink to to_name t directory name) not = tt

-- ---- how many changes there are

pub few_more : {A : Type 0} (n m : ℕ) (p : Plan A) → n ≤ m → HasFew n p → HasFew m p
few_more n m (plan.Tells x) more few = tt
few_more n m (plan.Writes operation) more few = omega arith

pub few_told : {A : Type 0} (n : ℕ) (told : _) (p : Plan A) → IsPlanOf (Tells told) p → HasFew n p
few_told n told (plan.Tells x) is = tt
few_told n told (plan.Writes operation) is = absurd is

pub few_as : {A E : Type 0} (n m : ℕ) (r : Result (Plan A) E) → n ≡ m → IfOk r (HasFew n) → IfOk r (HasFew m)
few_as n m r is few = let P : ℕ → Type 0 = λ k. IfOk r (HasFew k) in subst P is few
