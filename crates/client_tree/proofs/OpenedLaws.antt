-- What operations, in turn, make of a part and of a tree.
use Rattle.std.proofs.Common.{◌≡◌, ℕ, zero, suc, ◌+◌, ◌<◌, Bool, true, false, List, [], ◌∷◌, ◌++◌, length, take, drop, Option, Some, None, Result, Ok, Err, refl, subst, sym, ap, ◌∙◌, inl, inr, add-one, drop-cons, append_assoc, arith}
use Rattle.std.specs.Prelude.{◌⊎◌, ◌==◌, ◌&&◌, ◌||◌, IfErr, IfOk, IsErrAnd, OnOk, filter, slice_get, slice_index_or, if◌then◌else◌}
use Rattle.std.specs.List.{list_any}
use Rattle.std.specs.Option.{option_map}
use Rattle.std.proofs.Math.Bool.{and-false, and-true}
use Rattle.std.proofs.lemmas.Bool.{eqb-true, eq-eqb}
use Rattle.std.proofs.lemmas.Bool.Decides.{nat_tests}
use Rattle.std.proofs.lemmas.List.{append-nil, take-append-drop}
use Rattle.std.proofs.lemmas.List.Elements.{filter-append}
use Rattle.layout.specs.Types.{Digest, Handle, INumber, Principal}
use Rattle.principals.specs.Table.{Table}
use Rattle.update_cert.specs.Change.{Change}
use Rattle.update_cert.specs.World.{Actor, Content, Tree, after, after_change, is_of, is_table, void_from}
use Rattle.update_cert.specs.Reading.{Reading, after_read, read_change, read_changes, void_of_read}
use Rattle.tree_parts.specs.Blocks.{Blocks, Agrees}
use Rattle.tree_parts.specs.Part.{HasTable, IsPartOf, Laid, Part, Slot, content_of, handle, slot_at, stands_at}
use Rattle.tree_parts.specs.Slots.{slot_after}
use Rattle.tree_parts.specs.Asked.{HasAskedFor, HasChunkFor, IsAskedFor, IsChunkFor, IsMadeIn, IsReadFrom, IsRoot, Lacks, covers, slot_within}
use Rattle.tree_parts.specs.declared.scope.Scope.{Scope}
use Rattle.tree_parts.specs.declared.scope.Scope.TheVariants as scopes
use Rattle.tree_parts.specs.Spot.{lacks}
use Rattle.tree_parts.specs.declared.error.ApplyError.{ApplyError}
use Rattle.tree_parts.specs.declared.error.ApplyError.TheVariants as error
use Rattle.tree_parts.specs.declared.spot.Spot.{Spot}
use Rattle.tree_parts.specs.declared.spot.Spot.TheVariants as spot
use Rattle.tree_parts.proofs.ActLaws.{has_table_after, stands_after}
use Rattle.tree_parts.proofs.TreeLaws.{within_is}
use Rattle.std.proofs.Math.Seq.{take-suc}
use Rattle.pending_list.specs.Reply.{PendingItem}
use Rattle.client_tree.specs.View.{View, actor_of, after_items, comes_after, handle_of, is_superusers, named, tree, tree_before}
use Rattle.client_tree.specs.Opened.{HasAskedByItems, HasOpening, HasOpeningAt, IsNeeded, IsOpened, IsOpenedAt, IsOpening, IsOpeningAt, IsPartAfter, changes_part, has_change, is_touched, items_on, slot_after_items}

-- ---- one operation more

pub tree_after : (reads : Reading) (t : Table) (items : List PendingItem) (item : PendingItem) (first : Tree) → after_items reads t (items ++ item ∷ []) first ≡ after_read reads (actor_of t item) item.cert.changes (after_items reads t items first)
unfolding after_items
tree_after reads t [] item first = refl
tree_after reads t (x ∷ xs) item first = tree_after reads t xs item (after_read reads (actor_of t x) x.cert.changes first)

slots_after : (reads : Reading) (t : Table) (p : Principal) (i : INumber) (items : List PendingItem) (item : PendingItem) (s : Option Slot)
    → slot_after_items reads t p i (items ++ item ∷ []) s ≡ slot_after reads (actor_of t item) p i item.cert.changes (slot_after_items reads t p i items s)
unfolding slot_after_items
slots_after reads t p i [] item s = refl
slots_after reads t p i (x ∷ xs) item s = slots_after reads t p i xs item (slot_after reads (actor_of t x) p i x.cert.changes s)

pub part_after : (blocks : Blocks) (scope : Scope) (t : Table) (items : List PendingItem) (p : Principal) (h : Handle) (part : Part) (item : PendingItem) (new : Part) → IsPartAfter blocks scope t items p h part
    → new.table.principal ≡ part.table.principal → handle new ≡ handle part
    → ((reads : Reading) → Agrees blocks reads → (i : ℕ) → slot_at reads new i ≡ slot_within scope reads (actor_of t item) part.table.principal i item.cert.changes (slot_at reads part i))
    → IsPartAfter blocks scope t (items ++ item ∷ []) p h new
part_after blocks scope t items p h part item new is same stands slots =
    record {
      principal = same ∙ is.principal;
      stands_on = stands ∙ is.stands_on;
      slots = λ reads agrees i covered.
          within_is (covers scope i) _ _ _ covered (slots reads agrees i)
          ∙ ap (λ (q : ℕ). slot_after reads (actor_of t item) q i item.cert.changes (slot_at reads part i)) is.principal
          ∙ ap (slot_after reads (actor_of t item) p i item.cert.changes) (is.slots reads agrees i covered)
          ∙ sym (slots_after reads t p i items item (option_map Laid (reads.inode p h i)));
    }

-- of what came of it, if anything did
pub all_after : {T E : Type 0} (part_in : T → Part) (blocks : Blocks) (scope : Scope) (t : Table) (items : List PendingItem) (p : Principal) (h : Handle) (part : Part) (item : PendingItem) (r : Result T E) → IsPartAfter blocks scope t items p h part
    → IfOk r (λ made. (part_in made).table.principal ≡ part.table.principal) → IfOk r (λ made. handle (part_in made) ≡ handle part)
    → ((reads : Reading) → Agrees blocks reads → IfOk r (λ made. (i : ℕ) → slot_at reads (part_in made) i ≡ slot_within scope reads (actor_of t item) part.table.principal i item.cert.changes (slot_at reads part i)))
    → IfOk r (λ made. IsPartAfter blocks scope t (items ++ item ∷ []) p h (part_in made))
all_after part_in blocks scope t items p h part item (Ok made) is same stands slots = part_after blocks scope t items p h part item (part_in made) is same stands slots
all_after part_in blocks scope t items p h part item (Err e) is same stands slots = tt

-- ---- none

pub no_items : (blocks : Blocks) (scope : Scope) (t : Table) (p : Principal) (h : Handle) (part : Part) → part.table.principal ≡ p → handle part ≡ h → ((reads : Reading) → Agrees blocks reads → (i : ℕ) → slot_at reads part i ≡ option_map Laid (reads.inode p h i))
    → IsPartAfter blocks scope t [] p h part
unfolding slot_after_items
no_items blocks scope t p h part same stands slots = record { principal = same; stands_on = stands; slots = λ reads agrees i covered. slots reads agrees i }

pub first_items : {E : Type 0} (blocks : Blocks) (scope : Scope) (t : Table) (p : Principal) (h named : Handle) (r : Result Part E) → h ≡ named → IfOk r (λ part. part.table.principal ≡ p) → IfOk r (λ part. handle part ≡ h)
    → ((reads : Reading) → Agrees blocks reads → IfOk r (λ part. (i : ℕ) → slot_at reads part i ≡ option_map Laid (reads.inode p h i))) → IfOk r (IsPartAfter blocks scope t [] p named)
first_items blocks scope t p h named (Ok part) is same stands slots =
    no_items blocks scope t p named part same (stands ∙ is) (λ reads agrees i. slots reads agrees i ∙ ap (λ (k : Handle). option_map Laid (reads.inode p k i)) is)
first_items blocks scope t p h named (Err e) is same stands slots = tt

laid : (reads : Reading) (digest : Option Digest) → option_map reads.content digest ≡ option_map (content_of reads) (option_map Laid digest)
laid reads None = refl
laid reads (Some d) = refl

-- what the handle names there
named_there : (reads : Reading) (users : Table) (x : View) (p i : ℕ) → is_table p i ≡ false → named reads users x p i ≡ option_map (content_of reads) (option_map Laid (reads.inode p (handle_of x p) i))
named_there reads users x p i place = rw place (laid reads (reads.inode p (handle_of x p) i))

-- ---- what stands in the tree is what the slots are of

items_stand : (reads : Reading) (t : Table) (p i : ℕ) (items : List PendingItem) (first : Tree) (s : Option Slot) → is_table p i ≡ false → first p i ≡ option_map (content_of reads) s
    → after_items reads t items first p i ≡ option_map (content_of reads) (slot_after_items reads t p i items s)
unfolding after_items slot_after_items
items_stand reads t p i [] first s place is = is
items_stand reads t p i (x ∷ xs) first s place is =
    items_stand reads t p i xs (after_read reads (actor_of t x) x.cert.changes first) (slot_after reads (actor_of t x) p i x.cert.changes s) place (stands_after reads (actor_of t x) p i x.cert.changes first s place is)

-- before the own operation
stands_before : (reads : Reading) (users : Table) (x : View) (p i : ℕ) → is_table p i ≡ false
    → tree_before reads users x p i ≡ option_map (content_of reads) (slot_after_items reads x.table p i (filter (comes_after x p) x.others) (option_map Laid (reads.inode p (handle_of x p) i)))
stands_before reads users x p i place = items_stand reads x.table p i (filter (comes_after x p) x.others) (named reads users x) (option_map Laid (reads.inode p (handle_of x p) i)) place (named_there reads users x p i place)

-- and after it
stands_then : (reads : Reading) (users : Table) (x : View) (p i : ℕ) → is_table p i ≡ false
    → tree reads users x p i ≡ option_map (content_of reads) (slot_after_items reads x.table p i (items_on x p) (option_map Laid (reads.inode p (handle_of x p) i)))
stands_then reads users x p i place =
    let first = option_map Laid (reads.inode p (handle_of x p) i) in
    let others = filter (comes_after x p) x.others in
    stands_after reads (actor_of x.table x.own) p i x.own.cert.changes (tree_before reads users x) (slot_after_items reads x.table p i others first) place (stands_before reads users x p i place)
    ∙ sym (ap (option_map (content_of reads)) (slots_after reads x.table p i others x.own first))

pub part_stands : (blocks : Blocks) (reads : Reading) (users : Table) (x : View) (scope : Scope) (p i : ℕ) (part : Part) → IsPartAfter blocks scope x.table (items_on x p) p (handle_of x p) part → Agrees blocks reads → covers scope i ≡ true → is_table p i ≡ false
    → tree reads users x p i ≡ stands_at reads part i
part_stands blocks reads users x scope p i part is agrees covered place = stands_then reads users x p i place ∙ sym (ap (option_map (content_of reads)) (is.slots reads agrees i covered))

-- ---- so the part is that of the tree

has_table_changes : (actor : Actor) (cs : List (Change Content)) (first : Tree) → HasTable first → HasTable (after actor cs first)
unfolding after
has_table_changes actor [] first has = has
has_table_changes actor (c ∷ cs) first has = has_table_changes actor cs (after_change actor c first) (has_table_after actor c first has)

has_table_items : (reads : Reading) (t : Table) (items : List PendingItem) (first : Tree) → HasTable first → HasTable (after_items reads t items first)
unfolding after_items
has_table_items reads t [] first has = has
has_table_items reads t (x ∷ xs) first has = has_table_items reads t xs (after_read reads (actor_of t x) x.cert.changes first) (has_table_changes (actor_of t x) (read_changes reads x.cert.changes) first has)

has_table_before : (reads : Reading) (users : Table) (x : View) → HasTable (tree_before reads users x)
has_table_before reads users x = has_table_items reads x.table (filter (comes_after x 0) x.others) (named reads users x) (users, refl)

pub part_before : (blocks : Blocks) (reads : Reading) (users : Table) (x : View) (p : Principal) (part : Part) → IsPartAfter blocks scopes.All x.table (filter (comes_after x p) x.others) p (handle_of x p) part → Agrees blocks reads → IsPartOf reads part (tree_before reads users x)
part_before blocks reads users x p part is agrees = record {
  has_table = has_table_before reads users x;
  stands = λ i place.
      ap (λ (q : ℕ). tree_before reads users x q i) is.principal
      ∙ stands_before reads users x p i (sym (ap (λ (q : ℕ). is_table q i) is.principal) ∙ place)
      ∙ sym (ap (option_map (content_of reads)) (is.slots reads agrees i refl));
}

pub part_then : (blocks : Blocks) (reads : Reading) (users : Table) (x : View) (p : Principal) (part : Part) → IsPartAfter blocks scopes.All x.table (items_on x p) p (handle_of x p) part → Agrees blocks reads → IsPartOf reads part (tree reads users x)
part_then blocks reads users x p part is agrees = record {
  has_table = has_table_changes (actor_of x.table x.own) (read_changes reads x.own.cert.changes) (tree_before reads users x) (has_table_before reads users x);
  stands = λ i place.
      ap (λ (q : ℕ). tree reads users x q i) is.principal
      ∙ part_stands blocks reads users x scopes.All p i part is agrees refl (sym (ap (λ (q : ℕ). is_table q i) is.principal) ∙ place);
}

any_or_false : (t : Bool) → (t || false) ≡ t
any_or_false true = refl
any_or_false false = refl

or_assoc : (a b c : Bool) → (a || (b || c)) ≡ ((a || b) || c)
or_assoc true b c = refl
or_assoc false b c = refl

pub any_last : {X : Type 0} (f : X → Bool) (xs : List X) (y : X) → list_any f (xs ++ y ∷ []) ≡ (list_any f xs || f y)
any_last f [] y = any_or_false (f y)
any_last f (x ∷ xs) y = ap (λ (t : Bool). f x || t) (any_last f xs y) ∙ or_assoc (f x) (list_any f xs) (f y)

-- ---- the operations of others, in turn

pub take_next : {X : Type 0} (xs : List X) (k : ℕ) (x : X) → k < length xs → x ≡ slice_index_or xs k x → take (k + 1) xs ≡ take k xs ++ x ∷ []
take_next {X = X} xs k x inside at = rw add-one (take-suc xs k x inside ∙ ap (λ (y : X). take k xs ++ y ∷ []) (sym at))

pub filter_next : {X : Type 0} (f : X → Bool) (xs : List X) (k : ℕ) (x : X) (t : Bool) → k < length xs → x ≡ slice_index_or xs k x → f x ≡ t → filter f (take (k + 1) xs) ≡ (if t then filter f (take k xs) ++ x ∷ [] else filter f (take k xs))
filter_next f xs k x true inside at is = ap (filter f) (take_next xs k x inside at) ∙ filter-append f (take k xs) (x ∷ []) ∙ rw is refl
filter_next f xs k x false inside at is = ap (filter f) (take_next xs k x inside at) ∙ filter-append f (take k xs) (x ∷ []) ∙ rw is (append-nil (filter f (take k xs)))

split_at : {X : Type 0} (xs : List X) (k : ℕ) (x : X) → k < length xs → x ≡ slice_index_or xs k x → xs ≡ take k xs ++ x ∷ drop (k + 1) xs
split_at {X = X} xs k x inside at = sym (take-append-drop k xs) ∙ ap (λ (rest : List X). take k xs ++ rest) (rw add-one (drop-cons xs k x inside ∙ ap (λ (y : X). y ∷ drop (suc k) xs) (sym at)))

pub in_turn : {X : Type 0} (f : X → Bool) (xs : List X) (k : ℕ) (x own : X) → k < length xs → x ≡ slice_index_or xs k x → f x ≡ true → filter f xs ++ own ∷ [] ≡ filter f (take k xs) ++ x ∷ (filter f (drop (k + 1) xs) ++ own ∷ [])
in_turn {X = X} f xs k x own inside at is =
    let parts : filter f xs ≡ filter f (take k xs) ++ x ∷ filter f (drop (k + 1) xs) = ap (filter f) (split_at xs k x inside at) ∙ filter-append f (take k xs) (x ∷ drop (k + 1) xs) ∙ rw is refl in
    ap (λ (ys : List X). ys ++ own ∷ []) parts ∙ append_assoc (filter f (take k xs)) (x ∷ filter f (drop (k + 1) xs)) (own ∷ [])

-- ---- what is asked for

pub wider : (blocks : Blocks) (P Q : Digest → Spot → Type 0) (e : ApplyError) → ((digest : Digest) (s : Spot) → P digest s → Q digest s) → Lacks blocks P e → Lacks blocks Q e
wider blocks P Q (error.Missing digest s) to (is, lacks) = (to digest s is, lacks)
wider blocks P Q error.Memory to lacks = tt

pub of_root : (blocks : Blocks) (x : View) (scope : Scope) (p : Principal) (e : ApplyError) → Lacks blocks (IsRoot p (handle_of x p)) e → Lacks blocks (IsOpening blocks x scope p) e
of_root blocks x scope p e lacks = wider blocks (IsRoot p (handle_of x p)) (IsOpening blocks x scope p) e (λ digest s asked. inl asked) lacks

pub of_item : (blocks : Blocks) (x : View) (scope : Scope) (p : Principal) (part : Part) (earlier later : List PendingItem) (item : PendingItem) (e : ApplyError) → items_on x p ≡ earlier ++ item ∷ later
    → IsPartAfter blocks scope x.table earlier p (handle_of x p) part → Lacks blocks (IsAskedFor blocks scope (actor_of x.table item) item.cert.changes part) e → Lacks blocks (IsOpening blocks x scope p) e
of_item blocks x scope p part earlier later item e turn after lacks =
    wider blocks (IsAskedFor blocks scope (actor_of x.table item) item.cert.changes part) (IsOpening blocks x scope p) e
    (λ digest s asked. inr (record { earlier = earlier; item = item; later = later; in_turn = turn; part = part; after = after; asked = asked })) lacks

pub lacks_item : {T : Type 0} (blocks : Blocks) (x : View) (scope : Scope) (p : Principal) (part : Part) (earlier later : List PendingItem) (item : PendingItem) (r : Result T ApplyError) → items_on x p ≡ earlier ++ item ∷ later
    → IsPartAfter blocks scope x.table earlier p (handle_of x p) part → IfErr r (Lacks blocks (IsAskedFor blocks scope (actor_of x.table item) item.cert.changes part)) → IfErr r (Lacks blocks (IsOpening blocks x scope p))
lacks_item blocks x scope p part earlier later item (Ok made) turn after lacks = tt
lacks_item blocks x scope p part earlier later item (Err e) turn after lacks = of_item blocks x scope p part earlier later item e turn after lacks

-- the chunk of an i-number
pub of_chunk : (blocks : Blocks) (x : View) (scope : Scope) (p : Principal) (i : INumber) (items : List PendingItem) (part : Part) (e : ApplyError) → IsPartAfter blocks scope x.table items p (handle_of x p) part → Lacks blocks (IsChunkFor blocks part.table.principal (handle part) i) e
    → Lacks blocks (IsChunkFor blocks p (handle_of x p) i) e
of_chunk blocks x scope p i items part e after lacks =
    subst (λ (h : Handle). Lacks blocks (IsChunkFor blocks p h i) e) after.stands_on (subst (λ (q : Principal). Lacks blocks (IsChunkFor blocks q (handle part) i) e) after.principal lacks)

pub chunk_at : (blocks : Blocks) (x : View) (p : Principal) (i : INumber) (e : ApplyError) → Lacks blocks (IsChunkFor blocks p (handle_of x p) i) e → Lacks blocks (IsOpeningAt blocks x p i) e
chunk_at blocks x p i e lacks = wider blocks (IsChunkFor blocks p (handle_of x p) i) (IsOpeningAt blocks x p i) e (λ digest s asked. inr asked) lacks

pub handed_on : {X : Type 0} (r : Result X ApplyError) (v : ApplyError) (P : ApplyError → Type 0) → IsErrAnd r (λ e. e ≡ v) → P v → IfErr r P
handed_on (Ok x) v P is holds = tt
handed_on (Err e) v P is holds = subst P (sym is) holds

-- ---- nothing of it is missing

-- what one part asks for, another asks for that has the same slots
same_asked : (blocks : Blocks) (scope : Scope) (actor : Actor) (changes : List (Change Digest)) (other part : Part) (digest : Digest) (s : Spot) → other.table.principal ≡ part.table.principal → handle other ≡ handle part
    → ((reads : Reading) → Agrees blocks reads → (i : ℕ) → covers scope i ≡ true → slot_at reads other i ≡ slot_at reads part i) → IsAskedFor blocks scope actor changes other digest s → IsAskedFor blocks scope actor changes part digest s
same_asked blocks scope actor changes other part digest s same stands slots (inl (k, c, here, (of, covered), asks, chunk)) =
    inl (
      k,
      c,
      here,
      (of ∙ same, covered),
      asks,
      subst (λ (h : Handle). IsChunkFor blocks part.table.principal h c.i_number digest s) stands (subst (λ (q : Principal). IsChunkFor blocks q (handle other) c.i_number digest s) same chunk),
    )
same_asked blocks scope actor changes other part digest s same stands slots (inr (k, c, inode, (of, covered), (here, meets), asks, wants)) =
    inr (
      k,
      c,
      inode,
      (of ∙ same, covered),
      (
        here,
        λ reads agrees.
            ap (λ (q : ℕ). slot_after reads actor q c.i_number (take k changes) (slot_at reads part c.i_number)) (sym same)
            ∙ ap (slot_after reads actor other.table.principal c.i_number (take k changes)) (sym (slots reads agrees c.i_number covered))
            ∙ meets reads agrees,
      ),
      asks,
      wants,
    )

no_end : {X : Type 0} (xs : List X) (y : X) (ys : List X) → [] ≡ xs ++ y ∷ ys → ⊥
no_end [] y ys is = absurd cc
no_end (x ∷ xs) y ys is = absurd cc

more_left : {X : Type 0} (e x y : X) (es xs ys : List X) → ((xs ≡ es) × (x ≡ y)) ⊎ ((left : List X) × (xs ≡ es ++ y ∷ left)) → (((e ∷ xs) ≡ (e ∷ es)) × (x ≡ y)) ⊎ ((left : List X) × ((e ∷ xs) ≡ (e ∷ es) ++ y ∷ left))
more_left {X = X} e x y es xs ys (inl (is, same)) = inl (ap (λ (zs : List X). e ∷ zs) is, same)
more_left {X = X} e x y es xs ys (inr (left, is)) = inr (left, ap (λ (zs : List X). e ∷ zs) is)

-- one of a list with one more is the last, or one of the others
last_split : {X : Type 0} (xs : List X) (x : X) (es : List X) (y : X) (ys : List X) → xs ++ x ∷ [] ≡ es ++ y ∷ ys → ((xs ≡ es) × (x ≡ y)) ⊎ ((left : List X) × (xs ≡ es ++ y ∷ left))
last_split [] x [] y ys is = inl (refl, let whole : x ∷ [] ≡ y ∷ ys = is in cc)
last_split [] x (e ∷ es) y ys is = absurd (no_end es y ys (let whole : x ∷ [] ≡ e ∷ (es ++ y ∷ ys) = is in cc))
last_split {X = X} (z ∷ zs) x [] y ys is = let whole : z ∷ (zs ++ x ∷ []) ≡ y ∷ ys = is in let first : z ≡ y = cc in inr (zs, ap (λ (w : X). w ∷ zs) first)
last_split {X = X} (z ∷ zs) x (e ∷ es) y ys is =
    let whole : z ∷ (zs ++ x ∷ []) ≡ e ∷ (es ++ y ∷ ys) = is in
    let first : e ≡ z = cc in
    let rest : zs ++ x ∷ [] ≡ es ++ y ∷ ys = cc in
    subst (λ (w : X). (((w ∷ zs) ≡ (e ∷ es)) × (x ≡ y)) ⊎ ((left : List X) × ((w ∷ zs) ≡ (e ∷ es) ++ y ∷ left))) first (more_left e x y es zs ys (last_split zs x es y ys rest))

pub none_asked : (blocks : Blocks) (scope : Scope) (t : Table) (p : Principal) (h : Handle) → HasAskedByItems blocks scope t [] p h
none_asked blocks scope t p h = λ earlier item later part digest s split after asked. absurd (no_end earlier item later split)

-- with one operation more
pub asked_next : (blocks : Blocks) (scope : Scope) (t : Table) (items : List PendingItem) (item : PendingItem) (p : Principal) (h : Handle) (part : Part) → IsPartAfter blocks scope t items p h part → HasAskedFor blocks scope (actor_of t item) item.cert.changes part
    → HasAskedByItems blocks scope t items p h → HasAskedByItems blocks scope t (items ++ item ∷ []) p h
asked_next blocks scope t items item p h part after has so_far = λ earlier y later other digest s split is asked.
    elim (last_split items item earlier y later split) [
      | inl last ↦ (
          let made : IsPartAfter blocks scope t items p h other = subst (λ (xs : List PendingItem). IsPartAfter blocks scope t xs p h other) (sym last.0) is in
          let own : IsAskedFor blocks scope (actor_of t item) item.cert.changes other digest s = subst (λ (z : PendingItem). IsAskedFor blocks scope (actor_of t z) z.cert.changes other digest s) (sym last.1) asked in
          has digest s
          (same_asked blocks scope (actor_of t item) item.cert.changes other part digest s (made.principal ∙ sym after.principal) (made.stands_on ∙ sym after.stands_on) (λ reads agrees i covered. made.slots reads agrees i covered ∙ sym (after.slots reads agrees i covered)) own))
      | inr one ↦ so_far earlier y one.0 other digest s one.1 is asked
    ]

-- nothing that opens it is missing
each_taken : (blocks : Blocks) (x : View) (scope : Scope) (p : Principal) (part : Part) (digest : Digest) (s : Spot) → part.table.principal ≡ p → handle part ≡ handle_of x p → IsReadFrom blocks part → HasAskedByItems blocks scope x.table (items_on x p) p (handle_of x p)
    → IsOpening blocks x scope p digest s → lacks blocks digest s ≡ false
each_taken blocks x scope p part digest s same stands read has (inl (named, there)) =
    rw (named, there) (ap (λ (q : Principal). lacks blocks (handle_of x p) (spot.Root q)) (sym same) ∙ ap (λ (h : Handle). lacks blocks h (spot.Root part.table.principal)) (sym stands) ∙ read.takes_root)
each_taken blocks x scope p part digest s same stands read has (inr is) = has is.earlier is.item is.later is.part digest s is.in_turn is.after is.asked

pub opening_taken : (blocks : Blocks) (x : View) (scope : Scope) (p : Principal) (part : Part) → part.table.principal ≡ p → handle part ≡ handle_of x p → IsReadFrom blocks part → HasAskedByItems blocks scope x.table (items_on x p) p (handle_of x p)
    → HasOpening blocks x scope p
opening_taken blocks x scope p part same stands read has = λ digest s asked. each_taken blocks x scope p part digest s same stands read has asked

-- nor by which it is opened after the own operation
pub all_opening : {T : Type 0} (blocks : Blocks) (x : View) (scope : Scope) (p : Principal) (before : Part) (r : Result T ApplyError) → IsPartAfter blocks scope x.table (filter (comes_after x p) x.others) p (handle_of x p) before → IsReadFrom blocks before
    → OnOk r (HasAskedFor blocks scope (actor_of x.table x.own) x.own.cert.changes before) → HasAskedByItems blocks scope x.table (filter (comes_after x p) x.others) p (handle_of x p) → OnOk r (HasOpening blocks x scope p)
all_opening blocks x scope p before (Ok made) after read own others =
    opening_taken blocks x scope p before after.principal after.stands_on read (asked_next blocks scope x.table (filter (comes_after x p) x.others) x.own p (handle_of x p) before after own others)
all_opening blocks x scope p before (Err e) after read own others = tt

-- ---- one chunk more

-- the part stays where a chunk is loaded
pub after_loaded : (blocks : Blocks) (scope : Scope) (t : Table) (items : List PendingItem) (p : Principal) (h : Handle) (old new : Part) → new.table.principal ≡ old.table.principal → handle new ≡ handle old
    → ((reads : Reading) → Agrees blocks reads → (i : ℕ) → slot_at reads new i ≡ slot_at reads old i) → IsPartAfter blocks scope t items p h old → IsPartAfter blocks scope t items p h new
after_loaded blocks scope t items p h old new same stands slots is = record {
  principal = same ∙ is.principal;
  stands_on = stands ∙ is.stands_on;
  slots = λ reads agrees i covered. slots reads agrees i ∙ is.slots reads agrees i covered;
}

pub whole_part : (blocks : Blocks) (x : View) (p : Principal) (part : Part) → IsPartAfter blocks scopes.All x.table (items_on x p) p (handle_of x p) part → IsReadFrom blocks part → HasOpening blocks x scopes.All p → IsOpened blocks x p part
whole_part blocks x p part after read taken = record {
  after = after;
  stands = λ reads agrees users. part_then blocks reads users x p part after agrees;
  read = read;
  taken = taken;
}

pub all_whole : {T E : Type 0} (part_in : T → Part) (blocks : Blocks) (x : View) (p : Principal) (r : Result T E) → IfOk r (λ made. IsPartAfter blocks scopes.All x.table (items_on x p) p (handle_of x p) (part_in made)) → IfOk r (λ made. IsReadFrom blocks (part_in made)) → OnOk r (HasOpening blocks x scopes.All p)
    → IfOk r (λ made. IsOpened blocks x p (part_in made))
all_whole part_in blocks x p (Ok made) after read taken = whole_part blocks x p (part_in made) after read taken
all_whole part_in blocks x p (Err e) after read taken = tt

pub opened_loaded : (blocks : Blocks) (x : View) (p : Principal) (old new : Part) → new.table.principal ≡ old.table.principal → handle new ≡ handle old → IsReadFrom blocks new → ((reads : Reading) → Agrees blocks reads → (i : ℕ) → slot_at reads new i ≡ slot_at reads old i)
    → IsOpened blocks x p old → IsOpened blocks x p new
opened_loaded blocks x p old new same stands read slots is = whole_part blocks x p new (after_loaded blocks scopes.All x.table (items_on x p) p (handle_of x p) old new same stands slots is.after) read is.taken

pub chunk_taken : (blocks : Blocks) (x : View) (scope : Scope) (p : Principal) (i : INumber) (items : List PendingItem) (part : Part) → IsPartAfter blocks scope x.table items p (handle_of x p) part → HasChunkFor blocks part.table.principal (handle part) i → HasChunkFor blocks p (handle_of x p) i
chunk_taken blocks x scope p i items part is has =
    subst (λ (h : Handle). HasChunkFor blocks p h i) is.stands_on (subst (λ (q : Principal). HasChunkFor blocks q (handle part) i) is.principal has)

each_at : (blocks : Blocks) (x : View) (p : Principal) (i : INumber) (digest : Digest) (s : Spot) → HasOpening blocks x (scopes.At i) p → HasChunkFor blocks p (handle_of x p) i → IsOpeningAt blocks x p i digest s → lacks blocks digest s ≡ false
each_at blocks x p i digest s opening chunk (inl asked) = opening digest s asked
each_at blocks x p i digest s opening chunk (inr asked) = chunk digest s asked

pub at_taken : (blocks : Blocks) (x : View) (p : Principal) (i : INumber) → HasOpening blocks x (scopes.At i) p → HasChunkFor blocks p (handle_of x p) i → HasOpeningAt blocks x p i
at_taken blocks x p i opening chunk = λ digest s asked. each_at blocks x p i digest s opening chunk asked

-- and is then opened at that i-number
pub opened_at : (blocks : Blocks) (x : View) (p i : ℕ) (part : Part) → IsPartAfter blocks (scopes.At i) x.table (items_on x p) p (handle_of x p) part → IsReadFrom blocks part → HasOpening blocks x (scopes.At i) p → HasChunkFor blocks p (handle_of x p) i → IsOpenedAt blocks x p i part
opened_at blocks x p i part after read opening chunk = record {
  after = after;
  stands = λ reads agrees users place. part_stands blocks reads users x (scopes.At i) p i part after agrees (eq-eqb i i refl) place;
  read = read;
  taken = at_taken blocks x p i opening chunk;
}

-- ---- what is asked for to store a part

pub needed_opening : (blocks : Blocks) (x : View) (p : Principal) (e : ApplyError) → is_touched x scopes.All p ≡ true → Lacks blocks (IsOpening blocks x scopes.All p) e → Lacks blocks (IsNeeded blocks x p) e
needed_opening blocks x p e touched lacks = wider blocks (IsOpening blocks x scopes.All p) (IsNeeded blocks x p) e (λ digest s asked. (touched, inl asked)) lacks

pub needed_at : (blocks : Blocks) (x : View) (p i : ℕ) (e : ApplyError) → is_touched x scopes.All p ≡ true → p ≡ 0 → i ≡ 1 → Lacks blocks (IsChunkFor blocks p (handle_of x p) i) e → Lacks blocks (IsNeeded blocks x p) e
needed_at blocks x p i e touched first place lacks =
    wider blocks (IsChunkFor blocks p (handle_of x p) 1) (IsNeeded blocks x p) e (λ digest s asked. (touched, inr (first, asked))) (subst (λ (n : ℕ). Lacks blocks (IsChunkFor blocks p (handle_of x p) n) e) place lacks)

-- ---- whether an operation has a change of the part

any_step : {X : Type 0} (f g : X → Bool) (x : X) (xs : List X) (t : Bool) → g x ≡ t → list_any f (filter g xs) ≡ list_any (λ y. f y && g y) xs → list_any f (if t then x ∷ filter g xs else filter g xs) ≡ ((f x && t) || list_any (λ y. f y && g y) xs)
any_step f g x xs true is later = ap (λ (t : Bool). f x || t) later ∙ ap (λ (t : Bool). t || list_any (λ y. f y && g y) xs) (sym (and-true (f x)))
any_step f g x xs false is later = later ∙ ap (λ (t : Bool). t || list_any (λ y. f y && g y) xs) (sym (and-false (f x)))

any_filter : {X : Type 0} (f g : X → Bool) (xs : List X) → list_any f (filter g xs) ≡ list_any (λ y. f y && g y) xs
any_filter f g [] = refl
any_filter f g (x ∷ xs) = any_step f g x xs (g x) refl (any_filter f g xs)

-- one of the others that come after, or the own one
pub touched_by : (x : View) (scope : Scope) (p : Principal) → is_touched x scope p ≡ (list_any (changes_part x scope p) x.others || has_change scope p x.own)
touched_by x scope p = any_last (has_change scope p) (filter (comes_after x p) x.others) x.own ∙ ap (λ (t : Bool). t || has_change scope p x.own) (any_filter (has_change scope p) (comes_after x p) x.others)

left_false : (a b : Bool) → (a || b) ≡ false → a ≡ false
left_false true b is = is
left_false false b is = refl

right_false : (a b : Bool) → (a || b) ≡ false → b ≡ false
right_false true b is = absurd cc
right_false false b is = is

pub own_leaves : (x : View) (p : Principal) → is_touched x scopes.All p ≡ false → has_change scopes.All p x.own ≡ false
own_leaves x p is = right_false (list_any (has_change scopes.All p) (filter (comes_after x p) x.others)) (has_change scopes.All p x.own) (sym (any_last (has_change scopes.All p) (filter (comes_after x p) x.others) x.own) ∙ is)

void_of_none : (reads : Reading) (n : ℕ) (actor : Actor) (p : Principal) (cs : List (Change Digest)) (first : Tree) → list_any (λ c. c.principal == p) cs ≡ false → void_from n actor (is_of p) (read_changes reads cs) first ≡ []
unfolding void_from
void_of_none reads n actor p [] first none = refl
void_of_none reads n actor p (c ∷ cs) first none =
    let other : (c.principal == p) ≡ false = left_false (c.principal == p) (list_any (λ d. d.principal == p) cs) none in
    let rest : list_any (λ d. d.principal == p) cs ≡ false = right_false (c.principal == p) (list_any (λ d. d.principal == p) cs) none in
    rw other (void_of_none reads (n + 1) actor p cs (after_change actor (read_change reads c) first) rest)

-- none of its changes lacks effect
pub none_void : (reads : Reading) (actor : Actor) (p : Principal) (cs : List (Change Digest)) (first : Tree) → list_any (λ c. c.principal == p) cs ≡ false → [] ≡ void_of_read reads actor p cs first
none_void reads actor p cs first none = sym (void_of_none reads 1 actor p cs first none)

-- ---- where no operation has a change at an i-number

swapped : (q p i k : ℕ) → ((i == k) && (q == p)) ≡ false → ((q == p) && (k == i)) ≡ false
swapped q p i k none = grind (arith, nat_tests)

no_slot_changes : (reads : Reading) (actor : Actor) (p i : ℕ) (cs : List (Change Digest)) (s : Option Slot) → list_any (λ c. (i == c.i_number) && (c.principal == p)) cs ≡ false → slot_after reads actor p i cs s ≡ s
unfolding slot_after
no_slot_changes reads actor p i [] s none = refl
no_slot_changes reads actor p i (c ∷ cs) s none =
    let other : ((c.principal == p) && (c.i_number == i)) ≡ false = swapped c.principal p i c.i_number (left_false ((i == c.i_number) && (c.principal == p)) (list_any (λ d. (i == d.i_number) && (d.principal == p)) cs) none) in
    let rest = right_false ((i == c.i_number) && (c.principal == p)) (list_any (λ d. (i == d.i_number) && (d.principal == p)) cs) none in
    rw other (no_slot_changes reads actor p i cs s rest)

no_item_changes : (reads : Reading) (t : Table) (p i : ℕ) (items : List PendingItem) (s : Option Slot) → list_any (has_change (scopes.At i) p) items ≡ false → slot_after_items reads t p i items s ≡ s
unfolding slot_after_items
no_item_changes reads t p i [] s none = refl
no_item_changes reads t p i (x ∷ xs) s none =
    ap (slot_after_items reads t p i xs) (no_slot_changes reads (actor_of t x) p i x.cert.changes s (left_false (has_change (scopes.At i) p x) (list_any (has_change (scopes.At i) p) xs) none))
    ∙ no_item_changes reads t p i xs s (right_false (has_change (scopes.At i) p x) (list_any (has_change (scopes.At i) p) xs) none)

-- the part before any operation is the one after them
pub untouched_after : (blocks : Blocks) (x : View) (p i : ℕ) (part : Part) → is_touched x (scopes.At i) p ≡ false → IsPartAfter blocks (scopes.At i) x.table [] p (handle_of x p) part → IsPartAfter blocks (scopes.At i) x.table (items_on x p) p (handle_of x p) part
unfolding slot_after_items
untouched_after blocks x p i part none is = record {
  principal = is.principal;
  stands_on = is.stands_on;
  slots = λ reads agrees j covered.
      let same : i ≡ j = eqb-true i j covered in
      is.slots reads agrees j covered
      ∙ subst (λ (k : ℕ). option_map Laid (reads.inode p (handle_of x p) k) ≡ slot_after_items reads x.table p k (items_on x p) (option_map Laid (reads.inode p (handle_of x p) k))) same
      (sym (no_item_changes reads x.table p i (items_on x p) (option_map Laid (reads.inode p (handle_of x p) i)) none));
}

none_of : {X : Type 0} (f : X → Bool) (earlier : List X) (y : X) (later : List X) → list_any f (earlier ++ y ∷ later) ≡ false → f y ≡ false
none_of f [] y later none = left_false (f y) (list_any f later) none
none_of f (x ∷ xs) y later none = none_of f xs y later (right_false (f x) (list_any f (xs ++ y ∷ later)) none)

none_at : {X : Type 0} (f : X → Bool) (xs : List X) (k : ℕ) (y : X) → list_any f xs ≡ false → slice_get xs k ≡ Some y → f y ≡ false
none_at f [] k y none there = absurd cc
none_at f (x ∷ xs) zero y none there = let is : x ≡ y = let both : Some x ≡ Some y = there in cc in ap f (sym is) ∙ left_false (f x) (list_any f xs) none
none_at f (x ∷ xs) (suc k) y none there = none_at f xs k y (right_false (f x) (list_any f xs) none) there

not_made : (scope : Scope) (p : Principal) (cs : List (Change Digest)) (k : ℕ) (c : Change Digest) → list_any (λ d. covers scope d.i_number && (d.principal == p)) cs ≡ false → slice_get cs k ≡ Some c → IsMadeIn scope p c → ⊥
not_made scope p cs k c none there (of, covered) =
    let not_so = none_at (λ d. covers scope d.i_number && (d.principal == p)) cs k c none there in
    let so : (covers scope c.i_number && (c.principal == p)) ≡ true = rw (covered, eq-eqb c.principal p of) refl in
    let clash : false ≡ true = sym not_so ∙ so in
    absurd cc

none_asked_for : (blocks : Blocks) (scope : Scope) (actor : Actor) (cs : List (Change Digest)) (part : Part) (digest : Digest) (s : Spot) → list_any (λ d. covers scope d.i_number && (d.principal == part.table.principal)) cs ≡ false → IsAskedFor blocks scope actor cs part digest s → ⊥
none_asked_for blocks scope actor cs part digest s none (inl (k, c, here, made, asks, chunk)) = not_made scope part.table.principal cs k c none here made
none_asked_for blocks scope actor cs part digest s none (inr (k, c, inode, made, met, asks, wants)) = not_made scope part.table.principal cs k c none met.0 made

-- and they ask for nothing
pub untouched_asks : (blocks : Blocks) (x : View) (scope : Scope) (p : Principal) → is_touched x scope p ≡ false → HasAskedByItems blocks scope x.table (items_on x p) p (handle_of x p)
untouched_asks blocks x scope p none = λ earlier item later part digest s split is asked.
    let of_item : has_change scope p item ≡ false = none_of (has_change scope p) earlier item later (ap (list_any (has_change scope p)) (sym split) ∙ none) in
    let here : list_any (λ d. covers scope d.i_number && (d.principal == part.table.principal)) item.cert.changes ≡ false = ap (λ (q : ℕ). list_any (λ d. covers scope d.i_number && (d.principal == q)) item.cert.changes) is.principal ∙ of_item in
    absurd (none_asked_for blocks scope (actor_of x.table item) item.cert.changes part digest s here asked)

-- so the part before any operation, with the chunk of the i-number, is opened there
pub untouched_opened : (blocks : Blocks) (x : View) (p i : ℕ) (part : Part) → is_touched x (scopes.At i) p ≡ false → IsPartAfter blocks (scopes.At i) x.table [] p (handle_of x p) part → IsReadFrom blocks part → HasChunkFor blocks p (handle_of x p) i → IsOpenedAt blocks x p i part
untouched_opened blocks x p i part none is read chunk =
    let after = untouched_after blocks x p i part none is in
    opened_at blocks x p i part after read (opening_taken blocks x (scopes.At i) p part after.principal after.stands_on read (untouched_asks blocks x (scopes.At i) p none)) chunk

-- ---- the table of principals

-- user 0's operations come after the handle of its part
pub superusers : (x : View) (items : List PendingItem) → filter (comes_after x 0) items ≡ filter is_superusers items
unfolding comes_after
superusers x items = refl
