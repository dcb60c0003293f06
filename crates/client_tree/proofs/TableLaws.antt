-- The chunks that a root lists, one after the other.
use Rattle.std.proofs.Common.{◌≡◌, ℕ, zero, suc, ◌+◌, ◌<◌, Bool, true, false, List, [], ◌∷◌, ◌++◌, length, take, drop, get_or, Option, Some, None, refl, sym, ap, subst, ◌∙◌, arith, add-one, drop-cons}
use Rattle.std.specs.Prelude.{◌==◌, IsSomeAnd, slice_index_or, if◌then◌else◌}
use Rattle.std.proofs.Math.Seq.{take-suc}
use Rattle.std.specs.List.{All}
use Rattle.std.specs.Option.{option_map}
use Rattle.std.specs.Ordering.{nat_cmp, is_lt, is_eq}
use Rattle.std.proofs.lemmas.Bool.{eqb-true, eq-eqb}
use Rattle.std.proofs.lemmas.Bool.Decides.{nat_tests}
use Rattle.std.proofs.lemmas.Cmp.{nat_cmp_total}
use Rattle.std.proofs.lemmas.List.Elements.{All-append, All-cons, All-head, All-nil, All-tail, All-weaker}
use Rattle.layout.specs.Format.{uint_in, raw}
use Rattle.layout.specs.Hash.{hash}
use Rattle.layout.specs.Ascending.{Ascends, row_at, without_row}
use Rattle.layout.specs.AscendingLaws.{Ordered, ascends_from_fits, HasOther, row_in_first, row_in_last}
use Rattle.std.specs.Int.{w8}
use Rattle.itable.specs.declared.root.ListedChunk.{ListedChunk}
use Rattle.itable.specs.Chunk.{Chunk, chunk_number}
use Rattle.itable.specs.Root.{Root, root, chunk_row, number_of, chunk_at}
use Rattle.itable.specs.ITable.{ITable, digest_at, digest_in, listings, handle_of}
use Rattle.tree_parts.specs.Blocks.{Blocks, chunk_held, inode_told, root_at, told_by}
use Rattle.tree_parts.specs.Spot.{lacks}
use Rattle.tree_parts.specs.declared.error.ApplyError.{ApplyError}
use Rattle.tree_parts.specs.declared.error.ApplyError.TheVariants as error
use Rattle.tree_parts.specs.declared.spot.Spot.{Spot}
use Rattle.tree_parts.specs.declared.spot.Spot.TheVariants as spot
use Rattle.tree_parts.specs.Asked.{IsListed as IsListedAt, IsRoot, Lacks}
use Rattle.client_tree.specs.Tables.{IsOfTable}

-- ---- the first chunks, and one more

itself : (a : ℕ) → is_eq (nat_cmp a a) ≡ true
itself a = grind (arith, nat_tests)

pub take_next : (cs : List ListedChunk) (k : ℕ) (c : ListedChunk) → k < length cs → c ≡ slice_index_or cs k c → take (k + 1) cs ≡ take k cs ++ c ∷ []
take_next cs k c inside at = rw add-one (take-suc cs k c inside ∙ ap (λ (x : ListedChunk). take k cs ++ x ∷ []) (sym at))

-- those that are left, with the next one in front
pub left_of : (cs : List ListedChunk) (k : ℕ) (c : ListedChunk) → k < length cs → c ≡ slice_index_or cs k c → drop k cs ≡ c ∷ drop (k + 1) cs
left_of cs k c inside at = rw add-one (drop-cons cs k c inside ∙ ap (λ (x : ListedChunk). x ∷ drop (suc k) cs) (sym at))

pub first_row : (c : ListedChunk) (cs : List ListedChunk) → row_at nat_cmp number_of (c ∷ cs) c.number ≡ Some c
first_row c cs = rw (itself c.number) refl

pub without_first : (c : ListedChunk) (cs : List ListedChunk) → without_row nat_cmp number_of (c ∷ cs) c.number ≡ cs
without_first c cs = rw (itself c.number) refl

-- ---- each chunk is taken

abbrev pub IsTaken : Blocks → ℕ → ListedChunk → Type 0
IsTaken blocks p c = lacks blocks c.digest (spot.Chunk p c.number) ≡ false

pub taken_next : (blocks : Blocks) (p : ℕ) (cs : List ListedChunk) (k : ℕ) (c : ListedChunk) → k < length cs → c ≡ slice_index_or cs k c → IsTaken blocks p c → All (IsTaken blocks p) (take k cs) → All (IsTaken blocks p) (take (k + 1) cs)
taken_next blocks p cs k c inside at is all = subst (All (IsTaken blocks p)) (sym (take_next cs k c inside at)) (All-append (IsTaken blocks p) (take k cs) (c ∷ []) all (All-cons (IsTaken blocks p) c [] is (All-nil (IsTaken blocks p))))

taken_step : (blocks : Blocks) (p n : ℕ) (c : ListedChunk) (rest : Option ListedChunk) (digest : List ℕ) (t : Bool) → is_eq (nat_cmp c.number n) ≡ t → IsTaken blocks p c → (option_map (λ x. x.digest) rest ≡ Some digest → lacks blocks digest (spot.Chunk p n) ≡ false)
    → option_map (λ x. x.digest) (if t then Some c else rest) ≡ Some digest → lacks blocks digest (spot.Chunk p n) ≡ false
taken_step blocks p n c rest digest true here is later found =
    let same : c.digest ≡ digest = cc in
    let key : c.number ≡ n = grind (arith, nat_tests) in
    subst (λ (m : ℕ). lacks blocks digest (spot.Chunk p m) ≡ false) key (subst (λ (d : List ℕ). lacks blocks d (spot.Chunk p c.number) ≡ false) same is)
taken_step blocks p n c rest digest false here is later found = later found

taken_at : (blocks : Blocks) (p n : ℕ) (cs : List ListedChunk) (digest : List ℕ) → All (IsTaken blocks p) cs → option_map (λ x. x.digest) (row_at nat_cmp number_of cs n) ≡ Some digest → lacks blocks digest (spot.Chunk p n) ≡ false
taken_at blocks p n [] digest all found = absurd cc
taken_at blocks p n (c ∷ cs) digest all found =
    taken_step blocks p n c (row_at nat_cmp number_of cs n) digest (is_eq (nat_cmp c.number n)) refl (All-head (IsTaken blocks p) c cs all)
    (taken_at blocks p n cs digest (All-tail (IsTaken blocks p) c cs all)) found

-- nothing of the table is missing
pub nothing_lacks : (blocks : Blocks) (p : ℕ) (handle : List ℕ) (r : Root) → root_at blocks handle ≡ Some r → lacks blocks handle (spot.Root p) ≡ false → All (IsTaken blocks p) r.chunks
    → (digest : List ℕ) (s : Spot) → IsOfTable blocks p handle digest s → lacks blocks digest s ≡ false
nothing_lacks blocks p handle r held found chunks digest (spot.Root q) (of, is) = rw (of, is) found
nothing_lacks blocks p handle r held found chunks digest (spot.Chunk q n) (of, follows, listed) =
    let found : option_map (λ x. x.digest) (chunk_at r n) ≡ Some digest = subst (λ (o : Option Root). IsSomeAnd o (λ x. option_map (λ c. c.digest) (chunk_at x n) ≡ Some digest)) held listed in
    subst (λ (m : ℕ). lacks blocks digest (spot.Chunk m n) ≡ false) (sym of) (taken_at blocks p n r.chunks digest chunks found)
nothing_lacks blocks p handle r held found chunks digest (spot.Inode q i) is = absurd is
nothing_lacks blocks p handle r held found chunks digest (spot.File inode k) is = absurd is
nothing_lacks blocks p handle r held found chunks digest (spot.Directory inode k) is = absurd is
nothing_lacks blocks p handle r held found chunks digest (spot.Table inode k) is = absurd is

-- ---- the order of the chunks

abbrev IsListed : ListedChunk → Type 0
IsListed c = (uint_in w8 0 63).Fits c.number × (raw 32).Fits c.digest

ordered : Ordered nat_cmp number_of nat_cmp_total chunk_row IsListed
ordered = record { splits = λ b c fits. ((fits.0.0, fits.1), fits.0.1); joins = λ b c each up. ((each.0, up), each.1) }

ascend : (r : Root) → root.Fits r → Ascends nat_cmp number_of None r.chunks
ascend r fits = (ascends_from_fits nat_cmp number_of nat_cmp_total chunk_row IsListed ordered None r.chunks fits.1.1.1).1

lt_from_less : (a b : ℕ) → is_lt (nat_cmp a b) ≡ true → a < b
lt_from_less a b h = grind (arith, nat_tests)

rise_following : (c : ListedChunk) (cs : List ListedChunk) → Ascends nat_cmp number_of (Some c) cs → (j : ℕ) (d : ListedChunk) → j < length cs → c.number < (get_or cs j d).number
unfolding Ascends
rise_following c [] up j d lt = absurd (omega arith)
rise_following c (x ∷ xs) up zero d lt = lt_from_less c.number x.number up.0
rise_following c (x ∷ xs) up (suc j) d lt = omega (arith, lt_from_less c.number x.number up.0, rise_following x xs up.1 j d (omega arith))

below_in : (b : Option ListedChunk) (cs : List ListedChunk) → Ascends nat_cmp number_of b cs → (k : ℕ) (d : ListedChunk) → k < length cs → All (λ c. c.number < (get_or cs k d).number) (take k cs)
unfolding Ascends
below_in b [] up k d lt = absurd (omega arith)
below_in b (x ∷ xs) up zero d lt = All-nil (λ c. c.number < x.number)
below_in b (x ∷ xs) up (suc k) d lt =
    All-cons (λ c. c.number < (get_or xs k d).number) x (take k xs) (rise_following x xs up.1 k d (omega arith)) (below_in (Some x) xs up.1 k d (omega arith))

-- those before a chunk have lesser numbers
pub below : (r : Root) → root.Fits r → (k : ℕ) (d : ListedChunk) → k < length r.chunks → All (λ c. c.number < (get_or r.chunks k d).number) (take k r.chunks)
below r fits k d lt = below_in None r.chunks (ascend r fits) k d lt

other_key : (a b : ℕ) → a < b → is_eq (nat_cmp a b) ≡ false
other_key a b lt = grind (arith, nat_tests)

found_in : (b : Option ListedChunk) (cs : List ListedChunk) → Ascends nat_cmp number_of b cs → (k : ℕ) (d : ListedChunk) → k < length cs → row_at nat_cmp number_of cs (get_or cs k d).number ≡ Some (get_or cs k d)
unfolding Ascends
found_in b [] up k d lt = absurd (omega arith)
found_in b (x ∷ xs) up zero d lt = rw (itself x.number) refl
found_in b (x ∷ xs) up (suc k) d lt = rw (other_key x.number (get_or xs k d).number (rise_following x xs up.1 k d (omega arith))) (found_in (Some x) xs up.1 k d (omega arith))

-- a chunk of the list is the one that stands there
pub found : (r : Root) → root.Fits r → (k : ℕ) (d : ListedChunk) → k < length r.chunks → chunk_at r (get_or r.chunks k d).number ≡ Some (get_or r.chunks k d)
found r fits k d lt = found_in None r.chunks (ascend r fits) k d lt

-- ---- what the blocks tell at each i-number

apart_from : (a n m : ℕ) → a < m → (n == m) ≡ true → is_eq (nat_cmp a n) ≡ false
apart_from a n m lt here = other_key a n (omega (arith, lt, eqb-true n m here))

not_same : (n m : ℕ) → (n == m) ≡ false → is_eq (nat_cmp m n) ≡ false
not_same n m other = grind (arith, nat_tests)

told_step : (blocks : Blocks) (i n : ℕ) (cs : List ListedChunk) (c : ListedChunk) (x : Chunk) (old new : ITable) (here : Bool) → (n == c.number) ≡ here → All (λ b. b.number < c.number) cs → chunk_held blocks c.digest ≡ Some x
    → digest_at new i ≡ (if here then digest_in x.pairs i else digest_at old i) → told_by blocks i (row_at nat_cmp number_of cs n) ≡ Some (digest_at old i) → told_by blocks i (row_at nat_cmp number_of (cs ++ c ∷ []) n) ≡ Some (digest_at new i)
told_step blocks i n cs c x old new true here lesser held loaded so_far =
    let others = All-weaker (λ b. b.number < c.number) (HasOther nat_cmp number_of n) (λ b lt. apart_from b.number n c.number lt here) cs lesser in
    let is : row_at nat_cmp number_of (c ∷ []) n ≡ Some c = rw (ap is_eq (ap (nat_cmp c.number) (eqb-true n c.number here)) ∙ itself c.number) refl in
    ap (told_by blocks i) (row_in_last nat_cmp number_of cs (c ∷ []) n others ∙ is) ∙ rw held (ap (λ (d : Option (List ℕ)). Some d) (sym loaded))
told_step blocks i n cs c x old new false other lesser held loaded so_far =
    ap (told_by blocks i) (row_in_first nat_cmp number_of cs (c ∷ []) n (All-cons (HasOther nat_cmp number_of n) c [] (not_same n c.number other) (All-nil (HasOther nat_cmp number_of n))))
    ∙ so_far
    ∙ ap (λ (d : Option (List ℕ)). Some d) (sym loaded)

-- one chunk more
pub told_next : (blocks : Blocks) (i : ℕ) (cs : List ListedChunk) (k : ℕ) (c : ListedChunk) (x : Chunk) (old new : ITable) → k < length cs → c ≡ slice_index_or cs k c → All (λ b. b.number < c.number) (take k cs) → chunk_held blocks c.digest ≡ Some x
    → digest_at new i ≡ (if chunk_number i == c.number then digest_in x.pairs i else digest_at old i) → told_by blocks i (row_at nat_cmp number_of (take k cs) (chunk_number i)) ≡ Some (digest_at old i)
    → told_by blocks i (row_at nat_cmp number_of (take (k + 1) cs) (chunk_number i)) ≡ Some (digest_at new i)
told_next blocks i cs k c x old new inside at lesser held loaded so_far =
    ap (λ (xs : List ListedChunk). told_by blocks i (row_at nat_cmp number_of xs (chunk_number i))) (take_next cs k c inside at)
    ∙ told_step blocks i (chunk_number i) (take k cs) c x old new (chunk_number i == c.number) refl lesser held loaded so_far

-- all of them: what is told of the table with this handle
pub all_told : (blocks : Blocks) (p : ℕ) (handle : List ℕ) (r : Root) (t : ITable) (i : ℕ) → root_at blocks handle ≡ Some r → r.principal ≡ p → told_by blocks i (chunk_at r (chunk_number i)) ≡ Some (digest_at t i) → inode_told blocks p handle i ≡ Some (digest_at t i)
all_told blocks p handle r t i held of told = rw held (rw (eq-eqb r.principal p of) told)

-- ---- the handle

pub handle_is : (t : ITable) (r : Root) (handle : List ℕ) → t.principal ≡ r.principal → listings t ≡ r.chunks → hash (root.spell r) ≡ handle → handle_of t ≡ handle
handle_is t r handle of chunks hashed =
    ap (λ (p : ℕ). hash (root.spell (record { principal = p; chunks = listings t }))) of
    ∙ ap (λ (cs : List ListedChunk). hash (root.spell (record { principal = r.principal; chunks = cs }))) chunks
    ∙ hashed

-- ---- what is missing

pub lacks_root : (blocks : Blocks) (p : ℕ) (handle : List ℕ) (e : ApplyError) → Lacks blocks (IsRoot p handle) e → Lacks blocks (IsOfTable blocks p handle) e
lacks_root blocks p handle (error.Missing digest s) ((named, there), none) = (subst (IsOfTable blocks p handle digest) (sym there) (refl, named), none)
lacks_root blocks p handle error.Memory none = tt

pub lacks_chunk : (blocks : Blocks) (p : ℕ) (handle : List ℕ) (r : Root) (c : ListedChunk) (e : ApplyError) → root_at blocks handle ≡ Some r → lacks blocks handle (spot.Root p) ≡ false → chunk_at r c.number ≡ Some c → Lacks blocks (IsListedAt p c) e → Lacks blocks (IsOfTable blocks p handle) e
lacks_chunk blocks p handle r c (error.Missing digest s) held found at ((named, there), none) =
    let listed : option_map (λ x. x.digest) (chunk_at r c.number) ≡ Some digest = ap (option_map (λ (x : ListedChunk). x.digest)) at ∙ ap (λ (d : List ℕ). Some d) (sym named) in
    (subst (IsOfTable blocks p handle digest) (sym there) (refl, found, subst (λ (o : Option Root). IsSomeAnd o (λ x. option_map (λ y. y.digest) (chunk_at x c.number) ≡ Some digest)) (sym held) listed), none)
lacks_chunk blocks p handle r c error.Memory held found at none = tt
