-- What is known of blocks that go between the cache and the held ones.
use Rattle.std.proofs.Common.{◌≡◌, ◌-◌, ◌≤◌, ◌⊎◌, ℕ, length, Bool, true, false, cond, List, [], ◌∷◌, ◌++◌, take, Contains, Option, Some, None, is_some, Result, Ok, Err, OnOk, OnErr, refl, sym, ap, subst, ◌∙◌, inl, inr, append-nil, append_assoc}
use Rattle.std.specs.Option.{option_map, option_map_or, option_or}
use Rattle.std.specs.Str.{bytes_eq}
use Rattle.std.specs.List.{IsDistinct}
use Rattle.std.specs.Map.{keys_of, lookup_entry, remove_entry}
use Rattle.std.proofs.lemmas.Cmp.{nat_list_eq_equiv}
use Rattle.std.proofs.lemmas.Map.{lookup-none}
use Rattle.std.proofs.lemmas.Map.Entries.{none_past_head}
use Rattle.layout.specs.Hash.{hash}
use Rattle.layout.specs.Types.{Bytes, Digest}
use Rattle.tree_parts.specs.Blocks.{Blocks}
use Rattle.client_tree.specs.Held.{Block, held}
use Rattle.indexmap.specs.IndexMap.{insert_entry}
use Rattle.lru.specs.LruCache.{lru_cache}
use Rattle.lru.proofs.Splits.{Contains-head, Contains-tail}
use Rattle.lru.proofs.CallerLemmas.{Contains-lookup_entry, lookup-put_entries}
use Rattle.checked_blocks.specs.CheckedBlocks.{AreChecked, AreCopied, ArePut, CheckedBlocks, IsPut, Keeps, KnowsPart, LetsGo, TakesUp, Texts, checked_blocks, holding, known_blocks, knowing, text_at, with_capacity, with_digest, without_all}
use Rattle.checked_blocks.specs.Moves.{AreOfTexts, IsPart, Moved, with_last, within}
use Rattle.checked_blocks.proofs.BlockLaws.{are_part, everywhere, holding-known, holding-new, itself, known-holding, knows_part_cached, lift_step, same_digest, takes_none, text_at-last, text_at-take, without_more}

-- ---- look-ups

skip_step : (k d : Digest) (e : Digest × Bytes) (es : Texts) (t : Bool) → bytes_eq k e.0 ≡ t → bytes_eq d k ≡ false → text_at (remove_entry (bytes_eq k) es) d ≡ text_at es d
    → text_at (cond t es (e ∷ remove_entry (bytes_eq k) es)) d ≡ cond (bytes_eq d e.0) (Some e.1) (text_at es d)
skip_step k d e es true is other later = let apart : bytes_eq d e.0 ≡ false = ap (bytes_eq d) (sym (same_digest k e.0 is)) ∙ other in sym (rw apart refl)
skip_step k d e es false is other later = ap (cond (bytes_eq d e.0) (Some e.1)) later

-- the look-up of a digest among other entries
pub text_at-removed : (k d : Digest) (es : Texts) → bytes_eq d k ≡ false → text_at (remove_entry (bytes_eq k) es) d ≡ text_at es d
text_at-removed k d [] other = refl
text_at-removed k d (e ∷ es) other = skip_step k d e es (bytes_eq k e.0) refl other (text_at-removed k d es other)

text_at-entry : (k : Digest) (es : Texts) → text_at es k ≡ option_map (λ (e : Digest × Bytes). e.1) (lookup_entry (bytes_eq k) es)
text_at-entry k [] = refl
text_at-entry k (e ∷ es) = (elim (bytes_eq k e.0) as (λ y. cond y (Some e.1) (text_at es k) ≡ option_map (λ (f : Digest × Bytes). f.1) (cond y (Some e) (lookup_entry (bytes_eq k) es))) [
  | true ↦ refl
  | false ↦ text_at-entry k es
])

key_of : (k : Digest) (es : Texts) (e : Digest × Bytes) → lookup_entry (bytes_eq k) es ≡ Some e → e.0 ≡ k
key_of k es e found = sym (same_digest k e.0 (Contains-lookup_entry (bytes_eq k) es e found).1)

-- ---- moving

absent_step : (k : Digest) (e : Digest × Bytes) (es : Texts) (t : Bool) → (lookup_entry (bytes_eq k) es ≡ None → remove_entry (bytes_eq k) es ≡ es) → cond t (Some e) (lookup_entry (bytes_eq k) es) ≡ None → cond t es (e ∷ remove_entry (bytes_eq k) es) ≡ e ∷ es
absent_step k e es true later none = absurd cc
absent_step k e es false later none = ap (λ (x : Texts). e ∷ x) (later none)

absent : (k : Digest) (es : Texts) → lookup_entry (bytes_eq k) es ≡ None → remove_entry (bytes_eq k) es ≡ es
absent k [] none = refl
absent k (e ∷ es) none = absent_step k e es (bytes_eq k e.0) (absent k es) none

-- none was there
pub moved_none : (held cached cached' : Texts) (k : Digest) → lookup_entry (bytes_eq k) cached ≡ None → cached' ≡ remove_entry (bytes_eq k) cached → Moved held cached held cached'
moved_none held cached cached' k none rest =
    rw (rest ∙ absent k cached none) (record { same = λ d. refl; behind = ([], sym (append-nil held)); left = ([], refl) })

over_step : (H R R' : Option Bytes) (t : Bool) → (t ≡ true → is_some H ≡ true) → (t ≡ false → R' ≡ R) → option_or H R' ≡ option_or H R
over_step (Some x) R R' t there past = refl
over_step None R R' true there past = let clash = there refl in absurd cc
over_step None R R' false there past = past refl

-- its digest is among the held ones
pub moved_over : (held cached cached' : Texts) (k : Digest) (e : Digest × Bytes) → lookup_entry (bytes_eq k) cached ≡ Some e → cached' ≡ remove_entry (bytes_eq k) cached → is_some (text_at held e.0) ≡ true → Moved held cached held cached'
moved_over held cached cached' k e found rest there =
    let key = key_of k cached e found in
    rw rest (record {
      same = λ d. over_step (text_at held d) (text_at cached d) (text_at (remove_entry (bytes_eq k) cached) d) (bytes_eq d k)
          (λ is. ap (λ (x : Digest). is_some (text_at held x)) (same_digest d k is ∙ sym key) ∙ there)
          (λ other. text_at-removed k d cached other);
      behind = ([], sym (append-nil held));
      left = (k ∷ [], refl);
    })

one_step : (H R R' : Option Bytes) (text : Bytes) (t : Bool) → (t ≡ true → R ≡ Some text) → (t ≡ false → R' ≡ R) → option_or (option_or H (cond t (Some text) None)) R' ≡ option_or H R
one_step (Some x) R R' text t there past = refl
one_step None R R' text true there past = sym (there refl)
one_step None R R' text false there past = past refl

-- it is held now
pub moved_one : (held cached held' cached' : Texts) (k : Digest) (e : Digest × Bytes) → lookup_entry (bytes_eq k) cached ≡ Some e → cached' ≡ remove_entry (bytes_eq k) cached → held' ≡ held ++ (e.0, e.1) ∷ [] → Moved held cached held' cached'
moved_one held cached held' cached' k e found rest is =
    let key = key_of k cached e found in
    let at : text_at cached k ≡ Some e.1 = text_at-entry k cached ∙ ap (option_map (λ (f : Digest × Bytes). f.1)) found in
    rw (is, rest) (record {
      same = λ d. ap (λ (o : Option Bytes). option_or o (text_at (remove_entry (bytes_eq k) cached) d)) (text_at-last held e.0 e.1 d)
          ∙ one_step (text_at held d) (text_at cached d) (text_at (remove_entry (bytes_eq k) cached) d) e.1 (bytes_eq d e.0)
          (λ same. ap (λ (x : Digest). text_at cached x) (same_digest d e.0 same ∙ key) ∙ at)
          (λ other. text_at-removed k d cached (sym (ap (bytes_eq d) key) ∙ other));
      behind = ((e.0, e.1) ∷ [], refl);
      left = (k ∷ [], refl);
    })

pub moved_same : (held cached : Texts) → Moved held cached held cached
moved_same held cached = record { same = λ d. refl; behind = ([], sym (append-nil held)); left = ([], refl) }

pub moved_more : (h c h' c' h2 c2 : Texts) → Moved h c h' c' → Moved h' c' h2 c2 → Moved h c h2 c2
moved_more h c h' c' h2 c2 m n = record {
  same = λ d. n.same d ∙ m.same d;
  behind = (m.behind.0 ++ n.behind.0, n.behind.1 ∙ ap (λ (x : Texts). x ++ n.behind.0) m.behind.1 ∙ append_assoc h m.behind.0 n.behind.0);
  left = (m.left.0 ++ n.left.0, n.left.1 ∙ ap (without_all n.left.0) m.left.1 ∙ sym (without_more m.left.0 n.left.0 c));
}

inserted_step : (e : Digest × Bytes) (es : Texts) (k : Digest) (v : Bytes) (t : Bool) → (text_at es k ≡ None → insert_entry bytes_eq es k v ≡ es ++ (k, v) ∷ []) → cond t (Some e.1) (text_at es k) ≡ None
    → cond t ((e.0, v) ∷ es) (e ∷ insert_entry bytes_eq es k v) ≡ e ∷ (es ++ (k, v) ∷ [])
inserted_step e es k v true later none = absurd cc
inserted_step e es k v false later none = ap (λ (x : Texts). e ∷ x) (later none)

pub inserted : (es : Texts) (k : Digest) (v : Bytes) → text_at es k ≡ None → insert_entry bytes_eq es k v ≡ es ++ (k, v) ∷ []
inserted [] k v none = refl
inserted (e ∷ es) k v none = inserted_step e es k v (bytes_eq k e.0) (inserted es k v) none

none_there : (o : Option Bytes) → is_some o ≡ false → o ≡ None
none_there None not_there = refl
none_there (Some x) not_there = absurd cc

pub with_last-there : (es : Texts) (k : Digest) (v : Bytes) → is_some (text_at es k) ≡ true → es ≡ with_last es k v
with_last-there es k v there = sym (rw there refl)

pub with_last-new : (es es' : Texts) (k : Digest) (v : Bytes) → is_some (text_at es k) ≡ false → es' ≡ insert_entry bytes_eq es k v → es' ≡ with_last es k v
with_last-new es es' k v there is = is ∙ inserted es k v (none_there (text_at es k) there) ∙ sym (rw there refl)

last_step : (held cached held' cached' : Texts) (k : Digest) (e : Digest × Bytes) → lookup_entry (bytes_eq k) cached ≡ Some e → cached' ≡ remove_entry (bytes_eq k) cached
    → (t : Bool) → is_some (text_at held e.0) ≡ t → held' ≡ cond t held (held ++ (e.0, e.1) ∷ []) → Moved held cached held' cached'
last_step held cached held' cached' k e found rest true there is = subst (λ (h : Texts). Moved held cached h cached') (sym is) (moved_over held cached cached' k e found rest there)
last_step held cached held' cached' k e found rest false there is = moved_one held cached held' cached' k e found rest is

-- it is behind the held ones, if it wasn't among them
pub moved_last : (held cached held' cached' : Texts) (k : Digest) (e : Digest × Bytes) → lookup_entry (bytes_eq k) cached ≡ Some e → cached' ≡ remove_entry (bytes_eq k) cached → held' ≡ with_last held e.0 e.1 → Moved held cached held' cached'
moved_last held cached held' cached' k e found rest is = last_step held cached held' cached' k e found rest (is_some (text_at held e.0)) refl is

-- ---- taking up

known_moved : (first : List Block) (held cached held' cached' : Texts) (capacity : ℕ) → Moved held cached held' cached' → known_blocks (checked_blocks first held' cached' capacity) ≡ known_blocks (checked_blocks first held cached capacity)
unfolding known_blocks
known_moved first held cached held' cached' capacity moved =
    everywhere (known_blocks (checked_blocks first held' cached' capacity)) (known_blocks (checked_blocks first held cached capacity)) (λ d. ap (option_or (first_at d)) (moved.same d))
  where
    first_at : Digest → Option Bytes
    first_at d = Rattle.client_tree.specs.Held.held first d

-- one block more is taken up
pub takes_one : (old : CheckedBlocks) (first : List Block) (h c h' c' : Texts) (capacity capacity' : ℕ) → TakesUp old (checked_blocks first h c capacity) → Moved h c h' c' → capacity' ≡ capacity
    → TakesUp old (checked_blocks first h' c' capacity')
takes_one old first h c h' c' capacity capacity' taken moved is =
    rw is (record {
      known = known_moved first h c h' c' capacity moved ∙ taken.known;
      held = (taken.held.0 ++ moved.behind.0, moved.behind.1 ∙ ap (λ (x : Texts). x ++ moved.behind.0) taken.held.1 ∙ append_assoc old.held taken.held.0 moved.behind.0);
      cached = (taken.cached.0 ++ moved.left.0, moved.left.1 ∙ ap (without_all moved.left.0) taken.cached.1 ∙ sym (without_more taken.cached.0 moved.left.0 old.cached));
      first = taken.first;
      capacity = taken.capacity;
    })

-- blocks are taken up
pub takes : (k : CheckedBlocks) (h' c' : Texts) (capacity' : ℕ) → Moved k.held k.cached h' c' → capacity' ≡ k.capacity → TakesUp k (checked_blocks k.first h' c' capacity')
takes k h' c' capacity' moved is = takes_one k k.first k.held k.cached h' c' k.capacity capacity' (takes_none k) moved is

none_step : (F H C : Option Bytes) → option_or F (option_or H C) ≡ None → H ≡ None
none_step (Some x) H C none = absurd cc
none_step None (Some x) C none = absurd cc
none_step None None C none = refl

absent_held : (k : CheckedBlocks) (digest : Digest) → known_blocks k digest ≡ None → text_at k.held digest ≡ None
unfolding known_blocks
absent_held k digest none = none_step (held k.first digest) (text_at k.held digest) (text_at k.cached digest) none

held_last : (k : CheckedBlocks) (digest : Digest) (text : Bytes) → digest ≡ hash text → known_blocks k digest ≡ None → with_last k.held digest text ≡ k.held ++ (hash text, text) ∷ []
held_last k digest text is none = rw (absent_held k digest none) (ap (λ (d : Digest). k.held ++ (d, text) ∷ []) is)

-- a text is held, if it isn't known, and blocks are taken up
pub takes_held : (k : CheckedBlocks) (digest : Digest) (text : Bytes) (h' c' : Texts) (capacity' : ℕ) (b : Bool) → digest ≡ hash text → is_some (known_blocks k digest) ≡ b
    → Moved (cond b k.held (with_last k.held digest text)) k.cached h' c' → capacity' ≡ k.capacity → TakesUp (holding k text) (checked_blocks k.first h' c' capacity')
takes_held k digest text h' c' capacity' true is there moved same =
    subst (λ (x : CheckedBlocks). TakesUp x (checked_blocks k.first h' c' capacity')) (sym (holding-known k text (ap (λ (d : Digest). is_some (known_blocks k d)) (sym is) ∙ there)))
    (takes k h' c' capacity' moved same)
takes_held k digest text h' c' capacity' false is there moved same =
    let none : known_blocks k digest ≡ None = none_there (known_blocks k digest) there in
    let new : CheckedBlocks = record k { held = k.held ++ (hash text, text) ∷ [] } in
    subst (λ (x : CheckedBlocks). TakesUp x (checked_blocks k.first h' c' capacity')) (sym (holding-new k text (ap (known_blocks k) (sym is) ∙ none)))
    (takes new h' c' capacity' (subst (λ (h : Texts). Moved h k.cached h' c') (held_last k digest text is none) moved) same)

pub known_taken : (k new : CheckedBlocks) (text : Bytes) → TakesUp (holding k text) new → known_blocks new ≡ knowing (known_blocks k) text
known_taken k new text taken = taken.known ∙ known-holding k text

pub are_taken : (old new : CheckedBlocks) → AreChecked old → TakesUp old new → AreChecked new
are_taken old new are taken = record {
  hashed = λ d x found. are.hashed d x (sym (ap (λ (f : Blocks). f d) taken.known) ∙ found);
  fits = rw taken.capacity are.fits;
}

-- ---- putting into the cache

other_step : (capacity : ℕ) (c : Texts) (k d : Digest) (v x : Bytes) (o : Option (Digest × Bytes)) → lookup_entry (bytes_eq k) c ≡ o → bytes_eq d k ≡ false
    → text_at (option_map_or (λ e. (e.0, v) ∷ remove_entry (bytes_eq k) c) o ((k, v) ∷ take (capacity - 1) c)) d ≡ Some x → text_at c d ≡ Some x
other_step capacity c k d v x None found other is = text_at-take d (capacity - 1) c x (rw other at is)
other_step capacity c k d v x (Some e) found other is =
    let apart : bytes_eq d e.0 ≡ false = ap (bytes_eq d) (key_of k c e found) ∙ other in
    sym (text_at-removed k d c other) ∙ rw apart at is

other_put : (capacity : ℕ) (c c' : Texts) (k : Digest) (v : Bytes) (d : Digest) (x : Bytes) → IsPut capacity c (k, v) c' → bytes_eq d k ≡ false → text_at c' d ≡ Some x → text_at c d ≡ Some x
other_put capacity c c' k v d x put other found = elim put [
  | inl is ↦ other_step capacity c k d v x (lookup_entry (bytes_eq k) c) refl other (sym (ap (λ (es : Texts). text_at es d) is) ∙ found)
  | inr is ↦ sym (ap (λ (es : Texts). text_at es d) is.0) ∙ found
]

own_put : (capacity : ℕ) (c c' : Texts) (k : Digest) (v x : Bytes) → IsPut capacity c (k, v) c' → text_at c' k ≡ Some x → Some v ≡ Some x
own_put capacity c c' k v x put found = elim put [
  | inl is ↦ sym (lookup-put_entries bytes_eq (lru_cache c capacity) k v nat_list_eq_equiv) ∙ sym (ap (λ (es : Texts). text_at es k) is) ∙ found
  | inr is ↦ let none : text_at c' k ≡ None = ap (λ (es : Texts). text_at es k) is.0 ∙ is.1 in absurd cc
]

-- ---- letting go

put_step : (capacity : ℕ) (c c' : Texts) (b : Digest × Bytes) (rest : Texts) (d : Digest) (x : Bytes) → text_at rest b.0 ≡ None → IsPut capacity c b c' → (t : Bool) → bytes_eq d b.0 ≡ t
    → within rest c' d ≡ Some x → option_or (cond t (Some b.1) (text_at rest d)) (text_at c d) ≡ Some x
put_step capacity c c' b rest d x alone put true is found =
    let same = same_digest d b.0 is in
    let at : within rest c' b.0 ≡ Some x = subst (λ (y : Digest). within rest c' y ≡ Some x) same found in
    own_put capacity c c' b.0 b.1 x put (rw alone at at)
put_step capacity c c' b rest d x alone put false is found = lift_step (text_at rest d) (text_at c d) (text_at c' d) x (other_put capacity c c' b.0 b.1 d x put is) found

first_alone : (b : Digest × Bytes) (rest : Texts) → IsDistinct bytes_eq (keys_of (b ∷ rest)) → text_at rest b.0 ≡ None
first_alone b rest apart = lookup-none (bytes_eq b.0) rest (none_past_head nat_list_eq_equiv b.0 b rest apart (itself b.0))

rest_apart : (b : Digest × Bytes) (rest : Texts) → IsDistinct bytes_eq (keys_of (b ∷ rest)) → IsDistinct bytes_eq (keys_of rest)
unfolding IsDistinct
rest_apart b rest apart = apart.1

-- the held blocks that are left and the cache, after some were put there
pub record Left (capacity : ℕ) (held cached rest cached' : Texts) : Type 0 where
  pub part : (d : Digest) (x : Bytes) → within rest cached' d ≡ Some x → within held cached d ≡ Some x
  -- once the others are put, too, all are
  pub ahead : (last : Texts) → ArePut capacity rest cached' last → ArePut capacity held cached last
  pub apart : IsDistinct bytes_eq (keys_of rest)

-- one more was put
pub left_next : (capacity : ℕ) (held cached before rest : Texts) (b : Digest × Bytes) (c c' : Texts) → Left capacity held cached before c → before ≡ b ∷ rest → IsPut capacity c b c' → Left capacity held cached rest c'
left_next capacity held cached before rest b c c' left is put =
    let apart : IsDistinct bytes_eq (keys_of (b ∷ rest)) = subst (λ (es : Texts). IsDistinct bytes_eq (keys_of es)) is left.apart in
    record {
      part = λ d x found. left.part d x (rw is (put_step capacity c c' b rest d x (first_alone b rest apart) put (bytes_eq d b.0) refl found));
      ahead = λ last more. left.ahead last (subst (λ (es : Texts). ArePut capacity es c last) (sym is) (c', put, more));
      apart = rest_apart b rest apart;
    }

-- all were put
pub left_none : (capacity : ℕ) (held cached rest cached' : Texts) → Left capacity held cached rest cached' → rest ≡ [] → IsPart held cached cached'
left_none capacity held cached rest cached' left none d x found = left.part d x (rw none found)

pub all_put : (capacity : ℕ) (held cached rest cached' : Texts) → Left capacity held cached rest cached' → rest ≡ [] → ArePut capacity held cached cached'
all_put capacity held cached rest cached' left none = left.ahead cached' (subst (λ (es : Texts). ArePut capacity es cached' cached') (sym none) refl)

-- the blocks that were read since were taken up, or memory refused it
taken_or_none : {X E : Type 0} (r : Result X E) (old new : CheckedBlocks) → OnOk r (TakesUp old new) → OnErr r (new ≡ old) → TakesUp old new
taken_or_none (Ok x) old new taken same = taken
taken_or_none (Err e) old new taken same = subst (TakesUp old) (sym same) (takes_none old)

known_part : (k : CheckedBlocks) (c' : Texts) (capacity : ℕ) → IsPart k.held k.cached c' → KnowsPart k (checked_blocks k.first [] c' capacity)
unfolding known_blocks
known_part k c' capacity part d x found = lift_step (held k.first d) (within k.held k.cached d) (within [] c' d) x (part d x) found

-- the cache has no more than it may by then
shrunk_part : (k : CheckedBlocks) (c' : Texts) → IsPart k.held (take k.capacity k.cached) c' → KnowsPart k (checked_blocks k.first [] c' k.capacity)
shrunk_part k c' part d x found = knows_part_cached k k.capacity d x (known_part (with_capacity k.capacity k) c' k.capacity part d x found)

-- all went into the cache
pub lets_go : {X E : Type 0} (r : Result X E) (old mid : CheckedBlocks) (c' : Texts) → OnOk r (TakesUp old mid) → OnErr r (mid ≡ old)
    → ArePut mid.capacity mid.held (take mid.capacity mid.cached) c' → IsPart mid.held (take mid.capacity mid.cached) c' → length c' ≤ mid.capacity → LetsGo old (checked_blocks mid.first [] c' mid.capacity)
lets_go r old mid c' taken same put part few =
    let kept = taken_or_none r old mid taken same in
    record {
      put = (mid, kept, subst (λ (n : ℕ). ArePut n mid.held (take n mid.cached) c') kept.capacity put);
      known = λ d x found. sym (ap (λ (f : Blocks). f d) kept.known) ∙ shrunk_part mid c' part d x found;
      few = subst (λ (n : ℕ). length c' ≤ n) kept.capacity few;
      held = refl;
      first = kept.first;
      capacity = kept.capacity;
    }

pub are_let_go : (k : CheckedBlocks) (c' : Texts) → AreChecked k → IsPart k.held (take k.capacity k.cached) c' → AreChecked (checked_blocks k.first [] c' k.capacity)
are_let_go k c' are part = are_part k (checked_blocks k.first [] c' k.capacity) are (shrunk_part k c' part) are.fits

-- ---- keeping

put_at : (capacity : ℕ) (c c' : Texts) (k : Digest) (v : Bytes) (d : Digest) (x : Bytes) → IsPut capacity c (k, v) c' → (t : Bool) → bytes_eq d k ≡ t → text_at c' d ≡ Some x → (text_at c d ≡ Some x) ⊎ ((d ≡ k) × (x ≡ v))
put_at capacity c c' k v d x put true is found =
    let same = same_digest d k is in
    let own : Some v ≡ Some x = own_put capacity c c' k v x put (subst (λ (y : Digest). text_at c' y ≡ Some x) same found) in
    inr (same, cc)
put_at capacity c c' k v d x put false is found = inl (other_put capacity c c' k v d x put is found)

either_step : (L W W' : Option Bytes) (x : Bytes) (P : Type 0) → (W' ≡ Some x → (W ≡ Some x) ⊎ P) → option_or L W' ≡ Some x → (option_or L W ≡ Some x) ⊎ P
either_step (Some y) W W' x P part found = inl found
either_step None W W' x P part found = part found

-- the texts that are left and the cache, after some were put there
pub record PutSoFar (capacity : ℕ) (texts : List Bytes) (cached : Texts) (rest : List Bytes) (cached' : Texts) : Type 0 where
  pub put : AreOfTexts texts cached cached'
  pub ahead : (last : Texts) → AreCopied capacity rest cached' last → AreCopied capacity texts cached last
  pub among : (x : Bytes) → Contains rest x → Contains texts x

own_or_before : (texts : List Bytes) (cached c : Texts) (k : Digest) (v : Bytes) (d : Digest) (x : Bytes) → AreOfTexts texts cached c → Contains texts v → k ≡ hash v → (text_at c d ≡ Some x) ⊎ ((d ≡ k) × (x ≡ v))
    → (text_at cached d ≡ Some x) ⊎ (Contains texts x × (hash x ≡ d))
own_or_before texts cached c k v d x put there is (inl old) = put d x old
own_or_before texts cached c k v d x put there is (inr new) = inr (subst (Contains texts) (sym new.1) there, ap hash new.1 ∙ sym is ∙ sym new.0)

-- where one is left out, all is as before
copied_at : (capacity : ℕ) (c c' : Texts) (v : Bytes) (d : Digest) (x : Bytes) → (c' ≡ c) ⊎ IsPut capacity c (with_digest v) c' → text_at c' d ≡ Some x → (text_at c d ≡ Some x) ⊎ ((d ≡ hash v) × (x ≡ v))
copied_at capacity c c' v d x (inl same) found = inl (subst (λ (t : Texts). text_at t d ≡ Some x) same found)
copied_at capacity c c' v d x (inr put) found = put_at capacity c c' (hash v) v d x put (bytes_eq d (hash v)) refl found

-- one more was put
pub put_next : (capacity : ℕ) (texts : List Bytes) (cached : Texts) (before rest : List Bytes) (v : Bytes) (c c' : Texts) → PutSoFar capacity texts cached before c → before ≡ v ∷ rest → (c' ≡ c) ⊎ IsPut capacity c (with_digest v) c'
    → PutSoFar capacity texts cached rest c'
put_next capacity texts cached before rest v c c' so_far is put =
    let there : Contains before v = subst (λ (l : List Bytes). Contains l v) (sym is) (Contains-head v rest) in
    record {
      put = λ d x found. own_or_before texts cached c (hash v) v d x so_far.put (so_far.among v there) refl (copied_at capacity c c' v d x put found);
      ahead = λ last more. so_far.ahead last (subst (λ (ts : List Bytes). AreCopied capacity ts c last) (sym is) (c', put, more));
      among = λ x later. so_far.among x (subst (λ (l : List Bytes). Contains l x) (sym is) (Contains-tail v rest x later));
    }

-- all were put
pub texts_put : (capacity : ℕ) (texts : List Bytes) (cached : Texts) (rest : List Bytes) (cached' : Texts) → PutSoFar capacity texts cached rest cached' → rest ≡ [] → AreCopied capacity texts cached cached'
texts_put capacity texts cached rest cached' so_far none = so_far.ahead cached' (subst (λ (ts : List Bytes). AreCopied capacity ts cached' cached') (sym none) refl)

-- all were left out
pub none_copied : (capacity : ℕ) (texts : List Bytes) (cached : Texts) → AreCopied capacity texts cached cached
none_copied capacity [] cached = refl
none_copied capacity (text ∷ texts) cached = (cached, inl refl, none_copied capacity texts cached)

keeps_known : (k : CheckedBlocks) (texts : List Bytes) (c' : Texts) (capacity : ℕ) (d : Digest) (x : Bytes) → AreOfTexts texts k.cached c' → known_blocks (checked_blocks k.first k.held c' capacity) d ≡ Some x
    → (known_blocks k d ≡ Some x) ⊎ (Contains texts x × (hash x ≡ d))
unfolding known_blocks
keeps_known k texts c' capacity d x put found =
    either_step (held k.first d) (within k.held k.cached d) (within k.held c' d) x (Contains texts x × (hash x ≡ d))
    (either_step (text_at k.held d) (text_at k.cached d) (text_at c' d) x (Contains texts x × (hash x ≡ d)) (put d x)) found

-- the texts are known that were, of a cache that has no more than it may, and these
shrunk_kept : (k : CheckedBlocks) (texts : List Bytes) (c' : Texts) (d : Digest) (x : Bytes) → AreOfTexts texts (take k.capacity k.cached) c' → known_blocks (checked_blocks k.first k.held c' k.capacity) d ≡ Some x
    → (known_blocks k d ≡ Some x) ⊎ (Contains texts x × (hash x ≡ d))
shrunk_kept k texts c' d x of found = elim (keeps_known (with_capacity k.capacity k) texts c' k.capacity d x of found) [
  | inl old ↦ inl (knows_part_cached k k.capacity d x old)
  | inr new ↦ inr new
]

pub keeps : (k : CheckedBlocks) (texts : List Bytes) (c' : Texts) → AreCopied k.capacity texts (take k.capacity k.cached) c' → AreOfTexts texts (take k.capacity k.cached) c' → length c' ≤ k.capacity → Keeps k texts (checked_blocks k.first k.held c' k.capacity)
keeps k texts c' put of few = record {
  put = put;
  few = few;
  known = λ d x found. shrunk_kept k texts c' d x of found;
  held = refl;
  first = refl;
  capacity = refl;
}

hashed_either : (k : CheckedBlocks) (texts : List Bytes) (d : Digest) (x : Bytes) → AreChecked k → (known_blocks k d ≡ Some x) ⊎ (Contains texts x × (hash x ≡ d)) → hash x ≡ d
hashed_either k texts d x are (inl old) = are.hashed d x old
hashed_either k texts d x are (inr new) = new.1

pub are_kept : (k : CheckedBlocks) (texts : List Bytes) (c' : Texts) → AreChecked k → AreOfTexts texts (take k.capacity k.cached) c' → AreChecked (checked_blocks k.first k.held c' k.capacity)
are_kept k texts c' are put = record {
  hashed = λ d x found. hashed_either k texts d x are (shrunk_kept k texts c' d x put found);
  fits = are.fits;
}
