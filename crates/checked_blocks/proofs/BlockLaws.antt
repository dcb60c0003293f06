-- Look-ups by digest, and what is known when a block comes.
use Rattle.std.proofs.Common.{◌≡◌, ℕ, ◌<◌, ◌≤◌, zero, suc, Bool, true, false, cond, List, [], ◌∷◌, ◌++◌, length, take, Option, Some, None, is_some, IfSome, refl, sym, ap, subst, ◌∙◌, append-nil, append_assoc, arith}
use Rattle.std.proofs.lemmas.List.{length-append}
use Rattle.std.specs.Option.{option_or}
use Rattle.std.specs.Map.{remove_entry}
use Rattle.std.specs.Str.{bytes_eq}
use Rattle.std.proofs.lemmas.Slice.Eq.{bytes_eq-Decides}
use Rattle.layout.specs.Hash.{hash}
use Rattle.layout.specs.Types.{Bytes, Digest}
use Rattle.tree_parts.specs.Blocks.{Blocks}
use Rattle.client_tree.specs.Held.{AreHeld, Block, held}
use Rattle.client_tree.proofs.HeldLaws.{hashed}
use Rattle.checked_blocks.specs.CheckedBlocks.{AreChecked, ArePut, CheckedBlocks, KnowsPart, LetsGo, TakesUp, Texts, at_first, checked_blocks, holding, known_blocks, knowing, text_at, with_capacity, with_capacity_later, without_all}

-- ---- digests

pub same_digest : (a b : Digest) → bytes_eq a b ≡ true → a ≡ b
same_digest a b = (bytes_eq-Decides a b).0

pub itself : (a : Digest) → bytes_eq a a ≡ true
itself a = (bytes_eq-Decides a a).1 refl

-- what is equal at each digest is equal
pub everywhere : (f g : Blocks) → ((d : Digest) → f d ≡ g d) → f ≡ g
everywhere f g same = λ i d. same d i

-- ---- look-ups

pub text_at-behind : (es more : Texts) (d : Digest) → text_at (es ++ more) d ≡ option_or (text_at es d) (text_at more d)
text_at-behind [] more d = refl
text_at-behind (e ∷ es) more d = (elim (bytes_eq d e.0) as (λ y. cond y (Some e.1) (text_at (es ++ more) d) ≡ option_or (cond y (Some e.1) (text_at es d)) (text_at more d)) [
  | true ↦ refl
  | false ↦ text_at-behind es more d
])

pub text_at-last : (es : Texts) (k : Digest) (text : Bytes) (d : Digest) → text_at (es ++ (k, text) ∷ []) d ≡ option_or (text_at es d) (cond (bytes_eq d k) (Some text) None)
text_at-last es k text d = text_at-behind es ((k, text) ∷ []) d

take_step : (d : Digest) (n : ℕ) (e : Digest × Bytes) (es : Texts) (text : Bytes) (t : Bool) → (text_at (take n es) d ≡ Some text → text_at es d ≡ Some text)
    → cond t (Some e.1) (text_at (take n es) d) ≡ Some text → cond t (Some e.1) (text_at es d) ≡ Some text
take_step d n e es text true later found = found
take_step d n e es text false later found = later found

-- what is found among the first ones is found among all
pub text_at-take : (d : Digest) (n : ℕ) (es : Texts) (text : Bytes) → text_at (take n es) d ≡ Some text → text_at es d ≡ Some text
text_at-take d zero es text found = absurd cc
text_at-take d (suc n) [] text found = found
text_at-take d (suc n) (e ∷ es) text found = take_step d n e es text (bytes_eq d e.0) (text_at-take d n es text) found

-- ---- one block more

behind_step : (F H C : Option Bytes) (t : Bool) (text : Bytes) → (t ≡ true → option_or F (option_or H C) ≡ None)
    → option_or F (option_or (option_or H (cond t (Some text) None)) C) ≡ option_or (option_or F (option_or H C)) (cond t (Some text) None)
behind_step (Some x) H C t text none = refl
behind_step None (Some x) C t text none = refl
behind_step None None None true text none = refl
behind_step None None None false text none = refl
behind_step None None (Some c) true text none = let clash = none refl in absurd cc
behind_step None None (Some c) false text none = refl

there_step : (K : Option Bytes) (t : Bool) (text : Bytes) → (t ≡ true → is_some K ≡ true) → K ≡ option_or K (cond t (Some text) None)
there_step (Some x) t text there = refl
there_step None true text there = let clash = there refl in absurd cc
there_step None false text there = refl

holding_at : (k : CheckedBlocks) (text : Bytes) (d : Digest) (b : Bool) → is_some (known_blocks k (hash text)) ≡ b
    → known_blocks (cond b k (record k { held = k.held ++ (hash text, text) ∷ [] })) d ≡ option_or (known_blocks k d) (cond (bytes_eq d (hash text)) (Some text) None)
unfolding known_blocks
holding_at k text d true there =
    there_step (known_blocks k d) (bytes_eq d (hash text)) text (λ is. ap (λ (x : Digest). is_some (known_blocks k x)) (same_digest d (hash text) is) ∙ there)
holding_at k text d false there =
    ap (λ (o : Option Bytes). option_or (held k.first d) (option_or o (text_at k.cached d))) (text_at-last k.held (hash text) text d)
    ∙ behind_step (held k.first d) (text_at k.held d) (text_at k.cached d) (bytes_eq d (hash text)) text
    (λ is. none_of (known_blocks k d) (ap (λ (x : Digest). is_some (known_blocks k x)) (same_digest d (hash text) is) ∙ there))
  where
    none_of : (o : Option Bytes) → is_some o ≡ false → o ≡ None
    none_of None not_there = refl
    none_of (Some x) not_there = absurd cc

-- what is known when a text is held
pub known-holding : (k : CheckedBlocks) (text : Bytes) → known_blocks (holding k text) ≡ knowing (known_blocks k) text
unfolding holding knowing
known-holding k text = everywhere (known_blocks (holding k text)) (knowing (known_blocks k) text) (λ d. holding_at k text d (is_some (known_blocks k (hash text))) refl)

pub holding-known : (k : CheckedBlocks) (text : Bytes) → is_some (known_blocks k (hash text)) ≡ true → holding k text ≡ k
unfolding holding
holding-known k text there = rw there refl

pub holding-new : (k : CheckedBlocks) (text : Bytes) → known_blocks k (hash text) ≡ None → holding k text ≡ record k { held = k.held ++ (hash text, text) ∷ [] }
unfolding holding
holding-new k text none = rw none refl

-- the blocks of the beginning stay
first_of : (k : CheckedBlocks) (b : Bool) (more : Texts) → (cond b k (record k { held = more })).first ≡ k.first
first_of k true more = refl
first_of k false more = refl

pub first-holding : (k : CheckedBlocks) (text : Bytes) → (holding k text).first ≡ k.first
unfolding holding
first-holding k text = first_of k (is_some (known_blocks k (hash text))) (k.held ++ (hash text, text) ∷ [])

-- ---- each has its digest

hashed_step : (K : Option Bytes) (d k : Digest) (text x : Bytes) (t : Bool) → hash text ≡ k → bytes_eq d k ≡ t → ((y : Bytes) → K ≡ Some y → hash y ≡ d) → option_or K (cond t (Some text) None) ≡ Some x → hash x ≡ d
hashed_step (Some y) d k text x t is at are found = are x found
hashed_step None d k text x true is at are found = let e : text ≡ x = cc in sym (ap hash e) ∙ is ∙ sym (same_digest d k at)
hashed_step None d k text x false is at are found = absurd cc

pub hashed_knowing : (blocks : Blocks) (text : Bytes) → ((d : Digest) (x : Bytes) → blocks d ≡ Some x → hash x ≡ d) → (d : Digest) (x : Bytes) → knowing blocks text d ≡ Some x → hash x ≡ d
unfolding knowing
hashed_knowing blocks text are d x found = hashed_step (blocks d) d (hash text) text x (bytes_eq d (hash text)) refl refl (are d) found

capacity_step : (k : CheckedBlocks) (b : Bool) (more : Texts) → k.capacity ≤ 4096 → (cond b k (record k { held = more })).capacity ≤ 4096
capacity_step k true more fits = fits
capacity_step k false more fits = fits

pub are_holding : (k : CheckedBlocks) (text : Bytes) → AreChecked k → AreChecked (holding k text)
unfolding holding
are_holding k text are = record {
  hashed = λ d x found. hashed_knowing (known_blocks k) text are.hashed d x (sym (ap (λ (f : Blocks). f d) (known-holding k text)) ∙ found);
  fits = capacity_step k (is_some (known_blocks k (hash text))) (k.held ++ (hash text, text) ∷ []) are.fits;
}

-- the blocks of the beginning alone
first_step : (blocks : List Block) (d : Digest) (x : Bytes) (o : Option Bytes) → IfSome o (λ text. hash text ≡ d) → option_or o None ≡ Some x → hash x ≡ d
first_step blocks d x (Some y) is found = let e : y ≡ x = cc in sym (ap hash e) ∙ is
first_step blocks d x None is found = absurd cc

pub are_first : (blocks : List Block) (capacity : ℕ) → AreHeld blocks → capacity ≤ 4096 → AreChecked (checked_blocks blocks [] [] capacity)
unfolding known_blocks
are_first blocks capacity are fits = record {
  hashed = λ d x found. first_step blocks d x (held blocks d) (hashed blocks d are) found;
  fits = fits;
}

-- ---- each text that is known then was known before

pub lift_step : (L W W' : Option Bytes) (x : Bytes) → (W' ≡ Some x → W ≡ Some x) → option_or L W' ≡ Some x → option_or L W ≡ Some x
lift_step (Some y) W W' x part found = found
lift_step None W W' x part found = part found

pub are_part : (old new : CheckedBlocks) → AreChecked old → KnowsPart old new → new.capacity ≤ 4096 → AreChecked new
are_part old new are part fits = record { hashed = λ d x found. are.hashed d x (part d x found); fits = fits }

pub knows_part_cached : (k : CheckedBlocks) (capacity : ℕ) → KnowsPart k (with_capacity capacity k)
unfolding known_blocks
knows_part_cached k capacity d x =
    lift_step (held k.first d) (option_or (text_at k.held d) (text_at k.cached d)) (option_or (text_at k.held d) (text_at (take capacity k.cached) d)) x
    (lift_step (text_at k.held d) (text_at k.cached d) (text_at (take capacity k.cached) d) x (text_at-take d capacity k.cached x))

-- nothing is forgotten before the held blocks are let go
pub known-later : (k : CheckedBlocks) (capacity : ℕ) → known_blocks (with_capacity_later capacity k) ≡ known_blocks k
unfolding known_blocks
known-later k capacity = refl

pub are_later : (k : CheckedBlocks) (capacity : ℕ) → AreChecked k → capacity ≤ 4096 → AreChecked (with_capacity_later capacity k)
are_later k capacity are fits = record { hashed = λ d x found. are.hashed d x (sym (ap (λ (f : Blocks). f d) (known-later k capacity)) ∙ found); fits = fits }

-- ---- looking up in turn

pub known_first : (k : CheckedBlocks) (d : Digest) (x : Bytes) → Some x ≡ held k.first d → Some x ≡ known_blocks k d
unfolding known_blocks
known_first k d x found = rw (sym found) refl

pub known_held : (k : CheckedBlocks) (d : Digest) (x : Bytes) → None ≡ held k.first d → Some x ≡ text_at k.held d → Some x ≡ known_blocks k d
unfolding known_blocks
known_held k d x none found = rw (sym none, sym found) refl

pub known_cached : (k : CheckedBlocks) (d : Digest) (o : Option Bytes) → None ≡ held k.first d → None ≡ text_at k.held d → o ≡ text_at k.cached d → o ≡ known_blocks k d
unfolding known_blocks
known_cached k d o none none' found = rw (sym none, sym none') found

-- ---- with a block that isn't held yet

pub with_old : (k : CheckedBlocks) (text : Bytes) (d : Digest) (x : Bytes) → known_blocks k d ≡ Some x → Some x ≡ known_blocks (holding k text) d
unfolding knowing
with_old k text d x found = sym (ap (λ (f : Blocks). f d) (known-holding k text) ∙ rw found refl)

pub with_new : (k : CheckedBlocks) (text : Bytes) (d : Digest) → known_blocks k d ≡ None → d ≡ hash text → Some text ≡ known_blocks (holding k text) d
unfolding knowing
with_new k text d none is =
    let at : bytes_eq d (hash text) ≡ true = subst (λ (y : Digest). bytes_eq d y ≡ true) is (itself d) in
    sym (ap (λ (f : Blocks). f d) (known-holding k text) ∙ rw none (rw at refl))

other_digest : (d k : Digest) (t : Bool) → bytes_eq d k ≡ t → (d ≡ k → ⊥) → t ≡ false
other_digest d k true at other = absurd (other (same_digest d k at))
other_digest d k false at other = refl

pub with_none : (k : CheckedBlocks) (text : Bytes) (d : Digest) → known_blocks k d ≡ None → (d ≡ hash text → ⊥) → None ≡ known_blocks (holding k text) d
unfolding knowing
with_none k text d none other =
    let at : bytes_eq d (hash text) ≡ false = other_digest d (hash text) (bytes_eq d (hash text)) refl other in
    sym (ap (λ (f : Blocks). f d) (known-holding k text) ∙ rw none (rw at refl))

-- ---- one after the other

pub without_more : (some more : List Digest) (es : Texts) → without_all (some ++ more) es ≡ without_all more (without_all some es)
without_more [] more es = refl
without_more (d ∷ some) more es = without_more some more (remove_entry (bytes_eq d) es)

-- nothing was taken up
pub takes_none : (k : CheckedBlocks) → TakesUp k k
takes_none k = record { known = refl; held = ([], sym (append-nil k.held)); cached = ([], refl); first = refl; capacity = refl }

pub takes_more : (a b c : CheckedBlocks) → TakesUp a b → TakesUp b c → TakesUp a c
takes_more a b c one more = record {
  known = more.known ∙ one.known;
  held = (one.held.0 ++ more.held.0, more.held.1 ∙ ap (λ (x : Texts). x ++ more.held.0) one.held.1 ∙ append_assoc a.held one.held.0 more.held.0);
  cached = (one.cached.0 ++ more.cached.0, more.cached.1 ∙ ap (without_all more.cached.0) one.cached.1 ∙ sym (without_more one.cached.0 more.cached.0 a.cached));
  first = more.first ∙ one.first;
  capacity = more.capacity ∙ one.capacity;
}

pub lets_go_after : (a b c : CheckedBlocks) → TakesUp a b → LetsGo b c → LetsGo a c
lets_go_after a b c taken gone = record {
  put = (gone.put.0, takes_more a b gone.put.0 taken gone.put.1, subst (λ (n : ℕ). ArePut n gone.put.0.held (take n gone.put.0.cached) c.cached) taken.capacity gone.put.2);
  known = λ d x found. sym (ap (λ (f : Blocks). f d) taken.known) ∙ gone.known d x found;
  few = subst (λ (n : ℕ). length c.cached ≤ n) taken.capacity gone.few;
  held = gone.held;
  first = gone.first ∙ taken.first;
  capacity = gone.capacity ∙ taken.capacity;
}

-- a text that isn't known, once it is held, is one more at least
pub holds_more : (k new : CheckedBlocks) (text : Bytes) → TakesUp (holding k text) new → known_blocks k (hash text) ≡ None → length k.held < length new.held
holds_more k new text taken none =
    let is : new.held ≡ (k.held ++ (hash text, text) ∷ []) ++ taken.held.0 = taken.held.1 ∙ ap (λ (x : CheckedBlocks). x.held ++ taken.held.0) (holding-new k text none) in
    omega (arith, ap length is, length-append (k.held ++ (hash text, text) ∷ []) taken.held.0, length-append k.held ((hash text, text) ∷ []))

-- at first the texts of the beginning alone are known
first_alone : (o : Option Bytes) → option_or o None ≡ o
first_alone None = refl
first_alone (Some text) = refl

pub known-at_first : (first : List Block) → known_blocks (at_first first) ≡ held first
unfolding known_blocks
known-at_first first = everywhere (known_blocks (at_first first)) (held first) (λ d. first_alone (held first d))
