-- Blocks in the order of their digests, as a map.
use Rattle.std.proofs.Common.{◌≡◌, ℕ, Bool, true, false, cond, List, [], ◌∷◌, length, insert, Option, Some, None, Result, refl, sym, ap, subst, ◌∙◌, arith}
use Rattle.std.specs.Prelude.{IfSome, MatchResult, is_some, slice_index_or}
use Rattle.std.specs.List.{All}
use Rattle.std.specs.List.Sorted.{IsBinarySearchResult, IsSearchInRange}
use Rattle.std.specs.Option.{option_map}
use Rattle.std.specs.Ordering.{is_eq}
use Rattle.std.specs.declared.cmp.Ordering.{Ordering}
use Rattle.std.specs.declared.cmp.Ordering.TheVariants.{Less, Equal, Greater}
use Rattle.std.proofs.lemmas.Cmp.{nat_list_cmp_total, tied_itself}
use Rattle.std.proofs.lemmas.List.Elements.{All-nil, All-head, All-tail}
use Rattle.std.proofs.lemmas.Map.Lookups.{exact_bytes}
use Rattle.layout.specs.Hash.{hash}
use Rattle.layout.specs.Ascending.{Ascends, Stands, IsFree, row_at, with_row}
use Rattle.layout.specs.AscendingLaws.{searched, row_at-with_row, all_with_row, ascends_with_row}
use Rattle.client_tree.specs.Held.{Block, digest_of, by_bytes, held, keeping, keeping_all, AreHeld}

pub found : (blocks : List Block) → Ascends by_bytes digest_of None blocks → (d : List ℕ) (r : Result ℕ ℕ) → IsSearchInRange r (length blocks) → IsBinarySearchResult (λ b. by_bytes b.digest d) blocks r → MatchResult r (Stands by_bytes digest_of blocks d) (IsFree by_bytes digest_of blocks d)
found blocks up d r inside position = searched by_bytes digest_of nat_list_cmp_total blocks up d r inside position

pub none_held : (blocks : List Block) → blocks ≡ [] → AreHeld blocks
unfolding Ascends
none_held blocks e = subst AreHeld (sym e) (record { hashed = All-nil (λ b. hash b.text ≡ b.digest); ascending = tt })

-- ---- looking up

pub held-Stands : (blocks : List Block) (d : List ℕ) (i : ℕ) (x : Block) → Stands by_bytes digest_of blocks d i → held blocks d ≡ Some (slice_index_or blocks i x).text
unfolding held
held-Stands blocks d i x stands = ap (option_map (λ (b : Block). b.text)) (stands.found x)

pub held-IsFree : (blocks : List Block) (d : List ℕ) (i : ℕ) → IsFree by_bytes digest_of blocks d i → held blocks d ≡ None
unfolding held
held-IsFree blocks d i free = ap (option_map (λ (b : Block). b.text)) free.found

abbrev text_of : Option Block → Option (List ℕ)
text_of o = option_map (λ b. b.text) o

hashed_step : (x : Block) (xs : List Block) (d : List ℕ) (o : Ordering) → by_bytes x.digest d ≡ o → hash x.text ≡ x.digest → IfSome (option_map (λ b. b.text) (row_at by_bytes digest_of xs d)) (λ text. hash text ≡ d)
    → IfSome (option_map (λ b. b.text) (cond (is_eq o) (Some x) (row_at by_bytes digest_of xs d))) (λ text. hash text ≡ d)
hashed_step x xs d Less h is later = later
hashed_step x xs d Equal h is later = is ∙ exact_bytes x.digest d h
hashed_step x xs d Greater h is later = later

hashed_rows : (xs : List Block) (d : List ℕ) → All (λ b. hash b.text ≡ b.digest) xs → IfSome (option_map (λ b. b.text) (row_at by_bytes digest_of xs d)) (λ text. hash text ≡ d)
hashed_rows [] d all = tt
hashed_rows (x ∷ xs) d all =
    hashed_step x xs d (by_bytes x.digest d) refl (All-head (λ b. hash b.text ≡ b.digest) x xs all) (hashed_rows xs d (All-tail (λ b. hash b.text ≡ b.digest) x xs all))

-- what is held has the digest
pub hashed : (blocks : List Block) (d : List ℕ) → AreHeld blocks → IfSome (held blocks d) (λ text. hash text ≡ d)
unfolding held
hashed blocks d are = hashed_rows blocks d are.hashed

-- ---- keeping

pub kept_already : (blocks : List Block) (text : List ℕ) (x : List ℕ) → held blocks (hash text) ≡ Some x → keeping blocks text ≡ blocks
unfolding keeping
kept_already blocks text x is = rw is refl

pub kept_new : (old new : List Block) (i : ℕ) (x : Block) (text : List ℕ) → IsFree by_bytes digest_of old (hash text) i → x ≡ record { digest = hash text; text = text } → new ≡ insert old i x → new ≡ keeping old text
unfolding keeping held
kept_new old new i x text free is inserted =
    let b : Block = record { digest = hash text; text = text } in
    let none : option_map (λ (y : Block). y.text) (row_at by_bytes digest_of old (hash text)) ≡ None = ap (option_map (λ (y : Block). y.text)) free.found in
    inserted ∙ ap (λ (y : Block). insert old i y) is ∙ free.inserts b refl ∙ sym (rw none refl)

pub are_kept : (old : List Block) (x : Block) → hash x.text ≡ x.digest → AreHeld old → AreHeld (with_row by_bytes digest_of old x)
are_kept old x is are = record {
  hashed = all_with_row by_bytes digest_of nat_list_cmp_total (λ b. hash b.text ≡ b.digest) old x is are.hashed;
  ascending = ascends_with_row by_bytes digest_of nat_list_cmp_total None old x refl are.ascending;
}

pub are_inserted : (old new : List Block) (i : ℕ) (x : Block) (text : List ℕ) → IsFree by_bytes digest_of old (hash text) i → x ≡ record { digest = hash text; text = text } → new ≡ insert old i x → AreHeld old → AreHeld new
are_inserted old new i x text free is inserted are =
    let b : Block = record { digest = hash text; text = text } in
    subst AreHeld (sym (inserted ∙ ap (λ (y : Block). insert old i y) is ∙ free.inserts b refl)) (are_kept old b refl are)

-- ---- one block more

mapped_cond : (t : Bool) (x y : Option Block) → text_of (cond t x y) ≡ cond t (text_of x) (text_of y)
mapped_cond true x y = refl
mapped_cond false x y = refl

kept_at : (blocks : List Block) (text d : List ℕ) (t : Bool) → is_some (held blocks (hash text)) ≡ t → (o : Ordering) → by_bytes (hash text) d ≡ o
    → held (keeping blocks text) d ≡ cond t (held blocks d) (cond (is_eq o) (Some text) (held blocks d))
unfolding held keeping
kept_at blocks text d true there o is = rw there refl
kept_at blocks text d false there o is =
    let b : Block = record { digest = hash text; text = text } in
    rw there (ap text_of (row_at-with_row by_bytes digest_of nat_list_cmp_total blocks b d) ∙ mapped_cond (is_eq (by_bytes (hash text) d)) (Some b) (row_at by_bytes digest_of blocks d) ∙ rw is refl)

old_step : (blocks : List Block) (text d x : List ℕ) (t : Bool) (o : Ordering) → is_some (held blocks (hash text)) ≡ t → by_bytes (hash text) d ≡ o → held blocks d ≡ Some x → cond t (held blocks d) (cond (is_eq o) (Some text) (held blocks d)) ≡ Some x
old_step blocks text d x true o there is found = found
old_step blocks text d x false Less there is found = found
old_step blocks text d x false Greater there is found = found
old_step blocks text d x false Equal there is found = let clash = sym there ∙ ap (λ (k : List ℕ). is_some (held blocks k)) (exact_bytes (hash text) d is) ∙ ap is_some found in absurd cc

pub with_old : (blocks : List Block) (text d x : List ℕ) → held blocks d ≡ Some x → Some x ≡ held (keeping blocks text) d
with_old blocks text d x found = sym (kept_at blocks text d (is_some (held blocks (hash text))) refl (by_bytes (hash text) d) refl ∙ old_step blocks text d x (is_some (held blocks (hash text))) (by_bytes (hash text) d) refl refl found)

pub with_new : (blocks : List Block) (text d : List ℕ) → held blocks d ≡ None → d ≡ hash text → Some text ≡ held (keeping blocks text) d
with_new blocks text d none is =
    let absent : is_some (held blocks (hash text)) ≡ false = ap (λ (k : List ℕ). is_some (held blocks k)) (sym is) ∙ ap is_some none in
    sym (kept_at blocks text d false absent Equal (ap (by_bytes (hash text)) is ∙ tied_itself nat_list_cmp_total (hash text)) ∙ refl)

none_step : (blocks : List Block) (text d : List ℕ) (t : Bool) (o : Ordering) → by_bytes (hash text) d ≡ o → held blocks d ≡ None → (d ≡ hash text → ⊥) → cond t (held blocks d) (cond (is_eq o) (Some text) (held blocks d)) ≡ None
none_step blocks text d true o is none other = none
none_step blocks text d false Less is none other = none
none_step blocks text d false Greater is none other = none
none_step blocks text d false Equal is none other = absurd (other (sym (exact_bytes (hash text) d is)))

pub with_none : (blocks : List Block) (text d : List ℕ) → held blocks d ≡ None → (d ≡ hash text → ⊥) → None ≡ held (keeping blocks text) d
with_none blocks text d none other = sym (kept_at blocks text d (is_some (held blocks (hash text))) refl (by_bytes (hash text) d) refl ∙ none_step blocks text d (is_some (held blocks (hash text))) (by_bytes (hash text) d) refl none other)

-- ---- many more

-- one text of those that are left
pub kept_next : (old new : List Block) (all : List Block) (text : List ℕ) (texts before : List (List ℕ)) → new ≡ keeping old text → before ≡ text ∷ texts → keeping_all old before ≡ all → keeping_all new texts ≡ all
unfolding keeping_all
kept_next old new all text texts before is split so_far = rw is (rw split at so_far)

-- none is left
pub kept_all : (now all : List Block) (texts : List (List ℕ)) → length texts ≡ 0 → keeping_all now texts ≡ all → now ≡ all
unfolding keeping_all
kept_all now all [] none so_far = so_far
kept_all now all (text ∷ texts) none so_far = absurd (omega (arith, none))
