-- Where digests are looked for, when a block more is found.
use Rattle.std.proofs.Common.{◌≡◌, ◌⊎◌, inl, inr, ℕ, List, [], ◌∷◌, ◌++◌, length, drop, Option, Some, None, refl, sym, ◌∙◌, ap, subst, arith}
use Rattle.std.proofs.lemmas.List.{append_assoc, length-append}
use Rattle.layout.specs.Hash.{hash}
use Rattle.block_file.specs.Blocks.{Block}
use Rattle.block_file.specs.Places.{Place, StandsAt, IsPlaceOf, IsTruePlace, IsTextOf, HasNone, IsIndex}

abbrev pub Look : Type 0
Look = List ℕ → Option Place

pub no_blocks : (look : Look) → ((d : List ℕ) → look d ≡ None) → IsIndex look []
no_blocks look none = record {
  stands = λ d p is. absurd (apart p (sym (none d) ∙ is));
  found = λ before after b is. absurd (omega (arith, ap length is, length-append before (b ∷ after)));
}
  where
    apart : (p : Place) → None ≡ Some p → ⊥
    apart p is = cc

-- the same places
pub same_index : (look new : Look) (bs : List Block) → ((d : List ℕ) → new d ≡ look d) → IsIndex look bs → IsIndex new bs
same_index look new bs same index = record {
  stands = λ d p is. index.stands d p (sym (same d) ∙ is);
  found = λ before after b is own. let t = index.found before after b is own in (t.0, same b.digest ∙ t.1);
}

-- ---- one block more

-- in a list whose last is c: this block is the last, or it stands among the others
data Among (l : List Block) (c : Block) (before : List Block) (b : Block) : Type 0 where
  Last : b ≡ c → Among l c before b
  Earlier : (rest : List Block) → l ≡ before ++ b ∷ rest → Among l c before b

heads : (x y : Block) (a b : List Block) → x ∷ a ≡ y ∷ b → x ≡ y
heads x y a b is = cc

among : (l : List Block) (c : Block) (before : List Block) (b : Block) (after : List Block) → l ++ c ∷ [] ≡ before ++ b ∷ after → Among l c before b
among [] c [] b after is = Last (sym (heads c b [] after is))
among [] c (x ∷ before) b after is = absurd (omega (arith, ap length is, length-append before (b ∷ after)))
among (x ∷ l) c [] b after is = Earlier l (ap (λ (y : Block). y ∷ l) (heads x b (l ++ c ∷ []) after is))
among (x ∷ l) c (y ∷ before) b after is = more (among l c before b after (ap (λ (z : List Block). drop 1 z) is))
  where
    first : x ≡ y
    first = heads x y (l ++ c ∷ []) (before ++ b ∷ after) is

    more : Among l c before b → Among (x ∷ l) c (y ∷ before) b
    more (Last one) = Last one
    more (Earlier rest same) = Earlier rest (ap (λ (z : List Block). x ∷ z) same ∙ ap (λ (z : Block). z ∷ (before ++ b ∷ rest)) first)

module _ (bs : List Block) (c : Block) where
  stands_still : (p : Place) (b : Block) → StandsAt bs p b → StandsAt (bs ++ c ∷ []) p b
  stands_still p b stands = record {
    before = stands.before;
    after = stands.after ++ c ∷ [];
    split = ap (λ (l : List Block). l ++ c ∷ []) stands.split ∙ append_assoc stands.before (b ∷ stands.after) (c ∷ []);
    at = stands.at;
    size = stands.size;
  }

  still : (d : List ℕ) (p : Place) → IsPlaceOf bs d p → IsPlaceOf (bs ++ c ∷ []) d p
  still d p is = record { block = is.block; stands = stands_still p is.block is.stands; digest_is = is.digest_is }

  true_still : (d : List ℕ) → IsTruePlace bs d → IsTruePlace (bs ++ c ∷ []) d
  unfolding still
  true_still d t = record { place = t.place; is = still d t.place t.is; true_text = t.true_text }

  -- where its digest's text is found already, it is looked for there still
  pub known : (look : Look) → IsIndex look bs → (text : List ℕ) → IsTextOf look bs c.digest text → IsIndex look (bs ++ c ∷ [])
  unfolding true_still
  known look index text there = record {
    stands = λ d p is. still d p (index.stands d p is);
    found = λ before after b is own. found before b own (among bs c before b after is);
  }
    where
      found : (before : List Block) (b : Block) → hash b.text ≡ b.digest → Among bs c before b → (t : IsTruePlace (bs ++ c ∷ []) b.digest) × (look b.digest ≡ Some t.place)
      found before b own (Earlier rest same) = let t = index.found before rest b same own in (true_still b.digest t.0, t.1)
      found before b own (Last one) =
          let P : Block → Type 0 = λ x. (t : IsTruePlace (bs ++ c ∷ []) x.digest) × (look x.digest ≡ Some t.place) in
          subst P (sym one) (true_still c.digest there.place, there.here)

  -- where it isn't, or it has its own digest, it is looked for where it stands
  module _ (look new : Look) (index : IsIndex look bs) (place : Place) (here : new c.digest ≡ Some place)
      (others : (d : List ℕ) → (d ≡ c.digest) ⊎ (new d ≡ look d)) (stands : StandsAt (bs ++ c ∷ []) place c)
      (why : HasNone bs c.digest ⊎ (hash c.text ≡ c.digest)) where
    is_place : IsPlaceOf (bs ++ c ∷ []) c.digest place
    is_place = record { block = c; stands = stands; digest_is = refl }

    one_place : (p q : Place) → Some p ≡ Some q → p ≡ q
    one_place p q is = cc

    each : (d : List ℕ) (p : Place) → new d ≡ Some p → (d ≡ c.digest) ⊎ (new d ≡ look d) → IsPlaceOf (bs ++ c ∷ []) d p
    each d p is (inl same) =
        let q : place ≡ p = one_place place p (sym here ∙ ap new (sym same) ∙ is) in
        subst (λ (x : Place). IsPlaceOf (bs ++ c ∷ []) d x) q (subst (λ (x : List ℕ). IsPlaceOf (bs ++ c ∷ []) x place) (sym same) is_place)
    each d p is (inr same) = still d p (index.stands d p (sym same ∙ is))

    own_place : hash c.text ≡ c.digest → (t : IsTruePlace (bs ++ c ∷ []) c.digest) × (new c.digest ≡ Some t.place)
    unfolding is_place
    own_place own = (record { place = place; is = is_place; true_text = own }, here)

    earlier : (before rest : List Block) (b : Block) → bs ≡ before ++ b ∷ rest → hash b.text ≡ b.digest → (b.digest ≡ c.digest) ⊎ (new b.digest ≡ look b.digest)
        → HasNone bs c.digest ⊎ (hash c.text ≡ c.digest) → (t : IsTruePlace (bs ++ c ∷ []) b.digest) × (new b.digest ≡ Some t.place)
    unfolding true_still
    earlier before rest b same own (inl is) (inl none) = absurd (none before rest b same is (own ∙ is))
    earlier before rest b same own (inl is) (inr true_text) =
        subst (λ (d : List ℕ). (t : IsTruePlace (bs ++ c ∷ []) d) × (new d ≡ Some t.place)) (sym is) (own_place true_text)
    earlier before rest b same own (inr apart) w = let t = index.found before rest b same own in (true_still b.digest t.0, apart ∙ t.1)

    pub noted : IsIndex new (bs ++ c ∷ [])
    noted = record {
      stands = λ d p is. each d p is (others d);
      found = λ before after b is own. found before b own (among bs c before b after is);
    }
      where
        found : (before : List Block) (b : Block) → hash b.text ≡ b.digest → Among bs c before b → (t : IsTruePlace (bs ++ c ∷ []) b.digest) × (new b.digest ≡ Some t.place)
        found before b own (Earlier rest same) = earlier before rest b same own (others b.digest) why
        found before b own (Last one) =
            let P : Block → Type 0 = λ x. (t : IsTruePlace (bs ++ c ∷ []) x.digest) × (new x.digest ≡ Some t.place) in
            subst P (sym one) (own_place (ap (λ (x : Block). hash x.text) (sym one) ∙ own ∙ ap (λ (x : Block). x.digest) one))
