use Rattle.std.proofs.Common.{ℕ, List, ◌≡◌, ◌+◌, ◌∷◌, ap, drop, map, sym, ◌∙◌, arith, subst}
use Rattle.std.proofs.Math.ListN.{drop_of_length-le}
use Rattle.std.proofs.lemmas.List.{drop_more}
use Rattle.std.specs.Prelude.{slice_index_or}
use Rattle.std.specs.Vec.{vec_items}
use Rattle.layout.specs.Hash.{hash}
use Rattle.checked_blocks.proofs.MoveLaws.{none_copied, put_next, texts_put}
use Rattle.checked_blocks.proofs.WholeTexts.{digest_there}
use Rattle.checked_blocks.proofs.cache.put_copies.Goals as goal

pub returns-in_default-clause-put : goal.returns-in_default-clause-put
returns-in_default-clause-put g c = none_copied c.args.cache.now.cap (map vec_items c.args.texts.now) c.args.cache.now.entries

pub put_copy-requires : goal.put_copy-requires
put_copy-requires g c =
    let there : c.index.result.now ≡ slice_index_or (map hash (map vec_items c.args.texts.now)) c.loop-place.place c.index.result.now =
    subst (λ (ds : List (List ℕ)). c.index.result.now ≡ slice_index_or ds c.loop-place.place c.index.result.now) c.in-Ok.ensures c.index.ensures in
    digest_there c.args.texts.now c.loop-place.place c.index.result.now c.index-texts-place.result (omega arith) there c.index-texts-place.is
    ∙ ap hash (sym c.deref.ensures.value)

pub loop-place-preserved : goal.loop-place-preserved
loop-place-preserved g c =
    let was = c.loop-place.invariant in
    let texts = c.args.texts.now in
    let i = c.loop-place.place in
    let text = c.index-texts-place.result in
    record {
      so_far = put_next c.args.cache.now.cap (map vec_items texts) c.args.cache.now.entries (map vec_items (drop i texts)) (map vec_items (drop (i + 1) texts)) (vec_items text) c.loop-place.cache.entries c.put_copy.new.cache.entries
          was.so_far (ap (map vec_items) (drop_more texts i text (omega arith)) ∙ ap (λ t. vec_items t ∷ map vec_items (drop (i + 1) texts)) (sym c.index-texts-place.is)) (rw (was.cap, c.deref.ensures.value) at c.put_copy.ensures.put);
      cap = c.put_copy.ensures.capacity ∙ was.cap;
    }

pub returns-clause-put : goal.returns-clause-put
returns-clause-put g c =
    texts_put c.args.cache.now.cap (map vec_items c.args.texts.now) c.args.cache.now.entries (map vec_items (drop c.loop-place.place c.args.texts.now)) c.loop-place.cache.entries c.loop-place.invariant.so_far (ap (map vec_items) (drop_of_length-le c.args.texts.now (omega arith)))

pub returns-clause-of_texts : goal.returns-clause-of_texts
returns-clause-of_texts g c = c.loop-place.invariant.so_far.put
