use Rattle.std.proofs.Common.{◌≡◌, ℕ, ◌<◌, List, [], slice_index, slice_index_or, sym, ap, ◌∙◌, arith}
use Rattle.std.proofs.lemmas.List.FromFn.{get_or-map-range_with_len}
use Rattle.sha2.specs.Sha256.{compress, digest_bytes, initial_hash_256, padded_message}
use Rattle.sha256_lanes.specs.Lanes.{lane, short_text, values_of}
use Rattle.sha256_lanes.proofs.ShortTexts.{are_words, digest_is}
use Rattle.sha256_lanes.proofs.short.hash_short.Goals as goal

-- the value of a lane
value_at : (words : List (List ℕ)) (i : ℕ) → i < 8 → slice_index_or (values_of words) i [] ≡ digest_bytes (lane i words) 8
value_at words i lt = get_or-map-range_with_len (λ j. digest_bytes (lane j words) 8) 0 8 i i [] lt (omega arith)

pub of-requires : goal.of-requires
of-requires c i lt =
    let p : List ℕ = c.args.prefix.now in
    let b : List ℕ = padded_message (short_text p (slice_index c.args.numbers i) (slice_index c.args.marks i) (digest_bytes (lane i c.words.result.now) 8)) in
    rw (c.compress.ensures i b lt (c.block_of.ensures i lt)) (are_words (lane i c.initial-state.result) b)

pub returns : goal.returns
returns c i lt =
    let p : List ℕ = c.args.prefix.now in
    let n : ℕ = slice_index c.args.numbers i in
    let m : ℕ = slice_index c.args.marks i in
    let v : List ℕ = lane i c.words.result.now in
    let state : List (List ℕ) = c.compress.new.state in
    let b : List ℕ = padded_message (short_text p n m (digest_bytes v 8)) in
    let value : slice_index_or c.args.value.now i [] ≡ digest_bytes v 8 =
    ap (λ (l : List (List ℕ)). slice_index_or l i []) c.words.ensures.same ∙ value_at c.words.result.now i lt in
    let made : lane i state ≡ compress initial_hash_256 b =
    c.compress.ensures i b lt (c.block_of.ensures i lt) ∙ ap (λ (h : List ℕ). compress h b) (c.initial-state.ensures i lt) in
    ap (λ (l : List (List ℕ)). slice_index_or l i []) c.of.ensures ∙ value_at state i lt
    ∙ rw (made, value) (sym (digest_is p n m v (omega arith) (c.requires.numbers i) (c.requires.marks i) (c.words.ensures.words i lt)))
