use Rattle.std.proofs.Common.{ℕ, List, [], slice_index_or, sym, ap, ◌∙◌, arith}
use Rattle.std.proofs.lemmas.List.FromFn.{get_or-map-range_with_len}
use Rattle.sha2.specs.Sha256.{digest_bytes}
use Rattle.sha256_lanes.specs.Lanes.{lane}
use Rattle.sha256_lanes.proofs.values.Values.to_arrays.Goals as goal

pub returns : goal.returns
returns c i lt =
    c.digests_of.ensures i lt ∙ sym (get_or-map-range_with_len (λ j. digest_bytes (lane j c.self.inside.words) 8) 0 8 i i [] lt (omega arith))
    ∙ ap (λ (l : List (List ℕ)). slice_index_or l i []) c.self.view_is
