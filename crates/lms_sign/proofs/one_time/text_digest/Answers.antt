use Rattle.std.proofs.Common.{◌++◌, ap, ◌∙◌, List, ℕ, append_assoc}
use Rattle.layout.specs.Hash.{hash}
use Rattle.lms_sign.specs.Hashing.{headed}
use Rattle.lms_sign.specs.OneTime.{digest_of}
use Rattle.lms_sign.proofs.one_time.text_digest.Goals as goal

pub returns : goal.returns
unfolding digest_of
returns c =
    let head = headed c.args.id.now c.args.leaf 0x8181 in
    c.finish.ensures _ (c.update-2.ensures _ (c.update.ensures _ c.headed_hasher-hasher.ensures))
    ∙ ap (λ (l : List ℕ). hash (head ++ l ++ c.args.text.now)) c.as_bytes.ensures.same
    ∙ ap hash (append_assoc head c.args.randomizer.now c.args.text.now)
