use Rattle.std.proofs.Common.{◌≡◌, ◌+◌, ◌++◌, ℕ, List, length, sym, ◌∙◌, ap, subst, arith}
use Rattle.std.proofs.lemmas.List.{length-append}
use Rattle.std.specs.BTreeMap.{get}
use Rattle.std.specs.Cmp.Lexicographic.{slice_cmp}
use Rattle.std.specs.Ordering.{nat_cmp}
use Rattle.layout.specs.Hash.{hash}
use Rattle.layout.specs.HashLaws.{length-hash}
use Rattle.leaf_ledger.specs.Device.{wrote_bytes}
use Rattle.block_file.specs.Blocks.{BlockFile, Keeps, spelled, own, end_mark}
use Rattle.block_file.specs.Life.{Call}
use Rattle.block_file.proofs.Appended.{bytes_are, call, kept, others, sound_after}
use Rattle.block_file.proofs.Found.{still_sound}
use Rattle.block_file.proofs.Heads.{length-spelled}
use Rattle.block_file.proofs.Kept.{some_call}
use Rattle.block_file.proofs.Maps.{same_places, set_for, others_for}
use Rattle.block_file.proofs.blocks.BlockFile.append.Goals as goal

pub invariant_of-self : goal.invariant_of-self
invariant_of-self g c usable =
    let s = c.self.inside in
    let held = c.self.invariant usable in (
      held.0,
      λ tells. still_sound (g.S.Storage.history s.storage).now s.end (get (slice_cmp nat_cmp) s.index) (get (slice_cmp nat_cmp) c.set_place.new.index)
          (λ d. same_places s.index c.set_place.new.index c.in_err-set_place.ensures.err d) (held.1 tells),
    )

pub returns-in_err-write_at-clause-step : goal.returns-in_err-write_at-clause-step
returns-in_err-write_at-clause-step g c tells =
    let s = c.self.inside in
    let usable = ap (λ (b : BlockFile). b.usable) c.self.view_is ∙ c.requires.usable in
    let sound = (c.self.invariant usable).1 tells in
    let old = g.S.Storage.history s.storage in
    let new = g.S.Storage.history c.write_at.new.self in
    subst (λ (b : BlockFile). Call b.file new) c.self.view_is (some_call old s.end sound.blocks sound.ends sound.front (length c.deref.result.now) new (c.in_err-write_at.ensures.err tells))

pub invariant_of-self-2 : goal.invariant_of-self-2
invariant_of-self-2 g c _ =
    let s = c.self.inside in
    let usable = ap (λ (b : BlockFile). b.usable) c.self.view_is ∙ c.requires.usable in
    let text = c.args.text.now in
    let old = g.S.Storage.history s.storage in
    let new = g.S.Storage.history c.write_at.new.self in
    let look = get (slice_cmp nat_cmp) s.index in
    let look' = get (slice_cmp nat_cmp) c.set_place.new.index in
    let laid : c.deref.result.now ≡ spelled (own text) ++ end_mark = bytes_are c.args.wanted text c.deref.result.now c.requires.own (c.deref.ensures.value ∙ c.in_ok-bytes.ensures) in
    let size : length c.deref.result.now ≡ 40 + length text = omega (arith, ap length laid, length-append (spelled (own text)) end_mark, length-spelled (own text) (length-hash text, c.requires.small)) in (
      omega (arith, c.in_ok-write_at.ensures.bounded, size),
      λ tells.
          sound_after old s.end look ((c.self.invariant usable).1 tells) text c.requires.small look'
          (set_for s.index c.set_place.new.index c.args.wanted (hash text) c.new-place.result (record { at = s.end + 36; size = length text }) c.in_ok-set_place.ensures.ok c.requires.own c.new-place.ensures)
          (others_for s.index c.set_place.new.index c.args.wanted (hash text) c.new-place.result c.in_ok-set_place.ensures.ok c.requires.own)
          new (c.in_ok-write_at.ensures.ok tells ∙ ap (λ (l : List ℕ). wrote_bytes s.end l old) laid),
    )

pub returns-clause-file : goal.returns-clause-file
returns-clause-file g c tells =
    let s = c.self.inside in
    let text = c.args.text.now in
    let new = g.S.Storage.history c.write_at.new.self in
    let laid : c.deref.result.now ≡ spelled (own text) ++ end_mark = bytes_are c.args.wanted text c.deref.result.now c.requires.own (c.deref.ensures.value ∙ c.in_ok-bytes.ensures) in
    subst (λ (b : BlockFile). new ≡ wrote_bytes b.end (spelled (own text) ++ end_mark) b.file) c.self.view_is
    (c.in_ok-write_at.ensures.ok tells ∙ ap (λ (l : List ℕ). wrote_bytes s.end l (g.S.Storage.history s.storage)) laid)

pub returns-clause-kept : goal.returns-clause-kept
returns-clause-kept g c tells =
    let s = c.self.inside in
    let usable = ap (λ (b : BlockFile). b.usable) c.self.view_is ∙ c.requires.usable in
    let old = g.S.Storage.history s.storage in
    let new = g.S.Storage.history c.write_at.new.self in
    let laid = bytes_are c.args.wanted c.args.text.now c.deref.result.now c.requires.own (c.deref.ensures.value ∙ c.in_ok-bytes.ensures) in
    kept old s.end (get (slice_cmp nat_cmp) s.index) ((c.self.invariant usable).1 tells) c.args.text.now c.requires.small new (c.in_ok-write_at.ensures.ok tells ∙ ap (λ (l : List ℕ). wrote_bytes s.end l old) laid)

pub returns-clause-others : goal.returns-clause-others
returns-clause-others g c tells other there =
    let s = c.self.inside in
    let usable = ap (λ (b : BlockFile). b.usable) c.self.view_is ∙ c.requires.usable in
    let old = g.S.Storage.history s.storage in
    let new = g.S.Storage.history c.write_at.new.self in
    let laid = bytes_are c.args.wanted c.args.text.now c.deref.result.now c.requires.own (c.deref.ensures.value ∙ c.in_ok-bytes.ensures) in
    others old s.end (get (slice_cmp nat_cmp) s.index) ((c.self.invariant usable).1 tells) c.args.text.now c.requires.small new (c.in_ok-write_at.ensures.ok tells ∙ ap (λ (l : List ℕ). wrote_bytes s.end l old) laid)
    other (subst (λ (b : BlockFile). Keeps other b.file.now.text) (sym c.self.view_is) there)

pub returns-clause-step : goal.returns-clause-step
returns-clause-step g c tells =
    let s = c.self.inside in
    let usable = ap (λ (b : BlockFile). b.usable) c.self.view_is ∙ c.requires.usable in
    let old = g.S.Storage.history s.storage in
    let new = g.S.Storage.history c.write_at.new.self in
    let laid = bytes_are c.args.wanted c.args.text.now c.deref.result.now c.requires.own (c.deref.ensures.value ∙ c.in_ok-bytes.ensures) in
    subst (λ (b : BlockFile). Call b.file new) c.self.view_is
    (call old s.end (get (slice_cmp nat_cmp) s.index) ((c.self.invariant usable).1 tells) c.args.text.now c.requires.small new (c.in_ok-write_at.ensures.ok tells ∙ ap (λ (l : List ℕ). wrote_bytes s.end l old) laid))
