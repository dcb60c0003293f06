use Rattle.std.proofs.Common.{◌≡◌, ◌+◌, ℕ, List, [], ◌∷◌, ◌++◌, take, get_or, sym, ◌∙◌, ap, subst, arith}
use Rattle.std.proofs.lemmas.List.{take_more}
use Rattle.record_log.specs.Records.{Record, chain, AllShort}
use Rattle.record_log.proofs.Chains.{chain-append, short-append}
use Rattle.record_log.proofs.laying.laid_out.Goals as goal

pub loop-one-preserved : goal.loop-one-preserved
loop-one-preserved g c =
    let i = c.loop-one.one-index in
    let added = c.args.added.now in
    let x = c.one-item.result in
    let here : get_or added i x ≡ x = sym c.one-item.is in
    let more : take (i + 1) added ≡ take i added ++ x ∷ [] = take_more added i x (omega arith) ∙ ap (λ (t : Record). take i added ++ t ∷ []) here in
    let bytes : c.lay.new.bytes.items ≡ chain (take i added) ++ chain (x ∷ []) = c.in_ok-lay.ensures.bytes ∙ ap (λ (l : List ℕ). l ++ chain (x ∷ [])) c.loop-one.invariant.0 in
    (bytes ∙ sym (chain-append (take i added) (x ∷ [])) ∙ ap chain (sym more), subst AllShort (sym more) (short-append (take i added) (x ∷ []) c.loop-one.invariant.1 (c.in_ok-lay.ensures.short, tt)))
