use Rattle.std.proofs.Common.{◌≡◌, ℕ, Bool, true, false, ◌+◌, ◌-◌, List, [], min, slice_index, slice_index_or, sym, ap, ◌∙◌, inl, inr, arith}
use Rattle.std.proofs.lemmas.Bool.{cases_lt, le-leb, lt-leb, lt-ltb, le-ltb}
use Rattle.std.specs.Prelude.{◌&&◌, nat_le, nat_lt, if◌then◌else◌}
use Rattle.lms_sign.specs.Chains.{chained, step}
use Rattle.lms_sign.proofs.Steps.{chained_more, chained_none}
use Rattle.lms_sign.proofs.stepping.advance_all.Goals as goal

-- so many steps
same_count : (id value : List ℕ) (leaf chain first n m : ℕ) → n ≡ m → chained id leaf chain first n value ≡ chained id leaf chain first m value
same_count id value leaf chain first n m is = ap (λ k. chained id leaf chain first k value) is

pub loop-number-init : goal.loop-number-init
loop-number-init c chain lt =
    let first : ℕ = slice_index c.args.firsts.now chain in
    let value : List ℕ = slice_index_or c.args.values.now chain [] in
    sym (chained_none c.args.id.now value c.args.leaf chain first)
    ∙ same_count c.args.id.now value c.args.leaf chain first (first - first) (min 0 (slice_index c.args.ends.now chain) - first) (omega arith)

pub loop-number-preserved : goal.loop-number-preserved
loop-number-preserved c chain lt =
    let id : List ℕ = c.args.id.now in
    let leaf : ℕ = c.args.leaf in
    let n : ℕ = c.loop-number.number in
    let first : ℕ = slice_index c.args.firsts.now chain in
    let end : ℕ = slice_index c.args.ends.now chain in
    let value : List ℕ = slice_index_or c.args.values.now chain [] in
    let cur : List ℕ = slice_index_or c.loop-number.values chain [] in
    let before = c.loop-number.invariant chain lt in
    let by : (b : Bool) → nat_le first n && nat_lt n end ≡ b → slice_index_or c.step_all.new.values chain [] ≡ if b then step id leaf chain n cur else cur =
    λ b is. c.step_all.ensures chain lt ∙ ap (λ (t : Bool). if t then step id leaf chain n cur else cur) is in
    elim (cases_lt n first) [
      | inl early ↦ by false (ap (λ (t : Bool). t && nat_lt n end) (lt-leb first n early)) ∙ before
          ∙ same_count id value leaf chain first (min n end - first) (min (n + 1) end - first) (omega arith)
      | inr from ↦ elim (cases_lt n end) [
        | inl below ↦ by true (ap (λ (t : Bool). t && nat_lt n end) (le-leb first n from) ∙ lt-ltb n end below) ∙ ap (step id leaf chain n) before
            ∙ ap (λ k. step id leaf chain n (chained id leaf chain first k value)) (omega arith)
            ∙ sym (chained_more id value leaf chain first n from)
            ∙ same_count id value leaf chain first (n + 1 - first) (min (n + 1) end - first) (omega arith)
        | inr past ↦ by false (ap (λ (t : Bool). t && nat_lt n end) (le-leb first n from) ∙ le-ltb n end past) ∙ before
            ∙ same_count id value leaf chain first (min n end - first) (min (n + 1) end - first) (omega arith)
      ]
    ]

pub returns : goal.returns
returns c chain lt =
    let small = c.requires chain lt in
    let all : c.loop-number.number ≡ 15 = omega arith in
    c.loop-number.invariant chain lt
    ∙ same_count c.args.id.now (slice_index_or c.args.values.now chain []) c.args.leaf chain (slice_index c.args.firsts.now chain) _ _ (omega (arith, small, all))
