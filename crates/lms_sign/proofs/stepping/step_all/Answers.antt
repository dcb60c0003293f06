use Rattle.std.proofs.Common.{◌≡◌, ◌≢◌, ℕ, Bool, true, false, ◌+◌, ◌<◌, List, [], length, take, slice_index, slice_index_or, slice_set, sym, ap, subst, ◌∙◌, arith}
use Rattle.std.proofs.lemmas.List.{get_or-take, length-set, length-take-le}
use Rattle.lms_sign.specs.Chains.{step}
use Rattle.lms_sign.proofs.Stepped.{takes, listed_more, all_more, listed_same, all_same, stepped_more, others_more}
use Rattle.lms_sign.proofs.stepping.step_all.Goals as goal
use Rattle.lms_sign.proofs.stepping.step_all.Goals.{then-takes+then-count-eq-GROUP_SIZE, then-takes+else-count-eq-GROUP_SIZE, else-takes}

pub chains-preserved : goal.chains-preserved
chains-preserved c =
    let id : List ℕ = c.args.id.now in
    let T : ℕ → Bool = takes c.args.number c.args.firsts.now c.args.ends.now in
    let S : ℕ → List ℕ → List ℕ = λ chain value. step id c.args.leaf chain c.args.number value in
    let top : ℕ = c.chains.chain in
    let chains : List ℕ = c.chains.chains in
    let count : ℕ = c.chains.count in
    let done : ℕ = c.chains.done in
    let more : List ℕ = slice_set chains count top in
    let inv = c.chains.invariant in
    let told : T top ≡ c.takes.result = ap T (sym c.from-place.ensures) ∙ sym c.takes.ensures in
    let value : List (List ℕ) → ℕ → List ℕ = λ values k. slice_index_or values k [] in
    elim c.if-takes.branch [
      | then-takes+then-count-eq-GROUP_SIZE w ↦
          let does : T top ≡ true = told ∙ w.if-takes.true in
          let fits : count < length chains = omega (arith, inv.few, inv.long) in
          let listed = listed_more T chains count done top inv.listed inv.complete does inv.order fits in
          let all = all_more T chains count done top inv.listed inv.complete inv.order fits in
          let wide : length more ≡ count + 1 = omega (arith, w.if-count-eq-GROUP_SIZE.array_long, w.if-count-eq-GROUP_SIZE.true) in
          let steps : (k : ℕ) → k < count + 1 → value w.step_listed.new.values (slice_index more k) ≡ S (slice_index more k) (value c.chains.values (slice_index more k)) =
          λ k lt. w.step_listed.ensures.stepped k (omega (arith, wide)) in
          let old : ℕ → List ℕ = value c.args.values.now in
          let cur : ℕ → List ℕ = value c.chains.values in
          let new : ℕ → List ℕ = value w.step_listed.new.values in
          let keeps : (chain : ℕ) → ((k : ℕ) → k < count + 1 → slice_index more k ≢ chain) → new chain ≡ cur chain =
          λ chain others. w.step_listed.ensures.others chain (λ k lt. others k (omega (arith, wide, lt))) in
          rw (w.values-is, w.chains-is, w.count-is, w.done-is)
          (record {
            few = omega arith;
            long = w.if-count-eq-GROUP_SIZE.array_long;
            order = omega arith;
            stepped = stepped_more T more (count + 1) done (top + 1) listed all S old cur new inv.stepped inv.others steps keeps;
            others = others_more T more (count + 1) done (top + 1) listed all S old cur new inv.stepped inv.others steps keeps (omega (arith, inv.order));
            listed = λ k lt. absurd (omega arith);
            complete = λ chain from below it. absurd (omega arith);
          })
      | then-takes+else-count-eq-GROUP_SIZE w ↦
          let does : T top ≡ true = told ∙ w.if-takes.true in
          let fits : count < length chains = omega (arith, inv.few, inv.long) in
          rw (w.values-is, w.chains-is, w.count-is, w.done-is)
          (record {
            few = omega (arith, inv.few, w.if-count-eq-GROUP_SIZE.false);
            long = length-set chains count top ∙ inv.long;
            order = omega (arith, inv.order);
            stepped = inv.stepped;
            others = inv.others;
            listed = listed_more T chains count done top inv.listed inv.complete does inv.order fits;
            complete = all_more T chains count done top inv.listed inv.complete inv.order fits;
          })
      | else-takes w ↦
          let not : T top ≡ false = told ∙ w.if-takes.false in
          rw (w.values-is, w.chains-is, w.count-is, w.done-is)
          (record {
            few = inv.few;
            long = inv.long;
            order = omega (arith, inv.order);
            stepped = inv.stepped;
            others = inv.others;
            listed = listed_same T chains count done top inv.listed inv.complete;
            complete = all_same T chains count done top inv.listed inv.complete not;
          })
    ]

pub returns : goal.returns
returns c chain lt =
    let id : List ℕ = c.args.id.now in
    let T : ℕ → Bool = takes c.args.number c.args.firsts.now c.args.ends.now in
    let S : ℕ → List ℕ → List ℕ = λ chain value. step id c.args.leaf chain c.args.number value in
    let chains : List ℕ = c.chains.chains in
    let count : ℕ = c.chains.count in
    let inv = c.chains.invariant in
    let value : List (List ℕ) → ℕ → List ℕ = λ values k. slice_index_or values k [] in
    let wide : length (take count chains) ≡ count = length-take-le count chains (omega (arith, inv.few, inv.long)) in
    let same : (k : ℕ) → k < count → slice_index (take count chains) k ≡ slice_index chains k = λ k lt. get_or-take count chains k 0 lt in
    let new : ℕ → List ℕ = value c.step_listed-2.new.values in
    let cur : ℕ → List ℕ = value c.chains.values in
    let steps : (k : ℕ) → k < count → new (slice_index chains k) ≡ S (slice_index chains k) (cur (slice_index chains k)) =
    λ k lt. subst (λ n. new n ≡ S n (cur n)) (same k lt) (c.step_listed-2.ensures.stepped k (omega (arith, wide))) in
    let keeps : (chain : ℕ) → ((k : ℕ) → k < count → slice_index chains k ≢ chain) → new chain ≡ cur chain =
    λ chain others. c.step_listed-2.ensures.others chain (λ k lt is. others k (omega (arith, wide)) (sym (same k (omega (arith, wide))) ∙ is)) in
    stepped_more T chains count c.chains.done c.chains.chain inv.listed inv.complete S (value c.args.values.now) cur new inv.stepped inv.others steps keeps chain (omega arith)
