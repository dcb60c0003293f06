use Rattle.std.proofs.Common.{ℕ, List, ◌≡◌, ◌≢◌, set, subst, sym}
use Rattle.client_steps.specs.Steps.{Client}
use Rattle.client_runs.specs.declared.slot.Slot.{Slot}
use Rattle.client_runs.specs.Runs.{owner}
use Rattle.client_runs.specs.Carried.{ComesOf, script_keys}
use Rattle.client_runs.specs.Clients.{client_at}
use Rattle.client_runs.specs.Slots.{IsOf, client_in, clients_in}
use Rattle.client_runs.proofs.Ended.{all_own, carried, others_stay, ready_without, same_length, still_of}
use Rattle.client_runs.proofs.carrying.Clients.carry_out.Goals as goal

pub step-requires-clause-own : goal.step-requires-clause-own
step-requires-clause-own g c =
    still_of c.self.inside.slots.items c.get-place.result c.args.user c.get-place.ensures.same c.get-place.ensures.range c.self.invariant.size
    c.index_mut.result.now c.replace-slot.result c.index_mut.ensures.value c.replace-slot.ensures.value c.self.invariant.own

pub invariant_of-self : goal.invariant_of-self
invariant_of-self g c =
    ready_without c.self.inside.pinned c.self.inside.slots.items c.get-place.result c.args.user c.get-place.ensures.same c.get-place.ensures.range
    c.replace-slot.new.dest c.replace-slot.ensures.after c.self.invariant

pub invariant_of-self-2 : goal.invariant_of-self-2
invariant_of-self-2 g c =
    let slots = c.self.inside.slots.items in
    let place = c.get-place.result in
    let user = c.args.user in
    let found = c.index_mut.result.now in
    let taken = c.replace-slot.result in
    let given = c.replace-slot.new.dest in
    let new = c.put_in.new.place in
    let same = c.get-place.ensures.same in
    let small = c.get-place.ensures.range in
    let size = c.self.invariant.size in
    record {
      pinned_is = c.self.invariant.pinned_is;
      size = same_length slots place user same small size found taken c.index_mut.ensures.value c.replace-slot.ensures.value given new;
      own = all_own slots place user same small size found taken c.index_mut.ensures.value c.replace-slot.ensures.value given new c.self.invariant.own
          (subst (λ (s : Slot g.row.A.Denot). IsOf (owner script_keys user) s) (sym c.put_in.ensures) c.in_ok-slot.ensures.own);
    }

pub returns-clause-step : goal.returns-clause-step
returns-clause-step g c =
    let slots = c.self.inside.slots.items in
    let user = c.args.user in
    let o = owner script_keys user in
    let new = c.put_in.new.place in
    subst (λ (old : List Client). ComesOf o (client_at old user) c.args.act.now c.in_ok-slot.answer
    (client_at (clients_in (set (set slots c.get-place.result c.replace-slot.new.dest) c.get-place.result new)) user)) c.self.view_is (carried slots c.get-place.result user c.get-place.ensures.same c.get-place.ensures.range c.self.invariant.size
    c.index_mut.result.now c.replace-slot.result c.index_mut.ensures.value c.replace-slot.ensures.value c.replace-slot.new.dest new
    o c.args.act.now c.in_ok-slot.answer
    (subst (λ (s : Slot g.row.A.Denot). ComesOf o (client_in c.replace-slot.result) c.args.act.now c.in_ok-slot.answer (client_in s)) (sym c.put_in.ensures) c.in_ok-slot.ensures.step))

pub returns-clause-others : goal.returns-clause-others
returns-clause-others g c =
    let slots = c.self.inside.slots.items in
    let place = c.get-place.result in
    let new = c.put_in.new.place in
    subst (λ (old : List Client). (u : ℕ) → u ≢ c.args.user
    → client_at (clients_in (set (set slots place c.replace-slot.new.dest) place new)) u ≡ client_at old u) c.self.view_is (others_stay slots c.get-place.result c.args.user c.get-place.ensures.same c.get-place.ensures.range c.self.invariant.size
    c.index_mut.result.now c.replace-slot.result c.index_mut.ensures.value c.replace-slot.ensures.value c.replace-slot.new.dest c.put_in.new.place)
