use Rattle.std.proofs.Common.{◌≡◌, true, is_ok, List, ◌∷◌, ◌++◌, [], map, sym, ◌∙◌, ap, subst, arith}
use Rattle.client_releases.specs.OwnKeys.{AreSettled, OwnKey, closed_key, key_files, ledgers_of}
use Rattle.client_releases.proofs.OwnKeys.{closed_more, settled_last}
use Rattle.client_releases.proofs.own_key.close_before.Goals as goal

pub close-requires : goal.close-requires
close-requires g c =
    let before = subst (λ (l : List OwnKey). AreSettled (ledgers_of l)) c.in-Some.ensures.items c.loop-last.invariant.settled in
    subst (λ (k : OwnKey). k.ledger.outstanding ≡ 0) (sym c.last.view_is) (settled_last c.pop.new.self.items c.in-Some.last before).1

pub loop-last-preserved : goal.loop-last-preserved
loop-last-preserved g c =
    let history = g.L.Device.history in
    let faults = g.L.Device.fault_count in
    let before = subst (λ (l : List OwnKey). AreSettled (ledgers_of l)) c.in-Some.ensures.items c.loop-last.invariant.settled in
    let ok : is_ok c.insert.result ≡ true = c.insert.ensures.succeeds (omega (arith, c.in-Some.ensures.cases, c.loop-last.invariant.room)) in
    let items = rw ok at c.insert.ensures.items in
    let size = rw ok at c.insert.ensures.len in
    let last : OwnKey = record { secret = c.last.inside.key; ledger = c.last.inside.ledger } in
    let closed : closed_key last ≡ record { secret = c.last.inside.key; file = history c.close.result; faults = faults c.close.result } = cc in
    record {
      room = omega (arith, c.in-Some.ensures.cases, size, c.insert.ensures.capacity, c.loop-last.invariant.room);
      settled = (settled_last c.pop.new.self.items c.in-Some.last before).0;
      files =
          ap (λ l. map closed_key c.pop.new.self.items ++ key_files history faults l) items
          ∙ closed_more history faults c.pop.new.self.items last (c.last.inside.key, c.close.result) c.loop-last.keys.items closed
          ∙ ap (λ (k : OwnKey). map closed_key (c.pop.new.self.items ++ k ∷ []) ++ key_files history faults c.loop-last.keys.items) c.last.view_is
          ∙ ap (λ (l : List OwnKey). map closed_key l ++ key_files history faults c.loop-last.keys.items) (sym c.in-Some.ensures.items)
          ∙ c.loop-last.invariant.files;
    }
