use Rattle.std.proofs.Common.{◌≡◌, ◌<◌, ℕ, refl, true, is_ok, List, ◌∷◌, ◌++◌, [], length, map, vec_len, sym, ◌∙◌, ap, subst, arith, append_assoc, append-nil}
use Rattle.std.proofs.lemmas.Bool.{eqb-true, eqb-false}
use Rattle.leaf_ledger.specs.Ledger.{IsFileOf, IsForeign, LedgerState}
use Rattle.client_releases.specs.OwnKeys.{AreOpened, IsOpened, IsRefused, KeyFile, OneIsRefused, OwnKey, closed_key, key_files, ledgers_of, secrets_of}
use Rattle.client_releases.proofs.OwnKeys.{first_taken, ledgers_more, none_left, opened_more, refused_after, secrets_more, secrets_same, settled_opened}
use Rattle.client_releases.proofs.own_key.open_ledgers.Goals as goal

pub loop-rest-preserved : goal.loop-rest-preserved
loop-rest-preserved g c =
    let history = g.L.Device.history in
    let faults = g.L.Device.fault_count in
    let inv = c.loop-rest.invariant in
    let done = inv.opened.0 in
    let own = c.loop-rest.own.items in
    let key = c.remove-key.result in
    let full = eqb-false (vec_len c.loop-rest.rest) 0 (sym c.is_empty.ensures ∙ c.loop-rest-test.true) in
    let some : 0 < length c.loop-rest.rest.items = omega (arith, c.loop-rest.rest.ok, full) in
    let taken = first_taken c.loop-rest.rest.items c.remove-key.new.self.items key some c.remove-key.ensures.value c.remove-key.ensures.items in
    let file : KeyFile = record { secret = key.0; file = history key.1; faults = faults key.1 } in
    let new : OwnKey = record { secret = key.0; ledger = c.in-Ok.ledger } in
    let e = c.in-Ok.ensures in
    let opened : IsOpened file c.in-Ok.ledger = record {
      key = e.key ∙ c.public.ensures;
      usable = e.usable;
      settled = e.none_outstanding;
      rests = e.at_rest;
      own_file = subst (λ (k : List ℕ). IsFileOf k c.in-Ok.ledger.file.now.text) c.public.ensures e.file;
      used = e.used;
      still = record { leaves = e.step; kept = e.kept };
      own = λ foreign. e.own (subst (λ (k : List ℕ). IsForeign k (history key.1).now.text) (sym c.public.ensures) foreign);
      later = e.later;
    } in
    let ok : is_ok c.push.result ≡ true = c.push.ensures.succeeds (omega (arith, inv.room, c.remove-key.ensures.len)) in
    let items = rw ok at c.push.ensures.items in
    let size = rw ok at c.push.ensures.len in
    record {
      room = omega (arith, inv.room, size, c.push.ensures.capacity, c.remove-key.ensures.len);
      back = omega (arith, inv.back, size, c.remove-key.ensures.capacity, c.remove-key.ensures.len);
      opened = (
        done ++ file ∷ [],
        subst (λ (l : List LedgerState). AreOpened (done ++ file ∷ []) l) (sym (ledgers_more own new) ∙ ap ledgers_of (sym items)) (opened_more done (ledgers_of own) file c.in-Ok.ledger inv.opened.1 opened),
        ap secrets_of items ∙ secrets_more own new done file inv.opened.2 refl,
        append_assoc done (file ∷ []) (key_files history faults c.remove-key.new.self.items) ∙ ap (λ l. done ++ key_files history faults l) (sym taken) ∙ inv.opened.3,
      );
    }

pub close_before-requires-clause-settled : goal.close_before-requires-clause-settled
close_before-requires-clause-settled g c = settled_opened c.loop-rest.invariant.opened.0 (ledgers_of c.loop-rest.own.items) c.loop-rest.invariant.opened.1

pub returns-in-Err-clause-refused : goal.returns-in-Err-clause-refused
returns-in-Err-clause-refused g c =
    let history = g.L.Device.history in
    let faults = g.L.Device.fault_count in
    let inv = c.loop-rest.invariant in
    let done = inv.opened.0 in
    let own = c.loop-rest.own.items in
    let key = c.remove-key.result in
    let full = eqb-false (vec_len c.loop-rest.rest) 0 (sym c.is_empty.ensures ∙ c.loop-rest-test.true) in
    let some : 0 < length c.loop-rest.rest.items = omega (arith, c.loop-rest.rest.ok, full) in
    let taken = first_taken c.loop-rest.rest.items c.remove-key.new.self.items key some c.remove-key.ensures.value c.remove-key.ensures.items in
    let old : KeyFile = record { secret = key.0; file = history key.1; faults = faults key.1 } in
    let new : KeyFile = record { secret = key.0; file = history c.in-Err.ledger; faults = faults c.in-Err.ledger } in
    let rest = key_files history faults c.remove-key.new.self.items in
    let e = c.in-Err.ensures in
    let one : IsRefused c.in-Err.error old new = record {
      secret = refl;
      still = record { leaves = e.step_err; kept = e.kept_err };
      foreign = λ is. subst (λ (k : List ℕ). IsForeign k (history key.1).now.text) c.public.ensures (e.foreign is);
      device = e.device;
      some = e.no_leaf;
      later = e.later_err;
    } in
    let ok : is_ok c.insert.result ≡ true = c.insert.ensures.succeeds (omega (arith, inv.back, c.remove-key.ensures.capacity, c.remove-key.ensures.len)) in
    let items = rw ok at c.insert.ensures.items in
    let after = refused_after c.in-Err.error done own old new rest inv.opened.1 inv.opened.2 one in
    subst (λ (l : List KeyFile). OneIsRefused c.in-Err.error l (key_files history faults c.close_before.result.items)) (ap (λ l. done ++ key_files history faults l) (sym taken) ∙ inv.opened.3)
    (subst (λ (l : List KeyFile). OneIsRefused c.in-Err.error (done ++ old ∷ rest) l) (sym (c.close_before.ensures ∙ ap (λ l. map closed_key own ++ key_files history faults l) items)) after)

pub returns-clause-opened : goal.returns-clause-opened
returns-clause-opened g c =
    let history = g.L.Device.history in
    let faults = g.L.Device.fault_count in
    let inv = c.loop-rest.invariant in
    let done = inv.opened.0 in
    let zero = eqb-true (vec_len c.loop-rest.rest) 0 (sym c.is_empty.ensures ∙ c.loop-rest-test.false) in
    let none = none_left c.loop-rest.rest.items (omega (arith, c.loop-rest.rest.ok, zero)) in
    let all = sym (append-nil done) ∙ ap (λ l. done ++ key_files history faults l) (sym none) ∙ inv.opened.3 in
    subst (λ (l : List KeyFile). AreOpened l (ledgers_of c.loop-rest.own.items)) all inv.opened.1

pub returns-clause-secrets : goal.returns-clause-secrets
returns-clause-secrets g c =
    let history = g.L.Device.history in
    let faults = g.L.Device.fault_count in
    let inv = c.loop-rest.invariant in
    let done = inv.opened.0 in
    let zero = eqb-true (vec_len c.loop-rest.rest) 0 (sym c.is_empty.ensures ∙ c.loop-rest-test.false) in
    let none = none_left c.loop-rest.rest.items (omega (arith, c.loop-rest.rest.ok, zero)) in
    let all = sym (append-nil done) ∙ ap (λ l. done ++ key_files history faults l) (sym none) ∙ inv.opened.3 in
    inv.opened.2 ∙ ap (λ (l : List KeyFile). map (λ k. k.secret) l) all ∙ secrets_same history faults c.args.keys.items
