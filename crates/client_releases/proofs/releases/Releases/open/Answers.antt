use Rattle.std.proofs.Common.{rules, ◌≡◌, ℕ, ◌<◌, List, map, length, Some, Err, refl, sym, ◌∙◌, ap, subst, inl, inr, arith}
use Rattle.client_releases.specs.Errors.{of_journal, of_ledger}
use Rattle.client_releases.specs.OwnKeys.{AreLater, ledgers_of, secrets_of}
use Rattle.client_releases.proofs.Opening.{all_tried, journal_damaged, journal_device, journal_only, journal_own, ledger_device, ledger_foreign, ledger_only, ledger_undamaged, only_ledgers, opened, opening_of, opening_only, other_before, reading_only, reading_own, risen_since, told_before, untouched_opening}
use Rattle.client_releases.proofs.OwnKeys.{as_many_files, back_counts, back_files, back_keys, files_of, later_opened, later_refused, refused_foreign, refused_some, risen_refused, same_refused, secrets_same, settled_opened, still_opened, still_refused, untouched_counts}
use Rattle.client_releases.proofs.releases.Releases.open.Goals as goal

-- ---- no memory

pub returns-in_default-clause-moments_err : goal.returns-in_default-clause-moments_err
returns-in_default-clause-moments_err g c = untouched_opening (map (λ k. g.L.Device.history k.1) c.args.keys.items) (g.J.Device.history c.args.journal)

pub returns-in_default-clause-later_err : goal.returns-in_default-clause-later_err
returns-in_default-clause-later_err g c = (untouched_counts (map (λ k. g.L.Device.fault_count k.1) c.args.keys.items), omega arith)

-- ---- a ledger is refused

pub returns-in-Err-clause-moments_err : goal.returns-in-Err-clause-moments_err
returns-in-Err-clause-moments_err g c =
    only_ledgers (map (λ k. g.L.Device.history k.1) c.args.keys.items) (map (λ k. g.L.Device.history k.1) c.in-Err.keys.items) (g.J.Device.history c.args.journal) (still_refused g.L.Device.history g.L.Device.fault_count c.in-Err.error c.args.keys.items c.in-Err.keys.items c.in-Err.ensures.refused)

pub returns-in-Err-clause-foreign : goal.returns-in-Err-clause-foreign
returns-in-Err-clause-foreign g c gives =
    let is : c.into.result ≡ of_ledger c.in-Err.error = search rules in
    refused_foreign c.in-Err.error (ledger_foreign c.in-Err.error (sym is ∙ gives)) (files_of g.L.Device.history g.L.Device.fault_count c.args.keys.items) (files_of g.L.Device.history g.L.Device.fault_count c.in-Err.keys.items) c.in-Err.ensures.refused

pub returns-in-Err-clause-damaged : goal.returns-in-Err-clause-damaged
returns-in-Err-clause-damaged g c gives =
    let is : c.into.result ≡ of_ledger c.in-Err.error = search rules in absurd (ledger_undamaged c.in-Err.error (sym is ∙ gives))

pub returns-in-Err-clause-device : goal.returns-in-Err-clause-device
returns-in-Err-clause-device g c gives =
    let is : c.into.result ≡ of_ledger c.in-Err.error = search rules in
    inl (risen_refused g.L.Device.history g.L.Device.fault_count c.in-Err.error c.args.keys.items c.in-Err.keys.items c.in-Err.ensures.refused (ledger_device c.in-Err.error (sym is ∙ gives)))

pub returns-in-Err-clause-only : goal.returns-in-Err-clause-only
returns-in-Err-clause-only g c =
    let is : c.into.result ≡ of_ledger c.in-Err.error = search rules in
    opening_only c.into.result (rw is (ledger_only c.in-Err.error (refused_some c.in-Err.error (files_of g.L.Device.history g.L.Device.fault_count c.args.keys.items) (files_of g.L.Device.history g.L.Device.fault_count c.in-Err.keys.items) c.in-Err.ensures.refused)))

pub returns-in-Err-clause-later_err : goal.returns-in-Err-clause-later_err
returns-in-Err-clause-later_err g c = (later_refused g.L.Device.history g.L.Device.fault_count c.in-Err.error c.args.keys.items c.in-Err.keys.items c.in-Err.ensures.refused, omega arith)

pub returns-in-Err-clause-keys_err : goal.returns-in-Err-clause-keys_err
returns-in-Err-clause-keys_err g c = same_refused g.L.Device.history g.L.Device.fault_count c.in-Err.error c.args.keys.items c.in-Err.keys.items c.in-Err.ensures.refused

-- ---- the journal is refused

pub close_before-keys-requires-clause-settled : goal.close_before-keys-requires-clause-settled
close_before-keys-requires-clause-settled g c = settled_opened (files_of g.L.Device.history g.L.Device.fault_count c.args.keys.items) (ledgers_of c.in-Ok-open_ledgers.opened.0.items) c.in-Ok-open_ledgers.ensures.opened

pub returns-in-Err-open-clause-moments_err : goal.returns-in-Err-open-clause-moments_err
returns-in-Err-open-clause-moments_err g c =
    let o = c.in-Ok-open_ledgers.ensures in
    let spare = c.in-Ok-open_ledgers.opened.1 in
    let j = c.in-Err-open.ensures in
    let back = back_files g.L.Device.history g.L.Device.fault_count c.in-Ok-open_ledgers.opened.0.items c.close_before-keys.result.items spare.items (omega (arith, spare.ok, o.spare.0)) c.close_before-keys.ensures in
    opening_of (map (λ k. g.L.Device.history k.1) c.args.keys.items) (map (λ l. l.file) (ledgers_of c.in-Ok-open_ledgers.opened.0.items)) (map (λ k. g.L.Device.history k.1) c.close_before-keys.result.items) (g.J.Device.history c.args.journal) (g.J.Device.history c.in-Err-open.journal) (g.J.Device.history c.in-Err-open.journal) back refl
    (all_tried (map (λ k. g.L.Device.history k.1) c.args.keys.items) (map (λ l. l.file) (ledgers_of c.in-Ok-open_ledgers.opened.0.items)) (g.J.Device.history c.args.journal) (g.J.Device.history c.in-Err-open.journal) (still_opened g.L.Device.history g.L.Device.fault_count c.args.keys.items (ledgers_of c.in-Ok-open_ledgers.opened.0.items) o.opened) j.step_err j.kept_err j.left_err j.any_moment_err)

pub returns-in-Err-open-clause-foreign : goal.returns-in-Err-open-clause-foreign
returns-in-Err-open-clause-foreign g c gives =
    let is : c.into-in-Err-open.result ≡ of_journal c.in-Err-open.error = search rules in absurd (journal_own c.in-Err-open.error (sym is ∙ gives))

pub returns-in-Err-open-clause-damaged : goal.returns-in-Err-open-clause-damaged
returns-in-Err-open-clause-damaged g c gives =
    let is : c.into-in-Err-open.result ≡ of_journal c.in-Err-open.error = search rules in inl (c.in-Err-open.ensures.damaged (journal_damaged c.in-Err-open.error (sym is ∙ gives)))

pub returns-in-Err-open-clause-device : goal.returns-in-Err-open-clause-device
returns-in-Err-open-clause-device g c gives =
    let is : c.into-in-Err-open.result ≡ of_journal c.in-Err-open.error = search rules in inr (c.in-Err-open.ensures.device (journal_device c.in-Err-open.error (sym is ∙ gives)))

pub returns-in-Err-open-clause-only : goal.returns-in-Err-open-clause-only
returns-in-Err-open-clause-only g c =
    let is : c.into-in-Err-open.result ≡ of_journal c.in-Err-open.error = search rules in
    opening_only c.into-in-Err-open.result (rw is (journal_only c.in-Err-open.error c.in-Err-open.ensures.no_memory))

pub returns-in-Err-open-clause-later_err : goal.returns-in-Err-open-clause-later_err
returns-in-Err-open-clause-later_err g c =
    let o = c.in-Ok-open_ledgers.ensures in
    let spare = c.in-Ok-open_ledgers.opened.1 in
    let back = back_counts g.L.Device.history g.L.Device.fault_count c.in-Ok-open_ledgers.opened.0.items c.close_before-keys.result.items spare.items (omega (arith, spare.ok, o.spare.0)) c.close_before-keys.ensures in
    (subst (λ (l : List ℕ). AreLater (map (λ k. g.L.Device.fault_count k.1) c.args.keys.items) l) (sym back) (later_opened g.L.Device.history g.L.Device.fault_count c.args.keys.items (ledgers_of c.in-Ok-open_ledgers.opened.0.items) o.opened), c.in-Err-open.ensures.later_err)

pub returns-in-Err-open-clause-keys_err : goal.returns-in-Err-open-clause-keys_err
returns-in-Err-open-clause-keys_err g c =
    let o = c.in-Ok-open_ledgers.ensures in
    let spare = c.in-Ok-open_ledgers.opened.1 in
    back_keys g.L.Device.history g.L.Device.fault_count c.in-Ok-open_ledgers.opened.0.items c.close_before-keys.result.items spare.items (omega (arith, spare.ok, o.spare.0)) c.close_before-keys.ensures ∙ o.secrets

-- ---- all are opened

pub invariant_of-result : goal.invariant_of-result
invariant_of-result g c =
    let o = c.in-Ok-open_ledgers.ensures in
    let j = c.in-Ok-open.ensures in
    let r = c.in-Ok-remembered.ensures in
    let some : 0 < length (files_of g.L.Device.history g.L.Device.fault_count c.args.keys.items) = omega (arith, c.requires, as_many_files g.L.Device.history g.L.Device.fault_count c.args.keys.items) in (
      o.spare.0,
      o.spare.1,
      opened c.args.user (secrets_of c.in-Ok-open_ledgers.opened.0.items) (ledgers_of c.in-Ok-open_ledgers.opened.0.items) (files_of g.L.Device.history g.L.Device.fault_count c.args.keys.items) (o.secrets ∙ sym (secrets_same g.L.Device.history g.L.Device.fault_count c.args.keys.items)) o.opened some
          c.remembered.new.journal c.in-Ok-open.journal c.told.inside.number c.told.inside.last c.told.inside.phase c.told.inside.text.items r.usable j.at_rest r.same r.told.0 r.told.1 (r.told.2 ∙ ap Some (sym c.told.view_is)),
    )

pub returns-in-Ok-remembered-clause-told : goal.returns-in-Ok-remembered-clause-told
returns-in-Ok-remembered-clause-told g c =
    let r = c.in-Ok-remembered.ensures in
    let rs = c.in-Ok-open.ensures.records in
    record { recorded = r.told.0; tells = told_before (g.J.Device.history c.args.journal).now.text c.in-Ok-open.journal.file.now.text rs.0 rs.1 rs.2 r.told.0 r.told.1; told = r.told.2 ∙ ap Some (sym c.told.view_is) }

pub returns-in-Ok-remembered-clause-moments : goal.returns-in-Ok-remembered-clause-moments
returns-in-Ok-remembered-clause-moments g c =
    let o = c.in-Ok-open_ledgers.ensures in
    let j = c.in-Ok-open.ensures in
    opening_of (map (λ k. g.L.Device.history k.1) c.args.keys.items) (map (λ l. l.file) (ledgers_of c.in-Ok-open_ledgers.opened.0.items)) (map (λ l. l.file) (ledgers_of c.in-Ok-open_ledgers.opened.0.items)) (g.J.Device.history c.args.journal) c.in-Ok-open.journal.file c.remembered.new.journal.file refl c.in-Ok-remembered.ensures.same
    (all_tried (map (λ k. g.L.Device.history k.1) c.args.keys.items) (map (λ l. l.file) (ledgers_of c.in-Ok-open_ledgers.opened.0.items)) (g.J.Device.history c.args.journal) c.in-Ok-open.journal.file (still_opened g.L.Device.history g.L.Device.fault_count c.args.keys.items (ledgers_of c.in-Ok-open_ledgers.opened.0.items) o.opened) j.step j.kept j.left j.any_moment)

-- ---- the journal can't be read

pub close_before-keys-requires-in-Err-remembered-clause-settled : goal.close_before-keys-requires-in-Err-remembered-clause-settled
close_before-keys-requires-in-Err-remembered-clause-settled g c = settled_opened (files_of g.L.Device.history g.L.Device.fault_count c.args.keys.items) (ledgers_of c.in-Ok-open_ledgers.opened.0.items) c.in-Ok-open_ledgers.ensures.opened

pub returns-in-Err-remembered-clause-moments_err : goal.returns-in-Err-remembered-clause-moments_err
returns-in-Err-remembered-clause-moments_err g c =
    let o = c.in-Ok-open_ledgers.ensures in
    let spare = c.in-Ok-open_ledgers.opened.1 in
    let j = c.in-Ok-open.ensures in
    let back = back_files g.L.Device.history g.L.Device.fault_count c.in-Ok-open_ledgers.opened.0.items c.close_before-keys-in-Err-remembered.result.items spare.items (omega (arith, spare.ok, o.spare.0)) c.close_before-keys-in-Err-remembered.ensures in
    opening_of (map (λ k. g.L.Device.history k.1) c.args.keys.items) (map (λ l. l.file) (ledgers_of c.in-Ok-open_ledgers.opened.0.items)) (map (λ k. g.L.Device.history k.1) c.close_before-keys-in-Err-remembered.result.items) (g.J.Device.history c.args.journal) c.in-Ok-open.journal.file (g.J.Device.history c.close-journal.result) back (c.close-journal.ensures.file ∙ c.in-Err-remembered.ensures.same)
    (all_tried (map (λ k. g.L.Device.history k.1) c.args.keys.items) (map (λ l. l.file) (ledgers_of c.in-Ok-open_ledgers.opened.0.items)) (g.J.Device.history c.args.journal) c.in-Ok-open.journal.file (still_opened g.L.Device.history g.L.Device.fault_count c.args.keys.items (ledgers_of c.in-Ok-open_ledgers.opened.0.items) o.opened) j.step j.kept j.left j.any_moment)

pub returns-in-Err-remembered-clause-foreign : goal.returns-in-Err-remembered-clause-foreign
returns-in-Err-remembered-clause-foreign g c is = absurd (reading_own c.in-Err-remembered.error c.in-Err-remembered.ensures.only is)

pub returns-in-Err-remembered-clause-damaged : goal.returns-in-Err-remembered-clause-damaged
returns-in-Err-remembered-clause-damaged g c is =
    let rs = c.in-Ok-open.ensures.records in
    inr (other_before c.args.user (g.J.Device.history c.args.journal).now.text c.in-Ok-open.journal.file.now.text (told_before (g.J.Device.history c.args.journal).now.text c.in-Ok-open.journal.file.now.text rs.0 rs.1 rs.2) (c.in-Err-remembered.ensures.damaged (ap Err is)))

pub returns-in-Err-remembered-clause-device : goal.returns-in-Err-remembered-clause-device
returns-in-Err-remembered-clause-device g c is =
    inr (risen_since (g.J.Device.fault_count c.args.journal) c.in-Ok-open.journal.faults c.remembered.new.journal.faults (g.J.Device.fault_count c.close-journal.result) c.in-Ok-open.ensures.later c.close-journal.ensures.faults (c.in-Err-remembered.ensures.device (ap Err is)))

pub returns-in-Err-remembered-clause-only : goal.returns-in-Err-remembered-clause-only
returns-in-Err-remembered-clause-only g c = reading_only c.in-Err-remembered.error c.in-Err-remembered.ensures.only

pub returns-in-Err-remembered-clause-later_err : goal.returns-in-Err-remembered-clause-later_err
returns-in-Err-remembered-clause-later_err g c =
    let o = c.in-Ok-open_ledgers.ensures in
    let spare = c.in-Ok-open_ledgers.opened.1 in
    let back = back_counts g.L.Device.history g.L.Device.fault_count c.in-Ok-open_ledgers.opened.0.items c.close_before-keys-in-Err-remembered.result.items spare.items (omega (arith, spare.ok, o.spare.0)) c.close_before-keys-in-Err-remembered.ensures in (
      subst (λ (l : List ℕ). AreLater (map (λ k. g.L.Device.fault_count k.1) c.args.keys.items) l) (sym back) (later_opened g.L.Device.history g.L.Device.fault_count c.args.keys.items (ledgers_of c.in-Ok-open_ledgers.opened.0.items) o.opened),
      omega (arith, c.in-Ok-open.ensures.later, c.remembered.ensures.later, c.close-journal.ensures.faults),
    )

pub returns-in-Err-remembered-clause-keys_err : goal.returns-in-Err-remembered-clause-keys_err
returns-in-Err-remembered-clause-keys_err g c =
    let o = c.in-Ok-open_ledgers.ensures in
    let spare = c.in-Ok-open_ledgers.opened.1 in
    back_keys g.L.Device.history g.L.Device.fault_count c.in-Ok-open_ledgers.opened.0.items c.close_before-keys-in-Err-remembered.result.items spare.items (omega (arith, spare.ok, o.spare.0)) c.close_before-keys-in-Err-remembered.ensures ∙ o.secrets
