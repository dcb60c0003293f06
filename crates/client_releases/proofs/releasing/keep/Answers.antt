use Rattle.std.proofs.Common.{◌≡◌, ℕ, List, ◌++◌, Result, Ok, Err, OnErr, sym, ◌∙◌, ap, subst, inl, inr, arith}
use Rattle.std.proofs.lemmas.Result.{err_from_is_err_and}
use Rattle.lms_sign.specs.Signature.{signature_of}
use Rattle.leaf_ledger.specs.Device.{History}
use Rattle.leaf_ledger.specs.Ledger.{IsFileOf, LedgerState}
use Rattle.pending_list.specs.Signed.{signature}
use Rattle.client_journal.specs.Records.{MayCome}
use Rattle.client_journal.specs.declared.error.JournalError.TheVariants as journal
use Rattle.client_releases.specs.Errors.{of_ledger, of_journal}
use Rattle.client_releases.proofs.Keeping.{device_only, entry, kept_now, not_taken, not_tried, short_with, taken, tried_one}
use Rattle.client_releases.proofs.UsedUp.{by_none, can_sign}
use Rattle.client_releases.proofs.releasing.keep.Goals as goal

on_err : {T E P : Type 0} (r : Result T E) → P → OnErr r P
on_err (Ok x) p = tt
on_err (Err e) p = p

-- ---- what is called may be called

pub append-requires-clause-short : goal.append-requires-clause-short
append-requires-clause-short g c = short_with c.deref.result.now c.args.unsigned c.from_bytes.result (c.deref.ensures.value ∙ c.sealed-sealed.ensures.kept) c.sealed-sealed.ensures.fits.0 c.requires.short

pub append-requires-clause-turn : goal.append-requires-clause-turn
append-requires-clause-turn g c =
    subst (λ (t : List ℕ). MayCome (entry c.args.kind t) c.args.journal.now.file.now.text) (sym (c.deref.ensures.value ∙ c.sealed-sealed.ensures.kept))
    (c.requires.turn c.from_bytes.result c.sealed-sealed.ensures.fits)

pub append-requires-clause-usable : goal.append-requires-clause-usable
append-requires-clause-usable g c = c.requires.journal_usable

pub sign-spent-requires-clause-has : goal.sign-spent-requires-clause-has
sign-spent-requires-clause-has g c = can_sign c.args.key.now c.args.ledger.now c.in_ok-leaf.leaf.number c.in_ok-leaf.ensures.leaf c.requires.free

-- ---- no leaf was taken

pub returns-in_err-leaf-clause-any_moment : goal.returns-in_err-leaf-clause-any_moment
returns-in_err-leaf-clause-any_moment g c leaf least =
    let t = c.in_err-leaf.ensures in
    not_taken leaf (entry c.args.kind (c.args.unsigned ++ signature_of c.args.key.now leaf c.args.unsigned)) c.args.ledger.now c.take.new.self c.args.journal.now c.requires.journal_rests t.own_file (t.any_moment leaf least) (t.reads leaf least)

pub returns-in_err-leaf-clause-tried : goal.returns-in_err-leaf-clause-tried
returns-in_err-leaf-clause-tried g c = on_err c.from_residual.result (not_tried _ c.args.ledger.now c.take.new.self c.args.journal.now c.in_err-leaf.ensures.step)

pub returns-in_err-leaf-clause-device : goal.returns-in_err-leaf-clause-device
returns-in_err-leaf-clause-device g c =
    let p = err_from_is_err_and c.from_residual.result c.from_residual.ensures.1 in
    let t = c.in_err-leaf.ensures in
    let is = device_only c.in_err-leaf.field-0.0 (λ none. c.requires.free (by_none c.args.key.now c.args.ledger.now (t.no_leaf (ap Err none)).0)) (λ foreign. t.ours (ap Err foreign)) in
    rw p.1 (p.2 ∙ ap of_ledger is, inl (t.device (ap Err is)).1)

pub returns-in_err-leaf-clause-own_file : goal.returns-in_err-leaf-clause-own_file
returns-in_err-leaf-clause-own_file g c = c.take.ensures.reads_own

pub returns-in_err-leaf-clause-none_outstanding : goal.returns-in_err-leaf-clause-none_outstanding
returns-in_err-leaf-clause-none_outstanding g c = c.in_err-leaf.ensures.outstanding_err ∙ c.requires.settled

pub returns-in_err-leaf-clause-same_key : goal.returns-in_err-leaf-clause-same_key
returns-in_err-leaf-clause-same_key g c = c.take.ensures.same_key

-- ---- a leaf was taken

pub returns-in_err-append-clause-any_moment : goal.returns-in_err-append-clause-any_moment
returns-in_err-append-clause-any_moment g c =
    let t = c.in_ok-leaf.ensures in
    let n = c.in_ok-leaf.leaf.number in
    let same : c.take.new.self.file ≡ c.settle.new.self.file = sym (ap (λ (l : LedgerState). l.file) c.settle.ensures.settled) in
    let whole : c.deref.result.now ≡ c.args.unsigned ++ signature_of c.args.key.now n c.args.unsigned = cc in
    let a = c.in_err-append.ensures in
    taken (λ leaf. entry c.args.kind (c.args.unsigned ++ signature_of c.args.key.now leaf c.args.unsigned))
    c.args.ledger.now c.settle.new.self c.args.journal.now c.append.new.self c.take.new.self.file same n t.leaf (entry c.args.kind c.deref.result.now) (ap (λ (x : List ℕ). entry c.args.kind x) whole) t.own_file t.any_moment t.used a.any_moment a.reads

pub returns-in_err-append-clause-tried : goal.returns-in_err-append-clause-tried
returns-in_err-append-clause-tried g c =
    let t = c.in_ok-leaf.ensures in
    let n = c.in_ok-leaf.leaf.number in
    let same : c.take.new.self.file ≡ c.settle.new.self.file = sym (ap (λ (l : LedgerState). l.file) c.settle.ensures.settled) in
    let whole : c.deref.result.now ≡ c.args.unsigned ++ signature_of c.args.key.now n c.args.unsigned = cc in
    on_err c.from_residual-in_err-append.result
    (tried_one (λ leaf. entry c.args.kind (c.args.unsigned ++ signature_of c.args.key.now leaf c.args.unsigned))
    c.args.ledger.now c.settle.new.self c.args.journal.now c.append.new.self c.take.new.self.file same n t.leaf (entry c.args.kind c.deref.result.now) (ap (λ (x : List ℕ). entry c.args.kind x) whole) t.step c.in_err-append.ensures.step)

pub returns-in_err-append-clause-device : goal.returns-in_err-append-clause-device
returns-in_err-append-clause-device g c =
    let p = err_from_is_err_and c.from_residual-in_err-append.result c.from_residual-in_err-append.ensures.1 in
    let a = c.in_err-append.ensures in
    let ours = a.ours in
    let is : c.in_err-append.field-0.0 ≡ journal.Device = cc in
    rw p.1 (p.2 ∙ ap of_journal is, inr (a.device ours))

pub returns-in_err-append-clause-own_file : goal.returns-in_err-append-clause-own_file
returns-in_err-append-clause-own_file g c = subst (λ (h : History). IsFileOf c.args.ledger.now.key h.now.text) (sym (ap (λ (l : LedgerState). l.file) c.settle.ensures.settled)) c.take.ensures.reads_own

pub returns-in_err-append-clause-same_key : goal.returns-in_err-append-clause-same_key
returns-in_err-append-clause-same_key g c = ap (λ (l : LedgerState). l.key) c.settle.ensures.settled ∙ c.take.ensures.same_key

pub returns-in_err-append-clause-none_outstanding : goal.returns-in_err-append-clause-none_outstanding
returns-in_err-append-clause-none_outstanding g c = omega (arith, ap (λ (l : LedgerState). l.outstanding) c.settle.ensures.settled, c.in_ok-leaf.ensures.outstanding, c.requires.settled)

-- ---- the record was appended

pub returns-clause-kept : goal.returns-clause-kept
returns-clause-kept g c =
    let t = c.in_ok-leaf.ensures in
    let a = c.in_ok-append.ensures in
    let n = c.in_ok-leaf.leaf.number in
    let same : c.take.new.self.file ≡ c.settle.new.self.file = sym (ap (λ (l : LedgerState). l.file) c.settle.ensures.settled) in
    let signed : c.sealed-sealed.result.signature ≡ signature_of c.args.key.now n c.args.unsigned = cc in
    let all : c.sealed-sealed.result.kept.items ≡ c.args.unsigned ++ c.sealed-sealed.result.signature = cc in (
      n,
      signed,
      all,
      kept_now c.args.ledger.now c.settle.new.self c.args.journal.now c.append.new.self c.take.new.self.file same n t.leaf (entry c.args.kind c.deref.result.now) (entry c.args.kind c.sealed-sealed.result.kept.items) (ap (λ (x : List ℕ). entry c.args.kind x) c.deref.ensures.value) t.marked t.step a.appended a.at_rest a.step,
    )

pub returns-clause-any_moment : goal.returns-clause-any_moment
returns-clause-any_moment g c =
    let t = c.in_ok-leaf.ensures in
    let n = c.in_ok-leaf.leaf.number in
    let same : c.take.new.self.file ≡ c.settle.new.self.file = sym (ap (λ (l : LedgerState). l.file) c.settle.ensures.settled) in
    let whole : c.deref.result.now ≡ c.args.unsigned ++ signature_of c.args.key.now n c.args.unsigned = cc in
    let a = c.in_ok-append.ensures in
    taken (λ leaf. entry c.args.kind (c.args.unsigned ++ signature_of c.args.key.now leaf c.args.unsigned))
    c.args.ledger.now c.settle.new.self c.args.journal.now c.append.new.self c.take.new.self.file same n t.leaf (entry c.args.kind c.deref.result.now) (ap (λ (x : List ℕ). entry c.args.kind x) whole) t.own_file t.any_moment t.used a.any_moment a.reads

pub returns-clause-own_file : goal.returns-clause-own_file
returns-clause-own_file g c = subst (λ (h : History). IsFileOf c.args.ledger.now.key h.now.text) (sym (ap (λ (l : LedgerState). l.file) c.settle.ensures.settled)) c.take.ensures.reads_own

pub returns-clause-same_key : goal.returns-clause-same_key
returns-clause-same_key g c = ap (λ (l : LedgerState). l.key) c.settle.ensures.settled ∙ c.take.ensures.same_key

pub returns-clause-none_outstanding : goal.returns-clause-none_outstanding
returns-clause-none_outstanding g c = omega (arith, ap (λ (l : LedgerState). l.outstanding) c.settle.ensures.settled, c.in_ok-leaf.ensures.outstanding, c.requires.settled)

pub returns-clause-usable : goal.returns-clause-usable
returns-clause-usable g c = (ap (λ (l : LedgerState). l.usable) c.settle.ensures.settled ∙ c.in_ok-leaf.ensures.usable, c.in_ok-append.ensures.usable)

pub returns-clause-sent : goal.returns-clause-sent
returns-clause-sent g c = c.sealed-sealed.ensures.sent ∙ sym c.sealed-sealed.ensures.kept

pub returns-clause-fits : goal.returns-clause-fits
returns-clause-fits g c = subst signature.Fits (sym c.sealed-sealed.ensures.signature) c.sealed-sealed.ensures.fits
