-- What a client's two devices go through where a text is released, and where it isn't.
use Rattle.std.proofs.Common.{◌≡◌, List, inl, refl, subst}
use Rattle.leaf_ledger.specs.Device.{History, Throughout, at_rest}
use Rattle.leaf_ledger.specs.Ledger.{IsFileOf, IsLeastFree, LeafNumber, UsedWithOrWithout}
use Rattle.leaf_ledger.specs.Moments.{rests, stayed}
use Rattle.leaf_ledger.proofs.Lives.{no_call}
use Rattle.leaf_ledger.proofs.Marked.{one_least}
use Rattle.client_journal.proofs.Lives.{no_call as no_step}
use Rattle.client_journal.specs.Records.{Record, Tells, TellsWithOrWithout}
use Rattle.client_releases.specs.Releasing.{AnyMoment, Devices, IsTried}

-- a journal at rest that isn't touched
pub records_still : (r : Record) (h : History) → h.now ≡ at_rest h.now.text → (rs : List Record) → Tells rs h.now.text → Throughout (TellsWithOrWithout rs r) h h
records_still r h rest rs tells = stayed (TellsWithOrWithout rs r) h (rests (TellsWithOrWithout rs r) h.now h.now.text rest (inl tells))

-- devices at rest that aren't touched
pub untouched : (leaf : LeafNumber) (r : Record) (d : Devices) → d.ledger.file.now ≡ at_rest d.ledger.file.now.text → IsFileOf d.ledger.key d.ledger.file.now.text
    → d.journal.file.now ≡ at_rest d.journal.file.now.text → AnyMoment leaf r d d
untouched leaf r d ledger own journal = record {
  own_file = stayed (IsFileOf d.ledger.key) d.ledger.file (rests (IsFileOf d.ledger.key) d.ledger.file.now d.ledger.file.now.text ledger own);
  leaves = stayed (UsedWithOrWithout leaf d.ledger.file.now.text) d.ledger.file (rests (UsedWithOrWithout leaf d.ledger.file.now.text) d.ledger.file.now d.ledger.file.now.text ledger (inl (λ i. refl)));
  leaves_read = inl (λ i. refl);
  records = records_still r d.journal.file journal;
  records_read = λ rs tells. inl tells;
}

pub none_tried : (record_by : LeafNumber → Record) (d : Devices) → IsTried record_by d d
none_tried record_by d = inl (no_call d.ledger.file, no_step d.journal.file)

-- what is so of the leaf that was taken is so of each leaf that is the least free one
pub of_least : (record_by : LeafNumber → Record) (old new : Devices) (taken : LeafNumber) → IsLeastFree old.ledger.file.now.text taken → AnyMoment taken (record_by taken) old new
    → (leaf : LeafNumber) → IsLeastFree old.ledger.file.now.text leaf → AnyMoment leaf (record_by leaf) old new
of_least record_by old new taken first moments leaf least =
    subst (λ (k : LeafNumber). AnyMoment k (record_by k) old new) (one_least old.ledger.file.now.text taken leaf first least) moments
