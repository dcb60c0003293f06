-- One call more, after those that were made.
use Rattle.std.proofs.Common.{◌≡◌, ℕ, List, [], ◌∷◌, ◌++◌, Vec, refl, ◌∙◌, ap}
use Rattle.leaf_ledger.specs.Device.{Disk, History, at_rest, extent, started, wrote, written, synced}
use Rattle.leaf_ledger.specs.Recording.{after_call, replayed}
use Rattle.leaf_ledger.specs.declared.extent.Extent.{Extent}
use Rattle.leaf_ledger.specs.declared.device_call.DeviceCall.{DeviceCall}
use Rattle.leaf_ledger.specs.declared.device_call.DeviceCall.TheVariants as call

replayed_push : {A : Type 0} (h : History) (calls : List (DeviceCall A)) (c : DeviceCall A) → replayed h (calls ++ c ∷ []) ≡ after_call c (replayed h calls)
replayed_push h [] c = refl
replayed_push h (x ∷ calls) c = replayed_push (after_call x h) calls c

-- from calls that made this disk
module _ {A : Type 0} (first text synced_text : List ℕ) (unsynced : List Extent) (calls new : List (DeviceCall A)) (made : (replayed (started first) calls).now ≡ record { text = text; synced_text = synced_text; unsynced = unsynced }) where
  abbrev old : History
  old = replayed (started first) calls

  module _ (is : new ≡ calls ++ call.Sync ∷ []) where
    pub sync_history : replayed (started first) new ≡ synced old
    sync_history = ap (λ (l : List (DeviceCall A)). replayed (started first) l) is ∙ replayed_push (started first) calls call.Sync

    pub sync_disk : (kept : List ℕ) (none : List Extent) → kept ≡ text → none ≡ [] → (replayed (started first) new).now ≡ record { text = text; synced_text = kept; unsynced = none }
    sync_disk kept none same empty =
        let disk : (replayed (started first) new).now ≡ at_rest text = ap (λ (h : History). h.now) sync_history ∙ ap (λ (d : Disk). at_rest d.text) made in
        let named : at_rest text ≡ record { text = text; synced_text = kept; unsynced = none } = cc in
        disk ∙ named

  module _ (at n : ℕ) (bytes : List ℕ) (copy : Vec ℕ A) (copied : copy.items ≡ bytes) (roomy : List (DeviceCall A)) (same : roomy ≡ calls)
      (is : new ≡ roomy ++ call.Write (extent at n) copy ∷ []) where
    pub write_history : replayed (started first) new ≡ wrote at n (written at bytes old.now.text) old
    write_history =
        ap (λ (l : List (DeviceCall A)). replayed (started first) l) (is ∙ ap (λ (l : List (DeviceCall A)). l ++ call.Write (extent at n) copy ∷ []) same)
        ∙ replayed_push (started first) calls (call.Write (extent at n) copy)
        ∙ ap (λ (b : List ℕ). wrote at n (written at b old.now.text) old) copied

    pub write_disk : (next : List ℕ) (extents before : List Extent) → next ≡ written at bytes text → before ≡ unsynced → extents ≡ before ++ extent at n ∷ [] → (replayed (started first) new).now ≡ record { text = next; synced_text = synced_text; unsynced = extents }
    write_disk next extents before done kept more =
        let after : Disk → Disk = λ (d : Disk). record { text = written at bytes d.text; synced_text = d.synced_text; unsynced = d.unsynced ++ extent at n ∷ [] } in
        let disk : (replayed (started first) new).now ≡ after (record { text = text; synced_text = synced_text; unsynced = unsynced }) = ap (λ (h : History). h.now) write_history ∙ ap after made in
        let named : after (record { text = text; synced_text = synced_text; unsynced = unsynced }) ≡ record { text = next; synced_text = synced_text; unsynced = extents } = cc in
        disk ∙ named
