-- Nothing is signed before each text that was stored is synced: a certificate or a structure that names a text which the
-- server may still lose can't be taken back.
use Rattle.std.specs.Prelude.{◌≡◌, Bool, true, false, List, [], ◌∷◌, Result, Ok}
use Rattle.wire.specs.declared.kinds.RequestKind.{RequestKind}
use Rattle.wire.specs.declared.kinds.RequestKind.TheVariants as kind
use Rattle.file_session.specs.declared.stop.Stop.{Stop}
use Rattle.file_session.specs.Calls.{Begins, Resigns, Signs}
use Rattle.file_session.specs.Order.{Move, Calls, Sends}
use Rattle.file_session.specs.Replies.{synced_in}

-- whether a text may be stored that isn't synced, after a request and what it says of SYNC, if there was one before
abbrev pub unsynced_by : RequestKind → Result (Unit {0}) Stop → Bool → Bool
unsynced_by kind.Put synced before = true
unsynced_by kind.Sync (Ok x) before = false
unsynced_by other synced before = before

abbrev pub unsynced_after : Move → Bool → Bool
unsynced_after (Sends r x) before = unsynced_by r.kind (synced_in x) before
unsynced_after other before = before

-- where the client signs, no text is unsynced
abbrev pub SignsSynced : Bool → Move → Type 0
SignsSynced unsynced (Calls (Begins changes texts x)) = unsynced ≡ false
SignsSynced unsynced (Calls (Resigns n x)) = unsynced ≡ false
SignsSynced unsynced (Calls (Signs x lost)) = unsynced ≡ false
SignsSynced unsynced other = Unit {0}

-- so it is at each of these moves, one after another
abbrev pub AllSignSynced : Bool → List Move → Type 0
AllSignSynced unsynced [] = Unit {0}
AllSignSynced unsynced (m ∷ ms) = SignsSynced unsynced m × AllSignSynced (unsynced_after m unsynced) ms
