-- The history of a text in memory, by its calls.
use Rattle.std.specs.Prelude.{ℕ, zero, suc, Bool, true, false, Option, Some, None, List, [], ◌∷◌}
use Rattle.leaf_ledger.specs.Device.{History, wrote, written, synced}
use Rattle.leaf_ledger.specs.declared.device_call.DeviceCall.{DeviceCall}
use Rattle.leaf_ledger.specs.declared.device_call.DeviceCall.TheVariants as call

-- the history after one call more
abbrev pub after_call : {A : Type 0} → DeviceCall A → History → History
after_call (call.Write extent bytes) h = wrote extent.at extent.size (written extent.at bytes.items h.now.text) h
after_call call.Sync h = synced h

-- the history after these calls, the first of them first
abbrev pub replayed : {A : Type 0} → History → List (DeviceCall A) → History
replayed h [] = h
replayed h (c ∷ calls) = replayed (after_call c h) calls

-- a device in memory as its callers see it: also how many calls go well before the one that fails, if one will
pub record MemoryState : Type 0 where
  pub history : History
  pub faults : ℕ
  pub calls_left : Option ℕ

-- whether the next call is the one that fails
abbrev pub fails_next : Option ℕ → Bool
fails_next None = false
fails_next (Some zero) = true
fails_next (Some (suc n)) = false

-- how many calls go well after it: once one has failed, no other is to fail
abbrev pub one_call_less : Option ℕ → Option ℕ
one_call_less None = None
one_call_less (Some zero) = None
one_call_less (Some (suc n)) = Some n

-- a device over a file as its callers see it
pub record FileState : Type 0 where
  pub history : History
  pub faults : ℕ
