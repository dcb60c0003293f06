-- The history of a text, by what it was after each call.
use Rattle.std.specs.Prelude.{Option, Some, None, List, [], ◌∷◌}
use Rattle.std.specs.declared.snapshot.Snapshot.{Snapshot}
use Rattle.layout.specs.Types.{Bytes}
use Rattle.leaf_ledger.specs.Device.{History, wrote, synced}
use Rattle.leaf_ledger.specs.declared.extent.Extent.{Extent}
use Rattle.leaf_ledger.specs.declared.moment.Moment.{Moment}

-- the history after one call more, which wrote this extent or was a sync, and after which a read gives this text
abbrev pub after_moment : Option Extent → Bytes → History → History
after_moment (Some extent) text h = wrote extent.at extent.size text h
after_moment None text h = synced h

-- the history after calls, by what the text was after each of them, the first of them first
abbrev pub followed : {A : Type 0} → History → List (Snapshot (Moment A)) → History
followed h [] = h
followed h (s ∷ moments) = followed (after_moment s.value.written s.value.text.items h) moments
