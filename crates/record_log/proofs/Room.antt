-- Bytes that are written after a gate that isn't open: they don't count.
use Rattle.std.proofs.Common.{◌≡◌, ℕ, ◌+◌, ◌<◌, List, [], ◌∷◌, ◌++◌, length, get_or, take, drop, refl, sym, ◌∙◌, ap, subst, arith}
use Rattle.std.proofs.lemmas.List.{drop_at, get_or-append-add, length-append}
use Rattle.leaf_ledger.specs.Device.{Disk, History, Torn, Throughout, extent, at_rest, written, wrote_bytes, WroteSome, synced}
use Rattle.leaf_ledger.specs.Moments.{stayed, rests, some_put, some_text, all_put}
use Rattle.leaf_ledger.specs.Writes.{torn_front, written_front, length-written}
use Rattle.record_log.specs.Records.{Record, chain, Tells, Reaches}
use Rattle.record_log.specs.Places.{Ends, IsReady, KeepsRecords}
use Rattle.record_log.proofs.Chains.{one_telling}
use Rattle.record_log.proofs.Reached.{split, ended}
use Rattle.record_log.proofs.Staged.{same_front, kept_front}

module _ (old : History) (gate : ℕ) (ready : IsReady old.now gate) where
  abbrev file : List ℕ
  file = old.now.text

  abbrev rs : List Record
  rs = ready.ends.records

  abbrev reaches : Reaches file gate rs
  reaches = ready.ends.reaches

  abbrev g : ℕ
  g = get_or file gate 0

  abbrev tail : List ℕ
  tail = drop (gate + 1) file

  parts : file ≡ chain rs ++ g ∷ tail
  parts = split file gate rs reaches

  told : Tells rs file
  told = ended file gate rs reaches ready.ends.shut

  -- and so they are whatever they are called
  at_any : (X : List Record → Type 0) → X rs → (l : List Record) → Tells l old.now.text → X l
  at_any X here l tells = subst X (one_telling file rs l told tells) here

  -- the gate is where they end
  pub size_is : (l : List Record) → Tells l old.now.text → gate ≡ length (chain l)
  size_is = at_any (λ (l : List Record). gate ≡ length (chain l)) (sym reaches.size)

  torn : (n : ℕ) (left : List ℕ) → Torn file (extent (gate + 1) n ∷ []) left → Tells rs left
  torn n left may =
      kept_front file rs gate g tail parts reaches.size ready.ends.shut reaches.short left
      (torn_front file left (gate + 1) (extent (gate + 1) n ∷ []) (omega arith, tt) (omega (arith, reaches.inside)) may)

  -- where nothing is written
  pub unchanged : KeepsRecords old old
  unchanged = record {
    any_moment = at_any (λ (l : List Record). Throughout (Tells l) old old) (stayed (Tells rs) old (rests (Tells rs) old.now file ready.rest told));
    reads = λ l here. here;
  }

  -- some of them
  pub some_behind : (n : ℕ) (new : History) → WroteSome (gate + 1) n old new → KeepsRecords old new
  some_behind n new wrote = record {
    any_moment = at_any (λ (l : List Record). Throughout (Tells l) old new) (some_put (Tells rs) old file ready.rest (gate + 1) n told (torn n) new wrote);
    reads = at_any (λ (l : List Record). Tells l new.now.text) (some_text (Tells rs) old file ready.rest (gate + 1) n told (torn n) new wrote);
  }

  -- all of them, synced
  module _ (bytes : List ℕ) (new : History) (is : new ≡ synced (wrote_bytes (gate + 1) bytes old)) where
    abbrev new_file : List ℕ
    new_file = written (gate + 1) bytes file

    fits : gate < length file
    fits = reaches.inside

    same : take (gate + 1) new_file ≡ take (gate + 1) file
    same = written_front file bytes (gate + 1) (omega (arith, fits))

    told_after : Tells rs new_file
    told_after = kept_front file rs gate g tail parts reaches.size ready.ends.shut reaches.short new_file same

    new_disk : new.now ≡ at_rest new_file
    new_disk = ap (λ (h : History). h.now) is

    pub all_behind : KeepsRecords old new
    all_behind = record {
      any_moment = at_any (λ (l : List Record). Throughout (Tells l) old new)
          (all_put (Tells rs) old file ready.rest (gate + 1) (length bytes) told (torn (length bytes)) new new_file is told_after);
      reads = at_any (λ (l : List Record). Tells l new.now.text) (subst (λ (d : Disk). Tells rs d.text) (sym new_disk) told_after);
    }

    -- the file goes on after the gate
    pub room_behind : (l : List Record) → Tells l old.now.text → length (chain l) + length bytes < length new.now.text
    room_behind = at_any (λ (l : List Record). length (chain l) + length bytes < length new.now.text)
        (omega (arith, reaches.size, length-written file bytes (gate + 1) (omega (arith, fits)), ap (λ (d : Disk). length d.text) new_disk))

    pub still_ready : IsReady new.now gate
    still_ready = subst (λ (d : Disk). IsReady d gate) (sym new_disk) (record { rest = refl; ends = new_ends })
      where
        rest : List ℕ
        rest = drop (gate + 1) new_file

        whole : new_file ≡ chain rs ++ g ∷ rest
        whole = same_front file rs gate g tail parts reaches.size ready.ends.shut reaches.short new_file same

        after : drop gate new_file ≡ g ∷ rest
        after = ap (λ (l : List ℕ). drop gate l) whole ∙ drop_at (chain rs) (g ∷ rest) gate reaches.size

        gate_is : get_or new_file gate 0 ≡ g
        gate_is =
            ap (λ (l : List ℕ). get_or l gate 0) whole
            ∙ (let at : gate ≡ length (chain rs) + 0 = omega (arith, reaches.size) in ap (λ (k : ℕ). get_or (chain rs ++ g ∷ rest) k 0) at)
            ∙ get_or-append-add (chain rs) (g ∷ rest) 0 0

        new_reaches : Reaches new_file gate rs
        new_reaches = record {
          split = whole ∙ ap (λ (l : List ℕ). chain rs ++ l) (sym after);
          size = reaches.size;
          inside = omega (arith, ap length whole, length-append (chain rs) (g ∷ rest), reaches.size);
          short = reaches.short;
        }

        new_ends : Ends new_file gate
        new_ends = record { records = rs; reaches = new_reaches; shut = λ one. ready.ends.shut (sym gate_is ∙ one) }
