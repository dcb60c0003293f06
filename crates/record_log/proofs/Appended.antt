-- `append_all`: records after a gate that isn't open, a sync, and then the gate.
use Rattle.std.proofs.Common.{◌≡◌, inl, inr, ℕ, ◌+◌, ◌-◌, ◌<◌, List, [], ◌∷◌, ◌++◌, length, get_or, take, drop, Result, Ok, Err, OnErr, refl, sym, ◌∙◌, ap, subst, arith}
use Rattle.std.proofs.lemmas.List.{append_assoc, append-nil, drop_at, get_or-append-add, length-append, length-drop, take_all}
use Rattle.leaf_ledger.specs.Device.{Disk, History, Torn, Throughout, extent, at_rest, written, wrote_bytes, WroteSome, synced}
use Rattle.leaf_ledger.specs.Moments.{along, stayed, rests, some_put, some_text, all_put}
use Rattle.leaf_ledger.specs.Writes.{torn_front}
use Rattle.record_log.specs.Records.{Record, chain, Tells, TellsWithOrWithout, AllShort, Reaches}
use Rattle.record_log.specs.Places.{Ends, IsReady, IsLaidOut, MayAddAll, AddsAll}
use Rattle.record_log.proofs.Chains.{short-append, chain-append, chain-opens, one_telling}
use Rattle.record_log.proofs.Reached.{split, ended}
use Rattle.record_log.proofs.Staged.{more, kept_front, tells_staged, after_is, torn_gate, tells_after}

pub on_err : {X E P : Type 0} (r : Result X E) → P → OnErr r P
on_err (Ok x) p = tt
on_err (Err e) p = p

-- where there is nothing to append
pub none_more : (file : List ℕ) (bs : List Record) → length bs ≡ 0 → (l : List Record) → Tells l file → Tells (l ++ bs) file
none_more file [] none l told = subst (λ (x : List Record). Tells x file) (sym (append-nil l)) told
none_more file (b ∷ bs) none l told = absurd (omega (arith, none))

-- the bytes after the first gate
tail_is : (bs : List Record) → 0 < length bs → drop 1 (chain bs ++ 0 ∷ []) ≡ drop 1 (chain bs) ++ 0 ∷ []
tail_is bs some = ap (λ (l : List ℕ). drop 1 (l ++ 0 ∷ [])) (chain-opens bs some)

length-inner : (bs : List Record) → 0 < length bs → length (drop 1 (chain bs) ++ 0 ∷ []) ≡ length (chain bs)
length-inner bs some = omega (arith, length-append (drop 1 (chain bs)) (0 ∷ []), ap length (chain-opens bs some))

-- what is written first of the bytes of records
pub slice_is : (bytes : List ℕ) (bs : List Record) → IsLaidOut bs bytes → take (length bytes - 1) (drop 1 bytes) ≡ drop 1 (chain bs) ++ 0 ∷ []
slice_is bytes bs laid =
    take_all (length bytes - 1) (drop 1 bytes) (omega (arith, length-drop 1 bytes))
    ∙ ap (λ (l : List ℕ). drop 1 l) laid.laid
    ∙ tail_is bs laid.some

pub length-laid : (bytes : List ℕ) (bs : List Record) → IsLaidOut bs bytes → length bytes - 1 ≡ length (chain bs)
length-laid bytes bs laid = omega (arith, ap length laid.laid, length-append (chain bs) (0 ∷ []))

module _ (old : History) (gate : ℕ) (ready : IsReady old.now gate) where
  abbrev file : List ℕ
  file = old.now.text

  abbrev rs : List Record
  rs = ready.ends.records

  abbrev reaches : Reaches file gate rs
  reaches = ready.ends.reaches

  abbrev g : ℕ
  g = get_or file gate 0

  abbrev tail : List ℕ
  tail = drop (gate + 1) file

  parts : file ≡ chain rs ++ g ∷ tail
  parts = split file gate rs reaches

  told_before : Tells rs file
  told_before = ended file gate rs reaches ready.ends.shut

  -- and so they are whatever they are called
  at_any : (X : List Record → Type 0) → X rs → (l : List Record) → Tells l old.now.text → X l
  at_any X here l tells = subst X (one_telling file rs l told_before tells) here

  nothing : (bs : List Record) → Throughout (TellsWithOrWithout rs bs) old old
  nothing bs = stayed (TellsWithOrWithout rs bs) old (rests (TellsWithOrWithout rs bs) old.now file ready.rest (inl told_before))

  -- where nothing is done
  pub untouched : (bs : List Record) → MayAddAll bs old old
  untouched bs = record {
    any_moment = at_any (λ (l : List Record). Throughout (TellsWithOrWithout l bs) old old) (nothing bs);
    reads = λ l told. inl told;
  }

  module _ (bs : List Record) (some : 0 < length bs) (small : AllShort bs) where
    abbrev bytes : List ℕ
    bytes = drop 1 (chain bs) ++ 0 ∷ []

    abbrev staged : List ℕ
    staged = written (gate + 1) bytes file

    abbrev new_file : List ℕ
    new_file = written gate (1 ∷ []) staged

    abbrev left : List ℕ
    left = more file rs gate g tail parts reaches.size ready.ends.shut reaches.short bs some

    new_is : new_file ≡ chain (rs ++ bs) ++ 0 ∷ left
    new_is = after_is file rs gate g tail parts reaches.size ready.ends.shut reaches.short bs some

    abbrev P : List ℕ → Type 0
    P = TellsWithOrWithout rs bs

    torn_first : (l : List ℕ) → Torn file (extent (gate + 1) (length bytes) ∷ []) l → P l
    torn_first l torn =
        inl (kept_front file rs gate g tail parts reaches.size ready.ends.shut reaches.short l
        (torn_front file l (gate + 1) (extent (gate + 1) (length bytes) ∷ []) (omega arith, tt) (omega (arith, reaches.inside)) torn))

    put_failed : (new : History) → WroteSome (gate + 1) (length bytes) old new → Throughout (TellsWithOrWithout rs bs) old new
    put_failed = some_put P old file ready.rest (gate + 1) (length bytes) (inl told_before) torn_first

    put_read : (new : History) → WroteSome (gate + 1) (length bytes) old new → TellsWithOrWithout rs bs new.now.text
    put_read = some_text P old file ready.rest (gate + 1) (length bytes) (inl told_before) torn_first

    pub first_failed : (new : History) → WroteSome (gate + 1) (length bytes) old new → MayAddAll bs old new
    first_failed new wrote = record {
      any_moment = at_any (λ (l : List Record). Throughout (TellsWithOrWithout l bs) old new) (put_failed new wrote);
      reads = at_any (λ (l : List Record). TellsWithOrWithout l bs new.now.text) (put_read new wrote);
    }

    over_all : new_file ≡ written 0 (chain (rs ++ bs) ++ 0 ∷ []) file
    unfolding more
    over_all =
        new_is
        ∙ sym (append_assoc (chain (rs ++ bs)) (0 ∷ []) left)
        ∙ (let same : gate + 1 + length bytes ≡ 0 + length (chain (rs ++ bs) ++ 0 ∷ []) = omega (arith, length-append (chain (rs ++ bs)) (0 ∷ []), length-append (chain rs) (chain bs), ap length (chain-append rs bs), reaches.size, length-inner bs some) in
        ap (λ (k : ℕ). (chain (rs ++ bs) ++ 0 ∷ []) ++ drop k file) same)

    told_after : Tells (rs ++ bs) new_file
    told_after = tells_after file rs gate g tail parts reaches.size ready.ends.shut reaches.short bs some small

    -- after the first sync
    module _ (mid : History) (is : mid ≡ synced (wrote_bytes (gate + 1) bytes old)) where
      rest : mid.now ≡ at_rest staged
      rest = ap (λ (h : History). h.now) is

      before : P staged
      before = inl (tells_staged file rs gate g tail parts reaches.size ready.ends.shut reaches.short bs some)

      first : Throughout P old mid
      first = all_put P old file ready.rest (gate + 1) (length bytes) (inl told_before) torn_first mid staged is before

      torn : (l : List ℕ) → Torn staged (extent gate 1 ∷ []) l → P l
      torn = torn_gate file rs gate g tail parts reaches.size ready.ends.shut reaches.short bs some small

      gate_failed : (new : History) → WroteSome gate 1 mid new → Throughout (TellsWithOrWithout rs bs) old new
      gate_failed new wrote = along P old mid new first (some_put P mid staged rest gate 1 before torn new wrote)

      gate_read : (new : History) → WroteSome gate 1 mid new → TellsWithOrWithout rs bs new.now.text
      gate_read = some_text P mid staged rest gate 1 before torn

      pub second_failed : (new : History) → WroteSome gate 1 mid new → MayAddAll bs old new
      second_failed new wrote = record {
        any_moment = at_any (λ (l : List Record). Throughout (TellsWithOrWithout l bs) old new) (gate_failed new wrote);
        reads = at_any (λ (l : List Record). TellsWithOrWithout l bs new.now.text) (gate_read new wrote);
      }

      module _ (new : History) (done : new ≡ synced (wrote_bytes gate (1 ∷ []) mid)) where
        new_disk : new.now ≡ at_rest new_file
        new_disk = ap (λ (h : History). h.now) done ∙ ap (λ (d : Disk). at_rest (written gate (1 ∷ []) d.text)) rest

        appended : Tells (rs ++ bs) new.now.text
        appended = subst (λ (d : Disk). Tells (rs ++ bs) d.text) (sym new_disk) told_after

        -- the records and a closed gate, from the beginning on
        new_text : new.now.text ≡ written 0 (chain (rs ++ bs) ++ 0 ∷ []) old.now.text
        new_text = ap (λ (d : Disk). d.text) new_disk ∙ over_all

        done_all : Throughout (TellsWithOrWithout rs bs) old new
        done_all =
            along P old mid new first
            (all_put P mid staged rest gate 1 before torn new (written gate (1 ∷ []) mid.now.text) done
            (subst (λ (d : Disk). P (written gate (1 ∷ []) d.text)) (sym rest) (inr told_after)))

        pub all_added : AddsAll bs old new
        all_added = record {
          may = record {
            any_moment = at_any (λ (l : List Record). Throughout (TellsWithOrWithout l bs) old new) done_all;
            reads = at_any (λ (l : List Record). TellsWithOrWithout l bs new.now.text) (inr appended);
          };
          rest = new_disk ∙ ap at_rest (sym (ap (λ (d : Disk). d.text) new_disk));
          appended = at_any (λ (l : List Record). Tells (l ++ bs) new.now.text) appended;
          file = at_any (λ (l : List Record). new.now.text ≡ written 0 (chain (l ++ bs) ++ 0 ∷ []) old.now.text) new_text;
        }

        pub new_ready : IsReady new.now (gate + length (chain bs))
        new_ready = subst (λ (d : Disk). IsReady d (gate + length (chain bs))) (sym new_disk) (record { rest = refl; ends = new_ends })
          where
            size : length (chain (rs ++ bs)) ≡ (gate + length (chain bs))
            size = omega (arith, ap length (chain-append rs bs), length-append (chain rs) (chain bs), reaches.size)

            after : drop (gate + length (chain bs)) new_file ≡ 0 ∷ left
            after = ap (λ (l : List ℕ). drop (gate + length (chain bs)) l) new_is ∙ drop_at (chain (rs ++ bs)) (0 ∷ left) (gate + length (chain bs)) size

            last : get_or new_file (gate + length (chain bs)) 0 ≡ 0
            last =
                ap (λ (l : List ℕ). get_or l (gate + length (chain bs)) 0) new_is
                ∙ (let same : (gate + length (chain bs)) ≡ length (chain (rs ++ bs)) + 0 = omega (arith, size) in ap (λ (k : ℕ). get_or (chain (rs ++ bs) ++ 0 ∷ left) k 0) same)
                ∙ get_or-append-add (chain (rs ++ bs)) (0 ∷ left) 0 0

            new_reaches : Reaches new_file (gate + length (chain bs)) (rs ++ bs)
            new_reaches = record {
              split = new_is ∙ ap (λ (l : List ℕ). chain (rs ++ bs) ++ l) (sym after);
              size = size;
              inside = omega (arith, ap length new_is, length-append (chain (rs ++ bs)) (0 ∷ left), size);
              short = short-append rs bs reaches.short small;
            }

            new_ends : Ends new_file (gate + length (chain bs))
            new_ends = record { records = rs ++ bs; reaches = new_reaches; shut = λ one. absurd (omega (arith, last, one)) }
