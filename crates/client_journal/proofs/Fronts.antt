-- A run of writes from a place on: what stands before it stays, whatever crash comes.
use Rattle.std.proofs.Common.{◌≡◌, inl, inr, ℕ, ◌+◌, ◌≤◌, List, [], ◌∷◌, ◌++◌, length, take, refl, sym, ◌∙◌, ap, subst, arith}
use Rattle.std.proofs.lemmas.List.{length-append, take-take}
use Rattle.leaf_ledger.specs.Device.{Disk, History, Torn, Leaves, Throughout, extent, at_rest, written, wrote_bytes, WroteSome, synced}
use Rattle.leaf_ledger.specs.Moments.{rests, stayed, one_more, along, one_write, some_write}
use Rattle.leaf_ledger.specs.Writes.{AreAfter, after-push, torn_front, written_front, length-written, written_on}
use Rattle.client_journal.specs.Places.{KeepsFront}

-- three writes, one on from another
pub three : (file header text last : List ℕ) (at : ℕ) → at ≤ length file → length header ≡ 5
    → written (at + 5 + length text) last (written (at + 5) text (written at header file)) ≡ written at (header ++ text ++ last) file
three file header text last at fits five =
    (let same : at + 5 ≡ at + length header = omega (arith, five) in ap (λ (k : ℕ). written (at + 5 + length text) last (written k text (written at header file))) same)
    ∙ ap (λ (l : List ℕ). written (at + 5 + length text) last l) (written_on file header at fits text)
    ∙ (let same : at + 5 + length text ≡ at + length (header ++ text) = omega (arith, five, length-append header text) in ap (λ (k : ℕ). written k last (written at (header ++ text) file)) same)
    ∙ written_on file (header ++ text) at fits last

module _ (place : ℕ) (file : List ℕ) (old : History) (rest : old.now ≡ at_rest file) (fits : place ≤ length file) where
  -- before the place all is as it was
  pub record Run (h : History) : Type 0 where
    pub synced_text : h.now.synced_text ≡ file
    pub after : AreAfter place h.now.unsynced
    pub front : take place h.now.text ≡ take place file
    pub long : place ≤ length h.now.text
    pub always : Throughout (KeepsFront place file) old h

  before : Leaves (KeepsFront place file) old.now
  before = rests (KeepsFront place file) old.now file rest refl

  pub start : Run old
  start = record {
    synced_text = ap (λ (d : Disk). d.synced_text) rest;
    after = subst (λ (d : Disk). AreAfter place d.unsynced) (sym rest) tt;
    front = ap (λ (d : Disk). take place d.text) rest;
    long = subst (λ (d : Disk). place ≤ length d.text) (sym rest) fits;
    always = stayed (KeepsFront place file) old before;
  }

  module _ (h : History) (run : Run h) where
    leaves : Leaves (KeepsFront place file) h.now
    leaves left torn = torn_front file left place h.now.unsynced run.after fits (subst (λ (l : List ℕ). Torn l h.now.unsynced left) run.synced_text torn)

    -- a write from the place on
    module _ (at n : ℕ) (later : place ≤ at) where
      torn_more : (left : List ℕ) → Torn h.now.synced_text (h.now.unsynced ++ extent at n ∷ []) left → KeepsFront place file left
      torn_more left torn =
          torn_front file left place (h.now.unsynced ++ extent at n ∷ []) (after-push place h.now.unsynced (extent at n) run.after later) fits
          (subst (λ (l : List ℕ). Torn l (h.now.unsynced ++ extent at n ∷ []) left) run.synced_text torn)

      pub failed : (new : History) → WroteSome at n h new → Throughout (KeepsFront place file) old new
      failed new some = along (KeepsFront place file) old h new run.always (some_write (KeepsFront place file) h at n leaves torn_more new some)

      pub failed_read : (new : History) → WroteSome at n h new → KeepsFront place file new.now.text
      failed_read new (inl none) = ap (λ (x : History). take place x.now.text) none ∙ run.front
      failed_read new (inr some) =
          ap (λ (x : History). take place x.now.text) some.2
          ∙ torn_front h.now.text some.0 place (extent at n ∷ []) (later, tt) run.long some.1
          ∙ run.front

    pub goes_on : (at : ℕ) (bytes : List ℕ) (new : History) → place ≤ at → at ≤ length h.now.text → new ≡ wrote_bytes at bytes h → Run new
    goes_on at bytes new later inside is = subst (λ (x : History). Run x) (sym is) (record {
      synced_text = run.synced_text;
      after = after-push place h.now.unsynced (extent at (length bytes)) run.after later;
      front =
          sym (take-take place at (written at bytes h.now.text) later)
          ∙ ap (λ (l : List ℕ). take place l) (written_front h.now.text bytes at inside)
          ∙ take-take place at h.now.text later
          ∙ run.front;
      long = omega (arith, length-written h.now.text bytes at inside, later);
      always =
          along (KeepsFront place file) old h (wrote_bytes at bytes h) run.always
          (one_write (KeepsFront place file) h at (length bytes) leaves (torn_more at (length bytes) later) (written at bytes h.now.text));
    })

    -- a sync, which may fail
    pub ends : (new : History) → new ≡ synced h → Throughout (KeepsFront place file) old new
    ends new is =
        subst (λ (x : History). Throughout (KeepsFront place file) old x) (sym is)
        (one_more (KeepsFront place file) old h (at_rest h.now.text) run.always (rests (KeepsFront place file) (at_rest h.now.text) h.now.text refl run.front))

    pub unsynced : (new : History) → new ≡ h → Throughout (KeepsFront place file) old new
    unsynced new is = subst (λ (x : History). Throughout (KeepsFront place file) old x) (sym is) run.always

-- a header, a text and a last part, one on from another
module _ (at : ℕ) (old : History) (header text last : List ℕ) (rest : old.now ≡ at_rest old.now.text) (fits : at ≤ length old.now.text) (five : length header ≡ 5) where
  module _ (h1 : History) (ok1 : h1 ≡ wrote_bytes at header old) where
    pub first : Run at old.now.text old rest fits h1
    first = goes_on at old.now.text old rest fits old (start at old.now.text old rest fits) at header h1 (omega arith) fits ok1

    inside2 : at + 5 ≤ length h1.now.text
    inside2 = omega (arith, five, ap (λ (h : History). length h.now.text) ok1, length-written old.now.text header at fits)

    module _ (h2 : History) (ok2 : h2 ≡ wrote_bytes (at + 5) text h1) where
      pub second : Run at old.now.text old rest fits h2
      second = goes_on at old.now.text old rest fits h1 first (at + 5) text h2 (omega arith) inside2 ok2

      inside3 : at + 5 + length text ≤ length h2.now.text
      inside3 = omega (arith, ap (λ (h : History). length h.now.text) ok2, length-written h1.now.text text (at + 5) inside2)

      module _ (h3 : History) (ok3 : h3 ≡ wrote_bytes (at + 5 + length text) last h2) where
        pub third : Run at old.now.text old rest fits h3
        third = goes_on at old.now.text old rest fits h2 second (at + 5 + length text) last h3 (omega arith) inside3 ok3

        pub all_written : h3.now.text ≡ written at (header ++ text ++ last) old.now.text
        all_written =
            ap (λ (h : History). h.now.text) ok3
            ∙ ap (λ (h : History). written (at + 5 + length text) last h.now.text) ok2
            ∙ ap (λ (h : History). written (at + 5 + length text) last (written (at + 5) text h.now.text)) ok1
            ∙ three old.now.text header text last at fits five
