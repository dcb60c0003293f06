-- Opening a log: of a new one the gate is written, any other is synced.
use Rattle.std.proofs.Common.{◌≡◌, inl, inr, ℕ, ◌≤◌, List, [], ◌∷◌, length, refl, sym, ◌∙◌, ap, subst, arith}
use Rattle.std.proofs.lemmas.List.{drop_all}
use Rattle.leaf_ledger.specs.Device.{Disk, History, Torn, Leaves, Throughout, extent, at_rest, written, wrote_bytes, WroteSome, synced, IsAtMostSynced}
use Rattle.leaf_ledger.specs.Moments.{rests, stayed, one_more, along, weakened, some_put, some_text, all_put}
use Rattle.record_log.specs.Records.{Record, Tells, IsNew, MayBeLeft}
use Rattle.record_log.specs.Places.{Ends, IsReady}
use Rattle.record_log.proofs.Chains.{in_new}
use Rattle.record_log.proofs.Reached.{at_first}

-- a new log tells what another does
pub both_new : (a b : List ℕ) (rs : List Record) → length a ≤ 1 → length b ≤ 1 → Tells rs a → Tells rs b
both_new a b rs few few' tells = inl (few', in_new a rs tells few)

first_byte : (file : List ℕ) → length file ≤ 1 → written 0 (0 ∷ []) file ≡ 0 ∷ []
first_byte file few = ap (λ (l : List ℕ). 0 ∷ l) (drop_all 1 file few)

module _ (old : History) where
  abbrev P : List ℕ → Type 0
  P = MayBeLeft old

  pub as_it_was : (new : History) → new ≡ old → Throughout (MayBeLeft old) old new
  as_it_was new is = subst (λ (h : History). Throughout P old h) (sym is) (stayed P old (λ left may. inl may))

  pub synced_once : (new : History) → new ≡ synced old → Throughout (MayBeLeft old) old new
  synced_once new is =
      subst (λ (h : History). Throughout P old h) (sym is)
      (one_more P old old (at_rest old.now.text) (stayed P old (λ left may. inl may)) (rests P (at_rest old.now.text) old.now.text refl (inr (inl refl))))

  pub at_most_synced : (new : History) → IsAtMostSynced old new → Throughout (MayBeLeft old) old new
  at_most_synced new (inl same) = as_it_was new same
  at_most_synced new (inr after) = synced_once new after

  pub still_new : (new : History) → IsAtMostSynced old new → IsNew old.now.text → IsNew new.now.text
  still_new new (inl same) few = subst (λ (h : History). IsNew h.now.text) (sym same) few
  still_new new (inr after) few = subst (λ (h : History). IsNew h.now.text) (sym after) few

  -- the gate of a new log is written
  module _ (few : length old.now.text ≤ 1) (mid : History) (is : mid ≡ synced old) where
    rest : mid.now ≡ at_rest old.now.text
    rest = ap (λ (h : History). h.now) is

    torn_new : (left : List ℕ) → Torn old.now.text (extent 0 1 ∷ []) left → IsNew left
    torn_new left may = omega (arith, may.no_longer, few)

    torn : (left : List ℕ) → Torn old.now.text (extent 0 1 ∷ []) left → P left
    torn left may = inr (inr (few, torn_new left may))

    pub gate_failed : (new : History) → WroteSome 0 1 mid new → Throughout (MayBeLeft old) old new
    gate_failed new some = along P old mid new (synced_once mid is) (some_put P mid old.now.text rest 0 1 (inr (inl refl)) torn new some)

    pub new_failed : (new : History) → WroteSome 0 1 mid new → IsNew new.now.text
    new_failed = some_text IsNew mid old.now.text rest 0 1 few torn_new

    module _ (new : History) (done : new ≡ synced (wrote_bytes 0 (0 ∷ []) mid)) where
      pub one_gate : new.now ≡ at_rest (0 ∷ [])
      one_gate =
          ap (λ (h : History). h.now) done
          ∙ ap (λ (d : Disk). at_rest (written 0 (0 ∷ []) d.text)) rest
          ∙ ap (λ (l : List ℕ). at_rest l) (first_byte old.now.text few)

      pub gate_there : new.now.text ≡ 0 ∷ []
      gate_there = ap (λ (d : Disk). d.text) one_gate

      pub gate_written : Throughout (MayBeLeft old) old new
      gate_written =
          along P old mid new (synced_once mid is)
          (all_put P mid old.now.text rest 0 1 (inr (inl refl)) torn new (written 0 (0 ∷ []) mid.now.text) done
          (inr (inr (few, omega (arith, ap length (ap (λ (d : Disk). written 0 (0 ∷ []) d.text) rest ∙ first_byte old.now.text few))))))

      pub tells_before : (rs : List Record) → Tells rs new.now.text → Tells rs old.now.text
      tells_before rs = both_new new.now.text old.now.text rs (omega (arith, ap length gate_there)) few

      pub new_ready : IsReady new.now 0
      new_ready = subst (λ (d : Disk). IsReady d 0) (sym one_gate) (record { rest = refl; ends = at_gate })
        where
          at_gate : Ends (0 ∷ []) 0
          at_gate = record { records = []; reaches = at_first (0 ∷ []) (omega arith); shut = λ is. absurd (omega (arith, is)) }

-- where each crash before left what tells these records, so does each crash while it is opened
pub any_moment : (old new : History) → Throughout (MayBeLeft old) old new → (rs : List Record) → Tells rs old.now.text → Leaves (Tells rs) old.now → Throughout (Tells rs) old new
any_moment old new all rs tells before = weakened (MayBeLeft old) (Tells rs) old new each all
  where
    each : (left : List ℕ) → MayBeLeft old left → Tells rs left
    each left (inl may) = before left may
    each left (inr (inl same)) = subst (λ (l : List ℕ). Tells rs l) (sym same) tells
    each left (inr (inr new)) = both_new old.now.text left rs new.0 new.1 tells
