-- `append`: a record after a gate that isn't open, a sync, and then the gate.
use Rattle.std.proofs.Common.{◌≡◌, inl, inr, ℕ, ◌+◌, ◌<◌, ◌^◌, List, [], ◌∷◌, ◌++◌, length, get_or, take, drop, true, Some, None, is_some, IfSome, refl, sym, ◌∙◌, ap, subst, arith}
use Rattle.std.proofs.lemmas.List.{append_assoc, append-nil, take_at, drop_at, take-take, drop-take, get_or-append-add, length-append}
use Rattle.leaf_ledger.specs.Device.{Disk, History, Torn, Throughout, extent, at_rest, written, wrote_bytes, WroteSome, synced}
use Rattle.leaf_ledger.specs.Moments.{along, weakened, some_put, all_put}
use Rattle.leaf_ledger.specs.declared.extent.Extent.{Extent}
use Rattle.client_journal.specs.Records.{Record, State, Idle, Declared, Signed, next_state, header, spelled, chain, MayCome, Tells, TellsWithOrWithout, IsShort}
use Rattle.client_journal.specs.Places.{part, state_at, IsBelow, AreBelow, Reaches, Ends, IsReady, KeepsFront}
use Rattle.client_journal.specs.declared.phase.Phase.{Phase}
use Rattle.client_journal.specs.declared.phase.Phase.TheVariants as phase
use Rattle.client_journal.proofs.Headers.{length-header, length-spelled}
use Rattle.client_journal.proofs.Chains.{state-push, short-push, chain-push, one_telling}
use Rattle.client_journal.proofs.Reached.{below_later, split, ended, told_once}
use Rattle.client_journal.proofs.Staged.{more, kept_front, tells_staged, after_is, torn_gate, tells_after}
use Rattle.client_journal.proofs.Turns.{there}

-- the same bytes before a place, the same parts before it
part_same : (a b : List ℕ) (end : ℕ) (e : Extent) → IsBelow end e → take end a ≡ take end b → part e a ≡ part e b
part_same a b end e below same = cut a ∙ ap (λ (l : List ℕ). drop e.at (take (e.at + e.size) l)) same ∙ sym (cut b)
  where
    cut : (l : List ℕ) → part e l ≡ drop e.at (take (e.at + e.size) (take end l))
    cut l = sym (drop-take e.at e.size l) ∙ ap (λ (x : List ℕ). drop e.at x) (sym (take-take (e.at + e.size) end l below))

state_same : (a b : List ℕ) (end : ℕ) (p : Phase) → AreBelow end p → take end a ≡ take end b → state_at a p ≡ state_at b p
state_same a b end phase.Idle below same = refl
state_same a b end (phase.Declared None certificate) below same = ap (λ (l : List ℕ). Declared None l) (part_same a b end certificate below.1 same)
state_same a b end (phase.Declared (Some structure) certificate) below same =
    ap (λ (l : List ℕ). Declared (Some l) (part certificate a)) (part_same a b end structure below.0 same)
    ∙ ap (λ (l : List ℕ). Declared (Some (part structure b)) l) (part_same a b end certificate below.1 same)
state_same a b end (phase.Signed structure) below same = ap (λ (l : List ℕ). Signed l) (part_same a b end structure below same)

module _ (old : History) (gate : ℕ) (at : Phase) (ready : IsReady old.now gate at) (r : Record) (next : Phase) (small : IsShort r) (turn : MayCome r old.now.text)
    (leads : (file : List ℕ) → IfSome (next_state (state_at file at) r.kind (part (extent (gate + 1 + 5) (length r.text)) file)) (λ s. s ≡ state_at file next))
    (below : (end : ℕ) → AreBelow end at → IsBelow end (extent (gate + 1 + 5) (length r.text)) → AreBelow end next) where
  abbrev file : List ℕ
  file = old.now.text

  abbrev reaches : Reaches file gate at
  reaches = ready.ends.reaches

  abbrev rs : List Record
  rs = reaches.records

  abbrev g : ℕ
  g = get_or file gate 0

  abbrev tail : List ℕ
  tail = drop (gate + 1) file

  parts : file ≡ chain rs ++ g ∷ tail
  parts = split file gate at reaches

  abbrev state : State
  state = state_at file at

  abbrev place : Extent
  place = extent (gate + 1 + 5) (length r.text)

  abbrev end : ℕ
  end = gate + 1 + 5 + length r.text

  abbrev staged : List ℕ
  staged = written (gate + 1) (spelled r ++ 0 ∷ []) file

  abbrev new_file : List ℕ
  new_file = written gate (1 ∷ []) staged

  abbrev left : List ℕ
  left = more file rs state gate g tail parts reaches.size ready.ends.shut reaches.state reaches.short r

  new_is : new_file ≡ chain rs ++ 1 ∷ (spelled r ++ 0 ∷ left)
  new_is = after_is file rs state gate g tail parts reaches.size ready.ends.shut reaches.state reaches.short r

  same_front : take gate new_file ≡ take gate file
  same_front =
      ap (λ (l : List ℕ). take gate l) new_is
      ∙ take_at (chain rs) (1 ∷ (spelled r ++ 0 ∷ left)) gate reaches.size
      ∙ sym (ap (λ (l : List ℕ). take gate l) parts ∙ take_at (chain rs) (g ∷ tail) gate reaches.size)

  -- where the text of the record lies
  text_there : part place new_file ≡ r.text
  text_there =
      ap (λ (l : List ℕ). part place l) (new_is ∙ regrouped)
      ∙ ap (λ (l : List ℕ). take (length r.text) l) (drop_at (chain rs ++ 1 ∷ header r.kind (length r.text)) (r.text ++ 0 ∷ left) (gate + 1 + 5) long)
      ∙ take_at r.text (0 ∷ left) (length r.text) refl
    where
      regrouped : chain rs ++ 1 ∷ (spelled r ++ 0 ∷ left) ≡ (chain rs ++ 1 ∷ header r.kind (length r.text)) ++ (r.text ++ 0 ∷ left)
      regrouped =
          ap (λ (l : List ℕ). chain rs ++ 1 ∷ l) (append_assoc (header r.kind (length r.text)) r.text (0 ∷ left))
          ∙ sym (append_assoc (chain rs) (1 ∷ header r.kind (length r.text)) (r.text ++ 0 ∷ left))

      long : length (chain rs ++ 1 ∷ header r.kind (length r.text)) ≡ gate + 1 + 5
      long = omega (arith, reaches.size, length-append (chain rs) (1 ∷ header r.kind (length r.text)), length-header r.kind (length r.text))

  in_turn : next_state state r.kind r.text ≡ Some (state_at new_file next)
  in_turn = there (next_state state r.kind r.text) (state_at new_file next) may said
    where
      may : is_some (next_state state r.kind r.text) ≡ true
      may = subst (λ (s : State). is_some (next_state s r.kind r.text) ≡ true) (told_once file gate at turn.state ready.ends turn.tells) turn.in_turn

      said : IfSome (next_state state r.kind r.text) (λ s. s ≡ state_at new_file next)
      said =
          subst (λ (x : State). IfSome (next_state x r.kind r.text) (λ s. s ≡ state_at new_file next)) (state_same new_file file gate at reaches.below same_front)
          (subst (λ (l : List ℕ). IfSome (next_state (state_at new_file at) r.kind l) (λ s. s ≡ state_at new_file next)) text_there (leads new_file))

  abbrev P : List ℕ → Type 0
  P = TellsWithOrWithout rs r

  -- these are the records before
  pub told_before : Tells rs file
  told_before = ended file gate at reaches ready.ends.shut

  -- and so they are whatever they are called
  pub at_any : (X : List Record → Type 0) → X rs → (l : List Record) → Tells l old.now.text → X l
  at_any X here l tells = subst X (one_telling file rs l told_before tells) here

  pub kept : (l : List ℕ) → KeepsFront (gate + 1) file l → Tells rs l
  kept = kept_front file rs state gate g tail parts reaches.size ready.ends.shut reaches.state reaches.short

  pub first : (mid : History) → Throughout (KeepsFront (gate + 1) file) old mid → Throughout (TellsWithOrWithout rs r) old mid
  first mid all = weakened (KeepsFront (gate + 1) file) P old mid (λ l same. inl (kept l same)) all

  pub told_after : Tells (rs ++ r ∷ []) new_file
  told_after = tells_after file rs state gate g tail parts reaches.size ready.ends.shut reaches.state reaches.short r (state_at new_file next) in_turn small

  -- after the sync
  module _ (mid : History) (all : Throughout (KeepsFront (gate + 1) file) old mid) (rest : mid.now ≡ at_rest staged) where
    before : P staged
    before = inl (tells_staged file rs state gate g tail parts reaches.size ready.ends.shut reaches.state reaches.short r)

    torn : (l : List ℕ) → Torn staged (extent gate 1 ∷ []) l → P l
    torn = torn_gate file rs state gate g tail parts reaches.size ready.ends.shut reaches.state reaches.short r (state_at new_file next) in_turn small

    pub gate_failed : (new : History) → WroteSome gate 1 mid new → Throughout (TellsWithOrWithout rs r) old new
    gate_failed new some = along P old mid new (first mid all) (some_put P mid staged rest gate 1 before torn new some)

    pub gate_read : (new : History) → WroteSome gate 1 mid new → TellsWithOrWithout rs r new.now.text
    gate_read new (inl none) = subst (λ (l : List ℕ). P l) (sym (ap (λ (h : History). h.now.text) none ∙ ap (λ (d : Disk). d.text) rest)) before
    gate_read new (inr some) =
        subst (λ (l : List ℕ). P l) (sym (ap (λ (h : History). h.now.text) some.2))
        (torn some.0 (subst (λ (d : Disk). Torn d.text (extent gate 1 ∷ []) some.0) rest some.1))

    module _ (new : History) (is : new ≡ synced (wrote_bytes gate (1 ∷ []) mid)) where
      pub new_disk : new.now ≡ at_rest new_file
      new_disk = ap (λ (h : History). h.now) is ∙ ap (λ (d : Disk). at_rest (written gate (1 ∷ []) d.text)) rest

      pub appended : Tells (rs ++ r ∷ []) new.now.text
      appended = subst (λ (d : Disk). Tells (rs ++ r ∷ []) d.text) (sym new_disk) told_after

      -- the records and a closed gate, over what stood there
      pub laid : new.now.text ≡ written 0 (chain (rs ++ r ∷ []) ++ 0 ∷ []) file
      unfolding more
      laid =
          ap (λ (d : Disk). d.text) new_disk
          ∙ new_is
          ∙ sym (chain-push rs r (0 ∷ left))
          ∙ sym (append_assoc (chain (rs ++ r ∷ [])) (0 ∷ []) left)
          ∙ ap (λ (l : List ℕ). (chain (rs ++ r ∷ []) ++ 0 ∷ []) ++ l) following
        where
          size : gate + 1 + length (spelled r ++ 0 ∷ []) ≡ 0 + length (chain (rs ++ r ∷ []) ++ 0 ∷ [])
          size =
              omega (arith, reaches.size, ap length (chain-push rs r (0 ∷ [])), length-append (chain rs) (1 ∷ (spelled r ++ 0 ∷ [])))

          following : left ≡ drop (0 + length (chain (rs ++ r ∷ []) ++ 0 ∷ [])) file
          following = ap (λ (k : ℕ). drop k file) size

      pub done : Throughout (TellsWithOrWithout rs r) old new
      done =
          along P old mid new (first mid all)
          (all_put P mid staged rest gate 1 before torn new (written gate (1 ∷ []) mid.now.text) is
          (subst (λ (d : Disk). P (written gate (1 ∷ []) d.text)) (sym rest) (inr told_after)))

      pub new_ready : end + 1 < 2 ^ 63 → IsReady new.now end next
      new_ready room = subst (λ (d : Disk). IsReady d end next) (sym new_disk) (record { rest = refl; ends = new_ends; bounded = room })
        where
          records_is : new_file ≡ chain (rs ++ r ∷ []) ++ 0 ∷ left
          records_is = new_is ∙ sym (chain-push rs r (0 ∷ left))

          size : length (chain (rs ++ r ∷ [])) ≡ end
          size =
              omega (arith, ap length (sym (append-nil (chain (rs ++ r ∷ []))) ∙ chain-push rs r []), length-append (chain rs) (1 ∷ (spelled r ++ [])), ap length (append-nil (spelled r)), length-spelled r, reaches.size)

          after : drop end new_file ≡ 0 ∷ left
          after = ap (λ (l : List ℕ). drop end l) records_is ∙ drop_at (chain (rs ++ r ∷ [])) (0 ∷ left) end size

          new_reaches : Reaches new_file end next
          new_reaches = record {
            records = rs ++ r ∷ [];
            split = records_is ∙ ap (λ (l : List ℕ). chain (rs ++ r ∷ []) ++ l) (sym after);
            size = size;
            inside = omega (arith, ap length records_is, length-append (chain (rs ++ r ∷ [])) (0 ∷ left), size);
            short = short-push rs r reaches.short small;
            state = state-push Idle state (state_at new_file next) rs r reaches.state in_turn;
            below = below end (below_later at gate end (omega arith) reaches.below) (omega arith);
          }

          last : get_or new_file end 0 ≡ 0
          last =
              ap (λ (l : List ℕ). get_or l end 0) records_is
              ∙ (let same : end ≡ length (chain (rs ++ r ∷ [])) + 0 = omega (arith, size) in ap (λ (k : ℕ). get_or (chain (rs ++ r ∷ []) ++ 0 ∷ left) k 0) same)
              ∙ get_or-append-add (chain (rs ++ r ∷ [])) (0 ∷ left) 0 0

          new_ends : Ends new_file end next
          new_ends = record { reaches = new_reaches; shut = λ one. absurd (omega (arith, last, one)) }
