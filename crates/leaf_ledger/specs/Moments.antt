-- Nobody has to believe this file: laws, which are proved.
-- What a crash leaves throughout a run of device calls: laws for the proofs of those who call a device.
use Rattle.std.proofs.Common.{◌≡◌, ◌⊎◌, ℕ, List, [], ◌∷◌, ◌++◌, length, refl, sym, ◌∙◌, ap, subst, arith, inl, inr}
use Rattle.std.proofs.lemmas.List.{append_assoc, append_cancel_right, ext_get_or}
use Rattle.layout.specs.Types.{Bytes}
use Rattle.leaf_ledger.specs.Device.{Disk, History, Torn, MayLeave, Leaves, EachLeaves, Throughout, OneLeaves, LeftDuring, WroteSome, extent, at_rest, moments, wrote, synced}

-- a crash leaves a device at rest as it is
pub rest_only : (file left : Bytes) → MayLeave (at_rest file) left → left ≡ file
rest_only file left torn =
    let size : length left ≡ length file = omega (arith, torn.no_shorter, torn.no_longer) in
    ext_get_or 0 left file size (λ i below. torn.outside i (omega (arith, size, below)) tt)

pub rests : (P : Bytes → Type 0) (disk : Disk) (file : Bytes) → disk ≡ at_rest file → P file → Leaves P disk
rests P disk file is holds left may = subst P (sym (rest_only file left (subst (λ (d : Disk). MayLeave d left) is may))) holds

-- before the first call
pub stayed : (P : Bytes → Type 0) (h : History) → Leaves P h.now → Throughout P h h
stayed P h here = record { since = []; goes_on = refl; at_start = here; each = tt }

-- one moment more
pub one_more : (P : Bytes → Type 0) (old mid : History) (disk : Disk) → Throughout P old mid → Leaves P disk → Throughout P old (record { now = disk; past = moments mid })
one_more P old mid disk so_far here = record {
  since = disk ∷ so_far.since;
  goes_on = ap (λ (ds : List Disk). disk ∷ ds) so_far.goes_on;
  at_start = so_far.at_start;
  each = (here, so_far.each);
}

both_leave : (P : Bytes → Type 0) (a b : List Disk) → EachLeaves P a → EachLeaves P b → EachLeaves P (a ++ b)
both_leave P [] b all rest = rest
both_leave P (d ∷ a) b all rest = (all.0, both_leave P a b all.1 rest)

-- one run of calls after another
pub along : (P : Bytes → Type 0) (old mid new : History) → Throughout P old mid → Throughout P mid new → Throughout P old new
along P old mid new a b = record {
  since = b.since ++ a.since;
  goes_on = b.goes_on ∙ ap (λ (ds : List Disk). b.since ++ ds) a.goes_on ∙ sym (append_assoc b.since a.since (moments old));
  at_start = a.at_start;
  each = both_leave P b.since a.since b.each a.each;
}

-- the last moment among them
pub at_end : (P : Bytes → Type 0) (old new : History) → Throughout P old new → Leaves P new.now
at_end P old new all = from all.since all.goes_on all.each
  where
    from : (since : List Disk) → moments new ≡ since ++ moments old → EachLeaves P since → Leaves P new.now
    from [] is each = let same : new.now ≡ old.now = cc in subst (λ (d : Disk). Leaves P d) (sym same) all.at_start
    from (d ∷ since) is each = let same : new.now ≡ d = cc in subst (λ (d : Disk). Leaves P d) (sym same) each.0

-- one of the moments, each of which leaves what has P
one_has : (P : Bytes → Type 0) (disks : List Disk) (left : Bytes) → EachLeaves P disks → OneLeaves disks left → P left
one_has P [] left each none = absurd none
one_has P (disk ∷ disks) left each (inl here) = each.0 left here
one_has P (disk ∷ disks) left each (inr there) = one_has P disks left each.1 there

pub left_has : (P : Bytes → Type 0) (old new : History) (left : Bytes) → Throughout P old new → LeftDuring old new left → P left
left_has P old new left all during = found during.some
  where
    same : all.since ≡ during.since
    same = append_cancel_right all.since during.since (moments old) (sym all.goes_on ∙ during.goes_on)

    found : MayLeave old.now left ⊎ OneLeaves during.since left → P left
    found (inl start) = all.at_start left start
    found (inr later) = one_has P during.since left (subst (λ (ds : List Disk). EachLeaves P ds) same all.each) later

weaker : (P Q : Bytes → Type 0) (disks : List Disk) → ((c : Bytes) → P c → Q c) → EachLeaves P disks → EachLeaves Q disks
weaker P Q [] leads each = tt
weaker P Q (d ∷ disks) leads each = ((λ c may. leads c (each.0 c may)), weaker P Q disks leads each.1)

-- what has P has Q, at each moment too
pub weakened : (P Q : Bytes → Type 0) (old new : History) → ((c : Bytes) → P c → Q c) → Throughout P old new → Throughout Q old new
weakened P Q old new leads all = record { since = all.since; goes_on = all.goes_on; at_start = λ c may. leads c (all.at_start c may); each = weaker P Q all.since leads all.each }

-- A write to a device, whose crashes then leave what has P, and its sync.
module _ (P : Bytes → Type 0) (old : History) (at n : ℕ) (before : Leaves P old.now)
    (torn : (left : Bytes) → Torn old.now.synced_text (old.now.unsynced ++ extent at n ∷ []) left → P left) where
  pub one_write : (text : Bytes) → Throughout P old (wrote at n text old)
  one_write text = one_more P old old (wrote at n text old).now (stayed P old before) torn

  pub some_write : (new : History) → WroteSome at n old new → Throughout P old new
  some_write new (inl none) = subst (λ (h : History). Throughout P old h) (sym none) (stayed P old before)
  some_write new (inr some) = subst (λ (h : History). Throughout P old h) (sym some.2) (one_write some.0)

  pub all_synced : (new : History) (text : Bytes) → new ≡ synced (wrote at n text old) → P text → Throughout P old new
  all_synced new text is after =
      subst (λ (h : History). Throughout P old h) (sym is) (one_more P old (wrote at n text old) (at_rest text) (one_write text) (rests P (at_rest text) text refl after))

-- The same from a device at rest.
module _ (P : Bytes → Type 0) (old : History) (file : Bytes) (rest : old.now ≡ at_rest file) (at n : ℕ) (before : P file)
    (torn : (left : Bytes) → Torn file (extent at n ∷ []) left → P left) where
  torn_from : (left : Bytes) → Torn old.now.synced_text (old.now.unsynced ++ extent at n ∷ []) left → P left
  torn_from left may = torn left (subst (λ (d : Disk). Torn d.synced_text (d.unsynced ++ extent at n ∷ []) left) rest may)

  pub some_put : (new : History) → WroteSome at n old new → Throughout P old new
  some_put = some_write P old at n (rests P old.now file rest before) torn_from

  -- what a read then gives
  pub some_text : (new : History) → WroteSome at n old new → P new.now.text
  some_text new (inl none) =
      subst (λ (f : Bytes). P f) (sym (ap (λ (h : History). h.now.text) none ∙ ap (λ (d : Disk). d.text) rest)) before
  some_text new (inr some) =
      subst (λ (f : Bytes). P f) (sym (ap (λ (h : History). h.now.text) some.2))
      (torn some.0 (subst (λ (d : Disk). Torn d.text (extent at n ∷ []) some.0) rest some.1))

  pub all_put : (new : History) (text : Bytes) → new ≡ synced (wrote at n text old) → P text → Throughout P old new
  all_put = all_synced P old at n (rests P old.now file rest before) torn_from
