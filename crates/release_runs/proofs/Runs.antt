-- What holds after each run, and the laws.
use Rattle.std.specs.List.{Contains}
use Rattle.std.proofs.Common.{◌≡◌, ◌<◌, ℕ, List, [], ◌∷◌, ◌++◌, length, Option, None, Ok, Err, refl, sym, ap, ◌∙◌, subst, inl, arith}
use Rattle.layout.specs.Types.{Bytes}
use Rattle.lms_sign.specs.Signature.{signature_of}
use Rattle.leaf_ledger.specs.Device.{History, started}
use Rattle.leaf_ledger.specs.Life.{IsSure}
use Rattle.client_journal.specs.Life.{IsPossible}
use Rattle.client_journal.specs.Records.{Tells, signature_in, unsigned}
use Rattle.version_order.specs.Structure.{Structure}
use Rattle.update_cert.specs.Cert.{Cert}
use Rattle.client_releases.specs.Told.{cert_in, structure_in}
use Rattle.release_runs.specs.Steps.{Call, Client, Closed, Closes, Commits, Crashes, Declares, Gains, IsLeft, IsSound, IsStep, Open, Opens, Owner, Parts, Resigns, Signs, first, journal_of, ledgers_of, secret_of}
use Rattle.release_runs.specs.Runs.{AreInTurn, Event, IsInTurn, IsRun, client_of}
use Rattle.release_runs.specs.Released.{leaf_in, released, released_by}
use Rattle.release_runs.specs.UsedOnce.{CertificatesOnce, EachIdentifierOnce, EachRun, LeavesOnce, StructuresOnce}
use Rattle.release_runs.proofs.Files.{Lies, file_at, gained_sure, lies_left, lies_on, only_this, still_sure}
use Rattle.release_runs.proofs.Holds.{Holds, closes, commits, numbered_older}
use Rattle.release_runs.proofs.Members.{In, contains_in}
use Rattle.release_runs.proofs.Once.{IsBy, came, found_by, key_by, leaf_told, of_cert, of_structure, one_cert, one_leaf, one_structure, own_key, signed_told, small_leaf}
use Rattle.release_runs.proofs.Opening.{opened_holds}
use Rattle.release_runs.proofs.Releasing.{declare_fails, declares, resign_fails, resigns, sign_fails, signs}
use Rattle.release_runs.proofs.Stories.{OfCert, OfStructure, Release, key, leaf, mark, text}

module _ (o : Owner) where
  -- ---- the beginning

  told_first : (file : Bytes) → IsPossible (started []) file → Tells [] file
  told_first file here = subst (λ (f : Bytes). Tells [] f) (sym (only_this [] file here)) (inl (omega arith, refl))

  pub at_first : Holds o (Unit {0}) [] None first []
  at_first = record {
    is_story = tt;
    is_tried = tt;
    numbered = λ t. tt;
    lies = record { tells = told_first; used = λ r i. absurd i };
    own = tt;
    released = λ a i. absurd i;
    kept = λ r i. absurd i;
  }

  -- ---- a step

  -- what holds, whatever the story
  pub record HoldsSome (InTurn : Type 0) (client : Client) (texts : List Bytes) : Type 0 where
    pub story : List Release
    pub tried : Option Release
    pub held : Holds o InTurn story tried client texts

  abbrev SomeAfter : Type 0 → Client → List Bytes → Call → Client → Type 0
  SomeAfter InTurn before texts call after = HoldsSome (IsInTurn before call × InTurn) after (released_by call after ++ texts)

  module _ (story : List Release) (tried : Option Release) (before : Client) (lies : Lies o story tried (ledgers_of before) (journal_of before)) where
    -- what lies on devices that are handed back, or left by a crash
    pub handed_back : (p : Parts) → p.ledgers ≡ ledgers_of before → p.journal ≡ journal_of before → Lies o story tried p.ledgers p.journal
    handed_back p l j =
        subst (λ x. Lies o story tried x p.journal) (sym l) (subst (λ y. Lies o story tried (ledgers_of before) y) (sym j) lies)

    pub left : (p : Parts) → IsLeft before p → Lies o story tried p.ledgers p.journal
    left p is = lies_left o story tried (ledgers_of before) p.ledgers (journal_of before) p.journal lies is.ledgers is.journal

    -- or that have one ledger more
    pub gained : (p : Parts) → p.ledgers ≡ ledgers_of before ++ started [] ∷ [] → p.journal ≡ journal_of before → Lies o story tried p.ledgers p.journal
    gained p l j = handed_on (subst (λ y. Lies o story tried (ledgers_of before) y) (sym j) lies)
      where
        handed_on : Lies o story tried (ledgers_of before) p.journal → Lies o story tried p.ledgers p.journal
        handed_on here = record {
          tells = here.tells;
          used = λ r i. subst (λ (x : List History). IsSure (file_at (key r) x) (leaf r)) (sym l) (gained_sure (ledgers_of before) (key r) (leaf r) (here.used r i));
        }

  module _ (InTurn : Type 0) (story : List Release) (tried : Option Release) (texts : List Bytes) where
    pub step : (before : Client) (call : Call) (after : Client) → Holds o InTurn story tried before texts → IsStep o before call after → IsSound after → SomeAfter InTurn before texts call after
    step (Closed p) (Opens (Ok x)) (Open s) h is sound = let k = opened_holds o InTurn story tried texts p h s is sound x in record { story = k.0; tried = None; held = k.3 }
    step (Closed p) (Opens (Err e)) (Closed q) h is sound = record {
      story = story;
      tried = tried;
      held = closes o InTurn (Unit {0} × InTurn) story tried texts (λ t. t.1) (Closed p) q h (lies_on o story tried p.ledgers q.ledgers p.journal q.journal h.lies (still_sure p.ledgers q.ledgers is.ledgers) is.records);
    }
    step (Closed p) Crashes (Closed q) h is sound =
        record { story = story; tried = tried; held = closes o InTurn (Unit {0} × InTurn) story tried texts (λ t. t.1) (Closed p) q h (left story tried (Closed p) h.lies q is) }
    step (Closed p) Gains (Closed q) h is sound =
        record { story = story; tried = tried; held = closes o InTurn (Unit {0} × InTurn) story tried texts (λ t. t.1) (Closed p) q h (gained story tried (Closed p) h.lies q is.ledgers is.journal) }
    step (Closed p) call after h is sound = absurd is
    step (Open s) Closes (Closed p) h is sound =
        record { story = story; tried = tried; held = closes o InTurn (Unit {0} × InTurn) story tried texts (λ t. t.1) (Open s) p h (handed_back story tried (Open s) h.lies p is.ledgers is.journal) }
    step (Open s) Crashes (Closed p) h is sound =
        record { story = story; tried = tried; held = closes o InTurn (Unit {0} × InTurn) story tried texts (λ t. t.1) (Open s) p h (left story tried (Open s) h.lies p is) }
    step (Open s) (Declares n c (Ok answer)) (Open new) h is sound =
        let k = declares o InTurn story tried texts s h n c new answer is in record { story = OfCert n c k.0 ∷ story; tried = None; held = k.1 }
    step (Open s) (Declares n c (Err e)) (Open new) h is sound =
        let k = declare_fails o InTurn story tried texts s h n c new e is in record { story = story; tried = k.0; held = k.2 }
    step (Open s) (Resigns n (Ok answer)) (Open new) h is sound =
        let k = resigns o InTurn story tried texts s h n new answer is in record { story = OfCert n k.0 k.1 ∷ story; tried = None; held = k.2 }
    step (Open s) (Resigns n (Err e)) (Open new) h is sound =
        let k = resign_fails o InTurn story tried texts s h n new e is in record { story = story; tried = k.1; held = k.3 }
    step (Open s) (Signs n z (Ok answer)) (Open new) h is sound =
        let k = signs o InTurn story tried texts s h n z new answer is in record { story = OfStructure n z k.0 ∷ story; tried = None; held = k.1 }
    step (Open s) (Signs n z (Err e)) (Open new) h is sound =
        let k = sign_fails o InTurn story tried texts s h n z new e is in record { story = story; tried = k.0; held = k.2 }
    step (Open s) Commits (Open new) h is sound = record { story = story; tried = tried; held = commits o InTurn (Unit {0} × InTurn) story tried texts (λ t. t.1) s new h is }
    step (Open s) call after h is sound = absurd is

  pub holds : (run : List Event) → IsRun o run → HoldsSome (AreInTurn run) (client_of run) (released run)
  holds [] is = record { story = []; tried = None; held = at_first }
  holds (e ∷ older) is =
      let h = holds older is.2 in
      step (AreInTurn older) h.story h.tried (released older) (client_of older) e.call e.after h.held is.0 is.1

-- ---- the laws

-- the release of a text that was released
module _ (o : Owner) (run : List Event) (is : IsRun o run) where
  abbrev some : HoldsSome o (AreInTurn run) (client_of run) (released run)
  some = holds o run is

  by : (a : Bytes) → Contains (released run) a → (r : Release) × IsBy o some.story a r
  by a has = let r = some.held.released a (contains_in a (released run) has) in found_by o some.story a r.0 r.1 r.2

  small : (a : Bytes) (has : Contains (released run) a) → leaf (by a has).0 < 1024
  small a has = small_leaf o some.story some.held.is_story (by a has).0 (by a has).1.inside

  pub one_text : (a b : Bytes) → Contains (released run) a → Contains (released run) b → key_by o some.story a ≡ key_by o some.story b → leaf_in a ≡ leaf_in b → a ≡ b
  one_text a b has_a has_b same_key same_leaf =
      let r = by a has_a in
      let s = by b has_b in
      let keys : key r.0 ≡ key s.0 = sym r.1.key_is ∙ same_key ∙ s.1.key_is in
      let leaves : leaf r.0 ≡ leaf s.0 = sym (leaf_told o r.0 (small a has_a)) ∙ sym (ap leaf_in r.1.text_is) ∙ same_leaf ∙ ap leaf_in s.1.text_is ∙ leaf_told o s.0 (small b has_b) in
      let marks : mark r.0 ≡ mark s.0 = ap (λ (n : ℕ). (n, leaf r.0)) keys ∙ ap (λ (q : ℕ). (key s.0, q)) leaves in
      r.1.text_is ∙ ap (text o) (one_leaf o some.story some.held.is_story r.0 s.0 r.1.inside s.1.inside marks) ∙ sym s.1.text_is

  pub each_own : (a : Bytes) → Contains (released run) a → key_by o some.story a < length o.secrets
  each_own a has = subst (λ (n : ℕ). n < length o.secrets) (sym (by a has).1.key_is) (own_key o some.story some.held.is_story (by a has).0 (by a has).1.inside)

  pub each_signed : (a : Bytes) → Contains (released run) a → signature_in a ≡ signature_of (secret_of (key_by o some.story a) o) (leaf_in a) (unsigned a)
  each_signed a has =
      let r = by a has in
      ap signature_in r.1.text_is
      ∙ signed_told o r.0 (small a has)
      ∙ ap (λ (n : ℕ). signature_of (secret_of n o) (leaf_in (text o r.0)) (unsigned (text o r.0))) (sym r.1.key_is)
      ∙ ap (λ (t : Bytes). signature_of (secret_of (key_by o some.story a) o) (leaf_in t) (unsigned t)) (sym r.1.text_is)

pub leaves_once : EachRun LeavesOnce
leaves_once o run is = record { key_of = key_by o (some o run is).story; own = each_own o run is; signed = each_signed o run is; once = one_text o run is }

-- and of keys with one identifier each leaf, where these are one key
pub identifiers_once : EachIdentifierOnce
identifiers_once o run is apart =
    let leaves = leaves_once o run is in
    record {
      leaves = leaves;
      once = λ a b has_a has_b same. leaves.once a b has_a has_b (apart (leaves.key_of a) (leaves.key_of b) (leaves.own a has_a) (leaves.own b has_b) same);
    }

pub certificates_once : EachRun CertificatesOnce
certificates_once o run is turn a b c d has_a has_b in_a in_b same_number =
    let some = holds o run is in
    let h = some.held in
    let r = h.released a (contains_in a (released run) has_a) in
    let s = h.released b (contains_in b (released run) has_b) in
    let came_r = came o some.story h.is_story r.0 r.1 in
    let came_s = came o some.story h.is_story s.0 s.1 in
    let x = of_cert o r.0 came_r.0 came_r.1 c (ap (cert_in o.user) (sym r.2) ∙ in_a) in
    let y = of_cert o s.0 came_s.0 came_s.1 d (ap (cert_in o.user) (sym s.2) ∙ in_b) in
    let same : x.one.number ≡ y.one.number = sym (ap (λ (v : Cert). v.number) x.value) ∙ same_number ∙ ap (λ (v : Cert). v.number) y.value in
    let in_r = subst (λ (z : Release). In z some.story) x.is r.1 in
    let in_s = subst (λ (z : Release). In z some.story) y.is s.1 in
    x.value ∙ one_cert o some.story h.is_story (numbered_older some.story some.tried (h.numbered turn)) x.by y.by x.one y.one x.leaf y.leaf in_r in_s same ∙ sym y.value

pub structures_once : EachRun StructuresOnce
structures_once o run is turn a b y z has_a has_b in_a in_b same_number =
    let some = holds o run is in
    let h = some.held in
    let r = h.released a (contains_in a (released run) has_a) in
    let s = h.released b (contains_in b (released run) has_b) in
    let came_r = came o some.story h.is_story r.0 r.1 in
    let came_s = came o some.story h.is_story s.0 s.1 in
    let v = of_structure o r.0 came_r.0 came_r.1 y (ap (structure_in o.user) (sym r.2) ∙ in_a) in
    let w = of_structure o s.0 came_s.0 came_s.1 z (ap (structure_in o.user) (sym s.2) ∙ in_b) in
    let same : v.one.plan.number ≡ w.one.plan.number = sym (ap (λ (x : Structure). x.plan.number) v.value) ∙ same_number ∙ ap (λ (x : Structure). x.plan.number) w.value in
    let one =
    one_structure o some.story h.is_story (numbered_older some.story some.tried (h.numbered turn)) r.0 s.0 v.one w.one v.by w.by v.leaf w.leaf v.is w.is r.1 s.1 same in
    r.2 ∙ ap (text o) one ∙ sym s.2
