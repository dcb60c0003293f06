-- What holds after a client is opened.
use Rattle.std.proofs.Common.{◌≡◌, ◌<◌, List, [], ◌∷◌, ◌++◌, length, Option, Some, None, Ok, IfSome, refl, sym, ap, ◌∙◌, subst, inl, inr, arith}
use Rattle.std.specs.Prelude.{◌⊎◌}
use Rattle.layout.specs.Types.{Bytes}
use Rattle.lms_sign.specs.Signature.{signature_of}
use Rattle.leaf_ledger.specs.Device.{Disk, MayLeave}
use Rattle.leaf_ledger.specs.Life.{IsSure}
use Rattle.leaf_ledger.specs.Moments.{rest_only}
use Rattle.client_journal.specs.Life.{IsPossible}
use Rattle.client_journal.specs.Records.{State as Recorded, Tells, TellsState, state_of}
use Rattle.client_journal.proofs.Chains.{one_telling}
use Rattle.version_order.specs.Structure.{structure}
use Rattle.update_cert.specs.Cert.{cert}
use Rattle.client_releases.specs.declared.phase.Phase.TheVariants as phase
use Rattle.client_releases.specs.Told.{IsPhase, IsReleased, Released, Stands, Told, told_by, told_of}
use Rattle.release_runs.specs.Steps.{Closed, IsOpened, Open, Opens, Owner, Parts, secret_of}
use Rattle.release_runs.specs.Released.{found_text}
use Rattle.release_runs.proofs.Files.{Lies, TellsOne, file_at, files_of, lies_on, still_sure, with_tried}
use Rattle.release_runs.proofs.Holds.{Holds, HoldsAfter, numbered_older}
use Rattle.release_runs.proofs.Members.{In, in-append, in-left, in-right}
use Rattle.release_runs.proofs.Stories.{IsAfter, IsNumbered, IsStory, OfCert, OfStructure, Release, key, last_in, leaf, number_in, phase_in, records, size_of, state_in, state_is, text, text_in, told_in, told_is}
use Rattle.release_runs.proofs.Texts.{long_text}

-- ---- what a file tells of a story

-- a story, or one with what was tried
abbrev pub IsOf : List Release → Option Release → List Release → Type 0
IsOf story tried one = (one ≡ story) ⊎ ((r : Release) × (tried ≡ Some r) × (one ≡ r ∷ story))

-- The file tells this story of the two.
pub record Reads (o : Owner) (story : List Release) (tried : Option Release) (file : Bytes) (told : Told) : Type 0 where
  one : List Release
  is_of : IsOf story tried one
  is_story : IsStory o one
  tells : Tells (records o one) file
  same : told ≡ told_in o one

module _ (o : Owner) where
  state_told : (story : List Release) → IsStory o story → (file : Bytes) → Tells (records o story) file → (recorded : Recorded) → TellsState recorded file → recorded ≡ state_in o story
  state_told story is file tells recorded state =
      let same : state.records ≡ records o story = one_telling file state.records (records o story) state.tells tells in
      let leads : Some recorded ≡ Some (state_in o story) = sym state.leads ∙ ap state_of same ∙ state_is o story is in
      cc leads

  told_same : (story : List Release) → IsStory o story → (recorded : Recorded) → recorded ≡ state_in o story → (told : Told) → told_by o.user recorded ≡ Some told → told ≡ told_in o story
  told_same story is recorded state told by =
      let two : Some told ≡ Some (told_in o story) = sym by ∙ ap (told_by o.user) state ∙ told_is o story is in
      cc two

  read_this : (story : List Release) (tried : Option Release) (one : List Release) → IsOf story tried one → IsStory o one → (file : Bytes) → Tells (records o one) file
      → (recorded : Recorded) → TellsState recorded file → (told : Told) → told_by o.user recorded ≡ Some told → Reads o story tried file told
  read_this story tried one is_of is file tells recorded state told by =
      record { one = one; is_of = is_of; is_story = is; tells = tells; same = told_same one is recorded (state_told one is file tells recorded state) told by }

  read_file : (story : List Release) (tried : Option Release) → IsStory o story → IfSome tried (IsAfter o story) → (file : Bytes) → TellsOne o story tried file
      → (recorded : Recorded) → TellsState recorded file → (told : Told) → told_by o.user recorded ≡ Some told → Reads o story tried file told
  read_file story None is after file t recorded state told by = read_this story None story (inl refl) is file t recorded state told by
  read_file story (Some r) is after file (inl t) recorded state told by = read_this story (Some r) story (inl refl) is file t recorded state told by
  read_file story (Some r) is after file (inr t) recorded state told by = read_this story (Some r) (r ∷ story) (inr (r, refl, refl)) (after, is) file t recorded state told by

-- ---- phases

never_failed : (story : List Release) → phase_in story ≡ phase.Failed → ⊥
never_failed [] e = cc e
never_failed (OfCert k c q ∷ older) e = cc e
never_failed (OfStructure k z q ∷ older) e = cc e

idle_empty : (o : Owner) (story : List Release) → phase_in story ≡ phase.Idle → text_in o story ≡ []
idle_empty o [] e = refl
idle_empty o (OfCert k c q ∷ older) e = absurd (cc e)
idle_empty o (OfStructure k z q ∷ older) e = absurd (cc e)

-- ---- the text that is found

found_only : (xs a : Bytes) → In a (found_text xs) → a ≡ xs
found_only [] a i = absurd i
found_only (x ∷ xs) a (inl e) = e
found_only (x ∷ xs) a (inr i) = absurd i

found_has : (xs : Bytes) → 0 < length xs → In xs (found_text xs)
found_has [] long = absurd (omega arith)
found_has (x ∷ xs) long = inl refl

long_release : (o : Owner) (r : Release) → 0 < length (text o r)
long_release o (OfCert k c q) = omega (arith, long_text (cert.spell c) (signature_of (secret_of k o) q (cert.spell c)) (size_of o k (cert.spell c) q))
long_release o (OfStructure k z q) = omega (arith, long_text (structure.spell z) (signature_of (secret_of k o) q (structure.spell z)) (size_of o k (structure.spell z) q))

found_of : (o : Owner) (story : List Release) (a : Bytes) → In a (found_text (text_in o story)) → (r : Release) × In r story × (a ≡ text o r)
found_of o [] a i = absurd i
found_of o (r ∷ older) a i = (r, inl refl, found_only (text o r) a i)

signed_long : (o : Owner) (story : List Release) → phase_in story ≡ phase.Signed → 0 < length (text_in o story)
signed_long o [] e = absurd (cc e)
signed_long o (r ∷ older) e = long_release o r

-- ---- the step

module _ (o : Owner) (InTurn : Type 0) (story : List Release) (tried : Option Release) (texts : List Bytes) (p : Parts) (h : Holds o InTurn story tried (Closed p) texts) (s : Released) (opens : IsOpened o p s) (sound : IsReleased s) where
  after : Lies o story tried (files_of s.devices) s.devices.journal.file
  after = lies_on o story tried p.ledgers (files_of s.devices) p.journal s.devices.journal.file h.lies (still_sure p.ledgers (files_of s.devices) opens.moments.ledgers) opens.moments.records

  before_told : Reads o story tried p.journal.now.text (told_of s.phase s)
  before_told =
      read_file o story tried h.is_story h.is_tried p.journal.now.text (h.lies.tells p.journal.now.text (inl refl))
      opens.told.recorded opens.told.tells (told_of s.phase s) (ap (λ u. told_by u opens.told.recorded) (sym opens.user) ∙ opens.told.told)

  phase_before : s.phase ≡ phase_in before_told.one
  phase_before = ap (λ (t : Told). t.phase) before_told.same

  up : s.phase ≡ phase.Failed → ⊥
  up down = never_failed before_told.one (sym phase_before ∙ down)

  stands : Stands s
  stands = sound.stands up

  now_told : Reads o story tried s.devices.journal.file.now.text (told_of stands.told_phase s)
  now_told =
      read_file o story tried h.is_story h.is_tried s.devices.journal.file.now.text (after.tells s.devices.journal.file.now.text (inl refl))
      stands.recorded stands.tells (told_of stands.told_phase s) (ap (λ u. told_by u stands.recorded) (sym opens.user) ∙ stands.told)

  told_phase : stands.told_phase ≡ phase_in now_told.one
  told_phase = ap (λ (t : Told). t.phase) now_told.same

  same_phase : IsPhase stands.told_phase s.phase → s.phase ≡ phase_in now_told.one
  same_phase (inl same) = same ∙ told_phase
  same_phase (inr other) =
      let none : s.text ≡ [] = ap (λ (t : Told). t.text) before_told.same ∙ idle_empty o before_told.one (sym phase_before ∙ other.1) in
      let some : 0 < length (text_in o now_told.one) = signed_long o now_told.one (sym told_phase ∙ other.0) in
      let size : length (text_in o now_told.one) ≡ 0 = ap length (sym (ap (λ (t : Told). t.text) now_told.same) ∙ none) in
      absurd (omega arith)

  -- What is so of the story that the journal tells now.
  record Found (one : List Release) : Type 0 where
    is_story : IsStory o one
    numbered : InTurn → IsNumbered one
    lies : Lies o one None (files_of s.devices) s.devices.journal.file
    number : s.number ≡ number_in one
    last : s.last ≡ last_in o one
    text : s.text ≡ text_in o one
    phase : s.phase ≡ phase_in one

  only_file : (file : Bytes) → IsPossible s.devices.journal.file file → file ≡ s.devices.journal.file.now.text
  only_file file (inl same) = same
  only_file file (inr may) = rest_only s.devices.journal.file.now.text file (subst (λ (d : Disk). MayLeave d file) stands.journal_rests may)

  still_used : (one : List Release) → IsOf story tried one → (r : Release) → In r one → IsSure (file_at (key r) (files_of s.devices)) (leaf r)
  still_used one (inl same) r i = after.used r (in_either tried (subst (λ (l : List Release). In r l) same i))
    where
      in_either : (some : Option Release) → In r story → In r (with_tried some story)
      in_either None j = j
      in_either (Some x) j = inr j
  still_used one (inr (x, some, same)) r i =
      after.used r (subst (λ (t : Option Release). In r (with_tried t story)) (sym some) (subst (λ (l : List Release). In r l) same i))

  one_numbered : (one : List Release) → IsOf story tried one → InTurn → IsNumbered one
  one_numbered one (inl same) t = subst (λ (l : List Release). IsNumbered l) (sym same) (numbered_older story tried (h.numbered t))
  one_numbered one (inr (x, some, same)) t =
      subst (λ (l : List Release). IsNumbered l) (sym same) (subst (λ (y : Option Release). IsNumbered (with_tried y story)) some (h.numbered t))

  found : Found now_told.one
  found = record {
    is_story = now_told.is_story;
    numbered = one_numbered now_told.one now_told.is_of;
    lies = record {
      tells = λ file here. subst (λ (f : Bytes). Tells (records o now_told.one) f) (sym (only_file file here)) now_told.tells;
      used = still_used now_told.one now_told.is_of;
    };
    number = ap (λ (t : Told). t.number) now_told.same;
    last = ap (λ (t : Told). t.last) now_told.same;
    text = ap (λ (t : Told). t.text) now_told.same;
    phase = same_phase stands.is_phase;
  }

  module _ (x : Unit {0}) where
    holds : (one : List Release) → Found one → ((a : Bytes) → In a texts → (r : Release) × In r one × (a ≡ text o r)) → ((r : Release) → In r one → In (text o r) (found_text s.text ++ texts))
        → HoldsAfter o InTurn one None (Closed p) texts (Opens (Ok x)) (Open s)
    holds one f released kept = record {
      is_story = f.is_story;
      is_tried = tt;
      numbered = λ t. f.numbered t.1;
      lies = f.lies;
      own = record {
        user = opens.user;
        opened = length p.ledgers;
        secrets = opens.secrets;
        stands = λ _. record { none_tried = refl; number = f.number; last = f.last; text = f.text; phase = inl f.phase };
      };
      released = λ a i. elim (in-append a (found_text s.text) texts i) [
        | inl j ↦ found_of o one a (subst (λ (t : Bytes). In a (found_text t)) f.text j)
        | inr j ↦ released a j
      ];
      kept = kept;
    }

    old_story : Found story → HoldsAfter o InTurn story None (Closed p) texts (Opens (Ok x)) (Open s)
    old_story f = holds story f h.released (λ r i. in-right (text o r) (found_text s.text) texts (h.kept r i))

    new_story : (r : Release) → Found (r ∷ story) → HoldsAfter o InTurn (r ∷ story) None (Closed p) texts (Opens (Ok x)) (Open s)
    new_story r f = holds (r ∷ story) f (λ a i. let k = h.released a i in (k.0, inr k.1, k.2)) kept
      where
        kept : (y : Release) → In y (r ∷ story) → In (text o y) (found_text s.text ++ texts)
        kept y (inl e) =
            in-left (text o y) (found_text s.text) texts
            (subst (λ (t : Bytes). In (text o y) (found_text t)) (ap (text o) e ∙ sym f.text) (found_has (text o y) (long_release o y)))
        kept y (inr i) = in-right (text o y) (found_text s.text) texts (h.kept y i)

    -- the story is the one of before, or that and what was tried
    pub opened_holds : (one : List Release) × IsOf story tried one × (s.phase ≡ phase_in one) × HoldsAfter o InTurn one None (Closed p) texts (Opens (Ok x)) (Open s)
    opened_holds = go now_told.is_of
      where
        go : IsOf story tried now_told.one → (one : List Release) × IsOf story tried one × (s.phase ≡ phase_in one) × HoldsAfter o InTurn one None (Closed p) texts (Opens (Ok x)) (Open s)
        go (inl same) = let f = subst (λ (l : List Release). Found l) same found in (story, inl refl, f.phase, old_story f)
        go (inr (r, some, same)) = let f = subst (λ (l : List Release). Found l) same found in (r ∷ story, inr (r, some, refl), f.phase, new_story r f)
