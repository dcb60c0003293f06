-- What holds after a certificate is declared or signed again, and after a structure is signed.
use Rattle.std.proofs.Common.{◌≡◌, ◌+◌, ◌<◌, ℕ, List, ◌∷◌, ◌++◌, length, get_or, arith, Option, Some, None, Ok, Err, IfSome, refl, sym, ap, ◌∙◌, subst, inl, inr}
use Rattle.std.specs.Prelude.{◌⊎◌, min}
use Rattle.std.proofs.Math.Nat.{min-le_left, min-le_right}
use Rattle.std.proofs.lemmas.List.{get_or-take, length-take}
use Rattle.layout.specs.Types.{Bytes}
use Rattle.lms_sign.specs.Secret.{Secret}
use Rattle.lms_sign.specs.Signature.{signature_of}
use Rattle.leaf_ledger.specs.Ledger.{LeafNumber}
use Rattle.leaf_ledger.specs.Life.{Call as Handed}
use Rattle.client_journal.specs.Life.{Appended, Tried, Call as Added}
use Rattle.client_journal.specs.Records.{Record, unsigned}
use Rattle.version_order.specs.Structure.{Structure, structure}
use Rattle.update_cert.specs.Cert.{Cert, cert}
use Rattle.pending_list.specs.declared.signed.Signed.{Signed}
use Rattle.client_releases.specs.declared.error.ClientError.{ClientError}
use Rattle.client_releases.specs.declared.phase.Phase.{Phase}
use Rattle.client_releases.specs.declared.phase.Phase.TheVariants as phase
use Rattle.client_releases.specs.Releasing.{IsKept, IsTried, OthersStay, cert_record, ledger_at, no_secret, structure_record, under}
use Rattle.client_releases.specs.Told.{HasKey, IsPhase, Released, secret_at, sent}
use Rattle.release_runs.specs.Steps.{Declares, HasDeclared, HasResigned, HasSigned, Open, Owner, Resigns, Signs, failed, secret_of, with_cert, with_cert_again}
use Rattle.release_runs.proofs.Files.{Lies, called_sure, files_of, fresh_leaf, lies_on, lies_tried, lies_with, with_tried}
use Rattle.release_runs.proofs.Holds.{Holds, HoldsAfter, IsAt, numbered_older}
use Rattle.release_runs.proofs.Stories.{IsAfter, IsNextCert, IsNumberAfter, IsNumbered, OfCert, OfStructure, Release, cert_turn, declared_cert, next_number, number_in, phase_in, record_of, text, text_in}

-- a client that is idle declares nothing
not_declared : (told now : Phase) → IsPhase told now → now ≡ phase.Idle → told ≡ phase.Declared → ⊥
not_declared told now (inl same) idle declared = let two : phase.Idle ≡ phase.Declared = sym idle ∙ same ∙ declared in cc two
not_declared told now (inr other) idle declared = let two : phase.Signed ≡ phase.Declared = sym other.0 ∙ declared in cc two

-- one that is Declared has declared
is_declared : (told now : Phase) → IsPhase told now → now ≡ phase.Declared → told ≡ phase.Declared
is_declared told now (inl same) declared = sym same ∙ declared
is_declared told now (inr other) declared = let two : phase.Declared ≡ phase.Idle = sym declared ∙ other.1 in absurd (cc two)

-- nothing was tried, or this certificate
abbrev pub IsTriedCert : ℕ → Cert → Option Release → Type 0
IsTriedCert n c some = (some ≡ None) ⊎ ((q : LeafNumber) × (some ≡ Some (OfCert n c q)))

-- nothing was tried, or this structure
abbrev pub IsTriedStructure : ℕ → Structure → Option Release → Type 0
IsTriedStructure n z some = (some ≡ None) ⊎ ((q : LeafNumber) × (some ≡ Some (OfStructure n z q)))

module _ (o : Owner) (InTurn : Type 0) (story : List Release) (tried : Option Release) (texts : List Bytes) (s : Released) (h : Holds o InTurn story tried (Open s) texts) where
  lies_none : tried ≡ None → Lies o story None (files_of s.devices) s.devices.journal.file
  lies_none none = subst (λ (t : Option Release). Lies o story t (files_of s.devices) s.devices.journal.file) none h.lies

  story_numbered : InTurn → IsNumbered story
  story_numbered t = numbered_older story tried (h.numbered t)

  -- a key of the client is its owner's
  own_key : (n : ℕ) → HasKey n s → n < length o.secrets
  own_key n has = let size : length s.secrets ≡ min h.own.opened (length o.secrets) = ap length h.own.secrets ∙ length-take h.own.opened o.secrets in omega (arith, min-le_right h.own.opened (length o.secrets))

  same_secret : (n : ℕ) → HasKey n s → secret_at n s ≡ secret_of n o
  same_secret n has =
      let size : length s.secrets ≡ min h.own.opened (length o.secrets) = ap length h.own.secrets ∙ length-take h.own.opened o.secrets in
      ap (λ (l : List Secret). get_or l n no_secret) h.own.secrets ∙ get_or-take h.own.opened o.secrets n no_secret (omega (arith, min-le_left h.own.opened (length o.secrets)))

  -- a text that was signed by the client is one signed by its owner
  same_sent : (n : ℕ) → HasKey n s → (m : Bytes) (q : LeafNumber) → sent s n q m ≡ m ++ signature_of (secret_of n o) q m
  same_sent n has m q = ap (λ (x : Secret). m ++ signature_of x q m) (same_secret n has)

  -- ---- a device fails

  module _ (new : Released) (is : new ≡ failed new.devices s) where
    -- a call that released nothing, and after which no client stands
    fails : (some : Option Release) (Now : Type 0) → IfSome some (IsAfter o story) → (Now → IsNumbered (with_tried some story)) → Lies o story some (files_of new.devices) new.devices.journal.file → Holds o Now story some (Open new) texts
    fails some Now is_tried numbered lies = record {
      is_story = h.is_story;
      is_tried = is_tried;
      numbered = numbered;
      lies = lies;
      own = record {
        user = ap (λ (r : Released). r.user) is ∙ h.own.user;
        opened = h.own.opened;
        secrets = ap (λ (r : Released). r.secrets) is ∙ h.own.secrets;
        stands = λ up. absurd (up (ap (λ (r : Released). r.phase) is));
      };
      released = h.released;
      kept = h.kept;
    }

  -- ---- certificates

  module _ (n : ℕ) (c : Cert) (new : Released) (at : IsAt o story tried s) (has : HasKey n s) (next : IsNextCert o story c) (others : OthersStay n s.devices new.devices) where
    cert_is : (q : LeafNumber) → cert_record (sent s n q (cert.spell c)) ≡ record_of o (OfCert n c q)
    cert_is q = ap cert_record (same_sent n has (cert.spell c) q)

    cert_after : (q : LeafNumber) → q < 1024 → Handed (Some q) (ledger_at n s.devices).file (ledger_at n new.devices).file → IsAfter o story (OfCert n c q)
    cert_after q small taken = record {
      next = next;
      own = own_key n has;
      small = small;
      fresh = fresh_leaf o story n s.devices new.devices s.devices.journal.file q (lies_none at.none_tried) taken;
    }

    -- one is released
    cert_released : (Now : Type 0) (answer : Bytes) (q : LeafNumber) → (Now → IsNumbered (OfCert n c q ∷ story)) → IsKept q (cert_record (sent s n q (cert.spell c))) (under n s.devices) (under n new.devices)
        → new ≡ with_cert new.devices s n q c → answer ≡ new.text → Holds o Now (OfCert n c q ∷ story) None (Open new) (answer ∷ texts)
    cert_released Now answer q numbered kept is text_is =
        let r = OfCert n c q in
        let given : answer ≡ text o r = text_is ∙ ap (λ (r : Released). r.text) is ∙ same_sent n has (cert.spell c) q in
        record {
          is_story = (cert_after q kept.least.below kept.taken, h.is_story);
          is_tried = tt;
          numbered = numbered;
          lies =
              lies_with o story r s.devices new.devices s.devices.journal.file new.devices.journal.file (lies_none at.none_tried) others kept.taken
              (subst (λ (x : Record). Added (Appended x) s.devices.journal.file new.devices.journal.file) (cert_is q) kept.added);
          own = record {
            user = ap (λ (r : Released). r.user) is ∙ h.own.user;
            opened = h.own.opened;
            secrets = ap (λ (r : Released). r.secrets) is ∙ h.own.secrets;
            stands = λ up. record {
              none_tried = refl;
              number = ap (λ (r : Released). r.number) is;
              last = ap (λ (r : Released). r.last) is ∙ at.last;
              text = ap (λ (r : Released). r.text) is ∙ same_sent n has (cert.spell c) q;
              phase = inl (ap (λ (r : Released). r.phase) is);
            };
          };
          released = λ a i. elim i [ inl e ↦ (r, inl refl, e ∙ given) | inr j ↦ (let k = h.released a j in (k.0, inr k.1, k.2)) ];
          kept = λ x i. elim i [ inl e ↦ inl (ap (text o) e ∙ sym given) | inr j ↦ inr (h.kept x j) ];
        }

    -- none is released, since a device failed
    cert_fails : (Now : Type 0) → (Now → IsNumberAfter story c.number × InTurn) → new ≡ failed new.devices s → IsTried (λ q. cert_record (sent s n q (cert.spell c))) (under n s.devices) (under n new.devices)
        → (some : Option Release) × IsTriedCert n c some × Holds o Now story some (Open new) texts
    cert_fails Now numbered is (inl none) = (
      None,
      inl refl,
      fails new is None Now tt (λ t. story_numbered (numbered t).1)
          (lies_on o story None (files_of s.devices) (files_of new.devices) s.devices.journal.file new.devices.journal.file (lies_none at.none_tried) (called_sure o story n s.devices new.devices s.devices.journal.file None others none.0) none.1),
    )
    cert_fails Now numbered is (inr (q, least, taken, added)) = (
      Some (OfCert n c q),
      inr (q, refl),
      fails new is (Some (OfCert n c q)) Now (cert_after q least.below taken) (λ t. ((numbered t).0, story_numbered (numbered t).1))
          (lies_tried o story (OfCert n c q) s.devices new.devices s.devices.journal.file new.devices.journal.file (lies_none at.none_tried) others taken
          (subst (λ (x : Record). Added (Tried x) s.devices.journal.file new.devices.journal.file) (cert_is q) added)),
    )

  -- ---- a certificate that is new

  module _ (n : ℕ) (c : Cert) (new : Released) where
    module _ (idle : s.phase ≡ phase.Idle) where
      at_idle : IsAt o story tried s
      at_idle = h.own.stands (λ down. let two : phase.Idle ≡ phase.Failed = sym idle ∙ down in cc two)

      no_turn : phase_in story ≡ phase.Declared → ⊥
      no_turn = not_declared (phase_in story) s.phase at_idle.phase idle

      cert_next : cert.Fits c → c.user ≡ s.user → IsNextCert o story c
      cert_next fits user = record { turn = cert_turn story c no_turn; fits = fits; user = user ∙ h.own.user }

      cert_number : (c.number ≡ s.number + 1) × InTurn → IsNumberAfter story c.number × InTurn
      cert_number t = (next_number story c.number no_turn (t.0 ∙ ap (λ n. n + 1) at_idle.number), t.1)

    pub declares : (answer : Bytes) → HasDeclared s n c (Ok answer) new → (q : LeafNumber) × HoldsAfter o InTurn (OfCert n c q ∷ story) None (Open s) texts (Declares n c (Ok answer)) (Open new)
    declares answer b = (
      b.declared.0,
      cert_released n c new (at_idle b.idle) b.has (cert_next b.idle b.fits b.user) b.others ((c.number ≡ s.number + 1) × InTurn) answer b.declared.0
          (λ t. let k = cert_number b.idle t in (k.0, story_numbered k.1)) b.declared.1 b.declared.2 b.text,
    )

    pub declare_fails : (e : ClientError) → HasDeclared s n c (Err e) new → (some : Option Release) × IsTriedCert n c some × HoldsAfter o InTurn story some (Open s) texts (Declares n c (Err e)) (Open new)
    declare_fails e b = cert_fails n c new (at_idle b.idle) b.has (cert_next b.idle b.fits b.user) b.others ((c.number ≡ s.number + 1) × InTurn) (cert_number b.idle) b.err b.tried

  -- ---- a certificate that is signed again

  module _ (n : ℕ) (new : Released) (now : s.phase ≡ phase.Declared) where
    at_again : IsAt o story tried s
    at_again = h.own.stands (λ down. let two : phase.Declared ≡ phase.Failed = sym now ∙ down in cc two)

    again : (c : Cert) × (unsigned (text_in o story) ≡ cert.spell c) × IsNextCert o story c × IsNumberAfter story c.number × (number_in story ≡ c.number)
    again = declared_cert o story h.is_story (is_declared (phase_in story) s.phase at_again.phase now)

    unsigned_is : unsigned s.text ≡ cert.spell again.0
    unsigned_is = ap unsigned at_again.text ∙ again.1

    -- what is released then is as if it were declared
    as_declared : (q : LeafNumber) → with_cert_again new.devices s n q ≡ with_cert new.devices s n q again.0
    as_declared q =
        ap (λ (m : Bytes). let r : Released = record s { devices = new.devices; text = sent s n q m } in r) unsigned_is
        ∙ ap (λ (p : Phase). let r : Released = record s { devices = new.devices; phase = p; text = sent s n q (cert.spell again.0) } in r) now
        ∙ ap (λ (k : ℕ). let r : Released = record s { devices = new.devices; number = k; phase = phase.Declared; text = sent s n q (cert.spell again.0) } in r) (at_again.number ∙ again.4)

  pub resigns : (n : ℕ) (new : Released) (answer : Bytes) → HasResigned s n (Ok answer) new → (c : Cert) × (q : LeafNumber) × HoldsAfter o InTurn (OfCert n c q ∷ story) None (Open s) texts (Resigns n (Ok answer)) (Open new)
  resigns n new answer b =
      let c = again n new b.declared in
      let q = b.resigned.0 in (
        c.0,
        q,
        cert_released n c.0 new (at_again n new b.declared) b.has c.2 b.others (Unit {0} × InTurn) answer q (λ t. (c.3, story_numbered t.1))
            (subst (λ (m : Bytes). IsKept q (cert_record (sent s n q m)) (under n s.devices) (under n new.devices)) (unsigned_is n new b.declared) b.resigned.1)
            (b.resigned.2 ∙ as_declared n new b.declared q) b.text,
      )

  pub resign_fails : (n : ℕ) (new : Released) (e : ClientError) → HasResigned s n (Err e) new → (c : Cert) × (some : Option Release) × IsTriedCert n c some × HoldsAfter o InTurn story some (Open s) texts (Resigns n (Err e)) (Open new)
  resign_fails n new e b =
      let c = again n new b.declared in
      let t = subst (λ (m : Bytes). IsTried (λ q. cert_record (sent s n q m)) (under n s.devices) (under n new.devices)) (unsigned_is n new b.declared) b.tried in
      let k = cert_fails n c.0 new (at_again n new b.declared) b.has c.2 b.others (Unit {0} × InTurn) (λ t. (c.3, t.1)) b.err t in
      (c.0, k.0, k.1, k.2)

  -- ---- structures

  module _ (n : ℕ) (z : Structure) (new : Released) where
    module _ (declared : s.phase ≡ phase.Declared) where
      at_declared : IsAt o story tried s
      at_declared = h.own.stands (λ down. let two : phase.Declared ≡ phase.Failed = sym declared ∙ down in cc two)

      structure_is : HasKey n s → (q : LeafNumber) → structure_record (sent s n q (structure.spell z)) ≡ record_of o (OfStructure n z q)
      structure_is has q = ap structure_record (same_sent n has (structure.spell z) q)

      structure_after : HasKey n s → (q : LeafNumber) → q < 1024 → structure.Fits z → z.plan.user ≡ s.user → z.plan.number ≡ s.number → Handed (Some q) (ledger_at n s.devices).file (ledger_at n new.devices).file → IsAfter o story (OfStructure n z q)
      structure_after has q small fits user number taken = record {
        next = record {
          turn = is_declared (phase_in story) s.phase at_declared.phase declared;
          fits = fits;
          user = user ∙ h.own.user;
          number = number ∙ at_declared.number;
        };
        own = own_key n has;
        small = small;
        fresh = fresh_leaf o story n s.devices new.devices s.devices.journal.file q (lies_none at_declared.none_tried) taken;
      }

    pub signs : (answer : Bytes) → HasSigned s n z (Ok answer) new → (q : LeafNumber) × HoldsAfter o InTurn (OfStructure n z q ∷ story) None (Open s) texts (Signs n z (Ok answer)) (Open new)
    signs answer b =
        let at = at_declared b.declared in
        let q = b.signed.0 in
        let kept = b.signed.1 in
        let is = b.signed.2 in
        let r = OfStructure n z q in
        let given : answer ≡ text o r = b.text ∙ ap (λ (r : Released). r.text) is ∙ same_sent n b.has (structure.spell z) q in (
          q,
          record {
            is_story = (structure_after b.declared b.has q kept.least.below b.fits b.user b.number kept.taken, h.is_story);
            is_tried = tt;
            numbered = λ t. story_numbered t.1;
            lies =
                lies_with o story r s.devices new.devices s.devices.journal.file new.devices.journal.file (lies_none at.none_tried) b.others kept.taken
                (subst (λ (x : Record). Added (Appended x) s.devices.journal.file new.devices.journal.file) (structure_is b.declared b.has q) kept.added);
            own = record {
              user = ap (λ (r : Released). r.user) is ∙ h.own.user;
              opened = h.own.opened;
              secrets = ap (λ (r : Released). r.secrets) is ∙ h.own.secrets;
              stands = λ up. record {
                none_tried = refl;
                number = ap (λ (r : Released). r.number) is ∙ at.number;
                last =
                    ap (λ (r : Released). r.last) is
                    ∙ ap (λ (g : Bytes). let last : Option (Signed Structure) = Some (record { value = z; signature = g }) in last)
                    (ap (λ (x : Secret). signature_of x q (structure.spell z)) (same_secret n b.has));
                text = ap (λ (r : Released). r.text) is ∙ same_sent n b.has (structure.spell z) q;
                phase = inl (ap (λ (r : Released). r.phase) is);
              };
            };
            released = λ a i. elim i [ inl e ↦ (r, inl refl, e ∙ given) | inr j ↦ (let k = h.released a j in (k.0, inr k.1, k.2)) ];
            kept = λ x i. elim i [ inl e ↦ inl (ap (text o) e ∙ sym given) | inr j ↦ inr (h.kept x j) ];
          },
        )

    pub sign_fails : (e : ClientError) → HasSigned s n z (Err e) new → (some : Option Release) × IsTriedStructure n z some × HoldsAfter o InTurn story some (Open s) texts (Signs n z (Err e)) (Open new)
    sign_fails e b = go b.tried
      where
        at : IsAt o story tried s
        at = at_declared b.declared

        go : IsTried (λ q. structure_record (sent s n q (structure.spell z))) (under n s.devices) (under n new.devices) → (some : Option Release) × IsTriedStructure n z some × HoldsAfter o InTurn story some (Open s) texts (Signs n z (Err e)) (Open new)
        go (inl none) = (
          None,
          inl refl,
          fails new b.err None (Unit {0} × InTurn) tt (λ t. story_numbered t.1)
              (lies_on o story None (files_of s.devices) (files_of new.devices) s.devices.journal.file new.devices.journal.file (lies_none at.none_tried) (called_sure o story n s.devices new.devices s.devices.journal.file None b.others none.0) none.1),
        )
        go (inr (q, least, taken, added)) = (
          Some (OfStructure n z q),
          inr (q, refl),
          fails new b.err (Some (OfStructure n z q)) (Unit {0} × InTurn)
              (structure_after b.declared b.has q least.below b.fits b.user b.number taken) (λ t. story_numbered t.1)
              (lies_tried o story (OfStructure n z q) s.devices new.devices s.devices.journal.file new.devices.journal.file (lies_none at.none_tried) b.others taken
              (subst (λ (x : Record). Added (Tried x) s.devices.journal.file new.devices.journal.file) (structure_is b.declared b.has q) added)),
        )
