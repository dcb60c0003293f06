-- What a client's releases do, seen from the client.
use Rattle.std.proofs.Common.{◌≡◌, ◌≢◌, ℕ, ◌+◌, List, [], ◌++◌, length, Option, Some, None, Ok, Err, Bool, true, false, inl, inr, refl, sym, ap, subst, ◌<◌, ◌∙◌, length-append, arith}
use Rattle.std.proofs.lemmas.List.{set-get_or}
use Rattle.std.specs.List.{position}
use Rattle.std.specs.Option.{option_and_then, option_map_or}
use Rattle.std.specs.Prelude.{◌↔◌, ◌⊎◌, Result, IfErr, IfSome, IsErrOf, IsSome, IsSomeAnd, OnErr, OnOk}
use Rattle.layout.specs.Types.{Bytes, Digest}
use Rattle.layout.specs.Format.{be}
use Rattle.layout.specs.HashLaws.{length-hash}
use Rattle.lms_sign.specs.Secret.{HasLeaf, Secret}
use Rattle.lms_sign.specs.Tree.{inner_node, node}
use Rattle.lms_sign.specs.Keys.{lms_type, ots_type, public_key_of}
use Rattle.lms_sign.specs.Signature.{signature_of}
use Rattle.lms_sign.proofs.Validity.{length-signature, signed_valid}
use Rattle.leaf_ledger.specs.Ledger.{LeafNumber}
use Rattle.client_journal.specs.Records.{Record, unsigned as unsigned_part}
use Rattle.version_order.specs.Structure.{Structure, structure}
use Rattle.update_cert.specs.Change.{Change}
use Rattle.update_cert.specs.Cert.{cert}
use Rattle.pending_list.specs.declared.signed.Signed.{Signed}
use Rattle.principals.specs.Table.{Table}
use Rattle.reply_rules.specs.Lists.{Lists}
use Rattle.pending_list.specs.Reply.{digest_of_last}
use Rattle.checked_blocks.specs.CheckedBlocks.{CheckedBlocks}
use Rattle.client_releases.specs.Releasing.{AnyMoment, IsKept, IsTried, OneHasRisen, OthersStay, OwnDevices, cert_record, ledger_at, no_ledger, structure_record, under}
use Rattle.client_releases.specs.Told.{HasKey, IsKeyUsedUp, IsReleased, Released, Stands, has_public, secret_at, sent, signed_by}
use Rattle.client_releases.specs.declared.error.ClientError.{ClientError}
use Rattle.client_releases.specs.declared.error.ClientError.TheVariants as error
use Rattle.client_releases.specs.declared.phase.Phase.{Phase}
use Rattle.client_releases.specs.declared.phase.Phase.TheVariants as phase
use Rattle.client_releases.proofs.Seen.{again_with, declared_with, failed_with, signed_with, with_signature}
use Rattle.client_releases.proofs.Untouched.{none_tried, untouched}
use Rattle.client_releases.proofs.UsedUp.{can_sign}
use Rattle.client_verify.specs.State.{AcceptedView, Checked, IsOfDeclared, Ready, State, declared, declared_text, failed, named_key, newest_key, next_cert, next_structure, on, over, released, resigned, resigned_text, signed_over, signed_structure, signed_text, signer_of, signing_key, view_of}
use Rattle.reply_check.specs.Good.{with_own}
use Rattle.client_verify.specs.OwnTexts.{SignedBoth}
use Rattle.reply_check.specs.Verified.{IsSealed}
use Rattle.reply_check.proofs.VerifiedLaws.{owns_nothing, seals}

-- a client over what it released
abbrev pub client_over : Released → List ℕ → CheckedBlocks → Option Checked → Option Ready → Option AcceptedView → State
client_over r pinned blocks checked accepted view = record {
  user = r.user;
  secrets = r.secrets;
  pinned = pinned;
  devices = r.devices;
  number = r.number;
  last = r.last;
  phase = r.phase;
  text = r.text;
  blocks = blocks;
  checked = checked;
  accepted = accepted;
  view = view;
}

-- ---- errors

-- an error that another call answered
pub same_error : {S T E : Type 0} (e x : E) (P : Type 0) → (IsErrOf {T = S} (Err e) x ↔ P) → (IsErrOf {T = T} (Err e) x ↔ P)
same_error {S} {T} e x P told = (
  λ is. let same : e ≡ x = cc in told.0 (ap Err same),
  λ holds. let is : IsErrOf {T = S} (Err e) x = told.1 holds in let same : e ≡ x = cc in ap Err same,
)

-- where a call is Ok what it says of this error isn't so
pub not_so : {S E : Type 0} (v : S) (x : E) (P : Type 0) → (IsErrOf (Ok v) x ↔ P) → P → ⊥
not_so v x P told holds = let is = told.1 holds in cc is

-- a call that answers Device alone
pub at_device : {T : Type 0} (Q : Type 0) (r : Result T ClientError) → IfErr r (λ e. (e ≡ error.Device) × Q) → IsErrOf r error.Device → Q
at_device Q (Ok v) told is = absurd (cc is)
at_device Q (Err e) told is = told.1

pub never_else : {T : Type 0} (Q : Type 0) (r : Result T ClientError) (x : ClientError) → x ≢ error.Device → IfErr r (λ e. (e ≡ error.Device) × Q) → IsErrOf r x → ⊥
never_else Q (Ok v) x other told is = cc is
never_else Q (Err e) x other told is = let same : e ≡ x = cc in other (sym same ∙ told.0)

pub only_device : {T : Type 0} (Q : Type 0) (r : Result T ClientError) → IfErr r (λ e. (e ≡ error.Device) × Q) → IfErr r (λ e. (e ≢ error.Foreign) × (e ≢ error.Damaged) × (e ≢ error.NoKey))
only_device Q (Ok v) told = tt
only_device Q (Err e) told = let is = told.0 in (λ s. cc (is, s), λ s. cc (is, s), λ s. cc (is, s))

pub only_device_again : {T : Type 0} (Q : Type 0) (r : Result T ClientError) → IfErr r (λ e. (e ≡ error.Device) × Q) → IfErr r (λ e. (e ≢ error.NoNumber) × (e ≢ error.Foreign) × (e ≢ error.Damaged) × (e ≢ error.NoKey))
only_device_again Q (Ok v) told = tt
only_device_again Q (Err e) told = let is = told.0 in (λ s. cc (is, s), λ s. cc (is, s), λ s. cc (is, s), λ s. cc (is, s))

pub but_device : {T : Type 0} (Q P : Type 0) (r : Result T ClientError) → IfErr r (λ e. (e ≡ error.Device) × Q) → IfErr r (λ e. e ≢ error.Device → P)
but_device Q P (Ok v) told = tt
but_device Q P (Err e) told = λ other. absurd (other told.0)

pub early_only : (e : ClientError) → (e ≡ error.NoLeaf) ⊎ (e ≡ error.NoNumber) → (e ≢ error.Device) × (e ≢ error.Foreign) × (e ≢ error.Damaged) × (e ≢ error.NoKey)
early_only e (inl is) = (λ s. cc (is, s), λ s. cc (is, s), λ s. cc (is, s), λ s. cc (is, s))
early_only e (inr is) = (λ s. cc (is, s), λ s. cc (is, s), λ s. cc (is, s), λ s. cc (is, s))

pub not_full_error : {T : Type 0} (e : ClientError) → e ≡ error.Device → IsErrOf {T = T} (Err e) error.NoLeaf → ⊥
not_full_error e device is =
    let same : e ≡ error.NoLeaf = cc in
    let two : error.Device ≡ error.NoLeaf = sym device ∙ same in
    cc two

pub ok_either : {T E P : Type 0} (r : Result T E) → P → OnOk r P
ok_either (Ok v) holds = holds
ok_either (Err e) holds = tt

pub err_at : {T E P : Type 0} (r : Result T E) (x : E) → OnErr r P → IsErrOf r x → P
err_at (Ok v) x holds is = absurd (cc is)
err_at (Err e) x holds is = holds

-- what holds for each value holds for one that there may be
pub always : {A : Type 0} (o : Option A) (P : A → Type 0) → ((a : A) → P a) → IfSome o P
always None P each = tt
always (Some a) P each = each a

-- where a leaf can be used the key isn't used up
pub no_full : (n : ℕ) (r s : Released) (free : Bool) → r ≡ s → ((free ≡ false) ↔ IsKeyUsedUp n r) → free ≡ true → IsKeyUsedUp n s → ⊥
no_full n r s free is told has full =
    let none : free ≡ false = told.1 (subst (λ (o : Released). IsKeyUsedUp n o) (sym is) full) in
    let two : true ≡ false = sym has ∙ none in
    cc two

-- ---- the key that signs

-- a key that a client has
pub held : (n m : ℕ) (r s : Released) → n ≡ m → r ≡ s → HasKey n s → HasKey m r
held n m r s same is has = subst (λ (k : ℕ). HasKey k r) same (subst (λ (o : Released). HasKey n o) (sym is) has)

-- the key of this number signs
pub signer_is : (s : State) (y : Ready) (o : Option ℕ) → o ≡ signer_of s y → IfSome o (λ n. n ≡ signing_key s y)
unfolding signing_key
signer_is s y None is = tt
signer_is s y (Some n) is = ap (λ (q : Option ℕ). option_map_or (λ k. k) q (length s.secrets)) is

-- what is so of it is so under the number that signs, and where there is none nothing is
pub at_signer : (s : State) (o : Option Ready) (n : ℕ) (P : Ready → ℕ → Type 0) → IfSome o (λ y. Some n ≡ signer_of s y) → ((y : Ready) → P y n) → IfSome o (λ y. P y (signing_key s y))
at_signer s None n P is each = tt
at_signer s (Some y) n P is each = subst (λ (k : ℕ). P y k) (signer_is s y (Some n) is) (each y)

-- the key that is named, found among the own ones
pub signer_found : (s : State) (o : Option Ready) (y : Ready) (user : ℕ) (pinned key : List ℕ) (secrets : List Secret) (n : Option ℕ) → o ≡ Some y → user ≡ s.user → pinned ≡ s.pinned → secrets ≡ s.secrets
    → Some key ≡ named_key pinned user y → n ≡ position (has_public key) secrets → IfSome o (λ q. n ≡ signer_of s q)
unfolding signer_of
signer_found s o y user pinned key secrets n there of_user of_pinned of_secrets named found =
    let named_here : named_key s.pinned s.user y ≡ Some key = rw (sym of_user, sym of_pinned) (sym named) in
    subst (λ (q : Option Ready). IfSome q (λ z. n ≡ signer_of s z)) (sym there)
    (found ∙ ap (λ (l : List Secret). position (has_public key) l) of_secrets ∙ ap (λ (k : Option (List ℕ)). option_and_then (λ x. position (has_public x) s.secrets) k) (sym named_here))

pub signer_lacks : (s : State) (o : Option Ready) (y : Ready) (user : ℕ) (pinned : List ℕ) → o ≡ Some y → user ≡ s.user → pinned ≡ s.pinned → None ≡ named_key pinned user y → IfSome o (λ q. None ≡ signer_of s q)
unfolding signer_of
signer_lacks s o y user pinned there of_user of_pinned named =
    let named_here : named_key s.pinned s.user y ≡ None = rw (sym of_user, sym of_pinned) (sym named) in
    subst (λ (q : Option Ready). IfSome q (λ z. None ≡ signer_of s z)) (sym there) (ap (λ (k : Option (List ℕ)). option_and_then (λ x. position (has_public x) s.secrets) k) (sym named_here))

pub no_signer : (s : State) (y : Ready) → signer_of s y ≡ None → HasKey (signing_key s y) (released s) → ⊥
unfolding signing_key
no_signer s y none has = omega (arith, ap (λ (q : Option ℕ). option_map_or (λ k. k) q (length s.secrets)) none, has)

-- what holds of what there may be
pub each_if : {A : Type 0} (o : Option A) (P Q : A → Type 0) → ((a : A) → P a → Q a) → IfSome o P → IfSome o Q
each_if None P Q each holds = tt
each_if (Some a) P Q each holds = each a holds

-- ---- what an answer says of the key that signs

-- it is no want of a key that is there
pub not_lacking : (s : State) (o : Option Ready) (n : ℕ) (Lacks : Type 0) → (Lacks → ⊥) → IfSome o (λ y. Some n ≡ signer_of s y) → IfSome o (λ y. Lacks ↔ (signer_of s y ≡ None))
not_lacking s None n Lacks not is = tt
not_lacking s (Some y) n Lacks not is = (λ lacks. absurd (not lacks), λ none. let two : Some n ≡ None = is ∙ none in absurd (cc two))

-- nor of a leaf, or it is
pub not_full : (s : State) (o : Option Ready) (n : ℕ) (Full : Type 0) → (Full → ⊥) → (IsKeyUsedUp n (released s) → ⊥) → IfSome o (λ y. Some n ≡ signer_of s y)
    → IfSome o (λ y. Full ↔ HasKey (signing_key s y) (released s) × IsKeyUsedUp (signing_key s y) (released s))
not_full s o n Full not free is = at_signer s o n (λ y k. Full ↔ HasKey k (released s) × IsKeyUsedUp k (released s)) is (λ y. (λ full. absurd (not full), λ both. absurd (free both.1)))

pub is_full : (s : State) (o : Option Ready) (n : ℕ) (Full : Type 0) → Full → HasKey n (released s) → IsKeyUsedUp n (released s) → IfSome o (λ y. Some n ≡ signer_of s y)
    → IfSome o (λ y. Full ↔ HasKey (signing_key s y) (released s) × IsKeyUsedUp (signing_key s y) (released s))
is_full s o n Full told has used is = at_signer s o n (λ y k. Full ↔ HasKey k (released s) × IsKeyUsedUp k (released s)) is (λ y. (λ full. (has, used), λ both. told))

-- the key is there
pub is_held : (s : State) (o : Option Ready) (n : ℕ) (Lacks : Type 0) → HasKey n (released s) → IfSome o (λ y. Some n ≡ signer_of s y) → IfSome o (λ y. Lacks ⊎ HasKey (signing_key s y) (released s))
is_held s o n Lacks has is = at_signer s o n (λ y k. Lacks ⊎ HasKey k (released s)) is (λ y. inr has)

-- a fault of one of its two devices is told
pub is_risen : (s : State) (new : OwnDevices) (o : Option Ready) (n : ℕ) (Fails : Type 0) → OneHasRisen (under n s.devices) (under n new) → IfSome o (λ y. Some n ≡ signer_of s y)
    → IfSome o (λ y. Fails → OneHasRisen (under (signing_key s y) s.devices) (under (signing_key s y) new))
is_risen s new o n Fails rose is = at_signer s o n (λ y k. Fails → OneHasRisen (under k s.devices) (under k new)) is (λ y fails. rose)

-- ---- nothing was released

-- a client that hasn't failed stands
pub stands_in : (r : Released) (p : Phase) → IsReleased r → r.phase ≡ p → p ≢ phase.Failed → Stands r
stands_in r p held is other = held.stands (λ failed. other (sym is ∙ failed))

-- a client with an accepted reply stands
pub stands_ready : (r : Released) (o : Option Ready) → IsReleased r → IfSome o (λ y. IsOfDeclared r y.lists.own.plan) → IsSome o → Stands r
stands_ready r None held of some = absurd (cc some)
stands_ready r (Some y) held of some = stands_in r phase.Declared held of.is_declared (λ two. cc two)

-- the devices of a client that stands, at rest
pub refused_moments : (n : ℕ) (r : Released) (s new : State) → r ≡ released s → HasKey n r → Stands r → new ≡ s → (record_by : LeafNumber → Record) (leaf : LeafNumber) → AnyMoment leaf (record_by leaf) (under n s.devices) (under n new.devices)
refused_moments n r s new is has stands same record_by leaf =
    let ready = stands.ledgers n has in
    let here = untouched leaf (record_by leaf) (under n r.devices) ready.rests ready.own_file stands.journal_rests in
    subst (λ (t : State). AnyMoment leaf (record_by leaf) (under n s.devices) (under n t.devices)) (sym same) (subst (λ (o : Released). AnyMoment leaf (record_by leaf) (under n o.devices) (under n o.devices)) is here)

pub refused_tried : (n : ℕ) (s new : State) → new ≡ s → (record_by : LeafNumber → Record) → IsTried record_by (under n s.devices) (under n new.devices)
refused_tried n s new same record_by = subst (λ (t : State). IsTried record_by (under n s.devices) (under n t.devices)) (sym same) (none_tried record_by (under n s.devices))

-- no ledger was used
pub none_used : (n : ℕ) (s new : State) → new ≡ s → OthersStay n s.devices new.devices
none_used n s new same = subst (λ (t : State). OthersStay n s.devices t.devices) (sym same) (sym (set-get_or s.devices.ledgers n no_ledger))

-- ---- a text was released, or tried

-- what is so of a client's fields and of the text is so of what its callers see
pub seen : (P : Released → Bytes → Type 0) (r s : Released) (unsigned text : Bytes) → r ≡ s → unsigned ≡ text → P r unsigned → P s text
seen P r s unsigned text is same holds = subst (λ (o : Released). P o text) is (subst (λ (t : Bytes). P r t) same holds)

over_is : (r s : Released) (pinned other : List ℕ) (blocks held : CheckedBlocks) (checked : Option Checked) (accepted ready : Option Ready) (view shown : Option AcceptedView) → r ≡ s → pinned ≡ other → blocks ≡ held → accepted ≡ ready → view ≡ shown
    → client_over r pinned blocks checked accepted view ≡ client_over s other held checked ready shown
over_is r s pinned other blocks held checked accepted ready view shown is key same same_ready same_view = rw (is, key, same, same_ready, same_view) refl

declared_is : (k : ℕ) (r s : Released) (d : OwnDevices) (n m : ℕ) (unsigned text : Bytes) (leaf : LeafNumber) → r ≡ s → n ≡ m → unsigned ≡ text → declared_with r d n (sent r k leaf unsigned) ≡ declared_with s d m (sent s k leaf text)
declared_is k r s d n m unsigned text leaf is number same = rw (is, number, same) refl

again_is : (k : ℕ) (r s : Released) (d : OwnDevices) (part text : Bytes) (leaf : LeafNumber) → r ≡ s → part ≡ text → again_with r d (sent r k leaf part) ≡ again_with s d (sent s k leaf text)
again_is k r s d part text leaf is same = rw (is, same) refl

-- a client after it declared: what it released before stands in the state before, whatever it knows of blocks by then
module _ (r new : Released) (s : State) (pinned : List ℕ) (blocks : CheckedBlocks) (checked : Option Checked) (accepted : Option Ready) (view : Option AcceptedView) (b : CheckedBlocks) (is : client_over r pinned blocks checked accepted view ≡ over b s) where
  pub of_released : r ≡ released s
  of_released = ap released is

  pub begun : (changes : List (Change Digest)) (unsigned : Bytes) (n : ℕ) (leaf : LeafNumber) → unsigned ≡ cert.spell (next_cert s changes) → n ≡ s.number + 1 → IsKept leaf (cert_record (sent r (newest_key s) leaf unsigned)) (under (newest_key s) r.devices) (under (newest_key s) new.devices)
      → new ≡ declared_with r new.devices n (sent r (newest_key s) leaf unsigned)
      → (k : LeafNumber) × IsKept k (cert_record (declared_text s k changes)) (under (newest_key s) s.devices) (under (newest_key s) new.devices) × (client_over new pinned blocks None None view ≡ over blocks (on new.devices (declared s k changes)))
  begun changes unsigned n leaf text number kept made = (
    leaf,
    seen (λ (o : Released) (t : Bytes). IsKept leaf (cert_record (sent o (newest_key s) leaf t)) (under (newest_key s) o.devices) (under (newest_key s) new.devices)) r (released s) unsigned _ of_released text kept,
    over_is new _ pinned s.pinned blocks blocks None None None view s.view (made ∙ declared_is (newest_key s) r (released s) new.devices n (s.number + 1) unsigned _ leaf of_released number text) (ap (λ (o : State). o.pinned) is) refl refl (ap (λ (o : State). o.view) is),
  )

  pub begun_failed : new ≡ failed_with r new.devices → client_over new pinned blocks None None view ≡ over blocks (on new.devices (failed s))
  begun_failed made =
      over_is new (failed_with (released s) new.devices) pinned s.pinned blocks blocks None None None view s.view (made ∙ ap (λ (o : Released). failed_with o new.devices) of_released) (ap (λ (o : State). o.pinned) is) refl refl (ap (λ (o : State). o.view) is)

-- a client after it signed its certificate once more
module _ (r new : Released) (s : State) (pinned : List ℕ) (blocks : CheckedBlocks) (checked : Option Checked) (accepted : Option Ready) (view : Option AcceptedView) (is : client_over r pinned blocks checked accepted view ≡ s) where
  pub signed_again : (k : ℕ) (part : Bytes) (leaf : LeafNumber) → part ≡ unsigned_part s.text → IsKept leaf (cert_record (sent r k leaf part)) (under k r.devices) (under k new.devices)
      → new ≡ again_with r new.devices (sent r k leaf part)
      → (l : LeafNumber) × IsKept l (cert_record (resigned_text s k l)) (under k s.devices) (under k new.devices) × (client_over new pinned blocks None None view ≡ on new.devices (resigned s k l))
  signed_again k part leaf text kept made = (
    leaf,
    seen (λ (o : Released) (t : Bytes). IsKept leaf (cert_record (sent o k leaf t)) (under k o.devices) (under k new.devices)) r (released s) part _ (ap released is) text kept,
    over_is new _ pinned s.pinned blocks s.blocks None None None view s.view (made ∙ again_is k r (released s) new.devices part _ leaf (ap released is) text) (ap (λ (o : State). o.pinned) is) (ap (λ (o : State). o.blocks) is) refl (ap (λ (o : State). o.view) is),
  )

  pub again_failed : new ≡ failed_with r new.devices → client_over new pinned blocks None None view ≡ on new.devices (failed s)
  again_failed made =
      over_is new (failed_with (released s) new.devices) pinned s.pinned blocks s.blocks None None None view s.view (made ∙ ap (λ (o : Released). failed_with o new.devices) (ap released is)) (ap (λ (o : State). o.pinned) is) (ap (λ (o : State). o.blocks) is) refl (ap (λ (o : State). o.view) is)

-- a client after it signed the structure over an accepted reply
module _ (r new : Released) (s : State) (pinned : List ℕ) (blocks : CheckedBlocks) (checked : Option Checked) (accepted : Option Ready) (view : Option AcceptedView) (is : client_over r pinned blocks checked accepted view ≡ s) where
  pub view_is : (y : Ready) (leaf : LeafNumber) (lists : Lists) (table : Table) (shown : Signed Structure) (structures copies : List (Signed Structure)) (lost : List ℕ) → lists ≡ y.lists → table ≡ y.table → lost ≡ y.lost
      → shown ≡ signed_structure s leaf y → structures ≡ with_own shown copies → copies ≡ y.lists.structures
      → Some (record { lists = lists; table = table; structures = structures; lost = lost; looking = None }) ≡ Some (view_of s leaf y)
  view_is y leaf lists table shown structures copies lost same of_table of_lost of_shown placed copied =
      let all : structures ≡ with_own (signed_structure s leaf y) y.lists.structures = placed ∙ ap (λ (z : Signed Structure). with_own z copies) of_shown ∙ ap (with_own (signed_structure s leaf y)) copied in
      rw (same, of_table, of_lost, all) refl

  pub shown_is : (y : Ready) (leaf : LeafNumber) (z shown : Structure) (signature text : List ℕ) → z ≡ next_structure s y → shown ≡ z → new.last ≡ Some (record { value = z; signature = signature })
      → new ≡ signed_with r new.devices (signed_by (secret_at (signing_key s y) r) leaf z) text → with_signature shown signature ≡ signed_structure s leaf y
  shown_is y leaf z shown signature text next same last made =
      let both : Some (with_signature z signature) ≡ Some (signed_by (secret_at (signing_key s y) r) leaf z) = sym last ∙ ap (λ (o : Released). o.last) made in
      let one : with_signature z signature ≡ signed_by (secret_at (signing_key s y) r) leaf z = cc in
      ap (λ (q : Structure). with_signature q signature) same ∙ one ∙ ap (λ (o : Released). signed_by (secret_at (signing_key s y) o) leaf z) (ap released is) ∙ ap (λ (q : Structure). signed_by (secret_at (signing_key s y) (released s)) leaf q) next

  signed_is : (y : Ready) (leaf : LeafNumber) (z : Structure) (unsigned : Bytes) → z ≡ next_structure s y → unsigned ≡ structure.spell z
      → signed_with r new.devices (signed_by (secret_at (signing_key s y) r) leaf z) (sent r (signing_key s y) leaf unsigned) ≡ signed_with (released s) new.devices (signed_structure s leaf y) (signed_text s leaf y)
  signed_is y leaf z unsigned next spelled =
      let of_text : unsigned ≡ structure.spell (next_structure s y) = spelled ∙ ap structure.spell next in
      ap (λ (o : Released). signed_with o new.devices (signed_by (secret_at (signing_key s y) o) leaf z) (sent o (signing_key s y) leaf unsigned)) (ap released is)
      ∙ ap (λ (q : Structure). signed_with (released s) new.devices (signed_by (secret_at (signing_key s y) (released s)) leaf q) (sent (released s) (signing_key s y) leaf unsigned)) next
      ∙ ap (λ (t : Bytes). signed_with (released s) new.devices (signed_structure s leaf y) (sent (released s) (signing_key s y) leaf t)) of_text

  pub signed_of : (after : CheckedBlocks) (y : Ready) (leaf : LeafNumber) (z : Structure) (unsigned : Bytes) (shown : Option AcceptedView) → z ≡ next_structure s y → unsigned ≡ structure.spell z → IsKept leaf (structure_record (sent r (signing_key s y) leaf unsigned)) (under (signing_key s y) r.devices) (under (signing_key s y) new.devices)
      → new ≡ signed_with r new.devices (signed_by (secret_at (signing_key s y) r) leaf z) (sent r (signing_key s y) leaf unsigned) → shown ≡ Some (view_of s leaf y)
      → (k : LeafNumber) × IsKept k (structure_record (signed_text s k y)) (under (signing_key s y) s.devices) (under (signing_key s y) new.devices) × (client_over new pinned after None None shown ≡ over after (on new.devices (signed_over s k y)))
  signed_of after y leaf z unsigned shown next spelled kept made seen_is = (
    leaf,
    seen (λ (o : Released) (t : Bytes). IsKept leaf (structure_record (sent o (signing_key s y) leaf t)) (under (signing_key s y) o.devices) (under (signing_key s y) new.devices)) r (released s) unsigned _ (ap released is) (spelled ∙ ap structure.spell next) kept,
    over_is new _ pinned s.pinned after after None None None shown (Some (view_of s leaf y)) (made ∙ signed_is y leaf z unsigned next spelled) (ap (λ (o : State). o.pinned) is) refl refl seen_is,
  )

-- ---- what is signed is signed by the own key

four : length lms_type ≡ 4
unfolding be
four = refl

also_four : length ots_type ≡ 4
unfolding be
also_four = refl

node_size : (secret : Secret) → length (node secret 10 1) ≡ 32
unfolding node inner_node
node_size secret = length-hash _

id_size : (secret : Secret) (key : List ℕ) → key ≡ public_key_of secret → length key ≡ 56 → length secret.id ≡ 16
unfolding public_key_of
id_size secret key is size =
    let id = secret.id in
    let all : length (lms_type ++ ots_type ++ id ++ node secret 10 1) ≡ 56 = sym (ap length is) ∙ size in
    omega (arith, all, four, also_four, node_size secret, length-append (lms_type ++ ots_type ++ id) (node secret 10 1), length-append (lms_type ++ ots_type) id, length-append lms_type ots_type)

module _ (k : ℕ) (r : Released) (key : List ℕ) (is : key ≡ public_key_of (secret_at k r)) (size : length key ≡ 56) (leaf : LeafNumber) (small : leaf < 1024) (has : HasLeaf (secret_at k r) leaf) where
  pub seals_sent : (unsigned : Bytes) → IsSealed (public_key_of (secret_at k r)) (sent r k leaf unsigned)
  seals_sent unsigned =
      seals (public_key_of (secret_at k r)) unsigned (signature_of (secret_at k r) leaf unsigned) (length-signature (secret_at k r) unsigned leaf) (signed_valid (secret_at k r) unsigned leaf (id_size (secret_at k r) key is size) small has)

  -- after a certificate was declared, the last structure is as it was
  pub own_begun : (new : Released) (n : ℕ) (unsigned : Bytes) → new ≡ declared_with r new.devices n (sent r k leaf unsigned) → SignedBoth k r → SignedBoth k new
  own_begun new n unsigned made both =
      subst (λ (o : Released). SignedBoth k o) (sym made) (record { has = both.has; own = record { structure = both.own.structure; sealed = seals_sent unsigned } })

  -- nor does a certificate change it that is signed once more
  pub own_again : (new : Released) (part : Bytes) → new ≡ again_with r new.devices (sent r k leaf part) → SignedBoth k r → SignedBoth k new
  own_again new part made both =
      subst (λ (o : Released). SignedBoth k o) (sym made) (record { has = both.has; own = record { structure = both.own.structure; sealed = seals_sent part } })

  pub own_signed : (new : Released) (z : Structure) (unsigned : Bytes) → new ≡ signed_with r new.devices (signed_by (secret_at k r) leaf z) (sent r k leaf unsigned) → HasKey k r → SignedBoth k new
  own_signed new z unsigned made held =
      subst (λ (o : Released). SignedBoth k o) (sym made)
      (record {
        has = held;
        own = record { structure = signed_valid (secret_at k r) (structure.spell z) leaf (id_size (secret_at k r) key is size) small has; sealed = seals_sent unsigned };
      })

-- after a device failed both are as they were
pub own_failed : (k : ℕ) (r new : Released) → new ≡ failed_with r new.devices → SignedBoth k r → SignedBoth k new
own_failed k r new made both = subst (λ (o : Released). SignedBoth k o) (sym made) (record { has = both.has; own = both.own })

-- what a certificate that comes next says fits, where its parts do
pub fits_next : (s : State) (user number : ℕ) (last : Digest) (changes : List (Change Digest)) → user ≡ s.user → number ≡ s.number + 1 → last ≡ digest_of_last s.last → cert.Fits (record { user = user; number = number; last = last; changes = changes }) → cert.Fits (next_cert s changes)
fits_next s user number last changes of_user of_number of_last fits =
    subst (λ (l : Digest). cert.Fits (record { user = s.user; number = s.number + 1; last = l; changes = changes })) of_last
    (subst (λ (n : ℕ). cert.Fits (record { user = s.user; number = n; last = last; changes = changes })) of_number
    (subst (λ (u : ℕ). cert.Fits (record { user = u; number = number; last = last; changes = changes })) of_user fits))

-- ---- what is under way

-- the own texts after a call that declared, or failed
pub own_after : {T E : Type 0} (res : Result T E) (k : ℕ) (r new : Released) (key : List ℕ) (n : ℕ) (unsigned : Bytes) → key ≡ public_key_of (secret_at k r) → length key ≡ 56 → (IsKeyUsedUp k r → ⊥)
    → OnOk res ((leaf : LeafNumber) × IsKept leaf (cert_record (sent r k leaf unsigned)) (under k r.devices) (under k new.devices) × (new ≡ declared_with r new.devices n (sent r k leaf unsigned))) → OnErr res (new ≡ failed_with r new.devices)
    → SignedBoth k r → SignedBoth k new
own_after (Ok v) k r new key n unsigned is size some done fault own = own_begun k r key is size done.0 done.1.least.below (can_sign (secret_at k r) (ledger_at k r.devices) done.0 done.1.least some) new n unsigned done.2 own
own_after (Err e) k r new key n unsigned is size some done fault own = own_failed k r new fault own

-- and after one that signed the certificate once more, or failed
pub own_after_again : {T E : Type 0} (res : Result T E) (k : ℕ) (r new : Released) (key : List ℕ) (part : Bytes) → key ≡ public_key_of (secret_at k r) → length key ≡ 56 → (IsKeyUsedUp k r → ⊥)
    → OnOk res ((leaf : LeafNumber) × IsKept leaf (cert_record (sent r k leaf part)) (under k r.devices) (under k new.devices) × (new ≡ again_with r new.devices (sent r k leaf part))) → OnErr res (new ≡ failed_with r new.devices)
    → SignedBoth k r → SignedBoth k new
own_after_again (Ok v) k r new key part is size some done fault own = own_again k r key is size done.0 done.1.least.below (can_sign (secret_at k r) (ledger_at k r.devices) done.0 done.1.least some) new part done.2 own
own_after_again (Err e) k r new key part is size some done fault own = own_failed k r new fault own

-- where nothing was released each key signed all of it
pub first_signed : (r : Released) (o : Option ℕ) → IfSome o (λ n. HasKey n r × (r.last ≡ None) × (r.text ≡ [])) → IfSome o (λ n. SignedBoth n r)
first_signed r None none = tt
first_signed r (Some n) (has, last, text) = record { has = has; own = owns_nothing (public_key_of (secret_at n r)) r.last r.text last text }

-- who signed both texts, where it is the key that signs next, has signed both after that
pub kept_signer : (old kept : Option ℕ) (k : ℕ) (r new : Released) → IfSome kept (λ n. (n ≡ k) × (old ≡ Some n)) → IfSome old (λ n. SignedBoth n r) → (SignedBoth k r → SignedBoth k new) → IfSome kept (λ n. SignedBoth n new)
kept_signer old None k r new same was goes = tt
kept_signer old (Some n) k r new same was goes =
    let both : SignedBoth n r = subst (λ (o : Option ℕ). IfSome o (λ m. SignedBoth m r)) same.1 was in
    subst (λ (m : ℕ). SignedBoth m new) (sym same.0) (goes (subst (λ (m : ℕ). SignedBoth m r) same.0 both))

-- what is under check is a reply to the declared operation, as its callers see it or by its fields
pub replied : (r q : Released) (o : Option Lists) → r ≡ q → IsSomeAnd o (λ x. IsOfDeclared q x.own.plan) → IsSomeAnd o (λ x. IsOfDeclared r x.own.plan)
replied r q o is own = subst (λ (k : Released). IsSomeAnd o (λ x. IsOfDeclared k x.own.plan)) (sym is) own
