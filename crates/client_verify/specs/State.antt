-- A client as a machine: its state, and what each call makes of it.
use Rattle.std.specs.Prelude.{◌≡◌, ℕ, ◌+◌, ◌-◌, ◌==◌, Bool, if◌then◌else◌, List, [], fold, length, reverse, find, Option, Some, None, IfSome, IsSomeAnd}
use Rattle.std.specs.List.{position, range_with_len}
use Rattle.std.specs.Option.{option_and_then, option_map_or}
use Rattle.std.specs.Ordering.{nat_cmp}
use Rattle.layout.specs.Ascending.{with_row}
use Rattle.layout.specs.Types.{Bytes, Digest, Handle, Key, User, Version}
use Rattle.lms_sign.specs.Keys.{public_key_of}
use Rattle.lms_sign.specs.Secret.{Secret}
use Rattle.lms_sign.specs.Signature.{valid}
use Rattle.leaf_ledger.specs.Ledger.{LeafNumber}
use Rattle.client_journal.specs.Records.{signature_in, unsigned}
use Rattle.version_order.specs.declared.structure.GroupRecord.{GroupRecord}
use Rattle.version_order.specs.Plan.{Plan}
use Rattle.version_order.specs.Vector.{version_of}
use Rattle.version_order.specs.Structure.{Structure, group_of, structure}
use Rattle.update_cert.specs.Change.{Change}
use Rattle.update_cert.specs.Cert.{Cert, cert}
use Rattle.client_tree.specs.Genesis.{first_blocks}
use Rattle.checked_blocks.specs.CheckedBlocks.{CheckedBlocks, at_first, holding as with_held}
use Rattle.principals.specs.Table.{Table, key_at}
use Rattle.pending_list.specs.declared.signed.Signed.{Signed}
use Rattle.pending_list.specs.Signed.{signed}
use Rattle.pending_list.specs.Reply.{Reply, digest_of_last}
use Rattle.reply_rules.specs.Lists.{Lists, lists_of}
use Rattle.wire.specs.declared.kinds.Status.{Status}
use Rattle.wire.specs.declared.kinds.Status.TheVariants as status
use Rattle.client_releases.specs.declared.phase.Phase.{Phase}
use Rattle.client_releases.specs.declared.phase.Phase.TheVariants as phase
use Rattle.reply_check.specs.declared.asked.Asked.{Asked}
use Rattle.client_verify.specs.declared.view.Looking.{Looking}
use Rattle.client_verify.specs.declared.view.Stage.{Stage as Held}
use Rattle.client_verify.specs.declared.view.Stage.TheVariants as stage
use Rattle.reply_check.specs.FirstBroken.{Known}
use Rattle.reply_check.specs.Good.{Good, with_own}
use Rattle.client_releases.specs.Releasing.{OwnDevices}
use Rattle.client_releases.specs.Told.{Released, has_public, secret_at, sent, signed_by}

-- A reply that breaks none of the rules on itself, of which a block is asked for: one of the table of principals; or,
-- once that is read and the lists break no rule by it, one that tells what the own operation makes.
pub data Checked : Type 0 where
  Reading : Reply → Asked → Checked
  Writing : Good → Asked → Checked

abbrev pub asked_of : Checked → Asked
asked_of (Reading r a) = a
asked_of (Writing x a) = a

-- a reply under check in memory
abbrev pub checked_in : {A : Type 0} → Held A → Checked
checked_in (stage.Reading r a) = Reading r a
checked_in (stage.Writing x a) = Writing x a

-- a reply that breaks no rule by this table, the handle of the own part after the own operation, the records of the
-- groups that it raises, and the changes that it loses
pub record Ready : Type 0 where
  pub lists : Lists
  pub table : Table
  pub handle : Handle
  pub records : List GroupRecord
  pub lost : List ℕ

-- an accepted view: the lists of the reply that it was signed over, the table of principals, its structures with the
-- own new one in its user's place, and the changes that the own operation lost
pub record AcceptedView : Type 0 where
  pub lists : Lists
  pub table : Table
  pub structures : List (Signed Structure)
  pub lost : List ℕ
  pub looking : Option Looking

pub record State : Type 0 where
  pub user : User
  -- what the own keys are made of, the first key first
  pub secrets : List Secret
  -- user 0's public key
  pub pinned : Key
  -- the leaves of the own keys, and the signed texts that were released
  pub devices : OwnDevices
  -- what the records of the journal tell (client_releases/specs/Told.antt): the number of the operation that was
  -- declared last, 0 where none was; the structure that was signed last; how far the operation is, but for its commit;
  -- and the signed text that was released last, a certificate or a structure
  pub number : Version
  pub last : Option (Signed Structure)
  pub phase : Phase
  pub text : Bytes
  -- what is known of blocks: those of the beginning, those that are held while a reply is under check or a look under
  -- way, and in a cache others that were laid out or checked
  pub blocks : CheckedBlocks
  -- the reply under check
  pub checked : Option Checked
  -- the accepted reply, which isn't signed yet
  pub accepted : Option Ready
  -- the view that was accepted last
  pub view : Option AcceptedView

abbrev pub known : State → Known
known s = record { user = s.user; pinned = s.pinned; last = s.last; declared = s.text }

-- a client of this user and these keys as it is opened: what it released, and the blocks of the beginning
abbrev pub opened : Key → Released → State
opened pinned r = record {
  user = r.user;
  secrets = r.secrets;
  pinned = pinned;
  devices = r.devices;
  number = r.number;
  last = r.last;
  phase = r.phase;
  text = r.text;
  blocks = at_first (first_blocks pinned);
  checked = None;
  accepted = None;
  view = None;
}

-- what the client has released, with its devices
abbrev pub released : State → Released
released s =
    record {
      user = s.user;
      secrets = s.secrets;
      devices = s.devices;
      number = s.number;
      last = s.last;
      phase = s.phase;
      text = s.text;
    }

-- the state with these devices
abbrev pub on : OwnDevices → State → State
on devices s = record s { devices = devices }

-- the state with these blocks
abbrev pub over : CheckedBlocks → State → State
over blocks s = record s { blocks = blocks }

-- the state once a device has failed: no reply is under check or accepted any more
abbrev pub failed : State → State
failed s = record s { phase = phase.Failed; checked = None; accepted = None }

-- ---- declaring

-- the certificate of these changes that comes next
abbrev pub next_cert : State → List (Change Digest) → Cert
next_cert s changes = record { user = s.user; number = s.number + 1; last = digest_of_last s.last; changes = changes }

-- the number of the newest key, by which certificates are signed
unfoldable pub newest_key : State → ℕ
newest_key s = length s.secrets - 1

-- the certificate of these changes that comes next, as it is sent, signed by this leaf of the newest key
abbrev pub declared_text : State → LeafNumber → List (Change Digest) → Bytes
declared_text s leaf changes = sent (released s) (newest_key s) leaf (cert.spell (next_cert s changes))

-- the state after these changes are declared by this leaf
abbrev pub declared : State → LeafNumber → List (Change Digest) → State
declared s leaf changes = record s {
  number = s.number + 1;
  phase = phase.Declared;
  text = declared_text s leaf changes;
  checked = None;
  accepted = None;
}

-- ---- signing the declared certificate again

-- the declared certificate, as it is sent, signed by this leaf of this key
abbrev pub resigned_text : State → ℕ → LeafNumber → Bytes
resigned_text s n leaf = sent (released s) n leaf (unsigned s.text)

-- the state after that: nothing is under check or accepted any more
abbrev pub resigned : State → ℕ → LeafNumber → State
resigned s n leaf = record s { text = resigned_text s n leaf; checked = None; accepted = None }

-- the text ends in its signature by the key that is made of this
abbrev pub signs_text : Bytes → Secret → Bool
signs_text text secret = valid (public_key_of secret) (unsigned text) (signature_in text)

-- the number of the newest of a client's keys that signed a text, if one did: they are tried from the last one down
abbrev pub newest_signer : Bytes → Released → Option ℕ
newest_signer text r = find (λ n. signs_text text (secret_at n r)) (reverse (range_with_len 0 (length r.secrets)))

-- the number of the newest of the own keys that signed the declared text, if one did
unfoldable pub declaring_key : State → Option ℕ
declaring_key s = newest_signer s.text (released s)

-- ---- judging

-- the state in which this block is held, too
abbrev pub holding : State → Bytes → State
holding s block = over (with_held s.blocks block) s

-- the blocks with this one held, if there is one
abbrev pub blocks_with : State → Option Bytes → CheckedBlocks
blocks_with s block = option_map_or (with_held s.blocks) block s.blocks

-- ---- signing

-- the records of groups of the structure that was signed last
abbrev pub groups : Option (Signed Structure) → List GroupRecord
groups last = option_map_or (λ z. z.value.groups) last []

-- the old records with each of the new ones in its group's place, in turn
abbrev pub with_records : List GroupRecord → List GroupRecord → List GroupRecord
with_records old new = fold (with_row nat_cmp group_of) old new

-- the structure over a plan, with this handle and these new records of groups, after the one that was signed last
abbrev pub structure_over : Handle → List GroupRecord → Option (Signed Structure) → Plan → Structure
structure_over handle records last plan =
    record { plan = plan; handle = handle; groups = with_records (groups last) records }

abbrev pub next_structure : State → Ready → Structure
next_structure s r = structure_over r.handle r.records s.last r.lists.own.plan

-- the key by which this user is to sign the structure over an accepted reply: user 0's is pinned, and of another user
-- it is the one that the table has at the version of user 0 in the own plan
abbrev pub named_key : Key → User → Ready → Option Key
named_key pinned user r = if user == 0 then Some pinned else key_at user (version_of 0 r.lists.own.plan.vector) r.table

-- the number of the first of the own keys that is that one, if one is
unfoldable pub signer_of : State → Ready → Option ℕ
signer_of s r = option_and_then (λ key. position (has_public key) s.secrets) (named_key s.pinned s.user r)

-- the number of the key that signs the structure over an accepted reply; where none does, of one that isn't there
unfoldable pub signing_key : State → Ready → ℕ
signing_key s r = option_map_or (λ n. n) (signer_of s r) (length s.secrets)

abbrev pub signed_structure : State → LeafNumber → Ready → Signed Structure
signed_structure s leaf r = signed_by (secret_at (signing_key s r) (released s)) leaf (next_structure s r)

-- the structure over an accepted reply, as it is sent, signed by this leaf of that key
abbrev pub signed_text : State → LeafNumber → Ready → Bytes
signed_text s leaf r = (signed structure).spell (signed_structure s leaf r)

-- the view of an accepted reply
abbrev pub view_of : State → LeafNumber → Ready → AcceptedView
view_of s leaf r =
    record {
      lists = r.lists;
      table = r.table;
      structures = with_own (signed_structure s leaf r) r.lists.structures;
      lost = r.lost;
      looking = None;
    }

-- the state after the structure over an accepted reply is signed by this leaf
abbrev pub signed_over : State → LeafNumber → Ready → State
signed_over s leaf r = record s {
  last = Some (signed_structure s leaf r);
  phase = phase.Signed;
  text = signed_text s leaf r;
  checked = None;
  accepted = None;
  view = Some (view_of s leaf r);
}

-- ---- what is under way

-- the plan is that of the declared operation
pub record IsOfDeclared (r : Released) (own : Plan) : Type 0 where
  pub is_declared : r.phase ≡ phase.Declared
  pub user : own.user ≡ r.user
  pub number : own.number ≡ r.number

-- the lists of a reply under check
abbrev pub lists_under : Checked → Option Lists
lists_under (Reading r a) = lists_of r
lists_under (Writing x a) = Some x.lists

-- what is under check or accepted is a reply to the declared operation
pub record AreReplies (r : Released) (checked : Option Checked) (accepted : Option Ready) : Type 0 where
  pub of_checked : IfSome checked (λ k. IsSomeAnd (lists_under k) (λ x. IsOfDeclared r x.own.plan))
  pub of_accepted : IfSome accepted (λ y. IsOfDeclared r y.lists.own.plan)

-- ---- committing

-- the state after the server answered a commit, of which no record tells
abbrev pub committed : Status → State → State
committed status.Ok s = record s { phase = phase.Idle }
committed other s = s
