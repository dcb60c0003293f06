-- Nobody has to believe this file: an aid of invariants, and of contracts that are no promise.
-- What is signed, and so needn't be verified again.
use Rattle.std.specs.Prelude.{◌≡◌, ◌≢◌, ◌⊎◌, ◌++◌, Option, Some, true, length, IfSome}
use Rattle.std.specs.List.{list_all}
use Rattle.layout.specs.Types.{Bytes, Key, User, Version}
use Rattle.lms_sign.specs.Signature.{valid}
use Rattle.principals.specs.Table.{Table, key_at}
use Rattle.version_order.specs.Structure.{Structure, structure}
use Rattle.update_cert.specs.Cert.{cert}
use Rattle.pending_list.specs.declared.signed.Signed.{Signed}
use Rattle.pending_list.specs.Reply.{PendingItem}
use Rattle.reply_rules.specs.Lists.{Lists, items}
use Rattle.reply_check.specs.FirstBroken.{cert_verifies, structure_verifies}

-- a structure, and a pending certificate, that are signed under this key
abbrev pub IsSigned : Key → Signed Structure → Type 0
IsSigned key z = valid key (structure.spell z.value) z.signature ≡ true

abbrev pub IsCertSigned : Key → PendingItem → Type 0
IsCertSigned key i = valid key (cert.spell i.cert) i.signature ≡ true

-- user 0's signatures in these lists are valid under this key
pub record AreSupers (x : Lists) (key : Key) : Type 0 where
  pub structures : list_all (structure_verifies key) x.structures ≡ true
  pub certs : list_all (cert_verifies key) (items x) ≡ true

-- By this key what lists show of a user at a version of user 0 was judged: of user 0 it is the one under which its
-- signatures in them are valid, of another the one that the table has at this version.
abbrev pub IsJudgedBy : Lists → Table → User → Version → Key → Type 0
IsJudgedBy x t user version key = ((user ≡ 0) × AreSupers x key) ⊎ ((user ≢ 0) × (key_at user version t ≡ Some key))

-- a text that ends in its signature
abbrev pub IsSealed : Key → Bytes → Type 0
IsSealed key text = (body signature : Bytes) → length signature ≡ 2508 → text ≡ body ++ signature → valid key body signature ≡ true

-- what a client signed itself: its last structure, and the text of its phase
pub record AreOwn (key : Key) (last : Option (Signed Structure)) (text : Bytes) : Type 0 where
  pub structure : IfSome last (IsSigned key)
  pub sealed : IsSealed key text
