-- The first broken rule of a reply: the least whose test doesn't hold.
-- The rules stand in docs/RULES.md.
use Rattle.std.specs.Prelude.{◌≡◌, ℕ, ◌-◌, List, [], ◌∷◌, Option, Some, None, Bool, true, false, ◌&&◌, ◌||◌, ◌==◌, not, length, find, is_ok, IsSomeAnd, if◌then◌else◌}
use Rattle.std.specs.List.{list_all, slice_get}
use Rattle.std.specs.Option.{option_and_then, option_map, option_map_or}
use Rattle.std.specs.Result.{result_ok}
use Rattle.std.specs.Str.{bytes_eq}
use Rattle.layout.specs.Format.{whole}
use Rattle.layout.specs.Types.{Bytes, Key, User, Version}
use Rattle.lms_sign.specs.Signature.{valid}
use Rattle.version_order.specs.Structure.{Structure, structure}
use Rattle.version_order.specs.Vector.{version_of}
use Rattle.update_cert.specs.Cert.{cert}
use Rattle.pending_list.specs.declared.signed.Signed.{Signed}
use Rattle.pending_list.specs.Signed.{signed}
use Rattle.pending_list.specs.Reply.{PendingItem, Reply, reply}
use Rattle.principals.specs.Table.{Table, key_at}
use Rattle.tree_parts.specs.Blocks.{Blocks}
use Rattle.client_tree.specs.View.{View, handle_in}
use Rattle.client_tree.specs.Principals.{IsNamed, IsPending}
use Rattle.reply_rules.specs.Lists.{Lists, items, lists_of}
use Rattle.reply_rules.specs.Rules.{lists, unknown_user}
use Rattle.reply_rules.specs.Broken.{later_rules, least}
use Rattle.reply_rules.specs.declared.rule.Rule.{Rule}
use Rattle.reply_rules.specs.declared.rule.Rule.TheVariants as rule

-- what a client compares a reply with: who it is, user 0's key, its last signed structure and its declared certificate
pub record Known : Type 0 where
  pub user : User
  pub pinned : Key
  pub last : Option (Signed Structure)
  pub declared : Bytes

-- a structure as it is sent
abbrev pub structure_sent : Signed Structure → Bytes
structure_sent z = (signed structure).spell z

-- a pending certificate as it was sent
abbrev pub cert_sent : PendingItem → Bytes
cert_sent i = (signed cert).spell (record { value = i.cert; signature = i.signature })

-- nothing and nothing, or the same bytes
abbrev pub same_bytes : Option Bytes → Option Bytes → Bool
same_bytes None None = true
same_bytes None (Some b) = false
same_bytes (Some a) None = false
same_bytes (Some a) (Some b) = bytes_eq a b

-- the structure that a reply has of a user
abbrev pub shown_of : User → List (Signed Structure) → Option (Signed Structure)
shown_of user zs = find (λ z. z.value.plan.user == user) zs

-- the own structure is the one that was signed last
unfoldable pub own_last : User → Option (Signed Structure) → Reply → Bool
own_last user last r = same_bytes (option_map structure_sent (shown_of user r.structures))
    (option_map structure_sent last)

-- the last pending certificate is the declared one
unfoldable pub own_pending : Bytes → Reply → Bool
own_pending declared r = option_map_or (λ i. bytes_eq (cert_sent i) declared)
    (slice_get r.pending (length r.pending - 1)) false

-- a structure of user 0 verifies under the key that every client knows; one of another user isn't looked at here
abbrev pub structure_verifies : Key → Signed Structure → Bool
structure_verifies key z = not (z.value.plan.user == 0) || valid key (structure.spell z.value) z.signature

abbrev pub cert_verifies : Key → PendingItem → Bool
cert_verifies key i = not (i.cert.user == 0) || valid key (cert.spell i.cert) i.signature

unfoldable pub super_signature : Key → Reply → Bool
super_signature key r = list_all (structure_verifies key) r.structures && list_all (cert_verifies key) r.pending

-- ---- the rules on the reply itself

unfoldable pub of_reply : Known → Reply → Option Rule
of_reply k r =
    least ((rule.Lists, lists r)
    ∷ (rule.OwnLast, own_last k.user k.last r)
    ∷ (rule.OwnPending, own_pending k.declared r)
    ∷ (rule.SuperSignature, super_signature k.pinned r)
    ∷ [])

-- the reply that the bytes spell, if they spell one
abbrev pub reply_in : Bytes → Option Reply
reply_in text = result_ok (whole reply text)

-- the bytes are a reply text
abbrev pub form : Bytes → Bool
form text = is_ok (whole reply text)

-- the first of them that the bytes of a reply break
unfoldable pub reply_breaks : Known → Bytes → Option Rule
reply_breaks k text = if form text then option_and_then (of_reply k) (reply_in text) else Some rule.Form

-- ---- the rules by the table of principals

-- a signature of another user than user 0 verifies under the key that the table has of the user at this number of
-- user 0's
abbrev pub verifies : Table → User → Version → Bytes → Bytes → Bool
verifies t user version text signature =
    (user == 0) || option_map_or (λ key. valid key text signature) (key_at user version t) false

-- that of a structure, at its plan's version of user 0
abbrev pub structure_is_signed : Table → Signed Structure → Bool
structure_is_signed t z =
    verifies t z.value.plan.user (version_of 0 z.value.plan.vector) (structure.spell z.value) z.signature

-- and that of a pending certificate
abbrev pub cert_is_signed : Table → PendingItem → Bool
cert_is_signed t i = verifies t i.cert.user (version_of 0 i.plan.vector) (cert.spell i.cert) i.signature

unfoldable pub signatures : Table → Lists → Bool
signatures t x = list_all (structure_is_signed t) x.structures

unfoldable pub certificates : Table → Lists → Bool
certificates t x = list_all (cert_is_signed t) (items x)

-- the first of them that the lists break
abbrev pub lists_break : Table → Lists → Option Rule
lists_break t x =
    least ((rule.UnknownUser, unknown_user t x) ∷ (rule.Signature, signatures t x)
    ∷ (rule.Certificate, certificates t x) ∷ later_rules t x)

-- the lists of a reply as a view, by this table of principals
abbrev pub view_over : Key → Table → Lists → View
view_over key t x = record { key = key; table = t; structures = x.structures; others = x.others; own = x.own }

-- The table of principals of the lists, as it can be read from these blocks: the one that user 0's handle names, as the
-- pending operations leave it. The own changes of it with these numbers have no effect.
pub record IsRead (blocks : Blocks) (key : Key) (x : Lists) (t : Table) (void : List ℕ) : Type 0 where
  pub users : Table
  pub named : IsNamed blocks (handle_in key x.structures 0) users
  pub pending : IsPending users (view_over key t x) void

-- what the lists break, once the table can be read from these blocks
abbrev pub ByTable : Blocks → Key → Lists → Option Rule → Type 0
ByTable blocks key x None = (t : Table) (void : List ℕ) → IsRead blocks key x t void → lists_break t x ≡ None
ByTable blocks key x (Some rule) = (t : Table) × (void : List ℕ) × IsRead blocks key x t void
    × (lists_break t x ≡ Some rule)

-- the lists of the reply that the bytes spell, if they spell one
abbrev pub lists_in : Bytes → Option Lists
lists_in text = option_and_then lists_of (reply_in text)

-- The first broken rule of a reply and of the block that was handed in last is this one: of the bytes, which break this
-- rule or none of those on the reply itself; of the block, which breaks this one or none; and of the lists, if there
-- are any, by the blocks that are held then, once the table of principals can be read from them.
abbrev pub IsFirstBroken : Option Rule → Option Rule → Blocks → Key → Option Lists → Rule → Type 0
IsFirstBroken (Some first) block blocks key x rule = first ≡ rule
IsFirstBroken None (Some first) blocks key x rule = first ≡ rule
IsFirstBroken None None blocks key x rule = IsSomeAnd x (λ y. ByTable blocks key y (Some rule))
